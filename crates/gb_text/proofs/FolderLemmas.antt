-- Parts joined by slashes, one part more.
use Rattle.std.proofs.Common.{◌≡◌, ℕ, ◌+◌, ◌<◌, ◌≤◌, ◌==◌, Bool, true, false, cond, List, [], ◌∷◌, ◌++◌, length, map, take, filter, get_or, Bor, Result, Ok, Err, None, refl, sym, ◌∙◌, ap, append-nil, append_assoc, arith}
use Rattle.std.proofs.lemmas.Grind.{common_steps}
use Rattle.std.proofs.lemmas.List.{take_more, take_all}
use Rattle.std.proofs.lemmas.List.Elements.{filter-append}
use Rattle.std.proofs.lemmas.List.{map-append}
use Rattle.std.specs.List.{join_with_byte}
use Rattle.gb_text.specs.Folder.{counts, folder_of, FolderAnswers}
use Rattle.gb_text.specs.declared.folder.FolderFault.{FolderFault}
use Rattle.gb_text.specs.declared.folder.FolderFault.TheVariants.{Memory, BadFolder}

join_with_byte-more : (c : ℕ) (xs : List (List ℕ)) (x : List ℕ) → 0 < length xs → join_with_byte c (xs ++ x ∷ []) ≡ join_with_byte c xs ++ c ∷ x
join_with_byte-more c [] x lt = absurd (omega (arith, lt))
join_with_byte-more c (y ∷ []) x lt = refl
join_with_byte-more c (y ∷ z ∷ zs) x lt =
    ap (λ (t : List ℕ). y ++ (c ∷ t)) (join_with_byte-more c (z ∷ zs) x (omega arith)) ∙ sym (append_assoc y (c ∷ join_with_byte c (z ∷ zs)) (c ∷ x))

-- the parts that count among the first ones
abbrev pub counted : List (Bor (List ℕ)) → ℕ → List (List ℕ)
counted parts i = filter counts (map (λ (part : Bor (List ℕ)). part.now) (take i parts))

counted-more : (parts : List (Bor (List ℕ))) (i : ℕ) (d : Bor (List ℕ)) → i < length parts
    → counted parts (i + 1) ≡ counted parts i ++ filter counts ((get_or parts i d).now ∷ [])
counted-more parts i d lt =
    ap (λ (xs : List (Bor (List ℕ))). filter counts (map (λ (part : Bor (List ℕ)). part.now) xs)) (take_more parts i d lt)
    ∙ ap (filter counts) (map-append (λ (part : Bor (List ℕ)). part.now) (take i parts) (get_or parts i d ∷ []))
    ∙ filter-append counts (map (λ (part : Bor (List ℕ)). part.now) (take i parts)) ((get_or parts i d).now ∷ [])

-- a part that doesn't count changes nothing
pub counted-skip : (parts : List (Bor (List ℕ))) (i : ℕ) (d : Bor (List ℕ)) → i < length parts → counts (get_or parts i d).now ≡ false
    → counted parts (i + 1) ≡ counted parts i
counted-skip parts i d lt e =
    counted-more parts i d lt ∙ ap (λ (b : Bool). counted parts i ++ cond b ((get_or parts i d).now ∷ []) []) e ∙ append-nil (counted parts i)

-- a part that counts stands behind the others
pub counted-push : (parts : List (Bor (List ℕ))) (i : ℕ) (d : Bor (List ℕ)) → i < length parts → counts (get_or parts i d).now ≡ true
    → counted parts (i + 1) ≡ counted parts i ++ (get_or parts i d).now ∷ []
counted-push parts i d lt e =
    counted-more parts i d lt ∙ ap (λ (b : Bool). counted parts i ++ cond b ((get_or parts i d).now ∷ []) []) e

-- one part more behind a root
pub joined-more : (root : List ℕ) (xs : List (List ℕ)) (x : List ℕ) (first : Bool) → first ≡ (length xs == 0)
    → (root ++ join_with_byte 47 xs) ++ cond first x (47 ∷ x) ≡ root ++ join_with_byte 47 (xs ++ x ∷ [])
joined-more root [] x first e =
    ap (λ (b : Bool). (root ++ []) ++ cond b x (47 ∷ x)) e ∙ ap (λ (t : List ℕ). t ++ x) (append-nil root)
joined-more root (y ∷ ys) x first e =
    let some : first ≡ false = grind (arith, common_steps, e) in
    ap (λ (b : Bool). (root ++ join_with_byte 47 (y ∷ ys)) ++ cond b x (47 ∷ x)) some
    ∙ append_assoc root (join_with_byte 47 (y ∷ ys)) (47 ∷ x)
    ∙ ap (λ (t : List ℕ). root ++ t) (sym (join_with_byte-more 47 (y ∷ ys) x (omega arith)))

-- a list with one part more has some
pub length-push : (xs : List (List ℕ)) (x : List ℕ) → (length (xs ++ x ∷ []) == 0) ≡ false
length-push [] x = refl
length-push (y ∷ ys) x = grind (arith, common_steps)

-- all parts
pub counted-all : (parts : List (Bor (List ℕ))) (i : ℕ) → length parts ≤ i → counted parts i ≡ filter counts (map (λ (part : Bor (List ℕ)). part.now) parts)
counted-all parts i le = ap (λ (xs : List (Bor (List ℕ))). filter counts (map (λ (part : Bor (List ℕ)). part.now) xs)) (take_all i parts le)

-- a word that names no folder has one answer
pub FolderAnswers-none : (word : List ℕ) (answer : Result (List ℕ) FolderFault) → folder_of word ≡ None → FolderAnswers (folder_of word) answer → answer ≡ Err BadFolder
FolderAnswers-none word (Ok text) none answers = absurd cc
FolderAnswers-none word (Err BadFolder) none answers = refl
FolderAnswers-none word (Err Memory) none answers = absurd (answers none)
