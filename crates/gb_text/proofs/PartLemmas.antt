-- The parts of a word between its slashes.
use Rattle.std.proofs.lemmas.Bool.{or_parts}
use Rattle.std.proofs.Common.{◌≡◌, ℕ, ◌<◌, ◌==◌, Bool, true, false, ◌||◌, cond, List, [], ◌∷◌, ◌++◌, length, refl, ◌∙◌, ap, arith}
use Rattle.std.specs.List.{list_any, slice_split, onto_first, join_with_byte, AllByRecursion}
use Rattle.gb_text.specs.Folder.{parts_of}

onto_first-append : (x : ℕ) (l m : List (List ℕ)) → 0 < length l → onto_first x (l ++ m) ≡ onto_first x l ++ m
onto_first-append x [] m some = absurd (omega arith)
onto_first-append x (part ∷ parts) m some = refl

slice_split-some : (p : ℕ → Bool) (xs : List ℕ) → 0 < length (slice_split p xs)
slice_split-some p [] = omega arith
slice_split-some p (x ∷ xs) = each (p x) (slice_split p xs)
  where
    each : (b : Bool) (l : List (List ℕ)) → 0 < length (cond b ([] ∷ l) (onto_first x l))
    each true l = omega arith
    each false [] = omega arith
    each false (y ∷ ys) = omega arith

-- a cut at a slash
pub parts_of-at_slash : (xs ys : List ℕ) → parts_of (xs ++ 47 ∷ ys) ≡ parts_of xs ++ parts_of ys
parts_of-at_slash [] ys = refl
parts_of-at_slash (x ∷ xs) ys = each (x == 47) (parts_of-at_slash xs ys)
  where
    each : (b : Bool) → parts_of (xs ++ 47 ∷ ys) ≡ parts_of xs ++ parts_of ys
        → cond b ([] ∷ parts_of (xs ++ 47 ∷ ys)) (onto_first x (parts_of (xs ++ 47 ∷ ys))) ≡ cond b ([] ∷ parts_of xs) (onto_first x (parts_of xs)) ++ parts_of ys
    each true later = ap (λ (l : List (List ℕ)). [] ∷ l) later
    each false later = ap (onto_first x) later ∙ onto_first-append x (parts_of xs) (parts_of ys) (slice_split-some (λ c. c == 47) xs)

-- no byte is a slash
abbrev pub NoSlash : List ℕ → Type 0
NoSlash text = list_any (λ c. c == 47) text ≡ false

-- a text without a slash is one part
parts_of-no_slash : (text : List ℕ) → NoSlash text → parts_of text ≡ text ∷ []
parts_of-no_slash [] none = refl
parts_of-no_slash (c ∷ cs) none =
    let here = or_parts (c == 47) (list_any (λ d. d == 47) cs) none in
    ap (λ (b : Bool). cond b ([] ∷ parts_of cs) (onto_first c (parts_of cs))) here.0 ∙ ap (onto_first c) (parts_of-no_slash cs here.1)

-- no part has a slash
pub NoSlash-parts_of : (text : List ℕ) → AllByRecursion NoSlash (parts_of text)
NoSlash-parts_of [] = (refl, tt)
NoSlash-parts_of (c ∷ cs) = each (c == 47) refl (parts_of cs) (NoSlash-parts_of cs)
  where
    each : (b : Bool) → (c == 47) ≡ b → (l : List (List ℕ)) → AllByRecursion NoSlash l → AllByRecursion NoSlash (cond b ([] ∷ l) (onto_first c l))
    each true e l all = (refl, all)
    each false e [] all = (ap (λ (b : Bool). b || false) e, tt)
    each false e (y ∷ ys) all = (ap (λ (b : Bool). b || list_any (λ d. d == 47) y) e ∙ all.0, all.1)

-- parts without slashes, joined by slashes, are the parts of the whole
pub parts_of-join_with_byte : (part : List ℕ) (parts : List (List ℕ)) → AllByRecursion NoSlash (part ∷ parts) → parts_of (join_with_byte 47 (part ∷ parts)) ≡ part ∷ parts
parts_of-join_with_byte part [] all = parts_of-no_slash part all.0
parts_of-join_with_byte part (next ∷ more) all =
    parts_of-at_slash part (join_with_byte 47 (next ∷ more))
    ∙ ap (λ (l : List (List ℕ)). l ++ parts_of (join_with_byte 47 (next ∷ more))) (parts_of-no_slash part all.0)
    ∙ ap (λ (l : List (List ℕ)). part ∷ l) (parts_of-join_with_byte next more all.1)
