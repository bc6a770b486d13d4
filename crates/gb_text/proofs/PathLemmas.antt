-- Paths below folders.
use Rattle.std.proofs.Common.{◌≡◌, ◌⊎◌, ℕ, Bool, true, false, List, [], ◌∷◌, ◌++◌, refl, sym, ◌∙◌, ap, inl, inr, arith, take, append_assoc, append-nil, filter}
use Rattle.std.specs.Prelude.{codes}
use Rattle.std.specs.Str.{bytes_eq}
use Rattle.std.proofs.lemmas.Bool.Decides.{nat_tests}
use Rattle.std.proofs.lemmas.List.{append_cancel_left}
use Rattle.std.proofs.lemmas.List.Elements.{filter-append}
use Rattle.std.proofs.lemmas.Slice.Eq.{bytes_eq-Decides}
use Rattle.gb_text.specs.Folder.{is_rooted, parts_of, counts, joint, joined}
use Rattle.gb_text.specs.Overlap.{Overlap, IsFront, steps_of}
use Rattle.gb_text.proofs.PartLemmas.{parts_of-at_slash}

-- the empty folder, the root and any other one
by_folder : (P : List ℕ → List ℕ → Type 0) (folder : List ℕ) → P [] [] → P (codes "/") [] → P folder (codes "/") → P folder (joint folder)
by_folder P folder here root other = each (bytes_eq folder (codes "")) refl (bytes_eq folder (codes "/")) refl
  where
    each : (a : Bool) → bytes_eq folder (codes "") ≡ a → (b : Bool) → bytes_eq folder (codes "/") ≡ b → P folder (joint folder)
    each true e b f = let is : folder ≡ [] = (bytes_eq-Decides folder (codes "")).0 e in rw is here
    each false e true f = let is : folder ≡ codes "/" = (bytes_eq-Decides folder (codes "/")).0 f in rw is root
    each false e false f = rw (e, f) other

-- the steps of a path below a folder: those of the folder, then those of the rest
steps_of-joined : (folder rest : List ℕ) → steps_of (joined folder rest) ≡ steps_of folder ++ steps_of rest
steps_of-joined folder rest =
    by_folder (λ (f j : List ℕ). steps_of (f ++ j ++ rest) ≡ steps_of f ++ steps_of rest) folder refl refl
    (ap steps_of (append_assoc folder (codes "/") rest) ∙ ap (filter counts) (parts_of-at_slash folder rest) ∙ filter-append counts (parts_of folder) (parts_of rest))

-- a path below a folder is rooted where the folder is
is_rooted-joined : (folder rest : List ℕ) → is_rooted rest ≡ false → is_rooted (joined folder rest) ≡ is_rooted folder
is_rooted-joined [] rest plain = plain
is_rooted-joined (c ∷ cs) rest plain = refl

-- two lists that go on to the same: one of them is a front of the other
pub append_cases : {X : Type 0} (xs ys more other : List X) → xs ++ more ≡ ys ++ other
    → ((rest : List X) × (ys ≡ xs ++ rest) × (more ≡ rest ++ other)) ⊎ ((rest : List X) × (xs ≡ ys ++ rest) × (other ≡ rest ++ more))
append_cases [] ys more other e = inl (ys, refl, e)
append_cases (x ∷ xs) [] more other e = inr (x ∷ xs, refl, sym e)
append_cases {X} (x ∷ xs) (y ∷ ys) more other e = longer (append_cases xs ys more other (cc e))
  where
    same : x ≡ y
    same = cc e

    longer : ((rest : List X) × (ys ≡ xs ++ rest) × (more ≡ rest ++ other)) ⊎ ((rest : List X) × (xs ≡ ys ++ rest) × (other ≡ rest ++ more))
        → ((rest : List X) × (y ∷ ys ≡ (x ∷ xs) ++ rest) × (more ≡ rest ++ other)) ⊎ ((rest : List X) × (x ∷ xs ≡ (y ∷ ys) ++ rest) × (other ≡ rest ++ more))
    longer (inl front) = inl (front.0, (let e = front.1 in cc (same)), front.2)
    longer (inr front) = inr (front.0, (let e = front.1 in cc (same)), front.2)

fronts_of_same : (xs ys more other : List (List ℕ)) → xs ++ more ≡ ys ++ other → IsFront xs ys ⊎ IsFront ys xs
fronts_of_same xs ys more other e = elim (append_cases xs ys more other e) [ inl front ↦ inl (front.0, front.1) | inr front ↦ inr (front.0, front.1) ]

-- folders with a path in common overlap
pub Overlap-joined : (one two rest other : List ℕ) → is_rooted rest ≡ false → is_rooted other ≡ false → joined one rest ≡ joined two other → Overlap one two
Overlap-joined one two rest other plain also e = record {
  same_root = sym (is_rooted-joined one rest plain) ∙ ap is_rooted e ∙ is_rooted-joined two other also;
  front = fronts_of_same (steps_of one) (steps_of two) (steps_of rest) (steps_of other)
      (sym (steps_of-joined one rest) ∙ ap steps_of e ∙ steps_of-joined two other);
}

-- a folder overlaps itself
pub Overlap-itself : (one : List ℕ) → Overlap one one
Overlap-itself one = record { same_root = refl; front = inl ([], sym (append-nil (steps_of one))) }

-- folders overlap one another
pub Overlap-mutual : (one two : List ℕ) → Overlap one two → Overlap two one
Overlap-mutual one two over = record { same_root = sym over.same_root; front = swapped over.front }
  where
    swapped : IsFront (steps_of one) (steps_of two) ⊎ IsFront (steps_of two) (steps_of one) → IsFront (steps_of two) (steps_of one) ⊎ IsFront (steps_of one) (steps_of two)
    swapped (inl front) = inr front
    swapped (inr front) = inl front

-- paths below one folder differ in their rests
pub joined-rest : (folder one two : List ℕ) → joined folder one ≡ joined folder two → one ≡ two
joined-rest folder one two e = append_cancel_left (folder ++ joint folder) one two e

rooted_first : (word : List ℕ) → is_rooted word ≡ true → take 1 word ≡ codes "/"
rooted_first [] e = absurd cc
rooted_first (c ∷ cs) e = let slash : c ≡ 47 = grind (arith, nat_tests, e) in ap (λ (d : ℕ). d ∷ []) slash

first_rooted : (word : List ℕ) → take 1 word ≡ codes "/" → is_rooted word ≡ true
first_rooted [] e = absurd cc
first_rooted (c ∷ cs) e = let slash : c ≡ 47 = cc e in rw slash refl

-- a folder that overlaps a rooted one is rooted
pub Overlap-rooted : (one two : List ℕ) → Overlap one two → take 1 one ≡ codes "/" → take 1 two ≡ codes "/"
Overlap-rooted one two over e = rooted_first two (sym over.same_root ∙ first_rooted one e)
