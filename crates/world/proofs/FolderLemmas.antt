-- The folders of a world: each word is the path of its folder, and no two folders overlap.
use Rattle.std.proofs.Common.{◌≡◌, ◌≤◌, ◌<◌, ◌∙◌, ◌⊎◌, inl, inr, refl, sym, ap, subst, ℕ, zero, suc, List, [], ◌∷◌, Contains, get_or, arith, Some}
use Rattle.std.proofs.lemmas.Bool.{cases_lt}
use Rattle.std.specs.Fmt.{digits}
use Rattle.std.specs.Str.{chars}
use Rattle.gb_text.specs.Folder.{folder_of}
use Rattle.gb_text.specs.Overlap.{IsFront, Overlap, steps_of}
use Rattle.bug_run.specs.Runs.{AreApart}
use Rattle.world_events.specs.Words.{folder_word}
use Rattle.world.specs.Folders.{world_folders}

-- the path of a folder is its word, which is one step
abbrev IsOneStep : ℕ → Type 0
IsOneStep folder = (folder_of (folder_word folder) ≡ Some (folder_word folder)) × (steps_of (folder_word folder) ≡ folder_word folder ∷ [])

one_step : (folder : ℕ) → folder < 16 → IsOneStep folder
unfolding digits chars
one_step zero below = (refl, refl)
one_step (suc zero) below = (refl, refl)
one_step (suc (suc zero)) below = (refl, refl)
one_step (suc (suc (suc zero))) below = (refl, refl)
one_step (suc (suc (suc (suc zero)))) below = (refl, refl)
one_step (suc (suc (suc (suc (suc zero))))) below = (refl, refl)
one_step (suc (suc (suc (suc (suc (suc zero)))))) below = (refl, refl)
one_step (suc (suc (suc (suc (suc (suc (suc zero))))))) below = (refl, refl)
one_step (suc (suc (suc (suc (suc (suc (suc (suc zero)))))))) below = (refl, refl)
one_step (suc (suc (suc (suc (suc (suc (suc (suc (suc zero))))))))) below = (refl, refl)
one_step (suc (suc (suc (suc (suc (suc (suc (suc (suc (suc zero)))))))))) below = (refl, refl)
one_step (suc (suc (suc (suc (suc (suc (suc (suc (suc (suc (suc zero))))))))))) below = (refl, refl)
one_step (suc (suc (suc (suc (suc (suc (suc (suc (suc (suc (suc (suc zero)))))))))))) below = (refl, refl)
one_step (suc (suc (suc (suc (suc (suc (suc (suc (suc (suc (suc (suc (suc zero))))))))))))) below = (refl, refl)
one_step (suc (suc (suc (suc (suc (suc (suc (suc (suc (suc (suc (suc (suc (suc zero)))))))))))))) below = (refl, refl)
one_step (suc (suc (suc (suc (suc (suc (suc (suc (suc (suc (suc (suc (suc (suc (suc zero))))))))))))))) below = (refl, refl)
one_step (suc (suc (suc (suc (suc (suc (suc (suc (suc (suc (suc (suc (suc (suc (suc (suc k)))))))))))))))) below = absurd (omega arith)

pub path_of_word : (folder : ℕ) → folder < 16 → folder_of (folder_word folder) ≡ Some (folder_word folder)
path_of_word folder below = (one_step folder below).0

-- a list of one step begins with another such list
same_front : (one two : List ℕ) → IsFront (one ∷ []) (two ∷ []) → one ≡ two
same_front one two (rest, are) = sym (ap (λ (steps : List (List ℕ)). get_or steps 0 []) are)

-- folders with one step each that overlap are one
same_step : (one two : List ℕ) → steps_of one ≡ one ∷ [] → steps_of two ≡ two ∷ [] → Overlap one two → one ≡ two
same_step one two first second overlap = by overlap.front
  where
    by : IsFront (steps_of one) (steps_of two) ⊎ IsFront (steps_of two) (steps_of one) → one ≡ two
    by (inl front) =
        same_front one two (subst (λ (s : List (List ℕ)). IsFront s (two ∷ [])) first (subst (IsFront (steps_of one)) second front))
    by (inr front) =
        sym (same_front two one (subst (λ (s : List (List ℕ)). IsFront s (one ∷ [])) second (subst (IsFront (steps_of two)) first front)))

-- ---- the folders of a world

pub among : (folders folder : ℕ) → folder < folders → Contains (world_folders folders) (folder_word folder)
among zero folder below = absurd (omega arith)
among (suc n) folder below = elim (last_or_below n folder below) [
  | inl same ↦ rw same (zero, omega arith, refl)
  | inr less ↦ let rest = among n folder less in (suc rest.0, omega (arith, rest.1), rest.2)
]
  where
    last_or_below : (n folder : ℕ) → folder < suc n → (folder ≡ n) ⊎ (folder < n)
    last_or_below n folder below = elim (cases_lt folder n) [
      | inl less ↦ inr less
      | inr top ↦ inl (omega arith)
    ]

-- each of them is the folder of a number
pub numbered : (folders : ℕ) (path : List ℕ) → Contains (world_folders folders) path → (folder : ℕ) × (folder < folders) × (path ≡ folder_word folder)
numbered zero path (k, below, is) = absurd (omega arith)
numbered (suc n) path (zero, below, is) = (n, omega arith, sym is)
numbered (suc n) path (suc k, below, is) =
    let rest = numbered n path (k, omega arith, is) in
    (rest.0, omega (arith, rest.1), rest.2)

pub are_apart : (folders : ℕ) → folders ≤ 16 → AreApart (world_folders folders)
are_apart folders most one two first second overlap =
    let a = numbered folders one first in
    let b = numbered folders two second in
    a.2 ∙ same_step (folder_word a.0) (folder_word b.0) (one_step a.0 (omega (arith, a.1))).1 (one_step b.0 (omega (arith, b.1))).1 (subst (λ (path : List ℕ). Overlap path (folder_word b.0)) a.2 (subst (Overlap one) b.2 overlap)) ∙ sym b.2
