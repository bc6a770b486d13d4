-- At each moment of a command a ref has the head that it had at entry, or the one that the command sets.
use Rattle.std.proofs.Common.{◌≡◌, ◌⊎◌, inl, inr, List, ◌∷◌, ◌++◌, Contains, reverse, Result, refl, sym, ◌∙◌, ap, subst}
use Rattle.std.proofs.lemmas.List.Elements.{Contains-append_right}
use Rattle.repo_steps.proofs.Names.{IsId, Id, Name, Files, History, files_of, written, Change, Contains-first, Head, ref_write, head_at, ref_place, Env, Stop, Side, IsWrite, EditAnswers, IsWriteOf, Edit}
use Rattle.gb_store.specs.Moments.{AllMoments}
use Rattle.gb_store.proofs.MomentLemmas.{AllMoments-from_WroteBy}
use Rattle.repo_state.specs.declared.side.Side.TheVariants as side
use Rattle.repo_writes.proofs.SoundLemmas.{bug-after, identity-after}
use Rattle.repo_steps.specs.Writes.{IsNext, IsOldOrSet, SetsHead}
use Rattle.repo_steps.proofs.WriteOfLemmas.{answers_wrote_of}

-- the next of some writes is one of them
pub next_in : (writes earlier : List Change) (change : Change) → IsNext writes earlier change → Contains writes change
next_in writes earlier change next =
    subst (λ (ws : List Change). Contains ws change) (sym next.are) (Contains-append_right (reverse earlier) (change ∷ next.later) change (Contains-first change next.later))

module _ (env : Env) (command : Edit) (entry : History) (of : Side) (id : Id) where
  -- a write of the command that sets a ref sets it to a head of its own
  sets : (earlier : List Change) (change : Change) (head : Name) → IsWriteOf env command entry earlier change → change ≡ ref_write env.folder (ref_place of id) head
      → SetsHead env command entry of id head
  sets earlier change head write is = record {
    picked = write.picked;
    may = write.may;
    sets = subst (Contains _) is (next_in _ earlier change write.next);
  }

  -- a head that stays is old or set as before
  stays : (files : Files) (change : Change) → IsOldOrSet env command entry of id files
      → head_at (written files change) env.folder of id ≡ head_at files env.folder of id → IsOldOrSet env command entry of id (written files change)
  stays files change (inl old) same = inl (same ∙ old)
  stays files change (inr (head, is, now)) same = inr (head, is, same ∙ now)

-- a write of a kind keeps a ref, or sets it to a head
abbrev Moves : Env → Side → Id → Type 0
Moves env of id = (files : Files) (change : Change) → IsWrite env.folder files change
    → (head_at (written files change) env.folder of id ≡ head_at files env.folder of id)
    ⊎ ((head : Name) × (change ≡ ref_write env.folder (ref_place of id) head) × (head_at (written files change) env.folder of id ≡ Head head))

module _ (env : Env) (command : Edit) (old new : History) (result : Result Id Stop) (answers : EditAnswers env command old new result) where
  old_or_set : (of : Side) (id : Id) → Moves env of id → AllMoments (IsOldOrSet env command old of id) old new
  old_or_set of id moves = AllMoments-from_WroteBy (IsWriteOf env command) (IsOldOrSet env command old of id) old new keeps (inl refl) (answers_wrote_of env command old new result answers)
    where
      keeps : (earlier : List Change) (change : Change) → IsOldOrSet env command old of id (files_of (earlier ++ old)) → IsWriteOf env command old earlier change
          → IsOldOrSet env command old of id (written (files_of (earlier ++ old)) change)
      keeps earlier change good write = elim (moves (files_of (earlier ++ old)) change write.kind) [
        | inl same ↦ stays env command old of id (files_of (earlier ++ old)) change good same
        | inr set ↦ inr (set.0, sets env command old of id earlier change set.0 write set.1, set.2)
      ]

  pub identity_old_or_set : (id : Id) → IsId id → AllMoments (IsOldOrSet env command old side.Identities id) old new
  identity_old_or_set id is = old_or_set side.Identities id (λ files change write. elim (identity-after env.folder files change id is write) [
    | inl same ↦ inl same
    | inr set ↦ inr (set.0.head, set.0.write ∙ ap (λ (i : Id). ref_write env.folder (ref_place side.Identities i) set.0.head) set.1, set.2)
  ])

  pub bug_old_or_set : (id : Id) → IsId id → AllMoments (IsOldOrSet env command old side.Bugs id) old new
  bug_old_or_set id is = old_or_set side.Bugs id (λ files change write. elim (bug-after env.folder files change id is write) [
    | inl same ↦ inl same
    | inr set ↦ inr (set.0.head, set.0.write ∙ ap (λ (i : Id). ref_write env.folder (ref_place side.Bugs i) set.0.head) set.1, set.2)
  ])
