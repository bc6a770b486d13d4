-- In a sound folder no bug is damaged.
use Rattle.std.proofs.Common.{ℕ, inl, inr, List, [], ◌∷◌, subst}
use Rattle.gb_text.specs.Digits.{IsId}
use Rattle.gb_text.specs.declared.id.Id.{Id}
use Rattle.gb_text.specs.declared.id.Name.{Name}
use Rattle.gb_store.specs.Files.{Files}
use Rattle.object_store.specs.Held.{objects_in}
use Rattle.ref_store.specs.Refs.{Head}
use Rattle.bug_ops.specs.Kind.{bug_kind}
use Rattle.dag_entity.specs.Faults.{EntityFaultHolds}
use Rattle.dag_entity.specs.declared.fault.EntityFault.{EntityFault}
use Rattle.dag_entity.specs.declared.fault.EntityFault.TheVariants as entity
use Rattle.dag_entity.proofs.AgreeGrowth.{other_fault}
use Rattle.repo_state.specs.Bugs.{AreLocal, IsDamagedBug, IsLocal}
use Rattle.repo_state.specs.Finds.{Finds, One}
use Rattle.repo_state.specs.Sound.{AreAuthorsLocal, HasNoFault, IsAuthoredBug, IsSound}
use Rattle.repo_state.specs.Sound as parts
use Rattle.repo_state.specs.declared.side.Side.TheVariants as side
use Rattle.repo_state.proofs.FoundLemmas.{finds_an_id}

module _ (folder : List ℕ) (files : Files) (sound : IsSound folder files) where
  -- nothing is wrong with the entity at a bug's head, whose authors are local identities
  sound_entity : (id : Id) (head : Name) → HasNoFault (objects_in files folder) id head → AreAuthorsLocal folder files head
      → (authors : List Id) → AreLocal files folder authors → (fault : EntityFault) → EntityFaultHolds bug_kind (objects_in files folder) id (head ∷ []) authors fault → ⊥
  unfolding EntityFaultHolds
  sound_entity id head none are authors locals (entity.AuthorUnknown author) holds =
      let local : IsLocal files folder author = subst (IsLocal files folder) holds.wrote (are holds.node holds.is) in
      holds.unknown ((locals.members author).1 (local.is_id, local.stands))
  sound_entity id head none are authors locals fault holds =
      none fault (λ author e. cc) (other_fault bug_kind id (head ∷ []) (objects_in files folder) authors [] fault (λ author e. cc) holds)

  pub no_bad_bug : (id : Id) → IsId id → IsDamagedBug files folder id → ⊥
  no_bad_bug id is (inl bad) = subst (IsAuthoredBug folder files id) bad (sound parts.Authors id is)
  no_bad_bug id is (inr (head, has, wrong)) =
      let good : IsAuthoredBug folder files id (Head head) = subst (IsAuthoredBug folder files id) has (sound parts.Authors id is) in
      sound_entity id head good.0 good.1 wrong.authors wrong.locals wrong.fault wrong.holds

  -- nor the check of the bug that a word finds
  pub no_bad_found : (word : List ℕ) (id : Id) → Finds files folder side.Bugs word (One id) → IsDamagedBug files folder id → ⊥
  no_bad_found word id found = no_bad_bug id (finds_an_id id found)
