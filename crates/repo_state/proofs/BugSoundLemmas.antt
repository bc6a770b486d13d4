-- A bug that was read is sound, and stays the same where its folder's objects and identities do.
use Rattle.std.proofs.Common.{◌≡◌, ℕ, Bool, true, false, List, [], ◌∷◌, Contains, inl, inr, refl, sym, ◌∙◌, ap, subst, arith}
use Rattle.std.specs.Str.{bytes_eq}
use Rattle.std.proofs.lemmas.Slice.Eq.{bytes_eq-Decides}
use Rattle.gb_text.specs.declared.id.Id.{Id}
use Rattle.gb_store.specs.Files.{Files}
use Rattle.object_store.specs.Held.{Objects, objects_in}
use Rattle.object_batch.proofs.ClashLemmas.{Contains-cons_cases, Contains-first, Contains-later}
use Rattle.bug_ops.specs.Kind.{bug_kind}
use Rattle.bug_ops.specs.declared.op.BugOp.{BugOp}
use Rattle.dag_entity.specs.Entities.{IsEntity}
use Rattle.dag_entity.specs.Faults.{EntityFaultHolds}
use Rattle.dag_entity.specs.declared.entity.Entity.{Entity}
use Rattle.dag_entity.specs.declared.fault.EntityFault.TheVariants.{AuthorUnknown}
use Rattle.dag_entity.proofs.AgreeGrowth.{other_fault}
use Rattle.repo_state.specs.Bugs.{AreLocal, EachIsLocal, IsBug}
use Rattle.repo_state.specs.Sides.{head_at, is_there}
use Rattle.repo_state.specs.Sound.{AreAuthorsLocal, HasNoFault}
use Rattle.repo_state.specs.declared.side.HeadEntry.{HeadEntry}
use Rattle.repo_state.specs.declared.side.Side.TheVariants as side

-- an id that cannot be missing from a list stands in it
known : (ids : List Id) (id : Id) → ((Contains ids id → ⊥) → ⊥) → Contains ids id
known [] id never = absurd (never (λ c. omega (arith, c.1)))
known (other ∷ ids) id never = decide (known ids id) (bytes_eq other.bytes id.bytes) refl
  where
    decide : (((Contains ids id → ⊥) → ⊥) → Contains ids id) → (b : Bool) → bytes_eq other.bytes id.bytes ≡ b → Contains (other ∷ ids) id
    decide rest true h =
        let same : other ≡ id = ap (λ (bytes : List ℕ). record { bytes = bytes }) ((bytes_eq-Decides other.bytes id.bytes).0 h) in
        subst (Contains (other ∷ ids)) same (Contains-first other ids)
    decide rest false h = Contains-later other ids id (rest (λ none. never (λ c. elim (Contains-cons_cases other ids id c) [
      | inl same ↦ let t = (bytes_eq-Decides other.bytes id.bytes).1 (ap (λ (i : Id). i.bytes) same) in cc (h, t)
      | inr later ↦ none later
    ])))

module _ (files : Files) (folder : List ℕ) (bug : HeadEntry) (entity : Entity BugOp) (is : IsBug files folder bug entity) where
  -- nothing is wrong with it
  pub bug_has_no_fault : HasNoFault (objects_in files folder) bug.id bug.name
  bug_has_no_fault = λ f other holds. is.is.valid f (other_fault bug_kind bug.id (bug.name ∷ []) (objects_in files folder) [] is.authors f other holds)

  -- and its authors are local identities
  pub bug_authors_local : AreAuthorsLocal folder files bug.name
  unfolding EntityFaultHolds
  bug_authors_local = λ node below.
      let author = node.placed.pack.author in
      let has : Contains is.authors author =
      known is.authors author (λ unknown. is.is.valid (AuthorUnknown author) (record { node = node; is = below; wrote = refl; unknown = unknown })) in
      is.locals author has

-- each of the ids of the local identities is that of one
pub AreLocal-each : (files : Files) (folder : List ℕ) (ids : List Id) → AreLocal files folder ids → EachIsLocal files folder ids
AreLocal-each files folder ids are = λ id has. let local = (are.members id).0 has in record { is_id = local.0; stands = local.1 }

-- ---- the same in other files

module _ (folder : List ℕ) (old new : Files) where
  -- local identities stay, where the refs of identities read the same
  pub EachIsLocal-over : ((id : Id) → head_at new folder side.Identities id ≡ head_at old folder side.Identities id) → (ids : List Id) → EachIsLocal old folder ids → EachIsLocal new folder ids
  EachIsLocal-over heads ids are = λ id has. let was = are id has in record { is_id = was.is_id; stands = ap is_there (heads id) ∙ was.stands }

  -- and a bug stays, where the objects are the same too
  pub IsBug-over : ((id : Id) → head_at new folder side.Identities id ≡ head_at old folder side.Identities id) → objects_in new folder ≡ objects_in old folder
      → (bug : HeadEntry) (entity : Entity BugOp) → IsBug old folder bug entity → IsBug new folder bug entity
  IsBug-over heads objects bug entity is = record {
    authors = is.authors;
    locals = EachIsLocal-over heads is.authors is.locals;
    is = subst (λ (o : Objects). IsEntity bug_kind o bug.id (bug.name ∷ []) is.authors entity) (sym objects) is.is;
  }
