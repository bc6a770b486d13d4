-- What is only added to still has all that is needed, where nothing needed was missing.
use Rattle.std.proofs.Common.{◌≡◌, ◌≢◌, ℕ, List, Contains, Option, Some, None, refl, sym, ◌∙◌}
use Rattle.gb_text.specs.declared.id.Id.{Id}
use Rattle.gb_text.specs.declared.id.Name.{Name}
use Rattle.object_store.specs.Growth.{OnlyGrew}
use Rattle.object_store.specs.Held.{Objects}
use Rattle.op_kind.specs.Meaning.{Meaning}
use Rattle.dag_entity.specs.Agreeing.{SameNeeded}
use Rattle.dag_entity.specs.Entities.{IsEntity}
use Rattle.dag_entity.specs.Faults.{EntityFaultHolds, HasUnknownAuthor, IsValid}
use Rattle.dag_entity.specs.Nodes.{IsNeeded}
use Rattle.dag_entity.specs.declared.entity.Entity.{Entity}
use Rattle.dag_entity.specs.declared.fault.EntityFault.{EntityFault}
use Rattle.dag_entity.specs.declared.fault.EntityFault.TheVariants as fault

pub needed_stays : (old new : Objects) (heads : List Name) → OnlyGrew old new → ((name : Name) → IsNeeded old heads name → old name ≢ None) → SameNeeded old new heads
needed_stays old new heads grew stands = record { same = λ name needed. by name (old name) refl (stands name needed) }
  where
    by : (name : Name) (file : Option (List ℕ)) → old name ≡ file → old name ≢ None → new name ≡ old name
    by name None e some = absurd (some e)
    by name (Some text) e some = grew.stays name text e ∙ sym e

module _ {Op State Row : Type 0} (k : Meaning Op State Row) (id : Id) (heads : List Name) where
  -- nothing that is needed by a valid entity is missing
  none_missing : (objects : Objects) (authors : List Id) → IsValid k objects id heads authors → (name : Name) → IsNeeded objects heads name → objects name ≢ None
  unfolding EntityFaultHolds
  none_missing objects authors valid name needed none = valid (fault.Missing name) (needed, none)

  pub valid_stays : (old new : Objects) (authors : List Id) → OnlyGrew old new → IsValid k old id heads authors → SameNeeded old new heads
  valid_stays old new authors grew valid = needed_stays old new heads grew (none_missing old authors valid)

  -- ---- authors

  pub other_fault : (objects : Objects) (authors others : List Id) (f : EntityFault) → ((author : Id) → f ≢ fault.AuthorUnknown author)
      → EntityFaultHolds k objects id heads authors f → EntityFaultHolds k objects id heads others f
  unfolding EntityFaultHolds
  other_fault objects authors others (fault.AuthorUnknown author) other h = absurd (other author refl)
  other_fault objects authors others _ other h = h

  module _ (objects : Objects) (authors others : List Id) (all : (author : Id) → Contains authors author → Contains others author) where
    pub fewer_authors : (f : EntityFault) → EntityFaultHolds k objects id heads others f → EntityFaultHolds k objects id heads authors f
    unfolding EntityFaultHolds
    fewer_authors (fault.AuthorUnknown author) h =
        let it : HasUnknownAuthor k objects heads authors author = record { node = h.node; is = h.is; wrote = h.wrote; unknown = λ c. h.unknown (all author c) } in it
    fewer_authors _ h = h

    pub more_authors : IsValid k objects id heads authors → IsValid k objects id heads others
    more_authors valid f h = valid f (fewer_authors f h)

    pub more_authors_entity : (entity : Entity Op) → IsEntity k objects id heads authors entity → IsEntity k objects id heads others entity
    more_authors_entity entity is = record {
      valid = more_authors is.valid;
      id_is = is.id_is;
      heads_are = is.heads_are;
      packs = is.packs;
      count = is.count;
      edit = is.edit;
      create = is.create;
    }
