-- A name that a walk reaches and that holds no commit is a fault of the walk, and where each holds one there is none.
use Rattle.std.proofs.Common.{◌≡◌, None, refl}
use Rattle.gb_text.specs.declared.id.Name.{Name}
use Rattle.object_store.specs.Held.{Objects}
use Rattle.object_store.specs.Typed.{as_commit, commit_at}
use Rattle.object_store.specs.declared.fault.KindFault.TheVariants as kind
use Rattle.object_store.proofs.FaultLemmas.{kind_fault-none}
use Rattle.commit_walk.specs.Answers.{IsNoCommit}
use Rattle.commit_walk.specs.Faults.{WalkFaultHolds}
use Rattle.commit_walk.specs.declared.fault.WalkFault.{WalkFault}
use Rattle.commit_walk.specs.declared.fault.WalkFault.TheVariants as fault

module _ (objects : Objects) where
  -- a name with such a fault holds no commit
  pub holds_none : (name : Name) (f : WalkFault) → IsNoCommit objects name f → commit_at objects name ≡ None
  holds_none name (fault.Missing n) h = kind_fault-none as_commit objects name (kind.Missing n) h
  holds_none name (fault.Damaged n) h = kind_fault-none as_commit objects name (kind.Damaged n) h
  holds_none name (fault.Large n) h = kind_fault-none as_commit objects name (kind.Large n) h
  holds_none name (fault.NotCommit n) h = kind_fault-none as_commit objects name (kind.OtherKind n) h
  holds_none name fault.TooMany h = absurd h

  module _ (Reaches : Name → Type 0) (IsLong : Type 0) where
    -- what keeps a name from being a commit is a fault
    pub fault_at : (name : Name) (f : WalkFault) → Reaches name → IsNoCommit objects name f → WalkFaultHolds objects Reaches IsLong f
    fault_at name (fault.Missing n) reached h = rw h.0 (reached, h.1)
    fault_at name (fault.Damaged n) reached h = rw h.0 (reached, h.1)
    fault_at name (fault.Large n) reached h = rw h.0 (reached, h.1)
    fault_at name (fault.NotCommit n) reached h = rw h.0 (reached, h.1)
    fault_at name fault.TooMany reached h = absurd h

    -- where all are commits, and not too many, there is none
    pub no_fault_where : ((name : Name) → Reaches name → commit_at objects name ≡ None → ⊥) → (IsLong → ⊥) → (f : WalkFault) → WalkFaultHolds objects Reaches IsLong f → ⊥
    no_fault_where held short (fault.Missing n) h = held n h.0 (holds_none n (fault.Missing n) (refl, h.1))
    no_fault_where held short (fault.Damaged n) h = held n h.0 (holds_none n (fault.Damaged n) (refl, h.1))
    no_fault_where held short (fault.Large n) h = held n h.0 (holds_none n (fault.Large n) (refl, h.1))
    no_fault_where held short (fault.NotCommit n) h = held n h.0 (holds_none n (fault.NotCommit n) (refl, h.1))
    no_fault_where held short fault.TooMany h = short h

    -- a walk that reaches more has the faults of one that reaches less
    pub fault_over : (More : Name → Type 0) (IsLonger : Type 0) → ((name : Name) → Reaches name → More name) → (IsLong → IsLonger) → (f : WalkFault)
        → WalkFaultHolds objects Reaches IsLong f → WalkFaultHolds objects More IsLonger f
    fault_over More IsLonger up longer (fault.Missing n) h = (up n h.0, h.1)
    fault_over More IsLonger up longer (fault.Damaged n) h = (up n h.0, h.1)
    fault_over More IsLonger up longer (fault.Large n) h = (up n h.0, h.1)
    fault_over More IsLonger up longer (fault.NotCommit n) h = (up n h.0, h.1)
    fault_over More IsLonger up longer fault.TooMany h = longer h
