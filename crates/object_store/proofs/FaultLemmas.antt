-- A name holds an object, or has a fault.
use Rattle.std.proofs.Common.{◌≡◌, ◌⊎◌, ◌↔◌, inl, inr, ℕ, List, length, Option, Some, None, option_and_then, refl, sym, ◌∙◌, ap, arith}
use Rattle.std.proofs.lemmas.Bool.{cases_lt}
use Rattle.gb_text.specs.declared.id.Name.{Name}
use Rattle.git_object.specs.declared.object.Object.{Object}
use Rattle.git_object.specs.Reading.{object_of}
use Rattle.object_store.specs.Faults.{kind_fault}
use Rattle.object_store.specs.Held.{HasObjectFault, IsHeld, IsLarge, ObjectFaultHolds, Objects, named, object_at}
use Rattle.object_store.specs.Typed.{CannotReadAs, HasKindFault, HoldsAs}
use Rattle.object_store.specs.declared.read.TheConstants.{MOST_BYTES}
use Rattle.object_store.specs.declared.fault.KindFault.{KindFault}
use Rattle.object_store.specs.declared.fault.KindFault.TheVariants as kind
use Rattle.object_store.specs.declared.fault.ObjFault.{ObjFault}
use Rattle.object_store.specs.declared.fault.ObjFault.TheVariants as fault
use Rattle.object_store.proofs.HeldLemmas.{named-is, object_at-held, object_at-is}

module _ (objects : Objects) (name : Name) where
  -- a name that holds nothing has a fault
  none-fails : object_at objects name ≡ None → HasObjectFault objects name
  none-fails none = each (objects name) refl
    where
      each : (file : Option (List ℕ)) → objects name ≡ file → HasObjectFault objects name
      each None e = (fault.Missing name, (refl, e))
      each (Some text) e = elim (cases_lt MOST_BYTES (length text)) [
        | inl long ↦ (fault.Large name, (refl, record { text = text; stands = e; long = long }))
        | inr short ↦ (fault.Damaged name, (refl, record { text = text; stands = e; within = short; is_none = none }))
      ]

  -- a name holds an object or has a fault
  pub holds_or_fails : ((object : Object) × IsHeld objects name object) ⊎ HasObjectFault objects name
  holds_or_fails = each (object_at objects name) refl
    where
      each : (o : Option Object) → object_at objects name ≡ o → ((object : Object) × IsHeld objects name object) ⊎ HasObjectFault objects name
      each None e = inr (none-fails e)
      each (Some object) e = inl (object, object_at-is objects name object e)

  -- a fault keeps a name from holding anything
  pub fault-none : (f : ObjFault) → ObjectFaultHolds objects name f → object_at objects name ≡ None
  fault-none fault.Memory h = absurd h
  fault-none fault.Disk h = absurd h
  fault-none (fault.Missing n) h = ap (λ (x : Option (List ℕ)). option_and_then object_of (option_and_then (named name) x)) h.1
  fault-none (fault.Damaged n) h = h.1.is_none
  fault-none (fault.Large n) h = large-none h.1
    where
      large-none : IsLarge (objects name) → object_at objects name ≡ None
      large-none large = each (named name large.text) refl
        where
          each : (o : Option (List ℕ)) → named name large.text ≡ o → object_at objects name ≡ None
          each None e = ap (λ (x : Option (List ℕ)). option_and_then object_of (option_and_then (named name) x)) large.stands ∙ ap (option_and_then object_of) e
          each (Some found) e = absurd (omega (arith, (named-is name large.text found e).1, large.long))

  -- never both
  pub not_both : (object : Object) → IsHeld objects name object → HasObjectFault objects name → ⊥
  not_both object held (f, holds) =
      let no : None ≡ Some object = sym (fault-none f holds) ∙ object_at-held objects name object held in
      cc

module _ {T : Type 0} (read : Object → Option T) (objects : Objects) (name : Name) where
  -- what keeps a name from holding an object keeps it from holding one of a kind
  as_kind : (f : ObjFault) → ObjectFaultHolds objects name f → HasKindFault read objects name
  as_kind fault.Memory h = absurd h
  as_kind fault.Disk h = absurd h
  as_kind (fault.Missing n) h = (kind.Missing n, h)
  as_kind (fault.Damaged n) h = (kind.Damaged n, h)
  as_kind (fault.Large n) h = (kind.Large n, h)

  -- a name holds an object of a kind or has a fault
  pub holds_as_or_fails : HoldsAs read objects name ⊎ HasKindFault read objects name
  holds_as_or_fails = elim (holds_or_fails objects name) [
    | inl held ↦ each held.0 (object_at-held objects name held.0 held.1) (read held.0) refl
    | inr fails ↦ inr (as_kind fails.0 fails.1)
  ]
    where
      each : (object : Object) → object_at objects name ≡ Some object → (o : Option T) → read object ≡ o → HoldsAs read objects name ⊎ HasKindFault read objects name
      each object held None e = inr (kind.OtherKind name, (refl, record { object = object; held = held; is_none = e }))
      each object held (Some value) e = inl (value, ap (option_and_then read) held ∙ e)

  -- a fault keeps a name from holding one of the kind
  pub kind_fault-none : (f : KindFault) → CannotReadAs read objects name f → option_and_then read (object_at objects name) ≡ None
  kind_fault-none kind.Memory h = absurd h
  kind_fault-none kind.Disk h = absurd h
  kind_fault-none (kind.Missing n) h = ap (option_and_then read) (fault-none objects name (fault.Missing n) h)
  kind_fault-none (kind.Damaged n) h = ap (option_and_then read) (fault-none objects name (fault.Damaged n) h)
  kind_fault-none (kind.Large n) h = ap (option_and_then read) (fault-none objects name (fault.Large n) h)
  kind_fault-none (kind.OtherKind n) h = ap (option_and_then read) h.1.held ∙ h.1.is_none

  -- never both
  pub not_both_as : HoldsAs read objects name → HasKindFault read objects name → ⊥
  not_both_as (value, held) (f, fails) =
      let no : None ≡ Some value = sym (kind_fault-none f fails) ∙ held in
      cc

  -- a fault of an object is the same fault of one of a kind
  pub same_faults : (f : ObjFault) → CannotReadAs read objects name (kind_fault f) ↔ ObjectFaultHolds objects name f
  same_faults fault.Memory = (λ h. h, λ h. h)
  same_faults fault.Disk = (λ h. h, λ h. h)
  same_faults (fault.Missing n) = (λ h. h, λ h. h)
  same_faults (fault.Damaged n) = (λ h. h, λ h. h)
  same_faults (fault.Large n) = (λ h. h, λ h. h)
