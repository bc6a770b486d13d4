-- What may be wrong with the commits of a walk, whatever names it reaches.
use Rattle.std.specs.Prelude.{◌≡◌, None}
use Rattle.gb_text.specs.declared.id.Name.{Name}
use Rattle.object_store.specs.Held.{Objects, IsDamaged, IsLarge}
use Rattle.object_store.specs.Typed.{IsOtherKind, as_commit}
use Rattle.commit_walk.specs.declared.fault.WalkFault.{WalkFault}
use Rattle.commit_walk.specs.declared.fault.WalkFault.TheVariants as fault

-- what is wrong with a walk that reaches some names, and perhaps too many: one case a fault and with no order among them
abbrev pub WalkFaultHolds : Objects → (Name → Type 0) → Type 0 → WalkFault → Type 0
WalkFaultHolds objects Reaches IsLong (fault.Missing name) = Reaches name × (objects name ≡ None)
WalkFaultHolds objects Reaches IsLong (fault.Damaged name) = Reaches name × IsDamaged objects name
WalkFaultHolds objects Reaches IsLong (fault.Large name) = Reaches name × IsLarge (objects name)
WalkFaultHolds objects Reaches IsLong (fault.NotCommit name) = Reaches name × IsOtherKind as_commit objects name
WalkFaultHolds objects Reaches IsLong fault.TooMany = IsLong
