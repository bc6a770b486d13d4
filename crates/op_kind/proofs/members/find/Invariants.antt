use Rattle.std.proofs.Common.{◌≡◌, map, drop, ◌++◌}
use Rattle.std.specs.Option.{option_map}
use Rattle.op_kind.specs.Members.{values_of}
use Rattle.op_kind.proofs.FieldLemmas.{seen}
use Rattle.op_kind.proofs.members.find.Given as goal

abbrev pub invariant-loop-field : goal.invariant-loop-field
invariant-loop-field l =
    values_of l.name (map (λ f. (f.name, f.value.now)) l.fields)
    ≡ seen (option_map (λ v. v.now) l.value) ++ values_of l.name (map (λ f. (f.name, f.value.now)) (drop l.field-index l.fields))
