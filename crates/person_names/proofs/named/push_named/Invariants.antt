use Rattle.std.proofs.Common.{◌≡◌, string_bytes, drop}
use Rattle.person_names.specs.Named.{name_among}
use Rattle.person_names.proofs.named.push_named.Given as goal

abbrev pub invariant-loop-person : goal.invariant-loop-person
invariant-loop-person l = record {
  left : name_among l.names l.id ≡ name_among (drop l.person-index l.names) l.id;
  same : string_bytes l.text ≡ string_bytes l.fn.text;
}
