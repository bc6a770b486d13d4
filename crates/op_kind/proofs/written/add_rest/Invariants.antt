use Rattle.std.proofs.Common.{◌≡◌, ◌++◌, map, drop, string_bytes}
use Rattle.json_span.specs.Joined.{behind_commas, member_text}
use Rattle.op_kind.specs.Written.{named}
use Rattle.op_kind.proofs.written.add_rest.Given as goal

abbrev pub invariant-loop-member : goal.invariant-loop-member
invariant-loop-member l =
    string_bytes l.fn.out ++ behind_commas (map member_text (map named (map (λ m. (m.name.now, m.value)) l.members)))
    ≡ string_bytes l.out ++ behind_commas (map member_text (map named (map (λ m. (m.name.now, m.value)) (drop l.member-index l.members))))
