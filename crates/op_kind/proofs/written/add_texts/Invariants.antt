use Rattle.std.proofs.Common.{◌≡◌, ◌++◌, map, drop, string_bytes}
use Rattle.json.specs.Print.{quoted}
use Rattle.json_span.specs.Joined.{behind_commas}
use Rattle.op_kind.proofs.written.add_texts.Given as goal

abbrev pub invariant-loop-text : goal.invariant-loop-text
invariant-loop-text l =
    string_bytes l.fn.out ++ behind_commas (map quoted l.texts)
    ≡ string_bytes l.out ++ behind_commas (map quoted (drop l.text-index l.texts))
