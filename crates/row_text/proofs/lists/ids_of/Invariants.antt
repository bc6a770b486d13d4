use Rattle.std.proofs.Common.{◌≡◌, ◌++◌, drop}
use Rattle.std.specs.Option.{option_map}
use Rattle.row_text.specs.Lists.{ids_of}
use Rattle.row_text.proofs.lists.ids_of.Given as goal

abbrev pub invariant-loop-text : goal.invariant-loop-text
invariant-loop-text l = ids_of l.texts ≡ option_map (λ ids. l.ids.items ++ ids) (ids_of (drop l.text-index l.texts))
