use Rattle.std.proofs.Common.{◌≡◌, ◌++◌, take}
use Rattle.std.specs.List.{flat_map, AllByRecursion}
use Rattle.gb_text.specs.Digits.{IsName}
use Rattle.git_object.specs.Grammar.{parent_line}
use Rattle.git_object.proofs.commit.append_parents.Given as goal

abbrev pub invariant-loop-parent : goal.invariant-loop-parent
invariant-loop-parent l = (l.text.items ≡ l.fn.text.items ++ flat_map parent_line (take l.parent-index l.parents)) × AllByRecursion IsName (take l.parent-index l.parents)
