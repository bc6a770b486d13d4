use Rattle.std.proofs.Common.{Contains, take}
use Rattle.std.specs.BTreeMap.{get}
use Rattle.std.specs.Option.{IsSome}
use Rattle.gb_text.specs.declared.id.Name.{Name}
use Rattle.dag_graph.specs.Index.{name_cmp}
use Rattle.commit_tests.proofs.graphs.has_all.Given as goal

abbrev pub invariant-loop-name : goal.invariant-loop-name
invariant-loop-name l = (name : Name) → Contains (take l.name-index l.names) name → IsSome (get name_cmp l.places name)
