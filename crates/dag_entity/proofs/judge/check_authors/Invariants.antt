use Rattle.std.proofs.Common.{take}
use Rattle.std.specs.List.{All, Contains}
use Rattle.dag_entity.proofs.judge.check_authors.Given as goal

abbrev pub invariant-loop-placed : goal.invariant-loop-placed
invariant-loop-placed g l = All (λ placed. Contains l.authors placed.pack.author) (take l.placed-index l.packs)
