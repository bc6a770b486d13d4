use Rattle.repo_writes.proofs.PartLemmas.{saw}
use Rattle.repo_state.specs.declared.clocks.ClockFile.TheVariants as file
use Rattle.repo_writes.proofs.part_laws.clocks_see_heads.Goals as goal

pub returns-clause-edit : goal.returns-clause-edit
returns-clause-edit c = λ folder files change. saw folder files change file.BugsEdit

pub returns-clause-create : goal.returns-clause-create
returns-clause-create c = λ folder files change. saw folder files change file.BugsCreate
