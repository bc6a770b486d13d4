use Rattle.dag_entity.proofs.AgreeLemmas.{below_over, commit_same, edit_same}
use Rattle.dag_entity.proofs.agree_laws.agreeing_stores_have_the_same_commits.Goals as goal

pub returns-clause-below : goal.returns-clause-below
returns-clause-below c = λ one two heads name agree. below_over one two heads agree name

pub returns-clause-commits : goal.returns-clause-commits
returns-clause-commits c = λ one two heads name agree. commit_same one two heads agree name

pub returns-clause-clocks : goal.returns-clause-clocks
returns-clause-clocks c = λ one two heads name agree. edit_same one two heads agree name
