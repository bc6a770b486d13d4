use Rattle.commit_walk.specs.Below.{head}
use Rattle.commit_walk.proofs.ParentLemmas.{below_head, below_or_parent, leads_below, parent_below}
use Rattle.commit_walk.proofs.laws.parents_lie_below.Goals as goal

pub returns-clause-head : goal.returns-clause-head
returns-clause-head c = λ objects heads name has. head has

pub returns-clause-parent : goal.returns-clause-parent
returns-clause-parent c = λ objects heads high low commit below held names. parent_below objects heads high low commit below held names

pub returns-clause-below_parent : goal.returns-clause-below_parent
returns-clause-below_parent c = λ objects heads high low name commit below held names under. leads_below objects heads low name (parent_below objects heads high low commit below held names) under

pub returns-clause-one : goal.returns-clause-one
returns-clause-one c = λ objects top name. below_head objects top name

pub returns-clause-only : goal.returns-clause-only
returns-clause-only c = λ objects heads name below. below_or_parent objects heads name below
