-- What the machine finds are an object's members.
use Rattle.json_span.proofs.CallLaws.{members_lie, members_only, members_cuts, members_parts, members_refused}
use Rattle.json_span.proofs.split.members.Goals as goal

pub returns-clause-found : goal.returns-clause-found
returns-clause-found c = members_lie c.args.text.now c.split.result c.split.ensures.found

pub returns-clause-only : goal.returns-clause-only
returns-clause-only c = members_only c.args.text.now c.split.result c.split.ensures.found c.split.ensures.refused

pub returns-clause-cuts : goal.returns-clause-cuts
returns-clause-cuts c = members_cuts c.args.text.now c.split.result c.split.ensures.found

pub returns-clause-parts : goal.returns-clause-parts
returns-clause-parts c = members_parts c.args.text.now c.split.result c.split.ensures.found

pub returns-clause-refused : goal.returns-clause-refused
returns-clause-refused c = members_refused c.args.text.now c.split.result c.split.ensures.refused
