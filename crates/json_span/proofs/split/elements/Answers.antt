-- What the machine finds are an array's elements.
use Rattle.json_span.proofs.CallLaws.{elements_lie, elements_only, elements_cuts, elements_parts, elements_refused}
use Rattle.json_span.proofs.split.elements.Goals as goal

pub returns-clause-found : goal.returns-clause-found
returns-clause-found c = elements_lie c.args.text.now c.split.result c.split.ensures.found

pub returns-clause-only : goal.returns-clause-only
returns-clause-only c = elements_only c.args.text.now c.split.result c.split.ensures.found c.split.ensures.refused

pub returns-clause-cuts : goal.returns-clause-cuts
returns-clause-cuts c = elements_cuts c.args.text.now c.split.result c.split.ensures.found

pub returns-clause-parts : goal.returns-clause-parts
returns-clause-parts c = elements_parts c.args.text.now c.split.result c.split.ensures.found

pub returns-clause-refused : goal.returns-clause-refused
returns-clause-refused c = elements_refused c.args.text.now c.split.result c.split.ensures.refused
