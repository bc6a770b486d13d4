use Rattle.entity_merge.proofs.laws.known_heads_are_not_refused.Goals as goal

pub returns-clause-planned : goal.returns-clause-planned
returns-clause-planned g c = λ objects id local remote author authors clock now fault refused. refused

pub returns-clause-merged : goal.returns-clause-merged
returns-clause-merged g c = λ folder id local remote author authors clock now old new fault refused. refused
