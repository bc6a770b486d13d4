use Rattle.object_batch.proofs.laws.batches_are_put_or_refused.Goals as goal

pub returns-clause-taken : goal.returns-clause-taken
returns-clause-taken c = λ folder texts old name may cannot. may.free name cannot
