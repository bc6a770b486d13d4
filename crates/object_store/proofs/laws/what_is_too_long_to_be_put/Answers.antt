use Rattle.object_store.proofs.laws.what_is_too_long_to_be_put.Goals as goal

pub returns-clause-short : goal.returns-clause-short
returns-clause-short c = λ text. (λ short. short, λ short. short)

pub returns-clause-large : goal.returns-clause-large
returns-clause-large c = λ folder text old new count. (λ large. large, λ large. large)
