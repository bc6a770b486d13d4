use Rattle.identity.proofs.AgreeLemmas.{chain_too, fault_over, meets_back, meets_over, same_back, shows_over}
use Rattle.entity_copy.proofs.ChainLemmas.{same_chain}
use Rattle.entity_copy.proofs.laws.whole_copies_have_the_same_chain.Goals as goal

pub returns-clause-needed : goal.returns-clause-needed
returns-clause-needed c = λ source entry target head copied. same_chain source entry target head copied

pub returns-clause-met : goal.returns-clause-met
returns-clause-met c = λ source entry target head name copied.
    let there = same_chain source entry target head copied in
    (meets_over source target head there name, meets_back source target head there name)

pub returns-clause-faults : goal.returns-clause-faults
returns-clause-faults c = λ source entry target head id fault copied.
    let there = same_chain source entry target head copied in
    (fault_over source target head there id fault, fault_over target source head (same_back source target head there) id fault)

pub returns-clause-chain : goal.returns-clause-chain
returns-clause-chain c = λ source entry target head id copied chain. chain_too source target head (same_chain source entry target head copied) id chain

pub returns-clause-back : goal.returns-clause-back
returns-clause-back c = λ source entry target head id copied chain.
    let there = same_chain source entry target head copied in
    chain_too target source head (same_back source target head there) id chain

pub returns-clause-person : goal.returns-clause-person
returns-clause-person c = λ source entry target head id person copied.
    let there = same_chain source entry target head copied in
    (shows_over source target head there id person, shows_over target source head (same_back source target head there) id person)
