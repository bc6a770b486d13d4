use Rattle.words.proofs.ListLemmas.{named_lists_give}
use Rattle.words.proofs.VerbLemmas.{counted_gives, counted_merges_give, counted_peers_give, only_counted, only_counted_merges, only_counted_peers, only_named_lists}
use Rattle.words.proofs.laws.only_these_are_commands.Goals as goal

pub returns-clause-named : goal.returns-clause-named
returns-clause-named c = only_counted

pub returns-clause-each : goal.returns-clause-each
returns-clause-each c = counted_gives

pub returns-clause-peers_named : goal.returns-clause-peers_named
returns-clause-peers_named c = only_counted_peers

pub returns-clause-peers_each : goal.returns-clause-peers_each
returns-clause-peers_each c = counted_peers_give

pub returns-clause-merges_named : goal.returns-clause-merges_named
returns-clause-merges_named c = only_counted_merges

pub returns-clause-merges_each : goal.returns-clause-merges_each
returns-clause-merges_each c = counted_merges_give

pub returns-clause-lists_named : goal.returns-clause-lists_named
returns-clause-lists_named c = only_named_lists

pub returns-clause-lists_each : goal.returns-clause-lists_each
returns-clause-lists_each c = named_lists_give
