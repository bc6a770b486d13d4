use Rattle.words.proofs.KindLemmas.{no_merge_list, no_other_list, no_other_merge, no_peer_list, no_peer_merge, of_one_kind}
use Rattle.words.proofs.laws.no_name_is_of_two_kinds.Goals as goal

pub returns-clause-peers : goal.returns-clause-peers
returns-clause-peers c = of_one_kind

pub returns-clause-merges : goal.returns-clause-merges
returns-clause-merges c = no_other_merge

pub returns-clause-peer_merges : goal.returns-clause-peer_merges
returns-clause-peer_merges c = no_peer_merge

pub returns-clause-lists : goal.returns-clause-lists
returns-clause-lists c = no_other_list

pub returns-clause-peer_lists : goal.returns-clause-peer_lists
returns-clause-peer_lists c = no_peer_list

pub returns-clause-merge_lists : goal.returns-clause-merge_lists
returns-clause-merge_lists c = no_merge_list
