use Rattle.op_kind.proofs.NeededMembers.{no_kind, no_time, no_nonce, kind_stands, time_stands, nonce_stands, all_stand, by_members}
use Rattle.op_kind.proofs.laws.operations_need_their_members.Goals as goal

pub returns-clause-no_kind : goal.returns-clause-no_kind
returns-clause-no_kind c = no_kind

pub returns-clause-no_time : goal.returns-clause-no_time
returns-clause-no_time c = no_time

pub returns-clause-no_nonce : goal.returns-clause-no_nonce
returns-clause-no_nonce c = no_nonce

pub returns-clause-kinds : goal.returns-clause-kinds
returns-clause-kinds c = kind_stands

pub returns-clause-times : goal.returns-clause-times
returns-clause-times c = time_stands

pub returns-clause-nonces : goal.returns-clause-nonces
returns-clause-nonces c = nonce_stands

pub returns-clause-all : goal.returns-clause-all
returns-clause-all c = all_stand

pub returns-clause-text : goal.returns-clause-text
returns-clause-text c = by_members
