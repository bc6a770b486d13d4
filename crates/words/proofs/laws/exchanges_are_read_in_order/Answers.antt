use Rattle.words.proofs.ExchangeLemmas.{bad_own, bad_peer, exchange, overlapping, unnamed_remote}
use Rattle.words.proofs.laws.exchanges_are_read_in_order.Goals as goal

pub returns-clause-own : goal.returns-clause-own
returns-clause-own c = bad_own

pub returns-clause-peer : goal.returns-clause-peer
returns-clause-peer c = bad_peer

pub returns-clause-overlap : goal.returns-clause-overlap
returns-clause-overlap c = overlapping

pub returns-clause-remote : goal.returns-clause-remote
returns-clause-remote c = unnamed_remote

pub returns-clause-exchange : goal.returns-clause-exchange
returns-clause-exchange c = exchange
