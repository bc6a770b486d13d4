use Rattle.remote_name.proofs.RemoteLemmas.{no_remote, one_remote, the_remote}
use Rattle.remote_name.proofs.laws.remote_names_read_back.Goals as goal

pub returns-clause-read : goal.returns-clause-read
returns-clause-read c = the_remote

pub returns-clause-same : goal.returns-clause-same
returns-clause-same c = one_remote

pub returns-clause-none : goal.returns-clause-none
returns-clause-none c = no_remote
