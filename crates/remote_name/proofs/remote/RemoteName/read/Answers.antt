use Rattle.remote_name.proofs.RemoteLemmas.{copied_remote}
use Rattle.remote_name.proofs.remote.RemoteName.read.Goals as goal

pub returns-clause-read : goal.returns-clause-read
returns-clause-read c = copied_remote c.args.text.now _ c.in_ok-text.ensures
