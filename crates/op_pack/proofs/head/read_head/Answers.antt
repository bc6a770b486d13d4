use Rattle.std.proofs.Common.{rules}
use Rattle.git_object.specs.Views.{tree_seen}
use Rattle.op_pack.proofs.HeadLaws.{head_in_range, some_means_sound}
use Rattle.op_pack.proofs.head.read_head.Goals as goal

pub returns-clause-sound : goal.returns-clause-sound
returns-clause-sound c = some_means_sound (tree_seen c.args.tree.now) (record { version = c.in_ok-version.version; edit = c.in_ok-edit.edit; create = c.in_ok-create.create; ops = c.in_ok-ops.ops }) (search rules)

pub returns-clause-in_range : goal.returns-clause-in_range
returns-clause-in_range c = head_in_range (tree_seen c.args.tree.now) (record { version = c.in_ok-version.version; edit = c.in_ok-edit.edit; create = c.in_ok-create.create; ops = c.in_ok-ops.ops }) (search rules)
