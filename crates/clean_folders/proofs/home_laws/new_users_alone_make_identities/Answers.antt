use Rattle.std.proofs.Common.{◌≡◌, refl}
use Rattle.world_events.specs.declared.act.Act.{Act}
use Rattle.world_events.specs.declared.act.Act.TheVariants as act
use Rattle.clean_folders.specs.WorldPeople.{MakesAPerson}
use Rattle.clean_folders.proofs.home_laws.new_users_alone_make_identities.Goals as goal

by : (one : Act) → MakesAPerson one → one ≡ act.UserNew
by act.UserNew makes = refl
by act.NewBug makes = absurd makes
by (act.Comment pick) makes = absurd makes
by (act.Title pick) makes = absurd makes
by (act.Edit pick) makes = absurd makes
by (act.Close pick) makes = absurd makes
by (act.Reopen pick) makes = absurd makes
by (act.LabelAdd pick label) makes = absurd makes
by (act.LabelRm pick label) makes = absurd makes
by (act.Noop pick) makes = absurd makes
by (act.Pull peer) makes = absurd makes
by (act.Push peer) makes = absurd makes
by act.PackRefs makes = absurd makes

pub returns : goal.returns
returns c = by
