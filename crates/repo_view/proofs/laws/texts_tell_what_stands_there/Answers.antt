use Rattle.std.proofs.Common.{◌∙◌, ap}
use Rattle.render.specs.Show.{show_text_of}
use Rattle.render.specs.Users.{users_text_of}
use Rattle.snapshot.specs.LastMention.{snapshot_of}
use Rattle.repo_view.proofs.PeopleLemmas.{one_people, one_user}
use Rattle.repo_view.proofs.laws.texts_tell_what_stands_there.Goals as goal

pub returns-clause-log : goal.returns-clause-log
returns-clause-log c = λ files folder word text log. (log.0, log.1, (log.2).entity, (log.2).is, (log.2).lines)

pub returns-clause-show : goal.returns-clause-show
returns-clause-show c = λ files folder word text people are shown.
    (shown.0, shown.1, (shown.2).ops, (shown.2).are, (shown.2).is ∙ ap (show_text_of (snapshot_of (shown.2).ops)) (one_people files folder (shown.2).people people (shown.2).are_people are))

pub returns-clause-users : goal.returns-clause-users
returns-clause-users c = λ files folder text people user are is told.
    told.4 ∙ ap (users_text_of told.0) (one_user files folder told.2 user told.3 is) ∙ ap (λ persons. users_text_of persons user) (one_people files folder told.0 people told.1 are)
