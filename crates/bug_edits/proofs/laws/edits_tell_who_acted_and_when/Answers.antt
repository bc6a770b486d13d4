use Rattle.bug_edits.specs.declared.edit.BugEdit.TheVariants as kind
use Rattle.bug_edits.proofs.EditLemmas.{said, who_and_when}
use Rattle.bug_edits.proofs.laws.edits_tell_who_acted_and_when.Goals as goal

pub returns-clause-acted : goal.returns-clause-acted
returns-clause-acted c = who_and_when

pub returns-clause-took_part : goal.returns-clause-took_part
returns-clause-took_part c = λ moment ops op bug place message is. let all = said moment ops op bug place (kind.Comment message) is in (all.1, all.2)
