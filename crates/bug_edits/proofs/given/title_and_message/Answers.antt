use Rattle.std.proofs.Common.{◌∙◌, ap, Some, map}
use Rattle.bug_edits.specs.Given.{given_by}
use Rattle.bug_edits.specs.declared.given.Form.TheVariants as form
use Rattle.bug_edits.proofs.ArgumentLemmas.{are_two, text}
use Rattle.bug_edits.proofs.given.title_and_message.Goals as goal

pub returns-clause-read : goal.returns-clause-read
returns-clause-read c =
    ap Some c.in_ok-two.ensures
    ∙ ap (λ xs. given_by form.TitleAndMessage (map text xs)) (are_two c.args.arguments.now _ _ c.in-len2.len_at_least c.in-len2.len_below)
