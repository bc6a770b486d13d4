use Rattle.std.proofs.Common.{◌∙◌, sym, ap, Some, map}
use Rattle.bug_edits.specs.Given.{at, given_by, made}
use Rattle.bug_edits.specs.declared.given.Form.TheVariants as form
use Rattle.bug_edits.specs.declared.given.Given.TheVariants as given
use Rattle.bug_edits.proofs.ArgumentLemmas.{are_one, text}
use Rattle.bug_edits.proofs.given.message.Goals as goal

pub returns-in-Some-clause-read : goal.returns-in-Some-clause-read
returns-in-Some-clause-read c =
    ap (λ read. Some (made (at 2 read) (λ message. given.Message message))) (sym c.in-Some.is ∙ c.in_ok-message.ensures.read)
    ∙ ap (λ xs. given_by form.Message (map text xs)) (are_one c.args.arguments.now _ c.in-len1.len_at_least c.in-len1.len_below)
