use Rattle.std.proofs.Common.{◌∙◌, sym, ap, Some, map}
use Rattle.bug_edits.specs.Given.{given_by, made}
use Rattle.bug_edits.specs.declared.given.Form.TheVariants as form
use Rattle.bug_edits.specs.declared.given.Given.TheVariants as given
use Rattle.bug_edits.proofs.ArgumentLemmas.{begin_with_one, text}
use Rattle.bug_edits.proofs.given.titles.Goals as goal

pub returns-in-Ok-clause-read : goal.returns-in-Ok-clause-read
returns-in-Ok-clause-read c =
    ap (λ read. Some (made read (λ titles. given.Titles titles))) (sym c.in-Ok.is ∙ c.in_ok-titles.ensures)
    ∙ ap (λ xs. given_by form.Titles (map text xs)) (begin_with_one c.args.arguments.now _ c.in-len1-up.len_at_least)
