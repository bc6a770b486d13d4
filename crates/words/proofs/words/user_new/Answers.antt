use Rattle.std.proofs.Common.{◌∙◌, sym, ap, Some, map}
use Rattle.bug_edits.specs.Given.{made}
use Rattle.words.specs.Words.{by_verb}
use Rattle.words.specs.declared.edit.Edit.TheVariants.{UserNew}
use Rattle.words.specs.declared.verb.Verb.TheVariants as verb
use Rattle.words.specs.declared.words.Command.TheVariants.{Edit}
use Rattle.bug_edits.proofs.ArgumentLemmas.{are_two, text}
use Rattle.words.proofs.words.user_new.Goals as goal

pub returns-in-Ok-clause-read : goal.returns-in-Ok-clause-read
returns-in-Ok-clause-read c =
    ap (λ read. Some (made read (λ p. Edit (UserNew p.0 p.1)))) (sym c.in-Ok.is ∙ c.in_ok-name.ensures)
    ∙ ap (λ xs. by_verb verb.UserNew (map text xs)) (are_two c.args.arguments.now _ _ c.in-len2.len_at_least c.in-len2.len_below)
