use Rattle.std.proofs.Common.{◌∙◌, ap, Some, map}
use Rattle.words.specs.Words.{by_verb}
use Rattle.words.specs.declared.verb.Verb.TheVariants as verb
use Rattle.bug_edits.proofs.ArgumentLemmas.{are_two, text}
use Rattle.words.proofs.words.new.Goals as goal

pub returns-clause-read : goal.returns-clause-read
returns-clause-read c =
    ap Some c.in_ok-new_bug.ensures
    ∙ ap (λ xs. by_verb verb.New (map text xs)) (are_two c.args.arguments.now _ _ c.in-len2.len_at_least c.in-len2.len_below)
