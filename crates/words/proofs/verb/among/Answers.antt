use Rattle.std.proofs.Common.{◌∙◌, rules, tests}
use Rattle.std.specs.Str.{bytes_eq}
use Rattle.std.proofs.lemmas.Iterator.{YieldsList-from_slice}
use Rattle.std.proofs.lemmas.Iterator.Search.{find_from_yields_List}
use Rattle.words.specs.Verbs.{name_of}
use Rattle.words.proofs.verb.among.Goals as goal

pub returns : goal.returns
returns c =
    c.copied.ensures
    ∙ find_from_yields_List (λ v. bytes_eq (name_of v) c.args.name.now) _ _ c.find.result c.find.ensures.ran (YieldsList-from_slice c.args.verbs.now cc) (λ x b q k. search (rules, tests))
