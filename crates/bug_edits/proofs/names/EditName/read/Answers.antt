use Rattle.std.proofs.Common.{◌∙◌, rules, tests}
use Rattle.std.specs.Str.{bytes_eq}
use Rattle.std.proofs.lemmas.Iterator.{YieldsList-from_slice}
use Rattle.std.proofs.lemmas.Iterator.Search.{find_from_yields_List}
use Rattle.bug_edits.specs.EditTable.{name_of}
use Rattle.bug_edits.specs.declared.names.TheConstants.{EDITS}
use Rattle.bug_edits.proofs.names.EditName.read.Goals as goal

pub returns : goal.returns
returns c =
    c.copied.ensures
    ∙ find_from_yields_List (λ n. bytes_eq (name_of n) c.args.name.now) _ _ c.find.result c.find.ensures.ran (YieldsList-from_slice EDITS cc) (λ x b q k. search (rules, tests))
