use Rattle.std.proofs.Common.{codes, bytes_eq, lit<, rules}
use Rattle.std.proofs.lemmas.Iterator.Search.{any_from_yields_List}
use Rattle.std.proofs.lemmas.Iterator.Splits.{YieldsList-from_str_split}
use Rattle.gb_text.proofs.folder.goes_up.Goals as goal

pub returns : goal.returns
returns c =
    any_from_yields_List (λ part. bytes_eq part (codes "..")) _ _ c.any.result c.any.ensures.ran
    (YieldsList-from_str_split 47 c.args.word.now (lit< tt) c.split.ensures.text c.split.ensures.has_more c.split.ensures.pattern)
    (search rules)
