use Rattle.std.proofs.Common.{ℕ, List, lit<, rules}
use Rattle.std.proofs.lemmas.Iterator.{YieldsList-from_zip}
use Rattle.std.proofs.lemmas.Iterator.Consumers.{YieldsList-at, YieldsList-from_filter}
use Rattle.std.proofs.lemmas.Iterator.Search.{all_from_yields_List}
use Rattle.std.proofs.lemmas.Iterator.Splits.{YieldsList-from_str_split}
use Rattle.std.specs.Str.{bytes_eq}
use Rattle.gb_text.specs.Folder.{counts}
use Rattle.gb_text.proofs.folder.steps_agree.Goals as goal

pub returns : goal.returns
returns c =
    all_from_yields_List (λ (pair : List ℕ × List ℕ). bytes_eq pair.0 pair.1) c.all.new.self _ c.all.result c.all.ensures.ran
    (YieldsList-from_zip
    (YieldsList-at c.zip.ensures.first (YieldsList-from_filter _ counts (YieldsList-at c.filter-ours.ensures.source (YieldsList-from_str_split 47 c.args.one.now (lit< tt) c.split.ensures.text c.split.ensures.has_more c.split.ensures.pattern)) c.filter-ours.ensures.closure (search rules)))
    (YieldsList-at c.zip.ensures.second (YieldsList-from_filter _ counts (YieldsList-at c.filter-theirs.ensures.source (YieldsList-from_str_split 47 c.args.two.now (lit< tt) c.split-2.ensures.text c.split-2.ensures.has_more c.split-2.ensures.pattern)) c.filter-theirs.ensures.closure (search rules))))
    (search rules)
