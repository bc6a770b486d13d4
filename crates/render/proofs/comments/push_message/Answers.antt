use Rattle.std.proofs.Common.{◌++◌, List, ℕ, string_bytes, flat_map, ap, ◌∙◌, lit<}
use Rattle.std.proofs.lemmas.Iterator.Consumers.{YieldsList-end}
use Rattle.std.proofs.lemmas.Iterator.Splits.{YieldsList-from_str_split}
use Rattle.render.specs.Show.{message_line}
use Rattle.render.proofs.comments.push_message.Goals as goal

pub returns : goal.returns
returns c =
    let same = c.into_iter-line-iterator.ensures.into_iter_gives in
    let parts = YieldsList-from_str_split 10 c.args.message.now (lit< tt) (rw (← same) at c.split-line-items.ensures.text)
    (rw (← same) at c.split-line-items.ensures.has_more) (rw (← same) at c.split-line-items.ensures.pattern) in
    let t = YieldsList-end parts c.loop-line.yielded _ c.loop-line.yielded_by _ _ c.in-None.is c.next.ensures.steps in
    c.loop-line.invariant ∙ ap (λ (lines : List (List ℕ)). string_bytes c.args.text.now ++ flat_map message_line lines) t.0
