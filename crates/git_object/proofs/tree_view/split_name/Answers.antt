use Rattle.std.proofs.Common.{◌∙◌, ap, List, ℕ, Some}
use Rattle.git_object.proofs.EntryLaws.{name_here}
use Rattle.git_object.proofs.tree_view.split_name.Goals as goal

pub returns : goal.returns
returns c = ap (λ (rest : List ℕ). Some (c.name_with.result, rest)) c.split_at.ensures.back ∙ name_here c.args.bytes.now c.name_with.result c.name_with.ensures.name (c.name_with.ensures.value ∙ c.split_at.ensures.front)
