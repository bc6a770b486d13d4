-- Each of those before is in the text.
use Rattle.std.proofs.Common.{◌≡◌, drop}
use Rattle.std.specs.List.{list_all}
use Rattle.query.specs.Matching.{occurs}
use Rattle.query.proofs.fields.contains_each.Given as goal

abbrev pub invariant-loop-word : goal.invariant-loop-word
invariant-loop-word l = list_all (λ word. occurs l.text word.folded) l.given ≡ list_all (λ word. occurs l.text word.folded) (drop l.word-index l.given)
