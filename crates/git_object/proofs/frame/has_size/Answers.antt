use Rattle.std.proofs.Common.{◌∙◌, ap, List, ℕ}
use Rattle.std.specs.Str.{bytes_eq}
use Rattle.std.specs.Prelude.{decimal}
use Rattle.git_object.proofs.FrameLaws.{size_reads, size_absent}
use Rattle.git_object.proofs.frame.has_size.Goals as goal

pub returns-in_default : goal.returns-in_default
returns-in_default c = size_absent c.args.front.now c.args.word.now (decimal c.args.size) c.in_default.ensures

pub returns : goal.returns
returns c = let e = size_reads c.args.front.now c.args.word.now c.in-Some.digits.now (decimal c.args.size) c.in-Some.ensures in c.eq.ensures ∙ ap (λ (d : List ℕ). bytes_eq c.in-Some.digits.now d) (c.as_bytes.ensures.value ∙ c.format.ensures.text) ∙ e
