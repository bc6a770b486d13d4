use Rattle.std.proofs.Common.{◌≡◌, rules, sym, Some, ℕ, List, Bor}
use Rattle.git_object.specs.declared.frame.Kind.{Kind}
use Rattle.git_object.specs.Reading.{frame_of}
use Rattle.git_object.proofs.FrameLaws.{frame_takes, frame_reads_only}
use Rattle.git_object.proofs.frame.Frame.read.Goals as goal

pub returns-in_err-kind-clause-only : goal.returns-in_err-kind-clause-only
returns-in_err-kind-clause-only c = λ k rest is. frame_reads_only (λ f. f.kind) (λ f. f.content.now) c.from_residual.result c.args.text.now k rest (search rules) is

pub returns-clause-found : goal.returns-clause-found
returns-clause-found c = (let at : Some (c.in_ok-kind.kind, c.in_ok-kind.content.now) ≡ frame_of c.args.text.now = search rules in frame_takes c.args.text.now c.in_ok-kind.kind c.in_ok-kind.content.now (sym at))

pub returns-clause-only : goal.returns-clause-only
returns-clause-only c = λ k rest is. frame_reads_only (λ (x : Kind × Bor (List ℕ)). x.0) (λ (x : Kind × Bor (List ℕ)). x.1.now) (Some (c.in_ok-kind.kind, c.in_ok-kind.content)) c.args.text.now k rest (search rules) is
