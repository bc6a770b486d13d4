use Rattle.std.proofs.Common.{◌≡◌, ◌-◌, ◌++◌, List, ℕ, length, take, drop, sym, ◌∙◌, ap, append_assoc, arith, rules}
use Rattle.std.proofs.Math.Seq.{take-add}
use Rattle.std.proofs.lemmas.Grind.{common_steps}
use Rattle.gb_store.proofs.sink.write_whole.Goals as goal

pub loop-done-preserved : goal.loop-done-preserved
loop-done-preserved g c = record {
  within = omega (arith, c.in_ok-done.ensures.within);
  written = λ tells.
      let piece : take (length c.args.bytes.now - c.loop-done.done) (drop c.loop-done.done c.args.bytes.now) ≡ drop c.loop-done.done c.args.bytes.now = grind (arith, common_steps) in
      let more = c.in_ok-done.ensures.appended tells in
      let before = c.loop-done.invariant.written tells in
      more ∙ ap (λ (t : List ℕ). g.K.Sink.written c.loop-done.out ++ take c.in_ok-done.field-0 t) piece
      ∙ ap (λ (t : List ℕ). t ++ take c.in_ok-done.field-0 (drop c.loop-done.done c.args.bytes.now)) before
      ∙ append_assoc (g.K.Sink.written c.args.out.now) (take c.loop-done.done c.args.bytes.now) (take c.in_ok-done.field-0 (drop c.loop-done.done c.args.bytes.now))
      ∙ ap (λ (t : List ℕ). g.K.Sink.written c.args.out.now ++ t) (sym (take-add c.loop-done.done c.in_ok-done.field-0 c.args.bytes.now));
  caused = search rules;
}
