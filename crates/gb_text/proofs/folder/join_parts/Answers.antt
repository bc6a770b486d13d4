use Rattle.std.proofs.Common.{◌∷◌, [], ◌++◌, ◌==◌, ℕ, List, length, cond, get_or, refl, sym, ◌∙◌, ap, append-nil}
use Rattle.std.specs.List.{join_with_byte}
use Rattle.gb_text.proofs.FolderLemmas.{counted, counted-all, counted-skip, counted-push, joined-more, length-push}
use Rattle.gb_text.proofs.folder.join_parts.Goals as goal

pub loop-part-init : goal.loop-part-init
loop-part-init c = record { text = c.in_ok-text.ensures.ok ∙ sym (append-nil c.args.root.now); first = refl }

pub loop-part-preserved-then-not-counts : goal.loop-part-preserved-then-not-counts
loop-part-preserved-then-not-counts c =
    let same = counted-skip c.args.parts.now c.loop-part.part-index (record { ref_ptr = (0, 0); now = [] }) c.loop-part-test.true (sym c.if-not-counts.ensures) in
    rw same c.loop-part.invariant

pub loop-part-preserved : goal.loop-part-preserved
loop-part-preserved c =
    let part = get_or c.args.parts.now c.loop-part.part-index (record { ref_ptr = (0, 0); now = [] }) in
    let more = counted-push c.args.parts.now c.loop-part.part-index (record { ref_ptr = (0, 0); now = [] }) c.loop-part-test.true (sym c.if-not-counts.ensures) in
    let xs = counted c.args.parts.now c.loop-part.part-index in
    record {
      text = c.in_ok-push_part.ensures ∙ ap (λ (t : List ℕ). t ++ cond c.loop-part.is_first part.now (47 ∷ part.now)) c.loop-part.invariant.text
          ∙ joined-more c.args.root.now xs part.now c.loop-part.is_first c.loop-part.invariant.first ∙ ap (λ (ys : List (List ℕ)). c.args.root.now ++ join_with_byte 47 ys) (sym more);
      first = sym (ap (λ (ys : List (List ℕ)). length ys == 0) more ∙ length-push xs part.now);
    }

pub returns : goal.returns
returns c =
    c.loop-part.invariant.text ∙ ap (λ (ys : List (List ℕ)). c.args.root.now ++ join_with_byte 47 ys) (counted-all c.args.parts.now c.loop-part.part-index c.loop-part-test.false)
