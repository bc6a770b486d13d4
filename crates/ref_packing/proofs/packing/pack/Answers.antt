use Rattle.std.proofs.Common.{[], sym, ◌∙◌}
use Rattle.std.proofs.lemmas.List.{append-nil}
use Rattle.gb_store.proofs.MomentLemmas.{WroteSome-back}
use Rattle.ref_packing.proofs.PackLemmas.{has_read, packs_none, writes_allowed}
use Rattle.ref_packing.proofs.packing.pack.Goals as goal

pub returns-then-is_empty-clause-answers : goal.returns-then-is_empty-clause-answers
returns-then-is_empty-clause-answers g c = λ tells.
    let history = g.S.Store.history in
    let old = history c.args.disk.now in
    let mid = history c.loose_refs.new.disk in
    let taken = c.as_slice-taken.result.now in
    let read =
    has_read c.args.folder.now old (history c.old_refs.new.disk) mid c.in_ok-before.before c.in_ok-taken.taken taken (c.in_ok-before.ensures.answers tells) (c.in_ok-before.ensures.unwritten tells)
    (c.in_ok-taken.ensures.answers tells) (c.in_ok-taken.ensures.unwritten tells) c.as_slice-taken.ensures in
    packs_none c.args.folder.now old mid c.in_ok-before.before taken read (sym c.is_empty.ensures ∙ c.if-is_empty.true)

pub returns-in_err-write_all-clause-wrote : goal.returns-in_err-write_all-clause-wrote
returns-in_err-write_all-clause-wrote g c = record {
  wrote = λ tells.
      let history = g.S.Store.history in
      let old = history c.args.disk.now in
      let mid = history c.loose_refs.new.disk in
      let taken = c.as_slice-taken.result.now in
      let read =
      has_read c.args.folder.now old (history c.old_refs.new.disk) mid c.in_ok-before.before c.in_ok-taken.taken taken (c.in_ok-before.ensures.answers tells) (c.in_ok-before.ensures.unwritten tells)
      (c.in_ok-taken.ensures.answers tells) (c.in_ok-taken.ensures.unwritten tells) c.as_slice-taken.ensures in
      writes_allowed c.args.folder.now old mid c.in_ok-before.before taken read (history c.write_all.new.disk) c.in_ok-text.text c.as_slice.result.now (sym c.is_empty.ensures ∙ c.if-is_empty.false)
      c.in_ok-text.ensures (c.as_slice.ensures.value ∙ c.in_ok-changes.ensures) (c.in_err-write_all.ensures.answers tells);
}

pub returns-clause-wrote : goal.returns-clause-wrote
returns-clause-wrote g c = record {
  wrote = λ tells.
      let history = g.S.Store.history in
      let old = history c.args.disk.now in
      let mid = history c.loose_refs.new.disk in
      let new = history c.write_all.new.disk in
      let taken = c.as_slice-taken.result.now in
      let changes = c.as_slice.result.now in
      let read =
      has_read c.args.folder.now old (history c.old_refs.new.disk) mid c.in_ok-before.before c.in_ok-taken.taken taken (c.in_ok-before.ensures.answers tells) (c.in_ok-before.ensures.unwritten tells)
      (c.in_ok-taken.ensures.answers tells) (c.in_ok-taken.ensures.unwritten tells) c.as_slice-taken.ensures in
      writes_allowed c.args.folder.now old mid c.in_ok-before.before taken read new c.in_ok-text.text changes (sym c.is_empty.ensures ∙ c.if-is_empty.false)
      c.in_ok-text.ensures (c.as_slice.ensures.value ∙ c.in_ok-changes.ensures)
      (WroteSome-back changes mid new changes [] (sym (append-nil changes)) (c.in_ok-write_all.ensures.answers tells));
}
