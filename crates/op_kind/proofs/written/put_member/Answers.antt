-- The member is put where its name stands.
use Rattle.std.proofs.Common.{◌≡◌, ◌∙◌, ap}
use Rattle.std.specs.List.{insert}
use Rattle.op_kind.specs.FieldLists.{fields_for}
use Rattle.op_kind.specs.NameOrder.{place_among}
use Rattle.op_kind.specs.declared.written.Written.{Written}
use Rattle.op_kind.proofs.WrittenLemmas.{put_at}
use Rattle.op_kind.proofs.written.put_member.Goals as goal

pub returns : goal.returns
returns c =
    let items = c.args.members.now.items in
    let member : Written = record { name = c.args.name; value = c.args.value } in
    let place : c.place_among-place.result ≡ place_among c.args.name.now (fields_for items) = rw c.deref.ensures.value at c.place_among-place.ensures.place in
    ap fields_for c.in_ok-insert.ensures.items ∙ ap (λ n. fields_for (insert items n member)) place ∙ put_at member items
