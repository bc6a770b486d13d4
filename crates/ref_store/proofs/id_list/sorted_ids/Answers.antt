use Rattle.std.proofs.Common.{◌≡◌, ◌++◌, map, List, ◌∙◌, sym, subst}
use Rattle.std.proofs.lemmas.Result.{IfOk-weaker}
use Rattle.std.specs.List.{filter_map}
use Rattle.gb_text.specs.Digits.{id_of}
use Rattle.gb_text.specs.declared.id.Id.{Id}
use Rattle.packed_refs.specs.declared.packed.PackedHead.{PackedHead}
use Rattle.std.specs.BTreeSet.{IsFromIterResult}
use Rattle.ref_store.specs.Listing.{AreSorted, id_cmp}
use Rattle.ref_store.proofs.JoinLemmas.{set_is_sorted}
use Rattle.ref_store.proofs.id_list.sorted_ids.Goals as goal

pub returns : goal.returns
returns c =
    let all = filter_map id_of c.args.names.now ++ map (λ (one : PackedHead). one.id) c.args.packed.now in
    let made : IsFromIterResult id_cmp all c.in_ok-set_of.field-0 =
    subst (λ (ids : List Id). IsFromIterResult id_cmp ids c.in_ok-set_of.field-0) (c.as_slice.ensures.value ∙ c.in_ok-ids.ensures) c.in_ok-set_of.ensures in
    let sorted : AreSorted all c.in_ok-set_of.field-0.keys = set_is_sorted all c.in_ok-set_of.field-0 made in
    IfOk-weaker c.keys_of.result (λ ids. ids.items ≡ c.in_ok-set_of.field-0.keys) (λ ids. AreSorted all ids.items) (λ ids is. subst (AreSorted all) (sym is) sorted) c.keys_of.ensures
