use Rattle.std.proofs.Common.{◌≡◌, ◌++◌, map, List, ◌∙◌, sym, subst}
use Rattle.std.proofs.lemmas.Result.{IfOk-weaker}
use Rattle.std.specs.BTreeMap.{IsFromIterResult}
use Rattle.ref_store.specs.Listing.{AreLast, entry_of, id_cmp, packed_entry, pair_of}
use Rattle.ref_store.specs.declared.listing.RefEntry.{RefEntry}
use Rattle.ref_store.proofs.JoinLemmas.{map_is_last}
use Rattle.ref_store.proofs.listing.join.Goals as goal

pub returns : goal.returns
returns c =
    let all = map packed_entry c.args.packed.now ++ c.args.loose.now in
    let made : IsFromIterResult id_cmp (map pair_of all) c.in_ok-last_of.field-0 =
    subst (λ (entries : List RefEntry). IsFromIterResult id_cmp (map pair_of entries) c.in_ok-last_of.field-0) (c.as_slice.ensures.value ∙ c.in_ok-entries.ensures) c.in_ok-last_of.ensures in
    let last : AreLast all (map entry_of c.in_ok-last_of.field-0.entries) = map_is_last all c.in_ok-last_of.field-0 made in
    IfOk-weaker c.entries_of.result (λ entries. entries.items ≡ map entry_of c.in_ok-last_of.field-0.entries) (λ entries. AreLast all entries.items) (λ entries is. subst (AreLast all) (sym is) last) c.entries_of.ensures
