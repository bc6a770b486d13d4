use Rattle.std.proofs.Common.{◌≡◌, List, ℕ, ◌++◌, map, ◌∙◌, ap, sym, subst}
use Rattle.std.specs.List.{filter_map}
use Rattle.gb_text.specs.Digits.{id_of}
use Rattle.gb_text.specs.Folder.{joined}
use Rattle.gb_text.specs.declared.id.Id.{Id}
use Rattle.gb_store.specs.Files.{History, IsListing, files_of}
use Rattle.packed_refs.specs.Packed.{heads_in}
use Rattle.packed_refs.specs.declared.packed.PackedHead.{PackedHead}
use Rattle.ref_store.specs.Listing.{AreSorted}
use Rattle.ref_store.specs.Refs.{packed_at}
use Rattle.ref_store.proofs.ListLemmas.{sorted_is_id_list}
use Rattle.ref_store.proofs.id_list.ids.Goals as goal

pub returns-clause-ids : goal.returns-clause-ids
returns-clause-ids g c = λ tells.
    let files = files_of (g.S.Store.history c.args.disk.now) in
    let names = c.in_ok-names.names in
    let listing : IsListing files (joined c.args.folder.now c.args.dir.now) names =
    subst (λ (dir : List ℕ). IsListing files dir names) (c.as_str.ensures ∙ c.in_ok-at.ensures) (c.in_ok-names.ensures.names tells) in
    let packed : c.as_slice-2.result.now ≡ heads_in c.args.dir.now (packed_at files c.args.folder.now) =
    c.as_slice-2.ensures.value ∙ c.in_ok-packed.ensures.heads tells
    ∙ ap (λ (h : History). heads_in c.args.dir.now (packed_at (files_of h) c.args.folder.now)) (c.in_ok-names.ensures.unwritten tells) in
    let all : filter_map id_of c.as_slice.result.now ++ map (λ (one : PackedHead). one.id) c.as_slice-2.result.now
    ≡ filter_map id_of names ++ map (λ (one : PackedHead). one.id) (heads_in c.args.dir.now (packed_at files c.args.folder.now)) =
    ap (λ (ns : List (List ℕ)). filter_map id_of ns ++ map (λ (one : PackedHead). one.id) c.as_slice-2.result.now) c.as_slice.ensures
    ∙ ap (λ (heads : List PackedHead). filter_map id_of names ++ map (λ (one : PackedHead). one.id) heads) packed in
    let sorted : AreSorted (filter_map id_of names ++ map (λ (one : PackedHead). one.id) (heads_in c.args.dir.now (packed_at files c.args.folder.now))) c.from_vec.result =
    subst (λ (ids : List Id). AreSorted ids c.from_vec.result) all
    (subst (AreSorted (filter_map id_of c.as_slice.result.now ++ map (λ (one : PackedHead). one.id) c.as_slice-2.result.now)) (sym c.from_vec.ensures) c.in_ok-sorted_ids.ensures) in
    sorted_is_id_list files c.args.folder.now c.args.dir.now names c.from_vec.result listing sorted
