use Rattle.std.proofs.Common.{◌≡◌, List, ℕ, ◌++◌, map, ◌∙◌, ap, sym, subst}
use Rattle.std.specs.List.{filter_map}
use Rattle.gb_text.specs.Folder.{joined}
use Rattle.gb_store.specs.Files.{History, IsListing, files_of}
use Rattle.packed_refs.specs.Packed.{heads_in}
use Rattle.packed_refs.specs.declared.packed.PackedHead.{PackedHead}
use Rattle.ref_store.specs.Listing.{AreLast, loose_named, packed_entry}
use Rattle.ref_store.specs.Refs.{packed_at}
use Rattle.ref_store.specs.declared.listing.RefEntry.{RefEntry}
use Rattle.ref_store.proofs.ListLemmas.{last_is_ref_list}
use Rattle.ref_store.proofs.listing.list.Goals as goal

pub returns-clause-entries : goal.returns-clause-entries
returns-clause-entries g c = λ tells.
    let files = files_of (g.S.Store.history c.args.disk.now) in
    let names = c.in_ok-names.names in
    let listing : IsListing files (joined c.args.folder.now c.args.dir.now) names =
    subst (λ (dir : List ℕ). IsListing files dir names) (c.as_str.ensures ∙ c.in_ok-at.ensures) (c.in_ok-names.ensures.names tells) in
    let loose : c.as_slice-3.result.now ≡ filter_map (loose_named files c.args.folder.now c.args.dir.now) names =
    c.as_slice-3.ensures.value ∙ c.in_ok-loose.ensures.entries tells
    ∙ ap (λ (h : History). filter_map (loose_named (files_of h) c.args.folder.now c.args.dir.now) c.as_slice.result.now) (c.in_ok-names.ensures.unwritten tells)
    ∙ ap (filter_map (loose_named files c.args.folder.now c.args.dir.now)) c.as_slice.ensures in
    let packed : c.as_slice-2.result.now ≡ heads_in c.args.dir.now (packed_at files c.args.folder.now) =
    c.as_slice-2.ensures.value ∙ c.in_ok-packed.ensures.heads tells
    ∙ ap (λ (h : History). heads_in c.args.dir.now (packed_at (files_of h) c.args.folder.now)) (c.in_ok-loose.ensures.unwritten tells ∙ c.in_ok-names.ensures.unwritten tells) in
    let all : map packed_entry c.as_slice-2.result.now ++ c.as_slice-3.result.now
    ≡ map packed_entry (heads_in c.args.dir.now (packed_at files c.args.folder.now)) ++ filter_map (loose_named files c.args.folder.now c.args.dir.now) names =
    ap (λ (heads : List PackedHead). map packed_entry heads ++ c.as_slice-3.result.now) packed
    ∙ ap (λ (entries : List RefEntry). map packed_entry (heads_in c.args.dir.now (packed_at files c.args.folder.now)) ++ entries) loose in
    let last : AreLast (map packed_entry (heads_in c.args.dir.now (packed_at files c.args.folder.now)) ++ filter_map (loose_named files c.args.folder.now c.args.dir.now) names) c.from_vec.result =
    subst (λ (entries : List RefEntry). AreLast entries c.from_vec.result) all
    (subst (AreLast (map packed_entry c.as_slice-2.result.now ++ c.as_slice-3.result.now)) (sym c.from_vec.ensures) c.in_ok-join.ensures) in
    last_is_ref_list files c.args.folder.now c.args.dir.now names c.from_vec.result listing last
