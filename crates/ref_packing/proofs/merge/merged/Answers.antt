use Rattle.std.proofs.Common.{◌≡◌, ◌++◌, map, List, sym, subst}
use Rattle.std.proofs.lemmas.Result.{IfOk-weaker}
use Rattle.std.specs.BTreeMap.{IsFromIterResult}
use Rattle.packed_refs.specs.Packed.{PackedRef}
use Rattle.ref_packing.specs.Merging.{name_cmp, pair_of, ref_of_pair}
use Rattle.ref_packing.specs.Packing.{AreLast}
use Rattle.ref_packing.proofs.MergeLemmas.{map_is_last}
use Rattle.ref_packing.proofs.merge.merged.Goals as goal

pub returns : goal.returns
returns c =
    let all = c.args.before ++ c.args.taken.now in
    let made : IsFromIterResult name_cmp (map pair_of all) c.in_ok-last_of.field-0 =
    subst (λ (refs : List PackedRef). IsFromIterResult name_cmp (map pair_of refs) c.in_ok-last_of.field-0) c.in_ok-all.ensures c.in_ok-last_of.ensures in
    let last : AreLast all (map ref_of_pair c.in_ok-last_of.field-0.entries) = map_is_last all c.in_ok-last_of.field-0 made in
    IfOk-weaker c.lines_of.result (λ lines. lines.items ≡ map ref_of_pair c.in_ok-last_of.field-0.entries) (λ lines. AreLast all lines.items) (λ lines is. subst (AreLast all) (sym is) last) c.lines_of.ensures
