use Rattle.std.proofs.Common.{rules, ◌<◌, List, [], None, Contains, sym, ap, subst, map, get_or, length}
use Rattle.std.proofs.lemmas.Fn.{always_returns_same}
use Rattle.std.proofs.lemmas.List.Elements.{Contains-get_or}
use Rattle.std.specs.Cmp.Lexicographic.{slice_cmp}
use Rattle.std.specs.List.Sorted.{IsStrictlySortedBy}
use Rattle.std.specs.Ordering.{nat_cmp}
use Rattle.gb_text.specs.declared.id.Id.{Id}
use Rattle.ref_store.proofs.ListLemmas.{same_id}
use Rattle.repo_state.specs.declared.refs.EntityRef.{EntityRef}
use Rattle.listed_refs.proofs.ListedLemmas.{is_absent, stands}
use Rattle.listed_refs.proofs.SearchLemmas.{found_is, none_is}
use Rattle.listed_refs.proofs.listed.ListedSide.entity.Goals as goal

none : EntityRef
none = record { id = record { bytes = [] }; head = None }

pub returns-in-Ok : goal.returns-in-Ok
unfolding none
returns-in-Ok c = λ files folder alike.
    let refs = c.as_slice-refs.result.now in
    let id = c.args.id.now in
    let place = c.in-Ok.place in
    let within : place < length refs = search rules in
    let found = c.in-Ok.ensures.position (λ (e : EntityRef). slice_cmp nat_cmp e.id.bytes id.bytes) (always_returns_same _ _ _ (λ a r f called. (search rules, search rules))) in
    stands files folder c.args.self.now (get_or refs place none) id alike
    (subst (λ (es : List EntityRef). Contains es (get_or refs place none)) c.as_slice-refs.ensures (Contains-get_or refs place none within))
    (same_id (get_or refs place none).id id (found_is (λ (e : EntityRef). e.id.bytes) id.bytes refs place none found))

pub returns-in-Err : goal.returns-in-Err
returns-in-Err c = λ files folder alike.
    let refs = c.as_slice-refs.result.now in
    let id = c.args.id.now in
    let same = sym c.as_slice-refs.ensures in
    let missed = c.in-Err.ensures.position (λ (e : EntityRef). slice_cmp nat_cmp e.id.bytes id.bytes) (always_returns_same _ _ _ (λ a r f called. (search rules, search rules))) in
    let rising = subst (λ (es : List EntityRef). IsStrictlySortedBy (slice_cmp nat_cmp) (map (λ (e : EntityRef). e.id.bytes) es)) same alike.are.rising in
    is_absent files folder c.args.self.now id alike
    (λ entity has is. none_is (λ (e : EntityRef). e.id.bytes) id.bytes refs c.in-Err.field-0 rising missed entity (subst (λ (es : List EntityRef). Contains es entity) same has) (ap (λ (i : Id). i.bytes) is))
