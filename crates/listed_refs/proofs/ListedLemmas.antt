-- What a listing says of an id, and for how long.
use Rattle.std.proofs.Common.{◌≡◌, ◌≢◌, ◌<◌, ◌∙◌, refl, sym, ap, arith, ℕ, List, Contains, length, map, take, get_or, subst, Option, Some, None, Ok, Err}
use Rattle.std.proofs.lemmas.List.{get_or-map, get_or-take, get_or_default, length-map, length-take-le}
use Rattle.std.proofs.lemmas.Simd.{map-map}
use Rattle.std.specs.Cmp.Lexicographic.{slice_cmp}
use Rattle.std.specs.List.Sorted.{IsStrictlySortedBy}
use Rattle.std.specs.Ordering.{nat_cmp}
use Rattle.gb_text.specs.Folder.{joined}
use Rattle.gb_text.specs.declared.id.Id.{Id}
use Rattle.gb_text.specs.declared.id.Name.{Name}
use Rattle.gb_store.specs.Files.{Files}
use Rattle.ref_store.specs.Refs.{Ref, Absent, Head, Bad}
use Rattle.ref_store.proofs.ListLemmas.{ids_differ}
use Rattle.repo_state.specs.Answers.{EntityAnswers, IsHeadAt, IsRefOf, Reads, WholeAnswers}
use Rattle.repo_state.specs.Listed.{AreRefs, ref_with}
use Rattle.repo_state.specs.Sides.{IsBadRef, head_at, ref_place}
use Rattle.repo_state.specs.declared.refs.EntityRef.{EntityRef}
use Rattle.repo_state.specs.declared.side.Side.{Side}
use Rattle.repo_state.specs.declared.stop.ReadStop.{ReadStop}
use Rattle.repo_state.specs.declared.stop.ReadStop.TheVariants as stop
use Rattle.repo_state.proofs.ListingLemmas.{Contains-map}
use Rattle.listed_refs.specs.AsListed.{AreAsListed, IsAsListed}
use Rattle.listed_refs.specs.declared.listed.ListedSide.{ListedSide}

-- ---- one id

-- the entry of an id says what its ref is
pub stands : (files : Files) (folder : List ℕ) (listed : ListedSide) (entity : EntityRef) (id : Id) → IsAsListed files folder listed id → Contains listed.refs entity → entity.id ≡ id
    → EntityAnswers files folder listed.side id (Ok (Some entity))
stands files folder listed entity id alike has is =
    (is, by entity.head (alike.same ∙ ap (head_at alike.before folder listed.side) (sym is) ∙ ((alike.are.members entity).0 has).1))
  where
    by : (head : Option Name) → head_at files folder listed.side id ≡ ref_with head → IsRefOf (head_at files folder listed.side id) head
    by None at = at
    by (Some name) at = at

-- where an id has no entry, its ref does not stand
pub is_absent : (files : Files) (folder : List ℕ) (listed : ListedSide) (id : Id) → IsAsListed files folder listed id → ((entity : EntityRef) → Contains listed.refs entity → entity.id ≡ id → ⊥)
    → head_at files folder listed.side id ≡ Absent
is_absent files folder listed id alike none = alike.same ∙ by (head_at alike.before folder listed.side id) refl
  where
    has : (head : Option Name) → head_at alike.before folder listed.side id ≡ ref_with head → ⊥
    has head at = none (record { id = id; head = head }) ((alike.are.members (record { id = id; head = head })).1 (alike.is_id, at)) refl

    by : (ref : Ref) → head_at alike.before folder listed.side id ≡ ref → ref ≡ Absent
    by Absent at = refl
    by (Head name) at = absurd (has (Some name) at)
    by Bad at = absurd (has None at)

-- what a ref that stands is, as its head
pub head_of_ref : (files : Files) (folder : List ℕ) (of : Side) (id : Id) (entity : EntityRef) (name : Name) → EntityAnswers files folder of id (Ok (Some entity)) → entity.head ≡ Some name
    → IsHeadAt files folder of id (Some name)
head_of_ref files folder of id entity name told is = by entity.head is told.1
  where
    by : (head : Option Name) → head ≡ Some name → IsRefOf (head_at files folder of id) head → head_at files folder of id ≡ Head name
    by None is at = absurd cc
    by (Some one) is at = let same : one ≡ name = cc in at ∙ ap Head same

-- a ref that is no ref text, where an entity without a head was not taken
pub bad_told : (files : Files) (folder : List ℕ) (of : Side) (id : Id) (entity : EntityRef) (why : ReadStop) → EntityAnswers files folder of id (Ok (Some entity)) → WholeAnswers folder of entity (Err why)
    → Reads (IsHeadAt files folder of id) (IsBadRef files folder of id) (Err why)
bad_told files folder of id entity stop.Memory told not_whole = tt
bad_told files folder of id entity stop.Disk told not_whole = absurd not_whole
bad_told files folder of id entity (stop.Damaged path) told not_whole = (
  not_whole.1 ∙ ap (λ (one : Id). joined folder (ref_place of one)) told.0,
  subst (IsRefOf (head_at files folder of id)) not_whole.0 told.1,
)

-- ---- many ids

module _ (folder : List ℕ) (listed : ListedSide) where
  -- refs that stand are as they are listed
  pub as_listed : (files other_files : Files) (other : List ℕ) (of : Side) (refs : List EntityRef) → AreRefs other_files other of refs → AreRefs files folder listed.side listed.refs → AreAsListed files folder listed refs
  as_listed files other_files other of refs others are = record {
    rising = others.rising;
    each = λ e has. record { before = files; are = are; is_id = ((others.members e).0 has).0; same = refl };
  }

  -- and so where nothing changed of one
  pub still : (old new : Files) (id : Id) → head_at new folder listed.side id ≡ head_at old folder listed.side id → IsAsListed old folder listed id → IsAsListed new folder listed id
  still old new id kept alike = record { before = alike.before; are = alike.are; is_id = alike.is_id; same = kept ∙ alike.same }

  -- nor of any
  pub all_still : (old new : Files) (refs : List EntityRef) → ((id : Id) → head_at new folder listed.side id ≡ head_at old folder listed.side id) → AreAsListed old folder listed refs → AreAsListed new folder listed refs
  all_still old new refs kept alike = record { rising = alike.rising; each = λ e has. still old new e.id (kept e.id) (alike.each e has) }

-- refs that rise are of different ids
pub ids_apart : (refs : List EntityRef) (i j : ℕ) (d : EntityRef) → IsStrictlySortedBy (slice_cmp nat_cmp) (map (λ (e : EntityRef). e.id.bytes) refs) → i < j → j < length refs → (get_or refs i d).id ≢ (get_or refs j d).id
ids_apart refs i j d rising lt within same =
    let ids = map (λ (e : EntityRef). e.id) refs in
    let rises : IsStrictlySortedBy (slice_cmp nat_cmp) (map (λ (id : Id). id.bytes) ids) = subst (IsStrictlySortedBy (slice_cmp nat_cmp)) (sym (map-map (λ (id : Id). id.bytes) (λ (e : EntityRef). e.id) refs)) rising in
    let size : length ids ≡ length refs = length-map refs (λ (e : EntityRef). e.id) in
    let first : get_or ids i d.id ≡ (get_or refs i d).id = get_or-map (λ (e : EntityRef). e.id) refs i d d.id (omega arith) in
    let second : get_or ids j d.id ≡ (get_or refs j d).id = get_or-map (λ (e : EntityRef). e.id) refs j d d.id within in
    ids_differ ids rises i j d.id lt (omega arith) (first ∙ same ∙ sym second)

-- what had its turn among refs that rise is one of them, and of another id than the next
pub had_another : {T : Type 0} (entity_of : T → EntityRef) (refs : List EntityRef) (i : ℕ) (d : EntityRef) (turns : List T) → IsStrictlySortedBy (slice_cmp nat_cmp) (map (λ (e : EntityRef). e.id.bytes) refs) → i < length refs
    → map entity_of turns ≡ take i refs → (turn : T) → Contains turns turn → Contains refs (entity_of turn) × ((entity_of turn).id ≢ (get_or refs i d).id)
had_another entity_of refs i d turns rising within are turn has =
    let entity = entity_of turn in
    let taken : Contains (take i refs) entity = subst (λ (es : List EntityRef). Contains es entity) are (Contains-map entity_of turns turn has) in
    let j = taken.0 in
    let size : length (take i refs) ≡ i = length-take-le i refs (omega arith) in
    let early : j < i = omega (arith, taken.1, size) in
    let at : get_or refs j entity ≡ entity = sym (get_or-take i refs j entity early) ∙ taken.2 in
    let apart : (get_or refs j entity).id ≢ (get_or refs i entity).id = ids_apart refs j i entity rising early within in (
      (j, omega (arith, early, within), at),
      λ same. apart (ap (λ (e : EntityRef). e.id) at ∙ same ∙ ap (λ (e : EntityRef). e.id) (get_or_default refs i d entity within)),
    )
