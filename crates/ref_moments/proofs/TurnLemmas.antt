-- Turns of different entities on one side: each ref changes in one of them at most.
use Rattle.std.proofs.Common.{◌≡◌, ◌≢◌, ◌⊎◌, inl, inr, refl, sym, ◌∙◌, ap, subst, arith, ℕ, zero, suc, List, [], ◌∷◌, ◌++◌, Contains, map}
use Rattle.std.specs.Prelude.{⊤}
use Rattle.std.specs.List.{AllPairs}
use Rattle.std.specs.List.Sorted.{IsStrictlySortedBy}
use Rattle.std.specs.Cmp.Lexicographic.{slice_cmp}
use Rattle.std.specs.Ordering.{nat_cmp}
use Rattle.std.proofs.lemmas.Simd.{map-map}
use Rattle.gb_text.specs.Digits.{IsId}
use Rattle.gb_text.specs.declared.id.Id.{Id}
use Rattle.gb_text.specs.declared.id.Name.{Name}
use Rattle.gb_store.specs.Files.{Files, History}
use Rattle.gb_store.specs.Turns.{InTurn}
use Rattle.object_batch.proofs.ClashLemmas.{Contains-first, Contains-later}
use Rattle.ref_store.proofs.ListLemmas.{ids_differ}
use Rattle.repo_state.specs.Listed.{AreRefs}
use Rattle.repo_state.specs.Sides.{ref_place}
use Rattle.repo_state.specs.declared.refs.EntityRef.{EntityRef}
use Rattle.repo_state.specs.declared.side.Side.{Side}
use Rattle.repo_state.proofs.ListingLemmas.{Contains-map}
use Rattle.repo_state.proofs.PlaceLemmas.{ref_place-same}
use Rattle.ref_moments.specs.Once.{IsSetOnce, StaysSame}
use Rattle.ref_moments.proofs.OnceLemmas.{set_then, stays_none, stays_then, then_set}

-- ---- entities, each of another id than the others

abbrev pub AllApart : List EntityRef → Type 0
AllApart [] = ⊤
AllApart (one ∷ later) = ((other : EntityRef) → Contains later other → one.id ≢ other.id) × AllApart later

-- of ids each of which differs from the others
apart_of : (refs : List EntityRef) → AllPairs (λ (one other : Id). one ≢ other) (map (λ (e : EntityRef). e.id) refs) → AllApart refs
apart_of [] pairs = tt
apart_of (one ∷ later) pairs = (
  λ other c same.
      let at = Contains-map (λ (e : EntityRef). e.id) later other c in
      pairs 0 (suc at.0) other.id (omega arith) (omega (arith, at.1)) (same ∙ sym at.2),
  apart_of later (λ i j d before within. pairs (suc i) (suc j) d (omega (arith, before)) (omega (arith, within))),
)

-- so are the refs of a side
pub refs_apart : (files : Files) (folder : List ℕ) (of : Side) (refs : List EntityRef) → AreRefs files folder of refs → AllApart refs
refs_apart files folder of refs are =
    let rising = subst (IsStrictlySortedBy (slice_cmp nat_cmp)) (sym (map-map (λ (id : Id). id.bytes) (λ (e : EntityRef). e.id) refs)) are.rising in
    apart_of refs (ids_differ (map (λ (e : EntityRef). e.id) refs) rising)

-- the first of them
pub front_apart : (first rest : List EntityRef) → AllApart (first ++ rest) → AllApart first
front_apart [] rest all = tt
front_apart (one ∷ first) rest all = (λ other c. all.0 other (among first rest other c), front_apart first rest all.1)
  where
    among : (xs ys : List EntityRef) (x : EntityRef) → Contains xs x → Contains (xs ++ ys) x
    among [] ys x (k, lt, e) = absurd (omega arith)
    among (y ∷ xs) ys x (zero, lt, e) = subst (λ (z : EntityRef). Contains (y ∷ (xs ++ ys)) z) e (Contains-first y (xs ++ ys))
    among (y ∷ xs) ys x (suc k, lt, e) = Contains-later y (xs ++ ys) x (among xs ys x (k, omega (arith, lt), e))

-- each of the first from the one behind them
pub middle_apart : (first : List EntityRef) (at : EntityRef) (rest : List EntityRef) → AllApart (first ++ at ∷ rest) → (one : EntityRef) → Contains first one → one.id ≢ at.id
middle_apart [] at rest all one (k, lt, e) = absurd (omega arith)
middle_apart (x ∷ first) at rest all one (zero, lt, e) = subst (λ (z : EntityRef). z.id ≢ at.id) e (all.0 at (behind first))
  where
    behind : (xs : List EntityRef) → Contains (xs ++ at ∷ rest) at
    behind [] = Contains-first at rest
    behind (y ∷ xs) = Contains-later y (xs ++ at ∷ rest) at (behind xs)
middle_apart (x ∷ first) at rest all one (suc k, lt, e) = middle_apart first at rest all.1 one (k, omega (arith, lt), e)

-- ---- the ref of an id

module _ (folder : List ℕ) (to of : Side) (id : Id) (Heads : EntityRef → Name → Type 0) where
  abbrev Stays : History → History → Type 0
  Stays old new = StaysSame folder of id old new

  -- the ref is that of an entity, and is set to a head that the entity may get
  pub record Sets (entity : EntityRef) (old new : History) : Type 0 where
    pub head : Name
    pub is_head : Heads entity head
    pub place : ref_place to entity.id ≡ ref_place of id
    pub set : IsSetOnce folder of id head old new

  -- what comes of the ref in the turn of an entity
  abbrev pub Once : EntityRef → History → History → Type 0
  Once entity old new = StaysSame folder of id old new ⊎ Sets entity old new

  -- what is set, and stays then
  pub sets_then : (entity : EntityRef) (old mid new : History) → Sets entity old mid → Stays mid new → Sets entity old new
  sets_then entity old mid new sets on = record { head = sets.head; is_head = sets.is_head; place = sets.place; set = set_then folder of id sets.head old mid new sets.set on }

  -- what stays, and is set then
  pub then_sets : (entity : EntityRef) (old mid new : History) → Stays old mid → Sets entity mid new → Sets entity old new
  then_sets entity old mid new stays sets = record { head = sets.head; is_head = sets.is_head; place = sets.place; set = then_set folder of id sets.head old mid new stays sets.set }

  module _ {A : Type 0} (ref_of : A → EntityRef) (Step : A → History → History → Type 0) (Listed : EntityRef → Type 0) (sized : (entity : EntityRef) → Listed entity → IsId entity.id)
      (each : (item : A) (old new : History) → Listed (ref_of item) → Step item old new → Once (ref_of item) old new) where
    abbrev AreListed : List A → Type 0
    AreListed items = (item : A) → Contains items item → Listed (ref_of item)

    abbrev AreOthers : List A → Type 0
    AreOthers items = (item : A) → Contains items item → ref_place to (ref_of item).id ≢ ref_place of id

    -- a turn of another entity leaves the ref
    other_stays : (item : A) (old new : History) → Listed (ref_of item) → ref_place to (ref_of item).id ≢ ref_place of id → Step item old new → Stays old new
    other_stays item old new listed differs step = elim (each item old new listed step) [ inl stays ↦ stays | inr sets ↦ absurd (differs sets.place) ]

    -- so do turns of others
    pub others_stay : (items : List A) → AreListed items → AreOthers items → (old new : History) → InTurn Step items old new → Stays old new
    others_stay [] listed others old new same = stays_none folder of id old new same
    others_stay (item ∷ items) listed others old new (mid, step, rest) =
        stays_then folder of id old mid new (other_stays item old mid (listed item (Contains-first item items)) (others item (Contains-first item items)) step)
        (others_stay items (λ x c. listed x (Contains-later item items x c)) (λ x c. others x (Contains-later item items x c)) mid new rest)

    -- those behind an entity whose ref this is are others
    behind : (item : A) (items : List A) → AreListed (item ∷ items) → AllApart (map ref_of (item ∷ items)) → ref_place to (ref_of item).id ≡ ref_place of id → AreOthers items
    behind item items listed apart place x c same =
        apart.0 (ref_of x) (Contains-map ref_of items x c)
        (ref_place-same to (ref_of item).id (ref_of x).id (sized (ref_of item) (listed item (Contains-first item items)))
        (sized (ref_of x) (listed x (Contains-later item items x c))) (place ∙ sym same))

    -- what came of the ref by turns: it stays, or is set in the turn of its entity
    abbrev pub Turned : History → History → Type 0
    Turned old new = StaysSame folder of id old new ⊎ ((entity : EntityRef) × Listed entity × Sets entity old new)

    pub turned : (items : List A) → AreListed items → AllApart (map ref_of items) → (old new : History) → InTurn Step items old new → Turned old new
    turned [] listed apart old new same = inl (stays_none folder of id old new same)
    turned (item ∷ items) listed apart old new (mid, step, rest) =
        by (each item old mid (listed item (Contains-first item items)) step) (turned items (λ x c. listed x (Contains-later item items x c)) apart.1 mid new rest)
      where
        by : Once (ref_of item) old mid → Turned mid new → Turned old new
        by (inl stays) (inl on) = inl (stays_then folder of id old mid new stays on)
        by (inl stays) (inr sets) = inr (sets.0, sets.1, then_sets sets.0 old mid new stays sets.2)
        by (inr sets) on =
            inr (
              ref_of item,
              listed item (Contains-first item items),
              sets_then (ref_of item) old mid new sets
                  (others_stay items (λ x c. listed x (Contains-later item items x c)) (behind item items listed apart sets.place) mid new rest),
            )

    -- the same where the call ended at an entity behind them
    pub turned_end : (items : List A) (at : EntityRef) → AreListed items → Listed at → AllApart (map ref_of items) → ((one : EntityRef) → Contains (map ref_of items) one → one.id ≢ at.id)
        → (old mid new : History) → InTurn Step items old mid → Once at mid new → Turned old new
    turned_end items at listed ended apart before old mid new went (inl stays) = elim (turned items listed apart old mid went) [
      | inl on ↦ inl (stays_then folder of id old mid new on stays)
      | inr sets ↦ inr (sets.0, sets.1, sets_then sets.0 old mid new sets.2 stays)
    ]
    turned_end items at listed ended apart before old mid new went (inr sets) =
        inr (
          at,
          ended,
          then_sets at old mid new
              (others_stay items listed
              (λ x c same. before (ref_of x) (Contains-map ref_of items x c)
              (ref_place-same to (ref_of x).id at.id (sized (ref_of x) (listed x c)) (sized at ended) (same ∙ sym sets.place))) old mid went) sets,
        )

    -- a turn among others, of the entity whose ref this is: it stays before and behind
    pub record AtTurn (item : A) (old new : History) : Type 0 where
      pub before : History
      pub after : History
      pub early : StaysSame folder of id old before
      pub step : Step item before after
      pub late : StaysSame folder of id after new

    pub at_turn : (items : List A) → AreListed items → AllApart (map ref_of items) → (item : A) → Contains items item → ref_place to (ref_of item).id ≡ ref_place of id
        → (old new : History) → InTurn Step items old new → AtTurn item old new
    at_turn [] listed apart item (k, lt, e) place old new went = absurd (omega arith)
    at_turn (first ∷ items) listed apart item (zero, lt, e) place old new (mid, step, rest) =
        let is : first ≡ item = e in
        record {
          before = old;
          after = mid;
          early = stays_none folder of id old old refl;
          step = subst (λ (x : A). Step x old mid) is step;
          late = others_stay items (λ x c. listed x (Contains-later first items x c))
              (behind first items listed apart (ap (λ (x : A). ref_place to (ref_of x).id) is ∙ place)) mid new rest;
        }
    at_turn (first ∷ items) listed apart item (suc k, lt, e) place old new (mid, step, rest) =
        let c : Contains items item = (k, omega (arith, lt), e) in
        let ih = at_turn items (λ x d. listed x (Contains-later first items x d)) apart.1 item c place mid new rest in
        record {
          before = ih.before;
          after = ih.after;
          early = stays_then folder of id old mid ih.before
              (other_stays first old mid (listed first (Contains-first first items))
              (λ same. apart.0 (ref_of item) (Contains-map ref_of items item c)
              (ref_place-same to (ref_of first).id (ref_of item).id (sized (ref_of first) (listed first (Contains-first first items)))
              (sized (ref_of item) (listed item (Contains-later first items item c))) (same ∙ sym place))) step) ih.early;
          step = ih.step;
          late = ih.late;
        }
