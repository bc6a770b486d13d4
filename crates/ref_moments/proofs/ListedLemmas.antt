-- Turns of the entities whose refs were listed on a side.
use Rattle.std.proofs.Common.{◌≡◌, ◌≢◌, ◌⊎◌, inl, inr, sym, ◌∙◌, ap, subst, ℕ, List, ◌∷◌, ◌++◌, Contains, map, Some}
use Rattle.std.proofs.lemmas.List.Elements.{Contains-append_left, Contains-append_right}
use Rattle.gb_text.specs.Digits.{IsId, IsName}
use Rattle.gb_text.specs.declared.id.Id.{Id}
use Rattle.gb_text.specs.declared.id.Name.{Name}
use Rattle.gb_store.specs.Files.{History, files_of}
use Rattle.gb_store.specs.Turns.{InTurn}
use Rattle.object_batch.proofs.ClashLemmas.{Contains-first}
use Rattle.ref_store.proofs.FrameLemmas.{head_is_name}
use Rattle.repo_state.specs.Listed.{AreRefs, ref_with}
use Rattle.repo_state.specs.Sides.{head_at, ref_place}
use Rattle.repo_state.specs.declared.refs.EntityRef.{EntityRef}
use Rattle.repo_state.specs.declared.side.Side.{Side}
use Rattle.repo_state.proofs.ListingLemmas.{Contains-map}
use Rattle.repo_state.proofs.PlaceLemmas.{ref_place-same, ref_place-side}
use Rattle.ref_moments.specs.Once.{StaysSame}
use Rattle.ref_moments.proofs.TurnLemmas.{AllApart, AtTurn, Once, Sets, Turned, at_turn, front_apart, middle_apart, refs_apart, sets_then, then_sets, turned, turned_end}

-- the ref of an entity was listed on a side
abbrev pub IsListed : History → List ℕ → Side → EntityRef → Type 0
IsListed entry source from entity = IsId entity.id × (head_at (files_of entry) source from entity.id ≡ ref_with entity.head)

-- its head is a name
pub listed_name : (entry : History) (source : List ℕ) (from : Side) (entity : EntityRef) → IsListed entry source from entity → (name : Name) → entity.head ≡ Some name → IsName name
listed_name entry source from entity listed name is = head_is_name (files_of entry) source (ref_place from entity.id) name (listed.1 ∙ ap ref_with is)

-- one place is of one side and of one id
pub placed_id : (to of : Side) (mine id : Id) → IsId mine → IsId id → ref_place to mine ≡ ref_place of id → (of ≡ to) × (mine ≡ id)
placed_id to of mine id sized is_id place =
    let side = ref_place-side to of mine id place in (
      sym side,
      ref_place-same to mine id sized is_id (place ∙ ap (λ (s : Side). ref_place s id) (sym side)),
    )

-- and no two sides have it
pub other_side : (one two of : Side) (mine other id : Id) → one ≢ two → ref_place one mine ≡ ref_place of id → ref_place two other ≡ ref_place of id → ⊥
other_side one two of mine other id differ first second = differ (ref_place-side one of mine id first ∙ sym (ref_place-side two of other id second))

module _ (entry : History) (source : List ℕ) (from : Side) (target : List ℕ) (to of : Side) (id : Id) (Heads : EntityRef → Name → Type 0) where
  -- the ref is set in the turn of an entity that was listed
  pub record SetBy (before after : History) : Type 0 where
    pub entity : EntityRef
    pub listed : IsListed entry source from entity
    pub sets : Sets target to of id Heads entity before after

  -- the ref stays, or is set so
  abbrev pub OnceBy : History → History → Type 0
  OnceBy before after = StaysSame target of id before after ⊎ SetBy before after

  abbrev Listed : EntityRef → Type 0
  Listed entity = IsListed entry source from entity

  pub sized : (entity : EntityRef) → IsListed entry source from entity → IsId entity.id
  sized entity listed = listed.0

  -- what was set stays then
  pub set_by_then : (old mid new : History) → SetBy old mid → StaysSame target of id mid new → SetBy old new
  set_by_then old mid new by stays = record { entity = by.entity; listed = by.listed; sets = sets_then target to of id Heads by.entity old mid new by.sets stays }

  -- what stays is set then
  pub then_set_by : (old mid new : History) → StaysSame target of id old mid → SetBy mid new → SetBy old new
  then_set_by old mid new stays by = record { entity = by.entity; listed = by.listed; sets = then_sets target to of id Heads by.entity old mid new stays by.sets }

  module _ {A : Type 0} (ref_of : A → EntityRef) (Step : A → History → History → Type 0)
      (each : (item : A) (before after : History) → IsListed entry source from (ref_of item) → Step item before after → Once target to of id Heads (ref_of item) before after)
      (refs : List EntityRef) (are : AreRefs (files_of entry) source from refs) where
    came : (before after : History) → Turned target to of id Heads ref_of Step Listed sized each before after → OnceBy before after
    came before after (inl stays) = inl stays
    came before after (inr (entity, listed, sets)) = inr (record { entity = entity; listed = listed; sets = sets })

    apart : AllApart refs
    apart = refs_apart (files_of entry) source from refs are

    listed_in : (entity : EntityRef) → Contains refs entity → Listed entity
    listed_in entity c = (are.members entity).0 c

    module _ (turns : List A) (is : map ref_of turns ≡ refs) where
      pub turns_listed : (item : A) → Contains turns item → Listed (ref_of item)
      turns_listed item c = listed_in (ref_of item) (subst (λ (es : List EntityRef). Contains es (ref_of item)) is (Contains-map ref_of turns item c))

      turns_apart : AllApart (map ref_of turns)
      turns_apart = subst AllApart (sym is) apart

      -- all turns
      pub went_once : (before after : History) → InTurn Step turns before after → OnceBy before after
      went_once before after went = came before after (turned target to of id Heads ref_of Step Listed sized each turns turns_listed turns_apart before after went)

      -- one of them, of the entity whose ref this is
      pub turn_at : (item : A) → Contains turns item → ref_place to (ref_of item).id ≡ ref_place of id → (before after : History) → InTurn Step turns before after
          → AtTurn target to of id Heads ref_of Step Listed sized each item before after
      turn_at item c place before after went = at_turn target to of id Heads ref_of Step Listed sized each turns turns_listed turns_apart item c place before after went

    module _ (done : List A) (at : EntityRef) (rest : List EntityRef) (is : refs ≡ map ref_of done ++ at ∷ rest) where
      among : (entity : EntityRef) → Contains (map ref_of done ++ at ∷ rest) entity → Listed entity
      among entity c = listed_in entity (subst (λ (es : List EntityRef). Contains es entity) (sym is) c)

      pub end_listed : Listed at
      end_listed = among at (Contains-append_right (map ref_of done) (at ∷ rest) at (Contains-first at rest))

      all_apart : AllApart (map ref_of done ++ at ∷ rest)
      all_apart = subst AllApart is apart

      -- the turns before the entity at which the call ended
      pub ended_once : (before mid after : History) → InTurn Step done before mid → Once target to of id Heads at mid after → OnceBy before after
      ended_once before mid after went ends =
          came before after
          (turned_end target to of id Heads ref_of Step Listed sized each done at
          (λ item c. among (ref_of item) (Contains-append_left (map ref_of done) (at ∷ rest) (ref_of item) (Contains-map ref_of done item c))) end_listed
          (front_apart (map ref_of done) (at ∷ rest) all_apart) (middle_apart (map ref_of done) at rest all_apart) before mid after went ends)
