-- Where an exchange ends at damage, it ends at a bad ref.
use Rattle.std.proofs.Common.{◌≡◌, inl, inr, refl, sym, ◌∙◌, ap, subst, arith, ℕ, Bool, true, false, List, [], ◌∷◌, ◌++◌, Contains, map, Option, Some, None, Err}
use Rattle.std.proofs.lemmas.List.{map-append}
use Rattle.std.proofs.lemmas.List.Elements.{Contains-append_left, Contains-append_right}
use Rattle.gb_text.specs.Digits.{IsId}
use Rattle.gb_text.specs.Folder.{joined}
use Rattle.gb_text.specs.declared.id.Id.{Id}
use Rattle.gb_text.specs.declared.id.Name.{Name}
use Rattle.gb_store.specs.Files.{Files, History, files_of, written}
use Rattle.ref_store.specs.Refs.{Head, Bad}
use Rattle.ref_store.specs.Setting.{ref_write}
use Rattle.remote_name.specs.declared.remote.RemoteName.{RemoteName}
use Rattle.repo_state.specs.Listed.{AreRefs}
use Rattle.repo_state.specs.Sides.{head_at, ref_place}
use Rattle.repo_state.specs.declared.refs.EntityRef.{EntityRef}
use Rattle.repo_state.specs.declared.side.Side.{Side}
use Rattle.repo_state.specs.declared.stop.ReadStop.{ReadStop}
use Rattle.repo_state.specs.declared.stop.ReadStop.TheVariants as stop
use Rattle.repo_state.proofs.ListingLemmas.{Contains-map}
use Rattle.sync_steps.specs.Fetching.{FetchAnswers, FetchStops, Fetches, IsBadTracking}
use Rattle.sync_steps.specs.Places.{local_side, tracking_side}
use Rattle.sync_steps.specs.Pushing.{IsBadLocal, PushAnswers, PushStops, Pushes}
use Rattle.sync_steps.specs.Turns.{Ended, Turn, are_held, entities_of}
use Rattle.sync_steps.specs.declared.line.EntityWord.{EntityWord}
use Rattle.sync_steps.specs.declared.line.EntityWord.TheVariants as word
use Rattle.sync_steps.specs.declared.line.Outcome.TheVariants as outcome
use Rattle.sync_steps.proofs.FetchedLemmas.{turn_leaves}
use Rattle.sync_steps.proofs.SetLemmas.{AllOnce, NoneIs, id_of, none_among, once_of_refs, sides_leave, turns_leave}
use Rattle.sync_steps.proofs.WriteLemmas.{IsListed}

-- ---- the turns before the entity at which a call ended

-- the turns before one are of other entities
none_before : (done : List Turn) (turn : Turn) (rest : List Turn) → AllOnce (done ++ turn ∷ rest) → NoneIs (id_of turn) done
none_before [] turn rest once = tt
none_before (first ∷ done) turn rest once = (
  λ same. none_among (id_of first) (done ++ turn ∷ rest) once.0 turn (Contains-append_right done (turn ∷ rest) turn (0, omega arith, refl)) (sym same),
  none_before done turn rest once.1,
)

-- an entity, as if it had a turn
abbrev as_turn : EntityRef → Turn
as_turn entity = record { entity = entity; outcome = outcome.Same }

entities_as : (refs : List EntityRef) → entities_of (map as_turn refs) ≡ refs
entities_as [] = refl
entities_as (entity ∷ refs) = ap (λ (them : List EntityRef). entity ∷ them) (entities_as refs)

module _ (entry : History) (source : List ℕ) (word : EntityWord) (Step : Turn → History → History → Type 0) (Stops : ReadStop → EntityRef → History → History → Type 0) (why : ReadStop)
    (refs : List EntityRef) (are : AreRefs (files_of entry) source (local_side word) refs) (old new : History) (ended : Ended Step Stops why refs old new) where
  among : (entity : EntityRef) → Contains (entities_of ended.done ++ ended.at ∷ ended.rest) entity → IsListed entry source word entity
  among entity c = (are.members entity).0 (subst (λ (es : List EntityRef). Contains es entity) (sym ended.are) c)

  at_listed : IsListed entry source word ended.at
  at_listed = among ended.at (Contains-append_right (entities_of ended.done) (ended.at ∷ ended.rest) ended.at (0, omega arith, refl))

  -- they leave its ref
  at_left : (target : List ℕ) (to : Side) → ((turn : Turn) (of : Side) (id : Id) (old new : History) → ((name : Name) (files : Files) → head_at (written files (ref_write target (ref_place to (id_of turn)) name)) target of id ≡ head_at files target of id)
      → Step turn old new → head_at (files_of new) target of id ≡ head_at (files_of old) target of id)
      → head_at (files_of ended.mid) target to ended.at.id ≡ head_at (files_of old) target to ended.at.id
  at_left target to leaves =
      let all = ended.done ++ as_turn ended.at ∷ map as_turn ended.rest in
      let are_all : entities_of all ≡ refs =
      map-append (λ (t : Turn). t.entity) ended.done (as_turn ended.at ∷ map as_turn ended.rest) ∙ ap (λ (them : List EntityRef). entities_of ended.done ++ ended.at ∷ them) (entities_as ended.rest) ∙ sym ended.are in
      turns_leave target to Step leaves ended.at.id at_listed.0 ended.done
      (λ turn c. (among turn.entity (Contains-append_left (entities_of ended.done) (ended.at ∷ ended.rest) turn.entity (Contains-map (λ (t : Turn). t.entity) ended.done turn c))).0)
      (none_before ended.done (as_turn ended.at) (map as_turn ended.rest) (once_of_refs (files_of entry) source (local_side word) refs all are are_all))
      old ended.mid ended.before

-- ---- fetches

module _ (own peer : List ℕ) (remote : RemoteName) where
  -- the tracking ref of an entity that has a head in the peer, at this path, is bad
  abbrev IsBadOf : History → List ℕ → Type 0
  IsBadOf old path = (word : EntityWord) × (id : Id) × IsId id × ((head : Name) × (head_at (files_of old) peer (local_side word) id ≡ Head head))
      × (path ≡ joined own (ref_place (tracking_side remote word) id)) × (head_at (files_of old) own (tracking_side remote word) id ≡ Bad)

  bad_at : (entry : History) (word : EntityWord) (id : Id) (head : Option Name) (path : List ℕ) (mid new : History) → IsListed entry peer word (record { id = id; head = head })
      → head_at (files_of mid) own (tracking_side remote word) id ≡ head_at (files_of entry) own (tracking_side remote word) id → IsBadTracking own peer (tracking_side remote word) id head path mid new → IsBadOf entry path
  bad_at entry word id None path mid new listed same none = absurd none
  bad_at entry word id (Some name) path mid new listed same (bad, still) = (word, id, listed.0, (name, listed.1), bad.0, sym same ∙ bad.1)

  leaves : (word : EntityWord) (turn : Turn) (of : Side) (id : Id) (old new : History)
      → ((name : Name) (files : Files) → head_at (written files (ref_write own (ref_place (tracking_side remote word) (id_of turn)) name)) own of id ≡ head_at files own of id)
      → Fetches own peer (tracking_side remote word) turn old new → head_at (files_of new) own of id ≡ head_at (files_of old) own of id
  leaves word turn of id old new free step = turn_leaves own peer (tracking_side remote word) of id (id_of turn) turn.entity.head turn.outcome old new free step

  pub fetch_ends : (old new : History) (path : List ℕ) → FetchAnswers own peer remote old new (Err (stop.Damaged path)) → IsBadOf old path
  fetch_ends old new path (inl none) = absurd none.0
  fetch_ends old new path (inr (inl at)) =
      let Step = Fetches own peer (tracking_side remote word.Identity) in
      let Stops = FetchStops own peer (tracking_side remote word.Identity) in
      bad_at old word.Identity at.ended.at.id at.ended.at.head path at.ended.mid new
      (at_listed old peer word.Identity Step Stops (stop.Damaged path) at.people at.are.are_people old new at.ended)
      (at_left old peer word.Identity Step Stops (stop.Damaged path) at.people at.are.are_people old new at.ended own (tracking_side remote word.Identity) (leaves word.Identity))
      at.ended.ended
  fetch_ends old new path (inr (inr at)) =
      let Step = Fetches own peer (tracking_side remote word.Bug) in
      let Stops = FetchStops own peer (tracking_side remote word.Bug) in
      bad_at old word.Bug at.ended.at.id at.ended.at.head path at.ended.mid new
      (at_listed old peer word.Bug Step Stops (stop.Damaged path) at.bugs at.are.are_bugs at.mid new at.ended)
      (at_left old peer word.Bug Step Stops (stop.Damaged path) at.bugs at.are.are_bugs at.mid new at.ended own (tracking_side remote word.Bug) (leaves word.Bug)
      ∙ sides_leave own (tracking_side remote word.Identity) (Fetches own peer (tracking_side remote word.Identity)) (leaves word.Identity) (tracking_side remote word.Bug) (λ e. cc) at.ended.at.id at.person_turns old at.mid at.first.each)
      at.ended.ended

-- ---- pushes

module _ (own peer : List ℕ) where
  -- the local ref of an entity, at this path, is bad
  abbrev IsBadHere : History → List ℕ → Type 0
  IsBadHere old path = (word : EntityWord) × (id : Id) × IsId id × (path ≡ joined own (ref_place (local_side word) id)) × (head_at (files_of old) own (local_side word) id ≡ Bad)

  bad_here : (entry : History) (word : EntityWord) (held : Bool) (id : Id) (head : Option Name) (path : List ℕ) (mid new : History) → IsListed entry own word (record { id = id; head = head })
      → IsBadLocal own peer (local_side word) held id head path mid new → IsBadHere entry path
  bad_here entry word true id head path mid new listed none = absurd none
  bad_here entry word false id None path mid new listed (at, still) = (word, id, listed.0, at, listed.1)
  bad_here entry word false id (Some name) path mid new listed none = absurd none

  pub push_ends : (old new : History) (path : List ℕ) → PushAnswers own peer old new (Err (stop.Damaged path)) → IsBadHere old path
  push_ends old new path (inl none) = absurd none.0
  push_ends old new path (inr (inl at)) =
      bad_here old word.Identity false at.ended.at.id at.ended.at.head path at.ended.mid new
      (at_listed old own word.Identity (Pushes own peer (local_side word.Identity) false) (PushStops own peer (local_side word.Identity) false) (stop.Damaged path) at.people at.are.are_people old new at.ended)
      at.ended.ended
  push_ends old new path (inr (inr at)) =
      let held = are_held at.person_turns in
      bad_here old word.Bug held at.ended.at.id at.ended.at.head path at.ended.mid new
      (at_listed old own word.Bug (Pushes own peer (local_side word.Bug) held) (PushStops own peer (local_side word.Bug) held) (stop.Damaged path) at.bugs at.are.are_bugs at.mid new at.ended)
      at.ended.ended
