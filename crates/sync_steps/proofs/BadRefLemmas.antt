-- An exchange sets no ref that is no ref text, whatever it answers.
use Rattle.std.proofs.Common.{◌≡◌, ◌⊎◌, inl, inr, refl, sym, ◌∙◌, ap, subst, ℕ, Bool, true, false, List, Option, Some, None, Result}
use Rattle.gb_text.specs.Folder.{joined}
use Rattle.gb_text.specs.declared.id.Id.{Id}
use Rattle.gb_text.specs.declared.id.Name.{Name}
use Rattle.gb_store.specs.Files.{Files, History, files_of, written}
use Rattle.object_store.specs.Held.{objects_after}
use Rattle.ref_store.specs.Refs.{Ref, Bad, ref_at}
use Rattle.ref_store.proofs.FrameLemmas.{ref_at-other}
use Rattle.ref_store.proofs.MapLemmas.{joined-same}
use Rattle.ref_store.specs.Setting.{ref_write}
use Rattle.remote_name.specs.declared.remote.RemoteName.{RemoteName}
use Rattle.repo_state.specs.Sides.{head_at, ref_place}
use Rattle.repo_state.specs.declared.refs.EntityRef.{EntityRef}
use Rattle.repo_state.specs.declared.side.Side.{Side}
use Rattle.repo_state.specs.declared.stop.ReadStop.{ReadStop}
use Rattle.repo_state.specs.declared.stop.ReadStop.TheVariants as stop
use Rattle.repo_state.proofs.PlaceLemmas.{ref-not_packed, same_or_other}
use Rattle.sync_steps.specs.Fetching.{FetchAnswers, FetchCutOff, FetchOutcome, FetchStops, Fetches, IsBadTracking}
use Rattle.sync_steps.specs.Places.{local_side, tracking_side}
use Rattle.sync_steps.specs.Pushing.{IsBadLocal, IsForward, PushAnswers, PushCutOff, PushOutcome, PushStops, Pushes}
use Rattle.sync_steps.specs.Turns.{Turn}
use Rattle.sync_steps.specs.declared.line.EntityWord.{EntityWord}
use Rattle.sync_steps.specs.declared.line.Exchange.TheVariants as verb
use Rattle.sync_steps.specs.declared.line.Line.{Line}
use Rattle.sync_steps.specs.declared.line.Outcome.{Outcome}
use Rattle.sync_steps.specs.declared.line.Outcome.TheVariants as outcome
use Rattle.sync_steps.proofs.FetchedLemmas.{pushes_keep, pushes_leave, turn_keeps, turn_leaves}
use Rattle.sync_steps.proofs.PushTurnLemmas.{head_turn}
use Rattle.sync_steps.proofs.SetLemmas.{id_of, puts_leave}
use Rattle.sync_steps.proofs.StepLaws.{tracking_reads}
use Rattle.sync_steps.proofs.WriteLemmas.{exchange_goes}

module _ (folder : List ℕ) (of : Side) (id : Id) where
  -- the ref of an id is bad yet
  abbrev StaysBad : History → History → Type 0
  StaysBad old new = head_at (files_of old) folder of id ≡ Bad → head_at (files_of new) folder of id ≡ Bad

  unchanged : (old new : History) → new ≡ old → StaysBad old new
  unchanged old new same bad = ap (λ (h : History). head_at (files_of h) folder of id) same ∙ bad

  stays_then : (old mid new : History) → StaysBad old mid → StaysBad mid new → StaysBad old new
  stays_then old mid new first next bad = next (first bad)

  -- the write of a ref leaves it, or it is that ref
  left_or_set : (to : Side) (mine : Id) → ((name : Name) (files : Files) → head_at (written files (ref_write folder (ref_place to mine) name)) folder of id ≡ head_at files folder of id)
      ⊎ ((files : Files) → head_at files folder to mine ≡ head_at files folder of id)
  left_or_set to mine = elim (same_or_other (joined folder (ref_place to mine)) (joined folder (ref_place of id))) [
    | inl path ↦ inr (λ files. ap (ref_at files folder) (joined-same folder (ref_place to mine) (ref_place of id) path))
    | inr differ ↦ inl (λ name files. ref_at-other files (ref_write folder (ref_place to mine) name) folder (ref_place of id) differ (ref-not_packed folder to mine))
  ]

-- ---- fetches

-- none fetches over a bad tracking ref
none_over : (own peer : List ℕ) (to : Side) (id : Id) (head : Option Name) (old new : History) → FetchOutcome own peer to id head outcome.Fetched old new → head_at (files_of old) own to id ≡ Bad → ⊥
none_over own peer to id None old new none bad = none
none_over own peer to id (Some name) old new step bad = tracking_reads own peer to id (Some name) name outcome.Fetched old new refl step bad

module _ (own peer : List ℕ) (of : Side) (id : Id) where
  turn_bad : (to : Side) (mine : Id) (head : Option Name) (out : Outcome) (old new : History) → FetchOutcome own peer to mine head out old new → StaysBad own of id old new
  turn_bad to mine head out old new step bad = elim (left_or_set own of id to mine) [
    | inl free ↦ turn_leaves own peer to of id mine head out old new free step ∙ bad
    | inr same ↦
        turn_keeps own peer to of id mine head out old new
        (λ fetched. absurd (none_over own peer to mine head old new (subst (λ (o : Outcome). FetchOutcome own peer to mine head o old new) fetched step) (same (files_of old) ∙ bad))) step
        ∙ bad
  ]

  cut_bad : (to : Side) (mine : Id) (head : Option Name) (old new : History) → FetchCutOff own peer to mine head old new → StaysBad own of id old new
  cut_bad to mine None old new same = unchanged own of id old new same
  cut_bad to mine (Some name) old new (inl same) = unchanged own of id old new same
  cut_bad to mine (Some name) old new (inr (other, inl put)) = λ bad. puts_leave true peer own (objects_after old own) name of id old new put ∙ bad
  cut_bad to mine (Some name) old new (inr (other, inr carried)) = turn_bad to mine (Some name) outcome.Fetched old new (other, carried)

  stopped_bad : (to : Side) (mine : Id) (head : Option Name) (path : List ℕ) (old new : History) → IsBadTracking own peer to mine head path old new → StaysBad own of id old new
  stopped_bad to mine None path old new none = absurd none
  stopped_bad to mine (Some name) path old new (at, same) = unchanged own of id old new same

  stop_bad : (to : Side) (why : ReadStop) (entity : EntityRef) (old new : History) → FetchStops own peer to why entity old new → StaysBad own of id old new
  stop_bad to stop.Memory entity old new is = cut_bad to entity.id entity.head old new is
  stop_bad to stop.Disk entity old new is = cut_bad to entity.id entity.head old new is
  stop_bad to (stop.Damaged path) entity old new is = stopped_bad to entity.id entity.head path old new is

  pub fetch_bad : (remote : RemoteName) (old new : History) (result : Result (List Line) ReadStop) → FetchAnswers own peer remote old new result → StaysBad own of id old new
  fetch_bad remote old new result answers =
      exchange_goes (StaysBad own of id) (unchanged own of id) (stays_then own of id)
      verb.Fetch (λ (word : EntityWord) (held : Bool). Fetches own peer (tracking_side remote word)) (λ (word : EntityWord) (held : Bool). FetchStops own peer (tracking_side remote word)) peer old
      (λ word held turn before after listed came step. turn_bad (tracking_side remote word) (id_of turn) turn.entity.head turn.outcome before after step)
      (λ word held why entity before after listed came is. stop_bad (tracking_side remote word) why entity before after is)
      new result answers

-- ---- pushes

-- none pushes over a bad ref
none_pushed : (own peer : List ℕ) (of : Side) (held : Bool) (turn : Turn) (old new : History) → Pushes own peer of held turn old new → turn.outcome ≡ outcome.Pushed → head_at (files_of old) peer of (id_of turn) ≡ Bad → ⊥
none_pushed own peer of held turn old new step pushed bad = elim (head_turn own peer of turn old new held step) [
  | inl held ↦ (let none : outcome.Pushed ≡ outcome.Held = sym pushed ∙ held in cc)
  | inr (name, at, is) ↦ subst (λ (r : Ref). IsForward (objects_after old own) r name) bad (subst (λ (o : Outcome). PushOutcome own peer of (id_of turn) name o old new) pushed is).0
]

module _ (own peer : List ℕ) (of : Side) (id : Id) where
  push_turn_bad : (on : Side) (held : Bool) (turn : Turn) (old new : History) → Pushes own peer on held turn old new → StaysBad peer of id old new
  push_turn_bad on held turn old new step bad = elim (left_or_set peer of id on (id_of turn)) [
    | inl free ↦ pushes_leave own peer on held turn of id old new free step ∙ bad
    | inr same ↦ pushes_keep own peer on held turn of id old new (λ pushed. absurd (none_pushed own peer on held turn old new step pushed (same (files_of old) ∙ bad))) step ∙ bad
  ]

  push_cut_bad : (on : Side) (held : Bool) (mine : Id) (head : Option Name) (old new : History) → PushCutOff own peer on held mine head old new → StaysBad peer of id old new
  push_cut_bad on true mine head old new same = unchanged peer of id old new same
  push_cut_bad on false mine None old new same = unchanged peer of id old new same
  push_cut_bad on false mine (Some name) old new (inl same) = unchanged peer of id old new same
  push_cut_bad on false mine (Some name) old new (inr (forward, inl put)) = λ bad. puts_leave false own peer (objects_after old peer) name of id old new put ∙ bad
  push_cut_bad on false mine (Some name) old new (inr (forward, inr carried)) =
      push_turn_bad on false (record { entity = record { id = mine; head = Some name }; outcome = outcome.Pushed }) old new (forward, carried)

  push_stopped_bad : (on : Side) (held : Bool) (mine : Id) (head : Option Name) (path : List ℕ) (old new : History) → IsBadLocal own peer on held mine head path old new → StaysBad peer of id old new
  push_stopped_bad on true mine head path old new none = absurd none
  push_stopped_bad on false mine None path old new (at, same) = unchanged peer of id old new same
  push_stopped_bad on false mine (Some name) path old new none = absurd none

  push_stop_bad : (on : Side) (held : Bool) (why : ReadStop) (entity : EntityRef) (old new : History) → PushStops own peer on held why entity old new → StaysBad peer of id old new
  push_stop_bad on held stop.Memory entity old new is = push_cut_bad on held entity.id entity.head old new is
  push_stop_bad on held stop.Disk entity old new is = push_cut_bad on held entity.id entity.head old new is
  push_stop_bad on held (stop.Damaged path) entity old new is = push_stopped_bad on held entity.id entity.head path old new is

  pub push_bad_stays : (old new : History) (result : Result (List Line) ReadStop) → PushAnswers own peer old new result → StaysBad peer of id old new
  push_bad_stays old new result answers =
      exchange_goes (StaysBad peer of id) (unchanged peer of id) (stays_then peer of id)
      verb.Push (λ (word : EntityWord). Pushes own peer (local_side word)) (λ (word : EntityWord). PushStops own peer (local_side word)) own old
      (λ word held turn before after listed came step. push_turn_bad (local_side word) held turn before after step)
      (λ word held why entity before after listed came is. push_stop_bad (local_side word) held why entity before after is)
      new result answers
