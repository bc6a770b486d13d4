-- A fetch sets each tracking ref once at most, to the head that the peer's ref had, and no other ref.
use Rattle.std.proofs.Common.{◌≡◌, ◌≢◌, ◌⊎◌, inl, inr, refl, sym, ◌∙◌, ap, subst, ℕ, Bool, true, List, Contains, Option, Some, None, Result, Ok}
use Rattle.gb_text.specs.Digits.{IsId, IsName}
use Rattle.gb_text.specs.declared.id.Id.{Id}
use Rattle.gb_text.specs.declared.id.Name.{Name}
use Rattle.gb_store.specs.Files.{History, files_of}
use Rattle.object_store.specs.Held.{objects_after}
use Rattle.ref_store.specs.Refs.{Head}
use Rattle.remote_name.specs.declared.remote.RemoteName.{RemoteName}
use Rattle.repo_state.specs.Listed.{ref_with}
use Rattle.repo_state.specs.Sides.{head_at}
use Rattle.repo_state.specs.declared.refs.EntityRef.{EntityRef}
use Rattle.repo_state.specs.declared.side.Side.{Side}
use Rattle.repo_state.specs.declared.stop.ReadStop.{ReadStop}
use Rattle.repo_state.specs.declared.stop.ReadStop.TheVariants as stop
use Rattle.sync_steps.specs.Fetching.{FetchAnswers, FetchCutOff, FetchOutcome, FetchStops, Fetches, IsBadTracking}
use Rattle.sync_steps.specs.Places.{local_side, tracking_side}
use Rattle.sync_steps.specs.Turns.{Turn}
use Rattle.sync_steps.specs.declared.line.EntityWord.{EntityWord}
use Rattle.sync_steps.specs.declared.line.EntityWord.TheVariants as word
use Rattle.sync_steps.specs.declared.line.Exchange.TheVariants as verb
use Rattle.sync_steps.specs.declared.line.Line.{Line}
use Rattle.sync_steps.specs.declared.line.Outcome.{Outcome}
use Rattle.sync_steps.specs.declared.line.Outcome.TheVariants as outcome
use Rattle.ref_moments.specs.Once.{IsSetOnce, StaysSame}
use Rattle.ref_moments.specs.Sets.{IsFetched}
use Rattle.ref_moments.proofs.CarryLemmas.{carried_once, carried_sets, copy_stays, cut_once}
use Rattle.ref_moments.proofs.ExchangeLemmas.{HasHead, LineTurn, Whole, exchange_once, line_turn}
use Rattle.ref_moments.proofs.ListedLemmas.{IsListed, SetBy, listed_name, placed_id}
use Rattle.ref_moments.proofs.OnceLemmas.{set_then, stays_none, stays_then, then_set}
use Rattle.ref_moments.proofs.TurnLemmas.{Once}

-- the head of an entity is a name
abbrev pub Named : Option Name → Type 0
Named head = (name : Name) → head ≡ Some name → IsName name

module _ (own peer : List ℕ) (to : Side) where
  -- ---- one turn

  module _ (of : Side) (id : Id) where
    pub fetch_outcome : (mine : Id) (listing : Option Name) (out : Outcome) (old new : History) → Named listing → FetchOutcome own peer to mine listing out old new
        → Once own to of id HasHead (record { id = mine; head = listing }) old new
    fetch_outcome mine None outcome.BadRef old new named same = inl (stays_none own of id old new same)
    fetch_outcome mine None outcome.Fetched old new named none = absurd none
    fetch_outcome mine None outcome.Pushed old new named none = absurd none
    fetch_outcome mine None outcome.Same old new named none = absurd none
    fetch_outcome mine None (outcome.DamagedCopy why) old new named none = absurd none
    fetch_outcome mine None (outcome.NotForward other) old new named none = absurd none
    fetch_outcome mine None outcome.Held old new named none = absurd none
    fetch_outcome mine (Some name) outcome.Same old new named is = inl (stays_none own of id old new is.1)
    fetch_outcome mine (Some name) outcome.Fetched old new named is = carried_once true peer own to (record { id = mine; name = name }) (named name refl) old new of id is.1
    fetch_outcome mine (Some name) (outcome.DamagedCopy why) old new named is = inl (copy_stays true peer own (objects_after old own) name of id old new is.1.put)
    fetch_outcome mine (Some name) outcome.BadRef old new named none = absurd none
    fetch_outcome mine (Some name) outcome.Pushed old new named none = absurd none
    fetch_outcome mine (Some name) (outcome.NotForward other) old new named none = absurd none
    fetch_outcome mine (Some name) outcome.Held old new named none = absurd none

    fetch_cut : (mine : Id) (listing : Option Name) (old new : History) → Named listing → FetchCutOff own peer to mine listing old new → Once own to of id HasHead (record { id = mine; head = listing }) old new
    fetch_cut mine None old new named same = inl (stays_none own of id old new same)
    fetch_cut mine (Some name) old new named (inl same) = inl (stays_none own of id old new same)
    fetch_cut mine (Some name) old new named (inr is) = cut_once true peer own to (record { id = mine; name = name }) (named name refl) old new of id is.1

    fetch_bad : (mine : Id) (listing : Option Name) (path : List ℕ) (old new : History) → IsBadTracking own peer to mine listing path old new → StaysSame own of id old new
    fetch_bad mine None path old new none = absurd none
    fetch_bad mine (Some name) path old new bad = stays_none own of id old new bad.1

    pub fetch_stop : (why : ReadStop) (entity : EntityRef) (old new : History) → Named entity.head → FetchStops own peer to why entity old new → Once own to of id HasHead entity old new
    fetch_stop stop.Memory entity old new named is = fetch_cut entity.id entity.head old new named is
    fetch_stop stop.Disk entity old new named is = fetch_cut entity.id entity.head old new named is
    fetch_stop (stop.Damaged path) entity old new named is = inl (fetch_bad entity.id entity.head path old new is)

  -- ---- the ref of the entity itself, by what came of it

  -- it is set where it was fetched, and stays else
  abbrev pub FetchTold : Id → Option Name → Outcome → History → History → Type 0
  FetchTold mine listing out old new =
      ((out ≡ outcome.Fetched) × ((name : Name) × (listing ≡ Some name) × IsSetOnce own to mine name old new)) ⊎ ((out ≢ outcome.Fetched) × StaysSame own to mine old new)

  pub fetch_told : (mine : Id) (listing : Option Name) (out : Outcome) (old new : History) → Named listing → FetchOutcome own peer to mine listing out old new → FetchTold mine listing out old new
  fetch_told mine None outcome.BadRef old new named same = inr (λ e. cc e, stays_none own to mine old new same)
  fetch_told mine None outcome.Fetched old new named none = absurd none
  fetch_told mine None outcome.Pushed old new named none = absurd none
  fetch_told mine None outcome.Same old new named none = absurd none
  fetch_told mine None (outcome.DamagedCopy why) old new named none = absurd none
  fetch_told mine None (outcome.NotForward other) old new named none = absurd none
  fetch_told mine None outcome.Held old new named none = absurd none
  fetch_told mine (Some name) outcome.Same old new named is = inr (λ e. cc e, stays_none own to mine old new is.1)
  fetch_told mine (Some name) outcome.Fetched old new named is = inl (refl, (name, refl, carried_sets true peer own to (record { id = mine; name = name }) (named name refl) old new is.1))
  fetch_told mine (Some name) (outcome.DamagedCopy why) old new named is = inr (λ e. cc e, copy_stays true peer own (objects_after old own) name to mine old new is.1.put)
  fetch_told mine (Some name) outcome.BadRef old new named none = absurd none
  fetch_told mine (Some name) outcome.Pushed old new named none = absurd none
  fetch_told mine (Some name) (outcome.NotForward other) old new named none = absurd none
  fetch_told mine (Some name) outcome.Held old new named none = absurd none

-- ---- a whole fetch

-- the tracking sides of both kinds are two
pub tracking_apart : (remote : RemoteName) → tracking_side remote word.Identity ≢ tracking_side remote word.Bug
tracking_apart remote same = cc same

module _ (own peer : List ℕ) (remote : RemoteName) (old : History) where
  abbrev Step : EntityWord → Bool → Turn → History → History → Type 0
  Step kind held = Fetches own peer (tracking_side remote kind)

  abbrev Stops : EntityWord → Bool → ReadStop → EntityRef → History → History → Type 0
  Stops kind held = FetchStops own peer (tracking_side remote kind)

  named : (kind : EntityWord) (entity : EntityRef) → IsListed old peer (local_side kind) entity → Named entity.head
  named kind entity listed = listed_name old peer (local_side kind) entity listed

  each : (of : Side) (id : Id) (kind : EntityWord) (held : Bool) (turn : Turn) (before after : History) → IsListed old peer (local_side kind) turn.entity → Step kind held turn before after
      → Once own (tracking_side remote kind) of id HasHead turn.entity before after
  each of id kind held turn before after listed step =
      fetch_outcome own peer (tracking_side remote kind) of id turn.entity.id turn.entity.head turn.outcome before after (named kind turn.entity listed) step

  module _ (of : Side) (id : Id) where
    ends : (kind : EntityWord) (held : Bool) (why : ReadStop) (entity : EntityRef) (before after : History) → IsListed old peer (local_side kind) entity → Stops kind held why entity before after
        → Once own (tracking_side remote kind) of id HasHead entity before after
    ends kind held why entity before after listed is = fetch_stop own peer (tracking_side remote kind) of id why entity before after (named kind entity listed) is

    -- each ref of the own folder stays, or is a tracking ref that is fetched
    pub fetch_once : IsId id → (new : History) (result : Result (List Line) ReadStop) → FetchAnswers own peer remote old new result → StaysSame own of id old new ⊎ IsFetched own peer remote of id old new
    fetch_once is_id new result answers =
        by (exchange_once verb.Fetch Step Stops peer own (tracking_side remote) (tracking_apart remote) old each of id ends new result answers)
      where
        set : (kind : EntityWord) → SetBy old peer (local_side kind) own (tracking_side remote kind) of id HasHead old new → IsFetched own peer remote of id old new
        set kind by =
            let at = placed_id (tracking_side remote kind) of by.entity.id id by.listed.0 is_id by.sets.place in
            record {
              word = kind;
              is_side = at.0;
              head = by.sets.head;
              is_peers = ap (head_at (files_of old) peer (local_side kind)) (sym at.1) ∙ by.listed.1 ∙ ap ref_with by.sets.is_head;
              once = by.sets.set;
            }

        by : Whole verb.Fetch Step Stops peer own (tracking_side remote) (tracking_apart remote) old each of id new → StaysSame own of id old new ⊎ IsFetched own peer remote of id old new
        by (inl stays) = inl stays
        by (inr (kind, is)) = inr (set kind is)

  module _ (new : History) (lines : List Line) (answers : FetchAnswers own peer remote old new (Ok lines)) where
    -- what a line says of the tracking ref of its entity
    abbrev pub SaysFetched : Line → Type 0
    SaysFetched line =
        ((line.outcome ≡ outcome.Fetched)
        × ((head : Name) × (head_at (files_of old) peer (local_side line.word) line.id ≡ Head head) × IsSetOnce own (tracking_side remote line.word) line.id head old new))
        ⊎ ((line.outcome ≢ outcome.Fetched) × StaysSame own (tracking_side remote line.word) line.id old new)

    pub fetch_line : (line : Line) → Contains lines line → SaysFetched line
    fetch_line line c = by (line_turn verb.Fetch Step Stops peer own (tracking_side remote) (tracking_apart remote) old each lines new answers line c)
      where
        by : LineTurn verb.Fetch Step Stops peer own (tracking_side remote) (tracking_apart remote) old each line new → SaysFetched line
        by at =
            let to = tracking_side remote at.kind in
            let mine = at.turn.entity.id in
            subst SaysFetched at.is
            (elim (fetch_told own peer to mine at.turn.entity.head at.turn.outcome at.before at.after (named at.kind at.turn.entity at.listed) at.step) [
              | inl (is, (name, has, set)) ↦ inl (is, (name, at.listed.1 ∙ ap ref_with has, set_then own to mine name old at.after new (then_set own to mine name old at.before at.after at.early set) at.late))
              | inr (not, stays) ↦ inr (not, stays_then own to mine old at.after new (stays_then own to mine old at.before at.after at.early stays) at.late)
            ])
