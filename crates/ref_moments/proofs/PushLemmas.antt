-- A push sets each local ref of the peer once at most, to the head that the own folder's ref had, and no other ref.
use Rattle.std.proofs.Common.{◌≡◌, ◌≢◌, ◌⊎◌, inl, inr, refl, sym, ◌∙◌, ap, subst, ℕ, Bool, true, false, List, Contains, Option, Some, None, Result, Ok}
use Rattle.gb_text.specs.Digits.{IsId, IsName}
use Rattle.gb_text.specs.declared.id.Id.{Id}
use Rattle.gb_text.specs.declared.id.Name.{Name}
use Rattle.gb_store.specs.Files.{History, files_of}
use Rattle.object_store.specs.Held.{objects_after}
use Rattle.ref_store.specs.Refs.{Head}
use Rattle.repo_state.specs.Listed.{ref_with}
use Rattle.repo_state.specs.Sides.{head_at}
use Rattle.repo_state.specs.declared.refs.EntityRef.{EntityRef}
use Rattle.repo_state.specs.declared.side.Side.{Side}
use Rattle.repo_state.specs.declared.stop.ReadStop.{ReadStop}
use Rattle.repo_state.specs.declared.stop.ReadStop.TheVariants as stop
use Rattle.sync_steps.specs.Places.{local_side}
use Rattle.sync_steps.specs.Pushing.{IsBadLocal, PushAnswers, PushCutOff, PushOfRef, PushOutcome, PushStops, Pushes}
use Rattle.sync_steps.specs.Turns.{Turn}
use Rattle.sync_steps.specs.declared.line.EntityWord.{EntityWord}
use Rattle.sync_steps.specs.declared.line.EntityWord.TheVariants as word
use Rattle.sync_steps.specs.declared.line.Exchange.TheVariants as verb
use Rattle.sync_steps.specs.declared.line.Line.{Line}
use Rattle.sync_steps.specs.declared.line.Outcome.{Outcome}
use Rattle.sync_steps.specs.declared.line.Outcome.TheVariants as outcome
use Rattle.ref_moments.specs.Once.{IsSetOnce, StaysSame}
use Rattle.ref_moments.specs.Sets.{IsPushed}
use Rattle.ref_moments.proofs.CarryLemmas.{carried_once, carried_sets, copy_stays, cut_once}
use Rattle.ref_moments.proofs.ExchangeLemmas.{HasHead, LineTurn, Whole, exchange_once, line_turn}
use Rattle.ref_moments.proofs.FetchLemmas.{Named}
use Rattle.ref_moments.proofs.ListedLemmas.{IsListed, SetBy, listed_name, placed_id}
use Rattle.ref_moments.proofs.OnceLemmas.{set_then, stays_none, stays_then, then_set}
use Rattle.ref_moments.proofs.TurnLemmas.{Once}

module _ (own peer : List ℕ) (to : Side) where
  -- ---- one turn

  module _ (of : Side) (id : Id) where
    push_outcome : (mine : Id) (name : Name) (out : Outcome) (old new : History) → IsName name → PushOutcome own peer to mine name out old new
        → Once peer to of id HasHead (record { id = mine; head = Some name }) old new
    push_outcome mine name outcome.Same old new named is = inl (stays_none peer of id old new is.1)
    push_outcome mine name outcome.BadRef old new named is = inl (stays_none peer of id old new is.1)
    push_outcome mine name (outcome.NotForward other) old new named is = inl (stays_none peer of id old new is.3)
    push_outcome mine name outcome.Pushed old new named is = carried_once false own peer to (record { id = mine; name = name }) named old new of id is.1
    push_outcome mine name (outcome.DamagedCopy why) old new named is = inl (copy_stays false own peer (objects_after old peer) name of id old new is.1.put)
    push_outcome mine name outcome.Fetched old new named none = absurd none
    push_outcome mine name outcome.Held old new named none = absurd none

    push_of_ref : (mine : Id) (listing : Option Name) (out : Outcome) (old new : History) → Named listing → PushOfRef own peer to mine listing out old new
        → Once peer to of id HasHead (record { id = mine; head = listing }) old new
    push_of_ref mine None out old new named none = absurd none
    push_of_ref mine (Some name) out old new named is = push_outcome mine name out old new (named name refl) is

    pub push_turn : (held : Bool) (turn : Turn) (old new : History) → Named turn.entity.head → Pushes own peer to held turn old new → Once peer to of id HasHead turn.entity old new
    push_turn true turn old new named is = inl (stays_none peer of id old new is.1)
    push_turn false turn old new named is = push_of_ref turn.entity.id turn.entity.head turn.outcome old new named is

    push_cut : (held : Bool) (mine : Id) (listing : Option Name) (old new : History) → Named listing → PushCutOff own peer to held mine listing old new
        → Once peer to of id HasHead (record { id = mine; head = listing }) old new
    push_cut true mine listing old new named same = inl (stays_none peer of id old new same)
    push_cut false mine None old new named same = inl (stays_none peer of id old new same)
    push_cut false mine (Some name) old new named (inl same) = inl (stays_none peer of id old new same)
    push_cut false mine (Some name) old new named (inr is) = cut_once false own peer to (record { id = mine; name = name }) (named name refl) old new of id is.1

    push_bad : (held : Bool) (mine : Id) (listing : Option Name) (path : List ℕ) (old new : History) → IsBadLocal own peer to held mine listing path old new → StaysSame peer of id old new
    push_bad true mine listing path old new none = absurd none
    push_bad false mine None path old new bad = stays_none peer of id old new bad.1
    push_bad false mine (Some name) path old new none = absurd none

    pub push_stop : (held : Bool) (why : ReadStop) (entity : EntityRef) (old new : History) → Named entity.head → PushStops own peer to held why entity old new → Once peer to of id HasHead entity old new
    push_stop held stop.Memory entity old new named is = push_cut held entity.id entity.head old new named is
    push_stop held stop.Disk entity old new named is = push_cut held entity.id entity.head old new named is
    push_stop held (stop.Damaged path) entity old new named is = inl (push_bad held entity.id entity.head path old new is)

  -- ---- the ref of the entity itself, by what came of it

  -- it is set where it was pushed, and stays else
  abbrev pub PushTold : Id → Option Name → Outcome → History → History → Type 0
  PushTold mine listing out old new =
      ((out ≡ outcome.Pushed) × ((name : Name) × (listing ≡ Some name) × IsSetOnce peer to mine name old new)) ⊎ ((out ≢ outcome.Pushed) × StaysSame peer to mine old new)

  told_outcome : (mine : Id) (name : Name) (out : Outcome) (old new : History) → IsName name → PushOutcome own peer to mine name out old new → PushTold mine (Some name) out old new
  told_outcome mine name outcome.Same old new named is = inr (λ e. cc e, stays_none peer to mine old new is.1)
  told_outcome mine name outcome.BadRef old new named is = inr (λ e. cc e, stays_none peer to mine old new is.1)
  told_outcome mine name (outcome.NotForward other) old new named is = inr (λ e. cc e, stays_none peer to mine old new is.3)
  told_outcome mine name outcome.Pushed old new named is = inl (refl, (name, refl, carried_sets false own peer to (record { id = mine; name = name }) named old new is.1))
  told_outcome mine name (outcome.DamagedCopy why) old new named is = inr (λ e. cc e, copy_stays false own peer (objects_after old peer) name to mine old new is.1.put)
  told_outcome mine name outcome.Fetched old new named none = absurd none
  told_outcome mine name outcome.Held old new named none = absurd none

  told_of_ref : (mine : Id) (listing : Option Name) (out : Outcome) (old new : History) → Named listing → PushOfRef own peer to mine listing out old new → PushTold mine listing out old new
  told_of_ref mine None out old new named none = absurd none
  told_of_ref mine (Some name) out old new named is = told_outcome mine name out old new (named name refl) is

  pub push_told : (held : Bool) (turn : Turn) (old new : History) → Named turn.entity.head → Pushes own peer to held turn old new → PushTold turn.entity.id turn.entity.head turn.outcome old new
  push_told true turn old new named is = inr (λ e. cc (sym is.0 ∙ e), stays_none peer to turn.entity.id old new is.1)
  push_told false turn old new named is = told_of_ref turn.entity.id turn.entity.head turn.outcome old new named is

-- ---- a whole push

-- the local sides of both kinds are two
pub local_apart : local_side word.Identity ≢ local_side word.Bug
local_apart same = cc same

module _ (own peer : List ℕ) (old : History) where
  abbrev Step : EntityWord → Bool → Turn → History → History → Type 0
  Step kind = Pushes own peer (local_side kind)

  abbrev Stops : EntityWord → Bool → ReadStop → EntityRef → History → History → Type 0
  Stops kind = PushStops own peer (local_side kind)

  named : (kind : EntityWord) (entity : EntityRef) → IsListed old own (local_side kind) entity → Named entity.head
  named kind entity listed = listed_name old own (local_side kind) entity listed

  each : (of : Side) (id : Id) (kind : EntityWord) (held : Bool) (turn : Turn) (before after : History) → IsListed old own (local_side kind) turn.entity → Step kind held turn before after
      → Once peer (local_side kind) of id HasHead turn.entity before after
  each of id kind held turn before after listed step = push_turn own peer (local_side kind) of id held turn before after (named kind turn.entity listed) step

  module _ (of : Side) (id : Id) where
    ends : (kind : EntityWord) (held : Bool) (why : ReadStop) (entity : EntityRef) (before after : History) → IsListed old own (local_side kind) entity → Stops kind held why entity before after
        → Once peer (local_side kind) of id HasHead entity before after
    ends kind held why entity before after listed is = push_stop own peer (local_side kind) of id held why entity before after (named kind entity listed) is

    -- each ref of the peer stays, or is a local ref that is pushed
    pub push_once : IsId id → (new : History) (result : Result (List Line) ReadStop) → PushAnswers own peer old new result → StaysSame peer of id old new ⊎ IsPushed own peer of id old new
    push_once is_id new result answers = by (exchange_once verb.Push Step Stops own peer local_side local_apart old each of id ends new result answers)
      where
        set : (kind : EntityWord) → SetBy old own (local_side kind) peer (local_side kind) of id HasHead old new → IsPushed own peer of id old new
        set kind by =
            let at = placed_id (local_side kind) of by.entity.id id by.listed.0 is_id by.sets.place in
            record {
              word = kind;
              is_side = at.0;
              head = by.sets.head;
              is_own = ap (head_at (files_of old) own (local_side kind)) (sym at.1) ∙ by.listed.1 ∙ ap ref_with by.sets.is_head;
              once = by.sets.set;
            }

        by : Whole verb.Push Step Stops own peer local_side local_apart old each of id new → StaysSame peer of id old new ⊎ IsPushed own peer of id old new
        by (inl stays) = inl stays
        by (inr (kind, is)) = inr (set kind is)

  module _ (new : History) (lines : List Line) (answers : PushAnswers own peer old new (Ok lines)) where
    -- what a line says of the peer's ref of its entity
    abbrev pub SaysPushed : Line → Type 0
    SaysPushed line =
        ((line.outcome ≡ outcome.Pushed)
        × ((head : Name) × (head_at (files_of old) own (local_side line.word) line.id ≡ Head head) × IsSetOnce peer (local_side line.word) line.id head old new))
        ⊎ ((line.outcome ≢ outcome.Pushed) × StaysSame peer (local_side line.word) line.id old new)

    pub push_line : (line : Line) → Contains lines line → SaysPushed line
    push_line line c = by (line_turn verb.Push Step Stops own peer local_side local_apart old each lines new answers line c)
      where
        by : LineTurn verb.Push Step Stops own peer local_side local_apart old each line new → SaysPushed line
        by at =
            let to = local_side at.kind in
            let mine = at.turn.entity.id in
            subst SaysPushed at.is
            (elim (push_told own peer to at.held at.turn at.before at.after (named at.kind at.turn.entity at.listed) at.step) [
              | inl (is, (name, has, set)) ↦ inl (is, (name, at.listed.1 ∙ ap ref_with has, set_then peer to mine name old at.after new (then_set peer to mine name old at.before at.after at.early set) at.late))
              | inr (not, stays) ↦ inr (not, stays_then peer to mine old at.after new (stays_then peer to mine old at.before at.after at.early stays) at.late)
            ])

    -- and the id that it has
    pub push_line_id : (line : Line) → Contains lines line → IsId line.id
    push_line_id line c =
        let at = line_turn verb.Push Step Stops own peer local_side local_apart old each lines new answers line c in
        subst (λ (l : Line). IsId l.id) at.is at.listed.0
