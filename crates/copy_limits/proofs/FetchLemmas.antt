-- A fetch between sound folders refuses by a limit alone.
use Rattle.std.proofs.Common.{◌≡◌, ◌⊎◌, inl, inr, refl, sym, ◌∙◌, ap, subst, Bool, true, ℕ, List, ◌++◌, Contains, Option, Some, None, Ok}
use Rattle.gb_text.specs.Digits.{IsId}
use Rattle.gb_text.specs.Overlap.{Overlap}
use Rattle.gb_text.specs.declared.id.Id.{Id}
use Rattle.gb_text.specs.declared.id.Name.{Name}
use Rattle.gb_text.proofs.PathLemmas.{Overlap-mutual}
use Rattle.gb_store.specs.Files.{History, files_of}
use Rattle.gb_store.specs.Moments.{IsMoment, Wrote, WroteBy, at_moment}
use Rattle.gb_store.specs.declared.store.Change.{Change}
use Rattle.gb_store.proofs.MomentLemmas.{Wrote-wider, WroteBy-after, WroteBy-before, WroteBy-wider, at_moment-from_later}
use Rattle.object_store.specs.Growth.{OnlyGrew}
use Rattle.object_store.specs.Held.{Objects, objects_after}
use Rattle.dag_entity.specs.Folders.{HaveOneText}
use Rattle.ref_store.specs.Refs.{Head}
use Rattle.remote_copy.specs.Causes.{CauseHolds}
use Rattle.remote_copy.specs.declared.fault.CopyFault.{CopyFault}
use Rattle.remote_copy.specs.declared.fault.CopyFault.TheVariants as fault
use Rattle.remote_name.specs.declared.remote.RemoteName.{RemoteName}
use Rattle.repo_state.specs.Listed.{ref_with}
use Rattle.repo_state.specs.Sides.{head_at}
use Rattle.repo_state.specs.Sound.{AreWhole, IsSound}
use Rattle.repo_state.specs.Sound as parts
use Rattle.repo_state.specs.declared.side.Side.{Side}
use Rattle.sync_steps.specs.Carrying.{fault_of}
use Rattle.sync_steps.specs.Fetching.{FetchAnswers, FetchOutcome, FetchStops, Fetches}
use Rattle.sync_steps.specs.Lines.{is_refused}
use Rattle.sync_steps.specs.Places.{local_side, tracking_side}
use Rattle.sync_steps.specs.Turns.{Turn}
use Rattle.sync_steps.specs.Writes.{MayFetch}
use Rattle.sync_steps.specs.declared.line.CopyCause.{CopyCause}
use Rattle.sync_steps.specs.declared.line.CopyCause.TheVariants as cause
use Rattle.sync_steps.specs.declared.line.EntityWord.{EntityWord}
use Rattle.sync_steps.specs.declared.line.Exchange.TheVariants as verb
use Rattle.sync_steps.specs.declared.line.Line.{Line}
use Rattle.sync_steps.specs.declared.line.Outcome.{Outcome}
use Rattle.sync_steps.specs.declared.line.Outcome.TheVariants as outcome
use Rattle.sync_steps.proofs.FetchWriteLemmas.{FetchesAs, fetches_as, in_own, turn_wrote}
use Rattle.sync_steps.proofs.WriteLemmas.{heads_apart, objects_apart}
use Rattle.sync_writes.specs.Kinds.{FetchWrites, HadCause}
use Rattle.sync_writes.proofs.FetchKeptLemmas.{fetch_keeps_parts}
use Rattle.sync_writes.proofs.FetchKindLemmas.{fetch_writes}
use Rattle.copy_limits.specs.Flat.{HasFlatEntities, HasFlatTrees}
use Rattle.copy_limits.specs.Limits.{IsTreeLimit}
use Rattle.copy_limits.proofs.GrewLemmas.{fetch_grew}
use Rattle.copy_limits.proofs.SoundLemmas.{no_bad_ref, one_text_before, sound_limit, sound_none, told_limit}
use Rattle.copy_limits.proofs.TurnLemmas.{LineTurn, its_moment, line_turn}

module _ (own peer : List ℕ) (remote : RemoteName) (apart : Overlap own peer → ⊥) (old new : History) (wrote : WroteBy (FetchWrites own peer remote) old new) where
  abbrev May : History → History → Type 0
  May = Wrote (MayFetch own peer remote)

  -- by the files alone
  may : May old new
  may = WroteBy-wider (FetchWrites own peer remote) (at_moment (MayFetch own peer remote)) old new each wrote
    where
      each : (earlier : List Change) (change : Change) → FetchWrites own peer remote old earlier change → MayFetch own peer remote (files_of (earlier ++ old)) change
      each earlier change (inl puts) = inl puts
      each earlier change (inr head) = inr head.set

  away : Overlap peer own → ⊥
  away o = apart (Overlap-mutual peer own o)

  -- the peer's refs and objects stay
  pub peer_heads : (of : Side) (id : Id) → head_at (files_of new) peer of id ≡ head_at (files_of old) peer of id
  peer_heads of id = heads_apart (MayFetch own peer remote) own peer away (in_own own peer remote apart old) of id old new may

  peer_objects : (before after : History) → May before after → objects_after after peer ≡ objects_after before peer
  peer_objects before after between = objects_apart (MayFetch own peer remote) own peer away (in_own own peer remote apart old) before after between

  module _ (ours : IsSound own (files_of old)) (theirs : IsSound peer (files_of old)) (alike : HaveOneText (objects_after new own) (objects_after new peer)) where
    module _ (moment : History) (at : IsMoment old new moment) where
      since : May moment new
      since = WroteBy-after (at_moment (MayFetch own peer remote)) old new moment (at_moment-from_later (MayFetch own peer remote)) may at

      same : objects_after moment peer ≡ objects_after old peer
      same = peer_objects old moment (WroteBy-before (at_moment (MayFetch own peer remote)) old new moment may at)

      whole : AreWhole (objects_after moment own)
      whole = (fetch_keeps_parts own peer remote old new wrote parts.Objects (ours parts.Objects)).each moment at

      peer_grew : OnlyGrew (objects_after old peer) (objects_after new peer)
      peer_grew = record { stays = λ name text stands. ap (λ (o : Objects). o name) (peer_objects old new may) ∙ stands }

      one_text : HaveOneText (objects_after old peer) (objects_after moment own)
      one_text name a b there here =
          sym (one_text_before (objects_after moment own) (objects_after old peer) (objects_after new own) (objects_after new peer) (fetch_grew own peer remote moment new since) peer_grew alike name b a here there)

      -- at each moment nothing but a limit keeps a head of the peer from being copied
      pub fetch_limit_at : (kind : EntityWord) (id : Id) (head : Name) → IsId id → head_at (files_of old) peer (local_side kind) id ≡ Head head
          → (why : CopyFault) → CauseHolds true (objects_after moment peer) (objects_after moment own) head why → (count : ℕ) × (why ≡ fault.TooLarge count) × IsTreeLimit count
      fetch_limit_at kind id head is reads why holds =
          sound_limit peer (files_of old) theirs id is true (objects_after moment own) whole one_text kind head reads why
          (subst (λ (o : Objects). CauseHolds true o (objects_after moment own) head why) same holds)

      -- and nothing does where the trees below it are flat and small
      pub fetch_none_at : (kind : EntityWord) (id : Id) (head : Name) → IsId id → head_at (files_of old) peer (local_side kind) id ≡ Head head → HasFlatTrees (objects_after old peer) head
          → (why : CopyFault) → CauseHolds true (objects_after moment peer) (objects_after moment own) head why → ⊥
      fetch_none_at kind id head is reads flat why holds =
          sound_none peer (files_of old) theirs id is true (objects_after moment own) whole one_text kind head reads flat why
          (subst (λ (o : Objects). CauseHolds true o (objects_after moment own) head why) same holds)

    -- so if something kept one from being copied, a limit did
    pub had_limit : (kind : EntityWord) (id : Id) (head : Name) → IsId id → head_at (files_of new) peer (local_side kind) id ≡ Head head → HadCause own peer old new head
        → (moment : History) × (count : ℕ) × IsMoment old new moment × CauseHolds true (objects_after moment peer) (objects_after moment own) head (fault.TooLarge count) × IsTreeLimit count
    had_limit kind id head is reads had =
        let limit = fetch_limit_at had.moment had.is_moment kind id head is (sym (peer_heads (local_side kind) id) ∙ reads) (fault_of had.why) had.cause in
        (had.moment, limit.0, had.is_moment, subst (CauseHolds true (objects_after had.moment peer) (objects_after had.moment own) head) limit.1 had.cause, limit.2)

    -- and nothing did where the peer's entities have flat trees
    pub had_none : HasFlatEntities peer (files_of old) → (kind : EntityWord) (id : Id) (head : Name) → IsId id → head_at (files_of new) peer (local_side kind) id ≡ Head head → HadCause own peer old new head → ⊥
    had_none flat kind id head is reads had =
        let before = sym (peer_heads (local_side kind) id) ∙ reads in
        fetch_none_at had.moment had.is_moment kind id head is before (flat kind id head is before) (fault_of had.why) had.cause

-- ---- one turn

-- what the refusal of a turn says
record TellsCause (own peer : List ℕ) (name : Name) (out : Outcome) (old : History) : Type 0 where
  pub why : CopyCause
  pub is : out ≡ outcome.DamagedCopy why
  pub cause : CauseHolds true (objects_after old peer) (objects_after old own) name (fault_of why)

refused_for : (own peer : List ℕ) (to : Side) (id : Id) (head : Option Name) (out : Outcome) (old new : History) → FetchOutcome own peer to id head out old new → is_refused out ≡ true
    → (head ≡ None) ⊎ ((name : Name) × (head ≡ Some name) × TellsCause own peer name out old)
refused_for own peer to id None out old new step refused = inl refl
refused_for own peer to id (Some name) (outcome.DamagedCopy why) old new step refused = inr (name, refl, record { why = why; is = refl; cause = step.1.cause })
refused_for own peer to id (Some name) outcome.Same old new step refused = absurd (cc refused)
refused_for own peer to id (Some name) outcome.Fetched old new step refused = absurd (cc refused)
refused_for own peer to id (Some name) outcome.BadRef old new none refused = absurd none
refused_for own peer to id (Some name) outcome.Pushed old new none refused = absurd none
refused_for own peer to id (Some name) (outcome.NotForward other) old new none refused = absurd none
refused_for own peer to id (Some name) outcome.Held old new none refused = absurd none

-- ---- the lines

module _ (own peer : List ℕ) (remote : RemoteName) (apart : Overlap own peer → ⊥) (old new : History) (ours : IsSound own (files_of old)) (theirs : IsSound peer (files_of old))
    (alike : HaveOneText (objects_after new own) (objects_after new peer)) (lines : List Line) (done : FetchAnswers own peer remote old new (Ok lines)) (line : Line) (among : Contains lines line) where
  abbrev Steps : EntityWord → Bool → Turn → History → History → Type 0
  Steps kind held = Fetches own peer (tracking_side remote kind)

  of : LineTurn (MayFetch own peer remote) verb.Fetch Steps (λ (kind : EntityWord) (held : Bool). FetchStops own peer (tracking_side remote kind)) peer old new
      (λ kind held turn before after listed came step.
      Wrote-wider (FetchesAs own peer remote kind) (MayFetch own peer remote) before after (fetches_as own peer remote kind) (turn_wrote own peer remote apart old kind turn.entity.id turn.entity.head turn.outcome before after listed came step))
      line
  of = line_turn (MayFetch own peer remote) verb.Fetch Steps (λ (kind : EntityWord) (held : Bool). FetchStops own peer (tracking_side remote kind)) peer old new
      (λ kind held turn before after listed came step.
      Wrote-wider (FetchesAs own peer remote kind) (MayFetch own peer remote) before after (fetches_as own peer remote kind) (turn_wrote own peer remote apart old kind turn.entity.id turn.entity.head turn.outcome before after listed came step))
      lines done line among

  -- a line that refuses tells a limit
  abbrev TellsLimit : Line → Type 0
  TellsLimit l = is_refused l.outcome ≡ true → (count : ℕ) × (l.outcome ≡ outcome.DamagedCopy (cause.TooLarge count)) × IsTreeLimit count

  moment : IsMoment old new of.made.before
  moment = its_moment (MayFetch own peer remote) (Steps of.kind of.held) old new of.turn of.made

  pub fetch_limit : TellsLimit line
  fetch_limit = subst TellsLimit of.is (λ refused. by (refused_for own peer (tracking_side remote of.kind) of.turn.entity.id of.turn.entity.head of.turn.outcome of.made.before of.made.after of.made.step refused))
    where
      by : (of.turn.entity.head ≡ None) ⊎ ((name : Name) × (of.turn.entity.head ≡ Some name) × TellsCause own peer name of.turn.outcome of.made.before)
          → (count : ℕ) × (of.turn.outcome ≡ outcome.DamagedCopy (cause.TooLarge count)) × IsTreeLimit count
      by (inl none) = absurd (no_bad_ref peer (files_of old) theirs of.turn.entity.id of.listed.0 of.kind (of.listed.1 ∙ ap ref_with none))
      by (inr (name, is, tells)) =
          let limit = fetch_limit_at own peer remote apart old new (fetch_writes own peer remote apart old new (Ok lines) done) ours theirs alike of.made.before moment
          of.kind of.turn.entity.id name of.listed.0 (of.listed.1 ∙ ap ref_with is) (fault_of tells.why) tells.cause in
          (limit.0, tells.is ∙ ap outcome.DamagedCopy (told_limit tells.why limit.0 limit.1), limit.2)

  -- and none refuses where the peer's entities have flat trees
  pub fetch_none : HasFlatEntities peer (files_of old) → is_refused line.outcome ≡ true → ⊥
  fetch_none flat = subst (λ (l : Line). is_refused l.outcome ≡ true → ⊥) of.is
      (λ refused. by (refused_for own peer (tracking_side remote of.kind) of.turn.entity.id of.turn.entity.head of.turn.outcome of.made.before of.made.after of.made.step refused))
    where
      by : (of.turn.entity.head ≡ None) ⊎ ((name : Name) × (of.turn.entity.head ≡ Some name) × TellsCause own peer name of.turn.outcome of.made.before) → ⊥
      by (inl none) = no_bad_ref peer (files_of old) theirs of.turn.entity.id of.listed.0 of.kind (of.listed.1 ∙ ap ref_with none)
      by (inr (name, is, tells)) =
          let reads = of.listed.1 ∙ ap ref_with is in
          fetch_none_at own peer remote apart old new (fetch_writes own peer remote apart old new (Ok lines) done) ours theirs alike of.made.before moment
          of.kind of.turn.entity.id name of.listed.0 reads (flat of.kind of.turn.entity.id name of.listed.0 reads) (fault_of tells.why) tells.cause
