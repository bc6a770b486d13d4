-- What a fetch writes: where it sets the ref of a bug, the identities are tracked.
use Rattle.std.proofs.Common.{◌≡◌, ◌≢◌, ◌⊎◌, inl, inr, refl, sym, ◌∙◌, ap, subst, ℕ, Bool, false, List, [], ◌∷◌, ◌++◌, Option, Some, None, Result}
use Rattle.gb_text.specs.Digits.{IsName}
use Rattle.gb_text.specs.Overlap.{Overlap}
use Rattle.gb_text.specs.declared.id.Id.{Id}
use Rattle.gb_text.specs.declared.id.Name.{Name}
use Rattle.gb_text.proofs.PathLemmas.{Overlap-mutual}
use Rattle.gb_store.specs.Files.{Files, History, files_of, written}
use Rattle.gb_store.specs.Moments.{IsMoment, Wrote, WroteBy}
use Rattle.gb_store.specs.declared.store.Change.{Change}
use Rattle.gb_store.proofs.MomentLemmas.{IsMoment-of_first, IsMoment-of_second, Wrote-one, Wrote-wider}
use Rattle.ref_store.specs.Refs.{Head}
use Rattle.ref_store.proofs.MapLemmas.{set_ref_reads}
use Rattle.remote_name.specs.declared.remote.RemoteName.{RemoteName}
use Rattle.repo_state.specs.Listed.{AreRefs}
use Rattle.repo_state.specs.Sides.{head_at, ref_place}
use Rattle.repo_state.specs.declared.refs.EntityRef.{EntityRef}
use Rattle.repo_state.specs.declared.side.Side.{Side}
use Rattle.repo_state.specs.declared.side.Side.TheVariants as side
use Rattle.repo_state.specs.declared.stop.ReadStop.{ReadStop}
use Rattle.repo_state.proofs.KindLemmas.{head_at-other_id}
use Rattle.sync_steps.specs.Carrying.{head_write}
use Rattle.sync_steps.specs.Fetching.{FetchAnswers, FetchOutcome, FetchStops, Fetches}
use Rattle.sync_steps.specs.Places.{tracking_side}
use Rattle.sync_steps.specs.Turns.{Turn, Went, are_held}
use Rattle.sync_steps.specs.Writes.{MayFetch}
use Rattle.sync_steps.specs.declared.line.EntityWord.{EntityWord}
use Rattle.sync_steps.specs.declared.line.EntityWord.TheVariants as word
use Rattle.sync_steps.specs.declared.line.Exchange.TheVariants as verb
use Rattle.sync_steps.specs.declared.line.Line.{Line}
use Rattle.sync_steps.specs.declared.line.Outcome.{Outcome}
use Rattle.sync_steps.specs.declared.line.Outcome.TheVariants as outcome
use Rattle.sync_steps.proofs.FetchWriteLemmas.{FetchesAs, fetches_as, in_own, stop_wrote, turn_wrote}
use Rattle.sync_steps.proofs.FetchedLemmas.{turn_leaves}
use Rattle.sync_steps.proofs.SetLemmas.{id_of}
use Rattle.sync_steps.proofs.WriteLemmas.{heads_apart}
use Rattle.sync_writes.specs.Kinds.{ArePeopleTracked, FetchWrites, HadCause}
use Rattle.sync_writes.proofs.PartsLemmas.{exchange_writes}
use Rattle.sync_writes.proofs.StandLemmas.{WasListed, listed_came, listed_name, put_leaves, set_leaves}

-- ---- turns

-- a history that others were written on is a moment
grown : (old new : History) (writes : List Change) → new ≡ writes ++ old → IsMoment old new old
grown old new writes grew = record { later = writes; done = []; before = refl; after = grew }

module _ (own peer : List ℕ) (to : Side) where
  -- a turn only adds writes
  turn_grew : (id : Id) (head : Option Name) (out : Outcome) (old new : History) → FetchOutcome own peer to id head out old new → IsMoment old new old
  turn_grew id None outcome.BadRef old new same = grown old new [] same
  turn_grew id None outcome.Fetched old new none = absurd none
  turn_grew id None outcome.Pushed old new none = absurd none
  turn_grew id None outcome.Same old new none = absurd none
  turn_grew id None (outcome.DamagedCopy why) old new none = absurd none
  turn_grew id None (outcome.NotForward other) old new none = absurd none
  turn_grew id None outcome.Held old new none = absurd none
  turn_grew id (Some name) outcome.Same old new (at, same) = grown old new [] same
  turn_grew id (Some name) outcome.Fetched old new (other, carried) =
      let change = head_write own to (record { id = id; name = name }) in
      grown old new (change ∷ carried.put.writes) (carried.set ∙ ap (λ (h : History). change ∷ h) carried.put.grew)
  turn_grew id (Some name) (outcome.DamagedCopy why) old new (other, refused) = grown old new refused.put.writes refused.put.grew
  turn_grew id (Some name) outcome.BadRef old new none = absurd none
  turn_grew id (Some name) outcome.Pushed old new none = absurd none
  turn_grew id (Some name) (outcome.NotForward other) old new none = absurd none
  turn_grew id (Some name) outcome.Held old new none = absurd none

  module _ (entry : History) where
    -- the tracking ref has this head, or something kept it from being copied
    abbrev IsTracked : Id → Name → History → Type 0
    IsTracked id head now = (head_at (files_of now) own to id ≡ Head head) ⊎ HadCause own peer entry now head

    -- so it is after a turn
    turn_tracked : (id : Id) (head : Option Name) (out : Outcome) (old new : History) → ((name : Name) → head ≡ Some name → IsName name) → IsMoment entry old entry → FetchOutcome own peer to id head out old new
        → (name : Name) → head ≡ Some name → IsTracked id name new
    turn_tracked id None out old new named begun step name is = absurd cc
    turn_tracked id (Some head) out old new named begun step name is = let same : head ≡ name = cc in subst (λ (n : Name). IsTracked id n new) same (by out step)
      where
        by : (out : Outcome) → FetchOutcome own peer to id (Some head) out old new → IsTracked id head new
        by outcome.Same (at, same) = inl (ap (λ (h : History). head_at (files_of h) own to id) same ∙ at)
        by outcome.Fetched (other, carried) = inl (ap (λ (h : History). head_at (files_of h) own to id) carried.set ∙ set_ref_reads (files_of carried.mid) own (ref_place to id) head (named head refl))
        by (outcome.DamagedCopy why) (other, refused) =
            inr (record { moment = old; is_moment = IsMoment-of_second entry old new old begun (grown old new refused.put.writes refused.put.grew); why = why; cause = refused.cause })
        by outcome.BadRef none = absurd none
        by outcome.Pushed none = absurd none
        by (outcome.NotForward other) none = absurd none
        by outcome.Held none = absurd none

    -- and so it stays where the ref is left
    tracked_stays : (id : Id) (head : Name) (old new : History) → IsMoment old new old → head_at (files_of new) own to id ≡ head_at (files_of old) own to id → IsTracked id head old → IsTracked id head new
    tracked_stays id head old new grew left (inl at) = inl (left ∙ at)
    tracked_stays id head old new grew left (inr had) = inr (record { moment = had.moment; is_moment = IsMoment-of_first entry old new had.moment had.is_moment grew; why = had.why; cause = had.cause })

-- ---- the call

module _ (own peer : List ℕ) (remote : RemoteName) (apart : Overlap own peer → ⊥) (entry : History) where
  abbrev May : Files → Change → Type 0
  May = MayFetch own peer remote

  abbrev As : EntityWord → Bool → Files → Change → Type 0
  As word held = FetchesAs own peer remote word

  abbrev to : Side
  to = side.RemoteIdentities remote

  abbrev Listed : Turn → Type 0
  Listed = WasListed (files_of entry) peer side.Identities

  abbrev Begun : History → Type 0
  Begun now = IsMoment entry now entry

  -- what came of the turn of an identity
  abbrev Came : Turn → History → Type 0
  Came turn now = (head : Name) → turn.entity.head ≡ Some head → IsTracked own peer to entry (id_of turn) head now

  -- refs of the peer stay
  peer_stays : (on : Side) (id : Id) (old new : History) → Wrote May old new → head_at (files_of new) peer on id ≡ head_at (files_of old) peer on id
  peer_stays on id old new wrote = heads_apart May own peer (λ o. apart (Overlap-mutual peer own o)) (in_own own peer remote apart entry) on id old new wrote

  -- each turn only adds writes, so the call does
  grew : (turn : Turn) (old new : History) → Fetches own peer to turn old new → IsMoment old new old
  grew turn old new step = turn_grew own peer to (id_of turn) turn.entity.head turn.outcome old new step

  goes : (turn : Turn) (old new : History) → Begun old → Fetches own peer to turn old new → Begun new
  goes turn old new begun step = IsMoment-of_first entry old new entry begun (grew turn old new step)

  -- the turn brings it about
  comes : (turn : Turn) (old new : History) → Listed turn → Begun old → Fetches own peer to turn old new → Came turn new
  comes turn old new listed begun step = turn_tracked own peer to entry (id_of turn) turn.entity.head turn.outcome old new (λ name at. listed_name (files_of entry) peer side.Identities turn name listed at) begun step

  -- and the turns of others leave it
  stays : (turn other : Turn) (old new : History) → Listed turn → Listed other → id_of other ≢ id_of turn → Fetches own peer to other old new → Came turn old → Came turn new
  stays turn other old new listed theirs differ step came head at =
      tracked_stays own peer to entry (id_of turn) head old new (grew other old new step)
      (turn_leaves own peer to to (id_of turn) (id_of other) other.entity.head other.outcome old new (λ name files. head_at-other_id files own to (id_of other) (id_of turn) name theirs.0 listed.0 differ) step)
      (came head at)

  -- when all identities had their turns, they are tracked
  people_tracked : (people : List EntityRef) (turns : List Turn) (mid : History) → AreRefs (files_of entry) peer side.Identities people → Went (Fetches own peer to) people turns entry mid → Wrote (As word.Identity false) entry mid
      → ArePeopleTracked own peer remote entry mid
  people_tracked people turns mid are went wrote person head is_id reads =
      let was = sym (peer_stays side.Identities person entry mid (Wrote-wider (As word.Identity false) May entry mid (fetches_as own peer remote word.Identity) wrote)) ∙ reads in
      let came = listed_came (files_of entry) peer side.Identities (Fetches own peer to) Begun Came goes comes stays people turns are entry mid (grown entry entry [] refl) went (record { id = person; head = Some head }) is_id was in
      subst (λ (e : EntityRef). IsTracked own peer to entry e.id head mid) came.2 (came.3 head (ap (λ (e : EntityRef). e.head) came.2))

  -- where bugs have their turns
  abbrev Good : List Turn → History → Type 0
  Good turns now = ArePeopleTracked own peer remote entry now

  -- the writes of a bug leave the tracking refs of identities
  bug_leaves : (files : Files) (change : Change) (id : Id) → FetchesAs own peer remote word.Bug files change → head_at (written files change) own to id ≡ head_at files own to id
  bug_leaves files change id (inl puts) = put_leaves own files change to id puts
  bug_leaves files change id (inr (set, is_bug)) =
      set_leaves own files change (tracking_side remote set.word) to set.id id set.head set.write
      (λ e. let same : side.RemoteBugs remote ≡ side.RemoteIdentities remote = sym (ap (tracking_side remote) is_bug) ∙ e in cc)

  -- so identities stay tracked
  keeps : (turns : List Turn) (now : History) (change : Change) → Good turns now → As word.Bug (are_held turns) (files_of now) change → Good turns (change ∷ now)
  keeps turns now change good may person head is_id reads =
      let was = sym (peer_stays side.Identities person now (change ∷ now) (Wrote-one May change now (change ∷ now) (fetches_as own peer remote word.Bug (files_of now) change may) (inr refl))) ∙ reads in
      tracked_stays own peer to entry person head now (change ∷ now) (grown now (change ∷ now) (change ∷ []) refl) (bug_leaves (files_of now) change person may) (good person head is_id was)

  -- a write of an identity is one of these writes, and so is one of a bug
  person : (earlier : List Change) (change : Change) → As word.Identity false (files_of (earlier ++ entry)) change → FetchWrites own peer remote entry earlier change
  person earlier change (inl puts) = inl puts
  person earlier change (inr (set, is_person)) = inr (record { set = set; people = λ is_bug. (let same : word.Identity ≡ word.Bug = sym is_person ∙ is_bug in absurd cc) })

  bug : (turns : List Turn) (earlier : List Change) (change : Change) → Good turns (earlier ++ entry) → As word.Bug (are_held turns) (files_of (earlier ++ entry)) change → FetchWrites own peer remote entry earlier change
  bug turns earlier change good (inl puts) = inl puts
  bug turns earlier change good (inr (set, is_bug)) = inr (record { set = set; people = λ e. good })

  pub fetch_writes : (new : History) (result : Result (List Line) ReadStop) → FetchAnswers own peer remote entry new result → WroteBy (FetchWrites own peer remote) entry new
  fetch_writes new result answers =
      exchange_writes As May (λ word held. fetches_as own peer remote word) verb.Fetch (λ (word : EntityWord) (held : Bool). Fetches own peer (tracking_side remote word)) (λ (word : EntityWord) (held : Bool). FetchStops own peer (tracking_side remote word)) peer entry
      (λ word held turn old new listed before step. turn_wrote own peer remote apart entry word turn.entity.id turn.entity.head turn.outcome old new listed before step)
      (λ word held why entity old new listed before is. stop_wrote own peer remote apart entry word why entity old new listed before is)
      (FetchWrites own peer remote) Good person people_tracked keeps bug new result answers
