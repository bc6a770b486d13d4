-- What a fetch that refuses no bug leaves of refs.
use Rattle.std.proofs.Common.{◌≡◌, ◌≢◌, ◌⊎◌, inl, inr, ℕ, zero, suc, false, List, [], ◌∷◌, Contains, Option, Some, None, Ok, refl, sym, ◌∙◌, ap, subst, arith}
use Rattle.std.proofs.lemmas.List.Elements.{Contains-append_right}
use Rattle.gb_text.specs.Digits.{IsId}
use Rattle.gb_text.specs.declared.id.Id.{Id}
use Rattle.gb_text.specs.declared.id.Name.{Name}
use Rattle.gb_store.specs.Files.{Files, History, files_of, written}
use Rattle.gb_store.specs.Turns.{InTurn}
use Rattle.ref_store.specs.Refs.{Absent, Head}
use Rattle.ref_store.specs.Setting.{ref_write}
use Rattle.remote_name.specs.declared.remote.RemoteName.{RemoteName}
use Rattle.repo_state.specs.Listed.{ref_with}
use Rattle.repo_state.specs.Sides.{head_at, ref_place}
use Rattle.repo_state.specs.declared.refs.EntityRef.{EntityRef}
use Rattle.repo_state.specs.declared.side.Side.{Side}
use Rattle.repo_state.specs.declared.side.Side.TheVariants as side
use Rattle.repo_state.proofs.ListingLemmas.{Contains-from_map, Contains-map}
use Rattle.sync_steps.specs.Fetching.{FetchAnswers, FetchOutcome, Fetches}
use Rattle.sync_steps.specs.Lines.{is_refused}
use Rattle.sync_steps.specs.Places.{local_side, tracking_side}
use Rattle.sync_steps.specs.Turns.{Turn, line_of, lines_of}
use Rattle.sync_steps.specs.declared.line.EntityWord.{EntityWord}
use Rattle.sync_steps.specs.declared.line.EntityWord.TheVariants as word
use Rattle.sync_steps.specs.declared.line.Exchange.TheVariants as verb
use Rattle.sync_steps.specs.declared.line.Line.{Line}
use Rattle.sync_steps.specs.declared.line.Outcome.{Outcome}
use Rattle.sync_steps.specs.declared.line.Outcome.TheVariants as outcome
use Rattle.sync_steps.proofs.FetchedLemmas.{fetched_stands, turn_leaves}
use Rattle.sync_steps.proofs.HeldLemmas.{not_refused}
use Rattle.sync_steps.proofs.SetLemmas.{NoneIs, id_of, sides_leave, turns_leave}

-- each of some turns was made
step_of : {A : Type 0} (Step : A → History → History → Type 0) (turns : List A) (turn : A) → Contains turns turn → (old new : History) → InTurn Step turns old new
    → (before : History) × (after : History) × Step turn before after
step_of Step [] turn (k, lt, e) old new went = absurd (omega arith)
step_of Step (first ∷ turns) turn (zero, lt, e) old new (mid, step, later) = (old, mid, subst (λ t. Step t old mid) e step)
step_of Step (first ∷ turns) turn (suc k, lt, e) old new (mid, step, later) = step_of Step turns turn (k, omega (arith, lt), e) mid new later

-- none of these is of an id that no one of them has
none_is : (id : Id) (turns : List Turn) → ((turn : Turn) → Contains turns turn → id_of turn ≢ id) → NoneIs id turns
none_is id [] differ = tt
none_is id (turn ∷ turns) differ = (differ turn (0, omega arith, refl), none_is id turns (λ t c. differ t (suc c.0, omega (arith, c.1), c.2)))

-- no turn of a fetch pushes
never_pushed : (own peer : List ℕ) (to : Side) (id : Id) (head : Option Name) (out : Outcome) (old new : History) → out ≡ outcome.Pushed → FetchOutcome own peer to id head out old new → ⊥
never_pushed own peer to id None outcome.Pushed old new e none = none
never_pushed own peer to id (Some name) outcome.Pushed old new e none = none
never_pushed own peer to id head outcome.BadRef old new e step = cc e
never_pushed own peer to id head outcome.Fetched old new e step = cc e
never_pushed own peer to id head outcome.Same old new e step = cc e
never_pushed own peer to id head (outcome.DamagedCopy why) old new e step = cc e
never_pushed own peer to id head (outcome.NotForward other) old new e step = cc e
never_pushed own peer to id head outcome.Held old new e step = cc e

-- a ref that stands is not one that does not
pub with_none : (head : Option Name) → Absent ≡ ref_with head → ⊥
with_none None e = cc e
with_none (Some name) e = cc e

module _ (own peer : List ℕ) (remote : RemoteName) (old new : History) (lines : List Line) (done : FetchAnswers own peer remote old new (Ok lines)) where
  -- a turn leaves each ref but that of its own entity
  leaves : (to : Side) (turn : Turn) (of : Side) (id : Id) (before after : History) → ((name : Name) (files : Files) → head_at (written files (ref_write own (ref_place to (id_of turn)) name)) own of id ≡ head_at files own of id)
      → Fetches own peer to turn before after → head_at (files_of after) own of id ≡ head_at (files_of before) own of id
  leaves to turn of id before after apart step = turn_leaves own peer to of id (id_of turn) turn.entity.head turn.outcome before after apart step

  -- refs on a side that is not of this remote stay
  pub fetch_keeps : (of : Side) (id : Id) → side.RemoteBugs remote ≢ of → side.RemoteIdentities remote ≢ of → head_at (files_of new) own of id ≡ head_at (files_of old) own of id
  fetch_keeps of id no_bug no_person =
      sides_leave own (side.RemoteBugs remote) (Fetches own peer (side.RemoteBugs remote)) (leaves (side.RemoteBugs remote)) of no_bug id done.bug_turns done.mid new done.then.each
      ∙ sides_leave own (side.RemoteIdentities remote) (Fetches own peer (side.RemoteIdentities remote)) (leaves (side.RemoteIdentities remote)) of no_person id done.person_turns old done.mid done.first.each

  -- each bug that had its turn has a ref in the peer
  listed : (turn : Turn) → Contains done.bug_turns turn → IsId (id_of turn) × (head_at (files_of old) peer side.Bugs (id_of turn) ≡ ref_with turn.entity.head)
  listed turn c =
      (done.are.are_bugs.members turn.entity).0 (subst (λ (es : List EntityRef). Contains es turn.entity) done.then.are (Contains-map (λ (t : Turn). t.entity) done.bug_turns turn c))

  -- the tracking ref of a bug that the peer does not have stays
  pub fetch_passes : (id : Id) → IsId id → head_at (files_of old) peer side.Bugs id ≡ Absent
      → head_at (files_of new) own (side.RemoteBugs remote) id ≡ head_at (files_of old) own (side.RemoteBugs remote) id
  fetch_passes id is none =
      turns_leave own (side.RemoteBugs remote) (Fetches own peer (side.RemoteBugs remote)) (leaves (side.RemoteBugs remote)) id is done.bug_turns (λ t c. (listed t c).0)
      (none_is id done.bug_turns differ) done.mid new done.then.each
      ∙ sides_leave own (side.RemoteIdentities remote) (Fetches own peer (side.RemoteIdentities remote)) (leaves (side.RemoteIdentities remote)) (side.RemoteBugs remote) (λ e. cc e) id done.person_turns old done.mid done.first.each
    where
      differ : (turn : Turn) → Contains done.bug_turns turn → id_of turn ≢ id
      differ turn c same = with_none turn.entity.head (sym none ∙ ap (λ (one : Id). head_at (files_of old) peer side.Bugs one) (sym same) ∙ (listed turn c).1)

  -- the tracking ref of an entity that the peer has, and whose line is no refusal, has the peer's head
  pub turn_brings : (word : EntityWord) (turns : List Turn) (before after : History) → InTurn (Fetches own peer (tracking_side remote word)) turns before after
      → (turn : Turn) → Contains turns turn → (id : Id) (head : Name) → turn.entity ≡ record { id = id; head = Some head }
      → Contains lines (line_of verb.Fetch word turn) → is_refused turn.outcome ≡ false
      → head_at (files_of old) peer (local_side word) id ≡ Head head → head_at (files_of new) own (tracking_side remote word) id ≡ Head head
  turn_brings word turns before after went turn c id head is in_lines passes at = by ((not_refused turn.outcome).0 passes)
    where
      set : (turn.outcome ≡ outcome.Fetched) ⊎ (turn.outcome ≡ outcome.Same) → head_at (files_of new) own (tracking_side remote word) id ≡ Head head
      set brought =
          let stands = fetched_stands own peer remote old new lines done (line_of verb.Fetch word turn) in_lines brought in
          let same : turn.entity.id ≡ id = ap (λ (e : EntityRef). e.id) is in
          let there : head_at (files_of old) peer (local_side word) id ≡ Head stands.0 = subst (λ (one : Id). head_at (files_of old) peer (local_side word) one ≡ Head stands.0) same stands.1 in
          let here : head_at (files_of new) own (tracking_side remote word) id ≡ Head stands.0 = subst (λ (one : Id). head_at (files_of new) own (tracking_side remote word) one ≡ Head stands.0) same stands.2 in
          here ∙ sym there ∙ at

      by : (turn.outcome ≡ outcome.Fetched) ⊎ (turn.outcome ≡ outcome.Pushed) ⊎ (turn.outcome ≡ outcome.Same) → head_at (files_of new) own (tracking_side remote word) id ≡ Head head
      by (inl fetched) = set (inl fetched)
      by (inr (inl pushed)) =
          let step = step_of (Fetches own peer (tracking_side remote word)) turns turn c before after went in
          absurd (never_pushed own peer (tracking_side remote word) turn.entity.id turn.entity.head turn.outcome step.0 step.1 pushed step.2)
      by (inr (inr same)) = set (inr same)

  -- so that of a bug has
  pub fetch_brings : ((line : Line) → Contains lines line → line.word ≡ word.Bug → is_refused line.outcome ≡ false) → (id : Id) (head : Name) → IsId id
      → head_at (files_of old) peer side.Bugs id ≡ Head head → head_at (files_of new) own (side.RemoteBugs remote) id ≡ Head head
  fetch_brings refuses id head is at =
      turn_brings word.Bug done.bug_turns done.mid new done.then.each from.0 from.1 id head from.2 in_lines (refuses (line_of verb.Fetch word.Bug from.0) in_lines refl) at
    where
      entity : EntityRef
      entity = record { id = id; head = Some head }

      from : (turn : Turn) × Contains done.bug_turns turn × (turn.entity ≡ entity)
      from = Contains-from_map (λ (t : Turn). t.entity) done.bug_turns entity
          (subst (λ (es : List EntityRef). Contains es entity) (sym done.then.are) ((done.are.are_bugs.members entity).1 (is, at)))

      in_lines : Contains lines (line_of verb.Fetch word.Bug from.0)
      in_lines = subst (λ (ls : List Line). Contains ls (line_of verb.Fetch word.Bug from.0)) (sym done.are_lines)
          (Contains-append_right (lines_of verb.Fetch word.Identity done.person_turns) (lines_of verb.Fetch word.Bug done.bug_turns) (line_of verb.Fetch word.Bug from.0)
          (Contains-map (line_of verb.Fetch word.Bug) done.bug_turns from.0 from.1))
