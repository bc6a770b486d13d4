-- Where each head is known already, each turn is quiet and writes nothing.
use Rattle.std.proofs.Common.{◌≡◌, ◌&&◌, inl, refl, sym, ◌∙◌, ap, subst, arith, ℕ, suc, Bool, true, false, List, [], ◌∷◌, Contains, Option, Some, None}
use Rattle.std.proofs.lemmas.List.Folds.{list_all-append}
use Rattle.gb_text.specs.declared.id.Id.{Id}
use Rattle.gb_text.specs.declared.id.Name.{Name}
use Rattle.gb_store.specs.Files.{History, files_of}
use Rattle.gb_store.specs.Turns.{InTurn}
use Rattle.ref_store.specs.Refs.{Head}
use Rattle.remote_name.specs.declared.remote.RemoteName.{RemoteName}
use Rattle.repo_state.specs.Listed.{AreRefs, ref_with}
use Rattle.repo_state.specs.Sides.{head_at}
use Rattle.repo_state.specs.declared.refs.EntityRef.{EntityRef}
use Rattle.repo_state.specs.declared.side.Side.{Side}
use Rattle.repo_state.specs.declared.stop.ReadStop.{ReadStop}
use Rattle.repo_state.proofs.ListingLemmas.{Contains-map}
use Rattle.sync_steps.specs.Fetching.{FetchOutcome, FetchStops, Fetches}
use Rattle.sync_steps.specs.Lines.{are_quiet, is_quiet}
use Rattle.sync_steps.specs.Places.{local_side, tracking_side}
use Rattle.sync_steps.specs.Pushing.{PushOfRef, PushOutcome, PushStops, Pushes}
use Rattle.sync_steps.specs.Quiet.{NothingToFetch, NothingToPush}
use Rattle.sync_steps.specs.Turns.{IsDone, Turn, Went, are_held, lines_of}
use Rattle.sync_steps.specs.declared.line.EntityWord.{EntityWord}
use Rattle.sync_steps.specs.declared.line.EntityWord.TheVariants as word
use Rattle.sync_steps.specs.declared.line.Exchange.{Exchange}
use Rattle.sync_steps.specs.declared.line.Exchange.TheVariants as verb
use Rattle.sync_steps.specs.declared.line.Line.{Line}
use Rattle.sync_steps.specs.declared.line.Outcome.{Outcome}
use Rattle.sync_steps.specs.declared.line.Outcome.TheVariants as outcome
use Rattle.sync_steps.proofs.FetchTurnLemmas.{other_differs}
use Rattle.sync_steps.proofs.PushTurnLemmas.{forward_differs}
use Rattle.sync_steps.proofs.StepLaws.{quiet_fetch, quiet_push}
use Rattle.sync_steps.proofs.WriteLemmas.{IsListed}

-- ---- turns that are quiet

module _ (verb : Exchange) (word : EntityWord) (folder : List ℕ) (old : History) (Step : Turn → History → History → Type 0)
    (quiet : (turn : Turn) (new : History) → IsListed old folder word turn.entity → Step turn old new → (is_quiet turn.outcome ≡ true) × (new ≡ old)) where
  -- where each is quiet that begins with the files at entry, so are all
  turns_quiet : (turns : List Turn) → ((turn : Turn) → Contains turns turn → IsListed old folder word turn.entity) → (start new : History) → start ≡ old → InTurn Step turns start new
      → (are_quiet (lines_of verb word turns) ≡ true) × (new ≡ old)
  turns_quiet [] listed start new same none = (refl, none ∙ same)
  turns_quiet (turn ∷ turns) listed start new same (mid, step, later) =
      let first = quiet turn mid (listed turn (0, omega arith, refl)) (subst (λ (h : History). Step turn h mid) same step) in
      let rest = turns_quiet turns (λ t c. listed t (suc c.0, omega (arith, c.1), c.2)) mid new first.1 later in
      (ap (λ (b : Bool). b && are_quiet (lines_of verb word turns)) first.0 ∙ rest.0, rest.1)

  went_quiet : (refs : List EntityRef) → AreRefs (files_of old) folder (local_side word) refs → (turns : List Turn) (start new : History) → start ≡ old → Went Step refs turns start new
      → (are_quiet (lines_of verb word turns) ≡ true) × (new ≡ old)
  went_quiet refs are turns start new same went =
      turns_quiet turns (λ turn c. (are.members turn.entity).0 (subst (λ (es : List EntityRef). Contains es turn.entity) went.are (Contains-map (λ (t : Turn). t.entity) turns turn c))) start new same went.each

-- and so is the whole exchange
done_quiet : (verb : Exchange) (Step : EntityWord → Bool → Turn → History → History → Type 0) (Stops : EntityWord → Bool → ReadStop → EntityRef → History → History → Type 0) (folder : List ℕ) (lines : List Line) (old new : History)
    → ((word : EntityWord) (held : Bool) (turn : Turn) (new : History) → IsListed old folder word turn.entity → Step word held turn old new → (is_quiet turn.outcome ≡ true) × (new ≡ old))
    → IsDone verb Step Stops folder lines old new → (are_quiet lines ≡ true) × (new ≡ old)
done_quiet verb Step Stops folder lines old new quiet done =
    let held = are_held done.person_turns in
    let people = went_quiet verb word.Identity folder old (Step word.Identity false) (quiet word.Identity false) done.people done.are.are_people done.person_turns old done.mid refl done.first in
    let bugs = went_quiet verb word.Bug folder old (Step word.Bug held) (quiet word.Bug held) done.bugs done.are.are_bugs done.bug_turns done.mid new people.1 done.then in (
      ap are_quiet done.are_lines
          ∙ list_all-append (λ (line : Line). is_quiet line.outcome) (lines_of verb word.Identity done.person_turns) (lines_of verb word.Bug done.bug_turns)
          ∙ ap (λ (b : Bool). b && are_quiet (lines_of verb word.Bug done.bug_turns)) people.0
          ∙ bugs.0,
      bugs.1,
    )

-- ---- fetches

known_fetch : (own peer : List ℕ) (to : Side) (id : Id) (head : Option Name) (out : Outcome) (old new : History) → ((name : Name) → ref_with head ≡ Head name → head_at (files_of old) own to id ≡ Head name)
    → FetchOutcome own peer to id head out old new → is_quiet out ≡ true
known_fetch own peer to id None outcome.BadRef old new known step = refl
known_fetch own peer to id None outcome.Fetched old new known none = absurd none
known_fetch own peer to id None outcome.Pushed old new known none = absurd none
known_fetch own peer to id None outcome.Same old new known none = absurd none
known_fetch own peer to id None (outcome.DamagedCopy why) old new known none = absurd none
known_fetch own peer to id None (outcome.NotForward other) old new known none = absurd none
known_fetch own peer to id None outcome.Held old new known none = absurd none
known_fetch own peer to id (Some name) outcome.Same old new known step = refl
known_fetch own peer to id (Some name) outcome.Fetched old new known step = absurd (other_differs (head_at (files_of old) own to id) name step.0 (known name refl))
known_fetch own peer to id (Some name) (outcome.DamagedCopy why) old new known step = absurd (other_differs (head_at (files_of old) own to id) name step.0 (known name refl))
known_fetch own peer to id (Some name) outcome.BadRef old new known none = absurd none
known_fetch own peer to id (Some name) outcome.Pushed old new known none = absurd none
known_fetch own peer to id (Some name) (outcome.NotForward other) old new known none = absurd none
known_fetch own peer to id (Some name) outcome.Held old new known none = absurd none

-- a fetch of heads that are known
pub fetch_quiet : (own peer : List ℕ) (remote : RemoteName) (old new : History) (lines : List Line)
    → IsDone verb.Fetch (λ (word : EntityWord) (held : Bool). Fetches own peer (tracking_side remote word)) (λ (word : EntityWord) (held : Bool). FetchStops own peer (tracking_side remote word)) peer lines old new
    → NothingToFetch own peer remote (files_of old) → (are_quiet lines ≡ true) × (new ≡ old)
fetch_quiet own peer remote old new lines done known =
    done_quiet verb.Fetch (λ (word : EntityWord) (held : Bool). Fetches own peer (tracking_side remote word)) (λ (word : EntityWord) (held : Bool). FetchStops own peer (tracking_side remote word)) peer lines old new
    (λ word held turn new listed step.
    let is = known_fetch own peer (tracking_side remote word) turn.entity.id turn.entity.head turn.outcome old new (λ name at. known word turn.entity.id name listed.0 (listed.1 ∙ at)) step in
    (is, quiet_fetch own peer (tracking_side remote word) turn.entity.id turn.entity.head turn.outcome old new step is))
    done

-- ---- pushes

known_head : (own peer : List ℕ) (of : Side) (id : Id) (name : Name) (out : Outcome) (old new : History) → head_at (files_of old) peer of id ≡ Head name → PushOutcome own peer of id name out old new → is_quiet out ≡ true
known_head own peer of id name outcome.Same old new known step = refl
known_head own peer of id name outcome.BadRef old new known step = refl
known_head own peer of id name (outcome.NotForward other) old new known step = let one : Head other ≡ Head name = sym step.0 ∙ known in let same : other ≡ name = cc in absurd (step.1 same)
known_head own peer of id name outcome.Pushed old new known step = absurd ((forward_differs _ (head_at (files_of old) peer of id) name name step.0 known).0 refl)
known_head own peer of id name (outcome.DamagedCopy why) old new known step = absurd ((forward_differs _ (head_at (files_of old) peer of id) name name step.0 known).0 refl)
known_head own peer of id name outcome.Fetched old new known none = absurd none
known_head own peer of id name outcome.Held old new known none = absurd none

known_push : (own peer : List ℕ) (of : Side) (held : Bool) (turn : Turn) (old new : History) → ((name : Name) → ref_with turn.entity.head ≡ Head name → head_at (files_of old) peer of turn.entity.id ≡ Head name)
    → Pushes own peer of held turn old new → is_quiet turn.outcome ≡ true
known_push own peer of true turn old new known step = ap is_quiet step.0
known_push own peer of false turn old new known step = by turn.entity.head known step
  where
    by : (head : Option Name) → ((name : Name) → ref_with head ≡ Head name → head_at (files_of old) peer of turn.entity.id ≡ Head name) → PushOfRef own peer of turn.entity.id head turn.outcome old new → is_quiet turn.outcome ≡ true
    by None known none = absurd none
    by (Some name) known step = known_head own peer of turn.entity.id name turn.outcome old new (known name refl) step

-- a push of heads that are known
pub push_quiet : (own peer : List ℕ) (old new : History) (lines : List Line)
    → IsDone verb.Push (λ (word : EntityWord). Pushes own peer (local_side word)) (λ (word : EntityWord). PushStops own peer (local_side word)) own lines old new
    → NothingToPush own peer (files_of old) → (are_quiet lines ≡ true) × (new ≡ old)
push_quiet own peer old new lines done known =
    done_quiet verb.Push (λ (word : EntityWord). Pushes own peer (local_side word)) (λ (word : EntityWord). PushStops own peer (local_side word)) own lines old new
    (λ word held turn new listed step.
    let is = known_push own peer (local_side word) held turn old new (λ name at. known word turn.entity.id name listed.0 (listed.1 ∙ at)) step in
    (is, quiet_push own peer (local_side word) held turn old new step (inl is)))
    done
