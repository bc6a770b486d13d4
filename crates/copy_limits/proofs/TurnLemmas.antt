-- The turn that a line of an exchange tells of, and the writes before it and from it on.
use Rattle.std.proofs.Common.{◌≡◌, inl, inr, refl, subst, arith, ℕ, zero, suc, Bool, false, List, [], ◌∷◌, Contains}
use Rattle.std.proofs.lemmas.List.Elements.{Contains-append_cases}
use Rattle.gb_store.specs.Files.{Files, History}
use Rattle.gb_store.specs.Moments.{IsMoment, Wrote}
use Rattle.gb_store.specs.Turns.{InTurn}
use Rattle.gb_store.specs.declared.store.Change.{Change}
use Rattle.gb_store.proofs.MomentLemmas.{Wrote-none, Wrote-then}
use Rattle.repo_state.specs.declared.refs.EntityRef.{EntityRef}
use Rattle.repo_state.specs.declared.stop.ReadStop.{ReadStop}
use Rattle.repo_state.proofs.ListingLemmas.{Contains-from_map, Contains-map}
use Rattle.sync_steps.specs.Turns.{IsDone, Turn, are_held, line_of, lines_of}
use Rattle.sync_steps.specs.declared.line.EntityWord.{EntityWord}
use Rattle.sync_steps.specs.declared.line.EntityWord.TheVariants as word
use Rattle.sync_steps.specs.declared.line.Exchange.{Exchange}
use Rattle.sync_steps.specs.declared.line.Line.{Line}
use Rattle.sync_steps.proofs.WriteLemmas.{IsListed, turns_go}

module _ (May : Files → Change → Type 0) where
  -- a turn was made behind some writes and before others
  pub record WasMade (Step : Turn → History → History → Type 0) (old new : History) (turn : Turn) : Type 0 where
    pub before : History
    pub after : History
    pub step : Step turn before after
    pub came : Wrote May old before
    pub goes : Wrote May before new

  -- it began at a moment of the call
  pub its_moment : (Step : Turn → History → History → Type 0) (old new : History) (turn : Turn) (made : WasMade Step old new turn) → IsMoment old new made.before
  its_moment Step old new turn made = record { later = made.goes.writes; done = made.came.writes; before = made.came.grew; after = made.goes.grew }

  module _ (Step : Turn → History → History → Type 0) (entry : History) (Good : EntityRef → Type 0)
      (each : (turn : Turn) (old new : History) → Good turn.entity → Wrote May entry old → Step turn old new → Wrote May old new) where
    -- what turns write
    turns_wrote : (turns : List Turn) → ((turn : Turn) → Contains turns turn → Good turn.entity) → (old new : History) → Wrote May entry old → InTurn Step turns old new → Wrote May old new
    turns_wrote turns good old new came went = turns_go (Wrote May) (Wrote-none May) (Wrote-then May) Step entry Good each turns good old new came went

    -- each of the turns was made
    made_among : (turns : List Turn) → ((turn : Turn) → Contains turns turn → Good turn.entity) → (old new : History) → Wrote May entry old → InTurn Step turns old new
        → (turn : Turn) → Contains turns turn → WasMade Step entry new turn
    made_among [] good old new came went turn (k, lt, e) = absurd (omega arith)
    made_among (first ∷ turns) good old new came (mid, step, later) turn (zero, lt, e) =
        subst (WasMade Step entry new) e (record { before = old; after = mid; step = step; came = came; goes = turns_wrote (first ∷ turns) good old new came (mid, step, later) })
    made_among (first ∷ turns) good old new came (mid, step, later) turn (suc k, lt, e) =
        made_among turns (λ t c. good t (suc c.0, omega (arith, c.1), c.2)) mid new
        (Wrote-then May entry old mid came (each first old mid (good first (0, omega arith, refl)) came step)) later turn (k, omega (arith, lt), e)

  module _ (verb : Exchange) (Step : EntityWord → Bool → Turn → History → History → Type 0) (Stops : EntityWord → Bool → ReadStop → EntityRef → History → History → Type 0) (source : List ℕ) (old new : History)
      (each : (kind : EntityWord) (held : Bool) (turn : Turn) (before after : History) → IsListed old source kind turn.entity → Wrote May old before → Step kind held turn before after → Wrote May before after) where
    -- the turn of a line
    pub record LineTurn (line : Line) : Type 0 where
      pub kind : EntityWord
      pub held : Bool
      pub turn : Turn
      pub is : line_of verb kind turn ≡ line
      pub listed : IsListed old source kind turn.entity
      pub made : WasMade (Step kind held) old new turn

    pub line_turn : (lines : List Line) → IsDone verb Step Stops source lines old new → (line : Line) → Contains lines line → LineTurn line
    line_turn lines done line c = elim (Contains-append_cases (lines_of verb word.Identity done.person_turns) (lines_of verb word.Bug done.bug_turns) line (subst (λ (ls : List Line). Contains ls line) done.are_lines c)) [
      | inl mine ↦
          let from = Contains-from_map (line_of verb word.Identity) done.person_turns line mine in
          let made = made_among (Step word.Identity false) old (IsListed old source word.Identity) (each word.Identity false) done.person_turns people old done.mid (Wrote-none May old old refl) done.first.each from.0 from.1 in
          record {
            kind = word.Identity;
            held = false;
            turn = from.0;
            is = from.2;
            listed = people from.0 from.1;
            made = record { before = made.before; after = made.after; step = made.step; came = made.came; goes = Wrote-then May made.before done.mid new made.goes second };
          }
      | inr mine ↦
          let from = Contains-from_map (line_of verb word.Bug) done.bug_turns line mine in
          record {
            kind = word.Bug;
            held = held;
            turn = from.0;
            is = from.2;
            listed = bugs from.0 from.1;
            made = made_among (Step word.Bug held) old (IsListed old source word.Bug) (each word.Bug held) done.bug_turns bugs done.mid new first done.then.each from.0 from.1;
          }
    ]
      where
        held : Bool
        held = are_held done.person_turns

        people : (turn : Turn) → Contains done.person_turns turn → IsListed old source word.Identity turn.entity
        people turn among =
            (done.are.are_people.members turn.entity).0 (subst (λ (es : List EntityRef). Contains es turn.entity) done.first.are (Contains-map (λ (t : Turn). t.entity) done.person_turns turn among))

        bugs : (turn : Turn) → Contains done.bug_turns turn → IsListed old source word.Bug turn.entity
        bugs turn among =
            (done.are.are_bugs.members turn.entity).0 (subst (λ (es : List EntityRef). Contains es turn.entity) done.then.are (Contains-map (λ (t : Turn). t.entity) done.bug_turns turn among))

        first : Wrote May old done.mid
        first = turns_wrote (Step word.Identity false) old (IsListed old source word.Identity) (each word.Identity false) done.person_turns people old done.mid (Wrote-none May old old refl) done.first.each

        second : Wrote May done.mid new
        second = turns_wrote (Step word.Bug held) old (IsListed old source word.Bug) (each word.Bug held) done.bug_turns bugs done.mid new first done.then.each
