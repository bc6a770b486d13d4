-- The turn that a line tells of, and what stands of its ref before it and behind it.
use Rattle.std.proofs.Common.{◌≡◌, ◌≢◌, inl, inr, refl, sym, ◌∙◌, ap, subst, arith, ℕ, zero, suc, Bool, false, List, [], ◌∷◌, Contains, Some}
use Rattle.std.proofs.lemmas.List.Elements.{Contains-append_cases}
use Rattle.std.specs.Prelude.{⊤}
use Rattle.gb_text.specs.Digits.{IsName}
use Rattle.gb_text.specs.declared.id.Id.{Id}
use Rattle.gb_text.specs.declared.id.Name.{Name}
use Rattle.gb_store.specs.Files.{Files, History, files_of, written}
use Rattle.gb_store.specs.Turns.{InTurn}
use Rattle.ref_store.specs.Refs.{Head}
use Rattle.ref_store.specs.Setting.{ref_write}
use Rattle.repo_state.specs.Listed.{ref_with}
use Rattle.repo_state.specs.Sides.{head_at, ref_place}
use Rattle.repo_state.specs.declared.refs.EntityRef.{EntityRef}
use Rattle.repo_state.specs.declared.side.Side.{Side}
use Rattle.repo_state.specs.declared.stop.ReadStop.{ReadStop}
use Rattle.repo_state.proofs.ListingLemmas.{Contains-from_map, Contains-map}
use Rattle.sync_steps.specs.Places.{local_side}
use Rattle.sync_steps.specs.Turns.{IsDone, Turn, are_held, line_of, lines_of}
use Rattle.sync_steps.specs.declared.line.EntityWord.{EntityWord}
use Rattle.sync_steps.specs.declared.line.EntityWord.TheVariants as word
use Rattle.sync_steps.specs.declared.line.Exchange.{Exchange}
use Rattle.sync_steps.specs.declared.line.Line.{Line}
use Rattle.sync_steps.specs.declared.line.Outcome.{Outcome}
use Rattle.ref_store.proofs.FrameLemmas.{head_is_name}
use Rattle.sync_steps.proofs.SetLemmas.{AllOnce, id_of, none_among, once_of_refs, sides_leave, turn_leaves_other, turns_leave}
use Rattle.sync_steps.proofs.WriteLemmas.{IsListed, turns_go}

-- a turn among others: the ref of its entity stood before it as at first, and stands in the end as behind it
pub record IsTurn (Rel : History → History → Type 0) (Step : Turn → History → History → Type 0) (target : List ℕ) (to : Side) (turn : Turn) (old new : History) : Type 0 where
  pub before : History
  pub after : History
  pub step : Step turn before after
  pub earlier : head_at (files_of before) target to (id_of turn) ≡ head_at (files_of old) target to (id_of turn)
  pub later : head_at (files_of new) target to (id_of turn) ≡ head_at (files_of after) target to (id_of turn)
  pub came : Rel old before
  pub goes : Rel before new

-- the turn of a line
pub record TurnOf (Rel : History → History → Type 0) (verb : Exchange) (Step : EntityWord → Bool → Turn → History → History → Type 0) (source target : List ℕ) (to : EntityWord → Side) (old new : History) (line : Line) : Type 0 where
  pub word : EntityWord
  pub turn : Turn
  pub is : line_of verb word turn ≡ line
  pub listed : IsListed old source word turn.entity
  pub held : Bool
  pub at : IsTurn Rel (Step word held) target (to word) turn old new

-- what goes from each turn to the next
module _ (Rel : History → History → Type 0) (none : (old new : History) → new ≡ old → Rel old new) (then : (old mid new : History) → Rel old mid → Rel mid new → Rel old new) (source target : List ℕ) where
  module _ (entry : History) (word : EntityWord) (to : Side) (Step : Turn → History → History → Type 0)
      (leaves : (turn : Turn) (of : Side) (id : Id) (old new : History) → ((name : Name) (files : Files) → head_at (written files (ref_write target (ref_place to (id_of turn)) name)) target of id ≡ head_at files target of id)
      → Step turn old new → head_at (files_of new) target of id ≡ head_at (files_of old) target of id)
      (each : (turn : Turn) (old new : History) → IsListed entry source word turn.entity → Rel entry old → Step turn old new → Rel old new) where
    -- each turn is one among the others
    is_turn : (turns : List Turn) → ((turn : Turn) → Contains turns turn → IsListed entry source word turn.entity) → AllOnce turns → (old new : History) → Rel entry old → InTurn Step turns old new
        → (turn : Turn) → Contains turns turn → IsTurn Rel Step target to turn old new
    is_turn [] listed once old new came same turn (k, lt, e) = absurd (omega arith)
    is_turn (first ∷ turns) listed once old new came (mid, step, later) turn (zero, lt, e) =
        let own = listed first (0, omega arith, refl) in
        let others = λ (t : Turn) (c : Contains turns t). listed t (suc c.0, omega (arith, c.1), c.2) in
        let went = each first old mid own came step in
        subst (λ (t : Turn). IsTurn Rel Step target to t old new) e (record {
          before = old;
          after = mid;
          step = step;
          earlier = refl;
          later = turns_leave target to Step leaves (id_of first) own.0 turns (λ t c. (others t c).0) once.0 mid new later;
          came = none old old refl;
          goes = then old mid new went (turns_go Rel none then Step entry (IsListed entry source word) each turns others mid new (then entry old mid came went) later);
        })
    is_turn (first ∷ turns) listed once old new came (mid, step, later) turn (suc k, lt, e) =
        let own = listed first (0, omega arith, refl) in
        let others = λ (t : Turn) (c : Contains turns t). listed t (suc c.0, omega (arith, c.1), c.2) in
        let went = each first old mid own came step in
        let at : Contains turns turn = (k, omega arith, e) in
        let ih = is_turn turns others once.1 mid new (then entry old mid came went) later turn at in
        record {
          before = ih.before;
          after = ih.after;
          step = ih.step;
          earlier = ih.earlier ∙ turn_leaves_other target to Step leaves first (id_of turn) own.0 (others turn at).0 (λ same. none_among (id_of first) turns once.0 turn at (sym same)) old mid step;
          later = ih.later;
          came = then old mid ih.before went ih.came;
          goes = ih.goes;
        }

  -- ---- a whole exchange

  module _ (verb : Exchange) (Step : EntityWord → Bool → Turn → History → History → Type 0) (Stops : EntityWord → Bool → ReadStop → EntityRef → History → History → Type 0) (to : EntityWord → Side)
      (apart : to word.Bug ≢ to word.Identity)
      (leaves : (word : EntityWord) (held : Bool) (turn : Turn) (of : Side) (id : Id) (old new : History)
      → ((name : Name) (files : Files) → head_at (written files (ref_write target (ref_place (to word) (id_of turn)) name)) target of id ≡ head_at files target of id)
      → Step word held turn old new → head_at (files_of new) target of id ≡ head_at (files_of old) target of id)
      (old new : History)
      (each : (word : EntityWord) (held : Bool) (turn : Turn) (before after : History) → IsListed old source word turn.entity → Rel old before → Step word held turn before after → Rel before after) where
    pub turn_of : (lines : List Line) → IsDone verb Step Stops source lines old new → (line : Line) → Contains lines line → TurnOf Rel verb Step source target to old new line
    turn_of lines done line c =
        let held = are_held done.person_turns in
        let people = λ (t : Turn) (c : Contains done.person_turns t). (done.are.are_people.members t.entity).0 (subst (λ (es : List EntityRef). Contains es t.entity) done.first.are (Contains-map (λ (t : Turn). t.entity) done.person_turns t c)) in
        let bugs = λ (t : Turn) (c : Contains done.bug_turns t). (done.are.are_bugs.members t.entity).0 (subst (λ (es : List EntityRef). Contains es t.entity) done.then.are (Contains-map (λ (t : Turn). t.entity) done.bug_turns t c)) in
        let first = turns_go Rel none then (Step word.Identity false) old (IsListed old source word.Identity) (each word.Identity false) done.person_turns people old done.mid (none old old refl) done.first.each in
        let second = turns_go Rel none then (Step word.Bug held) old (IsListed old source word.Bug) (each word.Bug held) done.bug_turns bugs done.mid new first done.then.each in
        elim (Contains-append_cases (lines_of verb word.Identity done.person_turns) (lines_of verb word.Bug done.bug_turns) line (subst (λ (ls : List Line). Contains ls line) done.are_lines c)) [
          | inl mine ↦
              let from = Contains-from_map (line_of verb word.Identity) done.person_turns line mine in
              let once = once_of_refs (files_of old) source (local_side word.Identity) done.people done.person_turns done.are.are_people done.first.are in
              let at = is_turn old word.Identity (to word.Identity) (Step word.Identity false) (leaves word.Identity false) (each word.Identity false) done.person_turns people once old done.mid (none old old refl) done.first.each from.0 from.1 in
              let stays = sides_leave target (to word.Bug) (Step word.Bug held) (leaves word.Bug held) (to word.Identity) apart (id_of from.0) done.bug_turns done.mid new done.then.each in
              record {
                word = word.Identity;
                turn = from.0;
                is = from.2;
                listed = people from.0 from.1;
                held = false;
                at = record { before = at.before; after = at.after; step = at.step; earlier = at.earlier; later = stays ∙ at.later; came = at.came; goes = then at.before done.mid new at.goes second };
              }
          | inr mine ↦
              let from = Contains-from_map (line_of verb word.Bug) done.bug_turns line mine in
              let once = once_of_refs (files_of old) source (local_side word.Bug) done.bugs done.bug_turns done.are.are_bugs done.then.are in
              let at = is_turn old word.Bug (to word.Bug) (Step word.Bug held) (leaves word.Bug held) (each word.Bug held) done.bug_turns bugs once done.mid new first done.then.each from.0 from.1 in
              let stays = sides_leave target (to word.Identity) (Step word.Identity false) (leaves word.Identity false) (to word.Bug) (λ same. apart (sym same)) (id_of from.0) done.person_turns old done.mid done.first.each in
              record {
                word = word.Bug;
                turn = from.0;
                is = from.2;
                listed = bugs from.0 from.1;
                held = held;
                at = record { before = at.before; after = at.after; step = at.step; earlier = at.earlier ∙ stays; later = at.later; came = then old done.mid at.before first at.came; goes = at.goes };
              }
        ]

-- ---- what a turn sets

module _ (verb : Exchange) (Step : EntityWord → Bool → Turn → History → History → Type 0) (Stops : EntityWord → Bool → ReadStop → EntityRef → History → History → Type 0) (source target : List ℕ) (to : EntityWord → Side) (Sets : Outcome → Type 0)
    (apart : to word.Bug ≢ to word.Identity)
    (leaves : (word : EntityWord) (held : Bool) (turn : Turn) (of : Side) (id : Id) (old new : History)
    → ((name : Name) (files : Files) → head_at (written files (ref_write target (ref_place (to word) (id_of turn)) name)) target of id ≡ head_at files target of id)
    → Step word held turn old new → head_at (files_of new) target of id ≡ head_at (files_of old) target of id)
    (sets : (word : EntityWord) (held : Bool) (turn : Turn) (old new : History) → ((name : Name) → turn.entity.head ≡ Some name → IsName name) → Sets turn.outcome → Step word held turn old new
    → (name : Name) × (turn.entity.head ≡ Some name) × (head_at (files_of new) target (to word) (id_of turn) ≡ Head name))
    (old new : History) (lines : List Line) (done : IsDone verb Step Stops source lines old new) where
  -- the ref that was set has the head of the other one
  abbrev AreSame : Line → Type 0
  AreSame line = (name : Name) × (head_at (files_of old) source (local_side line.word) line.id ≡ Head name) × (head_at (files_of new) target (to line.word) line.id ≡ Head name)

  alike : (line : Line) → TurnOf (λ (before after : History). ⊤) verb Step source target to old new line → Sets line.outcome → AreSame line
  alike line of is =
      let named = λ (name : Name) (at : of.turn.entity.head ≡ Some name). head_is_name (files_of old) source (ref_place (local_side of.word) (id_of of.turn)) name (of.listed.1 ∙ ap ref_with at) in
      let has = sets of.word of.held of.turn of.at.before of.at.after named (subst (λ (l : Line). Sets l.outcome) (sym of.is) is) of.at.step in
      subst AreSame of.is (has.0, of.listed.1 ∙ ap ref_with has.1, of.at.later ∙ has.2)

  pub refs_are_same : (line : Line) → Contains lines line → Sets line.outcome → AreSame line
  refs_are_same line c is =
      alike line
      (turn_of (λ (before after : History). ⊤) (λ before after e. tt) (λ before mid after one two. tt) source target verb Step Stops to apart leaves old new (λ word held turn before after listed came step. tt) lines done line c)
      is
