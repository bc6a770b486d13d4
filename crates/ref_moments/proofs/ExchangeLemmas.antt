-- What came of a ref by all turns of an exchange: it stays, or is set once.
use Rattle.std.proofs.Common.{◌≡◌, ◌≢◌, ◌⊎◌, inl, inr, refl, sym, subst, ℕ, Bool, false, List, Contains, Some, Result, Ok, Err}
use Rattle.std.proofs.lemmas.List.Elements.{Contains-append_cases}
use Rattle.gb_text.specs.declared.id.Id.{Id}
use Rattle.gb_text.specs.declared.id.Name.{Name}
use Rattle.gb_store.specs.Files.{History, files_of}
use Rattle.repo_state.specs.Listed.{AreRefs}
use Rattle.repo_state.specs.declared.refs.EntityRef.{EntityRef}
use Rattle.repo_state.specs.declared.side.Side.{Side}
use Rattle.repo_state.specs.declared.stop.ReadStop.{ReadStop}
use Rattle.repo_state.proofs.ListingLemmas.{Contains-from_map}
use Rattle.sync_steps.specs.Places.{local_side}
use Rattle.sync_steps.specs.Turns.{Ended, ExchangeAnswers, IsDone, Turn, are_held, line_of, lines_of}
use Rattle.sync_steps.specs.declared.line.EntityWord.{EntityWord}
use Rattle.sync_steps.specs.declared.line.EntityWord.TheVariants as word
use Rattle.sync_steps.specs.declared.line.Exchange.{Exchange}
use Rattle.sync_steps.specs.declared.line.Line.{Line}
use Rattle.ref_moments.specs.Once.{StaysSame}
use Rattle.ref_moments.proofs.ListedLemmas.{IsListed, SetBy, end_listed, ended_once, other_side, set_by_then, then_set_by, turn_at, turns_listed, went_once}
use Rattle.ref_moments.proofs.OnceLemmas.{stays_none, stays_then}
use Rattle.ref_moments.proofs.TurnLemmas.{Once}

-- the head that an entity has
abbrev pub HasHead : EntityRef → Name → Type 0
HasHead entity head = entity.head ≡ Some head

-- the ref of a turn's entity
abbrev pub ref_of : Turn → EntityRef
ref_of turn = turn.entity

module _ (verb : Exchange) (Step : EntityWord → Bool → Turn → History → History → Type 0) (Stops : EntityWord → Bool → ReadStop → EntityRef → History → History → Type 0) (source target : List ℕ) (to : EntityWord → Side)
    (apart : to word.Identity ≢ to word.Bug) (old : History) where
  -- what comes of the ref of an id in the turn of an entity of a kind
  abbrev pub OnceOf : Side → Id → EntityWord → EntityRef → History → History → Type 0
  OnceOf of id kind entity before after = Once target (to kind) of id HasHead entity before after

  module _ (each : (of : Side) (id : Id) (kind : EntityWord) (held : Bool) (turn : Turn) (before after : History) → IsListed old source (local_side kind) turn.entity → Step kind held turn before after
      → OnceOf of id kind turn.entity before after) where
    module _ (of : Side) (id : Id) where
      -- the ref is set in the turn of an entity of this kind
      abbrev SetOf : EntityWord → History → History → Type 0
      SetOf kind before after = SetBy old source (local_side kind) target (to kind) of id HasHead before after

      abbrev pub Whole : History → Type 0
      Whole new = StaysSame target of id old new ⊎ ((kind : EntityWord) × SetBy old source (local_side kind) target (to kind) of id HasHead old new)

      -- by the turns of both kinds
      both : (mid new : History) → StaysSame target of id old mid ⊎ SetOf word.Identity old mid → StaysSame target of id mid new ⊎ SetOf word.Bug mid new → Whole new
      both mid new (inl one) (inl two) = inl (stays_then target of id old mid new one two)
      both mid new (inl one) (inr two) = inr (word.Bug, then_set_by old source (local_side word.Bug) target (to word.Bug) of id HasHead old mid new one two)
      both mid new (inr one) (inl two) = inr (word.Identity, set_by_then old source (local_side word.Identity) target (to word.Identity) of id HasHead old mid new one two)
      both mid new (inr one) (inr two) = absurd (other_side (to word.Identity) (to word.Bug) of one.entity.id two.entity.id id apart one.sets.place two.sets.place)

      module _ (stops : (kind : EntityWord) (held : Bool) (why : ReadStop) (entity : EntityRef) (before after : History) → IsListed old source (local_side kind) entity → Stops kind held why entity before after
          → OnceOf of id kind entity before after) where
        -- where the call ended at an entity
        at_end : (kind : EntityWord) (held : Bool) (why : ReadStop) (refs : List EntityRef) (before after : History) → AreRefs (files_of old) source (local_side kind) refs → Ended (Step kind held) (Stops kind held) why refs before after
            → StaysSame target of id before after ⊎ SetOf kind before after
        at_end kind held why refs before after are ended =
            ended_once old source (local_side kind) target (to kind) of id HasHead ref_of (Step kind held) (each of id kind held) refs are ended.done ended.at ended.rest ended.are before ended.mid after ended.before
            (stops kind held why ended.at ended.mid after
            (end_listed old source (local_side kind) target (to kind) of id HasHead ref_of (Step kind held) (each of id kind held) refs are ended.done ended.at ended.rest ended.are) ended.ended)

        pub exchange_once : (new : History) (result : Result (List Line) ReadStop) → ExchangeAnswers verb Step Stops source old new result → Whole new
        exchange_once new (Ok lines) done =
            both done.mid new
            (went_once old source (local_side word.Identity) target (to word.Identity) of id HasHead ref_of (Step word.Identity false) (each of id word.Identity false) done.people done.are.are_people
            done.person_turns done.first.are old done.mid done.first.each)
            (went_once old source (local_side word.Bug) target (to word.Bug) of id HasHead ref_of (Step word.Bug (are_held done.person_turns)) (each of id word.Bug (are_held done.person_turns)) done.bugs done.are.are_bugs
            done.bug_turns done.then.are done.mid new done.then.each)
        exchange_once new (Err why) (inl none) = inl (stays_none target of id old new none.1)
        exchange_once new (Err why) (inr (inl person)) = both new new (at_end word.Identity false why person.people old new person.are.are_people person.ended) (inl (stays_none target of id new new refl))
        exchange_once new (Err why) (inr (inr bug)) =
            both bug.mid new
            (went_once old source (local_side word.Identity) target (to word.Identity) of id HasHead ref_of (Step word.Identity false) (each of id word.Identity false) bug.people bug.are.are_people
            bug.person_turns bug.first.are old bug.mid bug.first.each)
            (at_end word.Bug (are_held bug.person_turns) why bug.bugs bug.mid new bug.are.are_bugs bug.ended)

    -- ---- lines

    -- the turn of a line: the ref of its entity stays before it and behind it
    pub record LineTurn (line : Line) (new : History) : Type 0 where
      pub kind : EntityWord
      pub held : Bool
      pub turn : Turn
      pub is : line_of verb kind turn ≡ line
      pub listed : IsListed old source (local_side kind) turn.entity
      pub before : History
      pub after : History
      pub early : StaysSame target (to kind) turn.entity.id old before
      pub step : Step kind held turn before after
      pub late : StaysSame target (to kind) turn.entity.id after new

    -- what is set on one side leaves the refs of the other
    unset : (one two : EntityWord) (id : Id) (before after : History) → to one ≢ to two
        → StaysSame target (to one) id before after ⊎ SetBy old source (local_side two) target (to two) (to one) id HasHead before after → StaysSame target (to one) id before after
    unset one two id before after differ (inl stays) = stays
    unset one two id before after differ (inr set) = absurd (other_side (to one) (to two) (to one) id set.entity.id id differ refl set.sets.place)

    pub line_turn : (lines : List Line) (new : History) → IsDone verb Step Stops source lines old new → (line : Line) → Contains lines line → LineTurn line new
    line_turn lines new done line c =
        let held = are_held done.person_turns in
        elim (Contains-append_cases (lines_of verb word.Identity done.person_turns) (lines_of verb word.Bug done.bug_turns) line (subst (λ (ls : List Line). Contains ls line) done.are_lines c)) [
          | inl mine ↦
              let from = Contains-from_map (line_of verb word.Identity) done.person_turns line mine in
              let id = from.0.entity.id in
              let on = to word.Identity in
              let at = turn_at old source (local_side word.Identity) target on on id HasHead ref_of (Step word.Identity false) (each on id word.Identity false) done.people done.are.are_people
              done.person_turns done.first.are from.0 from.1 refl old done.mid done.first.each in
              let bugs = went_once old source (local_side word.Bug) target (to word.Bug) on id HasHead ref_of (Step word.Bug held) (each on id word.Bug held) done.bugs done.are.are_bugs
              done.bug_turns done.then.are done.mid new done.then.each in
              record {
                kind = word.Identity;
                held = false;
                turn = from.0;
                is = from.2;
                listed = turns_listed old source (local_side word.Identity) target on on id HasHead ref_of (Step word.Identity false) (each on id word.Identity false) done.people done.are.are_people
                    done.person_turns done.first.are from.0 from.1;
                before = at.before;
                after = at.after;
                early = at.early;
                step = at.step;
                late = stays_then target on id at.after done.mid new at.late (unset word.Identity word.Bug id done.mid new apart bugs);
              }
          | inr mine ↦
              let from = Contains-from_map (line_of verb word.Bug) done.bug_turns line mine in
              let id = from.0.entity.id in
              let on = to word.Bug in
              let at = turn_at old source (local_side word.Bug) target on on id HasHead ref_of (Step word.Bug held) (each on id word.Bug held) done.bugs done.are.are_bugs
              done.bug_turns done.then.are from.0 from.1 refl done.mid new done.then.each in
              let people = went_once old source (local_side word.Identity) target (to word.Identity) on id HasHead ref_of (Step word.Identity false) (each on id word.Identity false) done.people done.are.are_people
              done.person_turns done.first.are old done.mid done.first.each in
              record {
                kind = word.Bug;
                held = held;
                turn = from.0;
                is = from.2;
                listed = turns_listed old source (local_side word.Bug) target on on id HasHead ref_of (Step word.Bug held) (each on id word.Bug held) done.bugs done.are.are_bugs
                    done.bug_turns done.then.are from.0 from.1;
                before = at.before;
                after = at.after;
                early = stays_then target on id old done.mid at.before (unset word.Bug word.Identity id old done.mid (λ same. apart (sym same)) people) at.early;
                step = at.step;
                late = at.late;
              }
        ]
