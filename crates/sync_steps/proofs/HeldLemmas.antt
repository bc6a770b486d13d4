-- What the lines of an exchange say of its turns: which bugs are held, and which refs are bad.
use Rattle.std.proofs.Common.{◌≡◌, ◌↔◌, ◌⊎◌, ◌||◌, inl, inr, refl, sym, ◌∙◌, ap, subst, arith, ℕ, zero, suc, Bool, true, false, List, [], ◌∷◌, Contains, Option, Some, None}
use Rattle.std.proofs.lemmas.List.Elements.{Contains-append_cases, Contains-append_left}
use Rattle.gb_text.specs.declared.id.Id.{Id}
use Rattle.gb_text.specs.declared.id.Name.{Name}
use Rattle.gb_store.specs.Files.{History, files_of}
use Rattle.gb_store.specs.Turns.{InTurn}
use Rattle.ref_store.specs.Refs.{Bad}
use Rattle.repo_state.specs.Listed.{AreRefs, ref_with}
use Rattle.repo_state.specs.Sides.{head_at}
use Rattle.repo_state.specs.declared.refs.EntityRef.{EntityRef}
use Rattle.remote_name.specs.declared.remote.RemoteName.{RemoteName}
use Rattle.repo_state.specs.declared.side.Side.{Side}
use Rattle.repo_state.specs.declared.side.Side.TheVariants as side
use Rattle.repo_state.proofs.ListingLemmas.{Contains-from_map, Contains-map}
use Rattle.sync_steps.specs.Fetching.{FetchOutcome, FetchStops, Fetches}
use Rattle.sync_steps.specs.Lines.{is_quiet, is_refused}
use Rattle.sync_steps.specs.Places.{local_side, tracking_side}
use Rattle.sync_steps.specs.Pushing.{PushOfRef, PushOutcome, PushStops, Pushes}
use Rattle.sync_steps.specs.Turns.{IsDone, Turn, Went, are_held, is_damage, line_of, lines_of}
use Rattle.sync_steps.specs.declared.line.CopyCause.{CopyCause}
use Rattle.sync_steps.specs.declared.line.EntityWord.{EntityWord}
use Rattle.sync_steps.specs.declared.line.EntityWord.TheVariants as word
use Rattle.sync_steps.specs.declared.line.Exchange.TheVariants as verb
use Rattle.sync_steps.specs.declared.line.Line.{Line}
use Rattle.sync_steps.specs.declared.line.Outcome.{Outcome}
use Rattle.sync_steps.specs.declared.line.Outcome.TheVariants as outcome

-- ---- outcomes

pub not_refused : (out : Outcome) → (is_refused out ≡ false) ↔ ((out ≡ outcome.Fetched) ⊎ (out ≡ outcome.Pushed) ⊎ (out ≡ outcome.Same))
not_refused outcome.Fetched = (λ e. inl refl, λ e. refl)
not_refused outcome.Pushed = (λ e. inr (inl refl), λ e. refl)
not_refused outcome.Same = (λ e. inr (inr refl), λ e. refl)
not_refused outcome.BadRef = (λ e. absurd cc, λ e. elim e [ inl f ↦ absurd cc | inr f ↦ elim f [ inl g ↦ absurd cc | inr g ↦ absurd cc ] ])
not_refused (outcome.DamagedCopy why) = (λ e. absurd cc, λ e. elim e [ inl f ↦ absurd cc | inr f ↦ elim f [ inl g ↦ absurd cc | inr g ↦ absurd cc ] ])
not_refused (outcome.NotForward name) = (λ e. absurd cc, λ e. elim e [ inl f ↦ absurd cc | inr f ↦ elim f [ inl g ↦ absurd cc | inr g ↦ absurd cc ] ])
not_refused outcome.Held = (λ e. absurd cc, λ e. elim e [ inl f ↦ absurd cc | inr f ↦ elim f [ inl g ↦ absurd cc | inr g ↦ absurd cc ] ])

pub quiet : (out : Outcome) → (is_quiet out ≡ true) ↔ ((out ≡ outcome.Same) ⊎ (out ≡ outcome.BadRef) ⊎ (out ≡ outcome.Held))
quiet outcome.Same = (λ e. inl refl, λ e. refl)
quiet outcome.BadRef = (λ e. inr (inl refl), λ e. refl)
quiet outcome.Held = (λ e. inr (inr refl), λ e. refl)
quiet outcome.Fetched = (λ e. absurd cc, λ e. elim e [ inl f ↦ absurd cc | inr f ↦ elim f [ inl g ↦ absurd cc | inr g ↦ absurd cc ] ])
quiet outcome.Pushed = (λ e. absurd cc, λ e. elim e [ inl f ↦ absurd cc | inr f ↦ elim f [ inl g ↦ absurd cc | inr g ↦ absurd cc ] ])
quiet (outcome.DamagedCopy why) = (λ e. absurd cc, λ e. elim e [ inl f ↦ absurd cc | inr f ↦ elim f [ inl g ↦ absurd cc | inr g ↦ absurd cc ] ])
quiet (outcome.NotForward name) = (λ e. absurd cc, λ e. elim e [ inl f ↦ absurd cc | inr f ↦ elim f [ inl g ↦ absurd cc | inr g ↦ absurd cc ] ])

abbrev IsDamaged : Outcome → Type 0
IsDamaged out = (out ≡ outcome.BadRef) ⊎ ((why : CopyCause) × (out ≡ outcome.DamagedCopy why))

damage_of : (out : Outcome) → is_damage out ≡ true → IsDamaged out
damage_of outcome.BadRef is = inl refl
damage_of (outcome.DamagedCopy why) is = inr (why, refl)
damage_of outcome.Fetched is = absurd cc
damage_of outcome.Pushed is = absurd cc
damage_of outcome.Same is = absurd cc
damage_of (outcome.NotForward name) is = absurd cc
damage_of outcome.Held is = absurd cc

damage_from : (out : Outcome) → IsDamaged out → is_damage out ≡ true
damage_from out (inl e) = ap is_damage e
damage_from out (inr (why, e)) = ap is_damage e

-- ---- turns

-- each turn had its step
step_of : {A : Type 0} (Step : A → History → History → Type 0) (items : List A) (old new : History) → InTurn Step items old new
    → (item : A) → Contains items item → (before : History) × (after : History) × Step item before after
step_of Step [] old new same item (k, lt, e) = absurd (omega arith)
step_of Step (first ∷ items) old new (mid, step, later) item (zero, lt, e) = (old, mid, subst (λ i. Step i old mid) e step)
step_of Step (first ∷ items) old new (mid, step, later) item (suc k, lt, e) = step_of Step items mid new later item (k, omega arith, e)

-- one of them is damaged
held_of : (turns : List Turn) → are_held turns ≡ true → (turn : Turn) × Contains turns turn × (is_damage turn.outcome ≡ true)
held_of [] h = absurd cc
held_of (turn ∷ turns) h = by (is_damage turn.outcome) refl h (λ later. held_of turns later)
  where
    by : (b : Bool) → is_damage turn.outcome ≡ b → (b || are_held turns) ≡ true → (are_held turns ≡ true → (one : Turn) × Contains turns one × (is_damage one.outcome ≡ true))
        → (one : Turn) × Contains (turn ∷ turns) one × (is_damage one.outcome ≡ true)
    by true at h more = (turn, (0, omega arith, refl), at)
    by false at h more = let later = more h in (later.0, (suc later.1.0, omega (arith, later.1.1), later.1.2), later.2)

pub held_from : (turns : List Turn) (turn : Turn) → Contains turns turn → is_damage turn.outcome ≡ true → are_held turns ≡ true
held_from [] turn (k, lt, e) is = absurd (omega arith)
held_from (first ∷ turns) turn (zero, lt, e) is = ap (λ (b : Bool). b || are_held turns) (ap (λ (t : Turn). is_damage t.outcome) e ∙ is)
held_from (first ∷ turns) turn (suc k, lt, e) is = by (is_damage first.outcome) (held_from turns turn (k, omega arith, e) is)
  where
    by : (b : Bool) → are_held turns ≡ true → (b || are_held turns) ≡ true
    by true h = refl
    by false h = h

-- ---- pushes

-- nothing that is looked at is held
not_held : (own peer : List ℕ) (of : Side) (id : Id) (head : Option Name) (out : Outcome) (old new : History) → out ≡ outcome.Held → PushOfRef own peer of id head out old new → ⊥
not_held own peer of id None out old new is none = none
not_held own peer of id (Some name) out old new is step = subst (λ (o : Outcome). PushOutcome own peer of id name o old new) is step

module _ (own peer : List ℕ) (lines : List Line) (old new : History)
    (done : IsDone verb.Push (λ (word : EntityWord). Pushes own peer (local_side word)) (λ (word : EntityWord). PushStops own peer (local_side word)) own lines old new) where
  -- a line of an identity that is damaged
  abbrev DamagedPerson : Type 0
  DamagedPerson = (other : Line) × Contains lines other × (other.word ≡ word.Identity) × IsDamaged other.outcome

  person_there : are_held done.person_turns ≡ true → DamagedPerson
  person_there h =
      let found = held_of done.person_turns h in
      let line = line_of verb.Push word.Identity found.0 in (
        line,
        subst (λ (ls : List Line). Contains ls line) (sym done.are_lines)
            (Contains-append_left (lines_of verb.Push word.Identity done.person_turns) (lines_of verb.Push word.Bug done.bug_turns) line (Contains-map (line_of verb.Push word.Identity) done.person_turns found.0 found.1)),
        refl,
        damage_of found.0.outcome found.2,
      )

  there_held : DamagedPerson → are_held done.person_turns ≡ true
  there_held (other, has, is_person, damaged) =
      elim (Contains-append_cases (lines_of verb.Push word.Identity done.person_turns) (lines_of verb.Push word.Bug done.bug_turns) other (subst (λ (ls : List Line). Contains ls other) done.are_lines has)) [
        | inl mine ↦
            let from = Contains-from_map (line_of verb.Push word.Identity) done.person_turns other mine in
            held_from done.person_turns from.0 from.1 (damage_from from.0.outcome (subst IsDamaged (sym (ap (λ (l : Line). l.outcome) from.2)) damaged))
        | inr mine ↦
            let from = Contains-from_map (line_of verb.Push word.Bug) done.bug_turns other mine in
            let no : word.Bug ≡ word.Identity = ap (λ (l : Line). l.word) from.2 ∙ is_person in absurd cc
      ]

  bug_held : (turn : Turn) → Contains done.bug_turns turn → turn.outcome ≡ outcome.Held → are_held done.person_turns ≡ true
  bug_held turn c is =
      let at = step_of (Pushes own peer side.Bugs (are_held done.person_turns)) done.bug_turns done.mid new done.then.each turn c in
      by at.0 at.1 (are_held done.person_turns) refl at.2
    where
      by : (before after : History) (b : Bool) → are_held done.person_turns ≡ b → Pushes own peer side.Bugs b turn before after → are_held done.person_turns ≡ true
      by before after true at step = at
      by before after false at step = absurd (not_held own peer side.Bugs turn.entity.id turn.entity.head turn.outcome before after is step)

  held_bug : (turn : Turn) → Contains done.bug_turns turn → are_held done.person_turns ≡ true → turn.outcome ≡ outcome.Held
  held_bug turn c is =
      let at = step_of (Pushes own peer side.Bugs (are_held done.person_turns)) done.bug_turns done.mid new done.then.each turn c in
      (subst (λ (b : Bool). Pushes own peer side.Bugs b turn at.0 at.1) is at.2).0

  person_not_held : (turn : Turn) → Contains done.person_turns turn → turn.outcome ≡ outcome.Held → ⊥
  person_not_held turn c is =
      let at = step_of (Pushes own peer side.Identities false) done.person_turns old done.mid done.first.each turn c in
      not_held own peer side.Identities turn.entity.id turn.entity.head turn.outcome at.0 at.1 is at.2

  pub held_lines : (line : Line) → Contains lines line → (line.outcome ≡ outcome.Held) ↔ ((line.word ≡ word.Bug) × DamagedPerson)
  held_lines line c = elim (Contains-append_cases (lines_of verb.Push word.Identity done.person_turns) (lines_of verb.Push word.Bug done.bug_turns) line (subst (λ (ls : List Line). Contains ls line) done.are_lines c)) [
    | inl mine ↦
        let from = Contains-from_map (line_of verb.Push word.Identity) done.person_turns line mine in (
          λ is. absurd (person_not_held from.0 from.1 (ap (λ (l : Line). l.outcome) from.2 ∙ is)),
          λ both. (let no : word.Identity ≡ word.Bug = ap (λ (l : Line). l.word) from.2 ∙ both.0 in absurd cc),
        )
    | inr mine ↦
        let from = Contains-from_map (line_of verb.Push word.Bug) done.bug_turns line mine in (
          λ is. (sym (ap (λ (l : Line). l.word) from.2), person_there (bug_held from.0 from.1 (ap (λ (l : Line). l.outcome) from.2 ∙ is))),
          λ both. sym (ap (λ (l : Line). l.outcome) from.2) ∙ held_bug from.0 from.1 (there_held both.1),
        )
  ]

-- ---- fetches

-- a ref is told as bad where it is
bad_told : (own peer : List ℕ) (to : Side) (id : Id) (head : Option Name) (out : Outcome) (old new : History) → FetchOutcome own peer to id head out old new → (out ≡ outcome.BadRef) ↔ (ref_with head ≡ Bad)
bad_told own peer to id None outcome.BadRef old new step = (λ e. refl, λ e. refl)
bad_told own peer to id None outcome.Fetched old new none = absurd none
bad_told own peer to id None outcome.Pushed old new none = absurd none
bad_told own peer to id None outcome.Same old new none = absurd none
bad_told own peer to id None (outcome.DamagedCopy why) old new none = absurd none
bad_told own peer to id None (outcome.NotForward other) old new none = absurd none
bad_told own peer to id None outcome.Held old new none = absurd none
bad_told own peer to id (Some name) outcome.Fetched old new step = (λ e. absurd cc, λ e. absurd cc)
bad_told own peer to id (Some name) outcome.Same old new step = (λ e. absurd cc, λ e. absurd cc)
bad_told own peer to id (Some name) (outcome.DamagedCopy why) old new step = (λ e. absurd cc, λ e. absurd cc)
bad_told own peer to id (Some name) outcome.BadRef old new none = absurd none
bad_told own peer to id (Some name) outcome.Pushed old new none = absurd none
bad_told own peer to id (Some name) (outcome.NotForward other) old new none = absurd none
bad_told own peer to id (Some name) outcome.Held old new none = absurd none

module _ (own peer : List ℕ) (remote : RemoteName) (old : History) where
  abbrev IsToldBad : Line → Type 0
  IsToldBad line = (line.outcome ≡ outcome.BadRef) ↔ (head_at (files_of old) peer (local_side line.word) line.id ≡ Bad)

  segment : (word : EntityWord) (refs : List EntityRef) → AreRefs (files_of old) peer (local_side word) refs → (turns : List Turn) (start new : History)
      → Went (Fetches own peer (tracking_side remote word)) refs turns start new → (line : Line) → Contains (lines_of verb.Fetch word turns) line → IsToldBad line
  segment word refs are turns start new went line c =
      let from = Contains-from_map (line_of verb.Fetch word) turns line c in
      let turn = from.0 in
      let at = step_of (Fetches own peer (tracking_side remote word)) turns start new went.each turn from.1 in
      let told = bad_told own peer (tracking_side remote word) turn.entity.id turn.entity.head turn.outcome at.0 at.1 at.2 in
      let reads = ((are.members turn.entity).0 (subst (λ (es : List EntityRef). Contains es turn.entity) went.are (Contains-map (λ (t : Turn). t.entity) turns turn from.1))).1 in
      subst IsToldBad from.2 (λ e. reads ∙ told.0 e, λ e. told.1 (sym reads ∙ e))

  pub bad_lines : (lines : List Line) (new : History) → IsDone verb.Fetch (λ (word : EntityWord) (held : Bool). Fetches own peer (tracking_side remote word)) (λ (word : EntityWord) (held : Bool). FetchStops own peer (tracking_side remote word)) peer lines old new
      → (line : Line) → Contains lines line → IsToldBad line
  bad_lines lines new done line c = elim (Contains-append_cases (lines_of verb.Fetch word.Identity done.person_turns) (lines_of verb.Fetch word.Bug done.bug_turns) line (subst (λ (ls : List Line). Contains ls line) done.are_lines c)) [
    | inl mine ↦ segment word.Identity done.people done.are.are_people done.person_turns old done.mid done.first line mine
    | inr mine ↦ segment word.Bug done.bugs done.are.are_bugs done.bug_turns done.mid new done.then line mine
  ]
