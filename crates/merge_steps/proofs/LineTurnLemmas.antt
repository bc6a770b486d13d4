-- The turn of a bug that a line tells of, with what stands of its refs before it and behind it.
use Rattle.std.proofs.Common.{◌≡◌, ◌≢◌, ◌⊎◌, inl, inr, refl, sym, ◌∙◌, ap, subst, arith, ℕ, zero, suc, List, [], ◌∷◌, ◌++◌, Contains, map}
use Rattle.std.specs.List.{AllPairs}
use Rattle.std.proofs.lemmas.List.Elements.{Contains-append_cases, Contains-append_left, Contains-append_right}
use Rattle.gb_store.specs.Moments.{IsMoment}
use Rattle.gb_store.proofs.MomentLemmas.{IsMoment-of_second}
use Rattle.gb_store.proofs.TurnLemmas.{InTurn-at, InTurn-grew}
use Rattle.repo_state.specs.Listed.{ref_with}
use Rattle.repo_state.specs.declared.side.Side.TheVariants as side
use Rattle.repo_state.proofs.ListingLemmas.{Contains-from_map, Contains-map}
use Rattle.sync_steps.specs.declared.line.EntityWord.TheVariants as word
use Rattle.merge_steps.specs.Turns.{IsMerged, line_of, lines_of}
use Rattle.merge_steps.specs.declared.line.MergeLine.{MergeLine}
use Rattle.merge_steps.proofs.Names.{Id, History, files_of, Wrote, InTurn, Contains-first, Contains-later, RemoteName, head_at, EntityRef, Side, MergeTurn, MergesBug, MergesPerson}
use Rattle.merge_steps.proofs.MergeWriteLemmas.{ids_of_turns}
use Rattle.merge_steps.proofs.TurnOfLemmas.{bugs_stay, differs, once_of_refs, others_stay, people_stay, rest_once}
use Rattle.merge_steps.proofs.TouchLemmas.{Touch, bug_touches, person_touches}

-- an element of a list stands behind some and before others
split : {A : Type 0} (items : List A) (item : A) → Contains items item → (early : List A) × (late : List A) × (items ≡ early ++ item ∷ late)
split [] item (k, lt, e) = absurd (omega arith)
split {A} (first ∷ items) item (zero, lt, e) = ([], items, ap (λ (x : A). x ∷ items) e)
split {A} (first ∷ items) item (suc k, lt, e) =
    let ih = split items item (k, omega (arith, lt), e) in
    (first ∷ ih.0, ih.1, ap (λ (xs : List A). first ∷ xs) ih.2)

-- a turn is of another id than those before it and those behind it
apart : (early : List MergeTurn) (turn : MergeTurn) (late : List MergeTurn) → AllPairs (λ (one other : Id). one ≢ other) (map (λ (t : MergeTurn). t.entity.id) (early ++ turn ∷ late))
    → (other : MergeTurn) → Contains early other ⊎ Contains late other → other.entity.id ≢ turn.entity.id
apart [] turn late once other (inl (k, lt, e)) same = absurd (omega arith)
apart [] turn late once other (inr c) same = differs turn late once other c (sym same)
apart (first ∷ early) turn late once other (inl (zero, lt, e)) same =
    differs first (early ++ turn ∷ late) once turn (Contains-append_right early (turn ∷ late) turn (Contains-first turn late)) (ap (λ (t : MergeTurn). t.entity.id) e ∙ same)
apart (first ∷ early) turn late once other (inl (suc k, lt, e)) same =
    apart early turn late (rest_once first (early ++ turn ∷ late) once) other (inl (k, omega (arith, lt), e)) same
apart (first ∷ early) turn late once other (inr c) same = apart early turn late (rest_once first (early ++ turn ∷ late) once) other (inr c) same

-- a turn only adds writes
grows : (folder : List ℕ) (of : Side) (id : Id) (old new : History) → Wrote (Touch folder of id) old new → IsMoment old new old
grows folder of id old new wrote = record { later = wrote.writes; done = []; before = refl; after = wrote.grew }

module _ (folder : List ℕ) (remote : RemoteName) (now : ℕ) (old new : History) (lines : List MergeLine) (done : IsMerged folder remote now lines old new) where
  abbrev Merges : MergeTurn → History → History → Type 0
  Merges = MergesBug folder done.tracked.user done.first.authors now

  -- a bug had its turn between two moments of the merge: its local ref was as at first, and stays from then on, and each other ref that is not local was as at first
  pub record BugTurn (line : MergeLine) : Type 0 where
    pub turn : MergeTurn
    pub is : line_of word.Bug turn ≡ line
    pub listed : head_at (files_of old) folder (side.RemoteBugs remote) turn.entity.id ≡ ref_with turn.entity.head
    pub before : History
    pub after : History
    pub step : Merges turn before after
    pub is_before : IsMoment old new before
    pub is_after : IsMoment before new after
    pub own_before : head_at (files_of before) folder side.Bugs turn.entity.id ≡ head_at (files_of old) folder side.Bugs turn.entity.id
    pub own_after : head_at (files_of new) folder side.Bugs turn.entity.id ≡ head_at (files_of after) folder side.Bugs turn.entity.id
    pub people : (id : Id) → head_at (files_of before) folder side.Identities id ≡ head_at (files_of done.mid) folder side.Identities id
    pub tracked : (id : Id) → head_at (files_of before) folder (side.RemoteBugs remote) id ≡ head_at (files_of old) folder (side.RemoteBugs remote) id

  bug_grows : (turn : MergeTurn) (before after : History) → Merges turn before after → IsMoment before after before
  bug_grows turn before after step = grows folder side.Bugs turn.entity.id before after (bug_touches folder done.tracked.user done.first.authors now turn before after step)

  person_grows : (turn : MergeTurn) (before after : History) → MergesPerson folder turn before after → IsMoment before after before
  person_grows turn before after step = grows folder side.Identities turn.entity.id before after (person_touches folder turn before after step)

  -- a turn of a bug among the others
  turn_among : (turn : MergeTurn) → Contains done.turns turn → BugTurn (line_of word.Bug turn)
  turn_among turn c =
      let parts = split done.turns turn c in
      let early = parts.0 in
      let late = parts.1 in
      let is : done.turns ≡ early ++ turn ∷ late = parts.2 in
      let at = InTurn-at Merges bug_grows early turn late done.mid new (subst (λ (ts : List MergeTurn). InTurn Merges ts done.mid new) is done.then.each) in
      let once = subst (λ (ts : List MergeTurn). AllPairs (λ (one other : Id). one ≢ other) (map (λ (t : MergeTurn). t.entity.id) ts)) is
      (once_of_refs (files_of old) folder (side.RemoteBugs remote) done.tracked.bugs done.turns done.tracked.are_bugs done.then.are) in
      let ids : (t : MergeTurn) → Contains done.turns t → _ = ids_of_turns (files_of old) folder (side.RemoteBugs remote) done.tracked.bugs done.turns done.tracked.are_bugs done.then.are in
      let among : (t : MergeTurn) → Contains (early ++ turn ∷ late) t → Contains done.turns t = λ t d. subst (λ (ts : List MergeTurn). Contains ts t) (sym is) d in
      let stay = others_stay folder side.Bugs Merges (bug_touches folder done.tracked.user done.first.authors now) turn.entity.id (ids turn c) in
      let user = done.tracked.user in
      let authors = done.first.authors in
      record {
        turn = turn;
        is = refl;
        listed = ((done.tracked.are_bugs.members turn.entity).0
            (subst (λ (es : List EntityRef). Contains es turn.entity) done.then.are (Contains-map (λ (t : MergeTurn). t.entity) done.turns turn c))).1;
        before = at.0;
        after = at.1;
        step = at.2;
        is_before = IsMoment-of_second old done.mid new at.0 (InTurn-grew (MergesPerson folder) person_grows done.first.turns old done.mid done.first.went.each) at.3;
        is_after = at.4;
        own_before = stay early (λ t d. (ids t (among t (Contains-append_left early (turn ∷ late) t d)), apart early turn late once t (inl d))) done.mid at.0 at.5
            ∙ people_stay folder remote now old new side.Bugs (λ e. cc e) turn.entity.id done.first.turns old done.mid done.first.went.each;
        own_after = stay late (λ t d. (ids t (among t (Contains-append_right early (turn ∷ late) t (Contains-later turn late t d))), apart early turn late once t (inr d))) at.1 new at.6;
        people = λ id. bugs_stay folder remote now old new user authors side.Identities (λ e. cc e) id early done.mid at.0 at.5;
        tracked = λ id. bugs_stay folder remote now old new user authors (side.RemoteBugs remote) (λ e. cc e) id early done.mid at.0 at.5
            ∙ people_stay folder remote now old new (side.RemoteBugs remote) (λ e. cc e) id done.first.turns old done.mid done.first.went.each;
      }

  -- each line of a bug has its turn
  pub turn_of : (line : MergeLine) → Contains lines line → line.word ≡ word.Bug → BugTurn line
  turn_of line c bug =
      elim (Contains-append_cases (lines_of word.Identity done.first.turns) (lines_of word.Bug done.turns) line (subst (λ (ls : List MergeLine). Contains ls line) done.are_lines c)) [
        | inl mine ↦ let from = Contains-from_map (line_of word.Identity) done.first.turns line mine in absurd (cc (ap (λ (l : MergeLine). l.word) from.2 ∙ bug))
        | inr mine ↦ let from = Contains-from_map (line_of word.Bug) done.turns line mine in subst BugTurn from.2 (turn_among from.0 from.1)
      ]
