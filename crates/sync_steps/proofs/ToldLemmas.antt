-- The lines of an exchange are those of the entities whose refs stand.
use Rattle.std.proofs.Common.{◌≡◌, refl, sym, ◌∙◌, ap, subst, Bool, IsTrue, ℕ, ◌+◌, List, [], ◌∷◌, ◌++◌, length, map, filter, Option, Some, None}
use Rattle.std.proofs.lemmas.List.{length-append, map-append}
use Rattle.std.proofs.lemmas.Simd.{map-map}
use Rattle.std.specs.Cmp.Lexicographic.{slice_cmp}
use Rattle.std.specs.List.Sorted.{IsStrictlySortedBy}
use Rattle.std.specs.Ordering.{nat_cmp}
use Rattle.std.proofs.lemmas.List.Elements.{filter-append}
use Rattle.gb_text.specs.Digits.{IsId}
use Rattle.gb_text.specs.declared.id.Id.{Id}
use Rattle.gb_text.specs.declared.id.Name.{Name}
use Rattle.gb_store.specs.Files.{Files, History, files_of}
use Rattle.ref_store.specs.Refs.{Ref, Absent, Head, Bad}
use Rattle.repo_state.specs.Listed.{AreRefs, ref_with}
use Rattle.repo_state.specs.Sides.{AreIds, has_ref, head_at, is_there}
use Rattle.repo_state.specs.declared.refs.EntityRef.{EntityRef}
use Rattle.repo_state.specs.declared.side.Side.{Side}
use Rattle.repo_state.specs.declared.side.Side.TheVariants as side
use Rattle.repo_state.specs.declared.stop.ReadStop.{ReadStop}
use Rattle.repo_state.proofs.ListingLemmas.{Contains-from_map, Contains-map}
use Rattle.sync_steps.specs.Lines.{is_refused, refused_in}
use Rattle.sync_steps.specs.Told.{HasLineOfEach, Told, told_by, told_of}
use Rattle.sync_steps.specs.Turns.{IsDone, Turn, entities_of, lines_of}
use Rattle.sync_steps.specs.declared.line.EntityWord.{EntityWord}
use Rattle.sync_steps.specs.declared.line.EntityWord.TheVariants as word
use Rattle.sync_steps.specs.declared.line.Exchange.{Exchange}
use Rattle.sync_steps.specs.declared.line.Line.{Line}

-- as many are refused as of both
pub refused_of_both : (lines others : List Line) → refused_in (lines ++ others) ≡ refused_in lines + refused_in others
refused_of_both lines others =
    ap length (filter-append (λ (line : Line). is_refused line.outcome) lines others)
    ∙ length-append (filter (λ (line : Line). is_refused line.outcome) lines) (filter (λ (line : Line). is_refused line.outcome) others)

-- the ids of refs
abbrev ids_in : List EntityRef → List Id
ids_in refs = map (λ (e : EntityRef). e.id) refs

-- what the lines of turns tell
told_turns : (verb : Exchange) (word : EntityWord) (turns : List Turn) → map told_by (lines_of verb word turns) ≡ told_of verb word (map (λ (e : EntityRef). e.id) (entities_of turns))
told_turns verb word [] = refl
told_turns verb word (turn ∷ turns) = ap (λ (them : List Told). record { verb = verb; word = word; id = turn.entity.id } ∷ them) (told_turns verb word turns)

-- a ref that is one of a head, or of none, stands; and one that stands is one
stands_with : (head : Option Name) → IsTrue (is_there (ref_with head))
stands_with None = refl
stands_with (Some name) = refl

with_stands : (ref : Ref) → IsTrue (is_there ref) → (head : Option Name) × (ref ≡ ref_with head)
with_stands Absent h = absurd cc
with_stands (Head name) h = (Some name, refl)
with_stands Bad h = (None, refl)

-- the ids of the refs that stand
ids_of_all : (files : Files) (folder : List ℕ) (of : Side) (refs : List EntityRef) → AreRefs files folder of refs → AreIds files folder of (ids_in refs)
ids_of_all files folder of refs are = record {
  rising = subst (IsStrictlySortedBy (slice_cmp nat_cmp)) (sym (map-map (λ (id : Id). id.bytes) (λ (e : EntityRef). e.id) refs)) are.rising;
  members = λ id. (
    λ has.
        let from = Contains-from_map (λ (e : EntityRef). e.id) refs id has in
        let member = (are.members from.0).0 from.1 in
        subst (λ (i : Id). IsId i × IsTrue (has_ref files folder of i)) from.2
        (member.0, subst (λ (r : Ref). IsTrue (is_there r)) (sym member.1) (stands_with from.0.head)),
    λ h.
        let found = with_stands (head_at files folder of id) h.1 in
        Contains-map (λ (e : EntityRef). e.id) refs (record { id = id; head = found.0 }) ((are.members (record { id = id; head = found.0 })).1 (h.0, found.1)),
  );
}

-- the lines of an exchange that is done
pub lines_of_done : (verb : Exchange) (Step : EntityWord → Bool → Turn → History → History → Type 0) (Stops : EntityWord → Bool → ReadStop → EntityRef → History → History → Type 0)
    (folder : List ℕ) (lines : List Line) (old new : History) → IsDone verb Step Stops folder lines old new → HasLineOfEach verb folder old lines
lines_of_done verb Step Stops folder lines old new done = record {
  people = ids_in done.people;
  are_people = ids_of_all (files_of old) folder side.Identities done.people done.are.are_people;
  bugs = ids_in done.bugs;
  are_bugs = ids_of_all (files_of old) folder side.Bugs done.bugs done.are.are_bugs;
  told = ap (map told_by) done.are_lines
      ∙ map-append told_by (lines_of verb word.Identity done.person_turns) (lines_of verb word.Bug done.bug_turns)
      ∙ ap (λ (them : List Told). them ++ map told_by (lines_of verb word.Bug done.bug_turns))
      (told_turns verb word.Identity done.person_turns ∙ ap (λ (refs : List EntityRef). told_of verb word.Identity (ids_in refs)) done.first.are)
      ∙ ap (λ (them : List Told). told_of verb word.Identity (ids_in done.people) ++ them)
      (told_turns verb word.Bug done.bug_turns ∙ ap (λ (refs : List EntityRef). told_of verb word.Bug (ids_in refs)) done.then.are);
}
