-- The lines of a merge are those of the entities whose tracking refs stand.
use Rattle.std.proofs.Common.{◌≡◌, refl, sym, ◌∙◌, ap, subst, IsTrue, ℕ, ◌+◌, List, [], ◌∷◌, ◌++◌, length, map, filter, Option, Some, None}
use Rattle.std.proofs.lemmas.List.{length-append, map-append}
use Rattle.std.proofs.lemmas.List.Elements.{filter-append}
use Rattle.std.proofs.lemmas.Simd.{map-map}
use Rattle.std.specs.Cmp.Lexicographic.{slice_cmp}
use Rattle.std.specs.List.Sorted.{IsStrictlySortedBy}
use Rattle.std.specs.Ordering.{nat_cmp}
use Rattle.ref_store.specs.Refs.{Ref, Bad}
use Rattle.repo_state.specs.Listed.{AreRefs, ref_with}
use Rattle.repo_state.specs.Sides.{AreIds, is_there}
use Rattle.repo_state.specs.declared.side.Side.TheVariants as side
use Rattle.repo_state.proofs.ListingLemmas.{Contains-from_map, Contains-map}
use Rattle.sync_steps.specs.declared.line.EntityWord.{EntityWord}
use Rattle.sync_steps.specs.declared.line.EntityWord.TheVariants as word
use Rattle.merge_steps.specs.MergeLines.{is_refused, refused_in}
use Rattle.merge_steps.specs.Told.{HasLineOfEach, Told, told_by, told_of}
use Rattle.merge_steps.specs.Turns.{IsMerged, entities_of, lines_of}
use Rattle.merge_steps.specs.declared.line.MergeLine.{MergeLine}
use Rattle.merge_steps.proofs.Names.{IsId, Id, Name, Files, History, files_of, Absent, Head, RemoteName, has_ref, head_at, EntityRef, Side, MergeTurn}

-- as many are refused as of both
pub refused_of_both : (lines others : List MergeLine) → refused_in (lines ++ others) ≡ refused_in lines + refused_in others
refused_of_both lines others =
    ap length (filter-append (λ (line : MergeLine). is_refused line.outcome) lines others)
    ∙ length-append (filter (λ (line : MergeLine). is_refused line.outcome) lines) (filter (λ (line : MergeLine). is_refused line.outcome) others)

-- the ids of refs
abbrev ids_in : List EntityRef → List Id
ids_in refs = map (λ (e : EntityRef). e.id) refs

-- what the lines of turns tell
told_turns : (word : EntityWord) (turns : List MergeTurn) → map told_by (lines_of word turns) ≡ told_of word (ids_in (entities_of turns))
told_turns word [] = refl
told_turns word (turn ∷ turns) = ap (λ (them : List Told). record { word = word; id = turn.entity.id } ∷ them) (told_turns word turns)

-- a ref that is one of a head, or of none, stands; and one that stands is one
stands_with : (head : Option Name) → IsTrue (is_there (ref_with head))
stands_with None = refl
stands_with (Some name) = refl

with_stands : (ref : Ref) → IsTrue (is_there ref) → (head : Option Name) × (ref ≡ ref_with head)
with_stands Absent h = absurd cc
with_stands (Head name) h = (Some name, refl)
with_stands Bad h = (None, refl)

-- the ids of the refs that stand
ids_of_all : (files : Files) (folder : List ℕ) (of : Side) (refs : List EntityRef) → AreRefs files folder of refs → AreIds files folder of (ids_in refs)
ids_of_all files folder of refs are = record {
  rising = subst (IsStrictlySortedBy (slice_cmp nat_cmp)) (sym (map-map (λ (id : Id). id.bytes) (λ (e : EntityRef). e.id) refs)) are.rising;
  members = λ id. (
    λ has.
        let from = Contains-from_map (λ (e : EntityRef). e.id) refs id has in
        let member = (are.members from.0).0 from.1 in
        subst (λ (i : Id). IsId i × IsTrue (has_ref files folder of i)) from.2
        (member.0, subst (λ (r : Ref). IsTrue (is_there r)) (sym member.1) (stands_with from.0.head)),
    λ h.
        let found = with_stands (head_at files folder of id) h.1 in
        Contains-map (λ (e : EntityRef). e.id) refs (record { id = id; head = found.0 }) ((are.members (record { id = id; head = found.0 })).1 (h.0, found.1)),
  );
}

-- the lines of a merge that is done
pub lines_of_merged : (folder : List ℕ) (remote : RemoteName) (now : ℕ) (lines : List MergeLine) (old new : History) → IsMerged folder remote now lines old new → HasLineOfEach folder remote old lines
lines_of_merged folder remote now lines old new done = record {
  people = ids_in done.tracked.people;
  are_people = ids_of_all (files_of old) folder (side.RemoteIdentities remote) done.tracked.people done.tracked.are_people;
  bugs = ids_in done.tracked.bugs;
  are_bugs = ids_of_all (files_of old) folder (side.RemoteBugs remote) done.tracked.bugs done.tracked.are_bugs;
  told = ap (map told_by) done.are_lines
      ∙ map-append told_by (lines_of word.Identity done.first.turns) (lines_of word.Bug done.turns)
      ∙ ap (λ (them : List Told). them ++ map told_by (lines_of word.Bug done.turns))
      (told_turns word.Identity done.first.turns ∙ ap (λ (refs : List EntityRef). told_of word.Identity (ids_in refs)) done.first.went.are)
      ∙ ap (λ (them : List Told). told_of word.Identity (ids_in done.tracked.people) ++ them)
      (told_turns word.Bug done.turns ∙ ap (λ (refs : List EntityRef). told_of word.Bug (ids_in refs)) done.then.are);
}
