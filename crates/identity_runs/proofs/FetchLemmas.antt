-- What a fetch and a merge that refuse nothing leave of an identity that the peer has.
use Rattle.std.proofs.Common.{◌≡◌, ◌<◌, ◌^◌, ℕ, false, List, Contains, Some, Ok, sym, ◌∙◌, ap, subst}
use Rattle.std.proofs.lemmas.List.Elements.{Contains-append_left}
use Rattle.gb_text.specs.Digits.{IsId}
use Rattle.gb_text.specs.declared.id.Id.{Id}
use Rattle.gb_text.specs.declared.id.Name.{Name}
use Rattle.gb_store.specs.Files.{History, files_of}
use Rattle.ref_store.specs.Refs.{Head}
use Rattle.remote_name.specs.declared.remote.RemoteName.{RemoteName}
use Rattle.repo_state.specs.Sides.{head_at}
use Rattle.repo_state.specs.declared.refs.EntityRef.{EntityRef}
use Rattle.repo_state.specs.declared.side.Side.TheVariants as side
use Rattle.repo_state.proofs.ListingLemmas.{Contains-from_map, Contains-map}
use Rattle.repo_writes.specs.Kept.{KeepsBelow}
use Rattle.sync_steps.specs.Fetching.{FetchAnswers}
use Rattle.sync_steps.specs.Lines.{is_refused}
use Rattle.sync_steps.specs.Turns.{Turn, line_of, lines_of}
use Rattle.sync_steps.specs.declared.line.EntityWord.TheVariants as word
use Rattle.sync_steps.specs.declared.line.Exchange.TheVariants as verb
use Rattle.sync_steps.specs.declared.line.Line.{Line}
use Rattle.merge_steps.specs.MergeLines.{is_refused as merge_is_refused}
use Rattle.merge_steps.specs.Merging.{MergeTurn}
use Rattle.merge_steps.specs.Turns.{IsMerged, line_of as merge_line_of, lines_of as merge_lines_of}
use Rattle.merge_steps.specs.declared.line.MergeLine.{MergeLine}
use Rattle.run_moments.proofs.LineLemmas.{line_tracked}
use Rattle.full_exchanges.proofs.FetchLemmas.{turn_brings}

-- an identity that the peer has, and whose line is no refusal, was last seen as the peer has it
pub fetch_brings : (own peer : List ℕ) (remote : RemoteName) (old new : History) (lines : List Line) → FetchAnswers own peer remote old new (Ok lines)
    → ((line : Line) → Contains lines line → is_refused line.outcome ≡ false) → (id : Id) (head : Name) → IsId id
    → head_at (files_of old) peer side.Identities id ≡ Head head → head_at (files_of new) own (side.RemoteIdentities remote) id ≡ Head head
fetch_brings own peer remote old new lines done refuses id head is at =
    turn_brings own peer remote old new lines done word.Identity done.person_turns old done.mid done.first.each from.0 from.1 id head from.2 in_lines (refuses line in_lines) at
  where
    entity : EntityRef
    entity = record { id = id; head = Some head }

    from : (turn : Turn) × Contains done.person_turns turn × (turn.entity ≡ entity)
    from = Contains-from_map (λ (t : Turn). t.entity) done.person_turns entity
        (subst (λ (es : List EntityRef). Contains es entity) (sym done.first.are) ((done.are.are_people.members entity).1 (is, at)))

    line : Line
    line = line_of verb.Fetch word.Identity from.0

    in_lines : Contains lines line
    in_lines = subst (λ (ls : List Line). Contains ls line) (sym done.are_lines)
        (Contains-append_left (lines_of verb.Fetch word.Identity done.person_turns) (lines_of verb.Fetch word.Bug done.bug_turns) line
        (Contains-map (line_of verb.Fetch word.Identity) done.person_turns from.0 from.1))

-- and what was last seen of it lies at or below the local head, after a merge that refuses nothing
pub merge_brings : (folder : List ℕ) (remote : RemoteName) (now : ℕ) → now < 2 ^ 64 → (old new : History) (lines : List MergeLine) → IsMerged folder remote now lines old new
    → ((line : MergeLine) → Contains lines line → merge_is_refused line.outcome ≡ false) → (id : Id) (head : Name) → IsId id
    → head_at (files_of old) folder (side.RemoteIdentities remote) id ≡ Head head → KeepsBelow folder (files_of new) side.Identities id head
merge_brings folder remote now in_time old new lines done refuses id head is at =
    subst (λ (one : Id). KeepsBelow folder (files_of new) side.Identities one head) same
    (line_tracked folder remote now in_time old new lines done line in_lines (refuses line in_lines) head (ap (head_at (files_of old) folder (side.RemoteIdentities remote)) same ∙ at))
  where
    entity : EntityRef
    entity = record { id = id; head = Some head }

    from : (turn : MergeTurn) × Contains done.first.turns turn × (turn.entity ≡ entity)
    from = Contains-from_map (λ (t : MergeTurn). t.entity) done.first.turns entity
        (subst (λ (es : List EntityRef). Contains es entity) (sym done.first.went.are) ((done.tracked.are_people.members entity).1 (is, at)))

    same : from.0.entity.id ≡ id
    same = ap (λ (e : EntityRef). e.id) from.2

    line : MergeLine
    line = merge_line_of word.Identity from.0

    in_lines : Contains lines line
    in_lines = subst (λ (ls : List MergeLine). Contains ls line) (sym done.are_lines)
        (Contains-append_left (merge_lines_of word.Identity done.first.turns) (merge_lines_of word.Bug done.turns) line
        (Contains-map (merge_line_of word.Identity) done.first.turns from.0 from.1))
