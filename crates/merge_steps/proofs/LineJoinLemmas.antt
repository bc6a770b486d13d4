-- What a line of a merge says of a bug holds at the moment of its turn.
use Rattle.std.proofs.Common.{◌≡◌, ◌<◌, ◌^◌, refl, sym, ◌∙◌, ap, subst, ℕ, false, List, [], Contains, Option, Some, None}
use Rattle.gb_store.specs.Moments.{IsMoment}
use Rattle.gb_store.proofs.MomentLemmas.{IsMoment-of_second}
use Rattle.dag_entity.specs.declared.fault.EntityFault.{EntityFault}
use Rattle.repo_state.specs.Listed.{ref_with}
use Rattle.repo_state.specs.Sides.{AreIds, is_there}
use Rattle.repo_state.specs.declared.side.Side.TheVariants as side
use Rattle.repo_state.proofs.FoundLemmas.{IsLocal-user}
use Rattle.sync_steps.specs.declared.line.EntityWord.TheVariants as word
use Rattle.merge_steps.specs.LineJoins.{HeadsThen, JoinedLine, RefusedLine}
use Rattle.merge_steps.specs.MergeLines.{is_refused}
use Rattle.merge_steps.specs.Turns.{IsMerged}
use Rattle.merge_steps.specs.declared.line.MergeLine.{MergeLine}
use Rattle.merge_steps.specs.declared.line.MergeOutcome.TheVariants as outcome
use Rattle.merge_steps.proofs.Names.{Id, Name, Files, History, files_of, RemoteName, IsHeadAt, head_at, Side}
use Rattle.merge_steps.proofs.FaultLemmas.{says_fault}
use Rattle.merge_steps.proofs.LeftLemmas.{left_outcome}
use Rattle.merge_steps.proofs.LineTurnLemmas.{BugTurn, turn_of}

-- a ref that is as it was has the head that it had
was_head : (before after : Files) (folder : List ℕ) (of : Side) (id : Id) (local : Option Name) → head_at after folder of id ≡ head_at before folder of id → IsHeadAt after folder of id local
    → IsHeadAt before folder of id local
was_head before after folder of id None same at = sym same ∙ at
was_head before after folder of id (Some name) same at = sym same ∙ at

-- the ids of refs that are as they were
ids_still : (before after : Files) (folder : List ℕ) (of : Side) (ids : List Id) → ((id : Id) → head_at after folder of id ≡ head_at before folder of id) → AreIds before folder of ids → AreIds after folder of ids
ids_still before after folder of ids same are = record {
  rising = are.rising;
  members = λ id. (
    (λ has. let was = (are.members id).0 has in (was.0, ap is_there (same id) ∙ was.1)),
    (λ h. (are.members id).1 (h.0, ap is_there (sym (same id)) ∙ h.1)),
  );
}

module _ (folder : List ℕ) (remote : RemoteName) (now : ℕ) (old new : History) (lines : List MergeLine) (done : IsMerged folder remote now lines old new) where
  -- the heads of a bug at its turn
  heads_then : (line : MergeLine) (of : BugTurn folder remote now old new lines done line) → HeadsThen folder remote of.turn.entity.id of.step.local of.step.tracked old of.before
  heads_then line of =
      let was = of.listed ∙ ap ref_with of.step.is_tracked in record {
        is_local = of.step.is_local;
        is_tracked = of.tracked of.turn.entity.id ∙ was;
        was_local = was_head (files_of old) (files_of of.before) folder side.Bugs of.turn.entity.id of.step.local of.own_before of.step.is_local;
        was_tracked = was;
      }

  -- where a line does not refuse a bug
  pub line_joined : now < 2 ^ 64 → (line : MergeLine) → Contains lines line → line.word ≡ word.Bug → is_refused line.outcome ≡ false → JoinedLine folder remote line old new
  line_joined moment line c bug ok =
      let of = turn_of folder remote now old new lines done line c bug in
      let step = of.step in
      let fine : is_refused of.turn.outcome ≡ false = subst (λ (l : MergeLine). is_refused l.outcome ≡ false) (sym of.is) ok in
      let is_user = (IsLocal-user (files_of old) folder done.tracked.user done.tracked.is_user).is_id in
      let start : IsMoment old of.before old = record { later = of.is_before.done; done = []; before = refl; after = of.is_before.before } in
      subst (λ (l : MergeLine). JoinedLine folder remote l old new) of.is (record {
        mid = of.before;
        end = of.after;
        is_mid = of.is_before;
        is_end = IsMoment-of_second old of.before new of.after start of.is_after;
        in_order = of.is_after;
        local = step.local;
        tracked = step.tracked;
        heads = heads_then line of;
        joins = left_outcome folder done.tracked.user done.first.authors now is_user moment of.turn.entity.id of.before step.local step.tracked of.turn.outcome of.after step.is_local fine step.is;
        stays = of.own_after;
      })

  -- where a line says that a bug is invalid
  pub line_refused : (line : MergeLine) (why : EntityFault) → Contains lines line → line.word ≡ word.Bug → line.outcome ≡ outcome.InvalidBug why → RefusedLine folder remote line why old new
  line_refused line why c bug is =
      let of = turn_of folder remote now old new lines done line c bug in
      let step = of.step in
      let refused : of.turn.outcome ≡ outcome.InvalidBug why = ap (λ (l : MergeLine). l.outcome) of.is ∙ is in
      let says = says_fault folder done.tracked.user done.first.authors now of.turn of.before of.after why step refused in
      let quiet = ap (λ (h : History). head_at (files_of h) folder side.Bugs of.turn.entity.id) says.2 in
      subst (λ (l : MergeLine). RefusedLine folder remote l why old new) of.is (record {
        mid = of.before;
        is_mid = of.is_before;
        local = step.local;
        tracked = step.tracked;
        heads = heads_then line of;
        authors = done.first.authors;
        are_authors = ids_still (files_of done.mid) (files_of of.before) folder side.Identities done.first.authors of.people done.first.are_authors;
        holds = says.1;
        same = of.own_after ∙ quiet ∙ of.own_before;
      })
