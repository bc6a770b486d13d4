-- A merge refuses a bug by a limit alone, where operations stand once, and the tracked bugs are without fault and their authors known.
use Rattle.std.proofs.Common.{◌≡◌, ◌<◌, ◌^◌, inl, inr, refl, ◌∙◌, ap, subst, arith, ℕ, List, [], ◌∷◌, Contains, Option, Some, None}
use Rattle.gb_text.specs.Digits.{IsId}
use Rattle.gb_text.specs.declared.id.Id.{Id}
use Rattle.gb_text.specs.declared.id.Name.{Name}
use Rattle.gb_store.specs.Files.{Files, History, files_of}
use Rattle.git_object.specs.declared.frame.Kind.TheVariants as kinds
use Rattle.object_store.specs.Growth.{OnlyGrew}
use Rattle.object_store.specs.Held.{Objects, objects_after, objects_in}
use Rattle.object_batch.specs.Needs.{IsHeldAs}
use Rattle.commit_walk.proofs.DistinctLemmas.{Contains-cons, Contains-one}
use Rattle.ref_store.specs.Refs.{Head}
use Rattle.bug_ops.specs.Kind.{bug_kind}
use Rattle.bug_ops.specs.Laws.{bug_keeps_laws}
use Rattle.bug_ops.specs.declared.op.BugOp.{BugOp}
use Rattle.dag_entity.specs.Agreeing.{SameNeeded}
use Rattle.dag_entity.specs.Faults.{EntityFaultHolds, IsValid}
use Rattle.dag_entity.specs.Nodes.{IsNodeBelow}
use Rattle.dag_entity.specs.declared.entity.Loaded.{Loaded}
use Rattle.dag_entity.specs.declared.fault.EntityFault.{EntityFault}
use Rattle.dag_entity.specs.declared.fault.EntityFault.TheVariants as fault
use Rattle.dag_entity.proofs.AgreeFaults.{fault_over}
use Rattle.dag_entity.proofs.AgreeGrowth.{other_fault}
use Rattle.dag_entity.proofs.AgreeLemmas.{agree_back}
use Rattle.entity_merge.specs.Joins.{both_heads}
use Rattle.remote_name.specs.declared.remote.RemoteName.{RemoteName}
use Rattle.repo_state.specs.Answers.{IsHeadAt}
use Rattle.repo_state.specs.Listed.{ref_with}
use Rattle.repo_state.specs.Sides.{head_at}
use Rattle.repo_state.specs.Sound.{HasNoFault, IsAuthoredBug, IsSound}
use Rattle.repo_state.specs.Sound as parts
use Rattle.repo_state.specs.declared.side.Side.{Side}
use Rattle.repo_state.specs.declared.side.Side.TheVariants as side
use Rattle.repo_state.proofs.LedLemmas.{led_from_heads}
use Rattle.merge_steps.specs.Merging.{PersonOutcome}
use Rattle.merge_steps.specs.Turns.{IsMerged}
use Rattle.merge_steps.specs.declared.line.MergeLine.{MergeLine}
use Rattle.merge_steps.specs.declared.line.MergeOutcome.{MergeOutcome}
use Rattle.merge_steps.specs.declared.line.MergeOutcome.TheVariants as outcome
use Rattle.merge_steps.proofs.DoneLemmas.{head_then}
use Rattle.merge_steps.proofs.FaultLemmas.{says_fault}
use Rattle.merge_steps.proofs.TurnOfLemmas.{turn_of}
use Rattle.merge_steps.proofs.WholeLemmas.{whole_stays}
use Rattle.operation_origins.specs.Limits.{IsLimit, StandOnceBelow}
use Rattle.operation_origins.specs.Tracked.{TrackedAreSound, TrackedAuthorsAreKnown}
use Rattle.operation_origins.proofs.AuthorLemmas.{grew, known_author}
use Rattle.operation_origins.proofs.JoinLemmas.{limit_alone}
use Rattle.operation_origins.specs.Once.{StandOnce}

-- a head without fault is valid among authors who wrote all its packs
valid_among : (objects : Objects) (id : Id) (head : Name) (authors : List Id) → HasNoFault objects id head
    → ((node : Loaded BugOp) → IsNodeBelow bug_kind objects (head ∷ []) node → Contains authors node.placed.pack.author) → IsValid bug_kind objects id (head ∷ []) authors
unfolding EntityFaultHolds
valid_among objects id head authors none known (fault.AuthorUnknown author) holds = holds.unknown (subst (Contains authors) holds.wrote (known holds.node holds.is))
valid_among objects id head authors none known f holds = none f (λ author e. cc) (other_fault bug_kind id (head ∷ []) objects authors [] f (λ author e. cc) holds)

-- operations that stand once in a folder stand once below the local head of a bug and its tracked one
once_below : (files : Files) (folder : List ℕ) (remote : RemoteName) → StandOnce files (folder ∷ []) → (id : Id) (local tracked : Name) → IsId id → head_at files folder side.Bugs id ≡ Head local
    → head_at files folder (side.RemoteBugs remote) id ≡ Head tracked → StandOnceBelow bug_kind (objects_in files folder) local tracked
once_below files folder remote once id local tracked is_id at_local at_tracked a b op is_a is_b in_a in_b =
    (once id id a b is_id is_id
    (record { folder = folder; is = (0, omega arith, refl); of = side.Bugs; of_bugs = tt; has = record { head = local; is_head = at_local; is = is_a } })
    (record { folder = folder; is = (0, omega arith, refl); of = side.RemoteBugs remote; of_bugs = tt; has = record { head = tracked; is_head = at_tracked; is = is_b } })
    (record { op = op; in_one = in_a; in_two = in_b })).1

module _ (folder : List ℕ) (remote : RemoteName) (now : ℕ) (moment : now < 2 ^ 64) (old new : History) (lines : List MergeLine) (done : IsMerged folder remote now lines old new)
    (sound : IsSound folder (files_of old)) (once : StandOnce (files_of old) (folder ∷ [])) (tracked_sound : TrackedAreSound (files_of old) folder remote)
    (authors_known : TrackedAuthorsAreKnown (files_of old) folder remote) where
  abbrev objects : Objects
  objects = objects_after old folder

  abbrev authors : List Id
  authors = done.first.authors

  module _ (id : Id) (is_id : IsId id) where
    -- the head of each ref is held
    held : (of : Side) (name : Name) → head_at (files_of old) folder of id ≡ Head name → IsHeldAs objects name kinds.Commit
    held of name at = led_from_heads folder (files_of old) sound of id name (record { name = name; kind = kinds.Commit }) is_id at ([], refl)

    -- the local head is valid, and so is the tracked one
    local_valid : (local : Name) → head_at (files_of old) folder side.Bugs id ≡ Head local → IsValid bug_kind objects id (local ∷ []) authors
    local_valid local at =
        let good : IsAuthoredBug folder (files_of old) id (Head local) = subst (IsAuthoredBug folder (files_of old) id) at (sound parts.Authors id is_id) in
        valid_among objects id local authors good.0 (λ node below. known_author folder remote now moment old new lines done node.placed.pack.author (inl (good.1 node below)))

    tracked_valid : (tracked : Name) → head_at (files_of old) folder (side.RemoteBugs remote) id ≡ Head tracked → IsValid bug_kind objects id (tracked ∷ []) authors
    tracked_valid tracked at =
        valid_among objects id tracked authors (tracked_sound id tracked is_id at)
        (λ node below. known_author folder remote now moment old new lines done node.placed.pack.author (authors_known id tracked node is_id at below))

    -- both are held
    heads_held : (local : Option Name) (tracked : Name) → IsHeadAt (files_of old) folder side.Bugs id local → head_at (files_of old) folder (side.RemoteBugs remote) id ≡ Head tracked
        → (top : Name) → Contains (both_heads local tracked) top → IsHeldAs objects top kinds.Commit
    heads_held None tracked at there top c =
        subst (λ (name : Name). IsHeldAs objects name kinds.Commit) (Contains-one tracked top c) (held (side.RemoteBugs remote) tracked there)
    heads_held (Some local) tracked at there top c = elim (Contains-cons local (tracked ∷ []) top c) [
      | inl same ↦ subst (λ (name : Name). IsHeldAs objects name kinds.Commit) same (held side.Bugs local at)
      | inr later ↦
          subst (λ (name : Name). IsHeldAs objects name kinds.Commit) (Contains-one tracked top later) (held (side.RemoteBugs remote) tracked there)
    ]

    -- a fault of both together in the objects at first is a limit
    limit_first : (local : Option Name) (tracked : Name) → IsHeadAt (files_of old) folder side.Bugs id local → head_at (files_of old) folder (side.RemoteBugs remote) id ≡ Head tracked
        → (f : EntityFault) → EntityFaultHolds bug_kind objects id (both_heads local tracked) authors f → IsLimit f
    limit_first None tracked at there f holds = absurd (tracked_valid tracked there f holds)
    limit_first (Some local) tracked at there f holds =
        limit_alone bug_kind bug_keeps_laws objects id authors local tracked (local_valid local at) (tracked_valid tracked there) (once_below (files_of old) folder remote once id local tracked is_id at there) f holds

    -- and so is one in objects that only grew
    limit_then : (later : Objects) → OnlyGrew objects later → (local : Option Name) (tracked : Name) → IsHeadAt (files_of old) folder side.Bugs id local
        → head_at (files_of old) folder (side.RemoteBugs remote) id ≡ Head tracked → (f : EntityFault) → EntityFaultHolds bug_kind later id (both_heads local tracked) authors f → IsLimit f
    limit_then later grow local tracked at there f holds =
        let heads = both_heads local tracked in
        let same : SameNeeded objects later heads = whole_stays objects (sound parts.Objects).whole heads (heads_held local tracked at there) later grow in
        limit_first local tracked at there f (fault_over later objects heads (agree_back objects later heads same) bug_kind id authors f holds)

  -- each line that says that a bug is invalid tells a limit
  pub line_limit : (line : MergeLine) (why : EntityFault) → Contains lines line → line.outcome ≡ outcome.InvalidBug why → IsLimit why
  line_limit line why c is = elim (turn_of folder remote now old new lines done line c) [
    | inl of ↦
        let told : of.turn.outcome ≡ outcome.InvalidBug why = ap (λ (l : MergeLine). l.outcome) of.is ∙ is in
        absurd (subst (λ (out : MergeOutcome). PersonOutcome folder of.turn.entity.id of.at.step.local of.at.step.tracked out of.at.before of.at.after) told of.at.step.is)
    | inr of ↦
        let told : of.turn.outcome ≡ outcome.InvalidBug why = ap (λ (l : MergeLine). l.outcome) of.is ∙ is in
        let step = of.at.step in
        let says = says_fault folder done.tracked.user authors now of.turn of.at.before of.at.after why step told in
        limit_then of.turn.entity.id of.listed.0 (objects_after of.at.before folder) (grew folder remote now moment old new lines done of.at.before of.at.came) step.local step.tracked
        (head_then folder side.Bugs of.turn.entity.id (files_of of.at.before) (files_of old) step.local of.at.earlier step.is_local) (of.listed.1 ∙ ap ref_with step.is_tracked) why says.1
  ]
