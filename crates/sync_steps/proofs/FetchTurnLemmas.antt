-- What the line of a fetch says of its entity: whether the tracking ref had the peer's head, and what kept the head from being copied.
use Rattle.std.proofs.Common.{◌≡◌, ◌↔◌, ◌⊎◌, inl, inr, refl, sym, ◌∙◌, ap, subst, ℕ, Bool, true, List, Contains, Option, Some, None}
use Rattle.gb_text.specs.Overlap.{Overlap}
use Rattle.gb_text.specs.declared.id.Id.{Id}
use Rattle.gb_text.specs.declared.id.Name.{Name}
use Rattle.gb_store.specs.Files.{History, files_of}
use Rattle.gb_store.specs.Moments.{IsMoment, Wrote}
use Rattle.gb_store.proofs.MomentLemmas.{Wrote-none, Wrote-then, Wrote-wider}
use Rattle.object_store.specs.Held.{objects_after}
use Rattle.ref_store.specs.Refs.{Ref, Absent, Head, Bad}
use Rattle.remote_copy.specs.Causes.{CauseHolds}
use Rattle.repo_state.specs.Listed.{ref_with}
use Rattle.repo_state.specs.Sides.{head_at}
use Rattle.remote_name.specs.declared.remote.RemoteName.{RemoteName}
use Rattle.repo_state.specs.declared.side.Side.{Side}
use Rattle.sync_steps.specs.Carrying.{fault_of}
use Rattle.sync_steps.specs.Fetching.{FetchOutcome, FetchStops, Fetches, IsOther}
use Rattle.sync_steps.specs.Lines.{is_refused}
use Rattle.sync_steps.specs.Places.{local_side, tracking_side}
use Rattle.sync_steps.specs.Turns.{IsDone}
use Rattle.sync_steps.specs.Writes.{MayFetch}
use Rattle.sync_steps.specs.declared.line.CopyCause.{CopyCause}
use Rattle.sync_steps.specs.declared.line.EntityWord.{EntityWord}
use Rattle.sync_steps.specs.declared.line.Exchange.TheVariants as verb
use Rattle.sync_steps.specs.declared.line.Line.{Line}
use Rattle.sync_steps.specs.declared.line.Outcome.{Outcome}
use Rattle.sync_steps.specs.declared.line.Outcome.TheVariants as outcome
use Rattle.sync_steps.proofs.FetchWriteLemmas.{FetchesAs, fetches_as, turn_wrote}
use Rattle.sync_steps.proofs.FetchedLemmas.{turn_keeps, turn_leaves}
use Rattle.sync_steps.proofs.SetLemmas.{id_of}
use Rattle.sync_steps.proofs.TurnLemmas.{TurnOf, turn_of}

-- ---- one turn

-- a ref with another head has not this one
pub other_differs : (ref : Ref) (name : Name) → IsOther ref name → ref ≡ Head name → ⊥
other_differs Absent name other is = absurd cc
other_differs (Head one) name other is = let same : one ≡ name = cc in other same
other_differs Bad name other is = other

module _ (own peer : List ℕ) (to : Side) (id : Id) where
  -- it is told as the same exactly where both refs have one head
  same_told : (head : Option Name) (out : Outcome) (old new : History) → FetchOutcome own peer to id head out old new
      → (out ≡ outcome.Same) ↔ ((name : Name) × (ref_with head ≡ Head name) × (head_at (files_of old) own to id ≡ Head name))
  same_told None outcome.BadRef old new step = (λ e. absurd cc, λ both. absurd (let none : Bad ≡ Head both.0 = both.1 in cc))
  same_told None outcome.Fetched old new none = absurd none
  same_told None outcome.Pushed old new none = absurd none
  same_told None outcome.Same old new none = absurd none
  same_told None (outcome.DamagedCopy why) old new none = absurd none
  same_told None (outcome.NotForward other) old new none = absurd none
  same_told None outcome.Held old new none = absurd none
  same_told (Some name) outcome.Same old new step = (λ e. (name, refl, step.0), λ both. refl)
  same_told (Some name) outcome.Fetched old new step = (λ e. absurd cc, λ both. absurd (other_differs (head_at (files_of old) own to id) name step.0 (both.2 ∙ sym both.1)))
  same_told (Some name) (outcome.DamagedCopy why) old new step = (λ e. absurd cc, λ both. absurd (other_differs (head_at (files_of old) own to id) name step.0 (both.2 ∙ sym both.1)))
  same_told (Some name) outcome.BadRef old new none = absurd none
  same_told (Some name) outcome.Pushed old new none = absurd none
  same_told (Some name) (outcome.NotForward other) old new none = absurd none
  same_told (Some name) outcome.Held old new none = absurd none

  -- what may come of a head
  head_told : (head : Option Name) (name : Name) (out : Outcome) (old new : History) → ref_with head ≡ Head name → FetchOutcome own peer to id head out old new
      → (out ≡ outcome.Same) ⊎ ((out ≡ outcome.Fetched) ⊎ ((why : CopyCause) × (out ≡ outcome.DamagedCopy why) × CauseHolds true (objects_after old peer) (objects_after old own) name (fault_of why)))
  head_told None name out old new is step = absurd cc
  head_told (Some one) name outcome.Same old new is step = inl refl
  head_told (Some one) name outcome.Fetched old new is step = inr (inl refl)
  head_told (Some one) name (outcome.DamagedCopy why) old new is step =
      let same : one ≡ name = cc in
      inr (inr (why, refl, subst (λ (n : Name). CauseHolds true (objects_after old peer) (objects_after old own) n (fault_of why)) same step.1.cause))
  head_told (Some one) name outcome.BadRef old new is none = absurd none
  head_told (Some one) name outcome.Pushed old new is none = absurd none
  head_told (Some one) name (outcome.NotForward other) old new is none = absurd none
  head_told (Some one) name outcome.Held old new is none = absurd none

-- ---- the turn of a line

module _ (own peer : List ℕ) (remote : RemoteName) (apart : Overlap own peer → ⊥) (old new : History) (lines : List Line)
    (done : IsDone verb.Fetch (λ (word : EntityWord) (held : Bool). Fetches own peer (tracking_side remote word)) (λ (word : EntityWord) (held : Bool). FetchStops own peer (tracking_side remote word)) peer lines old new)
    (line : Line) (has : Contains lines line) where
  of : TurnOf (Wrote (MayFetch own peer remote)) verb.Fetch (λ (word : EntityWord) (held : Bool). Fetches own peer (tracking_side remote word)) peer own (tracking_side remote) old new line
  of = turn_of (Wrote (MayFetch own peer remote)) (Wrote-none (MayFetch own peer remote)) (Wrote-then (MayFetch own peer remote)) peer own
      verb.Fetch (λ (word : EntityWord) (held : Bool). Fetches own peer (tracking_side remote word)) (λ (word : EntityWord) (held : Bool). FetchStops own peer (tracking_side remote word)) (tracking_side remote) (λ e. cc)
      (λ word held turn on id before after free step. turn_leaves own peer (tracking_side remote word) on id (id_of turn) turn.entity.head turn.outcome before after free step)
      old new (λ word held turn before after listed came step.
      Wrote-wider (FetchesAs own peer remote word) (MayFetch own peer remote) before after (fetches_as own peer remote word) (turn_wrote own peer remote apart old word turn.entity.id turn.entity.head turn.outcome before after listed came step))
      lines done line has

  -- what is refused keeps its tracking ref
  abbrev KeepsTracking : Line → Type 0
  KeepsTracking l = is_refused l.outcome ≡ true → head_at (files_of new) own (tracking_side remote l.word) l.id ≡ head_at (files_of old) own (tracking_side remote l.word) l.id

  pub tracking_kept : KeepsTracking line
  tracking_kept =
      let at = of.at in
      subst KeepsTracking of.is
      (λ refused. at.later
      ∙ turn_keeps own peer (tracking_side remote of.word) (tracking_side remote of.word) (id_of of.turn) (id_of of.turn) of.turn.entity.head of.turn.outcome at.before at.after
      (λ fetched. absurd (let none : is_refused outcome.Fetched ≡ true = sym (ap is_refused fetched) ∙ refused in cc)) at.step
      ∙ at.earlier)

  -- it is told as the same exactly where both refs had one head
  abbrev IsToldSame : Line → Type 0
  IsToldSame l = (l.outcome ≡ outcome.Same)
      ↔ ((head : Name) × (head_at (files_of old) peer (local_side l.word) l.id ≡ Head head) × (head_at (files_of old) own (tracking_side remote l.word) l.id ≡ Head head))

  pub fetch_same : IsToldSame line
  fetch_same =
      let at = of.at in
      let told = same_told own peer (tracking_side remote of.word) (id_of of.turn) of.turn.entity.head of.turn.outcome at.before at.after at.step in
      subst IsToldSame of.is (
        λ is. (let both = told.0 is in (both.0, of.listed.1 ∙ both.1, sym at.earlier ∙ both.2)),
        λ both. told.1 (both.0, sym of.listed.1 ∙ both.1, at.earlier ∙ both.2),
      )

  -- a head is the same, or was fetched, or something kept it from being copied
  abbrev IsToldFetched : Line → Type 0
  IsToldFetched l = (head : Name) → head_at (files_of old) peer (local_side l.word) l.id ≡ Head head
      → (l.outcome ≡ outcome.Same) ⊎ ((l.outcome ≡ outcome.Fetched)
      ⊎ ((why : CopyCause) × (moment : History) × (l.outcome ≡ outcome.DamagedCopy why) × IsMoment old new moment × CauseHolds true (objects_after moment peer) (objects_after moment own) head (fault_of why)))

  pub fetch_told : IsToldFetched line
  fetch_told =
      let at = of.at in
      let moment : IsMoment old new at.before = record { later = at.goes.writes; done = at.came.writes; before = at.came.grew; after = at.goes.grew } in
      subst IsToldFetched of.is
      (λ head is. elim (head_told own peer (tracking_side remote of.word) (id_of of.turn) of.turn.entity.head head of.turn.outcome at.before at.after (sym of.listed.1 ∙ is) at.step) [
        | inl same ↦ inl same
        | inr rest ↦ elim rest [ inl fetched ↦ inr (inl fetched) | inr refused ↦ inr (inr (refused.0, at.before, refused.1, moment, refused.2)) ]
      ])
