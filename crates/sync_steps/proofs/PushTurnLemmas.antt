-- What the line of a push says of its entity: how the peer's ref stood to the local one, and what kept the head from being copied.
use Rattle.std.proofs.Common.{◌≡◌, ◌≢◌, ◌↔◌, ◌⊎◌, inl, inr, refl, sym, ◌∙◌, ap, subst, ℕ, Bool, true, false, List, [], ◌∷◌, Contains, Option, Some, None}
use Rattle.gb_text.specs.Overlap.{Overlap}
use Rattle.gb_text.specs.declared.id.Id.{Id}
use Rattle.gb_text.specs.declared.id.Name.{Name}
use Rattle.gb_store.specs.Files.{History, files_of}
use Rattle.gb_store.specs.Moments.{IsMoment, Wrote}
use Rattle.gb_store.proofs.MomentLemmas.{Wrote-none, Wrote-then, Wrote-wider}
use Rattle.commit_walk.specs.Below.{IsBelow}
use Rattle.object_store.specs.Held.{Objects, objects_after}
use Rattle.ref_store.specs.Refs.{Ref, Absent, Head, Bad}
use Rattle.remote_copy.specs.Causes.{CauseHolds}
use Rattle.repo_state.specs.Listed.{ref_with}
use Rattle.repo_state.specs.Sides.{head_at}
use Rattle.repo_state.specs.declared.side.Side.{Side}
use Rattle.sync_steps.specs.Carrying.{fault_of}
use Rattle.sync_steps.specs.Lines.{is_refused}
use Rattle.sync_steps.specs.Places.{local_side}
use Rattle.sync_steps.specs.Pushing.{IsForward, PushOfRef, PushOutcome, PushStops, Pushes}
use Rattle.sync_steps.specs.Turns.{IsDone, Turn}
use Rattle.sync_steps.specs.Writes.{MayPush}
use Rattle.sync_steps.specs.declared.line.CopyCause.{CopyCause}
use Rattle.sync_steps.specs.declared.line.EntityWord.{EntityWord}
use Rattle.sync_steps.specs.declared.line.Exchange.TheVariants as verb
use Rattle.sync_steps.specs.declared.line.Line.{Line}
use Rattle.sync_steps.specs.declared.line.Outcome.{Outcome}
use Rattle.sync_steps.specs.declared.line.Outcome.TheVariants as outcome
use Rattle.sync_steps.proofs.FetchedLemmas.{pushes_keep, pushes_leave}
use Rattle.sync_steps.proofs.PushWriteLemmas.{PushesAs, in_peer, push_turn_wrote, pushes_as}
use Rattle.sync_steps.proofs.SetLemmas.{id_of}
use Rattle.sync_steps.proofs.TurnLemmas.{TurnOf, turn_of}
use Rattle.sync_steps.proofs.WriteLemmas.{objects_apart}

-- ---- one turn

-- where a ref goes forward to a head, it has another, or none
pub forward_differs : (objects : Objects) (ref : Ref) (name other : Name) → IsForward objects ref name → ref ≡ Head other → (other ≢ name) × IsBelow objects (name ∷ []) other
forward_differs objects Absent name other forward is = absurd cc
forward_differs objects (Head one) name other forward is = let same : one ≡ other = cc in subst (λ (n : Name). (n ≢ name) × IsBelow objects (name ∷ []) n) same forward
forward_differs objects Bad name other forward is = absurd forward

module _ (own peer : List ℕ) (of : Side) (id : Id) (name : Name) where
  -- it is told as the same exactly where both refs have one head
  same_told : (out : Outcome) (old new : History) → PushOutcome own peer of id name out old new → (out ≡ outcome.Same) ↔ (head_at (files_of old) peer of id ≡ Head name)
  same_told outcome.Same old new step = (λ e. step.0, λ is. refl)
  same_told outcome.BadRef old new step = (λ e. absurd cc, λ is. (let none : Bad ≡ Head name = sym step.0 ∙ is in absurd cc))
  same_told (outcome.NotForward other) old new step = (λ e. absurd cc, λ is. (let one : Head other ≡ Head name = sym step.0 ∙ is in let same : other ≡ name = cc in absurd (step.1 same)))
  same_told outcome.Pushed old new step = (λ e. absurd cc, λ is. absurd ((forward_differs (objects_after old own) (head_at (files_of old) peer of id) name name step.0 is).0 refl))
  same_told (outcome.DamagedCopy why) old new step = (λ e. absurd cc, λ is. absurd ((forward_differs (objects_after old own) (head_at (files_of old) peer of id) name name step.0 is).0 refl))
  same_told outcome.Fetched old new none = absurd none
  same_told outcome.Held old new none = absurd none

  -- it is told as bad exactly where the peer's ref is
  bad_told : (out : Outcome) (old new : History) → PushOutcome own peer of id name out old new → (out ≡ outcome.BadRef) ↔ (head_at (files_of old) peer of id ≡ Bad)
  bad_told outcome.Same old new step = (λ e. absurd cc, λ is. (let none : Head name ≡ Bad = sym step.0 ∙ is in absurd cc))
  bad_told outcome.BadRef old new step = (λ e. step.0, λ is. refl)
  bad_told (outcome.NotForward other) old new step = (λ e. absurd cc, λ is. (let none : Head other ≡ Bad = sym step.0 ∙ is in absurd cc))
  bad_told outcome.Pushed old new step = (λ e. absurd cc, λ is. absurd (subst (λ (r : Ref). IsForward (objects_after old own) r name) is step.0))
  bad_told (outcome.DamagedCopy why) old new step = (λ e. absurd cc, λ is. absurd (subst (λ (r : Ref). IsForward (objects_after old own) r name) is step.0))
  bad_told outcome.Fetched old new none = absurd none
  bad_told outcome.Held old new none = absurd none

  -- the peer's ref has another head, which is not below
  abbrev IsBeside : Objects → Ref → Name → Type 0
  IsBeside objects ref other = (ref ≡ Head other) × (other ≢ name) × (IsBelow objects (name ∷ []) other → ⊥)

  -- it is told as not forward exactly where that is so
  beside_told : (other : Name) (out : Outcome) (old new : History) → PushOutcome own peer of id name out old new → (out ≡ outcome.NotForward other) ↔ IsBeside (objects_after old own) (head_at (files_of old) peer of id) other
  beside_told other outcome.Same old new step = (λ e. absurd cc, λ is. (let one : Head name ≡ Head other = sym step.0 ∙ is.0 in let same : other ≡ name = cc in absurd (is.1 same)))
  beside_told other outcome.BadRef old new step = (λ e. absurd cc, λ is. (let none : Bad ≡ Head other = sym step.0 ∙ is.0 in absurd cc))
  beside_told other (outcome.NotForward one) old new step = (
    λ e. (let same : one ≡ other = cc in subst (λ (n : Name). IsBeside (objects_after old own) (head_at (files_of old) peer of id) n) same (step.0, step.1, step.2)),
    λ is. (let heads : Head one ≡ Head other = sym step.0 ∙ is.0 in let same : one ≡ other = cc in ap outcome.NotForward same),
  )
  beside_told other outcome.Pushed old new step = (λ e. absurd cc, λ is. absurd (is.2 (forward_differs (objects_after old own) (head_at (files_of old) peer of id) name other step.0 is.0).1))
  beside_told other (outcome.DamagedCopy why) old new step = (λ e. absurd cc, λ is. absurd (is.2 (forward_differs (objects_after old own) (head_at (files_of old) peer of id) name other step.0 is.0).1))
  beside_told other outcome.Fetched old new none = absurd none
  beside_told other outcome.Held old new none = absurd none

  -- what may come of a head
  abbrev HeadTold : Outcome → History → Type 0
  HeadTold out old = (out ≡ outcome.Same) ⊎ ((out ≡ outcome.BadRef) ⊎ (((other : Name) × (out ≡ outcome.NotForward other)) ⊎ ((out ≡ outcome.Pushed)
      ⊎ ((why : CopyCause) × (out ≡ outcome.DamagedCopy why) × CauseHolds false (objects_after old own) (objects_after old peer) name (fault_of why)))))

  head_told : (out : Outcome) (old new : History) → PushOutcome own peer of id name out old new → HeadTold out old
  head_told outcome.Same old new step = inl refl
  head_told outcome.BadRef old new step = inr (inl refl)
  head_told (outcome.NotForward other) old new step = inr (inr (inl (other, refl)))
  head_told outcome.Pushed old new step = inr (inr (inr (inl refl)))
  head_told (outcome.DamagedCopy why) old new step = inr (inr (inr (inr (why, refl, step.1.cause))))
  head_told outcome.Fetched old new none = absurd none
  head_told outcome.Held old new none = absurd none

-- a turn that is not held is that of a head
module _ (own peer : List ℕ) (of : Side) (turn : Turn) (old new : History) where
  abbrev pub HeadTurn : Type 0
  HeadTurn = (name : Name) × (turn.entity.head ≡ Some name) × PushOutcome own peer of (id_of turn) name turn.outcome old new

  pub head_turn : (held : Bool) → Pushes own peer of held turn old new → (turn.outcome ≡ outcome.Held) ⊎ HeadTurn
  head_turn true step = inl step.0
  head_turn false step = by turn.entity.head refl step
    where
      by : (head : Option Name) → turn.entity.head ≡ head → PushOfRef own peer of (id_of turn) head turn.outcome old new → (turn.outcome ≡ outcome.Held) ⊎ HeadTurn
      by None at none = absurd none
      by (Some name) at step = inr (name, at, step)

-- ---- the turn of a line

module _ (own peer : List ℕ) (apart : Overlap own peer → ⊥) (old new : History) (lines : List Line)
    (done : IsDone verb.Push (λ (word : EntityWord). Pushes own peer (local_side word)) (λ (word : EntityWord). PushStops own peer (local_side word)) own lines old new)
    (line : Line) (has : Contains lines line) where
  of : TurnOf (Wrote (MayPush own peer)) verb.Push (λ (word : EntityWord). Pushes own peer (local_side word)) own peer local_side old new line
  of = turn_of (Wrote (MayPush own peer)) (Wrote-none (MayPush own peer)) (Wrote-then (MayPush own peer)) own peer
      verb.Push (λ (word : EntityWord). Pushes own peer (local_side word)) (λ (word : EntityWord). PushStops own peer (local_side word)) local_side (λ e. cc)
      (λ word held turn on id before after free step. pushes_leave own peer (local_side word) held turn on id before after free step)
      old new (λ word held turn before after listed came step.
      Wrote-wider (PushesAs own peer word held) (MayPush own peer) before after (pushes_as own peer word held) (push_turn_wrote own peer apart old word held turn before after listed came step))
      lines done line has

  -- what is refused keeps the peer's ref
  abbrev KeepsPeer : Line → Type 0
  KeepsPeer l = is_refused l.outcome ≡ true → head_at (files_of new) peer (local_side l.word) l.id ≡ head_at (files_of old) peer (local_side l.word) l.id

  pub peer_kept : KeepsPeer line
  peer_kept =
      let at = of.at in
      subst KeepsPeer of.is
      (λ refused. at.later
      ∙ pushes_keep own peer (local_side of.word) of.held of.turn (local_side of.word) (id_of of.turn) at.before at.after
      (λ pushed. absurd (let none : is_refused outcome.Pushed ≡ true = sym (ap is_refused pushed) ∙ refused in cc)) at.step
      ∙ at.earlier)

  -- the own objects at its turn are those at first
  objects_same : objects_after of.at.before own ≡ objects_after old own
  objects_same = objects_apart (MayPush own peer) peer own apart (in_peer own peer apart old) old of.at.before of.at.came

  -- the head of a turn is that of the local ref
  local_head : (name head : Name) → of.turn.entity.head ≡ Some name → head_at (files_of old) own (local_side of.word) (id_of of.turn) ≡ Head head → name ≡ head
  local_head name head at is = let same : Head name ≡ Head head = sym (of.listed.1 ∙ ap ref_with at) ∙ is in cc

  -- an entity that is not held had a local head
  abbrev HasLocal : Line → Type 0
  HasLocal l = l.outcome ≢ outcome.Held → (head : Name) × (head_at (files_of old) own (local_side l.word) l.id ≡ Head head)

  pub push_local : HasLocal line
  push_local =
      let at = of.at in
      subst HasLocal of.is
      (λ free. elim (head_turn own peer (local_side of.word) of.turn at.before at.after of.held at.step) [
        | inl held ↦ absurd (free held)
        | inr (name, is, step) ↦ (name, of.listed.1 ∙ ap ref_with is)
      ])

  -- it is told as bad exactly where the peer's ref was
  abbrev IsToldBad : Line → Type 0
  IsToldBad l = l.outcome ≢ outcome.Held → (l.outcome ≡ outcome.BadRef) ↔ (head_at (files_of old) peer (local_side l.word) l.id ≡ Bad)

  pub push_bad : IsToldBad line
  push_bad =
      let at = of.at in
      subst IsToldBad of.is
      (λ free. elim (head_turn own peer (local_side of.word) of.turn at.before at.after of.held at.step) [
        | inl held ↦ absurd (free held)
        | inr (name, is, step) ↦
            let told = bad_told own peer (local_side of.word) (id_of of.turn) name of.turn.outcome at.before at.after step in
            (λ bad. sym at.earlier ∙ told.0 bad, λ bad. told.1 (at.earlier ∙ bad))
      ])

  -- it is told as the same exactly where both refs had one head
  abbrev IsToldSame : Line → Type 0
  IsToldSame l = l.outcome ≢ outcome.Held → (l.outcome ≡ outcome.Same)
      ↔ ((head : Name) × (head_at (files_of old) own (local_side l.word) l.id ≡ Head head) × (head_at (files_of old) peer (local_side l.word) l.id ≡ Head head))

  pub push_same : IsToldSame line
  push_same =
      let at = of.at in
      subst IsToldSame of.is
      (λ free. elim (head_turn own peer (local_side of.word) of.turn at.before at.after of.held at.step) [
        | inl held ↦ absurd (free held)
        | inr (name, is, step) ↦
            let told = same_told own peer (local_side of.word) (id_of of.turn) name of.turn.outcome at.before at.after step in (
              λ same. (name, of.listed.1 ∙ ap ref_with is, sym at.earlier ∙ told.0 same),
              λ both. told.1 (at.earlier ∙ both.2 ∙ ap Head (sym (local_head name both.0 is both.1))),
            )
      ])

  -- it is told as not forward exactly where the peer's ref had another head that was not below
  abbrev IsToldBeside : Line → Type 0
  IsToldBeside l = (other : Name) → l.outcome ≢ outcome.Held → (l.outcome ≡ outcome.NotForward other)
      ↔ ((head : Name) × (head_at (files_of old) own (local_side l.word) l.id ≡ Head head) × (head_at (files_of old) peer (local_side l.word) l.id ≡ Head other)
      × (other ≢ head) × (IsBelow (objects_after old own) (head ∷ []) other → ⊥))

  pub push_beside : IsToldBeside line
  push_beside =
      let at = of.at in
      subst IsToldBeside of.is
      (λ other free. elim (head_turn own peer (local_side of.word) of.turn at.before at.after of.held at.step) [
        | inl held ↦ absurd (free held)
        | inr (name, is, step) ↦
            let told = beside_told own peer (local_side of.word) (id_of of.turn) name other of.turn.outcome at.before at.after step in (
              λ beside. (let b = told.0 beside in (name, of.listed.1 ∙ ap ref_with is, sym at.earlier ∙ b.0, b.1, subst (λ (o : Objects). IsBelow o (name ∷ []) other → ⊥) objects_same b.2)),
              λ all.
                  let same = local_head name all.0 is all.1 in
                  told.1
                  (at.earlier ∙ all.2, λ e. all.3 (e ∙ same), subst (λ (n : Name). IsBelow (objects_after at.before own) (n ∷ []) other → ⊥) (sym same) (subst (λ (o : Objects). IsBelow o (all.0 ∷ []) other → ⊥) (sym objects_same) all.4)),
            )
      ])

  -- a head is held, the same, beside a bad ref or not forward, or was pushed, or something kept it from being copied
  abbrev IsToldPushed : Line → Type 0
  IsToldPushed l = (head : Name) → head_at (files_of old) own (local_side l.word) l.id ≡ Head head
      → (l.outcome ≡ outcome.Held) ⊎ ((l.outcome ≡ outcome.Same) ⊎ ((l.outcome ≡ outcome.BadRef) ⊎ (((other : Name) × (l.outcome ≡ outcome.NotForward other)) ⊎ ((l.outcome ≡ outcome.Pushed)
      ⊎ ((why : CopyCause) × (moment : History) × (l.outcome ≡ outcome.DamagedCopy why) × IsMoment old new moment × CauseHolds false (objects_after moment own) (objects_after moment peer) head (fault_of why))))))

  pub push_told : IsToldPushed line
  push_told =
      let at = of.at in
      let moment : IsMoment old new at.before = record { later = at.goes.writes; done = at.came.writes; before = at.came.grew; after = at.goes.grew } in
      subst IsToldPushed of.is
      (λ head local. elim (head_turn own peer (local_side of.word) of.turn at.before at.after of.held at.step) [
        | inl held ↦ inl held
        | inr (name, is, step) ↦ inr (elim (subst (λ (n : Name). HeadTold own peer (local_side of.word) (id_of of.turn) n of.turn.outcome at.before) (local_head name head is local) (head_told own peer (local_side of.word) (id_of of.turn) name of.turn.outcome at.before at.after step)) [
          | inl same ↦ inl same
          | inr (inl bad) ↦ inr (inl bad)
          | inr (inr (inl beside)) ↦ inr (inr (inl beside))
          | inr (inr (inr (inl pushed))) ↦ inr (inr (inr (inl pushed)))
          | inr (inr (inr (inr refused))) ↦ inr (inr (inr (inr (refused.0, at.before, refused.1, moment, refused.2))))
        ])
      ])
