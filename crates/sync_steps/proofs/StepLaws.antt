-- What single turns write, and over which refs.
use Rattle.std.proofs.Common.{◌≡◌, ◌≢◌, ◌⊎◌, inl, inr, refl, sym, ◌∙◌, subst, Bool, true, false, ℕ, List, [], ◌∷◌, Option, Some, None}
use Rattle.gb_text.specs.declared.id.Id.{Id}
use Rattle.gb_text.specs.declared.id.Name.{Name}
use Rattle.gb_store.specs.Files.{History, files_of}
use Rattle.commit_walk.specs.Below.{IsBelow}
use Rattle.object_store.specs.Held.{Objects, objects_after}
use Rattle.ref_store.specs.Refs.{Ref, Absent, Head, Bad}
use Rattle.repo_state.specs.Sides.{head_at}
use Rattle.repo_state.specs.declared.side.Side.{Side}
use Rattle.sync_steps.specs.Fetching.{FetchOutcome, IsOther}
use Rattle.sync_steps.specs.Lines.{is_quiet}
use Rattle.sync_steps.specs.Pushing.{IsForward, PushOfRef, PushOutcome, Pushes}
use Rattle.sync_steps.specs.Turns.{Turn}
use Rattle.sync_steps.specs.declared.line.Outcome.{Outcome}
use Rattle.sync_steps.specs.declared.line.Outcome.TheVariants as outcome

-- ---- fetches

pub quiet_fetch : (own peer : List ℕ) (to : Side) (id : Id) (head : Option Name) (out : Outcome) (old new : History) → FetchOutcome own peer to id head out old new → is_quiet out ≡ true → new ≡ old
quiet_fetch own peer to id None outcome.BadRef old new same quiet = same
quiet_fetch own peer to id None outcome.Fetched old new none quiet = absurd none
quiet_fetch own peer to id None outcome.Pushed old new none quiet = absurd none
quiet_fetch own peer to id None outcome.Same old new none quiet = absurd none
quiet_fetch own peer to id None (outcome.DamagedCopy why) old new none quiet = absurd none
quiet_fetch own peer to id None (outcome.NotForward other) old new none quiet = absurd none
quiet_fetch own peer to id None outcome.Held old new none quiet = absurd none
quiet_fetch own peer to id (Some name) outcome.Same old new (at, same) quiet = same
quiet_fetch own peer to id (Some name) outcome.Fetched old new step quiet = absurd cc
quiet_fetch own peer to id (Some name) (outcome.DamagedCopy why) old new step quiet = absurd cc
quiet_fetch own peer to id (Some name) outcome.BadRef old new none quiet = absurd none
quiet_fetch own peer to id (Some name) outcome.Pushed old new none quiet = absurd none
quiet_fetch own peer to id (Some name) (outcome.NotForward other) old new none quiet = absurd none
quiet_fetch own peer to id (Some name) outcome.Held old new none quiet = absurd none

other_reads : (ref : Ref) (name : Name) → IsOther ref name → ref ≡ Bad → ⊥
other_reads Absent name other bad = absurd cc
other_reads (Head one) name other bad = absurd cc
other_reads Bad name other bad = other

pub tracking_reads : (own peer : List ℕ) (to : Side) (id : Id) (head : Option Name) (name : Name) (out : Outcome) (old new : History) → head ≡ Some name → FetchOutcome own peer to id head out old new
    → head_at (files_of old) own to id ≡ Bad → ⊥
tracking_reads own peer to id None name out old new is step bad = absurd cc
tracking_reads own peer to id (Some one) name outcome.Same old new is (at, same) bad = let no : Head one ≡ Bad = sym at ∙ bad in absurd cc
tracking_reads own peer to id (Some one) name outcome.Fetched old new is (other, carried) bad = other_reads (head_at (files_of old) own to id) one other bad
tracking_reads own peer to id (Some one) name (outcome.DamagedCopy why) old new is (other, refused) bad = other_reads (head_at (files_of old) own to id) one other bad
tracking_reads own peer to id (Some one) name outcome.BadRef old new is none bad = none
tracking_reads own peer to id (Some one) name outcome.Pushed old new is none bad = none
tracking_reads own peer to id (Some one) name (outcome.NotForward other) old new is none bad = none
tracking_reads own peer to id (Some one) name outcome.Held old new is none bad = none

-- ---- pushes

-- nothing is written of what is quiet, or not forward
pub quiet_head : (own peer : List ℕ) (of : Side) (id : Id) (name : Name) (out : Outcome) (old new : History) → PushOutcome own peer of id name out old new
    → (is_quiet out ≡ true) ⊎ ((other : Name) × (out ≡ outcome.NotForward other)) → new ≡ old
quiet_head own peer of id name outcome.Same old new (at, same) quiet = same
quiet_head own peer of id name outcome.BadRef old new (at, same) quiet = same
quiet_head own peer of id name (outcome.NotForward other) old new told quiet = told.3
quiet_head own peer of id name outcome.Pushed old new step (inl e) = absurd cc
quiet_head own peer of id name outcome.Pushed old new step (inr (other, e)) = absurd cc
quiet_head own peer of id name (outcome.DamagedCopy why) old new step (inl e) = absurd cc
quiet_head own peer of id name (outcome.DamagedCopy why) old new step (inr (other, e)) = absurd cc
quiet_head own peer of id name outcome.Fetched old new none quiet = absurd none
quiet_head own peer of id name outcome.Held old new none quiet = absurd none

quiet_ref : (own peer : List ℕ) (of : Side) (id : Id) (head : Option Name) (out : Outcome) (old new : History) → PushOfRef own peer of id head out old new
    → (is_quiet out ≡ true) ⊎ ((other : Name) × (out ≡ outcome.NotForward other)) → new ≡ old
quiet_ref own peer of id None out old new none quiet = absurd none
quiet_ref own peer of id (Some name) out old new step quiet = quiet_head own peer of id name out old new step quiet

pub quiet_push : (own peer : List ℕ) (of : Side) (held : Bool) (turn : Turn) (old new : History) → Pushes own peer of held turn old new
    → (is_quiet turn.outcome ≡ true) ⊎ ((other : Name) × (turn.outcome ≡ outcome.NotForward other)) → new ≡ old
quiet_push own peer of true turn old new (is, same) quiet = same
quiet_push own peer of false turn old new step quiet = quiet_ref own peer of turn.entity.id turn.entity.head turn.outcome old new step quiet

-- where a ref of the peer is set, it did not stand, or its head lay below
abbrev GoesForward : Objects → Ref → Name → Type 0
GoesForward objects ref name = (ref ≡ Absent) ⊎ ((other : Name) × (ref ≡ Head other) × (other ≢ name) × IsBelow objects (name ∷ []) other)

forward_told : (objects : Objects) (ref : Ref) (name : Name) → IsForward objects ref name → GoesForward objects ref name
forward_told objects Absent name forward = inl refl
forward_told objects (Head other) name forward = inr (other, refl, forward.0, forward.1)
forward_told objects Bad name forward = absurd forward

pushed_ref : (own peer : List ℕ) (of : Side) (id : Id) (head : Option Name) (name : Name) (out : Outcome) (old new : History) → PushOfRef own peer of id head out old new → out ≡ outcome.Pushed → head ≡ Some name
    → GoesForward (objects_after old own) (head_at (files_of old) peer of id) name
pushed_ref own peer of id None name out old new none is at = absurd none
pushed_ref own peer of id (Some one) name out old new step is at =
    let same : one ≡ name = cc in
    let pushed = subst (λ (o : Outcome). PushOutcome own peer of id one o old new) is step in
    subst (GoesForward (objects_after old own) (head_at (files_of old) peer of id)) same (forward_told (objects_after old own) (head_at (files_of old) peer of id) one pushed.0)

pub pushed_forward : (own peer : List ℕ) (of : Side) (held : Bool) (turn : Turn) (name : Name) (old new : History) → Pushes own peer of held turn old new → turn.outcome ≡ outcome.Pushed → turn.entity.head ≡ Some name
    → GoesForward (objects_after old own) (head_at (files_of old) peer of turn.entity.id) name
pushed_forward own peer of true turn name old new (held, same) is at = let no : outcome.Pushed ≡ outcome.Held = sym is ∙ held in absurd cc
pushed_forward own peer of false turn name old new step is at = pushed_ref own peer of turn.entity.id turn.entity.head name turn.outcome old new step is at
