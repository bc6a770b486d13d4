-- Turns that memory or the disk ends, and what is so where an own ref is no ref text.
use Rattle.std.proofs.Common.{◌≡◌, inl, inr, refl, sym, ap, subst, Bool, true, false, List, ℕ, Option, Some, None, Ok, Err}
use Rattle.gb_text.specs.declared.id.Id.{Id}
use Rattle.gb_text.specs.declared.id.Name.{Name}
use Rattle.gb_store.specs.Files.{Files, History, files_of}
use Rattle.gb_store.specs.declared.fault.StoreFault.{StoreFault}
use Rattle.gb_store.specs.declared.fault.StoreFault.TheVariants as store
use Rattle.object_store.specs.Held.{Objects, objects_after}
use Rattle.ref_store.specs.Refs.{Ref}
use Rattle.repo_state.specs.Answers.{EntityAnswers, IsHeadAt, IsRefOf, PutAnswers, Reads, WholeAnswers}
use Rattle.repo_state.specs.Sides.{IsBadRef, head_at}
use Rattle.repo_state.specs.Stops.{read_of_store}
use Rattle.repo_state.specs.declared.refs.EntityRef.{EntityRef}
use Rattle.repo_state.specs.declared.side.HeadEntry.{HeadEntry}
use Rattle.repo_state.specs.declared.side.Side.{Side}
use Rattle.repo_state.specs.declared.stop.ReadStop.{ReadStop}
use Rattle.repo_state.specs.declared.stop.ReadStop.TheVariants as stop
use Rattle.remote_copy.specs.Copies.{HasNoCause, IsCopied}
use Rattle.sync_steps.specs.Carrying.{IsCarried, IsCutOff, IsRefused, PutObjects, head_write}
use Rattle.sync_steps.specs.Fetching.{FetchCutOff, FetchOutcome, FetchStops, IsBadTracking, IsOther}
use Rattle.sync_steps.specs.Pushing.{ForwardAnswers, IsBadLocal, IsForward, IsPushCut, PushCutOff, PushOfRef, PushOutcome, PushStops, Pushes}
use Rattle.sync_steps.specs.declared.line.CopyCause.{CopyCause}
use Rattle.sync_steps.specs.declared.line.Outcome.{Outcome}
use Rattle.sync_steps.specs.declared.line.Outcome.TheVariants as outcome

-- what a call had done where the write of its ref was answered by a fault
pub set_ended : (closed : Bool) (source target : List ℕ) (to : Side) (head : HeadEntry) (old mid new : History) (fault : StoreFault) → PutObjects closed source target head old mid
    → HasNoCause closed (objects_after old source) (objects_after old target) head.name → IsCopied closed (objects_after old source) (objects_after old target) (objects_after mid target) head.name
    → PutAnswers (head_write target to head) mid new (Err fault) → IsCutOff closed source target to head old new
set_ended closed source target to head old mid new store.Memory put none copied same = inl (subst (PutObjects closed source target head old) (sym same) put)
set_ended closed source target to head old mid new store.Failed put none copied (inl same) = inl (subst (PutObjects closed source target head old) (sym same) put)
set_ended closed source target to head old mid new store.Failed put none copied (inr made) = inr (record { mid = mid; put = put; no_cause = none; copied = copied; set = made })

-- ---- fetches

module _ (own peer : List ℕ) (to : Side) where
  -- a tracking ref that is not read ends the turn
  pub tracking_ends : (entity : EntityRef) (name : Name) (old new : History) (why : ReadStop) → entity.head ≡ Some name
      → Reads (IsHeadAt (files_of old) own to entity.id) (IsBadRef (files_of old) own to entity.id) (Err why) → new ≡ old → FetchStops own peer to why entity old new
  tracking_ends entity name old new stop.Memory is told same =
      subst (λ (h : Option Name). FetchCutOff own peer to entity.id h old new) (sym is) (inl same)
  tracking_ends entity name old new stop.Disk is told same =
      subst (λ (h : Option Name). FetchCutOff own peer to entity.id h old new) (sym is) (inl same)
  tracking_ends entity name old new (stop.Damaged path) is told same = subst (λ (h : Option Name). IsBadTracking own peer to entity.id h path old new) (sym is) (told, same)

  -- a tracking ref with another head, or none, is not yet that of the peer
  other_head : (files : Files) (id : Id) (name : Name) (found : Option Name) → IsHeadAt files own to id found → (found ≡ Some name → ⊥) → IsOther (head_at files own to id) name
  other_head files id name None at differ = subst (λ (ref : Ref). IsOther ref name) (sym at) tt
  other_head files id name (Some other) at differ = subst (λ (ref : Ref). IsOther ref name) (sym at) (λ same. differ (ap Some same))

  -- a copy that is refused
  pub copy_refused : (entity : EntityRef) (name : Name) (found : Option Name) (why : CopyCause) (old mid new : History) → entity.head ≡ Some name → IsHeadAt (files_of old) own to entity.id found
      → (found ≡ Some name → ⊥) → mid ≡ old → IsRefused true peer own (record { id = entity.id; name = name }) why mid new → FetchOutcome own peer to entity.id entity.head (outcome.DamagedCopy why) old new
  copy_refused entity name found why old mid new is at differ same refused =
      subst (λ (h : Option Name). FetchOutcome own peer to entity.id h (outcome.DamagedCopy why) old new) (sym is)
      (other_head (files_of old) entity.id name found at differ, subst (λ (h : History). IsRefused true peer own (record { id = entity.id; name = name }) why h new) same refused)

  -- one that memory or the disk ended
  cut_off : (entity : EntityRef) (name : Name) (found : Option Name) (old new : History) → entity.head ≡ Some name → IsHeadAt (files_of old) own to entity.id found
      → (found ≡ Some name → ⊥) → IsCutOff true peer own to (record { id = entity.id; name = name }) old new → FetchCutOff own peer to entity.id entity.head old new
  cut_off entity name found old new is at differ cut =
      subst (λ (h : Option Name). FetchCutOff own peer to entity.id h old new) (sym is) (inr (other_head (files_of old) entity.id name found at differ, cut))

  pub copy_cut : (entity : EntityRef) (name : Name) (found : Option Name) (fault : StoreFault) (old new : History) → entity.head ≡ Some name → IsHeadAt (files_of old) own to entity.id found
      → (found ≡ Some name → ⊥) → IsCutOff true peer own to (record { id = entity.id; name = name }) old new → FetchStops own peer to (read_of_store fault) entity old new
  copy_cut entity name found store.Memory old new is at differ cut = cut_off entity name found old new is at differ cut
  copy_cut entity name found store.Failed old new is at differ cut = cut_off entity name found old new is at differ cut

  -- one that is done
  pub copy_made : (entity : EntityRef) (name : Name) (found : Option Name) (old new : History) → entity.head ≡ Some name → IsHeadAt (files_of old) own to entity.id found
      → (found ≡ Some name → ⊥) → IsCarried true peer own to (record { id = entity.id; name = name }) old new → FetchOutcome own peer to entity.id entity.head outcome.Fetched old new
  copy_made entity name found old new is at differ carried =
      subst (λ (h : Option Name). FetchOutcome own peer to entity.id h outcome.Fetched old new) (sym is) (other_head (files_of old) entity.id name found at differ, carried)

  -- a tracking ref with the peer's head
  pub found_same : (entity : EntityRef) (name : Name) (found : Option Name) (old : History) → entity.head ≡ Some name → IsHeadAt (files_of old) own to entity.id found → found ≡ Some name
      → FetchOutcome own peer to entity.id entity.head outcome.Same old old
  found_same entity name found old is at same =
      subst (λ (h : Option Name). FetchOutcome own peer to entity.id h outcome.Same old old) (sym is) (subst (IsHeadAt (files_of old) own to entity.id) same at, refl)

  -- memory may run out behind a turn
  pub fetched_then_ended : (id : Id) (head : Option Name) (out : Outcome) (old new : History) → FetchOutcome own peer to id head out old new → FetchCutOff own peer to id head old new
  fetched_then_ended id None outcome.BadRef old new same = same
  fetched_then_ended id None outcome.Fetched old new none = absurd none
  fetched_then_ended id None outcome.Pushed old new none = absurd none
  fetched_then_ended id None outcome.Same old new none = absurd none
  fetched_then_ended id None (outcome.DamagedCopy why) old new none = absurd none
  fetched_then_ended id None (outcome.NotForward other) old new none = absurd none
  fetched_then_ended id None outcome.Held old new none = absurd none
  fetched_then_ended id (Some name) outcome.Same old new (at, same) = inl same
  fetched_then_ended id (Some name) outcome.Fetched old new (other, carried) = inr (other, inr carried)
  fetched_then_ended id (Some name) (outcome.DamagedCopy why) old new (other, refused) = inr (other, inl refused.put)
  fetched_then_ended id (Some name) outcome.BadRef old new none = absurd none
  fetched_then_ended id (Some name) outcome.Pushed old new none = absurd none
  fetched_then_ended id (Some name) (outcome.NotForward other) old new none = absurd none
  fetched_then_ended id (Some name) outcome.Held old new none = absurd none

-- ---- pushes

-- what the peer's ref is, by its entry in a listing
pub ref_there : (files : Files) (peer : List ℕ) (of : Side) (id : Id) (found : Option EntityRef) (theirs : EntityRef) (head : Option Name) → EntityAnswers files peer of id (Ok found) → found ≡ Some theirs
    → theirs.head ≡ head → IsRefOf (head_at files peer of id) head
ref_there files peer of id found theirs head told is has =
    subst (IsRefOf (head_at files peer of id)) has ((subst (λ (f : Option EntityRef). EntityAnswers files peer of id (Ok f)) is told).1)

-- nothing is settled where a head goes forward
pub goes_forward : (objects : Objects) (ref : Ref) (name : Name) (settled : Option Outcome) → ((out : Outcome) → settled ≡ Some out → ⊥) → ForwardAnswers objects ref name (Ok settled) → IsForward objects ref name
goes_forward objects ref name None none forward = forward
goes_forward objects ref name (Some out) none told = absurd (none out refl)

module _ (own peer : List ℕ) (of : Side) where
  -- a local ref that is no ref text ends the turn
  pub local_ends : (held : Bool) (entity : EntityRef) (old new : History) (why : ReadStop) → held ≡ false → WholeAnswers own of entity (Err why) → new ≡ old → PushStops own peer of held why entity old new
  local_ends true entity old new why is told same = absurd cc
  local_ends false entity old new stop.Memory is told same = by entity.head
    where
      by : (head : Option Name) → PushCutOff own peer of false entity.id head old new
      by None = same
      by (Some name) = inl same
  local_ends false entity old new stop.Disk is told same = absurd told
  local_ends false entity old new (stop.Damaged path) is told same = subst (λ (h : Option Name). IsBadLocal own peer of false entity.id h path old new) (sym told.0) (told.1, same)

  pushed_then_ended : (id : Id) (name : Name) (out : Outcome) (old new : History) → PushOutcome own peer of id name out old new → IsPushCut own peer of (record { id = id; name = name }) old new
  pushed_then_ended id name outcome.Same old new (at, same) = inl same
  pushed_then_ended id name outcome.BadRef old new (at, same) = inl same
  pushed_then_ended id name (outcome.NotForward other) old new told = inl told.3
  pushed_then_ended id name outcome.Pushed old new (forward, carried) = inr (forward, inr carried)
  pushed_then_ended id name (outcome.DamagedCopy why) old new (forward, refused) = inr (forward, inl refused.put)
  pushed_then_ended id name outcome.Fetched old new none = absurd none
  pushed_then_ended id name outcome.Held old new none = absurd none

  -- memory may run out behind a turn
  pub turn_then_ended : (held : Bool) (entity : EntityRef) (out : Outcome) (old new : History) → Pushes own peer of held (record { entity = entity; outcome = out }) old new → PushCutOff own peer of held entity.id entity.head old new
  turn_then_ended true entity out old new step = step.1
  turn_then_ended false entity out old new step = by entity.head step
    where
      by : (head : Option Name) → PushOfRef own peer of entity.id head out old new → PushCutOff own peer of false entity.id head old new
      by None none = absurd none
      by (Some name) step = pushed_then_ended entity.id name out old new step
