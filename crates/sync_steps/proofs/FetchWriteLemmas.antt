-- What a fetch writes.
use Rattle.std.proofs.Common.{◌≡◌, ◌⊎◌, inl, inr, refl, ◌∙◌, ℕ, Bool, true, List, Option, Some, None, Result}
use Rattle.gb_text.specs.Overlap.{Overlap}
use Rattle.gb_text.specs.declared.id.Id.{Id}
use Rattle.gb_text.specs.declared.id.Name.{Name}
use Rattle.gb_text.proofs.PathLemmas.{Overlap-mutual}
use Rattle.gb_store.specs.Files.{Files, History, files_of}
use Rattle.gb_store.specs.Moments.{Wrote}
use Rattle.gb_store.specs.declared.store.Change.{Change}
use Rattle.gb_store.proofs.MomentLemmas.{Wrote-none, Wrote-one, Wrote-then, Wrote-wider}
use Rattle.git_object.specs.declared.frame.Kind.TheVariants as kinds
use Rattle.object_batch.specs.Needs.{IsHeldAs}
use Rattle.object_store.specs.Held.{objects_after}
use Rattle.object_store.specs.Puts.{PutsObject}
use Rattle.object_store.proofs.GrowthLemmas.{object_stays, objects_grew}
use Rattle.ref_store.specs.Refs.{Head}
use Rattle.ref_store.specs.Setting.{ref_write}
use Rattle.remote_copy.specs.Closure.{commit_named, first}
use Rattle.remote_copy.specs.Copies.{IsCopied}
use Rattle.remote_copy.specs.NeedWrites.{PutsOneAfterNeeds}
use Rattle.remote_copy.specs.Writes.{PutsCopy}
use Rattle.remote_copy.proofs.KeptLemmas.{left_cases, puts_object}
use Rattle.remote_copy.proofs.NeedWriteLemmas.{puts_after_needs}
use Rattle.remote_copy.proofs.TextLemmas.{object_at-of_text, text_at-there}
use Rattle.repo_state.specs.Sides.{head_at, ref_place}
use Rattle.repo_state.specs.declared.refs.EntityRef.{EntityRef}
use Rattle.remote_name.specs.declared.remote.RemoteName.{RemoteName}
use Rattle.repo_state.specs.declared.side.HeadEntry.{HeadEntry}
use Rattle.repo_state.specs.declared.stop.ReadStop.{ReadStop}
use Rattle.repo_state.specs.declared.stop.ReadStop.TheVariants as stop
use Rattle.sync_steps.specs.Carrying.{IsCarried, IsCutOff, PutObjects}
use Rattle.sync_steps.specs.Fetching.{FetchAnswers, FetchCutOff, FetchOutcome, FetchStops, Fetches, IsBadTracking}
use Rattle.sync_steps.specs.Places.{local_side, tracking_side}
use Rattle.sync_steps.specs.Writes.{IsTrackingWrite, MayFetch}
use Rattle.sync_steps.specs.declared.line.EntityWord.{EntityWord}
use Rattle.sync_steps.specs.declared.line.Exchange.TheVariants as verb
use Rattle.sync_steps.specs.declared.line.Line.{Line}
use Rattle.sync_steps.specs.declared.line.Outcome.{Outcome}
use Rattle.sync_steps.specs.declared.line.Outcome.TheVariants as outcome
use Rattle.sync_steps.proofs.WriteLemmas.{IsIn, IsListed, exchange_wrote, heads_apart, object_in, ref_in}

-- what a fetch may write in a turn of an entity of this kind
abbrev pub FetchesAs : List ℕ → List ℕ → RemoteName → EntityWord → Files → Change → Type 0
FetchesAs own peer remote word files change = PutsOneAfterNeeds own files change ⊎ ((set : IsTrackingWrite own peer remote files change) × (set.word ≡ word))

-- it is one of the writes of a fetch
pub fetches_as : (own peer : List ℕ) (remote : RemoteName) (word : EntityWord) (files : Files) (change : Change) → FetchesAs own peer remote word files change → MayFetch own peer remote files change
fetches_as own peer remote word files change (inl puts) = inl puts
fetches_as own peer remote word files change (inr (set, is)) = inr set

module _ (own peer : List ℕ) (remote : RemoteName) (apart : Overlap own peer → ⊥) (entry : History) where
  abbrev May : Files → Change → Type 0
  May = MayFetch own peer remote

  abbrev As : EntityWord → Files → Change → Type 0
  As = FetchesAs own peer remote

  wide : (word : EntityWord) (old new : History) → Wrote (As word) old new → Wrote May old new
  wide word old new wrote = Wrote-wider (As word) May old new (fetches_as own peer remote word) wrote

  -- each is below the own folder
  pub in_own : (files : Files) (change : Change) → May files change → IsIn own change
  in_own files change (inl puts) = object_in own files change puts
  in_own files change (inr set) = ref_in own (tracking_side remote set.word) set.id set.head change set.write

  -- a head that was copied is held
  head_held : (head : Name) (old mid : History) → Wrote (PutsCopy true peer own (objects_after old own) head) old mid → IsCopied true (objects_after old peer) (objects_after old own) (objects_after mid own) head → IsHeldAs (objects_after mid own) head kinds.Commit
  head_held head old mid put copied = elim (left_cases true (objects_after old own) (commit_named head)) [
    | inl left ↦
        let grew = objects_grew own old mid (Wrote-wider (PutsCopy true peer own (objects_after old own) head) (PutsObject own) old mid (λ files change. puts_object true peer own (objects_after old own) head files change) put) in
        record { object = left.held.object; is = object_stays (objects_after old own) (objects_after mid own) grew head left.held.object left.held.is; is_kind = left.held.is_kind }
    | inr unleft ↦
        let s = copied (commit_named head) (first refl unleft) in
        record { object = s.object; is = object_at-of_text (objects_after mid own) head s.text s.object (text_at-there (objects_after old peer) (objects_after mid own) head s.text s.held s.there) s.is; is_kind = s.is_kind }
  ]

  module _ (word : EntityWord) (id : Id) (name : Name) (old new : History) (listed : IsListed entry peer word (record { id = id; head = Some name })) (before : Wrote May entry old) where
    abbrev head : HeadEntry
    head = record { id = id; name = name }

    objects : (mid : History) → PutObjects true peer own head old mid → Wrote (As word) old mid
    objects mid put = Wrote-wider (PutsCopy true peer own (objects_after old own) name) (As word) old mid (λ files change p. inl (puts_after_needs true peer own (objects_after old own) name files change p)) put

    carried : IsCarried true peer own (tracking_side remote word) head old new → Wrote (As word) old new
    carried is =
        let put = objects is.mid is.put in
        let at_mid = Wrote-then May entry old is.mid before (wide word old is.mid put) in
        let there : head_at (files_of is.mid) peer (local_side word) id ≡ Head name = heads_apart May own peer (λ o. apart (Overlap-mutual peer own o)) in_own (local_side word) id entry is.mid at_mid ∙ listed.1 in
        let change = ref_write own (ref_place (tracking_side remote word) id) name in
        Wrote-then (As word) old is.mid new put
        (Wrote-one (As word) change is.mid new (inr (record { word = word; id = id; is_id = listed.0; head = name; is_peers = there; held = head_held name old is.mid is.put is.copied; write = refl }, refl)) (inr is.set))

    cut : IsCutOff true peer own (tracking_side remote word) head old new → Wrote (As word) old new
    cut (inl put) = objects new put
    cut (inr is) = carried is

  -- the writes of a turn
  pub turn_wrote : (word : EntityWord) (id : Id) (listing : Option Name) (out : Outcome) (old new : History) → IsListed entry peer word (record { id = id; head = listing }) → Wrote May entry old
      → FetchOutcome own peer (tracking_side remote word) id listing out old new → Wrote (As word) old new
  turn_wrote word id None outcome.BadRef old new listed before same = Wrote-none (As word) old new same
  turn_wrote word id None outcome.Fetched old new listed before none = absurd none
  turn_wrote word id None outcome.Pushed old new listed before none = absurd none
  turn_wrote word id None outcome.Same old new listed before none = absurd none
  turn_wrote word id None (outcome.DamagedCopy why) old new listed before none = absurd none
  turn_wrote word id None (outcome.NotForward other) old new listed before none = absurd none
  turn_wrote word id None outcome.Held old new listed before none = absurd none
  turn_wrote word id (Some name) outcome.Same old new listed before (at, same) = Wrote-none (As word) old new same
  turn_wrote word id (Some name) outcome.Fetched old new listed before (other, is) = carried word id name old new listed before is
  turn_wrote word id (Some name) (outcome.DamagedCopy why) old new listed before (other, refused) = objects word id name old new listed before new refused.put
  turn_wrote word id (Some name) outcome.BadRef old new listed before none = absurd none
  turn_wrote word id (Some name) outcome.Pushed old new listed before none = absurd none
  turn_wrote word id (Some name) (outcome.NotForward other) old new listed before none = absurd none
  turn_wrote word id (Some name) outcome.Held old new listed before none = absurd none

  cut_wrote : (word : EntityWord) (id : Id) (listing : Option Name) (old new : History) → IsListed entry peer word (record { id = id; head = listing }) → Wrote May entry old
      → FetchCutOff own peer (tracking_side remote word) id listing old new → Wrote (As word) old new
  cut_wrote word id None old new listed before same = Wrote-none (As word) old new same
  cut_wrote word id (Some name) old new listed before (inl same) = Wrote-none (As word) old new same
  cut_wrote word id (Some name) old new listed before (inr (other, is)) = cut word id name old new listed before is

  bad_wrote : (word : EntityWord) (id : Id) (listing : Option Name) (path : List ℕ) (old new : History) → IsBadTracking own peer (tracking_side remote word) id listing path old new → Wrote (As word) old new
  bad_wrote word id None path old new none = absurd none
  bad_wrote word id (Some name) path old new (bad, same) = Wrote-none (As word) old new same

  -- and of what ended the call
  pub stop_wrote : (word : EntityWord) (why : ReadStop) (entity : EntityRef) (old new : History) → IsListed entry peer word entity → Wrote May entry old → FetchStops own peer (tracking_side remote word) why entity old new → Wrote (As word) old new
  stop_wrote word stop.Memory entity old new listed before is = cut_wrote word entity.id entity.head old new listed before is
  stop_wrote word stop.Disk entity old new listed before is = cut_wrote word entity.id entity.head old new listed before is
  stop_wrote word (stop.Damaged path) entity old new listed before is = bad_wrote word entity.id entity.head path old new is

  pub fetch_wrote : (new : History) (result : Result (List Line) ReadStop) → FetchAnswers own peer remote entry new result → Wrote May entry new
  fetch_wrote new result answers =
      exchange_wrote May verb.Fetch (λ (word : EntityWord) (held : Bool). Fetches own peer (tracking_side remote word)) (λ (word : EntityWord) (held : Bool). FetchStops own peer (tracking_side remote word)) peer entry
      (λ word held turn old new listed before step. wide word old new (turn_wrote word turn.entity.id turn.entity.head turn.outcome old new listed before step))
      (λ word held why entity old new listed before is. wide word old new (stop_wrote word why entity old new listed before is))
      new result answers
