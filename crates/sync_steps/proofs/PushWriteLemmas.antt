-- What a push writes.
use Rattle.std.proofs.Common.{◌≡◌, ◌⊎◌, inl, inr, refl, sym, ◌∙◌, subst, ℕ, Bool, true, false, List, Option, Some, None, Result}
use Rattle.gb_text.specs.Overlap.{Overlap}
use Rattle.gb_text.specs.declared.id.Id.{Id}
use Rattle.gb_text.specs.declared.id.Name.{Name}
use Rattle.gb_store.specs.Files.{Files, History, files_of}
use Rattle.gb_store.specs.Moments.{Wrote}
use Rattle.gb_store.specs.declared.store.Change.{Change}
use Rattle.gb_store.proofs.MomentLemmas.{Wrote-none, Wrote-one, Wrote-then, Wrote-wider}
use Rattle.object_batch.specs.Needs.{Reference}
use Rattle.object_store.specs.Held.{Objects, objects_after}
use Rattle.ref_store.specs.Refs.{Ref, Head}
use Rattle.ref_store.specs.Setting.{ref_write}
use Rattle.remote_copy.specs.Closure.{IsInClosure, StandsAlike}
use Rattle.remote_copy.specs.NeedWrites.{PutsOneAfterNeeds}
use Rattle.remote_copy.specs.Writes.{PutsCopy}
use Rattle.remote_copy.proofs.KeptLemmas.{alike}
use Rattle.remote_copy.proofs.NeedWriteLemmas.{puts_after_needs}
use Rattle.repo_state.specs.Sides.{head_at, ref_place}
use Rattle.repo_state.specs.declared.refs.EntityRef.{EntityRef}
use Rattle.repo_state.specs.declared.side.HeadEntry.{HeadEntry}
use Rattle.repo_state.specs.declared.stop.ReadStop.{ReadStop}
use Rattle.repo_state.specs.declared.stop.ReadStop.TheVariants as stop
use Rattle.sync_steps.specs.Carrying.{IsCarried, PutObjects}
use Rattle.sync_steps.specs.Places.{local_side}
use Rattle.sync_steps.specs.Pushing.{IsBadLocal, IsForward, IsPushCut, PushAnswers, PushCutOff, PushOfRef, PushOutcome, PushStops, Pushes}
use Rattle.sync_steps.specs.Turns.{Turn}
use Rattle.sync_steps.specs.Writes.{IsPeerWrite, MayPush}
use Rattle.sync_steps.specs.declared.line.EntityWord.{EntityWord}
use Rattle.sync_steps.specs.declared.line.Exchange.TheVariants as verb
use Rattle.sync_steps.specs.declared.line.Line.{Line}
use Rattle.sync_steps.specs.declared.line.Outcome.{Outcome}
use Rattle.sync_steps.specs.declared.line.Outcome.TheVariants as outcome
use Rattle.sync_steps.proofs.SetLemmas.{puts_leave}
use Rattle.sync_steps.proofs.WriteLemmas.{IsIn, IsListed, exchange_wrote, heads_apart, object_in, objects_apart, ref_in}

-- what a push may write in a turn of an entity of this kind: no ref where it is held
abbrev pub PushesAs : List ℕ → List ℕ → EntityWord → Bool → Files → Change → Type 0
PushesAs own peer word held files change = PutsOneAfterNeeds peer files change ⊎ ((set : IsPeerWrite own peer files change) × (set.word ≡ word) × (held ≡ false))

-- it is one of the writes of a push
pub pushes_as : (own peer : List ℕ) (word : EntityWord) (held : Bool) (files : Files) (change : Change) → PushesAs own peer word held files change → MayPush own peer files change
pushes_as own peer word held files change (inl puts) = inl puts
pushes_as own peer word held files change (inr (set, is, free)) = inr set

module _ (own peer : List ℕ) (apart : Overlap own peer → ⊥) (entry : History) where
  abbrev May : Files → Change → Type 0
  May = MayPush own peer

  abbrev As : EntityWord → Bool → Files → Change → Type 0
  As = PushesAs own peer

  wide : (word : EntityWord) (held : Bool) (old new : History) → Wrote (As word held) old new → Wrote May old new
  wide word held old new wrote = Wrote-wider (As word held) May old new (pushes_as own peer word held) wrote

  -- each is below the peer
  pub in_peer : (files : Files) (change : Change) → May files change → IsIn peer change
  in_peer files change (inl puts) = object_in peer files change puts
  in_peer files change (inr set) = ref_in peer (local_side set.word) set.id set.head change set.write

  module _ (word : EntityWord) (id : Id) (name : Name) (old new : History) (listed : IsListed entry own word (record { id = id; head = Some name })) (before : Wrote May entry old) where
    abbrev head : HeadEntry
    head = record { id = id; name = name }

    objects : (mid : History) → PutObjects false own peer head old mid → Wrote (As word false) old mid
    objects mid put = Wrote-wider (PutsCopy false own peer (objects_after old peer) name) (As word false) old mid (λ files change p. inl (puts_after_needs false own peer (objects_after old peer) name files change p)) put

    carried : IsForward (objects_after old own) (head_at (files_of old) peer (local_side word) id) name → IsCarried false own peer (local_side word) head old new → Wrote (As word false) old new
    carried forward is =
        let put = objects is.mid is.put in
        let wide_put = wide word false old is.mid put in
        let at_mid = Wrote-then May entry old is.mid before wide_put in
        let here : head_at (files_of is.mid) own (local_side word) id ≡ Head name = heads_apart May peer own apart in_peer (local_side word) id entry is.mid at_mid ∙ listed.1 in
        let same : objects_after is.mid own ≡ objects_after old own = objects_apart May peer own apart in_peer old is.mid wide_put in
        let theirs = puts_leave false own peer (objects_after old peer) name (local_side word) id old is.mid is.put in
        let forward_mid : IsForward (objects_after is.mid own) (head_at (files_of is.mid) peer (local_side word) id) name =
        subst (λ (r : Ref). IsForward (objects_after is.mid own) r name) (sym theirs) (subst (λ (o : Objects). IsForward o (head_at (files_of old) peer (local_side word) id) name) (sym same) forward) in
        let alike_mid : (one : Reference) → IsInClosure (objects_after is.mid own) name one → StandsAlike (objects_after is.mid own) (objects_after is.mid peer) one =
        subst (λ (o : Objects). (one : Reference) → IsInClosure o name one → StandsAlike o (objects_after is.mid peer) one) (sym same) (alike (objects_after old own) (objects_after old peer) (objects_after is.mid peer) name is.copied) in
        let change = ref_write peer (ref_place (local_side word) id) name in
        Wrote-then (As word false) old is.mid new put
        (Wrote-one (As word false) change is.mid new (inr (record { word = word; id = id; is_id = listed.0; head = name; is_local = here; forward = forward_mid; alike = alike_mid; write = refl }, refl, refl)) (inr is.set))

    cut : IsPushCut own peer (local_side word) head old new → Wrote (As word false) old new
    cut (inl same) = Wrote-none (As word false) old new same
    cut (inr (forward, inl put)) = objects new put
    cut (inr (forward, inr is)) = carried forward is

  turn_wrote : (word : EntityWord) (id : Id) (name : Name) (out : Outcome) (old new : History) → IsListed entry own word (record { id = id; head = Some name }) → Wrote May entry old
      → PushOutcome own peer (local_side word) id name out old new → Wrote (As word false) old new
  turn_wrote word id name outcome.Same old new listed before (at, same) = Wrote-none (As word false) old new same
  turn_wrote word id name outcome.BadRef old new listed before (at, same) = Wrote-none (As word false) old new same
  turn_wrote word id name (outcome.NotForward other) old new listed before told = Wrote-none (As word false) old new told.3
  turn_wrote word id name outcome.Pushed old new listed before (forward, is) = carried word id name old new listed before forward is
  turn_wrote word id name (outcome.DamagedCopy why) old new listed before (forward, refused) = objects word id name old new listed before new refused.put
  turn_wrote word id name outcome.Fetched old new listed before none = absurd none
  turn_wrote word id name outcome.Held old new listed before none = absurd none

  ref_wrote : (word : EntityWord) (id : Id) (listing : Option Name) (out : Outcome) (old new : History) → IsListed entry own word (record { id = id; head = listing }) → Wrote May entry old
      → PushOfRef own peer (local_side word) id listing out old new → Wrote (As word false) old new
  ref_wrote word id None out old new listed before none = absurd none
  ref_wrote word id (Some name) out old new listed before step = turn_wrote word id name out old new listed before step

  -- the writes of a turn
  pub push_turn_wrote : (word : EntityWord) (held : Bool) (turn : Turn) (old new : History) → IsListed entry own word turn.entity → Wrote May entry old → Pushes own peer (local_side word) held turn old new → Wrote (As word held) old new
  push_turn_wrote word true turn old new listed before step = Wrote-none (As word true) old new step.1
  push_turn_wrote word false turn old new listed before step = ref_wrote word turn.entity.id turn.entity.head turn.outcome old new listed before step

  cut_wrote : (word : EntityWord) (held : Bool) (id : Id) (listing : Option Name) (old new : History) → IsListed entry own word (record { id = id; head = listing }) → Wrote May entry old
      → PushCutOff own peer (local_side word) held id listing old new → Wrote (As word held) old new
  cut_wrote word true id listing old new listed before same = Wrote-none (As word true) old new same
  cut_wrote word false id None old new listed before same = Wrote-none (As word false) old new same
  cut_wrote word false id (Some name) old new listed before is = cut word id name old new listed before is

  bad_wrote : (word : EntityWord) (held : Bool) (id : Id) (listing : Option Name) (path : List ℕ) (old new : History) → IsBadLocal own peer (local_side word) held id listing path old new → Wrote (As word held) old new
  bad_wrote word true id listing path old new none = absurd none
  bad_wrote word false id None path old new (bad, same) = Wrote-none (As word false) old new same
  bad_wrote word false id (Some name) path old new none = absurd none

  -- and of what ended the call
  pub stop_wrote : (word : EntityWord) (held : Bool) (why : ReadStop) (entity : EntityRef) (old new : History) → IsListed entry own word entity → Wrote May entry old → PushStops own peer (local_side word) held why entity old new → Wrote (As word held) old new
  stop_wrote word held stop.Memory entity old new listed before is = cut_wrote word held entity.id entity.head old new listed before is
  stop_wrote word held stop.Disk entity old new listed before is = cut_wrote word held entity.id entity.head old new listed before is
  stop_wrote word held (stop.Damaged path) entity old new listed before is = bad_wrote word held entity.id entity.head path old new is

  pub push_wrote : (new : History) (result : Result (List Line) ReadStop) → PushAnswers own peer entry new result → Wrote May entry new
  push_wrote new result answers =
      exchange_wrote May verb.Push (λ (word : EntityWord). Pushes own peer (local_side word)) (λ (word : EntityWord). PushStops own peer (local_side word)) own entry
      (λ word held turn old new listed before step. wide word held old new (push_turn_wrote word held turn old new listed before step))
      (λ word held why entity old new listed before is. wide word held old new (stop_wrote word held why entity old new listed before is))
      new result answers
