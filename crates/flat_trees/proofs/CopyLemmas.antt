-- What fetches, pulls and pushes write keeps the trees of folders flat.
use Rattle.std.proofs.Common.{inl, inr, refl, ◌∙◌, ap, ℕ, Bool, true, false, List, Contains, Option, None, Some, Result, Ok, Err, option_and_then}
use Rattle.gb_text.specs.declared.id.Id.{Id}
use Rattle.gb_text.specs.declared.id.Name.{Name}
use Rattle.gb_store.specs.Files.{Files, History, files_of}
use Rattle.gb_store.specs.Moments.{Wrote}
use Rattle.gb_store.specs.declared.store.Change.{Change}
use Rattle.gb_store.proofs.MomentLemmas.{Wrote-none, Wrote-one, Wrote-then, Wrote-wider}
use Rattle.git_object.specs.Reading.{object_of}
use Rattle.object_store.specs.Held.{Objects, objects_after}
use Rattle.object_store.specs.Typed.{as_tree}
use Rattle.remote_copy.specs.Writes.{PutsCopy}
use Rattle.remote_name.specs.declared.remote.RemoteName.{RemoteName}
use Rattle.repo_state.specs.declared.refs.EntityRef.{EntityRef}
use Rattle.repo_state.specs.declared.side.HeadEntry.{HeadEntry}
use Rattle.repo_state.specs.declared.side.Side.{Side}
use Rattle.repo_state.specs.declared.stop.ReadStop.{ReadStop}
use Rattle.repo_state.specs.declared.stop.ReadStop.TheVariants as stop
use Rattle.sync_steps.specs.Carrying.{IsCarried, IsCutOff, PutObjects, head_write}
use Rattle.sync_steps.specs.Fetching.{FetchAnswers, FetchCutOff, FetchOutcome, FetchStops, Fetches, IsBadTracking}
use Rattle.sync_steps.specs.Places.{local_side, tracking_side}
use Rattle.sync_steps.specs.Pushing.{IsBadLocal, IsPushCut, PushAnswers, PushCutOff, PushOfRef, PushOutcome, PushStops, Pushes}
use Rattle.sync_steps.specs.Turns.{Turn}
use Rattle.sync_steps.specs.declared.line.EntityWord.{EntityWord}
use Rattle.sync_steps.specs.declared.line.Exchange.TheVariants as verb
use Rattle.sync_steps.specs.declared.line.Line.{Line}
use Rattle.sync_steps.specs.declared.line.Outcome.{Outcome}
use Rattle.sync_steps.specs.declared.line.Outcome.TheVariants as outcome
use Rattle.sync_steps.proofs.WriteLemmas.{exchange_wrote}
use Rattle.merge_steps.specs.Pulling.{PullAnswers}
use Rattle.merge_steps.specs.declared.line.Pulled.{Pulled}
use Rattle.merge_steps.specs.declared.stop.MergeStop.{MergeStop}
use Rattle.merge_steps.proofs.MergeWriteLemmas.{not_begun_same}
use Rattle.bug_run.specs.Runs.{AreApart}
use Rattle.flat_trees.proofs.KeepLemmas.{KeepsFlat, ref_keeps, text_keeps}
use Rattle.flat_trees.proofs.MergeLemmas.{merge_keeps}

module _ (folders : List (List ℕ)) (apart : AreApart folders) where
  abbrev May : Files → Change → Type 0
  May = KeepsFlat folders

  -- ---- a head that is copied

  module _ (closed : Bool) (source target : List ℕ) (from : Contains folders source) (into : Contains folders target) where
    -- a tree that is copied is one that the source holds
    copy_keeps : (entry : Objects) (head : Name) (files : Files) (change : Change) → PutsCopy closed source target entry head files change → May files change
    copy_keeps entry head files change puts =
        text_keeps folders files change puts.text (ap (λ (c : Change). c.bytes) puts.write)
        (λ all tree reads. all source from puts.name tree (ap (λ (o : Option (List ℕ)). option_and_then as_tree (option_and_then object_of o)) puts.held ∙ ap (option_and_then as_tree) reads))

    put_wrote : (head : HeadEntry) (old mid : History) → PutObjects closed source target head old mid → Wrote May old mid
    put_wrote head old mid put = Wrote-wider (PutsCopy closed source target (objects_after old target) head.name) May old mid (copy_keeps (objects_after old target) head.name) put

    carried : (to : Side) (head : HeadEntry) (old new : History) → IsCarried closed source target to head old new → Wrote May old new
    carried to head old new is =
        Wrote-then May old is.mid new (put_wrote head old is.mid is.put)
        (Wrote-one May (head_write target to head) is.mid new
        (ref_keeps folders apart target into (files_of is.mid) (head_write target to head) to head.id head.name refl) (inr is.set))

    cut_off : (to : Side) (head : HeadEntry) (old new : History) → IsCutOff closed source target to head old new → Wrote May old new
    cut_off to head old new (inl put) = put_wrote head old new put
    cut_off to head old new (inr is) = carried to head old new is

  -- ---- fetches

  module _ (own peer : List ℕ) (into : Contains folders own) (from : Contains folders peer) where
    fetch_turn : (to : Side) (id : Id) (listing : Option Name) (out : Outcome) (old new : History) → FetchOutcome own peer to id listing out old new → Wrote May old new
    fetch_turn to id None outcome.BadRef old new same = Wrote-none May old new same
    fetch_turn to id None outcome.Fetched old new none = absurd none
    fetch_turn to id None outcome.Pushed old new none = absurd none
    fetch_turn to id None outcome.Same old new none = absurd none
    fetch_turn to id None (outcome.DamagedCopy why) old new none = absurd none
    fetch_turn to id None (outcome.NotForward other) old new none = absurd none
    fetch_turn to id None outcome.Held old new none = absurd none
    fetch_turn to id (Some name) outcome.Same old new is = Wrote-none May old new is.1
    fetch_turn to id (Some name) outcome.Fetched old new is = carried true peer own from into to (record { id = id; name = name }) old new is.1
    fetch_turn to id (Some name) (outcome.DamagedCopy why) old new is = put_wrote true peer own from into (record { id = id; name = name }) old new is.1.put
    fetch_turn to id (Some name) outcome.BadRef old new none = absurd none
    fetch_turn to id (Some name) outcome.Pushed old new none = absurd none
    fetch_turn to id (Some name) (outcome.NotForward other) old new none = absurd none
    fetch_turn to id (Some name) outcome.Held old new none = absurd none

    fetch_cut : (to : Side) (id : Id) (listing : Option Name) (old new : History) → FetchCutOff own peer to id listing old new → Wrote May old new
    fetch_cut to id None old new same = Wrote-none May old new same
    fetch_cut to id (Some name) old new (inl same) = Wrote-none May old new same
    fetch_cut to id (Some name) old new (inr is) = cut_off true peer own from into to (record { id = id; name = name }) old new is.1

    fetch_bad : (to : Side) (id : Id) (listing : Option Name) (path : List ℕ) (old new : History) → IsBadTracking own peer to id listing path old new → Wrote May old new
    fetch_bad to id None path old new none = absurd none
    fetch_bad to id (Some name) path old new is = Wrote-none May old new is.1

    fetch_stop : (to : Side) (why : ReadStop) (entity : EntityRef) (old new : History) → FetchStops own peer to why entity old new → Wrote May old new
    fetch_stop to stop.Memory entity old new is = fetch_cut to entity.id entity.head old new is
    fetch_stop to stop.Disk entity old new is = fetch_cut to entity.id entity.head old new is
    fetch_stop to (stop.Damaged path) entity old new is = fetch_bad to entity.id entity.head path old new is

    pub fetch_keeps : (remote : RemoteName) (old new : History) (result : Result (List Line) ReadStop) → FetchAnswers own peer remote old new result → Wrote May old new
    fetch_keeps remote old new result answers =
        exchange_wrote May verb.Fetch (λ (word : EntityWord) (held : Bool). Fetches own peer (tracking_side remote word)) (λ (word : EntityWord) (held : Bool). FetchStops own peer (tracking_side remote word)) peer old
        (λ word held turn before after listed so_far step. fetch_turn (tracking_side remote word) turn.entity.id turn.entity.head turn.outcome before after step)
        (λ word held why entity before after listed so_far is. fetch_stop (tracking_side remote word) why entity before after is)
        new result answers

    -- and the merge behind one
    pub pull_keeps : (remote : RemoteName) (now : ℕ) (old new : History) (result : Result Pulled MergeStop) → PullAnswers own peer remote now old new result → Wrote May old new
    pull_keeps remote now old new (Ok pulled) is =
        Wrote-then May old is.mid new (fetch_keeps remote old is.mid (Ok pulled.fetched) is.first) (merge_keeps folders apart own into remote now is.mid new (Ok pulled.merged) is.then)
    pull_keeps remote now old new (Err why) (inl none) = Wrote-none May old new (not_begun_same own remote now why old new none)
    pull_keeps remote now old new (Err why) (inr (inl by)) = fetch_keeps remote old new (Err by.stop) by.ended
    pull_keeps remote now old new (Err why) (inr (inr (fetched, is))) =
        Wrote-then May old is.mid new (fetch_keeps remote old is.mid (Ok fetched) is.first) (merge_keeps folders apart own into remote now is.mid new (Err why) is.then)

  -- ---- pushes

  module _ (own peer : List ℕ) (from : Contains folders own) (into : Contains folders peer) where
    push_turn : (of : Side) (id : Id) (name : Name) (out : Outcome) (old new : History) → PushOutcome own peer of id name out old new → Wrote May old new
    push_turn of id name outcome.Same old new is = Wrote-none May old new is.1
    push_turn of id name outcome.BadRef old new is = Wrote-none May old new is.1
    push_turn of id name (outcome.NotForward other) old new is = Wrote-none May old new is.3
    push_turn of id name outcome.Pushed old new is = carried false own peer from into of (record { id = id; name = name }) old new is.1
    push_turn of id name (outcome.DamagedCopy why) old new is = put_wrote false own peer from into (record { id = id; name = name }) old new is.1.put
    push_turn of id name outcome.Fetched old new none = absurd none
    push_turn of id name outcome.Held old new none = absurd none

    push_ref : (of : Side) (id : Id) (listing : Option Name) (out : Outcome) (old new : History) → PushOfRef own peer of id listing out old new → Wrote May old new
    push_ref of id None out old new none = absurd none
    push_ref of id (Some name) out old new is = push_turn of id name out old new is

    push_step : (of : Side) (held : Bool) (turn : Turn) (old new : History) → Pushes own peer of held turn old new → Wrote May old new
    push_step of true turn old new is = Wrote-none May old new is.1
    push_step of false turn old new is = push_ref of turn.entity.id turn.entity.head turn.outcome old new is

    push_head : (of : Side) (head : HeadEntry) (old new : History) → IsPushCut own peer of head old new → Wrote May old new
    push_head of head old new (inl same) = Wrote-none May old new same
    push_head of head old new (inr is) = cut_off false own peer from into of head old new is.1

    push_cut : (of : Side) (held : Bool) (id : Id) (listing : Option Name) (old new : History) → PushCutOff own peer of held id listing old new → Wrote May old new
    push_cut of true id listing old new same = Wrote-none May old new same
    push_cut of false id None old new same = Wrote-none May old new same
    push_cut of false id (Some name) old new is = push_head of (record { id = id; name = name }) old new is

    push_bad : (of : Side) (held : Bool) (id : Id) (listing : Option Name) (path : List ℕ) (old new : History) → IsBadLocal own peer of held id listing path old new → Wrote May old new
    push_bad of true id listing path old new none = absurd none
    push_bad of false id None path old new is = Wrote-none May old new is.1
    push_bad of false id (Some name) path old new none = absurd none

    push_stop : (of : Side) (held : Bool) (why : ReadStop) (entity : EntityRef) (old new : History) → PushStops own peer of held why entity old new → Wrote May old new
    push_stop of held stop.Memory entity old new is = push_cut of held entity.id entity.head old new is
    push_stop of held stop.Disk entity old new is = push_cut of held entity.id entity.head old new is
    push_stop of held (stop.Damaged path) entity old new is = push_bad of held entity.id entity.head path old new is

    pub push_keeps : (old new : History) (result : Result (List Line) ReadStop) → PushAnswers own peer old new result → Wrote May old new
    push_keeps old new result answers =
        exchange_wrote May verb.Push (λ (word : EntityWord). Pushes own peer (local_side word)) (λ (word : EntityWord). PushStops own peer (local_side word)) own old
        (λ word held turn before after listed so_far step. push_step (local_side word) held turn before after step)
        (λ word held why entity before after listed so_far is. push_stop (local_side word) held why entity before after is)
        new result answers
