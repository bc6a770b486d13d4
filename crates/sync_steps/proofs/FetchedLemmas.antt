-- What a fetch and a push set.
use Rattle.std.proofs.Common.{◌≡◌, ◌⊎◌, inl, inr, refl, ◌∙◌, ap, ℕ, Bool, true, false, List, Contains, Option, Some, None}
use Rattle.gb_text.specs.Digits.{IsName}
use Rattle.gb_text.specs.declared.id.Id.{Id}
use Rattle.gb_text.specs.declared.id.Name.{Name}
use Rattle.gb_store.specs.Files.{Files, History, files_of, written}
use Rattle.object_store.specs.Held.{objects_after}
use Rattle.ref_store.specs.Refs.{Head}
use Rattle.ref_store.specs.Setting.{ref_write}
use Rattle.ref_store.proofs.MapLemmas.{set_ref_reads}
use Rattle.repo_state.specs.Sides.{head_at, ref_place}
use Rattle.remote_name.specs.declared.remote.RemoteName.{RemoteName}
use Rattle.repo_state.specs.declared.side.Side.{Side}
use Rattle.sync_steps.specs.Fetching.{FetchOutcome, FetchStops, Fetches}
use Rattle.sync_steps.specs.Places.{local_side, tracking_side}
use Rattle.sync_steps.specs.Pushing.{PushOfRef, PushOutcome, PushStops, Pushes}
use Rattle.sync_steps.specs.Turns.{IsDone, Turn}
use Rattle.sync_steps.specs.declared.line.EntityWord.{EntityWord}
use Rattle.sync_steps.specs.declared.line.Exchange.TheVariants as verb
use Rattle.sync_steps.specs.declared.line.Line.{Line}
use Rattle.sync_steps.specs.declared.line.Outcome.{Outcome}
use Rattle.sync_steps.specs.declared.line.Outcome.TheVariants as outcome
use Rattle.sync_steps.proofs.SetLemmas.{id_of, puts_leave}
use Rattle.sync_steps.proofs.TurnLemmas.{refs_are_same}

-- ---- fetches

module _ (own peer : List ℕ) (to : Side) where
  -- a turn of an entity keeps each head, but where it fetched only those that the write of its tracking ref leaves
  pub turn_keeps : (of : Side) (id mine : Id) (head : Option Name) (out : Outcome) (old new : History) → (out ≡ outcome.Fetched → (name : Name) (files : Files) → head_at (written files (ref_write own (ref_place to mine) name)) own of id ≡ head_at files own of id)
      → FetchOutcome own peer to mine head out old new → head_at (files_of new) own of id ≡ head_at (files_of old) own of id
  turn_keeps of id mine None outcome.BadRef old new apart same = ap (λ (h : History). head_at (files_of h) own of id) same
  turn_keeps of id mine None outcome.Fetched old new apart none = absurd none
  turn_keeps of id mine None outcome.Pushed old new apart none = absurd none
  turn_keeps of id mine None outcome.Same old new apart none = absurd none
  turn_keeps of id mine None (outcome.DamagedCopy why) old new apart none = absurd none
  turn_keeps of id mine None (outcome.NotForward other) old new apart none = absurd none
  turn_keeps of id mine None outcome.Held old new apart none = absurd none
  turn_keeps of id mine (Some name) outcome.Same old new apart (is, same) = ap (λ (h : History). head_at (files_of h) own of id) same
  turn_keeps of id mine (Some name) outcome.Fetched old new apart (other, carried) =
      ap (λ (h : History). head_at (files_of h) own of id) carried.set
      ∙ apart refl name (files_of carried.mid)
      ∙ puts_leave true peer own (objects_after old own) name of id old carried.mid carried.put
  turn_keeps of id mine (Some name) (outcome.DamagedCopy why) old new apart (other, refused) = puts_leave true peer own (objects_after old own) name of id old new refused.put
  turn_keeps of id mine (Some name) outcome.BadRef old new apart none = absurd none
  turn_keeps of id mine (Some name) outcome.Pushed old new apart none = absurd none
  turn_keeps of id mine (Some name) (outcome.NotForward other) old new apart none = absurd none
  turn_keeps of id mine (Some name) outcome.Held old new apart none = absurd none

  -- so it leaves each head but that of its own tracking ref
  pub turn_leaves : (of : Side) (id mine : Id) (head : Option Name) (out : Outcome) (old new : History) → ((name : Name) (files : Files) → head_at (written files (ref_write own (ref_place to mine) name)) own of id ≡ head_at files own of id)
      → FetchOutcome own peer to mine head out old new → head_at (files_of new) own of id ≡ head_at (files_of old) own of id
  turn_leaves of id mine head out old new apart step = turn_keeps of id mine head out old new (λ is. apart) step

  -- a turn that fetched, or found both the same: the tracking ref has the head
  turn_sets : (mine : Id) (head : Option Name) (out : Outcome) (old new : History) → ((name : Name) → head ≡ Some name → IsName name) → (out ≡ outcome.Fetched) ⊎ (out ≡ outcome.Same)
      → FetchOutcome own peer to mine head out old new → (name : Name) × (head ≡ Some name) × (head_at (files_of new) own to mine ≡ Head name)
  turn_sets mine (Some name) outcome.Same old new named is (at, same) = (name, refl, ap (λ (h : History). head_at (files_of h) own to mine) same ∙ at)
  turn_sets mine (Some name) outcome.Fetched old new named is (other, carried) =
      (name, refl, ap (λ (h : History). head_at (files_of h) own to mine) carried.set ∙ set_ref_reads (files_of carried.mid) own (ref_place to mine) name (named name refl))
  turn_sets mine (Some name) (outcome.DamagedCopy why) old new named (inl e) step = absurd cc
  turn_sets mine (Some name) (outcome.DamagedCopy why) old new named (inr e) step = absurd cc
  turn_sets mine (Some name) outcome.BadRef old new named is none = absurd none
  turn_sets mine (Some name) outcome.Pushed old new named is none = absurd none
  turn_sets mine (Some name) (outcome.NotForward other) old new named is none = absurd none
  turn_sets mine (Some name) outcome.Held old new named is none = absurd none
  turn_sets mine None outcome.BadRef old new named (inl e) step = absurd cc
  turn_sets mine None outcome.BadRef old new named (inr e) step = absurd cc
  turn_sets mine None outcome.Fetched old new named is none = absurd none
  turn_sets mine None outcome.Pushed old new named is none = absurd none
  turn_sets mine None outcome.Same old new named is none = absurd none
  turn_sets mine None (outcome.DamagedCopy why) old new named is none = absurd none
  turn_sets mine None (outcome.NotForward other) old new named is none = absurd none
  turn_sets mine None outcome.Held old new named is none = absurd none

module _ (own peer : List ℕ) (remote : RemoteName) (old new : History) (lines : List Line)
    (done : IsDone verb.Fetch (λ (word : EntityWord) (held : Bool). Fetches own peer (tracking_side remote word)) (λ (word : EntityWord) (held : Bool). FetchStops own peer (tracking_side remote word)) peer lines old new) where
  pub fetched_stands : (line : Line) → Contains lines line → (line.outcome ≡ outcome.Fetched) ⊎ (line.outcome ≡ outcome.Same)
      → (name : Name) × (head_at (files_of old) peer (local_side line.word) line.id ≡ Head name) × (head_at (files_of new) own (tracking_side remote line.word) line.id ≡ Head name)
  fetched_stands = refs_are_same verb.Fetch (λ (word : EntityWord) (held : Bool). Fetches own peer (tracking_side remote word)) (λ (word : EntityWord) (held : Bool). FetchStops own peer (tracking_side remote word))
      peer own (tracking_side remote) (λ (out : Outcome). (out ≡ outcome.Fetched) ⊎ (out ≡ outcome.Same)) (λ e. cc)
      (λ word held turn of id old new apart step. turn_leaves own peer (tracking_side remote word) of id (id_of turn) turn.entity.head turn.outcome old new apart step)
      (λ word held turn old new named is step. turn_sets own peer (tracking_side remote word) (id_of turn) turn.entity.head turn.outcome old new named is step)
      old new lines done

-- ---- pushes

module _ (own peer : List ℕ) (of : Side) where
  -- a turn of an entity keeps each head of the peer, but where it pushed only those that the write of its own ref leaves
  push_keeps : (on : Side) (id mine : Id) (name : Name) (out : Outcome) (old new : History) → (out ≡ outcome.Pushed → (name : Name) (files : Files) → head_at (written files (ref_write peer (ref_place of mine) name)) peer on id ≡ head_at files peer on id)
      → PushOutcome own peer of mine name out old new → head_at (files_of new) peer on id ≡ head_at (files_of old) peer on id
  push_keeps on id mine name outcome.Same old new apart (at, same) = ap (λ (h : History). head_at (files_of h) peer on id) same
  push_keeps on id mine name outcome.BadRef old new apart (at, same) = ap (λ (h : History). head_at (files_of h) peer on id) same
  push_keeps on id mine name (outcome.NotForward other) old new apart told = ap (λ (h : History). head_at (files_of h) peer on id) told.3
  push_keeps on id mine name outcome.Pushed old new apart (forward, carried) =
      ap (λ (h : History). head_at (files_of h) peer on id) carried.set
      ∙ apart refl name (files_of carried.mid)
      ∙ puts_leave false own peer (objects_after old peer) name on id old carried.mid carried.put
  push_keeps on id mine name (outcome.DamagedCopy why) old new apart (forward, refused) = puts_leave false own peer (objects_after old peer) name on id old new refused.put
  push_keeps on id mine name outcome.Fetched old new apart none = absurd none
  push_keeps on id mine name outcome.Held old new apart none = absurd none

  pub pushes_keep : (held : Bool) (turn : Turn) (on : Side) (id : Id) (old new : History) → (turn.outcome ≡ outcome.Pushed → (name : Name) (files : Files) → head_at (written files (ref_write peer (ref_place of (id_of turn)) name)) peer on id ≡ head_at files peer on id)
      → Pushes own peer of held turn old new → head_at (files_of new) peer on id ≡ head_at (files_of old) peer on id
  pushes_keep true turn on id old new apart step = ap (λ (h : History). head_at (files_of h) peer on id) step.1
  pushes_keep false turn on id old new apart step = by turn.entity.head step
    where
      by : (head : Option Name) → PushOfRef own peer of (id_of turn) head turn.outcome old new → head_at (files_of new) peer on id ≡ head_at (files_of old) peer on id
      by None none = absurd none
      by (Some name) step = push_keeps on id (id_of turn) name turn.outcome old new apart step

  -- so it leaves each head of the peer but that of its own ref
  pub pushes_leave : (held : Bool) (turn : Turn) (on : Side) (id : Id) (old new : History) → ((name : Name) (files : Files) → head_at (written files (ref_write peer (ref_place of (id_of turn)) name)) peer on id ≡ head_at files peer on id)
      → Pushes own peer of held turn old new → head_at (files_of new) peer on id ≡ head_at (files_of old) peer on id
  pushes_leave held turn on id old new apart step = pushes_keep held turn on id old new (λ is. apart) step

  -- a turn that pushed, or found both the same: the peer's ref has the head
  pub push_sets : (mine : Id) (name : Name) (out : Outcome) (old new : History) → IsName name → (out ≡ outcome.Pushed) ⊎ (out ≡ outcome.Same) → PushOutcome own peer of mine name out old new → head_at (files_of new) peer of mine ≡ Head name
  push_sets mine name outcome.Same old new named is (at, same) = ap (λ (h : History). head_at (files_of h) peer of mine) same ∙ at
  push_sets mine name outcome.Pushed old new named is (forward, carried) =
      ap (λ (h : History). head_at (files_of h) peer of mine) carried.set ∙ set_ref_reads (files_of carried.mid) peer (ref_place of mine) name named
  push_sets mine name outcome.BadRef old new named (inl e) step = absurd cc
  push_sets mine name outcome.BadRef old new named (inr e) step = absurd cc
  push_sets mine name (outcome.NotForward other) old new named (inl e) step = absurd cc
  push_sets mine name (outcome.NotForward other) old new named (inr e) step = absurd cc
  push_sets mine name (outcome.DamagedCopy why) old new named (inl e) step = absurd cc
  push_sets mine name (outcome.DamagedCopy why) old new named (inr e) step = absurd cc
  push_sets mine name outcome.Fetched old new named is none = absurd none
  push_sets mine name outcome.Held old new named is none = absurd none

  held_sets : (out : Outcome) → out ≡ outcome.Held → (out ≡ outcome.Pushed) ⊎ (out ≡ outcome.Same) → ⊥
  held_sets out held (inl e) = cc
  held_sets out held (inr e) = cc

  pushes_set : (held : Bool) (turn : Turn) (old new : History) → ((name : Name) → turn.entity.head ≡ Some name → IsName name) → (turn.outcome ≡ outcome.Pushed) ⊎ (turn.outcome ≡ outcome.Same)
      → Pushes own peer of held turn old new → (name : Name) × (turn.entity.head ≡ Some name) × (head_at (files_of new) peer of (id_of turn) ≡ Head name)
  pushes_set true turn old new named is step = absurd (held_sets turn.outcome step.0 is)
  pushes_set false turn old new named is step = by turn.entity.head refl step
    where
      by : (head : Option Name) → turn.entity.head ≡ head → PushOfRef own peer of (id_of turn) head turn.outcome old new → (name : Name) × (turn.entity.head ≡ Some name) × (head_at (files_of new) peer of (id_of turn) ≡ Head name)
      by None at none = absurd none
      by (Some name) at step = (name, at, push_sets (id_of turn) name turn.outcome old new (named name at) is step)

module _ (own peer : List ℕ) (old new : History) (lines : List Line)
    (done : IsDone verb.Push (λ (word : EntityWord). Pushes own peer (local_side word)) (λ (word : EntityWord). PushStops own peer (local_side word)) own lines old new) where
  pub pushed_stands : (line : Line) → Contains lines line → (line.outcome ≡ outcome.Pushed) ⊎ (line.outcome ≡ outcome.Same)
      → (name : Name) × (head_at (files_of old) own (local_side line.word) line.id ≡ Head name) × (head_at (files_of new) peer (local_side line.word) line.id ≡ Head name)
  pushed_stands = refs_are_same verb.Push (λ (word : EntityWord). Pushes own peer (local_side word)) (λ (word : EntityWord). PushStops own peer (local_side word))
      own peer local_side (λ (out : Outcome). (out ≡ outcome.Pushed) ⊎ (out ≡ outcome.Same)) (λ e. cc)
      (λ word held turn on id old new apart step. pushes_leave own peer (local_side word) held turn on id old new apart step)
      (λ word held turn old new named is step. pushes_set own peer (local_side word) held turn old new named is step)
      old new lines done
