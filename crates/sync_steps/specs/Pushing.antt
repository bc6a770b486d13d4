-- What a push does with an entity of the own folder.
use Rattle.std.specs.Prelude.{◌≡◌, ◌≢◌, ◌⊎◌, ⊤, ℕ, Bool, true, false, List, [], ◌∷◌, Option, Some, None, Result, Ok, Err}
use Rattle.gb_text.specs.Folder.{joined}
use Rattle.gb_text.specs.declared.id.Id.{Id}
use Rattle.gb_text.specs.declared.id.Name.{Name}
use Rattle.gb_store.specs.Files.{History, files_of}
use Rattle.gb_store.specs.declared.fault.StoreFault.{StoreFault}
use Rattle.commit_walk.specs.Below.{IsBelow}
use Rattle.object_store.specs.Held.{Objects, objects_after}
use Rattle.ref_store.specs.Refs.{Ref, Absent, Head, Bad}
use Rattle.repo_state.specs.Sides.{head_at, ref_place}
use Rattle.repo_state.specs.declared.refs.EntityRef.{EntityRef}
use Rattle.repo_state.specs.declared.side.HeadEntry.{HeadEntry}
use Rattle.repo_state.specs.declared.side.Side.{Side}
use Rattle.repo_state.specs.declared.stop.ReadStop.{ReadStop}
use Rattle.repo_state.specs.declared.stop.ReadStop.TheVariants as stop
use Rattle.sync_steps.specs.Carrying.{IsCarried, IsCutOff, IsRefused}
use Rattle.sync_steps.specs.Places.{local_side}
use Rattle.sync_steps.specs.Turns.{ExchangeAnswers, Turn}
use Rattle.sync_steps.specs.declared.line.Exchange.TheVariants as verb
use Rattle.sync_steps.specs.declared.line.Line.{Line}
use Rattle.sync_steps.specs.declared.line.Outcome.{Outcome}
use Rattle.sync_steps.specs.declared.line.Outcome.TheVariants as outcome

-- the peer's ref has another head, which lies below the local one, or does not stand
abbrev pub IsForward : Objects → Ref → Name → Type 0
IsForward objects Absent name = ⊤
IsForward objects (Head other) name = (other ≢ name) × IsBelow objects (name ∷ []) other
IsForward objects Bad name = ⊥

-- what comes of a head by what the peer's ref has; nothing is settled where it goes forward there
abbrev pub ForwardAnswers : Objects → Ref → Name → Result (Option Outcome) StoreFault → Type 0
ForwardAnswers objects ref name (Ok None) = IsForward objects ref name
ForwardAnswers objects ref name (Ok (Some outcome.Same)) = ref ≡ Head name
ForwardAnswers objects ref name (Ok (Some outcome.BadRef)) = ref ≡ Bad
ForwardAnswers objects ref name (Ok (Some (outcome.NotForward other))) = (ref ≡ Head other) × (other ≢ name) × (IsBelow objects (name ∷ []) other → ⊥)
ForwardAnswers objects ref name (Ok (Some _)) = ⊥
ForwardAnswers objects ref name (Err fault) = ⊤

module _ (own peer : List ℕ) (of : Side) where
  -- what came of an entity with this id, where the local ref has this head
  abbrev pub PushOutcome : Id → Name → Outcome → History → History → Type 0
  PushOutcome id name outcome.Same old new = (head_at (files_of old) peer of id ≡ Head name) × (new ≡ old)
  PushOutcome id name outcome.BadRef old new = (head_at (files_of old) peer of id ≡ Bad) × (new ≡ old)
  PushOutcome id name (outcome.NotForward other) old new =
      (head_at (files_of old) peer of id ≡ Head other) × (other ≢ name)
      × (IsBelow (objects_after old own) (name ∷ []) other → ⊥) × (new ≡ old)
  PushOutcome id name outcome.Pushed old new =
      IsForward (objects_after old own) (head_at (files_of old) peer of id) name × IsCarried false own peer of (record { id = id; name = name }) old new
  PushOutcome id name (outcome.DamagedCopy why) old new =
      IsForward (objects_after old own) (head_at (files_of old) peer of id) name × IsRefused false own peer (record { id = id; name = name }) why old new
  PushOutcome id name _ old new = ⊥

  -- the same of a local ref that may be no ref text: nothing comes of that
  abbrev pub PushOfRef : Id → Option Name → Outcome → History → History → Type 0
  PushOfRef id None outcome old new = ⊥
  PushOfRef id (Some name) outcome old new = PushOutcome id name outcome old new

  -- the turn of an entity; of one that is held nothing is looked at
  abbrev pub Pushes : Bool → Turn → History → History → Type 0
  Pushes true turn old new = (turn.outcome ≡ outcome.Held) × (new ≡ old)
  Pushes false turn old new = PushOfRef turn.entity.id turn.entity.head turn.outcome old new

  -- what was written of a head where memory ran out, or the disk failed: nothing where it does not go forward in the peer
  abbrev pub IsPushCut : HeadEntry → History → History → Type 0
  IsPushCut head old new =
      (new ≡ old) ⊎ (IsForward (objects_after old own) (head_at (files_of old) peer of head.id) head.name × IsCutOff false own peer of head old new)

  -- the same of an entity
  abbrev pub PushCutOff : Bool → Id → Option Name → History → History → Type 0
  PushCutOff true id head old new = new ≡ old
  PushCutOff false id None old new = new ≡ old
  PushCutOff false id (Some name) old new = IsPushCut (record { id = id; name = name }) old new

  -- the local ref, at this path, is no ref text
  abbrev pub IsBadLocal : Bool → Id → Option Name → List ℕ → History → History → Type 0
  IsBadLocal true id head path old new = ⊥
  IsBadLocal false id None path old new = (path ≡ joined own (ref_place of id)) × (new ≡ old)
  IsBadLocal false id (Some name) path old new = ⊥

  -- where a call ended
  abbrev pub PushStops : Bool → ReadStop → EntityRef → History → History → Type 0
  PushStops held stop.Memory entity old new = PushCutOff held entity.id entity.head old new
  PushStops held stop.Disk entity old new = PushCutOff held entity.id entity.head old new
  PushStops held (stop.Damaged path) entity old new = IsBadLocal held entity.id entity.head path old new

  -- the answer to the push of an entity
  abbrev pub OnePushed : Bool → EntityRef → History → History → Result Outcome ReadStop → Type 0
  OnePushed held entity old new (Ok outcome) = Pushes held (record { entity = entity; outcome = outcome }) old new
  OnePushed held entity old new (Err why) = PushStops held why entity old new

  -- the answer to the push of a head
  abbrev pub HeadPushed : HeadEntry → History → History → Result Outcome StoreFault → Type 0
  HeadPushed head old new (Ok outcome) = PushOutcome head.id head.name outcome old new
  HeadPushed head old new (Err fault) = IsPushCut head old new

-- The answer to a push, over all refs of the own folder.
abbrev pub PushAnswers : List ℕ → List ℕ → History → History → Result (List Line) ReadStop → Type 0
PushAnswers own peer old new result =
    ExchangeAnswers verb.Push (λ word. Pushes own peer (local_side word)) (λ word. PushStops own peer (local_side word)) own old new result
