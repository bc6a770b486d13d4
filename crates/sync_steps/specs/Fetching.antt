-- What a fetch does with an entity of the peer.
use Rattle.std.specs.Prelude.{◌≡◌, ◌≢◌, ◌⊎◌, ⊤, ℕ, true, List, Option, Some, None, Result, Ok, Err}
use Rattle.gb_text.specs.declared.id.Id.{Id}
use Rattle.gb_text.specs.declared.id.Name.{Name}
use Rattle.gb_store.specs.Files.{History, files_of}
use Rattle.ref_store.specs.Refs.{Ref, Absent, Head, Bad}
use Rattle.repo_state.specs.Sides.{IsBadRef, head_at}
use Rattle.repo_state.specs.declared.refs.EntityRef.{EntityRef}
use Rattle.remote_name.specs.declared.remote.RemoteName.{RemoteName}
use Rattle.repo_state.specs.declared.side.Side.{Side}
use Rattle.repo_state.specs.declared.stop.ReadStop.{ReadStop}
use Rattle.repo_state.specs.declared.stop.ReadStop.TheVariants as stop
use Rattle.sync_steps.specs.Carrying.{IsCarried, IsCutOff, IsRefused}
use Rattle.sync_steps.specs.Places.{tracking_side}
use Rattle.sync_steps.specs.Turns.{ExchangeAnswers, Turn}
use Rattle.sync_steps.specs.declared.line.Exchange.TheVariants as verb
use Rattle.sync_steps.specs.declared.line.Line.{Line}
use Rattle.sync_steps.specs.declared.line.Outcome.{Outcome}
use Rattle.sync_steps.specs.declared.line.Outcome.TheVariants as outcome

-- a ref has another head, or none
abbrev pub IsOther : Ref → Name → Type 0
IsOther Absent name = ⊤
IsOther (Head other) name = other ≢ name
IsOther Bad name = ⊥

module _ (own peer : List ℕ) (to : Side) where
  -- what came of an entity with this id, where the peer's ref has this head, or is no ref text; its tracking ref stands on that side
  abbrev pub FetchOutcome : Id → Option Name → Outcome → History → History → Type 0
  FetchOutcome id None outcome.BadRef old new = new ≡ old
  FetchOutcome id (Some name) outcome.Same old new = (head_at (files_of old) own to id ≡ Head name) × (new ≡ old)
  FetchOutcome id (Some name) outcome.Fetched old new =
      IsOther (head_at (files_of old) own to id) name × IsCarried true peer own to (record { id = id; name = name }) old new
  FetchOutcome id (Some name) (outcome.DamagedCopy why) old new =
      IsOther (head_at (files_of old) own to id) name × IsRefused true peer own (record { id = id; name = name }) why old new
  FetchOutcome id head _ old new = ⊥

  -- the turn of an entity
  abbrev pub Fetches : Turn → History → History → Type 0
  Fetches turn old new = FetchOutcome turn.entity.id turn.entity.head turn.outcome old new

  -- what was written where memory ran out, or the disk failed: nothing where the tracking ref has the head
  abbrev pub FetchCutOff : Id → Option Name → History → History → Type 0
  FetchCutOff id None old new = new ≡ old
  FetchCutOff id (Some name) old new =
      (new ≡ old) ⊎ (IsOther (head_at (files_of old) own to id) name × IsCutOff true peer own to (record { id = id; name = name }) old new)

  -- the tracking ref, at this path, is no ref text, where the peer's is one
  abbrev pub IsBadTracking : Id → Option Name → List ℕ → History → History → Type 0
  IsBadTracking id None path old new = ⊥
  IsBadTracking id (Some name) path old new = IsBadRef (files_of old) own to id path × (new ≡ old)

  -- where a call ended
  abbrev pub FetchStops : ReadStop → EntityRef → History → History → Type 0
  FetchStops stop.Memory entity old new = FetchCutOff entity.id entity.head old new
  FetchStops stop.Disk entity old new = FetchCutOff entity.id entity.head old new
  FetchStops (stop.Damaged path) entity old new = IsBadTracking entity.id entity.head path old new

  -- the answer to the fetch of an entity
  abbrev pub OneFetched : EntityRef → History → History → Result Outcome ReadStop → Type 0
  OneFetched entity old new (Ok outcome) = FetchOutcome entity.id entity.head outcome old new
  OneFetched entity old new (Err why) = FetchStops why entity old new

-- The answer to a fetch, over all refs of the peer.
abbrev pub FetchAnswers : List ℕ → List ℕ → RemoteName → History → History → Result (List Line) ReadStop → Type 0
FetchAnswers own peer remote old new result =
    ExchangeAnswers verb.Fetch (λ word held. Fetches own peer (tracking_side remote word)) (λ word held. FetchStops own peer (tracking_side remote word)) peer old new result
