-- What is printed of a world that a number makes.
use Rattle.std.specs.Prelude.{◌≡◌, ◌⊎◌, ◌+◌, ℕ, pos, Bool, IsTrue, List, [], Option, Some, None, codes}
use Rattle.std.specs.List.{AllZip, range_with_len}
use Rattle.gb_store.specs.Files.{History}
use Rattle.bug_run.specs.Printed.{Printed}
use Rattle.bug_run.specs.declared.status.Status.{Status}
use Rattle.bug_run.specs.declared.status.Status.TheVariants as status
use Rattle.world_events.specs.Events.{events_of}
use Rattle.world_events.specs.Exchange.{exchange_of}
use Rattle.world_texts.specs.Summary.{summary_of}
use Rattle.world_texts.specs.declared.asked.Asked.{Asked}
use Rattle.world_texts.specs.declared.tally.Digest.{Digest}
use Rattle.world_texts.specs.declared.tally.Tally.{Tally}
use Rattle.world.specs.Counts.{IsCounted}
use Rattle.world.specs.Digests.{IsDigest}
use Rattle.world.specs.Plays.{ArePlayed}
use Rattle.world.specs.declared.world.Ended.{Ended}
use Rattle.world.specs.declared.world.World.{World}

-- the digests of so many folders, in their order
abbrev pub AreDigests : History → ℕ → List Digest → Type 0
AreDigests history folders digests = AllZip (IsDigest history) (range_with_len 0 folders) digests

-- the counts of a world
abbrev pub tally_of : World → Tally
tally_of world = record { events = world.events; done = world.done; refused = world.refused; skipped = world.skipped }

-- the text of a world: its counts, and the digests of its folders
pub record IsSummary (world : World) (text : List ℕ) : Type 0 where
  pub digests : List Digest
  pub are : AreDigests world.store.history world.folders digests
  pub told : text ≡ summary_of (tally_of world) digests

-- the world that was asked for: its events are played on an empty store, and are counted; then the folders exchange in full
pub record IsWorld (asked : Asked) (world : World) : Type 0 where
  pub ends : List Ended
  pub mid : History
  pub played : ArePlayed (events_of asked.number asked.folders asked.events) ends [] mid
  pub counts : IsCounted ends world
  pub events : world.events ≡ asked.events
  pub folders : world.folders ≡ asked.folders
  pub pulls : List Ended
  pub exchanged : ArePlayed (exchange_of asked.folders (pos (1000000 + asked.events))) pulls mid world.store.history

-- the text of the world that was asked for
pub record IsTold (asked : Asked) (text : List ℕ) : Type 0 where
  pub world : World
  pub made : IsWorld asked world
  pub summary : IsSummary world text

-- the line that is printed where no world is asked for
abbrev pub usage_text : List ℕ
usage_text = codes "usage: gb_world NUMBER FOLDERS EVENTS\n"

-- what is printed and answered, by what is asked: the usage line, or the text of the world, unless memory ran out before
abbrev pub EndsFor : Option Asked → Bool → Bool → List ℕ → List ℕ → Status → Type 0
EndsFor None tells takes_memory before after answer = Printed tells takes_memory usage_text status.Usage before after answer
EndsFor (Some asked) tells takes_memory before after answer =
    ((text : List ℕ) × IsTold asked text × Printed tells takes_memory text status.Done before after answer)
    ⊎ ((answer ≡ status.Memory) × (IsTrue tells → after ≡ before))
