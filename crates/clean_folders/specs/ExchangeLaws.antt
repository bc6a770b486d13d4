-- What holds of full exchanges among the folders of a world.
use Rattle.std.specs.Prelude.{◌≡◌, ◌<◌, ◌≤◌, ◌+◌, ◌++◌, [], ℕ, ℤ, List, codes, pos}
use Rattle.std.specs.List.{zip}
use Rattle.gb_store.specs.Files.{History, files_of}
use Rattle.gb_store.specs.Turns.{InTurn}
use Rattle.full_exchanges.specs.Having.{HaveOneTextEach, HaveTheSame}
use Rattle.full_exchanges.specs.Pulls.{Pull}
use Rattle.world.specs.Digests.{IsDigest}
use Rattle.world.specs.Folders.{world_folders}
use Rattle.world.specs.Told.{IsSummary, IsWorld, tally_of}
use Rattle.world.specs.declared.world.World.{World}
use Rattle.world_events.specs.Events.{events_of}
use Rattle.world_events.specs.Exchange.{exchange_of}
use Rattle.world_events.specs.Words.{folder_word}
use Rattle.world_events.specs.declared.event.Event.{Event}
use Rattle.world_texts.specs.Asked.{IsInBounds}
use Rattle.world_texts.specs.Summary.{count_lines, folder_lines}
use Rattle.world_texts.specs.declared.asked.Asked.{Asked}
use Rattle.world_texts.specs.declared.tally.Digest.{Digest}
use Rattle.exchange_runs.specs.Exchanged.{Exchanged}
use Rattle.identity_runs.specs.Homes.{AreEditedAtHome, AreMadeOnce}
use Rattle.clean_folders.specs.Clean.{AreClean}
use Rattle.clean_folders.specs.Hashes.{HashesDoNotCollide}
use Rattle.clean_folders.specs.WorldSeeds.{SeedTextsDoNotCollide}
use Rattle.clean_folders.specs.Worlds.{IsCleanWorld}
use Rattle.clean_folders.specs.WorldPeople.{HasCleanPeople, PeopleHashesDoNotCollide}
use Rattle.clean_folders.specs.Unlimited.{HaveUsers, IsPullOf, IsUnlimited}
use Rattle.clean_folders.specs.Unlimited.{RunsWithoutLimit}

-- an event is one pull at most, at one time
abbrev pub EventsAreOnePull : Type 0
EventsAreOnePull =
    (event : Event) (one two : Pull) → IsPullOf event one
    → IsPullOf event two → one ≡ two

-- each pull of a full exchange among clean folders with users is done, if it meets no limit
abbrev pub ExchangesOfCleanFoldersAreDone : Type 0
ExchangesOfCleanFoldersAreDone =
    (folders : ℕ) (now : ℤ) (old new : History) → folders ≤ 16
    → (clean : AreClean (world_folders folders) old)
    → AreMadeOnce (world_folders folders) [] old clean.runs
    → AreEditedAtHome (world_folders folders) [] old clean.runs
    → HaveUsers folders (files_of old)
    → HaveOneTextEach (files_of new) (world_folders folders)
    → IsUnlimited folders now old new → Exchanged folders now old new

-- so any two of them have the same operation commits of the same bugs then
abbrev pub CleanFoldersHaveTheSame : Type 0
CleanFoldersHaveTheSame =
    (folders one two : ℕ) (now : ℤ) (old new : History) → folders ≤ 16
    → (clean : AreClean (world_folders folders) old)
    → AreMadeOnce (world_folders folders) [] old clean.runs
    → AreEditedAtHome (world_folders folders) [] old clean.runs
    → HaveUsers folders (files_of old)
    → HaveOneTextEach (files_of new) (world_folders folders)
    → IsUnlimited folders now old new → one < folders → two < folders
    → HaveTheSame (files_of new) (folder_word one) (files_of new) (folder_word two)

-- and one digest
abbrev pub CleanFoldersHaveOneDigest : Type 0
CleanFoldersHaveOneDigest =
    (folders one two : ℕ) (now : ℤ) (old new : History)
    (first second : Digest) → folders ≤ 16
    → (clean : AreClean (world_folders folders) old)
    → AreMadeOnce (world_folders folders) [] old clean.runs
    → AreEditedAtHome (world_folders folders) [] old clean.runs
    → HaveUsers folders (files_of old)
    → HaveOneTextEach (files_of new) (world_folders folders)
    → IsUnlimited folders now old new → one < folders → two < folders
    → IsDigest new one first → IsDigest new two second → first ≡ second

-- each pull of a full exchange in a clean world with clean people and users is done, if it meets no limit
abbrev pub ExchangesOfCleanWorldsAreDone : Type 0
ExchangesOfCleanWorldsAreDone =
    (folders : ℕ) (now : ℤ) (mid new : History)
    → (world : IsCleanWorld folders mid) → HasCleanPeople folders mid world
    → HaveUsers folders (files_of mid)
    → HaveOneTextEach (files_of new) (world_folders folders)
    → IsUnlimited folders now mid new → Exchanged folders now mid new

-- so any two of its folders have the same operation commits of the same bugs then
abbrev pub CleanWorldsHaveTheSame : Type 0
CleanWorldsHaveTheSame =
    (folders one two : ℕ) (now : ℤ) (mid new : History)
    → (world : IsCleanWorld folders mid) → HasCleanPeople folders mid world
    → HaveUsers folders (files_of mid)
    → HaveOneTextEach (files_of new) (world_folders folders)
    → IsUnlimited folders now mid new → one < folders → two < folders
    → HaveTheSame (files_of new) (folder_word one) (files_of new) (folder_word two)

-- and one digest
abbrev pub CleanWorldsHaveOneDigest : Type 0
CleanWorldsHaveOneDigest =
    (folders one two : ℕ) (now : ℤ) (mid new : History)
    (first second : Digest) → (world : IsCleanWorld folders mid)
    → HasCleanPeople folders mid world → HaveUsers folders (files_of mid)
    → HaveOneTextEach (files_of new) (world_folders folders)
    → IsUnlimited folders now mid new → one < folders → two < folders
    → IsDigest new one first → IsDigest new two second → first ≡ second

-- the text of the world that three numbers ask for ends with `equal`, if each folder has a user and no pull meets a limit
abbrev pub ToldWorldsAreEqual : Type 0
ToldWorldsAreEqual =
    (asked : Asked) (world : World) (text : List ℕ)
    (summary : IsSummary world text) → IsInBounds asked → (made : IsWorld asked world)
    → SeedTextsDoNotCollide asked.number asked.events
    → HashesDoNotCollide asked.folders (events_of asked.number asked.folders asked.events)
    made.ends [] made.mid made.played
    → PeopleHashesDoNotCollide asked.folders
    (events_of asked.number asked.folders asked.events) made.ends [] made.mid made.played
    → HaveUsers asked.folders (files_of made.mid)
    → HaveOneTextEach (files_of world.store.history) (world_folders asked.folders)
    → InTurn RunsWithoutLimit
    (zip (exchange_of asked.folders (pos (1000000 + asked.events))) made.pulls) made.mid
    world.store.history
    → text ≡ count_lines (tally_of world) ++ folder_lines 0 summary.digests ++ codes "equal\n"
