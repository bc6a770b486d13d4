-- What holds of the identities of clean worlds.
use Rattle.std.specs.Prelude.{◌≡◌, [], ℕ}
use Rattle.gb_store.specs.Files.{History}
use Rattle.world.specs.Folders.{world_folders}
use Rattle.world.specs.Told.{IsWorld}
use Rattle.world.specs.declared.world.World.{World}
use Rattle.world_events.specs.Events.{events_of}
use Rattle.world_events.specs.declared.act.Act.{Act}
use Rattle.world_events.specs.declared.act.Act.TheVariants as act
use Rattle.world_texts.specs.Asked.{IsInBounds}
use Rattle.world_texts.specs.declared.asked.Asked.{Asked}
use Rattle.identity_runs.specs.Homes.{AreEditedAtHome, AreMadeOnce}
use Rattle.clean_folders.specs.Clean.{AreClean}
use Rattle.clean_folders.specs.Hashes.{HashesDoNotCollide}
use Rattle.clean_folders.specs.WorldSeeds.{SeedTextsDoNotCollide}
use Rattle.clean_folders.specs.Worlds.{IsCleanWorld}
use Rattle.clean_folders.specs.WorldPeople.{HasCleanPeople, MakesAPerson}
use Rattle.clean_folders.specs.WorldPeople.{PeopleHashesDoNotCollide}

-- the acts that make identities are those that run `user-new`
abbrev pub NewUsersAloneMakeIdentities : Type 0
NewUsersAloneMakeIdentities =
    (one : Act) → MakesAPerson one → one ≡ act.UserNew

-- runs left the folders that make each identity once, and edit one only where it was made
abbrev pub CleanPeopleHaveHomes : Type 0
CleanPeopleHaveHomes =
    (folders : ℕ) (files : History) → (world : IsCleanWorld folders files)
    → HasCleanPeople folders files world → (clean : AreClean (world_folders folders) files)
    × AreMadeOnce (world_folders folders) [] files clean.runs
    × AreEditedAtHome (world_folders folders) [] files clean.runs

-- the world that three numbers ask for is such a world before its full exchange
abbrev pub ToldWorldsHaveCleanPeople : Type 0
ToldWorldsHaveCleanPeople =
    (asked : Asked) (world : World) → IsInBounds asked
    → (made : IsWorld asked world) → SeedTextsDoNotCollide asked.number asked.events
    → HashesDoNotCollide asked.folders (events_of asked.number asked.folders asked.events)
    made.ends [] made.mid made.played
    → PeopleHashesDoNotCollide asked.folders
    (events_of asked.number asked.folders asked.events) made.ends [] made.mid made.played
    → (is : IsCleanWorld asked.folders made.mid)
    × HasCleanPeople asked.folders made.mid is
