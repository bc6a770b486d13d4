-- What holds of the identities that full exchanges leave.
use Rattle.std.specs.Prelude.{◌≡◌, ◌<◌, ◌≤◌, [], ℕ, ℤ}
use Rattle.gb_store.specs.Files.{History, files_of}
use Rattle.full_exchanges.specs.Having.{HaveOneTextEach, NameAuthorsAlike}
use Rattle.world.specs.Digests.{IsDigest}
use Rattle.world.specs.Folders.{world_folders}
use Rattle.world_events.specs.Words.{folder_word}
use Rattle.world_texts.specs.declared.tally.Digest.{Digest}
use Rattle.exchange_runs.specs.Exchanged.{Exchanged}
use Rattle.exchange_runs.specs.Takes.{RunsAmong}
use Rattle.identity_runs.specs.Homes.{AreEditedAtHome, AreMadeOnce}
use Rattle.identity_runs.specs.SamePeople.{HaveTheSamePeople}

-- any two folders have the same identities after a full exchange, each with the same head
abbrev pub ExchangesLeaveTheSameHeads : Type 0
ExchangesLeaveTheSameHeads =
    (folders one two : ℕ) (now : ℤ) (mid new : History) → folders ≤ 16
    → (runs : RunsAmong (world_folders folders) [] mid)
    → AreMadeOnce (world_folders folders) [] mid runs
    → AreEditedAtHome (world_folders folders) [] mid runs
    → HaveOneTextEach (files_of new) (world_folders folders)
    → Exchanged folders now mid new → one < folders → two < folders
    → HaveTheSamePeople (files_of new) (folder_word one) (folder_word two)

-- and both have the same name for the author of each operation
abbrev pub ExchangesLeaveTheSameNames : Type 0
ExchangesLeaveTheSameNames =
    (folders one two : ℕ) (now : ℤ) (mid new : History) → folders ≤ 16
    → (runs : RunsAmong (world_folders folders) [] mid)
    → AreMadeOnce (world_folders folders) [] mid runs
    → AreEditedAtHome (world_folders folders) [] mid runs
    → HaveOneTextEach (files_of new) (world_folders folders)
    → Exchanged folders now mid new → one < folders → two < folders
    → NameAuthorsAlike (files_of new) (folder_word one) (files_of new) (folder_word two)

-- so any two folders have one digest
abbrev pub ExchangedFoldersHaveOneDigest : Type 0
ExchangedFoldersHaveOneDigest =
    (folders one two : ℕ) (now : ℤ) (mid new : History) (first second : Digest)
    → folders ≤ 16 → (runs : RunsAmong (world_folders folders) [] mid)
    → AreMadeOnce (world_folders folders) [] mid runs
    → AreEditedAtHome (world_folders folders) [] mid runs
    → HaveOneTextEach (files_of new) (world_folders folders)
    → Exchanged folders now mid new → one < folders → two < folders
    → IsDigest new one first → IsDigest new two second → first ≡ second
