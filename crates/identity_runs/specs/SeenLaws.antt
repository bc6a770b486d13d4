-- What holds of the identities and authors that folders have last seen at remotes.
use Rattle.std.specs.Prelude.{[], ℕ, List}
use Rattle.gb_store.specs.Files.{History, files_of}
use Rattle.words.specs.Words.{asked_of}
use Rattle.bug_run.specs.Runs.{AreAllSound, AreApart, IsRun}
use Rattle.full_exchanges.specs.Having.{HaveOneTextEach}
use Rattle.exchange_runs.specs.Takes.{RunsAmong, TakesAmong}
use Rattle.flat_trees.specs.Flat.{AreAllFlat}
use Rattle.identity_runs.specs.Tracked.{SeenAuthorsAreKnown, SeenPeopleAreSound}

-- a run leaves the tracked chains without fault
abbrev pub RunsKeepSeenPeopleSound : Type 0
RunsKeepSeenPeopleSound =
    (folders : List (List ℕ)) (old new : History) → AreApart folders
    → (run : IsRun folders old new) → TakesAmong folders (asked_of run.words)
    → AreAllSound folders (files_of old) → HaveOneTextEach (files_of new) folders
    → SeenPeopleAreSound (files_of old) folders → SeenPeopleAreSound (files_of new) folders

-- so do runs from no files
abbrev pub SeenPeopleHaveNoFault : Type 0
SeenPeopleHaveNoFault =
    (folders : List (List ℕ)) (new : History) → AreApart folders
    → RunsAmong folders [] new → HaveOneTextEach (files_of new) folders
    → SeenPeopleAreSound (files_of new) folders

-- a run leaves the authors of tracked bugs known
abbrev pub RunsKeepSeenAuthorsKnown : Type 0
RunsKeepSeenAuthorsKnown =
    (folders : List (List ℕ)) (old new : History) → AreApart folders
    → (run : IsRun folders old new) → TakesAmong folders (asked_of run.words)
    → AreAllFlat folders (files_of old) → AreAllSound folders (files_of old)
    → HaveOneTextEach (files_of new) folders
    → SeenPeopleAreSound (files_of old) folders → SeenAuthorsAreKnown (files_of old) folders
    → SeenAuthorsAreKnown (files_of new) folders

-- so do runs from no files
abbrev pub SeenAuthorsStayKnown : Type 0
SeenAuthorsStayKnown =
    (folders : List (List ℕ)) (new : History) → AreApart folders
    → RunsAmong folders [] new → HaveOneTextEach (files_of new) folders
    → SeenAuthorsAreKnown (files_of new) folders
