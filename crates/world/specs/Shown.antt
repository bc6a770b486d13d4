-- What a folder shows of its bugs.
use Rattle.std.specs.Prelude.{◌≡◌, ℕ, pos, replicate, List, [], ◌∷◌, codes, flat_map}
use Rattle.std.specs.List.{AllZip}
use Rattle.sha2.specs.Sha256.{sha256}
use Rattle.hex.specs.Hex.{encode_lower}
use Rattle.gb_text.specs.declared.id.Id.{Id}
use Rattle.gb_store.specs.Files.{History}
use Rattle.bug_edits.specs.declared.moment.Moment.{Moment}
use Rattle.bug_run.specs.declared.status.Status.{Status}
use Rattle.world_events.specs.Words.{folder_word}
use Rattle.world.specs.Plays.{IsAt, IsRun}

-- the arguments that show a bug
abbrev pub show_words : ℕ → Id → List (List ℕ)
show_words folder bug = folder_word folder ∷ codes "show" ∷ encode_lower bug.bytes ∷ []

-- what a folder shows of a bug. Nothing is written
pub record Shows (history : History) (folder : ℕ) (bug : Id) (text : List ℕ) : Type 0 where
  pub moment : Moment
  pub at : IsAt (pos 0) (replicate 32 0) moment
  pub answer : Status
  pub runs : IsRun (show_words folder bug) moment history history text answer

-- the SHA-256 of what a folder shows of bugs, one after another
pub record IsHashOf (history : History) (folder : ℕ) (bugs : List Id) (hash : List ℕ) : Type 0 where
  pub texts : List (List ℕ)
  pub shown : AllZip (Shows history folder) bugs texts
  pub is : hash ≡ sha256 (flat_map (λ text. text) texts)
