-- What a pull leaves of its folder, and what it leaves as it was.
use Rattle.std.specs.Prelude.{◌≡◌, ◌≢◌, ◌↔◌, ◌⊎◌, ℕ, false, List}
use Rattle.gb_text.specs.Digits.{IsId}
use Rattle.gb_text.specs.Folder.{is_rooted, joined}
use Rattle.gb_text.specs.declared.id.Id.{Id}
use Rattle.gb_store.specs.Files.{Files}
use Rattle.remote_name.specs.declared.remote.RemoteName.{RemoteName}
use Rattle.repo_state.specs.declared.side.Side.TheVariants as side
use Rattle.full_exchanges.specs.Having.{Has, Piece}
use Rattle.full_exchanges.specs.Pulls.{Brings, Pull}

-- what a pull leaves of bugs in its folder
pub record Joins (pull : Pull) (old new : Files) : Type 0 where
  -- of each bug what the folder had and what is brought, and no more
  pub own : (id : Id) (piece : Piece) → IsId id → Has new pull.own side.Bugs id piece ↔ (Has old pull.own side.Bugs id piece ⊎ Brings old pull id piece)
  -- last seen at the remote is what was brought
  pub seen : (id : Id) (piece : Piece) → IsId id → Has new pull.own (side.RemoteBugs pull.remote) id piece ↔ Brings old pull id piece
  -- last seen at another remote is what was seen there before
  pub elsewhere : (remote : RemoteName) (id : Id) (piece : Piece) → remote ≢ pull.remote → IsId id
      → Has new pull.own (side.RemoteBugs remote) id piece ↔ Has old pull.own (side.RemoteBugs remote) id piece

-- each file below a folder is as it was
abbrev pub IsUntouched : List ℕ → Files → Files → Type 0
IsUntouched folder old new = (rest : List ℕ) → is_rooted rest ≡ false → new (joined folder rest) ≡ old (joined folder rest)
