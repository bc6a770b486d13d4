-- The folders of a world, and a full exchange among them in which each pull is done.
use Rattle.std.specs.Prelude.{◌≡◌, ◌<◌, ℕ, ℤ, All, List}
use Rattle.gb_text.specs.Digits.{IsId}
use Rattle.gb_text.specs.declared.id.Id.{Id}
use Rattle.gb_store.specs.Files.{Files, History}
use Rattle.remote_name.specs.declared.remote.RemoteName.{RemoteName}
use Rattle.repo_state.specs.Sound.{IsSound}
use Rattle.repo_state.specs.declared.side.Side.TheVariants as side
use Rattle.full_exchanges.specs.Having.{Has, OneHas, Piece}
use Rattle.world.specs.Folders.{world_folders}
use Rattle.world.specs.Plays.{ArePlayed}
use Rattle.world.specs.declared.world.Ended.{Ended}
use Rattle.world.specs.declared.world.Ended.TheVariants.{Done}
use Rattle.world_events.specs.Exchange.{exchange_of}
use Rattle.world_events.specs.Words.{folder_word}

-- folders of a world that may exchange: each is sound, and what one has last seen of a bug at another, some of them has
pub record MayExchange (folders : ℕ) (files : Files) : Type 0 where
  pub sound : (folder : ℕ) → folder < folders → IsSound (folder_word folder) files
  pub seen : (one other : ℕ) (remote : RemoteName) (id : Id) (piece : Piece) → one < folders → other < folders → remote.text ≡ folder_word other → IsId id
      → Has files (folder_word one) (side.RemoteBugs remote) id piece → OneHas files (world_folders folders) id piece

-- the pulls of a full exchange were played, and each was done: so none of its lines is a refusal
pub record Exchanged (folders : ℕ) (now : ℤ) (old new : History) : Type 0 where
  pub ends : List Ended
  pub played : ArePlayed (exchange_of folders now) ends old new
  pub done : All (λ (ended : Ended). ended ≡ Done) ends
