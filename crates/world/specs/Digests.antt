-- The digest of a folder.
use Rattle.std.specs.Prelude.{◌≡◌, ℕ, List, length}
use Rattle.gb_text.specs.declared.id.Id.{Id}
use Rattle.gb_store.specs.Files.{History, files_of}
use Rattle.world_texts.specs.declared.tally.Digest.{Digest}
use Rattle.world.specs.Plays.{HasBugs}
use Rattle.world.specs.Shown.{IsHashOf}

-- the number of a folder's bugs, and the hash of what it shows of them in order of their ids
pub record IsDigest (history : History) (folder : ℕ) (digest : Digest) : Type 0 where
  pub bugs : List Id
  pub has : HasBugs (files_of history) folder bugs
  pub count : digest.bugs ≡ length bugs
  pub hash : IsHashOf history folder bugs digest.hash.bytes
