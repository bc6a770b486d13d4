-- The refs of an exchange.
use Rattle.std.specs.Prelude.{◌≡◌, ℕ, List}
use Rattle.gb_store.specs.Files.{Files}
use Rattle.repo_state.specs.Listed.{AreRefs}
use Rattle.repo_state.specs.declared.side.Side.{Side}
use Rattle.repo_state.specs.declared.side.Side.TheVariants as side
use Rattle.listed_refs.specs.declared.listed.ListedSide.{ListedSide}
use Rattle.repo_sync.specs.declared.listing.Listing.{Listing}

-- the refs that stand on a side
pub record IsListed (files : Files) (folder : List ℕ) (of : Side) (listed : ListedSide) : Type 0 where
  pub side : listed.side ≡ of
  pub refs : AreRefs files folder of listed.refs

-- the local refs of a folder, and those of both sides of another
pub record IsListing (files : Files) (source target : List ℕ) (people_side bugs_side : Side) (listing : Listing) : Type 0 where
  pub people : AreRefs files source side.Identities listing.people
  pub bugs : AreRefs files source side.Bugs listing.bugs
  pub people_there : IsListed files target people_side listing.people_there
  pub bugs_there : IsListed files target bugs_side listing.bugs_there
