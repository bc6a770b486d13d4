use Rattle.repo_writes.proofs.PlaceLemmas.{place_dotless, place_plain}
use Rattle.repo_writes.proofs.SoundLemmas.{write-place}
use Rattle.repo_writes.proofs.laws.writes_stay_below_their_folder.Goals as goal

pub returns-clause-below : goal.returns-clause-below
returns-clause-below c = write-place

pub returns-clause-plain : goal.returns-clause-plain
returns-clause-plain c = place_plain

pub returns-clause-dotless : goal.returns-clause-dotless
returns-clause-dotless c = place_dotless
