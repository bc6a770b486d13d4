-- What a command does in the folders that it is for.
use Rattle.std.specs.Prelude.{List, [], ◌∷◌}
use Rattle.folder_store.specs.declared.claim.Claim.{Claim}
use Rattle.folder_store.specs.declared.claim.Purpose.{Purpose}
use Rattle.folder_store.specs.declared.claim.Purpose.TheVariants.{Read, Write}
use Rattle.words.specs.declared.words.Asked.{Asked}
use Rattle.words.specs.declared.words.Asked.TheVariants as asked
use Rattle.words.specs.declared.words.Command.{Command}
use Rattle.words.specs.declared.words.Command.TheVariants.{Edit, PackRefs}
use Rattle.words.specs.declared.words.PeerCommand.{PeerCommand}
use Rattle.words.specs.declared.words.PeerCommand.TheVariants.{Fetch, Pull, Push}

-- an edit and a pack write, and any other command reads
abbrev pub purpose_of : Command → Purpose
purpose_of (Edit edit) = Write
purpose_of PackRefs = Write
purpose_of _ = Read

-- a fetch and a pull write in their own folder and read the peer's, and a push does the opposite
abbrev pub own_purpose : PeerCommand → Purpose
own_purpose (Fetch remote) = Write
own_purpose (Pull remote) = Write
own_purpose Push = Read

abbrev pub peer_purpose : PeerCommand → Purpose
peer_purpose (Fetch remote) = Read
peer_purpose (Pull remote) = Read
peer_purpose Push = Write

-- the folders that arguments name, each for what is done there; where they ask for nothing, nothing is claimed
abbrev pub claims_of : Asked → List Claim
claims_of (asked.Request request) = record { folder = request.folder; purpose = purpose_of request.command } ∷ []
claims_of (asked.Exchange request) =
    record { folder = request.pair.own; purpose = own_purpose request.command }
    ∷ record { folder = request.pair.peer; purpose = peer_purpose request.command } ∷ []
claims_of (asked.Merge request) = record { folder = request.folder; purpose = Write } ∷ []
claims_of (asked.List request) = record { folder = request.folder; purpose = Write } ∷ []
claims_of _ = []
