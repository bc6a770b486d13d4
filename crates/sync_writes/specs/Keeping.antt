-- What a push keeps in the peer.
use Rattle.std.specs.Prelude.{ℕ, List}
use Rattle.gb_store.specs.Files.{History, files_of}
use Rattle.gb_store.specs.Moments.{AllMoments}
use Rattle.repo_state.specs.Sound.{HasPart, Part}

-- The peer keeps each part of soundness that both folders have, at each moment and whatever the other parts are.
abbrev pub KeepsPartsFrom : List ℕ → List ℕ → History → History → Type 0
KeepsPartsFrom own peer old new =
    (part : Part) → HasPart part own (files_of old) → HasPart part peer (files_of old) → AllMoments (HasPart part peer) old new
