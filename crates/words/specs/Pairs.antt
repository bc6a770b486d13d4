-- The pair of two folders that do not overlap.
use Rattle.std.specs.Prelude.{◌≡◌, refl, ℕ, Bool, true, false, List, Option, Some, None}
use Rattle.words.specs.Overlaps.{overlaps}
use Rattle.words.specs.declared.pair.FolderPair.{FolderPair}

-- a pair, by whether its folders overlap
abbrev pub pair_by : (own peer : List ℕ) (is : Bool) → overlaps own peer ≡ is → Option FolderPair
pair_by own peer true is = None
pair_by own peer false is = Some (record { own = own; peer = peer; apart = is })

-- the pair of two folders, unless they overlap
abbrev pub pair_of : List ℕ → List ℕ → Option FolderPair
pair_of own peer = pair_by own peer (overlaps own peer) refl
