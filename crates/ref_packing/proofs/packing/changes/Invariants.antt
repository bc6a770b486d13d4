use Rattle.std.proofs.Common.{◌≡◌, ◌∷◌, take}
use Rattle.gb_text.specs.Folder.{joined}
use Rattle.gb_store.specs.Files.{Put}
use Rattle.ref_store.specs.Refs.{packed_place}
use Rattle.ref_packing.specs.Packing.{removals}
use Rattle.ref_packing.proofs.packing.changes.Given as goal

abbrev pub invariant-loop-one : goal.invariant-loop-one
invariant-loop-one l = l.changes.items ≡ Put (joined l.folder packed_place) l.fn.text ∷ removals l.folder (take l.one-index l.taken)
