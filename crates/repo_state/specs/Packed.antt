-- What comes of a look at the packed refs of a folder.
use Rattle.std.specs.Prelude.{◌≡◌, ⊤, true, false, List, ℕ, Result, Ok, Err}
use Rattle.gb_text.specs.Folder.{joined}
use Rattle.gb_store.specs.Files.{Files}
use Rattle.ref_store.specs.Refs.{packed_place, packed_reads}
use Rattle.repo_state.specs.declared.stop.ReadStop.{ReadStop}
use Rattle.repo_state.specs.declared.stop.ReadStop.TheVariants as stop

-- they read, or their file is damaged
abbrev pub PackedAnswers : Files → List ℕ → Result Unit ReadStop → Type 0
PackedAnswers files folder (Ok done) = packed_reads files folder ≡ true
PackedAnswers files folder (Err (stop.Damaged path)) = (path ≡ joined folder packed_place) × (packed_reads files folder ≡ false)
PackedAnswers files folder (Err stop.Memory) = ⊤
PackedAnswers files folder (Err stop.Disk) = ⊤
