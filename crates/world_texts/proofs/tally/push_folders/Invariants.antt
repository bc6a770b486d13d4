use Rattle.std.proofs.Common.{◌≡◌, ◌++◌, string_bytes, drop}
use Rattle.world_texts.specs.Summary.{folder_lines}
use Rattle.world_texts.proofs.tally.push_folders.Given as goal

abbrev pub invariant-loop-folder : goal.invariant-loop-folder
invariant-loop-folder l =
    string_bytes l.text ++ folder_lines l.folder (drop l.folder l.digests) ≡ string_bytes l.initial.text ++ folder_lines 0 l.digests
