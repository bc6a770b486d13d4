use Rattle.std.proofs.Common.{◌≡◌, ◌==◌, ◌++◌, length, string_bytes}
use Rattle.std.specs.List.{join_with_byte}
use Rattle.gb_text.proofs.FolderLemmas.{counted}
use Rattle.gb_text.proofs.folder.join_parts.Given as goal

abbrev pub invariant-loop-part : goal.invariant-loop-part
invariant-loop-part l = record {
  text : string_bytes l.text ≡ l.root ++ join_with_byte 47 (counted l.parts l.part-index);
  first : l.is_first ≡ (length (counted l.parts l.part-index) == 0);
}
