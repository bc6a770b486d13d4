-- A codec of rows that are any bytes: the text is the bytes behind an exclamation mark.
use Rattle.std.specs.Prelude.{◌≡◌, ◌==◌, ⊤, ℕ, List, [], ◌∷◌, Option, Some, None, if◌then◌else◌}
use Rattle.std.proofs.Common.{refl}
use Rattle.excerpt_cache.specs.Codec.{Codec, KeepsLaw}
use Rattle.excerpt_cache_tests.specs.declared.marked.Marked.{Marked}

-- the bytes behind the mark
abbrev pub read_mark : List ℕ → Option Marked
read_mark [] = None
read_mark (c ∷ rest) = if c == 33 then Some (record { bytes = rest }) else None

abbrev pub marked : Codec Marked
marked = record { written = λ row. 33 ∷ row.bytes; read_as = read_mark; KeepsRules = λ row. ⊤ }

pub marked_keeps_law : KeepsLaw marked
marked_keeps_law = record { reads_back = λ row rules. refl }
