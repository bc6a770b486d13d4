-- What is printed of a world.
use Rattle.std.specs.Prelude.{ℕ, suc, Bool, true, if◌then◌else◌, List, [], ◌∷◌, ◌++◌, codes, decimal}
use Rattle.std.specs.List.{list_all}
use Rattle.std.specs.Str.{bytes_eq}
use Rattle.hex.specs.Hex.{encode_lower}
use Rattle.gb_text.specs.declared.id.Id.{Id}
use Rattle.world_events.specs.Words.{folder_word}
use Rattle.world_texts.specs.declared.tally.Digest.{Digest}
use Rattle.world_texts.specs.declared.tally.Tally.{Tally}

-- a line with a count
abbrev pub count_line : List ℕ → ℕ → List ℕ
count_line name count = name ++ decimal count ++ 10 ∷ []

-- the lines of all counts
abbrev pub count_lines : Tally → List ℕ
count_lines tally =
    count_line (codes "events ") tally.events ++ count_line (codes "done ") tally.done
    ++ count_line (codes "refused ") tally.refused ++ count_line (codes "skipped ") tally.skipped

-- the line of a folder
unfoldable pub folder_line : ℕ → Digest → List ℕ
folder_line folder digest =
    codes "folder " ++ folder_word folder ++ codes " bugs " ++ decimal digest.bugs
    ++ codes " digest " ++ encode_lower digest.hash.bytes ++ 10 ∷ []

-- the lines of folders from this one on
abbrev pub folder_lines : ℕ → List Digest → List ℕ
folder_lines folder [] = []
folder_lines folder (digest ∷ digests) = folder_line folder digest ++ folder_lines (suc folder) digests

-- a digest has this hash, and each of these does
abbrev pub has : Id → Digest → Bool
has hash digest = bytes_eq digest.hash.bytes hash.bytes

abbrev pub each_has : Id → List Digest → Bool
each_has hash digests = list_all (has hash) digests

-- all digests are the same
abbrev pub are_equal : List Digest → Bool
are_equal [] = true
are_equal (first ∷ others) = each_has first.hash others

-- the last line
abbrev pub verdict_of : List Digest → List ℕ
verdict_of digests = if are_equal digests then codes "equal\n" else codes "differ\n"

-- the text of a world with these counts and digests
abbrev pub summary_of : Tally → List Digest → List ℕ
summary_of tally digests = count_lines tally ++ folder_lines 0 digests ++ verdict_of digests
