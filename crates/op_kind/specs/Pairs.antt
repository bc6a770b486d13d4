-- Lists of pairs in byte order of their keys, the objects that have them, and how they are written.
use Rattle.std.specs.Prelude.{◌≡◌, ⊤, ℕ, List, [], ◌∷◌, map, Option, Some}
use Rattle.std.specs.Str.{IsUtf8}
use Rattle.std.specs.List.Sorted.{IsPermutation, IsStrictlySortedBy}
use Rattle.std.specs.declared.cmp.Ordering.{Ordering}
use Rattle.std.specs.Ordering.{nat_cmp}
use Rattle.std.specs.Cmp.Lexicographic.{slice_cmp}
use Rattle.json.specs.Print.{quoted}
use Rattle.json_span.specs.Parts.{members_of}
use Rattle.op_kind.specs.Members.{text_at}
use Rattle.op_kind.specs.Written.{fields_text}
use Rattle.op_kind.specs.declared.place.Pair.{Pair}

-- two pairs by their keys, in byte order
abbrev pub by_key : Pair → Pair → Ordering
by_key p q = slice_cmp nat_cmp p.key q.key

-- The keys ascend in byte order, and no key stands there twice.
abbrev pub AreInKeyOrder : List Pair → Type 0
AreInKeyOrder ps = IsStrictlySortedBy by_key ps

-- the texts that a member's name and its value read as
abbrev pub texts_of : List ℕ × List ℕ → Option (List ℕ) × Option (List ℕ)
texts_of m = (text_at m.0, text_at m.1)

-- both texts of a pair
abbrev pub both_of : Pair → Option (List ℕ) × Option (List ℕ)
both_of p = (Some p.key, Some p.value)

-- The pairs are those of an object text: in some order they are what its members read as, each member one pair, and their keys ascend.
pub record ArePairsOf (json : List ℕ) (ps : List Pair) : Type 0 where
  pub members : List (List ℕ × List ℕ)
  pub object : members_of json ≡ Some members
  pub same : IsPermutation (map texts_of members) (map both_of ps)
  pub ascending : AreInKeyOrder ps

-- each key and each value is UTF-8
abbrev pub EachPairUtf8 : List Pair → Type 0
EachPairUtf8 [] = ⊤
EachPairUtf8 (p ∷ ps) = IsUtf8 p.key × IsUtf8 p.value × EachPairUtf8 ps

-- a pair as a member with its value in quotes
abbrev pub field_of : Pair → List ℕ × List ℕ
field_of p = (p.key, quoted p.value)

-- the text of an object of these pairs
abbrev pub pairs_text : List Pair → List ℕ
pairs_text ps = fields_text (map field_of ps)
