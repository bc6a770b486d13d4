-- The members of a row's text.
use Rattle.std.specs.Prelude.{◌≤◌, ◌&&◌, ◌==◌, ⊤, ℕ, Bool, List, [], ◌∷◌, codes, decimal, Option, Some, None, option_and_then, map, if◌then◌else◌}
use Rattle.std.specs.List.{list_all}
use Rattle.std.specs.List.Sorted.{IsStrictlySortedBy}
use Rattle.std.specs.Cmp.Lexicographic.{slice_cmp}
use Rattle.std.specs.Ordering.{nat_cmp}
use Rattle.hex.specs.Hex.{encode_lower}
use Rattle.json.specs.Print.{quoted}
use Rattle.gb_text.specs.Decimal.{decimal_of}
use Rattle.gb_text.specs.Digits.{IsId, IsName, name_of}
use Rattle.gb_text.specs.Rules.{is_title_text}
use Rattle.gb_text.specs.declared.decimal.TheConstants.{GREATEST_TIME}
use Rattle.gb_text.specs.declared.id.Id.{Id}
use Rattle.gb_text.specs.declared.id.Name.{Name}
use Rattle.op_kind.specs.Common.{time_at}
use Rattle.op_kind.specs.Forms.{id_at}
use Rattle.op_kind.specs.MemberForms.{Form}
use Rattle.op_kind.specs.Members.{text_at}
use Rattle.op_kind.specs.Pairs.{pairs_text}
use Rattle.op_kind.specs.Written.{texts_text}
use Rattle.op_kind.specs.declared.place.Pair.{Pair}
use Rattle.bug_ops.specs.BugForms.{AreLabels, ArePairs, anything, id_text}
pub use Rattle.bug_ops.specs.BugForms.{status_form, title_form}
use Rattle.row_text.specs.Lists.{array_at, ascend, digits_of, ids_at, keys_of, pairs_at}

-- ---- what values read as, and how they are written

-- the version of rows, as it is written
abbrev pub version_text : List ℕ
version_text = decimal 1

abbrev pub version_of : ℕ → Option Unit
version_of n = if n == 1 then Some tt else None

abbrev pub version_at : List ℕ → Option Unit
version_at value = option_and_then version_of (decimal_of value)

-- an object name: a text of 40 lower-case digits
abbrev pub head_at : List ℕ → Option Name
head_at value = option_and_then name_of (text_at value)

abbrev pub head_text : Name → List ℕ
head_text head = quoted (encode_lower head.bytes)

abbrev pub ids_text : List Id → List ℕ
ids_text ids = texts_text (map digits_of ids)

-- each text is a title, and they ascend
abbrev pub are_row_labels : List (List ℕ) → Bool
are_row_labels labels = list_all is_title_text labels && ascend labels

-- ---- which values can be written

-- each is an id
abbrev pub AreIds : List Id → Type 0
AreIds [] = ⊤
AreIds (id ∷ ids) = IsId id × AreIds ids

-- each is UTF-8 and a title, and they ascend in byte order, none twice
pub record AreRowLabels (labels : List (List ℕ)) : Type 0 where
  pub each : AreLabels labels
  pub order : IsStrictlySortedBy (slice_cmp nat_cmp) labels

-- ---- the members: each must be there, and a fault of one is not told

-- ids, in any order
abbrev pub ids_form : List ℕ → Form (List Id)
ids_form name = record { name = name; number = 0; read = ids_at; absent = None; obeys = anything; printed = ids_text; CanBe = AreIds }

-- an id
abbrev pub id_form : List ℕ → Form Id
id_form name = record { name = name; number = 0; read = id_at; absent = None; obeys = anything; printed = id_text; CanBe = IsId }

-- a number: a plain decimal of at most 2^63 - 1
abbrev pub number_form : List ℕ → Form ℕ
number_form name = record { name = name; number = 0; read = time_at; absent = None; obeys = anything; printed = decimal; CanBe = λ n. n ≤ GREATEST_TIME }

-- the head that the row belongs to
abbrev pub head_form : Form Name
head_form = record { name = codes "head"; number = 0; read = head_at; absent = None; obeys = anything; printed = head_text; CanBe = IsName }

-- labels
abbrev pub labels_form : Form (List (List ℕ))
labels_form = record { name = codes "labels"; number = 0; read = array_at; absent = None; obeys = are_row_labels; printed = texts_text; CanBe = AreRowLabels }

-- texts by keys, which ascend
abbrev pub metadata_form : Form (List Pair)
metadata_form = record { name = codes "metadata"; number = 0; read = pairs_at; absent = None; obeys = λ ps. ascend (keys_of ps); printed = pairs_text; CanBe = ArePairs }

-- the number 1
abbrev pub version_form : Form Unit
version_form = record { name = codes "row"; number = 0; read = version_at; absent = None; obeys = anything; printed = λ version. version_text; CanBe = λ version. ⊤ }
