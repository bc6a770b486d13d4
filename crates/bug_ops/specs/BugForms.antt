-- The members that operations of bugs have beside those that every operation has.
use Rattle.std.specs.Prelude.{◌≡◌, ◌==◌, ⊤, ℕ, Bool, true, List, [], ◌∷◌, map, codes, decimal, Option, Some, None, option_and_then, if◌then◌else◌}
use Rattle.std.specs.List.{list_all}
use Rattle.std.specs.Str.{IsUtf8}
use Rattle.hex.specs.Hex.{encode_lower}
use Rattle.json.specs.Print.{quoted}
use Rattle.gb_text.specs.Decimal.{decimal_of}
use Rattle.gb_text.specs.Digits.{IsId, IsName, name_of}
use Rattle.gb_text.specs.Rules.{is_title_text, is_message_text}
use Rattle.gb_text.specs.declared.id.Id.{Id}
use Rattle.gb_text.specs.declared.id.Name.{Name}
use Rattle.op_kind.specs.Forms.{id_at, texts_at}
use Rattle.op_kind.specs.Members.{text_at}
use Rattle.op_kind.specs.Metadata.{pairs_at}
use Rattle.op_kind.specs.Pairs.{AreInKeyOrder, EachPairUtf8, pairs_text}
use Rattle.op_kind.specs.Written.{EachUtf8, texts_text}
use Rattle.op_kind.specs.declared.place.Pair.{Pair}
use Rattle.op_kind.specs.MemberForms.{Form}
use Rattle.bug_ops.specs.declared.op.BugStatus.{BugStatus}
use Rattle.bug_ops.specs.declared.op.BugStatus.TheVariants.{Opened, Closed}

-- ---- what values read as, and how they are written

-- there is no rule for the texts in it
abbrev pub anything : {A : Type 0} → A → Bool
anything a = true

-- 1 opened, 2 closed
abbrev pub status_of : ℕ → Option BugStatus
status_of n = if n == 1 then Some Opened else if n == 2 then Some Closed else None

abbrev pub status_number : BugStatus → ℕ
status_number Opened = 1
status_number Closed = 2

abbrev pub status_at : List ℕ → Option BugStatus
status_at value = option_and_then status_of (decimal_of value)

-- one more name, if both are there
abbrev pub with_name : Option Name → Option (List Name) → Option (List Name)
with_name None names = None
with_name (Some n) None = None
with_name (Some n) (Some ns) = Some (n ∷ ns)

-- the object names whose digits the texts are, if each is that of one
abbrev pub names_of : List (List ℕ) → Option (List Name)
names_of [] = Some []
names_of (t ∷ ts) = with_name (name_of t) (names_of ts)

-- a list of object names: null, or an array of texts of 40 lower-case digits
abbrev pub names_at : List ℕ → Option (List Name)
names_at value = option_and_then names_of (texts_at value)

abbrev pub digits_of : Name → List ℕ
digits_of name = encode_lower name.bytes

abbrev pub names_text : List Name → List ℕ
names_text names = texts_text (map digits_of names)

abbrev pub id_text : Id → List ℕ
id_text id = quoted (encode_lower id.bytes)

-- ---- which values can be written

-- UTF-8, and a title
pub record IsTitle (t : List ℕ) : Type 0 where
  pub utf8 : IsUtf8 t
  pub title : is_title_text t ≡ true

-- UTF-8, and a message
pub record IsMessage (t : List ℕ) : Type 0 where
  pub utf8 : IsUtf8 t
  pub message : is_message_text t ≡ true

-- each is UTF-8 and a label
pub record AreLabels (ts : List (List ℕ)) : Type 0 where
  pub utf8 : EachUtf8 ts
  pub labels : list_all is_title_text ts ≡ true

-- each is an object name
abbrev pub AreNames : List Name → Type 0
AreNames [] = ⊤
AreNames (n ∷ ns) = IsName n × AreNames ns

-- in byte order of distinct keys, and UTF-8
pub record ArePairs (ps : List Pair) : Type 0 where
  pub order : AreInKeyOrder ps
  pub texts : EachPairUtf8 ps

-- ---- the members

-- a title
abbrev pub title_form : Form (List ℕ)
title_form = record { name = codes "title"; number = 5; read = text_at; absent = None; obeys = is_title_text; printed = quoted; CanBe = IsTitle }

-- any text, which may be absent
abbrev pub was_form : Form (List ℕ)
was_form = record { name = codes "was"; number = 6; read = text_at; absent = Some []; obeys = anything; printed = quoted; CanBe = IsUtf8 }

-- a message
abbrev pub message_form : Form (List ℕ)
message_form = record { name = codes "message"; number = 7; read = text_at; absent = None; obeys = is_message_text; printed = quoted; CanBe = IsMessage }

-- object names, which may be absent or null
abbrev pub files_form : Form (List Name)
files_form = record { name = codes "files"; number = 8; read = names_at; absent = Some []; obeys = anything; printed = names_text; CanBe = AreNames }

-- 1 opened, 2 closed
abbrev pub status_form : Form BugStatus
status_form = record { name = codes "status"; number = 9; read = status_at; absent = None; obeys = anything; printed = λ s. decimal (status_number s); CanBe = λ s. ⊤ }

-- labels, which may be absent or null
abbrev pub labels_form : List ℕ → ℕ → Form (List (List ℕ))
labels_form name number = record { name = name; number = number; read = texts_at; absent = Some []; obeys = list_all is_title_text; printed = texts_text; CanBe = AreLabels }

abbrev pub added_form : Form (List (List ℕ))
added_form = labels_form (codes "added") 10

abbrev pub removed_form : Form (List (List ℕ))
removed_form = labels_form (codes "removed") 11

-- an id
abbrev pub target_form : Form Id
target_form = record { name = codes "target"; number = 12; read = id_at; absent = None; obeys = anything; printed = id_text; CanBe = IsId }

-- texts by distinct keys
abbrev pub pairs_form : Form (List Pair)
pairs_form = record { name = codes "new_metadata"; number = 13; read = pairs_at; absent = None; obeys = anything; printed = pairs_text; CanBe = ArePairs }
