-- What a kind of operations means, and the laws that it keeps.
use Rattle.std.specs.Prelude.{◌≡◌, ℕ, Bool, List, Option, Some, None}
use Rattle.std.specs.Str.{IsUtf8}
use Rattle.json_span.specs.Grammar.{IsValueText}
use Rattle.op_kind.specs.OpText.{IsOpText, op_brackets}
use Rattle.op_kind.specs.declared.fault.OpFault.{OpFault}
use Rattle.op_kind.specs.declared.fault.OpFault.TheVariants.{Memory}
use Rattle.op_kind.specs.declared.place.Place.{Place}
use Rattle.op_kind.specs.declared.place.Common.{Common}
use Rattle.op_kind.specs.declared.place.TheConstants.{VERSION}

-- the version of the format by whose types a text is read at a place
abbrev pub version_of : Place → ℕ
version_of p = VERSION

-- The meaning of a kind whose operations fold into a state, of which a row is a part.
pub record Meaning (Op State Row : Type 0) : Type 1 where
  -- the operation that a text is at a place
  pub read_at : Place → List ℕ → Option Op
  -- the fault holds of the text in a version of the format
  pub HasFault : ℕ → List ℕ → OpFault → Type 0
  -- how an operation is written
  pub written : Op → List ℕ
  -- the operation keeps the rules of its kind
  pub KeepsRules : Op → Type 0
  -- the operation may stand at the place
  pub Fits : Place → Op → Type 0
  -- the common part
  pub common_of : Op → Common
  -- the same operation at another place
  pub placed : Place → Op → Op
  -- an entity may begin with it
  pub is_opening : Op → Bool
  -- it may stand behind others
  pub is_following : Op → Bool
  -- the state before any operation
  pub initial : State
  -- the state one operation further
  pub state_after : State → Op → State
  -- the row of a state
  pub row_of : State → Row
  -- the row one operation further
  pub row_after : Row → Op → Row

-- The laws of a kind.
pub record KeepsLaws {Op State Row : Type 0} (k : Meaning Op State Row) : Type 0 where
  -- what is written reads back, at any place where it may stand
  pub reads_back : (p : Place) (o : Op) → k.KeepsRules o → k.Fits p o → k.read_at p (k.written o) ≡ Some (k.placed p o)
  -- what is written is the text of an operation
  pub is_text : (o : Op) → k.KeepsRules o → IsOpText (k.written o)
  -- what is read of a UTF-8 value text keeps the rules, where not too many brackets are open
  pub keeps_rules : (p : Place) (t : List ℕ) (o : Op) → IsUtf8 t → IsValueText op_brackets t → k.read_at p t ≡ Some o → k.KeepsRules o
  -- what is read stands at the place, and may
  pub stands_there : (p : Place) (t : List ℕ) (o : Op) → k.read_at p t ≡ Some o → (k.common_of o).place ≡ p
  pub fits_there : (p : Place) (t : List ℕ) (o : Op) → k.read_at p t ≡ Some o → k.Fits p o
  -- another place changes the place alone
  pub moves : (p : Place) (o : Op) → k.common_of (k.placed p o) ≡ record (k.common_of o) { place = p }
  pub same_text : (p : Place) (o : Op) → k.written (k.placed p o) ≡ k.written o
  pub stays : (o : Op) → k.placed (k.common_of o).place o ≡ o
  -- another place does not change where it may stand
  pub opens_anywhere : (p : Place) (o : Op) → k.is_opening (k.placed p o) ≡ k.is_opening o
  pub follows_anywhere : (p : Place) (o : Op) → k.is_following (k.placed p o) ≡ k.is_following o
  -- a text is no operation exactly where it has a fault, and want of memory is none
  pub no_value : (p : Place) (t : List ℕ) (f : OpFault) → k.HasFault (version_of p) t f → k.read_at p t ≡ None
  pub has_fault : (p : Place) (t : List ℕ) → k.read_at p t ≡ None → (f : OpFault) × k.HasFault (version_of p) t f
  pub no_memory : (version : ℕ) (t : List ℕ) → k.HasFault version t Memory → ⊥
  -- the row of the next state is the next row
  pub row_follows : (s : State) (o : Op) → k.row_of (k.state_after s o) ≡ k.row_after (k.row_of s) o
