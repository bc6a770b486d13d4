-- Kinds of operations by a table of their types: what a text means, what is wrong with a text, and how an operation is written.
use Rattle.std.specs.Prelude.{◌≡◌, ◌⊎◌, ℕ, Bool, List, Option, Some, None, option_and_then}
use Rattle.std.specs.Option.{option_map}
use Rattle.op_kind.specs.Bounds.{IsWithinBounds}
use Rattle.op_kind.specs.Common.{kind_of, common_of, FieldsFault}
use Rattle.op_kind.specs.Meaning.{Meaning, version_of}
use Rattle.op_kind.specs.Members.{Fields, fields_at}
use Rattle.op_kind.specs.NameOrder.{put_all, common_members}
use Rattle.op_kind.specs.Shapes.{Shape, Values, values_in, ShapeFault, CanBeAll, own_members}
use Rattle.op_kind.specs.Written.{fields_text}
use Rattle.op_kind.specs.declared.fault.OpFault.{OpFault}
use Rattle.op_kind.specs.declared.fault.OpFault.TheVariants.{NotObject, UnknownType}
use Rattle.op_kind.specs.declared.place.Place.{Place}
use Rattle.op_kind.specs.declared.place.Common.{Common}

-- The types of a kind of operations.
pub record Table (Op Type_ : Type 0) : Type 1 where
  -- the type with a number, in a version of the format
  pub type_of : ℕ → ℕ → Option Type_
  -- the number of a type
  pub number_of : Type_ → ℕ
  -- the members of a type, beside those that every operation has
  pub shape_of : Type_ → Shape
  -- the operation of a type with a common part, and values for its members
  pub made : (t : Type_) → Common → Values (shape_of t) → Op
  -- the type of an operation, its common part, and its values
  pub type_in : Op → Type_
  pub part_in : Op → Common
  pub values_of_op : (o : Op) → Values (shape_of (type_in o))
  -- an entity may begin with an operation of the type, and it may stand behind others
  pub opens : Type_ → Bool
  pub follows : Type_ → Bool

module _ {Op Type_ : Type 0} (table : Table Op Type_) where
  -- ---- reading

  -- the operation of a type, if its members read
  abbrev pub op_of_type : Fields → Common → Type_ → Option Op
  op_of_type fs c t = option_map (table.made t c) (values_in (table.shape_of t) fs)

  -- the operation with a common part, if its number is that of a type
  unfoldable pub op_with : ℕ → Fields → Common → Option Op
  op_with version fs c = option_and_then (op_of_type fs c) (table.type_of version c.kind)

  -- the operation that an object's members are
  abbrev pub op_of : Place → Fields → Option Op
  op_of p fs = option_and_then (op_with (version_of p) fs) (common_of p fs)

  -- The operation that a text is at a place.
  abbrev pub op_at : Place → List ℕ → Option Op
  op_at p text = option_and_then (op_of p) (fields_at text)

  -- the fault holds of the members of a type, if there is such a type
  abbrev pub TypeFault : Fields → ℕ → Option Type_ → OpFault → Type 0
  TypeFault fs n None f = f ≡ UnknownType n
  TypeFault fs n (Some t) f = ShapeFault (table.shape_of t) fs f

  -- the fault holds of the members that the type has
  abbrev pub KindFault : ℕ → Fields → Option ℕ → OpFault → Type 0
  KindFault version fs None f = ⊥
  KindFault version fs (Some n) f = TypeFault fs n (table.type_of version n) f

  -- The fault holds of an object's members: of those that every operation has, or of those that the type has.
  abbrev pub MembersFault : ℕ → Fields → OpFault → Type 0
  MembersFault version fs f = FieldsFault fs f ⊎ KindFault version fs (kind_of fs) f

  -- the fault holds: that there are no members, or one of the members
  abbrev pub FaultOf : ℕ → Option Fields → OpFault → Type 0
  FaultOf version None f = f ≡ NotObject
  FaultOf version (Some fs) f = MembersFault version fs f

  -- The fault holds of a text in a version of the format.
  abbrev pub OpTextFault : ℕ → List ℕ → OpFault → Type 0
  OpTextFault version text f = FaultOf version (fields_at text) f

  -- ---- writing

  -- the members of a type with a common part and values, in byte order of their names
  abbrev pub members_with : (t : Type_) → Common → Values (table.shape_of t) → Fields
  members_with t c xs = put_all (common_members c) (own_members (table.shape_of t) xs)

  -- The members of an operation as they are written, in byte order of their names.
  abbrev pub members_of_op : Op → Fields
  members_of_op o = members_with (table.type_in o) (table.part_in o) (table.values_of_op o)

  -- The text of an operation.
  abbrev pub op_text : Op → List ℕ
  op_text o = fields_text (members_of_op o)

  -- The parts can be written: the common part is within its bounds and has the number of the type, and so can the values.
  pub record KeepsParts (t : Type_) (c : Common) (xs : Values (table.shape_of t)) : Type 0 where
    pub within : IsWithinBounds c
    pub kind : c.kind ≡ table.number_of t
    pub values : CanBeAll (table.shape_of t) xs

  -- The operation keeps the rules.
  abbrev pub KeepsOp : Op → Type 0
  KeepsOp o = KeepsParts (table.type_in o) (table.part_in o) (table.values_of_op o)

  -- ---- the kind

  -- the same operation at another place
  abbrev pub placed : Place → Op → Op
  placed p o = table.made (table.type_in o) (record (table.part_in o) { place = p }) (table.values_of_op o)

  -- the version of a place has the operation's type
  abbrev pub HasType : Place → Op → Type 0
  HasType p o = table.type_of (version_of p) (table.number_of (table.type_in o)) ≡ Some (table.type_in o)

  -- What the operations of a kind mean whose operations fold into a state, of which a row is a part.
  abbrev pub kind_by : {State Row : Type 0} → State → (State → Op → State) → (State → Row) → (Row → Op → Row) → Meaning Op State Row
  kind_by initial state_after row_of row_after = record {
    read_at = op_at;
    HasFault = OpTextFault;
    written = op_text;
    KeepsRules = KeepsOp;
    Fits = HasType;
    common_of = table.part_in;
    placed = placed;
    is_opening = λ o. table.opens (table.type_in o);
    is_following = λ o. table.follows (table.type_in o);
    initial = initial;
    state_after = state_after;
    row_of = row_of;
    row_after = row_after;
  }
