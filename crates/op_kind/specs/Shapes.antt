-- Several members, each by its form.
use Rattle.std.specs.Prelude.{◌≡◌, ◌⊎◌, ⊤, ℕ, List, [], ◌∷◌, Option, Some, None}
use Rattle.op_kind.specs.Members.{Fields, values_of}
use Rattle.op_kind.specs.declared.fault.OpFault.{OpFault}
use Rattle.op_kind.specs.MemberForms.{Form, value_in, MemberFault, member}

-- The members that a type of operations has beside those that every operation has.
pub data Shape : Type 1 where
  nothing : Shape
  and : (A : Type 0) → Form A → Shape → Shape

-- a value for each member
abbrev pub Values : Shape → Type 0
Values nothing = ⊤
Values (and A form shape) = A × Values shape

-- both values, if there are both
abbrev pub both : {A B : Type 0} → Option A → Option B → Option (A × B)
both None b = None
both (Some a) None = None
both (Some a) (Some b) = Some (a, b)

-- What the members say, if each reads.
abbrev pub values_in : (shape : Shape) → Fields → Option (Values shape)
values_in nothing fs = Some tt
values_in (and A form shape) fs = both (value_in form fs) (values_in shape fs)

-- The fault holds of one of the members.
abbrev pub ShapeFault : Shape → Fields → OpFault → Type 0
ShapeFault nothing fs f = ⊥
ShapeFault (and A form shape) fs f = MemberFault form fs f ⊎ ShapeFault shape fs f

-- each value can be written
abbrev pub CanBeAll : (shape : Shape) → Values shape → Type 0
CanBeAll nothing xs = ⊤
CanBeAll (and A form shape) xs = form.CanBe xs.0 × CanBeAll shape xs.1

-- each value stands among the members as it is written, and stands there once
abbrev pub StandAll : (shape : Shape) → Values shape → Fields → Type 0
StandAll nothing xs fs = ⊤
StandAll (and A form shape) xs fs = (values_of form.name fs ≡ form.printed xs.0 ∷ []) × StandAll shape xs.1 fs

-- the members as they are written
abbrev pub own_members : (shape : Shape) → Values shape → Fields
own_members nothing xs = []
own_members (and A form shape) xs = member form xs.0 ∷ own_members shape xs.1

-- the names of the members
abbrev pub names_of : Shape → List (List ℕ)
names_of nothing = []
names_of (and A form shape) = form.name ∷ names_of shape
