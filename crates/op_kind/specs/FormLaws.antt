-- Members have values exactly when they have no fault, and what is written reads back.
use Rattle.std.proofs.Common.{◌≡◌, ◌⊎◌, ◌∙◌, inl, inr, refl, sym, ap, ℕ, Bool, true, false, List, [], ◌∷◌, Option, Some, None}
use Rattle.std.specs.Prelude.{⊤, option_and_then, if◌then◌else◌}
use Rattle.op_kind.specs.CommonLaws.{only-none, only-repeated, only-lacks, or-none, or-repeated, or-breaks}
use Rattle.op_kind.specs.Members.{Fields, values_of, only_value}
use Rattle.op_kind.specs.OpText.{member_brackets}
use Rattle.op_kind.specs.Written.{IsWritable}
use Rattle.op_kind.specs.declared.fault.OpFault.{OpFault}
use Rattle.op_kind.specs.declared.fault.OpFault.TheVariants.{Memory, BadMember, BadText}
use Rattle.op_kind.specs.MemberForms.{Form, ruled, one_value, value_in, JsonFault, BreaksRule, MemberFault, member}
use Rattle.op_kind.specs.Shapes.{Shape, Values, both, values_in, ShapeFault, CanBeAll, StandAll}
use Rattle.op_kind.specs.Shapes.Shape.{nothing, and}

-- The laws of a form.
pub record IsForm {A : Type 0} (form : Form A) : Type 0 where
  -- what is written reads back, and keeps its rule
  pub reads : (a : A) → form.CanBe a → form.read (form.printed a) ≡ Some a
  pub obeys : (a : A) → form.CanBe a → form.obeys a ≡ true
  -- what is written can stand in an operation
  pub writable : (a : A) → form.CanBe a → IsWritable member_brackets (member form a)
  -- what reads and keeps its rule can be written, and so can what an absent member counts as
  pub can_be : (v : List ℕ) (a : A) → form.read v ≡ Some a → form.obeys a ≡ true → form.CanBe a
  pub absent : (a : A) → form.absent ≡ Some a → form.CanBe a

-- each of the forms keeps its laws
abbrev pub AreForms : Shape → Type 0
AreForms nothing = ⊤
AreForms (and A form shape) = IsForm form × AreForms shape

-- ---- faults of one member

json-none : {A : Type 0} (absent : Option A) (number : ℕ) (read : List ℕ → Option A) (vs : List (List ℕ)) → one_value absent read vs ≡ None → JsonFault absent number read vs (BadMember number)
json-none None number read vs h = (refl, only-none read vs h)
json-none (Some a) number read vs h = (refl, or-none a read vs h)

json-faulty : {A : Type 0} (absent : Option A) (number : ℕ) (read : List ℕ → Option A) (vs : List (List ℕ)) (f : OpFault) → JsonFault absent number read vs f → one_value absent read vs ≡ None
json-faulty None number read vs f h = elim h.1 [ inl r ↦ only-repeated read vs r | inr l ↦ only-lacks read vs l ]
json-faulty (Some a) number read vs f h = elim h.1 [ inl r ↦ or-repeated a read vs r | inr b ↦ or-breaks a read vs b ]

not_memory : {A : Type 0} (absent : Option A) (number : ℕ) (read : List ℕ → Option A) (vs : List (List ℕ)) → JsonFault absent number read vs Memory → ⊥
not_memory None number read vs h = absurd (cc (h.0))
not_memory (Some a) number read vs h = absurd (cc (h.0))

only-one : {A : Type 0} (read : List ℕ → Option A) (obeys : A → Bool) (vs : List (List ℕ)) (a : A) → only_value read vs ≡ Some a → obeys a ≡ false → BreaksRule read obeys vs
only-one read obeys [] a h breaks = absurd (cc (h))
only-one read obeys (v ∷ []) a h breaks = inl (a, h, breaks)
only-one read obeys (v ∷ w ∷ vs) a h breaks = absurd (cc (h))

rule-broken : {A : Type 0} (read : List ℕ → Option A) (obeys : A → Bool) (vs : List (List ℕ)) → BreaksRule read obeys vs → option_and_then (ruled obeys) (only_value read vs) ≡ None
rule-broken read obeys [] h = absurd h
rule-broken read obeys (v ∷ []) h = elim h [
  | inl b ↦ ap (option_and_then (ruled obeys)) b.1 ∙ ap (λ x. if x then Some b.0 else None) b.2
  | inr none ↦ absurd none
]
rule-broken read obeys (v ∷ w ∷ vs) h = refl

rule-faulty : {A : Type 0} (absent : Option A) (read : List ℕ → Option A) (obeys : A → Bool) (vs : List (List ℕ)) → BreaksRule read obeys vs → option_and_then (ruled obeys) (one_value absent read vs) ≡ None
rule-faulty None read obeys vs h = rule-broken read obeys vs h
rule-faulty (Some a) read obeys [] h = absurd h
rule-faulty (Some a) read obeys (v ∷ vs) h = rule-broken read obeys (v ∷ vs) h

-- the rule of what an absent member counts as is kept
abbrev pub AbsentObeys : {A : Type 0} → Option A → (A → Bool) → Type 0
AbsentObeys None obeys = ⊤
AbsentObeys (Some a) obeys = obeys a ≡ true

rule-none : {A : Type 0} (absent : Option A) (read : List ℕ → Option A) (obeys : A → Bool) (vs : List (List ℕ)) (a : A) → AbsentObeys absent obeys → one_value absent read vs ≡ Some a → obeys a ≡ false → BreaksRule read obeys vs
rule-none None read obeys vs a kept h breaks = only-one read obeys vs a h breaks
rule-none (Some b) read obeys [] a kept h breaks = let e : b ≡ a = cc (h) in absurd (cc (kept, breaks, ap obeys e))
rule-none (Some b) read obeys (v ∷ vs) a kept h breaks = only-one read obeys (v ∷ vs) a h breaks

absent-obeys : {A : Type 0} (form : Form A) (laws : IsForm form) (absent : Option A) → form.absent ≡ absent → AbsentObeys absent form.obeys
absent-obeys form laws None h = tt
absent-obeys form laws (Some a) h = laws.obeys a (laws.absent a h)

unruled : {A : Type 0} (obeys : A → Bool) (a : A) (b : Bool) → obeys a ≡ b → ruled obeys a ≡ None → obeys a ≡ false
unruled obeys a true is h = absurd (cc (h, ap (λ x. if x then Some a else None) is))
unruled obeys a false is h = is

member_fault : {A : Type 0} (form : Form A) (laws : IsForm form) (fs : Fields) (o : Option A) → one_value form.absent form.read (values_of form.name fs) ≡ o → option_and_then (ruled form.obeys) o ≡ None → (f : OpFault) × MemberFault form fs f
member_fault form laws fs None is h = (BadMember form.number, inl (json-none form.absent form.number form.read _ is))
member_fault form laws fs (Some a) is h =
    (BadText form.number, inr (refl, rule-none form.absent form.read form.obeys _ a (absent-obeys form laws form.absent refl) is (unruled form.obeys a (form.obeys a) refl h)))

-- A member that has no value has a fault.
pub no_value_is_fault : {A : Type 0} (form : Form A) (laws : IsForm form) (fs : Fields) → value_in form fs ≡ None → (f : OpFault) × MemberFault form fs f
no_value_is_fault form laws fs h = member_fault form laws fs (one_value form.absent form.read (values_of form.name fs)) refl h

-- A member that has a fault has no value.
pub fault_is_no_value : {A : Type 0} (form : Form A) (fs : Fields) (f : OpFault) → MemberFault form fs f → value_in form fs ≡ None
fault_is_no_value form fs f h = elim h [
  | inl json ↦ ap (option_and_then (ruled form.obeys)) (json-faulty form.absent form.number form.read _ f json)
  | inr rule ↦ rule-faulty form.absent form.read form.obeys _ rule.1
]

-- ---- what reads can be written

kept : {A : Type 0} (form : Form A) (a b : A) (t : Bool) → form.obeys a ≡ t → ruled form.obeys a ≡ Some b → (a ≡ b) × (form.obeys a ≡ true)
kept form a b true is h = (cc (h, ap (λ x. if x then Some a else None) is), is)
kept form a b false is h = absurd (cc (h, ap (λ x. if x then Some a else None) is))

from_only : {A : Type 0} (form : Form A) (laws : IsForm form) (vs : List (List ℕ)) (a : A) → only_value form.read vs ≡ Some a → form.obeys a ≡ true → form.CanBe a
from_only form laws [] a h obeys = absurd (cc (h))
from_only form laws (v ∷ []) a h obeys = laws.can_be v a h obeys
from_only form laws (v ∷ w ∷ vs) a h obeys = absurd (cc (h))

from_one : {A : Type 0} (form : Form A) (laws : IsForm form) (absent : Option A) (vs : List (List ℕ)) (a : A) → form.absent ≡ absent → one_value absent form.read vs ≡ Some a → form.obeys a ≡ true → form.CanBe a
from_one form laws None vs a none h obeys = from_only form laws vs a h obeys
from_one form laws (Some b) [] a some h obeys = laws.absent a (some ∙ h)
from_one form laws (Some b) (v ∷ vs) a some h obeys = from_only form laws (v ∷ vs) a h obeys

can_be_from : {A : Type 0} (form : Form A) (laws : IsForm form) (vs : List (List ℕ)) (a : A) (o : Option A) → one_value form.absent form.read vs ≡ o → option_and_then (ruled form.obeys) o ≡ Some a → form.CanBe a
can_be_from form laws vs a None is h = absurd (cc (h))
can_be_from {A = A} form laws vs a (Some b) is h =
    let k = kept form b a (form.obeys b) refl h in
    from_one form laws form.absent vs a refl (is ∙ ap (λ (x : A). Some x) k.0) (ap form.obeys (sym k.0) ∙ k.1)

-- ---- what is written reads back

one-there : {A : Type 0} (absent : Option A) (read : List ℕ → Option A) (v : List ℕ) → one_value absent read (v ∷ []) ≡ read v
one-there None read v = refl
one-there (Some a) read v = refl

-- A member that stands once, as it is written, reads as what was written.
pub reads_back : {A : Type 0} (form : Form A) (laws : IsForm form) (a : A) (fs : Fields) → form.CanBe a → values_of form.name fs ≡ form.printed a ∷ [] → value_in form fs ≡ Some a
reads_back form laws a fs can h =
    ap (λ vs. option_and_then (ruled form.obeys) (one_value form.absent form.read vs)) h
    ∙ ap (option_and_then (ruled form.obeys)) (one-there form.absent form.read (form.printed a) ∙ laws.reads a can)
    ∙ ap (λ b. if b then Some a else None) (laws.obeys a can)

-- ---- several members

both-none : {A B : Type 0} (a : Option A) (b : Option B) → both a b ≡ None → (a ≡ None) ⊎ (b ≡ None)
both-none None b h = inl refl
both-none (Some a) None h = inr refl
both-none (Some a) (Some b) h = absurd (cc (h))

left-none : {A B : Type 0} (a : Option A) (b : Option B) → a ≡ None → both a b ≡ None
left-none {B = B} a b h = ap (λ x. both x b) h

right-none : {A B : Type 0} (a : Option A) (b : Option B) → b ≡ None → both a b ≡ None
right-none None b h = refl
right-none (Some a) b h = ap (both (Some a)) h

both-some : {A B : Type 0} (a : Option A) (b : Option B) (x : A × B) → both a b ≡ Some x → (a ≡ Some x.0) × (b ≡ Some x.1)
both-some None b x h = absurd (cc (h))
both-some (Some a) None x h = absurd (cc (h))
both-some {A = A} {B = B} (Some a) (Some b) x h =
    let e : (let p : A × B = (a, b) in p) ≡ x = cc (h) in
    (ap (λ (p : A × B). Some p.0) e, ap (λ (p : A × B). Some p.1) e)

-- Members without values have a fault.
pub no_values_are_fault : (shape : Shape) → AreForms shape → (fs : Fields) → values_in shape fs ≡ None → (f : OpFault) × ShapeFault shape fs f
no_values_are_fault nothing laws fs h = absurd (cc (h))
no_values_are_fault (and A form shape) laws fs h = elim (both-none _ _ h) [
  | inl none ↦ let f = no_value_is_fault form laws.0 fs none in (f.0, inl f.1)
  | inr none ↦ let f = no_values_are_fault shape laws.1 fs none in (f.0, inr f.1)
]

-- Members with a fault have no values.
pub fault_is_no_values : (shape : Shape) (fs : Fields) (f : OpFault) → ShapeFault shape fs f → values_in shape fs ≡ None
fault_is_no_values nothing fs f h = absurd h
fault_is_no_values (and A form shape) fs f h = elim h [
  | inl one ↦ left-none _ _ (fault_is_no_value form fs f one)
  | inr more ↦ right-none _ _ (fault_is_no_values shape fs f more)
]

-- Want of memory is no fault of members.
pub memory_is_no_fault : (shape : Shape) (fs : Fields) → ShapeFault shape fs Memory → ⊥
memory_is_no_fault nothing fs h = h
memory_is_no_fault (and A form shape) fs h = elim h [
  | inl one ↦ elim one [ inl json ↦ not_memory form.absent form.number form.read _ json | inr rule ↦ absurd (cc (rule.0)) ]
  | inr more ↦ memory_is_no_fault shape fs more
]

-- What members read as can be written.
pub values_can_be : (shape : Shape) → AreForms shape → (fs : Fields) (xs : Values shape) → values_in shape fs ≡ Some xs → CanBeAll shape xs
values_can_be nothing laws fs xs h = tt
values_can_be (and A form shape) laws fs xs h =
    let e = both-some _ _ xs h in
    (can_be_from form laws.0 _ xs.0 _ refl e.0, values_can_be shape laws.1 fs xs.1 e.1)

-- Members that stand as they are written read as what was written.
pub values_read_back : (shape : Shape) → AreForms shape → (xs : Values shape) (fs : Fields) → CanBeAll shape xs → StandAll shape xs fs → values_in shape fs ≡ Some xs
values_read_back nothing laws xs fs can stand = refl
values_read_back (and A form shape) laws xs fs can stand =
    ap (λ a. both a (values_in shape fs)) (reads_back form laws.0 xs.0 fs can.0 stand.0)
    ∙ ap (both (Some xs.0)) (values_read_back shape laws.1 xs.1 fs can.1 stand.1)
