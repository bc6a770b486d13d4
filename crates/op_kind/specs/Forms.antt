-- The forms of members that kinds have, and the faults of such members.
use Rattle.std.specs.Prelude.{◌≡◌, ◌⊎◌, ℕ, List, [], ◌∷◌, ◌++◌, codes, Option, Some, option_and_then, if◌then◌else◌}
use Rattle.std.specs.Str.{bytes_eq}
use Rattle.gb_text.specs.Digits.{id_of}
use Rattle.gb_text.specs.declared.id.Id.{Id}
use Rattle.json_span.specs.Parts.{elements_of}
use Rattle.op_kind.specs.Members.{text_at, IsRepeated, Breaks, Lacks}
use Rattle.op_kind.specs.declared.fault.OpFault.{OpFault}
use Rattle.op_kind.specs.declared.fault.OpFault.TheVariants.{BadMember}

-- an id: a text of 64 lower-case hexadecimal digits
abbrev pub id_at : List ℕ → Option Id
id_at value = option_and_then id_of (text_at value)

-- some texts, and those that further values read as
abbrev pub texts_from : List (List ℕ) → List (List ℕ) → Option (List (List ℕ))
texts_from texts [] = Some texts
texts_from texts (v ∷ vs) = option_and_then (λ t. texts_from (texts ++ t ∷ []) vs) (text_at v)

-- the texts of an array
unfoldable pub elements_at : List ℕ → Option (List (List ℕ))
elements_at value = option_and_then (texts_from []) (elements_of value)

-- a list of texts: null, or an array of them
abbrev pub texts_at : List ℕ → Option (List (List ℕ))
texts_at value = if bytes_eq value (codes "null") then Some [] else elements_at value

-- The fault of a member that must stand: it is repeated or absent, or its value does not read.
abbrev pub FaultOfOne : {A : Type 0} → ℕ → (List ℕ → Option A) → List (List ℕ) → OpFault → Type 0
FaultOfOne k read values f = (f ≡ BadMember k) × (IsRepeated values ⊎ Lacks read values)

-- The fault of a member that may be absent: it is repeated, or its value does not read.
abbrev pub FaultOfOptional : {A : Type 0} → ℕ → (List ℕ → Option A) → List (List ℕ) → OpFault → Type 0
FaultOfOptional k read values f = (f ≡ BadMember k) × (IsRepeated values ⊎ Breaks read values)
