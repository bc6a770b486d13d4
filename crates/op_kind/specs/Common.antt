-- The members that every operation has.
use Rattle.std.specs.Prelude.{◌≡◌, ◌≤◌, ◌⊎◌, ℕ, ◌-◌, ◌^◌, ◌==◌, nat_le, List, [], codes, Option, Some, None, option_and_then, if◌then◌else◌}
use Rattle.std.specs.Option.{option_map}
use Rattle.std.specs.Str.{bytes_eq}
use Rattle.gb_text.specs.Decimal.{decimal_of}
use Rattle.gb_text.specs.declared.decimal.TheConstants.{GREATEST_TIME}
use Rattle.op_kind.specs.Members.{Fields, text_at, fields_at, values_of, IsRepeated, Breaks, Lacks, only_value, value_or}
use Rattle.op_kind.specs.Nonces.{nonce_at}
use Rattle.op_kind.specs.Metadata.{pairs_at}
use Rattle.op_kind.specs.declared.place.Place.{Place}
use Rattle.op_kind.specs.declared.place.Common.{Common}
use Rattle.op_kind.specs.declared.place.Pair.{Pair}
use Rattle.op_kind.specs.declared.fault.OpFault.{OpFault}
use Rattle.op_kind.specs.declared.fault.OpFault.TheVariants.{Memory, NotObject, NoType, UnknownType, BadTime, BadNonce, BadMember, BadText}

-- ---- what the value of a member reads as

-- a number within the limit
abbrev pub within_limit : ℕ → Option ℕ
within_limit n = if nat_le n GREATEST_TIME then Some n else None

-- a time: a plain decimal within the limit
abbrev pub time_at : List ℕ → Option ℕ
time_at value = option_and_then within_limit (decimal_of value)

-- a nonce: a text that is base64 of 20 to 64 bytes
abbrev pub nonce_in : List ℕ → Option (List ℕ)
nonce_in value = option_and_then nonce_at (text_at value)

-- metadata: null, or an object of texts with distinct keys
abbrev pub metadata_at : List ℕ → Option (List Pair)
metadata_at value = if bytes_eq value (codes "null") then Some [] else pairs_at value

-- ---- the common part

-- the members by their numbers
abbrev pub name_of : ℕ → List ℕ
name_of k = if k == 1 then codes "type" else if k == 2 then codes "timestamp" else if k == 3 then codes "nonce" else codes "metadata"

-- the number of the type
unfoldable pub kind_of : Fields → Option ℕ
kind_of fs = only_value decimal_of (values_of (codes "type") fs)

-- the time
unfoldable pub time_of : Fields → Option ℕ
time_of fs = only_value time_at (values_of (codes "timestamp") fs)

-- the nonce
unfoldable pub nonce_of : Fields → Option (List ℕ)
nonce_of fs = only_value nonce_in (values_of (codes "nonce") fs)

-- the metadata, which may be absent
unfoldable pub metadata_of : Fields → Option (List Pair)
metadata_of fs = value_or [] metadata_at (values_of (codes "metadata") fs)

-- What the members say.
pub record Parts : Type 0 where
  pub kind : ℕ
  pub time : ℕ
  pub nonce : List ℕ
  pub metadata : List Pair

-- all four, if each reads
abbrev pub all_four : Option ℕ → Option ℕ → Option (List ℕ) → Option (List Pair) → Option Parts
all_four None _ _ _ = None
all_four (Some k) None _ _ = None
all_four (Some k) (Some t) None _ = None
all_four (Some k) (Some t) (Some n) None = None
all_four (Some k) (Some t) (Some n) (Some m) = Some (record { kind = k; time = t; nonce = n; metadata = m })

-- what the members of an object say
unfoldable pub parts_of : Fields → Option Parts
parts_of fs = all_four (kind_of fs) (time_of fs) (nonce_of fs) (metadata_of fs)

-- the same at a place
abbrev pub at_place : Place → Parts → Common
at_place p x = record { place = p; kind = x.kind; time = x.time; nonce = x.nonce; metadata = x.metadata }

-- the common part that an object's members give at a place
abbrev pub common_of : Place → Fields → Option Common
common_of p fs = option_map (at_place p) (parts_of fs)

-- The common part of an operation's text at a place.
abbrev pub common_at : Place → List ℕ → Option Common
common_at p text = option_and_then (common_of p) (fields_at text)

-- ---- its faults

-- the member with a number is one that every operation has, and is repeated
abbrev pub RepeatsCommon : Fields → ℕ → Type 0
RepeatsCommon fs k = (1 ≤ k) × (k ≤ 4) × IsRepeated (values_of (name_of k) fs)

-- the member is the metadata, and is not of its form
abbrev pub BreaksMetadata : Fields → ℕ → Type 0
BreaksMetadata fs k = (k ≡ 4) × Breaks metadata_at (values_of (codes "metadata") fs)

-- The fault holds of an object's members. Where a member is repeated, what either occurrence breaks holds too.
abbrev pub FieldsFault : Fields → OpFault → Type 0
FieldsFault fs Memory = ⊥
FieldsFault fs NotObject = ⊥
FieldsFault fs NoType = Lacks decimal_of (values_of (codes "type") fs)
FieldsFault fs (UnknownType n) = ⊥
FieldsFault fs BadTime = Lacks time_at (values_of (codes "timestamp") fs)
FieldsFault fs BadNonce = Lacks nonce_in (values_of (codes "nonce") fs)
FieldsFault fs (BadMember k) = RepeatsCommon fs k ⊎ BreaksMetadata fs k
FieldsFault fs (BadText k) = ⊥

-- the fault holds: that there are no members, or one of the members
abbrev pub FaultIn : Option Fields → OpFault → Type 0
FaultIn None f = f ≡ NotObject
FaultIn (Some fs) f = FieldsFault fs f

-- The fault holds of a text's common part.
abbrev pub CommonFault : List ℕ → OpFault → Type 0
CommonFault text f = FaultIn (fields_at text) f
