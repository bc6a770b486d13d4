-- A text has a common part exactly when none of its faults holds.
use Rattle.std.proofs.Common.{◌≡◌, ◌≤◌, ◌⊎◌, inl, inr, refl, sym, ap, ◌∙◌, List, [], ◌∷◌, ℕ, zero, suc, Option, Some, None, arith}
use Rattle.std.specs.Prelude.{option_and_then}
use Rattle.std.specs.Option.{option_map}
use Rattle.gb_text.specs.Decimal.{decimal_of}
use Rattle.json_span.specs.Parts.{members_of}
use Rattle.json_span.proofs.BasicLaws.{map_some, map_none}
use Rattle.op_kind.specs.Members.{Fields, fields_of, fields_at, values_of, IsRepeated, Breaks, Lacks, only_value, value_or}
use Rattle.op_kind.specs.Common.{kind_of, time_of, nonce_of, metadata_of, time_at, nonce_in, metadata_at, all_four, parts_of, at_place, common_of, common_at, name_of, RepeatsCommon, FieldsFault, FaultIn, CommonFault}
use Rattle.op_kind.specs.declared.place.Place.{Place}
use Rattle.op_kind.specs.declared.place.Common.{Common}
use Rattle.op_kind.specs.declared.place.Pair.{Pair}
use Rattle.op_kind.specs.declared.fault.OpFault.{OpFault}
use Rattle.op_kind.specs.declared.fault.OpFault.TheVariants.{Memory, NotObject, NoType, UnknownType, BadTime, BadNonce, BadMember, BadText}

-- ---- one member

-- A member that must stand and has no value is repeated or lacking.
pub only-none : {A : Type 0} (read : List ℕ → Option A) (vs : List (List ℕ)) → only_value read vs ≡ None → IsRepeated vs ⊎ Lacks read vs
only-none read [] h = inr (inl refl)
only-none read (v ∷ []) h = inr (inr (inl h))
only-none read (v ∷ w ∷ vs) h = inl (omega arith)

-- A repeated member has no value.
pub only-repeated : {A : Type 0} (read : List ℕ → Option A) (vs : List (List ℕ)) → IsRepeated vs → only_value read vs ≡ None
only-repeated read [] h = refl
only-repeated read (v ∷ []) h = absurd (omega arith)
only-repeated read (v ∷ w ∷ vs) h = refl

pub only-breaks : {A : Type 0} (read : List ℕ → Option A) (vs : List (List ℕ)) → Breaks read vs → only_value read vs ≡ None
only-breaks read [] h = refl
only-breaks read (v ∷ []) h = elim h [ inl e ↦ e | inr e ↦ absurd e ]
only-breaks read (v ∷ w ∷ vs) h = refl

-- A lacking member has no value.
pub only-lacks : {A : Type 0} (read : List ℕ → Option A) (vs : List (List ℕ)) → Lacks read vs → only_value read vs ≡ None
only-lacks read vs h = elim h [ inl e ↦ ap (only_value read) e | inr b ↦ only-breaks read vs b ]

-- A member that may be absent and has no value is repeated or broken.
pub or-none : {A : Type 0} (absent : A) (read : List ℕ → Option A) (vs : List (List ℕ)) → value_or absent read vs ≡ None → IsRepeated vs ⊎ Breaks read vs
or-none absent read [] h = absurd (cc)
or-none absent read (v ∷ []) h = inr (inl h)
or-none absent read (v ∷ w ∷ vs) h = inl (omega arith)

-- A repeated member has no value, also where it may be absent.
pub or-repeated : {A : Type 0} (absent : A) (read : List ℕ → Option A) (vs : List (List ℕ)) → IsRepeated vs → value_or absent read vs ≡ None
or-repeated absent read [] h = absurd (omega arith)
or-repeated absent read (v ∷ vs) h = only-repeated read (v ∷ vs) h

-- A broken member has no value, also where it may be absent.
pub or-breaks : {A : Type 0} (absent : A) (read : List ℕ → Option A) (vs : List (List ℕ)) → Breaks read vs → value_or absent read vs ≡ None
or-breaks absent read [] h = absurd h
or-breaks absent read (v ∷ vs) h = only-breaks read (v ∷ vs) h

-- ---- all four

four-none : (a b : Option ℕ) (c : Option (List ℕ)) (d : Option (List Pair)) → all_four a b c d ≡ None → (a ≡ None) ⊎ ((b ≡ None) ⊎ ((c ≡ None) ⊎ (d ≡ None)))
four-none None b c d h = inl refl
four-none (Some k) None c d h = inr (inl refl)
four-none (Some k) (Some t) None d h = inr (inr (inl refl))
four-none (Some k) (Some t) (Some n) None h = inr (inr (inr refl))
four-none (Some k) (Some t) (Some n) (Some m) h = absurd (cc)

no_kind : (a b : Option ℕ) (c : Option (List ℕ)) (d : Option (List Pair)) → a ≡ None → all_four a b c d ≡ None
no_kind a b c d h = ap (λ x. all_four x b c d) h

no_time : (a b : Option ℕ) (c : Option (List ℕ)) (d : Option (List Pair)) → b ≡ None → all_four a b c d ≡ None
no_time None b c d h = refl
no_time (Some k) b c d h = ap (λ x. all_four (Some k) x c d) h

no_nonce : (a b : Option ℕ) (c : Option (List ℕ)) (d : Option (List Pair)) → c ≡ None → all_four a b c d ≡ None
no_nonce None b c d h = refl
no_nonce (Some k) None c d h = refl
no_nonce (Some k) (Some t) c d h = ap (λ x. all_four (Some k) (Some t) x d) h

no_metadata : (a b : Option ℕ) (c : Option (List ℕ)) (d : Option (List Pair)) → d ≡ None → all_four a b c d ≡ None
no_metadata None b c d h = refl
no_metadata (Some k) None c d h = refl
no_metadata (Some k) (Some t) None d h = refl
no_metadata (Some k) (Some t) (Some n) d h = ap (λ x. all_four (Some k) (Some t) (Some n) x) h

-- ---- the members of an object

repeated_is_none : (fs : Fields) (k : ℕ) → RepeatsCommon fs k → parts_of fs ≡ None
unfolding parts_of kind_of time_of nonce_of metadata_of
repeated_is_none fs zero h = absurd (let low : 1 ≤ zero = h.0 in omega arith)
repeated_is_none fs (suc zero) h = no_kind _ _ _ _ (only-repeated decimal_of _ h.2)
repeated_is_none fs (suc (suc zero)) h = no_time _ _ _ _ (only-repeated time_at _ h.2)
repeated_is_none fs (suc (suc (suc zero))) h = no_nonce _ _ _ _ (only-repeated nonce_in _ h.2)
repeated_is_none fs (suc (suc (suc (suc zero)))) h = no_metadata _ _ _ _ (or-repeated [] metadata_at _ h.2)
repeated_is_none fs (suc (suc (suc (suc (suc k))))) h = absurd (let high : suc (suc (suc (suc (suc k)))) ≤ 4 = h.1 in omega arith)

pub fault_is_none : (fs : Fields) (f : OpFault) → FieldsFault fs f → parts_of fs ≡ None
unfolding parts_of kind_of time_of nonce_of metadata_of
fault_is_none fs Memory h = absurd h
fault_is_none fs NotObject h = absurd h
fault_is_none fs NoType h = no_kind _ _ _ _ (only-lacks decimal_of _ h)
fault_is_none fs (UnknownType n) h = absurd h
fault_is_none fs BadTime h = no_time _ _ _ _ (only-lacks time_at _ h)
fault_is_none fs BadNonce h = no_nonce _ _ _ _ (only-lacks nonce_in _ h)
fault_is_none fs (BadMember k) h = elim h [ inl r ↦ repeated_is_none fs k r | inr b ↦ no_metadata _ _ _ _ (or-breaks [] metadata_at _ b.1) ]
fault_is_none fs (BadText k) h = absurd h

required : {A : Type 0} (read : List ℕ → Option A) (fs : Fields) (k : ℕ) (bad : OpFault) → 1 ≤ k → k ≤ 4 → only_value read (values_of (name_of k) fs) ≡ None → (Lacks read (values_of (name_of k) fs) → FieldsFault fs bad) → (f : OpFault) × FieldsFault fs f
required read fs k bad low high h lacks = elim (only-none read _ h) [ inl r ↦ (BadMember k, inl (low, high, r)) | inr l ↦ (bad, lacks l) ]

no_metadata_fault : (fs : Fields) → metadata_of fs ≡ None → (f : OpFault) × FieldsFault fs f
unfolding metadata_of
no_metadata_fault fs h = elim (or-none [] metadata_at _ h) [ inl r ↦ (BadMember 4, inl (omega arith, omega arith, r)) | inr b ↦ (BadMember 4, inr (refl, b)) ]

pub none_has_fault : (fs : Fields) → parts_of fs ≡ None → (f : OpFault) × FieldsFault fs f
unfolding parts_of kind_of time_of nonce_of
none_has_fault fs h = elim (four-none _ _ _ _ h) [
  | inl one ↦ required decimal_of fs 1 NoType (omega arith) (omega arith) one (λ l. l)
  | inr rest ↦ elim rest [
    | inl two ↦ required time_at fs 2 BadTime (omega arith) (omega arith) two (λ l. l)
    | inr last ↦ elim last [
      | inl three ↦ required nonce_in fs 3 BadNonce (omega arith) (omega arith) three (λ l. l)
      | inr four ↦ no_metadata_fault fs four
    ]
  ]
]

-- ---- the text

in_fields : (p : Place) (fs : Option Fields) (f : OpFault) → FaultIn fs f → option_and_then (common_of p) fs ≡ None
in_fields p None f h = refl
in_fields p (Some fs) f h = ap (option_map (at_place p)) (fault_is_none fs f h)

from_fields : (p : Place) (fs : Option Fields) → option_and_then (common_of p) fs ≡ None → (f : OpFault) × FaultIn fs f
from_fields p None h = (NotObject, refl)
from_fields p (Some fs) h = none_has_fault fs (map_none (at_place p) (parts_of fs) h)

no_memory_in : (fs : Option Fields) → FaultIn fs Memory → ⊥
no_memory_in None h = absurd (cc)
no_memory_in (Some fs) h = h

-- A text with a fault has no common part.
pub fault_means_none : (p : Place) (t : List ℕ) (f : OpFault) → CommonFault t f → common_at p t ≡ None
fault_means_none p t f h = in_fields p (fields_at t) f h

-- A text with no common part has a fault.
pub none_means_fault : (p : Place) (t : List ℕ) → common_at p t ≡ None → (f : OpFault) × CommonFault t f
none_means_fault p t h = from_fields p (fields_at t) h

-- Want of memory is no fault of a text.
pub memory_is_none : (t : List ℕ) → CommonFault t Memory → ⊥
memory_is_none t h = no_memory_in (fields_at t) h

-- ---- places

place_in : (p : Place) (fs : Option Fields) (c : Common) → option_and_then (common_of p) fs ≡ Some c → c.place ≡ p
place_in p None c h = absurd (cc)
place_in p (Some fs) c h = let m = map_some (at_place p) (parts_of fs) c h in ap (λ (c : Common). c.place) (sym m.2)

moved_in : (p q : Place) (fs : Option Fields) (c : Common) → option_and_then (common_of q) fs ≡ Some c → option_and_then (common_of p) fs ≡ Some (record c { place = p })
moved_in p q None c h = absurd (cc)
moved_in p q (Some fs) c h =
    let m = map_some (at_place q) (parts_of fs) c h in
    ap (option_map (at_place p)) m.1 ∙ ap (λ (c : Common). Some (record c { place = p })) m.2

-- What is read has the place that it is read at.
pub common_place : (p : Place) (t : List ℕ) (c : Common) → common_at p t ≡ Some c → c.place ≡ p
common_place p t c h = place_in p (fields_at t) c h

-- At another place the same text gives the same, at that place.
pub common_moved : (p q : Place) (t : List ℕ) (c : Common) → common_at q t ≡ Some c → common_at p t ≡ Some (record c { place = p })
common_moved p q t c h = moved_in p q (fields_at t) c h

members_in : (p : Place) (ms : Option (List (List ℕ × List ℕ))) (c : Common) → option_and_then (common_of p) (option_map fields_of ms) ≡ Some c → (all : List (List ℕ × List ℕ)) × (ms ≡ Some all)
members_in p None c h = absurd (cc)
members_in p (Some all) c h = (all, refl)

-- What has a common part is an object.
pub common_members : (p : Place) (t : List ℕ) (c : Common) → common_at p t ≡ Some c → (all : List (List ℕ × List ℕ)) × (members_of t ≡ Some all)
common_members p t c h = members_in p (members_of t) c h
