-- Members that every operation needs.
use Rattle.std.proofs.Common.{◌≡◌, ◌∙◌, refl, ap, ℕ, List, [], ◌∷◌, codes, Option, Some, None}
use Rattle.std.specs.Prelude.{option_and_then}
use Rattle.std.specs.Option.{option_map}
use Rattle.gb_text.specs.Decimal.{decimal_of}
use Rattle.json_span.proofs.BasicLaws.{map_some}
use Rattle.op_kind.specs.Common.{kind_of, time_of, nonce_of, metadata_of, time_at, nonce_in, parts_of, at_place, common_of, common_at}
use Rattle.op_kind.specs.Members.{Fields, fields_at, values_of, only_value}
use Rattle.op_kind.specs.declared.place.Place.{Place}
use Rattle.op_kind.specs.declared.place.Common.{Common}
use Rattle.op_kind.proofs.ReadLaws.{AllFour, four_are}
use Rattle.op_kind.proofs.TableLaws.{four_back}

-- What is read of a member that must stand is what the one value under its name reads as.
the_only : {A : Type 0} (read : List ℕ → Option A) (vs : List (List ℕ)) (a : A) → only_value read vs ≡ Some a → (v : List ℕ) × (vs ≡ v ∷ []) × (read v ≡ Some a)
the_only read [] a h = absurd (cc (h))
the_only read (v ∷ []) a h = (v, refl, h)
the_only read (v ∷ w ∷ vs) a h = absurd (cc (h))

not_absent : {A : Type 0} (read : List ℕ → Option A) (vs : List (List ℕ)) (a : A) → only_value read vs ≡ Some a → vs ≡ [] → ⊥
not_absent read [] a h none = absurd (cc (h))
not_absent read (v ∷ vs) a h none = absurd (cc (none))

none_by : {A : Type 0} (o : Option A) → ((a : A) → o ≡ Some a → ⊥) → o ≡ None
none_by None h = refl
none_by (Some a) h = absurd (h a refl)

-- the common part has what the four members read as
four_of : (p : Place) (fs : Fields) (c : Common) → common_of p fs ≡ Some c
    → AllFour (kind_of fs) (time_of fs) (nonce_of fs) (metadata_of fs) (record { kind = c.kind; time = c.time; nonce = c.nonce; metadata = c.metadata })
unfolding parts_of
four_of p fs c h =
    let m = map_some (at_place p) (parts_of fs) c h in
    let four = four_are _ _ _ _ m.0 m.1 in
    record {
      kind = four.kind ∙ ap (λ (c : Common). Some c.kind) m.2;
      time = four.time ∙ ap (λ (c : Common). Some c.time) m.2;
      nonce = four.nonce ∙ ap (λ (c : Common). Some c.nonce) m.2;
      metadata = four.metadata ∙ ap (λ (c : Common). Some c.metadata) m.2;
    }

-- ---- what is read stands there once

pub kind_stands : (p : Place) (fs : Fields) (c : Common) → common_of p fs ≡ Some c → (v : List ℕ) × (values_of (codes "type") fs ≡ v ∷ []) × (decimal_of v ≡ Some c.kind)
unfolding kind_of
kind_stands p fs c h = the_only decimal_of (values_of (codes "type") fs) c.kind (four_of p fs c h).kind

pub time_stands : (p : Place) (fs : Fields) (c : Common) → common_of p fs ≡ Some c → (v : List ℕ) × (values_of (codes "timestamp") fs ≡ v ∷ []) × (time_at v ≡ Some c.time)
unfolding time_of
time_stands p fs c h = the_only time_at (values_of (codes "timestamp") fs) c.time (four_of p fs c h).time

pub nonce_stands : (p : Place) (fs : Fields) (c : Common) → common_of p fs ≡ Some c → (v : List ℕ) × (values_of (codes "nonce") fs ≡ v ∷ []) × (nonce_in v ≡ Some c.nonce)
unfolding nonce_of
nonce_stands p fs c h = the_only nonce_in (values_of (codes "nonce") fs) c.nonce (four_of p fs c h).nonce

-- ---- without one of them there is no common part

pub no_kind : (p : Place) (fs : Fields) → values_of (codes "type") fs ≡ [] → common_of p fs ≡ None
unfolding kind_of
no_kind p fs none = none_by (common_of p fs) (λ c h. not_absent decimal_of (values_of (codes "type") fs) c.kind (four_of p fs c h).kind none)

pub no_time : (p : Place) (fs : Fields) → values_of (codes "timestamp") fs ≡ [] → common_of p fs ≡ None
unfolding time_of
no_time p fs none = none_by (common_of p fs) (λ c h. not_absent time_at (values_of (codes "timestamp") fs) c.time (four_of p fs c h).time none)

pub no_nonce : (p : Place) (fs : Fields) → values_of (codes "nonce") fs ≡ [] → common_of p fs ≡ None
unfolding nonce_of
no_nonce p fs none = none_by (common_of p fs) (λ c h. not_absent nonce_in (values_of (codes "nonce") fs) c.nonce (four_of p fs c h).nonce none)

-- With all of them there is one.
pub all_stand : (p : Place) (fs : Fields) (kind time nonce : List ℕ) (c : Common)
    → values_of (codes "type") fs ≡ kind ∷ [] → values_of (codes "timestamp") fs ≡ time ∷ [] → values_of (codes "nonce") fs ≡ nonce ∷ []
    → decimal_of kind ≡ Some c.kind → time_at time ≡ Some c.time → nonce_in nonce ≡ Some c.nonce → metadata_of fs ≡ Some c.metadata
    → common_of p fs ≡ Some (record c { place = p })
unfolding parts_of kind_of time_of nonce_of
all_stand p fs kind time nonce c one two three kind_is time_is nonce_is metadata_is =
    ap (option_map (at_place p)) (four_back _ _ _ _ (record { kind = c.kind; time = c.time; nonce = c.nonce; metadata = c.metadata })
    (ap (only_value decimal_of) one ∙ kind_is)
    (ap (only_value time_at) two ∙ time_is)
    (ap (only_value nonce_in) three ∙ nonce_is)
    metadata_is)

-- The common part of a text is that of its members.
pub by_members : (p : Place) (t : List ℕ) (fs : Fields) → fields_at t ≡ Some fs → common_at p t ≡ common_of p fs
by_members p t fs h = ap (option_and_then (common_of p)) h
