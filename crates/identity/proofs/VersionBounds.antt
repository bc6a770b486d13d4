-- What a version may say, and what the faults of a chain report.
use Rattle.std.proofs.lemmas.Option.{same_Some}
use Rattle.std.proofs.lemmas.Slice.Eq.{bytes_eq-Decides}
use Rattle.std.proofs.Common.{◌≡◌, ◌≢◌, ◌≤◌, ◌↔◌, ◌∙◌, refl, sym, ap, subst, List, [], ◌∷◌, ℕ, length, Bool, true, false, Some, None, Option}
use Rattle.std.specs.Prelude.{IsTrue, codes, if◌then◌else◌}
use Rattle.std.specs.Option.{option_map}
use Rattle.std.specs.Str.{bytes_eq}
use Rattle.sha2.specs.Sha256.{sha256}
use Rattle.gb_text.specs.Rules.{is_line_text}
use Rattle.gb_text.specs.declared.id.Id.{Id}
use Rattle.gb_text.specs.declared.id.Name.{Name}
use Rattle.git_object.specs.declared.commit.Commit.{Commit}
use Rattle.json_span.specs.Parts.{elements_of}
use Rattle.json_span.proofs.Examples.{json_span_on_literals}
use Rattle.object_store.specs.Held.{Objects}
use Rattle.object_store.specs.Typed.{commit_at}
use Rattle.op_kind.specs.Common.{nonce_in, nonce_of, time_at}
use Rattle.op_kind.specs.Members.{Fields, fields_at, values_of, only_value, value_or}
use Rattle.op_kind.specs.Nonces.{IsNonce}
use Rattle.op_kind.proofs.ReadLaws.{time_is_low, nonce_is_one}
use Rattle.commit_walk.specs.Chain.{Meets}
use Rattle.identity.specs.Commits.{HasNoVersion, version_at, version_text_at}
use Rattle.identity.specs.Persons.{IdentityFaultHolds, IsChain}
use Rattle.identity.specs.Version.{has_element, keys_at, keys_of, line_of, version_of}
use Rattle.identity.specs.declared.fault.IdentityFault.TheVariants as fault
use Rattle.identity.specs.declared.version.Version.{Version}
use Rattle.identity.proofs.NoFaultLemmas.{no_fault}
use Rattle.identity.proofs.VersionLemmas.{is_version, empty_or_line}

-- ---- texts, time and nonce

line_is : (name : List ℕ) (fs : Fields) (t : List ℕ) → line_of name fs ≡ Some t → IsTrue (is_line_text t)
line_is name fs t h = empty_or_line (values_of name fs) t h

pub name_is_line : (text : List ℕ) (v : Version) → version_of text ≡ Some v → IsTrue (is_line_text v.name)
name_is_line text v h = let is = is_version text v h in line_is (codes "name") is.fields v.name is.name

pub login_is_line : (text : List ℕ) (v : Version) → version_of text ≡ Some v → IsTrue (is_line_text v.login)
login_is_line text v h = let is = is_version text v h in line_is (codes "login") is.fields v.login is.login

pub picture_is_line : (text : List ℕ) (v : Version) → version_of text ≡ Some v → IsTrue (is_line_text v.avatar_url)
picture_is_line text v h = let is = is_version text v h in line_is (codes "avatar_url") is.fields v.avatar_url is.avatar_url

-- what an only value reads as, it reads as
only_reads : {A : Type 0} (read : List ℕ → Option A) (values : List (List ℕ)) (a : A) → only_value read values ≡ Some a → (v : List ℕ) × (read v ≡ Some a)
only_reads read [] a h = absurd (cc (h))
only_reads read (v ∷ []) a h = (v, h)
only_reads read (v ∷ w ∷ vs) a h = absurd (cc (h))

pub time_is_bounded : (text : List ℕ) (v : Version) → version_of text ≡ Some v → v.time ≤ 9223372036854775807
time_is_bounded text v h =
    let is = is_version text v h in
    let read = only_reads time_at (values_of (codes "unix_time") is.fields) v.time is.time in
    time_is_low read.0 v.time read.1

nonce_reads : (fs : Fields) (n : List ℕ) → nonce_of fs ≡ Some n → IsNonce n
unfolding nonce_of
nonce_reads fs n h = let read = only_reads nonce_in (values_of (codes "nonce") fs) n h in nonce_is_one read.0 n read.1

pub nonce_is_bounded : (text : List ℕ) (v : Version) → version_of text ≡ Some v → (20 ≤ length v.nonce) × (length v.nonce ≤ 64)
nonce_is_bounded text v h = let is = is_version text v h in let nonce = nonce_reads is.fields v.nonce is.nonce in (nonce.least, nonce.most)

-- ---- keys

-- a list has an element
abbrev HasElement : List ℕ → Type 0
HasElement value = (one : List ℕ) × (more : List (List ℕ)) × (elements_of value ≡ Some (one ∷ more))

null_has_none : elements_of (codes "null") ≡ None
unfolding json_span_on_literals
null_has_none = refl

some_element : (o : Option (List (List ℕ))) → option_map has_element o ≡ Some true → (one : List ℕ) × (more : List (List ℕ)) × (o ≡ Some (one ∷ more))
some_element None h = absurd (cc (h))
some_element (Some []) h = absurd (cc (same_Some false true h))
some_element (Some (one ∷ more)) h = (one, more, refl)

keys_told : (value : List ℕ) (null : Bool) → (if null then Some false else option_map has_element (elements_of value)) ≡ Some true → HasElement value
keys_told value true h = absurd (cc (same_Some false true h))
keys_told value false h = some_element (elements_of value) h

keys_read : (value : List ℕ) → HasElement value → keys_at value ≡ Some true
keys_read value has = by (bytes_eq value (codes "null")) refl
  where
    by : (null : Bool) → bytes_eq value (codes "null") ≡ null → keys_at value ≡ Some true
    by true is =
        let same : value ≡ codes "null" = (bytes_eq-Decides value (codes "null")).0 is in
        absurd (cc (sym null_has_none ∙ ap elements_of (sym same) ∙ has.2))
    by false is = ap (λ b. if b then Some false else option_map has_element (elements_of value)) is ∙ ap (option_map has_element) has.2

-- the one value under the name of keys has an element
abbrev HasKeys : List (List ℕ) → Type 0
HasKeys values = (value : List ℕ) × (one : List ℕ) × (more : List (List ℕ)) × (values ≡ value ∷ []) × (elements_of value ≡ Some (one ∷ more))

keys_only : (values : List (List ℕ)) → value_or false keys_at values ≡ Some true → HasKeys values
keys_only [] h = absurd (cc (same_Some false true h))
keys_only (v ∷ []) h = let has = keys_told v (bytes_eq v (codes "null")) h in (v, has.0, has.1, refl, has.2)
keys_only (v ∷ w ∷ vs) h = absurd (cc (h))

pub keys_are_elements : (text : List ℕ) (v : Version) (fs : Fields) → version_of text ≡ Some v → fields_at text ≡ Some fs
    → (v.has_keys ≡ true)
    ↔ ((value one : List ℕ) × (more : List (List ℕ)) × (values_of (codes "pub_keys") fs ≡ value ∷ []) × (elements_of value ≡ Some (one ∷ more)))
keys_are_elements text v fs h object =
    let is = is_version text v h in
    let same : is.fields ≡ fs = same_Some is.fields fs (sym is.object ∙ object) in
    let keys : keys_of fs ≡ Some v.has_keys = ap keys_of (sym same) ∙ is.keys in (
      λ has. keys_only (values_of (codes "pub_keys") fs) (keys ∙ ap Some has),
      λ has. same_Some v.has_keys true (sym keys ∙ ap (value_or false keys_at) has.3 ∙ keys_read has.0 (has.1, has.2, has.4)),
    )

-- ---- faults

-- the walk meets this commit, whose version has keys
abbrev HasKeyed : Objects → Name → Name → Type 0
HasKeyed objects head name = Meets objects head name × ((version : Version) × (version_at objects name ≡ Some version) × (version.has_keys ≡ true))

keyed_so : (objects : Objects) (head at name : Name) → name ≡ at → HasKeyed objects head at → HasKeyed objects head name
keyed_so objects head at name same has = subst (HasKeyed objects head) (sym same) has

pub keys_reported : (objects : Objects) (id : Id) (head name : Name) → IdentityFaultHolds objects id head (fault.KeysPresent name)
    ↔ (Meets objects head name × ((version : Version) × (version_at objects name ≡ Some version) × (version.has_keys ≡ true)))
keys_reported objects id head name =
    (λ h. keyed_so objects head h.0 name h.2.0 (h.1, (h.2.1, h.2.2, h.2.3)), λ h. (name, h.0, (refl, h.1.0, h.1.1, h.1.2)))

pub keys_of_head : (objects : Objects) (head name : Name) → HasNoVersion objects head (fault.KeysPresent name)
    ↔ ((name ≡ head) × ((version : Version) × (version_at objects head ≡ Some version) × (version.has_keys ≡ true)))
keys_of_head objects head name = (λ h. (h.0, (h.1, h.2, h.3)), λ h. (h.0, h.1.0, h.1.1, h.1.2))

pub keys_refuse : (objects : Objects) (id : Id) (head name : Name) (version : Version) → Meets objects head name → version_at objects name ≡ Some version → version.has_keys ≡ true
    → IsChain objects id head → ⊥
keys_refuse objects id head name version meets is keys chain = no_fault objects id head (fault.KeysPresent name) chain (name, meets, (refl, version, is, keys))

-- an id of these bytes
abbrev id_of : List ℕ → Id
id_of bytes = record { bytes = bytes }

pub wrong_id : (objects : Objects) (id : Id) (head : Name) (found : Id) → IdentityFaultHolds objects id head (fault.WrongId found)
    ↔ ((root : Name) × (commit : Commit) × (text : List ℕ) × (version : Version) × Meets objects head root × (commit_at objects root ≡ Some commit)
    × (commit.parents ≡ []) × (version_text_at objects root ≡ Some text) × (version_of text ≡ Some version) × (found.bytes ≡ sha256 text) × (found ≢ id))
wrong_id objects id head found = (
  λ h. (h.1.root, h.1.commit, h.0, h.1.version, h.1.meets.meets, h.1.meets.held, h.1.no_parents, h.1.holds, h.1.reads, ap (λ (i : Id). i.bytes) h.2, h.3),
  λ h. (
    h.2,
    record { root = h.0; commit = h.1; meets = record { meets = h.4; held = h.5 }; no_parents = h.6; holds = h.7; version = h.3; reads = h.8 },
    ap id_of h.9,
    h.10,
  ),
)
