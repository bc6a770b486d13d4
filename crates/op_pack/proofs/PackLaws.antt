-- A text stands for no pack exactly where it has a fault.
use Rattle.std.proofs.Common.{◌≡◌, ◌∙◌, ◌<◌, ◌+◌, ap, sym, refl, subst, inl, inr, ℕ, zero, suc, List, [], ◌∷◌, Option, Some, None, true, false, Bool, length, arith}
use Rattle.std.specs.Prelude.{option_and_then, if◌then◌else◌, nat_le, Result, Ok, Err, IfOk}
use Rattle.std.specs.Option.{option_map}
use Rattle.std.specs.List.{slice_get}
use Rattle.std.proofs.lemmas.Bool.Decides.{leb_tells}
use Rattle.gb_text.specs.declared.id.Id.{Id}
use Rattle.json_span.proofs.BasicLaws.{map_none}
use Rattle.op_kind.specs.Meaning.{Meaning, KeepsLaws}
use Rattle.op_kind.specs.declared.fault.OpFault.{OpFault}
use Rattle.op_kind.specs.declared.fault.OpFault.TheVariants as op
use Rattle.op_pack.specs.Answers.{AnswersUnlessMemory}
use Rattle.op_pack.specs.Packs.{place_of, ops_at, pack_of, pack_with, pack_at, before, hash_of, PackTextFault, PartsFault, version_in}
use Rattle.op_pack.specs.declared.pack.TheConstants.{MOST_OPERATIONS}
use Rattle.op_pack.specs.Texts.{parts_at}
use Rattle.op_pack.specs.declared.pack.Pack.{Pack}
use Rattle.op_pack.specs.declared.head.TreeHead.{TreeHead}
use Rattle.op_pack.specs.declared.fault.PackFault.{PackFault}
use Rattle.op_pack.specs.declared.fault.PackFault.TheVariants.{Memory, UnknownVersion, NoOps, BadClock, BadPack, BadOperation, TooLarge}

before_none : {A : Type 0} (x : Option A) → before x None ≡ None
before_none None = refl
before_none (Some a) = refl

if_none : {A : Type 0} (b : Bool) (x : Option A) → b ≡ false → (if b then x else None) ≡ None
if_none b x h = ap (λ c. if c then x else None) h

if_same : {A : Type 0} (b : Bool) (x : Option A) → x ≡ None → (if b then x else None) ≡ None
if_same true x h = h
if_same false x h = refl

too_many : (n : ℕ) → MOST_OPERATIONS < n → nat_le n MOST_OPERATIONS ≡ false
too_many n h = elim (leb_tells n MOST_OPERATIONS) [ inl le ↦ absurd (let low = le.1 in omega (arith, low, h)) | inr gt ↦ gt.0 ]

module _ {Op State Row : Type 0} (k : Meaning Op State Row) (laws : KeepsLaws k) (head : TreeHead) (author : Id) where
  -- where a text has a fault there are no operations
  no_ops : (slices : List (List ℕ)) (i : ℕ) (slice : List ℕ) (f : OpFault) → slice_get slices i ≡ Some slice → k.HasFault (version_in head) slice f → ops_at k head author slices ≡ None
  no_ops [] i slice f at h = absurd (cc)
  no_ops (x ∷ xs) zero slice f at h =
      let same : slice ≡ x = cc (at) in
      ap (λ o. before o (ops_at k head author xs)) (laws.no_value (place_of head author x) x f (subst (λ t. k.HasFault (version_in head) t f) same h))
  no_ops (x ∷ xs) (suc i) slice f at h = ap (before (k.read_at (place_of head author x) x)) (no_ops xs i slice f at h) ∙ before_none _

  abbrev HasFaultIn : List (List ℕ) → Type 0
  HasFaultIn slices = (i : ℕ) × (f : OpFault) × (slice : List ℕ) × (slice_get slices i ≡ Some slice) × k.HasFault (version_in head) slice f

  fault_by : (x : List ℕ) (xs : List (List ℕ)) (o : Option Op) → k.read_at (place_of head author x) x ≡ o → (others : Option (List Op)) → before o others ≡ None
      → (others ≡ None → HasFaultIn xs) → HasFaultIn (x ∷ xs)
  fault_by x xs None is others h rest = let f = laws.has_fault (place_of head author x) x is in (0, f.0, x, refl, f.1)
  fault_by x xs (Some o) is None h rest = let r = rest refl in (suc r.0, r.1, r.2, r.3, r.4)
  fault_by x xs (Some o) is (Some others) h rest = absurd (cc)

  -- where there are no operations some text has a fault
  some_fault : (slices : List (List ℕ)) → ops_at k head author slices ≡ None → HasFaultIn slices
  some_fault [] h = absurd (cc)
  some_fault (x ∷ xs) h = fault_by x xs (k.read_at (place_of head author x) x) refl (ops_at k head author xs) h (λ none. some_fault xs none)

module _ {Op State Row : Type 0} (k : Meaning Op State Row) (laws : KeepsLaws k) (head : TreeHead) (id : Id) where
  no_pack : (parts : Option (Id × List (List ℕ))) (f : PackFault) → PartsFault k (version_in head) parts f → option_and_then (pack_of k head id) parts ≡ None
  no_pack None f h = refl
  no_pack (Some parts) (TooLarge n) h = if_none _ _ (too_many (length parts.1) h.0)
  no_pack (Some parts) (BadOperation i f) h = if_same _ _ (ap (option_map (pack_with k head id parts.0)) (no_ops k laws head parts.0 parts.1 i h.0 f h.1 h.2))
  no_pack (Some parts) Memory h = absurd h
  no_pack (Some parts) (UnknownVersion n) h = absurd h
  no_pack (Some parts) NoOps h = absurd h
  no_pack (Some parts) BadClock h = absurd h
  no_pack (Some parts) BadPack h = absurd h

  some_cause : (parts : Option (Id × List (List ℕ))) → option_and_then (pack_of k head id) parts ≡ None → (f : PackFault) × PartsFault k (version_in head) parts f
  some_cause None h = (BadPack, refl)
  some_cause (Some parts) h = elim (leb_tells (length parts.1) MOST_OPERATIONS) [
    | inl le ↦
        let none = map_none (pack_with k head id parts.0) (ops_at k head parts.0 parts.1) (sym (ap (λ b. if b then option_map (pack_with k head id parts.0) (ops_at k head parts.0 parts.1) else None) le.0) ∙ h) in
        let r = some_fault k laws head parts.0 parts.1 none in
        (BadOperation r.0 r.1, (r.2, r.3, r.4))
    | inr gt ↦ (TooLarge (MOST_OPERATIONS + 1), (gt.1, refl))
  ]

module _ {Op State Row : Type 0} (k : Meaning Op State Row) (laws : KeepsLaws k) where
  -- A text with a fault stands for no pack.
  pub text_fault_means_none : (head : TreeHead) (text : List ℕ) (f : PackFault) → PackTextFault k (version_in head) text f → pack_at k head text ≡ None
  unfolding pack_at PackTextFault
  text_fault_means_none head text f h = no_pack k laws head (hash_of text) (parts_at text) f h

  -- A text that stands for no pack has a fault.
  pub none_means_text_fault : (head : TreeHead) (text : List ℕ) → pack_at k head text ≡ None → (f : PackFault) × PackTextFault k (version_in head) text f
  unfolding pack_at PackTextFault
  none_means_text_fault head text h = some_cause k laws head (hash_of text) (parts_at text) h

  -- A text that stands for a pack has no fault.
  pub some_means_sound : (head : TreeHead) (text : List ℕ) (pack : Pack Op) → pack_at k head text ≡ Some pack → (f : PackFault) → PackTextFault k (version_in head) text f → ⊥
  some_means_sound head text pack is f fault = let none : None ≡ Some pack = sym (text_fault_means_none head text f fault) ∙ is in absurd (cc (none))

  no_memory_in : (version : ℕ) (parts : Option (Id × List (List ℕ))) → PartsFault k version parts Memory → ⊥
  no_memory_in version None h = absurd (cc)
  no_memory_in version (Some parts) h = h

  no_inner_in : (version : ℕ) (parts : Option (Id × List (List ℕ))) (i : ℕ) → PartsFault k version parts (BadOperation i op.Memory) → ⊥
  no_inner_in version None i h = absurd (cc)
  no_inner_in version (Some parts) i h = laws.no_memory version h.0 h.2

  -- Want of memory is no fault of a text.
  pub memory_is_none : (version : ℕ) (text : List ℕ) → PackTextFault k version text Memory → ⊥
  unfolding PackTextFault
  memory_is_none version text h = no_memory_in version (parts_at text) h

  -- Want of memory is no fault of an operation.
  pub inner_memory_is_none : (version : ℕ) (text : List ℕ) (i : ℕ) → PackTextFault k version text (BadOperation i op.Memory) → ⊥
  unfolding PackTextFault
  inner_memory_is_none version text i h = no_inner_in version (parts_at text) i h

  -- What is answered with a pack has no fault.
  pub sound_answer : (head : TreeHead) (text : List ℕ) (r : Result (Pack Op) PackFault) → AnswersUnlessMemory (pack_at k head text) (PackTextFault k (version_in head) text) r → IfOk r (λ _. (f : PackFault) → PackTextFault k (version_in head) text f → ⊥)
  sound_answer head text (Ok pack) h = some_means_sound head text pack h
  sound_answer head text (Err f) h = tt
