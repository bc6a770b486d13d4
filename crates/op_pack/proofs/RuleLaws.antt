-- The operations of a pack that is read keep the rules of their kind.
use Rattle.std.proofs.Common.{◌≡◌, ◌∙◌, ap, refl, subst, List, [], ◌∷◌, ℕ, Bool, true, false, map, Option, Some, None}
use Rattle.std.specs.Prelude.{if◌then◌else◌, All, Result, Ok, Err, IfOk}
use Rattle.std.specs.List.{AllByRecursion}
use Rattle.std.specs.Str.{IsUtf8, bytes_eq}
use Rattle.std.proofs.lemmas.List.Elements.{All-head, All-tail}
use Rattle.gb_text.specs.declared.id.Id.{Id}
use Rattle.json_span.specs.Grammar.{IsValueText}
use Rattle.json_span.specs.Joined.{IsMemberOf}
use Rattle.json_span.specs.Parts.{members_of, elements_of}
use Rattle.json_span.proofs.AgainLaws.{members_limit, elements_shallower}
use Rattle.json_span.proofs.Utf8Laws.{members_utf8, elements_utf8}
use Rattle.json_span.proofs.BasicLaws.{map_some}
use Rattle.json_span.specs.declared.nest.TheConstants.{MOST_BRACKETS}
use Rattle.op_kind.specs.OpText.{op_brackets}
use Rattle.op_kind.specs.Meaning.{Meaning, KeepsLaws}
use Rattle.op_kind.specs.Members.{Fields, text_at, with_member, fields_of, values_of, value_or}
use Rattle.op_pack.specs.Answers.{AnswersUnlessMemory}
use Rattle.op_pack.specs.Packs.{place_of, pack_at, version_in, PackTextFault, StandFor, IsPackOf}
use Rattle.op_pack.specs.declared.fault.PackFault.{PackFault}
use Rattle.op_pack.specs.Texts.{slices_at, IsPackText}
use Rattle.op_pack.specs.declared.pack.Pack.{Pack}
use Rattle.op_pack.specs.declared.head.TreeHead.{TreeHead}
use Rattle.op_pack.proofs.ExactLaws.{pack_found}

-- ---- the texts of operations

-- UTF-8, and a value text with at most so many brackets open at one place
pub record IsGood (depth : ℕ) (text : List ℕ) : Type 0 where
  pub utf8 : IsUtf8 text
  pub value : IsValueText depth text

good_member : (name : Option (List ℕ)) (value : List ℕ) (fields : Fields) → IsGood MOST_BRACKETS value → AllByRecursion (λ f. IsGood MOST_BRACKETS f.1) fields → AllByRecursion (λ f. IsGood MOST_BRACKETS f.1) (with_member name value fields)
good_member None value fields is all = all
good_member (Some name) value fields is all = (is, all)

good_fields : (ms : List (List ℕ × List ℕ)) → All (λ m. IsUtf8 m.0 × IsUtf8 m.1) ms → All (IsMemberOf MOST_BRACKETS) ms → AllByRecursion (λ f. IsGood MOST_BRACKETS f.1) (fields_of ms)
good_fields [] utf8 value = tt
good_fields (m ∷ ms) utf8 value =
    good_member (text_at m.0) m.1 (fields_of ms)
    (record { utf8 = (All-head (λ m. IsUtf8 m.0 × IsUtf8 m.1) m ms utf8).1; value = (All-head (IsMemberOf MOST_BRACKETS) m ms value).1 })
    (good_fields ms (All-tail (λ m. IsUtf8 m.0 × IsUtf8 m.1) m ms utf8) (All-tail (IsMemberOf MOST_BRACKETS) m ms value))

good_if : (b : Bool) (value : List ℕ) (values : List (List ℕ)) → IsGood MOST_BRACKETS value → AllByRecursion (IsGood MOST_BRACKETS) values → AllByRecursion (IsGood MOST_BRACKETS) (if b then value ∷ values else values)
good_if true value values is all = (is, all)
good_if false value values is all = all

good_values : (name : List ℕ) (fields : Fields) → AllByRecursion (λ f. IsGood MOST_BRACKETS f.1) fields → AllByRecursion (IsGood MOST_BRACKETS) (values_of name fields)
good_values name [] all = tt
good_values name (f ∷ fs) all = good_if (bytes_eq f.0 name) f.1 (values_of name fs) all.0 (good_values name fs all.1)

good_elements : (slices : List (List ℕ)) → All IsUtf8 slices → All (IsValueText op_brackets) slices → AllByRecursion (IsGood op_brackets) slices
good_elements [] utf8 value = tt
good_elements (s ∷ ss) utf8 value =
    (record { utf8 = All-head IsUtf8 s ss utf8; value = All-head (IsValueText op_brackets) s ss value }, good_elements ss (All-tail IsUtf8 s ss utf8) (All-tail (IsValueText op_brackets) s ss value))

some_list : (slices : List (List ℕ)) → Some [] ≡ Some slices → AllByRecursion (IsGood op_brackets) slices
some_list [] h = tt
some_list (s ∷ ss) h = absurd (cc)

good_array : (b : Bool) (value : List ℕ) (slices : List (List ℕ)) → IsGood MOST_BRACKETS value → (if b then Some [] else elements_of value) ≡ Some slices → AllByRecursion (IsGood op_brackets) slices
good_array true value slices is h = some_list slices h
good_array false value slices is h = good_elements slices (elements_utf8 value slices is.utf8 h) (elements_shallower op_brackets value slices is.value h)

good_slices : (value : List ℕ) (slices : List (List ℕ)) → IsGood MOST_BRACKETS value → slices_at value ≡ Some slices → AllByRecursion (IsGood op_brackets) slices
unfolding slices_at
good_slices value slices is h = good_array _ value slices is h

good_or_none : (values slices : List (List ℕ)) → AllByRecursion (IsGood MOST_BRACKETS) values → value_or [] slices_at values ≡ Some slices → AllByRecursion (IsGood op_brackets) slices
good_or_none [] slices all h = some_list slices h
good_or_none (v ∷ []) slices all h = good_slices v slices all.0 h
good_or_none (v ∷ w ∷ vs) slices all h = absurd (cc)

-- The texts of operations in a pack text are UTF-8 and value texts with not too many brackets open.
pub slices_good : (text : List ℕ) (author : Id) (slices : List (List ℕ)) → IsPackText text author slices → AllByRecursion (IsGood op_brackets) slices
slices_good text author slices is =
    let found = map_some fields_of (members_of text) is.fields is.object in
    let all = good_fields found.0 (members_utf8 text found.0 is.utf8 found.1) (members_limit text found.0 found.1) in
    good_or_none (values_of _ is.fields) slices (good_values _ is.fields (subst (AllByRecursion (λ f. IsGood MOST_BRACKETS f.1)) found.2 all)) is.slices_are

-- ---- the operations

module _ {Op State Row : Type 0} (k : Meaning Op State Row) (laws : KeepsLaws k) where
  all_keep : (head : TreeHead) (author : Id) (slices : List (List ℕ)) (ops : List Op) → AllByRecursion (IsGood op_brackets) slices → StandFor k head author slices ops → AllByRecursion k.KeepsRules ops
  all_keep head author [] [] all stand = tt
  all_keep head author [] (o ∷ os) all stand = absurd stand
  all_keep head author (s ∷ ss) [] all stand = absurd stand
  all_keep head author (s ∷ ss) (o ∷ os) all stand = (laws.keeps_rules (place_of head author s) s o all.0.utf8 all.0.value stand.0, all_keep head author ss os all.1 stand.1)

  all_stand : (head : TreeHead) (author : Id) (slices : List (List ℕ)) (ops : List Op) → StandFor k head author slices ops → map (λ o. (k.common_of o).place) ops ≡ map (place_of head author) slices
  all_stand head author [] [] stand = refl
  all_stand head author [] (o ∷ os) stand = absurd stand
  all_stand head author (s ∷ ss) [] stand = absurd stand
  all_stand head author (s ∷ ss) (o ∷ os) stand =
      ap (λ p. p ∷ map (λ o. (k.common_of o).place) os) (laws.stands_there (place_of head author s) s o stand.0)
      ∙ ap (λ ps. place_of head author s ∷ ps) (all_stand head author ss os stand.1)

  -- The operations of a pack keep the rules of their kind.
  pub pack_keeps : (head : TreeHead) (text : List ℕ) (slices : List (List ℕ)) (pack : Pack Op) → IsPackOf k head text slices pack → AllByRecursion k.KeepsRules pack.ops
  pack_keeps head text slices pack is = all_keep head pack.author slices pack.ops (slices_good text pack.author slices is.text_is) is.ops_are

  -- The operations of a pack stand at the places of their texts.
  pub pack_stands : (head : TreeHead) (text : List ℕ) (slices : List (List ℕ)) (pack : Pack Op) → IsPackOf k head text slices pack → map (λ o. (k.common_of o).place) pack.ops ≡ map (place_of head pack.author) slices
  pack_stands head text slices pack is = all_stand head pack.author slices pack.ops is.ops_are

  -- What is answered has operations that keep the rules.
  pub rules_answer : (head : TreeHead) (text : List ℕ) (r : Result (Pack Op) PackFault) → AnswersUnlessMemory (pack_at k head text) (PackTextFault k (version_in head) text) r → IfOk r (λ pack. AllByRecursion k.KeepsRules pack.ops)
  rules_answer head text (Ok pack) h = let found = pack_found k head text pack h in pack_keeps head text found.0 pack found.1
  rules_answer head text (Err f) h = tt
