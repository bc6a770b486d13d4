-- A text has a pack exactly where it is of one.
use Rattle.std.proofs.Common.{◌≡◌, ◌∙◌, ap, sym, refl, subst, List, [], ◌∷◌, ℕ, Bool, true, false, Option, Some, None, length, le-leb, leb-true}
use Rattle.std.specs.Prelude.{option_and_then, if◌then◌else◌, nat_le}
use Rattle.std.specs.Option.{option_map}
use Rattle.gb_text.specs.declared.id.Id.{Id}
use Rattle.json_span.proofs.BasicLaws.{map_some}
use Rattle.op_pack.specs.declared.pack.TheConstants.{MOST_OPERATIONS}
use Rattle.op_kind.specs.Meaning.{Meaning}
use Rattle.op_pack.specs.Packs.{place_of, ops_at, pack_of, pack_with, pack_at, before, hash_of, StandFor, IsPackOf}
use Rattle.op_pack.specs.Texts.{parts_at, IsPackText}
use Rattle.op_pack.specs.declared.pack.Pack.{Pack}
use Rattle.op_pack.specs.declared.head.TreeHead.{TreeHead}
use Rattle.op_pack.proofs.PartsLaws.{parts_found, parts_only}

before_some : {A : Type 0} (x : Option A) (xs : Option (List A)) (all : List A) → before x xs ≡ Some all → (a : A) × (rest : List A) × (x ≡ Some a) × (xs ≡ Some rest) × (all ≡ a ∷ rest)
before_some None xs all h = absurd (cc)
before_some (Some a) None all h = absurd (cc)
before_some (Some a) (Some rest) all h = (a, rest, refl, refl, cc (h))

if_some : {A : Type 0} (b : Bool) (x : Option A) (a : A) → (if b then x else None) ≡ Some a → (b ≡ true) × (x ≡ Some a)
if_some true x a h = (refl, h)
if_some false x a h = absurd (cc)

module _ {Op State Row : Type 0} (k : Meaning Op State Row) where
  stand_from : (head : TreeHead) (author : Id) (slices : List (List ℕ)) (ops : List Op) → ops_at k head author slices ≡ Some ops → StandFor k head author slices ops
  stand_from head author [] [] h = tt
  stand_from head author [] (o ∷ os) h = absurd (cc)
  stand_from head author (s ∷ ss) ops h =
      let parts = before_some (k.read_at (place_of head author s) s) (ops_at k head author ss) ops h in
      subst (StandFor k head author (s ∷ ss)) (sym parts.4) (parts.2, stand_from head author ss parts.1 parts.3)

  ops_from : (head : TreeHead) (author : Id) (slices : List (List ℕ)) (ops : List Op) → StandFor k head author slices ops → ops_at k head author slices ≡ Some ops
  ops_from head author [] [] h = refl
  ops_from head author [] (o ∷ os) h = absurd h
  ops_from head author (s ∷ ss) [] h = absurd h
  ops_from head author (s ∷ ss) (o ∷ os) h = ap (λ x. before x (ops_at k head author ss)) h.0 ∙ ap (before (Some o)) (ops_from head author ss os h.1)

  from_parts : (head : TreeHead) (text : List ℕ) (parts : Option (Id × List (List ℕ))) (pack : Pack Op) → parts_at text ≡ parts → option_and_then (pack_of k head (hash_of text)) parts ≡ Some pack → (slices : List (List ℕ)) × IsPackOf k head text slices pack
  from_parts head text None pack is h = absurd (cc)
  from_parts head text (Some parts) pack is h =
      let some = if_some (nat_le (length parts.1) MOST_OPERATIONS) _ pack h in
      let found = map_some (pack_with k head (hash_of text) parts.0) (ops_at k head parts.0 parts.1) pack some.1 in
      let author = ap (λ (p : Pack Op). p.author) found.2 in
      let ops = found.1 ∙ ap (λ (p : Pack Op). Some p.ops) found.2 in (
        parts.1,
        record {
          text_is = subst (λ a. IsPackText text a parts.1) author (parts_found text parts.0 parts.1 is);
          few = leb-true (length parts.1) MOST_OPERATIONS some.0;
          id_is = sym (ap (λ (p : Pack Op). p.id) found.2);
          version_is = sym (ap (λ (p : Pack Op). p.version) found.2);
          edit_is = sym (ap (λ (p : Pack Op). p.edit) found.2);
          create_is = sym (ap (λ (p : Pack Op). p.create) found.2);
          ops_are = subst (λ a. StandFor k head a parts.1 pack.ops) author (stand_from head parts.0 parts.1 pack.ops ops);
        },
      )

  -- A text that has a pack is of that pack.
  pub pack_found : (head : TreeHead) (text : List ℕ) (pack : Pack Op) → pack_at k head text ≡ Some pack → (slices : List (List ℕ)) × IsPackOf k head text slices pack
  unfolding pack_at
  pack_found head text pack h = from_parts head text (parts_at text) pack refl h

  whole : (head : TreeHead) (text : List ℕ) (slices : List (List ℕ)) (pack : Pack Op) → IsPackOf k head text slices pack → pack_with k head (hash_of text) pack.author pack.ops ≡ pack
  whole head text slices pack is =
      let with : Id → ℕ → ℕ → Option ℕ → Pack Op = λ i v e c. record { id = i; version = v; edit = e; create = c; author = pack.author; ops = pack.ops } in
      ap (λ i. with i head.version head.edit head.create) (sym is.id_is)
      ∙ ap (λ v. with pack.id v head.edit head.create) (sym is.version_is)
      ∙ ap (λ e. with pack.id pack.version e head.create) (sym is.edit_is)
      ∙ ap (λ c. with pack.id pack.version pack.edit c) (sym is.create_is)

  -- A text that is of a pack has it.
  pub pack_only : (head : TreeHead) (text : List ℕ) (slices : List (List ℕ)) (pack : Pack Op) → IsPackOf k head text slices pack → pack_at k head text ≡ Some pack
  unfolding pack_at
  pack_only head text slices pack is =
      let make = pack_with k head (hash_of text) pack.author in
      let made = option_map make (ops_at k head pack.author slices) in
      ap (option_and_then (pack_of k head (hash_of text))) (parts_only text pack.author slices is.text_is)
      ∙ ap (λ b. if b then made else None) (le-leb (length slices) MOST_OPERATIONS is.few)
      ∙ ap (option_map make) (ops_from head pack.author slices pack.ops is.ops_are)
      ∙ ap Some (whole head text slices pack is)
