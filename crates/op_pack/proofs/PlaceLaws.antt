-- Where the operations of a pack stand, and what its ids are.
use Rattle.std.proofs.Common.{◌≡◌, refl, ap, List, [], ◌∷◌, ℕ, map}
use Rattle.sha2.specs.Sha256.{sha256}
use Rattle.gb_text.specs.declared.id.Id.{Id}
use Rattle.op_kind.specs.Meaning.{Meaning}
use Rattle.op_pack.specs.Packs.{place_of, written_ids, IsPackOf}
use Rattle.op_pack.specs.declared.pack.Pack.{Pack}
use Rattle.op_pack.specs.declared.head.TreeHead.{TreeHead}

-- An operation has the hash of its text for its id, and the author and the clocks of its pack.
pub place_is : (head : TreeHead) (author : Id) (slice : List ℕ) → place_of head author slice ≡ record { id = record { bytes = sha256 slice }; author = author; edit = head.edit; create = head.create }
place_is head author slice = refl

module _ {Op State Row : Type 0} (k : Meaning Op State Row) where
  -- The id of a pack is the hash of its text.
  pub id_is_hash : (head : TreeHead) (text : List ℕ) (slices : List (List ℕ)) (pack : Pack Op) → IsPackOf k head text slices pack → pack.id.bytes ≡ sha256 text
  id_is_hash head text slices pack is = ap (λ (id : Id). id.bytes) is.id_is

  -- A pack has the version and the clocks of its tree.
  pub head_is : (head : TreeHead) (text : List ℕ) (slices : List (List ℕ)) (pack : Pack Op) → IsPackOf k head text slices pack
      → (pack.version ≡ head.version) × (pack.edit ≡ head.edit) × (pack.create ≡ head.create)
  head_is head text slices pack is = (is.version_is, is.edit_is, is.create_is)

  -- The ids of operations that are written are the hashes of their texts.
  pub ids_are_hashes : (ops : List Op) → map (λ (id : Id). id.bytes) (written_ids k ops) ≡ map (λ op. sha256 (k.written op)) ops
  ids_are_hashes [] = refl
  ids_are_hashes (o ∷ os) = ap (λ (rest : List (List ℕ)). sha256 (k.written o) ∷ rest) (ids_are_hashes os)
