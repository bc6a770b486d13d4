-- The pack of operations that a text is, what may be wrong with the text, and how a pack is written.
use Rattle.std.specs.Prelude.{◌≡◌, ⊤, ◌<◌, ◌≤◌, nat_le, ℕ, ◌+◌, List, [], ◌∷◌, ◌++◌, map, length, Option, Some, None, option_and_then, if◌then◌else◌, codes}
use Rattle.std.specs.Option.{option_map}
use Rattle.std.specs.List.{slice_get}
use Rattle.hex.specs.Hex.{encode_lower}
use Rattle.sha2.specs.Sha256.{sha256}
use Rattle.gb_text.specs.declared.id.Id.{Id}
use Rattle.json_span.specs.Joined.{joined}
use Rattle.op_kind.specs.Meaning.{Meaning}
use Rattle.op_kind.specs.declared.place.Place.{Place}
use Rattle.op_kind.specs.declared.place.TheConstants.{VERSION}
use Rattle.op_pack.specs.Texts.{IsPackText, parts_at}
use Rattle.op_pack.specs.declared.fault.PackFault.{PackFault}
use Rattle.op_pack.specs.declared.fault.PackFault.TheVariants.{Memory, UnknownVersion, NoOps, BadClock, BadPack, BadOperation, TooLarge}
use Rattle.op_pack.specs.declared.head.TreeHead.{TreeHead}
use Rattle.op_pack.specs.declared.pack.Pack.{Pack}
use Rattle.op_pack.specs.declared.pack.TheConstants.{MOST_OPERATIONS}

-- the id of a text: its SHA-256 (FIPS 180-4)
abbrev pub hash_of : List ℕ → Id
hash_of text = record { bytes = sha256 text }

-- where an operation stands that has this text in a pack with this head and author
abbrev pub place_of : TreeHead → Id → List ℕ → Place
place_of head author slice = record { id = hash_of slice; author = author; edit = head.edit; create = head.create }

-- the version of the format by whose types the operations are read beside a head
abbrev pub version_in : TreeHead → ℕ
version_in head = VERSION

-- one before others, if all are there
abbrev pub before : {A : Type 0} → Option A → Option (List A) → Option (List A)
before None others = None
before (Some a) None = None
before (Some a) (Some others) = Some (a ∷ others)

module _ {Op State Row : Type 0} (k : Meaning Op State Row) where
  -- the operations that texts stand for, each at the place of its text, if each stands for one
  abbrev pub ops_at : TreeHead → Id → List (List ℕ) → Option (List Op)
  ops_at head author [] = Some []
  ops_at head author (slice ∷ slices) = before (k.read_at (place_of head author slice) slice) (ops_at head author slices)

  -- the pack of a text with this id
  abbrev pub pack_with : TreeHead → Id → Id → List Op → Pack Op
  pack_with head id author ops = record { id = id; version = head.version; edit = head.edit; create = head.create; author = author; ops = ops }

  -- the pack of an author and of operations' texts, which are not too many
  abbrev pub pack_of : TreeHead → Id → Id × List (List ℕ) → Option (Pack Op)
  pack_of head id parts = if nat_le (length parts.1) MOST_OPERATIONS then option_map (pack_with head id parts.0) (ops_at head parts.0 parts.1) else None

  -- The pack that a text stands for beside a tree with this head.
  unfoldable pub pack_at : TreeHead → List ℕ → Option (Pack Op)
  pack_at head text = option_and_then (pack_of head (hash_of text)) (parts_at text)

  -- each text stands for the operation beside it, at the place of the text
  abbrev pub StandFor : TreeHead → Id → List (List ℕ) → List Op → Type 0
  StandFor head author [] [] = ⊤
  StandFor head author [] (o ∷ os) = ⊥
  StandFor head author (slice ∷ slices) [] = ⊥
  StandFor head author (slice ∷ slices) (o ∷ os) = (k.read_at (place_of head author slice) slice ≡ Some o) × StandFor head author slices os

  -- The text, beside a tree with this head, is that of the pack, with these texts of operations as they stand: they are not too many, and each stands for an operation of the pack, in order.
  pub record IsPackOf (head : TreeHead) (text : List ℕ) (slices : List (List ℕ)) (pack : Pack Op) : Type 0 where
    pub text_is : IsPackText text pack.author slices
    pub few : length slices ≤ MOST_OPERATIONS
    pub id_is : pack.id ≡ hash_of text
    pub version_is : pack.version ≡ head.version
    pub edit_is : pack.edit ≡ head.edit
    pub create_is : pack.create ≡ head.create
    pub ops_are : StandFor head pack.author slices pack.ops

  -- the fault holds of the operations' texts in a version of the format
  abbrev pub SlicesFault : ℕ → List (List ℕ) → PackFault → Type 0
  SlicesFault version slices Memory = ⊥
  SlicesFault version slices (UnknownVersion n) = ⊥
  SlicesFault version slices NoOps = ⊥
  SlicesFault version slices BadClock = ⊥
  SlicesFault version slices BadPack = ⊥
  SlicesFault version slices (BadOperation i f) = (slice : List ℕ) × (slice_get slices i ≡ Some slice) × k.HasFault version slice f
  SlicesFault version slices (TooLarge n) = (MOST_OPERATIONS < length slices) × (n ≡ MOST_OPERATIONS + 1)

  -- the fault holds of what a text stands for
  abbrev pub PartsFault : ℕ → Option (Id × List (List ℕ)) → PackFault → Type 0
  PartsFault version None f = f ≡ BadPack
  PartsFault version (Some parts) f = SlicesFault version parts.1 f

  -- The fault holds of a pack's text in a version of the format.
  unfoldable pub PackTextFault : ℕ → List ℕ → PackFault → Type 0
  PackTextFault version text f = PartsFault version (parts_at text) f

  -- the ids of operations, in their order: the hash of the text that is written of each
  abbrev pub written_ids : List Op → List Id
  written_ids ops = map (λ o. hash_of (k.written o)) ops

  -- How a pack is written: no white space stands round its operations.
  unfoldable pub pack_text : Id → List Op → List ℕ
  pack_text author ops = codes "{\"author\":{\"id\":\"" ++ (encode_lower author.bytes ++ (codes "\"},\"ops\":[" ++ (joined (map k.written ops) ++ codes "]}")))

  -- each operation keeps the rules of its kind, and may stand where its written text puts it
  abbrev pub MayStand : TreeHead → Id → List Op → Type 0
  MayStand head author [] = ⊤
  MayStand head author (o ∷ os) = (k.KeepsRules o × k.Fits (place_of head author (k.written o)) o) × MayStand head author os

  -- the operations, each at the place of its written text
  abbrev pub placed_ops : TreeHead → Id → List Op → List Op
  placed_ops head author ops = map (λ o. k.placed (place_of head author (k.written o)) o) ops

  -- the pack that a written pack is read as
  abbrev pub written_pack : TreeHead → Id → List Op → Pack Op
  written_pack head author ops = pack_with head (hash_of (pack_text author ops)) author (placed_ops head author ops)
