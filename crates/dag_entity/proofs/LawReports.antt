-- What the faults of an entity report.
use Rattle.std.proofs.Common.{◌≡◌, ◌≢◌, ◌≤◌, ◌<◌, ◌↔◌, ◌⊎◌, inl, inr, ◌∙◌, refl, sym, ap, subst, ℕ, false, List, [], ◌∷◌, length, map, Contains, Option, Some, None}
use Rattle.std.specs.Prelude.{slice_get}
use Rattle.std.specs.Option.{option_map}
use Rattle.std.proofs.lemmas.Option.{slice_get-map, same_Some}
use Rattle.json_span.proofs.BasicLaws.{map_some}
use Rattle.gb_text.specs.declared.id.Id.{Id}
use Rattle.gb_text.specs.declared.id.Name.{Name}
use Rattle.git_object.specs.declared.commit.Commit.{Commit}
use Rattle.git_object.specs.declared.tree.Tree.{Tree}
use Rattle.object_store.specs.Held.{Objects}
use Rattle.object_store.specs.Typed.{tree_at}
use Rattle.commit_walk.proofs.DistinctLemmas.{Contains-map, Contains-from_map}
use Rattle.op_kind.specs.Meaning.{Meaning}
use Rattle.op_pack.specs.Heads.{HeadFault}
use Rattle.op_pack.specs.declared.fault.PackFault.TheVariants as tree_fault
use Rattle.dag_entity.specs.Faults.{EntityFaultHolds}
use Rattle.dag_entity.specs.Nodes.{IsCommitBelow, IsNodeBelow}
use Rattle.dag_entity.specs.declared.entity.Loaded.{Loaded}
use Rattle.dag_entity.specs.declared.fault.EntityFault.TheVariants as fault

-- ---- ids of operations

module _ {Op State Row : Type 0} (k : Meaning Op State Row) where
  -- the id of an operation
  abbrev id_of : Op → Id
  id_of op = (k.common_of op).place.id

  -- the operation at the place of an id
  op_of_id : (ops : List Op) (place : ℕ) (found : Id) → slice_get (map id_of ops) place ≡ Some found → (op : Op) × (slice_get ops place ≡ Some op) × (id_of op ≡ found)
  op_of_id ops place found h = map_some id_of (slice_get ops place) found (sym (slice_get-map id_of ops place) ∙ h)

  -- the id of the operation at a place
  id_of_op : (ops : List Op) (place : ℕ) (op : Op) (found : Id) → slice_get ops place ≡ Some op → id_of op ≡ found → slice_get (map id_of ops) place ≡ Some found
  id_of_op ops place op found at is = slice_get-map id_of ops place ∙ ap (option_map id_of) at ∙ ap Some is

  first_of : (ops : List Op) (op : Op) → slice_get ops 0 ≡ Some op → (later : List Op) × (ops ≡ op ∷ later)
  first_of [] op h = absurd (cc (h))
  first_of (o ∷ later) op h = (later, ap (λ x. x ∷ later) (same_Some o op h))

  among : (ops : List Op) (op : Op) (found : Id) → Contains ops op → id_of op ≡ found → Contains (map id_of ops) found
  among ops op found c is = subst (Contains (map id_of ops)) is (Contains-map id_of ops op c)

-- ---- faults of operations

module _ {Op State Row : Type 0} (k : Meaning Op State Row) (objects : Objects) (id : Id) (heads : List Name) (authors : List Id) where
  pub wrong : (found : Id) → EntityFaultHolds k objects id heads authors (fault.WrongId found)
      ↔ ((node : Loaded Op) × (op : Op) × (later : List Op) × IsNodeBelow k objects heads node × (node.parents ≡ []) × (node.placed.pack.ops ≡ op ∷ later)
      × ((k.common_of op).place.id ≡ found) × (found ≢ id))
  unfolding EntityFaultHolds
  wrong found = (
    λ h. let one = op_of_id k h.node.placed.pack.ops 0 found h.first in
        let all = first_of k h.node.placed.pack.ops one.0 one.1 in
        (h.node, one.0, all.0, h.is.is, h.is.root, all.1, one.2, h.wrong),
    λ t. record {
      node = t.0;
      is = record { is = t.3; root = t.4 };
      first = id_of_op k t.0.placed.pack.ops 0 t.1 found (ap (λ ops. slice_get ops 0) t.5) t.6;
      wrong = t.7;
    },
  )

  pub second : (found : Id) → EntityFaultHolds k objects id heads authors (fault.SecondCreate found)
      ↔ ((node : Loaded Op) × (op : Op) × (place : ℕ) × IsNodeBelow k objects heads node × (slice_get node.placed.pack.ops place ≡ Some op)
      × ((k.common_of op).place.id ≡ found) × (k.is_following op ≡ false) × (node.parents ≡ [] → place ≡ 0 → ⊥))
  unfolding EntityFaultHolds
  second found = (
    λ h. (h.node, h.op, h.place, h.is, h.at, h.named, h.bad, h.later),
    λ t. record { node = t.0; is = t.3; place = t.2; op = t.1; at = t.4; named = t.5; bad = t.6; later = t.7 },
  )

  -- one pack has the operation at two places
  abbrev Within : Id → Type 0
  Within found =
      (node : Loaded Op) × (op other : Op) × (one two : ℕ) × IsNodeBelow k objects heads node × (one ≢ two) × (slice_get node.placed.pack.ops one ≡ Some op)
      × (slice_get node.placed.pack.ops two ≡ Some other) × ((k.common_of op).place.id ≡ found) × ((k.common_of other).place.id ≡ found)

  -- the packs of two commits have it
  abbrev Across : Id → Type 0
  Across found =
      (one two : Loaded Op) × (op other : Op) × IsNodeBelow k objects heads one × IsNodeBelow k objects heads two × (one.placed.commit ≢ two.placed.commit)
      × Contains one.placed.pack.ops op × Contains two.placed.pack.ops other × ((k.common_of op).place.id ≡ found) × ((k.common_of other).place.id ≡ found)

  pub repeated : (found : Id) → EntityFaultHolds k objects id heads authors (fault.RepeatedOperation found) ↔ (Within found ⊎ Across found)
  unfolding EntityFaultHolds
  repeated found = (
    λ h. elim h [
      | inl w ↦ let op = op_of_id k w.node.placed.pack.ops w.one found w.at_one in
          let other = op_of_id k w.node.placed.pack.ops w.two found w.at_two in
          inl (w.node, op.0, other.0, w.one, w.two, w.is, w.differ, op.1, other.1, op.2, other.2)
      | inr a ↦ let op = Contains-from_map (id_of k) a.one.placed.pack.ops found a.in_one in
          let other = Contains-from_map (id_of k) a.two.placed.pack.ops found a.in_two in
          inr (a.one, a.two, op.0, other.0, a.is_one, a.is_two, a.differ, op.1, other.1, op.2, other.2)
    ],
    λ t. elim t [
      | inl w ↦ inl (record {
        node = w.0;
        is = w.5;
        one = w.3;
        two = w.4;
        differ = w.6;
        at_one = id_of_op k w.0.placed.pack.ops w.3 w.1 found w.7 w.9;
        at_two = id_of_op k w.0.placed.pack.ops w.4 w.2 found w.8 w.10;
      })
      | inr a ↦ inr (record {
        one = a.0;
        two = a.1;
        is_one = a.4;
        is_two = a.5;
        differ = a.6;
        in_one = among k a.0.placed.pack.ops a.2 found a.7 a.9;
        in_two = among k a.1.placed.pack.ops a.3 found a.8 a.10;
      })
    ],
  )

  -- ---- faults of packs

  pub author_unknown : (author : Id) → EntityFaultHolds k objects id heads authors (fault.AuthorUnknown author)
      ↔ ((node : Loaded Op) × IsNodeBelow k objects heads node × (node.placed.pack.author ≡ author) × (Contains authors author → ⊥))
  unfolding EntityFaultHolds
  author_unknown author = (λ h. (h.node, h.is, h.wrote, h.unknown), λ t. record { node = t.0; is = t.1; wrote = t.2; unknown = t.3 })

  pub no_create : (name : Name) → EntityFaultHolds k objects id heads authors (fault.NoCreateClock name)
      ↔ ((node : Loaded Op) × IsNodeBelow k objects heads node × (node.placed.commit ≡ name) × (node.parents ≡ []) × (node.placed.pack.create ≡ None))
  unfolding EntityFaultHolds
  no_create name = (
    λ h. (h.node, h.is.is, h.named, h.is.root, h.lacks),
    λ t. record { node = t.0; is = record { is = t.1; root = t.3 }; named = t.2; lacks = t.4 },
  )

  pub merge : (name : Name) → EntityFaultHolds k objects id heads authors (fault.MergeHasOperations name)
      ↔ ((node : Loaded Op) × IsNodeBelow k objects heads node × (node.placed.commit ≡ name) × (2 ≤ length node.parents) × (0 < length node.placed.pack.ops))
  unfolding EntityFaultHolds
  merge name = (λ h. (h.node, h.is, h.named, h.many, h.some), λ t. record { node = t.0; is = t.1; named = t.2; many = t.3; some = t.4 })

  pub version : (name : Name) (n : ℕ) → EntityFaultHolds k objects id heads authors (fault.UnknownVersion name n)
      ↔ ((commit : Commit) × (tree : Tree) × IsCommitBelow objects heads name commit × (tree_at objects commit.tree ≡ Some tree) × HeadFault tree (tree_fault.UnknownVersion n))
  unfolding EntityFaultHolds
  version name n = (
    λ h. (h.commit, h.holds.tree, h.is, h.holds.held, h.holds.fails),
    λ t. record { commit = t.0; is = t.2; holds = record { tree = t.1; held = t.3; fails = t.4 } },
  )
