-- A commit without parents whose pack begins an entity well is the entity: it alone lies below itself, and nothing is wrong with it.
use Rattle.std.proofs.Common.{◌≡◌, ℕ, zero, suc, true, List, [], ◌∷◌, length, Contains, Ok, refl, sym, ◌∙◌, ap, subst, arith, append-nil, ◌==◌}
use Rattle.std.specs.List.{AllByRecursion}
use Rattle.std.specs.List.Sorted.{IsStrictlySortedBy}
use Rattle.std.proofs.lemmas.List.Sorted.{IsPermutation-refl}
use Rattle.std.proofs.lemmas.Option.{same_Some}
use Rattle.gb_text.specs.declared.id.Id.{Id}
use Rattle.gb_text.specs.declared.id.Name.{Name}
use Rattle.git_object.specs.declared.commit.Commit.{Commit}
use Rattle.object_store.specs.Held.{Objects}
use Rattle.object_store.specs.Typed.{commit_at}
use Rattle.commit_walk.specs.Below.{IsBelow, head, parent}
use Rattle.commit_walk.specs.Distinct.{AreDistinct}
use Rattle.commit_walk.proofs.DistinctLemmas.{AreDistinct-nil, AreDistinct-push, Contains-first, Contains-nil, Contains-one}
use Rattle.dag_graph.specs.Faults.{IsFaultless, IsRoot}
use Rattle.dag_graph.specs.declared.fault.GraphFault.TheVariants as graph
use Rattle.dag_graph.specs.declared.node.Node.{Node}
use Rattle.op_kind.specs.Meaning.{KeepsLaws, Meaning}
use Rattle.dag_entity.specs.Entities.{IsEntity}
use Rattle.dag_entity.specs.Order.{Rise}
use Rattle.dag_entity.specs.Extending.{Begins, begun}
use Rattle.dag_entity.specs.Heads.{IsGreatestIn}
use Rattle.dag_entity.specs.Judging.{AllFollowAnswers, later_ops}
use Rattle.dag_entity.specs.Loading.{AreAllLoaded, node_of}
use Rattle.dag_entity.specs.Nodes.{IsNodeBelow, ids_of}
use Rattle.dag_entity.specs.declared.entity.Loaded.{Loaded}
use Rattle.dag_entity.specs.declared.entity.Placed.{Placed}
use Rattle.dag_entity.proofs.EntityLemmas.{IsGood, greatest, root_clock_is, valid}
use Rattle.dag_entity.proofs.GraphLemmas.{nodes_of}
use Rattle.dag_entity.proofs.ReadLemmas.{in_order}

module _ {Op State Row : Type 0} (k : Meaning Op State Row) (laws : KeepsLaws k) (objects : Objects) (id : Id) (authors : List Id) (node : Loaded Op) (create : ℕ)
    (begins : Begins k objects id authors node create) where
  -- the commit's name, the only head
  abbrev top : Name
  top = node.placed.commit

  -- the heads
  abbrev tops : List Name
  tops = top ∷ []

  -- all commits below, with their packs
  abbrev loaded : List (Loaded Op)
  loaded = node ∷ []

  -- ---- what lies below the commit: itself

  -- what lies below is the commit
  alone : (name : Name) → IsBelow objects tops name → top ≡ name
  alone name (head c) = Contains-one top name c
  alone name (parent {high = high} b p) =
      let same : p.commit ≡ begins.is.commit = same_Some p.commit begins.is.commit (sym p.held ∙ ap (commit_at objects) (sym (alone high b)) ∙ begins.is.held) in
      let none : p.commit.parents ≡ [] = ap (λ (c : Commit). c.parents) same ∙ sym begins.is.parents ∙ begins.root in
      absurd (Contains-nil name (subst (λ (l : List Name). Contains l name) none p.names))

  -- and it is all that there is to load
  is_loaded : AreAllLoaded k objects tops loaded
  is_loaded = record {
    all = λ name below. subst (Contains tops) (alone name below) (Contains-first top []);
    each = λ one c. subst (IsNodeBelow k objects tops) (Contains-one node one c) (record { below = head (Contains-first top []); is = begins.is });
    once = AreDistinct-push [] top AreDistinct-nil (Contains-nil top);
  }

  -- ---- the graph of one node

  -- its one node
  only : (one : Node) → Contains (nodes_of loaded) one → node_of node ≡ one
  only one c = Contains-one (node_of node) one c

  -- has no parents
  no_parents : (one : Node) → Contains (nodes_of loaded) one → one.parents ≡ []
  no_parents one c = ap (λ (n : Node). n.parents) (sym (only one c)) ∙ begins.root

  -- so no fault of a graph is there
  faultless : IsFaultless (nodes_of loaded)
  faultless (graph.SecondRoot name) h = h.differ (ap (λ (n : Node). n.name) (sym (only h.one h.at_one) ∙ only h.two h.at_two))
  faultless (graph.ClockOrder high low) h = Contains-nil low (subst (λ (l : List Name). Contains l low) (no_parents h.one h.at_one) h.names)
  faultless (graph.ClockJump high low) h = cc (sym (no_parents h.one h.at_one) ∙ h.single)
  faultless (graph.MergeHasOperations name) h = let none : length h.one.parents ≡ 0 = ap length (no_parents h.one h.at) in omega (arith, none, h.many)

  -- it is the root
  is_root : IsRoot (nodes_of loaded) 0
  is_root = record { within = omega arith; root = begins.root; only = λ other within none. omega (arith, within) }

  -- and its edit clock is the greatest
  edit_is : IsGreatestIn (nodes_of loaded) tops node.placed.pack.edit
  edit_is = record {
    head = top;
    among = Contains-first top [];
    has = record { node = node_of node; at = Contains-first (node_of node) []; is = refl; says = refl };
    most = λ other clock c has. let same : node.placed.pack.edit ≡ clock = ap (λ (n : Node). n.edit) (only has.node has.at) ∙ has.says in omega (arith, same);
  }

  -- ---- nothing is wrong

  -- its operations behind the first may follow
  follow : AllFollowAnswers k (node.placed ∷ []) (λ place. place == 0) (Ok tt)
  follow zero placed at = subst (λ (p : Placed Op). AllByRecursion (λ op. k.is_following op ≡ true) (later_ops k true p.pack.ops)) (same_Some node.placed placed at) begins.follow
  follow (suc place) placed at = absurd (cc at)

  -- all that is asked of an entity's commits is so of it
  good : IsGood k objects tops loaded is_loaded id authors laws 0 create node.placed.pack.edit
  good = record {
    few = omega arith;
    faultless = faultless;
    is_root = is_root;
    placed = node.placed;
    at = refl;
    opens = begins.opens;
    follow = follow;
    ids = subst AreDistinct (sym (append-nil (ids_of k node.placed.pack))) begins.once;
    known = λ placed c. subst (λ (p : Placed Op). Contains authors p.pack.author) (Contains-one node.placed placed c) begins.known;
    room = (edit_is, λ one two apart. let two_heads : length tops ≡ 2 = ap length apart.are in absurd (omega (arith, two_heads)));
  }

  -- ---- the entity

  -- a single pack is in order
  one_rises : Rise (node.placed ∷ [])
  unfolding IsStrictlySortedBy
  one_rises = (tt, tt)

  -- the commit is an entity with one pack
  pub first_valid : IsEntity k objects id tops authors (begun id node create)
  first_valid = record {
    valid = valid k objects tops loaded is_loaded id authors laws 0 create node.placed.pack.edit good;
    id_is = refl;
    heads_are = refl;
    packs = in_order k objects tops loaded (node.placed ∷ []) is_loaded (IsPermutation-refl (node.placed ∷ [])) one_rises;
    count = refl;
    edit = greatest k objects tops loaded is_loaded node.placed.pack.edit edit_is;
    create = root_clock_is k objects tops loaded is_loaded id authors laws 0 create node.placed.pack.edit good;
  }
