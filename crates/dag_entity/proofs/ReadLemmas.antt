-- From a walk over commits to an entity: the nodes of what was loaded, what stops the reading, and the packs in order.
use Rattle.std.proofs.Common.{◌≡◌, ◌≢◌, inl, inr, ◌≤◌, ◌+◌, ◌*◌, ℕ, List, [], length, map, All, get_or, Contains, Some, option_and_then, IsPermutation, refl, sym, ◌∙◌, ap, subst, arith}
use Rattle.std.specs.List.{AllByRecursion, AllPairs}
use Rattle.std.proofs.lemmas.Simd.{map-map}
use Rattle.std.proofs.lemmas.List.{length-map}
use Rattle.std.proofs.lemmas.List.Elements.{All-contains, All-map, Contains-get_or}
use Rattle.gb_text.specs.declared.id.Id.{Id}
use Rattle.gb_text.specs.declared.id.Name.{Name}
use Rattle.git_object.specs.declared.commit.Commit.{Commit}
use Rattle.object_store.specs.Held.{Objects}
use Rattle.commit_walk.specs.Answers.{ReadsBelow, WalkRefused}
use Rattle.commit_walk.specs.Below.{AreBelow, IsBelow, IsClosed, IsCommit, names_of}
use Rattle.commit_walk.specs.declared.below.Met.{Met}
use Rattle.commit_walk.specs.declared.fault.WalkFault.TheVariants as walk
use Rattle.commit_walk.specs.declared.fault.WalkStop.{WalkStop}
use Rattle.commit_walk.specs.declared.fault.WalkStop.TheVariants as stop
use Rattle.commit_walk.proofs.DistinctLemmas.{Contains-from_map, Contains-map}
use Rattle.commit_pack.specs.Packs.{CommitPackFaultHolds, pack_under}
use Rattle.commit_pack.specs.declared.fault.CommitPackFault.{CommitPackFault}
use Rattle.commit_pack.specs.declared.fault.CommitPackFault.TheVariants as pack
use Rattle.dag_graph.specs.Nodes.{AreNodes, names_of as node_names}
use Rattle.dag_graph.specs.declared.node.Node.{Node}
use Rattle.op_kind.specs.Meaning.{Meaning}
use Rattle.dag_entity.specs.Entities.{AreAllInOrder, AreOneOrTwo, KeepsRules, ReadsEach}
use Rattle.dag_entity.specs.Order.{Rise, commits_of}
use Rattle.dag_entity.specs.Faults.{EntityFaultHolds}
use Rattle.dag_entity.specs.Heads.{HaveHeads}
use Rattle.dag_entity.specs.Loading.{AreAllLoaded, CannotLoad, Lineage, lineage_of_loaded, lineage_of_met, loaded_names, node_of, placed_of}
use Rattle.dag_entity.specs.Nodes.{IsCommitBelow, pack_at}
use Rattle.dag_entity.specs.Stops.{Refused, pack_stop, walk_stop}
use Rattle.dag_entity.specs.declared.entity.Loaded.{Loaded}
use Rattle.dag_entity.specs.declared.entity.Placed.{Placed}
use Rattle.dag_entity.specs.declared.fault.EntityFault.{EntityFault}
use Rattle.dag_entity.proofs.GraphLemmas.{found}
use Rattle.dag_entity.proofs.LoadLemmas.{Refused-map}
use Rattle.dag_entity.proofs.OrderLemmas.{same_members}

-- ---- the nodes of what was loaded

pub node_names_are : {Op : Type 0} (loaded : List (Loaded Op)) → node_names (map node_of loaded) ≡ loaded_names loaded
node_names_are {Op = Op} loaded = map-map (λ (n : Node). n.name) (node_of {Op = Op}) loaded

pub commit_names_are : {Op : Type 0} (loaded : List (Loaded Op)) → commits_of (map placed_of loaded) ≡ loaded_names loaded
commit_names_are {Op = Op} loaded = map-map (λ (p : Placed Op). p.commit) (placed_of {Op = Op}) loaded

module _ {Op : Type 0} (heads : List Name) (walk : List Met) (loaded : List (Loaded Op)) (closed : IsClosed heads walk) (lineages : map lineage_of_loaded loaded ≡ map lineage_of_met walk) where
  names_are : node_names (map node_of loaded) ≡ names_of walk
  names_are =
      node_names_are loaded ∙ sym (map-map (λ (l : Lineage). l.name) (lineage_of_loaded {Op = Op}) loaded) ∙ ap (map (λ (l : Lineage). l.name)) lineages
      ∙ map-map (λ (l : Lineage). l.name) lineage_of_met walk

  pub have_heads : HaveHeads (map node_of loaded) heads
  have_heads name c = subst (λ (l : List Name). Contains l name) (sym names_are) (closed.heads_met name c)

  -- the parents of a node are nodes
  parents_are_nodes : (node : Node) (name : Name) → Contains (map node_of loaded) node → Contains node.parents name → Contains (node_names (map node_of loaded)) name
  parents_are_nodes node name c p =
      let one = Contains-from_map (node_of {Op = Op}) loaded node c in
      let lineage : Contains (map lineage_of_met walk) (lineage_of_loaded one.0) = subst (λ (l : List Lineage). Contains l (lineage_of_loaded one.0)) lineages (Contains-map (lineage_of_loaded {Op = Op}) loaded one.0 one.1) in
      let met = Contains-from_map lineage_of_met walk (lineage_of_loaded one.0) lineage in
      let parents : node.parents ≡ met.0.parents = ap (λ (n : Node). n.parents) (sym one.2) ∙ ap (λ (l : Lineage). l.parents) (sym met.2) in
      subst (λ (l : List Name). Contains l name) (sym names_are) (closed.parents_met met.0 name met.1 (subst (λ (l : List Name). Contains l name) parents p))

  pub are_nodes : AreOneOrTwo heads → AreNodes (map node_of loaded)
  are_nodes count =
      let none : Name = record { bytes = [] } in
      let first = have_heads (get_or heads 0 none) (Contains-get_or heads 0 none (omega (arith, count.0))) in
      record {
        some = omega (arith, first.1, length-map (map node_of loaded) (λ (n : Node). n.name));
        once = subst (λ (l : List Name). AllPairs (λ (one other : Name). one ≢ other) l) (sym names_are) closed.once;
        closed = parents_are_nodes;
      }

module _ {Op State Row : Type 0} (k : Meaning Op State Row) (objects : Objects) (heads : List Name) where
  module _ (id : Id) (authors : List Id) where
    abbrev Holds : EntityFault → Type 0
    Holds = EntityFaultHolds k objects id heads authors

    -- ---- what stops the reading

    pub walk_refused : (s : WalkStop) → WalkRefused objects heads s → Refused Holds (walk_stop s)
    unfolding EntityFaultHolds
    walk_refused stop.Memory h = tt
    walk_refused stop.Disk h = tt
    walk_refused (stop.Fault (walk.Missing name)) h = (inl h.0, h.1)
    walk_refused (stop.Fault (walk.Damaged name)) h = (inl h.0, h.1)
    walk_refused (stop.Fault (walk.Large name)) h = inr (inr (refl, (name, inl h.0, h.1)))
    walk_refused (stop.Fault (walk.NotCommit name)) h = h
    walk_refused (stop.Fault walk.TooMany) h = inl (refl, inl h)

    pub pack_fault_holds : (name : Name) (commit : Commit) (is : IsCommitBelow objects heads name commit) (f : CommitPackFault) → CommitPackFaultHolds k objects commit.tree f → Holds (pack_stop name f)
    unfolding EntityFaultHolds
    pack_fault_holds name commit is pack.Memory h = absurd h
    pack_fault_holds name commit is pack.Disk h = absurd h
    pack_fault_holds name commit is (pack.Missing n) h = (inr (record { high = name; commit = commit; is = is; needs = h.0 }), h.1)
    pack_fault_holds name commit is (pack.Damaged n) h = (inr (record { high = name; commit = commit; is = is; needs = h.0 }), h.1)
    pack_fault_holds name commit is (pack.Large n) h = inr (inr (refl, (n, inr (record { high = name; commit = commit; is = is; needs = h.0 }), h.1)))
    pack_fault_holds name commit is pack.BadTree h = record { commit = commit; is = is; holds = h }
    pack_fault_holds name commit is (pack.UnknownVersion n) h = record { commit = commit; is = is; holds = h }
    pack_fault_holds name commit is pack.NoOps h = record { commit = commit; is = is; holds = h }
    pack_fault_holds name commit is pack.BadClock h = record { commit = commit; is = is; holds = h }
    pack_fault_holds name commit is pack.BadPack h = record { commit = commit; is = is; holds = h }
    pack_fault_holds name commit is (pack.BadOperation i f) h = record { commit = commit; is = is; holds = h }
    pack_fault_holds name commit is (pack.TooLarge n) h = inr (inl (name, record { commit = commit; is = is; holds = h }))

    -- what keeps commits below the heads from being loaded
    pub loads_refused : (walk : List Met) (f : EntityFault) → ((met : Met) → Contains walk met → IsCommit objects met) → ((name : Name) → Contains (names_of walk) name → IsBelow objects heads name)
        → Refused (CannotLoad k objects walk) f → Refused Holds f
    loads_refused walk f commits below h = Refused-map (CannotLoad k objects walk) Holds each f h
      where
        each : (g : EntityFault) → CannotLoad k objects walk g → Holds g
        each g cannot =
            let commit = commits cannot.met cannot.among in
            let here = below cannot.met.name (Contains-map (λ (m : Met). m.name) walk cannot.met cannot.among) in
            let is : IsCommitBelow objects heads cannot.met.name commit.commit = record { below = here; held = commit.held } in
            subst Holds (sym cannot.is) (pack_fault_holds cannot.met.name commit.commit is cannot.stop (subst (λ (t : Name). CommitPackFaultHolds k objects t cannot.stop) commit.tree cannot.holds))

    pub load_refused : (walk : List Met) (f : EntityFault) → AreBelow objects heads walk → Refused (CannotLoad k objects walk) f → Refused Holds f
    load_refused walk f whole h = loads_refused walk f whole.each whole.only h

  -- ---- how many objects were read

  pub reads_of_walk : (before after : ℕ) → ReadsBelow objects heads before after → ReadsEach objects heads 3 before after
  reads_of_walk before after r = record { names = r.names; once = r.once; each = r.each; few = omega (arith, r.few) }

  pub reads_of_all : (walk : List Met) (before mid after : ℕ) → AreBelow objects heads walk → mid ≤ before + length walk → after ≤ mid + 2 * length walk → ReadsEach objects heads 3 before after
  reads_of_all walk before mid after whole one two = record {
    names = names_of walk;
    once = whole.once;
    each = whole.only;
    few = omega (arith, one, two, length-map walk (λ (m : Met). m.name));
  }

  -- ---- the packs in order

  pub in_order : (loaded : List (Loaded Op)) (packs : List (Placed Op)) → AreAllLoaded k objects heads loaded → IsPermutation (map placed_of loaded) packs → Rise packs → AreAllInOrder k objects heads packs
  in_order loaded packs are moved rise = record {
    all = λ name below.
        let f = found k objects heads loaded are name below in
        let among : Contains packs f.one.placed = (same_members (map placed_of loaded) packs moved f.one.placed).0 (Contains-map (placed_of {Op = Op}) loaded f.one f.among) in
        subst (Contains (commits_of packs)) f.named (Contains-map (λ (p : Placed Op). p.commit) packs f.one.placed among);
    only = λ placed c. let at = loaded_of placed c in subst (λ (p : Placed Op). IsBelow objects heads p.commit) at.2 (are.each at.0 at.1).below;
    each = λ placed c.
        let at = loaded_of placed c in
        let is = (are.each at.0 at.1).is in
        let has : pack_at k objects at.0.placed.commit ≡ Some at.0.placed.pack = ap (option_and_then (λ (commit : Commit). pack_under k objects commit.tree)) is.held ∙ is.pack in
        subst (λ (p : Placed Op). pack_at k objects p.commit ≡ Some p.pack) at.2 has;
    rise = rise;
  }
    where
      loaded_of : (placed : Placed Op) → Contains packs placed → (one : Loaded Op) × Contains loaded one × (one.placed ≡ placed)
      loaded_of placed c = Contains-from_map (placed_of {Op = Op}) loaded placed ((same_members (map placed_of loaded) packs moved placed).1 c)

module _ {Op State Row : Type 0} (k : Meaning Op State Row) where
  -- what holds of all packs holds of them in another order
  pub rules_moved : (old new : List (Placed Op)) → IsPermutation old new → KeepsRules k old → KeepsRules k new
  rules_moved old new moved all = λ i d within.
      All-contains (λ (p : Placed Op). AllByRecursion k.KeepsRules p.pack.ops) old (get_or new i d) all ((same_members old new moved (get_or new i d)).1 (Contains-get_or new i d within))

  pub rules_placed : (loaded : List (Loaded Op)) → All (λ (one : Loaded Op). AllByRecursion k.KeepsRules one.placed.pack.ops) loaded → KeepsRules k (map placed_of loaded)
  rules_placed loaded all = All-map (λ (p : Placed Op). AllByRecursion k.KeepsRules p.pack.ops) (placed_of {Op = Op}) loaded all
