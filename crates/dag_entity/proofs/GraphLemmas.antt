-- Commits that were loaded as nodes of a graph: what lies below, and what is wrong with the graph, is so of the objects, and the other way round.
use Rattle.std.proofs.Common.{◌≡◌, ℕ, List, [], length, map, Contains, Some, option_and_then, sym, ◌∙◌, ap, subst, arith}
use Rattle.std.proofs.lemmas.Option.{same_Some}
use Rattle.gb_text.specs.declared.id.Name.{Name}
use Rattle.git_object.specs.declared.commit.Commit.{Commit}
use Rattle.object_store.specs.Held.{Objects}
use Rattle.object_store.specs.Typed.{commit_at, tree_at}
use Rattle.commit_walk.specs.Below.{IsBelow, IsParent, head, parent}
use Rattle.commit_walk.proofs.BelowLemmas.{below_below}
use Rattle.commit_walk.proofs.DistinctLemmas.{Contains-from_map, Contains-map}
use Rattle.commit_pack.specs.Packs.{pack_under}
use Rattle.commit_pack.proofs.LawLemmas.{pack_edit}
use Rattle.dag_graph.specs.Below.{IsBelow as IsBelowIn, IsParent as IsParentIn, head as head_in, parent as parent_in}
use Rattle.dag_graph.specs.Faults.{GraphFaultHolds, HasClockJump as HasClockJumpIn, HasClockOrder as HasClockOrderIn, IsFaultless, IsMergeWithOperations as IsMergeIn, IsSecondRoot as IsSecondRootIn}
use Rattle.dag_graph.specs.declared.node.Node.{Node}
use Rattle.dag_graph.specs.declared.fault.GraphFault.{GraphFault}
use Rattle.dag_graph.specs.declared.fault.GraphFault.TheVariants as graph
use Rattle.dag_graph.proofs.ListLemmas.{Contains-first}
use Rattle.gb_text.specs.declared.id.Id.{Id}
use Rattle.op_kind.specs.Meaning.{Meaning}
use Rattle.op_pack.specs.Heads.{edit_clock_of}
use Rattle.dag_entity.specs.Faults.{EntityFaultHolds, HasClockJump, HasClockOrder, IsMergeWithOperations, IsRootCommit, IsSecondRoot}
use Rattle.dag_entity.specs.Loading.{AreAllLoaded, node_of}
use Rattle.dag_entity.specs.Nodes.{IsCommitBelow, IsNode, IsNodeBelow, edit_at}
use Rattle.dag_entity.specs.Stops.{graph_fault}
use Rattle.dag_entity.specs.declared.entity.Loaded.{Loaded}

abbrev pub nodes_of : {Op : Type 0} → List (Loaded Op) → List Node
nodes_of loaded = map node_of loaded

module _ {Op State Row : Type 0} (k : Meaning Op State Row) (objects : Objects) (heads : List Name) (loaded : List (Loaded Op)) (are : AreAllLoaded k objects heads loaded) where
  -- the commit of a name below the heads
  pub record Found (name : Name) : Type 0 where
    pub one : Loaded Op
    pub among : Contains loaded one
    pub named : one.placed.commit ≡ name
    pub is : IsNode k objects one

  pub found : (name : Name) → IsBelow objects heads name → Found name
  found name below =
      let at = Contains-from_map (λ (l : Loaded Op). l.placed.commit) loaded name (are.all name below) in
      record { one = at.0; among = at.1; named = at.2; is = (are.each at.0 at.1).is }

  pub same_commit : (name : Name) (commit : Commit) (f : Found name) → commit_at objects name ≡ Some commit → f.is.commit ≡ commit
  same_commit name commit f held = same_Some f.is.commit commit (sym f.is.held ∙ ap (commit_at objects) f.named ∙ held)

  -- a node of a commit below was loaded
  pub node_loaded : (node : Loaded Op) → IsNodeBelow k objects heads node → Contains loaded node
  node_loaded node is =
      let f = found node.placed.commit is.below in
      let same : f.is.commit ≡ is.is.commit = same_commit node.placed.commit is.is.commit f is.is.held in
      let parents : f.one.parents ≡ node.parents = f.is.parents ∙ ap (λ (c : Commit). c.parents) same ∙ sym is.is.parents in
      let pack : f.one.placed.pack ≡ node.placed.pack = same_Some f.one.placed.pack node.placed.pack (sym f.is.pack ∙ ap (λ (c : Commit). pack_under k objects c.tree) same ∙ is.is.pack) in
      let all : f.one ≡ node = grind (arith, f.named, parents, pack) in
      subst (Contains loaded) all f.among

  node_in : (one : Loaded Op) → Contains loaded one → Contains (nodes_of loaded) (node_of one)
  node_in one c = Contains-map (node_of {Op = Op}) loaded one c

  loaded_of : (node : Node) → Contains (nodes_of loaded) node → (one : Loaded Op) × Contains loaded one × (node_of one ≡ node)
  loaded_of node c = Contains-from_map (node_of {Op = Op}) loaded node c

  -- ---- edit clocks

  edit_is : (one : Loaded Op) → Contains loaded one → edit_at objects one.placed.commit ≡ Some one.placed.pack.edit
  edit_is one c =
      let is = (are.each one c).is in
      ap (option_and_then (λ (commit : Commit). option_and_then edit_clock_of (tree_at objects commit.tree))) is.held ∙ pack_edit k objects is.commit.tree one.placed.pack is.pack

  pub edit_same : (name : Name) (f : Found name) (edit : ℕ) → edit_at objects name ≡ Some edit → f.one.placed.pack.edit ≡ edit
  edit_same name f edit says = same_Some f.one.placed.pack.edit edit (sym (edit_is f.one f.among) ∙ ap (edit_at objects) f.named ∙ says)

  pub edit_of_node : (node : Node) → Contains (nodes_of loaded) node → edit_at objects node.name ≡ Some node.edit
  edit_of_node node c =
      let at = loaded_of node c in
      ap (λ (n : Node). edit_at objects n.name) (sym at.2) ∙ edit_is at.0 at.1 ∙ ap (λ (n : Node). Some n.edit) at.2

  -- ---- what lies below

  -- the commit of a node
  commit_of : (node : Node) → Contains (nodes_of loaded) node → (commit : Commit) × IsCommitBelow objects heads node.name commit × (commit.parents ≡ node.parents)
  commit_of node c =
      let at = loaded_of node c in
      let n = are.each at.0 at.1 in
      let is : IsCommitBelow objects heads at.0.placed.commit n.is.commit = record { below = n.below; held = n.is.held } in
      (n.is.commit, subst (λ (m : Node). IsCommitBelow objects heads m.name n.is.commit) at.2 is, sym n.is.parents ∙ ap (λ (m : Node). m.parents) at.2)

  parent_up : (high low : Name) → IsParentIn (nodes_of loaded) high low → IsParent objects high low
  parent_up high low p =
      let commit = commit_of p.node p.at in
      record {
        commit = commit.0;
        held = ap (commit_at objects) (sym p.is) ∙ commit.1.held;
        names = subst (λ (l : List Name). Contains l low) (sym commit.2) p.names;
      }

  parent_down : (high low : Name) → IsBelow objects heads high → IsParent objects high low → IsParentIn (nodes_of loaded) high low
  parent_down high low below p =
      let f = found high below in
      let same = same_commit high p.commit f p.held in
      record {
        node = node_of f.one;
        at = node_in f.one f.among;
        is = f.named;
        names = subst (λ (l : List Name). Contains l low) (sym (f.is.parents ∙ ap (λ (c : Commit). c.parents) same)) p.names;
      }

  pub below_up : (tops : List Name) (name : Name) → IsBelowIn (nodes_of loaded) tops name → IsBelow objects tops name
  below_up tops name (head_in c) = head c
  below_up tops name (parent_in {high = high} b p) = parent (below_up tops high b) (parent_up high name p)

  pub below_down : (tops : List Name) → ((top : Name) → Contains tops top → Contains heads top) → (name : Name) → IsBelow objects tops name → IsBelowIn (nodes_of loaded) tops name
  below_down tops all name (head c) = head_in c
  below_down tops all name (parent {high = high} b p) =
      parent_in (below_down tops all high b) (parent_down high name (below_below objects heads tops high (λ top c. head (all top c)) b) p)

  -- ---- faults of the graph

  root_commit : (node : Node) → Contains (nodes_of loaded) node → node.parents ≡ [] → IsRootCommit objects heads node.name
  root_commit node c root =
      let commit = commit_of node c in
      record { commit = commit.0; is = commit.1; root = commit.2 ∙ root }

  second_root : (name : Name) → IsSecondRootIn (nodes_of loaded) name → IsSecondRoot objects heads name
  second_root name h = record {
    one = subst (IsRootCommit objects heads) h.is (root_commit h.one h.at_one h.root_one);
    other = h.two.name;
    two = root_commit h.two h.at_two h.root_two;
    differ = λ e. h.differ (h.is ∙ e);
  }

  clock_order : (high low : Name) → HasClockOrderIn (nodes_of loaded) high low → HasClockOrder objects heads high low
  clock_order high low h = record {
    below = subst (IsBelow objects heads) h.high_is (commit_of h.one h.at_one).1.below;
    parent = parent_up high low (record { node = h.one; at = h.at_one; is = h.high_is; names = h.names });
    above = h.one.edit;
    beneath = h.two.edit;
    says_above = ap (edit_at objects) (sym h.high_is) ∙ edit_of_node h.one h.at_one;
    says_beneath = ap (edit_at objects) (sym h.low_is) ∙ edit_of_node h.two h.at_two;
    falls = h.falls;
  }

  clock_jump : (high low : Name) → HasClockJumpIn (nodes_of loaded) high low → HasClockJump objects heads high low
  clock_jump high low h =
      let commit = commit_of h.one h.at_one in
      record {
        commit = commit.0;
        is = subst (λ (n : Name). IsCommitBelow objects heads n commit.0) h.high_is commit.1;
        single = commit.2 ∙ h.single;
        above = h.one.edit;
        beneath = h.two.edit;
        says_above = ap (edit_at objects) (sym h.high_is) ∙ edit_of_node h.one h.at_one;
        says_beneath = ap (edit_at objects) (sym h.low_is) ∙ edit_of_node h.two h.at_two;
        jumps = h.jumps;
      }

  merge_with_operations : (name : Name) → IsMergeIn (nodes_of loaded) name → IsMergeWithOperations k objects heads name
  merge_with_operations name h =
      let at = loaded_of h.one h.at in
      let parents : length at.0.parents ≡ length h.one.parents = ap (λ (n : Node). length n.parents) at.2 in
      let count : length at.0.placed.pack.ops ≡ h.one.count = ap (λ (n : Node). n.count) at.2 in
      record {
        node = at.0;
        is = are.each at.0 at.1;
        named = ap (λ (n : Node). n.name) at.2 ∙ h.is;
        many = omega (arith, h.many, parents);
        some = omega (arith, h.some, count);
      }

  -- a fault of the graph is one of the entity
  pub graph_fault_holds : (id : Id) (authors : List Id) (f : GraphFault) → GraphFaultHolds (nodes_of loaded) f → EntityFaultHolds k objects id heads authors (graph_fault f)
  unfolding EntityFaultHolds
  graph_fault_holds id authors (graph.SecondRoot name) h = second_root name h
  graph_fault_holds id authors (graph.ClockOrder high low) h = clock_order high low h
  graph_fault_holds id authors (graph.ClockJump high low) h = clock_jump high low h
  graph_fault_holds id authors (graph.MergeHasOperations name) h = merge_with_operations name h

  -- where the graph has no fault, the objects have none of the graph's
  module _ (faultless : IsFaultless (nodes_of loaded)) where
    pub no_second_root : (name : Name) → IsSecondRoot objects heads name → ⊥
    no_second_root name h =
        let f = found name h.one.is.below in
        let other = found h.other h.two.is.below in
        faultless (graph.SecondRoot name) (record {
          one = node_of f.one;
          two = node_of other.one;
          at_one = node_in f.one f.among;
          at_two = node_in other.one other.among;
          is = f.named;
          differ = λ e. h.differ (sym f.named ∙ e ∙ other.named);
          root_one = f.is.parents ∙ ap (λ (c : Commit). c.parents) (same_commit name h.one.commit f h.one.is.held) ∙ h.one.root;
          root_two = other.is.parents ∙ ap (λ (c : Commit). c.parents) (same_commit h.other h.two.commit other h.two.is.held) ∙ h.two.root;
        })

    pub no_clock_order : (high low : Name) → HasClockOrder objects heads high low → ⊥
    no_clock_order high low h =
        let f = found high h.below in
        let l = found low (parent h.below h.parent) in
        let above = edit_same high f h.above h.says_above in
        let beneath = edit_same low l h.beneath h.says_beneath in
        faultless (graph.ClockOrder high low) (record {
          one = node_of f.one;
          two = node_of l.one;
          at_one = node_in f.one f.among;
          at_two = node_in l.one l.among;
          high_is = f.named;
          low_is = l.named;
          names = subst (λ (ns : List Name). Contains ns low) (sym (f.is.parents ∙ ap (λ (c : Commit). c.parents) (same_commit high h.parent.commit f h.parent.held))) h.parent.names;
          falls = omega (arith, h.falls, above, beneath);
        })

    pub no_clock_jump : (high low : Name) → HasClockJump objects heads high low → ⊥
    no_clock_jump high low h =
        let f = found high h.is.below in
        let leads : IsParent objects high low = record { commit = h.commit; held = h.is.held; names = subst (λ (ns : List Name). Contains ns low) (sym h.single) (Contains-first low []) } in
        let l = found low (parent h.is.below leads) in
        let above = edit_same high f h.above h.says_above in
        let beneath = edit_same low l h.beneath h.says_beneath in
        faultless (graph.ClockJump high low) (record {
          one = node_of f.one;
          two = node_of l.one;
          at_one = node_in f.one f.among;
          at_two = node_in l.one l.among;
          high_is = f.named;
          low_is = l.named;
          single = f.is.parents ∙ ap (λ (c : Commit). c.parents) (same_commit high h.commit f h.is.held) ∙ h.single;
          jumps = omega (arith, h.jumps, above, beneath);
        })

    pub no_merge_with_operations : (name : Name) → IsMergeWithOperations k objects heads name → ⊥
    no_merge_with_operations name h =
        faultless (graph.MergeHasOperations name) (record {
          one = node_of h.node;
          at = node_in h.node (node_loaded h.node h.is);
          is = h.named;
          many = h.many;
          some = h.some;
        })
