-- Where two stores agree about what is needed, the same is wrong with the entity in both, and it has the same packs in the same order.
use Rattle.std.proofs.Common.{◌≡◌, ℕ, List, [], ◌∷◌, Contains, Option, Some, option_and_then, inl, inr, refl, sym, ◌∙◌, ap, subst}
use Rattle.gb_text.specs.declared.id.Id.{Id}
use Rattle.gb_text.specs.declared.id.Name.{Name}
use Rattle.git_object.specs.declared.commit.Commit.{Commit}
use Rattle.git_object.specs.declared.object.Object.{Object}
use Rattle.object_store.specs.Held.{Objects, IsDamaged, IsLarge}
use Rattle.object_store.specs.Typed.{IsOtherKind, as_blob, as_commit, as_tree}
use Rattle.commit_walk.specs.Below.{AreTooMany, HasCommit, IsBelow, IsParent, head, parent}
use Rattle.commit_walk.proofs.DistinctLemmas.{Contains-cons, Contains-first, Contains-later, Contains-nil}
use Rattle.commit_pack.specs.Packs.{CommitPackFaultHolds, NamesOps, OpsIsNoBlob, PackNeeds, TextFails, TreeFails}
use Rattle.commit_pack.specs.declared.fault.CommitPackFault.{CommitPackFault}
use Rattle.commit_pack.specs.declared.fault.CommitPackFault.TheVariants as pack
use Rattle.op_kind.specs.Meaning.{Meaning}
use Rattle.op_pack.specs.declared.fault.PackFault.{PackFault}
use Rattle.op_pack.specs.declared.fault.PackFault.TheVariants as text
use Rattle.dag_entity.specs.Agreeing.{SameNeeded}
use Rattle.dag_entity.specs.Entities.{AreAllInOrder, IsEntity, IsGreatestEdit, IsOperationCommit, IsOperationList, IsRootClock}
use Rattle.dag_entity.specs.Faults.{AreApart, EntityFaultHolds, FollowsBadly, HasClockJump, HasClockOrder, HasUnknownAuthor, HasWrongId, IsFullHead, IsMergeWithOperations, IsRootCommit, IsRootNode, IsSecondRoot, IsTooLarge, IsValid, LacksCreateClock, NeedTooMany, OpensBadly, RepeatsAcross, RepeatsWithin}
use Rattle.dag_entity.specs.Nodes.{HasPackFault, IsCommitBelow, IsNeeded, IsNodeBelow, edit_at}
use Rattle.dag_entity.specs.declared.entity.Entity.{Entity}
use Rattle.dag_entity.specs.declared.entity.Loaded.{Loaded}
use Rattle.dag_entity.specs.declared.entity.Placed.{Placed}
use Rattle.dag_entity.specs.declared.fault.EntityFault.{EntityFault}
use Rattle.dag_entity.specs.declared.fault.EntityFault.TheVariants as fault
use Rattle.dag_entity.proofs.AgreeLemmas.{agree_back, below_back, below_back_tops, below_over, commit_over, commit_same, edit_same, needed_over, needs, needs_over, object_same, ops_over, pack_same, pack_under_same, tree_same}

-- one of two heads is among them
one_of : (heads : List Name) (one two : Name) → heads ≡ one ∷ two ∷ [] → (name : Name) → Contains (two ∷ []) name → Contains heads name
one_of heads one two are name c = subst (λ (names : List Name). Contains names name) (sym are) (Contains-later one (two ∷ []) name c)

other_of : (heads : List Name) (one two : Name) → heads ≡ one ∷ two ∷ [] → (name : Name) → Contains (one ∷ []) name → Contains heads name
other_of heads one two are name c = elim (Contains-cons one [] name c) [
  | inl e ↦ subst (λ (names : List Name). Contains names name) (sym are) (subst (Contains (one ∷ two ∷ [])) e (Contains-first one (two ∷ [])))
  | inr none ↦ absurd (Contains-nil name none)
]

module _ (here there : Objects) (heads : List Name) (agree : SameNeeded here there heads) where
  -- ---- faults of objects

  damaged_over : (name : Name) → IsNeeded here heads name → IsDamaged here name → IsDamaged there name
  damaged_over name needed d = record {
    text = d.text;
    stands = agree.same name needed ∙ d.stands;
    within = d.within;
    is_none = object_same here there heads agree name needed ∙ d.is_none;
  }

  large_over : (name : Name) → IsNeeded here heads name → IsLarge (here name) → IsLarge (there name)
  large_over name needed l = record { text = l.text; stands = agree.same name needed ∙ l.stands; long = l.long }

  other_over : {T : Type 0} (read : Object → Option T) (name : Name) → IsNeeded here heads name → IsOtherKind read here name → IsOtherKind read there name
  other_over read name needed o = record { object = o.object; held = object_same here there heads agree name needed ∙ o.held; is_none = o.is_none }

  -- ---- faults of the graph

  is_commit_over : (name : Name) (commit : Commit) → IsCommitBelow here heads name commit → IsCommitBelow there heads name commit
  is_commit_over = commit_over here there heads agree

  over : (name : Name) → IsBelow here heads name → IsBelow there heads name
  over = below_over here there heads agree

  says_over : (name : Name) (edit : ℕ) → IsBelow here heads name → edit_at here name ≡ Some edit → edit_at there name ≡ Some edit
  says_over name edit below says = edit_same here there heads agree name below ∙ says

  root_over : (name : Name) → IsRootCommit here heads name → IsRootCommit there heads name
  root_over name r = record { commit = r.commit; is = is_commit_over name r.commit r.is; root = r.root }

  second_root : (name : Name) → IsSecondRoot here heads name → IsSecondRoot there heads name
  second_root name h = record { one = root_over name h.one; other = h.other; two = root_over h.other h.two; differ = h.differ }

  clock_order : (high low : Name) → HasClockOrder here heads high low → HasClockOrder there heads high low
  clock_order high low h = record {
    below = over high h.below;
    parent = record { commit = h.parent.commit; held = commit_same here there heads agree high h.below ∙ h.parent.held; names = h.parent.names };
    above = h.above;
    beneath = h.beneath;
    says_above = says_over high h.above h.below h.says_above;
    says_beneath = says_over low h.beneath (parent h.below h.parent) h.says_beneath;
    falls = h.falls;
  }

  clock_jump : (high low : Name) → HasClockJump here heads high low → HasClockJump there heads high low
  clock_jump high low h =
      let leads : IsParent here high low = record { commit = h.commit; held = h.is.held; names = subst (λ (ns : List Name). Contains ns low) (sym h.single) (Contains-first low []) } in
      record {
        commit = h.commit;
        is = is_commit_over high h.commit h.is;
        single = h.single;
        above = h.above;
        beneath = h.beneath;
        says_above = says_over high h.above h.is.below h.says_above;
        says_beneath = says_over low h.beneath (parent h.is.below leads) h.says_beneath;
        jumps = h.jumps;
      }

  apart_over : (one two : Name) → AreApart here heads one two → AreApart there heads one two
  apart_over one two h = record {
    are = h.are;
    one_apart = λ b. h.one_apart (below_back_tops here there heads agree (two ∷ []) (λ top c. head (one_of heads one two h.are top c)) one b);
    two_apart = λ b. h.two_apart (below_back_tops here there heads agree (one ∷ []) (λ top c. head (other_of heads one two h.are top c)) two b);
  }

  has_over : (name : Name) → HasCommit here heads name → HasCommit there heads name
  has_over name h = record { below = over name h.below; commit = h.commit; held = commit_same here there heads agree name h.below ∙ h.held }

  need_too_many : NeedTooMany here heads → NeedTooMany there heads
  need_too_many h = record {
    one = h.one;
    two = h.two;
    apart = apart_over h.one h.two h.apart;
    names = h.names;
    once = h.once;
    many = h.many;
    each = λ name c. has_over name (h.each name c);
  }

  too_many : AreTooMany here heads → AreTooMany there heads
  too_many h = record { names = h.names; once = h.once; many = h.many; each = λ name c. has_over name (h.each name c) }

  full_head : (name : Name) → IsFullHead here heads name → IsFullHead there heads name
  full_head name h = record {
    one = h.one;
    two = h.two;
    apart = apart_over h.one h.two h.apart;
    head = h.head;
    full = edit_same here there heads agree name (head h.head) ∙ h.full;
  }

  pub greatest_over : (edit : ℕ) → IsGreatestEdit here heads edit → IsGreatestEdit there heads edit
  greatest_over edit h = record {
    head = h.head;
    among = h.among;
    says = edit_same here there heads agree h.head (head h.among) ∙ h.says;
    most = λ other clock c says. h.most other clock c (sym (edit_same here there heads agree other (head c)) ∙ says);
  }

  module _ {Op State Row : Type 0} (k : Meaning Op State Row) where
    -- ---- faults of packs

    module _ (high : Name) (commit : Commit) (is : IsCommitBelow here heads high commit) where
      need : (name : Name) → PackNeeds here commit.tree name → IsNeeded here heads name
      need = needs here there heads agree high commit is

      tree_fails : (f : PackFault) → TreeFails here commit.tree f → TreeFails there commit.tree f
      tree_fails f h = record { tree = h.tree; held = tree_same here there heads agree high commit is ∙ h.held; fails = h.fails }

      ops_are : (ops : Name) → NamesOps here commit.tree ops → NamesOps there commit.tree ops
      ops_are = ops_over here there heads agree high commit is

      no_blob : OpsIsNoBlob here commit.tree → OpsIsNoBlob there commit.tree
      no_blob h = record { ops = h.ops; names = ops_are h.ops h.names; is_other = other_over as_blob h.ops (need h.ops (inr h.names)) h.is_other }

      text_fails : (f : PackFault) → TextFails k here commit.tree f → TextFails k there commit.tree f
      text_fails f h = record {
        ops = h.ops;
        names = ops_are h.ops h.names;
        text = h.text;
        held = ap (option_and_then as_blob) (object_same here there heads agree h.ops (need h.ops (inr h.names))) ∙ h.held;
        fails = h.fails;
      }

      needs_too : (name : Name) → PackNeeds here commit.tree name → PackNeeds there commit.tree name
      needs_too = needs_over here there heads agree high commit is

      holds_over : (f : CommitPackFault) → CommitPackFaultHolds k here commit.tree f → CommitPackFaultHolds k there commit.tree f
      holds_over pack.Memory h = h
      holds_over pack.Disk h = h
      holds_over (pack.Missing n) h = (needs_too n h.0, agree.same n (need n h.0) ∙ h.1)
      holds_over (pack.Damaged n) h = (needs_too n h.0, damaged_over n (need n h.0) h.1)
      holds_over (pack.Large n) h = (needs_too n h.0, large_over n (need n h.0) h.1)
      holds_over pack.BadTree h = other_over as_tree commit.tree (need commit.tree (inl refl)) h
      holds_over (pack.UnknownVersion n) h = tree_fails (text.UnknownVersion n) h
      holds_over pack.NoOps (inl h) = inl (tree_fails text.NoOps h)
      holds_over pack.NoOps (inr h) = inr (no_blob h)
      holds_over pack.BadClock h = tree_fails text.BadClock h
      holds_over pack.BadPack h = text_fails text.BadPack h
      holds_over (pack.BadOperation i f) h = text_fails (text.BadOperation i f) h
      holds_over (pack.TooLarge n) h = text_fails (text.TooLarge n) h

    pack_fault : (name : Name) (f : CommitPackFault) → HasPackFault k here heads name f → HasPackFault k there heads name f
    pack_fault name f h = record { commit = h.commit; is = is_commit_over name h.commit h.is; holds = holds_over name h.commit h.is f h.holds }

    node_over : (node : Loaded Op) → IsNodeBelow k here heads node → IsNodeBelow k there heads node
    node_over node n =
        let is : IsCommitBelow here heads node.placed.commit n.is.commit = record { below = n.below; held = n.is.held } in
        let held = is_commit_over node.placed.commit n.is.commit is in
        record {
          below = held.below;
          is = record {
            commit = n.is.commit;
            held = held.held;
            parents = n.is.parents;
            pack = pack_under_same here there heads agree k node.placed.commit n.is.commit is ∙ n.is.pack;
          };
        }

    root_node : (node : Loaded Op) → IsRootNode k here heads node → IsRootNode k there heads node
    root_node node h = record { is = node_over node h.is; root = h.root }

    merge_with_operations : (name : Name) → IsMergeWithOperations k here heads name → IsMergeWithOperations k there heads name
    merge_with_operations name h = record { node = h.node; is = node_over h.node h.is; named = h.named; many = h.many; some = h.some }

    lacks_create : (name : Name) → LacksCreateClock k here heads name → LacksCreateClock k there heads name
    lacks_create name h = record { node = h.node; is = root_node h.node h.is; named = h.named; lacks = h.lacks }

    repeats_within : (id : Id) → RepeatsWithin k here heads id → RepeatsWithin k there heads id
    repeats_within id h = record { node = h.node; is = node_over h.node h.is; one = h.one; two = h.two; differ = h.differ; at_one = h.at_one; at_two = h.at_two }

    repeats_across : (id : Id) → RepeatsAcross k here heads id → RepeatsAcross k there heads id
    repeats_across id h = record {
      one = h.one;
      two = h.two;
      is_one = node_over h.one h.is_one;
      is_two = node_over h.two h.is_two;
      differ = h.differ;
      in_one = h.in_one;
      in_two = h.in_two;
    }

    wrong_id : (id found : Id) → HasWrongId k here heads id found → HasWrongId k there heads id found
    wrong_id id found h = record { node = h.node; is = root_node h.node h.is; first = h.first; wrong = h.wrong }

    opens_badly : OpensBadly k here heads → OpensBadly k there heads
    opens_badly h = record { node = h.node; is = root_node h.node h.is; bad = h.bad }

    follows_badly : (id : Id) → FollowsBadly k here heads id → FollowsBadly k there heads id
    follows_badly id h = record { node = h.node; is = node_over h.node h.is; place = h.place; op = h.op; at = h.at; named = h.named; bad = h.bad; later = h.later }

    unknown_author : (authors : List Id) (author : Id) → HasUnknownAuthor k here heads authors author → HasUnknownAuthor k there heads authors author
    unknown_author authors author h = record { node = h.node; is = node_over h.node h.is; wrote = h.wrote; unknown = h.unknown }

    too_large : (count : ℕ) → IsTooLarge k here heads count → IsTooLarge k there heads count
    too_large count (inl (e, inl many)) = inl (e, inl (too_many many))
    too_large count (inl (e, inr many)) = inl (e, inr (need_too_many many))
    too_large count (inr (inl h)) = inr (inl (h.0, pack_fault h.0 (pack.TooLarge count) h.1))
    too_large count (inr (inr h)) = inr (inr (h.0, (h.1.0, needed_over here there heads agree h.1.0 h.1.1, large_over h.1.0 h.1.1 h.1.2)))

    -- ---- all faults

    pub fault_over : (id : Id) (authors : List Id) (f : EntityFault) → EntityFaultHolds k here id heads authors f → EntityFaultHolds k there id heads authors f
    unfolding EntityFaultHolds
    fault_over id authors fault.Memory h = h
    fault_over id authors fault.Disk h = h
    fault_over id authors (fault.Missing name) h = (needed_over here there heads agree name h.0, agree.same name h.0 ∙ h.1)
    fault_over id authors (fault.Damaged name) h = (needed_over here there heads agree name h.0, damaged_over name h.0 h.1)
    fault_over id authors (fault.NotCommit name) h = (over name h.0, other_over as_commit name (inl h.0) h.1)
    fault_over id authors (fault.BadTree name) h = pack_fault name pack.BadTree h
    fault_over id authors (fault.UnknownVersion name n) h = pack_fault name (pack.UnknownVersion n) h
    fault_over id authors (fault.NoOps name) h = pack_fault name pack.NoOps h
    fault_over id authors (fault.BadClock name) h = pack_fault name pack.BadClock h
    fault_over id authors (fault.BadPack name) h = pack_fault name pack.BadPack h
    fault_over id authors (fault.BadOperation name i f) h = pack_fault name (pack.BadOperation i f) h
    fault_over id authors (fault.SecondRoot name) h = second_root name h
    fault_over id authors (fault.ClockOrder high low) h = clock_order high low h
    fault_over id authors (fault.ClockJump high low) h = clock_jump high low h
    fault_over id authors (fault.MergeHasOperations name) h = merge_with_operations name h
    fault_over id authors (fault.NoCreateClock name) h = lacks_create name h
    fault_over id authors (fault.RepeatedOperation found) (inl h) = inl (repeats_within found h)
    fault_over id authors (fault.RepeatedOperation found) (inr h) = inr (repeats_across found h)
    fault_over id authors (fault.WrongId found) h = wrong_id id found h
    fault_over id authors fault.FirstNotCreate h = opens_badly h
    fault_over id authors (fault.SecondCreate found) h = follows_badly found h
    fault_over id authors (fault.AuthorUnknown author) h = unknown_author authors author h
    fault_over id authors (fault.TooLarge count) h = too_large count h
    fault_over id authors (fault.ClockFull name) h = full_head name h

    -- ---- packs in order

    pub root_clock_over : (create : ℕ) → IsRootClock k here heads create → IsRootClock k there heads create
    root_clock_over create h = record { node = h.node; is = root_node h.node h.is; says = h.says }

    pub all_over : (packs : List (Placed Op)) → AreAllInOrder k here heads packs → AreAllInOrder k there heads packs
    all_over packs h = record {
      all = λ name below. h.all name (below_back here there heads agree name below);
      only = λ placed c. over placed.commit (h.only placed c);
      each = λ placed c. pack_same here there heads agree k placed.commit (h.only placed c) ∙ h.each placed c;
      rise = h.rise;
    }

    operation_commit : (placed : Placed Op) → IsOperationCommit k here heads placed → IsOperationCommit k there heads placed
    operation_commit placed h = record { below = over placed.commit h.below; has = pack_same here there heads agree k placed.commit h.below ∙ h.has; some = h.some }

    operation_commit_back : (placed : Placed Op) → IsOperationCommit k there heads placed → IsOperationCommit k here heads placed
    operation_commit_back placed h =
        let below = below_back here there heads agree placed.commit h.below in
        record { below = below; has = sym (pack_same here there heads agree k placed.commit below) ∙ h.has; some = h.some }

    pub operations_over : (ops : List Op) → IsOperationList k here heads ops → IsOperationList k there heads ops
    operations_over ops h = record {
      packs = h.packs;
      are = record {
        all = λ placed is. h.are.all placed (operation_commit_back placed is);
        only = λ placed c. operation_commit placed (h.are.only placed c);
        rise = h.are.rise;
      };
      written_out = h.written_out;
    }

module _ {Op State Row : Type 0} (k : Meaning Op State Row) (here there : Objects) (heads : List Name) (agree : SameNeeded here there heads) (id : Id) (authors : List Id) where
  pub valid_over : IsValid k here id heads authors → IsValid k there id heads authors
  valid_over valid f holds = valid f (fault_over there here heads (agree_back here there heads agree) k id authors f holds)

  pub entity_over : (entity : Entity Op) → IsEntity k here id heads authors entity → IsEntity k there id heads authors entity
  entity_over entity is = record {
    valid = valid_over is.valid;
    id_is = is.id_is;
    heads_are = is.heads_are;
    packs = all_over here there heads agree k entity.packs is.packs;
    count = is.count;
    edit = greatest_over here there heads agree entity.edit is.edit;
    create = root_clock_over here there heads agree k entity.create is.create;
  }
