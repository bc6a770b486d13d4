-- A commit over the heads of an entity makes an entity again, in which its pack comes last.
use Rattle.std.proofs.Common.{◌≡◌, ◌⊎◌, inl, inr, ⊎_elim, ◌≤◌, ◌<◌, ℕ, List, [], ◌∷◌, ◌++◌, length, Contains, Some, refl, sym, ◌∙◌, ap, subst, arith, length-append, append-nil, true}
use Rattle.std.specs.List.{AllByRecursion, slice_get}
use Rattle.std.specs.List.Sorted.{IsStrictlySortedBy}
use Rattle.std.specs.declared.cmp.Ordering.{Ordering}
use Rattle.std.specs.declared.cmp.Ordering.TheVariants.{Less}
use Rattle.std.proofs.lemmas.Bool.{lt-ltb}
use Rattle.std.proofs.lemmas.List.{length-map}
use Rattle.std.proofs.lemmas.List.Concat.{flat_map-append}
use Rattle.std.proofs.lemmas.List.Elements.{Contains-append_left, Contains-push, Contains-push_cases}
use Rattle.std.proofs.lemmas.Option.{get_or_from_slice_get, same_Some, slice_get_within}
use Rattle.gb_text.specs.declared.id.Id.{Id}
use Rattle.gb_text.specs.declared.id.Name.{Name}
use Rattle.git_object.specs.declared.commit.Commit.{Commit}
use Rattle.object_store.specs.Held.{Objects}
use Rattle.object_store.specs.Typed.{CannotReadAs, as_commit, commit_at}
use Rattle.object_store.specs.declared.fault.KindFault.{KindFault}
use Rattle.object_store.specs.declared.fault.KindFault.TheVariants as kind
use Rattle.object_store.proofs.FaultLemmas.{kind_fault-none}
use Rattle.commit_walk.specs.Below.{AreTooMany, IsBelow, IsParent, head, parent}
use Rattle.commit_walk.proofs.DistinctLemmas.{Contains-first, Contains-from_map, Contains-later, Contains-map, Contains-nil, Contains-one, length-distinct}
use Rattle.commit_pack.specs.Packs.{CommitPackFaultHolds, PackNeeds, pack_under}
use Rattle.commit_pack.specs.declared.fault.CommitPackFault.{CommitPackFault}
use Rattle.commit_pack.specs.declared.fault.CommitPackFault.TheVariants as pack
use Rattle.commit_pack.proofs.LawLemmas.{not_both}
use Rattle.op_kind.specs.Meaning.{KeepsLaws, Meaning}
use Rattle.dag_entity.specs.Entities.{AreAllInOrder, IsEntity, IsOperationList, ops_in}
use Rattle.dag_entity.specs.Order.{commits_of, placed_cmp}
use Rattle.dag_entity.specs.Extending.{Extends, extended}
use Rattle.dag_entity.specs.Faults.{AreApart, EntityFaultHolds, IsRootCommit, IsRootNode, IsTooLarge, IsValid, RepeatsAcross, RepeatsWithin}
use Rattle.dag_entity.specs.Nodes.{HasPackFault, IsNeeded, IsNode, IsNodeBelow, edit_at, ids_of, pack_at}
use Rattle.dag_entity.specs.declared.entity.Entity.{Entity}
use Rattle.dag_entity.specs.declared.entity.Loaded.{Loaded}
use Rattle.dag_entity.specs.declared.entity.Placed.{Placed}
use Rattle.dag_entity.specs.declared.fault.EntityFault.TheVariants as fault
use Rattle.dag_entity.proofs.LawOrders.{operation_list, stands}
use Rattle.dag_entity.proofs.LawValid.{clocks_rise, edit_of_pack, one_place, pack_of_node}
use Rattle.dag_entity.proofs.RankLemmas.{later_last}

module _ {Op State Row : Type 0} (k : Meaning Op State Row) (laws : KeepsLaws k) (objects : Objects) (id : Id) (heads : List Name) (authors : List Id) (entity : Entity Op) (node : Loaded Op)
    (was : IsEntity k objects id heads authors entity) (extends : Extends k objects heads authors entity.packs node) where
  abbrev top : Name
  top = node.placed.commit

  abbrev tops : List Name
  tops = top ∷ []

  -- ---- what lies below the new commit: itself, and what lies below the heads

  parents_are : extends.is.commit.parents ≡ heads
  parents_are = sym extends.is.parents ∙ extends.over

  same_commit : (commit : Commit) (name : Name) → top ≡ name → commit_at objects name ≡ Some commit → commit ≡ extends.is.commit
  same_commit commit name e held = same_Some commit extends.is.commit (sym held ∙ ap (commit_at objects) (sym e) ∙ extends.is.held)

  up : (name : Name) → IsBelow objects heads name → IsBelow objects tops name
  up name (head c) =
      let leads : IsParent objects top name = record { commit = extends.is.commit; held = extends.is.held; names = subst (λ (l : List Name). Contains l name) (sym parents_are) c } in
      parent (head (Contains-first top [])) leads
  up name (parent {high = high} b p) = parent (up high b) p

  split : (name : Name) → IsBelow objects tops name → (top ≡ name) ⊎ IsBelow objects heads name
  split name (head c) = inl (Contains-one top name c)
  split name (parent {high = high} b p) = ⊎_elim
      (λ (e : top ≡ high). inr (head (subst (λ (l : List Name). Contains l name) (ap (λ (c : Commit). c.parents) (same_commit p.commit high e p.held) ∙ parents_are) p.names)))
      (λ (below : IsBelow objects heads high). inr (parent below p))
      (split high b)

  same_node : (other : Loaded Op) → IsNode k objects other → top ≡ other.placed.commit → node ≡ other
  same_node other is e =
      let same : is.commit ≡ extends.is.commit = same_commit is.commit other.placed.commit e is.held in
      let parents : node.parents ≡ other.parents = extends.is.parents ∙ ap (λ (c : Commit). c.parents) (sym same) ∙ sym is.parents in
      let pack : node.placed.pack ≡ other.placed.pack = same_Some node.placed.pack other.placed.pack (sym extends.is.pack ∙ ap (λ (c : Commit). pack_under k objects c.tree) (sym same) ∙ is.pack) in
      grind (arith, e, parents, pack)

  split_node : (other : Loaded Op) → IsNodeBelow k objects tops other → (node ≡ other) ⊎ IsNodeBelow k objects heads other
  split_node other is = ⊎_elim
      (λ (e : top ≡ other.placed.commit). inl (same_node other is.is e))
      (λ (b : IsBelow objects heads other.placed.commit). inr (record { below = b; is = is.is }))
      (split other.placed.commit is.below)

  -- ---- roots: the new commit is none

  some_head : heads ≡ [] → ⊥
  some_head none = Contains-nil was.edit.head (subst (λ (l : List Name). Contains l was.edit.head) none was.edit.among)

  root_down : (other : Loaded Op) → IsRootNode k objects tops other → IsRootNode k objects heads other
  root_down other h = ⊎_elim
      (λ (e : node ≡ other). absurd (some_head (sym extends.over ∙ ap (λ (l : Loaded Op). l.parents) e ∙ h.root)))
      (λ (is : IsNodeBelow k objects heads other). record { is = is; root = h.root })
      (split_node other h.is)

  root_commit_down : (name : Name) → IsRootCommit objects tops name → IsRootCommit objects heads name
  root_commit_down name h = ⊎_elim
      (λ (e : top ≡ name). absurd (some_head (sym parents_are ∙ ap (λ (c : Commit). c.parents) (sym (same_commit h.commit name e h.is.held)) ∙ h.root)))
      (λ (b : IsBelow objects heads name). record { commit = h.commit; is = record { below = b; held = h.is.held }; root = h.root })
      (split name h.is.below)

  -- ---- edit clocks

  edit_top : edit_at objects top ≡ Some node.placed.pack.edit
  edit_top = edit_of_pack k objects top node.placed.pack (pack_of_node k objects node extends.is)

  edit_below : (name : Name) → IsBelow objects heads name → (edit : ℕ) → edit_at objects name ≡ Some edit → edit < node.placed.pack.edit
  edit_below name (head c) edit says = extends.above name edit c says
  edit_below name (parent {high = high} b p) edit says =
      let clocks = clocks_rise k objects id heads authors entity was high name b p in
      let l = edit_below high b clocks.above clocks.says_above in
      let same : edit ≡ clocks.beneath = same_Some edit clocks.beneath (sym says ∙ clocks.says_beneath) in
      omega (arith, l, same, clocks.rises)

  -- ---- packs, and what they need

  pack_fault_down : (name : Name) (f : CommitPackFault) → HasPackFault k objects tops name f → HasPackFault k objects heads name f
  pack_fault_down name f h = ⊎_elim
      (λ (e : top ≡ name). absurd (not_both k objects h.commit.tree laws node.placed.pack f (ap (λ (c : Commit). pack_under k objects c.tree) (same_commit h.commit name e h.is.held) ∙ extends.is.pack) h.holds))
      (λ (b : IsBelow objects heads name). record { commit = h.commit; is = record { below = b; held = h.is.held }; holds = h.holds })
      (split name h.is.below)

  kind_fault_down : (name : Name) (f : KindFault) → CannotReadAs as_commit objects name f → IsBelow objects tops name → IsBelow objects heads name
  kind_fault_down name f cannot below = ⊎_elim
      (λ (e : top ≡ name). let none = sym (kind_fault-none as_commit objects name f cannot) ∙ ap (commit_at objects) (sym e) ∙ extends.is.held in absurd (cc none))
      (λ (b : IsBelow objects heads name). b)
      (split name below)

  needed_down : (name : Name) (f : KindFault) (p : CommitPackFault) → CannotReadAs as_commit objects name f → ((tree : Name) → PackNeeds objects tree name → CommitPackFaultHolds k objects tree p)
      → IsNeeded objects tops name → IsNeeded objects heads name
  needed_down name f p cannot gives (inl below) = inl (kind_fault_down name f cannot below)
  needed_down name f p cannot gives (inr h) =
      let down = pack_fault_down h.high p (record { commit = h.commit; is = h.is; holds = gives h.commit.tree h.needs }) in
      inr (record { high = h.high; commit = h.commit; is = record { below = down.is.below; held = h.is.held }; needs = h.needs })

  -- ---- limits

  one_top : (one two : Name) → AreApart objects tops one two → ⊥
  one_top one two apart = let e : length tops ≡ length (one ∷ two ∷ []) = ap length apart.are in omega (arith, e)

  too_many : AreTooMany objects tops → ⊥
  too_many many =
      let there : (name : Name) → Contains many.names name → Contains (top ∷ commits_of entity.packs) name = λ name c. ⊎_elim
      (λ (e : top ≡ name). subst (Contains (top ∷ commits_of entity.packs)) e (Contains-first top (commits_of entity.packs)))
      (λ (b : IsBelow objects heads name). Contains-later top (commits_of entity.packs) name (was.packs.all name b))
      (split name (many.each name c).below) in
      let fewer : length many.names ≤ length (top ∷ commits_of entity.packs) = length-distinct many.names (top ∷ commits_of entity.packs) many.once there in
      omega (arith, fewer, many.many, extends.few, length-map entity.packs (λ (p : Placed Op). p.commit))

  too_large : (count : ℕ) → IsTooLarge k objects tops count → ⊥
  unfolding EntityFaultHolds
  too_large count (inl (e, inl many)) = too_many many
  too_large count (inl (e, inr need)) = one_top need.one need.two need.apart
  too_large count (inr (inl h)) = was.valid (fault.TooLarge count) (inr (inl (h.0, pack_fault_down h.0 (pack.TooLarge count) h.1)))
  too_large count (inr (inr h)) =
      was.valid (fault.TooLarge count) (inr (inr (h.0, (h.1.0, needed_down h.1.0 (kind.Large h.1.0) (pack.Large h.1.0) (refl, h.1.2) (λ tree needs. (needs, h.1.2)) h.1.1, h.1.2))))

  -- ---- operations

  among : (other : Loaded Op) → IsNodeBelow k objects heads other → Contains entity.packs other.placed
  among other is = stands k objects heads entity.packs was.packs other.placed is.below (pack_of_node k objects other is.is)

  repeats_within : (i : Id) → RepeatsWithin k objects tops i → ⊥
  unfolding EntityFaultHolds
  repeats_within i h = ⊎_elim
      (λ (e : node ≡ h.node). one_place (ids_of k node.placed.pack) i h.one h.two extends.once
      (ap (λ (l : Loaded Op). slice_get (ids_of k l.placed.pack) h.one) e ∙ h.at_one) (ap (λ (l : Loaded Op). slice_get (ids_of k l.placed.pack) h.two) e ∙ h.at_two) h.differ)
      (λ (is : IsNodeBelow k objects heads h.node). was.valid (fault.RepeatedOperation i) (inl (record { node = h.node; is = is; one = h.one; two = h.two; differ = h.differ; at_one = h.at_one; at_two = h.at_two })))
      (split_node h.node h.is)

  -- an operation of the new commit is none of another's
  new_and_old : (i : Id) (one two : Loaded Op) → node ≡ one → IsNodeBelow k objects heads two → Contains (ids_of k one.placed.pack) i → Contains (ids_of k two.placed.pack) i → ⊥
  new_and_old i one two e is in_one in_two =
      extends.fresh two.placed i (among two is) in_two (subst (λ (l : Loaded Op). Contains (ids_of k l.placed.pack) i) (sym e) in_one)

  repeats_across : (i : Id) (h : RepeatsAcross k objects tops i) → (node ≡ h.one) ⊎ IsNodeBelow k objects heads h.one → (node ≡ h.two) ⊎ IsNodeBelow k objects heads h.two → ⊥
  unfolding EntityFaultHolds
  repeats_across i h (inl one) (inl two) = h.differ (ap (λ (l : Loaded Op). l.placed.commit) (sym one ∙ two))
  repeats_across i h (inl one) (inr two) = new_and_old i h.one h.two one two h.in_one h.in_two
  repeats_across i h (inr one) (inl two) = new_and_old i h.two h.one two one h.in_two h.in_one
  repeats_across i h (inr one) (inr two) =
      was.valid (fault.RepeatedOperation i) (inr (record { one = h.one; two = h.two; is_one = one; is_two = two; differ = h.differ; in_one = h.in_one; in_two = h.in_two }))

  -- ---- nothing is wrong

  pub still_valid : IsValid k objects id tops authors
  unfolding EntityFaultHolds
  still_valid fault.Memory h = h
  still_valid fault.Disk h = h
  still_valid (fault.Missing n) h = was.valid (fault.Missing n) (needed_down n (kind.Missing n) (pack.Missing n) (refl, h.1) (λ tree needs. (needs, h.1)) h.0, h.1)
  still_valid (fault.Damaged n) h = was.valid (fault.Damaged n) (needed_down n (kind.Damaged n) (pack.Damaged n) (refl, h.1) (λ tree needs. (needs, h.1)) h.0, h.1)
  still_valid (fault.NotCommit n) h = was.valid (fault.NotCommit n) (kind_fault_down n (kind.OtherKind n) (refl, h.1) h.0, h.1)
  still_valid (fault.BadTree n) h = was.valid (fault.BadTree n) (pack_fault_down n pack.BadTree h)
  still_valid (fault.UnknownVersion n v) h = was.valid (fault.UnknownVersion n v) (pack_fault_down n (pack.UnknownVersion v) h)
  still_valid (fault.NoOps n) h = was.valid (fault.NoOps n) (pack_fault_down n pack.NoOps h)
  still_valid (fault.BadClock n) h = was.valid (fault.BadClock n) (pack_fault_down n pack.BadClock h)
  still_valid (fault.BadPack n) h = was.valid (fault.BadPack n) (pack_fault_down n pack.BadPack h)
  still_valid (fault.BadOperation n i f) h = was.valid (fault.BadOperation n i f) (pack_fault_down n (pack.BadOperation i f) h)
  still_valid (fault.SecondRoot n) h = was.valid (fault.SecondRoot n) (record { one = root_commit_down n h.one; other = h.other; two = root_commit_down h.other h.two; differ = h.differ })
  still_valid (fault.ClockOrder high low) h = ⊎_elim
      (λ (e : top ≡ high).
      let same : h.above ≡ node.placed.pack.edit = same_Some h.above node.placed.pack.edit (sym h.says_above ∙ ap (edit_at objects) (sym e) ∙ edit_top) in
      let names : Contains heads low = subst (λ (l : List Name). Contains l low) (ap (λ (c : Commit). c.parents) (same_commit h.parent.commit high e h.parent.held) ∙ parents_are) h.parent.names in
      let less = extends.above low h.beneath names h.says_beneath in
      omega (arith, same, less, h.falls))
      (λ (b : IsBelow objects heads high). was.valid (fault.ClockOrder high low)
      (record { below = b; parent = h.parent; above = h.above; beneath = h.beneath; says_above = h.says_above; says_beneath = h.says_beneath; falls = h.falls }))
      (split high h.below)
  still_valid (fault.ClockJump high low) h = ⊎_elim
      (λ (e : top ≡ high).
      let same : h.above ≡ node.placed.pack.edit = same_Some h.above node.placed.pack.edit (sym h.says_above ∙ ap (edit_at objects) (sym e) ∙ edit_top) in
      let single : heads ≡ low ∷ [] = sym parents_are ∙ ap (λ (c : Commit). c.parents) (sym (same_commit h.commit high e h.is.held)) ∙ h.single in
      let near = extends.near low h.beneath single h.says_beneath in
      omega (arith, same, near, h.jumps))
      (λ (b : IsBelow objects heads high). was.valid (fault.ClockJump high low)
      (record { commit = h.commit; is = record { below = b; held = h.is.held }; single = h.single; above = h.above; beneath = h.beneath; says_above = h.says_above; says_beneath = h.says_beneath; jumps = h.jumps }))
      (split high h.is.below)
  still_valid (fault.MergeHasOperations n) h = ⊎_elim
      (λ (e : node ≡ h.node).
      let many : length h.node.parents ≡ length heads = ap (λ (l : Loaded Op). length l.parents) (sym e) ∙ ap length extends.over in
      let none = extends.merge (omega (arith, many, h.many)) in
      let ops : length node.placed.pack.ops ≡ length h.node.placed.pack.ops = ap (λ (l : Loaded Op). length l.placed.pack.ops) e in
      omega (arith, none, ops, h.some))
      (λ (is : IsNodeBelow k objects heads h.node). was.valid (fault.MergeHasOperations n) (record { node = h.node; is = is; named = h.named; many = h.many; some = h.some }))
      (split_node h.node h.is)
  still_valid (fault.NoCreateClock n) h = was.valid (fault.NoCreateClock n) (record { node = h.node; is = root_down h.node h.is; named = h.named; lacks = h.lacks })
  still_valid (fault.RepeatedOperation i) (inl h) = repeats_within i h
  still_valid (fault.RepeatedOperation i) (inr h) = repeats_across i h (split_node h.one h.is_one) (split_node h.two h.is_two)
  still_valid (fault.WrongId i) h = was.valid (fault.WrongId i) (record { node = h.node; is = root_down h.node h.is; first = h.first; wrong = h.wrong })
  still_valid fault.FirstNotCreate h = was.valid fault.FirstNotCreate (record { node = h.node; is = root_down h.node h.is; bad = h.bad })
  still_valid (fault.SecondCreate i) h = ⊎_elim
      (λ (e : node ≡ h.node).
      let at : slice_get node.placed.pack.ops h.place ≡ Some h.op = ap (λ (l : Loaded Op). slice_get l.placed.pack.ops h.place) e ∙ h.at in
      let yes = extends.follow h.place h.op (slice_get_within node.placed.pack.ops h.place h.op at) in
      let there : k.is_following h.op ≡ true = subst (λ (op : Op). k.is_following op ≡ true) (get_or_from_slice_get node.placed.pack.ops h.place h.op h.op at) yes in
      cc (sym h.bad ∙ there))
      (λ (is : IsNodeBelow k objects heads h.node). was.valid (fault.SecondCreate i)
      (record { node = h.node; is = is; place = h.place; op = h.op; at = h.at; named = h.named; bad = h.bad; later = h.later }))
      (split_node h.node h.is)
  still_valid (fault.AuthorUnknown a) h = ⊎_elim
      (λ (e : node ≡ h.node). h.unknown (subst (Contains authors) (ap (λ (l : Loaded Op). l.placed.pack.author) e ∙ h.wrote) extends.known))
      (λ (is : IsNodeBelow k objects heads h.node). was.valid (fault.AuthorUnknown a) (record { node = h.node; is = is; wrote = h.wrote; unknown = h.unknown }))
      (split_node h.node h.is)
  still_valid (fault.TooLarge count) h = too_large count h
  still_valid (fault.ClockFull n) h = one_top h.one h.two h.apart

  -- ---- the packs in order

  abbrev more : List (Placed Op)
  more = entity.packs ++ node.placed ∷ []

  pub in_order : AreAllInOrder k objects tops more
  in_order = record {
    all = λ name below. ⊎_elim
        (λ (e : top ≡ name). subst (Contains (commits_of more)) e (Contains-map (λ (p : Placed Op). p.commit) more node.placed (Contains-push entity.packs node.placed)))
        (λ (b : IsBelow objects heads name).
        let at = Contains-from_map (λ (p : Placed Op). p.commit) entity.packs name (was.packs.all name b) in
        subst (Contains (commits_of more)) at.2 (Contains-map (λ (p : Placed Op). p.commit) more at.0 (Contains-append_left entity.packs (node.placed ∷ []) at.0 at.1)))
        (split name below);
    only = λ placed c. ⊎_elim
        (λ (old : Contains entity.packs placed). up placed.commit (was.packs.only placed old))
        (λ (e : node.placed ≡ placed). subst (λ (p : Placed Op). IsBelow objects tops p.commit) e (head (Contains-first top [])))
        (Contains-push_cases entity.packs node.placed placed c);
    each = λ placed c. ⊎_elim
        (λ (old : Contains entity.packs placed). was.packs.each placed old)
        (λ (e : node.placed ≡ placed). subst (λ (p : Placed Op). pack_at k objects p.commit ≡ Some p.pack) e (pack_of_node k objects node extends.is))
        (Contains-push_cases entity.packs node.placed placed c);
    rise = later_last entity.packs node.placed was.packs.rise (λ placed c.
        edit_below placed.commit (was.packs.only placed c) placed.pack.edit (edit_of_pack k objects placed.commit placed.pack (was.packs.each placed c)));
  }

  pub is_extended : IsEntity k objects id tops authors (extended entity node)
  is_extended = record {
    valid = still_valid;
    id_is = was.id_is;
    heads_are = refl;
    packs = in_order;
    count = omega (arith, was.count, length-append entity.packs (node.placed ∷ []));
    edit = record {
      head = top;
      among = Contains-first top [];
      says = edit_top;
      most = λ other clock c says.
          let e : clock ≡ node.placed.pack.edit = same_Some clock node.placed.pack.edit (sym says ∙ ap (edit_at objects) (sym (Contains-one top other c)) ∙ edit_top) in
          omega (arith, e);
    };
    create = record {
      node = was.create.node;
      is = record { is = record { below = up was.create.node.placed.commit was.create.is.is.below; is = was.create.is.is.is }; root = was.create.is.root };
      says = was.create.says;
    };
  }

  -- its operations come at the end
  pub operations_last : IsOperationList k objects tops (ops_in k entity.packs ++ node.placed.pack.ops)
  operations_last =
      let are : ops_in k more ≡ ops_in k entity.packs ++ node.placed.pack.ops =
      flat_map-append (λ (p : Placed Op). p.pack.ops) entity.packs (node.placed ∷ []) ∙ ap (λ (l : List Op). ops_in k entity.packs ++ l) (append-nil node.placed.pack.ops) in
      subst (IsOperationList k objects tops) are (operation_list k objects tops more in_order)
