-- What is wrong with commits that were loaded is wrong with the entity, and where nothing is, the entity is valid.
use Rattle.std.proofs.Common.{◌≡◌, ◌≢◌, inl, inr, ⊎_elim, ◌≤◌, ◌<◌, ◌==◌, ℕ, zero, suc, false, true, Bool, List, [], ◌∷◌, length, map, Contains, Option, Some, None, option_map, Ok, Err, refl, sym, ◌∙◌, ap, subst, arith}
use Rattle.std.specs.List.{slice_get, AllByRecursion}
use Rattle.std.proofs.lemmas.Bool.{cases_order}
use Rattle.std.proofs.lemmas.List.{get_or-map, length-map}
use Rattle.std.proofs.lemmas.Option.{get_or_from_slice_get, same_Some, slice_get-map, slice_get_within}
use Rattle.gb_text.specs.declared.decimal.TheConstants.{GREATEST_TIME}
use Rattle.gb_text.specs.declared.id.Id.{Id}
use Rattle.gb_text.specs.declared.id.Name.{Name}
use Rattle.git_object.specs.declared.commit.Commit.{Commit}
use Rattle.object_store.specs.Held.{Objects}
use Rattle.object_store.specs.Typed.{CannotReadAs, as_commit, commit_at}
use Rattle.object_store.specs.declared.fault.KindFault.{KindFault}
use Rattle.object_store.specs.declared.fault.KindFault.TheVariants as kind
use Rattle.object_store.proofs.FaultLemmas.{kind_fault-none}
use Rattle.commit_walk.specs.Below.{HasCommit, IsBelow, head}
use Rattle.commit_walk.specs.Distinct.{AreDistinct}
use Rattle.commit_walk.specs.declared.below.TheConstants.{MOST_COMMITS}
use Rattle.commit_walk.proofs.DistinctLemmas.{Contains-from_map, Contains-map, Contains-nil, Contains-cons, Contains-first, Contains-later, length-distinct}
use Rattle.commit_pack.specs.Packs.{CommitPackFaultHolds, PackNeeds, pack_under}
use Rattle.commit_pack.specs.declared.fault.CommitPackFault.{CommitPackFault}
use Rattle.commit_pack.specs.declared.fault.CommitPackFault.TheVariants as pack
use Rattle.commit_pack.proofs.LawLemmas.{not_both}
use Rattle.dag_graph.specs.Faults.{IsFaultless, IsRoot}
use Rattle.dag_graph.specs.Nodes.{no_node, node_at}
use Rattle.dag_graph.specs.declared.node.Node.{Node}
use Rattle.op_kind.specs.Meaning.{KeepsLaws, Meaning}
use Rattle.dag_entity.specs.Entities.{IsGreatestEdit, IsRootClock}
use Rattle.dag_entity.specs.Faults.{AreApart, EntityFaultHolds, FollowsBadly, HasUnknownAuthor, HasWrongId, IsFullHead, IsRootNode, IsTooLarge, IsValid, LacksCreateClock, MayNotOpen, NeedTooMany, OpensBadly, RepeatsAcross, RepeatsWithin}
use Rattle.dag_entity.specs.Heads.{AreApartIn, HasEdit, HeadsAnswers, IsGreatestIn}
use Rattle.dag_entity.specs.Judging.{AllFollowAnswers, AuthorsAnswers, HasMisplaced, IdsAnswers, OpensWell, RootAnswers, all_ids, later_ops}
use Rattle.dag_entity.specs.Loading.{AreAllLoaded, loaded_names, node_of, placed_of}
use Rattle.dag_entity.specs.Nodes.{HasPackFault, IsCommitBelow, IsNeeded, IsNodeBelow, edit_at, ids_of}
use Rattle.dag_entity.specs.Stops.{Refused}
use Rattle.dag_entity.specs.declared.entity.Loaded.{Loaded}
use Rattle.dag_entity.specs.declared.entity.Placed.{Placed}
use Rattle.dag_entity.specs.declared.fault.EntityFault.{EntityFault}
use Rattle.dag_entity.specs.declared.fault.EntityFault.TheVariants as fault
use Rattle.dag_entity.proofs.GraphLemmas.{below_down, below_up, edit_of_node, edit_same, found, no_clock_jump, no_clock_order, no_merge_with_operations, no_second_root, node_loaded, nodes_of, same_commit}
use Rattle.dag_entity.proofs.JudgeLemmas.{Contains-at, RepeatsInOne, RepeatsInTwo, distinct_in_one, distinct_in_two, place_of, repeated_parts}

-- what a mapped option is made of
mapped : {X Y : Type 0} (f : X → Y) (o : Option X) (y : Y) → option_map f o ≡ Some y → (x : X) × (o ≡ Some x) × (f x ≡ y)
mapped f None y e = absurd (cc e)
mapped f (Some x) y e = (x, refl, same_Some (f x) y e)

-- elements of a list without repetition at two places differ
apart_at : {X : Type 0} (xs : List X) (i j : ℕ) (x y : X) → AreDistinct xs → slice_get xs i ≡ Some x → slice_get xs j ≡ Some y → i < j → x ≢ y
apart_at xs i j x y once at_x at_y below same =
    once i j x below (slice_get_within xs j y at_y)
    (get_or_from_slice_get xs i x x at_x ∙ same ∙ sym (get_or_from_slice_get xs j y x at_y))

abbrev packs_of : {Op : Type 0} → List (Loaded Op) → List (Placed Op)
packs_of loaded = map placed_of loaded

module _ {Op State Row : Type 0} (k : Meaning Op State Row) (objects : Objects) (heads : List Name) (loaded : List (Loaded Op)) (are : AreAllLoaded k objects heads loaded) where
  -- what was loaded at the place of a pack
  loaded_at : (place : ℕ) (placed : Placed Op) → slice_get (packs_of loaded) place ≡ Some placed → (one : Loaded Op) × (slice_get loaded place ≡ Some one) × (one.placed ≡ placed)
  loaded_at place placed at = mapped (placed_of {Op = Op}) (slice_get loaded place) placed (sym (slice_get-map (placed_of {Op = Op}) loaded place) ∙ at)

  -- and its node
  node_there : (place : ℕ) (one : Loaded Op) → slice_get loaded place ≡ Some one → node_at (nodes_of loaded) place ≡ node_of one
  node_there place one at =
      get_or-map (node_of {Op = Op}) loaded place one no_node (slice_get_within loaded place one at)
      ∙ ap (node_of {Op = Op}) (get_or_from_slice_get loaded place one one at)

  below_at : (place : ℕ) (one : Loaded Op) → slice_get loaded place ≡ Some one → IsNodeBelow k objects heads one
  below_at place one at = are.each one (Contains-at loaded place one at)

  -- the root's node
  root_at : (root : ℕ) (placed : Placed Op) → IsRoot (nodes_of loaded) root → slice_get (packs_of loaded) root ≡ Some placed → (one : Loaded Op) × IsRootNode k objects heads one × (one.placed ≡ placed)
  root_at root placed is at =
      let l = loaded_at root placed at in
      (l.0, record { is = below_at root l.0 l.1; root = ap (λ (n : Node). n.parents) (sym (node_there root l.0 l.1)) ∙ is.root }, l.2)

  -- a loaded commit without parents stands at the root
  root_only : (root : ℕ) (place : ℕ) (one : Loaded Op) → IsRoot (nodes_of loaded) root → slice_get loaded place ≡ Some one → one.parents ≡ [] → place ≡ root
  root_only root place one is at none =
      let within : place < length (nodes_of loaded) = omega (arith, slice_get_within loaded place one at, length-map loaded (node_of {Op = Op})) in
      is.only place within (ap (λ (n : Node). n.parents) (node_there place one at) ∙ none)

  name_there : (place : ℕ) (one : Loaded Op) → slice_get loaded place ≡ Some one → slice_get (loaded_names loaded) place ≡ Some one.placed.commit
  name_there place one at = slice_get-map (λ (l : Loaded Op). l.placed.commit) loaded place ∙ ap (option_map (λ (l : Loaded Op). l.placed.commit)) at

  names_differ : (i j : ℕ) (one two : Loaded Op) → slice_get loaded i ≡ Some one → slice_get loaded j ≡ Some two → i ≢ j → one.placed.commit ≢ two.placed.commit
  names_differ i j one two at_one at_two differ same =
      elim (cases_order i j) [
        | inl e ↦ differ e
        | inr (inl below) ↦ apart_at (loaded_names loaded) i j one.placed.commit two.placed.commit are.once (name_there i one at_one) (name_there j two at_two) below same
        | inr (inr above) ↦ apart_at (loaded_names loaded) j i two.placed.commit one.placed.commit are.once (name_there j two at_two) (name_there i one at_one) above (sym same)
      ]

  -- ---- heads

  heads_below : (name : Name) → Contains heads name → IsBelow objects heads name
  heads_below name c = head c

  has_edit : (name : Name) (edit : ℕ) → HasEdit (nodes_of loaded) name edit → edit_at objects name ≡ Some edit
  has_edit name edit h = ap (edit_at objects) (sym h.is) ∙ edit_of_node k objects heads loaded are h.node h.at ∙ ap Some h.says

  edit_held : (name : Name) (edit : ℕ) → IsBelow objects heads name → edit_at objects name ≡ Some edit → HasEdit (nodes_of loaded) name edit
  edit_held name edit below says =
      let f = found k objects heads loaded are name below in
      record { node = node_of f.one; at = Contains-map (node_of {Op = Op}) loaded f.one f.among; is = f.named; says = edit_same k objects heads loaded are name f edit says }

  pub greatest : (edit : ℕ) → IsGreatestIn (nodes_of loaded) heads edit → IsGreatestEdit objects heads edit
  greatest edit h = record {
    head = h.head;
    among = h.among;
    says = has_edit h.head edit h.has;
    most = λ other clock c says. h.most other clock c (edit_held other clock (heads_below other c) says);
  }

  -- the only head of a list is one of the heads
  first_head : (one two : Name) → heads ≡ one ∷ two ∷ [] → (name : Name) → Contains (one ∷ []) name → Contains heads name
  first_head one two are_two name c = ⊎_elim
      (λ (e : one ≡ name). subst (λ (l : List Name). Contains l name) (sym are_two) (subst (Contains (one ∷ two ∷ [])) e (Contains-first one (two ∷ []))))
      (λ (none : Contains [] name). absurd (Contains-nil name none))
      (Contains-cons one [] name c)

  second_head : (one two : Name) → heads ≡ one ∷ two ∷ [] → (name : Name) → Contains (two ∷ []) name → Contains heads name
  second_head one two are_two name c = ⊎_elim
      (λ (e : two ≡ name). subst (λ (l : List Name). Contains l name) (sym are_two) (subst (Contains (one ∷ two ∷ [])) e (Contains-later one (two ∷ []) two (Contains-first two []))))
      (λ (none : Contains [] name). absurd (Contains-nil name none))
      (Contains-cons two [] name c)

  apart_up : (one two : Name) → AreApartIn (nodes_of loaded) heads one two → AreApart objects heads one two
  apart_up one two h = record {
    are = h.are;
    one_apart = λ b. h.one_apart (below_down k objects heads loaded are (two ∷ []) (second_head one two h.are) one b);
    two_apart = λ b. h.two_apart (below_down k objects heads loaded are (one ∷ []) (first_head one two h.are) two b);
  }

  apart_down : (one two : Name) → AreApart objects heads one two → AreApartIn (nodes_of loaded) heads one two
  apart_down one two h = record {
    are = h.are;
    one_apart = λ b. h.one_apart (below_up k objects heads loaded are (two ∷ []) one b);
    two_apart = λ b. h.two_apart (below_up k objects heads loaded are (one ∷ []) two b);
  }

  -- each name that was loaded holds a commit below
  has_commit : (name : Name) → Contains (loaded_names loaded) name → HasCommit objects heads name
  has_commit name c =
      let at = Contains-from_map (λ (l : Loaded Op). l.placed.commit) loaded name c in
      let n = are.each at.0 at.1 in
      record { below = subst (IsBelow objects heads) at.2 n.below; commit = n.is.commit; held = ap (commit_at objects) (sym at.2) ∙ n.is.held }

  module _ (id : Id) (authors : List Id) where
    abbrev Holds : EntityFault → Type 0
    Holds = EntityFaultHolds k objects id heads authors

    -- ---- what is asked of packs

    pub root_refused : (root : ℕ) (placed : Placed Op) (f : EntityFault) → IsRoot (nodes_of loaded) root → slice_get (packs_of loaded) root ≡ Some placed
        → RootAnswers k id placed (Err f) → Refused Holds f
    unfolding EntityFaultHolds
    root_refused root placed (fault.NoCreateClock n) is at h =
        let r = root_at root placed is at in
        let it : LacksCreateClock k objects heads n = record { node = r.0; is = r.1; named = ap (λ (p : Placed Op). p.commit) r.2 ∙ sym h.0; lacks = ap (λ (p : Placed Op). p.pack.create) r.2 ∙ h.1 } in it
    root_refused root placed fault.FirstNotCreate is at h =
        let r = root_at root placed is at in
        let it : OpensBadly k objects heads = record { node = r.0; is = r.1; bad = subst (λ (p : Placed Op). MayNotOpen k p.pack.ops) (sym r.2) h } in it
    root_refused root placed (fault.WrongId i) is at h =
        let r = root_at root placed is at in
        let it : HasWrongId k objects heads id i = record { node = r.0; is = r.1; first = ap (λ (p : Placed Op). slice_get (ids_of k p.pack) 0) r.2 ∙ h.0; wrong = h.1 } in it
    root_refused root placed _ is at h = absurd h

    -- an operation behind others in a pack
    misplaced : (root place : ℕ) (one : Loaded Op) (found : Id) → IsRoot (nodes_of loaded) root → slice_get loaded place ≡ Some one
        → (b : Bool) → (place == root) ≡ b → HasMisplaced k (later_ops k b one.placed.pack.ops) found → FollowsBadly k objects heads found
    misplaced root place one found is at false other h = record {
      node = one;
      is = below_at place one at;
      place = h.place;
      op = h.op;
      at = h.at;
      named = h.named;
      bad = h.bad;
      later = λ none first. let same : place ≡ root = root_only root place one is at none in grind (arith, same, other);
    }
    misplaced root place one found is at true same h = behind one.placed.pack.ops refl h
      where
        behind : (ops : List Op) → one.placed.pack.ops ≡ ops → HasMisplaced k (later_ops k true ops) found → FollowsBadly k objects heads found
        behind [] e m = absurd (cc m.at)
        behind (o ∷ os) e m = record {
          node = one;
          is = below_at place one at;
          place = suc m.place;
          op = m.op;
          at = ap (λ (l : List Op). slice_get l (suc m.place)) e ∙ m.at;
          named = m.named;
          bad = m.bad;
          later = λ none first. absurd (cc first);
        }

    pub follow_refused : (root : ℕ) (f : EntityFault) → IsRoot (nodes_of loaded) root → AllFollowAnswers k (packs_of loaded) (λ place. place == root) (Err f) → Refused Holds f
    unfolding EntityFaultHolds
    follow_refused root (fault.SecondCreate i) is h =
        let l = loaded_at h.place h.placed h.at in
        let bad : HasMisplaced k (later_ops k (h.place == root) l.0.placed.pack.ops) i = subst (λ (p : Placed Op). HasMisplaced k (later_ops k (h.place == root) p.pack.ops) i) (sym l.2) h.bad in
        misplaced root h.place l.0 i is l.1 (h.place == root) refl bad
    follow_refused root _ is h = absurd h

    pub ids_refused : (f : EntityFault) → IdsAnswers k (packs_of loaded) (Err f) → Refused Holds f
    unfolding EntityFaultHolds
    ids_refused fault.Memory h = tt
    ids_refused (fault.RepeatedOperation i) h = ⊎_elim (λ (one : RepeatsInOne k (packs_of loaded) i). inl (within one)) (λ (two : RepeatsInTwo k (packs_of loaded) i). inr (across two)) (repeated_parts k (packs_of loaded) i h)
      where
        within : RepeatsInOne k (packs_of loaded) i → RepeatsWithin k objects heads i
        within r =
            let l = Contains-from_map (placed_of {Op = Op}) loaded r.placed r.among in
            record {
              node = l.0;
              is = are.each l.0 l.1;
              one = r.one;
              two = r.two;
              differ = r.differ;
              at_one = ap (λ (p : Placed Op). slice_get (ids_of k p.pack) r.one) l.2 ∙ r.at_one;
              at_two = ap (λ (p : Placed Op). slice_get (ids_of k p.pack) r.two) l.2 ∙ r.at_two;
            }

        across : RepeatsInTwo k (packs_of loaded) i → RepeatsAcross k objects heads i
        across r =
            let one = loaded_at r.first r.one r.at_first in
            let two = loaded_at r.second r.two r.at_second in
            record {
              one = one.0;
              two = two.0;
              is_one = below_at r.first one.0 one.1;
              is_two = below_at r.second two.0 two.1;
              differ = λ same. names_differ r.first r.second one.0 two.0 one.1 two.1 r.differ same;
              in_one = subst (λ (p : Placed Op). Contains (ids_of k p.pack) i) (sym one.2) r.in_one;
              in_two = subst (λ (p : Placed Op). Contains (ids_of k p.pack) i) (sym two.2) r.in_two;
            }
    ids_refused _ h = absurd h

    pub authors_refused : (f : EntityFault) → AuthorsAnswers k (packs_of loaded) authors (Err f) → Refused Holds f
    unfolding EntityFaultHolds
    authors_refused fault.Memory h = tt
    authors_refused (fault.AuthorUnknown a) h =
        let l = Contains-from_map (placed_of {Op = Op}) loaded h.placed h.among in
        let it : HasUnknownAuthor k objects heads authors a = record { node = l.0; is = are.each l.0 l.1; wrote = ap (λ (p : Placed Op). p.pack.author) l.2 ∙ h.wrote; unknown = h.unknown } in it
    authors_refused _ h = absurd h

    pub heads_refused : (f : EntityFault) → HeadsAnswers (nodes_of loaded) heads (Err f) → Refused Holds f
    unfolding EntityFaultHolds
    heads_refused (fault.TooLarge count) h =
        let apart = h.2 in
        let many : MOST_COMMITS ≤ length (loaded_names loaded) = omega (arith, h.1, length-map loaded (node_of {Op = Op}), length-map loaded (λ (l : Loaded Op). l.placed.commit)) in
        let need : NeedTooMany objects heads = record { one = apart.0; two = apart.1; apart = apart_up apart.0 apart.1 apart.2; names = loaded_names loaded; once = are.once; many = many; each = has_commit } in
        inl (h.0, inr need)
    heads_refused (fault.ClockFull name) h =
        let apart = h.2 in
        let it : IsFullHead objects heads name = record { one = apart.0; two = apart.1; apart = apart_up apart.0 apart.1 apart.2; head = h.0; full = has_edit name GREATEST_TIME h.1 } in it
    heads_refused _ h = absurd h

    -- ---- where nothing is wrong

    module _ (laws : KeepsLaws k) where
      -- a commit that was loaded has a pack
      no_pack_fault : (name : Name) (f : CommitPackFault) → HasPackFault k objects heads name f → ⊥
      no_pack_fault name f h =
          let at = found k objects heads loaded are name h.is.below in
          let same : at.is.commit ≡ h.commit = same_commit k objects heads loaded are name h.commit at h.is.held in
          not_both k objects h.commit.tree laws at.one.placed.pack f (ap (λ (c : Commit). pack_under k objects c.tree) (sym same) ∙ at.is.pack) h.holds

      -- and a name below holds a commit
      no_kind_fault : (name : Name) (f : KindFault) → IsBelow objects heads name → CannotReadAs as_commit objects name f → ⊥
      no_kind_fault name f below h =
          let at = found k objects heads loaded are name below in
          let held : commit_at objects name ≡ Some at.is.commit = ap (commit_at objects) (sym at.named) ∙ at.is.held in
          let none : commit_at objects name ≡ None = kind_fault-none as_commit objects name f h in
          cc (sym none ∙ held)

      needed : (name : Name) (f : KindFault) (p : CommitPackFault) → CannotReadAs as_commit objects name f
          → ((high : Name) (commit : Commit) → IsCommitBelow objects heads high commit → PackNeeds objects commit.tree name → CommitPackFaultHolds k objects commit.tree p)
          → IsNeeded objects heads name → ⊥
      needed name f p cannot gives (inl below) = no_kind_fault name f below cannot
      needed name f p cannot gives (inr h) = no_pack_fault h.high p (record { commit = h.commit; is = h.is; holds = gives h.high h.commit h.is h.needs })

      few_names : (names : List Name) → AreDistinct names → ((name : Name) → Contains names name → HasCommit objects heads name) → length names ≤ length loaded
      few_names names once each =
          let fewer : length names ≤ length (loaded_names loaded) = length-distinct names (loaded_names loaded) once (λ name c. are.all name (each name c).below) in
          omega (arith, fewer, length-map loaded (λ (l : Loaded Op). l.placed.commit))

      -- what was found of what was loaded
      pub record IsGood (root create edit : ℕ) : Type 0 where
        pub few : length loaded ≤ MOST_COMMITS
        pub faultless : IsFaultless (nodes_of loaded)
        pub is_root : IsRoot (nodes_of loaded) root
        pub placed : Placed Op
        pub at : slice_get (packs_of loaded) root ≡ Some placed
        pub opens : OpensWell k id placed.pack create
        pub follow : AllFollowAnswers k (packs_of loaded) (λ place. place == root) (Ok tt)
        pub ids : AreDistinct (all_ids k (packs_of loaded))
        pub known : AuthorsAnswers k (packs_of loaded) authors (Ok tt)
        pub room : HeadsAnswers (nodes_of loaded) heads (Ok edit)

      pub root_clock_is : (root create edit : ℕ) → IsGood root create edit → IsRootClock k objects heads create
      root_clock_is root create edit good =
          let r = root_at root good.placed good.is_root good.at in
          record { node = r.0; is = r.1; says = ap (λ (p : Placed Op). p.pack.create) r.2 ∙ good.opens.says }

      module _ (root create edit : ℕ) (good : IsGood root create edit) where
        -- a root's node has the pack that was asked
        root_is : (node : Loaded Op) → IsRootNode k objects heads node → node.placed ≡ good.placed
        root_is node h =
            let place = place_of loaded node (node_loaded k objects heads loaded are node h.is) in
            let same : place.0 ≡ root = root_only root place.0 node good.is_root place.1 h.root in
            let there = loaded_at root good.placed good.at in
            let one : there.0 ≡ node = same_Some there.0 node (sym there.1 ∙ ap (slice_get loaded) (sym same) ∙ place.1) in
            ap (λ (l : Loaded Op). l.placed) (sym one) ∙ there.2

        too_large : (count : ℕ) → IsTooLarge k objects heads count → ⊥
        too_large count (inl (e, inl many)) = let few = few_names many.names many.once many.each in omega (arith, few, good.few, many.many)
        too_large count (inl (e, inr need)) =
            let few = few_names need.names need.once need.each in
            let room = good.room.1 need.one need.two (apart_down need.one need.two need.apart) in
            omega (arith, few, room.few, need.many, length-map loaded (node_of {Op = Op}))
        too_large count (inr (inl h)) = no_pack_fault h.0 (pack.TooLarge count) h.1
        too_large count (inr (inr h)) =
            needed h.1.0 (kind.Large h.1.0) (pack.Large h.1.0) (refl, h.1.2) (λ high commit is needs. (needs, h.1.2)) h.1.1

        repeats_within : (i : Id) → RepeatsWithin k objects heads i → ⊥
        repeats_within i h =
            let among = Contains-map (placed_of {Op = Op}) loaded h.node (node_loaded k objects heads loaded are h.node h.is) in
            distinct_in_one k (packs_of loaded) i good.ids
            (record { placed = h.node.placed; among = among; one = h.one; two = h.two; differ = h.differ; at_one = h.at_one; at_two = h.at_two })

        placed_place : (node : Loaded Op) → IsNodeBelow k objects heads node → (place : ℕ) × (slice_get loaded place ≡ Some node) × (slice_get (packs_of loaded) place ≡ Some node.placed)
        placed_place node is =
            let place = place_of loaded node (node_loaded k objects heads loaded are node is) in
            (place.0, place.1, slice_get-map (placed_of {Op = Op}) loaded place.0 ∙ ap (option_map (placed_of {Op = Op})) place.1)

        repeats_across : (i : Id) → RepeatsAcross k objects heads i → ⊥
        repeats_across i h =
            let one = placed_place h.one h.is_one in
            let two = placed_place h.two h.is_two in
            distinct_in_two k (packs_of loaded) i good.ids
            (record {
              first = one.0;
              second = two.0;
              differ = λ same. h.differ (ap (λ (l : Loaded Op). l.placed.commit) (same_Some h.one h.two (sym one.1 ∙ ap (slice_get loaded) same ∙ two.1)));
              one = h.one.placed;
              two = h.two.placed;
              at_first = one.2;
              at_second = two.2;
              in_one = h.in_one;
              in_two = h.in_two;
            })

        wrong_id : (i : Id) → HasWrongId k objects heads id i → ⊥
        wrong_id i h =
            let same : h.node.placed ≡ good.placed = root_is h.node h.is in
            let ops : h.node.placed.pack.ops ≡ good.opens.first ∷ good.opens.rest = ap (λ (p : Placed Op). p.pack.ops) same ∙ good.opens.begins in
            let first : Some i ≡ Some (k.common_of good.opens.first).place.id = sym h.first ∙ ap (λ (l : List Op). slice_get (map (λ (o : Op). (k.common_of o).place.id) l) 0) ops in
            h.wrong (same_Some i (k.common_of good.opens.first).place.id first ∙ good.opens.id_is)

        opens_badly : OpensBadly k objects heads → ⊥
        opens_badly h =
            let same : h.node.placed ≡ good.placed = root_is h.node h.is in
            let ops : h.node.placed.pack.ops ≡ good.opens.first ∷ good.opens.rest = ap (λ (p : Placed Op). p.pack.ops) same ∙ good.opens.begins in
            let bad : k.is_opening good.opens.first ≡ false = subst (MayNotOpen k) ops h.bad in
            cc (sym bad ∙ good.opens.opening)

        follows_badly : (i : Id) → FollowsBadly k objects heads i → ⊥
        follows_badly i h =
            let at = placed_place h.node h.is in
            each (at.0 == root) at.0 refl at.1 (good.follow at.0 h.node.placed at.2)
          where
            All-at : (ops : List Op) (i : ℕ) (op : Op) → AllByRecursion (λ op. k.is_following op ≡ true) ops → slice_get ops i ≡ Some op → k.is_following op ≡ true
            All-at [] i op all at = absurd (cc at)
            All-at (o ∷ os) zero op all at = ap k.is_following (sym (same_Some o op at)) ∙ all.0
            All-at (o ∷ os) (suc i) op all at = All-at os i op all.1 at

            -- the node at the root's place has no parents
            root_parents : (place : ℕ) → (place == root) ≡ true → slice_get loaded place ≡ Some h.node → h.node.parents ≡ []
            root_parents place e at =
                let same : place ≡ root = grind (arith, e) in
                ap (λ (n : Node). n.parents) (sym (node_there place h.node at) ∙ ap (node_at (nodes_of loaded)) same) ∙ good.is_root.root

            -- an operation of the root behind its first
            behind : (ops : List Op) (i : ℕ) → slice_get ops i ≡ Some h.op → (i ≡ 0 → ⊥) → AllByRecursion (λ op. k.is_following op ≡ true) (later_ops k true ops) → ⊥
            behind [] i at first all = cc at
            behind (o ∷ os) zero at first all = first refl
            behind (o ∷ os) (suc i) at first all = let yes = All-at os i h.op all at in cc (sym h.bad ∙ yes)

            each : (b : Bool) → (place : ℕ) → (place == root) ≡ b → slice_get loaded place ≡ Some h.node → AllByRecursion (λ op. k.is_following op ≡ true) (later_ops k b h.node.placed.pack.ops) → ⊥
            each false place e at all = let yes = All-at h.node.placed.pack.ops h.place h.op all h.at in cc (sym h.bad ∙ yes)
            each true place e at all = behind h.node.placed.pack.ops h.place h.at (λ none. h.later (root_parents place e at) none) all

        pub valid : IsValid k objects id heads authors
        unfolding EntityFaultHolds
        valid fault.Memory h = h
        valid fault.Disk h = h
        valid (fault.Missing name) h = needed name (kind.Missing name) (pack.Missing name) (refl, h.1) (λ high commit is needs. (needs, h.1)) h.0
        valid (fault.Damaged name) h = needed name (kind.Damaged name) (pack.Damaged name) (refl, h.1) (λ high commit is needs. (needs, h.1)) h.0
        valid (fault.NotCommit name) h = no_kind_fault name (kind.OtherKind name) h.0 (refl, h.1)
        valid (fault.BadTree name) h = no_pack_fault name pack.BadTree h
        valid (fault.UnknownVersion name n) h = no_pack_fault name (pack.UnknownVersion n) h
        valid (fault.NoOps name) h = no_pack_fault name pack.NoOps h
        valid (fault.BadClock name) h = no_pack_fault name pack.BadClock h
        valid (fault.BadPack name) h = no_pack_fault name pack.BadPack h
        valid (fault.BadOperation name i f) h = no_pack_fault name (pack.BadOperation i f) h
        valid (fault.SecondRoot name) h = no_second_root k objects heads loaded are good.faultless name h
        valid (fault.ClockOrder high low) h = no_clock_order k objects heads loaded are good.faultless high low h
        valid (fault.ClockJump high low) h = no_clock_jump k objects heads loaded are good.faultless high low h
        valid (fault.MergeHasOperations name) h = no_merge_with_operations k objects heads loaded are good.faultless name h
        valid (fault.NoCreateClock name) h =
            let same : h.node.placed ≡ good.placed = root_is h.node h.is in
            cc (sym h.lacks ∙ ap (λ (p : Placed Op). p.pack.create) same ∙ good.opens.says)
        valid (fault.RepeatedOperation i) (inl h) = repeats_within i h
        valid (fault.RepeatedOperation i) (inr h) = repeats_across i h
        valid (fault.WrongId i) h = wrong_id i h
        valid fault.FirstNotCreate h = opens_badly h
        valid (fault.SecondCreate i) h = follows_badly i h
        valid (fault.AuthorUnknown a) h =
            let c = good.known h.node.placed (Contains-map (placed_of {Op = Op}) loaded h.node (node_loaded k objects heads loaded are h.node h.is)) in
            h.unknown (subst (Contains authors) h.wrote c)
        valid (fault.TooLarge count) h = too_large count h
        valid (fault.ClockFull name) h =
            let room = good.room.1 h.one h.two (apart_down h.one h.two h.apart) in
            room.free name h.head (edit_held name GREATEST_TIME (heads_below name h.head) h.full)
