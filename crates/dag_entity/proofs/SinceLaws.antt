-- A chain of commits above a known name: what is sound at its head is so at the known name, and has the chain's operations more.
use Rattle.std.proofs.Common.{◌≡◌, ◌⊎◌, inl, inr, ⊎_elim, ◌≤◌, ◌<◌, ℕ, zero, suc, List, [], ◌∷◌, ◌++◌, length, Contains, Some, refl, sym, ◌∙◌, ap, subst, arith, append_assoc, append-nil, true, flat_map}
use Rattle.std.specs.List.{AllByRecursion, slice_get}
use Rattle.std.proofs.lemmas.Bool.{cases_Bool, cases_lt}
use Rattle.std.proofs.lemmas.List.Concat.{flat_map-append}
use Rattle.std.proofs.lemmas.List.Elements.{Contains-append_left, Contains-push, Contains-push_cases}
use Rattle.std.proofs.lemmas.Option.{same_Some}
use Rattle.gb_text.specs.declared.id.Id.{Id}
use Rattle.gb_text.specs.declared.id.Name.{Name}
use Rattle.git_object.specs.declared.commit.Commit.{Commit}
use Rattle.object_store.specs.Held.{Objects}
use Rattle.object_store.specs.Typed.{commit_at}
use Rattle.commit_walk.specs.Below.{IsBelow, IsParent, head as at_top, parent}
use Rattle.commit_walk.proofs.DistinctLemmas.{Contains-first, Contains-one}
use Rattle.commit_pack.specs.Packs.{pack_under}
use Rattle.commit_pack.specs.declared.fault.CommitPackFault.{CommitPackFault}
use Rattle.commit_pack.specs.declared.fault.CommitPackFault.TheVariants as pack
use Rattle.op_kind.specs.Meaning.{KeepsLaws, Meaning}
use Rattle.dag_entity.specs.Entities.{AreOperationCommits, IsOperationCommit, IsOperationList, ops_in}
use Rattle.dag_entity.specs.Faults.{EntityFaultHolds}
use Rattle.dag_entity.specs.Nodes.{IsNode, IsNodeBelow, edit_at, pack_at}
use Rattle.dag_entity.specs.Since.{IsChainTo, IsSoundAt}
use Rattle.dag_entity.specs.Stops.{pack_stop}
use Rattle.dag_entity.specs.declared.entity.Loaded.{Loaded}
use Rattle.dag_entity.specs.declared.entity.Placed.{Placed}
use Rattle.dag_entity.specs.declared.fault.EntityFault.TheVariants as fault
use Rattle.dag_entity.proofs.FewerLemmas.{wrong_above}
use Rattle.dag_entity.proofs.LawValid.{below_pack_or_fault, edit_of_pack, pack_of_node}
use Rattle.dag_entity.proofs.PairLemmas.{under}
use Rattle.dag_entity.proofs.RankLemmas.{later_last}
use Rattle.dag_entity.proofs.ReadLemmas.{pack_fault_holds}

-- ---- lists

all_at : {X : Type 0} (P : X → Type 0) (xs : List X) → ((place : ℕ) (x : X) → slice_get xs place ≡ Some x → P x) → AllByRecursion P xs
all_at P [] all = tt
all_at P (x ∷ xs) all = (all zero x refl, all_at P xs (λ place y at. all (suc place) y at))

all_append : {X : Type 0} (P : X → Type 0) (xs ys : List X) → AllByRecursion P xs → AllByRecursion P ys → AllByRecursion P (xs ++ ys)
all_append P [] ys one two = two
all_append P (x ∷ xs) ys one two = (one.0, all_append P xs ys one.1 two)

none_or_some : {X : Type 0} (xs : List X) → (xs ≡ []) ⊎ (0 < length xs)
none_or_some [] = inl refl
none_or_some (x ∷ xs) = inr (omega arith)

-- what keeps a commit from having a pack is no unknown author
no_author : (name : Name) (f : CommitPackFault) (author : Id) → pack_stop name f ≡ fault.AuthorUnknown author → ⊥
no_author name pack.Memory author e = cc (e)
no_author name pack.Disk author e = cc (e)
no_author name (pack.Missing n) author e = cc (e)
no_author name (pack.Damaged n) author e = cc (e)
no_author name (pack.Large n) author e = cc (e)
no_author name pack.BadTree author e = cc (e)
no_author name (pack.UnknownVersion n) author e = cc (e)
no_author name pack.NoOps author e = cc (e)
no_author name pack.BadClock author e = cc (e)
no_author name pack.BadPack author e = cc (e)
no_author name (pack.BadOperation i f) author e = cc (e)
no_author name (pack.TooLarge n) author e = cc (e)

module _ {Op State Row : Type 0} (k : Meaning Op State Row) (objects : Objects) where
  -- the node of a commit of a chain
  abbrev link_node : Name → Placed Op → Loaded Op
  link_node known low = record { parents = known ∷ []; placed = low }

  link_leads : (known : Name) (low : Placed Op) → IsNode k objects (link_node known low) → IsParent objects low.commit known
  link_leads known low node = record { commit = node.commit; held = node.held; names = subst (λ (l : List Name). Contains l known) node.parents (Contains-first known []) }

  pub chain_is_below : (head known : Name) (packs : List (Placed Op)) → IsChainTo k objects head known packs → IsBelow objects (head ∷ []) known
  chain_is_below head known [] leads = at_top (subst (λ (n : Name). Contains (n ∷ []) known) leads (Contains-first known []))
  chain_is_below head known (low ∷ packs) leads = parent (chain_is_below head low.commit packs leads.0) (link_leads known low leads.1)

  module _ (id : Id) where
    sound_below : (head low : Name) → IsBelow objects (head ∷ []) low → IsSoundAt k objects id head → IsSoundAt k objects id low
    sound_below head low below sound f known h = sound f known (wrong_above k objects id [] (head ∷ []) low below f h)

    pub chain_is_sound : (head known : Name) (packs : List (Placed Op)) → IsSoundAt k objects id head → IsChainTo k objects head known packs → IsSoundAt k objects id known
    chain_is_sound head known packs sound leads = sound_below head known (chain_is_below head known packs leads) sound

    module _ (laws : KeepsLaws k) (head : Name) (sound : IsSoundAt k objects id head) where
      -- ---- edit clocks

      -- a commit below has an edit clock
      says_edit : (name : Name) (commit : Commit) → IsBelow objects (head ∷ []) name → commit_at objects name ≡ Some commit → (edit : ℕ) × (edit_at objects name ≡ Some edit)
      says_edit name commit below held =
          elim (below_pack_or_fault k laws objects (head ∷ []) name commit (record { below = below; held = held })) [
            | inl has ↦ (has.0.edit, edit_of_pack k objects name has.0 has.1)
            | inr fails ↦ absurd (sound (pack_stop name fails.0) (no_author name fails.0) (pack_fault_holds k objects (head ∷ []) id [] name fails.1.commit fails.1.is fails.0 fails.1.holds))
          ]

      -- the clock of a parent is less
      edit_rises : (high low : Name) (above beneath : ℕ) → IsBelow objects (head ∷ []) high → IsParent objects high low → edit_at objects high ≡ Some above → edit_at objects low ≡ Some beneath → beneath < above
      unfolding EntityFaultHolds
      edit_rises high low above beneath below leads says_above says_beneath =
          elim (cases_lt beneath above) [
            | inl less ↦ less
            | inr falls ↦ absurd (sound (fault.ClockOrder high low) (λ author e. cc (e))
                (record { below = below; parent = leads; above = above; beneath = beneath; says_above = says_above; says_beneath = says_beneath; falls = falls }))
          ]

      -- so is that of any commit below the parent
      edit_less : (high low : Name) (above : ℕ) → IsBelow objects (head ∷ []) high → IsParent objects high low → edit_at objects high ≡ Some above
          → (name : Name) → IsBelow objects (low ∷ []) name → (edit : ℕ) → edit_at objects name ≡ Some edit → edit < above
      edit_less high low above below leads says name (at_top c) edit is =
          let same : low ≡ name = Contains-one low name c in
          edit_rises high low above edit below leads says (ap (edit_at objects) same ∙ is)
      edit_less high low above below leads says name (parent {high = next} b p) edit is =
          let here : IsBelow objects (head ∷ []) next = under objects (head ∷ []) low (parent below leads) next b in
          let clock = says_edit next p.commit here p.held in
          let less = edit_less high low above below leads says next b clock.0 clock.1 in
          let rises = edit_rises next name clock.0 edit here p clock.1 is in
          omega (arith, less, rises)

      -- ---- an operation of a node with a parent may follow

      may_follow : (known : Name) (low : Placed Op) → IsNode k objects (link_node known low) → IsBelow objects (head ∷ []) low.commit → AllByRecursion (λ (op : Op). k.is_following op ≡ true) low.pack.ops
      unfolding EntityFaultHolds
      may_follow known low node below = all_at (λ (op : Op). k.is_following op ≡ true) low.pack.ops (λ place op at. elim (cases_Bool (k.is_following op)) [
        | inl good ↦ good
        | inr bad ↦ absurd (sound (fault.SecondCreate (k.common_of op).place.id) (λ author e. cc (e))
            (record { node = link_node known low; is = record { below = below; is = node }; place = place; op = op; at = at; named = refl; bad = bad; later = λ none zero. absurd (cc (none)) }))
      ])

      -- ---- the operations of one commit more

      module _ (known : Name) (low : Placed Op) (node : IsNode k objects (link_node known low)) (here : IsBelow objects (head ∷ []) low.commit) where
        has_pack : pack_at k objects low.commit ≡ Some low.pack
        has_pack = pack_of_node k objects (link_node known low) node

        -- below the commit lie itself and what lies below its parent
        one_or_below : (name : Name) → IsBelow objects (low.commit ∷ []) name → (low.commit ≡ name) ⊎ IsBelow objects (known ∷ []) name
        one_or_below name (at_top c) = inl (Contains-one low.commit name c)
        one_or_below name (parent {high = high} b p) = ⊎_elim
            (λ (e : low.commit ≡ high).
            let same : p.commit ≡ node.commit = same_Some p.commit node.commit (sym p.held ∙ ap (commit_at objects) (sym e) ∙ node.held) in
            let parents : p.commit.parents ≡ known ∷ [] = ap (λ (c : Commit). c.parents) same ∙ sym node.parents in
            inr (at_top (subst (λ (l : List Name). Contains l name) parents p.names)))
            (λ (h : IsBelow objects (known ∷ []) high). inr (parent h p))
            (one_or_below high b)

        up : (name : Name) → IsBelow objects (known ∷ []) name → IsBelow objects (low.commit ∷ []) name
        up name b = under objects (low.commit ∷ []) known (parent (at_top (Contains-first low.commit [])) (link_leads known low node)) name b

        over : (placed : Placed Op) → IsOperationCommit k objects (known ∷ []) placed → IsOperationCommit k objects (low.commit ∷ []) placed
        over placed o = record { below = up placed.commit o.below; has = o.has; some = o.some }

        -- an operation commit is the commit itself or one below its parent
        one_or_over : (placed : Placed Op) → IsOperationCommit k objects (low.commit ∷ []) placed → (low ≡ placed) ⊎ IsOperationCommit k objects (known ∷ []) placed
        one_or_over placed o = ⊎_elim
            (λ (e : low.commit ≡ placed.commit).
            let same : low.pack ≡ placed.pack = same_Some low.pack placed.pack (sym has_pack ∙ ap (pack_at k objects) e ∙ o.has) in
            inl (grind (arith, e, same)))
            (λ (b : IsBelow objects (known ∷ []) placed.commit). inr (record { below = b; has = o.has; some = o.some }))
            (one_or_below placed.commit o.below)

        -- without an operation it adds nothing
        none_more : (packs : List (Placed Op)) → low.pack.ops ≡ [] → AreOperationCommits k objects (known ∷ []) packs → AreOperationCommits k objects (low.commit ∷ []) packs
        none_more packs none are = record {
          all = λ placed o. ⊎_elim
              (λ (e : low ≡ placed). let count : length placed.pack.ops ≡ length {A = Op} [] = ap (λ (p : Placed Op). length p.pack.ops) (sym e) ∙ ap length none in absurd (omega (arith, count, o.some)))
              (λ (h : IsOperationCommit k objects (known ∷ []) placed). are.all placed h)
              (one_or_over placed o);
          only = λ placed c. over placed (are.only placed c);
          rise = are.rise;
        }

        -- with one it comes last
        one_more : (packs : List (Placed Op)) → 0 < length low.pack.ops → AreOperationCommits k objects (known ∷ []) packs → AreOperationCommits k objects (low.commit ∷ []) (packs ++ low ∷ [])
        one_more packs some are = record {
          all = λ placed o. ⊎_elim
              (λ (e : low ≡ placed). subst (Contains (packs ++ low ∷ [])) e (Contains-push packs low))
              (λ (h : IsOperationCommit k objects (known ∷ []) placed). Contains-append_left packs (low ∷ []) placed (are.all placed h))
              (one_or_over placed o);
          only = λ placed c. ⊎_elim
              (λ (h : Contains packs placed). over placed (are.only placed h))
              (λ (e : low ≡ placed). subst (IsOperationCommit k objects (low.commit ∷ [])) e (record { below = at_top (Contains-first low.commit []); has = has_pack; some = some }))
              (Contains-push_cases packs low placed c);
          rise = later_last packs low are.rise (λ other c.
              let o = are.only other c in
              edit_less low.commit known low.pack.edit here (link_leads known low node) (edit_of_pack k objects low.commit low.pack has_pack) other.commit o.below other.pack.edit (edit_of_pack k objects other.commit other.pack o.has));
        }

        step : (old : List Op) → IsOperationList k objects (known ∷ []) old → IsOperationList k objects (low.commit ∷ []) (old ++ low.pack.ops)
        step old list =
            elim (none_or_some low.pack.ops) [
              | inl none ↦ record { packs = list.packs; are = none_more list.packs none list.are; written_out = ap (λ (ops : List Op). old ++ ops) none ∙ append-nil old ∙ list.written_out }
              | inr some ↦ record {
                packs = list.packs ++ low ∷ [];
                are = one_more list.packs some list.are;
                written_out = ap (λ (ops : List Op). ops ++ low.pack.ops) list.written_out ∙ ap (λ (ops : List Op). flat_map (λ (p : Placed Op). p.pack.ops) list.packs ++ ops) (sym (append-nil low.pack.ops))
                    ∙ sym (flat_map-append (λ (p : Placed Op). p.pack.ops) list.packs (low ∷ []));
              }
            ]

    module _ (laws : KeepsLaws k) where
      -- the operations of a chain come behind those at the known name
      pub chain_adds : (head known : Name) (packs : List (Placed Op)) (old : List Op) → IsSoundAt k objects id head → IsChainTo k objects head known packs → IsOperationList k objects (known ∷ []) old
          → IsOperationList k objects (head ∷ []) (old ++ ops_in k packs)
      chain_adds head known [] old sound leads list = subst (IsOperationList k objects (head ∷ [])) (sym (append-nil old)) (subst (λ (n : Name). IsOperationList k objects (n ∷ []) old) leads list)
      chain_adds head known (low ∷ packs) old sound leads list =
          let here = chain_is_below head low.commit packs leads.0 in
          subst (IsOperationList k objects (head ∷ [])) (append_assoc old low.pack.ops (ops_in k packs))
          (chain_adds head low.commit packs (old ++ low.pack.ops) sound leads.0 (step laws head sound known low leads.1 here old list))

      -- each of them may stand behind others
      pub chain_follows : (head known : Name) (packs : List (Placed Op)) → IsSoundAt k objects id head → IsChainTo k objects head known packs → AllByRecursion (λ (op : Op). k.is_following op ≡ true) (ops_in k packs)
      chain_follows head known [] sound leads = tt
      chain_follows head known (low ∷ packs) sound leads = all_append (λ (op : Op). k.is_following op ≡ true) low.pack.ops (ops_in k packs)
          (may_follow laws head sound known low leads.1 (chain_is_below head low.commit packs leads.0))
          (chain_follows head low.commit packs sound leads.0)
