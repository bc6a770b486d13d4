-- Two heads that are valid alone are so together, where nothing is wrong that takes both.
use Rattle.std.proofs.Common.{◌≡◌, ◌≢◌, ◌⊎◌, inl, inr, ◌<◌, ℕ, List, [], ◌∷◌, length, Contains, Some, ap, ◌∙◌, arith}
use Rattle.gb_text.specs.declared.decimal.TheConstants.{GREATEST_TIME}
use Rattle.gb_text.specs.declared.id.Id.{Id}
use Rattle.gb_text.specs.declared.id.Name.{Name}
use Rattle.object_store.specs.Held.{Objects}
use Rattle.commit_walk.specs.Below.{HasCommit, IsBelow}
use Rattle.commit_walk.proofs.BelowLemmas.{below_one}
use Rattle.commit_walk.proofs.DistinctLemmas.{Contains-cons, Contains-one, length-distinct}
use Rattle.commit_pack.specs.declared.fault.CommitPackFault.{CommitPackFault}
use Rattle.commit_pack.specs.declared.fault.CommitPackFault.TheVariants as pack
use Rattle.op_kind.specs.Meaning.{Meaning}
use Rattle.dag_entity.specs.Faults.{EntityFaultHolds, IsRootCommit, IsRootNode, IsTooLarge, IsValid, RepeatsAcross}
use Rattle.dag_entity.specs.Nodes.{HasPackFault, IsNeeded, IsNodeBelow, edit_at}
use Rattle.dag_entity.specs.declared.entity.Loaded.{Loaded}
use Rattle.dag_entity.specs.declared.fault.EntityFault.{EntityFault}
use Rattle.dag_entity.specs.declared.fault.EntityFault.TheVariants as fault

module _ {Op State Row : Type 0} (k : Meaning Op State Row) (objects : Objects) (id : Id) (authors : List Id) (one two : Name) where
  abbrev both : List Name
  both = one ∷ two ∷ []

  module _ (first : IsValid k objects id (one ∷ []) authors) (second : IsValid k objects id (two ∷ []) authors) where
    -- what is wrong below both is wrong below one
    below : (name : Name) → IsBelow objects both name → ((heads : List Name) → IsValid k objects id heads authors → IsBelow objects heads name → ⊥) → ⊥
    below name b never = elim (below_one objects one two b) [ inl l ↦ never (one ∷ []) first l | inr r ↦ never (two ∷ []) second r ]

    needed : (name : Name) → IsNeeded objects both name → ((heads : List Name) → IsValid k objects id heads authors → IsNeeded objects heads name → ⊥) → ⊥
    needed name (inl b) never = below name b (λ heads v b. never heads v (inl b))
    needed name (inr n) never = below n.high n.is.below (λ heads v b. never heads v (inr (record { high = n.high; commit = n.commit; is = record { below = b; held = n.is.held }; needs = n.needs })))

    pack_fault : (name : Name) (f : CommitPackFault) → HasPackFault k objects both name f → ((heads : List Name) → IsValid k objects id heads authors → HasPackFault k objects heads name f → ⊥) → ⊥
    pack_fault name f h never = below name h.is.below (λ heads v b. never heads v (record { commit = h.commit; is = record { below = b; held = h.is.held }; holds = h.holds }))

    node_below : (node : Loaded Op) → IsNodeBelow k objects both node → ((heads : List Name) → IsValid k objects id heads authors → IsNodeBelow k objects heads node → ⊥) → ⊥
    node_below node n never = below node.placed.commit n.below (λ heads v b. never heads v (record { below = b; is = n.is }))

    root_below : (node : Loaded Op) → IsRootNode k objects both node → ((heads : List Name) → IsValid k objects id heads authors → IsRootNode k objects heads node → ⊥) → ⊥
    root_below node n never = node_below node n.is (λ heads v is. never heads v (record { is = is; root = n.root }))

    pub valid_together : (names : List Name) → ((a b : Name) → IsRootCommit objects both a → IsRootCommit objects both b → a ≡ b) → ((found : Id) → RepeatsAcross k objects both found → ⊥)
        → ((name : Name) → HasCommit objects both name → Contains names name) → length names < 65536 → edit_at objects one ≢ Some GREATEST_TIME → edit_at objects two ≢ Some GREATEST_TIME → IsValid k objects id both authors
    unfolding EntityFaultHolds
    valid_together names one_root once are few one_free two_free = valid
      where
        too_large : (count : ℕ) → IsTooLarge k objects both count → ⊥
        too_large count (inl (is, inl too)) = let fewer = length-distinct too.names names too.once (λ name c. are name (too.each name c)) in omega (arith, fewer, too.many, few)
        too_large count (inl (is, inr need)) = let fewer = length-distinct need.names names need.once (λ name c. are name (need.each name c)) in omega (arith, fewer, need.many, few)
        too_large count (inr (inl ops)) = pack_fault ops.0 (pack.TooLarge count) ops.1 (λ heads v h. v (fault.TooLarge count) (inr (inl (ops.0, h))))
        too_large count (inr (inr (is, (name, need, large)))) = needed name need (λ heads v n. v (fault.TooLarge count) (inr (inr (is, (name, n, large)))))

        full : (name : Name) → Contains both name → edit_at objects name ≡ Some GREATEST_TIME → ⊥
        full name c says = elim (Contains-cons one (two ∷ []) name c) [
          | inl e ↦ one_free (ap (edit_at objects) e ∙ says)
          | inr h ↦ two_free (ap (edit_at objects) (Contains-one two name h) ∙ says)
        ]

        valid : (f : EntityFault) → EntityFaultHolds k objects id both authors f → ⊥
        valid fault.Memory h = h
        valid fault.Disk h = h
        valid (fault.Missing name) h = needed name h.0 (λ heads v n. v (fault.Missing name) (n, h.1))
        valid (fault.Damaged name) h = needed name h.0 (λ heads v n. v (fault.Damaged name) (n, h.1))
        valid (fault.NotCommit name) h = below name h.0 (λ heads v b. v (fault.NotCommit name) (b, h.1))
        valid (fault.BadTree name) h = pack_fault name pack.BadTree h (λ heads v p. v (fault.BadTree name) p)
        valid (fault.UnknownVersion name n) h = pack_fault name (pack.UnknownVersion n) h (λ heads v p. v (fault.UnknownVersion name n) p)
        valid (fault.NoOps name) h = pack_fault name pack.NoOps h (λ heads v p. v (fault.NoOps name) p)
        valid (fault.BadClock name) h = pack_fault name pack.BadClock h (λ heads v p. v (fault.BadClock name) p)
        valid (fault.BadPack name) h = pack_fault name pack.BadPack h (λ heads v p. v (fault.BadPack name) p)
        valid (fault.BadOperation name i f) h = pack_fault name (pack.BadOperation i f) h (λ heads v p. v (fault.BadOperation name i f) p)
        valid (fault.SecondRoot name) h = h.differ (one_root name h.other h.one h.two)
        valid (fault.ClockOrder high low) h = below high h.below (λ heads v b. v (fault.ClockOrder high low)
            (record { below = b; parent = h.parent; above = h.above; beneath = h.beneath; says_above = h.says_above; says_beneath = h.says_beneath; falls = h.falls }))
        valid (fault.ClockJump high low) h = below high h.is.below (λ heads v b. v (fault.ClockJump high low)
            (record { commit = h.commit; is = record { below = b; held = h.is.held }; single = h.single; above = h.above; beneath = h.beneath; says_above = h.says_above; says_beneath = h.says_beneath; jumps = h.jumps }))
        valid (fault.MergeHasOperations name) h = node_below h.node h.is (λ heads v n. v (fault.MergeHasOperations name) (record { node = h.node; is = n; named = h.named; many = h.many; some = h.some }))
        valid (fault.NoCreateClock name) h = root_below h.node h.is (λ heads v n. v (fault.NoCreateClock name) (record { node = h.node; is = n; named = h.named; lacks = h.lacks }))
        valid (fault.RepeatedOperation found) (inl h) = node_below h.node h.is (λ heads v n. v (fault.RepeatedOperation found)
            (inl (record { node = h.node; is = n; one = h.one; two = h.two; differ = h.differ; at_one = h.at_one; at_two = h.at_two })))
        valid (fault.RepeatedOperation found) (inr h) = once found h
        valid (fault.WrongId found) h = root_below h.node h.is (λ heads v n. v (fault.WrongId found) (record { node = h.node; is = n; first = h.first; wrong = h.wrong }))
        valid fault.FirstNotCreate h = root_below h.node h.is (λ heads v n. v fault.FirstNotCreate (record { node = h.node; is = n; bad = h.bad }))
        valid (fault.SecondCreate found) h = node_below h.node h.is (λ heads v n. v (fault.SecondCreate found)
            (record { node = h.node; is = n; place = h.place; op = h.op; at = h.at; named = h.named; bad = h.bad; later = h.later }))
        valid (fault.AuthorUnknown author) h = node_below h.node h.is (λ heads v n. v (fault.AuthorUnknown author) (record { node = h.node; is = n; wrote = h.wrote; unknown = h.unknown }))
        valid (fault.TooLarge count) h = too_large count h
        valid (fault.ClockFull name) h = full name h.head h.full
