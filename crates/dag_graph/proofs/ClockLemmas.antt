-- Where clocks rise: ancestors, rings and the root.
use Rattle.std.proofs.Common.{◌≡◌, ◌⊎◌, inl, inr, ◌<◌, ℕ, zero, suc, List, [], ◌∷◌, length, Contains, refl, sym, ◌∙◌, ap, subst, arith}
use Rattle.std.proofs.lemmas.Bool.{cases_eq, cases_lt}
use Rattle.gb_text.specs.declared.id.Name.{Name}
use Rattle.dag_graph.specs.Below.{IsAncestor, IsBelow, IsParent, IsRing, head, parent}
use Rattle.dag_graph.specs.Faults.{ClocksRise, HasClockOrder, IsFaultless, IsRoot}
use Rattle.dag_graph.specs.Nodes.{AreNodes, node_at}
use Rattle.dag_graph.specs.declared.node.Node.{Node}
use Rattle.dag_graph.specs.declared.fault.GraphFault.TheVariants as fault
use Rattle.dag_graph.proofs.BelowLemmas.{ancestors}
use Rattle.dag_graph.proofs.ListLemmas.{Contains-first, Contains-one}
use Rattle.dag_graph.proofs.NodeLemmas.{has_at, parent_node, position_of, same_node, same_place}

module _ (nodes : List Node) (are : AreNodes nodes) where
  -- some clock is not greater than a parent's
  abbrev Falls : Type 0
  Falls = (high : Name) × (low : Name) × HasClockOrder nodes high low

  edge : (one two : Node) → Contains nodes one → Contains nodes two → Contains one.parents two.name → Falls ⊎ (two.edit < one.edit)
  edge one two at_one at_two has =
      elim (cases_lt two.edit one.edit) [
        | inl lt ↦ inr lt
        | inr ge ↦ inl (one.name, two.name, record { one = one; two = two; at_one = at_one; at_two = at_two; high_is = refl; low_is = refl; names = has; falls = ge })
      ]

  -- the node of a name below another, which is that one or has a lesser clock
  record Lower (top : Node) (name : Name) : Type 0 where
    low : Node
    at : Contains nodes low
    is : low.name ≡ name
    less : (top ≡ low) ⊎ (low.edit < top.edit)

  next_less : (top mid low : Node) → (top ≡ mid) ⊎ (mid.edit < top.edit) → low.edit < mid.edit → low.edit < top.edit
  next_less top mid low (inl e) lt = subst (λ (n : Node). low.edit < n.edit) (sym e) lt
  next_less top mid low (inr less) lt = omega (arith, less, lt)

  lower : (top : Node) → Contains nodes top → (name : Name) → IsBelow nodes (top.name ∷ []) name → Falls ⊎ Lower top name
  lower top at name (head c) = inr (record { low = top; at = at; is = Contains-one top.name name c; less = inl refl })
  lower top at name (parent {high = mid} b p) =
      elim (lower top at mid b) [
        | inl falls ↦ inl falls
        | inr m ↦
            let same : m.low ≡ p.node = same_node nodes are.once m.low p.node m.at p.at (m.is ∙ sym p.is) in
            let (low, low_at, low_is) = parent_node nodes are p.node name p.at p.names in
            elim (edge p.node low p.at low_at (subst (λ (n : Name). Contains p.node.parents n) (sym low_is) p.names)) [
              | inl falls ↦ inl falls
              | inr lt ↦ inr (record {
                low = low;
                at = low_at;
                is = low_is;
                less = inr (next_less top m.low low m.less (subst (λ (n : Node). low.edit < n.edit) (sym same) lt));
              })
            ]
      ]

  never_falls : ClocksRise nodes → Falls → ⊥
  never_falls rise falls = rise falls.0 falls.1 falls.2

  pub lesser_clock : ClocksRise nodes → (low high : Node) → Contains nodes low → Contains nodes high → IsAncestor nodes low.name high.name → (low ≡ high) ⊎ (low.edit < high.edit)
  lesser_clock rise low high at_low at_high b =
      elim (lower high at_high low.name b) [
        | inl falls ↦ absurd (never_falls rise falls)
        | inr l ↦
            let same : l.low ≡ low = same_node nodes are.once l.low low l.at at_low l.is in
            elim l.less [
              | inl e ↦ inl (sym same ∙ sym e)
              | inr lt ↦ inr (subst (λ (n : Node). n.edit < high.edit) same lt)
            ]
      ]

  pub mutual_ancestors : ClocksRise nodes → (one other : Node) → Contains nodes one → Contains nodes other → IsAncestor nodes one.name other.name → IsAncestor nodes other.name one.name → one ≡ other
  mutual_ancestors rise one other at_one at_other b c =
      elim (lesser_clock rise one other at_one at_other b) [
        | inl e ↦ e
        | inr lt ↦ elim (lesser_clock rise other one at_other at_one c) [
          | inl e ↦ sym e
          | inr gt ↦ absurd (omega (arith, lt, gt))
        ]
      ]

  pub ring_falls : (name : Name) → IsRing nodes name → Falls
  ring_falls name ring =
      let p : IsParent nodes name ring.next = ring.leads in
      let (low, low_at, low_is) = parent_node nodes are p.node ring.next p.at p.names in
      elim (edge p.node low p.at low_at (subst (λ (n : Name). Contains p.node.parents n) (sym low_is) p.names)) [
        | inl falls ↦ falls
        | inr lt ↦ elim (lower low low_at name (subst (λ (n : Name). IsBelow nodes (n ∷ []) name) (sym low_is) ring.back)) [
          | inl falls ↦ falls
          | inr l ↦
              let same : l.low ≡ p.node = same_node nodes are.once l.low p.node l.at p.at (l.is ∙ sym p.is) in
              elim l.less [
                | inl e ↦ absurd (omega (arith, lt, ap (λ (n : Node). n.edit) (e ∙ same)))
                | inr less ↦ absurd (omega (arith, lt, less, ap (λ (n : Node). n.edit) same))
              ]
        ]
      ]

  module _ (none : IsFaultless nodes) where
    rise : ClocksRise nodes
    rise high low h = none (fault.ClockOrder high low) h

    -- a node without parents to which a node leads
    record RootBelow (node : Node) : Type 0 where
      root : Node
      at : Contains nodes root
      without : root.parents ≡ []
      below : IsAncestor nodes root.name node.name

    root_step : (node : Node) → Contains nodes node → ((low : Node) → Contains nodes low → low.edit < node.edit → RootBelow low) → (ps : List Name) → node.parents ≡ ps → RootBelow node
    root_step node at lower_root [] e = record { root = node; at = at; without = e; below = head (Contains-first node.name []) }
    root_step node at lower_root (p ∷ ps) e =
        let has : Contains node.parents p = subst (λ (l : List Name). Contains l p) (sym e) (Contains-first p ps) in
        let (low, low_at, low_is) = parent_node nodes are node p at has in
        let names : Contains node.parents low.name = subst (λ (n : Name). Contains node.parents n) (sym low_is) has in
        elim (edge node low at low_at names) [
          | inl falls ↦ absurd (never_falls rise falls)
          | inr less ↦
              let found = lower_root low low_at less in
              let up : IsAncestor nodes low.name node.name = parent (head (Contains-first node.name [])) (record { node = node; at = at; is = refl; names = names }) in
              record { root = found.root; at = found.at; without = found.without; below = ancestors nodes found.root.name low.name node.name found.below up }
        ]

    root_below : (bound : ℕ) (node : Node) → Contains nodes node → node.edit < bound → RootBelow node
    root_below zero node at lt = absurd (omega (arith, lt))
    root_below (suc bound) node at lt = root_step node at (λ low low_at less. root_below bound low low_at (omega (arith, lt, less))) node.parents refl

    one_root : (one other : Node) → Contains nodes one → Contains nodes other → one.parents ≡ [] → other.parents ≡ [] → (one.name ≡ other.name → ⊥) → ⊥
    one_root one other at_one at_other root_one root_other differ =
        none (fault.SecondRoot one.name) (record { one = one; two = other; at_one = at_one; at_two = at_other; is = refl; differ = differ; root_one = root_one; root_two = root_other })

    same_root : (one other : ℕ) → one < length nodes → other < length nodes → (node_at nodes one).parents ≡ [] → (node_at nodes other).parents ≡ [] → other ≡ one
    same_root one other in_one in_other root_one root_other =
        elim (cases_eq other one) [
          | inl e ↦ e
          | inr differ ↦ absurd (one_root (node_at nodes other) (node_at nodes one) (has_at nodes other in_other) (has_at nodes one in_one) root_other root_one
              (λ e. differ (same_place nodes are.once other one in_other in_one e)))
        ]

    root_at : (place : ℕ) → place < length nodes → (root : ℕ) × (root < length nodes) × ((node_at nodes root).parents ≡ []) × IsAncestor nodes (node_at nodes root).name (node_at nodes place).name
    root_at place within =
        let found = root_below (suc (node_at nodes place).edit) (node_at nodes place) (has_at nodes place within) (omega arith) in
        let (root, inside, is) = position_of nodes found.root found.at in
        (root, inside, ap (λ (n : Node). n.parents) is ∙ found.without, subst (λ (n : Node). IsAncestor nodes n.name (node_at nodes place).name) (sym is) found.below)

    -- one root, to which every node leads
    pub all_lead : (root : ℕ) × IsRoot nodes root × ((place : ℕ) → place < length nodes → IsAncestor nodes (node_at nodes root).name (node_at nodes place).name)
    all_lead =
        let (root, inside, without, below) = root_at 0 are.some in (
          root,
          record { within = inside; root = without; only = λ other in_other root_other. same_root root other inside in_other without root_other },
          λ place within.
              let (other, in_other, without_other, below_other) = root_at place within in
              subst (λ (k : ℕ). IsAncestor nodes (node_at nodes k).name (node_at nodes place).name) (same_root root other inside in_other without without_other) below_other,
        )
