-- An index of nodes that grows by one node after the other.
use Rattle.std.proofs.Common.{◌≡◌, inl, inr, ◌<◌, ◌+◌, ℕ, true, false, cond, List, length, None, Option, Some, refl, sym, ◌∙◌, ap, subst, arith}
use Rattle.std.specs.BTreeMap.{BTreeMap, get, is_at}
use Rattle.std.specs.Ordering.{is_eq}
use Rattle.std.specs.declared.cmp.Ordering.{Ordering}
use Rattle.std.specs.declared.cmp.Ordering.TheVariants.{Less, Equal, Greater}
use Rattle.std.proofs.lemmas.Bool.{cases_Bool, cases_lt}
use Rattle.std.proofs.lemmas.Cmp.{nat_list_cmp_total, on_total, tied_itself}
use Rattle.std.proofs.lemmas.Map.Lookups.{exact_bytes}
use Rattle.std.proofs.lemmas.Option.{none-some, same_Some}
use Rattle.std.specs.Cmp.{IsTotalOrder}
use Rattle.gb_text.specs.declared.id.Name.{Name}
use Rattle.dag_graph.specs.Index.{IsIndex, name_cmp}
use Rattle.dag_graph.specs.Nodes.{node_at}
use Rattle.dag_graph.specs.declared.node.Node.{Node}
use Rattle.dag_graph.proofs.NodeLemmas.{AreApart, same_place}

pub name_total : IsTotalOrder name_cmp
name_total = on_total (λ (n : Name). n.bytes) nat_list_cmp_total

pub exact_name : (x y : Name) → name_cmp x y ≡ Equal → x ≡ y
exact_name x y e =
    let bytes : x.bytes ≡ y.bytes = exact_bytes x.bytes y.bytes e in
    let of_bytes : List ℕ → Name = λ b. record { bytes = b } in
    ap of_bytes bytes

equal_is : (o : Ordering) → is_eq o ≡ true → o ≡ Equal
equal_is Less e = cc e
equal_is Equal e = refl
equal_is Greater e = cc e

-- the index of the first nodes
pub record IsIndexOf (nodes : List Node) (places : BTreeMap Name ℕ) (count : ℕ) : Type 0 where
  pub found : (name : Name) (place : ℕ) → get name_cmp places name ≡ Some place → (place < count) × ((node_at nodes place).name ≡ name)
  pub all : (place : ℕ) → place < count → get name_cmp places (node_at nodes place).name ≡ Some place

pub IsIndex-all : (nodes : List Node) (places : BTreeMap Name ℕ) (count : ℕ) → count ≡ length nodes → IsIndexOf nodes places count → IsIndex nodes places
IsIndex-all nodes places count e i = record {
  found = λ name place is. subst (λ (n : ℕ). (place < n) × ((node_at nodes place).name ≡ name)) e (i.found name place is);
  all = λ place within. i.all place (omega (arith, within, e));
}

-- a name that comes later is not there yet, where names are distinct
pub not_yet : (nodes : List Node) → AreApart nodes → (places : BTreeMap Name ℕ) (count : ℕ) → count < length nodes → IsIndexOf nodes places count → get name_cmp places (node_at nodes count).name ≡ None
not_yet nodes apart places count within i = by (get name_cmp places (node_at nodes count).name) refl
  where
    by : (o : Option ℕ) → get name_cmp places (node_at nodes count).name ≡ o → get name_cmp places (node_at nodes count).name ≡ None
    by None e = e
    by (Some place) e =
        let (below, named) = i.found (node_at nodes count).name place e in
        absurd (omega (arith, below, same_place nodes apart place count (omega (arith, below, within)) within named))

module _ (nodes : List Node) (old new : BTreeMap Name ℕ) (count : ℕ) (fresh : get name_cmp old (node_at nodes count).name ≡ None)
    (sets : (q : Name) → get name_cmp new q ≡ cond (is_at (name_cmp (node_at nodes count).name) q) (Some count) (get name_cmp old q)) where
  abbrev name : Name
  name = (node_at nodes count).name

  sets_same : (q : Name) → is_at (name_cmp name) q ≡ true → get name_cmp new q ≡ Some count
  sets_same q t = rw t at (sets q)

  sets_other : (q : Name) → is_at (name_cmp name) q ≡ false → get name_cmp new q ≡ get name_cmp old q
  sets_other q f = rw f at (sets q)

  pub IsIndexOf-more : IsIndexOf nodes old count → IsIndexOf nodes new (count + 1)
  IsIndexOf-more i = record {
    found = λ q place is. elim (cases_Bool (is_at (name_cmp name) q)) [
      | inl t ↦
          let here : count ≡ place = same_Some count place (sym (sets_same q t) ∙ is) in
          (omega (arith, here), ap (λ (k : ℕ). (node_at nodes k).name) (sym here) ∙ exact_name name q (equal_is (name_cmp name q) t))
      | inr f ↦
          let old_is = i.found q place (sym (sets_other q f) ∙ is) in
          (omega (arith, old_is.0), old_is.1)
    ];
    all = λ place below. elim (cases_Bool (is_at (name_cmp name) (node_at nodes place).name)) [
      | inl t ↦
          let named : name ≡ (node_at nodes place).name = exact_name name (node_at nodes place).name (equal_is (name_cmp name (node_at nodes place).name) t) in
          elim (cases_lt place count) [
            | inl earlier ↦ absurd (none-some place (sym fresh ∙ subst (λ (n : Name). get name_cmp old n ≡ Some place) (sym named) (i.all place earlier)))
            | inr later ↦ let same : count ≡ place = omega (arith, below, later) in sets_same (node_at nodes place).name t ∙ ap Some same
          ]
      | inr f ↦
          let differ : count ≡ place → ⊥ = λ e.
          let tied : name_cmp name (node_at nodes place).name ≡ Equal = subst (λ (k : ℕ). name_cmp name (node_at nodes k).name ≡ Equal) e (tied_itself name_total name) in
          let yes : is_at (name_cmp name) (node_at nodes place).name ≡ true = ap is_eq tied in
          cc (yes, f) in
          sets_other (node_at nodes place).name f ∙ i.all place (omega (arith, below, differ))
    ];
  }
