-- The operations of packs in order, and that they are the only ones.
use Rattle.std.proofs.Common.{◌≡◌, ◌↔◌, inl, inr, Bool, true, false, cond, List, [], ◌∷◌, ◌++◌, filter, length, Contains, Some, refl, sym, ◌∙◌, ap, subst, arith}
use Rattle.std.specs.Prelude.{nat_le}
use Rattle.std.proofs.lemmas.Bool.{le-leb, leb-true}
use Rattle.std.proofs.lemmas.List.Elements.{All-contains, All-contains_itself, All-filter, filter_passes}
use Rattle.std.proofs.lemmas.List.Kept.{IsStrictlySortedBy-filter}
use Rattle.std.proofs.lemmas.Option.{same_Some}
use Rattle.gb_text.specs.declared.id.Name.{Name}
use Rattle.object_store.specs.Held.{Objects}
use Rattle.commit_walk.specs.Below.{IsBelow}
use Rattle.commit_walk.proofs.DistinctLemmas.{Contains-cons, Contains-first, Contains-from_map, Contains-later, Contains-nil}
use Rattle.op_kind.specs.Meaning.{Meaning}
use Rattle.dag_entity.specs.Entities.{AreAllInOrder, AreOperationCommits, IsOperationCommit, IsOperationList, ops_in, with_operations}
use Rattle.dag_entity.specs.Order.{placed_cmp}
use Rattle.dag_entity.specs.Nodes.{pack_at}
use Rattle.dag_entity.specs.declared.entity.Placed.{Placed}
use Rattle.dag_entity.proofs.OrderLemmas.{one_rise}

-- ---- what a filter keeps

module _ {X : Type 0} (test : X → Bool) where
  Contains-filter : (xs : List X) (x : X) → Contains xs x → test x ≡ true → Contains (filter test xs) x
  Contains-filter [] x c passes = absurd (Contains-nil x c)
  Contains-filter (y ∷ ys) x c passes =
      elim (Contains-cons y ys x c) [
        | inl e ↦ subst (λ (b : Bool). Contains (cond b (y ∷ filter test ys) (filter test ys)) x) (sym (ap test e ∙ passes)) (subst (Contains (y ∷ filter test ys)) e (Contains-first y (filter test ys)))
        | inr h ↦ kept (test y) (Contains-filter ys x h passes)
      ]
    where
      kept : (b : Bool) → Contains (filter test ys) x → Contains (cond b (y ∷ filter test ys) (filter test ys)) x
      kept true c = Contains-later y (filter test ys) x c
      kept false c = c

  filtered_from : (xs : List X) (x : X) → Contains (filter test xs) x → Contains xs x
  filtered_from xs x c = All-contains (Contains xs) (filter test xs) x (All-filter test (Contains xs) xs (All-contains_itself xs)) c

  filtered_passes : (xs : List X) (x : X) → Contains (filter test xs) x → test x ≡ true
  filtered_passes xs x c = All-contains (λ (z : X). test z ≡ true) (filter test xs) x (filter_passes test xs) c

none_there : {X : Type 0} (xs : List X) → nat_le 1 (length xs) ≡ false → xs ≡ []
none_there [] e = refl
none_there (x ∷ xs) e = let yes = le-leb 1 (length (x ∷ xs)) (omega arith) in absurd (cc (sym e ∙ yes))

abbrev has_operation : {Op : Type 0} → Placed Op → Bool
has_operation p = nat_le 1 (length p.pack.ops)

module _ {Op State Row : Type 0} (k : Meaning Op State Row) where
  -- the packs without an operation add none
  ops_kept : (packs : List (Placed Op)) → ops_in k packs ≡ ops_in k (with_operations k packs)
  ops_kept [] = refl
  ops_kept (p ∷ ps) = by (has_operation p) refl (ops_kept ps)
    where
      by : (b : Bool) → has_operation p ≡ b → ops_in k ps ≡ ops_in k (with_operations k ps)
          → p.pack.ops ++ ops_in k ps ≡ ops_in k (cond b (p ∷ with_operations k ps) (with_operations k ps))
      by true e rest = ap (λ (l : List Op). p.pack.ops ++ l) rest
      by false e rest = ap (λ (l : List Op). l ++ ops_in k ps) (none_there p.pack.ops e) ∙ rest

  module _ (objects : Objects) (heads : List Name) where
    -- a pack of a commit below is among all
    pub stands : (packs : List (Placed Op)) → AreAllInOrder k objects heads packs → (placed : Placed Op) → IsBelow objects heads placed.commit → pack_at k objects placed.commit ≡ Some placed.pack
        → Contains packs placed
    stands packs are placed below has =
        let at = Contains-from_map (λ (p : Placed Op). p.commit) packs placed.commit (are.all placed.commit below) in
        let pack : at.0.pack ≡ placed.pack = same_Some at.0.pack placed.pack (sym (are.each at.0 at.1) ∙ ap (pack_at k objects) at.2 ∙ has) in
        let all : at.0 ≡ placed = grind (arith, at.2, pack) in
        subst (Contains packs) all at.1

    pub operation_commits : (packs : List (Placed Op)) → AreAllInOrder k objects heads packs → AreOperationCommits k objects heads (with_operations k packs)
    operation_commits packs are = record {
      all = λ placed is. Contains-filter (has_operation {Op = Op}) packs placed (stands packs are placed is.below is.has) (le-leb 1 (length placed.pack.ops) is.some);
      only = λ placed c.
          let among = filtered_from (has_operation {Op = Op}) packs placed c in
          record { below = are.only placed among; has = are.each placed among; some = leb-true 1 (length placed.pack.ops) (filtered_passes (has_operation {Op = Op}) packs placed c) };
      rise = IsStrictlySortedBy-filter (placed_cmp {Op = Op}) (has_operation {Op = Op}) packs are.rise;
    }

    pub operation_list : (packs : List (Placed Op)) → AreAllInOrder k objects heads packs → IsOperationList k objects heads (ops_in k packs)
    operation_list packs are = record { packs = with_operations k packs; are = operation_commits packs are; written_out = ops_kept packs }

    -- ---- no other order

    pub one_packs : (one two : List (Placed Op)) → AreAllInOrder k objects heads one → AreAllInOrder k objects heads two → one ≡ two
    one_packs one two first second = one_rise one two first.rise second.rise (λ placed. (
      λ c. stands two second placed (first.only placed c) (first.each placed c),
      λ c. stands one first placed (second.only placed c) (second.each placed c),
    ))

  pub one_list : (objects others : Objects) (heads tops : List Name) (one two : List Op) → ((placed : Placed Op) → IsOperationCommit k objects heads placed ↔ IsOperationCommit k others tops placed)
      → IsOperationList k objects heads one → IsOperationList k others tops two → one ≡ two
  one_list objects others heads tops one two same first second =
      let packs : first.packs ≡ second.packs = one_rise first.packs second.packs first.are.rise second.are.rise (λ placed. (
        λ c. second.are.all placed ((same placed).0 (first.are.only placed c)),
        λ c. first.are.all placed ((same placed).1 (second.are.only placed c)),
      )) in
      first.written_out ∙ ap (ops_in k) packs ∙ sym second.written_out
