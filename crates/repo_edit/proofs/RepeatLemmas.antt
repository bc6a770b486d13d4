-- Whether an operation of an id is among some.
use Rattle.std.proofs.Common.{◌≡◌, ◌↔◌, ◌||◌, ℕ, Bool, true, false, List, [], ◌∷◌, Contains, inl, inr, refl, sym, ◌∙◌, ap, arith}
use Rattle.std.specs.List.{list_any}
use Rattle.std.specs.Str.{bytes_eq}
use Rattle.std.proofs.lemmas.Slice.Eq.{bytes_eq-Decides}
use Rattle.repo_steps.proofs.Names.{Id, bug_kind, BugOp, Contains-cons_cases, Contains-later, op_ids}
use Rattle.repo_edit.proofs.Names.{has_id}

module _ (id : Id) where
  abbrev id_in : BugOp → Id
  id_in op = (bug_kind.common_of op).place.id

  id_is : (other : Id) → bytes_eq other.bytes id.bytes ≡ true → other ≡ id
  id_is other e = ap (λ (bytes : List ℕ). record { bytes = bytes }) ((bytes_eq-Decides other.bytes id.bytes).0 e)

  id_found : (other : Id) → other ≡ id → bytes_eq other.bytes id.bytes ≡ true
  id_found other e = (bytes_eq-Decides other.bytes id.bytes).1 (ap (λ (i : Id). i.bytes) e)

  or_true : (b : Bool) → (b || true) ≡ true
  or_true true = refl
  or_true false = refl

  -- among operations
  ops_have : (ops : List BugOp) → list_any (has_id bug_kind id) ops ≡ true → Contains (op_ids ops) id
  ops_have [] e = absurd (cc)
  ops_have (op ∷ ops) e = by (has_id bug_kind id op) refl e (ops_have ops)
    where
      by : (b : Bool) → has_id bug_kind id op ≡ b → (b || list_any (has_id bug_kind id) ops) ≡ true → (list_any (has_id bug_kind id) ops ≡ true → Contains (op_ids ops) id) → Contains (id_in op ∷ op_ids ops) id
      by true is e later = (0, omega arith, id_is (id_in op) is)
      by false is e later = Contains-later (id_in op) (op_ids ops) id (later e)

  ops_found : (ops : List BugOp) → Contains (op_ids ops) id → list_any (has_id bug_kind id) ops ≡ true
  ops_found [] has = absurd (omega (arith, has.1))
  ops_found (op ∷ ops) has = elim (Contains-cons_cases (id_in op) (op_ids ops) id has) [
    | inl is ↦ ap (λ (b : Bool). b || list_any (has_id bug_kind id) ops) (id_found (id_in op) is)
    | inr later ↦ ap (λ (b : Bool). has_id bug_kind id op || b) (ops_found ops later) ∙ or_true (has_id bug_kind id op)
  ]

  -- an operation has the id exactly where the test says so
  pub repeats : (ops : List BugOp) (b : Bool) → b ≡ list_any (has_id bug_kind id) ops → (b ≡ true) ↔ Contains (op_ids ops) id
  repeats ops b is = ((λ e. ops_have ops (sym is ∙ e)), (λ has. is ∙ ops_found ops has))
