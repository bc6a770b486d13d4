-- The only value with a name, and what it reads as.
use Rattle.std.proofs.Common.{◌≡◌, refl, List, [], ◌∷◌, ℕ, Option, Some, None, length, ◌≤◌, arith}
use Rattle.std.specs.Prelude.{option_and_then}
use Rattle.op_kind.specs.MemberForms.{ruled}
use Rattle.op_kind.specs.Members.{only_value}
use Rattle.bug_ops.specs.BugForms.{anything}

-- what the only value reads as is read of it
pub only_reads : {A : Type 0} (read : List ℕ → Option A) (values : List (List ℕ)) → only_value read values ≡ option_and_then read (only_value (λ v. Some v) values)
only_reads read [] = refl
only_reads read (v ∷ []) = refl
only_reads read (v ∷ w ∷ vs) = refl

-- where texts have no rule, each value obeys it
pub any_obeys : {A : Type 0} (o : Option A) → option_and_then (ruled anything) o ≡ o
any_obeys None = refl
any_obeys (Some a) = refl

-- there is no only value where there are two
pub only_twice : (values : List (List ℕ)) → 2 ≤ length values → only_value (λ v. Some v) values ≡ None
only_twice [] two = refl
only_twice (v ∷ []) two = absurd (omega arith)
only_twice (v ∷ w ∷ vs) two = refl
