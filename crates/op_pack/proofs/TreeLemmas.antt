-- The trees that are made say what they were made of, and can be written.
use Rattle.std.proofs.Common.{◌≡◌, ◌≤◌, ◌++◌, refl, ap, subst, sym, ◌∙◌, ℕ, true, cond, List, [], ◌∷◌, codes, Option, Some, None, le-leb, arith}
use Rattle.std.specs.Prelude.{decimal, nat_le, ◌&&◌, Result, Ok, Err, IfOk}
use Rattle.std.specs.Option.{ForSome, option_map}
use Rattle.std.specs.Fmt.{digits}
use Rattle.gb_text.specs.declared.id.Name.{Name}
use Rattle.git_object.specs.Grammar.{HasGoodNames, IsEntryName, Lacks}
use Rattle.git_object.proofs.DistinctLaws.{distinct_are}
use Rattle.git_object.proofs.CutLaws.{lacks_by_test, lacks_append}
use Rattle.git_object.proofs.FrameLaws.{decimal_lacks}
use Rattle.gb_text.specs.declared.decimal.TheConstants.{GREATEST_TIME}
use Rattle.op_kind.specs.declared.place.TheConstants.{VERSION}
use Rattle.op_kind.specs.WritingLaws.{decimal_reads}
use Rattle.op_pack.specs.Heads.{IsClock, tree_with, head_of, all_four, clock_at, clock_in_range}

-- ---- what they say

clock_reads : (n : ℕ) → IsClock n → clock_at (decimal n) ≡ Some n
clock_reads n is =
    let high : n ≤ GREATEST_TIME = is.high in
    ap clock_in_range (decimal_reads n (omega arith))
    ∙ ap (λ b. cond (b && nat_le n GREATEST_TIME) (Some n) None) (le-leb 1 n is.low)
    ∙ ap (λ b. cond (true && b) (Some n) None) (le-leb n GREATEST_TIME is.high)

-- The tree that is made says what it was made of.
pub tree_head : (edit : ℕ) (create : Option ℕ) (ops : Name) → IsClock edit → ForSome create (λ n. IsClock n)
    → head_of (tree_with edit create ops) ≡ Some (record { version = VERSION; edit = edit; create = create; ops = ops })
unfolding digits
tree_head edit None ops is may = ap (λ (e : Option ℕ). all_four (Some VERSION) e (Some None) (Some ops)) (clock_reads edit is)
tree_head edit (Some n) ops is may =
    ap (λ (e : Option ℕ). all_four (Some VERSION) e (option_map (λ c. Some c) (clock_at (decimal n))) (Some ops)) (clock_reads edit is)
    ∙ ap (λ (c : Option ℕ). all_four (Some VERSION) (Some edit) (option_map (λ c. Some c) c) (Some ops)) (clock_reads n (may n refl))

-- ---- their names

named : (b : ℕ) (bs rest : List ℕ) → Lacks 0 (b ∷ bs) → Lacks 47 (b ∷ bs) → Lacks 0 rest → Lacks 47 rest → IsEntryName ((b ∷ bs) ++ rest)
named b bs rest no_zero no_slash rest_zero rest_slash = record {
  some = λ e. absurd (cc (e));
  no_zero = lacks_append 0 (b ∷ bs) rest no_zero rest_zero;
  no_slash = lacks_append 47 (b ∷ bs) rest no_slash rest_slash;
}

ops_named : IsEntryName (codes "ops")
ops_named = named 111 (codes "ps") [] (lacks_by_test 0 (codes "ops") refl) (lacks_by_test 47 (codes "ops") refl) tt tt

version_named : IsEntryName (codes "version-" ++ decimal VERSION)
unfolding digits
version_named = named 118 (codes "ersion-") (decimal VERSION) (lacks_by_test 0 (codes "version-") refl) (lacks_by_test 47 (codes "version-") refl)
    (lacks_by_test 0 (decimal VERSION) refl) (lacks_by_test 47 (decimal VERSION) refl)

edit_named : (n : ℕ) → IsClock n → IsEntryName (codes "edit-clock-" ++ decimal n)
edit_named n is = named 101 (codes "dit-clock-") (decimal n) (lacks_by_test 0 (codes "edit-clock-") refl) (lacks_by_test 47 (codes "edit-clock-") refl)
    (decimal_lacks 0 n (omega arith)) (decimal_lacks 47 n (omega arith))

create_named : (n : ℕ) → IsClock n → IsEntryName (codes "create-clock-" ++ decimal n)
create_named n is = named 99 (codes "reate-clock-") (decimal n) (lacks_by_test 0 (codes "create-clock-") refl) (lacks_by_test 47 (codes "create-clock-") refl)
    (decimal_lacks 0 n (omega arith)) (decimal_lacks 47 n (omega arith))

-- The tree that is made can be written.
pub tree_names : (edit : ℕ) (create : Option ℕ) (ops : Name) → IsClock edit → ForSome create (λ n. IsClock n) → HasGoodNames (tree_with edit create ops)
unfolding digits
tree_names edit None ops is may = record {
  each = (ops_named, (version_named, (edit_named edit is, tt)));
  distinct = distinct_are (tree_with edit None ops).entries refl;
}
tree_names edit (Some n) ops is may = record {
  each = (ops_named, (version_named, (edit_named edit is, (create_named n (may n refl), tt))));
  distinct = distinct_are (tree_with edit (Some n) ops).entries refl;
}

-- What holds of a value holds of an answer that is this value.
pub of_made : {A E : Type 0} (P : A → Type 0) (a : A) (r : Result A E) → IfOk r (λ x. x ≡ a) → P a → IfOk r P
of_made P a (Ok x) is p = subst P (sym is) p
of_made P a (Err e) is p = tt
