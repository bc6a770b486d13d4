-- Worked examples of the definitions, computed.
use Rattle.std.specs.Prelude.{◌≡◌, codes, [], ◌∷◌, None, true, false}
use Rattle.std.proofs.Common.{refl}
use Rattle.row_text.specs.Lists.{array_at, ascend}

no_labels_ascend : ascend [] ≡ true
no_labels_ascend = refl

a_b_ascend : ascend (codes "a" ∷ codes "b" ∷ []) ≡ true
a_b_ascend = refl

b_a_do_not : ascend (codes "b" ∷ codes "a" ∷ []) ≡ false
b_a_do_not = refl

a_twice_does_not : ascend (codes "a" ∷ codes "a" ∷ []) ≡ false
a_twice_does_not = refl

null_is_no_array : array_at (codes "null") ≡ None
null_is_no_array = refl
