-- Lists that are read item by item.
use Rattle.std.proofs.Common.{◌≡◌, ◌++◌, refl, sym, ap, List, [], ◌∷◌, Option, None, Some, append_assoc, append-nil}
use Rattle.std.specs.Option.{option_map}
use Rattle.gb_text.specs.declared.id.Id.{Id}
use Rattle.row_text.specs.Lists.{with_id}

-- one more id after those that were read
pub one_more_id : (ids : List Id) (id : Id) (rest : Option (List Id)) → option_map (λ is. ids ++ is) (with_id (Some id) rest) ≡ option_map (λ is. (ids ++ id ∷ []) ++ is) rest
one_more_id ids id None = refl
one_more_id ids id (Some rest) = ap (λ (is : List Id). Some is) (sym (append_assoc ids (id ∷ []) rest))

-- and no more
pub no_more_ids : (ids : List Id) → option_map (λ is. ids ++ is) (Some []) ≡ Some ids
no_more_ids ids = simp append-nil
