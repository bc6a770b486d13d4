-- Operations read one by one.
use Rattle.std.proofs.Common.{◌≡◌, refl, ap, sym, List, [], ◌∷◌, ◌++◌, ◌<◌, ◌∙◌, ℕ, length, get_or, map, Bor, Option, Some, None, append_assoc}
use Rattle.std.specs.Option.{option_map}
use Rattle.std.proofs.lemmas.Option.{slice_get-map, slice_get-get_or}
use Rattle.op_kind.specs.Meaning.{Meaning}
use Rattle.op_kind.specs.declared.fault.OpFault.{OpFault}
use Rattle.op_pack.specs.Packs.{before, SlicesFault}
use Rattle.op_pack.specs.declared.fault.PackFault.TheVariants.{BadOperation}

-- one more operation in front of those that follow
pub front_more : {A : Type 0} (os : List A) (o : A) (x : Option (List A)) → option_map (λ rest. os ++ rest) (before (Some o) x) ≡ option_map (λ rest. (os ++ (o ∷ [])) ++ rest) x
front_more os o None = refl
front_more os o (Some xs) = ap Some (sym (append_assoc os (o ∷ []) xs))

-- no operation in front of those that follow
pub no_front : {A : Type 0} (x : Option (List A)) → option_map (λ rest. [] ++ rest) x ≡ x
no_front None = refl
no_front (Some xs) = refl

-- the fault of the text at an index is the fault of the operation at this index
pub fault_at : {Op State Row : Type 0} (k : Meaning Op State Row) (version : ℕ) (slices : List (Bor (List ℕ))) (i : ℕ) (f : OpFault) → i < length slices
    → k.HasFault version (get_or slices i (record { ref_ptr = (0, 0); now = [] })).now f → SlicesFault k version (map (λ s. s.now) slices) (BadOperation i f)
fault_at k version slices i f lt fault = (_, slice_get-map (λ s. s.now) slices i ∙ ap (option_map (λ s. s.now)) (slice_get-get_or slices i (record { ref_ptr = (0, 0); now = [] }) lt), fault)
