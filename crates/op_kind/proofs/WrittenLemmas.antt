-- A member that is put where its name stands is put in its place.
use Rattle.std.proofs.Common.{◌≡◌, refl, ap, List, [], ◌∷◌, ◌++◌, ℕ, suc, take, drop}
use Rattle.std.specs.List.{insert}
use Rattle.std.specs.Cmp.Lexicographic.{slice_cmp}
use Rattle.std.specs.Ordering.{nat_cmp, match_ordering}
use Rattle.std.specs.declared.cmp.Ordering.{Ordering}
use Rattle.std.specs.declared.cmp.Ordering.TheVariants.{Less, Equal, Greater}
use Rattle.op_kind.specs.FieldLists.{fields_for}
use Rattle.op_kind.specs.NameOrder.{place_among, with_written}
use Rattle.op_kind.specs.declared.written.Written.{Written}

-- A member at the place of its name.
pub put_at : (m : Written) (ms : List Written) → fields_for (insert ms (place_among m.name.now (fields_for ms)) m) ≡ with_written (m.name.now, m.value) (fields_for ms)
put_at m [] = refl
put_at m (w ∷ ws) = by (slice_cmp nat_cmp w.name.now m.name.now) (put_at m ws)
  where
    by : (r : Ordering) → fields_for (insert ws (place_among m.name.now (fields_for ws)) m) ≡ with_written (m.name.now, m.value) (fields_for ws)
        → fields_for (insert (w ∷ ws) (match_ordering r (suc (place_among m.name.now (fields_for ws))) 0 0) m)
        ≡ match_ordering r ((w.name.now, w.value) ∷ with_written (m.name.now, m.value) (fields_for ws)) ((m.name.now, m.value) ∷ (w.name.now, w.value) ∷ fields_for ws) ((m.name.now, m.value) ∷ (w.name.now, w.value) ∷ fields_for ws)
    by Less rest = ap (λ fs. (w.name.now, w.value) ∷ fs) rest
    by Equal rest = refl
    by Greater rest = refl
