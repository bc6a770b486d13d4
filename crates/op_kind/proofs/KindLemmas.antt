-- What follows from the laws of a kind alone.
use Rattle.std.proofs.Common.{◌≡◌, ◌∙◌, sym, ap, refl, subst, List, [], ◌∷◌, ◌++◌, ℕ, Some, None}
use Rattle.std.specs.Prelude.{◌≢◌}
use Rattle.std.specs.Str.{IsUtf8}
use Rattle.json_span.specs.Grammar.{IsValueText}
use Rattle.op_kind.specs.Fold.{state_from, row_from}
use Rattle.op_kind.specs.Meaning.{Meaning, KeepsLaws, version_of}
use Rattle.op_kind.specs.OpText.{op_brackets}
use Rattle.op_kind.specs.declared.fault.OpFault.{OpFault}
use Rattle.op_kind.specs.declared.fault.OpFault.TheVariants.{Memory}
use Rattle.op_kind.specs.declared.place.Place.{Place}

module _ {Op State Row : Type 0} (k : Meaning Op State Row) (laws : KeepsLaws k) where
  -- What is read of a text that a pack may hold is written and read again.
  pub read_again : (p : Place) (t : List ℕ) (o : Op) → IsUtf8 t → IsValueText op_brackets t → k.read_at p t ≡ Some o → k.read_at p (k.written o) ≡ Some o
  read_again p t o utf8 value h =
      laws.reads_back p o (laws.keeps_rules p t o utf8 value h) (laws.fits_there p t o h)
      ∙ ap (λ q. Some (k.placed q o)) (sym (laws.stands_there p t o h))
      ∙ ap Some (laws.stays o)

  -- A text that is no operation has a fault, and want of memory is not it.
  pub has_other_fault : (p : Place) (t : List ℕ) → k.read_at p t ≡ None → (f : OpFault) × k.HasFault (version_of p) t f × (f ≢ Memory)
  has_other_fault p t h =
      let found = laws.has_fault p t h in
      (found.0, found.1, λ same. laws.no_memory (version_of p) t (subst (k.HasFault (version_of p) t) same found.1))

  -- The text of an operation at another place is that of the operation.
  pub carried : (here there : Place) (o : Op) → k.KeepsRules o → k.Fits there o → k.read_at there (k.written (k.placed here o)) ≡ Some (k.placed there o)
  carried here there o keeps fits = ap (k.read_at there) (laws.same_text here o) ∙ laws.reads_back there o keeps fits

  -- The row of the last state is the last row.
  pub rows_follow : (s : State) (os : List Op) → k.row_of (state_from k s os) ≡ row_from k (k.row_of s) os
  rows_follow s [] = refl
  rows_follow s (o ∷ os) = rows_follow (k.state_after s o) os ∙ ap (λ r. row_from k r os) (laws.row_follows s o)

module _ {Op State Row : Type 0} (k : Meaning Op State Row) where
  -- The state of a list is that of its front, and the rest behind it.
  pub states_append : (s : State) (os others : List Op) → state_from k s (os ++ others) ≡ state_from k (state_from k s os) others
  states_append s [] others = refl
  states_append s (o ∷ os) others = states_append (k.state_after s o) os others

  -- So is its row.
  pub rows_append : (r : Row) (os others : List Op) → row_from k r (os ++ others) ≡ row_from k (row_from k r os) others
  rows_append r [] others = refl
  rows_append r (o ∷ os) others = rows_append (k.row_after r o) os others
