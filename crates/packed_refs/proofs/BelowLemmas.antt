-- Names below a dir.
use Rattle.std.proofs.Common.{◌≡◌, ◌≢◌, ◌↔◌, ℕ, ◌+◌, Bool, true, false, cond, List, [], ◌∷◌, ◌++◌, length, drop, Some, None, ◌⊎◌, inl, inr, refl, sym, ◌∙◌, ap, append_assoc, length-append}
use Rattle.std.specs.Prelude.{nat_eq}
use Rattle.std.specs.List.{starts_with}
use Rattle.std.proofs.lemmas.Bool.Decides.{Decides-eqb}
use Rattle.std.proofs.lemmas.List.{append_cancel_left, drop_at}
use Rattle.std.proofs.lemmas.Slice.Eq.{starts_is}
use Rattle.hex.specs.Hex.{encode_lower}
use Rattle.gb_text.specs.Digits.{IsId, id_of}
use Rattle.gb_text.specs.declared.id.Id.{Id}
use Rattle.gb_text.proofs.DigitLemmas.{id_of-encode_lower, id_of-is}
use Rattle.packed_refs.specs.Packed.{id_below}

module _ (dir name : List ℕ) where
  -- what follows the dir and a slash is the id's digits
  pub below_is : (rest : List ℕ) → name ≡ dir ++ 47 ∷ rest → id_below dir name ≡ id_of rest
  below_is rest e =
      let parts : name ≡ dir ++ 47 ∷ [] ++ rest = e ∙ sym (append_assoc dir (47 ∷ []) rest) in
      let starts : starts_with nat_eq name (dir ++ 47 ∷ []) ≡ true = (starts_is Decides-eqb name (dir ++ 47 ∷ []) (starts_with nat_eq name (dir ++ 47 ∷ [])) refl).1 rest parts in
      let cut : drop (length dir + 1) name ≡ rest = ap (drop (length dir + 1)) parts ∙ drop_at (dir ++ 47 ∷ []) rest (length dir + 1) (length-append dir (47 ∷ [])) in
      ap (λ (b : Bool). cond b (id_of (drop (length dir + 1) name)) None) starts ∙ ap id_of cut

  -- a name is below the dir or it is not
  below_or_not : ((rest : List ℕ) × (name ≡ dir ++ 47 ∷ rest)) ⊎ (id_below dir name ≡ None)
  below_or_not = each (starts_with nat_eq name (dir ++ 47 ∷ [])) refl
    where
      each : (b : Bool) → starts_with nat_eq name (dir ++ 47 ∷ []) ≡ b → ((rest : List ℕ) × (name ≡ dir ++ 47 ∷ rest)) ⊎ (id_below dir name ≡ None)
      each true e =
          let rest = drop (length (dir ++ 47 ∷ [])) name in
          inl (rest, (starts_is Decides-eqb name (dir ++ 47 ∷ []) (starts_with nat_eq name (dir ++ 47 ∷ [])) refl).0 e ∙ append_assoc dir (47 ∷ []) rest)
      each false e = inr (ap (λ (b : Bool). cond b (id_of (drop (length dir + 1) name)) None) e)

  -- what isn't below the dir has no id there
  pub not_below : ((rest : List ℕ) → name ≢ dir ++ 47 ∷ rest) → id_below dir name ≡ None
  not_below never = elim below_or_not [
    | inl is ↦ absurd (never is.0 is.1)
    | inr none ↦ none
  ]

  -- and neither has what has no slash behind the dir
  pub no_slash_below : (below : List ℕ) → name ≡ dir ++ below → ((rest : List ℕ) → below ≢ 47 ∷ rest) → id_below dir name ≡ None
  no_slash_below below e never = not_below (λ rest is. never rest (append_cancel_left dir below (47 ∷ rest) (sym e ∙ is)))

  -- nor what has another front
  pub no_dir_above : ((rest : List ℕ) → name ≢ dir ++ rest) → id_below dir name ≡ None
  no_dir_above never = not_below (λ rest is. never (47 ∷ rest) is)

  -- an id is below a dir where its digits are
  pub below_has : (id : Id) → id_below dir name ≡ Some id → (name ≡ dir ++ 47 ∷ encode_lower id.bytes) × IsId id
  below_has id e = elim below_or_not [
    | inl is ↦ (let digits = id_of-is is.0 id (sym (below_is is.0 is.1) ∙ e) in (is.1 ∙ ap (λ (rest : List ℕ). dir ++ 47 ∷ rest) digits.1, digits.0))
    | inr none ↦ absurd cc
  ]

  pub has_below : (id : Id) → IsId id → name ≡ dir ++ 47 ∷ encode_lower id.bytes → id_below dir name ≡ Some id
  has_below id is e = below_is (encode_lower id.bytes) e ∙ id_of-encode_lower id is

pub names_below : (dir name : List ℕ) (id : Id) → (id_below dir name ≡ Some id) ↔ ((name ≡ dir ++ 47 ∷ encode_lower id.bytes) × IsId id)
names_below dir name id = (λ e. below_has dir name id e, λ h. has_below dir name id h.1 h.0)
