-- A word fits the ids whose first digits it is, and a longer word fits fewer.
use Rattle.std.proofs.Common.{◌≡◌, ◌≢◌, ◌≤◌, ◌⊎◌, ◌↔◌, ◌∙◌, inl, inr, ℕ, true, IsTrue, List, [], ◌∷◌, ◌++◌, ◌&&◌, nat_le, length, take, drop, refl, sym, ap, subst, arith, append_assoc, le-leb}
use Rattle.std.specs.List.{list_all}
use Rattle.std.proofs.lemmas.Bool.{and_from, and_parts}
use Rattle.std.proofs.lemmas.Grind.{common_steps}
use Rattle.std.proofs.lemmas.List.Folds.{list_all-append}
use Rattle.hex.specs.Hex.{encode_lower}
use Rattle.gb_text.specs.Digits.{IsId}
use Rattle.gb_text.specs.PrefixText.{is_lower_digit, is_prefix_text}
use Rattle.gb_text.specs.declared.id.Id.{Id}
use Rattle.gb_text.proofs.PrefixLemmas.{begins_with-take, encode_lower-lower, id_digits-sized, take-begins_with}
use Rattle.gb_store.specs.Files.{Files}
use Rattle.repo_state.specs.Finds.{Finds, Fits, Many, Nothing, One}
use Rattle.repo_state.specs.Sides.{IsBefore, has_ref}
use Rattle.repo_state.specs.declared.side.Side.{Side}
use Rattle.repo_state.proofs.ListingLemmas.{in_order, not_before_itself}

pub take_front : (front rest : List ℕ) → take (length front) (front ++ rest) ≡ front
take_front front rest = grind (arith, common_steps)

-- no prefix is empty
pub not_empty : (word : List ℕ) → is_prefix_text word ≡ true → word ≢ []
not_empty word is none = let empty : is_prefix_text [] ≡ true = subst (λ (w : List ℕ). is_prefix_text w ≡ true) none is in cc (empty)

pub at_least_one : (word : List ℕ) → word ≢ [] → nat_le 1 (length word) ≡ true
at_least_one [] some = absurd (some refl)
at_least_one (c ∷ cs) some = le-leb 1 (length (c ∷ cs)) (omega arith)

-- the first digits of an id are a prefix
pub front_is_prefix : (id : Id) (word rest : List ℕ) → IsId id → word ≢ [] → encode_lower id.bytes ≡ word ++ rest → is_prefix_text word ≡ true
front_is_prefix id word rest is some front =
    let sized = id_digits-sized id is in
    let long : length (word ++ rest) ≡ 64 = sym (ap (λ (t : List ℕ). length t) front) ∙ sized in
    let few : length word ≤ 64 = grind (arith, common_steps) in
    let all : (list_all is_lower_digit word && list_all is_lower_digit rest) ≡ true =
    sym (list_all-append is_lower_digit word rest) ∙ ap (list_all is_lower_digit) (sym front) ∙ encode_lower-lower id.bytes is.bytes in
    and_from (nat_le 1 (length word) && nat_le (length word) 64) (list_all is_lower_digit word)
    (and_from (nat_le 1 (length word)) (nat_le (length word) 64) (at_least_one word some) (le-leb (length word) 64 few))
    (and_parts (list_all is_lower_digit word) (list_all is_lower_digit rest) all).0

module _ {files : Files} {folder : List ℕ} {of : Side} where
  -- the word is some of the first digits of the id
  pub fits_front : (word : List ℕ) (id : Id) → Fits files folder of word id ↔ (IsId id × IsTrue (has_ref files folder of id) × (word ≢ []) × ((rest : List ℕ) × (encode_lower id.bytes ≡ word ++ rest)))
  fits_front word id = (
    λ so. (so.is_id, so.stands, not_empty word so.is_prefix, (drop (length word) (encode_lower id.bytes), whole so)),
    λ h. record {
      is_id = h.0;
      is_prefix = front_is_prefix id word h.3.0 h.0 h.2 h.3.1;
      begins = take-begins_with word (encode_lower id.bytes) (ap (take (length word)) h.3.1 ∙ take_front word h.3.0);
      stands = h.1;
    },
  )
    where
      whole : Fits files folder of word id → encode_lower id.bytes ≡ word ++ drop (length word) (encode_lower id.bytes)
      whole so =
          let begins : take (length word) (encode_lower id.bytes) ≡ word = begins_with-take word (encode_lower id.bytes) so.begins in
          grind (arith, common_steps)

  -- what a longer word fits the shorter fits
  pub longer_fits : (word more : List ℕ) (id : Id) → word ≢ [] → Fits files folder of (word ++ more) id → Fits files folder of word id
  longer_fits word more id some so =
      let front = (fits_front (word ++ more) id).0 so in
      (fits_front word id).1 (front.0, front.1, some, (more ++ front.3.0, front.3.1 ∙ append_assoc word more front.3.0))

  pub longer_finds_one : (word more : List ℕ) (id other : Id) → Finds files folder of word (One id) → Finds files folder of (word ++ more) (One other) → other ≡ id
  longer_finds_one word more id other found also = found.no_other other (longer_fits word more other (not_empty word found.is_so.is_prefix) also.is_so)

  pub longer_finds_same : (word more : List ℕ) (id : Id) → Finds files folder of word (One id) → (rest : List ℕ) × (encode_lower id.bytes ≡ (word ++ more) ++ rest) → Finds files folder of (word ++ more) (One id)
  longer_finds_same word more id found front =
      let some = not_empty word found.is_so.is_prefix in
      record {
        is_so = (fits_front (word ++ more) id).1 (found.is_so.is_id, found.is_so.stands, not_empty_front word more some, front);
        no_other = λ other so. found.no_other other (longer_fits word more other some so);
      }
    where
      not_empty_front : (word more : List ℕ) → word ≢ [] → word ++ more ≢ []
      not_empty_front [] more some none = absurd (some refl)
      not_empty_front (c ∷ cs) more some none = cc (none)

  pub longer_finds_several : (word more : List ℕ) (id least next : Id) → Finds files folder of word (One id) → Finds files folder of (word ++ more) (Many least next) → ⊥
  longer_finds_several word more id least next found many =
      let some = not_empty word found.is_so.is_prefix in
      let one = found.no_other least (longer_fits word more least some many.least.is_so) in
      let two = found.no_other next (longer_fits word more next some many.next.is_so.0) in
      many.next.is_so.1 (two ∙ sym one)

  pub longer_finds_nothing : (word more : List ℕ) → Finds files folder of word Nothing → word ≢ [] → Finds files folder of (word ++ more) Nothing
  longer_finds_nothing word more none some id so = none id (longer_fits word more id some so)

  -- the two least stand before all others that the word fits
  pub least_two : (word : List ℕ) (least next : Id) → Finds files folder of word (Many least next)
      → IsBefore least next × ((other : Id) → Fits files folder of word other → (other ≡ least) ⊎ (other ≡ next) ⊎ IsBefore next other)
  least_two word least next many = (first (in_order least next), λ other so. each other so (in_order other least))
    where
      first : IsBefore least next ⊎ (least ≡ next) ⊎ IsBefore next least → IsBefore least next
      first (inl before) = before
      first (inr (inl same)) = absurd (many.next.is_so.1 (sym same))
      first (inr (inr before)) = absurd (many.least.none_before next many.next.is_id many.next.is_so.0 before)

      behind : (other : Id) → Fits files folder of word other → (other ≡ least → ⊥) → IsBefore other next ⊎ (other ≡ next) ⊎ IsBefore next other
          → (other ≡ least) ⊎ (other ≡ next) ⊎ IsBefore next other
      behind other so apart (inl before) = absurd (many.next.none_before other so.is_id (so, apart) before)
      behind other so apart (inr (inl same)) = inr (inl same)
      behind other so apart (inr (inr before)) = inr (inr before)

      each : (other : Id) → Fits files folder of word other → IsBefore other least ⊎ (other ≡ least) ⊎ IsBefore least other
          → (other ≡ least) ⊎ (other ≡ next) ⊎ IsBefore next other
      each other so (inl before) = absurd (many.least.none_before other so.is_id so before)
      each other so (inr (inl same)) = inl same
      each other so (inr (inr before)) = behind other so (λ same. not_before_itself least.bytes (subst (IsBefore least) same before)) (in_order other next)
