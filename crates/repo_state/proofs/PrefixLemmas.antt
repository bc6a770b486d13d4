-- What a prefix finds among the ids of a side.
use Rattle.std.proofs.Common.{◌≡◌, ◌<◌, ◌⊎◌, ◌∙◌, inl, inr, ℕ, zero, suc, Bool, true, false, cond, List, [], ◌∷◌, length, map, take, drop, filter, get_or, refl, sym, ap, subst, arith}
use Rattle.std.specs.Prelude.{Contains}
use Rattle.std.specs.List.{AllByRecursion}
use Rattle.std.specs.List.Sorted.{IsStrictlySortedBy}
use Rattle.std.specs.Cmp.Lexicographic.{slice_cmp}
use Rattle.std.specs.Ordering.{nat_cmp}
use Rattle.std.specs.declared.cmp.Ordering.TheVariants.{Less}
use Rattle.std.proofs.lemmas.List.Elements.{All-contains, All-from_recursion}
use Rattle.std.proofs.lemmas.List.Kept.{IsStrictlySortedBy-filter}
use Rattle.hex.specs.Hex.{encode_lower}
use Rattle.gb_text.specs.Prefix.{begins_with, digits_of}
use Rattle.gb_text.specs.PrefixText.{is_prefix_text}
use Rattle.gb_text.specs.declared.id.Id.{Id}
use Rattle.gb_text.specs.declared.prefix.Prefix.{Prefix}
use Rattle.gb_store.specs.Files.{Files}
use Rattle.object_batch.proofs.ClashLemmas.{Contains-cons_cases, Contains-first, Contains-later}
use Rattle.combined_id.specs.Lookup.{IsLeastTwo, fitting}
use Rattle.combined_id.proofs.LookupLemmas.{item_at, neighbours}
use Rattle.repo_state.specs.Finds.{Finding, Finds, Fits, Many, Nothing, One}
use Rattle.repo_state.specs.Sides.{AreIds, IsBefore}
use Rattle.repo_state.specs.declared.side.Side.{Side}
use Rattle.repo_state.proofs.ListingLemmas.{not_before_itself, not_both_before}

-- ---- lists

module _ {X : Type 0} (p : X → Bool) where
  -- what passes is kept
  pub Contains-filter : (xs : List X) (x : X) → Contains xs x → p x ≡ true → Contains (filter p xs) x
  Contains-filter [] x (k, lt, e) h = absurd (omega arith)
  Contains-filter (z ∷ xs) x (zero, lt, e) h = subst (λ (b : Bool). Contains (cond b (z ∷ filter p xs) (filter p xs)) x) (sym (ap p e ∙ h)) (0, omega arith, e)
  Contains-filter (z ∷ xs) x (suc k, lt, e) h = each (p z) (Contains-filter xs x (k, omega arith, e) h)
    where
      each : (b : Bool) → Contains (filter p xs) x → Contains (cond b (z ∷ filter p xs) (filter p xs)) x
      each true later = Contains-later z (filter p xs) x later
      each false later = later

  -- and what is kept passes
  pub Contains-from_filter : (xs : List X) (x : X) → Contains (filter p xs) x → Contains xs x × (p x ≡ true)
  Contains-from_filter [] x (k, lt, e) = absurd (omega arith)
  Contains-from_filter (z ∷ xs) x h = each (Contains-from_filter xs x) (p z) refl h
    where
      more : (Contains (filter p xs) x → Contains xs x × (p x ≡ true)) → Contains (filter p xs) x → Contains (z ∷ xs) x × (p x ≡ true)
      more again later = let both = again later in (Contains-later z xs x both.0, both.1)

      cases : (Contains (filter p xs) x → Contains xs x × (p x ≡ true)) → p z ≡ true → (z ≡ x) ⊎ Contains (filter p xs) x → Contains (z ∷ xs) x × (p x ≡ true)
      cases again at (inl same) = (subst (Contains (z ∷ xs)) same (Contains-first z xs), sym (ap p same) ∙ at)
      cases again at (inr later) = more again later

      each : (Contains (filter p xs) x → Contains xs x × (p x ≡ true)) → (b : Bool) → p z ≡ b → Contains (cond b (z ∷ filter p xs) (filter p xs)) x → Contains (z ∷ xs) x × (p x ≡ true)
      each again true at here = cases again at (Contains-cons_cases z (filter p xs) x here)
      each again false at here = more again here

-- the order of the ids' bytes is that of the ids
all_unmapped : (P : List ℕ → Type 0) (ids : List Id) → AllByRecursion P (map (λ (id : Id). id.bytes) ids) → AllByRecursion (λ (id : Id). P id.bytes) ids
all_unmapped P [] all = tt
all_unmapped P (id ∷ ids) all = (all.0, all_unmapped P ids all.1)

pub unmapped : (ids : List Id) → IsStrictlySortedBy (slice_cmp nat_cmp) (map (λ (id : Id). id.bytes) ids) → IsStrictlySortedBy (λ one two. slice_cmp nat_cmp one.bytes two.bytes) ids
unfolding IsStrictlySortedBy
unmapped [] rising = tt
unmapped (id ∷ ids) rising = (all_unmapped (λ bytes. slice_cmp nat_cmp id.bytes bytes ≡ Less) ids rising.0, unmapped ids rising.1)

-- ---- what the ids that fit are found to be

-- these are the ids that a word fits, in ascending order
record AreFitting (files : Files) (folder : List ℕ) (of : Side) (word : List ℕ) (fit : List Id) : Type 0 where
  rising : IsStrictlySortedBy (λ one two. slice_cmp nat_cmp one.bytes two.bytes) fit
  from : (id : Id) → Contains fit id → Fits files folder of word id
  all : (id : Id) → Fits files folder of word id → Contains fit id

module _ {files : Files} {folder : List ℕ} {of : Side} {word : List ℕ} where
  none_fit : AreFitting files folder of word [] → Finds files folder of word Nothing
  none_fit are id so = let has = are.all id so in absurd (omega (arith, has.1))

  one_fits : (id : Id) → AreFitting files folder of word (id ∷ []) → Finds files folder of word (One id)
  one_fits id are = record {
    is_so = are.from id (Contains-first id []);
    no_other = λ other so. each other (Contains-cons_cases id [] other (are.all other so));
  }
    where
      each : (other : Id) → (id ≡ other) ⊎ Contains [] other → other ≡ id
      each other (inl same) = sym same
      each other (inr none) = absurd (omega (arith, none.1))

  many_fit : (least next : Id) (rest : List Id) → AreFitting files folder of word (least ∷ next ∷ rest) → Finds files folder of word (Many least next)
  unfolding IsStrictlySortedBy
  many_fit least next rest are = record {
    least = record { is_id = (are.from least first).is_id; is_so = are.from least first; none_before = λ other is so. not_below_least other (Contains-cons_cases least (next ∷ rest) other (are.all other so)) };
    next = record {
      is_id = (are.from next second).is_id;
      is_so = (are.from next second, λ same. not_before_itself least.bytes (subst (λ (x : Id). IsBefore least x) same are.rising.0.0));
      none_before = λ other is so. not_below_next other so.1 (Contains-cons_cases least (next ∷ rest) other (are.all other so.0));
    };
  }
    where
      first : Contains (least ∷ next ∷ rest) least
      first = Contains-first least (next ∷ rest)

      second : Contains (least ∷ next ∷ rest) next
      second = Contains-later least (next ∷ rest) next (Contains-first next rest)

      above : (one : Id) (others : List Id) (other : Id) → AllByRecursion (λ (x : Id). slice_cmp nat_cmp one.bytes x.bytes ≡ Less) others → Contains others other → IsBefore one other
      above one others other all has = All-contains (λ (x : Id). slice_cmp nat_cmp one.bytes x.bytes ≡ Less) others other (All-from_recursion (λ (x : Id). slice_cmp nat_cmp one.bytes x.bytes ≡ Less) others all) has

      not_below_least : (other : Id) → (least ≡ other) ⊎ Contains (next ∷ rest) other → IsBefore other least → ⊥
      not_below_least other (inl same) before = not_before_itself least.bytes (subst (λ (x : Id). IsBefore x least) (sym same) before)
      not_below_least other (inr later) before = not_both_before other.bytes least.bytes before (above least (next ∷ rest) other are.rising.0 later)

      behind_next : (other : Id) → (next ≡ other) ⊎ Contains rest other → IsBefore other next → ⊥
      behind_next other (inl same) before = not_before_itself next.bytes (subst (λ (x : Id). IsBefore x next) (sym same) before)
      behind_next other (inr later) before = not_both_before other.bytes next.bytes before (above next rest other are.rising.1.0 later)

      not_below_next : (other : Id) → (other ≡ least → ⊥) → (least ≡ other) ⊎ Contains (next ∷ rest) other → IsBefore other next → ⊥
      not_below_next other apart (inl same) before = apart (sym same)
      not_below_next other apart (inr later) before = behind_next other (Contains-cons_cases next rest other later) before

  -- a word finds something
  some_fit : (fit : List Id) → AreFitting files folder of word fit → (finding : Finding) × Finds files folder of word finding
  some_fit [] are = (Nothing, none_fit are)
  some_fit (id ∷ []) are = (One id, one_fits id are)
  some_fit (least ∷ next ∷ rest) are = (Many least next, many_fit least next rest are)

  -- ---- among the ids of a side

  -- those of a side that begin with the word are the ids that it fits
  fitting_among : (ids : List Id) → AreIds files folder of ids → is_prefix_text word ≡ true → AreFitting files folder of word (filter (λ id. begins_with word (encode_lower id.bytes)) ids)
  fitting_among ids are is_prefix =
      let test : Id → Bool = λ id. begins_with word (encode_lower id.bytes) in
      record {
        rising = IsStrictlySortedBy-filter (λ one two. slice_cmp nat_cmp one.bytes two.bytes) test ids (unmapped ids are.rising);
        from = λ id has.
            let both = Contains-from_filter test ids id has in
            let member = (are.members id).0 both.0 in
            record { is_id = member.0; is_prefix = is_prefix; begins = both.1; stands = member.1 };
        all = λ id so. Contains-filter test ids id ((are.members id).1 (so.is_id, so.stands)) so.begins;
      }

  module _ (prefix : Prefix) (digits : digits_of prefix ≡ word) (is_prefix : is_prefix_text word ≡ true) (ids : List Id) (are : AreIds files folder of ids) where
    fit : AreFitting files folder of word (fitting prefix ids)
    fit = subst (λ (w : List ℕ). AreFitting files folder of word (filter (λ id. begins_with w (encode_lower id.bytes)) ids)) (sym digits) (fitting_among ids are is_prefix)

    -- the look-up finds one id, none, or the two least
    pub looked_up_one : (place : ℕ) (d : Id) → place < length ids → fitting prefix ids ≡ take 1 (drop place ids) → Finds files folder of word (One (get_or ids place d))
    looked_up_one place d low is = one_fits (get_or ids place d) (subst (AreFitting files folder of word) (is ∙ item_at ids place d low) fit)

    pub looked_up_none : fitting prefix ids ≡ [] → Finds files folder of word Nothing
    looked_up_none is = none_fit (subst (AreFitting files folder of word) is fit)

    pub looked_up_many : (least next : Id) → IsLeastTwo (fitting prefix ids) least next → Finds files folder of word (Many least next)
    looked_up_many least next two = each (fitting prefix ids) fit (neighbours prefix ids least next (unmapped ids are.rising) two)
      where
        each : (all : List Id) → AreFitting files folder of word all → take 2 all ≡ least ∷ next ∷ [] → Finds files folder of word (Many least next)
        each [] those front = absurd (cc (front))
        each (one ∷ []) those front = absurd (cc (front))
        each (one ∷ two ∷ rest) those front =
            let first : one ≡ least = cc (front) in
            let second : two ≡ next = cc (front) in
            subst (λ (x : Id). Finds files folder of word (Many x next)) first (subst (λ (x : Id). Finds files folder of word (Many one x)) second (many_fit one two rest those))

-- each word finds something on a side whose refs are listed
pub some_finding : (files : Files) (folder : List ℕ) (of : Side) (word : List ℕ) (ids : List Id) → AreIds files folder of ids → (finding : Finding) × Finds files folder of word finding
some_finding files folder of word ids are = each (is_prefix_text word) refl
  where
    each : (b : Bool) → is_prefix_text word ≡ b → (finding : Finding) × Finds files folder of word finding
    each true is = some_fit (filter (λ id. begins_with word (encode_lower id.bytes)) ids) (fitting_among ids are is)
    each false is = (Nothing, λ id so. let yes = so.is_prefix in absurd (cc (is, yes)))
