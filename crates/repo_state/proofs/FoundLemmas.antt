-- What words and the user file find.
use Rattle.std.proofs.Common.{◌≡◌, ◌⊎◌, inl, inr, ℕ, Bool, true, false, IsTrue, cond, List, length, take, take_all, Option, Some, None, refl, sym, ◌∙◌, ap, subst, arith}
use Rattle.hex.specs.Hex.{encode_lower}
use Rattle.gb_text.specs.Digits.{IsId, id_of}
use Rattle.gb_text.specs.Folder.{joined}
use Rattle.gb_text.specs.LineEnd.{line_of}
use Rattle.gb_text.specs.declared.id.Id.{Id}
use Rattle.gb_text.specs.declared.id.Name.{Name}
use Rattle.gb_text.specs.Prefix.{begins_with}
use Rattle.gb_text.specs.PrefixText.{is_prefix_text}
use Rattle.gb_text.proofs.DigitLemmas.{id_digits-same, id_of-is}
use Rattle.gb_text.proofs.PrefixLemmas.{begins_with-take, id_digits-sized, take-begins_with, whole_text}
use Rattle.gb_store.specs.Files.{Files}
use Rattle.ref_store.specs.Refs.{Ref, Absent, Head, Bad}
use Rattle.repo_state.specs.Answers.{IsRefOf, ref_finder}
use Rattle.repo_state.specs.Bugs.{IsLocal}
use Rattle.repo_state.specs.Finds.{Finding, Finds, FindsEntity, FindsNoHead, FindsNoId, Fits, IsDetermined, Many, Nothing, One, head_finder, id_finder}
use Rattle.repo_state.specs.Sides.{IsFirst, has_ref, head_at, is_there, ref_place}
use Rattle.repo_state.specs.declared.refs.EntityRef.{EntityRef}
use Rattle.repo_state.specs.declared.side.HeadEntry.{HeadEntry}
use Rattle.repo_state.specs.Users.{BadUser, User, local_user, user_at, user_of, user_place}
use Rattle.repo_state.specs.declared.side.Side.{Side}
use Rattle.repo_state.specs.declared.side.Side.TheVariants as side
use Rattle.repo_state.specs.declared.stop.Missed.{Missed}
use Rattle.repo_state.specs.declared.stop.Missed.TheVariants as missed
use Rattle.repo_state.proofs.ListingLemmas.{one_first}

-- ---- one finding

module _ {files : Files} {folder : List ℕ} {of : Side} {word : List ℕ} where
  -- what is found is an id
  pub finds_an_id : (id : Id) → Finds files folder of word (One id) → IsId id
  finds_an_id id found = found.is_so.is_id

  -- a word that finds one id finds it alone, and not nothing, and not several
  pub finds_the_same : (id other : Id) → Finds files folder of word (One id) → Finds files folder of word (One other) → id ≡ other
  finds_the_same id other first second = second.no_other id first.is_so

  pub finds_not_both : (id : Id) → Finds files folder of word (One id) → Finds files folder of word Nothing → ⊥
  finds_not_both id found none = none id found.is_so

  pub finds_not_many : (id least next : Id) → Finds files folder of word (One id) → Finds files folder of word (Many least next) → ⊥
  finds_not_many id least next found many = many.next.is_so.1 (found.no_other next many.next.is_so.0 ∙ sym (found.no_other least many.least.is_so))

  -- nor does it find several and nothing
  pub finds_some : (least next : Id) → Finds files folder of word (Many least next) → Finds files folder of word Nothing → ⊥
  finds_some least next many none = none least many.least.is_so

  -- the two least are two ids
  pub finds_two : (least next other later : Id) → Finds files folder of word (Many least next) → Finds files folder of word (Many other later) → (least ≡ other) × (next ≡ later)
  finds_two least next other later many also =
      let first : least ≡ other = one_first (Fits files folder of word) least other many.least also.least in
      let second : IsFirst (λ id. Fits files folder of word id × (id ≡ other → ⊥)) next = subst (λ (x : Id). IsFirst (λ id. Fits files folder of word id × (id ≡ x → ⊥)) next) first many.next in
      (first, one_first (λ id. Fits files folder of word id × (id ≡ other → ⊥)) next later second also.next)

  -- two entities that a word finds are one
  pub finds_one_entity : (e other : HeadEntry) → FindsEntity files folder of word e → FindsEntity files folder of word other → e ≡ other
  finds_one_entity e other first second =
      let ids : e.id ≡ other.id = finds_the_same e.id other.id first.found second.found in
      let heads : Head e.name ≡ Head other.name = sym first.head ∙ ap (head_at files folder of) ids ∙ second.head in
      let names : e.name ≡ other.name = cc in
      λ i. record { id = ids i; name = names i }

-- a word finds one thing
pub one_finding : (files : Files) (folder : List ℕ) (of : Side) (word : List ℕ) (one other : Finding) → Finds files folder of word one → Finds files folder of word other → one ≡ other
one_finding files folder of word (One id) (One other) first second = ap One (finds_the_same id other first second)
one_finding files folder of word (One id) Nothing first second = absurd (finds_not_both id first second)
one_finding files folder of word (One id) (Many least next) first many = absurd (finds_not_many id least next first many)
one_finding files folder of word Nothing (One id) first second = absurd (finds_not_both id second first)
one_finding files folder of word Nothing Nothing first second = refl
one_finding files folder of word Nothing (Many least next) first many = absurd (finds_some least next many first)
one_finding files folder of word (Many least next) (One id) many first = absurd (finds_not_many id least next first many)
one_finding files folder of word (Many least next) Nothing many first = absurd (finds_some least next many first)
one_finding files folder of word (Many least next) (Many other later) many also =
    let both = finds_two least next other later many also in
    λ i. Many (both.0 i) (both.1 i)

-- ---- whole ids

-- a ref that was read stands
ref_stands : (ref : Ref) (head : Option Name) → IsRefOf ref head → IsTrue (is_there ref)
ref_stands ref None is = ap is_there is
ref_stands ref (Some name) is = ap is_there is

-- the digits of an id begin with all of them, and those of no other id do
pub whole_begins : (id : Id) → IsId id → begins_with (encode_lower id.bytes) (encode_lower id.bytes) ≡ true
whole_begins id is = take-begins_with (encode_lower id.bytes) (encode_lower id.bytes) (take_all (length (encode_lower id.bytes)) (encode_lower id.bytes) (omega arith))

whole_is : (id other : Id) → IsId id → IsId other → begins_with (encode_lower id.bytes) (encode_lower other.bytes) ≡ true → other ≡ id
whole_is id other is valid begins =
    let sized = id_digits-sized id is in
    let long = id_digits-sized other valid in
    let all : take (length (encode_lower id.bytes)) (encode_lower other.bytes) ≡ encode_lower other.bytes = take_all (length (encode_lower id.bytes)) (encode_lower other.bytes) (omega (arith, sized, long)) in
    id_digits-same other id valid is (sym all ∙ begins_with-take (encode_lower id.bytes) (encode_lower other.bytes) begins)

module _ {files : Files} {folder : List ℕ} {of : Side} where
  -- all digits of an id find it, where a ref of it stands
  pub finds_whole : (id : Id) → IsId id → IsTrue (has_ref files folder of id) → Finds files folder of (encode_lower id.bytes) (One id)
  finds_whole id is stands = record {
    is_so = record { is_id = is; is_prefix = whole_text id is; begins = whole_begins id is; stands = stands };
    no_other = λ other so. whole_is id other is so.is_id so.begins;
  }

  -- and nothing where none does
  finds_no_whole : (id : Id) → IsId id → has_ref files folder of id ≡ false → Finds files folder of (encode_lower id.bytes) Nothing
  finds_no_whole id is lacks other so =
      let same : has_ref files folder of other ≡ has_ref files folder of id = ap (has_ref files folder of) (whole_is id other is so.is_id so.begins) in
      let stands = so.stands in
      cc (lacks, same, stands)

module _ {files : Files} {folder : List ℕ} {of : Side} {word : List ℕ} where
  pub finds_one : (id : Id) → id_of word ≡ Some id → IsTrue (has_ref files folder of id) → Finds files folder of word (One id)
  finds_one id digits stands =
      let is = id_of-is word id digits in
      subst (λ (w : List ℕ). Finds files folder of w (One id)) (sym is.1) (finds_whole id is.0 stands)

  pub finds_no_ref : (id : Id) → id_of word ≡ Some id → has_ref files folder of id ≡ false → Finds files folder of word Nothing
  finds_no_ref id digits lacks =
      let is = id_of-is word id digits in
      subst (λ (w : List ℕ). Finds files folder of w Nothing) (sym is.1) (finds_no_whole id is.0 lacks)

  -- a word that is no prefix finds nothing
  pub finds_no_prefix : is_prefix_text word ≡ false → Finds files folder of word Nothing
  finds_no_prefix none id so = let is = so.is_prefix in cc (none, is)

  -- ---- the ref of the id that is looked for

  -- the ref that was read is found
  pub finds_ref : (id : Id) (entity : EntityRef) → (id_of word ≡ Some id) ⊎ Finds files folder of word (One id) → (entity.id ≡ id) × IsRefOf (head_at files folder of id) entity.head
      → (ref_finder of files folder word).Found entity
  finds_ref id entity from is = (each from, subst (λ (x : Id). IsRefOf (head_at files folder of x) entity.head) (sym is.0) is.1)
    where
      each : (id_of word ≡ Some id) ⊎ Finds files folder of word (One id) → Finds files folder of word (One entity.id)
      each (inl digits) = subst (λ (x : Id). Finds files folder of word (One x)) (sym is.0) (finds_one id digits (ref_stands (head_at files folder of id) entity.head is.1))
      each (inr found) = subst (λ (x : Id). Finds files folder of word (One x)) (sym is.0) found

  -- where none stands nothing is found
  pub finds_no_entity : (id : Id) → (id_of word ≡ Some id) ⊎ Finds files folder of word (One id) → head_at files folder of id ≡ Absent → Finds files folder of word Nothing
  finds_no_entity id (inl digits) absent = finds_no_ref id digits (ap is_there absent)
  finds_no_entity id (inr found) absent =
      let lacks : has_ref files folder of id ≡ false = ap is_there absent in
      let stands = found.is_so.stands in
      absurd (cc (lacks, stands))

-- ---- finders

-- a word is missed in one way, where what is missed in one way is not missed in another
pub one_missed : {files : Files} {folder : List ℕ} {of : Side} {word : List ℕ} (Misses : Missed → Type 0)
    → (Misses missed.NotFound → Finds files folder of word Nothing)
    → ((least next : Id) → Misses (missed.Ambiguous least next) → Finds files folder of word (Many least next))
    → ((path other : List ℕ) → Misses (missed.Damaged path) → Misses (missed.Damaged other) → path ≡ other)
    → ((path : List ℕ) → Misses (missed.Damaged path) → (id : Id) × Finds files folder of word (One id)) → (one other : Missed) → Misses one → Misses other → one ≡ other
one_missed Misses none many same found missed.NotFound missed.NotFound first second = refl
one_missed Misses none many same found missed.NotFound (missed.Ambiguous least next) first second = absurd (finds_some least next (many least next second) (none first))
one_missed Misses none many same found missed.NotFound (missed.Damaged path) first second = let one = found path second in absurd (finds_not_both one.0 one.1 (none first))
one_missed Misses none many same found (missed.Ambiguous least next) missed.NotFound first second = absurd (finds_some least next (many least next first) (none second))
one_missed Misses none many same found (missed.Ambiguous least next) (missed.Ambiguous other later) first second =
    let both = finds_two least next other later (many least next first) (many other later second) in
    λ i. missed.Ambiguous (both.0 i) (both.1 i)
one_missed Misses none many same found (missed.Ambiguous least next) (missed.Damaged path) first second =
    let one = found path second in absurd (finds_not_many one.0 least next one.1 (many least next first))
one_missed Misses none many same found (missed.Damaged path) missed.NotFound first second = let one = found path first in absurd (finds_not_both one.0 one.1 (none second))
one_missed Misses none many same found (missed.Damaged path) (missed.Ambiguous least next) first second =
    let one = found path first in absurd (finds_not_many one.0 least next one.1 (many least next second))
one_missed Misses none many same found (missed.Damaged path) (missed.Damaged other) first second = ap missed.Damaged (same path other first second)

module _ (of : Side) (files : Files) (folder word : List ℕ) where
  id_apart : (id : Id) (one : Missed) → Finds files folder of word (One id) → FindsNoId files folder of word one → ⊥
  id_apart id missed.NotFound found none = finds_not_both id found none
  id_apart id (missed.Ambiguous least next) found many = finds_not_many id least next found many
  id_apart id (missed.Damaged path) found none = none

  pub ids_are_determined : IsDetermined (id_finder of files folder word)
  ids_are_determined = record {
    one = finds_the_same;
    apart = id_apart;
    same = one_missed (FindsNoId files folder of word) (λ none. none) (λ least next many. many) (λ path other first second. absurd first) (λ path never. absurd never);
  }

  head_apart : (e : HeadEntry) (one : Missed) → FindsEntity files folder of word e → FindsNoHead files folder of word one → ⊥
  head_apart e missed.NotFound found none = finds_not_both e.id found.found none
  head_apart e (missed.Ambiguous least next) found many = finds_not_many e.id least next found.found many
  head_apart e (missed.Damaged path) found (id, is, bad) =
      let heads : Head e.name ≡ Bad = sym found.head ∙ ap (head_at files folder of) (finds_the_same e.id id found.found is) ∙ bad.1 in
      cc (heads)

  one_bad_ref : (path other : List ℕ) → FindsNoHead files folder of word (missed.Damaged path) → FindsNoHead files folder of word (missed.Damaged other) → path ≡ other
  one_bad_ref path other (id, found, bad) (same, also, there) =
      bad.0 ∙ ap (λ (one : Id). joined folder (ref_place of one)) (finds_the_same id same found also) ∙ sym there.0

  pub heads_are_determined : IsDetermined (head_finder of files folder word)
  heads_are_determined = record {
    one = finds_one_entity;
    apart = head_apart;
    same = one_missed (FindsNoHead files folder of word) (λ none. none) (λ least next many. many) one_bad_ref (λ path damaged. (damaged.0, damaged.1));
  }

-- the user is a local identity
pub IsLocal-user : (files : Files) (folder : List ℕ) (id : Id) → user_at files folder ≡ User id → IsLocal files folder id
IsLocal-user files folder id is = at_file (files (joined folder user_place)) is
  where
    at_id : (text : List ℕ) (o : Option Id) → id_of (line_of text) ≡ o → local_user files folder o ≡ User id → IsLocal files folder id
    at_id text None read e = absurd (cc)
    at_id text (Some other) read e = decide (has_ref files folder side.Identities other) refl
      where
        decide : (b : Bool) → has_ref files folder side.Identities other ≡ b → IsLocal files folder id
        decide true h =
            let same : User other ≡ User id = sym (ap (λ (b : Bool). cond b (User other) BadUser) h) ∙ e in
            let ids : other ≡ id = cc in
            subst (IsLocal files folder) ids (record { is_id = (id_of-is (line_of text) other read).0; stands = h })
        decide false h = let bad : BadUser ≡ User id = sym (ap (λ (b : Bool). cond b (User other) BadUser) h) ∙ e in absurd (cc)

    at_file : (o : Option (List ℕ)) → user_of files folder o ≡ User id → IsLocal files folder id
    at_file None e = absurd (cc)
    at_file (Some text) e = at_id text (id_of (line_of text)) refl e
