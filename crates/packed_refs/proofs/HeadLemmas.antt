-- The last of a name's refs, and the last of an id's heads.
use Rattle.std.proofs.Common.{◌≡◌, ◌≢◌, ℕ, suc, Bool, true, false, cond, List, [], ◌∷◌, ◌++◌, Option, Some, None, refl, sym, ◌∙◌, ap, arith}
use Rattle.std.specs.Prelude.{Contains}
use Rattle.std.specs.List.{cons_option}
use Rattle.std.specs.Option.{option_map}
use Rattle.std.specs.Str.{bytes_eq}
use Rattle.std.proofs.lemmas.Slice.Eq.{bytes_eq-Decides}
use Rattle.hex.specs.Hex.{encode_lower}
use Rattle.gb_text.specs.Digits.{IsId}
use Rattle.gb_text.specs.declared.id.Id.{Id}
use Rattle.gb_text.specs.declared.id.Name.{Name}
use Rattle.packed_refs.specs.Packed.{PackedRef, head_after, head_of, heads_in, id_below, id_head_after, id_head_of, last_head, last_id_head}
use Rattle.packed_refs.proofs.BelowLemmas.{below_has, has_below}

bytes_differ : (xs ys : List ℕ) → xs ≢ ys → bytes_eq xs ys ≡ false
bytes_differ xs ys differ = each (bytes_eq xs ys) refl
  where
    each : (b : Bool) → bytes_eq xs ys ≡ b → bytes_eq xs ys ≡ false
    each true e = absurd (differ ((bytes_eq-Decides xs ys).0 e))
    each false e = e

-- a ref of the name counts
counts : (name : List ℕ) (found : Option Name) (one : PackedRef) → one.name ≡ name → head_after name found one ≡ Some one.head
counts name found one e = ap (λ (b : Bool). cond b (Some one.head) found) ((bytes_eq-Decides one.name name).1 e)

-- one of another name does not
counts_not : (name : List ℕ) (found : Option Name) (one : PackedRef) → one.name ≢ name → head_after name found one ≡ found
counts_not name found one e = ap (λ (b : Bool). cond b (Some one.head) found) (bytes_differ one.name name e)

last_head-append : (name : List ℕ) (found : Option Name) (xs ys : List PackedRef) → last_head name found (xs ++ ys) ≡ last_head name (last_head name found xs) ys
unfolding last_head
last_head-append name found [] ys = refl
last_head-append name found (x ∷ xs) ys = last_head-append name (head_after name found x) xs ys

last_head-none : (name : List ℕ) (found : Option Name) (refs : List PackedRef) → ((one : PackedRef) → Contains refs one → one.name ≢ name) → last_head name found refs ≡ found
unfolding last_head
last_head-none name found [] never = refl
last_head-none name found (x ∷ xs) never =
    last_head-none name (head_after name found x) xs (λ one has. never one (suc has.0, omega (arith, has.1), has.2))
    ∙ counts_not name found x (never x (0, omega arith, refl))

pub last_counts : (before after : List PackedRef) (one : PackedRef) → ((later : PackedRef) → Contains after later → later.name ≢ one.name)
    → head_of one.name (before ++ one ∷ after) ≡ Some one.head
unfolding last_head
last_counts before after one never =
    last_head-append one.name None before (one ∷ after)
    ∙ last_head-none one.name (head_after one.name (last_head one.name None before) one) after never
    ∙ counts one.name (last_head one.name None before) one refl

pub none_counts : (refs : List PackedRef) (name : List ℕ) → ((one : PackedRef) → Contains refs one → one.name ≢ name) → head_of name refs ≡ None
none_counts refs name never = last_head-none name None refs never

module _ (dir : List ℕ) (id : Id) (is : IsId id) where
  abbrev place : List ℕ
  place = dir ++ 47 ∷ encode_lower id.bytes

  -- a ref below the dir counts for the id exactly where it is the id's
  same_after : (one : PackedRef) (other : Id) (found : Option Name) → id_below dir one.name ≡ Some other
      → head_after place found one ≡ id_head_after id found (record { id = other; head = one.head })
  same_after one other found e = each (bytes_eq other.bytes id.bytes) refl
    where
      each : (b : Bool) → bytes_eq other.bytes id.bytes ≡ b → head_after place found one ≡ id_head_after id found (record { id = other; head = one.head })
      each true h =
          let same : other.bytes ≡ id.bytes = (bytes_eq-Decides other.bytes id.bytes).0 h in
          let named : one.name ≡ place = (below_has dir one.name other e).0 ∙ ap (λ (bytes : List ℕ). dir ++ 47 ∷ encode_lower bytes) same in
          counts place found one named ∙ sym (ap (λ (b : Bool). cond b (Some one.head) found) h)
      each false h =
          let differs : one.name ≢ place = λ named.
          let both : Some other ≡ Some id = sym e ∙ has_below dir one.name id is named in
          let same : other ≡ id = cc in
          let equal : bytes_eq other.bytes id.bytes ≡ true = (bytes_eq-Decides other.bytes id.bytes).1 (ap (λ (i : Id). i.bytes) same) in
          absurd (cc (sym h ∙ equal)) in
          counts_not place found one differs ∙ sym (ap (λ (b : Bool). cond b (Some one.head) found) h)

  -- the heads in a dir tell the head of each id's ref
  last_heads : (found : Option Name) (refs : List PackedRef) → last_head place found refs ≡ last_id_head id found (heads_in dir refs)
  unfolding last_head last_id_head
  last_heads found [] = refl
  last_heads found (one ∷ refs) = each (λ f. last_heads f refs) (id_below dir one.name) refl
    where
      each : ((f : Option Name) → last_head place f refs ≡ last_id_head id f (heads_in dir refs)) → (o : Option Id) → id_below dir one.name ≡ o
          → last_head place (head_after place found one) refs ≡ last_id_head id found (cons_option (option_map (λ i. record { id = i; head = one.head }) (id_below dir one.name)) (heads_in dir refs))
      each later None e =
          let differs : one.name ≢ place = λ named. absurd (cc (sym e ∙ has_below dir one.name id is named)) in
          ap (λ (f : Option Name). last_head place f refs) (counts_not place found one differs) ∙ later found
          ∙ sym (ap (λ (o : Option Id). last_id_head id found (cons_option (option_map (λ i. record { id = i; head = one.head }) o) (heads_in dir refs))) e)
      each later (Some other) e =
          later (head_after place found one)
          ∙ ap (λ (f : Option Name). last_id_head id f (heads_in dir refs)) (same_after one other found e)
          ∙ sym (ap (λ (o : Option Id). last_id_head id found (cons_option (option_map (λ i. record { id = i; head = one.head }) o) (heads_in dir refs))) e)

pub heads_are : (dir : List ℕ) (refs : List PackedRef) (id : Id) → IsId id → head_of (dir ++ 47 ∷ encode_lower id.bytes) refs ≡ id_head_of id (heads_in dir refs)
heads_are dir refs id is = last_heads dir id is None refs
