-- The order of ids by their bytes.
use Rattle.std.proofs.Common.{◌≡◌, ℕ, Bool, true, false, List, refl, ap, ◌∙◌}
use Rattle.std.specs.Ordering.{is_lt, nat_cmp, ordering_reverse}
use Rattle.std.specs.declared.cmp.Ordering.{Ordering}
use Rattle.std.specs.declared.cmp.Ordering.TheVariants.{Less, Equal, Greater}
use Rattle.std.specs.Cmp.Lexicographic.{slice_cmp, nat_list_cmp_total}
use Rattle.std.proofs.lemmas.Map.Lookups.{exact_bytes}
use Rattle.gb_text.specs.declared.id.Id.{Id}
use Rattle.combined_id.specs.Lookup.{is_below}

abbrev cmp : Id → Id → Ordering
cmp one two = slice_cmp nat_cmp one.bytes two.bytes

chain : (ba cb ca bc : Ordering) → is_lt ba ≡ false → is_lt cb ≡ false → (cb ≡ Equal → ca ≡ ba) → bc ≡ ordering_reverse cb
    → (bc ≡ Less → ca ≡ Less → ba ≡ Less) → is_lt ca ≡ false
chain ba Less ca bc h k e r t = cc k
chain ba Equal ca bc h k e r t = ap is_lt (e refl) ∙ h
chain ba Greater Less bc h k e r t = let l : is_lt ba ≡ true = ap is_lt (t r refl) in cc (l, h)
chain ba Greater Equal bc h k e r t = refl
chain ba Greater Greater bc h k e r t = refl

-- of three ids, each not greater than the next, the first is not greater than the last
pub below-trans : (a b c : Id) → is_below b a ≡ false → is_below c b ≡ false → is_below c a ≡ false
below-trans a b c h k =
    let o = nat_list_cmp_total in
    chain (cmp b a) (cmp c b) (cmp c a) (cmp b c) h k (o.congr c.bytes b.bytes a.bytes) (o.antisymm b.bytes c.bytes) (o.trans b.bytes c.bytes a.bytes)

level : (r s : Ordering) → is_lt r ≡ false → is_lt s ≡ false → s ≡ ordering_reverse r → r ≡ Equal
level Less s h k e = cc h
level Equal s h k e = refl
level Greater s h k e = let l : is_lt s ≡ true = ap is_lt e in cc (l, k)

-- ids of which none is less than the other are the same
pub below-neither : (one two : Id) → is_below one two ≡ false → is_below two one ≡ false → one ≡ two
below-neither one two h k =
    let o = nat_list_cmp_total in
    let same : one.bytes ≡ two.bytes = exact_bytes one.bytes two.bytes (level (cmp one two) (cmp two one) h k (o.antisymm two.bytes one.bytes)) in
    ap (λ (b : List ℕ). record { bytes = b }) same

turned : (r s : Ordering) → is_lt r ≡ true → s ≡ ordering_reverse r → is_lt s ≡ false
turned Less s h e = ap is_lt e
turned Equal s h e = cc h
turned Greater s h e = cc h

-- of two ids one is not less
pub below-one_way : (one two : Id) → is_below one two ≡ true → is_below two one ≡ false
below-one_way one two h = turned (cmp one two) (cmp two one) h (nat_list_cmp_total.antisymm two.bytes one.bytes)

-- what is less than an id is less than each that is not less than it
pub below-further : (one two three : Id) → is_below two one ≡ false → is_below two three ≡ true → is_below one three ≡ true
below-further one two three h k = decide (is_below one three) refl
  where
    decide : (b : Bool) → is_below one three ≡ b → is_below one three ≡ true
    decide true e = e
    decide false e = let no = below-trans three one two e h in cc (no, k)

-- likewise
pub below-nearer : (one two three : Id) → is_below one two ≡ true → is_below three two ≡ false → is_below one three ≡ true
below-nearer one two three h k = decide (is_below one three) refl
  where
    decide : (b : Bool) → is_below one three ≡ b → is_below one three ≡ true
    decide true e = e
    decide false e = let no = below-trans two three one k e in cc (no, h)
