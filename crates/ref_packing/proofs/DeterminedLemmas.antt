-- What a pack does is determined by the files.
use Rattle.std.proofs.Common.{◌≡◌, ◌<◌, ◌⊎◌, inl, inr, suc, arith, ℕ, true, false, List, [], ◌∷◌, ◌++◌, length, map, Contains, Some, refl, sym, ◌∙◌, ap, subst}
use Rattle.std.specs.Prelude.{◌↔◌}
use Rattle.std.specs.Cmp.Lexicographic.{slice_cmp}
use Rattle.std.specs.List.Sorted.{IsStrictlySortedBy}
use Rattle.std.specs.Ordering.{nat_cmp}
use Rattle.std.specs.declared.cmp.Ordering.{Ordering}
use Rattle.std.specs.declared.cmp.Ordering.TheVariants.{Equal, Greater, Less}
use Rattle.std.proofs.lemmas.Cmp.{nat_list_cmp_total}
use Rattle.std.proofs.lemmas.Map.Lookups.{exact_bytes}
use Rattle.gb_text.specs.Folder.{joined}
use Rattle.gb_text.proofs.SortedLemmas.{same_elements}
use Rattle.gb_store.specs.Files.{Files, History, files_of}
use Rattle.packed_refs.specs.Packed.{PackedRef, head_of}
use Rattle.packed_refs.specs.Written.{packed_text}
use Rattle.ref_store.specs.Refs.{Head, is_long, packed_at, packed_reads, ref_of}
use Rattle.ref_store.proofs.ListLemmas.{Contains-from_map, Contains-map}
use Rattle.ref_packing.specs.Answers.{IsBadAt, IsTooLong, Packs}
use Rattle.ref_packing.specs.Packing.{AreLast, AreLoose, ArePacked, IsFirstBad, IsLoose}

abbrev name_of : PackedRef → List ℕ
name_of one = one.name

-- ---- lists in order of names

-- refs with the same names are the same, if those of the same name are
by_names : (xs ys : List PackedRef) → map name_of xs ≡ map name_of ys
    → ((x y : PackedRef) → Contains xs x → Contains ys y → x.name ≡ y.name → x ≡ y) → xs ≡ ys
by_names [] [] names same = refl
by_names [] (y ∷ ys) names same = absurd (cc names)
by_names (x ∷ xs) [] names same = absurd (cc names)
by_names (x ∷ xs) (y ∷ ys) names same =
    let name : x.name ≡ y.name = cc names in
    let first : x ≡ y = same x y (0, omega arith, refl) (0, omega arith, refl) name in
    let names' : map name_of xs ≡ map name_of ys = cc names in
    let rest : xs ≡ ys = by_names xs ys names' (λ a b c d e. same a b (later a x xs c) (later b y ys d) e) in
    λ i. first i ∷ rest i
  where
    later : (z x : PackedRef) (zs : List PackedRef) → Contains zs z → Contains (x ∷ zs) z
    later z x zs c = let low : c.0 < length zs = c.1 in (suc c.0, omega arith, c.2)

abbrev Rising : List PackedRef → Type 0
Rising refs = IsStrictlySortedBy (slice_cmp nat_cmp) (map name_of refs)

-- refs in order of names are the same, if they are those of which something holds, which a name has at most one head for
one_list : (Is : PackedRef → Type 0) → ((x y : PackedRef) → Is x → Is y → x.name ≡ y.name → x ≡ y)
    → (xs ys : List PackedRef) → Rising xs → Rising ys → ((one : PackedRef) → Contains xs one ↔ Is one) → ((one : PackedRef) → Contains ys one ↔ Is one) → xs ≡ ys
one_list Is one xs ys s t here there =
    by_names xs ys (same_elements nat_list_cmp_total (map name_of xs) (map name_of ys) s t (named xs ys here there) (named ys xs there here))
    (λ x y c d e. one x y ((here x).0 c) ((there y).0 d) e)
  where
    named : (zs ws : List PackedRef) → ((z : PackedRef) → Contains zs z ↔ Is z) → ((z : PackedRef) → Contains ws z ↔ Is z)
        → (name : List ℕ) → Contains (map name_of zs) name → Contains (map name_of ws) name
    named zs ws these those name c =
        let from = Contains-from_map name_of zs name c in
        subst (Contains (map name_of ws)) from.2 (Contains-map name_of ws from.0 ((those from.0).1 ((these from.0).0 from.1)))

-- ---- what is taken and packed

same_ref : (x y : PackedRef) → x.name ≡ y.name → x.head ≡ y.head → x ≡ y
same_ref x y names heads = λ i. record { name = names i; head = heads i }

pub one_taken : (files : Files) (folder : List ℕ) (one two : List PackedRef) → AreLoose files folder one → AreLoose files folder two → one ≡ two
one_taken files folder one two here there = one_list (IsLoose files folder) same one two here.rising there.rising here.members there.members
  where
    same : (x y : PackedRef) → IsLoose files folder x → IsLoose files folder y → x.name ≡ y.name → x ≡ y
    same x y is also names =
        let heads : Head x.head ≡ Head y.head = sym is.is_head ∙ ap (λ (n : List ℕ). ref_of (files (joined folder n))) names ∙ also.is_head in
        same_ref x y names (cc heads)

one_last : (refs one two : List PackedRef) → AreLast refs one → AreLast refs two → one ≡ two
one_last refs one two here there = one_list (λ x. head_of x.name refs ≡ Some x.head) same one two here.rising there.rising here.members there.members
  where
    same : (x y : PackedRef) → head_of x.name refs ≡ Some x.head → head_of y.name refs ≡ Some y.head → x.name ≡ y.name → x ≡ y
    same x y is also names =
        let heads : Some x.head ≡ Some y.head = sym is ∙ ap (λ (n : List ℕ). head_of n refs) names ∙ also in
        same_ref x y names (cc heads)

pub one_packed : (files : Files) (folder : List ℕ) (taken packed others also : List PackedRef) → ArePacked files folder taken packed → ArePacked files folder others also
    → (taken ≡ others) × (packed ≡ also)
one_packed files folder taken packed others also here there =
    let same = one_taken files folder taken others here.are_loose there.are_loose in
    (same, one_last (packed_at files folder ++ taken) packed also here.are_last (subst (λ refs. AreLast (packed_at files folder ++ refs) also) (sym same) there.are_last))

-- so a pack moves one number of refs
pub one_count : (folder : List ℕ) (old elder one two : History) (count other : ℕ) → files_of old ≡ files_of elder → Packs folder old one count → Packs folder elder two other → count ≡ other
one_count folder old elder one two count other same here there =
    let also = subst (λ (files : Files). AreLoose files folder there.taken) (sym same) there.are_packed.are_loose in
    here.is_count ∙ ap (λ (refs : List PackedRef). length refs) (one_taken (files_of old) folder here.taken there.taken here.are_packed.are_loose also) ∙ sym there.is_count

-- ---- refusals

-- where refs are packed, the packed refs are not too long
pub packs_not_long : (files : Files) (folder : List ℕ) (taken packed : List PackedRef) → ArePacked files folder taken packed → (taken ≡ []) ⊎ (is_long (packed_text packed) ≡ false)
    → IsTooLong folder files → ⊥
packs_not_long files folder taken packed are fits why =
    let same = one_packed files folder taken packed why.taken why.packed are why.are_packed in
    elim fits [
      | inl none ↦ why.some (sym same.0 ∙ none)
      | inr short ↦ let e : false ≡ true = sym short ∙ ap (λ (refs : List PackedRef). is_long (packed_text refs)) same.1 ∙ why.long in absurd (cc e)
    ]

-- nor is a ref bad, where loose refs are taken
pub packs_not_bad : (files : Files) (folder at : List ℕ) (taken packed : List PackedRef) → packed_reads files folder ≡ true → ArePacked files folder taken packed
    → IsBadAt folder files at → ⊥
packs_not_bad files folder at taken packed reads are (inl (is, unread)) = let e : true ≡ false = sym reads ∙ unread in absurd (cc e)
packs_not_bad files folder at taken packed reads are (inr (name, is, _, first)) = are.are_loose.none_bad name first.is_bad

one_first : (files : Files) (folder one two : List ℕ) → IsFirstBad files folder one → IsFirstBad files folder two → one ≡ two
one_first files folder one two here there = by (slice_cmp nat_cmp one two) refl
  where
    by : (o : Ordering) → slice_cmp nat_cmp one two ≡ o → one ≡ two
    by Less is = absurd (there.none_before one here.is_bad is)
    by Equal is = exact_bytes one two is
    by Greater is = let turned = nat_list_cmp_total.antisymm two one in absurd (here.none_before two there.is_bad (cc (is, turned)))

-- one path is that of the first bad ref
pub one_bad : (files : Files) (folder one two : List ℕ) → IsBadAt folder files one → IsBadAt folder files two → one ≡ two
one_bad files folder one two (inl (is, _)) (inl (also, _)) = is ∙ sym also
one_bad files folder one two (inl (is, unread)) (inr (name, also, reads, first)) = let e : true ≡ false = sym reads ∙ unread in absurd (cc e)
one_bad files folder one two (inr (name, is, reads, first)) (inl (also, unread)) = let e : true ≡ false = sym reads ∙ unread in absurd (cc e)
one_bad files folder one two (inr (name, is, _, first)) (inr (other, also, _, here)) = is ∙ ap (joined folder) (one_first files folder name other first here) ∙ sym also

-- and where a ref is bad, that is the refusal
pub bad_not_long : (files : Files) (folder at : List ℕ) → IsBadAt folder files at → IsTooLong folder files → ⊥
bad_not_long files folder at bad why = packs_not_bad files folder at why.taken why.packed why.reads why.are_packed bad
