-- The value under a name does not depend on the order in which members are put, and what is put stays in order.
use Rattle.std.proofs.Common.{◌≡◌, ◌∙◌, refl, sym, ap, subst, ℕ, Bool, true, false, ◌&&◌, not, List, [], ◌∷◌, ◌++◌}
use Rattle.std.specs.Prelude.{⊤, if◌then◌else◌}
use Rattle.std.specs.List.{AllByRecursion, list_all}
use Rattle.std.specs.Str.{bytes_eq}
use Rattle.std.specs.Cmp.{IsTotalOrder}
use Rattle.std.specs.Cmp.Lexicographic.{slice_cmp, nat_list_cmp_total}
use Rattle.std.specs.Ordering.{nat_cmp, match_ordering, is_eq}
use Rattle.std.specs.declared.cmp.Ordering.{Ordering}
use Rattle.std.specs.declared.cmp.Ordering.TheVariants.{Less, Equal, Greater}
use Rattle.std.proofs.lemmas.Bool.{and_parts}
use Rattle.std.proofs.lemmas.Cmp.{tied_itself}
use Rattle.std.proofs.lemmas.Map.Text.{is_eq-slice_cmp}
use Rattle.std.proofs.lemmas.Slice.Eq.{bytes_eq-Decides}
use Rattle.op_kind.specs.Members.{Fields, values_of}
use Rattle.op_kind.specs.NameOrder.{with_written, put_all, NamesAscend, is_apart, are_apart}
use Rattle.op_kind.specs.Written.{IsWritable, EachWritable}

-- ---- what stands under a name

same_of : (l x : List ℕ) → bytes_eq l x ≡ true → l ≡ x
same_of l x h = (bytes_eq-Decides l x).0 h

swapped : (one two : Bool) (a b : List ℕ) (rest : List (List ℕ)) → (one ≡ true → two ≡ true → ⊥)
    → (if one then a ∷ (if two then b ∷ rest else rest) else (if two then b ∷ rest else rest)) ≡ (if two then b ∷ (if one then a ∷ rest else rest) else (if one then a ∷ rest else rest))
swapped true true a b rest h = absurd (h refl refl)
swapped true false a b rest h = refl
swapped false true a b rest h = refl
swapped false false a b rest h = refl

not_less_itself : (x : List ℕ) → slice_cmp nat_cmp x x ≡ Less → ⊥
not_less_itself x h = let e = tied_itself nat_list_cmp_total x in cc (h, e)

-- What stands under a name once a member is put, which is what stands there with the member in front.
pub values_put : (name : List ℕ) (f : List ℕ × List ℕ) (fs : Fields) → values_of name (with_written f fs) ≡ values_of name (f ∷ fs)
values_put name f [] = refl
values_put name f (g ∷ gs) = by (slice_cmp nat_cmp g.0 f.0) refl (values_put name f gs)
  where
    by : (r : Ordering) → slice_cmp nat_cmp g.0 f.0 ≡ r → values_of name (with_written f gs) ≡ values_of name (f ∷ gs)
        → values_of name (match_ordering r (g ∷ with_written f gs) (f ∷ g ∷ gs) (f ∷ g ∷ gs)) ≡ values_of name (f ∷ g ∷ gs)
    by Less is later =
        ap (λ vs. if bytes_eq g.0 name then g.1 ∷ vs else vs) later
        ∙ swapped (bytes_eq g.0 name) (bytes_eq f.0 name) g.1 f.1 (values_of name gs)
        (λ one two. let same : g.0 ≡ f.0 = same_of g.0 name one ∙ sym (same_of f.0 name two) in not_less_itself f.0 (subst (λ n. slice_cmp nat_cmp n f.0 ≡ Less) same is))
    by Equal is later = refl
    by Greater is later = refl

-- the name is that of none of the members
abbrev pub NameIsNew : List ℕ → Fields → Type 0
NameIsNew name fs = AllByRecursion (λ f. bytes_eq f.0 name ≡ false) fs

under_other : (name : List ℕ) (f : List ℕ × List ℕ) (fs : Fields) → bytes_eq f.0 name ≡ false → values_of name (f ∷ fs) ≡ values_of name fs
under_other name f fs h = ap (λ b. if b then f.1 ∷ values_of name fs else values_of name fs) h

-- Members of other names leave what stands under a name.
pub values_put_all : (name : List ℕ) (fs gs : Fields) → NameIsNew name gs → values_of name (put_all fs gs) ≡ values_of name fs
values_put_all name fs [] new = refl
values_put_all name fs (g ∷ gs) new = values_put_all name (with_written g fs) gs new.1 ∙ values_put name g fs ∙ under_other name g fs new.0

-- ---- order

all_put : (P : List ℕ × List ℕ → Type 0) (f : List ℕ × List ℕ) (fs : Fields) → P f → AllByRecursion P fs → AllByRecursion P (with_written f fs)
all_put P f [] one all = (one, tt)
all_put P f (g ∷ gs) one all = by (slice_cmp nat_cmp g.0 f.0) (all_put P f gs one all.1)
  where
    by : (r : Ordering) → AllByRecursion P (with_written f gs) → AllByRecursion P (match_ordering r (g ∷ with_written f gs) (f ∷ g ∷ gs) (f ∷ g ∷ gs))
    by Less rest = (all.0, rest)
    by Equal rest = (one, all)
    by Greater rest = (one, all)

all_above : (f g : List ℕ × List ℕ) (gs : Fields) → slice_cmp nat_cmp f.0 g.0 ≡ Less → AllByRecursion (λ h. slice_cmp nat_cmp g.0 h.0 ≡ Less) gs → AllByRecursion (λ h. slice_cmp nat_cmp f.0 h.0 ≡ Less) gs
all_above f g [] less all = tt
all_above f g (h ∷ gs) less all = (nat_list_cmp_total.trans f.0 g.0 h.0 less all.0, all_above f g gs less all.1)

not_equal : (a b : List ℕ) → bytes_eq a b ≡ false → slice_cmp nat_cmp a b ≡ Equal → ⊥
not_equal a b other same = let e = is_eq-slice_cmp a b in let one = ap is_eq same in cc (other, e, one)

-- A member of a new name leaves the names ascending.
pub names_put : (f : List ℕ × List ℕ) (fs : Fields) → NameIsNew f.0 fs → NamesAscend fs → NamesAscend (with_written f fs)
names_put f [] new ascend = (tt, tt)
names_put f (g ∷ gs) new ascend = by (slice_cmp nat_cmp g.0 f.0) refl (names_put f gs new.1 ascend.1)
  where
    by : (r : Ordering) → slice_cmp nat_cmp g.0 f.0 ≡ r → NamesAscend (with_written f gs) → NamesAscend (match_ordering r (g ∷ with_written f gs) (f ∷ g ∷ gs) (f ∷ g ∷ gs))
    by Less is rest = (all_put (λ h. slice_cmp nat_cmp g.0 h.0 ≡ Less) f gs is ascend.0, rest)
    by Equal is rest = absurd (not_equal g.0 f.0 new.0 is)
    by Greater is rest = let less : slice_cmp nat_cmp f.0 g.0 ≡ Less = (let r = nat_list_cmp_total.antisymm f.0 g.0 in cc (is, r)) in ((less, all_above f g gs less ascend.0), ascend)

-- each member has a name that is new among those before it
abbrev pub AllNew : Fields → Fields → Type 0
AllNew fs [] = ⊤
AllNew fs (g ∷ gs) = NameIsNew g.0 fs × AllNew (with_written g fs) gs

-- Members of new names leave the names ascending.
pub names_put_all : (fs gs : Fields) → AllNew fs gs → NamesAscend fs → NamesAscend (put_all fs gs)
names_put_all fs [] new ascend = ascend
names_put_all fs (g ∷ gs) new ascend = names_put_all (with_written g fs) gs new.1 (names_put g fs new.0 ascend)

-- A name that is new stays so where a member of another name is put.
pub new_put : (name : List ℕ) (f : List ℕ × List ℕ) (fs : Fields) → bytes_eq f.0 name ≡ false → NameIsNew name fs → NameIsNew name (with_written f fs)
new_put name f fs other new = all_put (λ g. bytes_eq g.0 name ≡ false) f fs other new

-- Under a new name nothing stands.
pub new_is_absent : (name : List ℕ) (fs : Fields) → NameIsNew name fs → values_of name fs ≡ []
new_is_absent name [] new = refl
new_is_absent name (f ∷ fs) new = under_other name f fs new.0 ∙ new_is_absent name fs new.1

-- ---- what can be written

each_put : (depth : ℕ) (f : List ℕ × List ℕ) (fs : Fields) → IsWritable depth f → EachWritable depth fs → EachWritable depth (with_written f fs)
each_put depth f [] one each = (one, tt)
each_put depth f (g ∷ gs) one each = by (slice_cmp nat_cmp g.0 f.0) (each_put depth f gs one each.1)
  where
    by : (r : Ordering) → EachWritable depth (with_written f gs) → EachWritable depth (match_ordering r (g ∷ with_written f gs) (f ∷ g ∷ gs) (f ∷ g ∷ gs))
    by Less rest = (each.0, rest)
    by Equal rest = (one, each)
    by Greater rest = (one, each)

-- Writable members that are put among writable ones leave them so.
pub each_put_all : (depth : ℕ) (fs gs : Fields) → EachWritable depth fs → EachWritable depth gs → EachWritable depth (put_all fs gs)
each_put_all depth fs [] each more = each
each_put_all depth fs (g ∷ gs) each more = each_put_all depth (with_written g fs) gs (each_put depth g fs more.0 each) more.1
