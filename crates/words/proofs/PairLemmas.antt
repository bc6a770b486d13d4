-- When two folders overlap, and when they make a pair.
use Rattle.std.proofs.Common.{◌≡◌, ◌∙◌, refl, sym, ap, ap₂, ℕ, Bool, true, false, List, [], ◌∷◌, Some, None}
use Rattle.std.specs.Prelude.{◌&&◌, not, if◌then◌else◌}
use Rattle.std.specs.Str.{bytes_eq}
use Rattle.std.proofs.Math.Bool.{Bool-set}
use Rattle.std.proofs.lemmas.Bool.{and_parts}
use Rattle.gb_text.specs.Folder.{is_rooted}
use Rattle.gb_text.specs.Overlap.{Overlap, steps_of}
use Rattle.gb_text.proofs.OverlapLemmas.{Overlap-from_agree, agree as agree_in_pairs, agree-Overlap}
use Rattle.words.specs.Overlaps.{agree, overlaps}
use Rattle.words.specs.Pairs.{pair_by, pair_of}
use Rattle.words.specs.declared.pair.FolderPair.{FolderPair}

-- ---- the test

-- lists agree as far as both go by either definition
agree_is : (xs ys : List (List ℕ)) → agree xs ys ≡ agree_in_pairs xs ys
agree_is [] ys = refl
agree_is (x ∷ xs) [] = refl
agree_is (x ∷ xs) (y ∷ ys) = ap (λ b. bytes_eq x y && b) (agree_is xs ys)

-- both are so or neither is
same : (a b : Bool) → (if a then b else not b) ≡ true → a ≡ b
same true true both = refl
same true false both = absurd (cc both)
same false true both = absurd (cc both)
same false false both = refl

both : (a b : Bool) → a ≡ b → (if a then b else not b) ≡ true
both true true same = refl
both true false same = absurd (cc same)
both false true same = absurd (cc same)
both false false same = refl

pub Overlap-from_overlaps : (one two : List ℕ) → overlaps one two ≡ true → Overlap one two
Overlap-from_overlaps one two is =
    let parts = and_parts (if is_rooted one then is_rooted two else not (is_rooted two)) (agree (steps_of one) (steps_of two)) is in
    Overlap-from_agree one two (same (is_rooted one) (is_rooted two) parts.0) (sym (agree_is (steps_of one) (steps_of two)) ∙ parts.1)

pub overlaps-Overlap : (one two : List ℕ) → Overlap one two → overlaps one two ≡ true
overlaps-Overlap one two over =
    ap₂ (λ a b. a && b) (both (is_rooted one) (is_rooted two) over.same_root) (agree_is (steps_of one) (steps_of two) ∙ agree-Overlap one two over)

-- folders that fail the test do not overlap
pub apart_of : (one two : List ℕ) → overlaps one two ≡ false → Overlap one two → ⊥
apart_of one two is over = let bad : true ≡ false = sym (overlaps-Overlap one two over) ∙ is in cc bad

-- and the other way
pub apart_from : (one two : List ℕ) → (Overlap one two → ⊥) → overlaps one two ≡ false
apart_from one two apart = by (overlaps one two) refl
  where
    by : (is : Bool) → overlaps one two ≡ is → overlaps one two ≡ false
    by true is = absurd (apart (Overlap-from_overlaps one two is))
    by false is = is

-- ---- pairs

-- folders that overlap make none
pub no_pair : (own peer : List ℕ) → Overlap own peer → pair_of own peer ≡ None
no_pair own peer over = by (overlaps own peer) refl
  where
    by : (is : Bool) (g : overlaps own peer ≡ is) → pair_by own peer is g ≡ None
    by true g = refl
    by false g = absurd (apart_of own peer g over)

-- and only such folders
pub pairless : (own peer : List ℕ) → pair_of own peer ≡ None → Overlap own peer
pairless own peer none = by (overlaps own peer) refl none
  where
    by : (is : Bool) (g : overlaps own peer ≡ is) → pair_by own peer is g ≡ None → Overlap own peer
    by true g none = Overlap-from_overlaps own peer g
    by false g none = absurd (cc none)

-- folders that do not overlap make a pair
pub some_pair : (own peer : List ℕ) → (Overlap own peer → ⊥) → (pair : FolderPair) × (pair_of own peer ≡ Some pair)
some_pair own peer apart = by (overlaps own peer) refl
  where
    by : (is : Bool) (g : overlaps own peer ≡ is) → (pair : FolderPair) × (pair_by own peer is g ≡ Some pair)
    by true g = absurd (apart (Overlap-from_overlaps own peer g))
    by false g = (record { own = own; peer = peer; apart = g }, refl)

-- the pair has the two folders
pub of_folders : (own peer : List ℕ) (pair : FolderPair) → pair_of own peer ≡ Some pair → (pair.own ≡ own) × (pair.peer ≡ peer)
of_folders own peer pair is = by (overlaps own peer) refl is
  where
    by : (b : Bool) (g : overlaps own peer ≡ b) → pair_by own peer b g ≡ Some pair → (pair.own ≡ own) × (pair.peer ≡ peer)
    by true g is = absurd (cc is)
    by false g is = let same : record { own = own; peer = peer; apart = g } ≡ pair = cc is in (sym (ap (λ (p : FolderPair). p.own) same), sym (ap (λ (p : FolderPair). p.peer) same))

-- the folders of a pair make it again
pub the_pair : (pair : FolderPair) → pair_of pair.own pair.peer ≡ Some pair
the_pair pair = by (overlaps pair.own pair.peer) refl
  where
    by : (is : Bool) (g : overlaps pair.own pair.peer ≡ is) → pair_by pair.own pair.peer is g ≡ Some pair
    by true g = let bad : true ≡ false = sym g ∙ pair.apart in absurd (cc bad)
    by false g = ap (λ a. Some (record { own = pair.own; peer = pair.peer; apart = a })) (Bool-set _ _ g pair.apart)
