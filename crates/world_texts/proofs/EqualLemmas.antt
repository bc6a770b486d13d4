-- Digests that are all the same.
use Rattle.std.proofs.Common.{◌≡◌, ℕ, List, [], ◌∷◌, Contains, get_or, Bool, true, false, if◌then◌else◌, codes, refl, sym, ◌∙◌, ap, arith}
use Rattle.std.proofs.lemmas.List.Elements.{All-cons, All-contains, Contains-append_left, Contains-append_right, Contains-get_or, Contains-push}
use Rattle.std.proofs.lemmas.List.Sums.{AllPass-from_list_all, list_all-from_AllPass}
use Rattle.std.proofs.lemmas.Slice.Eq.{bytes_eq-Decides}
use Rattle.std.proofs.lemmas.Grind.{common_steps}
use Rattle.gb_text.specs.declared.id.Id.{Id}
use Rattle.world_texts.specs.Summary.{are_equal, each_has, has, verdict_of}
use Rattle.world_texts.specs.declared.tally.Digest.{Digest}

-- the hash that a digest has
has-is : (hash : Id) (digest : Digest) → has hash digest ≡ true → digest.hash ≡ hash
has-is hash digest e =
    let same : digest.hash.bytes ≡ hash.bytes = grind (arith, common_steps, bytes_eq-Decides digest.hash.bytes hash.bytes) in
    let id_with : List ℕ → Id = λ bytes. record { bytes = bytes } in
    ap id_with same

is-has : (hash : Id) (digest : Digest) → digest.hash ≡ hash → has hash digest ≡ true
is-has hash digest e = rw e (grind (arith, common_steps, bytes_eq-Decides hash.bytes hash.bytes))

-- where all are the same, each has the hash of the first
has_first : (first : Digest) (others : List Digest) (one : Digest) → each_has first.hash others ≡ true
    → Contains (first ∷ others) one → one.hash ≡ first.hash
has_first first others one e contained =
    All-contains (λ (d : Digest). d.hash ≡ first.hash) (first ∷ others) one
    (All-cons (λ (d : Digest). d.hash ≡ first.hash) first others refl
    (λ k d h. has-is first.hash (get_or others k d) (AllPass-from_list_all (has first.hash) others e k d h)))
    contained

-- digests that are the same have the same hash
same_of_equal : (digests : List Digest) (one other : Digest) → are_equal digests ≡ true
    → Contains digests one → Contains digests other → one.hash ≡ other.hash
same_of_equal [] one other e one_of other_of = absurd (omega (arith, one_of.1))
same_of_equal (first ∷ others) one other e one_of other_of =
    has_first first others one e one_of ∙ sym (has_first first others other e other_of)

-- and those with the same hash are the same
pub equal_of_same : (digests : List Digest)
    → ((one other : Digest) → Contains digests one → Contains digests other → one.hash ≡ other.hash) → are_equal digests ≡ true
equal_of_same [] same = refl
equal_of_same (first ∷ others) same =
    list_all-from_AllPass (has first.hash) others
    (λ k d h. is-has first.hash (get_or others k d)
    (same (get_or others k d) first
    (Contains-append_right (first ∷ []) others (get_or others k d) (Contains-get_or others k d h))
    (Contains-append_left (first ∷ []) others first (Contains-push [] first))))

-- ---- the last line

-- it is `equal` only where all are
equal_only : (all : Bool) → (if all then codes "equal\n" else codes "differ\n") ≡ codes "equal\n" → all ≡ true
equal_only true e = refl
equal_only false e = absurd (cc (e))

pub same_of_told : (digests : List Digest) (one other : Digest) → verdict_of digests ≡ codes "equal\n"
    → Contains digests one → Contains digests other → one.hash ≡ other.hash
same_of_told digests one other e = same_of_equal digests one other (equal_only (are_equal digests) e)

pub told_of_same : (digests : List Digest)
    → ((one other : Digest) → Contains digests one → Contains digests other → one.hash ≡ other.hash) → verdict_of digests ≡ codes "equal\n"
told_of_same digests same = ap (λ (all : Bool). if all then codes "equal\n" else codes "differ\n") (equal_of_same digests same)
