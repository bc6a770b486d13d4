-- A text is cut into its frame and its content at its first zero byte, whatever the content is.
use Rattle.std.proofs.lemmas.Option.{same_Some}
use Rattle.std.proofs.Common.{◌≡◌, ◌≢◌, ℕ, ◌<◌, zero, suc, ◌/◌, ◌%◌, Bool, true, false, cond, eqb, List, [], ◌∷◌, ◌++◌, length, Option, Some, None, refl, sym, ap, subst, ◌∙◌, append_assoc, arith}
use Rattle.std.specs.Prelude.{decimal}
use Rattle.std.specs.Fmt.{digits, digits_onto, digit_glyph}
use Rattle.std.specs.Option.{option_map, MatchOption}
use Rattle.std.specs.Str.{bytes_eq}
use Rattle.std.proofs.lemmas.Bool.Decides.{nat_tests}
use Rattle.std.proofs.lemmas.Slice.Eq.{bytes_eq-Decides}
use Rattle.std.proofs.lemmas.Option.{some_pair_parts}
use Rattle.git_object.specs.declared.frame.Kind.{Kind}
use Rattle.git_object.specs.declared.frame.Kind.TheVariants as kinds
use Rattle.git_object.specs.Grammar.{Lacks, kind_text, framed}
use Rattle.git_object.specs.Reading.{◌>>=◌, strip, cut_at, kind_at, frame_of}
use Rattle.git_object.proofs.CutLaws.{lacks_by_test, lacks_append, bind_some, same_eqb, strip_again, strip_takes, cut_takes, cut_again}

-- ---- sizes

front_same : (word a b : List ℕ) → bytes_eq (word ++ a) (word ++ b) ≡ bytes_eq a b
front_same [] a b = refl
front_same (x ∷ xs) a b = rw (same_eqb x) (front_same xs a b)

-- a front is that of its kind where the digits behind the word are those of the size
pub size_reads : (front word digits size : List ℕ) → Some digits ≡ strip word front → bytes_eq digits size ≡ bytes_eq front (word ++ size)
size_reads front word digits size e = sym (front_same word digits size) ∙ ap (λ (f : List ℕ). bytes_eq f (word ++ size)) (sym (strip_takes word front digits (sym e)))

not_equal : (b : Bool) (front word size : List ℕ) → bytes_eq front (word ++ size) ≡ b → None ≡ strip word front → false ≡ b
not_equal false front word size t e = refl
not_equal true front word size t e =
    let same : front ≡ word ++ size = (bytes_eq-Decides front (word ++ size)).0 t in
    let found : strip word front ≡ Some size = ap (strip word) same ∙ strip_again word size in
    absurd cc

-- a front that begins otherwise is not that of the kind
pub size_absent : (front word size : List ℕ) → None ≡ strip word front → false ≡ bytes_eq front (word ++ size)
size_absent front word size e = not_equal (bytes_eq front (word ++ size)) front word size refl e

-- ---- the front lacks a zero byte

glyph_lacks : (b d : ℕ) → b < 48 → digit_glyph false d ≢ b
glyph_lacks b d low = λ e. grind (arith, nat_tests)

either_lacks : (b : ℕ) (t : Bool) (xs ys : List ℕ) → Lacks b xs → Lacks b ys → Lacks b (cond t xs ys)
either_lacks b true xs ys p q = p
either_lacks b false xs ys p q = q

onto_lacks : (b k n : ℕ) (acc : List ℕ) → b < 48 → Lacks b acc → Lacks b (digits_onto k 10 false n acc)
onto_lacks b zero n acc low lacks = lacks
onto_lacks b (suc k) n acc low lacks =
    let more : Lacks b (digit_glyph false (n % 10) ∷ acc) = (glyph_lacks b (n % 10) low, lacks) in
    either_lacks b (eqb (n / 10) 0) (digit_glyph false (n % 10) ∷ acc) (digits_onto k 10 false (n / 10) (digit_glyph false (n % 10) ∷ acc)) more (onto_lacks b k (n / 10) (digit_glyph false (n % 10) ∷ acc) low more)

-- a decimal has digits alone
pub decimal_lacks : (b n : ℕ) → b < 48 → Lacks b (decimal n)
unfolding digits
decimal_lacks b n low = onto_lacks b 64 n [] low tt

-- what stands before the zero byte: the kind, a space and the size
abbrev pub front_of : Kind → ℕ → List ℕ
front_of k n = kind_text k ++ 32 ∷ decimal n

kind_lacks : (k : Kind) → Lacks 0 (kind_text k ++ 32 ∷ [])
kind_lacks kinds.Blob = lacks_by_test 0 (kind_text kinds.Blob ++ 32 ∷ []) refl
kind_lacks kinds.Tree = lacks_by_test 0 (kind_text kinds.Tree ++ 32 ∷ []) refl
kind_lacks kinds.Commit = lacks_by_test 0 (kind_text kinds.Commit ++ 32 ∷ []) refl

front_lacks : (k : Kind) (n : ℕ) → Lacks 0 (front_of k n)
front_lacks k n = subst (λ (t : List ℕ). Lacks 0 t) (append_assoc (kind_text k) (32 ∷ []) (decimal n)) (lacks_append 0 (kind_text k ++ 32 ∷ []) (decimal n) (kind_lacks k) (decimal_lacks 0 n (omega arith)))

-- ---- kinds

same_decimal : (n : ℕ) → bytes_eq (decimal n) (decimal n) ≡ true
same_decimal n = (bytes_eq-Decides (decimal n) (decimal n)).1 refl

kind_again : (k : Kind) (n : ℕ) → kind_at (front_of k n) n ≡ Some k
kind_again kinds.Blob n = rw (same_decimal n) refl
kind_again kinds.Tree n = rw (same_decimal n) refl
kind_again kinds.Commit n = rw (same_decimal n) refl

pick : (front : List ℕ) (n : ℕ) (k j : Kind) (o : Option Kind) → (o ≡ Some j → front ≡ front_of j n) → (b : Bool) → bytes_eq front (front_of k n) ≡ b → cond b (Some k) o ≡ Some j → front ≡ front_of j n
pick front n k j o others true t e = (bytes_eq-Decides front (front_of k n)).0 t ∙ ap (λ (i : Kind). front_of i n) (same_Some k j e)
pick front n k j o others false t e = others e

kind_takes : (front : List ℕ) (n : ℕ) (k : Kind) → kind_at front n ≡ Some k → front ≡ front_of k n
kind_takes front n k e =
    pick front n kinds.Blob k _ (λ e. pick front n kinds.Tree k _ (λ e. pick front n kinds.Commit k None (λ e. absurd cc) (bytes_eq front (front_of kinds.Commit n)) refl e) (bytes_eq front (front_of kinds.Tree n)) refl e) (bytes_eq front (front_of kinds.Blob n)) refl e

-- what reads as a frame is the framed content
pub frame_takes : (text : List ℕ) (k : Kind) (content : List ℕ) → frame_of text ≡ Some (k, content) → text ≡ framed k content
unfolding frame_of
frame_takes text k content e =
    let p = bind_some (cut_at 0 text) (λ parts. kind_at parts.0 (length parts.1) >>= λ kind. Some (kind, parts.1)) (k, content) e in
    let g = bind_some (kind_at p.0.0 (length p.0.1)) (λ kind. Some (kind, p.0.1)) (k, content) p.2 in
    let same = some_pair_parts g.0 k p.0.1 content g.2 in
    let cuts = cut_takes 0 text p.0 p.1 in
    let front = kind_takes p.0.0 (length p.0.1) g.0 g.1 in
    cuts.parts ∙ ap (λ (f : List ℕ). f ++ 0 ∷ p.0.1) front ∙ ap (λ (j : Kind). framed j p.0.1) same.0 ∙ ap (λ (r : List ℕ). framed k r) same.1

-- framed content reads again
pub frame_again : (k : Kind) (content : List ℕ) → frame_of (framed k content) ≡ Some (k, content)
unfolding frame_of
frame_again k content = rw (cut_again 0 (front_of k (length content)) content (front_lacks k (length content)), kind_again k (length content)) refl

-- framed content reads as itself alone
pub frame_only : (text : List ℕ) (k : Kind) (content : List ℕ) → text ≡ framed k content → frame_of text ≡ Some (k, content)
frame_only text k content e = ap frame_of e ∙ frame_again k content

-- a reader of frames finds this kind and content
pub frame_reads_only : {F : Type 0} (kind : F → Kind) (content : F → List ℕ) (r : Option F) (text : List ℕ) (k : Kind) (rest : List ℕ) → option_map (λ f. (kind f, content f)) r ≡ frame_of text → text ≡ framed k rest
    → MatchOption r ⊥ (λ f. (kind f ≡ k) × (content f ≡ rest))
frame_reads_only kind content None text k rest e is = (let at = frame_only text k rest is in absurd cc)
frame_reads_only kind content (Some f) text k rest e is = some_pair_parts (kind f) k (content f) rest (e ∙ frame_only text k rest is)

-- a text frames one content of one kind
pub one_frame : (k j : Kind) (content other : List ℕ) → framed k content ≡ framed j other → (k ≡ j) × (content ≡ other)
one_frame k j content other e = some_pair_parts k j content other (sym (frame_again k content) ∙ frame_only (framed k content) j other e)
