-- The lines of a text, from its first one on.
use Rattle.std.proofs.Common.{◌≡◌, ◌≢◌, ℕ, suc, ◌+◌, ◌-◌, ◌<◌, ◌≤◌, List, [], ◌∷◌, ◌++◌, length, get_or, take, drop, refl, sym, ◌∙◌, ap, append_assoc, add-one, drop-cons, arith}
use Rattle.std.specs.Prelude.{All}
use Rattle.std.proofs.lemmas.Bool.{ne_eqb}
use Rattle.std.proofs.lemmas.List.{append-nil, get_or-take, length-take, take-append-drop, take_rest}
use Rattle.std.proofs.lemmas.List.Elements.{All-from_get_or, All-head, All-tail}
use Rattle.packed_refs.specs.Lines.{HasNoLineFeed, lines_of, onto_first, text_of}

-- a line feed ends the first line
pub lines_of-cut : (line rest : List ℕ) → HasNoLineFeed line → lines_of (line ++ 10 ∷ rest) ≡ line ∷ lines_of rest
unfolding lines_of
lines_of-cut [] rest none = refl
lines_of-cut (x ∷ xs) rest none =
    rw (ne_eqb x 10 (All-head (λ byte. byte ≢ 10) x xs none)) (ap (onto_first x) (lines_of-cut xs rest (All-tail (λ byte. byte ≢ 10) x xs none)))

-- a text without a line feed is one line
pub lines_of-one : (line : List ℕ) → HasNoLineFeed line → line ≢ [] → lines_of line ≡ line ∷ []
unfolding lines_of
lines_of-one [] none some = absurd (some refl)
lines_of-one (x ∷ []) none some = rw (ne_eqb x 10 (All-head (λ byte. byte ≢ 10) x [] none)) refl
lines_of-one (x ∷ y ∷ ys) none some =
    rw (ne_eqb x 10 (All-head (λ byte. byte ≢ 10) x (y ∷ ys) none)) (ap (onto_first x) (lines_of-one (y ∷ ys) (All-tail (λ byte. byte ≢ 10) x (y ∷ ys) none) (λ e. cc)))

pub lines_of-nil : lines_of [] ≡ []
unfolding lines_of
lines_of-nil = refl

-- lines that are each ended stand before what follows
lines_of-more : (lines : List (List ℕ)) (rest : List ℕ) → All HasNoLineFeed lines → lines_of (text_of lines ++ rest) ≡ lines ++ lines_of rest
lines_of-more [] rest all = refl
lines_of-more (line ∷ lines) rest all =
    ap lines_of (append_assoc (line ++ 10 ∷ []) (text_of lines) rest ∙ append_assoc line (10 ∷ []) (text_of lines ++ rest))
    ∙ lines_of-cut line (text_of lines ++ rest) (All-head HasNoLineFeed line lines all)
    ∙ ap (λ (ls : List (List ℕ)). line ∷ ls) (lines_of-more lines rest (All-tail HasNoLineFeed line lines all))

-- lines that are each ended are those of their text
pub lines_of-text : (lines : List (List ℕ)) → All HasNoLineFeed lines → lines_of (text_of lines) ≡ lines
lines_of-text lines all =
    ap lines_of (sym (append-nil (text_of lines))) ∙ lines_of-more lines [] all
    ∙ ap (λ (ls : List (List ℕ)). lines ++ ls) lines_of-nil ∙ append-nil lines

-- and so they are where the last line is not ended
pub lines_of-last : (lines : List (List ℕ)) (last : List ℕ) → All HasNoLineFeed lines → HasNoLineFeed last → last ≢ [] → lines_of (text_of lines ++ last) ≡ lines ++ last ∷ []
lines_of-last lines last all none some = lines_of-more lines last all ∙ ap (λ (ls : List (List ℕ)). lines ++ ls) (lines_of-one last none some)

-- ---- a cut at an index

-- the bytes round an index
split_at_index : (text : List ℕ) (i x : ℕ) → i < length text → get_or text i 0 ≡ x → text ≡ take i text ++ x ∷ drop (i + 1) text
split_at_index text i x lt e =
    let rest : drop i text ≡ get_or text i 0 ∷ drop (suc i) text = drop-cons text i 0 lt in
    sym (take-append-drop i text) ∙ ap (λ (r : List ℕ). take i text ++ r) (rest ∙ ap (λ (v : ℕ). v ∷ drop (suc i) text) e ∙ ap (λ (k : ℕ). x ∷ drop k text) (sym (add-one i)))

-- no line feed before an index
none_before : (i : ℕ) (text : List ℕ) → i ≤ length text → ((k : ℕ) → k < i → get_or text k 0 ≡ 10 → ⊥) → HasNoLineFeed (take i text)
none_before i text le below = All-from_get_or (λ byte. byte ≢ 10) (take i text) 0
    (λ k lt. let within : k < i = omega (arith, length-take i text) in rw (get_or-take i text k 0 within) (below k within))

-- the first line ends at the first line feed
pub cut_here : (i : ℕ) (text : List ℕ) → i < length text → ((k : ℕ) → k < i → get_or text k 0 ≡ 10 → ⊥) → get_or text i 0 ≡ 10
    → lines_of text ≡ take i text ∷ lines_of (take (length text - (i + 1)) (drop (i + 1) text))
cut_here i text lt below here =
    ap lines_of (split_at_index text i 10 lt here) ∙ lines_of-cut (take i text) (drop (i + 1) text) (none_before i text (omega arith) below)
    ∙ ap (λ (rest : List ℕ). take i text ∷ lines_of rest) (sym (take_rest text (i + 1)))

-- without one the text is the line
pub cut_last : (i : ℕ) (text rest : List ℕ) → text ≢ [] → length text ≤ i → ((k : ℕ) → k < i → get_or text k 0 ≡ 10 → ⊥) → rest ≡ []
    → lines_of text ≡ text ∷ lines_of rest
cut_last i text rest some le below none =
    lines_of-one text (All-from_get_or (λ byte. byte ≢ 10) text 0 (λ k lt. below k (omega arith))) some
    ∙ ap (λ (ls : List (List ℕ)). text ∷ ls) (sym (ap lines_of none ∙ lines_of-nil))
