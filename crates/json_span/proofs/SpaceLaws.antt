-- White space at the ends of a text changes no part.
use Rattle.std.proofs.Common.{◌≡◌, ℕ, true, false, List, [], ◌∷◌, ◌++◌, Option, Some, None, refl, sym, ap, subst, ◌∙◌, append_assoc}
use Rattle.json_span.specs.Grammar.{Each, is_space, open_of, close_of, Piece, Splits}
use Rattle.json_span.specs.Parts.{members_of, elements_of}
use Rattle.json_span.specs.declared.state.Kind.{Kind}
use Rattle.json_span.specs.declared.state.Kind.TheVariants.{Array, Object}
use Rattle.json_span.proofs.CutLaws.{members_taken, members_found, elements_taken, elements_found}

-- ---- more white space

each_joined : (a b : List ℕ) → Each is_space a → Each is_space b → Each is_space (a ++ b)
each_joined [] b ea eb = eb
each_joined (x ∷ xs) b ea eb = (ea.0, each_joined xs b ea.1 eb)

spaced_grouped : (a front x last b : List ℕ) (o e : ℕ) → a ++ (((front ++ o ∷ x) ++ e ∷ last) ++ b) ≡ ((a ++ front) ++ o ∷ x) ++ e ∷ (last ++ b)
spaced_grouped a front x last b o e = simp append_assoc

spaced : (k : Kind) (a b text front : List ℕ) (pieces : List Piece) → Each is_space a → Each is_space b → Splits k text front pieces → Splits k (a ++ (text ++ b)) (a ++ front) pieces
spaced k a b text front pieces ea eb s = record { inner = s.inner; last = s.last ++ b; is_front = each_joined a front ea s.is_front; is_last = each_joined s.last b s.is_last eb; inside = s.inside; whole = ap (λ (x : List ℕ). a ++ (x ++ b)) s.whole ∙ spaced_grouped a front s.inner s.last b (open_of k) (close_of k) }

-- ---- less white space

cons_same : (a b : ℕ) (x y : List ℕ) → a ∷ x ≡ b ∷ y → (a ≡ b) × (x ≡ y)
cons_same a b x y e = (cc, cc)

open_clear : (k : Kind) → is_space (open_of k) ≡ false
open_clear Array = refl
open_clear Object = refl

close_clear : (k : Kind) → is_space (close_of k) ≡ false
close_clear Array = refl
close_clear Object = refl

clash : (b c : ℕ) → b ≡ c → is_space b ≡ true → is_space c ≡ false → ⊥
clash b c e blank clear = let both : true ≡ false = sym blank ∙ ap is_space e ∙ clear in absurd cc

-- white space before the bracket is white space of the text
front_less : (k : Kind) (a u front rest : List ℕ) → Each is_space a → Each is_space front → a ++ u ≡ front ++ open_of k ∷ rest → (less : List ℕ) × Each is_space less × (u ≡ less ++ open_of k ∷ rest)
front_less k [] u front rest ea ef e = (front, ef, e)
front_less k (c ∷ cs) u [] rest ea ef e = absurd (clash c (open_of k) (cons_same c (open_of k) (cs ++ u) rest e).0 ea.0 (open_clear k))
front_less k (c ∷ cs) u (f ∷ fs) rest ea ef e = front_less k cs u fs rest ea.1 ef.1 (cons_same c f (cs ++ u) (fs ++ open_of k ∷ rest) e).1

each_clash : (x last b : List ℕ) (e : ℕ) → Each is_space b → b ≡ x ++ e ∷ last → is_space e ≡ false → ⊥
each_clash [] last [] e eb same clear = absurd cc
each_clash [] last (c ∷ cs) e eb same clear = clash c e (cons_same c e cs last same).0 eb.0 clear
each_clash (y ∷ ys) last [] e eb same clear = absurd cc
each_clash (y ∷ ys) last (c ∷ cs) e eb same clear = each_clash ys last cs e eb.1 (cons_same c y cs (ys ++ e ∷ last) same).1 clear

-- white space behind the bracket is white space of the text
last_less : (x last text b : List ℕ) (e : ℕ) → Each is_space b → text ++ b ≡ x ++ e ∷ last → is_space e ≡ false → (less : List ℕ) × (last ≡ less ++ b) × (text ≡ x ++ e ∷ less)
last_less x last [] b e eb same clear = absurd (each_clash x last b e eb same clear)
last_less [] last (t ∷ ts) b e eb same clear = let c = cons_same t e (ts ++ b) last same in (ts, sym c.1, ap (λ (n : ℕ). n ∷ ts) c.0)
last_less (y ∷ ys) last (t ∷ ts) b e eb same clear =
    let c = cons_same t y (ts ++ b) (ys ++ e ∷ last) same in
    let l = last_less ys last ts b e eb c.1 clear in
    (l.0, l.1, ap (λ (n : ℕ). n ∷ ts) c.0 ∙ ap (λ (z : List ℕ). y ∷ z) l.2)

each_front : (a b : List ℕ) → Each is_space (a ++ b) → Each is_space a
each_front [] b each = tt
each_front (x ∷ xs) b each = (each.0, each_front xs b each.1)

less : (k : Kind) (a b text front : List ℕ) (pieces : List Piece) → Each is_space a → Each is_space b → Splits k (a ++ (text ++ b)) front pieces → (short : List ℕ) × Splits k text short pieces
less k a b text front pieces ea eb s =
    let f = front_less k a (text ++ b) front (s.inner ++ close_of k ∷ s.last) ea s.is_front (s.whole ∙ append_assoc front (open_of k ∷ s.inner) (close_of k ∷ s.last)) in
    let l = last_less (f.0 ++ open_of k ∷ s.inner) s.last text b (close_of k) eb (f.2 ∙ sym (append_assoc f.0 (open_of k ∷ s.inner) (close_of k ∷ s.last))) (close_clear k) in
    (f.0, record { inner = s.inner; last = l.0; is_front = f.1; is_last = each_front l.0 b (subst (Each is_space) l.1 s.is_last); inside = s.inside; whole = l.2 })

-- two answers that imply each other are the same
same_answer : {X : Type 0} (o q : Option X) → ((x : X) → o ≡ Some x → q ≡ Some x) → ((x : X) → q ≡ Some x → o ≡ Some x) → o ≡ q
same_answer (Some x) q f g = sym (f x refl)
same_answer None None f g = refl
same_answer None (Some x) f g = g x refl

-- White space at the ends of an object changes no member.
pub members_spaced : (a b text : List ℕ) → Each is_space a → Each is_space b → members_of (a ++ (text ++ b)) ≡ members_of text
members_spaced a b text ea eb = same_answer (members_of (a ++ (text ++ b))) (members_of text)
    (λ parts e. let h = members_found (a ++ (text ++ b)) parts e in let l = less Object a b text h.0 h.1 ea eb h.2 in members_taken text parts (l.0, h.1, l.1, h.3))
    (λ parts e. let h = members_found text parts e in members_taken (a ++ (text ++ b)) parts (a ++ h.0, h.1, spaced Object a b text h.0 h.1 ea eb h.2, h.3))

-- White space at the ends of an array changes no element.
pub elements_spaced : (a b text : List ℕ) → Each is_space a → Each is_space b → elements_of (a ++ (text ++ b)) ≡ elements_of text
elements_spaced a b text ea eb = same_answer (elements_of (a ++ (text ++ b))) (elements_of text)
    (λ parts e. let h = elements_found (a ++ (text ++ b)) parts e in let l = less Array a b text h.0 h.1 ea eb h.2 in elements_taken text parts (l.0, h.1, l.1, h.3))
    (λ parts e. let h = elements_found text parts e in elements_taken (a ++ (text ++ b)) parts (a ++ h.0, h.1, spaced Array a b text h.0 h.1 ea eb h.2, h.3))
