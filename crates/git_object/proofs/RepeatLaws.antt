-- Lists of items: what is taken, what is taken again, and the loop that reads them.
use Rattle.std.proofs.lemmas.Option.{same_Some}
use Rattle.std.proofs.Common.{◌≡◌, ℕ, zero, suc, ◌+◌, ◌<◌, ◌≤◌, List, [], ◌∷◌, ◌++◌, length, Option, Some, None, refl, sym, ap, subst, ◌∙◌, append_assoc, arith, get_or, take, add-one}
use Rattle.std.specs.List.{flat_map, AllByRecursion}
use Rattle.std.proofs.lemmas.List.Concat.{flat_map-cons}
use Rattle.std.proofs.lemmas.List.Elements.{All-push, All-from_recursion, recursion_from_All}
use Rattle.std.proofs.lemmas.Grind.{flat_map-append}
use Rattle.std.proofs.Math.Seq.{take-suc}
use Rattle.std.proofs.lemmas.List.{append-nil, length-append}
use Rattle.git_object.specs.Reading.{◌>>=◌, item_then, many_at, all_at}
use Rattle.git_object.proofs.CutLaws.{bind_some}

-- a step of the list: how an item and an end are spelled
pub record Steps {X : Type 0} (step : List ℕ → Option (Option X × List ℕ)) (text : X → List ℕ) (Fits : X → Type 0) (Ends : List ℕ → List ℕ → Type 0) : Type 0 where
  pub item_takes : (bytes : List ℕ) (x : X) (rest : List ℕ) → step bytes ≡ Some (Some x, rest) → Fits x × (bytes ≡ text x ++ rest)
  pub item_again : (x : X) (rest : List ℕ) → Fits x → step (text x ++ rest) ≡ Some (Some x, rest)
  pub end_takes : (bytes rest : List ℕ) → step bytes ≡ Some (None, rest) → Ends bytes rest
  pub end_again : (bytes rest : List ℕ) → Ends bytes rest → step bytes ≡ Some (None, rest)

-- the items, and then the end
pub record Lists {X : Type 0} (text : X → List ℕ) (Fits : X → Type 0) (Ends : List ℕ → List ℕ → Type 0) (bytes : List ℕ) (y : List X × List ℕ) : Type 0 where
  pub each : AllByRecursion Fits y.0
  pub last : List ℕ
  pub ends : Ends last y.1
  pub whole : bytes ≡ flat_map text y.0 ++ last

taken : {X : Type 0} (step : List ℕ → Option (Option X × List ℕ)) (text : X → List ℕ) (Fits : X → Type 0) (Ends : List ℕ → List ℕ → Type 0) (steps : Steps step text Fits Ends) (bytes : List ℕ) (go : List ℕ → Option (List X × List ℕ))
    → ((rest : List ℕ) (z : List X × List ℕ) → go rest ≡ Some z → Lists text Fits Ends rest z)
    → (o : Option X) (rest : List ℕ) (y : List X × List ℕ) → step bytes ≡ Some (o, rest) → item_then go o rest ≡ Some y → Lists text Fits Ends bytes y
taken step text Fits Ends steps bytes go others None rest y at then =
    subst (λ w. Lists text Fits Ends bytes w) (same_Some ([], rest) y then) (record { each = tt; last = bytes; ends = steps.end_takes bytes rest at; whole = refl })
taken {X = X} step text Fits Ends steps bytes go others (Some x) rest y at then =
    let b = bind_some (go rest) (λ others. Some (x ∷ others.0, others.1)) y then in
    let inner = others rest b.0 b.1 in
    let one = steps.item_takes bytes x rest at in
    let whole : bytes ≡ flat_map text (x ∷ b.0.0) ++ inner.last = one.1 ∙ ap (λ (r : List ℕ). text x ++ r) inner.whole ∙ sym (append_assoc (text x) (flat_map text b.0.0) inner.last) ∙ ap (λ (r : List ℕ). r ++ inner.last) (sym (flat_map-cons text x b.0.0)) in
    subst (λ w. Lists text Fits Ends bytes w) (same_Some (x ∷ b.0.0, b.0.1) y b.2) (record { each = (one.0, inner.each); last = inner.last; ends = inner.ends; whole = whole })

-- what many steps read is the texts of the items one behind the other
pub many_takes : {X : Type 0} (step : List ℕ → Option (Option X × List ℕ)) (text : X → List ℕ) (Fits : X → Type 0) (Ends : List ℕ → List ℕ → Type 0) (steps : Steps step text Fits Ends) (k : ℕ) (bytes : List ℕ) (y : List X × List ℕ)
    → many_at step k bytes ≡ Some y → Lists text Fits Ends bytes y
unfolding many_at
many_takes step text Fits Ends steps zero bytes y e = absurd cc
many_takes step text Fits Ends steps (suc k) bytes y e =
    let s = bind_some (step bytes) (λ s. item_then (many_at step k) s.0 s.1) y e in
    taken step text Fits Ends steps bytes (many_at step k) (λ rest z h. many_takes step text Fits Ends steps k rest z h) s.0.0 s.0.1 y s.1 s.2

many_again : {X : Type 0} (step : List ℕ → Option (Option X × List ℕ)) (text : X → List ℕ) (Fits : X → Type 0) (Ends : List ℕ → List ℕ → Type 0) (steps : Steps step text Fits Ends) (k : ℕ) (xs : List X) (last rest : List ℕ)
    → length xs < k → AllByRecursion Fits xs → Ends last rest → many_at step k (flat_map text xs ++ last) ≡ Some (xs, rest)
unfolding many_at
many_again step text Fits Ends steps zero xs last rest lt fits ends = absurd (omega arith)
many_again step text Fits Ends steps (suc k) [] last rest lt fits ends = rw (steps.end_again last rest ends) refl
many_again step text Fits Ends steps (suc k) (x ∷ xs) last rest lt fits ends =
    let regrouped : flat_map text (x ∷ xs) ++ last ≡ text x ++ (flat_map text xs ++ last) = ap (λ (r : List ℕ). r ++ last) (flat_map-cons text x xs) ∙ append_assoc (text x) (flat_map text xs) last in
    let others = many_again step text Fits Ends steps k xs last rest (omega arith) fits.1 ends in
    ap (many_at step (suc k)) regrouped ∙ rw (steps.item_again x (flat_map text xs ++ last) fits.0, others) refl

-- an item takes at least one byte
pub record TakesSome {X : Type 0} (step : List ℕ → Option (Option X × List ℕ)) : Type 0 where
  pub less : (bytes : List ℕ) (x : X) (rest : List ℕ) → step bytes ≡ Some (Some x, rest) → length rest < length bytes

-- a step takes a byte at least where each text has one
pub takes_some : {X : Type 0} (step : List ℕ → Option (Option X × List ℕ)) (text : X → List ℕ) (Fits : X → Type 0) (Ends : List ℕ → List ℕ → Type 0) → Steps step text Fits Ends → ((x : X) → 0 < length (text x)) → TakesSome step
takes_some step text Fits Ends steps some = record {
  less = λ bytes x rest e.
      let t = steps.item_takes bytes x rest e in
      let has = some x in
      omega (arith, ap length t.1, length-append (text x) rest);
}

-- ---- the loop

abbrev with_front : {X : Type 0} → List X → Option (List X × List ℕ) → Option (List X × List ℕ)
with_front front None = None
with_front front (Some r) = Some (front ++ r.0, r.1)

-- what was read so far and what is still read are all
abbrev pub SoFar : {X : Type 0} → (List ℕ → Option (Option X × List ℕ)) → List X → List ℕ → Option (List X × List ℕ) → Type 0
SoFar step front rest all = (k : ℕ) × (length rest < k) × (with_front front (many_at step k rest) ≡ all)

regroup : {X : Type 0} (front : List X) (x : X) (o : Option (List X × List ℕ)) → with_front front (o >>= λ others. Some (x ∷ others.0, others.1)) ≡ with_front (front ++ x ∷ []) o
regroup front x None = refl
regroup {X = X} front x (Some r) = ap (λ (v : List X). Some (v, r.1)) (simp append_assoc)

-- one item more
pub so_far_next : {X : Type 0} (step : List ℕ → Option (Option X × List ℕ)) (takes : TakesSome step) (front : List X) (rest : List ℕ) (all : Option (List X × List ℕ)) (x : X) (next : List ℕ)
    → step rest ≡ Some (Some x, next) → SoFar step front rest all → SoFar step (front ++ x ∷ []) next all
unfolding many_at
so_far_next {X = X} step takes front rest all x next at (zero, lt, e) = absurd (omega arith)
so_far_next {X = X} step takes front rest all x next at (suc k, lt, e) =
    let less = takes.less rest x next at in
    (k, omega arith, sym (regroup front x (many_at step k next)) ∙ one ∙ e)
  where
    one : with_front front (many_at step k next >>= λ others. Some (x ∷ others.0, others.1)) ≡ with_front front (many_at step (suc k) rest)
    one = rw at refl

-- the end of the items
pub so_far_end : {X : Type 0} (step : List ℕ → Option (Option X × List ℕ)) (front : List X) (rest : List ℕ) (all : Option (List X × List ℕ)) (next : List ℕ)
    → step rest ≡ Some (None, next) → SoFar step front rest all → Some (front, next) ≡ all
unfolding many_at
so_far_end step front rest all next at (zero, lt, e) = absurd (omega arith)
so_far_end {X = X} step front rest all next at (suc k, lt, e) =
    let one : with_front front (many_at step (suc k) rest) ≡ Some (front, next) = rw at (ap (λ (v : List X). Some (v, next)) (append-nil front)) in
    sym one ∙ e

-- an item that fails, and so all do
pub so_far_fails : {X : Type 0} (step : List ℕ → Option (Option X × List ℕ)) (front : List X) (rest : List ℕ) (all : Option (List X × List ℕ))
    → step rest ≡ None → SoFar step front rest all → None ≡ all
unfolding many_at
so_far_fails step front rest all at (zero, lt, e) = absurd (omega arith)
so_far_fails step front rest all at (suc k, lt, e) =
    let one : with_front front (many_at step (suc k) rest) ≡ None = rw at refl in
    sym one ∙ e

short : {X : Type 0} (text : X → List ℕ) → ((x : X) → 0 < length (text x)) → (xs : List X) → length xs ≤ length (flat_map text xs)
short text some [] = omega arith
short text some (x ∷ xs) =
    let has = some x in
    let others = short text some xs in
    let whole : length (flat_map text (x ∷ xs)) ≡ length (text x) + length (flat_map text xs) = ap length (flat_map-cons text x xs) ∙ length-append (text x) (flat_map text xs) in
    omega arith

-- the texts of items one behind the other read again
pub all_again : {X : Type 0} (step : List ℕ → Option (Option X × List ℕ)) (text : X → List ℕ) (Fits : X → Type 0) (Ends : List ℕ → List ℕ → Type 0) (steps : Steps step text Fits Ends) → ((x : X) → 0 < length (text x))
    → (xs : List X) (last rest : List ℕ) → AllByRecursion Fits xs → Ends last rest → all_at step (flat_map text xs ++ last) ≡ Some (xs, rest)
all_again step text Fits Ends steps some xs last rest fits ends =
    let few = short text some xs in
    many_again step text Fits Ends steps (suc (length (flat_map text xs ++ last))) xs last rest (omega (arith, length-append (flat_map text xs) last)) fits ends

-- ---- what is appended, item after item

-- one more text behind the others
pub texts_more : {X : Type 0} (text : X → List ℕ) (old so_far new : List ℕ) (xs more : List X) (x : X) → more ≡ xs ++ x ∷ [] → so_far ≡ old ++ flat_map text xs → new ≡ so_far ++ text x → new ≡ old ++ flat_map text more
texts_more text old so_far new xs more x is before after =
    let pushed : flat_map text more ≡ flat_map text xs ++ text x = ap (flat_map text) is ∙ flat_map-append text xs (x ∷ []) ∙ ap (λ (t : List ℕ). flat_map text xs ++ t) (flat_map-cons text x [] ∙ append-nil (text x)) in
    after ∙ ap (λ (t : List ℕ). t ++ text x) before ∙ append_assoc old (flat_map text xs) (text x) ∙ ap (λ (t : List ℕ). old ++ t) (sym pushed)

-- what holds of each holds of one more
pub each_more : {X : Type 0} (Fits : X → Type 0) (xs more : List X) (x : X) → more ≡ xs ++ x ∷ [] → AllByRecursion Fits xs → Fits x → AllByRecursion Fits more
each_more Fits xs more x is each one = subst (λ l. AllByRecursion Fits l) (sym is) (recursion_from_All Fits (xs ++ x ∷ []) (All-push Fits xs x (All-from_recursion Fits xs each) one))

-- the first items, one more of them
pub one_more : {X : Type 0} (xs : List X) (i : ℕ) (d : X) → i < length xs → take (i + 1) xs ≡ take i xs ++ get_or xs i d ∷ []
one_more xs i d lt = rw add-one (take-suc xs i d lt)
