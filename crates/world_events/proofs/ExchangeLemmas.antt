-- Lists of pulls, one event more at a time.
use Rattle.std.proofs.Common.{◌≡◌, ℕ, ◌+◌, ◌-◌, ◌≤◌, List, [], ◌∷◌, ◌++◌, map, All, sym, subst, append_assoc, arith}
use Rattle.std.proofs.lemmas.List.Elements.{All-append, All-cons, All-nil}
use Rattle.std.proofs.lemmas.List.FromFn.{map-range_with_len_more}
use Rattle.std.specs.List.{range_with_len}
use Rattle.world_events.specs.Within.{IsWithin}
use Rattle.world_events.specs.declared.event.Event.{Event}

-- one event more, for the next number
pub one_more : (f : ℕ → Event) (before events after : List Event) (event : Event) (k : ℕ) → 1 ≤ k
    → events ≡ before ++ map f (range_with_len 1 (k - 1)) → event ≡ f k → after ≡ events ++ event ∷ []
    → after ≡ before ++ map f (range_with_len 1 (k + 1 - 1))
one_more f before events after event k some made is pushed =
    let more : map f (range_with_len 1 (k - 1 + 1)) ≡ map f (range_with_len 1 (k - 1)) ++ f k ∷ []
    = map-range_with_len_more f 1 (k - 1) k (omega arith) in
    let count : k + 1 - 1 ≡ k - 1 + 1 = omega arith in
    rw (pushed, made, is, count, more) (append_assoc before (map f (range_with_len 1 (k - 1))) (f k ∷ []))

-- and it is within, where those before it are
pub within_more : (folders : ℕ) (events after : List Event) (event : Event) → All (IsWithin folders) events → IsWithin folders event
    → after ≡ events ++ event ∷ [] → All (IsWithin folders) after
within_more folders events after event all is pushed =
    subst (All (IsWithin folders)) (sym pushed)
    (All-append (IsWithin folders) events (event ∷ []) all (All-cons (IsWithin folders) event [] is (All-nil (IsWithin folders))))
