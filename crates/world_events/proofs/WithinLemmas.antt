-- Events that are all within, one less at a time.
use Rattle.std.proofs.Common.{ℕ, ◌+◌, ◌<◌, List, length, drop, get_or, All, sym, subst}
use Rattle.std.proofs.lemmas.List.{drop_more}
use Rattle.std.proofs.lemmas.List.Elements.{All-cons}
use Rattle.world_events.specs.Within.{IsWithin}
use Rattle.world_events.specs.declared.event.Event.{Event}

-- what is left is within, where the next event is and all after it are
pub within_from : (folders : ℕ) (events : List Event) (place : ℕ) (default : Event) → place < length events → IsWithin folders (get_or events place default)
    → All (IsWithin folders) (drop (place + 1) events) → All (IsWithin folders) (drop place events)
within_from folders events place default below is rest =
    subst (All (IsWithin folders)) (sym (drop_more events place default below))
    (All-cons (IsWithin folders) (get_or events place default) (drop (place + 1) events) is rest)
