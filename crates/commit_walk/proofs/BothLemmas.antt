-- The walk below two heads, from what was found below them.
use Rattle.std.proofs.Common.{◌≡◌, inl, inr, ◌<◌, ◌∷◌, [], ℕ, length, Contains, None, Err, sym, ◌∙◌, ap, arith}
use Rattle.std.proofs.lemmas.List.{length-map}
use Rattle.std.proofs.lemmas.List.Elements.{Contains-append_left}
use Rattle.gb_text.specs.declared.id.Name.{Name}
use Rattle.object_store.specs.Held.{Objects}
use Rattle.object_store.specs.Typed.{commit_at}
use Rattle.commit_walk.specs.Answers.{ReadsBelow}
use Rattle.commit_walk.specs.Below.{AreTooMany, IsBelow, head, names_of}
use Rattle.commit_walk.specs.Both.{BothAnswers}
use Rattle.commit_walk.specs.Distinct.{AreDistinct}
use Rattle.commit_walk.specs.Reaches.{IsReach, IsSoughtIn, Reached, WholeAnswers, known}
use Rattle.commit_walk.specs.Searches.{ReadsUntil}
use Rattle.commit_walk.specs.declared.below.Met.{Met}
use Rattle.commit_walk.specs.declared.fault.WalkFault.TheVariants as fault
use Rattle.commit_walk.specs.declared.fault.WalkStop.{WalkStop}
use Rattle.commit_walk.specs.declared.fault.WalkStop.TheVariants as stop
use Rattle.commit_walk.specs.declared.reach.Reach.{Reach}
use Rattle.commit_walk.proofs.BelowLemmas.{below_below}
use Rattle.commit_walk.proofs.FrontierLemmas.{met_of}
use Rattle.commit_walk.proofs.ReachLemmas.{are_below, known_below}
use Rattle.commit_walk.proofs.SearchLemmas.{way_below}

module _ (objects : Objects) (first second : Name) (reach : Reach) (apart : IsBelow objects (first ∷ []) second → ⊥) (once : AreDistinct (known reach))
    (is : IsReach (first ∷ second ∷ []) reach (length (known reach))) (r : Reached objects (first ∷ second ∷ []) reach (length (known reach))) where
  too_many : reach.wrong ≡ None → 65536 < length reach.walk.items → AreTooMany objects (first ∷ second ∷ [])
  too_many none many =
      let whole = are_below objects (first ∷ second ∷ []) reach r once is none in
      record {
        names = names_of reach.walk.items;
        once = whole.once;
        many = omega (arith, many, length-map reach.walk.items (λ (m : Met). m.name));
        each = λ name c.
            let found = met_of reach.walk.items name c in
            let commit = whole.each found.0 found.1 in
            record { below = whole.only name c; commit = commit.commit; held = ap (commit_at objects) (sym found.2) ∙ commit.held };
      }

  pub whole_refused : (s : WalkStop) → WholeAnswers reach (Err s) → BothAnswers objects first second (Err s)
  whole_refused stop.Memory h = tt
  whole_refused stop.Disk h = tt
  whole_refused (stop.Fault (fault.Missing name)) h = (apart, r.wrong (fault.Missing name) h)
  whole_refused (stop.Fault (fault.Damaged name)) h = (apart, r.wrong (fault.Damaged name) h)
  whole_refused (stop.Fault (fault.Large name)) h = (apart, r.wrong (fault.Large name) h)
  whole_refused (stop.Fault (fault.NotCommit name)) h = (apart, r.wrong (fault.NotCommit name) h)
  whole_refused (stop.Fault fault.TooMany) (inl h) = (apart, r.wrong fault.TooMany h)
  whole_refused (stop.Fault fault.TooMany) (inr h) = (apart, too_many h.0 h.1)

-- a search finds what lies below
pub found_where_below : (objects : Objects) (top name : Name) (reach : Reach) → IsSoughtIn objects top name reach → (Contains (known reach) name → ⊥) → IsBelow objects (top ∷ []) name → ⊥
found_where_below objects top name reach found apart b = apart (known_below objects (top ∷ []) reach (found.all apart) name b)

-- the second head is followed after the first
module _ (objects : Objects) (first second : Name) (before after : ℕ) where
  -- what was read of the first alone lies below both
  pub reads_first : ReadsUntil objects first second before after → ReadsBelow objects (first ∷ second ∷ []) before after
  reads_first r = record {
    names = r.names;
    once = r.once;
    each = λ name c. below_below objects (first ∷ second ∷ []) (first ∷ []) name (λ n h. head (Contains-append_left (first ∷ []) (second ∷ []) n h)) (way_below objects first second (r.each name c));
    few = r.few;
  }
