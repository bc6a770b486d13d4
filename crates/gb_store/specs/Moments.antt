-- The writes of a call, and the moments between them.
use Rattle.std.specs.Prelude.{◌≡◌, ◌⊎◌, Bool, IsTrue, List, [], ◌∷◌, ◌++◌, length, drop, ◌-◌, ℕ, ⊤}
use Rattle.gb_store.specs.declared.store.Change.{Change}
use Rattle.gb_store.specs.Files.{History, Files, files_of}

-- the write was made, or nothing was
abbrev pub MaybeWrote : Change → History → History → Type 0
MaybeWrote change old new = (new ≡ old) ⊎ (new ≡ change ∷ old)

-- A rule of writes says which change may come, by the history at entry, the writes that the call has
-- made so far (newest first) and the change. This is the rule that sees the files at that moment
-- alone.
abbrev pub at_moment : (Files → Change → Type 0) → History → List Change → Change → Type 0
at_moment May old earlier change = May (files_of (earlier ++ old)) change

-- each of these writes is one that the rule allows behind those before it
abbrev pub EachWrite : (History → List Change → Change → Type 0) → History → List Change → Type 0
EachWrite Rule old [] = ⊤
EachWrite Rule old (change ∷ earlier) = EachWrite Rule old earlier × Rule old earlier change

-- the history grew by writes that the rule allows, each behind those before it, and did not change
-- otherwise
pub record WroteBy (Rule : History → List Change → Change → Type 0) (old new : History) : Type 0 where
  pub writes : List Change
  pub grew : new ≡ writes ++ old
  pub each : EachWrite Rule old writes

-- the same, where the store tells its content
pub record WroteByIf (tells : Bool) (Rule : History → List Change → Change → Type 0)
    (old new : History) : Type 0 where
  pub wrote : IsTrue tells → WroteBy Rule old new

-- the history grew by writes that are allowed by the files at their moment
abbrev pub Wrote : (Files → Change → Type 0) → History → History → Type 0
Wrote May old new = WroteBy (at_moment May) old new

-- the same, where the store tells its content
abbrev pub WroteIf : Bool → (Files → Change → Type 0) → History → History → Type 0
WroteIf tells May old new = WroteByIf tells (at_moment May) old new

-- what is allowed in a call that began later is allowed behind the writes before it
abbrev pub AllowsFromEarlier : (History → List Change → Change → Type 0) → Type 0
AllowsFromEarlier Rule =
    (old early late : List Change) (change : Change)
    → Rule (early ++ old) late change → Rule old (late ++ early) change

-- what is allowed behind some writes is allowed in a call that began after them
abbrev pub AllowsFromLater : (History → List Change → Change → Type 0) → Type 0
AllowsFromLater Rule =
    (old early late : List Change) (change : Change)
    → Rule old (late ++ early) change → Rule (early ++ old) late change

-- the first of these writes were made, in this order, and no other
abbrev pub WroteSome : List Change → History → History → Type 0
WroteSome [] old new = new ≡ old
WroteSome (change ∷ later) old new = (new ≡ old) ⊎ WroteSome later (change ∷ old) new

-- the first writes alone, as many as the count says; all of them where there are fewer
abbrev pub first_writes : ℕ → History → History
first_writes count history = drop (length history - count) history

-- a moment of a call: the first of its writes were made, and the later ones not
pub record IsMoment (old new moment : History) : Type 0 where
  pub later : List Change
  pub done : List Change
  pub before : moment ≡ done ++ old
  pub after : new ≡ later ++ moment

-- the history only grew, and this holds of the files at each moment, the first and the last too
pub record AllMoments (Good : Files → Type 0) (old new : History) : Type 0 where
  pub grew : IsMoment old new old
  pub each : (moment : History) → IsMoment old new moment → Good (files_of moment)
