-- The events that edit bugs, and their seeds.
use Rattle.std.specs.Prelude.{◌≢◌, ◌<◌, ⊤, ℕ, List, [], ◌∷◌, All}
use Rattle.operation_seeds.specs.Collisions.{Collide}
use Rattle.world_events.specs.Events.{seed_text}
use Rattle.world_events.specs.declared.act.Act.{Act}
use Rattle.world_events.specs.declared.act.Act.TheVariants.{UserNew, NewBug, Comment, Title, Edit, Close, Reopen, LabelAdd, LabelRm, Noop, PackRefs, Pull, Push}
use Rattle.world_events.specs.declared.event.Event.{Event}

-- a command begins a bug or edits one, and makes an operation for it
abbrev pub EditsABug : Act → Type 0
EditsABug UserNew = ⊥
EditsABug NewBug = ⊤
EditsABug (Comment pick) = ⊤
EditsABug (Title pick) = ⊤
EditsABug (Edit pick) = ⊤
EditsABug (Close pick) = ⊤
EditsABug (Reopen pick) = ⊤
EditsABug (LabelAdd pick label) = ⊤
EditsABug (LabelRm pick label) = ⊤
EditsABug (Noop pick) = ⊤
EditsABug (Pull peer) = ⊥
EditsABug (Push peer) = ⊥
EditsABug PackRefs = ⊥

-- another event, if it edits a bug, has another seed
abbrev pub HasOtherSeed : Event → Event → Type 0
HasOtherSeed event other = EditsABug other.act → other.seed ≢ event.seed

-- no event that edits a bug has the seed of a later one that does
abbrev pub HaveDistinctSeeds : List Event → Type 0
HaveDistinctSeeds [] = ⊤
HaveDistinctSeeds (event ∷ later) = (EditsABug event.act → All (HasOtherSeed event) later) × HaveDistinctSeeds later

-- none of these events edits a bug
abbrev pub EditNoBug : List Event → Type 0
EditNoBug events = All (λ (event : Event). EditsABug event.act → ⊥) events

-- no two of the texts from which a number makes the seeds of its first events, and that differ, have one SHA-256
abbrev pub SeedTextsDoNotCollide : ℕ → ℕ → Type 0
SeedTextsDoNotCollide number count =
    (one two : ℕ) → one < count → two < count → Collide (seed_text number one) (seed_text number two) → ⊥
