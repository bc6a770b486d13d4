-- The answer of the turn of one entity.
use Rattle.std.specs.Prelude.{ℕ, List, Option, Some, None, Result, Ok, Err}
use Rattle.gb_text.specs.declared.id.Name.{Name}
use Rattle.gb_store.specs.Files.{History}
use Rattle.repo_state.specs.declared.refs.EntityRef.{EntityRef}
use Rattle.repo_state.specs.declared.side.Side.{Side}
use Rattle.entity_merge.specs.declared.word.Merged.{Merged}
use Rattle.entity_merge.specs.declared.word.Merged.TheVariants as merged
use Rattle.merge_steps.specs.Merging.{BugStops, MergesBug, MergesPerson, PersonStops}
use Rattle.merge_steps.specs.declared.line.MergeOutcome.{MergeOutcome}
use Rattle.merge_steps.specs.declared.line.MergeOutcome.TheVariants as outcome
use Rattle.merge_steps.specs.declared.stop.TurnStop.{TurnStop}
use Rattle.repo_merge.specs.declared.maker.Maker.{Maker}

-- what came of an identity on a tracking side, or where the call ended
abbrev pub OnePerson : List ℕ → Side → EntityRef → History → History → Result MergeOutcome TurnStop → Type 0
OnePerson folder tracked entity old new (Ok outcome) = MergesPerson folder (record { entity = entity; outcome = outcome }) old new
OnePerson folder tracked entity old new (Err why) = PersonStops folder tracked why entity old new

-- what came of a bug there, or where the call ended
abbrev pub OneBug : List ℕ → Maker → Side → EntityRef → History → History → Result MergeOutcome TurnStop → Type 0
OneBug folder maker tracked entity old new (Ok outcome) = MergesBug folder maker.user maker.authors maker.time (record { entity = entity; outcome = outcome }) old new
OneBug folder maker tracked entity old new (Err why) = BugStops folder maker.user maker.authors maker.time tracked why entity old new

-- the head that a bug gets by a word; none where the local one stays
abbrev pub new_head : Merged → Option Name
new_head merged.Nothing = None
new_head (merged.New head) = Some head
new_head (merged.Forward head) = Some head
new_head (merged.Joined head) = Some head

-- what comes of a bug by a word
abbrev pub word_outcome : Merged → MergeOutcome
word_outcome merged.Nothing = outcome.Nothing
word_outcome (merged.New head) = outcome.New
word_outcome (merged.Forward head) = outcome.Forward
word_outcome (merged.Joined head) = outcome.Joined
