-- What the lines of a merge say of the bugs of a folder.
use Rattle.std.specs.Prelude.{◌≡◌, ℕ, false, Contains, List}
use Rattle.gb_store.specs.Files.{History}
use Rattle.dag_entity.specs.declared.fault.EntityFault.{EntityFault}
use Rattle.merge_steps.specs.LineJoins.{JoinedLine, RefusedLine}
use Rattle.merge_steps.specs.MergeLines.{is_refused}
use Rattle.merge_steps.specs.declared.line.MergeLine.{MergeLine}
use Rattle.merge_steps.specs.declared.line.MergeOutcome.TheVariants as outcome
use Rattle.remote_name.specs.declared.remote.RemoteName.{RemoteName}
use Rattle.sync_steps.specs.declared.line.EntityWord.TheVariants as word

-- each bug of which a line tells no refusal was joined in the merge between these two histories
abbrev pub JoinsEachBug : List ℕ → RemoteName → List MergeLine → History → History → Type 0
JoinsEachBug folder remote lines old new =
    (line : MergeLine) → Contains lines line → line.word ≡ word.Bug → is_refused line.outcome ≡ false → JoinedLine folder remote line old new

-- each bug of which a line tells a fault had it then
abbrev pub RefusesByFault : List ℕ → RemoteName → List MergeLine → History → History → Type 0
RefusesByFault folder remote lines old new =
    (line : MergeLine) (why : EntityFault) → Contains lines line → line.word ≡ word.Bug → line.outcome ≡ outcome.InvalidBug why
    → RefusedLine folder remote line why old new
