-- Lines that tell of no refused copy.
use Rattle.std.specs.Prelude.{◌≡◌, List, Contains}
use Rattle.sync_steps.specs.declared.line.CopyCause.{CopyCause}
use Rattle.sync_steps.specs.declared.line.Line.{Line}
use Rattle.sync_steps.specs.declared.line.Outcome.TheVariants as outcome

-- no line says that the closure of a head was not copied
abbrev pub NoCopyRefused : List Line → Type 0
NoCopyRefused lines = (line : Line) (why : CopyCause) → Contains lines line → line.outcome ≡ outcome.DamagedCopy why → ⊥
