-- The answers to writes that are made in order.
use Rattle.std.specs.Prelude.{◌≡◌, List, ◌∷◌, ◌++◌, reverse, Result, Ok, Err}
use Rattle.gb_store.specs.Files.{History}
use Rattle.gb_store.specs.Moments.{MaybeWrote, WroteSome}
use Rattle.gb_store.specs.declared.fault.StoreFault.{StoreFault}
use Rattle.gb_store.specs.declared.fault.StoreFault.TheVariants as fault
use Rattle.gb_store.specs.declared.store.Change.{Change}

-- the answer to one write, and whether it was made
abbrev pub WriteAnswers : Change → History → History → Result Unit StoreFault → Type 0
WriteAnswers change old new (Ok _) = new ≡ change ∷ old
WriteAnswers change old new (Err fault.Memory) = new ≡ old
WriteAnswers change old new (Err fault.Failed) = MaybeWrote change old new

-- the answer to several writes in this order, and which of them were made: all, or the first
abbrev pub WritesAnswers : List Change → History → History → Result Unit StoreFault → Type 0
WritesAnswers changes old new (Ok _) = new ≡ reverse changes ++ old
WritesAnswers changes old new (Err _) = WroteSome changes old new
