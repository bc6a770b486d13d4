-- The people of a folder: whom the last version of each local identity shows.
use Rattle.std.specs.Prelude.{⊤, ℕ, List, [], ◌∷◌}
use Rattle.gb_store.specs.Files.{Files}
use Rattle.object_store.specs.Held.{Objects, objects_in}
use Rattle.identity.specs.Persons.{Shows}
use Rattle.identity.specs.declared.chain.Person.{Person}
use Rattle.repo_state.specs.Sides.{AreHeads}
use Rattle.repo_state.specs.declared.side.HeadEntry.{HeadEntry}
use Rattle.repo_state.specs.declared.side.Side.TheVariants as side

-- each head shows the person at its place
abbrev pub AllShow : Objects → List HeadEntry → List Person → Type 0
AllShow objects [] [] = ⊤
AllShow objects (e ∷ es) (p ∷ ps) = Shows objects e.id e.name p × AllShow objects es ps
AllShow objects _ _ = ⊥

-- the people of the local identities, in the order of the ids' bytes
pub record ArePeople (files : Files) (folder : List ℕ) (people : List Person) : Type 0 where
  pub heads : List HeadEntry
  pub are_heads : AreHeads files folder side.Identities heads
  pub shown : AllShow (objects_in files folder) heads people
