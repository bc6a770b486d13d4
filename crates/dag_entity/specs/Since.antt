-- What an entity has since a known head: the commits above it, where steps by the single parent lead there.
use Rattle.std.specs.Prelude.{◌≡◌, ◌≢◌, ◌≤◌, ◌+◌, ◌*◌, ⊤, ℕ, List, [], ◌∷◌, length, Result, Ok, Err}
use Rattle.gb_text.specs.declared.id.Id.{Id}
use Rattle.gb_text.specs.declared.id.Name.{Name}
use Rattle.object_store.specs.Held.{Objects}
use Rattle.op_kind.specs.Meaning.{Meaning}
use Rattle.dag_entity.specs.Entities.{IsEntity}
use Rattle.dag_entity.specs.Faults.{EntityFaultHolds}
use Rattle.dag_entity.specs.Nodes.{IsNode}
use Rattle.dag_entity.specs.Stops.{Refused}
use Rattle.dag_entity.specs.declared.entity.Entity.{Entity}
use Rattle.dag_entity.specs.declared.entity.Placed.{Placed}
use Rattle.dag_entity.specs.declared.fault.EntityFault.{EntityFault}
use Rattle.dag_entity.specs.declared.fault.EntityFault.TheVariants.{AuthorUnknown}
use Rattle.dag_entity.specs.declared.since.Since.{Since}
use Rattle.dag_entity.specs.declared.since.Since.TheVariants as since

module _ {Op State Row : Type 0} (k : Meaning Op State Row) where
  -- from the head, steps from a commit to its only parent lead through these commits, each with its pack, to the known name; the lowest of them stands first
  abbrev pub IsChainTo : Objects → Name → Name → List (Placed Op) → Type 0
  IsChainTo objects head known [] = known ≡ head
  IsChainTo objects head known (low ∷ above) = IsChainTo objects head low.commit above × IsNode k objects (record { parents = known ∷ []; placed = low })

  -- no such steps lead there
  abbrev pub HasNoChainTo : Objects → Name → Name → Type 0
  HasNoChainTo objects head known = (packs : List (Placed Op)) → IsChainTo objects head known packs → ⊥

  -- nothing is wrong with the entity at the head, but perhaps that an author is unknown
  abbrev pub IsSoundAt : Objects → Id → Name → Type 0
  IsSoundAt objects id head = (f : EntityFault) → ((author : Id) → f ≢ AuthorUnknown author) → EntityFaultHolds k objects id (head ∷ []) [] f → ⊥

  -- The names are the same; or they differ, and these are the commits above the known one; or no steps lead there, and this is the entity at the head; or something is wrong with it.
  abbrev pub SinceAnswers : Objects → Id → Name → Name → List Id → Result (Since Op) EntityFault → Type 0
  SinceAnswers objects id head known authors (Ok since.Same) = head ≡ known
  SinceAnswers objects id head known authors (Ok (since.Chain packs)) = (1 ≤ length packs) × IsChainTo objects head known packs
  SinceAnswers objects id head known authors (Ok (since.Whole entity)) = HasNoChainTo objects head known × IsEntity k objects id (head ∷ []) authors entity
  SinceAnswers objects id head known authors (Err f) = Refused (EntityFaultHolds k objects id (head ∷ []) authors) f

  -- where such steps lead there, at most three objects were read for each commit above
  abbrev pub ReadsChain : Objects → Name → Name → ℕ → ℕ → Type 0
  ReadsChain objects head known before after = (packs : List (Placed Op)) → IsChainTo objects head known packs → after ≤ before + 3 * length packs

-- a fact of the packs that were read
abbrev pub IfPacks : {Op : Type 0} → Result (Since Op) EntityFault → (List (Placed Op) → Type 0) → Type 0
IfPacks (Ok since.Same) P = ⊤
IfPacks (Ok (since.Chain packs)) P = P packs
IfPacks (Ok (since.Whole entity)) P = P entity.packs
IfPacks (Err _) P = ⊤

-- the names were found to be the same, and nothing was read
pub record IsKnownSame {Op : Type 0} (result : Result (Since Op) EntityFault) (before after : ℕ) : Type 0 where
  pub same : result ≡ Ok since.Same
  pub reads : after ≡ before
