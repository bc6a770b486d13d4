-- The id of a chain is one.
use Rattle.std.proofs.Common.{subst}
use Rattle.gb_text.specs.Digits.{IsId}
use Rattle.gb_text.specs.declared.id.Id.{Id}
use Rattle.gb_text.specs.declared.id.Name.{Name}
use Rattle.object_store.specs.Held.{Objects}
use Rattle.identity.specs.Persons.{IsChain}
use Rattle.identity.proofs.IdLemmas.{IsId-version_id}

-- the id of a chain is 32 bytes
pub IsId-chain : (objects : Objects) (id : Id) (head : Name) → IsChain objects id head → IsId id
IsId-chain objects id head chain = subst IsId chain.is_id (IsId-version_id chain.text)
