-- When an exchange has nothing to carry.
use Rattle.std.specs.Prelude.{◌≡◌, ℕ, List}
use Rattle.gb_text.specs.Digits.{IsId}
use Rattle.gb_text.specs.declared.id.Id.{Id}
use Rattle.gb_text.specs.declared.id.Name.{Name}
use Rattle.gb_store.specs.Files.{Files}
use Rattle.ref_store.specs.Refs.{Head}
use Rattle.remote_name.specs.declared.remote.RemoteName.{RemoteName}
use Rattle.repo_state.specs.Sides.{head_at}
use Rattle.sync_steps.specs.Places.{local_side, tracking_side}
use Rattle.sync_steps.specs.declared.line.EntityWord.{EntityWord}

-- each head of the peer is the head of its tracking ref
abbrev pub NothingToFetch : List ℕ → List ℕ → RemoteName → Files → Type 0
NothingToFetch own peer remote files =
    (word : EntityWord) (id : Id) (head : Name) → IsId id → head_at files peer (local_side word) id ≡ Head head
    → head_at files own (tracking_side remote word) id ≡ Head head

-- each local head is the head of the peer's ref
abbrev pub NothingToPush : List ℕ → List ℕ → Files → Type 0
NothingToPush own peer files =
    (word : EntityWord) (id : Id) (head : Name) → IsId id → head_at files own (local_side word) id ≡ Head head
    → head_at files peer (local_side word) id ≡ Head head
