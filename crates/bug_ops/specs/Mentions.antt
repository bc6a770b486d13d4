-- Labels by mention, and what holds of each state that can be reached.
use Rattle.std.specs.Prelude.{◌≡◌, ⊤, ℕ, ◌-◌, ◌^◌, min, length, Bool, false, List, [], ◌∷◌}
use Rattle.std.specs.List.{list_any}
use Rattle.std.specs.List.Sorted.{IsStrictlySortedBy}
use Rattle.std.specs.Str.{bytes_eq}
use Rattle.gb_text.specs.declared.id.Id.{Id}
use Rattle.op_kind.specs.Pairs.{AreInKeyOrder}
use Rattle.bug_ops.specs.Snapshots.{by_bytes, is_seen}
use Rattle.bug_ops.specs.declared.snapshot.Snapshot.{Snapshot}

-- the text is one of these
abbrev pub is_among : List (List ℕ) → List ℕ → Bool
is_among texts t = list_any (λ u. bytes_eq u t) texts

-- each person stands there once
abbrev pub StandOnce : List Id → Type 0
StandOnce [] = ⊤
StandOnce (id ∷ ids) = (is_seen ids id ≡ false) × StandOnce ids

-- The snapshot is in order: labels and metadata ascend, each once, each actor and each participant stands once, and the comments are counted.
pub record IsInOrder (s : Snapshot) : Type 0 where
  pub labels : IsStrictlySortedBy by_bytes s.row.labels
  pub metadata : AreInKeyOrder s.row.metadata
  pub actors : StandOnce s.row.actors
  pub participants : StandOnce s.row.participants
  pub comments : s.row.comments ≡ min (length s.list) (2 ^ 64 - 1)
