-- The merge of a pull refuses a bug by a limit alone, where what its fetch left is clean.
use Rattle.std.proofs.Common.{◌≡◌, ◌<◌, ◌^◌, refl, ℕ, List, [], ◌∷◌, Contains, Ok}
use Rattle.gb_text.specs.Overlap.{Overlap}
use Rattle.gb_store.specs.Files.{History, files_of}
use Rattle.dag_entity.specs.declared.fault.EntityFault.{EntityFault}
use Rattle.remote_name.specs.declared.remote.RemoteName.{RemoteName}
use Rattle.repo_state.specs.Sound.{IsSound}
use Rattle.repo_writes.proofs.SoundLemmas.{keeps_sound}
use Rattle.sync_steps.specs.Fetching.{FetchAnswers}
use Rattle.sync_steps.specs.declared.line.Line.{Line}
use Rattle.sync_writes.proofs.FetchKeptLemmas.{fetch_keeps_parts}
use Rattle.sync_writes.proofs.FetchKindLemmas.{fetch_writes}
use Rattle.merge_steps.specs.Pulling.{PullAnswers}
use Rattle.merge_steps.specs.declared.line.MergeLine.{MergeLine}
use Rattle.merge_steps.specs.declared.line.MergeOutcome.TheVariants as outcome
use Rattle.merge_steps.specs.declared.line.Pulled.{Pulled}
use Rattle.operation_origins.specs.Limits.{IsLimit}
use Rattle.operation_origins.specs.Tracked.{TrackedAreSound, TrackedAuthorsAreKnown}
use Rattle.operation_origins.proofs.LimitMergeLemmas.{line_limit}
use Rattle.operation_origins.specs.Once.{StandOnce}

-- a fetch leaves the folder sound
pub fetched_sound : (own peer : List ℕ) (remote : RemoteName) (old mid : History) (lines : List Line) → (Overlap own peer → ⊥) → IsSound own (files_of old) → FetchAnswers own peer remote old mid (Ok lines)
    → IsSound own (files_of mid)
fetched_sound own peer remote old mid lines apart sound done =
    let wrote = fetch_writes own peer remote apart old mid (Ok lines) done in
    (keeps_sound own old mid (fetch_keeps_parts own peer remote old mid wrote) sound).each mid (record { later = []; done = wrote.writes; before = wrote.grew; after = refl })

module _ (own peer : List ℕ) (remote : RemoteName) (now : ℕ) (moment : now < 2 ^ 64) (old new : History) (pulled : Pulled) (apart : Overlap own peer → ⊥) (sound : IsSound own (files_of old))
    (done : PullAnswers own peer remote now old new (Ok pulled)) where
  pub pulled_limit : StandOnce (files_of done.mid) (own ∷ []) → TrackedAreSound (files_of done.mid) own remote → TrackedAuthorsAreKnown (files_of done.mid) own remote
      → (line : MergeLine) (why : EntityFault) → Contains pulled.merged line → line.outcome ≡ outcome.InvalidBug why → IsLimit why
  pulled_limit once tracked known line why c is =
      line_limit own remote now moment done.mid new pulled.merged done.then (fetched_sound own peer remote old done.mid pulled.fetched apart sound done.first) once tracked known line why c is
