-- The fetch of a pull between sound folders refuses by a limit alone.
use Rattle.std.proofs.Common.{◌≡◌, ◌<◌, ◌^◌, refl, true, ℕ, List, [], Contains, Ok}
use Rattle.gb_text.specs.Overlap.{Overlap}
use Rattle.gb_text.proofs.PathLemmas.{Overlap-mutual}
use Rattle.gb_store.specs.Files.{History, files_of}
use Rattle.gb_store.specs.Moments.{IsMoment, Wrote}
use Rattle.object_store.specs.Held.{objects_after}
use Rattle.dag_entity.specs.Folders.{HaveOneText}
use Rattle.remote_name.specs.declared.remote.RemoteName.{RemoteName}
use Rattle.repo_state.specs.Sound.{IsSound}
use Rattle.repo_writes.specs.Kinds.{IsWrite}
use Rattle.repo_writes.proofs.KeptLemmas.{apart_loses_nothing, loses_nothing}
use Rattle.merge_steps.specs.Pulling.{PullAnswers}
use Rattle.merge_steps.specs.declared.line.Pulled.{Pulled}
use Rattle.merge_steps.proofs.MergeWriteLemmas.{merge_wrote}
use Rattle.sync_steps.specs.Lines.{is_refused}
use Rattle.sync_steps.specs.declared.line.CopyCause.TheVariants as cause
use Rattle.sync_steps.specs.declared.line.Line.{Line}
use Rattle.sync_steps.specs.declared.line.Outcome.TheVariants as outcome
use Rattle.copy_limits.specs.Flat.{HasFlatEntities}
use Rattle.copy_limits.specs.Limits.{IsTreeLimit}
use Rattle.copy_limits.proofs.FetchLemmas.{fetch_limit, fetch_none}
use Rattle.copy_limits.proofs.SoundLemmas.{one_text_before}

module _ (own peer : List ℕ) (remote : RemoteName) (now : ℕ) (apart : Overlap own peer → ⊥) (old new : History) (in_time : now < 2 ^ 64) (ours : IsSound own (files_of old)) (theirs : IsSound peer (files_of old))
    (alike : HaveOneText (objects_after new own) (objects_after new peer)) (pulled : Pulled) (done : PullAnswers own peer remote now old new (Ok pulled)) where
  abbrev mid : History
  mid = done.mid

  -- what the merge wrote
  merged : Wrote (IsWrite own) mid new
  merged = merge_wrote own remote now mid new (Ok pulled.merged) in_time done.then

  last : IsMoment mid new new
  last = record { later = []; done = merged.writes; before = merged.grew; after = refl }

  alike_mid : HaveOneText (objects_after mid own) (objects_after mid peer)
  alike_mid = one_text_before (objects_after mid own) (objects_after mid peer) (objects_after new own) (objects_after new peer)
      ((loses_nothing own mid new merged).each new last).objects ((apart_loses_nothing peer own mid new (λ o. apart (Overlap-mutual peer own o)) merged).each new last).objects alike

  pub pull_limit : (line : Line) → Contains pulled.fetched line → is_refused line.outcome ≡ true → (count : ℕ) × (line.outcome ≡ outcome.DamagedCopy (cause.TooLarge count)) × IsTreeLimit count
  pull_limit line among = fetch_limit own peer remote apart old mid ours theirs alike_mid pulled.fetched done.first line among

  pub pull_none : HasFlatEntities peer (files_of old) → (line : Line) → Contains pulled.fetched line → is_refused line.outcome ≡ true → ⊥
  pull_none flat line among = fetch_none own peer remote apart old mid ours theirs alike_mid pulled.fetched done.first line among flat
