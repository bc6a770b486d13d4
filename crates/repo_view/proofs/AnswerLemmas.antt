-- What keeps a bug from being read, as an answer of the log; and what the log reads.
use Rattle.std.proofs.Common.{◌≡◌, inr, ℕ, List, Err, subst}
use Rattle.gb_store.specs.Files.{Files}
use Rattle.repo_state.specs.Bugs.{BugRefused, FindsBug, ReadsBelow}
use Rattle.repo_state.specs.Stops.{find_of_read}
use Rattle.repo_state.specs.declared.side.HeadEntry.{HeadEntry}
use Rattle.repo_state.specs.declared.stop.ReadStop.{ReadStop}
use Rattle.repo_state.specs.declared.stop.ReadStop.TheVariants as read
use Rattle.repo_view.specs.Log.{LogAnswers, ReadsLog}

module _ (files : Files) (folder word : List ℕ) (bug : HeadEntry) (finds : FindsBug files folder word bug) where
  pub no_log : (s : ReadStop) → BugRefused files folder bug s → LogAnswers files folder word (Err (find_of_read s))
  no_log read.Memory refused = tt
  no_log read.Disk refused = tt
  no_log (read.Damaged path) refused = (bug.id, finds.found, refused.0, inr (bug.name, finds.head, refused.1))

  pub log_reads : (old found new : ℕ) → found ≡ old → ReadsBelow files folder bug found new → ReadsLog files folder word old new
  log_reads old found new same reads = inr (bug, finds, subst (λ (n : ℕ). ReadsBelow files folder bug n new) same reads)
