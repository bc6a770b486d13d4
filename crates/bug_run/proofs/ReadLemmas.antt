-- What is read for a command is read by a run.
use Rattle.std.proofs.Common.{◌≡◌, ◌≤◌, inl, inr, ℕ, Bool, List, Result, Ok, Err, IsOk, refl, sym, subst}
use Rattle.gb_store.specs.Files.{Files, History, files_of}
use Rattle.remote_name.specs.declared.remote.RemoteName.{RemoteName}
use Rattle.repo_merge.specs.Quiet.{IsInStep}
use Rattle.repo_merge.specs.Reading.{ReadsPulling}
use Rattle.repo_steps.specs.declared.refusal.Stop.{Stop}
use Rattle.repo_steps.specs.declared.refusal.Stop.TheVariants as stop
use Rattle.repo_sync.specs.Reading.{ReadsFetched}
use Rattle.sync_steps.specs.Quiet.{NothingToFetch}
use Rattle.words.specs.declared.edit.Edit.{Edit as Edits}
use Rattle.words.specs.declared.edit.Edit.TheVariants.{New, OfBug, OfComment, UserEdit, UserNew, UserSet}
use Rattle.repo_edit.specs.Reads.{ReadsFor}
use Rattle.bug_run.specs.Printed.{HasLines, Printed}
use Rattle.bug_run.specs.Reads.{ReadsCommand}
use Rattle.bug_run.specs.Run.{status_of, text_of}
use Rattle.bug_run.specs.declared.status.Status.{Status}
use Rattle.bug_run.specs.declared.status.Status.TheVariants as status
use Rattle.bug_run.specs.Answer.{Answer}
use Rattle.bug_run.specs.Exchanges.{ReadsExchange}
use Rattle.words.specs.declared.pair.FolderPair.{FolderPair}
use Rattle.words.specs.declared.words.PeerCommand.{PeerCommand}
use Rattle.words.specs.declared.words.PeerCommand.TheVariants.{Fetch, Pull, Push}
use Rattle.words.specs.declared.words.Command.{Command}
use Rattle.words.specs.declared.words.Command.TheVariants.{Edit, Log, PackRefs, Show, Users}

-- a status by which lines were answered is told of no failure
pub never_lines : (s : Stop) → HasLines (status_of (Err s)) → ⊥
never_lines stop.Memory (inl e) = cc e
never_lines stop.Memory (inr (count, e)) = cc e
never_lines stop.Disk (inl e) = cc e
never_lines stop.Disk (inr (count, e)) = cc e
never_lines (stop.Refused r) (inl e) = cc e
never_lines (stop.Refused r) (inr (count, e)) = cc e

-- nor of the output's, nor of memory
pub other_status : (answer : Status) → HasLines answer → (answer ≡ status.OutFault → ⊥) × (answer ≡ status.Memory → ⊥)
other_status answer (inl done) = ((λ e. cc (e, done)), (λ e. cc (e, done)))
other_status answer (inr (count, some)) = ((λ e. cc (e, some)), (λ e. cc (e, some)))

-- a run that is told as done answered a text
pub done_was_ok : (tells takes_memory : Bool) (before after : List ℕ) (r : Result Answer Stop) (answer : Status)
    → Printed tells takes_memory (text_of r) (status_of r) before after answer → answer ≡ status.Done → IsOk r
done_was_ok tells takes_memory before after (Ok said) answer printed done = refl
done_was_ok tells takes_memory before after (Err s) answer (inl (is, all)) done = absurd (each s is)
  where
    each : (s : Stop) → answer ≡ status_of (Err s) → ⊥
    each stop.Memory e = cc (e, done)
    each stop.Disk e = cc (e, done)
    each (stop.Refused r) e = cc (e, done)
done_was_ok tells takes_memory before after (Err s) answer (inr (inl (fault, front))) done = absurd (cc (fault, done))
done_was_ok tells takes_memory before after (Err s) answer (inr (inr (memory, front))) done = absurd (cc (memory, done))

-- a run by which lines were answered answered a text
pub lines_were_ok : (tells takes_memory : Bool) (before after : List ℕ) (r : Result Answer Stop) (answer : Status)
    → Printed tells takes_memory (text_of r) (status_of r) before after answer → HasLines answer → IsOk r
lines_were_ok tells takes_memory before after (Ok said) answer printed has = refl
lines_were_ok tells takes_memory before after (Err s) answer (inl (is, all)) has = absurd (never_lines s (subst HasLines is has))
lines_were_ok tells takes_memory before after (Err s) answer (inr (inl (fault, front))) has = absurd ((other_status answer has).0 fault)
lines_were_ok tells takes_memory before after (Err s) answer (inr (inr (memory, front))) has = absurd ((other_status answer has).1 memory)

-- what is read by what was done is read by less
edit_narrower : (files : Files) (folder : List ℕ) (edit : Edits) (P Q : Type 0) (before after : ℕ) → (Q → P) → ReadsFor files folder edit P before after → ReadsFor files folder edit Q before after
edit_narrower files folder (UserNew name email) P Q before after less reads = reads
edit_narrower files folder (UserEdit name email) P Q before after less reads = record { most = reads.most; made = λ q. reads.made (less q) }
edit_narrower files folder (UserSet word) P Q before after less reads = reads
edit_narrower files folder (New title message) P Q before after less reads = reads
edit_narrower files folder (OfBug bug edit) P Q before after less reads = reads
edit_narrower files folder (OfComment comment message) P Q before after less reads = reads

pub command_narrower : (files : Files) (folder : List ℕ) (command : Command) (P Q : Type 0) (before after : ℕ) → (Q → P)
    → ReadsCommand files folder command P before after → ReadsCommand files folder command Q before after
command_narrower files folder Users P Q before after less reads = reads
command_narrower files folder (Show bug) P Q before after less reads = reads
command_narrower files folder (Log bug) P Q before after less reads = reads
command_narrower files folder (Edit edit) P Q before after less reads = edit_narrower files folder edit P Q before after less reads
command_narrower files folder PackRefs P Q before after less reads = reads

pub exchange_narrower : (command : PeerCommand) (pair : FolderPair) (now : ℕ) (old : History) (P Q : Type 0) (before after : ℕ) → (Q → P)
    → ReadsExchange command pair now old P before after → ReadsExchange command pair now old Q before after
exchange_narrower (Fetch remote) pair now old P Q before after less reads = ((λ q. reads.0 (less q)), reads.1)
exchange_narrower (Pull remote) pair now old P Q before after less reads = ((λ q. reads.0 (less q)), reads.1)
exchange_narrower Push pair now old P Q before after less reads = λ q. reads (less q)

-- a call that ended answered no text
never_ok : (r : Result Answer Stop) (s : Stop) → r ≡ Err s → IsOk r → ⊥
never_ok (Ok said) s is ok = cc is
never_ok (Err why) s is ok = cc ok

module _ (command : PeerCommand) (remote : RemoteName) (pair : FolderPair) (now : ℕ) (old : History) (before after : ℕ) where
  -- a fetch that ended reads what its turns do
  pub fetch_stopped : (r : Result Answer Stop) (s : Stop) → command ≡ Fetch remote → r ≡ Err s → ReadsFetched pair.own pair.peer remote old before after → ReadsExchange command pair now old (IsOk r) before after
  fetch_stopped r s asks is reads = subst (λ (one : PeerCommand). ReadsExchange one pair now old (IsOk r) before after) (sym asks) ((λ ok. absurd (never_ok r s is ok)), reads)

  -- and so does a pull, however it answers
  pub pull_answered : (HasLines : Type 0) → command ≡ Pull remote → (HasLines → NothingToFetch pair.own pair.peer remote (files_of old) → IsInStep (files_of old) pair.own remote → after ≤ before)
      → ReadsPulling pair.own pair.peer remote now old before after → ReadsExchange command pair now old HasLines before after
  pull_answered HasLines asks unread reads = subst (λ (one : PeerCommand). ReadsExchange one pair now old HasLines before after) (sym asks) (unread, reads)

  pub pull_stopped : (r : Result Answer Stop) (s : Stop) → command ≡ Pull remote → r ≡ Err s → ReadsPulling pair.own pair.peer remote now old before after → ReadsExchange command pair now old (IsOk r) before after
  pull_stopped r s asks is reads = pull_answered (IsOk r) asks (λ ok. absurd (never_ok r s is ok)) reads
