-- What a run writes: it is of what its arguments ask for, and keeps the folders sound that they name.
use Rattle.std.proofs.Common.{◌⊎◌, inl, inr, ℕ, IsTrue, List, [], ◌∷◌, Result, Ok, Err}
use Rattle.gb_store.specs.Files.{History, files_of}
use Rattle.gb_store.specs.Moments.{Wrote, WroteBy, at_moment}
use Rattle.gb_store.specs.declared.store.Change.{Change}
use Rattle.gb_store.proofs.MomentLemmas.{Wrote-wider, WroteBy-none, WroteBy-wider}
use Rattle.bug_edits.specs.declared.moment.Moment.{Moment}
use Rattle.repo_steps.specs.declared.env.Env.{Env}
use Rattle.repo_steps.specs.declared.refusal.Stop.{Stop}
use Rattle.ref_packing.specs.Kinds.{IsPackWrite}
use Rattle.repo_state.specs.Sound.{KeepsParts}
use Rattle.repo_writes.specs.Kinds.{IsRowWrite, IsWrite, a_row}
use Rattle.repo_writes.proofs.PackLemmas.{pack_keeps_parts}
use Rattle.words.specs.declared.edit.Edit.{Edit as Edits}
use Rattle.repo_steps.specs.Writes.{IsWriteOf}
use Rattle.repo_steps.proofs.WriteOfLemmas.{answers_wrote_of}
use Rattle.repo_writes.proofs.SoundLemmas.{keeps_parts, keeps_sound}
use Rattle.bug_run.specs.Run.{AskedAnswers, AskedWrites, Call, CommandAnswers, CommandWrites, EditTells, ListTold, RunAnswers, RunStaysSound, RunWrites, env_at}
use Rattle.bug_run.specs.Answer.{Answer}
use Rattle.bug_run.specs.declared.status.Status.{Status}
use Rattle.words.specs.declared.words.Asked.{Asked}
use Rattle.words.specs.declared.words.Asked.TheVariants as asked
use Rattle.words.specs.declared.words.Command.{Command}
use Rattle.words.specs.declared.words.Command.TheVariants.{Edit, Log, PackRefs, Show, Users}
use Rattle.words.specs.declared.words.Request.{Request}
use Rattle.bug_run.specs.Exchanges.{ExchangeAnswers, MergeTold}
use Rattle.bug_run.specs.Looks.{first_unread, pair_looks}
use Rattle.bug_run.proofs.LookLemmas.{guarded_wrote}
use Rattle.bug_run.proofs.PackLemmas.{pack_wrote}
use Rattle.bug_run.proofs.ExchangeLemmas.{exchange_stays_sound}
use Rattle.bug_run.proofs.ExchangeWriteLemmas.{exchange_wrote, in_time, merge_told_wrote}

edit_wrote : (env : Env) (edit : Edits) (old new : History) (result : Result Answer Stop) → EditTells env edit old new result → WroteBy (IsWriteOf env edit) old new
edit_wrote env edit old new (Ok said) is = answers_wrote_of env edit old new (Ok is.0) is.1
edit_wrote env edit old new (Err s) is = answers_wrote_of env edit old new (Err s) is

command_wrote : (env : Env) (command : Command) (old new : History) (result : Result Answer Stop) → CommandAnswers env command old new result → WroteBy (CommandWrites env command) old new
command_wrote env Users old new result is = WroteBy-none (CommandWrites env Users) old new is.1
command_wrote env (Show bug) old new result is = WroteBy-none (CommandWrites env (Show bug)) old new is.1
command_wrote env (Log bug) old new result is = WroteBy-none (CommandWrites env (Log bug)) old new is.1
command_wrote env (Edit edit) old new result is = edit_wrote env edit old new result is
command_wrote env PackRefs old new result is = pack_wrote env.folder old new result is

-- whatever a run answers, each of its writes is of what its arguments ask for
asked_wrote : (asks : Asked) (call : Call) (old new : History) (before after : List ℕ) (answer : Status) → IsTrue call.store_tells
    → AskedAnswers asks call old new before after answer → WroteBy (AskedWrites asks call.moment) old new
asked_wrote asked.Nothing call old new before after answer tells is = WroteBy-none (AskedWrites asked.Nothing call.moment) old new (is.0 tells)
asked_wrote (asked.Refused bad) call old new before after answer tells is = WroteBy-none (AskedWrites (asked.Refused bad) call.moment) old new (is.0 tells)
asked_wrote (asked.Request request) call old new before after answer tells is =
    guarded_wrote (first_unread (files_of old) (request.folder ∷ [])) (CommandAnswers (env_at call.moment request.folder) request.command old new) old new
    (AskedWrites (asked.Request request) call.moment) is.0 (command_wrote (env_at call.moment request.folder) request.command old new is.0) (is.1 tells)
asked_wrote (asked.Exchange request) call old new before after answer tells is =
    guarded_wrote (first_unread (files_of old) (pair_looks request.command request.pair (files_of old))) (ExchangeAnswers request.command request.pair call.moment.now old new) old new
    (AskedWrites (asked.Exchange request) call.moment) is.0 (exchange_wrote request.command request.pair call.moment.now (in_time call.moment) old new is.0) (is.1 tells)
asked_wrote (asked.Merge request) call old new before after answer tells is =
    guarded_wrote (first_unread (files_of old) (request.folder ∷ [])) (MergeTold request call.moment.now old new) old new
    (AskedWrites (asked.Merge request) call.moment) is.0 (merge_told_wrote request call.moment.now (in_time call.moment) old new is.0) (is.1 tells)
asked_wrote (asked.List request) call old new before after answer tells is =
    guarded_wrote (first_unread (files_of old) (request.folder ∷ [])) (ListTold request old new) old new
    (AskedWrites (asked.List request) call.moment) is.0 (λ told. told.1) (is.1 tells)

pub run_wrote : (call : Call) (old new : History) (before after : List ℕ) (answer : Status) → IsTrue call.store_tells → RunAnswers call old new before after answer
    → WroteBy (RunWrites call) old new
run_wrote call old new before after answer tells is = asked_wrote call.asked call old new before after answer tells is

-- what is written for a request is of the kinds of its folder, or of those of a pack there
pub of_kinds : (request : Request) (moment : Moment) (old new : History) → WroteBy (AskedWrites (asked.Request request) moment) old new
    → Wrote (IsWrite request.folder) old new ⊎ Wrote (IsPackWrite request.folder) old new
of_kinds request moment old new wrote = by request.command wrote
  where
    env : Env
    env = env_at moment request.folder

    none : (command : Command) → ((entry : History) (earlier : List Change) (change : Change) → CommandWrites env command entry earlier change → ⊥)
        → WroteBy (CommandWrites env command) old new → Wrote (IsWrite request.folder) old new
    none command never writes =
        WroteBy-wider (CommandWrites env command) (at_moment (IsWrite request.folder)) old new
        (λ (earlier : List Change) (change : Change) write. absurd (never old earlier change write)) writes

    by : (command : Command) → WroteBy (CommandWrites env command) old new → Wrote (IsWrite request.folder) old new ⊎ Wrote (IsPackWrite request.folder) old new
    by Users writes = inl (none Users (λ entry earlier change never. never) writes)
    by (Show bug) writes = inl (none (Show bug) (λ entry earlier change never. never) writes)
    by (Log bug) writes = inl (none (Log bug) (λ entry earlier change never. never) writes)
    by (Edit edit) writes =
        inl (WroteBy-wider (CommandWrites env (Edit edit)) (at_moment (IsWrite request.folder)) old new (λ (earlier : List Change) (change : Change) write. write.kind) writes)
    by PackRefs writes = inr writes

-- and all that is written for a list
pub of_rows : (folder : List ℕ) (old new : History) → Wrote (IsRowWrite folder) old new → Wrote (IsWrite folder) old new
of_rows folder old new wrote = Wrote-wider (IsRowWrite folder) (IsWrite folder) old new (λ files change row. a_row row) wrote

-- it keeps each part of the folder
request_keeps_parts : (request : Request) (moment : Moment) (old new : History) → WroteBy (AskedWrites (asked.Request request) moment) old new → KeepsParts request.folder old new
request_keeps_parts request moment old new wrote = elim (of_kinds request moment old new wrote) [
  | inl writes ↦ keeps_parts request.folder old new writes
  | inr packs ↦ pack_keeps_parts request.folder old new packs
]

-- what is written keeps the folders sound that arguments name
asked_stays_sound : (asks : Asked) (moment : Moment) (old new : History) → WroteBy (AskedWrites asks moment) old new → RunStaysSound asks old new
asked_stays_sound asked.Nothing moment old new wrote = tt
asked_stays_sound (asked.Refused bad) moment old new wrote = tt
asked_stays_sound (asked.Request request) moment old new wrote =
    let kept = request_keeps_parts request moment old new wrote in
    record { parts = kept; whole = keeps_sound request.folder old new kept }
asked_stays_sound (asked.Exchange request) moment old new wrote = exchange_stays_sound request.command request.pair old new wrote
asked_stays_sound (asked.Merge request) moment old new wrote =
    let kept = keeps_parts request.folder old new wrote in
    record { parts = kept; whole = keeps_sound request.folder old new kept }
asked_stays_sound (asked.List request) moment old new wrote =
    let kept = keeps_parts request.folder old new (of_rows request.folder old new wrote) in
    record { parts = kept; whole = keeps_sound request.folder old new kept }

pub run_stays_sound : (call : Call) (old new : History) → WroteBy (RunWrites call) old new → RunStaysSound call.asked old new
run_stays_sound call old new wrote = asked_stays_sound call.asked call.moment old new wrote
