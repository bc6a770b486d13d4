-- What a run of the program answers and prints, and what it writes.
use Rattle.std.specs.Prelude.{◌≡◌, ◌++◌, ⊤, ℕ, zero, suc, Bool, IsTrue, List, [], ◌∷◌, Result, Ok, Err, codes, decimal}
use Rattle.gb_text.specs.declared.id.Id.{Id}
use Rattle.gb_store.specs.Files.{History, files_of}
use Rattle.gb_store.specs.Moments.{Wrote}
use Rattle.gb_store.specs.declared.store.Change.{Change}
use Rattle.bug_edits.specs.declared.moment.Moment.{Moment}
use Rattle.repo_state.specs.Users.{id_line}
use Rattle.repo_state.specs.declared.stop.FindStop.{FindStop}
use Rattle.repo_state.specs.declared.stop.FindStop.TheVariants as find
use Rattle.repo_state.specs.declared.stop.Missed.{Missed}
use Rattle.repo_state.specs.declared.stop.ReadStop.{ReadStop}
use Rattle.repo_state.specs.declared.stop.ReadStop.TheVariants as read
use Rattle.repo_steps.specs.Doings.{EditAnswers}
use Rattle.repo_steps.specs.Stops.{of_missed}
use Rattle.repo_steps.specs.Writes.{IsWriteOf}
use Rattle.words.specs.declared.edit.Edit.{Edit as Edits}
use Rattle.repo_steps.specs.declared.env.Env.{Env}
use Rattle.repo_steps.specs.declared.refusal.Refusal.TheVariants as refusal
use Rattle.repo_steps.specs.declared.refusal.Stop.{Stop}
use Rattle.repo_steps.specs.declared.refusal.Stop.TheVariants as stop
use Rattle.repo_edit.specs.Packing.{PackRefsAnswers}
use Rattle.ref_packing.specs.Kinds.{IsPackWrite}
use Rattle.repo_lists.specs.Lists.{ListAnswers}
use Rattle.repo_writes.specs.Kinds.{IsRowWrite, IsWrite}
use Rattle.repo_view.specs.Log.{LogAnswers}
use Rattle.repo_view.specs.Shown.{ShowAnswers, UsersAnswers}
use Rattle.bug_run.specs.Exchanges.{ExchangeAnswers, ExchangeStaysSound, ExchangeWrites, MergeTold, StaysSound}
use Rattle.bug_run.specs.Looks.{Guarded, first_unread, pair_looks}
use Rattle.bug_run.specs.Printed.{Printed}
use Rattle.bug_run.specs.Refusals.{refusal_line, usage_text}
use Rattle.bug_run.specs.Answer.{Answer}
use Rattle.bug_run.specs.declared.status.Refused.{Refused}
use Rattle.bug_run.specs.declared.status.Refused.TheVariants.{ByCommand, ByWords, SomeLines}
use Rattle.bug_run.specs.declared.status.Status.{Status}
use Rattle.bug_run.specs.declared.status.Status.TheVariants as status
use Rattle.words.specs.declared.words.Asked.{Asked}
use Rattle.words.specs.declared.words.Asked.TheVariants as asked
use Rattle.words.specs.declared.words.Command.{Command}
use Rattle.words.specs.declared.words.Command.TheVariants.{Edit, Log, PackRefs, Show, Users}
use Rattle.words.specs.declared.list.ListRequest.{ListRequest}
use Rattle.words.specs.declared.words.MergeRequest.{MergeRequest}
use Rattle.words.specs.declared.words.PeerRequest.{PeerRequest}
use Rattle.words.specs.declared.words.Request.{Request}

-- What stays the same in a run: whether the store shows its files and the sink what was written to it, whether the sink may
-- answer out of memory, what the arguments ask, the time and the seed.
pub record Call : Type 0 where
  pub store_tells : Bool
  pub sink_tells : Bool
  pub takes_memory : Bool
  pub asked : Asked
  pub moment : Moment

abbrev pub call_of : Bool → Bool → Bool → Asked → Moment → Call
call_of store_tells sink_tells takes_memory asked moment =
    record { store_tells = store_tells; sink_tells = sink_tells; takes_memory = takes_memory; asked = asked; moment = moment }

-- ---- the answer

-- the answer to a command that reads, none of whose lines is a refusal, by the relation of its texts and of why it has none
abbrev pub TextRead : (Result (List ℕ) ReadStop → Type 0) → Result Answer Stop → Type 0
TextRead Answers (Ok answer) = Answers (Ok answer.text) × (answer.refused ≡ 0)
TextRead Answers (Err stop.Memory) = ⊤
TextRead Answers (Err stop.Disk) = ⊤
TextRead Answers (Err (stop.Refused r)) = (path : List ℕ) × Answers (Err (read.Damaged path)) × (r ≡ refusal.Damaged path)

-- and that to one which finds a bug
abbrev pub TextFound : (Result (List ℕ) FindStop → Type 0) → Result Answer Stop → Type 0
TextFound Answers (Ok answer) = Answers (Ok answer.text) × (answer.refused ≡ 0)
TextFound Answers (Err stop.Memory) = ⊤
TextFound Answers (Err stop.Disk) = ⊤
TextFound Answers (Err (stop.Refused r)) = (why : Missed) × Answers (Err (find.Missed why)) × (r ≡ of_missed why)

-- the answer to an edit, which tells the line of an id
abbrev pub EditTells : Env → Edits → History → History → Result Answer Stop → Type 0
EditTells env edit old new (Ok answer) =
    (id : Id) × EditAnswers env edit old new (Ok id) × (answer ≡ record { text = id_line id; refused = 0 })
EditTells env edit old new (Err s) = EditAnswers env edit old new (Err s)

-- what is printed of a pack
abbrev pub packed_line : ℕ → List ℕ
packed_line count = codes "packed " ++ decimal count ++ codes "\n"

-- the answer to a pack of the refs, which tells how many were packed; memory may run out for that line
abbrev pub PackTells : List ℕ → History → History → Result Answer Stop → Type 0
PackTells folder old new (Ok answer) =
    (count : ℕ) × PackRefsAnswers folder old new (Ok count) × (answer ≡ record { text = packed_line count; refused = 0 })
PackTells folder old new (Err s) = PackRefsAnswers folder old new (Err s)

-- the answer to a command in a folder, with what was written: that of the one call that it makes
abbrev pub CommandAnswers : Env → Command → History → History → Result Answer Stop → Type 0
CommandAnswers env Users old new result = TextRead (UsersAnswers (files_of old) env.folder) result × (new ≡ old)
CommandAnswers env (Show bug) old new result = TextFound (ShowAnswers (files_of old) env.folder bug) result × (new ≡ old)
CommandAnswers env (Log bug) old new result = TextFound (LogAnswers (files_of old) env.folder bug) result × (new ≡ old)
CommandAnswers env (Edit edit) old new result = EditTells env edit old new result
CommandAnswers env PackRefs old new result = PackTells env.folder old new result

-- the answer to a list of bugs, which writes rows alone
abbrev pub ListTold : ListRequest → History → History → Result Answer Stop → Type 0
ListTold request old new result =
    TextRead (ListAnswers request.folder request.layout request.query old new) result × Wrote (IsRowWrite request.folder) old new

-- in a folder, at this time and with this seed
abbrev pub env_at : Moment → List ℕ → Env
env_at moment folder = record { folder = folder; moment = moment }

-- the answer to a request, with what was written, where the store shows its files: that of its command in its folder, if the packed refs
-- there read
abbrev pub RequestAnswers : Bool → Request → Moment → History → History → Result Answer Stop → Type 0
RequestAnswers tells request moment old new result =
    IsTrue tells → Guarded (first_unread (files_of old) (request.folder ∷ [])) (CommandAnswers (env_at moment request.folder) request.command old new) old new result

-- and to a command with a peer, and to a merge
abbrev pub PeerRequestAnswers : Bool → PeerRequest → Moment → History → History → Result Answer Stop → Type 0
PeerRequestAnswers tells request moment old new result =
    IsTrue tells → Guarded (first_unread (files_of old) (pair_looks request.command request.pair (files_of old))) (ExchangeAnswers request.command request.pair moment.now old new) old new result

abbrev pub MergeRequestAnswers : Bool → MergeRequest → Moment → History → History → Result Answer Stop → Type 0
MergeRequestAnswers tells request moment old new result =
    IsTrue tells → Guarded (first_unread (files_of old) (request.folder ∷ [])) (MergeTold request moment.now old new) old new result

-- and to a list
abbrev pub ListRequestAnswers : Bool → ListRequest → History → History → Result Answer Stop → Type 0
ListRequestAnswers tells request old new result = IsTrue tells → Guarded (first_unread (files_of old) (request.folder ∷ [])) (ListTold request old new) old new result

-- the status of a command that was done, by the number of its lines that are refusals
abbrev pub status_for : ℕ → Status
status_for zero = status.Done
status_for (suc n) = status.Refused (SomeLines (suc n))

-- the status of an answer
abbrev pub status_of : Result Answer Stop → Status
status_of (Ok answer) = status_for answer.refused
status_of (Err stop.Memory) = status.Memory
status_of (Err stop.Disk) = status.DiskFault
status_of (Err (stop.Refused r)) = status.Refused (ByCommand r)

-- the text of an answer
abbrev pub text_of : Result Answer Stop → List ℕ
text_of (Ok answer) = answer.text
text_of (Err stop.Memory) = []
text_of (Err stop.Disk) = []
text_of (Err (stop.Refused r)) = refusal_line (ByCommand r)

-- what was printed of an answer, with its status: its text, unless memory ran out for the line of a refusal
abbrev pub PrintedLine : Call → Refused → List ℕ → List ℕ → Status → Type 0
PrintedLine call refused before after answer = Printed call.sink_tells call.takes_memory (refusal_line refused) (status.Refused refused) before after answer

abbrev pub PrintedAnswer : Call → Result Answer Stop → List ℕ → List ℕ → Status → Type 0
PrintedAnswer call result before after answer = Printed call.sink_tells call.takes_memory (text_of result) (status_of result) before after answer

-- what a run answers to arguments that ask this, and writes for it; then what it printed of that
abbrev pub AskedAnswers : Asked → Call → History → History → List ℕ → List ℕ → Status → Type 0
AskedAnswers asked.Nothing call old new before after answer =
    (IsTrue call.store_tells → new ≡ old) × Printed call.sink_tells call.takes_memory usage_text status.Usage before after answer
AskedAnswers (asked.Refused bad) call old new before after answer =
    (IsTrue call.store_tells → new ≡ old) × PrintedLine call (ByWords bad) before after answer
AskedAnswers (asked.Request request) call old new before after answer =
    (result : Result Answer Stop) × RequestAnswers call.store_tells request call.moment old new result
    × PrintedAnswer call result before after answer
AskedAnswers (asked.Exchange request) call old new before after answer =
    (result : Result Answer Stop) × PeerRequestAnswers call.store_tells request call.moment old new result
    × PrintedAnswer call result before after answer
AskedAnswers (asked.Merge request) call old new before after answer =
    (result : Result Answer Stop) × MergeRequestAnswers call.store_tells request call.moment old new result
    × PrintedAnswer call result before after answer
AskedAnswers (asked.List request) call old new before after answer =
    (result : Result Answer Stop) × ListRequestAnswers call.store_tells request old new result
    × PrintedAnswer call result before after answer

-- What a run answers, writes and prints.
abbrev pub RunAnswers : Call → History → History → List ℕ → List ℕ → Status → Type 0
RunAnswers call old new before after answer = AskedAnswers call.asked call old new before after answer

-- ---- the writes

-- the writes that a command may make, by the history at entry and the writes of the call so far: an edit its own, a pack those of its
-- kinds, a command that reads none
abbrev pub CommandWrites : Env → Command → History → List Change → Change → Type 0
CommandWrites env (Edit edit) entry earlier change = IsWriteOf env edit entry earlier change
CommandWrites env PackRefs entry earlier change = IsPackWrite env.folder (files_of (earlier ++ entry)) change
CommandWrites env _ entry earlier change = ⊥

-- the writes that a run may make: those of what its arguments ask for
abbrev pub AskedWrites : Asked → Moment → History → List Change → Change → Type 0
AskedWrites asked.Nothing moment entry earlier change = ⊥
AskedWrites (asked.Refused bad) moment entry earlier change = ⊥
AskedWrites (asked.Request request) moment entry earlier change = CommandWrites (env_at moment request.folder) request.command entry earlier change
AskedWrites (asked.Exchange request) moment entry earlier change = ExchangeWrites request.command request.pair entry earlier change
AskedWrites (asked.Merge request) moment entry earlier change = IsWrite request.folder (files_of (earlier ++ entry)) change
AskedWrites (asked.List request) moment entry earlier change = IsRowWrite request.folder (files_of (earlier ++ entry)) change

abbrev pub RunWrites : Call → History → List Change → Change → Type 0
RunWrites call entry earlier change = AskedWrites call.asked call.moment entry earlier change

-- the folders that arguments name stay sound
abbrev pub RunStaysSound : Asked → History → History → Type 0
RunStaysSound asked.Nothing old new = ⊤
RunStaysSound (asked.Refused bad) old new = ⊤
RunStaysSound (asked.Request request) old new = StaysSound request.folder old new
RunStaysSound (asked.Exchange request) old new = ExchangeStaysSound request.command request.pair old new
RunStaysSound (asked.Merge request) old new = StaysSound request.folder old new
RunStaysSound (asked.List request) old new = StaysSound request.folder old new
