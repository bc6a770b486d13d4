-- What commands read, and what is printed where the output fails.
use Rattle.std.proofs.Common.{◌≡◌, ◌≤◌, ◌<◌, ◌+◌, ◌*◌, ◌^◌, ◌⊎◌, inl, inr, ◌++◌, refl, sym, subst, ℕ, List, [], ◌∷◌, length, length-append, take, Contains, Some, Result, arith}
use Rattle.std.specs.Prelude.{IsTrue}
use Rattle.std.specs.List.{flat_map}
use Rattle.gb_text.specs.declared.id.Id.{Id}
use Rattle.gb_text.specs.declared.id.Name.{Name}
use Rattle.gb_text.specs.declared.ruled.Line.{Line}
use Rattle.gb_text.specs.declared.ruled.Message.{Message}
use Rattle.gb_text.specs.declared.ruled.Title.{Title}
use Rattle.gb_store.specs.Files.{Files, History}
use Rattle.object_store.specs.Held.{objects_in}
use Rattle.commit_walk.specs.Below.{IsBelow}
use Rattle.commit_walk.specs.Distinct.{AreDistinct}
use Rattle.identity.specs.Persons.{IsChain}
use Rattle.repo_state.specs.Bugs.{FindsBug}
use Rattle.repo_state.specs.Comments.{AreSought, ReadsEachBug}
use Rattle.repo_state.specs.Sides.{AreIds}
use Rattle.repo_state.specs.Users.{user_entry}
use Rattle.repo_steps.specs.declared.refusal.Stop.{Stop}
use Rattle.repo_state.specs.declared.side.HeadEntry.{HeadEntry}
use Rattle.repo_state.specs.declared.side.Side.TheVariants as side
use Rattle.bug_edits.specs.declared.edit.BugEdit.{BugEdit}
use Rattle.words.specs.declared.edit.Edit.TheVariants as edits
use Rattle.bug_run.specs.Printed.{Printed, PrintedFront}
use Rattle.bug_run.specs.Reads.{AreBelowEach, ReadsCommand}
use Rattle.bug_run.specs.Refusals.{refusal_line, usage_text}
use Rattle.bug_run.specs.Run.{AskedAnswers, Call, RequestAnswers, RunAnswers, status_of, text_of}
use Rattle.bug_run.specs.Answer.{Answer}
use Rattle.bug_run.specs.declared.status.Refused.TheVariants.{ByWords}
use Rattle.bug_run.specs.declared.status.Status.{Status}
use Rattle.bug_run.specs.declared.status.Status.TheVariants as status
use Rattle.words.specs.declared.words.Asked.{Asked}
use Rattle.words.specs.declared.words.Asked.TheVariants as asked
use Rattle.words.specs.declared.words.BadWord.{BadWord}
use Rattle.words.specs.declared.words.Command.TheVariants as ask
use Rattle.words.specs.declared.words.Request.{Request}
use Rattle.bug_run.proofs.WordLemmas.{answered, never_by_words}

-- ---- reads

pub users_read : (files : Files) (folder : List ℕ) (before after : ℕ) → ReadsCommand files folder ask.Users ⊥ before after
    → (after ≡ before) ⊎ ((ids : List Id) × AreIds files folder side.Identities ids × (after ≤ before + 3 * length ids))
users_read files folder before after h = h

-- these are commits below the head of a bug that a word finds
abbrev AreBelow : Files → List ℕ → HeadEntry → List Name → Type 0
AreBelow files folder found commits = (name : Name) → Contains commits name → IsBelow (objects_in files folder) (found.name ∷ []) name

pub show_reads : (files : Files) (folder word : List ℕ) (before after : ℕ) → ReadsCommand files folder (ask.Show word) ⊥ before after
    → (after ≡ before)
    ⊎ ((found : HeadEntry) × (commits : List Name) × (ids : List Id) × FindsBug files folder word found × AreDistinct commits × AreBelow files folder found commits
    × ((ids ≡ []) ⊎ AreIds files folder side.Identities ids) × (after ≤ before + 3 * length commits + 3 * length ids))
show_reads files folder word before after (inl same) = inl same
show_reads files folder word before after (inr (found, finds, between, below, inl same)) =
    inr (found, below.names, [], finds, below.once, below.each, inl refl, omega (arith, below.few, same))
show_reads files folder word before after (inr (found, finds, between, below, inr (ids, are, few))) =
    inr (found, below.names, ids, finds, below.once, below.each, inr are, omega (arith, below.few, few))

pub log_reads : (files : Files) (folder word : List ℕ) (before after : ℕ) → ReadsCommand files folder (ask.Log word) ⊥ before after
    → (after ≡ before)
    ⊎ ((found : HeadEntry) × (commits : List Name) × FindsBug files folder word found × AreDistinct commits × AreBelow files folder found commits
    × (after ≤ before + 3 * length commits))
log_reads files folder word before after (inl same) = inl same
log_reads files folder word before after (inr (found, finds, below)) = inr (found, below.names, finds, below.once, below.each, below.few)

pub edit_reads : (files : Files) (folder word : List ℕ) (of_bug : BugEdit) (before after : ℕ) → ReadsCommand files folder (ask.Edit (edits.OfBug word of_bug)) ⊥ before after
    → (after ≡ before)
    ⊎ ((found : HeadEntry) × (commits : List Name) × FindsBug files folder word found × AreDistinct commits × AreBelow files folder found commits
    × (after ≤ before + 3 * length commits + 4))
edit_reads files folder word of_bug before after (inl same) = inl same
edit_reads files folder word of_bug before after (inr (found, finds, between, below, few)) =
    inr (found, below.names, finds, below.once, below.each, omega (arith, below.few, few))

-- what is read of some bugs, one after the other
each_reads : (files : Files) (folder : List ℕ) (bugs : List HeadEntry) (before after : ℕ) → ReadsEachBug files folder bugs before after
    → (commits : List (List Name)) × AreBelowEach files folder bugs commits × (after ≤ before + 3 * length (flat_map (λ (names : List Name). names) commits))
each_reads files folder [] before after same = ([], tt, omega (arith, same))
each_reads files folder (bug ∷ bugs) before after (mid, below, rest) =
    let more = each_reads files folder bugs mid after rest in
    let counted : length (below.names ++ flat_map (λ (names : List Name). names) more.0) ≡ length below.names + length (flat_map (λ (names : List Name). names) more.0) = length-append below.names (flat_map (λ (names : List Name). names) more.0) in
    (below.names ∷ more.0, (below.once, below.each, more.1), omega (arith, below.few, more.2, counted))

pub comment_reads : (files : Files) (folder word : List ℕ) (message : Message) (before after : ℕ) → ReadsCommand files folder (ask.Edit (edits.OfComment word message)) ⊥ before after
    → (bugs : List HeadEntry) × (commits : List (List Name)) × AreSought files folder word bugs × AreBelowEach files folder bugs commits
    × (after ≤ before + 3 * length (flat_map (λ (names : List Name). names) commits) + 4)
comment_reads files folder word message before after (between, (bugs, are, reads), inl same) =
    let each = each_reads files folder bugs before between reads in (bugs, each.0, are, each.1, omega (arith, each.2, same))
comment_reads files folder word message before after (between, (bugs, are, reads), inr (comment, finds, few)) =
    let each = each_reads files folder bugs before between reads in (bugs, each.0, are, each.1, omega (arith, each.2, few))

pub version_reads : (files : Files) (folder : List ℕ) (name : Title) (email : Line) (before after : ℕ) → ReadsCommand files folder (ask.Edit (edits.UserEdit name email)) ⊥ before after → after ≤ before + 3 * 2 ^ 16
version_reads files folder name email before after h = h.most

pub made_reads : (files : Files) (folder : List ℕ) (name : Title) (email : Line) (before after : ℕ) → ReadsCommand files folder (ask.Edit (edits.UserEdit name email)) (Unit {0}) before after
    → (user : HeadEntry) × (chain : IsChain (objects_in files folder) user.id user.name) × (user_entry files folder ≡ Some user) × (after ≤ before + 3 * (length chain.walk + 1))
made_reads files folder name email before after h = let read = h.made tt in (read.user, read.chain, read.is_user, read.few)

-- ---- what is printed

-- a beginning of the text was printed
abbrev IsCut : Call → List ℕ → List ℕ → List ℕ → Type 0
IsCut call text before after = (count : ℕ) × (count < length text) × (IsTrue call.sink_tells → after ≡ before ++ take count text)

cut_short : (call : Call) (text before after : List ℕ) → PrintedFront call.sink_tells text before after → IsCut call text before after
cut_short call text before after front = (front.count, front.some_left, front.printed)

-- what a sink that fails left of a text whose status is another
pub cut_of : (call : Call) (text before after : List ℕ) (told : Status) → (told ≡ status.OutFault → ⊥) → Printed call.sink_tells call.takes_memory text told before after status.OutFault
    → (count : ℕ) × (count < length text) × (IsTrue call.sink_tells → after ≡ before ++ take count text)
cut_of call text before after told other (inl h) = absurd (other (sym h.0))
cut_of call text before after told other (inr (inl (fault, front))) = cut_short call text before after front
cut_of call text before after told other (inr (inr (memory, out))) = absurd (cc (memory))

pub usage_cut : (call : Call) (old new : History) (before after : List ℕ) → call.asked ≡ asked.Nothing → RunAnswers call old new before after status.OutFault
    → (count : ℕ) × (count < length usage_text) × (IsTrue call.sink_tells → after ≡ before ++ take count usage_text)
usage_cut call old new before after asks is =
    let answers : AskedAnswers asked.Nothing call old new before after status.OutFault = subst (λ (a : Asked). AskedAnswers a call old new before after status.OutFault) asks is in
    cut_of call usage_text before after status.Usage (λ e. cc e) answers.1

pub refusal_cut : (call : Call) (old new : History) (before after : List ℕ) (bad : BadWord) → call.asked ≡ asked.Refused bad → RunAnswers call old new before after status.OutFault
    → (count : ℕ) × (count < length (refusal_line (ByWords bad))) × (IsTrue call.sink_tells → after ≡ before ++ take count (refusal_line (ByWords bad)))
refusal_cut call old new before after bad asks is =
    let answers : AskedAnswers (asked.Refused bad) call old new before after status.OutFault = subst (λ (a : Asked). AskedAnswers a call old new before after status.OutFault) asks is in
    cut_of call (refusal_line (ByWords bad)) before after (status.Refused (ByWords bad)) (λ e. cc e) answers.1

pub command_cut : (call : Call) (old new : History) (before after : List ℕ) (request : Request) → call.asked ≡ asked.Request request → RunAnswers call old new before after status.OutFault
    → (result : Result Answer Stop) × (count : ℕ) × RequestAnswers call.store_tells request call.moment old new result × (count < length (text_of result))
    × (IsTrue call.sink_tells → after ≡ before ++ take count (text_of result))
command_cut call old new before after request asks is =
    let a = answered call request old new before after status.OutFault asks is in
    let cut = cut_of call (text_of a.result) before after (status_of a.result) (never_by_words a.result).2 a.printed in
    (a.result, cut.0, a.done, cut.1, cut.2)

pub done_whole : (call : Call) (old new : History) (before after : List ℕ) (request : Request) → call.asked ≡ asked.Request request → RunAnswers call old new before after status.Done
    → (result : Result Answer Stop) × RequestAnswers call.store_tells request call.moment old new result × (IsTrue call.sink_tells → after ≡ before ++ text_of result)
done_whole call old new before after request asks is =
    let a = answered call request old new before after status.Done asks is in
    (a.result, a.done, whole (text_of a.result) (status_of a.result) a.printed)
  where
    whole : (text : List ℕ) (told : Status) → Printed call.sink_tells call.takes_memory text told before after status.Done → IsTrue call.sink_tells → after ≡ before ++ text
    whole text told (inl h) = h.1
    whole text told (inr (inl h)) = absurd (cc (h.0))
    whole text told (inr (inr h)) = absurd (cc (h.0))
