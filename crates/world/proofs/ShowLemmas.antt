-- A run that shows a bug writes nothing.
use Rattle.std.proofs.Common.{◌≡◌, ◌≢◌, ℕ, List, [], ◌∷◌, ◌++◌, codes, get_or, Option, Some, None, Ok, subst, replicate}
use Rattle.std.specs.Prelude.{pos}
use Rattle.hex.specs.Hex.{encode_lower}
use Rattle.gb_text.specs.Folder.{folder_of}
use Rattle.gb_text.specs.declared.id.Id.{Id}
use Rattle.gb_store.specs.Files.{History}
use Rattle.gb_store.specs.Moments.{EachWrite, WroteBy}
use Rattle.gb_store.specs.declared.store.Change.{Change}
use Rattle.bug_edits.specs.declared.moment.Moment.{Moment}
use Rattle.bug_run.specs.Run.{AskedWrites, RunWrites}
use Rattle.bug_run.specs.declared.status.Status.{Status}
use Rattle.bug_run.specs.declared.status.Status.TheVariants as status
use Rattle.words.specs.Arguments.{arguments_of}
use Rattle.words.specs.Words.{asked_in}
use Rattle.words.specs.declared.words.Command.TheVariants.{Show}
use Rattle.words.proofs.AskLemmas.{asked_from}
use Rattle.world.specs.Plays.{IsAt, IsRun, call_with}
use Rattle.world.specs.Shown.{Shows, show_words}

-- a request to show a bug may write nothing
no_write_in : (folder : Option (List ℕ)) (bug : List ℕ) (moment : Moment) (entry : History) (earlier : List Change) (change : Change)
    → AskedWrites (asked_in folder (Ok (Show bug))) moment entry earlier change → ⊥
no_write_in None bug moment entry earlier change may = may
no_write_in (Some folder) bug moment entry earlier change may = may

no_write : (folder : List ℕ) (given : Option (List (List ℕ))) (moment : Moment) (entry : History) (earlier : List Change) (change : Change)
    → AskedWrites (asked_from folder (codes "show") given) moment entry earlier change → ⊥
no_write folder None moment entry earlier change may = may
no_write folder (Some []) moment entry earlier change may = may
no_write folder (Some (bug ∷ [])) moment entry earlier change may = no_write_in (folder_of folder) bug moment entry earlier change may
no_write folder (Some (bug ∷ other ∷ more)) moment entry earlier change may = may

-- a rule that allows nothing lets nothing be written
none_written : (Rule : History → List Change → Change → Type 0) (old new : History) → ((earlier : List Change) (change : Change) → Rule old earlier change → ⊥)
    → (writes : List Change) → EachWrite Rule old writes → new ≡ writes ++ old → new ≡ old
none_written Rule old new never [] each grew = grew
none_written Rule old new never (change ∷ earlier) each grew = absurd (never earlier change each.1)

pub show_writes_nothing : (folder : ℕ) (bug : Id) (words : List (List ℕ)) (moment : Moment) (old new : History) → words ≡ show_words folder bug
    → WroteBy (RunWrites (call_with words moment)) old new → new ≡ old
show_writes_nothing folder bug words moment old new are wrote =
    let word = show_words folder bug in
    let by = subst (λ (ws : List (List ℕ)). WroteBy (RunWrites (call_with ws moment)) old new) are wrote in
    none_written (RunWrites (call_with word moment)) old new
    (λ earlier change may. no_write (get_or word 0 []) (arguments_of (encode_lower bug.bytes ∷ [])) moment old earlier change may) by.writes by.each by.grew

-- what was printed is what the folder shows
pub shows : (folder : ℕ) (bug : Id) (words : List (List ℕ)) (moment : Moment) (old new : History) (text : List ℕ) (answer : Status) → words ≡ show_words folder bug
    → IsAt (pos 0) (replicate 32 0) moment → answer ≢ status.Memory → (answer ≢ status.Memory → IsRun words moment old new text answer) → new ≡ old → Shows old folder bug text
shows folder bug words moment old new text answer are at memory runs same = record {
  moment = moment;
  at = at;
  answer = answer;
  runs = subst (λ (h : History). IsRun (show_words folder bug) moment old h text answer) same (subst (λ (ws : List (List ℕ)). IsRun ws moment old new text answer) are (runs memory));
}
