-- Commands that are the same but for a word have the same answers, where the words find the same.
use Rattle.std.proofs.Common.{◌≡◌, ◌∙◌, ◌++◌, ℕ, inl, inr, List, [], ◌∷◌, reverse, Result, Ok, Err, refl, sym, ap, subst}
use Rattle.std.specs.Prelude.{⊤}
use Rattle.gb_text.specs.declared.id.Id.{Id}
use Rattle.gb_store.specs.Files.{Files, History, files_of}
use Rattle.gb_store.specs.Moments.{WroteSome}
use Rattle.gb_store.specs.declared.store.Change.{Change}
use Rattle.gb_text.specs.declared.ruled.Message.{Message}
use Rattle.bug_edits.specs.EditTable.{edit_op}
use Rattle.bug_edits.specs.NewOps.{edited_comment_op}
use Rattle.bug_edits.specs.declared.edit.BugEdit.{BugEdit}
use Rattle.bug_edits.specs.declared.edit.NoChange.{NoChange}
use Rattle.bug_ops.specs.declared.op.BugOp.{BugOp}
use Rattle.bug_ops.specs.declared.snapshot.Snapshot.{Snapshot}
use Rattle.repo_state.specs.Bugs.{FindsBug}
use Rattle.repo_state.specs.Finds.{Finder, Many, Nothing, One, bug_finder, person_finder}
use Rattle.repo_state.specs.declared.side.HeadEntry.{HeadEntry}
use Rattle.repo_state.specs.declared.side.Side.TheVariants as side
use Rattle.repo_state.specs.declared.stop.FindStop.{FindStop}
use Rattle.repo_state.specs.declared.stop.FindStop.TheVariants as find
use Rattle.repo_state.specs.declared.stop.Missed.{Missed}
use Rattle.repo_state.specs.declared.stop.Missed.TheVariants as missed
use Rattle.repo_steps.specs.Answers.{DoingAnswers, IsStopped}
use Rattle.repo_steps.specs.BugDoings.{Growth, HasFound, bug_of_comment, comment_growth, edit_growth, longer_bug}
use Rattle.repo_steps.specs.Checks.{AllPass, Check, FirstFails}
use Rattle.repo_steps.specs.Doing.{Doing, found}
use Rattle.repo_steps.specs.PeopleDoings.{set_user}
use Rattle.repo_steps.specs.declared.env.Env.{Env}
use Rattle.repo_steps.specs.declared.refusal.Refusal.{Refusal}
use Rattle.repo_steps.specs.declared.refusal.Stop.{Stop}
use Rattle.repo_steps.specs.declared.refusal.Stop.TheVariants as stop
use Rattle.repo_view.specs.Log.{LogAnswers}
use Rattle.repo_view.specs.Shown.{ShowAnswers}
use Rattle.words.specs.declared.edit.Edit.TheVariants as edits
use Rattle.bug_run.specs.Alike.{FindsAlike, FindsCommentAlike}
use Rattle.bug_run.specs.Answer.{Answer}
use Rattle.bug_run.specs.Run.{EditTells, TextFound}

-- ---- commands that read

text_alike : (Here There : Result (List ℕ) FindStop → Type 0) → ((r : Result (List ℕ) FindStop) → Here r → There r) → (result : Result Answer Stop) → TextFound Here result → TextFound There result
text_alike Here There same (Ok answer) is = (same (Ok answer.text) is.0, is.1)
text_alike Here There same (Err stop.Memory) is = tt
text_alike Here There same (Err stop.Disk) is = tt
text_alike Here There same (Err (stop.Refused r)) (why, missed, told) = (why, same (Err (find.Missed why)) missed, told)

module _ (files : Files) (folder word other : List ℕ) (same : FindsAlike files folder side.Bugs word other) where
  finds : (bug : HeadEntry) → FindsBug files folder word bug → FindsBug files folder other bug
  finds bug is = record { found = same (One bug.id) is.found; head = is.head }

  show_found : (r : Result (List ℕ) FindStop) → ShowAnswers files folder word r → ShowAnswers files folder other r
  show_found (Ok text) (bug, is, shown) = (bug, finds bug is, shown)
  show_found (Err find.Memory) is = tt
  show_found (Err find.Disk) is = tt
  show_found (Err (find.Missed missed.NotFound)) none = same Nothing none
  show_found (Err (find.Missed (missed.Ambiguous least next))) many = same (Many least next) many
  show_found (Err (find.Missed (missed.Damaged path))) (inl (id, is, at, wrong)) = inl (id, same (One id) is, at, wrong)
  show_found (Err (find.Missed (missed.Damaged path))) (inr (bug, is, entity, is_bug, bad)) = inr (bug, finds bug is, entity, is_bug, bad)

  log_found : (r : Result (List ℕ) FindStop) → LogAnswers files folder word r → LogAnswers files folder other r
  log_found (Ok text) (bug, is, log) = (bug, finds bug is, log)
  log_found (Err find.Memory) is = tt
  log_found (Err find.Disk) is = tt
  log_found (Err (find.Missed missed.NotFound)) none = same Nothing none
  log_found (Err (find.Missed (missed.Ambiguous least next))) many = same (Many least next) many
  log_found (Err (find.Missed (missed.Damaged path))) (id, is, at, wrong) = (id, same (One id) is, at, wrong)

  pub show_alike : (result : Result Answer Stop) → TextFound (ShowAnswers files folder word) result → TextFound (ShowAnswers files folder other) result
  show_alike = text_alike (ShowAnswers files folder word) (ShowAnswers files folder other) show_found

  pub log_alike : (result : Result Answer Stop) → TextFound (LogAnswers files folder word) result → TextFound (LogAnswers files folder other) result
  log_alike = text_alike (LogAnswers files folder word) (LogAnswers files folder other) log_found

-- ---- checks

-- where one check fails or passes so does the other
record Follows (one other : Check) : Type 0 where
  fails : (r : Refusal) → one.Fails r → other.Fails r
  passes : one.Passes → other.Passes

itself : (check : Check) → Follows check check
itself check = record { fails = λ r is. is; passes = λ is. is }

-- each check of a list follows the one beside it
abbrev AllFollow : List Check → List Check → Type 0
AllFollow [] [] = ⊤
AllFollow (one ∷ ones) (other ∷ others) = Follows one other × AllFollow ones others
AllFollow _ _ = ⊥

first_follows : (ones others : List Check) (r : Refusal) → AllFollow ones others → FirstFails ones r → FirstFails others r
first_follows [] [] r all fails = fails
first_follows [] (other ∷ others) r all fails = absurd all
first_follows (one ∷ ones) [] r all fails = absurd all
first_follows (one ∷ ones) (other ∷ others) r all (inl fails) = inl (all.0.fails r fails)
first_follows (one ∷ ones) (other ∷ others) r all (inr later) = inr (all.0.passes later.0, first_follows ones others r all.1 later.1)

passing_follows : (ones others : List Check) → AllFollow ones others → AllPass ones → AllPass others
passing_follows [] [] all passes = tt
passing_follows [] (other ∷ others) all passes = absurd all
passing_follows (one ∷ ones) [] all passes = absurd all
passing_follows (one ∷ ones) (other ∷ others) all passes = (all.0.passes passes.0, passing_follows ones others all.1 passes.1)

-- ---- commands that edit

module _ (one other : Doing) (all : AllFollow one.checks other.checks) (writes : one.writes ≡ other.writes) (told : one.told ≡ other.told) (old new : History) where
  stopped_alike : IsStopped one old new → IsStopped other old new
  stopped_alike (inl same) = inl same
  stopped_alike (inr (may, wrote)) = inr (passing_follows one.checks other.checks all may, subst (λ (ws : List Change). WroteSome ws old new) writes wrote)

  doing_alike : (r : Result Id Stop) → DoingAnswers one old new r → DoingAnswers other old new r
  doing_alike (Ok id) is = record {
    may = passing_follows one.checks other.checks all is.may;
    writes = is.writes ∙ ap (λ (ws : List Change). reverse ws ++ old) writes;
    told = sym told ∙ is.told;
  }
  doing_alike (Err stop.Memory) is = stopped_alike is
  doing_alike (Err stop.Disk) is = stopped_alike is
  doing_alike (Err (stop.Refused r)) (fails, same) = (first_follows one.checks other.checks r all fails, same)

-- what finds the same is checked alike
found_follows : {T : Type 0} (one other : Finder T) (value : T) → ((value : T) → one.Found value → other.Found value) → ((why : Missed) → one.Fails why → other.Fails why)
    → Follows (found one value) (found other value)
found_follows one other value finds misses = record { fails = λ r is. (is.0, misses is.0 is.1, is.2); passes = finds value }

-- what adds the same to the bug that it finds is checked alike
module _ (env : Env) (old : History) (one other : Files → Finder HeadEntry) (adds : Snapshot → Result BugOp NoChange)
    (found_too : (bug : HeadEntry) → (one (files_of old)).Found bug → (other (files_of old)).Found bug) (missed_too : (why : Missed) → (one (files_of old)).Fails why → (other (files_of old)).Fails why) where
  abbrev first : Growth
  first = record { finder = one; adds = adds }

  abbrev second : Growth
  second = record { finder = other; adds = adds }

  has : HasFound env.folder (files_of old) (one (files_of old)) → HasFound env.folder (files_of old) (other (files_of old))
  has it = record { bug = it.bug; finds = found_too it.bug it.finds; entity = it.entity; is = it.is }

  bug_follows : (bug : HeadEntry) (op : BugOp) → AllFollow (longer_bug env first bug op old).checks (longer_bug env second bug op old).checks
  unfolding has
  bug_follows bug op =
      (itself _, (itself _, (found_follows (one (files_of old)) (other (files_of old)) bug found_too missed_too, (itself _, (record { fails = λ r is. (has is.0, is.1, is.2, is.3); passes = λ is. (has is.0, is.1) }, (record { fails = λ r is. (has is.0, is.1, is.2); passes = λ is. (has is.0, is.1) }, (record { fails = λ r is. (has is.0, is.1, is.2); passes = λ is. (has is.0, is.1) }, (itself _, (record { fails = λ r is. (has is.0, is.1, is.2); passes = λ is. (has is.0, is.1) }, (itself _, tt))))))))))

  longer_alike : (bug : HeadEntry) (op : BugOp) (new : History) (r : Result Id Stop) → DoingAnswers (longer_bug env first bug op old) old new r → DoingAnswers (longer_bug env second bug op old) old new r
  longer_alike bug op new r is = doing_alike (longer_bug env first bug op old) (longer_bug env second bug op old) (bug_follows bug op) refl refl old new r is

module _ (env : Env) (word other : List ℕ) (old : History) where
  abbrev files : Files
  files = files_of old

  module _ (same : FindsAlike files env.folder side.Bugs word other) where
    bug_missed : (why : Missed) → (bug_finder files env.folder word).Fails why → (bug_finder files env.folder other).Fails why
    bug_missed missed.NotFound none = same Nothing none
    bug_missed (missed.Ambiguous least next) many = same (Many least next) many
    bug_missed (missed.Damaged path) (id, is, bad) = (id, same (One id) is, bad)

    each_alike : (edit : BugEdit) (bug : HeadEntry) (op : BugOp) (new : History) (r : Result Id Stop) → DoingAnswers (longer_bug env (edit_growth env edit word) bug op old) old new r
        → DoingAnswers (longer_bug env (edit_growth env edit other) bug op old) old new r
    each_alike edit = longer_alike env old (λ f. bug_finder f env.folder word) (λ f. bug_finder f env.folder other) (edit_op env.moment edit) (finds files env.folder word other same) bug_missed

    pub edit_alike : (edit : BugEdit) (new : History) (result : Result Answer Stop) → EditTells env (edits.OfBug word edit) old new result → EditTells env (edits.OfBug other edit) old new result
    edit_alike edit new (Ok answer) (id, (picked, is), told) = (id, (picked, each_alike edit picked.bug picked.op new (Ok id) is), told)
    edit_alike edit new (Err s) (picked, is) = (picked, each_alike edit picked.bug picked.op new (Err s) is)

  module _ (same : FindsCommentAlike files env.folder word other) where
    comment_each_alike : (message : Message) (comment : Id) (bug : HeadEntry) (op : BugOp) (new : History) (r : Result Id Stop) → DoingAnswers (longer_bug env (comment_growth env message word comment) bug op old) old new r
        → DoingAnswers (longer_bug env (comment_growth env message other comment) bug op old) old new r
    comment_each_alike message comment = longer_alike env old (λ f. bug_of_comment f env.folder word comment) (λ f. bug_of_comment f env.folder other comment)
        (λ bug. Ok (edited_comment_op env.moment comment message)) (λ bug is. same.found (record { bug = bug; comment = comment }) is) same.missed

    pub comment_alike : (message : Message) (new : History) (result : Result Answer Stop) → EditTells env (edits.OfComment word message) old new result → EditTells env (edits.OfComment other message) old new result
    comment_alike message new (Ok answer) (id, (picked, is), told) = (id, (picked, comment_each_alike message picked.comment picked.bug picked.op new (Ok id) is), told)
    comment_alike message new (Err s) (picked, is) = (picked, comment_each_alike message picked.comment picked.bug picked.op new (Err s) is)

  module _ (same : FindsAlike files env.folder side.Identities word other) where
    person_missed : (why : Missed) → (person_finder files env.folder word).Fails why → (person_finder files env.folder other).Fails why
    person_missed missed.NotFound none = same Nothing none
    person_missed (missed.Ambiguous least next) many = same (Many least next) many
    person_missed (missed.Damaged path) never = never

    person_follows : (person : Id) → AllFollow (set_user env word person old).checks (set_user env other person old).checks
    person_follows person = (found_follows (person_finder files env.folder word) (person_finder files env.folder other) person (λ id. same (One id)) person_missed, tt)

    pub user_alike : (new : History) (result : Result Answer Stop) → EditTells env (edits.UserSet word) old new result → EditTells env (edits.UserSet other) old new result
    user_alike new (Ok answer) (id, (picked, is), told) =
        (id, (picked, doing_alike (set_user env word picked.person old) (set_user env other picked.person old) (person_follows picked.person) refl refl old new (Ok id) is), told)
    user_alike new (Err s) (picked, is) =
        (picked, doing_alike (set_user env word picked.person old) (set_user env other picked.person old) (person_follows picked.person) refl refl old new (Err s) is)
