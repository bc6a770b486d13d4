-- A list is refused for damage, and for nothing else.
use Rattle.std.proofs.Common.{◌≡◌, inl, inr, ℕ, true, IsTrue, List, [], ◌∷◌, Contains, Result, Ok, Err, subst, arith}
use Rattle.gb_store.specs.Files.{Files, History, files_of}
use Rattle.object_batch.proofs.ClashLemmas.{Contains-cons_cases}
use Rattle.bug_ops.specs.declared.snapshot.Excerpt.{Excerpt}
use Rattle.ref_store.specs.Refs.{packed_reads}
use Rattle.repo_lists.specs.Lists.{ListsRows}
use Rattle.repo_rows.specs.Rows.{AllRows, IsRow}
use Rattle.repo_state.specs.declared.side.HeadEntry.{HeadEntry}
use Rattle.repo_steps.specs.declared.refusal.Refusal.{Refusal}
use Rattle.repo_steps.specs.declared.refusal.Stop.{Stop}
use Rattle.repo_steps.specs.declared.refusal.Stop.TheVariants as stop
use Rattle.repo_view.proofs.PeopleLemmas.{no_bad_among}
use Rattle.bug_run.specs.Answer.{Answer}
use Rattle.bug_run.specs.Looks.{Guarded, first_unread}
use Rattle.bug_run.specs.Run.{AskedAnswers, Call, ListTold, RunAnswers, status_of, text_of}
use Rattle.bug_run.specs.declared.status.Refused.TheVariants.{ByCommand}
use Rattle.bug_run.specs.declared.status.Status.{Status}
use Rattle.bug_run.specs.declared.status.Status.TheVariants as status
use Rattle.bug_run.proofs.LookLemmas.{look_done, refused_by}
use Rattle.bug_run.proofs.WordLemmas.{printed_told}
use Rattle.words.specs.declared.list.ListRequest.{ListRequest}
use Rattle.words.specs.declared.words.Asked.{Asked}
use Rattle.words.specs.declared.words.Asked.TheVariants as asked
use Rattle.refusal_causes.specs.Causes.{IsRefusedOrFault, IsRefusedSo, IsUnread, LooksFirst}
use Rattle.refusal_causes.specs.ListCauses.{BarsLists, ListDamage}
use Rattle.refusal_causes.proofs.ExchangeLemmas.{one_told, unread_told}
use Rattle.refusal_causes.proofs.RequestLemmas.{looked_cause, refused_told, refused_was, unread_first}

-- each of some bugs has a row
row_of : (files : Files) (folder : List ℕ) (bugs : List HeadEntry) (rows : List Excerpt) (bug : HeadEntry) → AllRows files folder bugs rows → Contains bugs bug → (row : Excerpt) × IsRow files folder bug row
row_of files folder [] rows bug all has = absurd (omega (arith, has.1))
row_of files folder (b ∷ bs) [] bug all has = absurd all
row_of files folder (b ∷ bs) (r ∷ rs) bug all has = elim (Contains-cons_cases b bs bug has) [
  | inl same ↦ subst (λ (x : HeadEntry). (row : Excerpt) × IsRow files folder x row) same (r, all.0)
  | inr later ↦ row_of files folder bs rs bug all.1 later
]

module _ (request : ListRequest) (old new : History) where
  abbrev Guards : Result Answer Stop → Type 0
  Guards = Guarded (first_unread (files_of old) (request.folder ∷ [])) (ListTold request old new) old new

  list_damage : (r : Refusal) → ListTold request old new (Err (stop.Refused r)) → ListDamage (files_of old) request.folder r
  list_damage r ((path, damaged, told), wrote) = (path, damaged, told)

  barred : (text : List ℕ) → BarsLists (files_of old) request.folder → ListsRows request.folder request.layout request.query old new text → ⊥
  barred text (inl (path, bad)) is = no_bad_among (files_of old) request.folder path is.people is.are_people bad
  barred text (inr (id, is_id, inl bad)) is = is.are_heads.none_bad id is_id bad
  barred text (inr (id, is_id, inr (true_rows, (head, at, wrong)))) is =
      let bug : HeadEntry = record { id = id; name = head } in
      let row = row_of (files_of old) request.folder is.heads is.rows bug (is.all true_rows) ((is.are_heads.members bug).1 (is_id, at)) in
      wrong row.1.no_fault

  never : BarsLists (files_of old) request.folder → (said : Answer) → Guards (Ok said) → ⊥
  never bars said (inl none) = none.0
  never bars said (inr done) = barred said.text bars done.1.0.0

module _ (call : Call) (old new : History) (before after : List ℕ) (request : ListRequest) (tells : IsTrue call.store_tells) (asks : call.asked ≡ asked.List request) where
  answers_of : (answer : Status) → RunAnswers call old new before after answer → AskedAnswers (asked.List request) call old new before after answer
  answers_of answer is = subst (λ (a : Asked). AskedAnswers a call old new before after answer) asks is

  pub list_cause : (r : Refusal) → RunAnswers call old new before after (status.Refused (ByCommand r)) → LooksFirst (files_of old) request.folder (ListDamage (files_of old) request.folder) r
  list_cause r is =
      let a = answers_of (status.Refused (ByCommand r)) is in
      let was = refused_was call.sink_tells call.takes_memory before after a.0 r a.2 in
      looked_cause (files_of old) request.folder (ListTold request old new) (ListDamage (files_of old) request.folder) old new (list_damage request old new) r (subst (Guards request old new) was (a.1 tells))

  pub list_unread : (answer : Status) (r : Refusal) → IsUnread (files_of old) request.folder r → RunAnswers call old new before after answer → IsRefusedOrFault r answer
  list_unread answer r unread is =
      let a = answers_of answer is in
      let told = printed_told call (text_of a.0) before after (status_of a.0) answer a.2 in
      one_told r answer
      (unread_told (first_unread (files_of old) (request.folder ∷ [])) (ListTold request old new) old new request.folder (unread_first (files_of old) request.folder unread.0) r unread.1 a.0 answer (a.1 tells) told)

  pub list_refused : (answer : Status) → packed_reads (files_of old) request.folder ≡ true → BarsLists (files_of old) request.folder → RunAnswers call old new before after answer
      → IsRefusedSo (ListDamage (files_of old) request.folder) answer
  list_refused answer reads bars is =
      let a = answers_of answer is in
      let told = printed_told call (text_of a.0) before after (status_of a.0) answer a.2 in
      refused_told (ListDamage (files_of old) request.folder) a.0 answer (λ said e. never request old new bars said (subst (Guards request old new) e (a.1 tells)))
      (λ s e. list_damage request old new s
      (refused_by (first_unread (files_of old) (request.folder ∷ [])) (ListTold request old new) old new (look_done (files_of old) request.folder reads) s (subst (Guards request old new) e (a.1 tells)))) told
