-- From the same files and arguments a command that reads is missed or damaged in one way.
use Rattle.std.proofs.Common.{◌≡◌, ℕ, inl, inr, List, Err, sym, ◌∙◌, ap}
use Rattle.gb_text.specs.Folder.{joined}
use Rattle.gb_text.specs.declared.id.Id.{Id}
use Rattle.gb_store.specs.Files.{Files}
use Rattle.repo_state.specs.Finds.{Finds, One}
use Rattle.repo_state.specs.Sides.{ref_place}
use Rattle.repo_state.specs.declared.side.Side.TheVariants as side
use Rattle.repo_state.specs.declared.stop.FindStop.TheVariants as stop
use Rattle.repo_state.specs.declared.stop.Missed.{Missed}
use Rattle.repo_state.specs.declared.stop.Missed.TheVariants as missed
use Rattle.repo_state.specs.declared.stop.ReadStop.TheVariants as read
use Rattle.repo_state.proofs.FoundLemmas.{finds_the_same, one_missed}
use Rattle.repo_view.specs.Log.{LogAnswers}
use Rattle.repo_view.specs.Shown.{ShowAnswers, UsersAnswers}
use Rattle.repo_view.proofs.PeopleLemmas.{no_bad_among, one_bad_person}
use Rattle.repo_view.proofs.ShownLemmas.{bug_told_first}

module _ (files : Files) (folder word : List ℕ) where
  -- ---- `log`

  abbrev LogMisses : Missed → Type 0
  LogMisses why = LogAnswers files folder word (Err (stop.Missed why))

  one_log_path : (one two : List ℕ) → LogMisses (missed.Damaged one) → LogMisses (missed.Damaged two) → one ≡ two
  one_log_path one two (id, found, at, wrong) (other, also, there, damaged) =
      at ∙ ap (λ (bug : Id). joined folder (ref_place side.Bugs bug)) (finds_the_same id other found also) ∙ sym there

  pub one_log_missed : (one two : Missed) → LogMisses one → LogMisses two → one ≡ two
  one_log_missed = one_missed LogMisses (λ none. none) (λ least next many. many) one_log_path (λ path damaged. (damaged.0, damaged.1))

  -- ---- `show`

  abbrev ShowMisses : Missed → Type 0
  ShowMisses why = ShowAnswers files folder word (Err (stop.Missed why))

  one_show_path : (one two : List ℕ) → ShowMisses (missed.Damaged one) → ShowMisses (missed.Damaged two) → one ≡ two
  one_show_path one two (inl (id, found, at, wrong)) second = at ∙ sym (bug_told_first files folder word two id found wrong second)
  one_show_path one two first (inl (id, found, at, wrong)) = bug_told_first files folder word one id found wrong first ∙ sym at
  one_show_path one two (inr first) (inr second) = one_bad_person files folder one two first.4 second.4

  -- the word finds the bug that is told, or that is shown but for a person
  show_finds : (path : List ℕ) → ShowMisses (missed.Damaged path) → (id : Id) × Finds files folder side.Bugs word (One id)
  show_finds path (inl told) = (told.0, told.1)
  show_finds path (inr told) = ((told.0).id, told.1.found)

  pub one_show_missed : (one two : Missed) → ShowMisses one → ShowMisses two → one ≡ two
  one_show_missed = one_missed ShowMisses (λ none. none) (λ least next many. many) one_show_path show_finds

module _ (files : Files) (folder : List ℕ) where
  -- ---- `users`

  pub one_users_damage : (one two : List ℕ) → UsersAnswers files folder (Err (read.Damaged one)) → UsersAnswers files folder (Err (read.Damaged two)) → one ≡ two
  one_users_damage one two (inl first) (inl second) = one_bad_person files folder one two first second
  one_users_damage one two (inl first) (inr (people, are, user)) = absurd (no_bad_among files folder one people are first)
  one_users_damage one two (inr (people, are, user)) (inl second) = absurd (no_bad_among files folder two people are second)
  one_users_damage one two (inr first) (inr second) = first.2.0 ∙ sym second.2.0
