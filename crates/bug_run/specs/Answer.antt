-- What a command answers where it is done.
use Rattle.std.specs.Prelude.{ℕ, List}
use Rattle.repo_state.specs.Users.{id_line}
use Rattle.bug_run.specs.declared.answer.Source.{Source}
use Rattle.bug_run.specs.declared.answer.Source.TheVariants as source

-- the text that it prints, and how many of its lines tell refusals
pub record Answer : Type 0 where
  pub text : List ℕ
  pub refused : ℕ

abbrev pub text_from : Source → List ℕ
text_from (source.Text text) = text
text_from (source.Line id) = id_line id
