-- What a pull answers: a fetch, and then a merge of what was fetched.
use Rattle.std.specs.Prelude.{◌≡◌, ◌⊎◌, ℕ, List, Result, Ok, Err}
use Rattle.gb_text.specs.declared.id.Id.{Id}
use Rattle.gb_store.specs.Files.{History, files_of}
use Rattle.remote_name.specs.declared.remote.RemoteName.{RemoteName}
use Rattle.repo_state.specs.Users.{User, user_at}
use Rattle.repo_state.specs.declared.stop.ReadStop.{ReadStop}
use Rattle.sync_steps.specs.Fetching.{FetchAnswers}
use Rattle.sync_steps.specs.declared.line.Line.{Line}
use Rattle.merge_steps.specs.Stops.{stop_of_read}
use Rattle.merge_steps.specs.Turns.{MergeAnswers, NotBegun}
use Rattle.merge_steps.specs.declared.line.Pulled.{Pulled}
use Rattle.merge_steps.specs.declared.stop.MergeStop.{MergeStop}

module _ (own peer : List ℕ) (remote : RemoteName) (now : ℕ) where
  -- there was a user, a fetch was done, and then a merge answered
  pub record MergedThen (old new : History) (fetched : List Line) (Merges : History → History → Type 0) : Type 0 where
    pub user : Id
    pub is_user : user_at (files_of old) own ≡ User user
    pub mid : History
    pub first : FetchAnswers own peer remote old mid (Ok fetched)
    pub then : Merges mid new

  -- there was a user, and the fetch ended the pull
  pub record EndedByFetch (old new : History) (why : MergeStop) : Type 0 where
    pub user : Id
    pub is_user : user_at (files_of old) own ≡ User user
    pub stop : ReadStop
    pub is_why : why ≡ stop_of_read stop
    pub ended : FetchAnswers own peer remote old new (Err stop)

  -- The answer of a pull: the lines of both. It asks for the user before it fetches; what a fetch or a merge ends keeps what was done before.
  abbrev pub PullAnswers : History → History → Result Pulled MergeStop → Type 0
  PullAnswers old new (Ok pulled) = MergedThen old new pulled.fetched (λ mid end. MergeAnswers own remote now mid end (Ok pulled.merged))
  PullAnswers old new (Err why) =
      NotBegun own remote now why old new
      ⊎ EndedByFetch old new why
      ⊎ ((fetched : List Line) × MergedThen old new fetched (λ mid end. MergeAnswers own remote now mid end (Err why)))
