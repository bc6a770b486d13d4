-- A folder that has a user has one after a pull into any folder.
use Rattle.std.proofs.Common.{◌≡◌, ◌≢◌, ◌++◌, ◌⊎◌, inl, inr, refl, sym, ◌∙◌, ap, subst, ℕ, false, List, Option, Some, None}
use Rattle.std.specs.Prelude.{is_some}
use Rattle.gb_text.specs.Folder.{joined}
use Rattle.gb_store.specs.Files.{Files, History, Put, files_of, written}
use Rattle.gb_store.specs.Moments.{WroteBy}
use Rattle.gb_store.specs.declared.store.Change.{Change}
use Rattle.gb_store.proofs.FrameLemmas.{written-other, written-same}
use Rattle.gb_store.proofs.MomentLemmas.{AllMoments-from_WroteBy}
use Rattle.bug_run.specs.Exchanges.{ExchangeWrites}
use Rattle.bug_run.proofs.UserStayLemmas.{last_moment}
use Rattle.remote_name.specs.declared.remote.RemoteName.{RemoteName}
use Rattle.repo_state.specs.Users.{NoUser, user_at, user_of, user_place}
use Rattle.repo_state.proofs.PlaceLemmas.{same_or_other}
use Rattle.repo_writes.specs.Kinds.{IsWrite, a_bug_head, a_clock, a_row, a_user, an_identity_head, an_object}
use Rattle.refusal_causes.proofs.ExchangeLemmas.{no_file}
use Rattle.words.specs.declared.pair.FolderPair.{FolderPair}
use Rattle.words.specs.declared.words.PeerCommand.TheVariants.{Pull}

-- ---- files that stand

-- a change puts a file
abbrev Puts : Change → Type 0
Puts change = (path bytes : List ℕ) × (change ≡ Put path bytes)

-- a file still stands after a put
stands-put : (files : Files) (change : Change) (at : List ℕ) → Puts change → (files at ≡ None → ⊥) → written files change at ≡ None → ⊥
stands-put files change at (path, bytes, is) stands = subst (λ (c : Change). written files c at ≡ None → ⊥) (sym is) (λ none. by none (same_or_other path at))
  where
    by : written files (Put path bytes) at ≡ None → (path ≡ at) ⊎ (path ≢ at) → ⊥
    by none (inl same) = cc (sym (ap (written files (Put path bytes)) (sym same) ∙ written-same files (Put path bytes)) ∙ none)
    by none (inr differ) = stands (sym (written-other files (Put path bytes) at differ) ∙ none)

-- what is written in a folder is put
write_puts : (folder : List ℕ) (files : Files) (change : Change) → IsWrite folder files change → Puts change
write_puts folder files change (an_object is) = (_, _, is.puts.write)
write_puts folder files change (an_identity_head is) = (_, _, is.write)
write_puts folder files change (a_user is) = (_, _, is.write)
write_puts folder files change (a_bug_head is) = (_, _, is.write)
write_puts folder files change (a_clock is) = (_, _, is.write)
write_puts folder files change (a_row is) = (_, _, is.write)

pull_puts : (remote : RemoteName) (pair : FolderPair) (old : History) (earlier : List Change) (change : Change) → ExchangeWrites (Pull remote) pair old earlier change → Puts change
pull_puts remote pair old earlier change (inl (inl puts)) = (_, _, puts.1.write)
pull_puts remote pair old earlier change (inl (inr head)) = (_, _, head.set.write)
pull_puts remote pair old earlier change (inr is) = write_puts pair.own (files_of (earlier ++ old)) change is

-- ---- users

-- where there is no user there is no file, and the other way
lacking : (text : Option (List ℕ)) → is_some text ≡ false → text ≡ None
lacking None e = refl
lacking (Some text) e = cc e

a_file : (files : Files) (folder : List ℕ) → (user_at files folder ≡ NoUser → ⊥) → files (joined folder user_place) ≡ None → ⊥
a_file files folder user none = user (ap (user_of files folder) none)

pub keeps_user : (remote : RemoteName) (pair : FolderPair) (old new : History) → WroteBy (ExchangeWrites (Pull remote) pair) old new → (folder : List ℕ)
    → (user_at (files_of old) folder ≡ NoUser → ⊥) → user_at (files_of new) folder ≡ NoUser → ⊥
keeps_user remote pair old new wrote folder user none =
    let at = joined folder user_place in
    (AllMoments-from_WroteBy (ExchangeWrites (Pull remote) pair) (λ (files : Files). files at ≡ None → ⊥) old new
    (λ earlier change stands is. stands-put (files_of (earlier ++ old)) change at (pull_puts remote pair old earlier change is) stands)
    (a_file (files_of old) folder user) wrote).each new (last_moment (ExchangeWrites (Pull remote) pair) old new wrote)
    (lacking (files_of new at) (no_file (files_of new) folder none))
