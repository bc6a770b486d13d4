-- The heads of an identity that has a home do not diverge.
use Rattle.std.proofs.Common.{inl, inr, sym, subst, ℕ, List, [], ◌∷◌, Contains}
use Rattle.gb_text.specs.Digits.{IsId}
use Rattle.gb_text.specs.declared.id.Id.{Id}
use Rattle.gb_text.specs.declared.id.Name.{Name}
use Rattle.gb_store.specs.Files.{History, files_of}
use Rattle.git_object.specs.declared.frame.Kind.TheVariants as kinds
use Rattle.object_store.specs.Held.{Objects, objects_in}
use Rattle.object_batch.specs.Needs.{IsHeldAs}
use Rattle.commit_walk.specs.Below.{IsBelow}
use Rattle.commit_walk.proofs.DistinctLemmas.{Contains-one}
use Rattle.identity.specs.Persons.{IsChain}
use Rattle.repo_state.specs.Sound.{IsSoundIdentity}
use Rattle.repo_state.specs.Sound as parts
use Rattle.repo_state.specs.declared.side.Side.TheVariants as side
use Rattle.bug_run.specs.Runs.{AreAllSound, AreApart}
use Rattle.full_exchanges.specs.Having.{HaveOneTextEach}
use Rattle.full_exchanges.proofs.HasLemmas.{head_held}
use Rattle.exchange_runs.specs.Takes.{RunsAmong}
use Rattle.operation_origins.proofs.OnceLemmas.{before_sound}
use Rattle.identity_runs.specs.Heads.{AreInLine, IsHome, IsThere, NoneDiverge, NoneDivergeInOne}
use Rattle.identity_runs.specs.Homes.{AreEditedAtHome, AreMadeOnce}
use Rattle.identity_runs.proofs.ChainLemmas.{below_held, below_over, in_line}
use Rattle.identity_runs.proofs.HomeLemmas.{home_of}

-- a head that is in one of some folders is in them
abbrev wide : (folders : List (List ℕ)) (folder : List ℕ) → Contains folders folder → (files : History) (id : Id) (head : Name) → IsThere (files_of files) (folder ∷ []) id head → IsThere (files_of files) folders id head
wide folders folder is files id head there = record {
  folder = there.folder;
  is = subst (Contains folders) (Contains-one folder there.folder there.is) is;
  of = there.of;
  of_people = there.of_people;
  is_head = there.is_head;
}

module _ (folders : List (List ℕ)) (new : History) (sound : AreAllSound folders (files_of new)) (id : Id) (is_id : IsId id) where
  -- a head is held where it is
  there_held : (head : Name) (there : IsThere (files_of new) folders id head) → IsHeldAs (objects_in (files_of new) there.folder) head kinds.Commit
  there_held head there = head_held (files_of new) there.folder there.of id head (sound there.folder there.is) is_id there.is_head

  module _ (home : List ℕ) (is : IsHome (files_of new) folders id home) where
    abbrev held : Objects
    held = objects_in (files_of new) home

    chain : IsChain held id is.top
    chain = subst (IsSoundIdentity held id) is.is_top (sound home is.is parts.Identities id is_id)

    -- at home two heads are in line
    pub home_line : (one two : Name) → IsThere (files_of new) folders id one → IsThere (files_of new) folders id two → AreInLine held one two
    home_line one two here there = in_line held id is.top chain one two (is.below one here) (is.below two there)

    -- and home holds each
    home_holds : (one : Name) → IsThere (files_of new) folders id one → IsHeldAs held one kinds.Commit
    home_holds one here = below_held held (sound home is.is parts.Objects).whole is.top (head_held (files_of new) home side.Identities id is.top (sound home is.is) is_id is.is_top) one (is.below one here)

    -- so they are in line in each folder that has both
    pub folder_line : HaveOneTextEach (files_of new) folders → (folder : List ℕ) → Contains folders folder → (one two : Name) → IsThere (files_of new) (folder ∷ []) id one → IsThere (files_of new) (folder ∷ []) id two
        → AreInLine (objects_in (files_of new) folder) one two
    folder_line one_text folder is_one one two here there = elim (home_line one two (in_all one here) (in_all two there)) [
      | inl below ↦ inl (over one here two below)
      | inr below ↦ inr (over two there one below)
    ]
      where
        in_all : (head : Name) → IsThere (files_of new) (folder ∷ []) id head → IsThere (files_of new) folders id head
        in_all head there = wide folders folder is_one new id head there

        held_here : (head : Name) → IsThere (files_of new) (folder ∷ []) id head → IsHeldAs (objects_in (files_of new) folder) head kinds.Commit
        held_here head there =
            subst (λ (f : List ℕ). IsHeldAs (objects_in (files_of new) f) head kinds.Commit) (sym (Contains-one folder there.folder there.is)) (there_held head (in_all head there))

        over : (high : Name) → IsThere (files_of new) (folder ∷ []) id high → (low : Name) → IsBelow held (high ∷ []) low → IsBelow (objects_in (files_of new) folder) (high ∷ []) low
        over high there low below =
            below_over held (objects_in (files_of new) folder) (sound home is.is parts.Objects).whole (sound folder is_one parts.Objects).whole
            (λ name text other first second. one_text home folder name text other is.is is_one first second) high (home_holds high (in_all high there)) (held_here high there) low below

-- ---- after runs

module _ (folders : List (List ℕ)) (apart : AreApart folders) (new : History) (runs : RunsAmong folders [] new) (once : AreMadeOnce folders [] new runs) (at_home : AreEditedAtHome folders [] new runs) where
  all_sound : AreAllSound folders (files_of new)
  all_sound = before_sound folders apart new runs

  pub none_diverge : NoneDiverge (files_of new) folders
  none_diverge id one two is_id here there =
      let home = home_of folders apart new runs once at_home id is_id one here in
      (home.0, home.2, home_line folders new all_sound id is_id home.0 home.2 one two here there)

  pub none_diverge_in_one : HaveOneTextEach (files_of new) folders → NoneDivergeInOne (files_of new) folders
  none_diverge_in_one one_text folder id one two is is_id here there =
      let home = home_of folders apart new runs once at_home id is_id one (wide folders folder is new id one here) in
      folder_line folders new all_sound id is_id home.0 home.2 one_text folder is one two here there
