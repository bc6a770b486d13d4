-- The identity that the run of an event makes, and the texts that it hashes for it.
use Rattle.std.proofs.Common.{◌≡◌, ◌≤◌, ◌⊎◌, sym, subst, ℕ, List, [], ◌∷◌, ◌++◌}
use Rattle.gb_text.specs.declared.id.Id.{Id}
use Rattle.gb_store.specs.Files.{History, files_of}
use Rattle.gb_store.specs.Moments.{IsMoment}
use Rattle.ref_store.specs.Refs.{Absent}
use Rattle.repo_state.specs.Sides.{head_at}
use Rattle.repo_state.specs.declared.side.Side.TheVariants as side
use Rattle.repo_steps.specs.PeopleDoings.{new_text}
use Rattle.bug_run.specs.Run.{env_at}
use Rattle.bug_run.specs.Runs.{IsRun}
use Rattle.identity_runs.specs.Homes.{EditsPerson}
use Rattle.identity_runs.specs.Seeds.{Hashes, MakesOne}
use Rattle.world.specs.Folders.{world_folders}
use Rattle.world.specs.Plays.{IsDone}
use Rattle.world.specs.declared.world.Ended.{Ended}
use Rattle.world_events.specs.Within.{IsWithin}
use Rattle.world_events.specs.declared.event.Event.{Event}
use Rattle.clean_folders.proofs.EventRunLemmas.{run_of}
use Rattle.clean_folders.specs.WorldPeople.{MakesAPerson, PersonEventHashes, PersonEventMakes}
use Rattle.clean_folders.proofs.AskedLemmas.{edits_none, makes_by_act}

module _ (folders : ℕ) (most : folders ≤ 16) (event : Event) (within : IsWithin folders event) (ended : Ended) (old end : History) (done : IsDone event ended old end) (new : History) (stop : IsMoment old end new) where
  abbrev run : IsRun (world_folders folders) old new
  run = run_of folders most event within ended old end done new stop

  -- the event has the command for it
  pub person_by_act : MakesOne (world_folders folders) old new run → MakesAPerson event.act
  person_by_act one = makes_by_act event done.bugs done.words one.folder one.makes.name one.makes.email done.are one.makes.asked_for

  -- what the run makes, the event makes
  abbrev person_event : MakesOne (world_folders folders) old new run → PersonEventMakes folders event old
  person_event one = record {
    bugs = done.bugs;
    has = done.has;
    words = done.words;
    are = done.are;
    moment = done.moment;
    at = done.at;
    folder = one.folder;
    is = one.makes.is;
    name = one.makes.name;
    email = one.makes.email;
    asked_for = one.makes.asked_for;
    was = subst (λ (id : Id). head_at (files_of old) one.folder side.Identities id ≡ Absent) (sym one.makes.is_made) one.makes.was;
  }

  -- and hashes
  pub person_hashes : (text : List ℕ) → Hashes (world_folders folders) old new run text → PersonEventHashes folders event old text
  person_hashes text hashes = record {
    one = person_event hashes.one;
    is = subst (λ (seed : List ℕ). (text ≡ new_text (env_at done.moment hashes.one.folder) hashes.one.makes.name hashes.one.makes.email) ⊎ (text ≡ seed ++ 0 ∷ [])) done.at.seeded hashes.is;
  }

  -- it edits no identity
  pub edits_no_person : (id : Id) (folder : List ℕ) → EditsPerson (world_folders folders) old new run id folder → ⊥
  edits_no_person id folder edits = edits_none event done.bugs done.words folder edits.name edits.email done.are edits.asked_for
