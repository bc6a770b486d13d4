-- The run of an event that was done, and what it makes and hashes.
use Rattle.std.proofs.Common.{◌≡◌, ◌≤◌, ◌⊎◌, subst, ℕ, true, List, [], ◌∷◌, ◌++◌}
use Rattle.gb_store.specs.Files.{History, files_of}
use Rattle.gb_store.specs.Moments.{IsMoment}
use Rattle.bug_ops.specs.Kind.{bug_kind}
use Rattle.words.specs.Words.{asked_of}
use Rattle.words.specs.declared.words.Asked.{Asked}
use Rattle.words.specs.declared.words.Asked.TheVariants as asked
use Rattle.words.specs.declared.words.PeerCommand.{PeerCommand}
use Rattle.words.specs.declared.words.PeerCommand.TheVariants.{Fetch, Pull, Push}
use Rattle.bug_run.specs.Runs.{IsRun}
use Rattle.exchange_runs.specs.Takes.{TakesAmong}
use Rattle.world.specs.Folders.{world_folders}
use Rattle.world.specs.Plays.{IsDone}
use Rattle.world.specs.declared.world.Ended.{Ended}
use Rattle.world.proofs.StayLemmas.{IsAskedAmong, event_asks_among, stays_among}
use Rattle.world_events.specs.Within.{IsWithin}
use Rattle.world_events.specs.declared.event.Event.{Event}
use Rattle.clean_folders.specs.Seeds.{Hashes, MakesOne}
use Rattle.clean_folders.specs.Hashes.{EventHashes, EventMakes}
use Rattle.clean_folders.proofs.EventEditLemmas.{bugs_are_ids}

-- what is asked among folders takes from them
takes_among : (folders : List (List ℕ)) (asks : Asked) → IsAskedAmong folders asks → TakesAmong folders asks
takes_among folders asked.Nothing among = tt
takes_among folders (asked.Refused bad) among = tt
takes_among folders (asked.Request request) among = tt
takes_among folders (asked.Exchange request) among = by request.command
  where
    by : (command : PeerCommand) → TakesAmong folders (asked.Exchange (record { pair = request.pair; command = command }))
    by (Fetch remote) = λ mine. among.1
    by (Pull remote) = λ mine. among.1
    by Push = tt
takes_among folders (asked.Merge request) among = tt
takes_among folders (asked.List request) among = tt

module _ (folders : ℕ) (most : folders ≤ 16) (event : Event) (within : IsWithin folders event) (ended : Ended) (old end : History) (done : IsDone event ended old end) where
  pub asked_among : IsAskedAmong (world_folders folders) (asked_of done.words)
  asked_among = event_asks_among folders most event done.bugs done.words within (bugs_are_ids (files_of old) event.folder done.bugs done.has) done.are

  pub run_takes : TakesAmong (world_folders folders) (asked_of done.words)
  run_takes = takes_among (world_folders folders) (asked_of done.words) asked_among

  module _ (new : History) (stop : IsMoment old end new) where
    -- the run, which stops at one of its moments
    abbrev pub run_of : IsRun (world_folders folders) old new
    run_of = record {
      words = done.words;
      place = stays_among (world_folders folders) (asked_of done.words) asked_among;
      moment = done.moment;
      end = end;
      sink_tells = true;
      takes_memory = true;
      before = [];
      after = done.text;
      status = done.answer;
      answers = done.runs.answers;
      stop = stop;
    }

    -- what the run makes, the event makes
    abbrev pub event_makes : MakesOne (world_folders folders) old new run_of → EventMakes folders event old
    event_makes one = record {
      bugs = done.bugs;
      has = done.has;
      words = done.words;
      are = done.are;
      moment = done.moment;
      at = done.at;
      bug = one.bug;
      placed = one.placed;
      made = one.made;
    }

    -- and hashes
    pub event_hashes : (text : List ℕ) → Hashes (world_folders folders) old new run_of text → EventHashes folders event old text
    event_hashes text hashes = record {
      one = event_makes hashes.one;
      op = hashes.op;
      is_op = hashes.is_op;
      is = subst (λ (seed : List ℕ). (text ≡ bug_kind.written hashes.op) ⊎ (text ≡ seed ++ 0 ∷ [])) done.at.seeded hashes.is;
    }
