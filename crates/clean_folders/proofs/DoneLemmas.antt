-- A pull of a world that meets no limit is done, where its folders are clean and have users.
use Rattle.std.proofs.Common.{◌≡◌, ◌≢◌, ◌<◌, ◌≤◌, ◌^◌, ◌++◌, ◌⊎◌, inl, inr, refl, sym, ◌∙◌, ap, ap₂, subst, ℕ, zero, suc, ℤ, Bool, true, false, List, [], ◌∷◌, length, filter, Contains, Option, Some, None, Ok, arith}
use Rattle.std.specs.Prelude.{if◌then◌else◌}
use Rattle.gb_text.specs.Digits.{IsId}
use Rattle.gb_text.specs.Folder.{folder_of, joined}
use Rattle.gb_text.specs.Overlap.{Overlap}
use Rattle.gb_text.specs.declared.id.Id.{Id}
use Rattle.gb_text.specs.declared.id.Name.{Name}
use Rattle.gb_store.specs.Files.{History, files_of}
use Rattle.gb_store.specs.Moments.{WroteBy}
use Rattle.ref_store.specs.Refs.{packed_place}
use Rattle.repo_state.specs.Sound as part
use Rattle.repo_state.specs.Users.{NoUser, user_at}
use Rattle.repo_steps.specs.declared.refusal.Refusal.{Refusal}
use Rattle.repo_steps.specs.declared.refusal.Refusal.TheVariants as refusal
use Rattle.sync_steps.specs.Lines.{is_refused as copy_is_refused, refused_in as copies_refused_in}
use Rattle.sync_steps.specs.declared.line.EntityWord.{EntityWord}
use Rattle.sync_steps.specs.declared.line.EntityWord.TheVariants as word
use Rattle.sync_steps.specs.declared.line.Line.{Line}
use Rattle.merge_steps.specs.MergeLines.{is_refused, refused_in}
use Rattle.merge_steps.specs.Pulling.{PullAnswers}
use Rattle.merge_steps.specs.declared.line.MergeLine.{MergeLine}
use Rattle.merge_steps.specs.declared.line.Pulled.{Pulled}
use Rattle.words.specs.Words.{asked_of}
use Rattle.words.specs.declared.pair.FolderPair.{FolderPair}
use Rattle.words.specs.declared.words.Asked.TheVariants as asked
use Rattle.words.specs.declared.words.PeerCommand.TheVariants.{Pull}
use Rattle.bug_run.specs.Exchanges.{answer_of_pull}
use Rattle.bug_run.specs.Headline.{IsFault}
use Rattle.bug_run.specs.Moments.{seconds_of}
use Rattle.bug_run.specs.Printed.{HasLines}
use Rattle.bug_run.specs.Run.{AskedWrites, Call, RunAnswers, call_of, status_for}
use Rattle.bug_run.specs.Runs.{AreAllSound, IsRun}
use Rattle.bug_run.specs.Served.{IsAnswered, IsAnsweredBut, IsPeerUnread, MayRefuse, MayRefusePeer}
use Rattle.bug_run.specs.declared.status.Refused.TheVariants.{ByCommand}
use Rattle.bug_run.specs.declared.status.Status.{Status}
use Rattle.bug_run.specs.declared.status.Status.TheVariants as status
use Rattle.bug_run.proofs.LineLemmas.{exchange_has_lines, pull_tells}
use Rattle.bug_run.proofs.UserStayLemmas.{last_moment}
use Rattle.full_exchanges.specs.Having.{HaveOneTextEach}
use Rattle.full_exchanges.specs.Pulls.{Pull as PullValue, RefusesNoBug}
use Rattle.world_events.specs.Exchange.{pull_at}
use Rattle.world_events.specs.Words.{folder_word, words_of}
use Rattle.world_events.specs.declared.event.Event.{Event}
use Rattle.world.specs.Folders.{world_folders}
use Rattle.world.specs.Plays.{EndsAs, IsDone, RunsEvent}
use Rattle.world.specs.declared.world.Ended.{Ended}
use Rattle.world.specs.declared.world.Ended.TheVariants.{Done, Refused, Skipped}
use Rattle.world.proofs.FolderLemmas.{among}
use Rattle.world.proofs.StayLemmas.{IsAskedAmong, stays_among}
use Rattle.exchange_runs.specs.Takes.{TakesAmong}
use Rattle.exchange_runs.proofs.MemberLemmas.{name_text}
use Rattle.operation_origins.proofs.OnceLemmas.{before_sound}
use Rattle.clean_folders.specs.Names.{HaveOneNameEach}
use Rattle.clean_folders.proofs.RunCleanLemmas.{pulled_clean}
use Rattle.clean_folders.proofs.NameLemmas.{pull_run_not_taken}
use Rattle.identity_runs.specs.Homes.{AreEditedAtHome, AreMadeOnce}
use Rattle.clean_folders.specs.Clean.{AreClean}
use Rattle.clean_folders.proofs.FetchLemmas.{fetched_clean}
use Rattle.clean_folders.proofs.MergeLemmas.{fetched_known}
use Rattle.clean_folders.proofs.PullLemmas.{refuses_none}
use Rattle.identity_runs.proofs.MergeLemmas.{pulled_refuses_none}
use Rattle.clean_folders.proofs.WorldPullLemmas.{pair_at, pull_asked, pull_words_are, remote_at}
use Rattle.clean_folders.specs.Unlimited.{HaveUsers, IsPullOf, MeetsNoLimit, RunsWithoutLimit}
use Rattle.clean_folders.proofs.ExchangeCleanLemmas.{stays_clean, stays_edited, stays_made}
use Rattle.clean_folders.proofs.UserLemmas.{keeps_user}

-- what does not refuse
unless : (refused : Bool) → (refused ≡ true → ⊥) → refused ≡ false
unless true none = absurd (none refl)
unless false none = refl

-- nothing is left of a list of which nothing passes
none_left : {X : Type 0} (test : X → Bool) (xs : List X) → ((x : X) → Contains xs x → test x ≡ false) → length (filter test xs) ≡ 0
none_left test [] each = refl
none_left test (x ∷ xs) each =
    ap (λ (b : Bool). length (if b then x ∷ filter test xs else filter test xs)) (each x (0, omega arith, refl))
    ∙ none_left test xs (λ y c. each y (suc c.0, omega (arith, c.1), c.2))

module _ (folders : ℕ) (most : folders ≤ 16) (folder peer : ℕ) (mine : folder < folders) (its : peer < folders) (other : folder ≢ peer) (now : ℤ) where
  abbrev pub places : List (List ℕ)
  places = world_folders folders

  abbrev pub event : Event
  event = pull_at folder peer now

  abbrev pub pull : PullValue
  pull = record { own = folder_word folder; peer = folder_word peer; remote = remote_at peer; now = seconds_of now }

  pub is_pull : IsPullOf event pull
  is_pull = record { peer = peer; act = refl; own = refl; its = refl; named = name_text peer (omega (arith, most, its)); time = refl }

  -- the folder and its peer, by which it is known under its word
  abbrev pub pair : FolderPair
  pair = pair_at folder peer (omega (arith, most, mine)) (omega (arith, most, its)) (λ e. other (sym e))

  pub own_among : Contains places (folder_word folder)
  own_among = among folders folder mine

  pub peer_among : Contains places (folder_word peer)
  peer_among = among folders peer its

  module _ (ended : Ended) (old new : History) (is : IsDone event ended old new) where
    pub asks : asked_of is.words ≡ asked.Exchange (record { pair = pair; command = Pull pull.remote })
    asks = ap asked_of (pull_words_are event peer refl ended old new is) ∙ pull_asked folder peer (omega (arith, most, mine)) (omega (arith, most, its)) (λ e. other (sym e))

    pub takes : TakesAmong places (asked_of is.words)
    takes = subst (TakesAmong places) (sym asks) (λ here. peer_among)

    -- the run of the event
    abbrev pub run : IsRun places old new
    run = record {
      words = is.words;
      place = stays_among places (asked_of is.words) (subst (IsAskedAmong places) (sym asks) (own_among, peer_among));
      moment = is.moment;
      end = new;
      sink_tells = true;
      takes_memory = true;
      before = [];
      after = is.text;
      status = is.answer;
      answers = is.runs.answers;
      stop = record { later = []; done = is.runs.wrote.writes; before = is.runs.wrote.grew; after = refl };
    }

    abbrev pub clean_then : AreClean places old → AreClean places new
    clean_then clean = stays_clean places old new clean run (record { pair = pair; command = Pull pull.remote }) asks takes

    pub made_then : (clean : AreClean places old) → AreMadeOnce places [] old clean.runs → AreMadeOnce places [] new (clean_then clean).runs
    made_then clean = stays_made places old new clean run (record { pair = pair; command = Pull pull.remote }) asks takes

    pub edited_then : (clean : AreClean places old) → AreEditedAtHome places [] old clean.runs → AreEditedAtHome places [] new (clean_then clean).runs
    edited_then clean = stays_edited places old new clean run (record { pair = pair; command = Pull pull.remote }) asks takes

    -- each folder still has its user
    pub users_then : HaveUsers folders (files_of old) → HaveUsers folders (files_of new)
    users_then users at below =
        keeps_user pull.remote pair old new (subst (λ a. WroteBy (AskedWrites a is.moment) old new) asks is.runs.wrote) (folder_word at) (users at below)

    module _ (clean : AreClean places old) (made : AreMadeOnce places [] old clean.runs) (edited : AreEditedAtHome places [] old clean.runs) (one_text : HaveOneTextEach (files_of new) places)
        (users : HaveUsers folders (files_of old)) (unlimited : MeetsNoLimit pull old new) where
      abbrev call : Call
      call = call_of true true true (asked_of is.words) is.moment

      sound : AreAllSound places (files_of old)
      sound = before_sound places clean.apart old clean.runs

      -- the answer of the pull, by the event's time
      same_answer : (pulled : Pulled) → PullAnswers pull.own pull.peer pull.remote is.moment.now old new (Ok pulled) → PullAnswers pull.own pull.peer pull.remote pull.now old new (Ok pulled)
      same_answer pulled done = subst (λ (time : ℕ). PullAnswers pull.own pull.peer pull.remote time old new (Ok pulled)) is.at.now done

      -- no line of the pull is a refusal
      module _ (has : HasLines is.answer) (pulled : Pulled) (done : PullAnswers pull.own pull.peer pull.remote is.moment.now old new (Ok pulled)) where
        bugs : RefusesNoBug pulled
        bugs =
            refuses_none places old clean new run refl has pair pull.remote asks own_among peer_among one_text pulled done
            (pulled_clean places clean.apart old clean.runs clean.seeds clean.no_collision new run refl has pair pull.remote asks own_among peer_among one_text pulled done
            (fetched_known places old clean new run refl has pair pull.remote asks own_among peer_among one_text pulled done))
            (unlimited.lines pulled (same_answer pulled done))

        people : (line : MergeLine) → Contains pulled.merged line → line.word ≡ word.Identity → is_refused line.outcome ≡ false
        people = pulled_refuses_none places clean.apart old clean.runs made edited new run one_text refl has pair pull.remote asks own_among peer_among pulled done

        copied : copies_refused_in pulled.fetched ≡ 0
        copied = none_left (λ (line : Line). copy_is_refused line.outcome) pulled.fetched
            (λ line c. unless (copy_is_refused line.outcome) (fetched_clean places clean.apart old clean.runs new run one_text refl has pair own_among peer_among pull.remote pulled done line c))

        merged : refused_in pulled.merged ≡ 0
        merged = none_left (λ (line : MergeLine). is_refused line.outcome) pulled.merged (λ line c. by line c line.word refl)
          where
            by : (line : MergeLine) → Contains pulled.merged line → (kind : EntityWord) → line.word ≡ kind → is_refused line.outcome ≡ false
            by line c word.Identity e = people line c e
            by line c word.Bug e = bugs.merged line c e

        none_refused : (answer_of_pull pulled).refused ≡ 0
        none_refused = omega (arith, copied, merged)

      lines_done : HasLines is.answer → is.answer ≡ status.Done
      lines_done has =
          let told = pull_tells call old new [] is.text is.answer pair refl refl pull.remote asks is.runs.answers has in
          told.3 ∙ ap status_for (none_refused has told.0 told.1)

      -- it is not refused as a whole
      not_taken : (name : Name) → is.answer ≡ status.Refused (ByCommand (refusal.NameTaken name)) → ⊥
      not_taken name told =
          pull_run_not_taken call old new [] is.text name refl pair pull.remote asks (sound pull.own own_among)
          (subst (λ (time : ℕ). HaveOneNameEach pull.own time old new) (sym is.at.now) unlimited.names)
          (subst (RunAnswers call old new [] is.text) told is.runs.answers)

      may_refuse : (r : Refusal) → is.answer ≡ status.Refused (ByCommand r) → MayRefuse pull.own old r → ⊥
      may_refuse refusal.NoUser told none = users folder mine none
      may_refuse refusal.NotFound told none = none
      may_refuse (refusal.Ambiguous one two) told none = none
      may_refuse refusal.NoLabelChange told none = none
      may_refuse refusal.SameStatus told none = none
      may_refuse (refusal.ClockFull name) told none = none
      may_refuse (refusal.RepeatedOperation id) told none = none
      may_refuse (refusal.EntityExists id) told none = none
      may_refuse (refusal.NameTaken name) told none = not_taken name told
      may_refuse (refusal.TooLarge count) told none = none
      may_refuse (refusal.Damaged path) told none = none

      answer_done : IsAnsweredBut (MayRefusePeer (Pull pull.remote) pair old) is.answer → is.answer ≡ status.Done
      answer_done (inl (inl has)) = lines_done has
      answer_done (inl (inr fault)) = absurd (is.runs.reached fault)
      answer_done (inr (r, told, inl may)) = absurd (may_refuse r told may)
      answer_done (inr (r, told, inr unread)) = absurd (cc (sym (sound pull.peer peer_among part.Packed) ∙ unread.0))

      ends_done : (e : Ended) → EndsAs e is.answer → is.answer ≡ status.Done → e ≡ Done
      ends_done Done ends done = refl
      ends_done Refused (why, told) done = absurd (cc (sym told ∙ done))
      ends_done Skipped ends done = absurd ends

      pub pull_done : ended ≡ Done
      pull_done = ends_done ended is.ends (answer_done (exchange_has_lines call old new [] is.text is.answer (record { pair = pair; command = Pull pull.remote }) refl asks (sound pull.own own_among) is.runs.answers))
