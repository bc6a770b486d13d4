-- What an event that pulls tells in a clean world.
use Rattle.std.proofs.Common.{◌≡◌, ◌≢◌, ◌<◌, ◌^◌, inl, inr, refl, sym, ◌∙◌, ap, ap₂, subst, ℕ, true, false, List, [], ◌∷◌, Contains, Option, Some, Ok, arith}
use Rattle.std.specs.Option.{option_map}
use Rattle.gb_text.specs.Overlap.{Overlap}
use Rattle.gb_text.specs.declared.id.Name.{Name}
use Rattle.gb_store.specs.Files.{History, files_of}
use Rattle.dag_entity.specs.declared.fault.EntityFault.{EntityFault}
use Rattle.remote_name.specs.declared.remote.RemoteName.{RemoteName}
use Rattle.repo_state.specs.Sound.{IsSound}
use Rattle.repo_state.specs.Sound as parts
use Rattle.repo_state.specs.Users.{NoUser, user_at}
use Rattle.repo_steps.specs.declared.refusal.Refusal.{Refusal}
use Rattle.repo_steps.specs.declared.refusal.Refusal.TheVariants as refusal
use Rattle.sync_steps.specs.Lines.{is_refused}
use Rattle.sync_steps.specs.declared.line.Line.{Line}
use Rattle.merge_steps.specs.Pulling.{PullAnswers}
use Rattle.merge_steps.specs.declared.line.MergeLine.{MergeLine}
use Rattle.merge_steps.specs.declared.line.MergeOutcome.TheVariants as outcome
use Rattle.merge_steps.specs.declared.line.Pulled.{Pulled}
use Rattle.words.specs.Words.{asked_of, exchange_in, exchange_of}
use Rattle.words.specs.declared.pair.FolderPair.{FolderPair}
use Rattle.words.specs.declared.words.Asked.{Asked}
use Rattle.words.specs.declared.words.Asked.TheVariants as asked
use Rattle.words.specs.declared.words.PeerCommand.TheVariants as peer_command
use Rattle.words.proofs.PairLemmas.{apart_from, the_pair}
use Rattle.bug_run.specs.Exchanges.{answer_of_pull}
use Rattle.bug_run.specs.Headline.{HeadlineHolds, OwnIsSound, PullEnds}
use Rattle.bug_run.specs.Moments.{seconds_of}
use Rattle.bug_run.specs.Printed.{HasLines}
use Rattle.bug_run.specs.Run.{RunAnswers}
use Rattle.bug_run.specs.Runs.{AreAllSound, IsRun}
use Rattle.bug_run.specs.Served.{IsAnsweredBut, MayRefuse, MayRefusePeer}
use Rattle.bug_run.specs.declared.status.Refused.TheVariants.{ByCommand}
use Rattle.bug_run.specs.declared.status.Status.{Status}
use Rattle.bug_run.specs.declared.status.Status.TheVariants as status
use Rattle.full_exchanges.specs.Having.{HaveOneTextEach}
use Rattle.full_exchanges.specs.Pulls.{RefusesNoBug}
use Rattle.exchange_runs.proofs.FolderLemmas.{one_word, words_apart}
use Rattle.exchange_runs.proofs.MemberLemmas.{member_at, name_text}
use Rattle.exchange_runs.proofs.PlayedLemmas.{pull_asks, pull_words}
use Rattle.world.specs.Folders.{world_folders}
use Rattle.world.specs.Plays.{IsDone, call_with}
use Rattle.world.specs.declared.world.Ended.{Ended}
use Rattle.world.proofs.FolderLemmas.{among, path_of_word}
use Rattle.world.proofs.StopLemmas.{at_end}
use Rattle.world.proofs.WorldLemmas.{world_is_sound}
use Rattle.world_events.specs.Within.{HasPeerWithin, IsPeer, IsWithin}
use Rattle.world_events.specs.Words.{arguments_for, folder_word, verb_of}
use Rattle.world_events.specs.declared.act.Act.{Act}
use Rattle.world_events.specs.declared.act.Act.TheVariants.{Pull}
use Rattle.world_events.specs.declared.event.Event.{Event}
use Rattle.operation_origins.specs.Limits.{IsLimit}
use Rattle.clean_folders.specs.Names.{HaveOneNameEach}
use Rattle.clean_folders.proofs.NameLemmas.{pull_run_not_taken}
use Rattle.clean_folders.specs.Clean.{TellsNoLimit}
use Rattle.clean_folders.proofs.FetchLemmas.{fetched_clean}
use Rattle.clean_folders.proofs.MergeLemmas.{pull_refuses}
use Rattle.clean_folders.proofs.PullLemmas.{pull_without_limit}
use Rattle.clean_folders.specs.Worlds.{IsCleanWorld}
use Rattle.clean_folders.proofs.EventLeftLemmas.{clean_world}
use Rattle.clean_folders.proofs.EventRunLemmas.{run_of}

-- ---- what a pull asks

-- the name of a folder as a remote
abbrev pub remote_at : ℕ → RemoteName
remote_at peer = (member_at peer).name

module _ (folder peer : ℕ) (first : folder < 16) (second : peer < 16) (other : peer ≢ folder) where
  pub apart : Overlap (folder_word folder) (folder_word peer) → ⊥
  apart overlap = other (sym (one_word folder peer (omega (arith, first)) (omega (arith, second)) (words_apart folder peer (omega (arith, first)) (omega (arith, second)) overlap)))

  -- the folder and its peer
  abbrev pub pair_at : FolderPair
  pair_at = record { own = folder_word folder; peer = folder_word peer; apart = apart_from (folder_word folder) (folder_word peer) apart }

  pub pull_asked : asked_of (pull_words folder peer) ≡ asked.Exchange (record { pair = pair_at; command = peer_command.Pull (remote_at peer) })
  pull_asked =
      pull_asks folder peer (omega (arith, second))
      ∙ ap₂ (λ (o p : Option (List ℕ)). exchange_in o p (Some (peer_command.Pull (remote_at peer)))) (path_of_word folder first) (path_of_word peer second)
      ∙ ap (λ (p : Option FolderPair). exchange_of p (Some (peer_command.Pull (remote_at peer)))) (the_pair pair_at)

-- the arguments of an event that pulls
module _ (event : Event) (peer : ℕ) (pulls : event.act ≡ Pull peer) (ended : Ended) (old new : History) (done : IsDone event ended old new) where
  abbrev words_for : Act → Option (List (List ℕ))
  words_for act = option_map (λ arguments. folder_word event.folder ∷ verb_of act ∷ arguments) (arguments_for act event.folder event.number done.bugs)

  pub pull_words_are : done.words ≡ pull_words event.folder peer
  pull_words_are =
      let both : Some done.words ≡ Some (pull_words event.folder peer) = sym done.are ∙ ap words_for pulls in cc both

module _ (folders : ℕ) (event : Event) (peer : ℕ) (ended : Ended) (old new : History) (clean : IsCleanWorld folders old) (within : IsWithin folders event) (pulls : event.act ≡ Pull peer)
    (done : IsDone event ended old new) where
  in_world : IsPeer folders event.folder peer
  in_world = subst (HasPeerWithin folders event.folder) pulls within.peer

  abbrev pair : FolderPair
  pair = pair_at event.folder peer (omega (arith, within.folder, clean.most)) (omega (arith, in_world.below, clean.most)) in_world.other

  asks : asked_of done.words ≡ asked.Exchange (record { pair = pair; command = peer_command.Pull (remote_at peer) })
  asks =
      ap asked_of (pull_words_are event peer pulls ended old new done)
      ∙ pull_asked event.folder peer (omega (arith, within.folder, clean.most)) (omega (arith, in_world.below, clean.most)) in_world.other

  own : Contains (world_folders folders) (folder_word event.folder)
  own = among folders event.folder within.folder

  abbrev run : IsRun (world_folders folders) old new
  run = run_of folders clean.most event within ended old new done new (at_end old new done.runs.wrote.writes done.runs.wrote.grew)

  -- it knows its peer by the peer's word
  pub remote_text : (remote_at peer).text ≡ folder_word peer
  remote_text = name_text peer (omega (arith, in_world.below, clean.most))

  its_peer : Contains (world_folders folders) (folder_word peer)
  its_peer = among folders peer in_world.below

  sound : AreAllSound (world_folders folders) (files_of old)
  sound = world_is_sound folders clean.most clean.events clean.ends old clean.within clean.played

  -- no name is taken
  pub pull_is_not_taken : HaveOneNameEach (folder_word event.folder) (seconds_of event.now) old new → (name : Name) → done.answer ≢ status.Refused (ByCommand (refusal.NameTaken name))
  pull_is_not_taken one_each name refused =
      pull_run_not_taken (call_with done.words done.moment) old new [] done.text name refl pair (remote_at peer) asks (sound (folder_word event.folder) own)
      (subst (λ (time : ℕ). HaveOneNameEach (folder_word event.folder) time old new) (sym done.at.now) one_each)
      (subst (λ (answer : Status). RunAnswers (call_with done.words done.moment) old new [] done.text answer) refused done.runs.answers)

  -- so it is answered, if there is a user
  module _ (has_user : user_at (files_of old) (folder_word event.folder) ≡ NoUser → ⊥) (one_each : HaveOneNameEach (folder_word event.folder) (seconds_of event.now) old new) where
    own_sound : OwnIsSound (asked_of done.words) (files_of old)
    own_sound =
        subst (λ (a : Asked). OwnIsSound a (files_of old)) (sym asks)
        (λ folder same. let is : folder_word event.folder ≡ folder = cc same in subst (λ (f : List ℕ). IsSound f (files_of old)) is (sound (folder_word event.folder) own))

    ends : PullEnds pair (remote_at peer) done.moment.now old new [] done.text done.answer
    ends = subst (λ (a : Asked). HeadlineHolds a done.moment old new [] done.text done.answer) asks (done.runs.headline own_sound)

    not_refused : (r : Refusal) → done.answer ≡ status.Refused (ByCommand r) → MayRefuse (folder_word event.folder) old r → ⊥
    not_refused refusal.NoUser told may = has_user may
    not_refused refusal.NotFound told may = may
    not_refused (refusal.Ambiguous one two) told may = may
    not_refused refusal.NoLabelChange told may = may
    not_refused refusal.SameStatus told may = may
    not_refused (refusal.ClockFull name) told may = may
    not_refused (refusal.RepeatedOperation id) told may = may
    not_refused (refusal.EntityExists id) told may = may
    not_refused (refusal.NameTaken name) told may = pull_is_not_taken one_each name told
    not_refused (refusal.TooLarge count) told may = may
    not_refused (refusal.Damaged path) told may = may

    pub pull_prints : HasLines done.answer
    pull_prints = by ends.answered
      where
        by : IsAnsweredBut (MayRefusePeer (peer_command.Pull (remote_at peer)) pair old) done.answer → HasLines done.answer
        by (inl (inl lines)) = lines
        by (inl (inr fault)) = absurd (done.runs.reached fault)
        by (inr (r, told, inl may)) = absurd (not_refused r told may)
        by (inr (r, told, inr unread)) = let bad : true ≡ false = sym (sound (folder_word peer) its_peer parts.Packed) ∙ unread.0 in absurd (cc bad)

  -- what its lines tell
  module _ (one_text : HaveOneTextEach (files_of new) (world_folders folders)) (has : HasLines done.answer) where
    abbrev Answers : Pulled → Type 0
    Answers pulled = PullAnswers (folder_word event.folder) (folder_word peer) (remote_at peer) (seconds_of event.now) old new (Ok pulled)

    in_time_of : (pulled : Pulled) → PullAnswers (folder_word event.folder) (folder_word peer) (remote_at peer) done.moment.now old new (Ok pulled) → Answers pulled
    in_time_of pulled answers = subst (λ (time : ℕ). PullAnswers (folder_word event.folder) (folder_word peer) (remote_at peer) time old new (Ok pulled)) done.at.now answers

    pub pull_tells_limits : (pulled : Pulled) × Answers pulled × (done.text ≡ (answer_of_pull pulled).text)
        × ((line : Line) → Contains pulled.fetched line → is_refused line.outcome ≡ true → ⊥)
        × ((line : MergeLine) (why : EntityFault) → Contains pulled.merged line → line.outcome ≡ outcome.InvalidBug why → IsLimit why)
    pull_tells_limits =
        let clean_folders = clean_world folders old clean in
        let told = pull_refuses (world_folders folders) old clean_folders new run refl has pair (remote_at peer) asks own its_peer one_text in (
          told.0,
          in_time_of told.0 told.1,
          told.2,
          fetched_clean (world_folders folders) clean_folders.apart old clean_folders.runs new run one_text refl has pair own its_peer (remote_at peer) told.0 told.1,
          told.3,
        )

    -- where none tells a limit, none refuses a bug
    pub pull_without_limits : (pulled : Pulled) × Answers pulled × (done.text ≡ (answer_of_pull pulled).text) × (TellsNoLimit pulled → RefusesNoBug pulled)
    pull_without_limits =
        let told = pull_without_limit (world_folders folders) old (clean_world folders old clean) new run refl has pair (remote_at peer) asks own its_peer one_text in
        (told.0, in_time_of told.0 told.1, told.2, told.3)
