-- Events of a full exchange that were done are pulls that refused nothing.
use Rattle.std.proofs.Common.{◌≡◌, ◌<◌, ◌≤◌, ◌-◌, ◌^◌, inl, inr, ℕ, ℤ, zero, suc, Bool, true, false, All, List, [], ◌∷◌, ◌++◌, map, Contains, length, filter, codes, Option, Some, None, Ok, refl, sym, ◌∙◌, ap, ap₂, subst, arith, get_or}
use Rattle.std.specs.List.{range_with_len, zip}
use Rattle.std.specs.Option.{option_map}
use Rattle.std.proofs.lemmas.List.{length-map, map-append}
use Rattle.std.proofs.lemmas.List.Elements.{All-append, All-cons, All-head, All-nil, All-tail}
use Rattle.std.proofs.lemmas.Simd.{map-map}
use Rattle.gb_text.specs.Folder.{folder_of}
use Rattle.gb_store.specs.Files.{History}
use Rattle.gb_store.specs.Turns.{InTurn}
use Rattle.bug_run.specs.Exchanges.{answer_of_pull}
use Rattle.bug_run.specs.Moments.{seconds_of}
use Rattle.bug_run.specs.Run.{Call, RunAnswers, status_for}
use Rattle.bug_run.specs.declared.status.Status.{Status}
use Rattle.bug_run.specs.declared.status.Status.TheVariants as status
use Rattle.bug_run.proofs.ExchangeWriteLemmas.{in_time}
use Rattle.bug_run.proofs.LineLemmas.{pull_tells}
use Rattle.bug_run.proofs.WordLemmas.{refusal_told}
use Rattle.merge_steps.specs.MergeLines.{is_refused as merge_is_refused, refused_in as merge_refused_in}
use Rattle.merge_steps.specs.Pulling.{PullAnswers}
use Rattle.merge_steps.specs.declared.line.MergeLine.{MergeLine}
use Rattle.merge_steps.specs.declared.line.Pulled.{Pulled}
use Rattle.remote_name.specs.Remotes.{remote_of}
use Rattle.remote_name.specs.declared.remote.RemoteName.{RemoteName}
use Rattle.remote_name.proofs.RemoteLemmas.{the_remote}
use Rattle.repo_state.proofs.PrefixLemmas.{Contains-filter}
use Rattle.sync_steps.specs.Lines.{is_refused, refused_in}
use Rattle.sync_steps.specs.declared.line.Line.{Line}
use Rattle.words.specs.Arguments.{IsPlain}
use Rattle.words.specs.Pairs.{pair_of}
use Rattle.words.specs.Words.{asked_of, exchange_in, exchange_of}
use Rattle.words.specs.declared.pair.FolderPair.{FolderPair}
use Rattle.words.specs.declared.words.Asked.TheVariants as asked
use Rattle.words.specs.declared.words.BadWord.{BadWord}
use Rattle.words.specs.declared.words.BadWord.TheVariants.{BadFolder, SameFolder}
use Rattle.words.specs.declared.words.PeerCommand.TheVariants.{Pull}
use Rattle.words.proofs.ArgumentLemmas.{all_plain}
use Rattle.words.proofs.AskLemmas.{asked_with}
use Rattle.words.proofs.PairLemmas.{of_folders}
use Rattle.full_exchanges.specs.Exchanges.{Member, exchange_among, pull_of}
use Rattle.full_exchanges.specs.Pulls.{Pull as PullValue, WasPulled}
use Rattle.world.specs.Plays.{IsDone, RunsEvent, RunsWhole, call_with}
use Rattle.world.specs.declared.world.Ended.{Ended}
use Rattle.world.specs.declared.world.Ended.TheVariants.{Done}
use Rattle.world_events.specs.Exchange.{exchange_of as events_of, pull_at}
use Rattle.world_events.specs.Words.{folder_word}
use Rattle.world_events.specs.declared.event.Event.{Event}
use Rattle.exchange_runs.specs.Exchanged.{Exchanged}
use Rattle.exchange_runs.proofs.FolderLemmas.{word_is_folder}
use Rattle.exchange_runs.proofs.MemberLemmas.{in_range, member_at, name_text, others_of}

-- ---- no line is a refusal

-- no line of a pull is a refusal
pub record RefusesNone (pulled : Pulled) : Type 0 where
  pub fetched : (line : Line) → Contains pulled.fetched line → is_refused line.outcome ≡ false
  pub merged : (line : MergeLine) → Contains pulled.merged line → merge_is_refused line.outcome ≡ false

-- a pull was done, and refused nothing
pub record WasWhole (pull : PullValue) (old new : History) : Type 0 where
  pub was : WasPulled pull old new
  pub refuses : RefusesNone was.pulled

-- where none of a list passes a test, each of it fails it
none_pass : {X : Type 0} (test : X → Bool) (xs : List X) → length (filter test xs) ≡ 0 → (x : X) → Contains xs x → test x ≡ false
none_pass test xs none x c = by (test x) refl
  where
    by : (b : Bool) → test x ≡ b → test x ≡ false
    by false is = is
    by true is = let at = Contains-filter test xs x c is in absurd (omega (arith, none, at.1))

refuses_none : (pulled : Pulled) → (answer_of_pull pulled).refused ≡ 0 → RefusesNone pulled
refuses_none pulled none =
    let first : refused_in pulled.fetched ≡ 0 = omega (arith, none) in
    let second : merge_refused_in pulled.merged ≡ 0 = omega (arith, none) in
    record {
      fetched = none_pass (λ (l : Line). is_refused l.outcome) pulled.fetched first;
      merged = none_pass (λ (l : MergeLine). merge_is_refused l.outcome) pulled.merged second;
    }

-- a run that is done refused no line
done_none : (count : ℕ) → status.Done ≡ status_for count → count ≡ 0
done_none zero e = refl
done_none (suc count) e = absurd (cc e)

-- ---- what the arguments of a pull ask

abbrev pub pull_words : ℕ → ℕ → List (List ℕ)
pull_words folder peer = folder_word folder ∷ codes "pull" ∷ folder_word peer ∷ folder_word peer ∷ []

word_plain : (n : ℕ) → IsPlain (folder_word n)
word_plain n = inr (λ more same. let first : 119 ≡ 45 = ap (λ (text : List ℕ). get_or text 0 0) same in omega (arith, first))

remote_is : (n : ℕ) → n < 2 ^ 64 → remote_of (folder_word n) ≡ Some (member_at n).name
remote_is n within = ap remote_of (sym (name_text n within)) ∙ the_remote (member_at n).name

pub pull_asks : (folder peer : ℕ) → peer < 2 ^ 64 → asked_of (pull_words folder peer) ≡ exchange_in (folder_of (folder_word folder)) (folder_of (folder_word peer)) (Some (Pull (member_at peer).name))
pull_asks folder peer within =
    asked_with (folder_word folder) (codes "pull") (folder_word peer ∷ folder_word peer ∷ []) (folder_word peer ∷ folder_word peer ∷ [])
    (all_plain (folder_word peer ∷ folder_word peer ∷ []) (word_plain peer, (word_plain peer, tt)))
    ∙ ap (λ (o : Option RemoteName). exchange_in (folder_of (folder_word folder)) (folder_of (folder_word peer)) (option_map Pull o)) (remote_is peer within)

-- ---- a pull that is done

module _ (folder peer : ℕ) (now : ℤ) (first : folder < 2 ^ 64) (second : peer < 2 ^ 64) (old new : History) (is : IsDone (pull_at folder peer now) Done old new) where
  abbrev call : Call
  call = call_with (pull_words folder peer) is.moment

  same_words : is.words ≡ pull_words folder peer
  same_words = let some : Some (pull_words folder peer) ≡ Some is.words = is.are in cc

  answers : RunAnswers call old new [] is.text status.Done
  answers =
      subst (λ (answer : Status). RunAnswers call old new [] is.text answer) is.ends
      (subst (λ (words : List (List ℕ)). RunAnswers (call_with words is.moment) old new [] is.text is.answer) same_words is.runs.answers)

  -- it was not refused by its arguments
  never_refused : (bad : BadWord) → asked_of (pull_words folder peer) ≡ asked.Refused bad → ⊥
  never_refused bad asks = elim (refusal_told call old new [] is.text status.Done bad asks answers) [
    | inl e ↦ cc e
    | inr f ↦ elim f [ inl e ↦ cc e | inr e ↦ cc e ]
  ]

  abbrev Was : Type 0
  Was = WasWhole (pull_of (member_at folder) (member_at peer) (seconds_of now)) old new

  -- so it exchanged with its peer
  exchanged : (own there : List ℕ) (pair : FolderPair) → folder_of (folder_word folder) ≡ Some own → folder_of (folder_word peer) ≡ Some there → pair_of own there ≡ Some pair
      → asked_of (pull_words folder peer) ≡ asked.Exchange (record { pair = pair; command = Pull (member_at peer).name }) → Was
  exchanged own there pair is_own is_there is_pair asks =
      let told = pull_tells call old new [] is.text status.Done pair refl refl (member_at peer).name asks answers (inl refl) in
      let folders = of_folders own there pair is_pair in
      let mine : pair.own ≡ folder_word folder = folders.0 ∙ word_is_folder folder own first is_own in
      let its : pair.peer ≡ folder_word peer = folders.1 ∙ word_is_folder peer there second is_there in
      let refuses = refuses_none told.0 (done_none (answer_of_pull told.0).refused told.3) in
      record {
        was = record {
          in_time = subst (λ (time : ℕ). time < 2 ^ 64) is.at.now (in_time is.moment);
          pulled = told.0;
          answers =
              subst (λ (f : List ℕ). PullAnswers f (folder_word peer) (member_at peer).name (seconds_of now) old new (Ok told.0)) mine
              (subst (λ (f : List ℕ). PullAnswers pair.own f (member_at peer).name (seconds_of now) old new (Ok told.0)) its
              (subst (λ (time : ℕ). PullAnswers pair.own pair.peer (member_at peer).name time old new (Ok told.0)) is.at.now told.1));
          refuses_none = record { fetched = λ line c bug. refuses.fetched line c; merged = λ line c bug. refuses.merged line c };
        };
        refuses = refuses;
      }

  whole : Was
  whole = by (folder_of (folder_word folder)) (folder_of (folder_word peer)) refl refl
    where
      paired : (own there : List ℕ) → folder_of (folder_word folder) ≡ Some own → folder_of (folder_word peer) ≡ Some there
          → asked_of (pull_words folder peer) ≡ exchange_of (pair_of own there) (Some (Pull (member_at peer).name)) → (pair : Option FolderPair) → pair_of own there ≡ pair → Was
      paired own there is_own is_there asks None none =
          absurd (never_refused SameFolder (asks ∙ ap (λ (p : Option FolderPair). exchange_of p (Some (Pull (member_at peer).name))) none))
      paired own there is_own is_there asks (Some pair) some =
          exchanged own there pair is_own is_there some (asks ∙ ap (λ (p : Option FolderPair). exchange_of p (Some (Pull (member_at peer).name))) some)

      by : (own there : Option (List ℕ)) → folder_of (folder_word folder) ≡ own → folder_of (folder_word peer) ≡ there → Was
      by None there is_own is_there =
          absurd (never_refused BadFolder (pull_asks folder peer second ∙ ap (λ (o : Option (List ℕ)). exchange_in o (folder_of (folder_word peer)) (Some (Pull (member_at peer).name))) is_own))
      by (Some own) None is_own is_there =
          absurd (never_refused BadFolder (pull_asks folder peer second ∙ ap₂ (λ (o p : Option (List ℕ)). exchange_in o p (Some (Pull (member_at peer).name))) is_own is_there))
      by (Some own) (Some there) is_own is_there =
          paired own there is_own is_there (pull_asks folder peer second ∙ ap₂ (λ (o p : Option (List ℕ)). exchange_in o p (Some (Pull (member_at peer).name))) is_own is_there)
          (pair_of own there) refl

-- ---- events one after another

-- who pulls from whom
abbrev pub Pair : Type 0
Pair = ℕ × ℕ

abbrev pub event_for : ℤ → Pair → Event
event_for now pair = pull_at pair.0 pair.1 now

abbrev pull_for : ℤ → Pair → PullValue
pull_for now pair = pull_of (member_at pair.0) (member_at pair.1) (seconds_of now)

abbrev AreSmall : Pair → Type 0
AreSmall pair = (pair.0 < 2 ^ 64) × (pair.1 < 2 ^ 64)

-- an event that ended done is such a pull; nothing stops it
one_whole : (now : ℤ) (pair : Pair) (ended : Ended) (old new : History) → AreSmall pair → ended ≡ Done → RunsEvent (event_for now pair, ended) old new → WasWhole (pull_for now pair) old new
one_whole now pair ended old new small done event = subst (λ (h : History). WasWhole (pull_for now pair) old h) (sym event.stopped) (at_end event.end event.runs)
  where
    at_end : (end : History) → RunsWhole (event_for now pair, ended) old end → WasWhole (pull_for now pair) old end
    at_end end (inl skipped) = absurd (cc (sym skipped.0 ∙ done))
    at_end end (inr runs) = whole pair.0 pair.1 now small.0 small.1 old end (subst (λ (e : Ended). IsDone (event_for now pair) e old end) done runs)

all_whole : (now : ℤ) (pairs : List Pair) (ends : List Ended) (old new : History) → All AreSmall pairs → All (λ (ended : Ended). ended ≡ Done) ends → length ends ≡ length pairs
    → InTurn RunsEvent (zip (map (event_for now) pairs) ends) old new → InTurn WasWhole (map (pull_for now) pairs) old new
all_whole now [] [] old new small done same turns = turns
all_whole now [] (e ∷ ends) old new small done same turns = absurd (omega (arith, same))
all_whole now (pair ∷ pairs) [] old new small done same turns = absurd (omega (arith, same))
all_whole now (pair ∷ pairs) (e ∷ ends) old new small done same (mid, step, later) = (
  mid,
  one_whole now pair e old mid (All-head AreSmall pair pairs small) (All-head (λ (ended : Ended). ended ≡ Done) e ends done) step,
  all_whole now pairs ends mid new (All-tail AreSmall pair pairs small) (All-tail (λ (ended : Ended). ended ≡ Done) e ends done) (omega (arith, same)) later,
)

-- ---- an exchange

abbrev into : ℕ → Pair
into n = (0, n)

abbrev from : ℕ → Pair
from n = (n, 0)

abbrev pub pairs_of : ℕ → List Pair
pairs_of more = map into (range_with_len 1 more) ++ map from (range_with_len 1 more)

-- its events, and its pulls
pub events_are : (more : ℕ) (now : ℤ) → events_of (suc more) now ≡ map (event_for now) (pairs_of more)
events_are more now =
    let less : suc more - 1 ≡ more = omega arith in
    let range = range_with_len 1 more in
    ap (λ (n : ℕ). map (λ peer. pull_at 0 peer now) (range_with_len 1 n) ++ map (λ folder. pull_at folder 0 now) (range_with_len 1 n)) less
    ∙ sym (map-append (event_for now) (map into range) (map from range) ∙ ap₂ (λ (a b : List Event). a ++ b) (map-map (event_for now) into range) (map-map (event_for now) from range))

pulls_are : (more : ℕ) (now : ℤ) → map (pull_for now) (pairs_of more) ≡ exchange_among (member_at 0) (others_of more) (seconds_of now)
pulls_are more now =
    let range = range_with_len 1 more in
    let first = member_at 0 in
    let time = seconds_of now in
    map-append (pull_for now) (map into range) (map from range)
    ∙ ap₂ (λ (a b : List PullValue). a ++ b)
    (map-map (pull_for now) into range ∙ sym (map-map (λ (other : Member). pull_of first other time) member_at range))
    (map-map (pull_for now) from range ∙ sym (map-map (λ (other : Member). pull_of other first time) member_at range))

all_small : (more : ℕ) → suc more ≤ 2 ^ 32 → All AreSmall (pairs_of more)
all_small more few = All-append AreSmall (map into (range_with_len 1 more)) (map from (range_with_len 1 more)) (go_into (range_with_len 1 more) within) (go_from (range_with_len 1 more) within)
  where
    within : (n : ℕ) → Contains (range_with_len 1 more) n → n < 2 ^ 64
    within n c = omega (arith, few, in_range 1 more n c)

    go_into : (ns : List ℕ) → ((n : ℕ) → Contains ns n → n < 2 ^ 64) → All AreSmall (map into ns)
    go_into [] each = All-nil AreSmall
    go_into (n ∷ ns) each = All-cons AreSmall (into n) (map into ns) (omega arith, each n (0, omega arith, refl)) (go_into ns (λ m c. each m (suc c.0, omega (arith, c.1), c.2)))

    go_from : (ns : List ℕ) → ((n : ℕ) → Contains ns n → n < 2 ^ 64) → All AreSmall (map from ns)
    go_from [] each = All-nil AreSmall
    go_from (n ∷ ns) each = All-cons AreSmall (from n) (map from ns) (each n (0, omega arith, refl), omega arith) (go_from ns (λ m c. each m (suc c.0, omega (arith, c.1), c.2)))

pub exchange_whole : (more : ℕ) (now : ℤ) (old new : History) → suc more ≤ 2 ^ 32 → Exchanged (suc more) now old new
    → InTurn WasWhole (exchange_among (member_at 0) (others_of more) (seconds_of now)) old new
exchange_whole more now old new few exchange =
    let events = events_are more now in
    let turns = subst (λ (es : List Event). InTurn RunsEvent (zip es exchange.ends) old new) events exchange.played.in_turn in
    let same : length exchange.ends ≡ length (pairs_of more) = exchange.played.each ∙ ap length events ∙ length-map (pairs_of more) (event_for now) in
    subst (λ (pulls : List PullValue). InTurn WasWhole pulls old new) (pulls_are more now)
    (all_whole now (pairs_of more) exchange.ends old new (all_small more few) exchange.done same turns)

-- so they are pulls that refused no bug
pub turns_pulled : (pulls : List PullValue) (old new : History) → InTurn WasWhole pulls old new → InTurn WasPulled pulls old new
turns_pulled [] old new same = same
turns_pulled (pull ∷ pulls) old new (mid, step, later) = (mid, step.was, turns_pulled pulls mid new later)

pub exchange_pulled : (more : ℕ) (now : ℤ) (old new : History) → suc more ≤ 2 ^ 32 → Exchanged (suc more) now old new
    → InTurn WasPulled (exchange_among (member_at 0) (others_of more) (seconds_of now)) old new
exchange_pulled more now old new few exchange =
    turns_pulled (exchange_among (member_at 0) (others_of more) (seconds_of now)) old new (exchange_whole more now old new few exchange)
