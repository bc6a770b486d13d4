-- The pulls of a full exchange that meets no limit are done.
use Rattle.std.proofs.Common.{◌≡◌, ◌≢◌, ◌<◌, ◌≤◌, ◌+◌, ◌++◌, inl, inr, refl, sym, ◌∙◌, ap, subst, ℕ, zero, suc, ℤ, List, [], ◌∷◌, All, Contains, length, map, arith}
use Rattle.std.specs.List.{range_with_len, zip}
use Rattle.std.proofs.lemmas.List.Elements.{All-append, All-cons, All-head, All-nil, All-tail}
use Rattle.std.proofs.lemmas.List.{length-map}
use Rattle.gb_store.specs.Files.{History, files_of}
use Rattle.gb_store.specs.Turns.{InTurn}
use Rattle.bug_run.specs.Runs.{AreApart}
use Rattle.full_exchanges.specs.Having.{HaveOneTextEach, HaveTheSame}
use Rattle.world_events.specs.Exchange.{exchange_of}
use Rattle.world_events.specs.Words.{folder_word}
use Rattle.world_events.specs.declared.event.Event.{Event}
use Rattle.world.specs.Digests.{IsDigest}
use Rattle.world.specs.Folders.{world_folders}
use Rattle.world.specs.Plays.{IsDone, RunsEvent, RunsWhole}
use Rattle.world.specs.declared.world.Ended.{Ended}
use Rattle.world.specs.declared.world.Ended.TheVariants.{Done}
use Rattle.world_texts.specs.declared.tally.Digest.{Digest}
use Rattle.exchange_runs.specs.Exchanged.{Exchanged}
use Rattle.exchange_runs.proofs.MemberLemmas.{in_range}
use Rattle.exchange_runs.proofs.PlayedLemmas.{Pair, event_for, events_are, pairs_of}
use Rattle.exchange_runs.proofs.WorldLemmas.{world_same}
use Rattle.operation_origins.proofs.OnceLemmas.{before_text}
use Rattle.identity_runs.specs.Homes.{AreEditedAtHome, AreMadeOnce}
use Rattle.identity_runs.proofs.WorldLemmas.{same_digests, world_may}
use Rattle.clean_folders.specs.Clean.{AreClean}
use Rattle.clean_folders.specs.Unlimited.{HaveUsers, IsUnlimited, RunsWithoutLimit}
use Rattle.clean_folders.proofs.DoneLemmas.{clean_then, edited_then, is_pull, made_then, pull_done, run, users_then}

-- ---- events

-- a pull is not skipped, and nothing stops it
one_run : (now : ℤ) (pair : Pair) (ended : Ended) (old new : History) → RunsEvent (event_for now pair, ended) old new → IsDone (event_for now pair) ended old new
one_run now pair ended old new event = subst (IsDone (event_for now pair) ended old) (sym event.stopped) (whole event.end event.runs)
  where
    whole : (end : History) → RunsWhole (event_for now pair, ended) old end → IsDone (event_for now pair) ended old end
    whole end (inl skipped) = absurd (cc (skipped.1.lacks))
    whole end (inr done) = done

-- events that meet no limit are events
played : (events : List (Event × Ended)) (old new : History) → InTurn RunsWithoutLimit events old new → InTurn RunsEvent events old new
played [] old new turns = turns
played (event ∷ events) old new (mid, first, rest) = (mid, first.runs, played events mid new rest)

module _ (folders : ℕ) (most : folders ≤ 16) (now : ℤ) where
  abbrev places : List (List ℕ)
  places = world_folders folders

  -- who pulls from whom: two folders
  abbrev IsPair : Pair → Type 0
  IsPair pair = (pair.0 < folders) × (pair.1 < folders) × (pair.0 ≢ pair.1)

  -- no two texts had one name before
  text_before : (pairs : List Pair) (ends : List Ended) (old new : History) → All IsPair pairs → InTurn RunsEvent (zip (map (event_for now) pairs) ends) old new
      → AreApart places → HaveOneTextEach (files_of new) places → HaveOneTextEach (files_of old) places
  text_before [] ends old new good same apart one_text = subst (λ (h : History). HaveOneTextEach (files_of h) places) same one_text
  text_before (pair ∷ pairs) [] old new good same apart one_text = subst (λ (h : History). HaveOneTextEach (files_of h) places) same one_text
  text_before (pair ∷ pairs) (e ∷ ends) old new good (mid, first, rest) apart one_text =
      let is = All-head IsPair pair pairs good in
      before_text places apart old mid (run folders most pair.0 pair.1 is.0 is.1 is.2 now e old mid (one_run now pair e old mid first))
      (text_before pairs ends mid new (All-tail IsPair pair pairs good) rest apart one_text)

  all_done : (pairs : List Pair) (ends : List Ended) (old new : History) → All IsPair pairs → length ends ≡ length pairs → (clean : AreClean places old)
      → AreMadeOnce places [] old clean.runs → AreEditedAtHome places [] old clean.runs → HaveUsers folders (files_of old) → HaveOneTextEach (files_of new) places
      → InTurn RunsWithoutLimit (zip (map (event_for now) pairs) ends) old new → All (λ (ended : Ended). ended ≡ Done) ends
  all_done [] [] old new good same clean made edited users one_text turns = All-nil (λ (ended : Ended). ended ≡ Done)
  all_done [] (e ∷ ends) old new good same clean made edited users one_text turns = absurd (omega (arith, same))
  all_done (pair ∷ pairs) [] old new good same clean made edited users one_text turns = absurd (omega (arith, same))
  all_done (pair ∷ pairs) (e ∷ ends) old new good same clean made edited users one_text (mid, first, rest) =
      let is = All-head IsPair pair pairs good in
      let later = All-tail IsPair pair pairs good in
      let event = one_run now pair e old mid first.runs in
      let text_then = text_before pairs ends mid new later (played (zip (map (event_for now) pairs) ends) mid new rest) clean.apart one_text in
      All-cons (λ (ended : Ended). ended ≡ Done) e ends
      (pull_done folders most pair.0 pair.1 is.0 is.1 is.2 now e old mid event clean made edited text_then users (first.unlimited _ (is_pull folders most pair.0 pair.1 is.0 is.1 is.2 now)))
      (all_done pairs ends mid new later (omega (arith, same)) (clean_then folders most pair.0 pair.1 is.0 is.1 is.2 now e old mid event clean)
      (made_then folders most pair.0 pair.1 is.0 is.1 is.2 now e old mid event clean made) (edited_then folders most pair.0 pair.1 is.0 is.1 is.2 now e old mid event clean edited)
      (users_then folders most pair.0 pair.1 is.0 is.1 is.2 now e old mid event users) one_text rest)

-- the pairs of a full exchange are of two folders
pairs_are : (more : ℕ) → All (λ (pair : Pair). (pair.0 < suc more) × (pair.1 < suc more) × (pair.0 ≢ pair.1)) (pairs_of more)
pairs_are more = All-append Is (map into (range_with_len 1 more)) (map from (range_with_len 1 more)) (go_into (range_with_len 1 more) within) (go_from (range_with_len 1 more) within)
  where
    Is : Pair → Type 0
    Is pair = (pair.0 < suc more) × (pair.1 < suc more) × (pair.0 ≢ pair.1)

    into : ℕ → Pair
    into n = (0, n)

    from : ℕ → Pair
    from n = (n, 0)

    IsOther : ℕ → Type 0
    IsOther n = (1 ≤ n) × (n < suc more)

    within : (n : ℕ) → Contains (range_with_len 1 more) n → IsOther n
    within n c = let is = in_range 1 more n c in (is.0, omega (arith, is.1))

    go_into : (ns : List ℕ) → ((n : ℕ) → Contains ns n → IsOther n) → All Is (map into ns)
    go_into [] each = All-nil Is
    go_into (n ∷ ns) each =
        let is = each n (0, omega arith, refl) in
        All-cons Is (into n) (map into ns) (omega arith, is.1, λ e. omega (arith, is.0, e)) (go_into ns (λ m c. each m (suc c.0, omega (arith, c.1), c.2)))

    go_from : (ns : List ℕ) → ((n : ℕ) → Contains ns n → IsOther n) → All Is (map from ns)
    go_from [] each = All-nil Is
    go_from (n ∷ ns) each =
        let is = each n (0, omega arith, refl) in
        All-cons Is (from n) (map from ns) (is.1, omega arith, λ e. omega (arith, is.0, e)) (go_from ns (λ m c. each m (suc c.0, omega (arith, c.1), c.2)))

-- ---- an exchange

abbrev pub AllDone : List Ended → Type 0
AllDone ends = All (λ (ended : Ended). ended ≡ Done) ends

some_done : (more : ℕ) (now : ℤ) (old new : History) → suc more ≤ 16 → (clean : AreClean (world_folders (suc more)) old) → AreMadeOnce (world_folders (suc more)) [] old clean.runs
    → AreEditedAtHome (world_folders (suc more)) [] old clean.runs → HaveUsers (suc more) (files_of old) → HaveOneTextEach (files_of new) (world_folders (suc more))
    → (exchange : IsUnlimited (suc more) now old new) → AllDone exchange.ends
some_done more now old new most clean made edited users one_text exchange =
    all_done (suc more) most now (pairs_of more) exchange.ends old new (pairs_are more) same clean made edited users one_text
    (subst (λ (es : List Event). InTurn RunsWithoutLimit (zip es exchange.ends) old new) events exchange.in_turn)
  where
    events : exchange_of (suc more) now ≡ map (event_for now) (pairs_of more)
    events = events_are more now

    same : length exchange.ends ≡ length (pairs_of more)
    same = exchange.each ∙ ap length events ∙ length-map (pairs_of more) (event_for now)

none_done : (ends : List Ended) → length ends ≡ 0 → AllDone ends
none_done [] each = All-nil (λ (ended : Ended). ended ≡ Done)
none_done (e ∷ ends) each = absurd (omega (arith, each))

-- of any number of folders: no folders have no pulls
pub ends_done : (folders : ℕ) (now : ℤ) (old new : History) → folders ≤ 16 → (clean : AreClean (world_folders folders) old) → AreMadeOnce (world_folders folders) [] old clean.runs
    → AreEditedAtHome (world_folders folders) [] old clean.runs → HaveUsers folders (files_of old) → HaveOneTextEach (files_of new) (world_folders folders)
    → (exchange : IsUnlimited folders now old new) → AllDone exchange.ends
ends_done zero now old new most clean made edited users one_text exchange = none_done exchange.ends exchange.each
ends_done (suc more) now old new most clean made edited users one_text exchange = some_done more now old new most clean made edited users one_text exchange

pub unlimited_done : (folders : ℕ) (now : ℤ) (old new : History) → folders ≤ 16 → (clean : AreClean (world_folders folders) old) → AreMadeOnce (world_folders folders) [] old clean.runs
    → AreEditedAtHome (world_folders folders) [] old clean.runs → HaveUsers folders (files_of old) → HaveOneTextEach (files_of new) (world_folders folders) → IsUnlimited folders now old new
    → Exchanged folders now old new
unlimited_done folders now old new most clean made edited users one_text exchange = record {
  ends = exchange.ends;
  played = record { each = exchange.each; in_turn = played (zip (exchange_of folders now) exchange.ends) old new exchange.in_turn };
  done = ends_done folders now old new most clean made edited users one_text exchange;
}

-- ---- what it leaves

module _ (folders one two : ℕ) (now : ℤ) (old new : History) (most : folders ≤ 16) (clean : AreClean (world_folders folders) old) (made : AreMadeOnce (world_folders folders) [] old clean.runs)
    (edited : AreEditedAtHome (world_folders folders) [] old clean.runs) (users : HaveUsers folders (files_of old)) (one_text : HaveOneTextEach (files_of new) (world_folders folders))
    (exchange : IsUnlimited folders now old new) (is_one : one < folders) (is_two : two < folders) where
  done : Exchanged folders now old new
  done = unlimited_done folders now old new most clean made edited users one_text exchange

  pub unlimited_same : HaveTheSame (files_of new) (folder_word one) (files_of new) (folder_word two)
  unlimited_same = world_same folders one two now old new (omega (arith, most)) (world_may folders now old new most clean.runs one_text done) one_text done is_one is_two

  pub unlimited_digest : (first second : Digest) → IsDigest new one first → IsDigest new two second → first ≡ second
  unlimited_digest first second is_first is_second = same_digests folders one two now old new first second most clean.runs made edited one_text done is_one is_two is_first is_second
