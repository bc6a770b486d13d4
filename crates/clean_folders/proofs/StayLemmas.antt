-- A clean world stays clean while no event edits a bug.
use Rattle.std.proofs.Common.{◌≡◌, ◌⊎◌, ◌-◌, inl, inr, refl, subst, ℕ, ℤ, List, [], ◌∷◌, ◌++◌, length, map, All, arith, length-append}
use Rattle.std.specs.List.{range_with_len, zip}
use Rattle.std.proofs.lemmas.List.Elements.{All-append, All-cons, All-head, All-map, All-nil, All-tail, All-weaker}
use Rattle.gb_store.specs.Files.{History}
use Rattle.gb_store.specs.Turns.{InTurn}
use Rattle.world.specs.Plays.{ArePlayed, RunsEvent}
use Rattle.world.specs.declared.world.Ended.{Ended}
use Rattle.world_events.specs.Exchange.{exchange_of, pull_at}
use Rattle.world_events.specs.Within.{IsWithin}
use Rattle.world_events.specs.declared.act.Act.{Act}
use Rattle.world_events.specs.declared.act.Act.TheVariants as act
use Rattle.world_events.specs.declared.event.Event.{Event}
use Rattle.world_agreements.proofs.WithinLemmas.{exchange_within}
use Rattle.clean_folders.specs.Hashes.{WorldHashes}
use Rattle.clean_folders.specs.WorldSeeds.{EditNoBug, EditsABug, HasOtherSeed, HaveDistinctSeeds}
use Rattle.clean_folders.specs.Worlds.{IsCleanWorld, RunsInClean}
use Rattle.clean_folders.proofs.EventEditLemmas.{makes_by_edit}

abbrev EditsNone : Event → Type 0
EditsNone event = EditsABug event.act → ⊥

-- events that edit no bug hash nothing
none_hashed : (folders : ℕ) (events : List Event) (ends : List Ended) (old new : History) → EditNoBug events → (turns : InTurn RunsEvent (zip events ends) old new) (text : List ℕ)
    → WorldHashes folders (zip events ends) old new turns text → ⊥
none_hashed folders [] ends old new quiet turns text hashed = hashed
none_hashed folders (event ∷ events) [] old new quiet turns text hashed = hashed
none_hashed folders (event ∷ events) (ended ∷ ends) old new quiet (mid, first, rest) text (inl this) =
    All-head EditsNone event events quiet (makes_by_edit folders event old this.one)
none_hashed folders (event ∷ events) (ended ∷ ends) old new quiet (mid, first, rest) text (inr later) =
    none_hashed folders events ends mid new (All-tail EditsNone event events quiet) rest text later

-- nor do they need seeds
distinct_none : (events : List Event) → EditNoBug events → HaveDistinctSeeds events
distinct_none [] quiet = tt
distinct_none (event ∷ events) quiet = (λ edits. absurd (All-head EditsNone event events quiet edits), distinct_none events (All-tail EditsNone event events quiet))

distinct_more : (events more : List Event) → HaveDistinctSeeds events → EditNoBug more → HaveDistinctSeeds (events ++ more)
distinct_more [] more distinct quiet = distinct_none more quiet
distinct_more (event ∷ events) more distinct quiet = (
  λ edits.
      All-append (HasOtherSeed event) events more (distinct.0 edits)
      (All-weaker EditsNone (HasOtherSeed event) (λ other none also. absurd (none also)) more quiet),
  distinct_more events more distinct.1 quiet,
)

-- ---- events behind others

-- both are played
joined : (events : List Event) (ends : List Ended) (more : List Event) (others : List Ended) (old mid new : History) → length ends ≡ length events
    → InTurn RunsEvent (zip events ends) old mid → InTurn RunsEvent (zip more others) mid new → InTurn RunsEvent (zip (events ++ more) (ends ++ others)) old new
joined [] [] more others old mid new same first second = subst (λ (h : History). InTurn RunsEvent (zip more others) h new) first second
joined [] (ended ∷ ends) more others old mid new same first second = absurd (omega (arith, same))
joined (event ∷ events) [] more others old mid new same first second = absurd (omega (arith, same))
joined (event ∷ events) (ended ∷ ends) more others old mid new same first second =
    (first.0, first.1, joined events ends more others first.0 mid new (omega (arith, same)) first.2 second)

-- and hash what the first hashed
joined_hashes : (folders : ℕ) (events : List Event) (ends : List Ended) (more : List Event) (others : List Ended) (old mid new : History) (same : length ends ≡ length events)
    (first : InTurn RunsEvent (zip events ends) old mid) (second : InTurn RunsEvent (zip more others) mid new) → EditNoBug more → (text : List ℕ)
    → WorldHashes folders (zip (events ++ more) (ends ++ others)) old new (joined events ends more others old mid new same first second) text
    → WorldHashes folders (zip events ends) old mid first text
unfolding joined
joined_hashes folders [] [] more others old mid new same first second quiet text hashed =
    absurd (none_hashed folders more others old new quiet (subst (λ (h : History). InTurn RunsEvent (zip more others) h new) first second) text hashed)
joined_hashes folders [] (ended ∷ ends) more others old mid new same first second quiet text hashed = absurd (omega (arith, same))
joined_hashes folders (event ∷ events) [] more others old mid new same first second quiet text hashed = absurd (omega (arith, same))
joined_hashes folders (event ∷ events) (ended ∷ ends) more others old mid new same first second quiet text (inl this) = inl this
joined_hashes folders (event ∷ events) (ended ∷ ends) more others old mid new same first second quiet text (inr later) =
    inr (joined_hashes folders events ends more others first.0 mid new (omega (arith, same)) first.2 second quiet text later)

-- ---- clean worlds

pub stays_clean : (folders : ℕ) (more : List Event) (others : List Ended) (old new : History) → IsCleanWorld folders old → All (IsWithin folders) more → EditNoBug more
    → ArePlayed more others old new → IsCleanWorld folders new
stays_clean folders more others old new clean within quiet played = record {
  most = clean.most;
  events = clean.events ++ more;
  within = All-append (IsWithin folders) clean.events more clean.within within;
  ends = clean.ends ++ others;
  played = record {
    each = omega (arith, clean.played.each, played.each, length-append clean.events more, length-append clean.ends others);
    in_turn = joined clean.events clean.ends more others [] old new clean.played.each clean.played.in_turn played.in_turn;
  };
  seeds = distinct_more clean.events more clean.seeds quiet;
  no_collision = λ one two first second. clean.no_collision one two (before one first) (before two second);
}
  where
    before : (text : List ℕ)
        → WorldHashes folders (zip (clean.events ++ more) (clean.ends ++ others)) [] new (joined clean.events clean.ends more others [] old new clean.played.each clean.played.in_turn played.in_turn) text
        → WorldHashes folders (zip clean.events clean.ends) [] old clean.played.in_turn text
    before = joined_hashes folders clean.events clean.ends more others [] old new clean.played.each clean.played.in_turn played.in_turn quiet

-- it is clean before each of them
pub each_clean : (folders : ℕ) (more : List Event) (others : List Ended) (old new : History) → IsCleanWorld folders old → All (IsWithin folders) more → EditNoBug more
    → InTurn RunsEvent (zip more others) old new → InTurn (RunsInClean folders) (zip more others) old new
each_clean folders [] others old new clean within quiet turns = turns
each_clean folders (event ∷ more) [] old new clean within quiet turns = turns
each_clean folders (event ∷ more) (ended ∷ others) old new clean within quiet (mid, first, rest) = (
  mid,
  record { clean = clean; runs = first },
  each_clean folders more others mid new
      (stays_clean folders (event ∷ []) (ended ∷ []) old mid clean
      (All-cons (IsWithin folders) event [] (All-head (IsWithin folders) event more within) (All-nil (IsWithin folders)))
      (All-cons EditsNone event [] (All-head EditsNone event more quiet) (All-nil EditsNone))
      (record { each = refl; in_turn = (mid, first, refl) }))
      (All-tail (IsWithin folders) event more within) (All-tail EditsNone event more quiet) rest,
)

-- the pulls of a full exchange edit no bug
exchange_quiet : (folders : ℕ) (now : ℤ) → EditNoBug (exchange_of folders now)
exchange_quiet folders now =
    let others = range_with_len 1 (folders - 1) in
    All-append EditsNone (map (λ peer. pull_at 0 peer now) others) (map (λ folder. pull_at folder 0 now) others)
    (All-map EditsNone (λ peer. pull_at 0 peer now) others (λ k default below edits. edits))
    (All-map EditsNone (λ folder. pull_at folder 0 now) others (λ k default below edits. edits))

pub exchange_stays_clean : (folders : ℕ) (now : ℤ) (pulls : List Ended) (old new : History) → IsCleanWorld folders old → ArePlayed (exchange_of folders now) pulls old new → IsCleanWorld folders new
exchange_stays_clean folders now pulls old new clean played =
    stays_clean folders (exchange_of folders now) pulls old new clean (exchange_within folders now) (exchange_quiet folders now) played

pub exchange_each_clean : (folders : ℕ) (now : ℤ) (pulls : List Ended) (old new : History) → IsCleanWorld folders old → ArePlayed (exchange_of folders now) pulls old new
    → InTurn (RunsInClean folders) (zip (exchange_of folders now) pulls) old new
exchange_each_clean folders now pulls old new clean played =
    each_clean folders (exchange_of folders now) pulls old new clean (exchange_within folders now) (exchange_quiet folders now) played.in_turn

-- an act that makes a user, packs refs, pulls or pushes edits no bug
quiet_act : (one : Act) (peer : ℕ) → (one ≡ act.UserNew) ⊎ ((one ≡ act.PackRefs) ⊎ ((one ≡ act.Pull peer) ⊎ (one ≡ act.Push peer))) → EditsABug one → ⊥
quiet_act one peer (inl is) edits = subst EditsABug is edits
quiet_act one peer (inr (inl is)) edits = subst EditsABug is edits
quiet_act one peer (inr (inr (inl is))) edits = subst EditsABug is edits
quiet_act one peer (inr (inr (inr is))) edits = subst EditsABug is edits

pub others_edit_none : (event : Event) (peer : ℕ) → (event.act ≡ act.UserNew) ⊎ ((event.act ≡ act.PackRefs) ⊎ ((event.act ≡ act.Pull peer) ⊎ (event.act ≡ act.Push peer)))
    → EditNoBug (event ∷ [])
others_edit_none event peer is = All-cons EditsNone event [] (quiet_act event.act peer is) (All-nil EditsNone)
