-- Events that are played one after another.
use Rattle.std.proofs.Common.{◌≡◌, ◌<◌, ◌+◌, ℕ, List, [], ◌∷◌, ◌++◌, length, take, get_or, append_assoc, refl, sym, ◌∙◌, ap, subst, arith, cond, length-append, IsTrue, None}
use Rattle.std.proofs.lemmas.List.{take_more}
use Rattle.std.proofs.lemmas.List.FromFn.{map-range_with_len_more}
use Rattle.std.proofs.lemmas.List.Sums.{sum_by_push}
use Rattle.std.specs.Prelude.{pos}
use Rattle.std.specs.List.{zip}
use Rattle.gb_store.specs.Files.{History}
use Rattle.gb_store.specs.Turns.{InTurn}
use Rattle.gb_store.specs.MemStore.{MemState, has_no_fails}
use Rattle.world.specs.Counts.{IsCounted, counted, is_done, is_refused, is_skipped}
use Rattle.world.specs.Plays.{ArePlayed, RunsEvent}
use Rattle.world.specs.Worlds.{IsPlayed, told_of}
use Rattle.world.specs.declared.world.Ended.{Ended}
use Rattle.world.specs.declared.world.Ended.TheVariants.{Done, Refused, Skipped}
use Rattle.world.specs.declared.world.World.{World}
use Rattle.world_events.specs.declared.act.Act.TheVariants.{UserNew}
use Rattle.world_events.specs.declared.event.Event.{Event}

-- one more step behind those before it
then : {A : Type 0} (Step : A → History → History → Type 0) (items : List A) (last : A) (old mid new : History) → InTurn Step items old mid → Step last mid new
    → InTurn Step (items ++ last ∷ []) old new
then Step [] last old mid new same step = (new, subst (λ (h : History). Step last h new) same step, refl)
then Step (item ∷ items) last old mid new turns step = (turns.0, turns.1, then Step items last turns.0 mid new turns.2 step)

-- two lists of the same length with one item more each
zip-more : {A B : Type 0} (xs : List A) (ys : List B) (a : A) (b : B) → length ys ≡ length xs → zip (xs ++ a ∷ []) (ys ++ b ∷ []) ≡ zip xs ys ++ (a, b) ∷ []
zip-more [] [] a b e = refl
zip-more [] (y ∷ ys) a b e = absurd (omega arith)
zip-more (x ∷ xs) [] a b e = absurd (omega arith)
zip-more (x ∷ xs) (y ∷ ys) a b e = let rest = zip-more xs ys a b (omega arith) in cc

pub played_none : (old new : History) → new ≡ old → ArePlayed [] [] old new
played_none old new same = record { each = refl; in_turn = same }

-- what indexing gives where there is no event
abbrev pub no_event : Event
no_event = record { folder = 0; act = UserNew; number = 0; now = pos 0; seed = []; stop = None }

-- one event more
pub played_more : (events : List Event) (i : ℕ) (ends : List Ended) (ended : Ended) (old mid new : History) → i < length events
    → ArePlayed (take i events) ends old mid → RunsEvent (get_or events i no_event, ended) mid new → ArePlayed (take (i + 1) events) (ends ++ ended ∷ []) old new
played_more events i ends ended old mid new within played runs =
    let event = get_or events i no_event in
    let more : take (i + 1) events ≡ take i events ++ event ∷ [] = take_more events i no_event within in
    record {
      each = omega (arith, played.each, ap length more, length-append (take i events) (event ∷ []), length-append ends (ended ∷ []));
      in_turn = rw (more, zip-more (take i events) ends event ended played.each)
          (then RunsEvent (zip (take i events) ends) (event, ended) old mid new played.in_turn runs);
    }

-- ---- counts

-- one event more is counted
counted_more : (ends : List Ended) (ended : Ended) (world : World) → IsCounted ends world → IsCounted (ends ++ ended ∷ []) (counted world ended)
counted_more ends Done world was = record {
  done = omega (arith, was.done, sum_by_push (λ e. cond (is_done e) 1 0) ends Done);
  refused = omega (arith, was.refused, sum_by_push (λ e. cond (is_refused e) 1 0) ends Done);
  skipped = omega (arith, was.skipped, sum_by_push (λ e. cond (is_skipped e) 1 0) ends Done);
}
counted_more ends Refused world was = record {
  done = omega (arith, was.done, sum_by_push (λ e. cond (is_done e) 1 0) ends Refused);
  refused = omega (arith, was.refused, sum_by_push (λ e. cond (is_refused e) 1 0) ends Refused);
  skipped = omega (arith, was.skipped, sum_by_push (λ e. cond (is_skipped e) 1 0) ends Refused);
}
counted_more ends Skipped world was = record {
  done = omega (arith, was.done, sum_by_push (λ e. cond (is_done e) 1 0) ends Skipped);
  refused = omega (arith, was.refused, sum_by_push (λ e. cond (is_refused e) 1 0) ends Skipped);
  skipped = omega (arith, was.skipped, sum_by_push (λ e. cond (is_skipped e) 1 0) ends Skipped);
}

-- a count changes nothing else
record KeepsRest (world after : World) : Type 0 where
  store : after.store ≡ world.store
  folders : after.folders ≡ world.folders
  events : after.events ≡ world.events

keeps_rest : (world : World) (ended : Ended) → KeepsRest world (counted world ended)
keeps_rest world Done = record { store = refl; folders = refl; events = refl }
keeps_rest world Refused = record { store = refl; folders = refl; events = refl }
keeps_rest world Skipped = record { store = refl; folders = refl; events = refl }

-- ---- worlds

-- what a loop over events keeps, where so many had their turn
pub record IsAfter (events : List Event) (folders i : ℕ) (world : World) : Type 0 where
  pub plays : IsPlayed (take i events) world
  pub same_folders : world.folders ≡ folders
  pub all_events : world.events ≡ length events
  pub calm : IsTrue (has_no_fails world.store)

after_more : (events : List Event) (folders i : ℕ) (ended : Ended) (world : World) (store : MemState) → i < length events → IsAfter events folders i world
    → RunsEvent (get_or events i no_event, ended) world.store.history store.history → IsTrue (has_no_fails store) → IsAfter events folders (i + 1) (counted (record world { store = store }) ended)
after_more events folders i ended world store within was runs calm =
    let rest = keeps_rest (record world { store = store }) ended in
    let ends = was.plays.ends in
    record {
      plays = record {
        ends = ends ++ ended ∷ [];
        are = subst (λ (s : MemState). ArePlayed (take (i + 1) events) (ends ++ ended ∷ []) [] s.history) (sym rest.store)
            (played_more events i ends ended [] world.store.history store.history within was.plays.are runs);
        counts = counted_more ends ended (record world { store = store })
            (record { done = was.plays.counts.done; refused = was.plays.counts.refused; skipped = was.plays.counts.skipped });
      };
      same_folders = rest.folders ∙ was.same_folders;
      all_events = rest.events ∙ was.all_events;
      calm = subst (λ (s : MemState). IsTrue (has_no_fails s)) (sym rest.store) calm;
    }

pub after_next : (events : List Event) (folders i : ℕ) (ended : Ended) (world after : World) (store : MemState) → i < length events → IsAfter events folders i world
    → RunsEvent (get_or events i no_event, ended) world.store.history store.history → IsTrue (has_no_fails store) → after ≡ counted (record world { store = store }) ended
    → IsAfter events folders (i + 1) after
after_next events folders i ended world after store within was runs calm is =
    subst (IsAfter events folders (i + 1)) (sym is) (after_more events folders i ended world store within was runs calm)

-- ---- what is told of them

-- once more
pub told_more : (before was after : List (ℕ × ℕ)) (all i count of : ℕ) → was ≡ before ++ told_of all i → count ≡ i + 1 → of ≡ all
    → after ≡ was ++ (count, of) ∷ [] → after ≡ before ++ told_of all (i + 1)
told_more before was after all i count of told is of_all more =
    let next : told_of all (i + 1) ≡ told_of all i ++ (i + 1, all) ∷ [] = map-range_with_len_more (λ (k : ℕ). (k, all)) 1 i (i + 1) (omega arith) in
    rw (more, told, is, of_all, next) (append_assoc before (told_of all i) ((i + 1, all) ∷ []))
