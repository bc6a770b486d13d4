-- The events that a number makes, and those of a full exchange, are within the folders.
use Rattle.std.proofs.Common.{◌≡◌, ◌≢◌, ◌≤◌, ◌<◌, ◌+◌, ◌-◌, ◌%◌, refl, ℕ, ℤ, Bool, true, false, nat_lt, map, All, get_or, arith}
use Rattle.std.specs.Prelude.{if◌then◌else◌}
use Rattle.std.specs.List.{range_with_len}
use Rattle.std.proofs.lemmas.Bool.{ltb-true}
use Rattle.std.proofs.lemmas.List.Elements.{All-append, All-map, Contains-get_or}
use Rattle.world_events.specs.Draws.{lot_from}
use Rattle.world_events.specs.Events.{act_of, event_of, events_of, peer_of, state_before, turn_from, turn_of}
use Rattle.world_events.specs.Exchange.{exchange_of, pull_at}
use Rattle.world_events.specs.Within.{HasPeerWithin, IsPeer, IsTurnWithin, IsWithin}
use Rattle.world_events.specs.declared.act.Act.TheVariants.{UserNew, NewBug, Comment, Title, Edit, Close, Reopen, LabelAdd, LabelRm, Noop, Pull, Push}
use Rattle.world_events.specs.declared.draws.Lot.{Lot}
use Rattle.world_events.specs.declared.event.Event.{Event}
use Rattle.world_events.proofs.PeerLemmas.{around_other}
use Rattle.exchange_runs.proofs.MemberLemmas.{in_range}

-- what holds of each number of a range holds of what it makes
of_range : (Is : Event → Type 0) (make : ℕ → Event) (from count : ℕ) → ((n : ℕ) → from ≤ n → n < from + count → Is (make n)) → All Is (map make (range_with_len from count))
of_range Is make from count each =
    All-map Is make (range_with_len from count)
    (λ k d below.
    let range = in_range from count (get_or (range_with_len from count) k d) (Contains-get_or (range_with_len from count) k d below) in
    each (get_or (range_with_len from count) k d) range.0 range.1)

-- ---- a full exchange

pull_within : (folders folder peer : ℕ) (now : ℤ) → folder < folders → peer < folders → peer ≢ folder → IsWithin folders (pull_at folder peer now)
pull_within folders folder peer now in_folder in_peer other = record { folder = in_folder; peer = record { below = in_peer; other = other } }

pub exchange_within : (folders : ℕ) (now : ℤ) → All (IsWithin folders) (exchange_of folders now)
exchange_within folders now =
    All-append (IsWithin folders) (map (λ peer. pull_at 0 peer now) (range_with_len 1 (folders - 1))) (map (λ folder. pull_at folder 0 now) (range_with_len 1 (folders - 1)))
    (of_range (IsWithin folders) (λ peer. pull_at 0 peer now) 1 (folders - 1)
    (λ n low high. pull_within folders 0 n now (omega (arith, low, high)) (omega (arith, low, high)) (λ e. omega (arith, low, e))))
    (of_range (IsWithin folders) (λ folder. pull_at folder 0 now) 1 (folders - 1)
    (λ n low high. pull_within folders n 0 now (omega (arith, low, high)) (omega (arith, low, high)) (λ e. omega (arith, low, e))))

-- ---- the events that a number makes

module _ (folders : ℕ) (some : 2 ≤ folders) where
  peer_within : (folder : ℕ) (lot : Lot) → IsPeer folders folder (peer_of folders folder lot)
  peer_within folder lot = record {
    below = omega arith;
    other = around_other folders folder (lot.other % (folders - 1)) (omega arith);
  }

  -- by each test of the number drawn
  chosen : (folder : ℕ) (lot : Lot) (a b c d e f g h i j : Bool) → HasPeerWithin folders folder (
      if a then NewBug
      else if b then Comment lot.pick
      else if c then Title lot.pick
      else if d then Edit lot.pick
      else if e then Close lot.pick
      else if f then Reopen lot.pick
      else if g then LabelAdd lot.pick (lot.other % 5)
      else if h then LabelRm lot.pick (lot.other % 5)
      else if i then Noop lot.pick
      else if j then Pull (peer_of folders folder lot)
      else Push (peer_of folders folder lot))
  chosen folder lot true b c d e f g h i j = tt
  chosen folder lot false true c d e f g h i j = tt
  chosen folder lot false false true d e f g h i j = tt
  chosen folder lot false false false true e f g h i j = tt
  chosen folder lot false false false false true f g h i j = tt
  chosen folder lot false false false false false true g h i j = tt
  chosen folder lot false false false false false false true h i j = tt
  chosen folder lot false false false false false false false true i j = tt
  chosen folder lot false false false false false false false false true j = tt
  chosen folder lot false false false false false false false false false true = peer_within folder lot
  chosen folder lot false false false false false false false false false false = peer_within folder lot

  act_within : (folder : ℕ) (lot : Lot) → HasPeerWithin folders folder (act_of folders folder lot)
  unfolding act_of
  act_within folder lot =
      let r = lot.act % 100 in
      chosen folder lot (nat_lt r 15) (nat_lt r 45) (nat_lt r 55) (nat_lt r 60) (nat_lt r 67) (nat_lt r 74) (nat_lt r 81) (nat_lt r 87) (nat_lt r 89) (nat_lt r 98)

  turn_within : (number place : ℕ) → IsTurnWithin folders (turn_of number folders place)
  turn_within number place = by (nat_lt place folders) refl
    where
      by : (less : Bool) → nat_lt place folders ≡ less → IsTurnWithin folders (if less then record { folder = place; act = UserNew } else turn_from folders (lot_from (state_before number folders place)))
      by true is = record { folder = ltb-true place folders is; peer = tt }
      by false is = record {
        folder = omega arith;
        peer = act_within ((lot_from (state_before number folders place)).folder % folders) (lot_from (state_before number folders place));
      }

  pub events_within : (number count : ℕ) → All (IsWithin folders) (events_of number folders count)
  events_within number count =
      of_range (IsWithin folders) (event_of number folders) 0 count
      (λ place low high. let turn = turn_within number place in record { folder = turn.folder; peer = turn.peer })
