-- The events that a number makes for so many folders.
use Rattle.std.specs.Prelude.{ℕ, ◌+◌, ◌-◌, ◌%◌, pos, nat_lt, if◌then◌else◌, List, ◌++◌, None, map}
use Rattle.std.specs.List.{range_with_len}
use Rattle.std.specs.Int.{w64, to_be_bytes}
use Rattle.sha2.specs.Sha256.{sha256}
use Rattle.world_events.specs.Draws.{lot_from, state_after_lots}
use Rattle.world_events.specs.declared.act.Act.{Act}
use Rattle.world_events.specs.declared.act.Act.TheVariants.{UserNew, NewBug, Comment, Title, Edit, Close, Reopen, LabelAdd, LabelRm, Noop, Pull, Push}
use Rattle.world_events.specs.declared.draws.Lot.{Lot}
use Rattle.world_events.specs.declared.event.Event.{Event}
use Rattle.world_events.specs.declared.event.Turn.{Turn}

-- the text whose SHA-256 is the seed of an event: the number and the event's place, each as 8 bytes, the most significant first
abbrev pub seed_text : ℕ → ℕ → List ℕ
seed_text number place = to_be_bytes w64 number ++ to_be_bytes w64 place

abbrev pub seed_of : ℕ → ℕ → List ℕ
seed_of number place = sha256 (seed_text number place)

-- the event at a place, with this turn
abbrev pub event_at : ℕ → ℕ → Turn → Event
event_at number place turn = record {
  folder = turn.folder;
  act = turn.act;
  number = place;
  now = pos (1000000 + place);
  seed = seed_of number place;
  stop = None;
}

-- the folder that comes so many places after the next one, around, without the folder itself
abbrev pub peer_of : ℕ → ℕ → Lot → ℕ
peer_of folders folder lot = (folder + 1 + lot.other % (folders - 1)) % folders

-- the command that four numbers ask for: of 100 events 15 make a bug, 30 add a comment, 10 set a title, 5 edit a comment, 7 close a bug,
-- 7 open one, 7 add a label, 6 remove one, 2 do nothing, 9 pull and 2 push
unfoldable pub act_of : ℕ → ℕ → Lot → Act
act_of folders folder lot =
    let r = lot.act % 100 in
    if nat_lt r 15 then NewBug
    else if nat_lt r 45 then Comment lot.pick
    else if nat_lt r 55 then Title lot.pick
    else if nat_lt r 60 then Edit lot.pick
    else if nat_lt r 67 then Close lot.pick
    else if nat_lt r 74 then Reopen lot.pick
    else if nat_lt r 81 then LabelAdd lot.pick (lot.other % 5)
    else if nat_lt r 87 then LabelRm lot.pick (lot.other % 5)
    else if nat_lt r 89 then Noop lot.pick
    else if nat_lt r 98 then Pull (peer_of folders folder lot)
    else Push (peer_of folders folder lot)

-- the folder and the command that four numbers ask for
abbrev pub turn_from : ℕ → Lot → Turn
turn_from folders lot = record { folder = lot.folder % folders; act = act_of folders (lot.folder % folders) lot }

-- the state before the event at a place: four numbers were drawn for each event after those that make the folders' persons
abbrev pub state_before : ℕ → ℕ → ℕ → ℕ
state_before number folders place = state_after_lots number (place - folders)

-- what is done at a place
abbrev pub turn_of : ℕ → ℕ → ℕ → Turn
turn_of number folders place =
    if nat_lt place folders then record { folder = place; act = UserNew }
    else turn_from folders (lot_from (state_before number folders place))

abbrev pub event_of : ℕ → ℕ → ℕ → Event
event_of number folders place = event_at number place (turn_of number folders place)

-- the first events that a number makes
abbrev pub events_of : ℕ → ℕ → ℕ → List Event
events_of number folders count = map (event_of number folders) (range_with_len 0 count)
