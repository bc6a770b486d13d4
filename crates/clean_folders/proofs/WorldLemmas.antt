-- Clean worlds agree after a full exchange that meets no limit.
use Rattle.std.proofs.Common.{◌≡◌, ◌<◌, ◌+◌, ◌++◌, ℕ, ℤ, List, [], codes, pos}
use Rattle.std.specs.List.{zip}
use Rattle.gb_store.specs.Files.{History, files_of}
use Rattle.gb_store.specs.Turns.{InTurn}
use Rattle.full_exchanges.specs.Having.{HaveOneTextEach, HaveTheSame}
use Rattle.world_events.specs.Events.{events_of}
use Rattle.world_events.specs.Exchange.{exchange_of}
use Rattle.world_events.specs.Words.{folder_word}
use Rattle.world_texts.specs.Asked.{IsInBounds}
use Rattle.world_texts.specs.Summary.{count_lines, folder_lines}
use Rattle.world_texts.specs.declared.asked.Asked.{Asked}
use Rattle.world_texts.specs.declared.tally.Digest.{Digest}
use Rattle.world.specs.Digests.{IsDigest}
use Rattle.world.specs.Folders.{world_folders}
use Rattle.world.specs.Told.{IsSummary, IsWorld, tally_of}
use Rattle.world.specs.declared.world.World.{World}
use Rattle.world_agreements.specs.Worlds.{AllNameAlike, IsExchangedFor}
use Rattle.world_agreements.proofs.AgreeLemmas.{told_equal}
use Rattle.exchange_runs.specs.Exchanged.{Exchanged}
use Rattle.identity_runs.proofs.WorldLemmas.{same_names}
use Rattle.clean_folders.specs.Hashes.{HashesDoNotCollide}
use Rattle.clean_folders.specs.WorldSeeds.{SeedTextsDoNotCollide}
use Rattle.clean_folders.specs.Worlds.{IsCleanWorld}
use Rattle.clean_folders.specs.WorldPeople.{HasCleanPeople, PeopleHashesDoNotCollide}
use Rattle.clean_folders.proofs.PersonLeftLemmas.{people_have_homes}
use Rattle.clean_folders.proofs.ToldLemmas.{told_people}
use Rattle.clean_folders.specs.Unlimited.{HaveUsers, IsUnlimited, RunsWithoutLimit}
use Rattle.clean_folders.proofs.ExchangeLemmas.{ends_done, unlimited_digest, unlimited_done, unlimited_same}

module _ (folders : ℕ) (now : ℤ) (mid new : History) (world : IsCleanWorld folders mid) (people : HasCleanPeople folders mid world) (users : HaveUsers folders (files_of mid))
    (one_text : HaveOneTextEach (files_of new) (world_folders folders)) (exchange : IsUnlimited folders now mid new) where
  pub world_done : Exchanged folders now mid new
  world_done = let homes = people_have_homes folders mid world people in unlimited_done folders now mid new world.most homes.0 homes.1 homes.2 users one_text exchange

  pub world_same : (one two : ℕ) → one < folders → two < folders → HaveTheSame (files_of new) (folder_word one) (files_of new) (folder_word two)
  world_same one two is_one is_two =
      let homes = people_have_homes folders mid world people in unlimited_same folders one two now mid new world.most homes.0 homes.1 homes.2 users one_text exchange is_one is_two

  pub world_digest : (one two : ℕ) (first second : Digest) → one < folders → two < folders → IsDigest new one first → IsDigest new two second → first ≡ second
  world_digest one two first second is_one is_two =
      let homes = people_have_homes folders mid world people in unlimited_digest folders one two now mid new world.most homes.0 homes.1 homes.2 users one_text exchange is_one is_two first second

-- the world that was asked for
module _ (asked : Asked) (world : World) (bounds : IsInBounds asked) (made : IsWorld asked world) (seeds : SeedTextsDoNotCollide asked.number asked.events)
    (hashes : HashesDoNotCollide asked.folders (events_of asked.number asked.folders asked.events) made.ends [] made.mid made.played)
    (people : PeopleHashesDoNotCollide asked.folders (events_of asked.number asked.folders asked.events) made.ends [] made.mid made.played)
    (users : HaveUsers asked.folders (files_of made.mid)) (one_text : HaveOneTextEach (files_of world.store.history) (world_folders asked.folders))
    (turns : InTurn RunsWithoutLimit (zip (exchange_of asked.folders (pos (1000000 + asked.events))) made.pulls) made.mid world.store.history) where
  abbrev now : ℤ
  now = pos (1000000 + asked.events)

  exchange : IsUnlimited asked.folders now made.mid world.store.history
  exchange = record { ends = made.pulls; each = made.exchanged.each; in_turn = turns }

  exchanged_for : IsExchangedFor asked world
  exchanged_for =
      let is = told_people asked world bounds made seeds hashes people in
      let homes = people_have_homes asked.folders made.mid is.0 is.1 in record {
        bounds = bounds;
        made = made;
        done = ends_done asked.folders now made.mid world.store.history bounds.most homes.0 homes.1 homes.2 users one_text (record { ends = made.pulls; each = made.exchanged.each; in_turn = turns });
      }

  alike : AllNameAlike asked.folders (files_of world.store.history)
  alike one two is_one is_two =
      let is = told_people asked world bounds made seeds hashes people in
      let homes = people_have_homes asked.folders made.mid is.0 is.1 in
      same_names asked.folders one two now made.mid world.store.history bounds.most homes.0.runs homes.1 homes.2 one_text
      (unlimited_done asked.folders now made.mid world.store.history bounds.most homes.0 homes.1 homes.2 users one_text exchange) is_one is_two

  pub asked_world_is_equal : (text : List ℕ) (summary : IsSummary world text) → text ≡ count_lines (tally_of world) ++ folder_lines 0 summary.digests ++ codes "equal\n"
  asked_world_is_equal text summary = told_equal asked world text summary exchanged_for one_text alike
