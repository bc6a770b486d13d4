-- What a full exchange leaves in a world, where nothing is refused.
use Rattle.std.proofs.Common.{◌≡◌, ◌≤◌, ◌<◌, ◌+◌, ◌++◌, ◌^◌, refl, ◌∙◌, ap, subst, ℕ, zero, suc, Bool, true, if◌then◌else◌, codes, pos, List, [], ◌∷◌, Contains, arith}
use Rattle.std.specs.List.{AllZip, range_with_len}
use Rattle.gb_store.specs.Files.{History, files_of}
use Rattle.bug_run.proofs.RunsLemmas.{runs_lose_nothing}
use Rattle.full_exchanges.specs.Having.{HasAllOf, HaveOneTextEach, HaveTheSame, NameAuthorsAlike}
use Rattle.full_exchanges.proofs.ExchangeLemmas.{one_text_before}
use Rattle.world.specs.Digests.{IsDigest}
use Rattle.world.specs.Folders.{world_folders}
use Rattle.world.proofs.FolderLemmas.{are_apart}
use Rattle.world.specs.Told.{AreDigests, IsSummary, tally_of}
use Rattle.world.specs.declared.world.World.{World}
use Rattle.world_events.specs.Events.{events_of}
use Rattle.world_events.specs.Exchange.{exchange_of}
use Rattle.world_events.specs.Words.{folder_word}
use Rattle.world_texts.specs.Summary.{are_equal, count_lines, folder_lines}
use Rattle.world_texts.specs.declared.asked.Asked.{Asked}
use Rattle.world_texts.specs.declared.tally.Digest.{Digest}
use Rattle.world_texts.proofs.EqualLemmas.{equal_of_same}
use Rattle.exchange_runs.specs.Exchanged.{MayExchange}
use Rattle.exchange_runs.proofs.AmongLemmas.{are_runs}
use Rattle.exchange_runs.proofs.DigestLemmas.{same_count, same_digest}
use Rattle.exchange_runs.proofs.MemberLemmas.{in_range}
use Rattle.exchange_runs.proofs.PlayedAmongLemmas.{events_take}
use Rattle.exchange_runs.proofs.WorldLemmas.{world_again, world_may, world_same, world_union}
use Rattle.world_agreements.specs.Worlds.{AllNameAlike, IsExchanged, IsExchangedFor}
use Rattle.world_agreements.proofs.WithinLemmas.{events_within, exchange_within}

module _ (folders : ℕ) (mid new : History) (is : IsExchanged folders mid new) (one_text : HaveOneTextEach (files_of new) (world_folders folders)) where
  few : folders ≤ 2 ^ 32
  few = omega (arith, is.most)

  -- the pulls of the exchange are runs too, and lose no object
  text_before : HaveOneTextEach (files_of mid) (world_folders folders)
  text_before =
      let pulls = events_take folders is.most (exchange_of folders is.now) is.exchanged.ends mid new (exchange_within folders is.now) is.exchanged.played in
      let runs = are_runs (world_folders folders) mid new pulls in
      one_text_before (world_folders folders) mid new (λ folder among. (runs_lose_nothing (world_folders folders) (are_apart folders is.most) folder among mid new runs).objects) one_text

  may : MayExchange folders (files_of mid)
  may = world_may folders is.events is.ends mid is.most is.within is.played text_before

  may_then : MayExchange folders (files_of new)
  may_then = world_again folders is.now mid new few may one_text is.exchanged

  pub agree_union : (folder : ℕ) → folder < folders → HasAllOf (files_of new) (folder_word folder) (files_of mid) (world_folders folders)
  agree_union folder within = world_union folders folder is.now mid new few may one_text is.exchanged within

  pub agree_same : (one two : ℕ) → one < folders → two < folders → HaveTheSame (files_of new) (folder_word one) (files_of new) (folder_word two)
  agree_same one two is_one is_two = world_same folders one two is.now mid new few may one_text is.exchanged is_one is_two

  module _ (one two : ℕ) (is_one : one < folders) (is_two : two < folders) (first second : Digest) (is_first : IsDigest new one first) (is_second : IsDigest new two second) where
    pub agree_count : first.bugs ≡ second.bugs
    agree_count =
        same_count new one two (omega (arith, is.most, is_one)) (omega (arith, is.most, is_two)) (may_then.sound one is_one) (may_then.sound two is_two)
        (agree_same one two is_one is_two) first second is_first is_second

    pub agree_digest : NameAuthorsAlike (files_of new) (folder_word one) (files_of new) (folder_word two) → first ≡ second
    agree_digest alike =
        same_digest new one two (omega (arith, is.most, is_one)) (omega (arith, is.most, is_two)) (may_then.sound one is_one) (may_then.sound two is_two)
        (agree_same one two is_one is_two) first second is_first is_second alike

-- ---- the world that was asked for

pub exchanged_for : (asked : Asked) (world : World) (is : IsExchangedFor asked world) → IsExchanged asked.folders is.made.mid world.store.history
exchanged_for asked world is = record {
  most = is.bounds.most;
  events = events_of asked.number asked.folders asked.events;
  within = events_within asked.folders is.bounds.some asked.number asked.events;
  ends = is.made.ends;
  played = is.made.played;
  now = pos (1000000 + asked.events);
  exchanged = record { ends = is.made.pulls; played = is.made.exchanged; done = is.done };
}

-- an element of the second list is beside one of the first
beside : (history : History) (folders : List ℕ) (digests : List Digest) (digest : Digest) → AllZip (IsDigest history) folders digests → Contains digests digest
    → (folder : ℕ) × Contains folders folder × IsDigest history folder digest
beside history folders [] digest each (k, below, is) = absurd (omega (arith, below))
beside history [] (first ∷ digests) digest each among = absurd each
beside history (folder ∷ folders) (first ∷ digests) digest each (zero, below, is) = (folder, (0, omega arith, refl), subst (IsDigest history folder) is each.0)
beside history (folder ∷ folders) (first ∷ digests) digest each (suc k, below, is) =
    let rest = beside history folders digests digest each.1 (k, omega (arith, below), is) in
    (rest.0, (suc rest.1.0, omega (arith, rest.1.1), rest.1.2), rest.2)

module _ (asked : Asked) (world : World) (is : IsExchangedFor asked world) (one_text : HaveOneTextEach (files_of world.store.history) (world_folders asked.folders))
    (digests : List Digest) (are : AreDigests world.store.history world.folders digests) where
  -- the folder of a digest
  found : (digest : Digest) → Contains digests digest → (folder : ℕ) × (folder < asked.folders) × IsDigest world.store.history folder digest
  found digest among =
      let at = beside world.store.history (range_with_len 0 world.folders) digests digest are among in
      (at.0, omega (arith, in_range 0 world.folders at.0 at.1, is.made.folders), at.2)

  pub told_count : (one two : Digest) → Contains digests one → Contains digests two → one.bugs ≡ two.bugs
  told_count one two is_one is_two =
      let first = found one is_one in
      let second = found two is_two in
      agree_count asked.folders is.made.mid world.store.history (exchanged_for asked world is) one_text first.0 second.0 first.1 second.1 one two first.2 second.2

  module _ (alike : AllNameAlike asked.folders (files_of world.store.history)) where
    pub told_digest : (one two : Digest) → Contains digests one → Contains digests two → one ≡ two
    told_digest one two is_one is_two =
        let first = found one is_one in
        let second = found two is_two in
        agree_digest asked.folders is.made.mid world.store.history (exchanged_for asked world is) one_text first.0 second.0 first.1 second.1 one two first.2 second.2
        (alike first.0 second.0 first.1 second.1)

    pub all_equal : are_equal digests ≡ true
    all_equal = equal_of_same digests (λ one two is_one is_two. ap (λ (d : Digest). d.hash) (told_digest one two is_one is_two))

pub told_equal : (asked : Asked) (world : World) (text : List ℕ) (summary : IsSummary world text) → IsExchangedFor asked world
    → HaveOneTextEach (files_of world.store.history) (world_folders asked.folders) → AllNameAlike asked.folders (files_of world.store.history)
    → text ≡ count_lines (tally_of world) ++ folder_lines 0 summary.digests ++ codes "equal\n"
told_equal asked world text summary is one_text alike =
    summary.told
    ∙ ap (λ (b : Bool). count_lines (tally_of world) ++ folder_lines 0 summary.digests ++ (if b then codes "equal\n" else codes "differ\n"))
    (all_equal asked world is one_text summary.digests summary.are alike)
