-- What a full exchange in a world leaves.
use Rattle.std.proofs.Common.{◌≡◌, ◌<◌, ◌≤◌, ◌^◌, ℕ, ℤ, zero, suc, All, List, [], sym, subst, arith}
use Rattle.gb_store.specs.Files.{History, files_of}
use Rattle.gb_store.specs.Turns.{InTurn}
use Rattle.bug_run.specs.Moments.{seconds_of}
use Rattle.full_exchanges.specs.Exchanges.{exchange_among, folders_of}
use Rattle.full_exchanges.specs.Having.{HasAllOf, HaveOneTextEach, HaveTheSame}
use Rattle.full_exchanges.specs.Pulls.{WasPulled}
use Rattle.full_exchanges.proofs.ExchangeLemmas.{exchange_follows, exchange_leaves}
use Rattle.world.specs.Folders.{world_folders}
use Rattle.world.specs.Plays.{ArePlayed}
use Rattle.world.specs.declared.world.Ended.{Ended}
use Rattle.world.proofs.FolderLemmas.{among, are_apart}
use Rattle.world.proofs.WorldLemmas.{world_is_sound}
use Rattle.world_events.specs.Within.{IsWithin}
use Rattle.world_events.specs.declared.event.Event.{Event}
use Rattle.world_events.specs.Words.{folder_word}
use Rattle.exchange_runs.specs.Exchanged.{Exchanged, MayExchange}
use Rattle.exchange_runs.proofs.AmongLemmas.{seen_among}
use Rattle.exchange_runs.proofs.MemberLemmas.{from_world, in_folders, may_again, member_at, members_of, one_of_more, others_differ, others_of, to_world, world_ready}
use Rattle.exchange_runs.proofs.PlayedAmongLemmas.{events_take}
use Rattle.exchange_runs.proofs.PlayedLemmas.{exchange_pulled}

module _ (more : ℕ) (now : ℤ) (old new : History) (few : suc more ≤ 2 ^ 32) (may : MayExchange (suc more) (files_of old))
    (one_text : HaveOneTextEach (files_of new) (world_folders (suc more))) (exchange : Exchanged (suc more) now old new) where
  texts : HaveOneTextEach (files_of new) (folders_of (members_of more))
  texts one two name text other is_one is_two here there = one_text one two name text other (to_world more one is_one) (to_world more two is_two) here there

  turns : InTurn WasPulled (exchange_among (member_at 0) (others_of more) (seconds_of now)) old new
  turns = exchange_pulled more now old new few exchange

  has_all : (folder : ℕ) → folder < suc more → HasAllOf (files_of new) (folder_word folder) (files_of old) (world_folders (suc more))
  has_all folder within id piece is =
      let both = exchange_leaves (member_at 0) (others_of more) (others_differ more few) (seconds_of now) old new (world_ready more (files_of old) few may) texts turns (folder_word folder)
      (in_folders more folder within) id piece is in (
        λ h. one_of_more (files_of old) (folders_of (members_of more)) (world_folders (suc more)) id piece (to_world more) (both.0 h),
        λ h. both.1 (one_of_more (files_of old) (world_folders (suc more)) (folders_of (members_of more)) id piece (from_world more) h),
      )

  may_then : MayExchange (suc more) (files_of new)
  may_then =
      may_again more (files_of new) few
      (exchange_follows (member_at 0) (others_of more) (others_differ more few) (seconds_of now) old new (world_ready more (files_of old) few may) texts turns).ready

pub world_union : (folders folder : ℕ) (now : ℤ) (old new : History) → folders ≤ 2 ^ 32 → MayExchange folders (files_of old) → HaveOneTextEach (files_of new) (world_folders folders)
    → Exchanged folders now old new → folder < folders → HasAllOf (files_of new) (folder_word folder) (files_of old) (world_folders folders)
world_union zero folder now old new few may one_text exchange within = absurd (omega (arith, within))
world_union (suc more) folder now old new few may one_text exchange within = has_all more now old new few may one_text exchange folder within

pub world_same : (folders one two : ℕ) (now : ℤ) (old new : History) → folders ≤ 2 ^ 32 → MayExchange folders (files_of old) → HaveOneTextEach (files_of new) (world_folders folders)
    → Exchanged folders now old new → one < folders → two < folders → HaveTheSame (files_of new) (folder_word one) (files_of new) (folder_word two)
world_same folders one two now old new few may one_text exchange is_one is_two id piece is =
    let here = world_union folders one now old new few may one_text exchange is_one id piece is in
    let there = world_union folders two now old new few may one_text exchange is_two id piece is in
    (λ h. there.1 (here.0 h), λ h. here.1 (there.0 h))

-- no pull among no folders writes
none_played : (now : ℤ) (old new : History) → Exchanged zero now old new → new ≡ old
none_played now old new exchange = exchange.played.in_turn

pub world_again : (folders : ℕ) (now : ℤ) (old new : History) → folders ≤ 2 ^ 32 → MayExchange folders (files_of old) → HaveOneTextEach (files_of new) (world_folders folders)
    → Exchanged folders now old new → MayExchange folders (files_of new)
world_again zero now old new few may one_text exchange = subst (λ (h : History). MayExchange zero (files_of h)) (sym (none_played now old new exchange)) may
world_again (suc more) now old new few may one_text exchange = may_then more now old new few may one_text exchange

-- ---- whatever was played

-- the folders of a world may exchange
pub world_may : (folders : ℕ) (events : List Event) (ends : List Ended) (new : History) → folders ≤ 16 → All (IsWithin folders) events → ArePlayed events ends [] new
    → HaveOneTextEach (files_of new) (world_folders folders) → MayExchange folders (files_of new)
world_may folders events ends new most within played one_text =
    let apart = are_apart folders most in
    let runs = events_take folders most events ends [] new within played in
    let sound = world_is_sound folders most events ends new within played in
    record {
      sound = λ folder below. sound (folder_word folder) (among folders folder below);
      seen = λ one other remote id piece is_one is_other named is has. seen_among (world_folders folders) apart new runs one_text (folder_word one) remote id piece (among folders one is_one) is has;
    }
