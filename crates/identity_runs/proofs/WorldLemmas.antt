-- After a full exchange in which each pull is done, the folders of a world have the same identities.
use Rattle.std.proofs.Common.{◌≡◌, ◌<◌, ◌≤◌, ◌^◌, ℕ, ℤ, zero, suc, List, [], ◌∷◌, Contains, refl, sym, ◌∙◌, subst, arith}
use Rattle.gb_text.specs.Digits.{IsId}
use Rattle.gb_text.specs.Overlap.{Overlap}
use Rattle.gb_text.specs.declared.id.Id.{Id}
use Rattle.gb_text.specs.declared.id.Name.{Name}
use Rattle.gb_store.specs.Files.{History, files_of}
use Rattle.gb_store.specs.Turns.{InTurn}
use Rattle.object_store.specs.Held.{objects_in}
use Rattle.commit_walk.specs.Below.{IsBelow}
use Rattle.ref_store.specs.Refs.{Ref, Absent, Bad, Head}
use Rattle.repo_state.specs.Sides.{head_at}
use Rattle.repo_state.specs.Sound.{IsSound, IsSoundIdentity}
use Rattle.repo_state.specs.Sound as parts
use Rattle.repo_state.specs.declared.side.Side.TheVariants as side
use Rattle.repo_state.proofs.ListingLemmas.{Contains-from_map}
use Rattle.bug_run.specs.Moments.{seconds_of}
use Rattle.bug_run.specs.Runs.{AreApart}
use Rattle.full_exchanges.specs.Exchanges.{AreReady, Member, exchange_among, folders_of}
use Rattle.full_exchanges.specs.Having.{HaveOneTextEach, NameAuthorsAlike}
use Rattle.full_exchanges.specs.Pulls.{WasPulled}
use Rattle.full_exchanges.proofs.ExchangeLemmas.{all_among, all_grew, exchange_follows, folder_in, one_text_before}
use Rattle.world.specs.Digests.{IsDigest}
use Rattle.world.specs.Folders.{world_folders}
use Rattle.world.proofs.FolderLemmas.{among, are_apart, numbered}
use Rattle.world_events.specs.Words.{folder_word}
use Rattle.world_texts.specs.declared.tally.Digest.{Digest}
use Rattle.exchange_runs.specs.Exchanged.{Exchanged, MayExchange}
use Rattle.exchange_runs.specs.Takes.{RunsAmong}
use Rattle.exchange_runs.proofs.AmongLemmas.{seen_among}
use Rattle.exchange_runs.proofs.DigestLemmas.{same_digest}
use Rattle.exchange_runs.proofs.MemberLemmas.{from_world, in_folders, member_at, members_of, others_differ, others_of, to_world, world_ready}
use Rattle.exchange_runs.proofs.PlayedLemmas.{WasWhole, exchange_whole, turns_pulled}
use Rattle.exchange_runs.proofs.WorldLemmas.{world_same}
use Rattle.operation_origins.proofs.OnceLemmas.{before_sound}
use Rattle.identity_runs.specs.Heads.{IsHome, IsThere}
use Rattle.identity_runs.specs.Homes.{AreEditedAtHome, AreMadeOnce}
use Rattle.identity_runs.proofs.HomeLemmas.{home_of}
use Rattle.identity_runs.specs.SamePeople.{HaveTheSamePeople}
use Rattle.identity_runs.proofs.NameLemmas.{names_alike}
use Rattle.identity_runs.proofs.TopLemmas.{IsTop, all_have}
use Rattle.identity_runs.proofs.WereLemmas.{all_were}

-- a head that is in some folders is in more of them
there_in_more : (files : History) (some more : List (List ℕ)) → ((folder : List ℕ) → Contains some folder → Contains more folder) → (id : Id) (head : Name) → IsThere (files_of files) some id head
    → IsThere (files_of files) more id head
there_in_more files some more within id head there = record { folder = there.folder; is = within there.folder there.is; of = there.of; of_people = there.of_people; is_head = there.is_head }

module _ (more : ℕ) (now : ℤ) (mid new : History) (most : suc more ≤ 16) (runs : RunsAmong (world_folders (suc more)) [] mid) (one_text : HaveOneTextEach (files_of new) (world_folders (suc more)))
    (exchange : Exchanged (suc more) now mid new) where
  few : suc more ≤ 2 ^ 32
  few = omega (arith, most)

  abbrev folders : List (List ℕ)
  folders = world_folders (suc more)

  abbrev members : List Member
  members = members_of more

  apart : AreApart folders
  apart = are_apart (suc more) most

  members_apart : (one two : List ℕ) → Contains (folders_of members) one → Contains (folders_of members) two → Overlap one two → one ≡ two
  members_apart one two is_one is_two overlap = apart one two (to_world more one is_one) (to_world more two is_two) overlap

  -- the pulls of the exchange
  turns : InTurn WasWhole (exchange_among (member_at 0) (others_of more) (seconds_of now)) mid new
  turns = exchange_whole more now mid new few exchange

  pulls : InTurn WasPulled (exchange_among (member_at 0) (others_of more) (seconds_of now)) mid new
  pulls = turns_pulled (exchange_among (member_at 0) (others_of more) (seconds_of now)) mid new turns

  text_mid : HaveOneTextEach (files_of mid) folders
  text_mid =
      one_text_before folders mid new
      (λ folder is.
      all_grew members members_apart (exchange_among (member_at 0) (others_of more) (seconds_of now)) mid new (all_among (member_at 0) (others_of more) (others_differ more few) (seconds_of now)) pulls folder (from_world more folder is)) one_text

  text_then : HaveOneTextEach (files_of new) (folders_of members)
  text_then one two name text other is_one is_two here there = one_text one two name text other (to_world more one is_one) (to_world more two is_two) here there

  -- the folders may exchange
  may : MayExchange (suc more) (files_of mid)
  may = record {
    sound = λ folder within. before_sound folders apart mid runs (folder_word folder) (among (suc more) folder within);
    seen = λ one other remote id piece is_one is_other named is has. seen_among folders apart mid runs text_mid (folder_word one) remote id piece (among (suc more) one is_one) is has;
  }

  ready : AreReady members (files_of mid)
  ready = world_ready more (files_of mid) few may

  -- and are sound then
  pub sound_then : (folder : ℕ) → folder < suc more → IsSound (folder_word folder) (files_of new)
  sound_then folder within =
      (exchange_follows (member_at 0) (others_of more) (others_differ more few) (seconds_of now) mid new ready text_then pulls).ready.sound (folder_word folder) (in_folders more folder within)

  -- the member of a number
  member : (folder : ℕ) → folder < suc more → (one : Member) × Contains members one × (one.folder ≡ folder_word folder)
  member folder within = Contains-from_map (λ (m : Member). m.folder) members (folder_word folder) (in_folders more folder within)

  module _ (once : AreMadeOnce (world_folders (suc more)) [] mid runs) (at_home : AreEditedAtHome (world_folders (suc more)) [] mid runs) (id : Id) (is_id : IsId id) where
    -- one head that each folder has then
    abbrev AllHave : Name → Type 0
    AllHave top = (folder : ℕ) → folder < suc more → head_at (files_of new) (folder_word folder) side.Identities id ≡ Head top

    from_home : (home : List ℕ) → IsHome (files_of mid) folders id home → (top : Name) × AllHave top
    from_home home is = (is.top, λ folder within. each folder (member folder within))
      where
        number : (n : ℕ) × (n < suc more) × (home ≡ folder_word n)
        number = numbered (suc more) home is.is

        at : (one : Member) × Contains members one × (one.folder ≡ folder_word number.0)
        at = member number.0 number.1

        same : home ≡ at.0.folder
        same = number.2 ∙ sym at.2

        is_top : IsTop members members_apart id is_id at.0.folder (folder_in members at.0 at.1) is.top mid
        is_top = record {
          at_home = subst (λ (f : List ℕ). head_at (files_of mid) f side.Identities id ≡ Head is.top) same is.is_top;
          below = λ head there.
              subst (λ (f : List ℕ). IsBelow (objects_in (files_of mid) f) (is.top ∷ []) head) same (is.below head (there_in_more mid (folders_of members) folders (to_world more) id head there));
        }

        each : (folder : ℕ) → (one : Member) × Contains members one × (one.folder ≡ folder_word folder) → head_at (files_of new) (folder_word folder) side.Identities id ≡ Head is.top
        each folder (one, among_them, is_word) =
            subst (λ (f : List ℕ). head_at (files_of new) f side.Identities id ≡ Head is.top) is_word
            (all_have (member_at 0) (others_of more) (others_differ more few) (seconds_of now) members_apart id is_id at.0 at.1 is.top mid new turns ready text_then is_top one among_them)

    -- where one folder has the identity then, all have one head of it
    all_have_one : (folder : ℕ) → folder < suc more → (head : Name) → head_at (files_of new) (folder_word folder) side.Identities id ≡ Head head → (top : Name) × AllHave top
    all_have_one folder within head reads =
        let there : IsThere (files_of new) (folders_of members) id head = record { folder = folder_word folder; is = in_folders more folder within; of = side.Identities; of_people = tt; is_head = reads } in
        let was = all_were members members_apart (exchange_among (member_at 0) (others_of more) (seconds_of now)) mid new (all_among (member_at 0) (others_of more) (others_differ more few) (seconds_of now)) pulls id is_id head there in
        let home = home_of folders apart mid runs once at_home id is_id head (there_in_more mid (folders_of members) folders (to_world more) id head was) in
        from_home home.0 home.2

    -- so any two have the same ref
    pub same_ref : (one two : ℕ) → one < suc more → two < suc more → head_at (files_of new) (folder_word one) side.Identities id ≡ head_at (files_of new) (folder_word two) side.Identities id
    same_ref one two is_one is_two = by (head_at (files_of new) (folder_word one) side.Identities id) (head_at (files_of new) (folder_word two) side.Identities id) refl refl
      where
        none_bad : (folder : ℕ) → folder < suc more → head_at (files_of new) (folder_word folder) side.Identities id ≡ Bad → ⊥
        none_bad folder within bad = subst (IsSoundIdentity (objects_in (files_of new) (folder_word folder)) id) bad (sound_then folder within parts.Identities id is_id)

        both : (folder : ℕ) → folder < suc more → (head : Name) → head_at (files_of new) (folder_word folder) side.Identities id ≡ Head head
            → head_at (files_of new) (folder_word one) side.Identities id ≡ head_at (files_of new) (folder_word two) side.Identities id
        both folder within head reads = let all = all_have_one folder within head reads in all.1 one is_one ∙ sym (all.1 two is_two)

        by : (here there : Ref) → head_at (files_of new) (folder_word one) side.Identities id ≡ here → head_at (files_of new) (folder_word two) side.Identities id ≡ there
            → head_at (files_of new) (folder_word one) side.Identities id ≡ head_at (files_of new) (folder_word two) side.Identities id
        by (Head head) there is also = both one is_one head is
        by Bad there is also = absurd (none_bad one is_one is)
        by Absent Absent is also = is ∙ sym also
        by Absent (Head head) is also = both two is_two head also
        by Absent Bad is also = absurd (none_bad two is_two also)

pub same_people : (folders one two : ℕ) (now : ℤ) (mid new : History) → folders ≤ 16 → (runs : RunsAmong (world_folders folders) [] mid) → AreMadeOnce (world_folders folders) [] mid runs
    → AreEditedAtHome (world_folders folders) [] mid runs → HaveOneTextEach (files_of new) (world_folders folders) → Exchanged folders now mid new → one < folders → two < folders
    → HaveTheSamePeople (files_of new) (folder_word one) (folder_word two)
same_people zero one two now mid new most runs once at_home one_text exchange is_one is_two = absurd (omega (arith, is_one))
same_people (suc more) one two now mid new most runs once at_home one_text exchange is_one is_two = λ id is_id. same_ref more now mid new most runs one_text exchange once at_home id is_id one two is_one is_two

-- ---- what they show

-- each folder is sound then
world_sound : (folders folder : ℕ) (now : ℤ) (mid new : History) → folders ≤ 16 → RunsAmong (world_folders folders) [] mid → HaveOneTextEach (files_of new) (world_folders folders) → Exchanged folders now mid new
    → folder < folders → IsSound (folder_word folder) (files_of new)
world_sound zero folder now mid new most runs one_text exchange within = absurd (omega (arith, within))
world_sound (suc more) folder now mid new most runs one_text exchange within = sound_then more now mid new most runs one_text exchange folder within

-- and they might exchange before
pub world_may : (folders : ℕ) (now : ℤ) (mid new : History) → folders ≤ 16 → RunsAmong (world_folders folders) [] mid → HaveOneTextEach (files_of new) (world_folders folders) → Exchanged folders now mid new
    → MayExchange folders (files_of mid)
world_may zero now mid new most runs one_text exchange = record {
  sound = λ folder within. absurd (omega (arith, within));
  seen = λ one other remote id piece is_one is_other named is has. absurd (omega (arith, is_one));
}
world_may (suc more) now mid new most runs one_text exchange = may more now mid new most runs one_text exchange

pub same_names : (folders one two : ℕ) (now : ℤ) (mid new : History) → folders ≤ 16 → (runs : RunsAmong (world_folders folders) [] mid) → AreMadeOnce (world_folders folders) [] mid runs
    → AreEditedAtHome (world_folders folders) [] mid runs → HaveOneTextEach (files_of new) (world_folders folders) → Exchanged folders now mid new → one < folders → two < folders
    → NameAuthorsAlike (files_of new) (folder_word one) (files_of new) (folder_word two)
same_names folders one two now mid new most runs once at_home one_text exchange is_one is_two =
    names_alike (files_of new) (folder_word one) (folder_word two) (world_sound folders one now mid new most runs one_text exchange is_one) (world_sound folders two now mid new most runs one_text exchange is_two)
    (λ name text other here there. one_text (folder_word one) (folder_word two) name text other (among folders one is_one) (among folders two is_two) here there)
    (same_people folders one two now mid new most runs once at_home one_text exchange is_one is_two)

pub same_digests : (folders one two : ℕ) (now : ℤ) (mid new : History) (first second : Digest) → folders ≤ 16 → (runs : RunsAmong (world_folders folders) [] mid) → AreMadeOnce (world_folders folders) [] mid runs
    → AreEditedAtHome (world_folders folders) [] mid runs → HaveOneTextEach (files_of new) (world_folders folders) → Exchanged folders now mid new → one < folders → two < folders
    → IsDigest new one first → IsDigest new two second → first ≡ second
same_digests folders one two now mid new first second most runs once at_home one_text exchange is_one is_two is_first is_second =
    same_digest new one two (omega (arith, most, is_one)) (omega (arith, most, is_two)) (world_sound folders one now mid new most runs one_text exchange is_one) (world_sound folders two now mid new most runs one_text exchange is_two)
    (world_same folders one two now mid new (omega (arith, most)) (world_may folders now mid new most runs one_text exchange) one_text exchange is_one is_two)
    first second is_first is_second (same_names folders one two now mid new most runs once at_home one_text exchange is_one is_two)
