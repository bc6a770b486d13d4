-- The folders of a world as members of an exchange.
use Rattle.std.proofs.Common.{◌≡◌, ◌≢◌, ◌<◌, ◌≤◌, ◌+◌, ◌-◌, ◌^◌, ℕ, zero, suc, Bool, true, false, List, ◌∷◌, map, Contains, get_or, codes, Option, Some, None, refl, sym, ◌∙◌, ap, subst, arith}
use Rattle.std.specs.List.{range_with_len}
use Rattle.std.proofs.lemmas.List.FromFn.{get_or-range_with_len, length-range_with_len}
use Rattle.gb_text.specs.Overlap.{Overlap}
use Rattle.gb_text.specs.declared.id.Id.{Id}
use Rattle.gb_store.specs.Files.{Files}
use Rattle.remote_name.specs.RemoteTexts.{is_remote_name}
use Rattle.remote_name.specs.Remotes.{remote_by, remote_of}
use Rattle.remote_name.specs.declared.remote.RemoteName.{RemoteName}
use Rattle.remote_name.proofs.RemoteLemmas.{one_remote}
use Rattle.repo_state.specs.Sound.{IsSound}
use Rattle.repo_state.specs.declared.side.Side.TheVariants as side
use Rattle.repo_state.proofs.ListingLemmas.{Contains-from_map, Contains-map}
use Rattle.full_exchanges.specs.Exchanges.{AreReady, Member, folders_of}
use Rattle.full_exchanges.specs.Having.{Has, OneHas, Piece}
use Rattle.world_events.specs.Words.{folder_word}
use Rattle.world.specs.Folders.{world_folders}
use Rattle.world.proofs.FolderLemmas.{among, numbered as world_number}
use Rattle.exchange_runs.specs.Exchanged.{MayExchange}
use Rattle.exchange_runs.proofs.FolderLemmas.{one_word, word_is_remote, words_apart}

-- the remote's name that was read, or else a name
abbrev or_name : Option RemoteName → RemoteName
or_name (Some remote) = remote
or_name None = record { text = codes "w"; is_name = refl }

-- the folder with this number, by which the others know it under its word
abbrev pub member_at : ℕ → Member
member_at n = record { folder = folder_word n; name = or_name (remote_of (folder_word n)) }

pub name_text : (n : ℕ) → n < 2 ^ 64 → (member_at n).name.text ≡ folder_word n
name_text n within = by (is_remote_name (folder_word n)) refl (word_is_remote n within)
  where
    by : (good : Bool) (g : is_remote_name (folder_word n) ≡ good) → is_remote_name (folder_word n) ≡ true → (or_name (remote_by (folder_word n) good g)).text ≡ folder_word n
    by true g h = refl
    by false g h = absurd (cc (sym h ∙ g))

-- the numbers of a range
pub in_range : (a n x : ℕ) → Contains (range_with_len a n) x → (a ≤ x) × (x < a + n)
in_range a n x (k, lt, e) =
    let within : k < n = omega (arith, lt, length-range_with_len a n) in
    let at : get_or (range_with_len a n) k x ≡ a + k = get_or-range_with_len a n k x within in
    (omega (arith, e, at), omega (arith, e, at, within))

pub range_has : (a n x : ℕ) → a ≤ x → x < a + n → Contains (range_with_len a n) x
range_has a n x low high =
    (x - a, omega (arith, low, high, length-range_with_len a n), get_or-range_with_len a n (x - a) x (omega (arith, low, high)) ∙ omega (arith, low))

-- the first folder, and as many others
abbrev pub others_of : ℕ → List Member
others_of more = map member_at (range_with_len 1 more)

abbrev pub members_of : ℕ → List Member
members_of more = member_at 0 ∷ others_of more

-- each of them is one with a number
numbered : (more : ℕ) (member : Member) → Contains (members_of more) member → (n : ℕ) × (n < suc more) × (member_at n ≡ member)
numbered more member (zero, lt, e) = (0, omega arith, e)
numbered more member (suc k, lt, e) =
    let from = Contains-from_map member_at (range_with_len 1 more) member (k, omega (arith, lt), e) in
    let range = in_range 1 more from.0 from.1 in
    (from.0, omega (arith, range), from.2)

-- their folders are those of the world
numbered_folder : (more : ℕ) (folder : List ℕ) → Contains (folders_of (members_of more)) folder → (n : ℕ) × (n < suc more) × (folder_word n ≡ folder)
numbered_folder more folder c =
    let from = Contains-from_map (λ (m : Member). m.folder) (members_of more) folder c in
    let member = numbered more from.0 from.1 in
    (member.0, member.1, ap (λ (m : Member). m.folder) member.2 ∙ from.2)

pub to_world : (more : ℕ) (folder : List ℕ) → Contains (folders_of (members_of more)) folder → Contains (world_folders (suc more)) folder
to_world more folder c =
    let a = numbered_folder more folder c in
    subst (Contains (world_folders (suc more))) a.2 (among (suc more) a.0 a.1)

in_members : (more n : ℕ) → n < suc more → Contains (members_of more) (member_at n)
in_members more zero within = (0, omega arith, refl)
in_members more (suc n) within =
    let c = Contains-map member_at (range_with_len 1 more) (suc n) (range_has 1 more (suc n) (omega arith) (omega (arith, within))) in
    (suc c.0, omega (arith, c.1), c.2)

pub in_folders : (more n : ℕ) → n < suc more → Contains (folders_of (members_of more)) (folder_word n)
in_folders more n within = Contains-map (λ (m : Member). m.folder) (members_of more) (member_at n) (in_members more n within)

pub from_world : (more : ℕ) (folder : List ℕ) → Contains (world_folders (suc more)) folder → Contains (folders_of (members_of more)) folder
from_world more folder c =
    let a = world_number (suc more) folder c in
    subst (Contains (folders_of (members_of more))) (sym a.2) (in_folders more a.0 a.1)

-- what one of some folders has, one of more has
pub one_of_more : (files : Files) (some more : List (List ℕ)) (id : Id) (piece : Piece) → ((folder : List ℕ) → Contains some folder → Contains more folder) → OneHas files some id piece → OneHas files more id piece
one_of_more files some more id piece within h = record { folder = h.folder; is = within h.folder h.is; has = h.has }

-- the others are not the first
pub others_differ : (more : ℕ) → suc more ≤ 2 ^ 32 → (other : Member) → Contains (others_of more) other → other.folder ≢ folder_word 0
others_differ more few other c same =
    let from = Contains-from_map member_at (range_with_len 1 more) other c in
    let range = in_range 1 more from.0 from.1 in
    let zero_is : from.0 ≡ 0 = one_word from.0 0 (omega (arith, range, few)) (omega arith) (ap (λ (m : Member). m.folder) from.2 ∙ same) in
    omega (arith, range, zero_is)

-- folders of a world that may exchange are ready
pub world_ready : (more : ℕ) (files : Files) → suc more ≤ 2 ^ 32 → MayExchange (suc more) files → AreReady (members_of more) files
world_ready more files few may = record {
  apart = λ one two is_one is_two overlap.
      let a = numbered_folder more one is_one in
      let b = numbered_folder more two is_two in
      sym a.2 ∙ words_apart a.0 b.0 (omega (arith, few, a.1)) (omega (arith, few, b.1))
      (subst (λ (f : List ℕ). Overlap f (folder_word b.0)) (sym a.2) (subst (λ (f : List ℕ). Overlap one f) (sym b.2) overlap)) ∙ b.2;
  sound = λ folder is.
      let a = numbered_folder more folder is in
      subst (λ (f : List ℕ). IsSound f files) a.2 (may.sound a.0 a.1);
  seen = λ one other id piece is_one is_other is has.
      let a = numbered more one is_one in
      let b = numbered more other is_other in
      let here : Has files (folder_word a.0) (side.RemoteBugs other.name) id piece = subst (λ (m : Member). Has files m.folder (side.RemoteBugs other.name) id piece) (sym a.2) has in
      let name : other.name.text ≡ folder_word b.0 = ap (λ (m : Member). m.name.text) (sym b.2) ∙ name_text b.0 (omega (arith, few, b.1)) in
      one_of_more files (world_folders (suc more)) (folders_of (members_of more)) id piece (from_world more) (may.seen a.0 b.0 other.name id piece a.1 b.1 name is here);
}

-- and folders that are ready may exchange
pub may_again : (more : ℕ) (files : Files) → suc more ≤ 2 ^ 32 → AreReady (members_of more) files → MayExchange (suc more) files
may_again more files few ready = record {
  sound = λ n within. ready.sound (folder_word n) (in_folders more n within);
  seen = λ one other remote id piece is_one is_other named is has.
      let name : remote ≡ (member_at other).name = one_remote remote (member_at other).name (named ∙ sym (name_text other (omega (arith, few, is_other)))) in
      one_of_more files (folders_of (members_of more)) (world_folders (suc more)) id piece (to_world more)
      (ready.seen (member_at one) (member_at other) id piece (in_members more one is_one) (in_members more other is_other) is
      (subst (λ (r : RemoteName). Has files (folder_word one) (side.RemoteBugs r) id piece) name has));
}
