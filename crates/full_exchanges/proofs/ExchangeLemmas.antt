-- What pulls among folders keep, and what a full exchange leaves.
use Rattle.std.proofs.Common.{◌≡◌, ◌≢◌, ◌⊎◌, inl, inr, ℕ, zero, suc, List, [], ◌∷◌, ◌++◌, Contains, refl, sym, ◌∙◌, ap, subst, arith}
use Rattle.std.specs.Prelude.{All}
use Rattle.std.proofs.lemmas.List.Elements.{All-append, All-cons, All-head, All-nil, All-tail}
use Rattle.gb_text.specs.Digits.{IsId}
use Rattle.gb_text.specs.Folder.{joined}
use Rattle.gb_text.specs.Overlap.{Overlap}
use Rattle.gb_text.specs.declared.id.Id.{Id}
use Rattle.gb_store.specs.Files.{Files, History, files_of}
use Rattle.gb_store.specs.Turns.{InTurn}
use Rattle.object_store.specs.Growth.{OnlyGrew}
use Rattle.object_store.specs.Held.{objects_after}
use Rattle.object_store.proofs.GrowthLemmas.{OnlyGrew-none, OnlyGrew-then, text_stays}
use Rattle.remote_name.specs.declared.remote.RemoteName.{RemoteName}
use Rattle.remote_name.proofs.RemoteLemmas.{one_remote}
use Rattle.repo_state.specs.Sound.{IsSound}
use Rattle.repo_state.specs.declared.side.Side.TheVariants as side
use Rattle.repo_state.proofs.ListingLemmas.{Contains-from_map, Contains-map}
use Rattle.repo_state.proofs.PlaceLemmas.{same_or_other}
use Rattle.repo_writes.proofs.StayLemmas.{part-stays}
use Rattle.full_exchanges.specs.Exchanges.{AreReady, IsAmong, Member, exchange_among, folders_of, gathering, pull_of, spreading}
use Rattle.full_exchanges.specs.Having.{Has, HasAllOf, HaveOneTextEach, HaveTheSame, OneHas, Piece}
use Rattle.full_exchanges.specs.Leaving.{IsUntouched, Joins}
use Rattle.full_exchanges.specs.Pulls.{Brings, Pull, WasPulled}
use Rattle.full_exchanges.proofs.HasLemmas.{had_before, has_still, same_objects}
use Rattle.full_exchanges.proofs.PullLemmas.{pull_grew, pull_joins, pull_leaves, pull_sound}

-- folders that do not overlap unless they are one
abbrev AreApart : List Member → Type 0
AreApart members = (one two : List ℕ) → Contains (folders_of members) one → Contains (folders_of members) two → Overlap one two → one ≡ two

-- the folder of one of them is one of their folders
pub folder_in : (members : List Member) (member : Member) → Contains members member → Contains (folders_of members) member.folder
folder_in members member c = Contains-map (λ (m : Member). m.folder) members member c

-- ---- one pull

module _ (members : List Member) (apart : AreApart members) (one other : Member) (is_one : Contains members one) (is_other : Contains members other) (differ : one.folder ≢ other.folder)
    (now : ℕ) (old new : History) (was : WasPulled (pull_of one other now) old new) where
  abbrev taken : Pull
  taken = pull_of one other now

  own_in : Contains (folders_of members) one.folder
  own_in = folder_in members one is_one

  peer_in : Contains (folders_of members) other.folder
  peer_in = folder_in members other is_other

  never_over : Overlap one.folder other.folder → ⊥
  never_over overlap = differ (apart one.folder other.folder own_in peer_in overlap)

  others_left : (folder : List ℕ) → Contains (folders_of members) folder → folder ≢ one.folder → IsUntouched folder (files_of old) (files_of new)
  others_left folder is differs = pull_leaves taken old new never_over was folder (λ overlap. differs (apart folder one.folder is own_in overlap))

  -- each folder only gets objects
  pub one_grew : (folder : List ℕ) → Contains (folders_of members) folder → OnlyGrew (objects_after old folder) (objects_after new folder)
  one_grew folder is = by (same_or_other folder one.folder)
    where
      by : (folder ≡ one.folder) ⊎ (folder ≢ one.folder) → OnlyGrew (objects_after old folder) (objects_after new folder)
      by (inl same) = subst (λ (f : List ℕ). OnlyGrew (objects_after old f) (objects_after new f)) (sym same) (pull_grew taken old new never_over was)
      by (inr differs) =
          subst (OnlyGrew (objects_after old folder)) (sym (same_objects folder (files_of old) (files_of new) (others_left folder is differs))) (OnlyGrew-none (objects_after old folder))

  module _ (ready : AreReady members (files_of old)) (one_text : HaveOneTextEach (files_of new) (folders_of members)) where
    joins : Joins taken (files_of old) (files_of new)
    joins = pull_joins taken old new never_over was (ready.sound one.folder own_in) (ready.sound other.folder peer_in) texts
      where
        in_both : (folder : List ℕ) → Contains (one.folder ∷ other.folder ∷ []) folder → Contains (folders_of members) folder
        in_both folder (zero, lt, e) = subst (Contains (folders_of members)) e own_in
        in_both folder (suc zero, lt, e) = subst (Contains (folders_of members)) e peer_in
        in_both folder (suc (suc k), lt, e) = absurd (omega (arith, lt))

        texts : HaveOneTextEach (files_of new) (one.folder ∷ other.folder ∷ [])
        texts a b name text also ca cb ea eb = one_text a b name text also (in_both a ca) (in_both b cb) ea eb

    -- what the other has the first gets
    pub one_gets : (id : Id) (piece : Piece) → IsId id → Has (files_of old) other.folder side.Bugs id piece → Has (files_of new) one.folder side.Bugs id piece
    one_gets id piece is h = (joins.own id piece is).1 (inr (inl h))

    -- what one has it keeps
    pub one_keeps : (folder : List ℕ) (id : Id) (piece : Piece) → Contains (folders_of members) folder → IsId id → Has (files_of old) folder side.Bugs id piece
        → Has (files_of new) folder side.Bugs id piece
    one_keeps folder id piece is is_id h = by (same_or_other folder one.folder)
      where
        by : (folder ≡ one.folder) ⊎ (folder ≢ one.folder) → Has (files_of new) folder side.Bugs id piece
        by (inl same) =
            subst (λ (f : List ℕ). Has (files_of new) f side.Bugs id piece) (sym same)
            ((joins.own id piece is_id).1 (inl (subst (λ (f : List ℕ). Has (files_of old) f side.Bugs id piece) same h)))
        by (inr differs) = has_still folder (files_of old) (files_of new) (others_left folder is differs) side.Bugs id piece h

    -- what is brought some had
    brought : (id : Id) (piece : Piece) → IsId id → Brings (files_of old) taken id piece → OneHas (files_of old) (folders_of members) id piece
    brought id piece is (inl there) = record { folder = other.folder; is = peer_in; has = there }
    brought id piece is (inr seen) = ready.seen one other id piece is_one is_other is seen.1

    -- what one has then some had
    pub one_had : (folder : List ℕ) (id : Id) (piece : Piece) → Contains (folders_of members) folder → IsId id → Has (files_of new) folder side.Bugs id piece
        → OneHas (files_of old) (folders_of members) id piece
    one_had folder id piece is is_id h = by (same_or_other folder one.folder)
      where
        mine : Has (files_of old) one.folder side.Bugs id piece ⊎ Brings (files_of old) taken id piece → OneHas (files_of old) (folders_of members) id piece
        mine (inl own) = record { folder = one.folder; is = own_in; has = own }
        mine (inr there) = brought id piece is_id there

        by : (folder ≡ one.folder) ⊎ (folder ≢ one.folder) → OneHas (files_of old) (folders_of members) id piece
        by (inl same) = mine ((joins.own id piece is_id).0 (subst (λ (f : List ℕ). Has (files_of new) f side.Bugs id piece) same h))
        by (inr differs) = record { folder = folder; is = is; has = had_before folder (files_of old) (files_of new) (others_left folder is differs) side.Bugs id piece h }

    still_one : (id : Id) (piece : Piece) → IsId id → OneHas (files_of old) (folders_of members) id piece → OneHas (files_of new) (folders_of members) id piece
    still_one id piece is h = record { folder = h.folder; is = h.is; has = one_keeps h.folder id piece h.is is h.has }

    -- what one has last seen some have
    seen_then : (here there : Member) (id : Id) (piece : Piece) → Contains members here → Contains members there → IsId id
        → Has (files_of new) here.folder (side.RemoteBugs there.name) id piece → OneHas (files_of new) (folders_of members) id piece
    seen_then here there id piece is_here is_there is h = still_one id piece is (by (same_or_other here.folder one.folder))
      where
        own : here.folder ≡ one.folder → (there.name.text ≡ other.name.text) ⊎ (there.name.text ≢ other.name.text) → OneHas (files_of old) (folders_of members) id piece
        own same (inl e) =
            let name : there.name ≡ other.name = one_remote there.name other.name e in
            brought id piece is
            ((joins.seen id piece is).0 (subst (λ (remote : RemoteName). Has (files_of new) one.folder (side.RemoteBugs remote) id piece) name
            (subst (λ (f : List ℕ). Has (files_of new) f (side.RemoteBugs there.name) id piece) same h)))
        own same (inr e) =
            ready.seen one there id piece is_one is_there is
            ((joins.elsewhere there.name id piece (λ same_name. e (ap (λ (remote : RemoteName). remote.text) same_name)) is).0
            (subst (λ (f : List ℕ). Has (files_of new) f (side.RemoteBugs there.name) id piece) same h))

        by : (here.folder ≡ one.folder) ⊎ (here.folder ≢ one.folder) → OneHas (files_of old) (folders_of members) id piece
        by (inl same) = own same (same_or_other there.name.text other.name.text)
        by (inr differs) =
            ready.seen here there id piece is_here is_there is
            (had_before here.folder (files_of old) (files_of new) (others_left here.folder (folder_in members here is_here) differs) (side.RemoteBugs there.name) id piece h)

    sound_then : (folder : List ℕ) → Contains (folders_of members) folder → IsSound folder (files_of new)
    sound_then folder is = by (same_or_other folder one.folder)
      where
        by : (folder ≡ one.folder) ⊎ (folder ≢ one.folder) → IsSound folder (files_of new)
        by (inl same) = subst (λ (f : List ℕ). IsSound f (files_of new)) (sym same) (pull_sound taken old new never_over was (ready.sound one.folder own_in))
        by (inr differs) = λ part. part-stays folder (files_of old) (files_of new) (others_left folder is differs) part (ready.sound folder is part)

    pub one_ready : AreReady members (files_of new)
    one_ready = record { apart = apart; sound = sound_then; seen = seen_then }

-- ---- pulls one after another

module _ (members : List Member) (apart : AreApart members) where
  -- each folder only gets objects
  pub all_grew : (pulls : List Pull) (old new : History) → All (IsAmong members) pulls → InTurn WasPulled pulls old new → (folder : List ℕ) → Contains (folders_of members) folder
      → OnlyGrew (objects_after old folder) (objects_after new folder)
  all_grew [] old new all same folder is = subst (λ (h : History). OnlyGrew (objects_after old folder) (objects_after h folder)) (sym same) (OnlyGrew-none (objects_after old folder))
  all_grew (pull ∷ pulls) old new all (mid, was, later) folder is =
      let at = All-head (IsAmong members) pull pulls all in
      OnlyGrew-then (objects_after old folder) (objects_after mid folder) (objects_after new folder)
      (one_grew members apart at.one at.other at.is_one at.is_other at.differ at.now old mid (subst (λ (p : Pull). WasPulled p old mid) at.is was) folder is)
      (all_grew pulls mid new (All-tail (IsAmong members) pull pulls all) later folder is)

-- where each name is of one text at the end, so it was before
pub one_text_before : (folders : List (List ℕ)) (old new : History) → ((folder : List ℕ) → Contains folders folder → OnlyGrew (objects_after old folder) (objects_after new folder))
    → HaveOneTextEach (files_of new) folders → HaveOneTextEach (files_of old) folders
one_text_before folders old new grew one_text one two name text other is_one is_two e f =
    one_text one two name text other is_one is_two (text_stays (objects_after old one) (objects_after new one) (grew one is_one) name text e)
    (text_stays (objects_after old two) (objects_after new two) (grew two is_two) name other f)

-- what pulls among folders leave: these may exchange again, each keeps what it has, and none gets more than one of them had
pub record Follows (members : List Member) (old new : Files) : Type 0 where
  pub ready : AreReady members new
  pub keeps : (folder : List ℕ) (id : Id) (piece : Piece) → Contains (folders_of members) folder → IsId id → Has old folder side.Bugs id piece → Has new folder side.Bugs id piece
  pub had : (folder : List ℕ) (id : Id) (piece : Piece) → Contains (folders_of members) folder → IsId id → Has new folder side.Bugs id piece → OneHas old (folders_of members) id piece

follows_none : (members : List Member) (files : Files) → AreReady members files → Follows members files files
follows_none members files ready = record {
  ready = ready;
  keeps = λ folder id piece is is_id h. h;
  had = λ folder id piece is is_id h. record { folder = folder; is = is; has = h };
}

follows_then : (members : List Member) (old mid new : Files) → Follows members old mid → Follows members mid new → Follows members old new
follows_then members old mid new first second = record {
  ready = second.ready;
  keeps = λ folder id piece is is_id h. second.keeps folder id piece is is_id (first.keeps folder id piece is is_id h);
  had = λ folder id piece is is_id h.
      let one = second.had folder id piece is is_id h in
      first.had one.folder id piece one.is is_id one.has;
}

module _ (members : List Member) where
  -- one pull
  follows_one : (pull : Pull) (old new : History) → AreReady members (files_of old) → HaveOneTextEach (files_of new) (folders_of members) → IsAmong members pull → WasPulled pull old new
      → Follows members (files_of old) (files_of new)
  follows_one pull old new ready one_text at was =
      let done = subst (λ (p : Pull). WasPulled p old new) at.is was in
      record {
        ready = one_ready members ready.apart at.one at.other at.is_one at.is_other at.differ at.now old new done ready one_text;
        keeps = one_keeps members ready.apart at.one at.other at.is_one at.is_other at.differ at.now old new done ready one_text;
        had = one_had members ready.apart at.one at.other at.is_one at.is_other at.differ at.now old new done ready one_text;
      }

  -- any pulls
  pub follows : (pulls : List Pull) (old new : History) → AreReady members (files_of old) → HaveOneTextEach (files_of new) (folders_of members) → All (IsAmong members) pulls
      → InTurn WasPulled pulls old new → Follows members (files_of old) (files_of new)
  follows [] old new ready one_text all same = subst (λ (h : History). Follows members (files_of old) (files_of h)) (sym same) (follows_none members (files_of old) ready)
  follows (pull ∷ pulls) old new ready one_text all (mid, was, later) =
      let rest = All-tail (IsAmong members) pull pulls all in
      let text = one_text_before (folders_of members) mid new (all_grew members ready.apart pulls mid new rest later) one_text in
      let first = follows_one pull old mid ready text (All-head (IsAmong members) pull pulls all) was in
      follows_then members (files_of old) (files_of mid) (files_of new) first (follows pulls mid new first.ready one_text rest later)

-- ---- a full exchange

-- turns of two lists are turns of the one and then of the other
turns_split : {A : Type 0} (Step : A → History → History → Type 0) (xs ys : List A) (old new : History) → InTurn Step (xs ++ ys) old new
    → (mid : History) × InTurn Step xs old mid × InTurn Step ys mid new
turns_split Step [] ys old new turns = (old, refl, turns)
turns_split Step (x ∷ xs) ys old new (mid, step, later) =
    let rest = turns_split Step xs ys mid new later in
    (rest.0, (mid, step, rest.1), rest.2)

module _ (first : Member) (all : List Member) (differ : (other : Member) → Contains all other → other.folder ≢ first.folder) where
  abbrev members : List Member
  members = first ∷ all

  first_in : Contains members first
  first_in = (0, omega arith, refl)

  later_in : (other : Member) → Contains all other → Contains members other
  later_in other (k, lt, e) = (suc k, omega (arith, lt), e)

  module _ (now : ℕ) where
    -- the pulls of an exchange are among the folders
    gathers_among : (others : List Member) → ((other : Member) → Contains others other → Contains all other) → All (IsAmong members) (gathering first others now)
    gathers_among [] within = All-nil (IsAmong members)
    gathers_among (other ∷ others) within =
        let is = within other (0, omega arith, refl) in
        All-cons (IsAmong members) (pull_of first other now) (gathering first others now)
        (record { one = first; is_one = first_in; other = other; is_other = later_in other is; differ = λ same. differ other is (sym same); now = now; is = refl })
        (gathers_among others (λ m c. within m (suc c.0, omega (arith, c.1), c.2)))

    spreads_among : (others : List Member) → ((other : Member) → Contains others other → Contains all other) → All (IsAmong members) (spreading first others now)
    spreads_among [] within = All-nil (IsAmong members)
    spreads_among (other ∷ others) within =
        let is = within other (0, omega arith, refl) in
        All-cons (IsAmong members) (pull_of other first now) (spreading first others now)
        (record { one = other; is_one = later_in other is; other = first; is_other = first_in; differ = differ other is; now = now; is = refl })
        (spreads_among others (λ m c. within m (suc c.0, omega (arith, c.1), c.2)))

    pub all_among : All (IsAmong members) (exchange_among first all now)
    all_among = All-append (IsAmong members) (gathering first all now) (spreading first all now) (gathers_among all (λ m c. c)) (spreads_among all (λ m c. c))

    -- what one of the others has the first gets from it
    gathered : (others : List Member) → ((other : Member) → Contains others other → Contains all other) → (old new : History) → AreReady members (files_of old)
        → HaveOneTextEach (files_of new) (folders_of members) → InTurn WasPulled (gathering first others now) old new → (other : Member) → Contains others other
        → (id : Id) (piece : Piece) → IsId id → Has (files_of old) other.folder side.Bugs id piece → Has (files_of new) first.folder side.Bugs id piece
    gathered [] within old new ready one_text turns other (k, lt, e) id piece is h = absurd (omega (arith, lt))
    gathered (next ∷ others) within old new ready one_text (mid, was, later) other c id piece is h =
        let mine = within next (0, omega arith, refl) in
        let rest : (m : Member) → Contains others m → Contains all m = λ m d. within m (suc d.0, omega (arith, d.1), d.2) in
        let among = gathers_among others rest in
        let text = one_text_before (folders_of members) mid new (all_grew members ready.apart (gathering first others now) mid new among later) one_text in
        let step = follows_one members (pull_of first next now) old mid ready text
        (record { one = first; is_one = first_in; other = next; is_other = later_in next mine; differ = λ same. differ next mine (sym same); now = now; is = refl }) was in
        let after = follows members (gathering first others now) mid new step.ready one_text among later in
        by c mine rest text after was (λ there has. gathered others rest mid new step.ready one_text later other there id piece is has) h
      where
        by : (c : Contains (next ∷ others) other) (mine : Contains all next) (rest : (m : Member) → Contains others m → Contains all m) (text : HaveOneTextEach (files_of mid) (folders_of members))
            → Follows members (files_of mid) (files_of new) → WasPulled (pull_of first next now) old mid
            → (Contains others other → Has (files_of mid) other.folder side.Bugs id piece → Has (files_of new) first.folder side.Bugs id piece)
            → Has (files_of old) other.folder side.Bugs id piece → Has (files_of new) first.folder side.Bugs id piece
        by (zero, lt, e) mine rest text after was still h =
            after.keeps first.folder id piece (folder_in members first first_in) is
            (one_gets members ready.apart first next first_in (later_in next mine) (λ same. differ next mine (sym same)) now old mid was ready text id piece is
            (subst (λ (m : Member). Has (files_of old) m.folder side.Bugs id piece) (sym e) h))
        by (suc k, lt, e) mine rest text after was still h =
            let there : Contains others other = (k, omega (arith, lt), e) in
            still there
            (one_keeps members ready.apart first next first_in (later_in next mine) (λ same. differ next mine (sym same)) now old mid was ready text other.folder id piece
            (folder_in members other (later_in other (rest other there))) is h)

    -- what the first has each of the others gets
    spread : (others : List Member) → ((other : Member) → Contains others other → Contains all other) → (old new : History) → AreReady members (files_of old)
        → HaveOneTextEach (files_of new) (folders_of members) → InTurn WasPulled (spreading first others now) old new → (other : Member) → Contains others other
        → (id : Id) (piece : Piece) → IsId id → Has (files_of old) first.folder side.Bugs id piece → Has (files_of new) other.folder side.Bugs id piece
    spread [] within old new ready one_text turns other (k, lt, e) id piece is h = absurd (omega (arith, lt))
    spread (next ∷ others) within old new ready one_text (mid, was, later) other c id piece is h =
        let mine = within next (0, omega arith, refl) in
        let rest : (m : Member) → Contains others m → Contains all m = λ m d. within m (suc d.0, omega (arith, d.1), d.2) in
        let among = spreads_among others rest in
        let text = one_text_before (folders_of members) mid new (all_grew members ready.apart (spreading first others now) mid new among later) one_text in
        let step = follows_one members (pull_of next first now) old mid ready text
        (record { one = next; is_one = later_in next mine; other = first; is_other = first_in; differ = differ next mine; now = now; is = refl }) was in
        let after = follows members (spreading first others now) mid new step.ready one_text among later in
        by c mine text after was (λ there has. spread others rest mid new step.ready one_text later other there id piece is has) h
      where
        by : (c : Contains (next ∷ others) other) (mine : Contains all next) (text : HaveOneTextEach (files_of mid) (folders_of members))
            → Follows members (files_of mid) (files_of new) → WasPulled (pull_of next first now) old mid
            → (Contains others other → Has (files_of mid) first.folder side.Bugs id piece → Has (files_of new) other.folder side.Bugs id piece)
            → Has (files_of old) first.folder side.Bugs id piece → Has (files_of new) other.folder side.Bugs id piece
        by (zero, lt, e) mine text after was still h =
            subst (λ (m : Member). Has (files_of new) m.folder side.Bugs id piece) e
            (after.keeps next.folder id piece (folder_in members next (later_in next mine)) is
            (one_gets members ready.apart next first (later_in next mine) first_in (differ next mine) now old mid was ready text id piece is h))
        by (suc k, lt, e) mine text after was still h =
            still (k, omega (arith, lt), e)
            (one_keeps members ready.apart next first (later_in next mine) first_in (differ next mine) now old mid was ready text first.folder id piece (folder_in members first first_in) is h)

    -- ---- the union

    -- one of the folders is the first's, or one of the others'
    folder_cases : (folder : List ℕ) → Contains (folders_of members) folder → (folder ≡ first.folder) ⊎ ((other : Member) × Contains all other × (other.folder ≡ folder))
    folder_cases folder (zero, lt, e) = inl (sym e)
    folder_cases folder (suc k, lt, e) = inr (Contains-from_map (λ (m : Member). m.folder) all folder (k, omega (arith, lt), e))

    -- the first has all after its pulls
    pub gathering_leaves : (old new : History) → AreReady members (files_of old) → HaveOneTextEach (files_of new) (folders_of members) → InTurn WasPulled (gathering first all now) old new
        → HasAllOf (files_of new) first.folder (files_of old) (folders_of members)
    gathering_leaves old new ready one_text turns id piece is = (after.had first.folder id piece (folder_in members first first_in) is, gets)
      where
        after : Follows members (files_of old) (files_of new)
        after = follows members (gathering first all now) old new ready one_text (gathers_among all (λ m c. c)) turns

        gets : OneHas (files_of old) (folders_of members) id piece → Has (files_of new) first.folder side.Bugs id piece
        gets h = elim (folder_cases h.folder h.is) [
          | inl same ↦ after.keeps first.folder id piece (folder_in members first first_in) is (subst (λ (f : List ℕ). Has (files_of old) f side.Bugs id piece) same h.has)
          | inr (other, c, e) ↦
              gathered all (λ m d. d) old new ready one_text turns other c id piece is (subst (λ (f : List ℕ). Has (files_of old) f side.Bugs id piece) (sym e) h.has)
        ]

    -- and the others what they had
    gathering_untouched : (others : List Member) → ((other : Member) → Contains others other → Contains all other) → AreApart members → (old new : History)
        → InTurn WasPulled (gathering first others now) old new → (folder : List ℕ) → Contains (folders_of members) folder → folder ≢ first.folder → IsUntouched folder (files_of old) (files_of new)
    gathering_untouched [] within apart old new same folder is differs = λ rest plain. ap (λ (h : History). files_of h (joined folder rest)) same
    gathering_untouched (next ∷ others) within apart old new (mid, was, later) folder is differs = λ rest plain.
        gathering_untouched others (λ m d. within m (suc d.0, omega (arith, d.1), d.2)) apart mid new later folder is differs rest plain
        ∙ others_left members apart first next first_in (later_in next (within next (0, omega arith, refl))) (λ same. differ next (within next (0, omega arith, refl)) (sym same)) now old mid was folder is differs rest plain

    pub gathering_keeps : AreApart members → (other : Member) → Contains all other → (old new : History) → InTurn WasPulled (gathering first all now) old new
        → HaveTheSame (files_of new) other.folder (files_of old) other.folder
    gathering_keeps apart other c old new turns id piece is =
        let still = gathering_untouched all (λ m d. d) apart old new turns other.folder (folder_in members other (later_in other c)) (differ other c) in
        (had_before other.folder (files_of old) (files_of new) still side.Bugs id piece, has_still other.folder (files_of old) (files_of new) still side.Bugs id piece)

    pub exchange_follows : (old new : History) → AreReady members (files_of old) → HaveOneTextEach (files_of new) (folders_of members) → InTurn WasPulled (exchange_among first all now) old new
        → Follows members (files_of old) (files_of new)
    exchange_follows old new ready one_text turns = follows members (exchange_among first all now) old new ready one_text all_among turns

    -- after a full exchange each has all
    pub exchange_leaves : (old new : History) → AreReady members (files_of old) → HaveOneTextEach (files_of new) (folders_of members) → InTurn WasPulled (exchange_among first all now) old new
        → (folder : List ℕ) → Contains (folders_of members) folder → HasAllOf (files_of new) folder (files_of old) (folders_of members)
    exchange_leaves old new ready one_text turns folder is id piece is_id = ((exchange_follows old new ready one_text turns).had folder id piece is is_id, gets)
      where
        parts : (mid : History) × InTurn WasPulled (gathering first all now) old mid × InTurn WasPulled (spreading first all now) mid new
        parts = turns_split WasPulled (gathering first all now) (spreading first all now) old new turns

        text : HaveOneTextEach (files_of parts.0) (folders_of members)
        text = one_text_before (folders_of members) parts.0 new (all_grew members ready.apart (spreading first all now) parts.0 new (spreads_among all (λ m c. c)) parts.2) one_text

        at_mid : AreReady members (files_of parts.0)
        at_mid = (follows members (gathering first all now) old parts.0 ready text (gathers_among all (λ m c. c)) parts.1).ready

        after : Follows members (files_of parts.0) (files_of new)
        after = follows members (spreading first all now) parts.0 new at_mid one_text (spreads_among all (λ m c. c)) parts.2

        gets : OneHas (files_of old) (folders_of members) id piece → Has (files_of new) folder side.Bugs id piece
        gets h =
            let first_has = (gathering_leaves old parts.0 ready text parts.1 id piece is_id).1 h in
            elim (folder_cases folder is) [
              | inl same ↦
                  subst (λ (f : List ℕ). Has (files_of new) f side.Bugs id piece) (sym same) (after.keeps first.folder id piece (folder_in members first first_in) is_id first_has)
              | inr (other, c, e) ↦
                  subst (λ (f : List ℕ). Has (files_of new) f side.Bugs id piece) e (spread all (λ m d. d) parts.0 new at_mid one_text parts.2 other c id piece is_id first_has)
            ]

    pub exchange_agrees : (old new : History) → AreReady members (files_of old) → HaveOneTextEach (files_of new) (folders_of members) → InTurn WasPulled (exchange_among first all now) old new
        → (one two : List ℕ) → Contains (folders_of members) one → Contains (folders_of members) two → HaveTheSame (files_of new) one (files_of new) two
    exchange_agrees old new ready one_text turns one two is_one is_two id piece is =
        let here = exchange_leaves old new ready one_text turns one is_one id piece is in
        let there = exchange_leaves old new ready one_text turns two is_two id piece is in
        (λ h. there.1 (here.0 h), λ h. here.1 (there.0 h))

    -- later pulls bring no more
    pub later_pulls : (pulls : List Pull) (old mid new : History) → AreReady members (files_of old) → HaveOneTextEach (files_of new) (folders_of members)
        → InTurn WasPulled (exchange_among first all now) old mid → All (IsAmong members) pulls → InTurn WasPulled pulls mid new → (folder : List ℕ) → Contains (folders_of members) folder
        → HaveTheSame (files_of new) folder (files_of mid) folder
    later_pulls pulls old mid new ready one_text turns among later folder is id piece is_id = (back, after.keeps folder id piece is is_id)
      where
        text : HaveOneTextEach (files_of mid) (folders_of members)
        text = one_text_before (folders_of members) mid new (all_grew members ready.apart pulls mid new among later) one_text

        after : Follows members (files_of mid) (files_of new)
        after = follows members pulls mid new (exchange_follows old mid ready text turns).ready one_text among later

        back : Has (files_of new) folder side.Bugs id piece → Has (files_of mid) folder side.Bugs id piece
        back h =
            let one = after.had folder id piece is is_id h in
            (exchange_leaves old mid ready text turns folder is id piece is_id).1 ((exchange_leaves old mid ready text turns one.folder one.is id piece is_id).0 one.has)
