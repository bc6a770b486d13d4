-- Pulls that refuse nothing bring the head that an identity has at home, and keep it.
use Rattle.std.proofs.Common.{◌≡◌, ◌≢◌, ◌⊎◌, inl, inr, ℕ, suc, List, [], ◌∷◌, ◌++◌, Contains, refl, sym, ◌∙◌, subst, arith}
use Rattle.std.specs.Prelude.{All}
use Rattle.std.proofs.lemmas.List.Elements.{All-cons, All-contains, All-head, All-nil, All-tail}
use Rattle.gb_text.specs.Digits.{IsId}
use Rattle.gb_text.specs.Overlap.{Overlap}
use Rattle.gb_text.specs.declared.id.Id.{Id}
use Rattle.gb_text.specs.declared.id.Name.{Name}
use Rattle.gb_store.specs.Files.{History, files_of}
use Rattle.gb_store.specs.Turns.{InTurn}
use Rattle.git_object.specs.declared.frame.Kind.TheVariants as kinds
use Rattle.object_store.specs.Growth.{OnlyGrew}
use Rattle.object_store.specs.Held.{Objects, objects_after, objects_in}
use Rattle.object_batch.specs.Needs.{IsHeldAs}
use Rattle.commit_walk.specs.Below.{IsBelow, head as at_top}
use Rattle.commit_walk.proofs.BelowLemmas.{IsBelow-stays}
use Rattle.commit_walk.proofs.DistinctLemmas.{Contains-cons, Contains-first, Contains-map}
use Rattle.identity.specs.Persons.{IsChain}
use Rattle.identity.proofs.ExtendLemmas.{chain_stays}
use Rattle.identity.proofs.MadeLemmas.{head_held as chain_held}
use Rattle.ref_store.specs.Refs.{Head}
use Rattle.repo_state.specs.Sides.{head_at}
use Rattle.repo_state.specs.Sound.{IsSoundIdentity}
use Rattle.repo_state.specs.Sound as parts
use Rattle.repo_state.specs.declared.side.Side.TheVariants as side
use Rattle.repo_state.proofs.PlaceLemmas.{same_or_other}
use Rattle.repo_writes.specs.Kept.{KeepsBelow}
use Rattle.full_exchanges.specs.Exchanges.{AreReady, IsAmong, Member, exchange_among, folders_of, gathering, pull_of, spreading}
use Rattle.full_exchanges.specs.Having.{HaveOneTextEach}
use Rattle.full_exchanges.specs.Pulls.{Pull, WasPulled}
use Rattle.full_exchanges.proofs.ExchangeLemmas.{all_grew, folder_in, one_grew, one_ready, one_text_before}
use Rattle.full_exchanges.proofs.HasLemmas.{head_held, same_heads}
use Rattle.copy_limits.proofs.RingLemmas.{identity_no_ring}
use Rattle.exchange_runs.proofs.PlayedLemmas.{WasWhole, turns_pulled}
use Rattle.identity_runs.specs.Heads.{IsThere}
use Rattle.identity_runs.proofs.ChainLemmas.{below_held, below_over}
use Rattle.identity_runs.proofs.FetchLemmas.{fetch_brings, merge_brings}
use Rattle.identity_runs.proofs.RingLemmas.{both_below}
use Rattle.identity_runs.proofs.WereLemmas.{one_was, others_left, own_loses_nothing}

module _ (members : List Member) (apart : (one two : List ℕ) → Contains (folders_of members) one → Contains (folders_of members) two → Overlap one two → one ≡ two)
    (id : Id) (is_id : IsId id) (home : List ℕ) (in_home : Contains (folders_of members) home) (top : Name) where
  abbrev folders : List (List ℕ)
  folders = folders_of members

  -- a folder has the head
  abbrev pub HasIt : History → List ℕ → Type 0
  HasIt files folder = head_at (files_of files) folder side.Identities id ≡ Head top

  -- it is the head at home, at or below which each other is
  pub record IsTop (files : History) : Type 0 where
    pub at_home : head_at (files_of files) home side.Identities id ≡ Head top
    pub below : (head : Name) → IsThere (files_of files) (folders_of members) id head → IsBelow (objects_after files home) (top ∷ []) head

  -- ---- one pull

  module _ (one other : Member) (is_one : Contains members one) (is_other : Contains members other) (differ : one.folder ≢ other.folder) (now : ℕ) (old new : History)
      (whole : WasWhole (pull_of one other now) old new) (ready : AreReady members (files_of old)) (one_text : HaveOneTextEach (files_of new) folders) (is_top : IsTop old) where
    abbrev was : WasPulled (pull_of one other now) old new
    was = whole.was

    own_in : Contains folders one.folder
    own_in = folder_in members one is_one

    ready_then : AreReady members (files_of new)
    ready_then = one_ready members apart one other is_one is_other differ now old new was ready one_text

    grew : (folder : List ℕ) → Contains folders folder → OnlyGrew (objects_after old folder) (objects_after new folder)
    grew folder is = one_grew members apart one other is_one is_other differ now old new was folder is

    below_then : (head : Name) → IsThere (files_of new) folders id head → IsBelow (objects_after new home) (top ∷ []) head
    below_then head there = IsBelow-stays (objects_after old home) (objects_after new home) (grew home in_home) (top ∷ []) head (is_top.below head (one_was members apart one other is_one is_other differ now old new was id is_id head there))

    -- the chain at home
    abbrev held : Objects
    held = objects_after new home

    chain : IsChain held id top
    chain =
        (chain_stays (objects_after old home) held (grew home in_home) id top
        (subst (IsSoundIdentity (objects_in (files_of old) home) id) is_top.at_home (ready.sound home in_home parts.Identities id is_id))).0

    home_holds : IsHeldAs held top kinds.Commit
    home_holds = chain_held held id top chain

    -- a local head with it at or below is the head itself
    is_it : (folder : List ℕ) → Contains folders folder → (head : Name) → head_at (files_of new) folder side.Identities id ≡ Head head → IsBelow (objects_after new folder) (head ∷ []) top → head ≡ top
    is_it folder is head reads below =
        let here = below_then head (record { folder = folder; is = is; of = side.Identities; of_people = tt; is_head = reads }) in
        both_below held top head (identity_no_ring held id top chain) here
        (below_over (objects_after new folder) held (ready_then.sound folder is parts.Objects).whole (ready_then.sound home in_home parts.Objects).whole
        (λ name text another first second. one_text folder home name text another is in_home first second) head
        (head_held (files_of new) folder side.Identities id head (ready_then.sound folder is) is_id reads)
        (below_held held (ready_then.sound home in_home parts.Objects).whole top home_holds head here) top below)

    kept_is_it : (folder : List ℕ) → Contains folders folder → KeepsBelow folder (files_of new) side.Identities id top → HasIt new folder
    kept_is_it folder is kept = subst (λ (name : Name). head_at (files_of new) folder side.Identities id ≡ Head name) (is_it folder is kept.head kept.is_head kept.below) kept.is_head

    -- a folder that has it keeps it
    keeps : (folder : List ℕ) → Contains folders folder → HasIt old folder → HasIt new folder
    keeps folder is has = by (same_or_other folder one.folder)
      where
        by : (folder ≡ one.folder) ⊎ (folder ≢ one.folder) → HasIt new folder
        by (inl same) =
            let mine = subst (HasIt old) same has in
            subst (HasIt new) (sym same) (kept_is_it one.folder own_in ((own_loses_nothing members apart one other is_one is_other differ now old new was).heads side.Identities tt id is_id top top mine (at_top (Contains-first top []))))
        by (inr differs) = same_heads folder (files_of old) (files_of new) (others_left members apart one other is_one is_other differ now old new was folder is differs) side.Identities id ∙ has

    -- and the own folder gets it from a peer that has it
    pub gets : HasIt old other.folder → HasIt new one.folder
    gets has =
        kept_is_it one.folder own_in
        (merge_brings one.folder other.name now was.in_time was.answers.mid new was.pulled.merged was.answers.then whole.refuses.merged id top is_id
        (fetch_brings one.folder other.folder other.name old was.answers.mid was.pulled.fetched was.answers.first whole.refuses.fetched id top is_id has))

    pub top_then : IsTop new
    top_then = record { at_home = keeps home in_home is_top.at_home; below = below_then }

  -- ---- pulls one after another

  -- what pulls leave
  pub record Goes (old new : History) : Type 0 where
    pub ready : AreReady members (files_of new)
    pub is_top : IsTop new
    pub keeps_it : (folder : List ℕ) → Contains (folders_of members) folder → HasIt old folder → HasIt new folder

  go_one : (pull : Pull) (old new : History) → IsAmong members pull → WasWhole pull old new → AreReady members (files_of old) → HaveOneTextEach (files_of new) folders → IsTop old → Goes old new
  go_one pull old new at step ready one_text is_top =
      let whole = subst (λ (p : Pull). WasWhole p old new) at.is step in
      record {
        ready = ready_then at.one at.other at.is_one at.is_other at.differ at.now old new whole ready one_text is_top;
        is_top = top_then at.one at.other at.is_one at.is_other at.differ at.now old new whole ready one_text is_top;
        keeps_it = keeps at.one at.other at.is_one at.is_other at.differ at.now old new whole ready one_text is_top;
      }

  text_before : (pulls : List Pull) (mid new : History) → All (IsAmong members) pulls → InTurn WasWhole pulls mid new → HaveOneTextEach (files_of new) folders → HaveOneTextEach (files_of mid) folders
  text_before pulls mid new all turns one_text = one_text_before folders mid new (all_grew members apart pulls mid new all (turns_pulled pulls mid new turns)) one_text

  pub go_all : (pulls : List Pull) (old new : History) → All (IsAmong members) pulls → InTurn WasWhole pulls old new → AreReady members (files_of old) → HaveOneTextEach (files_of new) folders → IsTop old → Goes old new
  go_all [] old new all same ready one_text is_top =
      subst (Goes old) (sym same) (record { ready = ready; is_top = is_top; keeps_it = λ folder is has. has })
  go_all (pull ∷ pulls) old new all (mid, step, later) ready one_text is_top =
      let rest = All-tail (IsAmong members) pull pulls all in
      let first = go_one pull old mid (All-head (IsAmong members) pull pulls all) step ready (text_before pulls mid new rest later one_text) is_top in
      let then = go_all pulls mid new rest later first.ready one_text first.is_top in
      record {
        ready = then.ready;
        is_top = then.is_top;
        keeps_it = λ folder is has. then.keeps_it folder is (first.keeps_it folder is has);
      }

  -- the own folder of one of them has it then, if its peer had it
  pub brought : (pulls : List Pull) (old new : History) → All (IsAmong members) pulls → InTurn WasWhole pulls old new → AreReady members (files_of old) → HaveOneTextEach (files_of new) folders → IsTop old
      → (pull : Pull) → Contains pulls pull → HasIt old pull.peer → HasIt new pull.own
  brought [] old new all turns ready one_text is_top pull (k, lt, e) has = absurd (omega (arith, lt))
  brought (next ∷ pulls) old new all (mid, step, later) ready one_text is_top pull c has =
      let at = All-head (IsAmong members) next pulls all in
      let rest = All-tail (IsAmong members) next pulls all in
      let text = text_before pulls mid new rest later one_text in
      let first = go_one next old mid at step ready text is_top in
      elim (Contains-cons next pulls pull c) [
        | inl same ↦
            let is : pull ≡ pull_of at.one at.other at.now = sym same ∙ at.is in
            let there : HasIt old at.other.folder = subst (λ (p : Pull). HasIt old p.peer) is has in
            let here : HasIt mid at.one.folder = gets at.one at.other at.is_one at.is_other at.differ at.now old mid (subst (λ (p : Pull). WasWhole p old mid) at.is step) ready text is_top there in
            subst (λ (p : Pull). HasIt new p.own) (sym is)
            ((go_all pulls mid new rest later first.ready one_text first.is_top).keeps_it at.one.folder (folder_in members at.one at.is_one) here)
        | inr within ↦
            let one = All-contains (IsAmong members) pulls pull rest within in
            let peer : Contains folders pull.peer = subst (λ (p : Pull). Contains folders p.peer) (sym one.is) (folder_in members one.other one.is_other) in
            brought pulls mid new rest later first.ready one_text first.is_top pull within (first.keeps_it pull.peer peer has)
      ]

-- ---- an exchange

-- turns of two lists are turns of the one and then of the other
turns_split : {A : Type 0} (Step : A → History → History → Type 0) (xs ys : List A) (old new : History) → InTurn Step (xs ++ ys) old new
    → (mid : History) × InTurn Step xs old mid × InTurn Step ys mid new
turns_split Step [] ys old new turns = (old, refl, turns)
turns_split Step (x ∷ xs) ys old new (mid, step, later) =
    let rest = turns_split Step xs ys mid new later in
    (rest.0, (mid, step, rest.1), rest.2)

module _ (first : Member) (all : List Member) (differ : (other : Member) → Contains all other → other.folder ≢ first.folder) (now : ℕ) where
  abbrev every : List Member
  every = first ∷ all

  first_in : Contains every first
  first_in = (0, omega arith, refl)

  later_in : (other : Member) → Contains all other → Contains every other
  later_in other (k, lt, e) = (suc k, omega (arith, lt), e)

  -- the pulls of both halves are among the folders
  gathers_among : (others : List Member) → ((other : Member) → Contains others other → Contains all other) → All (IsAmong every) (gathering first others now)
  gathers_among [] within = All-nil (IsAmong every)
  gathers_among (other ∷ others) within =
      let is = within other (0, omega arith, refl) in
      All-cons (IsAmong every) (pull_of first other now) (gathering first others now)
      (record { one = first; is_one = first_in; other = other; is_other = later_in other is; differ = λ same. differ other is (sym same); now = now; is = refl })
      (gathers_among others (λ m c. within m (suc c.0, omega (arith, c.1), c.2)))

  spreads_among : (others : List Member) → ((other : Member) → Contains others other → Contains all other) → All (IsAmong every) (spreading first others now)
  spreads_among [] within = All-nil (IsAmong every)
  spreads_among (other ∷ others) within =
      let is = within other (0, omega arith, refl) in
      All-cons (IsAmong every) (pull_of other first now) (spreading first others now)
      (record { one = other; is_one = later_in other is; other = first; is_other = first_in; differ = differ other is; now = now; is = refl })
      (spreads_among others (λ m c. within m (suc c.0, omega (arith, c.1), c.2)))

  module _ (apart : (one two : List ℕ) → Contains (folders_of (first ∷ all)) one → Contains (folders_of (first ∷ all)) two → Overlap one two → one ≡ two) (id : Id) (is_id : IsId id) (home : Member) (is_home : Contains (first ∷ all) home)
      (top : Name) (old new : History) (turns : InTurn WasWhole (exchange_among first all now) old new) (ready : AreReady (first ∷ all) (files_of old)) (one_text : HaveOneTextEach (files_of new) (folders_of (first ∷ all)))
      (is_top : IsTop (first ∷ all) apart id is_id home.folder (folder_in (first ∷ all) home is_home) top old) where
    abbrev in_home : Contains (folders_of every) home.folder
    in_home = folder_in every home is_home

    abbrev Has : History → List ℕ → Type 0
    Has files folder = HasIt every apart id is_id home.folder in_home top files folder

    halves : (mid : History) × InTurn WasWhole (gathering first all now) old mid × InTurn WasWhole (spreading first all now) mid new
    halves = turns_split WasWhole (gathering first all now) (spreading first all now) old new turns

    abbrev mid : History
    mid = halves.0

    gathers : All (IsAmong every) (gathering first all now)
    gathers = gathers_among all (λ m c. c)

    spreads : All (IsAmong every) (spreading first all now)
    spreads = spreads_among all (λ m c. c)

    text_mid : HaveOneTextEach (files_of mid) (folders_of every)
    text_mid = text_before every apart id is_id home.folder in_home top (spreading first all now) mid new spreads halves.2 one_text

    gathered : Goes every apart id is_id home.folder in_home top old mid
    gathered = go_all every apart id is_id home.folder in_home top (gathering first all now) old mid gathers halves.1 ready text_mid is_top

    spread : Goes every apart id is_id home.folder in_home top mid new
    spread = go_all every apart id is_id home.folder in_home top (spreading first all now) mid new spreads halves.2 gathered.ready one_text gathered.is_top

    -- the first has the head when all is gathered
    first_has : Has mid first.folder
    first_has = elim (Contains-cons first all home is_home) [
      | inl same ↦ subst (λ (m : Member). Has mid m.folder) (sym same) gathered.is_top.at_home
      | inr other ↦
          brought every apart id is_id home.folder in_home top (gathering first all now) old mid gathers halves.1 ready text_mid is_top (pull_of first home now)
          (Contains-map (λ (other : Member). pull_of first other now) all home other) is_top.at_home
    ]

    -- and each has it when that is spread
    pub all_have : (member : Member) → Contains (first ∷ all) member → head_at (files_of new) member.folder side.Identities id ≡ Head top
    all_have member is = elim (Contains-cons first all member is) [
      | inl same ↦ subst (λ (m : Member). Has new m.folder) same (spread.keeps_it first.folder (folder_in every first first_in) first_has)
      | inr other ↦
          brought every apart id is_id home.folder in_home top (spreading first all now) mid new spreads halves.2 gathered.ready one_text gathered.is_top (pull_of member first now)
          (Contains-map (λ (other : Member). pull_of other first now) all member other) first_has
    ]
