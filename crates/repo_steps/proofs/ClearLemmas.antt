-- The checks of each command are clear: none both fails and passes, and each has refusals of one number.
use Rattle.std.proofs.Common.{◌≡◌, ℕ, ◌≤◌, ◌+◌, inl, inr, List, [], ◌∷◌, ◌++◌, length, Contains, None, Result, Ok, Err, refl, sym, ◌∙◌, ap, subst, arith}
use Rattle.std.specs.Option.{option_map}
use Rattle.std.specs.Prelude.{option_and_then}
use Rattle.repo_steps.proofs.Names.{GREATEST_TIME, Id, Name, Line, Message, Title, Files, History, files_of, objects_in, IsShort, MOST_COMMITS, bug_kind, BugOp, ops_in, Entity, Head, IsChain, no_fault, IsBug, Finder, person_finder, head_at, User, user_at, user_entry, Env, Refusal, HeadEntry, Side, Missed, AllPass, AreClear, Check, FirstFails, HasFound, Growth, CommentEntry, comment_growth, edit_growth, adds_op, addition_objects, bug_reads, bug_says, clock_room, commit_room, later_by, longer_bug, new_bug, new_operation, op_ids, root_addition, some_id, create_op, op_id, NoChange, found, fresh, names, sizes, some_user, user_file, Refused, doing_of, of_missed, of_no_change, Picked, HasBadChain, HasUser, edited_user, new_made, new_objects, new_user, set_user, user_chain, user_room, one_entity, BugEdit, Edit}
use Rattle.commit_walk.specs.Chain.{Walked}
use Rattle.commit_walk.proofs.ChainPassLemmas.{one_walk}
use Rattle.repo_state.specs.Finds.{IsDetermined}
use Rattle.repo_steps.specs.Stops.{number_of}
use Rattle.repo_steps.specs.declared.refusal.Refusal.TheVariants as refusal
use Rattle.repo_state.specs.declared.side.Side.TheVariants as side
use Rattle.repo_steps.specs.Checks.{IsClear}
use Rattle.repo_steps.specs.BugDoings.{begun_bug, bug_check}
use Rattle.repo_steps.specs.Doings.{MayStep}
use Rattle.repo_state.proofs.BugLemmas.{bug_no_fault}
use Rattle.repo_state.proofs.CommentLemmas.{comment_finder_is_determined}
use Rattle.repo_state.proofs.FoundLemmas.{ids_are_determined}
use Rattle.repo_steps.proofs.RuleLemmas.{comments_add_well, edits_add_well}
use Rattle.words.specs.declared.edit.Edit.TheVariants as edit

-- ---- clear checks

-- where no check fails that passes, a refusal comes only where not all pass
pub never_both : (checks : List Check) (r : Refusal) → AreClear checks → AllPass checks → FirstFails checks r → ⊥
never_both [] r clear passes fails = fails
never_both (check ∷ checks) r clear passes (inl fails) = clear.0.apart r fails passes.0
never_both (check ∷ checks) r clear passes (inr later) = never_both checks r clear.1 passes.1 later.1

-- and one number is told
pub one_number : (checks : List Check) (r s : Refusal) → AreClear checks → FirstFails checks r → FirstFails checks s → number_of r ≡ number_of s
one_number [] r s clear one two = absurd one
one_number (check ∷ checks) r s clear (inl one) (inl two) = clear.0.one r s one two
one_number (check ∷ checks) r s clear (inl one) (inr two) = absurd (clear.0.apart r one two.0)
one_number (check ∷ checks) r s clear (inr one) (inl two) = absurd (clear.0.apart s two one.0)
one_number (check ∷ checks) r s clear (inr one) (inr two) = one_number checks r s clear.1 one.1 two.1

-- clear checks behind clear ones
clear_over : (checks rest : List Check) → AreClear checks → AreClear rest → AreClear (checks ++ rest)
clear_over [] rest clear then = then
clear_over (check ∷ checks) rest clear then = (clear.0, clear_over checks rest clear.1 then)

-- the same of two lists of checks that begin with the same clear ones, where it is so of their rests
never_over : (checks ones twos : List Check) → AreClear checks → ((r : Refusal) → FirstFails ones r → AllPass twos → ⊥)
    → (r : Refusal) → FirstFails (checks ++ ones) r → AllPass (checks ++ twos) → ⊥
never_over [] ones twos clear rest r fails passes = rest r fails passes
never_over (check ∷ checks) ones twos clear rest r (inl fails) passes = clear.0.apart r fails passes.0
never_over (check ∷ checks) ones twos clear rest r (inr later) passes = never_over checks ones twos clear.1 rest r later.1 passes.1

one_over : (checks ones twos : List Check) → AreClear checks → ((r s : Refusal) → FirstFails ones r → FirstFails twos s → number_of r ≡ number_of s)
    → (r s : Refusal) → FirstFails (checks ++ ones) r → FirstFails (checks ++ twos) s → number_of r ≡ number_of s
one_over [] ones twos clear rest r s one two = rest r s one two
one_over (check ∷ checks) ones twos clear rest r s (inl one) (inl two) = clear.0.one r s one two
one_over (check ∷ checks) ones twos clear rest r s (inl one) (inr two) = absurd (clear.0.apart r one two.0)
one_over (check ∷ checks) ones twos clear rest r s (inr one) (inl two) = absurd (clear.0.apart s two one.0)
one_over (check ∷ checks) ones twos clear rest r s (inr one) (inr two) = one_over checks ones twos clear.1 rest r s one.1 two.1

-- ---- the user

module _ (folder : List ℕ) (files : Files) where
  -- a folder has one user
  pub one_user : (one two : Id) → user_at files folder ≡ User one → user_at files folder ≡ User two → one ≡ two
  one_user one two first second = let same : User one ≡ User two = sym first ∙ second in cc

  pub user-same : (one : HasUser folder files) (id : Id) → user_at files folder ≡ User id → one.id ≡ id
  user-same one id is = one_user one.id id one.is_user is

  -- with one head
  pub user-head : (one : HasUser folder files) (id : Id) (head : Name) → user_at files folder ≡ User id → head_at files folder side.Identities id ≡ Head head → one.head ≡ head
  user-head one id head is has =
      let heads : Head one.head ≡ Head head = sym one.has_head ∙ ap (head_at files folder side.Identities) (user-same one id is) ∙ has in
      cc

  -- one chain
  user-walk : (one two : HasUser folder files) → one.chain.walk ≡ two.chain.walk
  user-walk one two =
      one_walk (objects_in files folder) two.head one.chain.walk two.chain.walk
      (subst (λ (head : Name). Walked (objects_in files folder) head one.chain.walk) (user-head one two.id two.head two.is_user two.has_head) one.chain.walked) two.chain.walked

  -- and the chain has no fault
  user-no_fault : (one : HasUser folder files) (id : Id) → user_at files folder ≡ User id → HasBadChain folder files id → ⊥
  user-no_fault one id is (inl bad) = cc (sym one.has_head ∙ ap (head_at files folder side.Identities) (user-same one id is) ∙ bad)
  user-no_fault one id is (inr (head, has, fault, holds)) =
      let chain : IsChain (objects_in files folder) id one.head = subst (λ (i : Id). IsChain (objects_in files folder) i one.head) (user-same one id is) one.chain in
      no_fault (objects_in files folder) id head fault (subst (IsChain (objects_in files folder) id) (user-head one id head is has) chain) holds

-- ---- each check

module _ (folder : List ℕ) (files : Files) where
  user_file_clear : IsClear (user_file folder files)
  user_file_clear = record { apart = λ r fails passes. passes fails.0; one = λ r s one two. ap number_of one.1 ∙ sym (ap number_of two.1) }

  some_user_clear : IsClear (some_user folder files)
  some_user_clear = record { apart = λ r fails passes. passes fails.0; one = λ r s one two. ap number_of one.1 ∙ sym (ap number_of two.1) }

  user_chain_clear : IsClear (user_chain folder files)
  user_chain_clear = record {
    apart = λ r fails passes. user-no_fault folder files passes fails.0 fails.1 fails.2;
    one = λ r s one two. ap number_of one.3 ∙ sym (ap number_of two.3);
  }

  user_room_clear : IsClear (user_room folder files)
  user_room_clear = record {
    apart = λ r fails passes. let walks = ap length (user-walk folder files fails.0 passes.0) in omega (arith, walks, fails.1, passes.1);
    one = λ r s one two. ap number_of one.2 ∙ sym (ap number_of two.2);
  }

  fresh_clear : (of : Side) (id : Id) → IsClear (fresh folder files of id)
  fresh_clear of id = record { apart = λ r fails passes. cc (sym passes ∙ fails.0); one = λ r s one two. ap number_of one.1 ∙ sym (ap number_of two.1) }

-- a word that finds nothing is refused in one way
found_one : {T : Type 0} → (finder : Finder T) → IsDetermined finder → (r s : Refusal) → (why : Missed) × finder.Fails why × (r ≡ of_missed why) → (why : Missed) × finder.Fails why × (s ≡ of_missed why) → r ≡ s
found_one finder is r s one two = one.2 ∙ ap of_missed (is.same one.0 two.0 one.1 two.1) ∙ sym two.2

found_clear : {T : Type 0} → (finder : Finder T) → IsDetermined finder → (value : T) → IsClear (found finder value)
found_clear finder is value = record { apart = λ r fails passes. is.apart value fails.0 passes fails.1; one = λ r s one two. ap number_of (found_one finder is r s one two) }

sizes_clear : (texts : List (List ℕ)) → IsClear (sizes texts)
sizes_clear texts = record {
  apart = λ r fails passes. omega (arith, fails.0.long, subst IsShort fails.0.member.2 (passes fails.0.member.0 fails.0.text fails.0.member.1));
  one = λ r s one two. ap number_of one.1 ∙ sym (ap number_of two.1);
}

names_clear : (folder : List ℕ) (texts : List (List ℕ)) (old : History) → IsClear (names folder texts old)
names_clear folder texts old = record { apart = λ r fails passes. passes.free fails.0 fails.1; one = λ r s one two. ap number_of one.2 ∙ sym (ap number_of two.2) }

-- ---- checks of a bug

module _ (folder : List ℕ) (files : Files) (finder : Finder HeadEntry) (finds : IsDetermined finder) where
  -- one bug is found, with one entity
  pub bug_one : (one two : HasFound folder files finder) → (one.bug ≡ two.bug) × (one.entity ≡ two.entity)
  bug_one one two =
      let bugs = finds.one one.bug two.bug one.finds two.finds in
      (bugs, one_entity files folder two.bug one.entity two.entity (subst (λ (bug : HeadEntry). IsBug files folder bug one.entity) bugs one.is) two.is)

  bug_reads_clear : (bug : HeadEntry) → IsClear (bug_reads folder files bug)
  bug_reads_clear bug = record {
    apart = λ r fails passes. bug_no_fault files folder bug passes.0 passes.1 fails.0;
    one = λ r s one two. ap number_of one.1 ∙ sym (ap number_of two.1);
  }

  -- what bars a bug is said of its head and its entity, and each of its refusals is of this number
  bug_check_clear : (Bars : HeadEntry → Entity BugOp → Type 0) (refuse : HasFound folder files finder → Refusal) (n : ℕ) → ((bug : HasFound folder files finder) → number_of (refuse bug) ≡ n)
      → IsClear (bug_check folder files finder (λ bug. Bars bug.bug bug.entity) refuse)
  bug_check_clear Bars refuse n numbers = record {
    apart = λ r fails passes.
        let same = bug_one fails.0 passes.0 in
        passes.1 (subst (λ (bug : HeadEntry). Bars bug passes.0.entity) same.0 (subst (Bars fails.0.bug) same.1 fails.1));
    one = λ r s one two. ap number_of one.2 ∙ numbers one.0 ∙ sym (ap number_of two.2 ∙ numbers two.0);
  }

  clock_room_clear : IsClear (clock_room folder files finder)
  clock_room_clear = bug_check_clear (λ bug entity. entity.edit ≡ GREATEST_TIME) (λ bug. refusal.ClockFull bug.bug.name) 7 (λ bug. refl)

  commit_room_clear : IsClear (commit_room folder files finder)
  commit_room_clear = bug_check_clear (λ bug entity. MOST_COMMITS ≤ length entity.packs) (λ bug. refusal.TooLarge (MOST_COMMITS + 1)) 13 (λ bug. refl)

  new_operation_clear : (op : BugOp) → IsClear (new_operation folder files finder op)
  new_operation_clear op = bug_check_clear (λ bug entity. Contains (op_ids (ops_in bug_kind entity.packs)) (op_id op)) (λ bug. refusal.RepeatedOperation (op_id op)) 8 (λ bug. refl)

-- ---- each command

-- the checks of a command that begins a bug are clear
begun_clear : (env : Env) (op : BugOp) (old : History) → AreClear (begun_bug env op old).checks
begun_clear env op old =
    let files = files_of old in
    let objects = addition_objects env.moment.now (option_map (root_addition env.folder files op) (some_id (user_at files env.folder))) in
    (user_file_clear env.folder files, (some_user_clear env.folder files, (sizes_clear objects, (fresh_clear env.folder files side.Bugs (op_id op), (names_clear env.folder objects old, tt)))))

-- what is added to a bug that is found is one operation, or one refusal
module _ (folder : List ℕ) (files : Files) (growth : Growth) (finds : IsDetermined (growth.finder files)) where
  abbrev Found : Type 0
  Found = HasFound folder files (growth.finder files)

  pub says_one : (one two : Found) → growth.adds (bug_says one.entity) ≡ growth.adds (bug_says two.entity)
  says_one one two = ap (λ (entity : Entity BugOp). growth.adds (bug_says entity)) (bug_one folder files (growth.finder files) finds one two).1

  pub adds_one : (op other : BugOp) (one two : Found) → growth.adds (bug_says one.entity) ≡ Ok op → growth.adds (bug_says two.entity) ≡ Ok other → op ≡ other
  adds_one op other one two first second =
      let both : ◌≡◌ {A = Result BugOp NoChange} (Ok op) (Ok other) = sym first ∙ says_one one two ∙ second in
      cc

  refuses_one : (r s : Refusal) (op other : BugOp) → (adds_op folder files growth op).Fails r → (adds_op folder files growth other).Fails s → number_of r ≡ number_of s
  refuses_one r s op other one two =
      let both : ◌≡◌ {A = Result BugOp NoChange} (Err one.1) (Err two.1) = sym one.2 ∙ says_one one.0 two.0 ∙ two.2 in
      let same : one.1 ≡ two.1 = cc in
      ap number_of (one.3 ∙ ap of_no_change same ∙ sym two.3)

  never_adds : (op other : BugOp) (r : Refusal) → (adds_op folder files growth op).Passes → (adds_op folder files growth other).Fails r → ⊥
  never_adds op other r passes fails =
      let both : ◌≡◌ {A = Result BugOp NoChange} (Ok op) (Err fails.1) = sym passes.1 ∙ says_one passes.0 fails.0 ∙ fails.2 in
      cc both

  -- so with one operation the check is clear
  adds_clear : (op : BugOp) → IsClear (adds_op folder files growth op)
  adds_clear op = record { apart = λ r fails passes. never_adds op op r passes fails; one = λ r s one two. refuses_one r s op op one two }

-- ---- an operation more

-- what is checked before the bug is sought
abbrev first_checks : Env → History → List Check
first_checks env old = user_file env.folder (files_of old) ∷ some_user env.folder (files_of old) ∷ []

first_clear : (env : Env) (old : History) → AreClear (first_checks env old)
first_clear env old = (user_file_clear env.folder (files_of old), (some_user_clear env.folder (files_of old), tt))

module _ (env : Env) (growth : Growth) (old : History) where
  abbrev before : Files
  before = files_of old

  abbrev finder : Finder HeadEntry
  finder = growth.finder before

  -- what is checked once it is found
  abbrev found_checks : HeadEntry → List Check
  found_checks bug = bug_reads env.folder before bug ∷ []

  -- and once the operation is known
  abbrev then_checks : HeadEntry → BugOp → List Check
  then_checks bug op =
      let objects = addition_objects env.moment.now (option_and_then (later_by env.folder before bug op) (some_id (user_at before env.folder))) in
      clock_room env.folder before finder ∷
      commit_room env.folder before finder ∷
      sizes objects ∷
      new_operation env.folder before finder op ∷
      names env.folder objects old ∷ []

  abbrev op_checks : HeadEntry → BugOp → List Check
  op_checks bug op = adds_op env.folder before growth op ∷ then_checks bug op

  abbrev bug_checks : HeadEntry → BugOp → List Check
  bug_checks bug op = found finder bug ∷ found_checks bug ++ op_checks bug op

  module _ (finds : IsDetermined finder) where
    found_checks_clear : (bug : HeadEntry) → AreClear (found_checks bug)
    found_checks_clear bug = (bug_reads_clear env.folder before finder finds bug, tt)

    then_clear : (bug : HeadEntry) (op : BugOp) → AreClear (then_checks bug op)
    then_clear bug op =
        let objects = addition_objects env.moment.now (option_and_then (later_by env.folder before bug op) (some_id (user_at before env.folder))) in
        (clock_room_clear env.folder before finder finds, (commit_room_clear env.folder before finder finds, (sizes_clear objects, (new_operation_clear env.folder before finder finds op, (names_clear env.folder objects old, tt)))))

    -- with one bug and one operation all of them are clear
    longer_clear : (bug : HeadEntry) (op : BugOp) → AreClear (longer_bug env growth bug op old).checks
    longer_clear bug op =
        clear_over (first_checks env old) (bug_checks bug op) (first_clear env old)
        (found_clear finder finds bug, clear_over (found_checks bug) (op_checks bug op) (found_checks_clear bug) (adds_clear env.folder before growth finds op, then_clear bug op))

    -- of two operations of one bug
    rest_never : (bug : HeadEntry) (op other : BugOp) (r : Refusal) → FirstFails (op_checks bug op) r → AllPass (op_checks bug other) → ⊥
    rest_never bug op other r (inl fails) passes = never_adds env.folder before growth finds other op r passes.0 fails
    rest_never bug op other r (inr later) passes =
        never_both (then_checks bug op) r (then_clear bug op)
        (subst (λ (o : BugOp). AllPass (then_checks bug o)) (adds_one env.folder before growth finds other op passes.0.0 later.0.0 passes.0.1 later.0.1) passes.1) later.1

    rest_one : (bug : HeadEntry) (op other : BugOp) (r s : Refusal) → FirstFails (op_checks bug op) r → FirstFails (op_checks bug other) s → number_of r ≡ number_of s
    rest_one bug op other r s (inl one) (inl two) = refuses_one env.folder before growth finds r s op other one two
    rest_one bug op other r s (inl one) (inr two) = absurd (never_adds env.folder before growth finds other op r two.0 one)
    rest_one bug op other r s (inr one) (inl two) = absurd (never_adds env.folder before growth finds op other s one.0 two)
    rest_one bug op other r s (inr one) (inr two) =
        one_number (then_checks bug op) r s (then_clear bug op) one.1
        (subst (λ (o : BugOp). FirstFails (then_checks bug o) s) (adds_one env.folder before growth finds other op two.0.0 one.0.0 two.0.1 one.0.1) two.1)

    -- of two bugs that are found, which are one
    bugs_never : (bug top : HeadEntry) (op other : BugOp) (r : Refusal) → FirstFails (bug_checks bug op) r → AllPass (bug_checks top other) → ⊥
    bugs_never bug top op other r (inl fails) passes = finds.apart top fails.0 passes.0 fails.1
    bugs_never bug top op other r (inr later) passes =
        never_over (found_checks bug) (op_checks bug op) (op_checks bug other) (found_checks_clear bug) (rest_never bug op other) r later.1
        (subst (λ (head : HeadEntry). AllPass (found_checks head ++ op_checks head other)) (finds.one top bug passes.0 later.0) passes.1)

    bugs_one : (bug top : HeadEntry) (op other : BugOp) (r s : Refusal) → FirstFails (bug_checks bug op) r → FirstFails (bug_checks top other) s → number_of r ≡ number_of s
    bugs_one bug top op other r s (inl one) (inl two) = ap number_of (found_one finder finds r s one two)
    bugs_one bug top op other r s (inl one) (inr two) = absurd (finds.apart top one.0 two.0 one.1)
    bugs_one bug top op other r s (inr one) (inl two) = absurd (finds.apart bug two.0 one.0 two.1)
    bugs_one bug top op other r s (inr one) (inr two) =
        one_over (found_checks bug) (op_checks bug op) (op_checks bug other) (found_checks_clear bug) (rest_one bug op other) r s one.1
        (subst (λ (head : HeadEntry). FirstFails (found_checks head ++ op_checks head other) s) (finds.one top bug two.0 one.0) two.1)

    pub longer_never : (bug top : HeadEntry) (op other : BugOp) (r : Refusal) → FirstFails (longer_bug env growth bug op old).checks r → AllPass (longer_bug env growth top other old).checks → ⊥
    longer_never bug top op other r fails passes = never_over (first_checks env old) (bug_checks bug op) (bug_checks top other) (first_clear env old) (bugs_never bug top op other) r fails passes

    pub longer_one : (bug top : HeadEntry) (op other : BugOp) (r s : Refusal) → FirstFails (longer_bug env growth bug op old).checks r → FirstFails (longer_bug env growth top other old).checks s → number_of r ≡ number_of s
    longer_one bug top op other r s one two = one_over (first_checks env old) (bug_checks bug op) (bug_checks top other) (first_clear env old) (bugs_one bug top op other) r s one two

-- ---- another message of a comment

-- of two comments that a word finds, which are one
module _ (env : Env) (message : Message) (word : List ℕ) (old : History) where
  abbrev growth_by : Id → Growth
  growth_by comment = comment_growth env message word comment

  finds_by : (comment : Id) → IsDetermined ((growth_by comment).finder (files_of old))
  finds_by comment = (comments_add_well env (files_of old) message word comment).finds

  pub one_comment : (one two : Id) (bug top : HeadEntry) → ((growth_by one).finder (files_of old)).Found bug → ((growth_by two).finder (files_of old)).Found top → one ≡ two
  one_comment one two bug top first second =
      ap (λ (entry : CommentEntry). entry.comment)
      ((comment_finder_is_determined (files_of old) env.folder word).one (record { bug = bug; comment = one }) (record { bug = top; comment = two }) first second)

  founds_never : (one two : Id) (bug top : HeadEntry) (op other : BugOp) (r : Refusal) → FirstFails (bug_checks env (growth_by one) old bug op) r → AllPass (bug_checks env (growth_by two) old top other) → ⊥
  founds_never one two bug top op other r (inl fails) passes = (finds_by two).apart top fails.0 passes.0 fails.1
  founds_never one two bug top op other r (inr later) passes =
      bugs_never env (growth_by two) old (finds_by two) bug top op other r
      (subst (λ (comment : Id). FirstFails (bug_checks env (growth_by comment) old bug op) r) (one_comment one two bug top later.0 passes.0) (inr later)) passes

  founds_one : (one two : Id) (bug top : HeadEntry) (op other : BugOp) (r s : Refusal) → FirstFails (bug_checks env (growth_by one) old bug op) r → FirstFails (bug_checks env (growth_by two) old top other) s
      → number_of r ≡ number_of s
  founds_one one two bug top op other r s (inl first) (inl second) = ap number_of (found_one ((growth_by one).finder (files_of old)) (finds_by one) r s first second)
  founds_one one two bug top op other r s (inl first) (inr second) = absurd ((finds_by two).apart top first.0 second.0 first.1)
  founds_one one two bug top op other r s (inr first) (inl second) = absurd ((finds_by one).apart bug second.0 first.0 second.1)
  founds_one one two bug top op other r s (inr first) (inr second) =
      bugs_one env (growth_by two) old (finds_by two) bug top op other r s
      (subst (λ (comment : Id). FirstFails (bug_checks env (growth_by comment) old bug op) r) (one_comment one two bug top first.0 second.0) (inr first)) (inr second)

  pub comment_never : (one two : Id) (bug top : HeadEntry) (op other : BugOp) (r : Refusal) → FirstFails (longer_bug env (growth_by one) bug op old).checks r → AllPass (longer_bug env (growth_by two) top other old).checks → ⊥
  comment_never one two bug top op other r fails passes =
      never_over (first_checks env old) (bug_checks env (growth_by one) old bug op) (bug_checks env (growth_by two) old top other) (first_clear env old) (founds_never one two bug top op other) r fails passes

  pub comment_one : (one two : Id) (bug top : HeadEntry) (op other : BugOp) (r s : Refusal) → FirstFails (longer_bug env (growth_by one) bug op old).checks r → FirstFails (longer_bug env (growth_by two) top other old).checks s
      → number_of r ≡ number_of s
  comment_one one two bug top op other r s first second =
      one_over (first_checks env old) (bug_checks env (growth_by one) old bug op) (bug_checks env (growth_by two) old top other) (first_clear env old) (founds_one one two bug top op other) r s first second

-- ---- another user

module _ (env : Env) (word : List ℕ) (old : History) where
  person_is : IsDetermined (person_finder (files_of old) env.folder word)
  person_is = ids_are_determined side.Identities (files_of old) env.folder word

  set_never : (person other : Id) (r : Refusal) → FirstFails (set_user env word person old).checks r → AllPass (set_user env word other old).checks → ⊥
  set_never person other r (inl fails) passes = person_is.apart other fails.0 passes.0 fails.1
  set_never person other r (inr later) passes = later.1

  set_one : (person other : Id) (r s : Refusal) → FirstFails (set_user env word person old).checks r → FirstFails (set_user env word other old).checks s → number_of r ≡ number_of s
  set_one person other r s (inl one) (inl two) = ap number_of (found_one (person_finder (files_of old) env.folder word) person_is r s one two)
  set_one person other r s (inr later) two = absurd later.1
  set_one person other r s one (inr later) = absurd later.1

-- ---- each command

-- the checks of a command on people are clear
user_new_clear : (env : Env) (name : Title) (email : Line) (old : History) → AreClear (new_user env name email old).checks
user_new_clear env name email old =
    let objects = new_objects env name email None in
    (user_file_clear env.folder (files_of old), (sizes_clear objects, (fresh_clear env.folder (files_of old) side.Identities (new_made env name email None).id, (names_clear env.folder objects old, tt))))

user_edit_clear : (env : Env) (name : Title) (email : Line) (old : History) → AreClear (edited_user env name email old).checks
user_edit_clear env name email old =
    let files = files_of old in
    let objects = new_objects env name email (option_map (λ (e : HeadEntry). e.name) (user_entry files env.folder)) in
    (user_file_clear env.folder files, (some_user_clear env.folder files, (user_chain_clear env.folder files, (user_room_clear env.folder files, (sizes_clear objects, (names_clear env.folder objects old, tt))))))

user_set_clear : (env : Env) (word : List ℕ) (person : Id) (old : History) → AreClear (set_user env word person old).checks
user_set_clear env word person old = (found_clear (person_finder (files_of old) env.folder word) (person_is env word old) person, tt)

-- a word finds one bug
edit_finds : (env : Env) (e : BugEdit) (word : List ℕ) (old : History) → IsDetermined ((edit_growth env e word).finder (files_of old))
edit_finds env e word old = (edits_add_well env (files_of old) e word).finds

-- the checks of each command are clear, whatever it picks
pub checks_clear : (env : Env) (command : Edit) (picked : Picked) (old : History) → AreClear (doing_of env command picked old).checks
checks_clear env (edit.UserNew name email) picked old = user_new_clear env name email old
checks_clear env (edit.UserEdit name email) picked old = user_edit_clear env name email old
checks_clear env (edit.UserSet word) picked old = user_set_clear env word picked.person old
checks_clear env (edit.New title message) picked old = begun_clear env (create_op env.moment title message) old
checks_clear env (edit.OfBug word e) picked old = longer_clear env (edit_growth env e word) old (edit_finds env e word old) picked.bug picked.op
checks_clear env (edit.OfComment word message) picked old = longer_clear env (comment_growth env message word picked.comment) old (finds_by env message word old picked.comment) picked.bug picked.op

-- no command both may be done and is refused
pub never_refused : (env : Env) (command : Edit) (old : History) (r : Refusal) → MayStep env command old → Refused env command old r → ⊥
never_refused env (edit.UserNew name email) old r passes fails = never_both (new_user env name email old).checks r (user_new_clear env name email old) passes.1 fails.1
never_refused env (edit.UserEdit name email) old r passes fails = never_both (edited_user env name email old).checks r (user_edit_clear env name email old) passes.1 fails.1
never_refused env (edit.UserSet word) old r passes fails = set_never env word old (fails.0).person (passes.0).person r fails.1 passes.1
never_refused env (edit.New title message) old r passes fails = never_both (new_bug env title message old).checks r (begun_clear env (create_op env.moment title message) old) passes.1 fails.1
never_refused env (edit.OfBug word e) old r passes fails = longer_never env (edit_growth env e word) old (edit_finds env e word old) (fails.0).bug (passes.0).bug (fails.0).op (passes.0).op r fails.1 passes.1
never_refused env (edit.OfComment word message) old r passes fails =
    comment_never env message word old (fails.0).comment (passes.0).comment (fails.0).bug (passes.0).bug (fails.0).op (passes.0).op r fails.1 passes.1

-- and one number is told of its refusals
pub one_refused : (env : Env) (command : Edit) (old : History) (r s : Refusal) → Refused env command old r → Refused env command old s → number_of r ≡ number_of s
one_refused env (edit.UserNew name email) old r s one two = one_number (new_user env name email old).checks r s (user_new_clear env name email old) one.1 two.1
one_refused env (edit.UserEdit name email) old r s one two = one_number (edited_user env name email old).checks r s (user_edit_clear env name email old) one.1 two.1
one_refused env (edit.UserSet word) old r s one two = set_one env word old (one.0).person (two.0).person r s one.1 two.1
one_refused env (edit.New title message) old r s one two = one_number (new_bug env title message old).checks r s (begun_clear env (create_op env.moment title message) old) one.1 two.1
one_refused env (edit.OfBug word e) old r s one two = longer_one env (edit_growth env e word) old (edit_finds env e word old) (one.0).bug (two.0).bug (one.0).op (two.0).op r s one.1 two.1
one_refused env (edit.OfComment word message) old r s one two =
    comment_one env message word old (one.0).comment (two.0).comment (one.0).bug (two.0).bug (one.0).op (two.0).op r s one.1 two.1
