-- Two refusals of an edit are one, but for the name that is taken where several are.
use Rattle.std.proofs.Common.{◌≡◌, ℕ, inl, inr, List, [], ◌∷◌, ◌++◌, None, Result, Err, sym, ◌∙◌, ap, subst}
use Rattle.std.specs.Option.{option_map}
use Rattle.std.specs.Prelude.{option_and_then}
use Rattle.repo_steps.proofs.Names.{Id, Line, Message, Title, Files, History, files_of, BugOp, Finder, person_finder, user_at, HeadEntry, Side, AreClear, Check, FirstFails, Growth, comment_growth, edit_growth, adds_op, addition_objects, bug_reads, clock_room, commit_room, later_by, longer_bug, new_operation, some_id, op_id, NoChange, found, fresh, names, sizes, some_user, user_file, joined, ref_place, Refused, of_missed, of_no_change, user_chain, user_room, set_user, new_user, new_made, new_objects, edited_user, user_entry, new_bug, root_addition, create_op, Edit}
use Rattle.repo_state.specs.Finds.{IsDetermined}
use Rattle.repo_state.specs.declared.side.Side.TheVariants as side
use Rattle.repo_state.proofs.FoundLemmas.{ids_are_determined}
use Rattle.repo_steps.specs.declared.env.Env.{Env}
use Rattle.repo_steps.specs.declared.refusal.Refusal.{Refusal}
use Rattle.repo_steps.specs.declared.refusal.Refusal.TheVariants as refusal
use Rattle.repo_steps.proofs.ClearLemmas.{bug_one, checks_clear, one_comment, one_user, says_one, adds_one}
use Rattle.repo_steps.proofs.RuleLemmas.{comments_add_well, edits_add_well}
use Rattle.words.specs.declared.edit.Edit.TheVariants as edit
use Rattle.refusal_causes.specs.Alike.{AreAlike}

-- ---- checks

-- what fails a check fails it in one way
abbrev IsSole : Check → Type 0
IsSole check = (r s : Refusal) → check.Fails r → check.Fails s → AreAlike r s

abbrev AreSole : List Check → Type 0
AreSole [] = Unit {0}
AreSole (check ∷ checks) = IsSole check × AreSole checks

-- so of checks the first one that fails
first_alike : (checks : List Check) (r s : Refusal) → AreClear checks → AreSole checks → FirstFails checks r → FirstFails checks s → AreAlike r s
first_alike [] r s clear sole one two = absurd one
first_alike (check ∷ checks) r s clear sole (inl one) (inl two) = sole.0 r s one two
first_alike (check ∷ checks) r s clear sole (inl one) (inr two) = absurd (clear.0.apart r one two.0)
first_alike (check ∷ checks) r s clear sole (inr one) (inl two) = absurd (clear.0.apart s two one.0)
first_alike (check ∷ checks) r s clear sole (inr one) (inr two) = first_alike checks r s clear.1 sole.1 one.1 two.1

-- and so of two lists of checks that begin with the same, where it is so of their rests
alike_over : (checks ones twos : List Check) → AreClear checks → AreSole checks → ((r s : Refusal) → FirstFails ones r → FirstFails twos s → AreAlike r s)
    → (r s : Refusal) → FirstFails (checks ++ ones) r → FirstFails (checks ++ twos) s → AreAlike r s
alike_over [] ones twos clear sole rest r s one two = rest r s one two
alike_over (check ∷ checks) ones twos clear sole rest r s (inl one) (inl two) = sole.0 r s one two
alike_over (check ∷ checks) ones twos clear sole rest r s (inl one) (inr two) = absurd (clear.0.apart r one two.0)
alike_over (check ∷ checks) ones twos clear sole rest r s (inr one) (inl two) = absurd (clear.0.apart s two one.0)
alike_over (check ∷ checks) ones twos clear sole rest r s (inr one) (inr two) = alike_over checks ones twos clear.1 sole.1 rest r s one.1 two.1

-- ---- each check

module _ (folder : List ℕ) (files : Files) where
  user_file_sole : IsSole (user_file folder files)
  user_file_sole r s one two = inl (one.1 ∙ sym two.1)

  some_user_sole : IsSole (some_user folder files)
  some_user_sole r s one two = inl (one.1 ∙ sym two.1)

  user_chain_sole : IsSole (user_chain folder files)
  user_chain_sole r s one two =
      let same = one_user folder files one.0 two.0 one.1 two.1 in
      inl (one.3 ∙ ap (λ (id : Id). refusal.Damaged (joined folder (ref_place side.Identities id))) same ∙ sym two.3)

  user_room_sole : IsSole (user_room folder files)
  user_room_sole r s one two = inl (one.2 ∙ sym two.2)

  fresh_sole : (of : Side) (id : Id) → IsSole (fresh folder files of id)
  fresh_sole of id r s one two = inl (one.1 ∙ sym two.1)

sizes_sole : (texts : List (List ℕ)) → IsSole (sizes texts)
sizes_sole texts r s one two = inl (one.1 ∙ sym two.1)

names_sole : (folder : List ℕ) (texts : List (List ℕ)) (old : History) → IsSole (names folder texts old)
names_sole folder texts old r s one two = inr (one.0, two.0, one.2, two.2)

found_sole : {T : Type 0} → (finder : Finder T) → IsDetermined finder → (value : T) → IsSole (found finder value)
found_sole finder is value r s one two = inl (one.2 ∙ ap of_missed (is.same one.0 two.0 one.1 two.1) ∙ sym two.2)

-- ---- checks of a bug

module _ (folder : List ℕ) (files : Files) (finder : Finder HeadEntry) (finds : IsDetermined finder) where
  bug_reads_sole : (bug : HeadEntry) → IsSole (bug_reads folder files bug)
  bug_reads_sole bug r s one two = inl (one.1 ∙ sym two.1)

  clock_room_sole : IsSole (clock_room folder files finder)
  clock_room_sole r s one two =
      inl (one.2 ∙ ap (λ (bug : HeadEntry). refusal.ClockFull bug.name) (bug_one folder files finder finds one.0 two.0).0 ∙ sym two.2)

  commit_room_sole : IsSole (commit_room folder files finder)
  commit_room_sole r s one two = inl (one.2 ∙ sym two.2)

  new_operation_sole : (op : BugOp) → IsSole (new_operation folder files finder op)
  new_operation_sole op r s one two = inl (one.2 ∙ sym two.2)

-- what is added to a bug is refused in one way, whichever operation is meant
adds_sole : (folder : List ℕ) (files : Files) (growth : Growth) → IsDetermined (growth.finder files) → (op other : BugOp) (r s : Refusal)
    → (adds_op folder files growth op).Fails r → (adds_op folder files growth other).Fails s → AreAlike r s
adds_sole folder files growth finds op other r s one two =
    let both : ◌≡◌ {A = Result BugOp NoChange} (Err one.1) (Err two.1) = sym one.2 ∙ says_one folder files growth finds one.0 two.0 ∙ two.2 in
    let same : one.1 ≡ two.1 = cc in
    inl (one.3 ∙ ap of_no_change same ∙ sym two.3)

-- ---- an operation more

module _ (env : Env) (growth : Growth) (old : History) where
  abbrev before : Files
  before = files_of old

  abbrev finder : Finder HeadEntry
  finder = growth.finder before

  abbrev first_checks : List Check
  first_checks = user_file env.folder before ∷ some_user env.folder before ∷ []

  -- once the operation is known
  abbrev then_checks : HeadEntry → BugOp → List Check
  then_checks bug op =
      let objects = addition_objects env.moment.now (option_and_then (later_by env.folder before bug op) (some_id (user_at before env.folder))) in
      clock_room env.folder before finder ∷
      commit_room env.folder before finder ∷
      sizes objects ∷
      new_operation env.folder before finder op ∷
      names env.folder objects old ∷ []

  abbrev op_checks : HeadEntry → BugOp → List Check
  op_checks bug op = adds_op env.folder before growth op ∷ then_checks bug op

  abbrev bug_checks : HeadEntry → BugOp → List Check
  bug_checks bug op = found finder bug ∷ bug_reads env.folder before bug ∷ op_checks bug op

  module _ (finds : IsDetermined finder) (clear : (bug : HeadEntry) (op : BugOp) → AreClear (longer_bug env growth bug op old).checks) where
    first_sole : AreSole first_checks
    first_sole = (user_file_sole env.folder before, (some_user_sole env.folder before, tt))

    then_sole : (bug : HeadEntry) (op : BugOp) → AreSole (then_checks bug op)
    then_sole bug op =
        let objects = addition_objects env.moment.now (option_and_then (later_by env.folder before bug op) (some_id (user_at before env.folder))) in
        (clock_room_sole env.folder before finder finds, (commit_room_sole env.folder before finder finds, (sizes_sole objects, (new_operation_sole env.folder before finder finds op, (names_sole env.folder objects old, tt)))))

    -- of two operations of one bug
    ops_alike : (bug : HeadEntry) (op other : BugOp) (r s : Refusal) → FirstFails (op_checks bug op) r → FirstFails (op_checks bug other) s → AreAlike r s
    ops_alike bug op other r s (inl one) (inl two) = adds_sole env.folder before growth finds op other r s one two
    ops_alike bug op other r s (inl one) (inr two) = absurd ((clear bug other).1.1.1.1.0.apart r one two.0)
    ops_alike bug op other r s (inr one) (inl two) = absurd ((clear bug op).1.1.1.1.0.apart s two one.0)
    ops_alike bug op other r s (inr one) (inr two) =
        first_alike (then_checks bug op) r s (clear bug op).1.1.1.1.1 (then_sole bug op) one.1
        (subst (λ (o : BugOp). FirstFails (then_checks bug o) s) (adds_one env.folder before growth finds other op two.0.0 one.0.0 two.0.1 one.0.1) two.1)

    -- of two bugs that are found, which are one
    bugs_alike : (bug top : HeadEntry) (op other : BugOp) (r s : Refusal) → FirstFails (bug_checks bug op) r → FirstFails (bug_checks top other) s → AreAlike r s
    bugs_alike bug top op other r s (inl one) (inl two) = found_sole finder finds bug r s one two
    bugs_alike bug top op other r s (inl one) (inr two) = absurd (finds.apart top one.0 two.0 one.1)
    bugs_alike bug top op other r s (inr one) (inl two) = absurd (finds.apart bug two.0 one.0 two.1)
    bugs_alike bug top op other r s (inr one) (inr two) =
        alike_over (bug_reads env.folder before bug ∷ []) (op_checks bug op) (op_checks bug other) ((clear bug op).1.1.1.0, tt)
        (bug_reads_sole env.folder before finder finds bug, tt) (ops_alike bug op other) r s one.1
        (subst (λ (head : HeadEntry). FirstFails (bug_reads env.folder before head ∷ op_checks head other) s) (finds.one top bug two.0 one.0) two.1)

    longer_alike : (bug top : HeadEntry) (op other : BugOp) (r s : Refusal) → FirstFails (longer_bug env growth bug op old).checks r → FirstFails (longer_bug env growth top other old).checks s → AreAlike r s
    longer_alike bug top op other r s one two =
        alike_over first_checks (bug_checks bug op) (bug_checks top other) ((clear bug op).0, ((clear bug op).1.0, tt)) first_sole (bugs_alike bug top op other) r s one two

-- ---- another message of a comment

module _ (env : Env) (message : Message) (word : List ℕ) (old : History) where
  abbrev growth_by : Id → Growth
  growth_by comment = comment_growth env message word comment

  finds_by : (comment : Id) → IsDetermined ((growth_by comment).finder (files_of old))
  finds_by comment = (comments_add_well env (files_of old) message word comment).finds

  clear_by : (comment : Id) (bug : HeadEntry) (op : BugOp) → AreClear (longer_bug env (growth_by comment) bug op old).checks
  clear_by comment bug op = checks_clear env (edit.OfComment word message) (record { op = op; bug = bug; comment = comment; person = comment }) old

  -- of two comments that a word finds, which are one
  comments_alike : (one two : Id) (bug top : HeadEntry) (op other : BugOp) (r s : Refusal) → FirstFails (bug_checks env (growth_by one) old bug op) r → FirstFails (bug_checks env (growth_by two) old top other) s → AreAlike r s
  comments_alike one two bug top op other r s (inl first) (inl second) = found_sole ((growth_by one).finder (files_of old)) (finds_by one) bug r s first second
  comments_alike one two bug top op other r s (inl first) (inr second) = absurd ((finds_by two).apart top first.0 second.0 first.1)
  comments_alike one two bug top op other r s (inr first) (inl second) = absurd ((finds_by one).apart bug second.0 first.0 second.1)
  comments_alike one two bug top op other r s (inr first) (inr second) =
      bugs_alike env (growth_by two) old (finds_by two) (clear_by two) bug top op other r s
      (subst (λ (comment : Id). FirstFails (bug_checks env (growth_by comment) old bug op) r) (one_comment env message word old one two bug top first.0 second.0) (inr first)) (inr second)

  comment_alike : (one two : Id) (bug top : HeadEntry) (op other : BugOp) (r s : Refusal) → FirstFails (longer_bug env (growth_by one) bug op old).checks r → FirstFails (longer_bug env (growth_by two) top other old).checks s → AreAlike r s
  comment_alike one two bug top op other r s first second =
      alike_over (first_checks env (growth_by one) old) (bug_checks env (growth_by one) old bug op) (bug_checks env (growth_by two) old top other)
      ((clear_by one bug op).0, ((clear_by one bug op).1.0, tt)) (user_file_sole env.folder (files_of old), (some_user_sole env.folder (files_of old), tt)) (comments_alike one two bug top op other) r s first second

-- ---- each command

-- the checks of a command on people, or of a new bug, fail in one way
user_new_sole : (env : Env) (name : Title) (email : Line) (old : History) → AreSole (new_user env name email old).checks
user_new_sole env name email old =
    let objects = new_objects env name email None in
    (user_file_sole env.folder (files_of old), (sizes_sole objects, (fresh_sole env.folder (files_of old) side.Identities (new_made env name email None).id, (names_sole env.folder objects old, tt))))

user_edit_sole : (env : Env) (name : Title) (email : Line) (old : History) → AreSole (edited_user env name email old).checks
user_edit_sole env name email old =
    let files = files_of old in
    let objects = new_objects env name email (option_map (λ (e : HeadEntry). e.name) (user_entry files env.folder)) in
    (user_file_sole env.folder files, (some_user_sole env.folder files, (user_chain_sole env.folder files, (user_room_sole env.folder files, (sizes_sole objects, (names_sole env.folder objects old, tt))))))

new_sole : (env : Env) (title : Title) (message : Message) (old : History) → AreSole (new_bug env title message old).checks
new_sole env title message old =
    let files = files_of old in
    let op = create_op env.moment title message in
    let objects = addition_objects env.moment.now (option_map (root_addition env.folder files op) (some_id (user_at files env.folder))) in
    (user_file_sole env.folder files, (some_user_sole env.folder files, (sizes_sole objects, (fresh_sole env.folder files side.Bugs (op_id op), (names_sole env.folder objects old, tt)))))

-- another user is refused in one way
set_alike : (env : Env) (word : List ℕ) (old : History) (person other : Id) (r s : Refusal) → FirstFails (set_user env word person old).checks r → FirstFails (set_user env word other old).checks s → AreAlike r s
set_alike env word old person other r s (inl one) (inl two) =
    found_sole (person_finder (files_of old) env.folder word) (ids_are_determined side.Identities (files_of old) env.folder word) person r s one two
set_alike env word old person other r s (inr later) two = absurd later.1
set_alike env word old person other r s one (inr later) = absurd later.1

-- a command that edits has one refusal, but for the name that is taken
pub edits_alike : (env : Env) (command : Edit) (old : History) (r s : Refusal) → Refused env command old r → Refused env command old s → AreAlike r s
edits_alike env (edit.UserNew name email) old r s one two =
    first_alike (new_user env name email old).checks r s (checks_clear env (edit.UserNew name email) one.0 old) (user_new_sole env name email old) one.1 two.1
edits_alike env (edit.UserEdit name email) old r s one two =
    first_alike (edited_user env name email old).checks r s (checks_clear env (edit.UserEdit name email) one.0 old) (user_edit_sole env name email old) one.1 two.1
edits_alike env (edit.UserSet word) old r s one two = set_alike env word old (one.0).person (two.0).person r s one.1 two.1
edits_alike env (edit.New title message) old r s one two =
    first_alike (new_bug env title message old).checks r s (checks_clear env (edit.New title message) one.0 old) (new_sole env title message old) one.1 two.1
edits_alike env (edit.OfBug word e) old r s one two =
    longer_alike env (edit_growth env e word) old (edits_add_well env (files_of old) e word).finds
    (λ bug op. checks_clear env (edit.OfBug word e) (record { op = op; bug = bug; comment = (one.0).comment; person = (one.0).person }) old)
    (one.0).bug (two.0).bug (one.0).op (two.0).op r s one.1 two.1
edits_alike env (edit.OfComment word message) old r s one two =
    comment_alike env message word old (one.0).comment (two.0).comment (one.0).bug (two.0).bug (one.0).op (two.0).op r s one.1 two.1
