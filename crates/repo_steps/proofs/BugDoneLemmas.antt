-- What a command on bugs that nothing keeps from being done leaves: its writes are of their kinds, and make its step.
use Rattle.std.proofs.Common.{◌≡◌, ◌≤◌, ℕ, false, true, List, [], ◌∷◌, ◌++◌, length, reverse, Contains, Option, Some, None, Ok, option_and_then, inl, inr, refl, sym, ◌∙◌, ap, subst, append_assoc, arith}
use Rattle.std.proofs.lemmas.List.{map-append}
use Rattle.std.proofs.lemmas.List.Elements.{Contains-append_left, Contains-append_right, Contains-get_or}
use Rattle.std.proofs.lemmas.Option.{same_Some}
use Rattle.repo_steps.proofs.Names.{Contains-one, IsId, GREATEST_TIME, Id, Name, Files, History, files_of, Wrote, Change, Wrote-then, Objects, objects_after, objects_in, Commit, commit_at, bind-some, MayBePut, missing_writes, Contains-cons_cases, Contains-first, Contains-later, Head, ref_write, edit_time_of, root_time_of, seen_by, CAP, IsId-version_id, Place, place_of, bug_kind, bug_keeps_laws, BugOp, MOST_COMMITS, Contains-nil, AreHeld, CanBeRead, MayBeAppended, appended_head, appended_node, IsEntity, ops_in, extended, edit_at, Entity, Loaded, Placed, EachIsLocal, IsBug, IsLocal, clock_at, clock_place, see_writes, has_ref, head_at, ref_place, UserFound, BadUser, NoUser, User, user_at, ClockFile, Env, HeadEntry, head_edit, IsBug-over, clock_at-capped, HasFound, Growth, addition_head, addition_objects, addition_writes, bug_says, clock_writes, later_addition, op_ids, root_addition, op_id, IsWrite, BugBegins, BugGrows, begun_entity, Addition}
use Rattle.object_store.specs.Typed.{HoldsAs, as_commit, tree_at}
use Rattle.op_pack.specs.Heads.{IsClock, edit_clock_of}
use Rattle.bug_ops.specs.declared.op.BugOp.TheVariants.{AddComment, Create, EditComment, LabelChange, NoOp, SetMetadata, SetStatus, SetTitle}
use Rattle.commit_walk.specs.Below.{IsBelow, head, parent}
use Rattle.commit_walk.specs.Distinct.{AreDistinct}
use Rattle.commit_walk.proofs.DistinctLemmas.{AreDistinct-nil, AreDistinct-push}
use Rattle.dag_entity.specs.Extending.{Begins, Extends}
use Rattle.dag_entity.specs.Nodes.{ids_of}
use Rattle.dag_entity.proofs.AgreeFaults.{entity_over}
use Rattle.dag_entity.proofs.AgreeGrowth.{more_authors_entity, valid_stays}
use Rattle.dag_entity.proofs.LawExtending.{is_extended}
use Rattle.dag_entity.proofs.LawFirst.{first_valid}
use Rattle.repo_state.specs.declared.clocks.ClockFile.TheVariants as file
use Rattle.repo_state.specs.declared.side.Side.TheVariants as side
use Rattle.repo_state.proofs.BugLemmas.{edit_within}
use Rattle.repo_steps.specs.BugDoings.{one_op_pack}
use Rattle.repo_steps.proofs.AddBugLemmas.{Seen, node, put, put_grew, put_node, see_made, set, set_bug, set_clock, set_head, set_only, set_wrote, set_writes}
use Rattle.repo_steps.proofs.OnlyLemmas.{OnlyChanges-then, all_both, head_at-absent}

-- ---- operations and packs

-- each operation of a bug may stand at each place
fits : (p : Place) (op : BugOp) → bug_kind.Fits p op
fits p (Create c title message files) = refl
fits p (SetTitle c title was) = refl
fits p (AddComment c message files) = refl
fits p (SetStatus c status) = refl
fits p (LabelChange c added removed) = refl
fits p (EditComment c target message files) = refl
fits p (NoOp c) = refl
fits p (SetMetadata c target pairs) = refl

-- a pack of one operation can be written, and read again
module _ (author : Id) (edit : ℕ) (op : BugOp) (rules : bug_kind.KeepsRules op) where
  pub pack_reads_again : (create : Option ℕ) → CanBeRead bug_kind (one_op_pack author edit create op)
  pack_reads_again create = record {
    few = omega arith;
    stand = ((rules, fits (place_of (appended_head bug_kind (one_op_pack author edit create op)) author (bug_kind.written op)) op), tt);
  }

  pub root_appends : (create : ℕ) → 1 ≤ edit → edit ≤ GREATEST_TIME → 1 ≤ create → create ≤ GREATEST_TIME → MayBeAppended bug_kind (one_op_pack author edit (Some create) op)
  root_appends create some_edit within_edit some_create within_create = record {
    version = refl;
    edit = record { low = some_edit; high = within_edit };
    create = λ n is. let same : create ≡ n = same_Some create n is in subst IsClock same (record { low = some_create; high = within_create });
    rules = (rules, tt);
  }

  pub later_appends : 1 ≤ edit → edit ≤ GREATEST_TIME → MayBeAppended bug_kind (one_op_pack author edit None op)
  later_appends some within = record { version = refl; edit = record { low = some; high = within }; create = λ n is. absurd (cc is); rules = (rules, tt) }

-- the id of the operation of a pack that was read again is that of its text
module _ (parents : List Name) (author : Id) (edit : ℕ) (create : Option ℕ) (op : BugOp) (now : ℕ) where
  abbrev one : Loaded BugOp
  one = appended_node bug_kind parents (one_op_pack author edit create op) now

  abbrev place : Place
  place = place_of (appended_head bug_kind (one_op_pack author edit create op)) author (bug_kind.written op)

  pub id_again : (bug_kind.common_of (bug_kind.placed place op)).place.id ≡ op_id op
  id_again = ap (λ c. c.place.id) (bug_keeps_laws.moves place op)

  pub ids_again : ids_of bug_kind one.placed.pack ≡ op_id op ∷ []
  ids_again = ap (λ (id : Id). id ∷ []) id_again

-- an operation's id is 32 bytes
pub IsId-op_id : (op : BugOp) → IsId (op_id op)
IsId-op_id op = IsId-version_id (bug_kind.written op)

-- ---- the user

-- there is a user where the file names one
pub some_user_is : (found : UserFound) → (found ≡ BadUser → ⊥) → (found ≡ NoUser → ⊥) → (id : Id) × (found ≡ User id)
some_user_is NoUser good some = absurd (some refl)
some_user_is (User id) good some = (id, refl)
some_user_is BadUser good some = absurd (good refl)

-- the id of an operation of one of several packs is among those of all of them
ids_of_packs : (packs : List (Placed BugOp)) (placed : Placed BugOp) (id : Id) → Contains packs placed → Contains (ids_of bug_kind placed.pack) id → Contains (op_ids (ops_in bug_kind packs)) id
ids_of_packs [] placed id has in_one = absurd (Contains-nil placed has)
ids_of_packs (first ∷ rest) placed id has in_one = subst (λ ids. Contains ids id) (sym (map-append (λ (op : BugOp). (bug_kind.common_of op).place.id) first.pack.ops (ops_in bug_kind rest))) (elim (Contains-cons_cases first rest placed has) [
  | inl same ↦ Contains-append_left (ids_of bug_kind first.pack) (op_ids (ops_in bug_kind rest)) id (subst (λ (p : Placed BugOp). Contains (ids_of bug_kind p.pack) id) (sym same) in_one)
  | inr later ↦ Contains-append_right (ids_of bug_kind first.pack) (op_ids (ops_in bug_kind rest)) id (ids_of_packs rest placed id later in_one)
])

-- the writes of a commit that is added are its objects and its head, and then the clocks
added_writes : (env : Env) (files : Files) (a : Addition)
    → (missing_writes env.folder (addition_objects env.moment.now (Some a)) files ++ ref_write env.folder (ref_place side.Bugs a.bug) (addition_head env.moment.now a) ∷ []) ++ clock_writes env.folder files a.pack
    ≡ addition_writes env files (Some a)
added_writes env files a = append_assoc (missing_writes env.folder (addition_objects env.moment.now (Some a)) files) (ref_write env.folder (ref_place side.Bugs a.bug) (addition_head env.moment.now a) ∷ []) (clock_writes env.folder files a.pack)

-- all writes of a command on a bug, which are of their kinds, and make the step
pub record MadeBug (env : Env) (old : History) (a : Addition) (Step : Files → Type 0) : Type 0 where
  pub wrote : Wrote (IsWrite env.folder) old (reverse (addition_writes env (files_of old) (Some a)) ++ old)
  pub step : Step (files_of (reverse (addition_writes env (files_of old) (Some a)) ++ old))

-- ---- a new bug

module _ (env : Env) (old : History) (op : BugOp) (rules : bug_kind.KeepsRules op) (opens : bug_kind.is_opening op ≡ true)
    (user : Id) (is_user : user_at (files_of old) env.folder ≡ User user) (local : IsLocal (files_of old) env.folder user)
    (free : MayBePut env.folder (addition_objects env.moment.now (Some (root_addition env.folder (files_of old) op user))) old)
    (fresh : has_ref (files_of old) env.folder side.Bugs (op_id op) ≡ false) (is_id : IsId (op_id op)) where
  abbrev edit_was : ℕ
  edit_was = clock_at (files_of old) env.folder file.BugsEdit

  abbrev create_was : ℕ
  create_was = clock_at (files_of old) env.folder file.BugsCreate

  abbrev a : Addition
  a = root_addition env.folder (files_of old) op user

  may : MayBeAppended bug_kind a.pack
  may = root_appends user (root_time_of edit_was) op rules (root_time_of create_was)
      (omega (arith, clock_at-capped (files_of old) env.folder file.BugsEdit)) (omega (arith, clock_at-capped (files_of old) env.folder file.BugsEdit))
      (omega (arith, clock_at-capped (files_of old) env.folder file.BugsCreate)) (omega (arith, clock_at-capped (files_of old) env.folder file.BugsCreate))

  can : CanBeRead bug_kind a.pack
  can = pack_reads_again user (root_time_of edit_was) op rules (Some (root_time_of create_was))

  parents : AreHeld (objects_after old env.folder) a.parents
  parents = λ p c. absurd (Contains-nil p c)

  abbrev stood : History
  stood = put env old a may can local.is_id parents free

  abbrev head_set : History
  head_set = set env old a may can local.is_id parents free

  abbrev root : Loaded BugOp
  root = node env old a may can local.is_id parents free

  abbrev bug : HeadEntry
  bug = record { id = op_id op; name = addition_head env.moment.now a }

  begins : Begins bug_kind (objects_in (files_of stood) env.folder) (op_id op) (user ∷ []) root (root_time_of create_was)
  begins = record {
    is = put_node env old a may can local.is_id parents free;
    root = refl;
    opens = record {
      says = refl;
      first = bug_kind.placed (place [] user (root_time_of edit_was) (Some (root_time_of create_was)) op env.moment.now) op;
      rest = [];
      begins = refl;
      opening = bug_keeps_laws.opens_anywhere (place [] user (root_time_of edit_was) (Some (root_time_of create_was)) op env.moment.now) op ∙ opens;
      id_is = id_again [] user (root_time_of edit_was) (Some (root_time_of create_was)) op env.moment.now;
    };
    follow = tt;
    once = subst AreDistinct (sym (ids_again [] user (root_time_of edit_was) (Some (root_time_of create_was)) op env.moment.now)) (AreDistinct-push [] (op_id op) AreDistinct-nil (Contains-nil (op_id op)));
    known = Contains-first user [];
  }

  abbrev entity : Entity BugOp
  entity = begun_entity env a (root_time_of create_was)

  is_entity : IsEntity bug_kind (objects_in (files_of stood) env.folder) (op_id op) (addition_head env.moment.now a ∷ []) (user ∷ []) entity
  is_entity = first_valid bug_kind bug_keeps_laws (objects_in (files_of stood) env.folder) (op_id op) (user ∷ []) root (root_time_of create_was) begins

  locals : EachIsLocal (files_of old) env.folder (user ∷ [])
  locals = λ id c. subst (IsLocal (files_of old) env.folder) (Contains-one user id c) local

  bug_set : IsBug (files_of head_set) env.folder bug entity
  bug_set = set_bug env old a may can local.is_id parents free entity (user ∷ []) locals is_id is_entity

  head_reads : head_at (files_of head_set) env.folder side.Bugs (op_id op) ≡ Head bug.name
  head_reads = set_head env old a may can local.is_id parents free

  clocks_stay : (which : ClockFile) → clock_at (files_of head_set) env.folder which ≡ clock_at (files_of old) env.folder which
  clocks_stay = set_clock env old a may can local.is_id parents free

  -- then the create clock is seen
  abbrev created : History
  created = reverse (see_writes env.folder file.BugsCreate create_was (root_time_of create_was)) ++ head_set

  create_seen : Seen env.folder file.BugsCreate (root_time_of create_was) head_set created
  create_seen = see_made env.folder file.BugsCreate (root_time_of create_was) head_set bug is_id head_reads bug_set.is.create create_was (clocks_stay file.BugsCreate)

  -- and the edit clock
  abbrev edited : History
  edited = reverse (see_writes env.folder file.BugsEdit edit_was (root_time_of edit_was)) ++ created

  edit_says : edit_at (objects_in (files_of created) env.folder) bug.name ≡ Some (root_time_of edit_was)
  edit_says = ap (λ (o : Objects). edit_at o bug.name) create_seen.objects ∙ head_edit (objects_in (files_of head_set) env.folder) bug.name entity.edit bug_set.is.edit

  edit_seen : Seen env.folder file.BugsEdit (root_time_of edit_was) created edited
  edit_seen = see_made env.folder file.BugsEdit (root_time_of edit_was) created bug is_id (create_seen.heads side.Bugs (op_id op) ∙ head_reads) edit_says edit_was
      (create_seen.other file.BugsEdit (λ e. cc e) ∙ clocks_stay file.BugsEdit)

  all : edited ≡ reverse (addition_writes env (files_of old) (Some a)) ++ old
  all = all_both (missing_writes env.folder (addition_objects env.moment.now (Some a)) (files_of old) ++ ref_write env.folder (ref_place side.Bugs (op_id op)) (addition_head env.moment.now a) ∷ []) (clock_writes env.folder (files_of old) a.pack) old head_set edited (set_writes env old a may can local.is_id parents free)
      (all_both (see_writes env.folder file.BugsCreate create_was (root_time_of create_was)) (see_writes env.folder file.BugsEdit edit_was (root_time_of edit_was)) head_set created edited refl refl)
      ∙ ap (λ (ws : List Change). reverse ws ++ old) (added_writes env (files_of old) a)

  root_seen : (clock : ℕ) → clock ≤ CAP → seen_by clock (root_time_of clock) ≡ root_time_of clock
  root_seen clock capped = omega (arith, capped)

  step : BugBegins env op (files_of old) (files_of edited) (op_id op)
  step = record {
    user = user;
    is_user = is_user;
    is_told = refl;
    fresh = fresh;
    head = edit_seen.heads side.Bugs (op_id op) ∙ create_seen.heads side.Bugs (op_id op) ∙ head_reads;
    is = IsBug-over env.folder (files_of head_set) (files_of edited) (λ id. edit_seen.heads side.Identities id ∙ create_seen.heads side.Identities id) (edit_seen.objects ∙ create_seen.objects) bug entity bug_set;
    edit_clock = edit_seen.clock ∙ ap (λ (c : ℕ). seen_by c (root_time_of edit_was)) (create_seen.other file.BugsEdit (λ e. cc e) ∙ clocks_stay file.BugsEdit)
        ∙ root_seen edit_was (clock_at-capped (files_of old) env.folder file.BugsEdit);
    create_clock = edit_seen.other file.BugsCreate (λ e. cc e) ∙ create_seen.clock ∙ ap (λ (c : ℕ). seen_by c (root_time_of create_was)) (clocks_stay file.BugsCreate)
        ∙ root_seen create_was (clock_at-capped (files_of old) env.folder file.BugsCreate);
    only = OnlyChanges-then env.folder (ref_place side.Bugs (op_id op) ∷ clock_place file.BugsCreate ∷ []) (clock_place file.BugsEdit ∷ []) (files_of old) (files_of created) (files_of edited)
        (OnlyChanges-then env.folder (ref_place side.Bugs (op_id op) ∷ []) (clock_place file.BugsCreate ∷ []) (files_of old) (files_of head_set) (files_of created)
        (set_only env old a may can local.is_id parents free) create_seen.only) edit_seen.only;
  }

  wrote : Wrote (IsWrite env.folder) old edited
  wrote = Wrote-then (IsWrite env.folder) old created edited
      (Wrote-then (IsWrite env.folder) old head_set created
      (set_wrote env old a may can local.is_id parents free entity (user ∷ []) locals is_id is_entity None (head_at-absent (files_of old) env.folder side.Bugs (op_id op) fresh) tt) create_seen.wrote) edit_seen.wrote

  -- the bug begins
  pub bug_begun : MadeBug env old a (λ (new : Files). BugBegins env op (files_of old) new (op_id op))
  bug_begun = record {
    wrote = subst (Wrote (IsWrite env.folder) old) all wrote;
    step = subst (λ (new : History). BugBegins env op (files_of old) (files_of new) (op_id op)) all step;
  }

-- ---- a bug with one operation more

module _ (env : Env) (old : History) (growth : Growth) (op : BugOp) (rules : bug_kind.KeepsRules op) (follows : bug_kind.is_following op ≡ true)
    (user : Id) (is_user : user_at (files_of old) env.folder ≡ User user) (local : IsLocal (files_of old) env.folder user)
    (found : HasFound env.folder (files_of old) (growth.finder (files_of old))) (stands : head_at (files_of old) env.folder side.Bugs found.bug.id ≡ Head found.bug.name)
    (adds : growth.adds (bug_says found.entity) ≡ Ok op) (has_clock : found.entity.edit ≡ GREATEST_TIME → ⊥) (has_room : MOST_COMMITS ≤ length found.entity.packs → ⊥)
    (is_new : Contains (op_ids (ops_in bug_kind found.entity.packs)) (op_id op) → ⊥)
    (free : MayBePut env.folder (addition_objects env.moment.now (Some (later_addition env.folder (files_of old) op user found.bug found.entity.edit))) old) (is_id : IsId found.bug.id) where
  abbrev edit_before : ℕ
  edit_before = clock_at (files_of old) env.folder file.BugsEdit

  abbrev edit_now : ℕ
  edit_now = edit_time_of edit_before found.entity.edit

  abbrev added : Addition
  added = later_addition env.folder (files_of old) op user found.bug found.entity.edit

  abbrev heads : List Name
  heads = found.bug.name ∷ []

  abbrev held : Objects
  held = objects_in (files_of old) env.folder

  -- the head's edit clock is within the limit
  says : edit_at held found.bug.name ≡ Some found.entity.edit
  says = head_edit held found.bug.name found.entity.edit found.is.is.edit

  within : found.entity.edit ≤ GREATEST_TIME
  within = edit_within held found.bug.name found.entity.edit says

  added_may : MayBeAppended bug_kind added.pack
  added_may = later_appends user edit_now op rules (omega (arith, within, has_clock)) (omega (arith, within, has_clock, clock_at-capped (files_of old) env.folder file.BugsEdit))

  added_can : CanBeRead bug_kind added.pack
  added_can = pack_reads_again user edit_now op rules None

  added_parents : AreHeld (objects_after old env.folder) added.parents
  added_parents = λ p c.
      let commit = bind-some (λ (commit : Commit). option_and_then edit_clock_of (tree_at held commit.tree)) (commit_at held found.bug.name) found.entity.edit says in
      subst (HoldsAs as_commit held) (Contains-one found.bug.name p c) (commit.0, commit.1)

  abbrev then_stood : History
  then_stood = put env old added added_may added_can local.is_id added_parents free

  abbrev then_set : History
  then_set = set env old added added_may added_can local.is_id added_parents free

  abbrev later : Loaded BugOp
  later = node env old added added_may added_can local.is_id added_parents free

  abbrev later_bug : HeadEntry
  later_bug = record { id = found.bug.id; name = addition_head env.moment.now added }

  abbrev authors : List Id
  authors = user ∷ found.is.authors

  -- the entity of before, in the objects that stand now
  was : IsEntity bug_kind (objects_in (files_of then_stood) env.folder) found.bug.id heads authors found.entity
  was =
      let grew = put_grew env old added added_may added_can local.is_id added_parents free in
      let with_user = more_authors_entity bug_kind found.bug.id heads held found.is.authors authors (λ author c. Contains-later user found.is.authors author c) found.entity found.is.is in
      entity_over bug_kind held (objects_in (files_of then_stood) env.folder) heads
      (valid_stays bug_kind found.bug.id heads held (objects_in (files_of then_stood) env.folder) authors grew with_user.valid) found.bug.id authors found.entity with_user

  -- its head has the edit clock of the entity
  clock_of_head : (name : Name) (edit : ℕ) → found.bug.name ≡ name → edit_at (objects_in (files_of then_stood) env.folder) name ≡ Some edit → found.entity.edit ≡ edit
  clock_of_head name edit same has = same_Some found.entity.edit edit
      (sym (head_edit (objects_in (files_of then_stood) env.folder) found.bug.name found.entity.edit was.edit) ∙ ap (edit_at (objects_in (files_of then_stood) env.folder)) same ∙ has)

  abbrev place_then : Place
  place_then = place heads user edit_now None op env.moment.now

  extends : Extends bug_kind (objects_in (files_of then_stood) env.folder) heads authors found.entity.packs later
  extends = record {
    is = put_node env old added added_may added_can local.is_id added_parents free;
    over = refl;
    above = λ name edit c has. let same = clock_of_head name edit (Contains-one found.bug.name name c) has in omega (arith, same, within, has_clock);
    near = λ name edit e has. let same = clock_of_head name edit (Contains-one found.bug.name name (subst (λ (l : List Name). Contains l name) (sym e) (Contains-first name []))) has in omega (arith, same);
    merge = λ two. absurd (omega (arith, two));
    follow = λ k d below. subst (λ (o : BugOp). bug_kind.is_following o ≡ true) (Contains-one (bug_kind.placed place_then op) _ (Contains-get_or (bug_kind.placed place_then op ∷ []) k d below))
        (bug_keeps_laws.follows_anywhere place_then op ∙ follows);
    once = subst AreDistinct (sym (ids_again heads user edit_now None op env.moment.now)) (AreDistinct-push [] (op_id op) AreDistinct-nil (Contains-nil (op_id op)));
    fresh = λ placed id c has new.
        let same : op_id op ≡ id = Contains-one (op_id op) id (subst (λ (l : List Id). Contains l id) (ids_again heads user edit_now None op env.moment.now) new) in
        is_new (ids_of_packs found.entity.packs placed (op_id op) c (subst (Contains (ids_of bug_kind placed.pack)) (sym same) has));
    known = Contains-first user found.is.authors;
    few = omega (arith, has_room);
  }

  abbrev longer : Entity BugOp
  longer = extended found.entity later

  is_longer : IsEntity bug_kind (objects_in (files_of then_stood) env.folder) found.bug.id (addition_head env.moment.now added ∷ []) authors longer
  is_longer = is_extended bug_kind bug_keeps_laws (objects_in (files_of then_stood) env.folder) found.bug.id heads authors found.entity later was extends

  each_local : EachIsLocal (files_of old) env.folder authors
  each_local = λ id c. elim (Contains-cons_cases user found.is.authors id c) [
    | inl same ↦ subst (IsLocal (files_of old) env.folder) same local
    | inr among ↦ found.is.locals id among
  ]

  longer_set : IsBug (files_of then_set) env.folder later_bug longer
  longer_set = set_bug env old added added_may added_can local.is_id added_parents free longer authors each_local is_id is_longer

  then_reads : head_at (files_of then_set) env.folder side.Bugs found.bug.id ≡ Head later_bug.name
  then_reads = set_head env old added added_may added_can local.is_id added_parents free

  -- then the clock is seen
  abbrev then_edited : History
  then_edited = reverse (see_writes env.folder file.BugsEdit edit_before edit_now) ++ then_set

  then_says : edit_at (objects_in (files_of then_set) env.folder) later_bug.name ≡ Some edit_now
  then_says = head_edit (objects_in (files_of then_set) env.folder) later_bug.name longer.edit longer_set.is.edit

  then_seen : Seen env.folder file.BugsEdit edit_now then_set then_edited
  then_seen = see_made env.folder file.BugsEdit edit_now then_set later_bug is_id then_reads then_says edit_before
      (set_clock env old added added_may added_can local.is_id added_parents free file.BugsEdit)

  then_all : then_edited ≡ reverse (addition_writes env (files_of old) (Some added)) ++ old
  then_all = all_both (missing_writes env.folder (addition_objects env.moment.now (Some added)) (files_of old) ++ ref_write env.folder (ref_place side.Bugs found.bug.id) (addition_head env.moment.now added) ∷ [])
      (clock_writes env.folder (files_of old) added.pack) old then_set then_edited (set_writes env old added added_may added_can local.is_id added_parents free) refl
      ∙ ap (λ (ws : List Change). reverse ws ++ old) (added_writes env (files_of old) added)

  -- the old head lies below the new one
  under : IsBelow (objects_in (files_of then_stood) env.folder) (addition_head env.moment.now added ∷ []) found.bug.name
  under =
      let is = put_node env old added added_may added_can local.is_id added_parents free in
      parent (head (Contains-first (addition_head env.moment.now added) [])) (record { commit = is.commit; held = is.held; names = subst (λ (l : List Name). Contains l found.bug.name) is.parents (Contains-first found.bug.name []) })

  grows : BugGrows env growth (files_of old) (files_of then_edited) (op_id op)
  grows = record {
    user = user;
    is_user = is_user;
    bug = found;
    op = op;
    is_op = adds;
    is_told = refl;
    head = then_seen.heads side.Bugs found.bug.id ∙ then_reads;
    is = IsBug-over env.folder (files_of then_set) (files_of then_edited) (then_seen.heads side.Identities) then_seen.objects later_bug longer longer_set;
    edit_clock = then_seen.clock ∙ ap (λ (c : ℕ). seen_by c edit_now) (set_clock env old added added_may added_can local.is_id added_parents free file.BugsEdit);
    only = OnlyChanges-then env.folder (ref_place side.Bugs found.bug.id ∷ []) (clock_place file.BugsEdit ∷ []) (files_of old) (files_of then_set) (files_of then_edited)
        (set_only env old added added_may added_can local.is_id added_parents free) then_seen.only;
  }

  then_wrote : Wrote (IsWrite env.folder) old then_edited
  then_wrote = Wrote-then (IsWrite env.folder) old then_set then_edited
      (set_wrote env old added added_may added_can local.is_id added_parents free longer authors each_local is_id is_longer (Some found.bug.name) stands under) then_seen.wrote

  -- the bug grows
  pub bug_grown : MadeBug env old added (λ (new : Files). BugGrows env growth (files_of old) new (op_id op))
  bug_grown = record {
    wrote = subst (Wrote (IsWrite env.folder) old) then_all then_wrote;
    step = subst (λ (new : History). BugGrows env growth (files_of old) (files_of new) (op_id op)) then_all grows;
  }
