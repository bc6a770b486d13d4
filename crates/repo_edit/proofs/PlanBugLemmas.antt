-- What is read on the way to the plan of an edit of a bug decides the checks of the command.
use Rattle.std.proofs.Common.{◌≡◌, ◌≤◌, ℕ, Bool, true, false, List, [], ◌∷◌, ◌++◌, All, Contains, length, Vec, Option, Some, None, Result, Ok, Err, inl, inr, refl, sym, ◌∙◌, ap, subst, arith}
use Rattle.std.specs.Prelude.{option_and_then}
use Rattle.std.specs.List.{list_any}
use Rattle.std.specs.Option.{option_map}
use Rattle.std.specs.declared.alloc.Global.{Global}
use Rattle.std.proofs.lemmas.List.{append_assoc}
use Rattle.repo_steps.proofs.Names.{GREATEST_TIME, Id, Files, History, files_of, Change, objects_in, IsShort, CannotHave, HasLong, MayBePut, missing_writes, ref_write, MOST_COMMITS, edit_time_of, root_time_of, bug_kind, BugOp, snapshot_of, ops_in, head_edit, clock_at, see_writes, has_ref, ref_place, of_no_change, BadUser, NoUser, User, user_at, HeadEntry, addition_objects, addition_writes, bug_finder, Finder, Growth, Message, NoChange, bug_says, clock_room, comment_growth, commit_room, adds_op, edit_growth, later_addition, later_by, longer_bug, new_operation, op_ids, root_addition, some_id, op_id, AllPass, Check, FirstFails, names, sizes, BugEdit}
use Rattle.repo_edit.proofs.Names.{Env, Refusal, Stop, Addition, PutFault, stop_of_edit, stop_of_put, Plans, begun_bug, OpAnswers, noop_op, Plan, AddsHead, no_entry, no_pick, AuthorAnswers, EditPlans, GrowingAnswers, GrownPlans, Grows, has_id, Growing}
use Rattle.object_store.specs.declared.fault.PutFault.TheVariants as fault
use Rattle.op_pack.specs.declared.pack.Pack.{Pack}
use Rattle.bug_ops.specs.declared.snapshot.Snapshot.{Snapshot}
use Rattle.dag_entity.specs.Appending.{AppendPlanAnswers, appended_name, appended_objects}
use Rattle.dag_entity.specs.declared.appending.CommitPlan.{CommitPlan}
use Rattle.repo_state.specs.declared.clocks.ClockFile.TheVariants as file
use Rattle.repo_steps.specs.declared.refusal.Refusal.TheVariants as refusal
use Rattle.repo_steps.specs.declared.refusal.Stop.TheVariants as stop
use Rattle.repo_state.specs.declared.side.Side.TheVariants as side
use Rattle.repo_steps.specs.BugDoings.{one_op_pack}
use Rattle.bug_edits.specs.declared.edit.EditStop.{EditStop}
use Rattle.bug_edits.specs.declared.edit.EditStop.TheVariants as unmade
use Rattle.repo_edit.specs.Growing.{RoomAnswers, grown_checks, grown_objects, growing_checks}
use Rattle.words.specs.declared.edit.Edit.TheVariants as command
use Rattle.repo_edit.proofs.RepeatLemmas.{repeats}

-- the first of some checks that fails is the first of more
pub more_fail : (checks more : List Check) (r : Refusal) → FirstFails checks r → FirstFails (checks ++ more) r
more_fail [] more r h = absurd h
more_fail (check ∷ checks) more r (inl fails) = inl fails
more_fail (check ∷ checks) more r (inr (passes, later)) = inr (passes, more_fail checks more r later)

-- ---- the commit that adds an operation to a bug

module _ (env : Env) (g : Growing) (edit : ℕ) (op : BugOp) (old : History) where
  abbrev pack : Pack BugOp
  pack = one_op_pack g.author edit None op

  module _ (plan : CommitPlan) (plans : AppendPlanAnswers bug_kind (g.head.name ∷ []) pack env.moment.now (Ok plan)) (id : Id) (is : id ≡ op_id op)
      (b : Bool) (has : b ≡ list_any (has_id bug_kind id) g.ops) where
    -- the bug has the operation
    pub grown_repeated : b ≡ true → GrownPlans env g edit op old (Err (stop.Refused (refusal.RepeatedOperation id)))
    grown_repeated stands = inr (plans.1, inl (subst (Contains (op_ids g.ops)) is ((repeats id g.ops b has).0 stands), ap refusal.RepeatedOperation is))

    module _ (not : b ≡ false) (late : History) (later : late ≡ old) where
      fresh : Contains (op_ids g.ops) (op_id op) → ⊥
      fresh stands =
          let found : b ≡ true = (repeats id g.ops b has).1 (subst (Contains (op_ids g.ops)) (sym is) stands) in
          cc (sym not ∙ found)

      -- of the plan's objects what is so is so of the commit's
      planned : (P : List (List ℕ) → Type 0) → P plan.objects → P (grown_objects env g edit op)
      planned P = subst (λ (p : CommitPlan). P p.objects) plans.0

      abbrev AddsGrown : History → Result (Vec Change Global) PutFault → Type 0
      AddsGrown at r = AddsHead env.folder side.Bugs g.head.id plan.head plan.objects at r

      -- an object is refused
      pub grown_taken : (f : PutFault) → AddsGrown late (Err f) → GrownPlans env g edit op old (Err (stop_of_put f))
      grown_taken f adds = each f (subst (λ (h : History). AddsGrown h (Err f)) later adds)
        where
          each : (f : PutFault) → AddsGrown old (Err f) → GrownPlans env g edit op old (Err (stop_of_put f))
          each fault.Memory h = tt
          each fault.Disk h = tt
          each (fault.Large count) h = inl (planned HasLong h.1, ap refusal.TooLarge h.0)
          each (fault.Taken taken) h = inr (plans.1, inr (fresh, inl (taken, planned (λ ts. CannotHave env.folder ts old taken) h.1, refl)))

      -- the plan
      pub grown_planned : (added : Vec Change Global) (all : List Change) → AddsGrown late (Ok added)
          → all ≡ added.items ++ see_writes env.folder file.BugsEdit g.seen edit → GrownPlans env g edit op old (Ok (record { writes = all; id = id }))
      grown_planned added all adds writes =
          let here = subst (λ (h : History). AddsGrown h (Ok added)) later adds in
          let may = planned (λ ts. MayBePut env.folder ts old) here.0 in (
            (plans.1, (fresh, (may, tt))),
            writes
                ∙ ap (λ (ws : List Change). ws ++ see_writes env.folder file.BugsEdit g.seen edit)
                (here.1 ∙ ap (λ (p : CommitPlan). missing_writes env.folder p.objects (files_of old) ++ ref_write env.folder (ref_place side.Bugs g.head.id) p.head ∷ []) plans.0)
                ∙ append_assoc (missing_writes env.folder (grown_objects env g edit op) (files_of old))
                (ref_write env.folder (ref_place side.Bugs g.head.id) (appended_name bug_kind (g.head.name ∷ []) pack env.moment.now) ∷ []) (see_writes env.folder file.BugsEdit g.seen edit),
            sym is,
          )

-- ---- an operation more

-- the plan of an operation that is added, or why there is none
abbrev pub LongerPlans : Env → Growth → History → Result Plan Stop → Type 0
LongerPlans env growth old result = (bug : HeadEntry) × (op : BugOp) × Plans (longer_bug env growth bug op old) result

-- that of an edit of a bug, and of a comment
pub edit_plans : (env : Env) (e : BugEdit) (word : List ℕ) (old : History) (r : Result Plan Stop) → LongerPlans env (edit_growth env e word) old r → EditPlans env (command.OfBug word e) old r
edit_plans env e word old r (bug, op, plans) = (record { op = op; bug = bug; comment = bug.id; person = bug.id }, plans)

pub comment_plans : (env : Env) (message : Message) (word : List ℕ) (comment : Id) (old : History) (r : Result Plan Stop) → LongerPlans env (comment_growth env message word comment) old r
    → EditPlans env (command.OfComment word message) old r
comment_plans env message word comment old r (bug, op, plans) = (record { op = op; bug = bug; comment = comment; person = bug.id }, plans)

module _ (env : Env) (growth : Growth) (old : History) where
  abbrev files : Files
  files = files_of old

  abbrev finder : Finder HeadEntry
  finder = growth.finder files

  abbrev addition : HeadEntry → BugOp → Option Addition
  addition bug op = option_and_then (later_by env.folder files bug op) (some_id (user_at files env.folder))

  -- what is checked once the bug was read
  abbrev later_checks : HeadEntry → BugOp → List Check
  later_checks bug op =
      adds_op env.folder files growth op ∷
      clock_room env.folder files finder ∷
      commit_room env.folder files finder ∷
      sizes (addition_objects env.moment.now (addition bug op)) ∷
      new_operation env.folder files finder op ∷
      names env.folder (addition_objects env.moment.now (addition bug op)) old ∷ []

  -- there is no user or no bug
  pub longer_barred : (s : Stop) → GrowingAnswers files env.folder finder (Err s) → LongerPlans env growth old (Err s)
  longer_barred stop.Memory h = (no_entry, noop_op env.moment, tt)
  longer_barred stop.Disk h = (no_entry, noop_op env.moment, tt)
  longer_barred (stop.Refused r) (bug, h) = (bug, noop_op env.moment, more_fail (growing_checks files env.folder finder bug) (later_checks bug (noop_op env.moment)) r h)

  module _ (g : Growing) (grows : Grows files env.folder finder g) where
    not_bad : user_at files env.folder ≡ BadUser → ⊥
    not_bad e = cc (sym grows.is_user ∙ e)

    some : user_at files env.folder ≡ NoUser → ⊥
    some e = cc (sym grows.is_user ∙ e)

    -- what is refused once the bug was read
    refused : (op : BugOp) (r : Refusal) → FirstFails (later_checks grows.bug.bug op) r → LongerPlans env growth old (Err (stop.Refused r))
    refused op r fails = (grows.bug.bug, op, inr (not_bad, inr (some, inr (grows.bug.finds, inr ((grows.bug.entity, grows.bug.is), fails)))))

    -- what the bug says is what its operations say
    says : (P : Snapshot → Type 0) → P (snapshot_of g.ops) → P (bug_says grows.bug.entity)
    says P = subst (λ (ops : List BugOp). P (snapshot_of ops)) (sym grows.are_ops)

    -- nothing is added
    pub longer_unmade : (why : NoChange) → growth.adds (snapshot_of g.ops) ≡ Err why → LongerPlans env growth old (Err (stop.Refused (of_no_change why)))
    longer_unmade why h = refused (noop_op env.moment) (of_no_change why) (inl (grows.bug, why, says (λ bug. growth.adds bug ≡ Err why) h, refl))

    module _ (op : BugOp) (makes : growth.adds (snapshot_of g.ops) ≡ Ok op) where
      adds : (adds_op env.folder files growth op).Passes
      adds = (grows.bug, says (λ bug. growth.adds bug ≡ Ok op) makes)

      -- no clock is left, or there is no room
      pub longer_full : (s : Stop) → RoomAnswers g.seen g.head.name g.edit g.commits (Err s) → LongerPlans env growth old (Err s)
      longer_full (stop.Refused (refusal.ClockFull name)) (least, named) =
          let full : grows.bug.entity.edit ≡ GREATEST_TIME = omega (arith, least, grows.is_edit, grows.within) in
          refused op (refusal.ClockFull name) (inr (adds, inl (grows.bug, full, ap refusal.ClockFull (named ∙ ap (λ (head : HeadEntry). head.name) (sym grows.is_head)))))
      longer_full (stop.Refused (refusal.TooLarge count)) (below, full, counted) =
          let many : MOST_COMMITS ≤ length grows.bug.entity.packs = omega (arith, full, grows.is_count) in
          refused op (refusal.TooLarge count) (inr (adds, inr ((grows.bug, λ e. omega (arith, below, e, grows.is_edit)), inl (grows.bug, many, ap refusal.TooLarge counted))))
      longer_full (stop.Refused _) h = absurd h
      longer_full stop.Memory h = absurd h
      longer_full stop.Disk h = absurd h

      module _ (clock : ℕ) (has_room : RoomAnswers g.seen g.head.name g.edit g.commits (Ok clock)) where
        -- what is added
        abbrev grown : Addition
        grown = record { bug = g.head.id; parents = g.head.name ∷ []; pack = one_op_pack g.author clock None op }

        abbrev later_of : HeadEntry → ℕ → Option Addition
        later_of head edit = Some (later_addition env.folder files op g.author head edit)

        clock_is : clock ≡ edit_time_of (clock_at files env.folder file.BugsEdit) grows.bug.entity.edit
        clock_is = has_room.2 ∙ ap (λ (seen : ℕ). edit_time_of seen g.edit) grows.is_seen ∙ ap (edit_time_of (clock_at files env.folder file.BugsEdit)) (sym grows.is_edit)

        addition_is : addition grows.bug.bug op ≡ Some grown
        addition_is =
            ap (λ u. option_and_then (later_by env.folder files grows.bug.bug op) (some_id u)) grows.is_user
            ∙ ap (option_map (later_addition env.folder files op g.author grows.bug.bug)) (head_edit (objects_in files env.folder) grows.bug.bug.name grows.bug.entity.edit grows.bug.is.is.edit)
            ∙ ap (λ (head : HeadEntry). later_of head grows.bug.entity.edit) grows.is_head
            ∙ ap (λ (edit : ℕ). Some (record { bug = g.head.id; parents = g.head.name ∷ []; pack = one_op_pack g.author edit None op })) (sym clock_is)

        objects_are : (P : List (List ℕ) → Type 0) → P (grown_objects env g clock op) → P (addition_objects env.moment.now (addition grows.bug.bug op))
        objects_are P = subst (λ (a : Option Addition). P (addition_objects env.moment.now a)) (sym addition_is)

        clock_left : grows.bug.entity.edit ≡ GREATEST_TIME → ⊥
        clock_left full = omega (arith, has_room.0, full, grows.is_edit)

        room_left : MOST_COMMITS ≤ length grows.bug.entity.packs → ⊥
        room_left full = omega (arith, has_room.1, full, grows.is_count)

        -- the operation is new to the bug as it is to what was read
        repeats_bug : Contains (op_ids g.ops) (op_id op) → Contains (op_ids (ops_in bug_kind grows.bug.entity.packs)) (op_id op)
        repeats_bug = subst (λ (ops : List BugOp). Contains (op_ids ops) (op_id op)) (sym grows.are_ops)

        repeats_ops : Contains (op_ids (ops_in bug_kind grows.bug.entity.packs)) (op_id op) → Contains (op_ids g.ops) (op_id op)
        repeats_ops = subst (λ (ops : List BugOp). Contains (op_ids ops) (op_id op)) grows.are_ops

        -- what is checked of the commit
        abbrev commit_checks : List Check
        commit_checks = let objects = addition_objects env.moment.now (addition grows.bug.bug op) in sizes objects ∷ new_operation env.folder files finder op ∷ names env.folder objects old ∷ []

        commit_passes : AllPass (grown_checks env g clock op old) → AllPass commit_checks
        commit_passes h = (objects_are (All IsShort) h.0, ((grows.bug, λ stands. h.1.0 (repeats_ops stands)), (objects_are (λ ts. MayBePut env.folder ts old) h.1.1.0, tt)))

        commit_refused : (r : Refusal) → FirstFails (grown_checks env g clock op old) r → FirstFails commit_checks r
        commit_refused r (inl long) = inl (objects_are HasLong long.0, long.1)
        commit_refused r (inr (short, inl repeated)) = inr (objects_are (All IsShort) short, inl (grows.bug, repeats_bug repeated.0, repeated.1))
        commit_refused r (inr (short, inr (fresh, inl (name, cannot, is)))) =
            inr (objects_are (All IsShort) short, inr ((grows.bug, λ stands. fresh (repeats_ops stands)), inl (name, objects_are (λ ts. CannotHave env.folder ts old name) cannot, is)))
        commit_refused r (inr (short, inr (fresh, inr none))) = absurd none.1

        -- the plan of the commit is that of the command
        pub longer_planned : (r : Result Plan Stop) → GrownPlans env g clock op old r → LongerPlans env growth old r
        longer_planned (Err stop.Memory) h = (grows.bug.bug, op, tt)
        longer_planned (Err stop.Disk) h = (grows.bug.bug, op, tt)
        longer_planned (Err (stop.Refused r)) h = refused op r (inr (adds, inr ((grows.bug, clock_left), inr ((grows.bug, room_left), commit_refused r h))))
        longer_planned (Ok plan) h = (
          grows.bug.bug,
          op,
          (
            (not_bad, (some, (grows.bug.finds, ((grows.bug.entity, grows.bug.is), (adds, ((grows.bug, clock_left), ((grows.bug, room_left), commit_passes h.0))))))),
            h.1
                ∙ ap (λ (seen : ℕ). missing_writes env.folder (grown_objects env g clock op) files
                ++ ref_write env.folder (ref_place side.Bugs g.head.id) (appended_name bug_kind (g.head.name ∷ []) (one_op_pack g.author clock None op) env.moment.now)
                ∷ see_writes env.folder file.BugsEdit seen clock) grows.is_seen
                ∙ ap (addition_writes env files) (sym addition_is),
            ap Some h.2,
          ),
        )

-- an edit of a bug adds nothing
pub edit_unmade : (env : Env) (e : BugEdit) (word : List ℕ) (old : History) (g : Growing) → Grows (files_of old) env.folder (bug_finder (files_of old) env.folder word) g
    → (why : EditStop) → OpAnswers env.moment e (snapshot_of g.ops) (Err why) → EditPlans env (command.OfBug word e) old (Err (stop_of_edit why))
edit_unmade env e word old g grows unmade.Memory h = (no_pick env, tt)
edit_unmade env e word old g grows (unmade.NoChange why) h = edit_plans env e word old (Err (stop.Refused (of_no_change why))) (longer_unmade env (edit_growth env e word) old g grows why h)

-- ---- a new bug

module _ (env : Env) (op : BugOp) (old : History) where
  -- there is no author
  pub begun_nobody : (s : Stop) → AuthorAnswers (files_of old) env.folder (Err s) → Plans (begun_bug env op old) (Err s)
  begun_nobody stop.Memory h = tt
  begun_nobody stop.Disk h = tt
  begun_nobody (stop.Refused refusal.NoUser) none = inr ((λ e. cc (sym none ∙ e)), inl (none, refl))
  begun_nobody (stop.Refused (refusal.Damaged path)) h = inl (h.1, ap refusal.Damaged h.0)
  begun_nobody (stop.Refused _) h = absurd h

  module _ (author : Id) (is_user : user_at (files_of old) env.folder ≡ User author) (create edit : ℕ)
      (is_create : create ≡ clock_at (files_of old) env.folder file.BugsCreate) (is_edit : edit ≡ clock_at (files_of old) env.folder file.BugsEdit) where
    abbrev root_pack : Pack BugOp
    root_pack = one_op_pack author (root_time_of edit) (Some (root_time_of create)) op

    -- what is planned with the clocks of a root is what the command makes
    pub packed_at : (r : Result CommitPlan PutFault) (later opened : ℕ) → later ≡ root_time_of edit → opened ≡ root_time_of create
        → AppendPlanAnswers bug_kind [] (one_op_pack author later (Some opened) op) env.moment.now r → AppendPlanAnswers bug_kind [] root_pack env.moment.now r
    packed_at r later opened is_later is_opened h =
        subst (λ (n : ℕ). AppendPlanAnswers bug_kind [] (one_op_pack author (root_time_of edit) (Some n) op) env.moment.now r) is_opened
        (subst (λ (n : ℕ). AppendPlanAnswers bug_kind [] (one_op_pack author n (Some opened) op) env.moment.now r) is_later h)

    -- what is added
    abbrev root : Addition
    root = record { bug = op_id op; parents = []; pack = root_pack }

    abbrev roots : Option Addition
    roots = option_map (root_addition env.folder (files_of old) op) (some_id (user_at (files_of old) env.folder))

    roots_are : roots ≡ Some root
    roots_are =
        ap (λ u. option_map (root_addition env.folder (files_of old) op) (some_id u)) is_user
        ∙ ap (λ (clock : ℕ). Some (record { bug = op_id op; parents = []; pack = one_op_pack author (root_time_of clock) (Some (root_time_of (clock_at (files_of old) env.folder file.BugsCreate))) op })) (sym is_edit)
        ∙ ap (λ (clock : ℕ). Some (record { bug = op_id op; parents = []; pack = one_op_pack author (root_time_of edit) (Some (root_time_of clock)) op })) (sym is_create)

    root_objects : (P : List (List ℕ) → Type 0) → P (appended_objects bug_kind [] root_pack env.moment.now) → P (addition_objects env.moment.now roots)
    root_objects P = subst (λ (a : Option Addition). P (addition_objects env.moment.now a)) (sym roots_are)

    sound : user_at (files_of old) env.folder ≡ BadUser → ⊥
    sound e = cc (sym is_user ∙ e)

    somebody : user_at (files_of old) env.folder ≡ NoUser → ⊥
    somebody e = cc (sym is_user ∙ e)

    -- an object is too large
    pub begun_large : (f : PutFault) → AppendPlanAnswers bug_kind [] root_pack env.moment.now (Err f) → Plans (begun_bug env op old) (Err (stop_of_put f))
    begun_large fault.Memory h = tt
    begun_large fault.Disk h = absurd h
    begun_large (fault.Large count) h = inr (sound, inr (somebody, inl (root_objects HasLong h.1, ap refusal.TooLarge h.0)))
    begun_large (fault.Taken name) h = absurd h

    module _ (plan : CommitPlan) (plans : AppendPlanAnswers bug_kind [] root_pack env.moment.now (Ok plan)) (id : Id) (is : id ≡ op_id op) where
      has_at : (b : Bool) → has_ref (files_of old) env.folder side.Bugs id ≡ b → has_ref (files_of old) env.folder side.Bugs (op_id op) ≡ b
      has_at b = subst (λ (i : Id). has_ref (files_of old) env.folder side.Bugs i ≡ b) is

      -- of the plan's objects what is so is so of the command's
      from_plan : (P : List (List ℕ) → Type 0) → P plan.objects → P (addition_objects env.moment.now roots)
      from_plan P h = root_objects P (subst (λ (p : CommitPlan). P p.objects) plans.0 h)

      -- the bug stands already
      pub begun_exists : has_ref (files_of old) env.folder side.Bugs id ≡ true → Plans (begun_bug env op old) (Err (stop.Refused (refusal.EntityExists id)))
      begun_exists stands =
          inr (sound, inr (somebody, inr (root_objects (All IsShort) plans.1, inl (has_at true stands, ap refusal.EntityExists is))))

      module _ (absent : has_ref (files_of old) env.folder side.Bugs id ≡ false) (late : History) (later : late ≡ old) where
        abbrev AddsRoot : History → Result (Vec Change Global) PutFault → Type 0
        AddsRoot at r = AddsHead env.folder side.Bugs id plan.head plan.objects at r

        -- an object is refused
        pub begun_taken : (f : PutFault) → AddsRoot late (Err f) → Plans (begun_bug env op old) (Err (stop_of_put f))
        begun_taken f adds = each f (subst (λ (h : History). AddsRoot h (Err f)) later adds)
          where
            each : (f : PutFault) → AddsRoot old (Err f) → Plans (begun_bug env op old) (Err (stop_of_put f))
            each fault.Memory h = tt
            each fault.Disk h = tt
            each (fault.Large count) h = inr (sound, inr (somebody, inl (from_plan HasLong h.1, ap refusal.TooLarge h.0)))
            each (fault.Taken taken) h =
                inr (sound, inr (somebody, inr (root_objects (All IsShort) plans.1, inr (has_at false absent, inl (taken, from_plan (λ ts. CannotHave env.folder ts old taken) h.1, refl)))))

        -- what is written of it
        here : (added : Vec Change Global) → AddsRoot late (Ok added) → AddsRoot old (Ok added)
        here added = subst (λ (h : History). AddsRoot h (Ok added)) later

        abbrev missing : List Change
        missing = missing_writes env.folder (appended_objects bug_kind [] root_pack env.moment.now) (files_of old)

        abbrev head : Change
        head = ref_write env.folder (ref_place side.Bugs (op_id op)) (appended_name bug_kind [] root_pack env.moment.now)

        abbrev seen_create : List Change
        seen_create = see_writes env.folder file.BugsCreate create (root_time_of create)

        abbrev seen_edit : List Change
        seen_edit = see_writes env.folder file.BugsEdit edit (root_time_of edit)

        written : (added : Vec Change Global) → AddsRoot late (Ok added) → added.items ≡ missing ++ head ∷ []
        written added adds =
            (here added adds).1
            ∙ ap (λ (p : CommitPlan). missing_writes env.folder p.objects (files_of old) ++ ref_write env.folder (ref_place side.Bugs id) p.head ∷ []) plans.0
            ∙ ap (λ (i : Id). missing ++ ref_write env.folder (ref_place side.Bugs i) (appended_name bug_kind [] root_pack env.moment.now) ∷ []) is

        joined : (missing ++ head ∷ []) ++ seen_create ++ seen_edit ≡ missing ++ head ∷ (seen_create ++ seen_edit)
        joined = ap (λ (ws : List Change). ws ++ seen_edit) (append_assoc missing (head ∷ []) seen_create) ∙ append_assoc missing (head ∷ seen_create) seen_edit

        clocks : (missing ++ head ∷ (seen_create ++ seen_edit)) ≡ addition_writes env (files_of old) (Some root)
        clocks =
            ap (λ (clock : ℕ). missing ++ head ∷ (see_writes env.folder file.BugsCreate clock (root_time_of create) ++ seen_edit)) is_create
            ∙ ap (λ (clock : ℕ). missing ++ head ∷ (see_writes env.folder file.BugsCreate (clock_at (files_of old) env.folder file.BugsCreate) (root_time_of create) ++ see_writes env.folder file.BugsEdit clock (root_time_of edit))) is_edit

        -- the plan
        pub begun_planned : (added : Vec Change Global) (all : List Change) → AddsRoot late (Ok added)
            → all ≡ added.items ++ see_writes env.folder file.BugsCreate create (root_time_of create) ++ see_writes env.folder file.BugsEdit edit (root_time_of edit)
            → Plans (begun_bug env op old) (Ok (record { writes = all; id = id }))
        begun_planned added all adds writes = (
          (sound, (somebody, (root_objects (All IsShort) plans.1, (has_at false absent, (from_plan (λ ts. MayBePut env.folder ts old) (here added adds).0, tt))))),
          writes ∙ ap (λ (ws : List Change). ws ++ seen_create ++ seen_edit) (written added adds) ∙ joined ∙ clocks ∙ ap (addition_writes env (files_of old)) (sym roots_are),
          ap Some (sym is),
        )
