-- What is read on the way to a plan decides the checks of a command.
use Rattle.std.proofs.Common.{◌≡◌, ℕ, Bool, true, false, List, [], ◌∷◌, ◌++◌, All, reverse, Vec, Option, Some, None, Result, Ok, Err, inl, inr, refl, sym, ◌∙◌, ap, subst}
use Rattle.std.specs.Option.{option_map}
use Rattle.std.specs.declared.alloc.Global.{Global}
use Rattle.repo_steps.proofs.Names.{Id, Name, Line, Title, History, files_of, WroteSome, Change, CannotHave, HasLong, MayBePut, missing_writes, IsShort, ref_write, objects_in, IsChain, person_finder, has_ref, ref_place, BadUser, NoUser, UserFound, user_at, user_entry, HeadEntry, DoingAnswers, IsStopped, FirstFails, Doing, names, sizes, EditAnswers, HasUser, edited_user, first_user_write, new_made, new_objects, new_text, new_user, set_user, user_writes, version_writes}
use Rattle.repo_edit.proofs.Names.{Env, Refusal, Stop, PutFault, VersionPlan, FindsUser, noop_op, FinderAnswers, stop_of_find, stop_of_put, stop_of_read, FindStop, ReadStop, Plans, UserSet, Plan, no_entry, no_pick, SetPlans, AddsHead}
use Rattle.object_store.specs.declared.fault.PutFault.TheVariants as fault
use Rattle.identity.specs.Making.{PlanAnswers, version_plan}
use Rattle.repo_state.specs.Answers.{IsBadUser, IsUser, Reads}
use Rattle.repo_state.specs.Users.{entry_by, entry_of_user}
use Rattle.repo_steps.specs.declared.refusal.Refusal.TheVariants as refusal
use Rattle.repo_steps.specs.declared.refusal.Stop.TheVariants as stop
use Rattle.repo_state.specs.declared.side.Side.TheVariants as side
use Rattle.repo_state.specs.declared.stop.FindStop.TheVariants as find
use Rattle.repo_state.specs.declared.stop.ReadStop.TheVariants as read
use Rattle.repo_edit.specs.Carrying.{Carries}
use Rattle.repo_edit.specs.Adding.{first_write}
use Rattle.repo_edit.specs.Room.{HasRoom}

-- ---- what is answered of a plan

-- a plan that is refused, or stops, answers so
pub not_planned : (doing : Doing) (old new : History) (s : Stop) → new ≡ old → Plans doing (Err s) → DoingAnswers doing old new (Err s)
not_planned doing old new stop.Memory same plan = inl same
not_planned doing old new stop.Disk same plan = inl same
not_planned doing old new (stop.Refused r) same plan = (plan, same)

-- a plan whose writes are made answers as they were
pub carried : (doing : Doing) (plan : Plan) (old mid new : History) (r : Result Id Stop) → mid ≡ old → Plans doing (Ok plan) → Carries plan mid new r → DoingAnswers doing old new r
carried doing plan old mid new r same plans made = each r made
  where
    stopped : WroteSome plan.writes mid new → IsStopped doing old new
    stopped some = inr (plans.0, subst (λ (h : History). WroteSome doing.writes h new) same (subst (λ (writes : List Change). WroteSome writes mid new) plans.1 some))

    each : (r : Result Id Stop) → Carries plan mid new r → DoingAnswers doing old new r
    each (Ok id) made = record {
      may = plans.0;
      writes = made.1 ∙ ap (λ (writes : List Change). reverse writes ++ mid) plans.1 ∙ ap (λ (h : History). reverse doing.writes ++ h) same;
      told = plans.2 ∙ ap Some (sym made.0);
    }
    each (Err stop.Memory) made = stopped made
    each (Err stop.Disk) made = stopped made
    each (Err (stop.Refused r)) made = absurd made

-- a person whom the word does not find, or who cannot be looked for, is not to become the user
pub set_lost : (env : Env) (word : List ℕ) (old : History) (why : FindStop) → FinderAnswers (person_finder (files_of old) env.folder word) (Err why) → SetPlans env word old (Err (stop_of_find why))
set_lost env word old find.Memory h = tt
set_lost env word old find.Disk h = tt
set_lost env word old (find.Missed missed) h = (missed, h, refl)

-- so does not become it
pub set_not_planned : (env : Env) (word : List ℕ) (old new : History) (s : Stop) → new ≡ old → SetPlans env word old (Err s) → EditAnswers env (UserSet word) old new (Err s)
set_not_planned env word old new stop.Memory same h = (no_pick env, inl same)
set_not_planned env word old new stop.Disk same h = (no_pick env, inl same)
set_not_planned env word old new (stop.Refused r) same h = (no_pick env, (inl h, same))

-- one who is found does
pub set_carried : (env : Env) (word : List ℕ) (plan : Plan) (old mid new : History) (r : Result Id Stop) → mid ≡ old → SetPlans env word old (Ok plan) → Carries plan mid new r
    → EditAnswers env (UserSet word) old new r
set_carried env word plan old mid new r same plans made =
    (record { op = noop_op env.moment; bug = no_entry; comment = plan.id; person = plan.id }, carried (set_user env word plan.id old) plan old mid new r same plans made)

-- ---- versions

module _ (env : Env) (name : Title) (email : Line) where
  -- the writes of a planned version are those of the command
  added_is : (id : Id) (parent : Option Name) (version : VersionPlan) (old : History) (writes : Vec Change Global)
      → version ≡ version_plan (new_text env name email) parent env.moment.now → AddsHead env.folder side.Identities id version.made.head version.objects old (Ok writes)
      → writes.items ≡ version_writes env name email id parent (files_of old)
  added_is id parent version old writes is adds =
      adds.1 ∙ ap (λ (v : VersionPlan). missing_writes env.folder v.objects (files_of old) ++ ref_write env.folder (ref_place side.Identities id) v.made.head ∷ []) is

  -- ---- `user-new`

  module _ (old : History) where
    -- the user file is damaged
    pub user_damaged : (why : ReadStop) → Reads {T = Option Id} (IsUser (files_of old) env.folder) (IsBadUser (files_of old) env.folder) (Err why)
        → Plans (new_user env name email old) (Err (stop_of_read why))
    user_damaged read.Memory h = tt
    user_damaged read.Disk h = tt
    user_damaged (read.Damaged path) h = inl (h.1, ap refusal.Damaged h.0)

    module _ (found : Option Id) (is_user : IsUser (files_of old) env.folder found) where
      sound : user_at (files_of old) env.folder ≡ BadUser → ⊥
      sound bad = each found is_user
        where
          each : (o : Option Id) → IsUser (files_of old) env.folder o → ⊥
          each None none = cc (sym none ∙ bad)
          each (Some id) some = cc (sym some ∙ bad)

      first_is : (id : Id) → first_write env.folder found id ≡ first_user_write env.folder (user_at (files_of old) env.folder) id
      first_is id = each found is_user
        where
          each : (o : Option Id) → IsUser (files_of old) env.folder o → first_write env.folder o id ≡ first_user_write env.folder (user_at (files_of old) env.folder) id
          each None none = ap (λ (u : UserFound). first_user_write env.folder u id) (sym none)
          each (Some other) some = ap (λ (u : UserFound). first_user_write env.folder u id) (sym some)

      -- the version is too large
      pub new_refused : (f : PutFault) → PlanAnswers (new_text env name email) None env.moment.now (Err f) → Plans (new_user env name email old) (Err (stop_of_put f))
      new_refused fault.Memory h = tt
      new_refused fault.Disk h = absurd h
      new_refused (fault.Large count) h = inr (sound, inl (h.1, ap refusal.TooLarge h.0))
      new_refused (fault.Taken name) h = absurd h

      module _ (version : VersionPlan) (plans : PlanAnswers (new_text env name email) None env.moment.now (Ok version)) (mid : History) (same : mid ≡ old) where
        id_is : version.made.id ≡ (new_made env name email None).id
        id_is = ap (λ (v : VersionPlan). v.made.id) plans.0

        stands_at : (b : Bool) → has_ref (files_of mid) env.folder side.Identities version.made.id ≡ b
            → has_ref (files_of old) env.folder side.Identities (new_made env name email None).id ≡ b
        stands_at b h =
            subst (λ (i : Id). has_ref (files_of old) env.folder side.Identities i ≡ b) id_is
            (subst (λ (x : History). has_ref (files_of x) env.folder side.Identities version.made.id ≡ b) same h)

        -- the identity stands already
        pub new_exists : has_ref (files_of mid) env.folder side.Identities version.made.id ≡ true
            → Plans (new_user env name email old) (Err (stop.Refused (refusal.EntityExists version.made.id)))
        new_exists stands = inr (sound, inr (plans.1, inl (stands_at true stands, ap refusal.EntityExists id_is)))

        module _ (absent : has_ref (files_of mid) env.folder side.Identities version.made.id ≡ false) (late : History) (later : late ≡ old) where
          abbrev AddsNew : History → Result (Vec Change Global) PutFault → Type 0
          AddsNew at r = AddsHead env.folder side.Identities version.made.id version.made.head version.objects at r

          -- an object is refused
          pub new_taken : (f : PutFault) → AddsNew late (Err f) → Plans (new_user env name email old) (Err (stop_of_put f))
          new_taken f adds = each f (subst (λ (h : History). AddsNew h (Err f)) later adds)
            where
              each : (f : PutFault) → AddsNew old (Err f) → Plans (new_user env name email old) (Err (stop_of_put f))
              each fault.Memory h = tt
              each fault.Disk h = tt
              each (fault.Large count) h = inr (sound, inl (subst (λ (v : VersionPlan). HasLong v.objects) plans.0 h.1, ap refusal.TooLarge h.0))
              each (fault.Taken taken) h =
                  inr (sound, inr (plans.1, inr (stands_at false absent, inl (taken, subst (λ (v : VersionPlan). CannotHave env.folder v.objects old taken) plans.0 h.1, refl))))

          -- the plan
          pub new_planned : (added : Vec Change Global) (all : List Change) → AddsNew late (Ok added)
              → all ≡ added.items ++ first_write env.folder found version.made.id → Plans (new_user env name email old) (Ok (record { writes = all; id = version.made.id }))
          new_planned added all adds is =
              let here = subst (λ (h : History). AddsNew h (Ok added)) later adds in (
                (sound, (plans.1, (stands_at false absent, (subst (λ (v : VersionPlan). MayBePut env.folder v.objects old) plans.0 here.0, tt)))),
                is ∙ ap (λ (ws : List Change). ws ++ first_write env.folder found version.made.id) (added_is version.made.id None version old added plans.0 here)
                    ∙ ap (λ (i : Id). version_writes env name email i None (files_of old) ++ first_write env.folder found i) id_is
                    ∙ ap (λ (ws : List Change). version_writes env name email (new_made env name email None).id None (files_of old) ++ ws) (first_is (new_made env name email None).id),
                ap Some (sym id_is),
              )

  -- ---- `user-edit`

  module _ (old : History) where
    -- the user is damaged
    pub edit_damaged : (why : ReadStop) → FindsUser (files_of old) env.folder (Err why) → Plans (edited_user env name email old) (Err (stop_of_read why))
    edit_damaged read.Memory h = tt
    edit_damaged read.Disk h = tt
    edit_damaged (read.Damaged path) (inl h) = inl (h.1, ap refusal.Damaged h.0)
    edit_damaged (read.Damaged path) (inr (id, is, bad)) = inr ((λ e. cc (sym is ∙ e)), inr ((λ e. cc (sym is ∙ e)), inl (id, is, inl bad.1, ap refusal.Damaged bad.0)))

    -- there is none
    pub edit_nobody : user_at (files_of old) env.folder ≡ NoUser → Plans (edited_user env name email old) (Err (stop.Refused refusal.NoUser))
    edit_nobody none = inr ((λ e. cc (sym none ∙ e)), inl (none, refl))

    module _ (user : HeadEntry) (found : FindsUser (files_of old) env.folder (Ok (Some user))) where
      not_bad : user_at (files_of old) env.folder ≡ BadUser → ⊥
      not_bad e = cc (sym found.0 ∙ e)

      some : user_at (files_of old) env.folder ≡ NoUser → ⊥
      some e = cc (sym found.0 ∙ e)

      entry : user_entry (files_of old) env.folder ≡ Some user
      entry = ap (entry_of_user (files_of old) env.folder) found.0 ∙ ap (entry_by user.id) found.1

      abbrev has : IsChain (objects_in (files_of old) env.folder) user.id user.name → HasUser env.folder (files_of old)
      has chain = record { id = user.id; is_user = found.0; head = user.name; has_head = found.1; chain = chain }

      -- the chain is damaged or full
      pub edit_full : (mid : History) → mid ≡ old → (s : Stop) → HasRoom (files_of mid) env.folder user (Err s) → Plans (edited_user env name email old) (Err s)
      edit_full mid same s h = each s (subst (λ (x : History). HasRoom (files_of x) env.folder user (Err s)) same h)
        where
          each : (s : Stop) → HasRoom (files_of old) env.folder user (Err s) → Plans (edited_user env name email old) (Err s)
          each stop.Memory h = tt
          each stop.Disk h = tt
          each (stop.Refused (refusal.Damaged path)) (at, f, holds) = inr (not_bad, inr (some, inl (user.id, found.0, inr (user.name, found.1, f, holds), ap refusal.Damaged at)))
          each (stop.Refused (refusal.TooLarge count)) (is, chain, full) = inr (not_bad, inr (some, inr (has chain, inl (has chain, full, ap refusal.TooLarge is))))
          each (stop.Refused _) h = absurd h

      module _ (mid : History) (same : mid ≡ old) (room : HasRoom (files_of mid) env.folder user (Ok tt)) where
        here : HasRoom (files_of old) env.folder user (Ok tt)
        here = subst (λ (x : History). HasRoom (files_of x) env.folder user (Ok tt)) same room

        abbrev objects : List (List ℕ)
        objects = new_objects env name email (option_map (λ (e : HeadEntry). e.name) (user_entry (files_of old) env.folder))

        objects_are : new_objects env name email (Some user.name) ≡ objects
        objects_are = ap (λ (o : Option HeadEntry). new_objects env name email (option_map (λ (e : HeadEntry). e.name) o)) (sym entry)

        -- what is refused once the chain has room
        refused : (r : Refusal) → FirstFails (sizes objects ∷ names env.folder objects old ∷ []) r → Plans (edited_user env name email old) (Err (stop.Refused r))
        refused r fails = inr (not_bad, inr (some, inr (has here.0, inr ((has here.0, here.1), fails))))

        -- the version is too large
        pub edit_refused : (f : PutFault) → PlanAnswers (new_text env name email) (Some user.name) env.moment.now (Err f) → Plans (edited_user env name email old) (Err (stop_of_put f))
        edit_refused fault.Memory h = tt
        edit_refused fault.Disk h = absurd h
        edit_refused (fault.Large count) h = refused (refusal.TooLarge count) (inl (subst HasLong objects_are h.1, ap refusal.TooLarge h.0))
        edit_refused (fault.Taken name) h = absurd h

        module _ (version : VersionPlan) (plans : PlanAnswers (new_text env name email) (Some user.name) env.moment.now (Ok version)) (late : History) (later : late ≡ old) where
          abbrev AddsMore : History → Result (Vec Change Global) PutFault → Type 0
          AddsMore at r = AddsHead env.folder side.Identities user.id version.made.head version.objects at r

          -- of the plan's objects what is so is so of the command's
          planned : (P : List (List ℕ) → Type 0) → P version.objects → P objects
          planned P h = subst P objects_are (subst (λ (v : VersionPlan). P v.objects) plans.0 h)

          -- an object is refused
          pub edit_taken : (f : PutFault) → AddsMore late (Err f) → Plans (edited_user env name email old) (Err (stop_of_put f))
          edit_taken f adds = each f (subst (λ (h : History). AddsMore h (Err f)) later adds)
            where
              each : (f : PutFault) → AddsMore old (Err f) → Plans (edited_user env name email old) (Err (stop_of_put f))
              each fault.Memory h = tt
              each fault.Disk h = tt
              each (fault.Large count) h = refused (refusal.TooLarge count) (inl (planned HasLong h.1, ap refusal.TooLarge h.0))
              each (fault.Taken taken) h = refused (refusal.NameTaken taken) (inr (planned (All IsShort) h.0, inl (taken, planned (λ ts. CannotHave env.folder ts old taken) h.1, refl)))

          -- the plan
          pub edit_planned : (added : Vec Change Global) (all : List Change) → AddsMore late (Ok added) → all ≡ added.items
              → Plans (edited_user env name email old) (Ok (record { writes = all; id = user.id }))
          edit_planned added all adds is =
              let now = subst (λ (h : History). AddsMore h (Ok added)) later adds in (
                (not_bad, (some, (has here.0, ((has here.0, here.1), (planned (All IsShort) now.0.short, (planned (λ ts. MayBePut env.folder ts old) now.0, tt)))))),
                is ∙ added_is user.id (Some user.name) version old added plans.0 now ∙ ap (user_writes env name email (files_of old)) (sym entry),
                ap (option_map (λ (e : HeadEntry). e.id)) entry,
              )
