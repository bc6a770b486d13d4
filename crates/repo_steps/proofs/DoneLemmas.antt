-- What a command that nothing keeps from being done leaves: its writes are of their kinds, and make its step.
use Rattle.std.proofs.Common.{◌≡◌, ◌<◌, ◌≤◌, ℕ, false, IsTrue, List, [], ◌∷◌, ◌++◌, length, reverse, Contains, Option, Some, None, option_and_then, Ok, inl, inr, refl, sym, ◌∙◌, ap, subst}
use Rattle.std.specs.Option.{option_map}
use Rattle.repo_steps.proofs.Names.{Contains-one, IsId, joined, Id, Name, Line, Message, Title, Files, History, files_of, Wrote, Wrote-none, Wrote-one, Wrote-then, Objects, objects_in, MayBePut, Absent, Head, GREATEST_TIME, bug_kind, BugOp, MOST_COMMITS, ops_in, Entity, IsLocal, head_edit, has_ref, head_at, is_there, ref_place, UserFound, BadUser, NoUser, User, user_at, user_entry, user_place, user_write, Env, HeadEntry, IsId-version_id, ref-not_user, same_or_other, user-not_object, HasFound, Growth, comment_growth, edit_growth, addition_objects, addition_writes, bug_says, later_addition, later_by, longer_bug, new_bug, op_ids, root_addition, some_id, create_op, op_id, AllPass, Doing, doing_of, Picked, HasUser, edited_user, first_user_write, new_made, new_objects, new_text, new_user, set_user, user_writes, version_writes, IsWrite, BugBegins, BugGrows, OnlyChanges, Steps, first_user, first_user_place, new_version, Addition, Edit, IsLocal-user}
use Rattle.ref_store.specs.Refs.{ref_at}
use Rattle.ref_store.proofs.MapLemmas.{joined-same}
use Rattle.repo_state.proofs.PlaceLemmas.{ref-not_packed}
use Rattle.identity.specs.Extending.{IsLonger}
use Rattle.repo_state.specs.Users.{entry_by, entry_of_user, id_line}
use Rattle.repo_state.specs.declared.side.Side.TheVariants as side
use Rattle.repo_state.proofs.KindLemmas.{head_at-user_write, objects-user_write, user_at-set}
use Rattle.bug_edits.proofs.EditLemmas.{begun_keeps}
use Rattle.repo_steps.specs.Doings.{Done}
use Rattle.repo_writes.specs.Kinds.{a_user}
use Rattle.words.specs.declared.edit.Edit.TheVariants as edit
use Rattle.repo_steps.proofs.AddLemmas.{MayExtend, added_below, added_extends, added_head, added_only, added_wrote, added_writes, after_add}
use Rattle.repo_steps.proofs.BugDoneLemmas.{IsId-op_id, MadeBug, bug_begun, bug_grown, some_user_is}
use Rattle.repo_steps.proofs.ClearLemmas.{bug_one, says_one}
use Rattle.repo_state.proofs.FoundLemmas.{finds_an_id}
use Rattle.repo_steps.proofs.OnlyLemmas.{OnlyChanges-none, OnlyChanges-put, OnlyChanges-then, ref_left, user_left, all_both, head_at-absent}
use Rattle.repo_steps.proofs.RuleLemmas.{AddsWell, comments_add_well, edits_add_well}

-- what stands after all writes of a command
abbrev pub after : Doing → History → History
after doing old = reverse doing.writes ++ old

-- each write is of its kind, and the step is made, with the id that is told
pub record IsMade (env : Env) (command : Edit) (doing : Doing) (old : History) : Type 0 where
  pub told : Id
  pub is_told : doing.told ≡ Some told
  pub wrote : Wrote (IsWrite env.folder) old (after doing old)
  pub steps : Steps env command (files_of old) (files_of (after doing old)) told

-- ---- the user behind a version that was added

module _ (folder : List ℕ) (id : Id) (head : Name) (old new : Files) (only : OnlyChanges folder (ref_place side.Identities id ∷ []) old new)
    (is : head_at new folder side.Identities id ≡ Head head) where
  -- each ref that stood stands
  stand : (other : Id) → IsTrue (has_ref old folder side.Identities other) → IsTrue (has_ref new folder side.Identities other)
  stand other stood = elim (same_or_other (joined folder (ref_place side.Identities other)) (joined folder (ref_place side.Identities id))) [
    | inl path ↦ ap is_there (ap (ref_at new folder) (joined-same folder (ref_place side.Identities other) (ref_place side.Identities id) path) ∙ is)
    | inr differ ↦
        ap is_there
        (ref_left folder (ref_place side.Identities id ∷ []) old new only side.Identities other
        (λ place among e. differ (e ∙ ap (joined folder) (sym (Contains-one (ref_place side.Identities id) place among))))
        (λ place among e. ref-not_packed folder side.Identities id (sym (e ∙ ap (joined folder) (sym (Contains-one (ref_place side.Identities id) place among))))))
        ∙ stood
  ]

  user_stays : (user_at old folder ≡ BadUser → ⊥) → user_at new folder ≡ user_at old folder
  user_stays sound =
      user_left folder (ref_place side.Identities id ∷ []) old new only
      (λ place among e. ref-not_user folder side.Identities id (ap (joined folder) (Contains-one (ref_place side.Identities id) place among) ∙ sym e)) stand sound

-- ---- what words and the user file find

-- the user with its head is found
entry_is : (folder : List ℕ) (files : Files) (user : HasUser folder files) → user_entry files folder ≡ Some (record { id = user.id; name = user.head })
entry_is folder files user = ap (entry_of_user files folder) user.is_user ∙ ap (entry_by user.id) user.has_head

-- ---- the first user

-- what setting the user leaves, where there was none
pub record IsFirst (folder : List ℕ) (found : UserFound) (id : Id) (mid new : History) : Type 0 where
  pub user : user_at (files_of new) folder ≡ first_user found id
  pub only : OnlyChanges folder (first_user_place found) (files_of mid) (files_of new)
  pub objects : objects_in (files_of new) folder ≡ objects_in (files_of mid) folder
  pub head : head_at (files_of new) folder side.Identities id ≡ head_at (files_of mid) folder side.Identities id
  pub wrote : Wrote (IsWrite folder) mid new

first_made : (folder : List ℕ) (found : UserFound) (id : Id) (mid : History) → IsId id → user_at (files_of mid) folder ≡ found → (found ≡ BadUser → ⊥)
    → IsTrue (has_ref (files_of mid) folder side.Identities id) → IsFirst folder found id mid (reverse (first_user_write folder found id) ++ mid)
first_made folder NoUser id mid is_id is sound stands = record {
  user = user_at-set (files_of mid) folder id is_id stands;
  only = OnlyChanges-put folder user_place (id_line id) (files_of mid) (user-not_object folder);
  objects = objects-user_write (files_of mid) folder id;
  head = head_at-user_write (files_of mid) folder side.Identities id id;
  wrote = Wrote-one (IsWrite folder) (user_write folder id) mid (user_write folder id ∷ mid) (a_user (record { id = id; is_id = is_id; stands = stands; write = refl })) (inr refl);
}
first_made folder (User other) id mid is_id is sound stands = record {
  user = is;
  only = OnlyChanges-none folder (files_of mid);
  objects = refl;
  head = refl;
  wrote = Wrote-none (IsWrite folder) mid mid refl;
}
first_made folder BadUser id mid is_id is sound stands = absurd (sound refl)

-- ---- each command

-- a new identity
new_made_so : (env : Env) (name : Title) (email : Line) (old : History) → AllPass (new_user env name email old).checks → IsMade env (edit.UserNew name email) (new_user env name email old) old
new_made_so env name email old passes = record {
  told = id;
  is_told = refl;
  wrote = subst (Wrote (IsWrite env.folder) old) all (Wrote-then (IsWrite env.folder) old mid new (added_wrote env name email id old None free refl absent tt) first.wrote);
  steps = subst (λ (h : History). Steps env (edit.UserNew name email) (files_of old) (files_of h) id) all (record {
    fresh = fresh;
    head = first.head ∙ head;
    chain = subst (λ (held : Objects). IsLonger held id [] (new_made env name email None).head (new_version env name email)) (sym first.objects) (added_extends env name email id old None free refl);
    user = first.user;
    only = OnlyChanges-then env.folder (ref_place side.Identities id ∷ []) (first_user_place found) (files_of old) (files_of mid) (files_of new) only first.only;
    is_told = refl;
  });
}
  where
    id : Id
    id = (new_made env name email None).id

    found : UserFound
    found = user_at (files_of old) env.folder

    fresh : has_ref (files_of old) env.folder side.Identities id ≡ false
    fresh = passes.1.1.0

    free : MayBePut env.folder (new_objects env name email None) old
    free = passes.1.1.1.0

    absent : head_at (files_of old) env.folder side.Identities id ≡ Absent
    absent = head_at-absent (files_of old) env.folder side.Identities id fresh

    mid : History
    mid = after_add env name email id old None free refl

    head : head_at (files_of mid) env.folder side.Identities id ≡ Head (new_made env name email None).head
    head = added_head env name email id old None free refl

    only : OnlyChanges env.folder (ref_place side.Identities id ∷ []) (files_of old) (files_of mid)
    only = added_only env name email id old None free refl

    new : History
    new = reverse (first_user_write env.folder found id) ++ mid

    first : IsFirst env.folder found id mid new
    first = first_made env.folder found id mid (IsId-version_id (new_text env name email))
        (user_stays env.folder id (new_made env name email None).head (files_of old) (files_of mid) only head passes.0) passes.0 (ap is_there head)

    all : new ≡ after (new_user env name email old) old
    all = all_both (version_writes env name email id None (files_of old)) (first_user_write env.folder found id) old mid new (added_writes env name email id old None free refl) refl

-- a new version of the user
edited_made_so : (env : Env) (name : Title) (email : Line) (old : History) → AllPass (edited_user env name email old).checks → IsMade env (edit.UserEdit name email) (edited_user env name email old) old
edited_made_so env name email old passes = record {
  told = user.id;
  is_told = ap (option_map (λ (e : HeadEntry). e.id)) entry;
  wrote = subst (Wrote (IsWrite env.folder) old) all
      (added_wrote env name email user.id old (Some user.head) free extends user.has_head (added_below env name email user.id old user.head free extends));
  steps = subst (λ (h : History). Steps env (edit.UserEdit name email) (files_of old) (files_of h) user.id) all (record {
    user = user;
    head = added_head env name email user.id old (Some user.head) free extends;
    chain = added_extends env name email user.id old (Some user.head) free extends user.id user.chain room;
    only = added_only env name email user.id old (Some user.head) free extends;
    is_told = refl;
  });
}
  where
    user : HasUser env.folder (files_of old)
    user = passes.1.1.1.0.0

    room : length user.chain.walk < 65536
    room = passes.1.1.1.0.1

    entry : user_entry (files_of old) env.folder ≡ Some (record { id = user.id; name = user.head })
    entry = entry_is env.folder (files_of old) user

    free : MayBePut env.folder (new_objects env name email (Some user.head)) old
    free = subst (λ (o : Option HeadEntry). MayBePut env.folder (new_objects env name email (option_map (λ (e : HeadEntry). e.name) o)) old) entry passes.1.1.1.1.1.0

    extends : MayExtend (objects_in (files_of old) env.folder) (new_text env name email) user.id (Some user.head)
    extends = (user.chain, room)

    all : after_add env name email user.id old (Some user.head) free extends ≡ after (edited_user env name email old) old
    all = added_writes env name email user.id old (Some user.head) free extends ∙ ap (λ (o : Option HeadEntry). reverse (user_writes env name email (files_of old) o) ++ old) (sym entry)

-- another user
set_made_so : (env : Env) (word : List ℕ) (id : Id) (old : History) → AllPass (set_user env word id old).checks → IsMade env (edit.UserSet word) (set_user env word id old) old
set_made_so env word id old passes = record {
  told = id;
  is_told = refl;
  wrote = Wrote-one (IsWrite env.folder) (user_write env.folder id) old (user_write env.folder id ∷ old) (a_user (record { id = id; is_id = is_id; stands = stands; write = refl })) (inr refl);
  steps = record {
    found = passes.0;
    user = user_at-set (files_of old) env.folder id is_id stands;
    only = refl;
  };
}
  where
    stands : IsTrue (has_ref (files_of old) env.folder side.Identities id)
    stands = passes.0.is_so.stands

    is_id : IsId id
    is_id = finds_an_id id passes.0

-- ---- bugs

-- a user stands whose identity is local
local_user_is : (folder : List ℕ) (files : Files) → (user_at files folder ≡ BadUser → ⊥) → (user_at files folder ≡ NoUser → ⊥) → (id : Id) × (user_at files folder ≡ User id) × IsLocal files folder id
local_user_is folder files good some =
    let is = some_user_is (user_at files folder) good some in
    (is.0, is.1, IsLocal-user files folder is.0 is.1)

-- a bug that begins with an operation
begun_made_so : (env : Env) (title : Title) (message : Message) (old : History) → AllPass (new_bug env title message old).checks → IsMade env (edit.New title message) (new_bug env title message old) old
begun_made_so env title message old passes = record {
  told = op_id op;
  is_told = refl;
  wrote = subst (λ (o : Option Addition). Wrote (IsWrite env.folder) old (reverse (addition_writes env (files_of old) o) ++ old)) (sym same) made.wrote;
  steps = subst (λ (o : Option Addition). BugBegins env op (files_of old) (files_of (reverse (addition_writes env (files_of old) o) ++ old)) (op_id op)) (sym same) made.step;
}
  where
    op : BugOp
    op = create_op env.moment title message

    user : (id : Id) × (user_at (files_of old) env.folder ≡ User id) × IsLocal (files_of old) env.folder id
    user = local_user_is env.folder (files_of old) passes.0 passes.1.0

    same : option_map (root_addition env.folder (files_of old) op) (some_id (user_at (files_of old) env.folder)) ≡ Some (root_addition env.folder (files_of old) op user.0)
    same = ap (λ (found : UserFound). option_map (root_addition env.folder (files_of old) op) (some_id found)) user.1

    free : MayBePut env.folder (addition_objects env.moment.now (Some (root_addition env.folder (files_of old) op user.0))) old
    free = subst (λ (o : Option Addition). MayBePut env.folder (addition_objects env.moment.now o) old) same passes.1.1.1.1.0

    made : MadeBug env old (root_addition env.folder (files_of old) op user.0) (λ (new : Files). BugBegins env op (files_of old) new (op_id op))
    made = bug_begun env old op (begun_keeps env.moment title message) refl user.0 user.1 user.2 free passes.1.1.1.0 (IsId-op_id op)

-- a bug that has one operation more, by a command whose step is that
longer_made_so : (env : Env) (command : Edit) (growth : Growth) (head : HeadEntry) (op : BugOp) (old : History) → AddsWell env (files_of old) growth
    → ((new : Files) → BugGrows env growth (files_of old) new (op_id op) → Steps env command (files_of old) new (op_id op)) → AllPass (longer_bug env growth head op old).checks
    → IsMade env command (longer_bug env growth head op old) old
longer_made_so env command growth head op old well step passes = record {
  told = op_id op;
  is_told = refl;
  wrote = subst (λ (o : Option Addition). Wrote (IsWrite env.folder) old (reverse (addition_writes env (files_of old) o) ++ old)) (sym same) made.wrote;
  steps = subst (λ (o : Option Addition). Steps env command (files_of old) (files_of (reverse (addition_writes env (files_of old) o) ++ old)) (op_id op)) (sym same) (step _ made.step);
}
  where
    files : Files
    files = files_of old

    user : (id : Id) × (user_at files env.folder ≡ User id) × IsLocal files env.folder id
    user = local_user_is env.folder files passes.0 passes.1.0

    bug : HasFound env.folder files (growth.finder files)
    bug = record { bug = head; finds = passes.1.1.0; entity = passes.1.1.1.0.0; is = passes.1.1.1.0.1 }

    -- what each check says of the bug is so of this one
    of_this : (Bars : HeadEntry → Entity BugOp → Type 0) (other : HasFound env.folder files (growth.finder files)) → (Bars other.bug other.entity → ⊥) → Bars bug.bug bug.entity → ⊥
    of_this Bars other none bars = none
        (let one = bug_one env.folder files (growth.finder files) well.finds bug other in
        subst (λ (entity : Entity BugOp). Bars other.bug entity) one.1 (subst (λ (head : HeadEntry). Bars head bug.entity) one.0 bars))

    -- and the operation is what is added to it
    adds : growth.adds (bug_says bug.entity) ≡ Ok op
    adds = says_one env.folder files growth well.finds bug passes.1.1.1.1.0.0 ∙ passes.1.1.1.1.0.1

    addition : Addition
    addition = later_addition env.folder files op user.0 bug.bug bug.entity.edit

    same : option_and_then (later_by env.folder files head op) (some_id (user_at files env.folder)) ≡ Some addition
    same = ap (λ (found : UserFound). option_and_then (later_by env.folder files head op) (some_id found)) user.1
        ∙ ap (option_map (later_addition env.folder files op user.0 bug.bug)) (head_edit (objects_in files env.folder) bug.bug.name bug.entity.edit bug.is.is.edit)

    free : MayBePut env.folder (addition_objects env.moment.now (Some addition)) old
    free = subst (λ (o : Option Addition). MayBePut env.folder (addition_objects env.moment.now o) old) same passes.1.1.1.1.1.1.1.1.1.0

    made : MadeBug env old addition (λ (new : Files). BugGrows env growth files new (op_id op))
    made = bug_grown env old growth op (well.keeps op bug adds) (well.follows op (bug_says bug.entity) adds) user.0 user.1 user.2 bug (well.head head bug.finds) adds
        (of_this (λ head entity. entity.edit ≡ GREATEST_TIME) passes.1.1.1.1.1.0.0 passes.1.1.1.1.1.0.1)
        (of_this (λ head entity. MOST_COMMITS ≤ length entity.packs) passes.1.1.1.1.1.1.0.0 passes.1.1.1.1.1.1.0.1)
        (of_this (λ head entity. Contains (op_ids (ops_in bug_kind entity.packs)) (op_id op)) passes.1.1.1.1.1.1.1.1.0.0 passes.1.1.1.1.1.1.1.1.0.1)
        free (well.sized head bug.finds)

pub made_so : (env : Env) (command : Edit) (picked : Picked) (old : History) → AllPass (doing_of env command picked old).checks → IsMade env command (doing_of env command picked old) old
made_so env (edit.UserNew name email) picked old passes = new_made_so env name email old passes
made_so env (edit.UserEdit name email) picked old passes = edited_made_so env name email old passes
made_so env (edit.UserSet word) picked old passes = set_made_so env word picked.person old passes
made_so env (edit.New title message) picked old passes = begun_made_so env title message old passes
made_so env (edit.OfBug word e) picked old passes =
    longer_made_so env (edit.OfBug word e) (edit_growth env e word) picked.bug picked.op old (edits_add_well env (files_of old) e word) (λ new step. step) passes
made_so env (edit.OfComment word message) picked old passes =
    longer_made_so env (edit.OfComment word message) (comment_growth env message word picked.comment) picked.bug picked.op old (comments_add_well env (files_of old) message word picked.comment) (λ new step. (picked.comment, step)) passes

-- a command that was done made its step
pub done_steps : (env : Env) (command : Edit) (old new : History) (id : Id) → Done env command old new id → Steps env command (files_of old) (files_of new) id
done_steps env command old new id (picked, done) =
    let made = made_so env command picked old done.may in
    let both : Some made.told ≡ Some id = sym made.is_told ∙ done.told in
    let same : made.told ≡ id = cc in
    subst (λ (h : History). Steps env command (files_of old) (files_of h) id) (sym done.writes)
    (subst (Steps env command (files_of old) (files_of (after (doing_of env command picked old) old))) same made.steps)
