-- What is so where a command is refused for a user that is missing, an entity or an operation that exists, a name that is taken, an object
-- that is too large, or a chain or a bug that is full.
use Rattle.std.proofs.Common.{◌≡◌, ◌≤◌, ◌+◌, ◌^◌, ◌⊎◌, ℕ, IsTrue, inl, inr, List, length, Contains, Some, None, refl, sym, ◌∙◌, ap, subst, arith}
use Rattle.repo_steps.proofs.Names.{GREATEST_TIME, Id, Name, Line, Message, Title, Files, History, files_of, Objects, objects_in, MOST_BYTES, CannotHave, HasLong, MOST_COMMITS, create_op, op_id, BugEdit, bug_kind, ops_in, edit_at, head_edit, has_ref, NoUser, user_at, Finder, HeadEntry, Growth, HasBug, HasCommented, HasFound, comment_growth, edit_growth, longer_bug, op_ids, FirstFails, names, Refused, doing_of, HasUser, new_made, Picked, Edit, Env, Refusal}
use Rattle.commit_walk.specs.declared.below.TheConstants.{MOST_COMMITS as MOST_VERSIONS}
use Rattle.repo_state.specs.declared.side.Side.TheVariants as side
use Rattle.words.specs.declared.edit.Edit.TheVariants as edit
use Rattle.repo_steps.specs.declared.refusal.Refusal.TheVariants as refusal
use Rattle.repo_steps.proofs.RankLemmas.{FailsAt, longer_places, places_of, told_by}

-- what a refusal names
same_id : (one other : Id) → refusal.EntityExists one ≡ refusal.EntityExists other → one ≡ other
same_id one other is = cc is

same_operation : (one other : Id) → refusal.RepeatedOperation one ≡ refusal.RepeatedOperation other → one ≡ other
same_operation one other is = cc is

same_name : (one other : Name) → refusal.NameTaken one ≡ refusal.NameTaken other → one ≡ other
same_name one other is = cc is

same_count : (one other : ℕ) → refusal.TooLarge one ≡ refusal.TooLarge other → one ≡ other
same_count one other is = cc is

module _ (env : Env) (old : History) where
  abbrev files : Files
  files = files_of old

  abbrev held : Objects
  held = objects_in files env.folder

  -- the checks of a command that fail at a place with a refusal
  abbrev At : ℕ → Edit → Picked → Refusal → Type 0
  At n command picked r = FailsAt n (doing_of env command picked old).checks (places_of command) r

  -- ---- no user

  -- a command is refused for having no user where no user file exists
  pub no_user : (command : Edit) → Refused env command old refusal.NoUser → user_at files env.folder ≡ NoUser
  no_user command (picked, fails) = each command (told_by env command picked old refusal.NoUser 3 refl fails)
    where
      each : (command : Edit) → At 3 command picked refusal.NoUser → user_at files env.folder ≡ NoUser
      each (edit.UserNew name email) none = absurd none
      each (edit.UserEdit name email) (inl f) = f.0
      each (edit.UserEdit name email) (inr none) = absurd none
      each (edit.UserSet word) none = absurd none
      each (edit.New title message) (inl f) = f.0
      each (edit.New title message) (inr none) = absurd none
      each (edit.OfBug word e) (inl f) = f.0
      each (edit.OfBug word e) (inr none) = absurd none
      each (edit.OfComment word message) (inl f) = f.0
      each (edit.OfComment word message) (inr none) = absurd none

  -- ---- what exists

  -- a new person is refused as existing where a ref of its id exists
  pub person_exists : (name : Title) (email : Line) (id : Id) → Refused env (edit.UserNew name email) old (refusal.EntityExists id)
      → (id ≡ (new_made env name email None).id) × IsTrue (has_ref files env.folder side.Identities id)
  person_exists name email id (picked, fails) = each (told_by env (edit.UserNew name email) picked old (refusal.EntityExists id) 8 refl fails)
    where
      each : At 8 (edit.UserNew name email) picked (refusal.EntityExists id) → (id ≡ (new_made env name email None).id) × IsTrue (has_ref files env.folder side.Identities id)
      each (inl f) = let same = same_id id (new_made env name email None).id f.1 in (same, subst (λ (i : Id). IsTrue (has_ref files env.folder side.Identities i)) (sym same) f.0)
      each (inr none) = absurd none

  -- and a new bug
  pub bug_exists : (title : Title) (message : Message) (id : Id) → Refused env (edit.New title message) old (refusal.EntityExists id)
      → (id ≡ op_id (create_op env.moment title message)) × IsTrue (has_ref files env.folder side.Bugs id)
  bug_exists title message id (picked, fails) = each (told_by env (edit.New title message) picked old (refusal.EntityExists id) 8 refl fails)
    where
      each : At 8 (edit.New title message) picked (refusal.EntityExists id) → (id ≡ op_id (create_op env.moment title message)) × IsTrue (has_ref files env.folder side.Bugs id)
      each (inl f) = let same = same_id id (op_id (create_op env.moment title message)) f.1 in (same, subst (λ (i : Id). IsTrue (has_ref files env.folder side.Bugs i)) (sym same) f.0)
      each (inr none) = absurd none

  -- what is checked of a bug that gets an operation more, at a place
  abbrev LongerAt : ℕ → Growth → Picked → Refusal → Type 0
  LongerAt n growth picked r = FailsAt n (longer_bug env growth picked.bug picked.op old).checks longer_places r

  abbrev Found : Growth → Type 0
  Found growth = HasFound env.folder files (growth.finder files)

  -- it is refused as repeated where an operation of the bug has its id
  repeated : (growth : Growth) (picked : Picked) (id : Id) → LongerAt 8 growth picked (refusal.RepeatedOperation id) → (bug : Found growth) × Contains (op_ids (ops_in bug_kind bug.entity.packs)) id
  repeated growth picked id (inl f) = (f.0, subst (Contains (op_ids (ops_in bug_kind f.0.entity.packs))) (sym (same_operation id (op_id picked.op) f.2)) f.1)
  repeated growth picked id (inr none) = absurd none

  pub operation_exists : (e : BugEdit) (word : List ℕ) (id : Id) → Refused env (edit.OfBug word e) old (refusal.RepeatedOperation id)
      → (bug : HasBug env.folder files word) × Contains (op_ids (ops_in bug_kind bug.entity.packs)) id
  operation_exists e word id (picked, fails) = repeated (edit_growth env e word) picked id (told_by env (edit.OfBug word e) picked old (refusal.RepeatedOperation id) 8 refl fails)

  pub comment_exists : (message : Message) (word : List ℕ) (id : Id) → Refused env (edit.OfComment word message) old (refusal.RepeatedOperation id)
      → (comment : Id) × (bug : HasCommented env.folder files word comment) × Contains (op_ids (ops_in bug_kind bug.entity.packs)) id
  comment_exists message word id (picked, fails) =
      let has = repeated (comment_growth env message word picked.comment) picked id (told_by env (edit.OfComment word message) picked old (refusal.RepeatedOperation id) 8 refl fails) in
      (picked.comment, has.0, has.1)

  -- ---- objects

  -- a name is taken where an object that the command makes cannot have it
  pub name_taken : (command : Edit) (picked : Picked) (name : Name) → FirstFails (doing_of env command picked old).checks (refusal.NameTaken name)
      → CannotHave env.folder (doing_of env command picked old).objects old name
  name_taken command picked taken fails = each command (told_by env command picked old (refusal.NameTaken taken) 9 refl fails)
    where
      by : (texts : List (List ℕ)) → (names env.folder texts old).Fails (refusal.NameTaken taken) → CannotHave env.folder texts old taken
      by texts f = subst (CannotHave env.folder texts old) (sym (same_name taken f.0 f.2)) f.1

      each : (command : Edit) → At 9 command picked (refusal.NameTaken taken) → CannotHave env.folder (doing_of env command picked old).objects old taken
      each (edit.UserNew name email) (inl f) = by (doing_of env (edit.UserNew name email) picked old).objects f
      each (edit.UserNew name email) (inr none) = absurd none
      each (edit.UserEdit name email) (inl f) = by (doing_of env (edit.UserEdit name email) picked old).objects f
      each (edit.UserEdit name email) (inr none) = absurd none
      each (edit.UserSet word) none = absurd none
      each (edit.New title message) (inl f) = by (doing_of env (edit.New title message) picked old).objects f
      each (edit.New title message) (inr none) = absurd none
      each (edit.OfBug word e) (inl f) = by (doing_of env (edit.OfBug word e) picked old).objects f
      each (edit.OfBug word e) (inr none) = absurd none
      each (edit.OfComment word message) (inl f) = by (doing_of env (edit.OfComment word message) picked old).objects f
      each (edit.OfComment word message) (inr none) = absurd none

  -- an object is too large where one that the command makes is
  pub object_large : (command : Edit) (picked : Picked) → FirstFails (doing_of env command picked old).checks (refusal.TooLarge (MOST_BYTES + 1))
      → HasLong (doing_of env command picked old).objects
  object_large command picked fails = each command (told_by env command picked old (refusal.TooLarge (MOST_BYTES + 1)) 7 refl fails)
    where
      each : (command : Edit) → At 7 command picked (refusal.TooLarge (MOST_BYTES + 1)) → HasLong (doing_of env command picked old).objects
      each (edit.UserNew name email) (inl f) = f.0
      each (edit.UserNew name email) (inr none) = absurd none
      each (edit.UserEdit name email) (inl full) = absurd (let is = same_count (MOST_BYTES + 1) (MOST_VERSIONS + 1) full.2 in omega (arith, is))
      each (edit.UserEdit name email) (inr (inl f)) = f.0
      each (edit.UserEdit name email) (inr (inr none)) = absurd none
      each (edit.UserSet word) none = absurd none
      each (edit.New title message) (inl f) = f.0
      each (edit.New title message) (inr none) = absurd none
      each (edit.OfBug word e) (inl full) = absurd (let is = same_count (MOST_BYTES + 1) (MOST_COMMITS + 1) full.2 in omega (arith, is))
      each (edit.OfBug word e) (inr (inl f)) = f.0
      each (edit.OfBug word e) (inr (inr none)) = absurd none
      each (edit.OfComment word message) (inl full) = absurd (let is = same_count (MOST_BYTES + 1) (MOST_COMMITS + 1) full.2 in omega (arith, is))
      each (edit.OfComment word message) (inr (inl f)) = f.0
      each (edit.OfComment word message) (inr (inr none)) = absurd none

  -- ---- a full chain

  module _ (name : Title) (email : Line) where
    -- what is told as too large is the chain, by its number and one, or an object
    large : (count : ℕ) → Refused env (edit.UserEdit name email) old (refusal.TooLarge count)
        → ((user : HasUser env.folder files) × (length user.chain.walk ≡ 2 ^ 16) × (count ≡ 2 ^ 16 + 1)) ⊎ (count ≡ 2 ^ 22 + 1)
    large count (picked, fails) = each (told_by env (edit.UserEdit name email) picked old (refusal.TooLarge count) 7 refl fails)
      where
        each : At 7 (edit.UserEdit name email) picked (refusal.TooLarge count) → ((user : HasUser env.folder files) × (length user.chain.walk ≡ 2 ^ 16) × (count ≡ 2 ^ 16 + 1)) ⊎ (count ≡ 2 ^ 22 + 1)
        each (inl full) = inl (full.0, full.1, (let is = same_count count (MOST_VERSIONS + 1) full.2 in omega (arith, is)))
        each (inr (inl long)) = inr (let is = same_count count (MOST_BYTES + 1) long.1 in omega (arith, is))
        each (inr (inr none)) = absurd none

    pub only_full : Refused env (edit.UserEdit name email) old (refusal.TooLarge (2 ^ 16 + 1)) → (user : HasUser env.folder files) × (length user.chain.walk ≡ 2 ^ 16)
    only_full refused = elim (large (2 ^ 16 + 1) refused) [
      | inl full ↦ (full.0, full.1)
      | inr other ↦ absurd (omega (arith, other))
    ]

    pub full_told : (count : ℕ) → Refused env (edit.UserEdit name email) old (refusal.TooLarge count) → (count ≡ 2 ^ 16 + 1) ⊎ (count ≡ 2 ^ 22 + 1)
    full_told count refused = elim (large count refused) [
      | inl full ↦ inl full.2
      | inr other ↦ inr other
    ]

  -- ---- a full bug

  -- the edit clock of the bug's head
  pub at_limit : {finder : Finder HeadEntry} (bug : HasFound env.folder files finder) → bug.entity.edit ≡ GREATEST_TIME → edit_at held bug.bug.name ≡ Some GREATEST_TIME
  at_limit bug full = head_edit held bug.bug.name bug.entity.edit bug.is.is.edit ∙ ap (λ (n : ℕ). Some n) full

  -- a clock is told as full where it is the last that is written
  full_clock : (growth : Growth) (picked : Picked) (name : Name) → LongerAt 6 growth picked (refusal.ClockFull name) → (bug : Found growth) × (name ≡ bug.bug.name) × (edit_at held bug.bug.name ≡ Some GREATEST_TIME)
  full_clock growth picked name (inl f) = let same : name ≡ f.0.bug.name = let is = f.2 in cc in (f.0, same, at_limit f.0 f.1)
  full_clock growth picked name (inr none) = absurd none

  -- commits are told as too many where there are the most that are read
  many_commits : (growth : Growth) (picked : Picked) → LongerAt 7 growth picked (refusal.TooLarge (MOST_COMMITS + 1)) → (bug : Found growth) × (MOST_COMMITS ≤ length bug.entity.packs)
  many_commits growth picked (inl f) = (f.0, f.1)
  many_commits growth picked (inr (inl long)) = absurd (let is = same_count (MOST_COMMITS + 1) (MOST_BYTES + 1) long.1 in omega (arith, is))
  many_commits growth picked (inr (inr none)) = absurd none

  module _ (e : BugEdit) (word : List ℕ) where
    pub only_full_clocks : (name : Name) → Refused env (edit.OfBug word e) old (refusal.ClockFull name)
        → (bug : HasBug env.folder files word) × (name ≡ bug.bug.name) × (edit_at held bug.bug.name ≡ Some GREATEST_TIME)
    only_full_clocks name (picked, fails) = full_clock (edit_growth env e word) picked name (told_by env (edit.OfBug word e) picked old (refusal.ClockFull name) 6 refl fails)

    pub only_many_commits : Refused env (edit.OfBug word e) old (refusal.TooLarge (MOST_COMMITS + 1)) → (bug : HasBug env.folder files word) × (MOST_COMMITS ≤ length bug.entity.packs)
    only_many_commits (picked, fails) = many_commits (edit_growth env e word) picked (told_by env (edit.OfBug word e) picked old (refusal.TooLarge (MOST_COMMITS + 1)) 7 refl fails)

  module _ (message : Message) (word : List ℕ) where
    pub comment_full_clocks : (name : Name) → Refused env (edit.OfComment word message) old (refusal.ClockFull name)
        → (comment : Id) × (bug : HasCommented env.folder files word comment) × (name ≡ bug.bug.name) × (edit_at held bug.bug.name ≡ Some GREATEST_TIME)
    comment_full_clocks name (picked, fails) =
        let full = full_clock (comment_growth env message word picked.comment) picked name (told_by env (edit.OfComment word message) picked old (refusal.ClockFull name) 6 refl fails) in
        (picked.comment, full.0, full.1, full.2)

    pub comment_many_commits : Refused env (edit.OfComment word message) old (refusal.TooLarge (MOST_COMMITS + 1)) → (comment : Id) × (bug : HasCommented env.folder files word comment) × (MOST_COMMITS ≤ length bug.entity.packs)
    comment_many_commits (picked, fails) =
        let many = many_commits (comment_growth env message word picked.comment) picked (told_by env (edit.OfComment word message) picked old (refusal.TooLarge (MOST_COMMITS + 1)) 7 refl fails) in
        (picked.comment, many.0, many.1)
