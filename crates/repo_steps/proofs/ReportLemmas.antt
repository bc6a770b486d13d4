-- Where a cause holds and all checks before it pass, a command is refused for it.
use Rattle.std.proofs.Common.{◌≡◌, ◌≢◌, ◌≤◌, ◌+◌, ◌^◌, ℕ, All, IsTrue, inl, inr, List, [], ◌∷◌, length, Contains, Some, None, Ok, refl, sym, ◌∙◌}
use Rattle.std.proofs.lemmas.Option.{same_Some}
use Rattle.repo_steps.proofs.Names.{bug_finder, person_finder, Finder, FindsNoComment, HasFound, Growth, comment_growth, edit_growth, Edit, of_missed, Missed, HeadEntry, Picked, GREATEST_TIME, Id, Name, Line, Message, Title, Files, History, files_of, objects_in, IsShort, MOST_BYTES, CannotHave, HasLong, MOST_COMMITS, create_op, op_id, BugEdit, bug_kind, BugOp, ops_in, edit_at, head_edit, has_ref, BadUser, NoUser, User, user_at, bug_says, clock_room, commit_room, longer_bug, new_bug, new_operation, op_ids, FirstFails, names, sizes, Refused, HasUser, new_made, new_user, Env, Refusal}
use Rattle.bug_edits.specs.NewOps.{noop_op}
use Rattle.bug_ops.specs.Snapshots.{zero_id}
use Rattle.repo_state.specs.declared.side.Side.TheVariants as side
use Rattle.words.specs.declared.edit.Edit.TheVariants as edit
use Rattle.repo_steps.specs.declared.refusal.Refusal.TheVariants as refusal
use Rattle.repo_steps.proofs.CauseLemmas.{at_limit}

-- what a command picks where it may be any
abbrev pub no_entry : HeadEntry
no_entry = record { id = zero_id; name = record { bytes = [] } }

abbrev pub no_pick : Env → Picked
no_pick env = record { op = noop_op env.moment; bug = no_entry; comment = zero_id; person = zero_id }

module _ (env : Env) (old : History) where
  abbrev files : Files
  files = files_of old

  -- a user is neither missing nor bad
  good : (user : Id) → user_at files env.folder ≡ User user → user_at files env.folder ≡ BadUser → ⊥
  good user is bad = cc (sym is ∙ bad)

  some : (user : Id) → user_at files env.folder ≡ User user → user_at files env.folder ≡ NoUser → ⊥
  some user is lacks = cc (sym is ∙ lacks)

  no_bad : user_at files env.folder ≡ NoUser → user_at files env.folder ≡ BadUser → ⊥
  no_bad none bad = cc (sym none ∙ bad)

  -- ---- no user

  pub no_user_to_edit : (name : Title) (email : Line) → user_at files env.folder ≡ NoUser → Refused env (edit.UserEdit name email) old refusal.NoUser
  no_user_to_edit name email none = (no_pick env, inr (no_bad none, inl (none, refl)))

  pub no_user_to_begin : (title : Title) (message : Message) → user_at files env.folder ≡ NoUser → Refused env (edit.New title message) old refusal.NoUser
  no_user_to_begin title message none = (no_pick env, inr (no_bad none, inl (none, refl)))

  pub no_user_to_add : (e : BugEdit) (word : List ℕ) → user_at files env.folder ≡ NoUser → Refused env (edit.OfBug word e) old refusal.NoUser
  no_user_to_add e word none = (no_pick env, inr (no_bad none, inl (none, refl)))

  pub no_user_to_word : (message : Message) (word : List ℕ) → user_at files env.folder ≡ NoUser → Refused env (edit.OfComment word message) old refusal.NoUser
  no_user_to_word message word none = (no_pick env, inr (no_bad none, inl (none, refl)))

  -- ---- a new person

  module _ (name : Title) (email : Line) (no_bad_user : user_at files env.folder ≡ BadUser → ⊥) where
    pub person_too_large : HasLong (new_user env name email old).objects → Refused env (edit.UserNew name email) old (refusal.TooLarge (MOST_BYTES + 1))
    person_too_large long = (no_pick env, inr (no_bad_user, inl (long, refl)))

    pub person_reported : All IsShort (new_user env name email old).objects → IsTrue (has_ref files env.folder side.Identities (new_made env name email None).id)
        → Refused env (edit.UserNew name email) old (refusal.EntityExists (new_made env name email None).id)
    person_reported short has = (no_pick env, inr (no_bad_user, inr (short, inl (has, refl))))

  -- ---- a full chain

  pub full_refused : (name : Title) (email : Line) (user : HasUser env.folder files) → length user.chain.walk ≡ 2 ^ 16 → Refused env (edit.UserEdit name email) old (refusal.TooLarge (2 ^ 16 + 1))
  full_refused name email user full = (no_pick env, inr (good user.id user.is_user, inr (some user.id user.is_user, inr (user, inl (user, full, refl)))))

  -- ---- a new bug

  module _ (title : Title) (message : Message) (user : Id) (is_user : user_at files env.folder ≡ User user) where
    pub bug_too_large : HasLong (new_bug env title message old).objects → Refused env (edit.New title message) old (refusal.TooLarge (MOST_BYTES + 1))
    bug_too_large long = (no_pick env, inr (good user is_user, inr (some user is_user, inl (long, refl))))

    pub bug_reported : All IsShort (new_bug env title message old).objects → IsTrue (has_ref files env.folder side.Bugs (op_id (create_op env.moment title message)))
        → Refused env (edit.New title message) old (refusal.EntityExists (op_id (create_op env.moment title message)))
    bug_reported short has = (no_pick env, inr (good user is_user, inr (some user is_user, inr (short, inl (has, refl)))))

  -- ---- a word that finds nothing, or several

  pub no_bug_found : (e : BugEdit) (word : List ℕ) (user : Id) (why : Missed) → user_at files env.folder ≡ User user → (bug_finder files env.folder word).Fails why
      → Refused env (edit.OfBug word e) old (of_missed why)
  no_bug_found e word user why is missed = (no_pick env, inr (good user is, inr (some user is, inl (why, missed, refl))))

  pub no_comment_found : (message : Message) (word : List ℕ) (user : Id) (why : Missed) → user_at files env.folder ≡ User user → FindsNoComment files env.folder word why
      → Refused env (edit.OfComment word message) old (of_missed why)
  no_comment_found message word user why is missed = (no_pick env, inr (good user is, inr (some user is, inl (why, missed, refl))))

  pub no_person_found : (word : List ℕ) (why : Missed) → (person_finder files env.folder word).Fails why → Refused env (edit.UserSet word) old (of_missed why)
  no_person_found word why missed = (no_pick env, inl (why, missed, refl))

  -- ---- an operation more

  module _ (command : Edit) (growth : Growth) (user : Id) (is_user : user_at files env.folder ≡ User user) (bug : HasFound env.folder files (growth.finder files))
      (op : BugOp) (adds : growth.adds (bug_says bug.entity) ≡ Ok op)
      (refuses : (r : Refusal) → FirstFails (longer_bug env growth bug.bug op old).checks r → Refused env command old r) where
    abbrev finder : Finder HeadEntry
    finder = growth.finder files

    abbrev objects : List (List ℕ)
    objects = (longer_bug env growth bug.bug op old).objects

    -- all before its room passes
    added : (r : Refusal) → FirstFails (clock_room env.folder files finder ∷ commit_room env.folder files finder ∷ sizes objects ∷ new_operation env.folder files finder op ∷ names env.folder objects old ∷ []) r
        → Refused env command old r
    added r fails = refuses r (inr (good user is_user, inr (some user is_user, inr (bug.finds, inr ((bug.entity, bug.is), inr ((bug, adds), fails))))))

    pub full_clocks_told : edit_at (objects_in files env.folder) bug.bug.name ≡ Some GREATEST_TIME → Refused env command old (refusal.ClockFull bug.bug.name)
    full_clocks_told full =
        let clock = head_edit (objects_in files env.folder) bug.bug.name bug.entity.edit bug.is.is.edit in
        added (refusal.ClockFull bug.bug.name) (inl (bug, same_Some bug.entity.edit GREATEST_TIME (sym clock ∙ full), refl))

    pub many_commits_told : edit_at (objects_in files env.folder) bug.bug.name ≢ Some GREATEST_TIME → MOST_COMMITS ≤ length bug.entity.packs
        → Refused env command old (refusal.TooLarge (MOST_COMMITS + 1))
    many_commits_told left many = added (refusal.TooLarge (MOST_COMMITS + 1)) (inr ((bug, (λ full. left (at_limit env old bug full))), inl (bug, many, refl)))

    module _ (clock : bug.entity.edit ≡ GREATEST_TIME → ⊥) (room : MOST_COMMITS ≤ length bug.entity.packs → ⊥) where
      -- all before the sizes pass
      reached : (r : Refusal) → FirstFails (sizes objects ∷ new_operation env.folder files finder op ∷ names env.folder objects old ∷ []) r → Refused env command old r
      reached r fails = added r (inr ((bug, clock), inr ((bug, room), fails)))

      pub edit_too_large : HasLong objects → Refused env command old (refusal.TooLarge (MOST_BYTES + 1))
      edit_too_large long = reached (refusal.TooLarge (MOST_BYTES + 1)) (inl (long, refl))

      pub operation_reported : All IsShort objects → Contains (op_ids (ops_in bug_kind bug.entity.packs)) (op_id op) → Refused env command old (refusal.RepeatedOperation (op_id op))
      operation_reported short has = reached (refusal.RepeatedOperation (op_id op)) (inr (short, inl (bug, has, refl)))

      pub name_reported : All IsShort objects → (Contains (op_ids (ops_in bug_kind bug.entity.packs)) (op_id op) → ⊥) → (name : Name) → CannotHave env.folder objects old name
          → Refused env command old (refusal.NameTaken name)
      name_reported short new name taken = reached (refusal.NameTaken name) (inr (short, inr ((bug, new), inl (name, taken, refl))))

  -- by an edit of a bug, and of a comment
  pub edit_refused : (e : BugEdit) (word : List ℕ) (bug : HeadEntry) (op : BugOp) (r : Refusal) → FirstFails (longer_bug env (edit_growth env e word) bug op old).checks r → Refused env (edit.OfBug word e) old r
  edit_refused e word bug op r fails = (record { op = op; bug = bug; comment = bug.id; person = bug.id }, fails)

  pub message_refused : (message : Message) (word : List ℕ) (comment : Id) (bug : HeadEntry) (op : BugOp) (r : Refusal) → FirstFails (longer_bug env (comment_growth env message word comment) bug op old).checks r
      → Refused env (edit.OfComment word message) old r
  message_refused message word comment bug op r fails = (record { op = op; bug = bug; comment = comment; person = bug.id }, fails)
