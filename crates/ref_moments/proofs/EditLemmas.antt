-- A command that edits sets one ref at most, its own, and once.
use Rattle.std.proofs.Common.{◌≡◌, inl, inr, refl, sym, ◌∙◌, ap, subst, append_assoc, ℕ, List, [], ◌∷◌, ◌++◌, reverse, Option, Some, None, Result, Ok, Err}
use Rattle.std.specs.Prelude.{option_and_then}
use Rattle.std.specs.List.{AllByRecursion}
use Rattle.std.specs.Option.{option_map}
use Rattle.std.proofs.lemmas.List.{append-nil}
use Rattle.gb_text.specs.Digits.{IsName}
use Rattle.gb_store.specs.Moments.{WroteSome}
use Rattle.gb_store.proofs.MomentLemmas.{WroteSome-back}
use Rattle.dag_entity.specs.Appending.{commit_object as bug_commit}
use Rattle.identity.specs.Making.{commit_object as version_commit}
use Rattle.repo_state.specs.declared.clocks.ClockFile.TheVariants as file
use Rattle.repo_state.specs.declared.side.Side.TheVariants as side
use Rattle.repo_steps.specs.BugDoings.{bug_set, create_writes}
use Rattle.repo_steps.specs.Answers.{IsDone}
use Rattle.repo_steps.specs.Doing.{HeadSet}
use Rattle.repo_steps.specs.PeopleDoings.{person_set, version_set}
use Rattle.repo_steps.specs.declared.env.Env.{Env}
use Rattle.repo_steps.specs.declared.plan.Addition.{Addition}
use Rattle.repo_steps.specs.declared.refusal.Stop.{Stop}
use Rattle.repo_steps.specs.declared.refusal.Stop.TheVariants as stop
use Rattle.words.specs.declared.edit.Edit.{Edit}
use Rattle.words.specs.declared.edit.Edit.TheVariants as edit
use Rattle.repo_steps.proofs.Names.{Id, Name, Line, Title, Files, History, files_of, Change, IsName-object_name, bug_kind, clock_at, ref_write, ref_place, missing_writes, UserFound, User, NoUser, BadUser, user_at, user_entry, HeadEntry, Side, IsStopped, Doing, doing_of, EditAnswers, Picked, addition_objects, addition_writes, clock_writes, later_by, root_addition, some_id, create_op, new_made, new_objects, new_text, first_user_write, user_writes, version_writes}
use Rattle.ref_moments.specs.Once.{IsSetOnce}
use Rattle.ref_moments.specs.Sets.{StaysOrIsSet}
use Rattle.ref_moments.proofs.OnceLemmas.{Leaves, all_set, some_stay, stays_none}
use Rattle.ref_moments.proofs.PutLemmas.{both_leave, missing_leave, see_leave, some_once, user_leaves}

-- ---- the shape of the writes of a command

-- each of some writes leaves each ref of a folder
abbrev pub LeaveAll : List ℕ → List Change → Type 0
LeaveAll folder writes = (of : Side) (id : Id) → AllByRecursion (Leaves folder of id) writes

-- the writes are of this head, among others that leave each ref
pub record HasPut (folder : List ℕ) (set : HeadSet) (writes : List Change) : Type 0 where
  pub named : IsName set.head
  pub first : List Change
  pub last : List Change
  pub before : LeaveAll folder first
  pub behind : LeaveAll folder last
  pub are : writes ≡ first ++ ref_write folder (ref_place set.of set.id) set.head ∷ last

-- the writes of a command that sets this head, or none
abbrev pub HasShape : List ℕ → Option HeadSet → List Change → Type 0
HasShape folder None writes = LeaveAll folder writes
HasShape folder (Some set) writes = HasPut folder set writes

module _ (env : Env) (files : Files) where
  -- the writes of clocks
  create_leave : (create : Option ℕ) → LeaveAll env.folder (create_writes env.folder files create)
  create_leave None = λ of id. tt
  create_leave (Some number) = λ of id. see_leave env.folder of id file.BugsCreate (clock_at files env.folder file.BugsCreate) number

  -- a commit that is added to a bug
  addition_shape : (added : Option Addition) → HasShape env.folder (option_map (bug_set env.moment.now) added) (addition_writes env files added)
  addition_shape None = λ of id. tt
  addition_shape (Some a) = record {
    named = IsName-object_name (bug_commit bug_kind a.parents a.pack env.moment.now);
    first = missing_writes env.folder (addition_objects env.moment.now (Some a)) files;
    last = clock_writes env.folder files a.pack;
    before = λ of id. missing_leave env.folder of id (addition_objects env.moment.now (Some a)) files;
    behind = λ of id. both_leave env.folder of id (create_writes env.folder files a.pack.create) _ (create_leave a.pack.create of id)
        (see_leave env.folder of id file.BugsEdit (clock_at files env.folder file.BugsEdit) a.pack.edit);
    are = refl;
  }

  module _ (name : Title) (email : Line) where
    -- a version, and writes behind it that leave each ref
    version_shape : (set : HeadSet) (parent : Option Name) (last : List Change) → LeaveAll env.folder last → set.head ≡ (new_made env name email parent).head
        → ref_place side.Identities set.id ≡ ref_place set.of set.id → HasPut env.folder set (version_writes env name email set.id parent files ++ last)
    version_shape set parent last behind head place = record {
      named = subst IsName (sym head) (IsName-object_name (version_commit (new_text env name email) parent env.moment.now));
      first = missing_writes env.folder (new_objects env name email parent) files;
      last = last;
      before = λ of id. missing_leave env.folder of id (new_objects env name email parent) files;
      behind = behind;
      are = append_assoc (missing_writes env.folder (new_objects env name email parent) files) (ref_write env.folder (ref_place side.Identities set.id) (new_made env name email parent).head ∷ []) last
          ∙ ap (λ (h : Name). missing_writes env.folder (new_objects env name email parent) files ++ ref_write env.folder (ref_place side.Identities set.id) h ∷ last) (sym head)
          ∙ ap (λ (p : List ℕ). missing_writes env.folder (new_objects env name email parent) files ++ ref_write env.folder p set.head ∷ last) place;
    }

    first_user_leave : (found : UserFound) (user : Id) → LeaveAll env.folder (first_user_write env.folder found user)
    first_user_leave NoUser user = λ of id. (user_leaves env.folder of id user, tt)
    first_user_leave (User other) user = λ of id. tt
    first_user_leave BadUser user = λ of id. tt

    edited_shape : (user : Option HeadEntry) → HasShape env.folder (option_map (version_set env name email) user) (user_writes env name email files user)
    edited_shape None = λ of id. tt
    edited_shape (Some user) =
        subst (HasPut env.folder (version_set env name email user)) (append-nil (version_writes env name email user.id (Some user.name) files))
        (version_shape (version_set env name email user) (Some user.name) [] (λ of id. tt) refl refl)

-- each command
pub shape : (env : Env) (command : Edit) (picked : Picked) (old : History) → HasShape env.folder (doing_of env command picked old).sets (doing_of env command picked old).writes
shape env (edit.UserNew name email) picked old =
    version_shape env (files_of old) name email (person_set env name email) None (first_user_write env.folder (user_at (files_of old) env.folder) (new_made env name email None).id)
    (first_user_leave env (files_of old) name email (user_at (files_of old) env.folder) (new_made env name email None).id) refl refl
shape env (edit.UserEdit name email) picked old = edited_shape env (files_of old) name email (user_entry (files_of old) env.folder)
shape env (edit.UserSet word) picked old = λ of id. (user_leaves env.folder of id picked.person, tt)
shape env (edit.New title message) picked old =
    addition_shape env (files_of old) (option_map (root_addition env.folder (files_of old) (create_op env.moment title message)) (some_id (user_at (files_of old) env.folder)))
shape env (edit.OfBug word e) picked old = addition_shape env (files_of old) (option_and_then (later_by env.folder (files_of old) picked.bug picked.op) (some_id (user_at (files_of old) env.folder)))
shape env (edit.OfComment word message) picked old =
    addition_shape env (files_of old) (option_and_then (later_by env.folder (files_of old) picked.bug picked.op) (some_id (user_at (files_of old) env.folder)))

-- ---- what the writes do

module _ (env : Env) (doing : Doing) where
  -- the first of them
  some_sets : (sets : Option HeadSet) → doing.sets ≡ sets → HasShape env.folder sets doing.writes → (of : Side) (id : Id) (old new : History) → WroteSome doing.writes old new → StaysOrIsSet env.folder doing of id old new
  some_sets None is leave of id old new some = inl (some_stay env.folder of id doing.writes (leave of id) old new some)
  some_sets (Some set) is has of id old new some =
      elim (some_once env.folder of id set.of set.id set.head has.named has.first has.last (has.before of id) (has.behind of id) old new (subst (λ (ws : List Change). WroteSome ws old new) has.are some)) [
        | inl stays ↦ inl stays
        | inr (place, once) ↦ inr (record { set = set; is = is; place = place; once = once })
      ]

  pub stopped_sets : HasShape env.folder doing.sets doing.writes → (of : Side) (id : Id) (old new : History) → IsStopped doing old new → StaysOrIsSet env.folder doing of id old new
  stopped_sets has of id old new (inl same) = inl (stays_none env.folder of id old new same)
  stopped_sets has of id old new (inr some) = some_sets doing.sets refl has of id old new some.1

  -- all of them
  pub done_sets : HasShape env.folder doing.sets doing.writes → (of : Side) (id : Id) (old new : History) → new ≡ reverse doing.writes ++ old → StaysOrIsSet env.folder doing of id old new
  done_sets has of id old new grew = some_sets doing.sets refl has of id old new (WroteSome-back doing.writes old new doing.writes [] (sym (append-nil doing.writes)) grew)

  -- so the ref that it sets is set
  done_is_set : (sets : Option HeadSet) → HasShape env.folder sets doing.writes → (set : HeadSet) → sets ≡ Some set → (old new : History) → new ≡ reverse doing.writes ++ old → IsSetOnce env.folder set.of set.id set.head old new
  done_is_set None leave set is old new grew = absurd (cc is)
  done_is_set (Some own) has set is old new grew =
      let same : own ≡ set = cc is in
      subst (λ (s : HeadSet). IsSetOnce env.folder s.of s.id s.head old new) same
      (all_set env.folder own.of own.id own.head has.named has.last (has.behind own.of own.id) has.first (has.before own.of own.id) old new (grew ∙ ap (λ (ws : List Change). reverse ws ++ old) has.are))

-- whatever a command answers, each ref of its folder stays, or is set as its own
pub edit_sets : (env : Env) (command : Edit) (old new : History) (result : Result Id Stop) (answers : EditAnswers env command old new result) (of : Side) (id : Id)
    → StaysOrIsSet env.folder (doing_of env command answers.0 old) of id old new
edit_sets env command old new (Ok told) answers of id = done_sets env (doing_of env command answers.0 old) (shape env command answers.0 old) of id old new answers.1.writes
edit_sets env command old new (Err stop.Memory) answers of id = stopped_sets env (doing_of env command answers.0 old) (shape env command answers.0 old) of id old new answers.1
edit_sets env command old new (Err stop.Disk) answers of id = stopped_sets env (doing_of env command answers.0 old) (shape env command answers.0 old) of id old new answers.1
edit_sets env command old new (Err (stop.Refused r)) answers of id = inl (stays_none env.folder of id old new answers.1.1)

-- a command that was done sets its own
pub edit_is_set : (env : Env) (command : Edit) (picked : Picked) (old new : History) (id : Id) → IsDone (doing_of env command picked old) old new id → (set : HeadSet)
    → (doing_of env command picked old).sets ≡ Some set → IsSetOnce env.folder set.of set.id set.head old new
edit_is_set env command picked old new id done set is =
    done_is_set env (doing_of env command picked old) (doing_of env command picked old).sets (shape env command picked old) set is old new done.writes
