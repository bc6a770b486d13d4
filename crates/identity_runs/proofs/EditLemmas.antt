-- The heads of identities that an edit leaves in its folder were there before, or it makes or edits the identity.
use Rattle.std.proofs.Common.{◌≡◌, ◌≢◌, ◌⊎◌, inl, inr, refl, sym, ◌∙◌, ap, subst, ℕ, Bool, true, false, List, Contains, Option, Some, None, option_and_then, Result, Ok, Err}
use Rattle.std.specs.Option.{option_map}
use Rattle.std.specs.Str.{bytes_eq}
use Rattle.std.proofs.lemmas.Option.{same_Some}
use Rattle.gb_text.specs.Digits.{IsId}
use Rattle.gb_text.specs.declared.id.Id.{Id}
use Rattle.gb_text.specs.declared.id.Name.{Name}
use Rattle.gb_text.specs.declared.ruled.Line.{Line}
use Rattle.gb_text.specs.declared.ruled.Title.{Title}
use Rattle.gb_store.specs.Files.{Files, History, files_of}
use Rattle.gb_store.specs.Moments.{IsMoment}
use Rattle.commit_walk.proofs.PassingLemmas.{name_differs, name_same}
use Rattle.bug_edits.specs.NewOps.{create_op}
use Rattle.identity.proofs.IdLemmas.{IsId-version_id}
use Rattle.ref_store.specs.Refs.{Absent, Head}
use Rattle.repo_state.specs.Sides.{head_at, ref_place}
use Rattle.repo_state.specs.Users.{User, user_at, user_entry}
use Rattle.repo_state.specs.declared.side.HeadEntry.{HeadEntry}
use Rattle.repo_state.specs.declared.side.Side.{Side}
use Rattle.repo_state.specs.declared.side.Side.TheVariants as side
use Rattle.repo_state.proofs.EntryLemmas.{entry_has}
use Rattle.repo_state.proofs.FoundLemmas.{IsLocal-user}
use Rattle.repo_state.proofs.PlaceLemmas.{ref_place-side}
use Rattle.repo_steps.specs.BugDoings.{bug_set, later_by, root_addition, some_id}
use Rattle.repo_steps.specs.Checks.{AllPass}
use Rattle.repo_steps.specs.Doing.{HeadSet}
use Rattle.repo_steps.specs.Doings.{EditAnswers, doing_of}
use Rattle.repo_steps.specs.PeopleDoings.{new_made, new_text, person_set, version_set}
use Rattle.repo_steps.specs.Picked.{Picked}
use Rattle.repo_steps.specs.declared.env.Env.{Env}
use Rattle.repo_steps.specs.declared.plan.Addition.{Addition}
use Rattle.repo_steps.specs.declared.refusal.Stop.{Stop}
use Rattle.repo_steps.specs.declared.refusal.Stop.TheVariants as stop
use Rattle.repo_steps.proofs.OnlyLemmas.{head_at-absent}
use Rattle.words.specs.declared.edit.Edit.{Edit}
use Rattle.words.specs.declared.edit.Edit.TheVariants as edit
use Rattle.ref_moments.specs.Sets.{StaysOrIsSet}
use Rattle.ref_moments.proofs.EditLemmas.{edit_sets}
use Rattle.ref_moments.proofs.ListedLemmas.{placed_id}
use Rattle.ref_moments.proofs.MomentLemmas.{set_old_or_new}
use Rattle.ref_moments.proofs.OnceLemmas.{stays_none}
use Rattle.identity_runs.specs.Heads.{IsOfPeople, IsThere}
use Rattle.identity_runs.proofs.HeadLemmas.{same_was, stays_was}

-- an edit makes a new identity with this id: its ref was absent
pub record MakesNew (env : Env) (command : Edit) (files : Files) (id : Id) : Type 0 where
  pub name : Title
  pub email : Line
  pub is : command ≡ edit.UserNew name email
  pub is_made : (new_made env name email None).id ≡ id
  pub was : head_at files env.folder side.Identities id ≡ Absent

-- an edit gives an identity this head, which had another
pub record GivesHead (env : Env) (command : Edit) (files : Files) (id : Id) (head : Name) : Type 0 where
  pub name : Title
  pub email : Line
  pub is : command ≡ edit.UserEdit name email
  pub is_user : user_at files env.folder ≡ User id
  pub before : Name
  pub was : head_at files env.folder side.Identities id ≡ Head before
  pub differ : head ≢ before

-- the head of a commit that an edit adds to a bug is on the side of bugs
bug_side : (now : ℕ) (added : Option Addition) (set : HeadSet) → option_map (bug_set now) added ≡ Some set → side.Bugs ≡ set.of
bug_side now None set is = absurd (cc is)
bug_side now (Some added) set is = ap (λ (s : HeadSet). s.of) (same_Some (bug_set now added) set is)

module _ (folders : List (List ℕ)) (env : Env) (is : Contains folders env.folder) (old : History) (id : Id) (is_id : IsId id) (of : Side) (people : IsOfPeople of) where
  -- what came of an identity whose ref has this head then
  abbrev pub Came : Edit → Name → Type 0
  Came command head = IsThere (files_of old) folders id head ⊎ ((of ≡ side.Identities) × (MakesNew env command (files_of old) id ⊎ GivesHead env command (files_of old) id head))

  -- ---- a head that a command sets

  -- that of a new identity
  new_came : (name : Title) (email : Line) (picked : Picked) → AllPass (doing_of env (edit.UserNew name email) picked old).checks → (set : HeadSet) → person_set env name email ≡ set
      → ref_place set.of set.id ≡ ref_place of id → (head : Name) → Came (edit.UserNew name email) head
  new_came name email picked passes set is_set place head =
      let made = new_made env name email None in
      let mine : ref_place side.Identities made.id ≡ ref_place of id = ap (λ (s : HeadSet). ref_place s.of s.id) is_set ∙ place in
      let at = placed_id side.Identities of made.id id (IsId-version_id (new_text env name email)) is_id mine in
      inr (
        at.0,
        inl (record {
          name = name;
          email = email;
          is = refl;
          is_made = at.1;
          was = subst (λ (one : Id). head_at (files_of old) env.folder side.Identities one ≡ Absent) at.1 (head_at-absent (files_of old) env.folder side.Identities made.id passes.1.1.0);
        }),
      )

  -- that of the user's next version
  next_came : (name : Title) (email : Line) (user : Option HeadEntry) → user_entry (files_of old) env.folder ≡ user → (set : HeadSet) → option_map (version_set env name email) user ≡ Some set
      → ref_place set.of set.id ≡ ref_place of id → (head : Name) → Came (edit.UserEdit name email) head
  next_came name email None none set is_set place head = absurd (cc is_set)
  next_came name email (Some user) some set is_set place head = by (bytes_eq head.bytes user.name.bytes) refl
    where
      mine : ref_place side.Identities user.id ≡ ref_place of id
      mine = ap (λ (s : HeadSet). ref_place s.of s.id) (same_Some (version_set env name email user) set is_set) ∙ place

      has : (user_at (files_of old) env.folder ≡ User user.id) × (head_at (files_of old) env.folder side.Identities user.id ≡ Head user.name)
      has = entry_has (files_of old) env.folder user some

      at : (of ≡ side.Identities) × (user.id ≡ id)
      at = placed_id side.Identities of user.id id (IsLocal-user (files_of old) env.folder user.id has.0).is_id is_id mine

      was : head_at (files_of old) env.folder side.Identities id ≡ Head user.name
      was = subst (λ (one : Id). head_at (files_of old) env.folder side.Identities one ≡ Head user.name) at.1 has.1

      by : (same : Bool) → bytes_eq head.bytes user.name.bytes ≡ same → Came (edit.UserEdit name email) head
      by true same = inl (record { folder = env.folder; is = is; of = side.Identities; of_people = tt; is_head = was ∙ ap Head (sym (name_same head user.name same)) })
      by false differ = inr (at.0, inr (record { name = name; email = email; is = refl; is_user = subst (λ (one : Id). user_at (files_of old) env.folder ≡ User one) at.1 has.0; before = user.name; was = was; differ = name_differs head user.name differ }))

  -- that of a bug is none of an identity
  bug_came : (command : Edit) (set : HeadSet) → side.Bugs ≡ set.of → ref_place set.of set.id ≡ ref_place of id → (head : Name) → Came command head
  bug_came command set is_set place head = absurd (subst IsOfPeople (sym (is_set ∙ ref_place-side set.of of set.id id place)) people)

  set_came : (command : Edit) (picked : Picked) → AllPass (doing_of env command picked old).checks → (set : HeadSet) → (doing_of env command picked old).sets ≡ Some set
      → ref_place set.of set.id ≡ ref_place of id → (head : Name) → Came command head
  set_came (edit.UserNew name email) picked passes set is_set place head = new_came name email picked passes set (same_Some (person_set env name email) set is_set) place head
  set_came (edit.UserEdit name email) picked passes set is_set place head = next_came name email (user_entry (files_of old) env.folder) refl set is_set place head
  set_came (edit.UserSet word) picked passes set is_set place head = let none : None ≡ Some set = is_set in absurd (cc none)
  set_came (edit.New title message) picked passes set is_set place head =
      bug_came (edit.New title message) set
      (bug_side env.moment.now (option_map (root_addition env.folder (files_of old) (create_op env.moment title message)) (some_id (user_at (files_of old) env.folder))) set is_set) place head
  set_came (edit.OfBug word e) picked passes set is_set place head =
      bug_came (edit.OfBug word e) set
      (bug_side env.moment.now (option_and_then (later_by env.folder (files_of old) picked.bug picked.op) (some_id (user_at (files_of old) env.folder))) set is_set) place head
  set_came (edit.OfComment word message) picked passes set is_set place head =
      bug_came (edit.OfComment word message) set
      (bug_side env.moment.now (option_and_then (later_by env.folder (files_of old) picked.bug picked.op) (some_id (user_at (files_of old) env.folder))) set is_set) place head

  -- ---- whatever a command answers, and wherever it stops

  module _ (end new : History) (at : IsMoment old end new) (head : Name) (has : head_at (files_of new) env.folder of id ≡ Head head) where
    stays_or_set : (command : Edit) (picked : Picked) → AllPass (doing_of env command picked old).checks → StaysOrIsSet env.folder (doing_of env command picked old) of id old end → Came command head
    stays_or_set command picked passes (inl stays) = inl (same_was folders old id env.folder is of people end new stays at head has)
    stays_or_set command picked passes (inr own) = elim ((set_old_or_new env.folder of id own.set.head old end own.once).each new at) [
      | inl same ↦ inl (stays_was folders old id env.folder is of people (files_of new) head same has)
      | inr then ↦ set_came command picked passes own.set own.is own.place head
    ]

    nothing_came : (command : Edit) → end ≡ old → Came command head
    nothing_came command same = inl (same_was folders old id env.folder is of people end new (stays_none env.folder of id old end same) at head has)

    pub edit_came : (command : Edit) (result : Result Id Stop) → EditAnswers env command old end result → Came command head
    edit_came command (Ok told) (picked, done) = stays_or_set command picked done.may (edit_sets env command old end (Ok told) (picked, done) of id)
    edit_came command (Err stop.Memory) (picked, inl same) = nothing_came command same
    edit_came command (Err stop.Memory) (picked, inr some) = stays_or_set command picked some.0 (edit_sets env command old end (Err stop.Memory) (picked, inr some) of id)
    edit_came command (Err stop.Disk) (picked, inl same) = nothing_came command same
    edit_came command (Err stop.Disk) (picked, inr some) = stays_or_set command picked some.0 (edit_sets env command old end (Err stop.Disk) (picked, inr some) of id)
    edit_came command (Err (stop.Refused r)) (picked, refused) = nothing_came command refused.1
