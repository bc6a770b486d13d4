-- Each write of a command is one of its own, in plain words.
use Rattle.std.proofs.Common.{◌≡◌, inl, inr, ℕ, Bool, true, false, cond, List, [], ◌∷◌, Contains, Option, Some, None, refl, sym, ◌∙◌, ap, subst}
use Rattle.std.specs.Prelude.{is_some, option_and_then}
use Rattle.std.specs.Option.{option_map}
use Rattle.std.proofs.lemmas.List.Elements.{Contains-append_cases, Contains-append_left, Contains-append_right}
use Rattle.std.specs.Bool.{nat_lt}
use Rattle.repo_steps.proofs.Names.{Contains-one, Title, Line, Id, Name, Files, History, files_of, written, Change, object_name, objects_in, object_write, missing_writes, Contains-cons_cases, Contains-first, Contains-later, Contains-nil, ref_write, seen_by, clock_at, clock_write, see_writes, ref_place, UserFound, BadUser, NoUser, User, user_at, user_entry, user_write, ClockFile, Env, HeadEntry, addition_objects, addition_writes, clock_writes, comment_growth, edit_growth, later_by, longer_bug, new_bug, root_addition, some_id, doing_of, Doing, create_op, edited_user, first_user_write, new_made, new_objects, new_user, user_writes, version_writes, Picked, Addition, Edit}
use Rattle.repo_state.specs.declared.clocks.ClockFile.TheVariants as file
use Rattle.repo_state.specs.declared.side.Side.TheVariants as side
use Rattle.repo_steps.specs.BugDoings.{addition_shows, bug_set, create_writes, shown_create}
use Rattle.repo_steps.specs.Doing.{HeadSet, Shown}
use Rattle.repo_steps.specs.Own.{IsOwn, a_clock, a_head, an_object, the_user}
use Rattle.repo_steps.specs.PeopleDoings.{person_set, version_set}
use Rattle.words.specs.declared.edit.Edit.TheVariants as edit

-- ---- lists of writes

-- one of the writes of objects that are missing puts one of their texts
missing_is : (folder : List ℕ) (texts : List (List ℕ)) (files : Files) (change : Change) → Contains (missing_writes folder texts files) change
    → (text : List ℕ) × Contains texts text × (change ≡ object_write folder text)
missing_is folder [] files change has = absurd (Contains-nil change has)
missing_is folder (text ∷ texts) files change has = each (λ (f : Files). missing_is folder texts f change) (is_some (objects_in files folder (object_name text))) has
  where
    later : (other : List ℕ) × Contains texts other × (change ≡ object_write folder other) → (other : List ℕ) × Contains (text ∷ texts) other × (change ≡ object_write folder other)
    later found = (found.0, Contains-later text texts found.0 found.1, found.2)

    each : ((f : Files) → Contains (missing_writes folder texts f) change → (other : List ℕ) × Contains texts other × (change ≡ object_write folder other)) → (stands : Bool)
        → Contains (cond stands (missing_writes folder texts files) (object_write folder text ∷ missing_writes folder texts (written files (object_write folder text)))) change
        → (other : List ℕ) × Contains (text ∷ texts) other × (change ≡ object_write folder other)
    each rest true among = later (rest files among)
    each rest false among = elim (Contains-cons_cases (object_write folder text) (missing_writes folder texts (written files (object_write folder text))) change among) [
      | inl same ↦ (text, Contains-first text texts, sym same)
      | inr more ↦ later (rest (written files (object_write folder text)) more)
    ]

-- the one write that sees a clock, if it rises
seen_is : (folder : List ℕ) (which : ClockFile) (clock number : ℕ) (change : Change) → Contains (see_writes folder which clock number) change
    → change ≡ clock_write folder which (seen_by clock number)
seen_is folder which clock number change has = each (nat_lt clock (seen_by clock number)) has
  where
    each : (rises : Bool) → Contains (cond rises (clock_write folder which (seen_by clock number) ∷ []) []) change → change ≡ clock_write folder which (seen_by clock number)
    each true among = sym (Contains-one (clock_write folder which (seen_by clock number)) change among)
    each false among = absurd (Contains-nil change among)

module _ (env : Env) (entry : History) (change : Change) where
  abbrev files : Files
  files = files_of entry

  -- ---- a commit that is added to a bug

  module _ (doing : Doing) (added : Option Addition) (objects : doing.objects ≡ addition_objects env.moment.now added) (sets : doing.sets ≡ option_map (bug_set env.moment.now) added) (shows : doing.shows ≡ addition_shows added) where
    addition_own : (some : Option Addition) → added ≡ some → Contains (addition_writes env files some) change → IsOwn env doing entry change
    addition_own None e none = absurd (Contains-nil change none)
    addition_own (Some a) e among = elim (Contains-append_cases (missing_writes env.folder (addition_objects env.moment.now (Some a)) files) _ change among) [
      | inl made ↦
          let found = missing_is env.folder (addition_objects env.moment.now (Some a)) files change made in
          let texts : addition_objects env.moment.now (Some a) ≡ doing.objects = ap (addition_objects env.moment.now) (sym e) ∙ sym objects in
          an_object found.0 (subst (λ (ts : List (List ℕ)). Contains ts found.0) texts found.1) found.2
      | inr rest ↦ behind rest
    ]
      where
        clock : (shown : Shown) → Contains (addition_shows (Some a)) shown → change ≡ clock_write env.folder shown.which (seen_by (clock_at files env.folder shown.which) shown.number) → IsOwn env doing entry change
        clock shown has is = a_clock shown (subst (λ (cs : List Shown). Contains cs shown) (ap addition_shows (sym e) ∙ sym shows) has) is

        edit : Shown
        edit = record { which = file.BugsEdit; number = a.pack.edit }

        by_create : (create : Option ℕ) → ((shown : Shown) → Contains (shown_create create) shown → Contains (addition_shows (Some a)) shown) → Contains (create_writes env.folder files create) change
            → IsOwn env doing entry change
        by_create None all none = absurd (Contains-nil change none)
        by_create (Some number) all creates =
            let shown : Shown = record { which = file.BugsCreate; number = number } in
            clock shown (all shown (Contains-first shown [])) (seen_is env.folder file.BugsCreate (clock_at files env.folder file.BugsCreate) number change creates)

        behind : Contains (ref_write env.folder (ref_place side.Bugs a.bug) (bug_set env.moment.now a).head ∷ clock_writes env.folder files a.pack) change → IsOwn env doing entry change
        behind rest = elim (Contains-cons_cases (ref_write env.folder (ref_place side.Bugs a.bug) (bug_set env.moment.now a).head) (clock_writes env.folder files a.pack) change rest) [
          | inl same ↦ a_head (bug_set env.moment.now a) (sets ∙ ap (option_map (bug_set env.moment.now)) e) (sym same)
          | inr seen ↦ elim (Contains-append_cases (create_writes env.folder files a.pack.create) (see_writes env.folder file.BugsEdit (clock_at files env.folder file.BugsEdit) a.pack.edit) change seen) [
            | inl creates ↦ by_create a.pack.create (λ shown has. Contains-append_left (shown_create a.pack.create) (edit ∷ []) shown has) creates
            | inr edits ↦ clock edit (Contains-append_right (shown_create a.pack.create) (edit ∷ []) edit (Contains-first edit []))
                (seen_is env.folder file.BugsEdit (clock_at files env.folder file.BugsEdit) a.pack.edit change edits)
          ]
        ]

  -- ---- a version

  -- the writes of a version are its objects and its head
  version_own : (doing : Doing) (name : Title) (email : Line) (id : Id) (parent : Option Name) → doing.objects ≡ new_objects env name email parent
      → (set : HeadSet) → doing.sets ≡ Some set → ref_write env.folder (ref_place set.of set.id) set.head ≡ ref_write env.folder (ref_place side.Identities id) (new_made env name email parent).head
      → Contains (version_writes env name email id parent files) change → IsOwn env doing entry change
  version_own doing name email id parent objects set sets head among =
      elim (Contains-append_cases (missing_writes env.folder (new_objects env name email parent) files) (ref_write env.folder (ref_place side.Identities id) (new_made env name email parent).head ∷ []) change among) [
        | inl made ↦
            let found = missing_is env.folder (new_objects env name email parent) files change made in
            an_object found.0 (subst (λ (ts : List (List ℕ)). Contains ts found.0) (sym objects) found.1) found.2
        | inr last ↦ a_head set sets (sym (Contains-one (ref_write env.folder (ref_place side.Identities id) (new_made env name email parent).head) change last) ∙ sym head)
      ]

  -- ---- each command

  pub own : (command : Edit) (picked : Picked) → Contains (doing_of env command picked entry).writes change → IsOwn env (doing_of env command picked entry) entry change
  own (edit.UserNew name email) picked among =
      elim (Contains-append_cases (version_writes env name email (new_made env name email None).id None files) (first_user_write env.folder (user_at files env.folder) (new_made env name email None).id) change among) [
        | inl version ↦ version_own (new_user env name email entry) name email (new_made env name email None).id None refl (person_set env name email) refl refl version
        | inr user ↦ by_user (user_at files env.folder) user
      ]
    where
      by_user : (found : UserFound) → Contains (first_user_write env.folder found (new_made env name email None).id) change → IsOwn env (new_user env name email entry) entry change
      by_user NoUser has = the_user (new_made env name email None).id refl (sym (Contains-one (user_write env.folder (new_made env name email None).id) change has))
      by_user (User other) has = absurd (Contains-nil change has)
      by_user BadUser has = absurd (Contains-nil change has)
  own (edit.UserEdit name email) picked among = by_entry (user_entry files env.folder) refl among
    where
      by_entry : (user : Option HeadEntry) → user_entry files env.folder ≡ user → Contains (user_writes env name email files user) change
          → IsOwn env (edited_user env name email entry) entry change
      by_entry None e none = absurd (Contains-nil change none)
      by_entry (Some user) e has = version_own (edited_user env name email entry) name email user.id (Some user.name)
          (ap (λ (o : Option HeadEntry). new_objects env name email (option_map (λ (u : HeadEntry). u.name) o)) e) (version_set env name email user)
          (ap (option_map (version_set env name email)) e) refl has
  own (edit.UserSet word) picked among = the_user picked.person refl (sym (Contains-one (user_write env.folder picked.person) change among))
  own (edit.New title message) picked among =
      let added = option_map (root_addition env.folder files (create_op env.moment title message)) (some_id (user_at files env.folder)) in
      addition_own (new_bug env title message entry) added refl refl refl added refl among
  own (edit.OfBug word e) picked among =
      let added = option_and_then (later_by env.folder files picked.bug picked.op) (some_id (user_at files env.folder)) in
      addition_own (longer_bug env (edit_growth env e word) picked.bug picked.op entry) added refl refl refl added refl among
  own (edit.OfComment word message) picked among =
      let added = option_and_then (later_by env.folder files picked.bug picked.op) (some_id (user_at files env.folder)) in
      addition_own (longer_bug env (comment_growth env message word picked.comment) picked.bug picked.op entry) added refl refl refl added refl among
