-- What a step of a command leaves and prints is determined by the files before it.
use Rattle.std.proofs.Common.{◌≡◌, ◌≢◌, ℕ, inl, inr, Bool, cond, List, [], ◌∷◌, Contains, Option, Some, None, refl, sym, ◌∙◌, ap, subst, arith}
use Rattle.repo_steps.proofs.Names.{Title, Line, joined, Id, Name, Files, written, Contains-cons_cases, Head, edit_time_of, seen_by, BugOp, Entity, clock_at, clock_in, clock_place, has_ref, head_at, is_there, ref_place, UserFound, BadUser, NoUser, User, user_at, user_place, user_write, ClockFile, Env, HeadEntry, Side, clock-not_object, ref-not_clock, ref-not_object, ref-not_user, same_or_other, user-not_object, addition_head, later_addition, root_addition, create_op, op_id, new_made, BugBegins, BugGrows, OnlyChanges, Steps, first_user, first_user_place, CommentEntry, Growth, comment_growth, edit_growth, Edit}
use Rattle.gb_text.specs.Digits.{id_of}
use Rattle.gb_text.specs.LineEnd.{line_of}
use Rattle.repo_state.specs.Users.{local_user, user_of}
use Rattle.repo_state.specs.declared.clocks.ClockFile.TheVariants as file
use Rattle.repo_state.specs.declared.side.Side.TheVariants as side
use Rattle.ref_store.specs.Refs.{packed_place, ref_at}
use Rattle.ref_store.proofs.FrameLemmas.{same_ref}
use Rattle.ref_store.proofs.MapLemmas.{joined-same}
use Rattle.repo_state.proofs.PlaceLemmas.{clock-not_packed, clock-not_user, clock-other, object-not_packed, ref-not_packed, user-not_packed}
use Rattle.repo_state.specs.Finds.{IsDetermined}
use Rattle.repo_state.proofs.CommentLemmas.{comment_finder_is_determined}
use Rattle.repo_state.proofs.FoundLemmas.{finds_the_same}
use Rattle.repo_steps.specs.Steps.{IsObjectFile, UserEditSteps, UserNewSteps, UserSetSteps}
use Rattle.words.specs.declared.edit.Edit.TheVariants as edit
use Rattle.repo_steps.proofs.ClearLemmas.{adds_one, bug_one, one_user, user-head, user-same}
use Rattle.repo_steps.proofs.RuleLemmas.{comments_add_well, edits_add_well}

-- ---- places apart

-- a path at none of these places
abbrev IsApart : List ℕ → List ℕ → List (List ℕ) → Type 0
IsApart folder path places = (place : List ℕ) → Contains places place → path ≢ joined folder place

apart_none : (folder path : List ℕ) → IsApart folder path []
apart_none folder path place among = absurd (omega (arith, among.1))

apart_more : (folder path place : List ℕ) (rest : List (List ℕ)) → path ≢ joined folder place → IsApart folder path rest → IsApart folder path (place ∷ rest)
apart_more folder path place rest differ apart other among e = elim (Contains-cons_cases place rest other among) [
  | inl is ↦ differ (e ∙ ap (joined folder) (sym is))
  | inr later ↦ apart other later e
]

apart_one : (folder path place : List ℕ) → path ≢ joined folder place → IsApart folder path (place ∷ [])
apart_one folder path place differ = apart_more folder path place [] differ (apart_none folder path)

-- nor at that of the user, where it is written
apart_first_user : (folder path : List ℕ) → path ≢ joined folder user_place → (found : UserFound) → IsApart folder path (first_user_place found)
apart_first_user folder path differ NoUser = apart_one folder path user_place differ
apart_first_user folder path differ (User id) = apart_none folder path
apart_first_user folder path differ BadUser = apart_none folder path

-- nor at those of the clocks
apart_clocks : (folder path : List ℕ) → ((which : ClockFile) → path ≢ joined folder (clock_place which)) → IsApart folder path (clock_place file.BugsCreate ∷ clock_place file.BugsEdit ∷ [])
apart_clocks folder path differ =
    apart_more folder path (clock_place file.BugsCreate) (clock_place file.BugsEdit ∷ []) (differ file.BugsCreate) (apart_one folder path (clock_place file.BugsEdit) (differ file.BugsEdit))

-- ---- what two steps leave

-- two steps that change these places, and add objects
module _ (folder : List ℕ) (places : List (List ℕ)) (old one two : Files) (first : OnlyChanges folder places old one) (second : OnlyChanges folder places old two) where
  -- each other file reads the same
  file-same : (path : List ℕ) → IsApart folder path places → (IsObjectFile folder path → ⊥) → one path ≡ two path
  file-same path apart no_object = first.others path apart no_object ∙ sym (second.others path apart no_object)

  user_file-same : IsApart folder (joined folder user_place) places → one (joined folder user_place) ≡ two (joined folder user_place)
  user_file-same apart = file-same (joined folder user_place) apart (λ file. user-not_object folder file.name file.is)

  clock-same : (which : ClockFile) → IsApart folder (joined folder (clock_place which)) places → clock_at one folder which ≡ clock_at two folder which
  clock-same which apart = ap clock_in (file-same (joined folder (clock_place which)) apart (λ file. clock-not_object folder which file.name file.is))

-- where they change one ref and not the packed refs, and both leave the same in it, each ref reads the same
heads-same : (folder : List ℕ) (set : Side) (id : Id) (rest : List (List ℕ)) (old one two : Files)
    → ((of : Side) (other : Id) → IsApart folder (joined folder (ref_place of other)) rest) → IsApart folder (joined folder packed_place) rest
    → OnlyChanges folder (ref_place set id ∷ rest) old one → OnlyChanges folder (ref_place set id ∷ rest) old two
    → head_at one folder set id ≡ head_at two folder set id
    → (of : Side) (other : Id) → head_at one folder of other ≡ head_at two folder of other
heads-same folder set id rest old one two no_ref no_packed first second heads of other = elim (same_or_other path (joined folder (ref_place set id))) [
  | inl same ↦
      let place : ref_place of other ≡ ref_place set id = joined-same folder (ref_place of other) (ref_place set id) same in
      ap (ref_at one folder) place ∙ heads ∙ sym (ap (ref_at two folder) place)
  | inr differ ↦
      same_ref one two folder (ref_place of other)
      (file-same folder (ref_place set id ∷ rest) old one two first second path (apart_more folder path (ref_place set id) rest differ (no_ref of other))
      (λ file. ref-not_object folder of other file.name file.is))
      (file-same folder (ref_place set id ∷ rest) old one two first second (joined folder packed_place)
      (apart_more folder (joined folder packed_place) (ref_place set id) rest (λ e. ref-not_packed folder set id (sym e)) no_packed)
      (λ file. object-not_packed folder file.name (sym file.is)))
]
  where
    path : List ℕ
    path = joined folder (ref_place of other)

-- ---- the user

-- the user is one where its file and the refs of identities read the same
users-same : (folder : List ℕ) (one two : Files) → one (joined folder user_place) ≡ two (joined folder user_place)
    → ((id : Id) → head_at one folder side.Identities id ≡ head_at two folder side.Identities id) → user_at one folder ≡ user_at two folder
users-same folder one two same heads = at_file (one (joined folder user_place)) ∙ ap (user_of two folder) same
  where
    stand : (id : Id) → has_ref one folder side.Identities id ≡ has_ref two folder side.Identities id
    stand id = ap is_there (heads id)

    at_id : (o : Option Id) → local_user one folder o ≡ local_user two folder o
    at_id None = refl
    at_id (Some id) = ap (λ (b : Bool). cond b (User id) BadUser) (stand id)

    at_file : (o : Option (List ℕ)) → user_of one folder o ≡ user_of two folder o
    at_file None = refl
    at_file (Some text) = at_id (id_of (line_of text))

-- ---- each command

-- the same id is told, each head and each clock reads the same, and the user is the same
pub record Same (folder : List ℕ) (one two : Files) (first second : Id) : Type 0 where
  pub told : first ≡ second
  pub heads : (of : Side) (id : Id) → head_at one folder of id ≡ head_at two folder of id
  pub user : user_at one folder ≡ user_at two folder
  pub clocks : (which : ClockFile) → clock_at one folder which ≡ clock_at two folder which

new-same : (env : Env) (name : Title) (email : Line) (old one two : Files) (first second : Id) → UserNewSteps env name email old one first → UserNewSteps env name email old two second
    → Same env.folder one two first second
new-same env name email old one two first second here there = record {
  told = ids;
  heads = heads-same env.folder side.Identities first (first_user_place found) old one two
      (λ of id. apart_first_user env.folder (joined env.folder (ref_place of id)) (ref-not_user env.folder of id) found)
      (apart_first_user env.folder (joined env.folder packed_place) (λ e. user-not_packed env.folder (sym e)) found) here.only only
      (here.head ∙ sym there.head ∙ ap (head_at two env.folder side.Identities) (sym ids));
  user = here.user ∙ ap (first_user found) ids ∙ sym there.user;
  clocks = λ which. clock-same env.folder (ref_place side.Identities first ∷ first_user_place found) old one two here.only only which
      (apart_more env.folder (joined env.folder (clock_place which)) (ref_place side.Identities first) (first_user_place found)
      (λ e. ref-not_clock env.folder side.Identities first which (sym e))
      (apart_first_user env.folder (joined env.folder (clock_place which)) (clock-not_user env.folder which) found));
}
  where
    found : UserFound
    found = user_at old env.folder

    ids : first ≡ second
    ids = here.is_told ∙ sym there.is_told

    only : OnlyChanges env.folder (ref_place side.Identities first ∷ first_user_place found) old two
    only = subst (λ (id : Id). OnlyChanges env.folder (ref_place side.Identities id ∷ first_user_place found) old two) (sym ids) there.only

edit-same : (env : Env) (name : Title) (email : Line) (old one two : Files) (first second : Id) → UserEditSteps env name email old one first → UserEditSteps env name email old two second
    → Same env.folder one two first second
edit-same env name email old one two first second here there = record {
  told = here.is_told ∙ sym ids ∙ sym there.is_told;
  heads = heads;
  user = users-same env.folder one two
      (user_file-same env.folder (place ∷ []) old one two here.only only
      (apart_one env.folder (joined env.folder user_place) place (λ e. ref-not_user env.folder side.Identities here.user.id (sym e)))) (heads side.Identities);
  clocks = λ which. clock-same env.folder (place ∷ []) old one two here.only only which
      (apart_one env.folder (joined env.folder (clock_place which)) place (λ e. ref-not_clock env.folder side.Identities here.user.id which (sym e)));
}
  where
    place : List ℕ
    place = ref_place side.Identities here.user.id

    ids : there.user.id ≡ here.user.id
    ids = user-same env.folder old there.user here.user.id here.user.is_user

    set : head_at two env.folder side.Identities here.user.id ≡ Head (new_made env name email (Some here.user.head)).head
    set = ap (head_at two env.folder side.Identities) (sym ids) ∙ there.head
        ∙ ap (λ (head : Name). Head (new_made env name email (Some head)).head) (user-head env.folder old there.user here.user.id here.user.head here.user.is_user here.user.has_head)

    only : OnlyChanges env.folder (place ∷ []) old two
    only = subst (λ (id : Id). OnlyChanges env.folder (ref_place side.Identities id ∷ []) old two) ids there.only

    heads : (of : Side) (id : Id) → head_at one env.folder of id ≡ head_at two env.folder of id
    heads = heads-same env.folder side.Identities here.user.id [] old one two (λ of id. apart_none env.folder (joined env.folder (ref_place of id))) (apart_none env.folder (joined env.folder packed_place)) here.only only (here.head ∙ sym set)

set-same : (env : Env) (word : List ℕ) (old one two : Files) (first second : Id) → UserSetSteps env word old one first → UserSetSteps env word old two second → Same env.folder one two first second
set-same env word old one two first second here there = record {
  told = ids;
  heads = λ of id. ap (λ (files : Files). head_at files env.folder of id) files;
  user = ap (λ (files : Files). user_at files env.folder) files;
  clocks = λ which. ap (λ (files : Files). clock_at files env.folder which) files;
}
  where
    ids : first ≡ second
    ids = finds_the_same first second here.found there.found

    files : one ≡ two
    files = here.only ∙ ap (λ (id : Id). written old (user_write env.folder id)) ids ∙ sym there.only

begins-same : (env : Env) (op : BugOp) (old one two : Files) (first second : Id) → BugBegins env op old one first → BugBegins env op old two second → Same env.folder one two first second
begins-same env op old one two first second here there = record {
  told = ids;
  heads = heads;
  user = users-same env.folder one two
      (user_file-same env.folder (ref_place side.Bugs first ∷ clocks) old one two here.only only
      (apart_more env.folder (joined env.folder user_place) (ref_place side.Bugs first) clocks (λ e. ref-not_user env.folder side.Bugs first (sym e))
      (apart_clocks env.folder (joined env.folder user_place) (λ which e. clock-not_user env.folder which (sym e))))) (heads side.Identities);
  clocks = clocks-same;
}
  where
    clocks : List (List ℕ)
    clocks = clock_place file.BugsCreate ∷ clock_place file.BugsEdit ∷ []

    ids : first ≡ second
    ids = here.is_told ∙ sym there.is_told

    only : OnlyChanges env.folder (ref_place side.Bugs first ∷ clocks) old two
    only = subst (λ (id : Id). OnlyChanges env.folder (ref_place side.Bugs id ∷ clocks) old two) (sym ids) there.only

    set : head_at one env.folder side.Bugs first ≡ head_at two env.folder side.Bugs first
    set = here.head ∙ ap (λ (user : Id). Head (addition_head env.moment.now (root_addition env.folder old op user))) (one_user env.folder old here.user there.user here.is_user there.is_user)
        ∙ sym there.head ∙ ap (head_at two env.folder side.Bugs) (sym ids)

    heads : (of : Side) (id : Id) → head_at one env.folder of id ≡ head_at two env.folder of id
    heads = heads-same env.folder side.Bugs first clocks old one two
        (λ of id. apart_clocks env.folder (joined env.folder (ref_place of id)) (ref-not_clock env.folder of id))
        (apart_clocks env.folder (joined env.folder packed_place) (λ which e. clock-not_packed env.folder which (sym e))) here.only only set

    clocks-same : (which : ClockFile) → clock_at one env.folder which ≡ clock_at two env.folder which
    clocks-same file.BugsCreate = here.create_clock ∙ sym there.create_clock
    clocks-same file.BugsEdit = here.edit_clock ∙ sym there.edit_clock

grows-same : (env : Env) (growth : Growth) (old one two : Files) (first second : Id) → IsDetermined (growth.finder old) → BugGrows env growth old one first → BugGrows env growth old two second
    → Same env.folder one two first second
grows-same env growth old one two first second finds here there = record {
  told = here.is_told ∙ ap op_id ops ∙ sym there.is_told;
  heads = heads;
  user = users-same env.folder one two
      (user_file-same env.folder (place ∷ clock_place file.BugsEdit ∷ []) old one two here.only only
      (apart_more env.folder (joined env.folder user_place) place (clock_place file.BugsEdit ∷ []) (λ e. ref-not_user env.folder side.Bugs bug.id (sym e))
      (apart_one env.folder (joined env.folder user_place) (clock_place file.BugsEdit) (λ e. clock-not_user env.folder file.BugsEdit (sym e))))) (heads side.Identities);
  clocks = clocks-same;
}
  where
    bug : HeadEntry
    bug = here.bug.bug

    place : List ℕ
    place = ref_place side.Bugs bug.id

    ops : here.op ≡ there.op
    ops = adds_one env.folder old growth finds here.op there.op here.bug there.bug here.is_op there.is_op

    bugs : (there.bug.bug ≡ bug) × (there.bug.entity ≡ here.bug.entity)
    bugs = bug_one env.folder old (growth.finder old) finds there.bug here.bug

    edits : there.bug.entity.edit ≡ here.bug.entity.edit
    edits = ap (λ (entity : Entity BugOp). entity.edit) bugs.1

    only : OnlyChanges env.folder (place ∷ clock_place file.BugsEdit ∷ []) old two
    only = subst (λ (b : HeadEntry). OnlyChanges env.folder (ref_place side.Bugs b.id ∷ clock_place file.BugsEdit ∷ []) old two) bugs.0 there.only

    -- the head that is made for an operation, a user, a bug and its edit clock
    made : BugOp → Id → HeadEntry → ℕ → Name
    made op user b edit = addition_head env.moment.now (later_addition env.folder old op user b edit)

    heads-made : made there.op there.user there.bug.bug there.bug.entity.edit ≡ made here.op here.user bug here.bug.entity.edit
    heads-made = ap (λ (op : BugOp). made op there.user there.bug.bug there.bug.entity.edit) (sym ops)
        ∙ ap (λ (user : Id). made here.op user there.bug.bug there.bug.entity.edit) (one_user env.folder old there.user here.user there.is_user here.is_user)
        ∙ ap (λ (b : HeadEntry). made here.op here.user b there.bug.entity.edit) bugs.0 ∙ ap (made here.op here.user bug) edits

    set : head_at one env.folder side.Bugs bug.id ≡ head_at two env.folder side.Bugs bug.id
    set = here.head ∙ ap Head (sym heads-made) ∙ sym there.head ∙ ap (λ (b : HeadEntry). head_at two env.folder side.Bugs b.id) bugs.0

    heads : (of : Side) (id : Id) → head_at one env.folder of id ≡ head_at two env.folder of id
    heads = heads-same env.folder side.Bugs bug.id (clock_place file.BugsEdit ∷ []) old one two
        (λ of id. apart_one env.folder (joined env.folder (ref_place of id)) (clock_place file.BugsEdit) (ref-not_clock env.folder of id file.BugsEdit))
        (apart_one env.folder (joined env.folder packed_place) (clock_place file.BugsEdit) (λ e. clock-not_packed env.folder file.BugsEdit (sym e))) here.only only set

    clocks-same : (which : ClockFile) → clock_at one env.folder which ≡ clock_at two env.folder which
    clocks-same file.BugsCreate =
        clock-same env.folder (place ∷ clock_place file.BugsEdit ∷ []) old one two here.only only file.BugsCreate
        (apart_more env.folder (joined env.folder (clock_place file.BugsCreate)) place (clock_place file.BugsEdit ∷ []) (λ e. ref-not_clock env.folder side.Bugs bug.id file.BugsCreate (sym e))
        (apart_one env.folder (joined env.folder (clock_place file.BugsCreate)) (clock_place file.BugsEdit) (clock-other env.folder file.BugsCreate file.BugsEdit (λ e. cc))))
    clocks-same file.BugsEdit =
        here.edit_clock
        ∙ ap (λ (edit : ℕ). seen_by (clock_at old env.folder file.BugsEdit) (edit_time_of (clock_at old env.folder file.BugsEdit) edit)) (sym edits)
        ∙ sym there.edit_clock

-- two steps from the same files leave and tell the same
pub steps-same : (env : Env) (command : Edit) (old one two : Files) (first second : Id) → Steps env command old one first → Steps env command old two second → Same env.folder one two first second
steps-same env (edit.UserNew name email) old one two first second here there = new-same env name email old one two first second here there
steps-same env (edit.UserEdit name email) old one two first second here there = edit-same env name email old one two first second here there
steps-same env (edit.UserSet word) old one two first second here there = set-same env word old one two first second here there
steps-same env (edit.New title message) old one two first second here there = begins-same env (create_op env.moment title message) old one two first second here there
steps-same env (edit.OfBug word e) old one two first second here there = grows-same env (edit_growth env e word) old one two first second (edits_add_well env old e word).finds here there
steps-same env (edit.OfComment word message) old one two first second here there =
    let found = comment_finder_is_determined old env.folder word in
    let same : here.0 ≡ there.0 = ap (λ (entry : CommentEntry). entry.comment)
    (found.one (record { bug = here.1.bug.bug; comment = here.0 }) (record { bug = there.1.bug.bug; comment = there.0 }) here.1.bug.finds there.1.bug.finds) in
    grows-same env (comment_growth env message word there.0) old one two first second (comments_add_well env old message word there.0).finds
    (subst (λ (comment : Id). BugGrows env (comment_growth env message word comment) old one first) same here.1) there.1
