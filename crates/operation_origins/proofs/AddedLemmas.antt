-- A done edit brings to a bug the one commit that it adds, and no more.
use Rattle.std.proofs.Common.{◌≡◌, ◌⊎◌, inl, inr, refl, sym, ◌∙◌, ap, subst, ℕ, List, [], ◌∷◌, ◌++◌, Contains, Option, Some, None, option_and_then}
use Rattle.std.specs.Option.{option_map}
use Rattle.std.proofs.lemmas.List.Elements.{Contains-append_cases}
use Rattle.std.proofs.lemmas.Option.{same_Some}
use Rattle.gb_text.specs.Digits.{IsId}
use Rattle.gb_text.specs.declared.id.Id.{Id}
use Rattle.gb_text.specs.declared.id.Name.{Name}
use Rattle.gb_text.specs.declared.ruled.Line.{Line}
use Rattle.gb_text.specs.declared.ruled.Title.{Title}
use Rattle.gb_store.specs.Files.{Files, History, files_of}
use Rattle.object_store.specs.Held.{Objects, objects_in}
use Rattle.commit_walk.proofs.DistinctLemmas.{Contains-one}
use Rattle.ref_store.specs.Refs.{Head}
use Rattle.bug_edits.specs.NewOps.{create_op, op_id}
use Rattle.bug_ops.specs.Kind.{bug_kind}
use Rattle.bug_ops.specs.declared.op.BugOp.{BugOp}
use Rattle.dag_entity.specs.Appending.{appended_node}
use Rattle.dag_entity.specs.Entities.{AreAllInOrder, IsOperationCommit}
use Rattle.dag_entity.specs.Nodes.{edit_at, pack_at}
use Rattle.dag_entity.specs.declared.entity.Loaded.{Loaded}
use Rattle.dag_entity.specs.declared.entity.Placed.{Placed}
use Rattle.op_pack.specs.declared.pack.Pack.{Pack}
use Rattle.repo_state.specs.Sides.{head_at, ref_place}
use Rattle.repo_state.specs.declared.side.HeadEntry.{HeadEntry}
use Rattle.repo_state.specs.declared.side.Side.TheVariants as side
use Rattle.repo_state.specs.Users.{user_at, user_entry}
use Rattle.repo_state.specs.declared.comments.CommentEntry.{CommentEntry}
use Rattle.repo_state.proofs.CommentLemmas.{comment_finder_is_determined}
use Rattle.repo_state.proofs.ListingLemmas.{Contains-from_map}
use Rattle.repo_state.proofs.PlaceLemmas.{ref_place-side}
use Rattle.repo_steps.specs.BugDoings.{Growth, addition_head, bug_set, comment_growth, edit_growth, later_addition, later_by, root_addition, some_id}
use Rattle.repo_steps.specs.Checks.{AllPass}
use Rattle.repo_steps.specs.Doing.{HeadSet}
use Rattle.repo_steps.specs.Doings.{doing_of}
use Rattle.repo_steps.specs.PeopleDoings.{person_set, version_set}
use Rattle.repo_steps.specs.Picked.{Picked}
use Rattle.repo_steps.specs.Steps.{BugBegins, BugGrows, Steps}
use Rattle.repo_steps.specs.declared.env.Env.{Env}
use Rattle.repo_steps.specs.declared.plan.Addition.{Addition}
use Rattle.repo_steps.proofs.BugDoneLemmas.{IsId-op_id}
use Rattle.repo_steps.proofs.RuleLemmas.{AddsWell, comments_add_well, edits_add_well}
use Rattle.words.specs.declared.edit.Edit.{Edit}
use Rattle.words.specs.declared.edit.Edit.TheVariants as edit
use Rattle.ref_moments.specs.Sets.{IsOwnSet}
use Rattle.ref_moments.proofs.ListedLemmas.{placed_id}
use Rattle.full_exchanges.specs.Having.{ACommit, Has}
use Rattle.operation_origins.specs.Origins.{BeginningAdds, EditAdds, GrowthAdds}

-- the commit of a bug that an edit adds
pub record IsAdded (env : Env) (command : Edit) (files : Files) (id : Id) (placed : Placed BugOp) : Type 0 where
  pub addition : Addition
  pub adds : EditAdds env command files addition
  pub of_bug : addition.bug ≡ id
  pub commit : placed ≡ (appended_node bug_kind addition.parents addition.pack env.moment.now).placed

-- a folder had the commit, or the edit adds it
abbrev pub HadOrAdded : Env → Edit → Files → Id → Placed BugOp → Type 0
HadOrAdded env command files id placed = Has files env.folder side.Bugs id (ACommit placed) ⊎ IsAdded env command files id placed

-- an operation commit below a head is among the packs that lie there in order
among_packs : (objects : Objects) (heads : List Name) (packs : List (Placed BugOp)) (placed : Placed BugOp) → AreAllInOrder bug_kind objects heads packs → IsOperationCommit bug_kind objects heads placed
    → Contains packs placed
among_packs objects heads packs placed are is =
    let found = Contains-from_map (λ (p : Placed BugOp). p.commit) packs placed.commit (are.all placed.commit is.below) in
    let its : Some found.0.pack ≡ Some placed.pack = sym (are.each found.0 found.1) ∙ ap (pack_at bug_kind objects) found.2 ∙ is.has in
    let pack : found.0.pack ≡ placed.pack = same_Some found.0.pack placed.pack its in
    let same : found.0 ≡ placed = ap (λ (commit : Name). record { commit = commit; pack = found.0.pack }) found.2 ∙ ap (λ (pack : Pack BugOp). record { commit = placed.commit; pack = pack }) pack in
    subst (Contains packs) same found.1

-- two heads that a ref has are one
head_same : (one two : Name) → Head one ≡ Head two → one ≡ two
head_same one two e = cc

-- what a ref has lies below its head
at_head : (files : Files) (folder : List ℕ) (id : Id) (top : Name) → head_at files folder side.Bugs id ≡ Head top → (placed : Placed BugOp) → Has files folder side.Bugs id (ACommit placed)
    → IsOperationCommit bug_kind (objects_in files folder) (top ∷ []) placed
at_head files folder id top at placed has =
    subst (λ (name : Name). IsOperationCommit bug_kind (objects_in files folder) (name ∷ []) placed) (head_same has.head top (sym has.is_head ∙ at)) has.is

-- ---- the ref that an edit sets

-- of a user it is no ref of a bug
version_side : (env : Env) (name : Title) (email : Line) (user : Option HeadEntry) (set : HeadSet) → option_map (version_set env name email) user ≡ Some set → side.Identities ≡ set.of
version_side env name email None set is = absurd (cc is)
version_side env name email (Some user) set is = ap (λ (s : HeadSet). s.of) (same_Some (version_set env name email user) set is)

-- that of a new bug, by the operation that it begins with
root_id : (now : ℕ) (folder : List ℕ) (files : Files) (op : BugOp) (user : Option Id) (set : HeadSet) → option_map (bug_set now) (option_map (root_addition folder files op) user) ≡ Some set → op_id op ≡ set.id
root_id now folder files op None set is = absurd (cc is)
root_id now folder files op (Some user) set is = ap (λ (s : HeadSet). s.id) (same_Some (bug_set now (root_addition folder files op user)) set is)

-- that of a bug that grows
later_id : (now : ℕ) (folder : List ℕ) (files : Files) (bug : HeadEntry) (op : BugOp) (user : Option Id) (set : HeadSet)
    → option_map (bug_set now) (option_and_then (later_by folder files bug op) user) ≡ Some set → bug.id ≡ set.id
later_id now folder files bug op None set is = absurd (cc is)
later_id now folder files bug op (Some user) set is = by (edit_at (objects_in files folder) bug.name) is
  where
    by : (clock : Option ℕ) → option_map (bug_set now) (option_map (later_addition folder files op user bug) clock) ≡ Some set → bug.id ≡ set.id
    by None is = absurd (cc is)
    by (Some n) is = ap (λ (s : HeadSet). s.id) (same_Some (bug_set now (later_addition folder files op user bug n)) set is)

-- ---- an edit that was done

module _ (env : Env) (old full : History) where
  abbrev held : Objects
  held = objects_in (files_of full) env.folder

  -- a new bug
  begun_adds : (op : BugOp) (told : Id) → BugBegins env op (files_of old) (files_of full) told → (placed : Placed BugOp) → Has (files_of full) env.folder side.Bugs told (ACommit placed)
      → (a : Addition) × BeginningAdds env op (files_of old) a × (a.bug ≡ told) × (placed ≡ (appended_node bug_kind a.parents a.pack env.moment.now).placed)
  begun_adds op told step placed has =
      let a = root_addition env.folder (files_of old) op step.user in
      let node = appended_node bug_kind a.parents a.pack env.moment.now in
      let below = at_head (files_of full) env.folder told (addition_head env.moment.now a) step.head placed has in (
        a,
        record { user = step.user; is_user = step.is_user; is = refl },
        sym step.is_told,
        sym (Contains-one node.placed placed (among_packs held (addition_head env.moment.now a ∷ []) (node.placed ∷ []) placed step.is.is.packs below)),
      )

  -- a bug that grew
  module _ (growth : Growth) (well : AddsWell env (files_of old) growth) (told : Id) (step : BugGrows env growth (files_of old) (files_of full) told) where
    -- what is added, and its commit
    abbrev a : Addition
    a = later_addition env.folder (files_of old) step.op step.user step.bug.bug step.bug.entity.edit

    abbrev node : Loaded BugOp
    node = appended_node bug_kind a.parents a.pack env.moment.now

    -- what the edit adds to a bug
    abbrev Adds : Id → Placed BugOp → Type 0
    Adds id placed = (a : Addition) × GrowthAdds env growth (files_of old) a × (a.bug ≡ id) × (placed ≡ (appended_node bug_kind a.parents a.pack env.moment.now).placed)

    -- what lies below its new head lay below the old one, or is the commit
    grown_adds : (placed : Placed BugOp) → Has (files_of full) env.folder side.Bugs step.bug.bug.id (ACommit placed)
        → Has (files_of old) env.folder side.Bugs step.bug.bug.id (ACommit placed) ⊎ Adds step.bug.bug.id placed
    grown_adds placed has =
        let below = at_head (files_of full) env.folder step.bug.bug.id (addition_head env.moment.now a) step.head placed has in
        elim (Contains-append_cases step.bug.entity.packs (node.placed ∷ []) placed (among_packs held (addition_head env.moment.now a ∷ []) (step.bug.entity.packs ++ node.placed ∷ []) placed step.is.is.packs below)) [
          | inl was ↦ inl (record {
            head = step.bug.bug.name;
            is_head = well.head step.bug.bug step.bug.finds;
            is = record { below = step.bug.is.is.packs.only placed was; has = step.bug.is.is.packs.each placed was; some = has.is.some };
          })
          | inr made ↦ inr (a, record { user = step.user; is_user = step.is_user; bug = step.bug; op = step.op; is_op = step.is_op; is = refl }, refl, sym (Contains-one node.placed placed made))
        ]

    -- the ref that was set is that of the bug
    set_grown : (picked : HeadEntry) (op : BugOp) (set : HeadSet) (id : Id) → picked ≡ step.bug.bug → option_map (bug_set env.moment.now) (option_and_then (later_by env.folder (files_of old) picked op) (some_id (user_at (files_of old) env.folder))) ≡ Some set
        → ref_place set.of set.id ≡ ref_place side.Bugs id → IsId id → (placed : Placed BugOp) → Has (files_of full) env.folder side.Bugs id (ACommit placed)
        → Has (files_of old) env.folder side.Bugs id (ACommit placed) ⊎ Adds id placed
    set_grown picked op set id same is place is_id placed has =
        subst (λ (one : Id). Has (files_of old) env.folder side.Bugs one (ACommit placed) ⊎ Adds one placed) ids
        (grown_adds placed (subst (λ (one : Id). Has (files_of full) env.folder side.Bugs one (ACommit placed)) (sym ids) has))
      where
        set_is : step.bug.bug.id ≡ set.id
        set_is = ap (λ (bug : HeadEntry). bug.id) (sym same) ∙ later_id env.moment.now env.folder (files_of old) picked op (some_id (user_at (files_of old) env.folder)) set is

        ids : step.bug.bug.id ≡ id
        ids = set_is ∙ (placed_id set.of side.Bugs set.id id (subst IsId set_is (well.sized step.bug.bug step.bug.finds)) is_id place).1

  -- the ref of a user is not that of a bug
  no_bug_set : (set : HeadSet) (id : Id) → side.Identities ≡ set.of → ref_place set.of set.id ≡ ref_place side.Bugs id → ⊥
  no_bug_set set id is place = let clash : side.Identities ≡ side.Bugs = is ∙ ref_place-side set.of side.Bugs set.id id place in cc

  -- the bug whose ref an edit set
  pub set_adds : (command : Edit) (picked : Picked) (told : Id) → AllPass (doing_of env command picked old).checks → Steps env command (files_of old) (files_of full) told → (id : Id) → IsId id
      → IsOwnSet env.folder (doing_of env command picked old) side.Bugs id old full → (placed : Placed BugOp) → Has (files_of full) env.folder side.Bugs id (ACommit placed)
      → HadOrAdded env command (files_of old) id placed
  set_adds (edit.UserNew name email) picked told passes step id is_id own placed has =
      absurd (no_bug_set own.set id (ap (λ (s : HeadSet). s.of) (same_Some (person_set env name email) own.set own.is)) own.place)
  set_adds (edit.UserEdit name email) picked told passes step id is_id own placed has =
      absurd (no_bug_set own.set id (version_side env name email (user_entry (files_of old) env.folder) own.set own.is) own.place)
  set_adds (edit.UserSet word) picked told passes step id is_id own placed has = let none : None ≡ Some own.set = own.is in absurd (cc none)
  set_adds (edit.New title message) picked told passes step id is_id own placed has =
      let op = create_op env.moment title message in
      let set_is = root_id env.moment.now env.folder (files_of old) op (some_id (user_at (files_of old) env.folder)) own.set own.is in
      let ids = step.is_told ∙ set_is ∙ (placed_id own.set.of side.Bugs own.set.id id (subst IsId set_is (IsId-op_id op)) is_id own.place).1 in
      let made = begun_adds op told step placed (subst (λ (one : Id). Has (files_of full) env.folder side.Bugs one (ACommit placed)) (sym ids) has) in
      inr (record { addition = made.0; adds = made.1; of_bug = made.2 ∙ ids; commit = made.3 })
  set_adds (edit.OfBug word e) picked told passes step id is_id own placed has =
      let well = edits_add_well env (files_of old) e word in
      elim (set_grown (edit_growth env e word) well told step picked.bug picked.op own.set id (well.finds.one picked.bug step.bug.bug passes.1.1.0 step.bug.finds) own.is own.place is_id placed has) [
        | inl was ↦ inl was
        | inr made ↦ inr (record { addition = made.0; adds = made.1; of_bug = made.2; commit = made.3 })
      ]
  set_adds (edit.OfComment word message) picked told passes (comment, step) id is_id own placed has =
      let well = comments_add_well env (files_of old) message word comment in
      let found = comment_finder_is_determined (files_of old) env.folder word in
      let same : picked.bug ≡ step.bug.bug = ap (λ (entry : CommentEntry). entry.bug)
      (found.one (record { bug = picked.bug; comment = picked.comment }) (record { bug = step.bug.bug; comment = comment }) passes.1.1.0 step.bug.finds) in
      elim (set_grown (comment_growth env message word comment) well told step picked.bug picked.op own.set id same own.is own.place is_id placed has) [
        | inl was ↦ inl was
        | inr made ↦ inr (record { addition = made.0; adds = (comment, made.1); of_bug = made.2; commit = made.3 })
      ]
