-- What a bug says, read anew from the files, once a command has written to it.
use Rattle.std.proofs.Common.{◌≡◌, ℕ, List, [], ◌∷◌, refl, sym, ◌∙◌, ap, subst}
use Rattle.std.proofs.lemmas.Grind.{flat_map-append}
use Rattle.repo_steps.proofs.Names.{is_there, Title, Message, Id, Files, Head, root_time_of, Place, place_of, bug_kind, BugOp, snapshot_of, appended_head, appended_node, extended, Entity, Loaded, Placed, IsBug, clock_at, head_at, Env, HeadEntry, one_entity, HasBug, Growth, comment_growth, edit_growth, edited_comment_op, CommentEntry, FindsComment, Snapshot, Steps, ops_in, addition_head, bug_says, later_addition, root_addition, create_op, BugBegins, BugGrows, begun_entity, Addition, BugEdit}
use Rattle.repo_state.specs.Finds.{Fits}
use Rattle.repo_state.specs.declared.clocks.ClockFile.TheVariants as file
use Rattle.repo_state.specs.declared.side.Side.TheVariants as side
use Rattle.snapshot.specs.CommentEdits.{AreEdited}
use Rattle.words.specs.declared.edit.Edit.TheVariants as command
use Rattle.bug_edits.specs.EditLaws.{with_op}
use Rattle.bug_edits.proofs.CommentEditLemmas.{comments_of_edit}
use Rattle.repo_steps.specs.Grown.{EndsWithTheEdit, begun_says}
use Rattle.repo_steps.proofs.RuleLemmas.{bug_is_list, same_op}

-- ---- a bug with one operation more

module _ (env : Env) (growth : Growth) (old new : Files) (told : Id) (step : BugGrows env growth old new told) where
  abbrev added : Addition
  added = later_addition env.folder old step.op step.user step.bug.bug step.bug.entity.edit

  abbrev node : Loaded BugOp
  node = appended_node bug_kind (step.bug.bug.name ∷ []) added.pack env.moment.now

  -- where the operation stands
  abbrev place : Place
  place = place_of (appended_head bug_kind added.pack) step.user (bug_kind.written step.op)

  abbrev later_bug : HeadEntry
  later_bug = record { id = step.bug.bug.id; name = addition_head env.moment.now added }

  module _ (bug : HeadEntry) (entity : Entity BugOp) (ids : bug.id ≡ step.bug.bug.id) (at : head_at new env.folder side.Bugs bug.id ≡ Head bug.name) (is : IsBug new env.folder bug entity) where
    names : bug.name ≡ later_bug.name
    names =
        let heads : Head bug.name ≡ Head later_bug.name = sym at ∙ ap (head_at new env.folder side.Bugs) ids ∙ step.head in
        cc (heads)

    bugs : bug ≡ later_bug
    bugs = λ i. record { id = ids i; name = names i }

    entities : entity ≡ extended step.bug.entity node
    entities = one_entity new env.folder later_bug entity (extended step.bug.entity node) (subst (λ (b : HeadEntry). IsBug new env.folder b entity) bugs is) step.is

    -- it says what its operations of before say with the one that was added, at its place
    pub ends : EndsWithTheEdit env growth old new told step entity
    ends = record {
      place = place;
      is_told = sym step.is_told;
      by_user = refl;
      clock = refl;
      says = ap bug_says entities ∙ ap snapshot_of (flat_map-append (λ (p : Placed BugOp). p.pack.ops) step.bug.entity.packs (node.placed ∷ []));
    }

-- the word that found the bug before finds it again, since its ref stands
pub found_again : (env : Env) (e : BugEdit) (word : List ℕ) (old new : Files) (told : Id) (step : BugGrows env (edit_growth env e word) old new told) (now : HasBug env.folder new word)
    → EndsWithTheEdit env (edit_growth env e word) old new told step now.entity
found_again env e word old new told step now =
    let before = step.bug.finds.found.is_so in
    let again : Fits new env.folder side.Bugs word step.bug.bug.id = record { is_id = before.is_id; is_prefix = before.is_prefix; begins = before.begins; stands = ap is_there step.head } in
    ends env (edit_growth env e word) old new told step now.bug now.entity (sym (now.finds.found.no_other step.bug.bug.id again)) now.finds.head now.is

-- the comment that the word found has the message, and each other is as it was
pub comment_says : (env : Env) (message : Message) (word : List ℕ) (old new : Files) (told : Id) → Steps env (command.OfComment word message) old new told
    → (found : CommentEntry) × FindsComment old env.folder word found
    × ((bug : HeadEntry) (entity : Entity BugOp) → bug.id ≡ found.bug.id → head_at new env.folder side.Bugs bug.id ≡ Head bug.name → IsBug new env.folder bug entity
    → (before : Entity BugOp) × IsBug old env.folder found.bug before × AreEdited found.comment message.text (bug_says before).list (bug_says entity).list)
comment_says env message word old new told (comment, step) = (
  record { bug = step.bug.bug; comment = comment },
  step.bug.finds,
  λ bug entity ids at is.
      let growth = comment_growth env message word comment in
      let end = ends env growth old new told step bug entity ids at is in
      let ops = ops_in bug_kind step.bug.entity.packs in
      let edited = comments_of_edit env.moment ops end.place comment message (bug_is_list env old step.bug.bug step.bug.entity step.bug.is) in
      let op = same_op (edited_comment_op env.moment comment message) step.op step.is_op in
      let says = end.says ∙ ap (λ (o : BugOp). with_op ops end.place o) (sym op) in
      (step.bug.entity, step.bug.is, subst (λ (s : Snapshot). AreEdited comment message.text (bug_says step.bug.entity).list s.list) (sym says) edited),
)

-- ---- a new bug

pub begins_saying : (env : Env) (title : Title) (message : Message) (old new : Files) (told : Id) (step : BugBegins env (create_op env.moment title message) old new told) (bug : HeadEntry) (entity : Entity BugOp)
    → bug.id ≡ told → head_at new env.folder side.Bugs told ≡ Head bug.name → IsBug new env.folder bug entity → bug_says entity ≡ begun_says env old title message step.user told
begins_saying env title message old new told step bug entity same at is =
    let added : Addition = root_addition env.folder old (create_op env.moment title message) step.user in
    let first : Entity BugOp = begun_entity env added (root_time_of (clock_at old env.folder file.BugsCreate)) in
    let names : Head bug.name ≡ Head (addition_head env.moment.now added) = sym at ∙ step.head in
    let name : bug.name ≡ addition_head env.moment.now added = cc (names) in
    let bugs : bug ≡ record { id = told; name = addition_head env.moment.now added } = λ i. record { id = same i; name = name i } in
    let entities : entity ≡ first = one_entity new env.folder (record { id = told; name = addition_head env.moment.now added }) entity first (subst (λ (b : HeadEntry). IsBug new env.folder b entity) bugs is) step.is in
    ap bug_says entities ∙ ap (begun_says env old title message step.user) (sym step.is_told)
