-- What a done edit made survives whatever is run then.
use Rattle.std.proofs.Common.{◌≡◌, refl, sym, ◌∙◌, ap, subst, arith, ℕ, IsTrue, List, [], ◌∷◌, ◌++◌, Contains, Option, None}
use Rattle.std.proofs.lemmas.List.Elements.{Contains-append_right}
use Rattle.gb_text.specs.Digits.{IsId}
use Rattle.gb_text.specs.declared.id.Id.{Id}
use Rattle.gb_text.specs.declared.id.Name.{Name}
use Rattle.gb_text.specs.declared.ruled.Line.{Line}
use Rattle.gb_text.specs.declared.ruled.Title.{Title}
use Rattle.gb_store.specs.Files.{Files, History, files_of}
use Rattle.commit_walk.specs.Below.{head as at_top}
use Rattle.commit_walk.proofs.DistinctLemmas.{Contains-first}
use Rattle.object_store.specs.Held.{objects_in}
use Rattle.identity.proofs.IdLemmas.{IsId-version_id}
use Rattle.ref_store.specs.Refs.{Head}
use Rattle.bug_ops.specs.Kind.{bug_kind}
use Rattle.bug_ops.specs.declared.op.BugOp.{BugOp}
use Rattle.dag_entity.specs.Appending.{appended_node}
use Rattle.dag_entity.specs.Entities.{AreAllInOrder}
use Rattle.dag_entity.specs.declared.entity.Loaded.{Loaded}
use Rattle.dag_entity.specs.declared.entity.Placed.{Placed}
use Rattle.repo_state.specs.Sides.{head_at}
use Rattle.repo_state.specs.Users.{id_line}
use Rattle.repo_state.specs.declared.side.Side.{Side}
use Rattle.repo_state.specs.declared.side.Side.TheVariants as side
use Rattle.repo_state.proofs.IdLemmas.{IsId-chain}
use Rattle.repo_steps.specs.BugDoings.{Growth, addition_head, comment_growth, edit_growth, later_addition, one_op_pack, root_addition}
use Rattle.repo_steps.specs.PeopleDoings.{HasUser, new_made, new_text}
use Rattle.repo_steps.specs.Steps.{BugBegins, BugGrows, Steps}
use Rattle.repo_steps.specs.declared.env.Env.{Env}
use Rattle.repo_steps.proofs.BugDoneLemmas.{IsId-op_id, ids_again}
use Rattle.repo_steps.proofs.RuleLemmas.{comments_add_well, edits_add_well}
use Rattle.repo_writes.specs.Kept.{IsOwnSide, KeepsBelow, LosesNothing}
use Rattle.words.specs.declared.edit.Edit.{Edit as Edits}
use Rattle.words.specs.declared.edit.Edit.TheVariants as edit
use Rattle.words.specs.declared.words.Asked.TheVariants as asked
use Rattle.words.specs.declared.words.Command.TheVariants.{Edit}
use Rattle.words.specs.declared.words.Request.{Request}
use Rattle.bug_edits.specs.NewOps.{create_op, op_id}
use Rattle.bug_run.specs.Run.{Call, RunAnswers, env_at}
use Rattle.bug_run.specs.declared.status.Status.TheVariants as status
use Rattle.bug_run.proofs.AnswerLemmas.{tells_its_id}
use Rattle.bug_run.proofs.ServedLemmas.{done_begun, done_was}
use Rattle.bug_run.proofs.WordLemmas.{answered}
use Rattle.run_moments.specs.Survives.{Adds, HasOperation, IsAddedTo}

-- ---- what a done edit tells

-- its step, and the line of its id
pub record DidEdit (call : Call) (folder : List ℕ) (of : Edits) (old new : History) (before after : List ℕ) : Type 0 where
  pub told : Id
  pub steps : Steps (env_at call.moment folder) of (files_of old) (files_of new) told
  pub printed : after ≡ before ++ id_line told

pub did_edit : (call : Call) (folder : List ℕ) (of : Edits) (old new : History) (before after : List ℕ) → IsTrue call.store_tells → IsTrue call.sink_tells
    → call.asked ≡ asked.Request (record { folder = folder; command = Edit of }) → RunAnswers call old new before after status.Done → DidEdit call folder of old new before after
did_edit call folder of old new before after tells prints asks is =
    let request : Request = record { folder = folder; command = Edit of } in
    let a = answered call request old new before after status.Done asks is in
    let was = done_was call.sink_tells call.takes_memory before after a.result a.printed in
    let answers = done_begun call old new request a.result was.0 was.1 (a.done tells) in
    let told = tells_its_id (env_at call.moment folder) of old new was.0 answers in
    record { told = told.0; steps = told.1; printed = was.2 prints ∙ ap (λ (text : List ℕ). before ++ text) told.2 }

-- ---- operations

-- a commit of one operation that is among the packs below the head of a bug
module _ (folder : List ℕ) (files : Files) (parents : List Name) (author : Id) (edit : ℕ) (create : Option ℕ) (op : BugOp) (now : ℕ) where
  abbrev node : Loaded BugOp
  node = appended_node bug_kind parents (one_op_pack author edit create op) now

  has_operation : (bug : Id) (head : Name) (packs : List (Placed BugOp)) → head_at files folder side.Bugs bug ≡ Head head → AreAllInOrder bug_kind (objects_in files folder) (head ∷ []) packs
      → Contains packs node.placed → HasOperation folder files bug (op_id op)
  has_operation bug head packs at are among = record {
    placed = node.placed;
    commit = record { head = head; is_head = at; is = record { below = are.only node.placed among; has = are.each node.placed among; some = omega arith } };
    has = subst (λ (ids : List Id). Contains ids (op_id op)) (sym (ids_again parents author edit create op now)) (Contains-first (op_id op) []);
  }

-- a new bug has its operation
begun_has : (env : Env) (op : BugOp) (old new : Files) (told : Id) → BugBegins env op old new told → HasOperation env.folder new told told
begun_has env op old new told step =
    let a = root_addition env.folder old op step.user in
    subst (HasOperation env.folder new told) (sym step.is_told)
    (has_operation env.folder new a.parents step.user a.pack.edit a.pack.create op env.moment.now told (addition_head env.moment.now a) _ step.head step.is.is.packs (Contains-first _ []))

-- and a longer one the new one
grown_has : (env : Env) (growth : Growth) (old new : Files) (told : Id) (step : BugGrows env growth old new told) → HasOperation env.folder new step.bug.bug.id told
grown_has env growth old new told step =
    let a = later_addition env.folder old step.op step.user step.bug.bug step.bug.entity.edit in
    subst (HasOperation env.folder new step.bug.bug.id) (sym step.is_told)
    (has_operation env.folder new a.parents step.user a.pack.edit a.pack.create step.op env.moment.now step.bug.bug.id (addition_head env.moment.now a) _ step.head step.is.is.packs
    (Contains-append_right step.bug.entity.packs _ _ (Contains-first _ [])))

-- the bug to which an edit added its operation, which has it now
pub record AddedTo (folder : List ℕ) (of : Edits) (old new : Files) (told : Id) : Type 0 where
  pub bug : Id
  pub is_id : IsId bug
  pub is : IsAddedTo folder old of told bug
  pub has : HasOperation folder new bug told

pub added_to : (env : Env) (of : Edits) (old new : Files) (told : Id) → Adds of → Steps env of old new told → AddedTo env.folder of old new told
added_to env (edit.UserNew name email) old new told adds step = absurd adds
added_to env (edit.UserEdit name email) old new told adds step = absurd adds
added_to env (edit.UserSet word) old new told adds step = absurd adds
added_to env (edit.New title message) old new told adds step = record {
  bug = told;
  is_id = subst IsId (sym step.is_told) (IsId-op_id (create_op env.moment title message));
  is = refl;
  has = begun_has env (create_op env.moment title message) old new told step;
}
added_to env (edit.OfBug word e) old new told adds step = record {
  bug = step.bug.bug.id;
  is_id = (edits_add_well env old e word).sized step.bug.bug step.bug.finds;
  is = (step.bug.bug.name, step.bug.finds);
  has = grown_has env (edit_growth env e word) old new told step;
}
added_to env (edit.OfComment word message) old new told adds (comment, step) = record {
  bug = step.bug.bug.id;
  is_id = (comments_add_well env old message word comment).sized step.bug.bug step.bug.finds;
  is = (step.bug.bug.name, comment, step.bug.finds);
  has = grown_has env (comment_growth env message word comment) old new told step;
}

-- ---- persons

-- the head of an identity is kept below
pub head_kept : (folder : List ℕ) (old new : Files) → LosesNothing folder old new → (of : Side) → IsOwnSide of → (id : Id) → IsId id → (head : Name) → head_at old folder of id ≡ Head head → KeepsBelow folder new of id head
head_kept folder old new kept of own id is_id head at = kept.heads of own id is_id head head at (at_top (Contains-first head []))

-- the id of a new person
pub person_id : (env : Env) (name : Title) (email : Line) → IsId (new_made env name email None).id
person_id env name email = IsId-version_id (new_text env name email)

-- and that of the user
pub user_id : (folder : List ℕ) (files : Files) (user : HasUser folder files) → IsId user.id
user_id folder files user = IsId-chain (objects_in files folder) user.id user.head user.chain
