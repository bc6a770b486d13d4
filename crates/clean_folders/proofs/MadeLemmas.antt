-- What a run makes has one operation, of the run's moment, which keeps the rules of bugs' operations.
use Rattle.std.proofs.Common.{◌≡◌, inl, inr, refl, sym, ◌∙◌, ap, subst, ℕ, List, [], ◌∷◌, ◌++◌, Contains, Result, Ok}
use Rattle.commit_walk.proofs.DistinctLemmas.{Contains-first}
use Rattle.gb_text.specs.declared.id.Id.{Id}
use Rattle.gb_store.specs.Files.{Files, History, files_of}
use Rattle.bug_edits.specs.NewOps.{IsOfTheMoment, create_op, edited_comment_op, op_id}
use Rattle.bug_edits.specs.declared.edit.NoChange.{NoChange}
use Rattle.bug_edits.specs.declared.moment.Moment.{Moment}
use Rattle.bug_edits.proofs.EditLemmas.{begun_keeps, of_the_moment}
use Rattle.bug_ops.specs.Kind.{bug_kind}
use Rattle.bug_ops.specs.declared.op.BugOp.{BugOp}
use Rattle.bug_ops.specs.declared.snapshot.Snapshot.{Snapshot}
use Rattle.dag_entity.specs.Appending.{appended_node}
use Rattle.dag_entity.specs.declared.entity.Placed.{Placed}
use Rattle.repo_steps.specs.BugDoings.{Growth, bug_says, comment_growth, edit_growth, later_addition, op_ids, root_addition}
use Rattle.repo_steps.specs.declared.env.Env.{Env}
use Rattle.repo_steps.specs.declared.plan.Addition.{Addition}
use Rattle.repo_steps.proofs.BugDoneLemmas.{ids_again}
use Rattle.repo_steps.proofs.RuleLemmas.{AddsWell, comments_add_well, edits_add_well, same_op}
use Rattle.words.specs.Words.{asked_of}
use Rattle.words.specs.declared.edit.Edit.{Edit as Edits}
use Rattle.words.specs.declared.edit.Edit.TheVariants as edit
use Rattle.words.specs.declared.words.Asked.{Asked}
use Rattle.bug_run.specs.Run.{env_at}
use Rattle.bug_run.specs.Runs.{IsRun}
use Rattle.operation_origins.specs.Origins.{BeginningAdds, EditAdds, GrowthAdds, IsMade, WasMade}
use Rattle.clean_folders.specs.Seeds.{Hashes, MakesOne}

-- an addition has one operation, of a moment, which keeps the rules; and the commit tells its id
pub record AddsNew (moment : Moment) (addition : Addition) : Type 0 where
  pub op : BugOp
  pub is_op : Contains addition.pack.ops op
  pub of_moment : IsOfTheMoment moment op
  pub rules : bug_kind.KeepsRules op
  pub ids : op_ids (appended_node bug_kind addition.parents addition.pack moment.now).placed.pack.ops ≡ op_id op ∷ []

module _ (env : Env) (files : Files) (addition : Addition) where
  -- what begins a bug
  begins_new : (op : BugOp) → IsOfTheMoment env.moment op → bug_kind.KeepsRules op → BeginningAdds env op files addition → AddsNew env.moment addition
  begins_new op of_moment rules adds =
      let a = root_addition env.folder files op adds.user in
      subst (AddsNew env.moment) (sym adds.is) (record {
        op = op;
        is_op = Contains-first op [];
        of_moment = of_moment;
        rules = rules;
        ids = ids_again a.parents adds.user a.pack.edit a.pack.create op env.moment.now;
      })

  -- what a bug gets
  grows_new : (growth : Growth) → AddsWell env files growth → ((op : BugOp) (bug : Snapshot) → growth.adds bug ≡ Ok op → IsOfTheMoment env.moment op) → GrowthAdds env growth files addition
      → AddsNew env.moment addition
  grows_new growth well of_moment adds =
      let a = later_addition env.folder files adds.op adds.user adds.bug.bug adds.bug.entity.edit in
      subst (AddsNew env.moment) (sym adds.is) (record {
        op = adds.op;
        is_op = Contains-first adds.op [];
        of_moment = of_moment adds.op (bug_says adds.bug.entity) adds.is_op;
        rules = well.keeps adds.op adds.bug adds.is_op;
        ids = ids_again a.parents adds.user a.pack.edit a.pack.create adds.op env.moment.now;
      })

  -- what an edit adds
  edit_new : (edits : Edits) → EditAdds env edits files addition → AddsNew env.moment addition
  edit_new (edit.UserNew name email) adds = absurd adds
  edit_new (edit.UserEdit name email) adds = absurd adds
  edit_new (edit.UserSet word) adds = absurd adds
  edit_new (edit.New title message) adds =
      begins_new (create_op env.moment title message) (record { time = refl; nonce = refl; bare = refl; no_files = refl }) (begun_keeps env.moment title message) adds
  edit_new (edit.OfBug word e) adds =
      grows_new (edit_growth env e word) (edits_add_well env files e word) (λ op bug is. of_the_moment env.moment e bug op is) adds
  edit_new (edit.OfComment word message) (comment, adds) =
      grows_new (comment_growth env message word comment) (comments_add_well env files message word comment)
      (λ op bug is. subst (IsOfTheMoment env.moment) (same_op (edited_comment_op env.moment comment message) op is) (record { time = refl; nonce = refl; bare = refl; no_files = refl })) adds

-- what was made where something was asked for
pub made_new : (folders : List (List ℕ)) (asks : Asked) (moment : Moment) (files : Files) (id : Id) (placed : Placed BugOp) → (made : IsMade folders asks moment files id placed) → AddsNew moment made.addition
made_new folders asks moment files id placed made = edit_new (env_at moment made.folder) files made.addition made.edits made.adds

-- What a run made: one operation, with its texts, and the commit tells its id.
pub record IsNewOf (folders : List (List ℕ)) (old new : History) (run : IsRun folders old new) (placed : Placed BugOp) : Type 0 where
  pub op : BugOp
  pub of_moment : IsOfTheMoment run.moment op
  pub rules : bug_kind.KeepsRules op
  pub ids : op_ids placed.pack.ops ≡ op_id op ∷ []
  pub hashes_op : Hashes folders old new run (bug_kind.written op)
  pub hashes_seed : Hashes folders old new run (run.moment.seed ++ 0 ∷ [])

pub run_new : (folders : List (List ℕ)) (old new : History) (run : IsRun folders old new) (id : Id) (placed : Placed BugOp) → WasMade folders old new run id placed → IsNewOf folders old new run placed
run_new folders old new run id placed made = record {
  op = is.op;
  of_moment = is.of_moment;
  rules = is.rules;
  ids = ap (λ (p : Placed BugOp). op_ids p.pack.ops) made.commit ∙ is.ids;
  hashes_op = record { one = one; op = is.op; is_op = is.is_op; is = inl refl };
  hashes_seed = record { one = one; op = is.op; is_op = is.is_op; is = inr refl };
}
  where
    one : MakesOne folders old new run
    one = record { bug = id; placed = placed; made = made }

    is : AddsNew run.moment made.addition
    is = made_new folders (asked_of run.words) run.moment (files_of old) id placed made
