-- A run makes one commit at most, and each operation stands once where each run makes operations that were nowhere.
use Rattle.std.proofs.Common.{◌≡◌, ◌⊎◌, inl, inr, refl, sym, ◌∙◌, ap, subst, ℕ, List, [], ◌∷◌, Some, None}
use Rattle.gb_text.specs.Digits.{IsId}
use Rattle.gb_text.specs.declared.id.Id.{Id}
use Rattle.gb_store.specs.Files.{Files, History, files_of}
use Rattle.bug_edits.specs.NewOps.{create_op, op_id}
use Rattle.bug_edits.specs.declared.moment.Moment.{Moment}
use Rattle.bug_ops.specs.Kind.{bug_kind}
use Rattle.bug_ops.specs.declared.op.BugOp.{BugOp}
use Rattle.dag_entity.specs.Appending.{appended_node}
use Rattle.dag_entity.specs.declared.entity.Entity.{Entity}
use Rattle.dag_entity.specs.declared.entity.Placed.{Placed}
use Rattle.repo_state.specs.Finds.{IsDetermined}
use Rattle.repo_state.specs.declared.comments.CommentEntry.{CommentEntry}
use Rattle.repo_state.specs.declared.side.HeadEntry.{HeadEntry}
use Rattle.repo_state.proofs.CommentLemmas.{comment_finder_is_determined}
use Rattle.repo_state.proofs.EmptyLemmas.{empty_is_sound}
use Rattle.repo_steps.specs.BugDoings.{Growth, comment_growth, edit_growth, later_addition, op_ids, root_addition}
use Rattle.repo_steps.specs.declared.env.Env.{Env}
use Rattle.repo_steps.specs.declared.plan.Addition.{Addition}
use Rattle.repo_steps.proofs.BugDoneLemmas.{ids_again}
use Rattle.repo_steps.proofs.ClearLemmas.{adds_one, bug_one, one_user}
use Rattle.repo_steps.proofs.RuleLemmas.{comments_add_well, edits_add_well}
use Rattle.words.specs.Words.{asked_of}
use Rattle.words.specs.declared.edit.Edit.{Edit as Edits}
use Rattle.words.specs.declared.edit.Edit.TheVariants as edit
use Rattle.words.specs.declared.words.Asked.{Asked}
use Rattle.words.specs.declared.words.Asked.TheVariants as asked
use Rattle.words.specs.declared.words.Command.TheVariants.{Edit}
use Rattle.words.specs.declared.words.Request.{Request}
use Rattle.bug_run.specs.Run.{env_at}
use Rattle.bug_run.specs.Runs.{AreAllSound, AreApart, IsRun, nothing, one_more}
use Rattle.bug_run.proofs.RunsLemmas.{runs_from_nothing, runs_lose_nothing}
use Rattle.full_exchanges.specs.Having.{HaveOneTextEach}
use Rattle.full_exchanges.proofs.ExchangeLemmas.{one_text_before}
use Rattle.full_exchanges.proofs.HasLemmas.{head_held}
use Rattle.exchange_runs.specs.Takes.{RunsAmong, TakesAmong}
use Rattle.exchange_runs.specs.Takes as among
use Rattle.exchange_runs.proofs.AmongLemmas.{are_runs}
use Rattle.operation_origins.specs.Once.{AreFresh, IsFresh, OneMade, StandOnce}
use Rattle.operation_origins.specs.Origins.{BeginningAdds, EditAdds, GrowthAdds, IsMade, IsThere, WasMade}
use Rattle.operation_origins.proofs.RunLemmas.{run_origins}

-- ---- one commit at most

module _ (env : Env) (files : Files) (one two : Addition) where
  -- what begins a bug
  begins_once : (op : BugOp) → BeginningAdds env op files one → BeginningAdds env op files two → one ≡ two
  begins_once op here there =
      here.is ∙ ap (λ (user : Id). root_addition env.folder files op user) (one_user env.folder files here.user there.user here.is_user there.is_user) ∙ sym there.is

  -- what a bug that is found gets
  grows_once : (growth : Growth) → IsDetermined (growth.finder files) → GrowthAdds env growth files one → GrowthAdds env growth files two → one ≡ two
  grows_once growth finds here there =
      here.is
      ∙ ap (λ (op : BugOp). later_addition env.folder files op here.user here.bug.bug here.bug.entity.edit) (adds_one env.folder files growth finds here.op there.op here.bug there.bug here.is_op there.is_op)
      ∙ ap (λ (user : Id). later_addition env.folder files there.op user here.bug.bug here.bug.entity.edit) (one_user env.folder files here.user there.user here.is_user there.is_user)
      ∙ ap (λ (bug : HeadEntry). later_addition env.folder files there.op there.user bug here.bug.entity.edit) bugs.0
      ∙ ap (λ (entity : Entity BugOp). later_addition env.folder files there.op there.user there.bug.bug entity.edit) bugs.1
      ∙ sym there.is
    where
      bugs : (here.bug.bug ≡ there.bug.bug) × (here.bug.entity ≡ there.bug.entity)
      bugs = bug_one env.folder files (growth.finder files) finds here.bug there.bug

  -- what an edit adds
  adds_once : (edits : Edits) → EditAdds env edits files one → EditAdds env edits files two → one ≡ two
  adds_once (edit.UserNew name email) here there = absurd here
  adds_once (edit.UserEdit name email) here there = absurd here
  adds_once (edit.UserSet word) here there = absurd here
  adds_once (edit.New title message) here there = begins_once (create_op env.moment title message) here there
  adds_once (edit.OfBug word e) here there = grows_once (edit_growth env e word) (edits_add_well env files e word).finds here there
  adds_once (edit.OfComment word message) (comment, here) (other, there) =
      let found = comment_finder_is_determined files env.folder word in
      let same : comment ≡ other = ap (λ (entry : CommentEntry). entry.comment)
      (found.one (record { bug = here.bug.bug; comment = comment }) (record { bug = there.bug.bug; comment = other }) here.bug.finds there.bug.finds) in
      grows_once (comment_growth env message word other) (comments_add_well env files message word other).finds
      (subst (λ (c : Id). GrowthAdds env (comment_growth env message word c) files one) same here) there

-- what is added has one operation
module _ (env : Env) where
  abbrev HasOne : Addition → Type 0
  HasOne a = (op : Id) × (op_ids (appended_node bug_kind a.parents a.pack env.moment.now).placed.pack.ops ≡ op ∷ [])

  -- that with which a bug begins
  begins_operation : (op : BugOp) (files : Files) (a : Addition) → BeginningAdds env op files a → HasOne a
  begins_operation op files a adds =
      let b = root_addition env.folder files op adds.user in
      subst HasOne (sym adds.is) (op_id op, ids_again b.parents adds.user b.pack.edit b.pack.create op env.moment.now)

  -- that which a bug gets
  grows_operation : (growth : Growth) (files : Files) (a : Addition) → GrowthAdds env growth files a → HasOne a
  grows_operation growth files a adds =
      let b = later_addition env.folder files adds.op adds.user adds.bug.bug adds.bug.entity.edit in
      subst HasOne (sym adds.is) (op_id adds.op, ids_again b.parents adds.user b.pack.edit b.pack.create adds.op env.moment.now)

-- what was asked for is one edit in one folder
same_edit : (folder place : List ℕ) (one two : Edits) → asked.Request (record { folder = folder; command = Edit one }) ≡ asked.Request (record { folder = place; command = Edit two })
    → (folder ≡ place) × (one ≡ two)
same_edit folder place one two e =
    let here : Request = record { folder = folder; command = Edit one } in
    let there : Request = record { folder = place; command = Edit two } in
    let requests : here ≡ there = cc in
    let commands : Edit one ≡ Edit two = ap (λ (r : Request). r.command) requests in
    let edits : one ≡ two = cc in
    (ap (λ (r : Request). r.folder) requests, edits)

-- so one commit of one bug is made
pub made_once : (folders : List (List ℕ)) (asks : Asked) (moment : Moment) (files : Files) (bug other : Id) (one two : Placed BugOp) → IsMade folders asks moment files bug one → IsMade folders asks moment files other two
    → (bug ≡ other) × (one ≡ two)
made_once folders asks moment files bug other one two here there =
    (sym here.of_bug ∙ ap (λ (a : Addition). a.bug) additions ∙ there.of_bug, here.commit ∙ ap (λ (a : Addition). (appended_node bug_kind a.parents a.pack moment.now).placed) additions ∙ sym there.commit)
  where
    same : (here.folder ≡ there.folder) × (here.edits ≡ there.edits)
    same = same_edit here.folder there.folder here.edits there.edits (sym here.asked_for ∙ there.asked_for)

    adds : EditAdds (env_at moment there.folder) there.edits files here.addition
    adds = subst (λ (e : Edits). EditAdds (env_at moment there.folder) e files here.addition) same.1 (subst (λ (f : List ℕ). EditAdds (env_at moment f) here.edits files here.addition) same.0 here.adds)

    additions : here.addition ≡ there.addition
    additions = adds_once (env_at moment there.folder) files here.addition there.addition there.edits adds there.adds

-- with one operation
adds_operation : (env : Env) (edits : Edits) (files : Files) (a : Addition) → EditAdds env edits files a → (op : Id) × (op_ids (appended_node bug_kind a.parents a.pack env.moment.now).placed.pack.ops ≡ op ∷ [])
adds_operation env (edit.UserNew name email) files a adds = absurd adds
adds_operation env (edit.UserEdit name email) files a adds = absurd adds
adds_operation env (edit.UserSet word) files a adds = absurd adds
adds_operation env (edit.New title message) files a adds = begins_operation env (create_op env.moment title message) files a adds
adds_operation env (edit.OfBug word e) files a adds = grows_operation env (edit_growth env e word) files a adds
adds_operation env (edit.OfComment word message) files a (comment, adds) = grows_operation env (comment_growth env message word comment) files a adds

-- so what is made has one
pub one_operation : (folders : List (List ℕ)) (asks : Asked) (moment : Moment) (files : Files) (id : Id) (placed : Placed BugOp) → IsMade folders asks moment files id placed
    → (op : Id) × (op_ids placed.pack.ops ≡ op ∷ [])
one_operation folders asks moment files id placed made =
    let added = adds_operation (env_at moment made.folder) made.edits files made.addition made.adds in
    (added.0, ap (λ (p : Placed BugOp). op_ids p.pack.ops) made.commit ∙ added.1)

-- ---- any number of runs

-- nothing is there where no file is
none_there : (folders : List (List ℕ)) (id : Id) (placed : Placed BugOp) → IsId id → IsThere (files_of []) folders id placed → ⊥
none_there folders id placed is_id there =
    let held = head_held (files_of []) there.folder there.of id there.has.head (empty_is_sound there.folder (files_of []) (λ place. refl)) is_id there.has.is_head in
    let none : None ≡ Some held.object = held.is in
    cc none

module _ (folders : List (List ℕ)) (apart : AreApart folders) where
  -- where a run keeps it so
  pub stands_then : (old new : History) (run : IsRun folders old new) → TakesAmong folders (asked_of run.words) → AreAllSound folders (files_of old) → HaveOneTextEach (files_of new) folders
      → IsFresh folders old new run → StandOnce (files_of old) folders → StandOnce (files_of new) folders
  stands_then old new run takes sound one_text fresh stand bug other one two is_bug is_other here there share =
      by (run_origins folders apart old new run takes sound one_text bug is_bug one here) (run_origins folders apart old new run takes sound one_text other is_other two there)
    where
      by : IsThere (files_of old) folders bug one ⊎ WasMade folders old new run bug one → IsThere (files_of old) folders other two ⊎ WasMade folders old new run other two → (bug ≡ other) × (one ≡ two)
      by (inl was) (inl also) = stand bug other one two is_bug is_other was also share
      by (inl was) (inr made) = absurd (fresh other bug two one is_bug made was (record { op = share.op; in_one = share.in_two; in_two = share.in_one }))
      by (inr made) (inl was) = absurd (fresh bug other one two is_other made was share)
      by (inr made) (inr also) = made_once folders (asked_of run.words) run.moment (files_of old) bug other one two made also

  -- what was before the last of runs
  pub before_text : (mid new : History) → IsRun folders mid new → HaveOneTextEach (files_of new) folders → HaveOneTextEach (files_of mid) folders
  before_text mid new run one_text = one_text_before folders mid new (λ folder is. (runs_lose_nothing folders apart folder is mid new (one_more mid new nothing run)).objects) one_text

  -- and then each folder is sound
  pub before_sound : (mid : History) → RunsAmong folders [] mid → AreAllSound folders (files_of mid)
  before_sound mid runs = runs_from_nothing folders apart mid (are_runs folders [] mid runs)

  -- from no files, each commit that is there was made by one of the runs
  pub one_made : (new : History) (runs : RunsAmong folders [] new) → HaveOneTextEach (files_of new) folders → (id : Id) → IsId id → (placed : Placed BugOp) → IsThere (files_of new) folders id placed
      → OneMade folders [] new runs id placed
  one_made new among.nothing one_text id is_id placed there = none_there folders id placed is_id there
  one_made new (among.one_more mid end runs run takes) one_text id is_id placed there =
      elim (run_origins folders apart mid end run takes (before_sound mid runs) one_text id is_id placed there) [
        | inl was ↦ inl (one_made mid runs (before_text mid end run one_text) id is_id placed was)
        | inr made ↦ inr made
      ]

  -- and each operation stands once where each run is fresh
  pub all_stand : (new : History) (runs : RunsAmong folders [] new) → HaveOneTextEach (files_of new) folders → AreFresh folders [] new runs → StandOnce (files_of new) folders
  all_stand new among.nothing one_text fresh = λ bug other one two is_bug is_other here there share. absurd (none_there folders bug one is_bug here)
  all_stand new (among.one_more mid end runs run takes) one_text fresh =
      stands_then mid end run takes (before_sound mid runs) one_text fresh.1 (all_stand mid runs (before_text mid end run one_text) fresh.0)
