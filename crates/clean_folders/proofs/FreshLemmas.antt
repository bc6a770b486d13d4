-- Runs with unlike seeds make operations that were nowhere, unless two of their texts have one hash.
use Rattle.std.proofs.Common.{◌≡◌, ◌≢◌, ◌⊎◌, inl, inr, refl, sym, ◌∙◌, subst, ℕ, List, [], ◌∷◌, ◌++◌, Contains}
use Rattle.commit_walk.proofs.DistinctLemmas.{Contains-one}
use Rattle.gb_text.specs.declared.id.Id.{Id}
use Rattle.gb_store.specs.Files.{History, files_of}
use Rattle.bug_edits.specs.NewOps.{IsOfTheMoment, op_id}
use Rattle.bug_edits.specs.declared.moment.Moment.{Moment}
use Rattle.bug_ops.specs.Kind.{bug_kind}
use Rattle.bug_ops.specs.declared.op.BugOp.{BugOp}
use Rattle.dag_entity.specs.declared.entity.Placed.{Placed}
use Rattle.repo_steps.specs.BugDoings.{op_ids}
use Rattle.words.specs.Words.{asked_of}
use Rattle.bug_run.specs.Runs.{AreApart, IsRun}
use Rattle.full_exchanges.specs.Having.{HaveOneTextEach}
use Rattle.exchange_runs.specs.Takes.{RunsAmong, TakesAmong}
use Rattle.exchange_runs.specs.Takes as among
use Rattle.operation_origins.specs.Once.{AreFresh, IsFresh, OneMade}
use Rattle.operation_origins.proofs.OnceLemmas.{before_text, one_made}
use Rattle.operation_seeds.specs.Collisions.{Collide}
use Rattle.operation_seeds.proofs.SeedLemmas.{unlike}
use Rattle.clean_folders.specs.Seeds.{HaveNoCollision, HaveUnlikeSeeds, IsHashed, IsSeed, MakesOne}
use Rattle.clean_folders.proofs.MadeLemmas.{IsNewOf, run_new}

-- what one of these runs made: one operation of a moment, with its texts, and the commit tells its id
record IsNewOfOne (folders : List (List ℕ)) (old new : History) (runs : RunsAmong folders old new) (placed : Placed BugOp) : Type 0 where
  moment : Moment
  op : BugOp
  of_moment : IsOfTheMoment moment op
  rules : bug_kind.KeepsRules op
  ids : op_ids placed.pack.ops ≡ op_id op ∷ []
  seed : IsSeed folders old new runs moment.seed
  hashes_op : IsHashed folders old new runs (bug_kind.written op)
  hashes_seed : IsHashed folders old new runs (moment.seed ++ 0 ∷ [])

-- each commit that one of them made is so
one_new : (folders : List (List ℕ)) (old new : History) (runs : RunsAmong folders old new) (id : Id) (placed : Placed BugOp) → OneMade folders old new runs id placed → IsNewOfOne folders old new runs placed
one_new folders old new among.nothing id placed made = absurd made
one_new folders old new (among.one_more mid end runs run takes) id placed (inl earlier) =
    let was = one_new folders old mid runs id placed earlier in
    record {
      moment = was.moment;
      op = was.op;
      of_moment = was.of_moment;
      rules = was.rules;
      ids = was.ids;
      seed = inl was.seed;
      hashes_op = inl was.hashes_op;
      hashes_seed = inl was.hashes_seed;
    }
one_new folders old new (among.one_more mid end runs run takes) id placed (inr made) =
    let is = run_new folders mid end run id placed made in
    record {
      moment = run.moment;
      op = is.op;
      of_moment = is.of_moment;
      rules = is.rules;
      ids = is.ids;
      seed = inr (record { bug = id; placed = placed; made = made }, refl);
      hashes_op = inr is.hashes_op;
      hashes_seed = inr is.hashes_seed;
    }

-- two commits of one operation each that share an id tell one id
one_id : (here there : List Id) (one two id : Id) → here ≡ one ∷ [] → there ≡ two ∷ [] → Contains here id → Contains there id → one ≡ two
one_id here there one two id is_here is_there c d =
    Contains-one one id (subst (λ (ids : List Id). Contains ids id) is_here c) ∙ sym (Contains-one two id (subst (λ (ids : List Id). Contains ids id) is_there d))

module _ (folders : List (List ℕ)) (apart : AreApart folders) where
  -- a run behind others is fresh
  run_fresh : (mid end : History) (runs : RunsAmong folders [] mid) (run : IsRun folders mid end) (takes : TakesAmong folders (asked_of run.words)) → HaveOneTextEach (files_of mid) folders
      → (MakesOne folders mid end run → IsSeed folders [] mid runs run.moment.seed → ⊥) → HaveNoCollision folders [] end (among.one_more mid end runs run takes) → IsFresh folders mid end run
  run_fresh mid end runs run takes one_text unlike_seed none bug other made was is_other makes there share =
      by (unlike run.moment before.moment new.op before.op new.of_moment before.of_moment new.rules before.rules differ
      (one_id (op_ids made.pack.ops) (op_ids was.pack.ops) (op_id new.op) (op_id before.op) share.op new.ids before.ids share.in_one share.in_two))
    where
      new : IsNewOf folders mid end run made
      new = run_new folders mid end run bug made makes

      before : IsNewOfOne folders [] mid runs was
      before = one_new folders [] mid runs other was (one_made folders apart mid runs one_text other is_other was there)

      differ : run.moment.seed ≢ before.moment.seed
      differ same = unlike_seed (record { bug = bug; placed = made; made = makes }) (subst (IsSeed folders [] mid runs) (sym same) before.seed)

      by : Collide (bug_kind.written new.op) (bug_kind.written before.op) ⊎ Collide (run.moment.seed ++ 0 ∷ []) (before.moment.seed ++ 0 ∷ []) → ⊥
      by (inl collide) = none (bug_kind.written new.op) (bug_kind.written before.op) (inr new.hashes_op) (inl before.hashes_op) collide
      by (inr collide) = none (run.moment.seed ++ 0 ∷ []) (before.moment.seed ++ 0 ∷ []) (inr new.hashes_seed) (inl before.hashes_seed) collide

  -- so each of them is
  pub runs_fresh : (new : History) (runs : RunsAmong folders [] new) → HaveOneTextEach (files_of new) folders → HaveUnlikeSeeds folders [] new runs → HaveNoCollision folders [] new runs
      → AreFresh folders [] new runs
  runs_fresh new among.nothing one_text seeds none = tt
  runs_fresh new (among.one_more mid end runs run takes) one_text seeds none =
      let before = before_text folders apart mid end run one_text in
      (runs_fresh mid runs before seeds.0 (λ one two first second. none one two (inl first) (inl second)), run_fresh mid end runs run takes before seeds.1 none)
