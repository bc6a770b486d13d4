-- Operations that stand once, and the runs that keep them so.
use Rattle.std.specs.Prelude.{◌≡◌, ◌⊎◌, ⊤, ℕ, List, Contains}
use Rattle.gb_text.specs.Digits.{IsId}
use Rattle.gb_text.specs.declared.id.Id.{Id}
use Rattle.gb_store.specs.Files.{Files, History, files_of}
use Rattle.bug_ops.specs.declared.op.BugOp.{BugOp}
use Rattle.bug_run.specs.Runs.{IsRun}
use Rattle.dag_entity.specs.declared.entity.Placed.{Placed}
use Rattle.repo_steps.specs.BugDoings.{op_ids}
use Rattle.exchange_runs.specs.Takes.{RunsAmong}
use Rattle.exchange_runs.specs.Takes as among
use Rattle.operation_origins.specs.Origins.{IsThere, WasMade}

-- one of these runs made this commit of the bug with this id
abbrev pub OneMade : (folders : List (List ℕ)) (old new : History) → RunsAmong folders old new → Id → Placed BugOp → Type 0
OneMade folders old new among.nothing id placed = ⊥
OneMade folders old new (among.one_more mid end runs run takes) id placed = OneMade folders old mid runs id placed ⊎ WasMade folders mid end run id placed

-- two commits share the id of an operation
pub record ShareAnId (one two : Placed BugOp) : Type 0 where
  pub op : Id
  pub in_one : Contains (op_ids one.pack.ops) op
  pub in_two : Contains (op_ids two.pack.ops) op

-- each operation stands once: two operation commits that are there, of whatever bugs, and share the id of an operation are one commit of one bug
abbrev pub StandOnce : Files → List (List ℕ) → Type 0
StandOnce files folders =
    (bug other : Id) (one two : Placed BugOp) → IsId bug → IsId other → IsThere files folders bug one → IsThere files folders other two → ShareAnId one two
    → (bug ≡ other) × (one ≡ two)

-- what a run makes shares the id of no operation that was there
abbrev pub IsFresh : (folders : List (List ℕ)) (old new : History) → IsRun folders old new → Type 0
IsFresh folders old new run =
    (bug other : Id) (made was : Placed BugOp) → IsId other → WasMade folders old new run bug made → IsThere (files_of old) folders other was → ShareAnId made was → ⊥

-- so it is of each of some runs
abbrev pub AreFresh : (folders : List (List ℕ)) (old new : History) → RunsAmong folders old new → Type 0
AreFresh folders old new among.nothing = ⊤
AreFresh folders old new (among.one_more mid end runs run takes) = AreFresh folders old mid runs × IsFresh folders mid end run
