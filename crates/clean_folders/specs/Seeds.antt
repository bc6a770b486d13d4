-- The seeds of runs that make operations, and the texts whose hashes tell these operations apart.
use Rattle.std.specs.Prelude.{◌≡◌, ◌⊎◌, ⊤, ℕ, List, [], ◌∷◌, ◌++◌, Contains}
use Rattle.gb_text.specs.declared.id.Id.{Id}
use Rattle.gb_store.specs.Files.{History}
use Rattle.bug_ops.specs.Kind.{bug_kind}
use Rattle.bug_ops.specs.declared.op.BugOp.{BugOp}
use Rattle.dag_entity.specs.declared.entity.Placed.{Placed}
use Rattle.bug_run.specs.Runs.{IsRun}
use Rattle.exchange_runs.specs.Takes.{RunsAmong}
use Rattle.exchange_runs.specs.Takes as among
use Rattle.operation_origins.specs.Origins.{WasMade}
use Rattle.operation_seeds.specs.Collisions.{Collide}

-- a run makes an operation: this is its commit
pub record MakesOne (folders : List (List ℕ)) (old new : History) (run : IsRun folders old new) : Type 0 where
  pub bug : Id
  pub placed : Placed BugOp
  pub made : WasMade folders old new run bug placed

-- one of these runs makes an operation with this seed
abbrev pub IsSeed : (folders : List (List ℕ)) (old new : History) → RunsAmong folders old new → List ℕ → Type 0
IsSeed folders old new among.nothing seed = ⊥
IsSeed folders old new (among.one_more mid end runs run takes) seed = IsSeed folders old mid runs seed ⊎ (MakesOne folders mid end run × (run.moment.seed ≡ seed))

-- the seeds are unlike: no run makes an operation with the seed of one before it
abbrev pub HaveUnlikeSeeds : (folders : List (List ℕ)) (old new : History) → RunsAmong folders old new → Type 0
HaveUnlikeSeeds folders old new among.nothing = ⊤
HaveUnlikeSeeds folders old new (among.one_more mid end runs run takes) =
    HaveUnlikeSeeds folders old mid runs × (MakesOne folders mid end run → IsSeed folders old mid runs run.moment.seed → ⊥)

-- a text that a run hashes for the operation that it makes: the operation as it is written, or the seed with a zero byte, whose hash is the nonce
pub record Hashes (folders : List (List ℕ)) (old new : History) (run : IsRun folders old new) (text : List ℕ) : Type 0 where
  pub one : MakesOne folders old new run
  pub op : BugOp
  pub is_op : Contains one.made.addition.pack.ops op
  pub is : (text ≡ bug_kind.written op) ⊎ (text ≡ run.moment.seed ++ 0 ∷ [])

-- one of these runs hashes it
abbrev pub IsHashed : (folders : List (List ℕ)) (old new : History) → RunsAmong folders old new → List ℕ → Type 0
IsHashed folders old new among.nothing text = ⊥
IsHashed folders old new (among.one_more mid end runs run takes) text = IsHashed folders old mid runs text ⊎ Hashes folders mid end run text

-- no two of these texts that differ have one SHA-256
abbrev pub HaveNoCollision : (folders : List (List ℕ)) (old new : History) → RunsAmong folders old new → Type 0
HaveNoCollision folders old new runs = (one two : List ℕ) → IsHashed folders old new runs one → IsHashed folders old new runs two → Collide one two → ⊥
