-- The seeds of runs that make identities, and the texts whose hashes tell these identities apart.
use Rattle.std.specs.Prelude.{◌≡◌, ◌⊎◌, ⊤, ℕ, List, [], ◌∷◌, ◌++◌}
use Rattle.gb_text.specs.declared.id.Id.{Id}
use Rattle.gb_store.specs.Files.{History}
use Rattle.repo_steps.specs.PeopleDoings.{new_text}
use Rattle.bug_run.specs.Run.{env_at}
use Rattle.bug_run.specs.Runs.{IsRun}
use Rattle.exchange_runs.specs.Takes.{RunsAmong}
use Rattle.exchange_runs.specs.Takes as among
use Rattle.operation_seeds.specs.Collisions.{Collide}
use Rattle.identity_runs.specs.Homes.{MakesPerson}

-- a run makes an identity
pub record MakesOne (folders : List (List ℕ)) (old new : History) (run : IsRun folders old new) : Type 0 where
  pub id : Id
  pub folder : List ℕ
  pub makes : MakesPerson folders old new run id folder

-- one of these runs makes an identity with this seed
abbrev pub IsSeed : (folders : List (List ℕ)) (old new : History) → RunsAmong folders old new → List ℕ → Type 0
IsSeed folders old new among.nothing seed = ⊥
IsSeed folders old new (among.one_more mid end runs run takes) seed = IsSeed folders old mid runs seed ⊎ (MakesOne folders mid end run × (run.moment.seed ≡ seed))

-- the seeds are unlike: no run makes an identity with the seed of one before it
abbrev pub MakePeopleOfUnlikeSeeds : (folders : List (List ℕ)) (old new : History) → RunsAmong folders old new → Type 0
MakePeopleOfUnlikeSeeds folders old new among.nothing = ⊤
MakePeopleOfUnlikeSeeds folders old new (among.one_more mid end runs run takes) =
    MakePeopleOfUnlikeSeeds folders old mid runs × (MakesOne folders mid end run → IsSeed folders old mid runs run.moment.seed → ⊥)

-- a text that a run hashes for the identity that it makes: that of its first version, whose hash is the id, or the seed with a zero byte, whose hash is the nonce
pub record Hashes (folders : List (List ℕ)) (old new : History) (run : IsRun folders old new) (text : List ℕ) : Type 0 where
  pub one : MakesOne folders old new run
  pub is : (text ≡ new_text (env_at run.moment one.folder) one.makes.name one.makes.email) ⊎ (text ≡ run.moment.seed ++ 0 ∷ [])

-- one of these runs hashes it
abbrev pub IsHashed : (folders : List (List ℕ)) (old new : History) → RunsAmong folders old new → List ℕ → Type 0
IsHashed folders old new among.nothing text = ⊥
IsHashed folders old new (among.one_more mid end runs run takes) text = IsHashed folders old mid runs text ⊎ Hashes folders mid end run text

-- no two of these texts that differ have one SHA-256
abbrev pub MakePeopleWithoutCollision : (folders : List (List ℕ)) (old new : History) → RunsAmong folders old new → Type 0
MakePeopleWithoutCollision folders old new runs = (one two : List ℕ) → IsHashed folders old new runs one → IsHashed folders old new runs two → Collide one two → ⊥
