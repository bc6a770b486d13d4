-- Whether the chain from a head passes a name: the single parent of a commit, and where a search has come.
use Rattle.std.specs.Prelude.{◌≡◌, ◌≤◌, ◌+◌, ◌↔◌, ℕ, List, [], ◌∷◌, length, Option, Some, None, Bool, IsTrue}
use Rattle.gb_text.specs.declared.id.Name.{Name}
use Rattle.git_object.specs.declared.commit.Commit.{Commit}
use Rattle.object_store.specs.Held.{Objects}
use Rattle.object_store.specs.Typed.{commit_at}
use Rattle.commit_walk.specs.Chain.{Chain, IsLink, Meets}
use Rattle.commit_walk.specs.declared.chain.Link.{Link}

-- the chain passes the name
abbrev pub PassesAnswers : Objects → Name → Name → Bool → Type 0
PassesAnswers objects head sought passed = IsTrue passed ↔ Meets objects head sought

-- where the chain passes the name, at most the commits above it were read
abbrev pub ReadsAbove : Objects → Name → Name → ℕ → ℕ → Type 0
ReadsAbove objects head sought before after = (met : Meets objects head sought) → after ≤ before + length met.above

-- the name holds a commit with this single parent, or none with a single one
abbrev pub HasParent : Objects → Name → Option Name → Type 0
HasParent objects name (Some parent) = (link : Link) × (link.name ≡ name) × IsLink objects link (parent ∷ [])
HasParent objects name None = (parent : Name) (commit : Commit) → commit_at objects name ≡ Some commit → commit.parents ≡ parent ∷ [] → ⊥

-- so many steps lead from the head to the name, and the sought one was not met before
pub record HasCome (objects : Objects) (head sought name : Name) (steps : ℕ) : Type 0 where
  pub above : List Link
  pub chain : Chain objects head above name
  pub count : length above ≡ steps
  pub not_before : (met : Meets objects head sought) → steps ≤ length met.above
