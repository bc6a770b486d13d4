-- A head whose closure stands alike in two folders is in both the head of the same chain and of the same entity.
use Rattle.std.proofs.Common.{◌≡◌, false, [], ◌∷◌, refl, subst}
use Rattle.gb_text.specs.Digits.{IsName}
use Rattle.gb_text.specs.declared.id.Id.{Id}
use Rattle.gb_text.specs.declared.id.Name.{Name}
use Rattle.object_store.specs.Held.{Objects}
use Rattle.object_batch.specs.Needs.{Reference}
use Rattle.commit_walk.specs.Below.{IsBelow}
use Rattle.commit_walk.proofs.BelowLemmas.{below_below}
use Rattle.commit_walk.proofs.DistinctLemmas.{Contains-nil, Contains-one}
use Rattle.bug_ops.specs.Kind.{bug_kind}
use Rattle.bug_ops.specs.declared.op.BugOp.{BugOp}
use Rattle.dag_entity.specs.Agreeing.{SameNeeded}
use Rattle.dag_entity.specs.Faults.{EntityFaultHolds, HasUnknownAuthor}
use Rattle.dag_entity.specs.Nodes.{IsNodeBelow}
use Rattle.dag_entity.specs.declared.entity.Loaded.{Loaded}
use Rattle.dag_entity.specs.declared.fault.EntityFault.TheVariants.{AuthorUnknown}
use Rattle.dag_entity.proofs.AgreeFaults.{fault_over}
use Rattle.dag_entity.proofs.AgreeLemmas.{agree_back, below_over}
use Rattle.entity_copy.proofs.ChainLemmas.{same_chain}
use Rattle.entity_copy.proofs.NeededLemmas.{same_needed}
use Rattle.identity.specs.Persons.{IsChain}
use Rattle.identity.proofs.AgreeLemmas.{chain_too}
use Rattle.remote_copy.specs.Closure.{IsInClosure, StandsAlike, commit_named}
use Rattle.remote_copy.specs.Copies.{IsCopied}
use Rattle.remote_copy.proofs.KeptLemmas.{part_path}
use Rattle.remote_copy.proofs.TextLemmas.{text_at-name}
use Rattle.repo_state.specs.Sound.{HasNoFault}

module _ (source target : Objects) (head : Name) (alike : (one : Reference) → IsInClosure source head one → StandsAlike source target one) where
  -- all that a copy of it follows stands in the other folder
  copied : IsCopied false source target target head
  copied one followed = let at = part_path false source target head one followed in alike one (at.path, at.leads)

  -- the head is a name
  pub head-name : IsName head
  head-name = let s = alike (commit_named head) ([], refl) in text_at-name source head s.text s.held

  -- a chain without fault has none there
  pub chain-alike : (id : Id) → IsChain source id head → IsChain target id head
  chain-alike id chain = (chain_too source target head (same_chain source target target head copied) id chain).0

  -- the entity at the head needs the same in both
  needed : SameNeeded source target (head ∷ [])
  needed = same_needed source target target head copied

  needed_back : SameNeeded target source (head ∷ [])
  needed_back = agree_back source target (head ∷ []) needed

  -- nothing is wrong with an entity there with which nothing is wrong here
  pub no_fault-alike : (id : Id) → HasNoFault source id head → HasNoFault target id head
  no_fault-alike id sound f other holds = sound f other (fault_over target source (head ∷ []) needed_back bug_kind id [] f holds)

  -- each author there is one here
  pub author-alike : (node : Loaded BugOp) → IsNodeBelow bug_kind target (head ∷ []) node
      → (here : Loaded BugOp) × IsNodeBelow bug_kind source (head ∷ []) here × (here.placed.pack.author ≡ node.placed.pack.author)
  unfolding EntityFaultHolds
  author-alike node below =
      let author = node.placed.pack.author in
      let there : HasUnknownAuthor bug_kind target (head ∷ []) [] author = record { node = node; is = below; wrote = refl; unknown = Contains-nil author } in
      let here : HasUnknownAuthor bug_kind source (head ∷ []) [] author = fault_over target source (head ∷ []) needed_back bug_kind author [] (AuthorUnknown author) there in
      (here.node, here.is, here.wrote)

  -- what lies below a name that lies below the head here, lies there below the head
  pub below-alike : (middle name : Name) → IsBelow source (head ∷ []) middle → IsBelow target (middle ∷ []) name → IsBelow target (head ∷ []) name
  below-alike middle name high low =
      below_below target (head ∷ []) (middle ∷ []) name
      (λ one c. subst (IsBelow target (head ∷ [])) (Contains-one middle one c) (below_over source target (head ∷ []) needed middle high)) low
