-- What a step of a walk along a chain says of the whole walk.
use Rattle.std.proofs.Common.{◌≡◌, inl, inr, ◌≤◌, List, length, Option, Some, None, Ok, Err, sym, ◌∙◌, ap, subst, arith}
use Rattle.std.proofs.lemmas.Option.{same_Some}
use Rattle.gb_text.specs.declared.id.Name.{Name}
use Rattle.git_object.specs.declared.commit.Commit.{Commit}
use Rattle.object_store.specs.Held.{Objects}
use Rattle.object_store.specs.Typed.{commit_at}
use Rattle.commit_walk.specs.Chain.{Chain, IsTooLong, Meets, MeetsMerge}
use Rattle.commit_walk.specs.ChainAnswers.{ChainRefused, LinkAnswers, parents_of}
use Rattle.commit_walk.specs.declared.chain.Link.{Link}
use Rattle.commit_walk.specs.declared.fault.WalkFault.TheVariants as fault
use Rattle.commit_walk.specs.declared.fault.ChainStop.{ChainStop}
use Rattle.commit_walk.specs.declared.fault.ChainStop.TheVariants as stop
use Rattle.commit_walk.proofs.ChainLemmas.{no_merge}
use Rattle.commit_walk.proofs.FaultLemmas.{fault_at, holds_none}

-- what a step refuses the walk refuses
pub ChainRefused-step : (objects : Objects) (head : Name) (above : List Link) (name : Name) (s : ChainStop) → Chain objects head above name → length above ≤ 65536
    → LinkAnswers objects name (Err s) → ChainRefused objects head s
ChainRefused-step objects head above name stop.Memory chain near h = tt
ChainRefused-step objects head above name stop.Disk chain near h = tt
ChainRefused-step objects head above name (stop.Merge n) chain near h =
    let merge : MeetsMerge objects head name = record { meets = record { above = above; chain = chain; near = near }; commit = h.1.commit; held = h.1.held; many = h.1.many } in
    rw h.0 merge
ChainRefused-step objects head above name (stop.Fault f) chain near h =
    let none = holds_none objects name f h in
    let no_commit : (c : Commit) → commit_at objects name ≡ Some c → ⊥ = λ c e. cc (sym none ∙ e) in (
      no_merge objects head above name chain (λ c e. absurd (no_commit c e)) (inr (λ p c e has. no_commit c e)),
      fault_at objects (Meets objects head) (IsTooLong objects head) name f (record { above = above; chain = chain; near = near }) h,
    )

-- one commit more than 65,536 is too long a walk, which meets no merge
pub ChainRefused-too_long : (objects : Objects) (head : Name) (above : List Link) (name : Name) (step : Link × Option Name) → Chain objects head above name → length above ≡ 65536
    → LinkAnswers objects name (Ok step) → ChainRefused objects head (stop.Fault fault.TooMany)
ChainRefused-too_long objects head above name step chain far h =
    let held : commit_at objects name ≡ Some h.1.commit = ap (commit_at objects) (sym h.0) ∙ h.1.held in
    let few : length h.1.commit.parents ≤ 1 = rw (sym h.1.parents) (one_at_most step.1) in (
      no_merge objects head above name chain (λ c e. subst (λ (c : Commit). length c.parents ≤ 1) (same_Some h.1.commit c (sym held ∙ e)) few) (inl far),
      record { above = above; name = name; commit = h.1.commit; chain = chain; far = far; held = held },
    )
  where
    one_at_most : (o : Option Name) → length (parents_of o) ≤ 1
    one_at_most None = omega arith
    one_at_most (Some p) = omega arith
