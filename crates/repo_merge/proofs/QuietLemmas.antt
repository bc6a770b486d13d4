-- Calls that write nothing and read no object.
use Rattle.std.proofs.Common.{◌≡◌, ◌≤◌, ◌<◌, arith, ℕ, List, [], Option, Some, None, length, get_or, refl, sym, ◌∙◌, ap, subst}
use Rattle.std.proofs.lemmas.List.Elements.{Contains-get_or}
use Rattle.gb_text.specs.declared.id.Id.{Id}
use Rattle.gb_text.specs.declared.id.Name.{Name}
use Rattle.gb_store.specs.Files.{Files, History, files_of}
use Rattle.object_store.specs.Held.{Objects}
use Rattle.commit_walk.specs.Chain.{Meets}
use Rattle.commit_walk.specs.Passing.{ReadsAbove}
use Rattle.ref_store.specs.Refs.{Head}
use Rattle.identity.specs.Advancing.{IsInLocal}
use Rattle.repo_state.specs.Answers.{IsHeadAt}
use Rattle.repo_state.specs.Listed.{AreRefs, ref_with}
use Rattle.repo_state.specs.Sides.{head_at}
use Rattle.repo_state.specs.declared.refs.EntityRef.{EntityRef}
use Rattle.repo_state.specs.declared.side.Side.{Side}
use Rattle.repo_merge.specs.Heads.{HasHeads}
use Rattle.repo_merge.specs.Quiet.{AreKnownRefs, HasHeadsOf, IsKnownRef, WasQuiet}
use Rattle.repo_merge.specs.declared.heads.Heads.{Heads}

-- a call that says so
pub was_quiet : (old new : History) (before after : ℕ) → new ≡ old → after ≡ before → WasQuiet old new before after
was_quiet old new before after same unread = record { same = same; unread = omega (arith, unread) }

-- one such call behind another
pub WasQuiet-then : (old mid new : History) (before between after : ℕ) → WasQuiet old mid before between → WasQuiet mid new between after → WasQuiet old new before after
WasQuiet-then old mid new before between after first then = record { same = then.same ∙ first.same; unread = omega (arith, first.unread, then.unread) }

-- a head is met from itself
meets_itself : (objects : Objects) (head : Name) → Meets objects head head
meets_itself objects head = record { above = []; chain = refl; near = omega arith }

-- where a chain is searched for its own head, nothing is read
pub equal_unread : (objects : Objects) (head : Name) (before after : ℕ) → ReadsAbove objects head head before after → after ≤ before
unfolding meets_itself
equal_unread objects head before after reads = omega (arith, reads (meets_itself objects head))

-- a head that is the local one is in the local chain
pub equal_in_local : (objects : Objects) (local : Option Name) (head : Name) → local ≡ Some head → IsInLocal objects local head
equal_in_local objects local head is = subst (λ (l : Option Name). IsInLocal objects l head) (sym is) (meets_itself objects head)

-- what reads as a head has it
head_is : (files : Files) (folder : List ℕ) (of : Side) (id : Id) (local : Option Name) (name : Name) → IsHeadAt files folder of id local → head_at files folder of id ≡ Head name → local ≡ Some name
head_is files folder of id None name absent is = absurd (cc)
head_is files folder of id (Some low) name at is = cc

-- both heads of an entity that is known are one
pub known_heads : (files : Files) (folder : List ℕ) (local : Side) (entity : EntityRef) (heads : Heads) → HasHeads files folder local entity heads → IsKnownRef files folder local entity
    → heads.local ≡ Some heads.tracked
known_heads files folder local entity heads has known = head_is files folder local entity.id heads.local heads.tracked has.is_local (known heads.tracked has.is_tracked)

-- the entities whose heads another side has are known there
pub are_known : (files : Files) (folder : List ℕ) (tracked local : Side) (refs : List EntityRef) → AreRefs files folder tracked refs → HasHeadsOf files folder tracked local → AreKnownRefs files folder local refs
are_known files folder tracked local refs are has entity member name is = has entity.id name (((are.members entity).0 member).1 ∙ ap ref_with is)

-- one more turn, of an entity that is known
pub next_quiet : (folder : List ℕ) (local : Side) (refs : List EntityRef) (i : ℕ) (d : EntityRef) (old mid new : History) (before between after : ℕ) → i < length refs → AreKnownRefs (files_of old) folder local refs
    → WasQuiet old mid before between → (IsKnownRef (files_of mid) folder local (get_or refs i d) → WasQuiet mid new between after) → WasQuiet old new before after
next_quiet folder local refs i d old mid new before between after within known first then =
    let at_first : IsKnownRef (files_of old) folder local (get_or refs i d) = known (get_or refs i d) (Contains-get_or refs i d within) in
    WasQuiet-then old mid new before between after first (then (subst (λ (h : History). IsKnownRef (files_of h) folder local (get_or refs i d)) (sym first.same) at_first))

-- and those of several
pub known_quiet : (folder : List ℕ) (local : Side) (refs listed : List EntityRef) (old mid new : History) (before between after : ℕ) → refs ≡ listed → AreKnownRefs (files_of old) folder local listed
    → WasQuiet old mid before between → (AreKnownRefs (files_of mid) folder local refs → WasQuiet mid new between after) → WasQuiet old new before after
known_quiet folder local refs listed old mid new before between after are known first then =
    WasQuiet-then old mid new before between after first
    (then (subst (λ (h : History). AreKnownRefs (files_of h) folder local refs) (sym first.same) (subst (AreKnownRefs (files_of old) folder local) (sym are) known)))
