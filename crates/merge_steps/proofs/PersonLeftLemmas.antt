-- An identity that a merge does not refuse has a head over both.
use Rattle.std.proofs.Common.{◌≡◌, ℕ, false, List, [], ◌∷◌, Option, Some, None, inl, inr, refl, sym, subst, arith}
use Rattle.std.proofs.lemmas.Option.{same_Some}
use Rattle.commit_walk.specs.Chain.{Meets}
use Rattle.identity.specs.Advancing.{IsInLocal}
use Rattle.identity.specs.Persons.{IsChain}
use Rattle.ref_store.proofs.MapLemmas.{set_ref_reads}
use Rattle.repo_state.specs.declared.side.Side.TheVariants as side
use Rattle.repo_state.proofs.KindLemmas.{objects-ref_write}
use Rattle.repo_writes.specs.Kinds.{IsBelow as IsMet}
use Rattle.merge_steps.specs.Left.{IsLaterOf}
use Rattle.merge_steps.specs.MergeLines.{is_refused}
use Rattle.merge_steps.specs.Merging.{PersonOutcome}
use Rattle.merge_steps.specs.declared.line.MergeOutcome.TheVariants as outcome
use Rattle.merge_steps.proofs.Names.{Id, Name, History, files_of, Objects, objects_after, ref_write, IsHeadAt, ref_place, MergeOutcome}
use Rattle.merge_steps.proofs.TurnWriteLemmas.{chain_name, met_local, met_none}

-- a walk meets its head
meets_head : (objects : Objects) (head : Name) → Meets objects head head
meets_head objects head = record { above = []; chain = refl; near = omega arith }

-- a local head that a walk meets
met_low : (objects : Objects) (local : Option Name) (head low : Name) → IsMet objects local head → local ≡ Some low → Meets objects head low
met_low objects None head low met is = absurd (cc is)
met_low objects (Some one) head low met is = subst (Meets objects head) (same_Some one low is) met

module _ (folder : List ℕ) (id : Id) (old : History) where
  abbrev before : Objects
  before = objects_after old folder

  -- the tracked head is known, and the local one stays
  known : (local : Option Name) (tracked : Name) → IsHeadAt (files_of old) folder side.Identities id local → IsInLocal before local tracked → IsLaterOf folder id local tracked old old
  known None tracked at is = absurd is
  known (Some low) tracked at is = record {
    head = low;
    is_head = at;
    has = is;
    keeps = λ one same. subst (Meets before low) (same_Some low one same) (meets_head before low);
    either = inl (refl, refl);
  }

  -- the tracked head is set
  moved : (local : Option Name) (tracked : Name) → IsMet before local tracked → IsChain before id tracked → IsLaterOf folder id local tracked old (ref_write folder (ref_place side.Identities id) tracked ∷ old)
  moved local tracked met chain =
      let same = sym (objects-ref_write (files_of old) folder side.Identities id tracked) in
      record {
        head = tracked;
        is_head = set_ref_reads (files_of old) folder (ref_place side.Identities id) tracked (chain_name before id tracked chain);
        has = meets_head (objects_after (ref_write folder (ref_place side.Identities id) tracked ∷ old) folder) tracked;
        keeps = λ low is. subst (λ (o : Objects). Meets o tracked low) same (met_low before local tracked low met is);
        either = inr (refl, subst (λ (o : Objects). IsChain o id tracked) same chain);
      }

  pub later_outcome : (local : Option Name) (tracked : Name) (out : MergeOutcome) (new : History) → IsHeadAt (files_of old) folder side.Identities id local → is_refused out ≡ false
      → PersonOutcome folder id local tracked out old new → IsLaterOf folder id local tracked old new
  later_outcome local tracked outcome.Nothing new at ok is = subst (IsLaterOf folder id local tracked old) (sym is.1) (known local tracked at is.0)
  later_outcome local tracked outcome.New new at ok is = subst (IsLaterOf folder id local tracked old) (sym is.1) (moved local tracked (met_none before local tracked is.0.0) is.0.1)
  later_outcome local tracked outcome.Forward new at ok is = subst (IsLaterOf folder id local tracked old) (sym is.1) (moved local tracked (met_local before local tracked is.0.1) is.0.0.1)
  later_outcome local tracked outcome.Joined new at ok is = absurd is
  later_outcome local tracked (outcome.InvalidBug f) new at ok is = absurd is
  later_outcome local tracked (outcome.InvalidIdentity f) new at ok is = absurd (cc ok)
  later_outcome local tracked (outcome.NotForward name) new at ok is = absurd (cc ok)
