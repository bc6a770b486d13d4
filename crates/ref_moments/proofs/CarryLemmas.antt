-- A head that is carried sets one ref, as the last write; and a copy of objects sets none.
use Rattle.std.proofs.Common.{inl, inr, refl, ◌∙◌, ap, ℕ, Bool, List, Some}
use Rattle.gb_text.specs.Digits.{IsName}
use Rattle.gb_text.specs.declared.id.Id.{Id}
use Rattle.gb_text.specs.declared.id.Name.{Name}
use Rattle.gb_store.specs.Files.{History, written}
use Rattle.gb_store.specs.Moments.{Wrote}
use Rattle.gb_store.specs.declared.store.Change.{Change}
use Rattle.object_store.specs.Held.{Objects, objects_after}
use Rattle.remote_copy.specs.Writes.{PutsCopy}
use Rattle.repo_state.specs.Sides.{head_at}
use Rattle.repo_state.specs.declared.side.HeadEntry.{HeadEntry}
use Rattle.repo_state.specs.declared.side.Side.{Side}
use Rattle.repo_state.proofs.KindLemmas.{head_at-object_put}
use Rattle.sync_steps.specs.Carrying.{IsCarried, IsCutOff}
use Rattle.ref_moments.specs.Once.{IsSetOnce, StaysSame}
use Rattle.ref_moments.proofs.ExchangeLemmas.{HasHead}
use Rattle.ref_moments.proofs.OnceLemmas.{set_one, stays_by}
use Rattle.ref_moments.proofs.PutLemmas.{StaysOrIs, put_once}
use Rattle.ref_moments.proofs.TurnLemmas.{Once}

module _ (closed : Bool) (source target : List ℕ) where
  -- objects of a copy leave each ref
  pub copy_stays : (entry : Objects) (head : Name) (of : Side) (id : Id) (old new : History) → Wrote (PutsCopy closed source target entry head) old new → StaysSame target of id old new
  copy_stays entry head of id old new put =
      stays_by target of id (PutsCopy closed source target entry head)
      (λ files change puts. ap (λ (c : Change). head_at (written files c) target of id) puts.write ∙ head_at-object_put files target puts.text of id puts.name) old new put

  module _ (to : Side) (head : HeadEntry) (named : IsName head.name) (old new : History) where
    -- the ref of the head
    pub carried_sets : IsCarried closed source target to head old new → IsSetOnce target to head.id head.name old new
    carried_sets is = set_one target to head.id head.name old is.mid new named (copy_stays (objects_after old target) head.name to head.id old is.mid is.put) is.set

    module _ (of : Side) (id : Id) where
      abbrev Out : Type 0
      Out = Once target to of id HasHead (record { id = head.id; head = Some head.name }) old new

      told : StaysOrIs target of id to head.id head.name named old new → Out
      told (inl stays) = inl stays
      told (inr (place, set)) = inr (record { head = head.name; is_head = refl; place = place; set = set })

      -- any ref
      pub carried_once : IsCarried closed source target to head old new → Once target to of id HasHead (record { id = head.id; head = Some head.name }) old new
      carried_once is = told (put_once target of id to head.id head.name named old is.mid new (copy_stays (objects_after old target) head.name of id old is.mid is.put) is.set)

      pub cut_once : IsCutOff closed source target to head old new → Once target to of id HasHead (record { id = head.id; head = Some head.name }) old new
      cut_once (inl put) = inl (copy_stays (objects_after old target) head.name of id old new put)
      cut_once (inr is) = carried_once is
