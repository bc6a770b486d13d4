-- From a plan and the put of its objects to a join.
use Rattle.std.proofs.Common.{◌≡◌, inl, inr, ◌≤◌, ℕ, List, [], length, Option, Some, None, Err, refl, sym, ap, subst, arith}
use Rattle.gb_text.specs.declared.id.Id.{Id}
use Rattle.gb_text.specs.declared.id.Name.{Name}
use Rattle.gb_store.specs.Files.{History}
use Rattle.object_store.specs.Held.{Objects, objects_after}
use Rattle.object_store.specs.declared.fault.PutFault.{PutFault}
use Rattle.object_store.specs.declared.fault.PutFault.TheVariants as put
use Rattle.object_batch.specs.Batches.{BatchAnswers, CannotHave, StoppedPut}
use Rattle.commit_walk.proofs.DistinctLemmas.{Contains-nil}
use Rattle.op_kind.specs.Meaning.{Meaning}
use Rattle.dag_entity.specs.Joining.{merge_node}
use Rattle.dag_entity.specs.Nodes.{IsNode}
use Rattle.entity_merge.specs.Joins.{DoesWord, HasWord, IfJoined, Joins}
use Rattle.entity_merge.specs.Merging.{MergeAnswers, NeedsCommit}
use Rattle.entity_merge.specs.Stops.{put_stop}
use Rattle.entity_merge.specs.declared.word.Merged.{Merged}
use Rattle.entity_merge.specs.declared.word.Merged.TheVariants as merged

-- ---- no objects

-- of no texts none is refused, and none was put
none_cannot : (folder : List ℕ) (old : History) (name : Name) → CannotHave folder [] old name → ⊥
none_cannot folder old name (inl h) = Contains-nil h.text h.member
none_cannot folder old name (inr h) = Contains-nil h.one h.member_one

none_stopped : (folder : List ℕ) (old new : History) → StoppedPut folder [] old new → new ≡ old
none_stopped folder old new (inl same) = same
none_stopped folder old new (inr h) = h.1

module _ {Op State Row : Type 0} (k : Meaning Op State Row) (folder : List ℕ) (id : Id) (remote : Name) (author : Id) (authors : List Id) (clock now : ℕ) (old new : History) where
  abbrev before : Objects
  before = objects_after old folder

  abbrev Says : Option Name → Merged → ℕ → ℕ → List (List ℕ) → Type 0
  Says local m edit create texts = HasWord before local remote m × DoesWord k before id local remote author authors clock now m edit create texts

  abbrev Answers : Option Name → PutFault → Type 0
  Answers local e = MergeAnswers k folder id local remote author authors clock now old new (Err (put_stop e))

  -- where there are no objects nothing is refused
  no_objects : (local : Option Name) (texts : List (List ℕ)) → texts ≡ [] → (e : PutFault) → BatchAnswers folder texts old new (Err e) → Answers local e
  no_objects local texts none put.Memory h = inl (none_stopped folder old new (subst (λ t. StoppedPut folder t old new) none h))
  no_objects local texts none put.Disk h = inl (none_stopped folder old new (subst (λ t. StoppedPut folder t old new) none h))
  no_objects local texts none (put.Large count) h = inl h.2
  no_objects local texts none (put.Taken name) h = absurd (none_cannot folder old name (subst (λ t. CannotHave folder t old name) none h.1))

  -- a plan has at most four texts
  pub few_texts : (local : Option Name) (m : Merged) (edit create : ℕ) (texts : List (List ℕ)) → Says local m edit create texts → length texts ≤ 4
  few_texts local merged.Nothing edit create texts says = omega (arith, ap length says.1.2)
  few_texts local (merged.New head) edit create texts says = omega (arith, ap length says.1.no_texts)
  few_texts local (merged.Forward head) edit create texts says = omega (arith, ap length says.1.no_texts)
  few_texts None (merged.Joined head) edit create texts says = absurd says.0
  few_texts (Some low) (merged.Joined head) edit create texts says = subst (λ (t : List (List ℕ)). length t ≤ 4) (sym says.1.texts_are) (omega arith)

  -- a plan of a commit says that it is needed
  needs : (low head : Name) (edit create : ℕ) (texts : List (List ℕ)) → Says (Some low) (merged.Joined head) edit create texts → NeedsCommit k folder id (Some low) remote author authors clock now old new low edit
  needs low head edit create texts says = record { is_local = refl; apart = says.0; entity = says.1.entity; is = says.1.is; time = says.1.edit_is }

  -- the objects of a plan were not all put
  pub put_refused : (local : Option Name) (m : Merged) (edit create : ℕ) (texts : List (List ℕ)) → Says local m edit create texts → (e : PutFault) → BatchAnswers folder texts old new (Err e) → Answers local e
  put_refused local merged.Nothing edit create texts says e h = no_objects local texts says.1.2 e h
  put_refused local (merged.New head) edit create texts says e h = no_objects local texts says.1.no_texts e h
  put_refused local (merged.Forward head) edit create texts says e h = no_objects local texts says.1.no_texts e h
  put_refused None (merged.Joined head) edit create texts says e h = absurd says.0
  put_refused (Some low) (merged.Joined head) edit create texts says put.Memory h = inr (low, edit, needs low head edit create texts says, subst (λ t. StoppedPut folder t old new) says.1.texts_are h)
  put_refused (Some low) (merged.Joined head) edit create texts says put.Disk h = inr (low, edit, needs low head edit create texts says, subst (λ t. StoppedPut folder t old new) says.1.texts_are h)
  put_refused (Some low) (merged.Joined head) edit create texts says (put.Large count) h = inl h.2
  put_refused (Some low) (merged.Joined head) edit create texts says (put.Taken name) h = record {
    low = low;
    edit = edit;
    needs = needs low head edit create texts says;
    cannot = subst (λ t. CannotHave folder t old name) says.1.texts_are h.1;
    unwritten = h.2;
  }

  -- where they were, the join was made
  pub joins_made : (local : Option Name) (m : Merged) (edit create : ℕ) (texts : List (List ℕ)) → Says local m edit create texts
      → IfJoined local m (λ low. IsNode k (objects_after new folder) (merge_node k low remote author edit now)) → Joins k before (objects_after new folder) local remote author clock now m
  joins_made local merged.Nothing edit create texts says node = says.0
  joins_made local (merged.New head) edit create texts says node = says.0
  joins_made local (merged.Forward head) edit create texts says node = says.0
  joins_made None (merged.Joined head) edit create texts says node = absurd says.0
  joins_made (Some low) (merged.Joined head) edit create texts says node = (says.0, (edit, says.1.edit_is, says.1.head_is, node))
