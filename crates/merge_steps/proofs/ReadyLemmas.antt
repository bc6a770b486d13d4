-- By each word that gives a bug a head, the head is ready to be set.
use Rattle.std.proofs.Common.{◌≡◌, ◌<◌, ◌^◌, ℕ, List, [], ◌∷◌, Contains, Option, Some, None, refl, sym, ◌∙◌, subst}
use Rattle.std.proofs.lemmas.Option.{same_Some}
use Rattle.git_object.proofs.NameLaws.{IsName-object_name}
use Rattle.dag_entity.specs.Appending.{commit_object}
use Rattle.dag_entity.specs.Extending.{extended}
use Rattle.dag_entity.specs.Faults.{AreApart}
use Rattle.dag_entity.specs.Joining.{at_head, merge_name, merge_node, merge_objects, merge_pack}
use Rattle.dag_entity.proofs.JoinLemmas.{forward_entity}
use Rattle.entity_merge.specs.Joins.{JoinsBoth}
use Rattle.entity_merge.specs.declared.word.Merged.TheVariants as merged
use Rattle.repo_state.specs.declared.clocks.ClockFile.TheVariants as file
use Rattle.repo_state.proofs.BugLemmas.{head_edit}
use Rattle.repo_state.proofs.KindLemmas.{clock_at-capped}
use Rattle.repo_writes.specs.Kinds.{IsUnder}
use Rattle.merge_steps.specs.Merging.{HasPlan}
use Rattle.merge_steps.proofs.Names.{IsId, Id, Name, History, files_of, Wrote-none, Objects, objects_after, MayBePut, PutsAfterNeeds, bug_kind, BugOp, IsEntity, IsRootClock, edit_at, Entity, head_of, Merged, clock_at}
use Rattle.merge_steps.proofs.HeadLemmas.{IsReady}
use Rattle.merge_steps.proofs.JoinedLemmas.{joined_is, joined_needed, joined_under, put, says_name}

module _ (folder : List ℕ) (user : Id) (authors : List Id) (now : ℕ) (is_user : IsId user) (moment : now < 2 ^ 64) (known : Contains authors user) (id : Id) (old : History) where
  abbrev before : Objects
  before = objects_after old folder

  abbrev Ready : Option Name → Name → ℕ → ℕ → List (List ℕ) → Type 0
  Ready local head edit create texts = IsReady folder id local head authors edit create texts old

  -- the tracked head is taken, and no objects are put
  taken : (local : Option Name) (head : Name) (edit create : ℕ) (texts : List (List ℕ)) → texts ≡ [] → edit_at before head ≡ Some edit → IsRootClock bug_kind before (head ∷ []) create
      → IsUnder before local head → (entity : Entity BugOp) → IsEntity bug_kind before id (head ∷ []) authors entity → Ready local head edit create texts
  taken local head edit create texts none edit_is create_is under entity is = subst (Ready local head edit create) (sym none) (record {
    objects = Wrote-none (PutsAfterNeeds folder []) old old refl;
    is_name = says_name before head edit edit_is;
    under = under;
    entity = entity;
    is = is;
    edit_is = edit_is;
    create_is = create_is;
  })

  -- a merge commit joins both heads
  joined : (low tracked head : Name) (edit create : ℕ) (texts : List (List ℕ)) → AreApart before (low ∷ tracked ∷ []) low tracked
      → JoinsBoth bug_kind before id low tracked user authors (clock_at (files_of old) folder file.BugsEdit) now head edit create texts → MayBePut folder texts old
      → Ready (Some low) head edit create texts
  joined low tracked head edit create texts apart joins free =
      let number = clock_at (files_of old) folder file.BugsEdit in
      let capped = clock_at-capped (files_of old) folder file.BugsEdit in
      let these = merge_objects bug_kind low tracked user edit now in
      let these_free : MayBePut folder these old = subst (λ (t : List (List ℕ)). MayBePut folder t old) joins.texts_are free in
      let top = merge_name bug_kind low tracked user edit now in
      let whole : IsEntity bug_kind (objects_after (put folder these old) folder) id (top ∷ []) authors (extended joins.entity (merge_node bug_kind low tracked user edit now)) =
      joined_is folder id low tracked user authors number now edit old joins.entity is_user moment capped joins.is apart joins.edit_is these_free known in
      let it : Ready (Some low) top edit create these = record {
        objects = joined_needed folder id low tracked user authors number now edit old joins.entity is_user moment capped joins.is apart joins.edit_is these_free;
        is_name = IsName-object_name (commit_object bug_kind (low ∷ tracked ∷ []) (merge_pack user edit) now);
        under = joined_under folder id low tracked user authors number now edit old joins.entity is_user moment capped joins.is apart joins.edit_is these_free;
        entity = extended joins.entity (merge_node bug_kind low tracked user edit now);
        is = whole;
        edit_is = head_edit (objects_after (put folder these old) folder) top edit whole.edit;
        create_is = subst (IsRootClock bug_kind (objects_after (put folder these old) folder) (top ∷ [])) (sym joins.create_is) whole.create;
      } in
      subst (λ (h : Name). Ready (Some low) h edit create texts) (sym joins.head_is) (subst (Ready (Some low) top edit create) (sym joins.texts_are) it)

  -- whatever the word
  pub ready : (local : Option Name) (tracked : Name) (word : Merged) (head : Name) (edit create : ℕ) (texts : List (List ℕ)) → HasPlan folder user authors now id local tracked word edit create texts old
      → MayBePut folder texts old → Some head ≡ head_of local word → (word ≡ merged.Nothing → ⊥) → Ready local head edit create texts
  ready local tracked merged.Nothing head edit create texts plan free is other = absurd (other refl)
  ready None tracked (merged.New new) head edit create texts plan free is other =
      let same : tracked ≡ head = sym plan.word_is ∙ sym (same_Some head new is) in
      let takes = plan.does in
      subst (λ (h : Name). Ready None h edit create texts) same (taken None tracked edit create texts takes.no_texts takes.edit_is takes.create_is tt takes.entity takes.is)
  ready None tracked (merged.Forward new) head edit create texts plan free is other = absurd plan.word_is
  ready None tracked (merged.Joined new) head edit create texts plan free is other = absurd plan.word_is
  ready (Some low) tracked (merged.New new) head edit create texts plan free is other = absurd plan.word_is
  ready (Some low) tracked (merged.Forward new) head edit create texts plan free is other =
      let same : tracked ≡ head = sym plan.word_is.0 ∙ sym (same_Some head new is) in
      let takes = plan.does in
      subst (λ (h : Name). Ready (Some low) h edit create texts) same
      (taken (Some low) tracked edit create texts takes.no_texts takes.edit_is takes.create_is plan.word_is.1 (at_head takes.entity tracked)
      (forward_entity bug_kind before id low tracked authors takes.entity takes.is plan.word_is.1))
  ready (Some low) tracked (merged.Joined new) head edit create texts plan free is other =
      subst (λ (h : Name). Ready (Some low) h edit create texts) (sym (same_Some head new is)) (joined low tracked new edit create texts plan.word_is plan.does free)
