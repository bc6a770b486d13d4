-- A bug that a merge does not refuse has the operations of both sides.
use Rattle.std.proofs.Common.{◌≡◌, ◌<◌, ◌^◌, ℕ, false, List, [], ◌∷◌, Option, Some, None, refl, sym, ◌∙◌, subst}
use Rattle.std.proofs.lemmas.Option.{same_Some}
use Rattle.git_object.proofs.NameLaws.{IsName-object_name}
use Rattle.dag_entity.specs.Agreeing.{SameNeeded}
use Rattle.dag_entity.specs.Appending.{commit_object}
use Rattle.dag_entity.specs.Faults.{AreApart}
use Rattle.dag_entity.specs.Joining.{merge_name, merge_objects, merge_pack}
use Rattle.dag_entity.proofs.PairLemmas.{is_first}
use Rattle.entity_merge.specs.Joins.{AreUnion, IsKnown, Joins, JoinsBoth, heads_in}
use Rattle.entity_merge.specs.declared.word.Merged.TheVariants as merged
use Rattle.entity_merge.proofs.UnionLemmas.{joins_keep, joins_union, none_below}
use Rattle.repo_state.specs.declared.clocks.ClockFile.TheVariants as file
use Rattle.repo_state.specs.declared.side.Side.TheVariants as side
use Rattle.repo_state.proofs.KindLemmas.{clock_at-capped}
use Rattle.merge_steps.specs.Left.{IsJoinOf}
use Rattle.merge_steps.specs.MergeLines.{is_refused}
use Rattle.merge_steps.specs.Merging.{BugOutcome, GetsHead, HasPlan}
use Rattle.merge_steps.specs.declared.line.MergeOutcome.TheVariants as outcome
use Rattle.merge_steps.proofs.Names.{IsId, IsName, Id, Name, History, files_of, MayBePut, Objects, objects_after, IsBelow, bug_kind, IsHeadAt, clock_at, MergeOutcome, Merged, both_heads, head_of}
use Rattle.merge_steps.proofs.HeadLemmas.{after_head, all_writes, head_then, objects_then}
use Rattle.merge_steps.proofs.JoinedLemmas.{joined_agree, joined_node, put, says_name}

module _ (folder : List ℕ) (user : Id) (authors : List Id) (now : ℕ) (is_user : IsId user) (moment : now < 2 ^ 64) (id : Id) (old : History) where
  abbrev before : Objects
  before = objects_after old folder

  abbrev number : ℕ
  number = clock_at (files_of old) folder file.BugsEdit

  -- a join whose objects were put, whose ref was set and whose clocks were seen
  left : (local : Option Name) (tracked : Name) (word : Merged) (head : Name) (edit create : ℕ) (texts : List (List ℕ)) → IsName head
      → Joins bug_kind before (objects_after (put folder texts old) folder) local tracked user number now word → head_of local word ≡ Some head
      → SameNeeded before (objects_after (put folder texts old) folder) (both_heads local tracked) → IsJoinOf folder id local tracked old (after_head folder id head edit create texts old)
  left local tracked word head edit create texts is_name joins is agree =
      let there = objects_after (put folder texts old) folder in
      let same = objects_then folder id head edit create texts old in
      record {
        head = head;
        is_head = head_then folder id head edit create texts old is_name;
        union = subst (λ (o : Objects). AreUnion bug_kind o (head ∷ []) before (heads_in local) (tracked ∷ [])) (sym same)
            (joins_union bug_kind before there user number now local tracked head word joins is agree);
        keeps = λ low at. subst (λ (o : Objects). IsBelow o (head ∷ []) low) (sym same)
            (joins_keep bug_kind before there user number now local tracked head word joins is agree low
            (subst (λ (l : Option Name). IsBelow before (both_heads l tracked) low) (sym at) (is_first before low tracked)));
      }

  -- no objects are put
  left_taken : (local : Option Name) (tracked : Name) (word : Merged) (head : Name) (edit create : ℕ) (texts : List (List ℕ)) → texts ≡ [] → IsName head
      → Joins bug_kind before before local tracked user number now word → head_of local word ≡ Some head → IsJoinOf folder id local tracked old (after_head folder id head edit create texts old)
  left_taken local tracked word head edit create texts none is_name joins is =
      subst (λ (t : List (List ℕ)). IsJoinOf folder id local tracked old (after_head folder id head edit create t old)) (sym none)
      (left local tracked word head edit create [] is_name joins is (record { same = λ name needed. refl }))

  -- a merge commit joins both heads
  left_joined : (low tracked head : Name) (edit create : ℕ) (texts : List (List ℕ)) → AreApart before (low ∷ tracked ∷ []) low tracked
      → JoinsBoth bug_kind before id low tracked user authors number now head edit create texts → MayBePut folder texts old
      → IsJoinOf folder id (Some low) tracked old (after_head folder id head edit create texts old)
  left_joined low tracked head edit create texts apart joins free =
      let capped = clock_at-capped (files_of old) folder file.BugsEdit in
      let these = merge_objects bug_kind low tracked user edit now in
      let these_free : MayBePut folder these old = subst (λ (t : List (List ℕ)). MayBePut folder t old) joins.texts_are free in
      let top = merge_name bug_kind low tracked user edit now in
      let node = joined_node folder id low tracked user authors number now edit old joins.entity is_user moment capped joins.is apart joins.edit_is these_free in
      let agree = joined_agree folder id low tracked user authors number now edit old joins.entity is_user moment capped joins.is apart joins.edit_is these_free in
      let it : IsJoinOf folder id (Some low) tracked old (after_head folder id top edit create these old) =
      left (Some low) tracked (merged.Joined top) top edit create these (IsName-object_name (commit_object bug_kind (low ∷ tracked ∷ []) (merge_pack user edit) now))
      (apart, (edit, joins.edit_is, refl, node)) refl agree in
      subst (λ (h : Name). IsJoinOf folder id (Some low) tracked old (after_head folder id h edit create texts old)) (sym joins.head_is)
      (subst (λ (t : List (List ℕ)). IsJoinOf folder id (Some low) tracked old (after_head folder id top edit create t old)) (sym joins.texts_are) it)

  -- by each word that gives a head
  left_by : (local : Option Name) (tracked : Name) (word : Merged) (head : Name) (edit create : ℕ) (texts : List (List ℕ)) → HasPlan folder user authors now id local tracked word edit create texts old
      → MayBePut folder texts old → head_of local word ≡ Some head → (word ≡ merged.Nothing → ⊥) → IsJoinOf folder id local tracked old (after_head folder id head edit create texts old)
  left_by local tracked merged.Nothing head edit create texts plan free is other = absurd (other refl)
  left_by None tracked (merged.New new) head edit create texts plan free is other =
      let same : tracked ≡ head = sym plan.word_is ∙ same_Some new head is in
      let is_name = subst IsName same (says_name before tracked edit plan.does.edit_is) in
      left_taken None tracked (merged.New new) head edit create texts plan.does.no_texts is_name plan.word_is is
  left_by None tracked (merged.Forward new) head edit create texts plan free is other = absurd plan.word_is
  left_by None tracked (merged.Joined new) head edit create texts plan free is other = absurd plan.word_is
  left_by (Some low) tracked (merged.New new) head edit create texts plan free is other = absurd plan.word_is
  left_by (Some low) tracked (merged.Forward new) head edit create texts plan free is other =
      let same : tracked ≡ head = sym plan.word_is.0 ∙ same_Some new head is in
      let is_name = subst IsName same (says_name before tracked edit plan.does.edit_is) in
      left_taken (Some low) tracked (merged.Forward new) head edit create texts plan.does.no_texts is_name plan.word_is is
  left_by (Some low) tracked (merged.Joined new) head edit create texts plan free is other =
      subst (λ (h : Name). IsJoinOf folder id (Some low) tracked old (after_head folder id h edit create texts old)) (same_Some new head is)
      (left_joined low tracked new edit create texts plan.word_is plan.does free)

  module _ (local : Option Name) (tracked : Name) (new : History) where
    left_gets : (word : Merged) (head : Name) → head_of local word ≡ Some head → (word ≡ merged.Nothing → ⊥) → GetsHead folder user authors now id local tracked word head old new → IsJoinOf folder id local tracked old new
    left_gets word head is other gets =
        subst (IsJoinOf folder id local tracked old) (sym (gets.wrote ∙ all_writes folder id head gets.edit gets.create gets.texts old))
        (left_by local tracked word head gets.edit gets.create gets.texts gets.plan gets.free is other)

  -- the tracked head is known, and the local one stays
  left_known : (local : Option Name) (tracked : Name) → IsHeadAt (files_of old) folder side.Bugs id local → IsKnown before local tracked → IsJoinOf folder id local tracked old old
  left_known None tracked at known = absurd (none_below before tracked known)
  left_known (Some low) tracked at known = record {
    head = low;
    is_head = at;
    union = joins_union bug_kind before before user number now (Some low) tracked low merged.Nothing known refl (record { same = λ name needed. refl });
    keeps = λ one is. joins_keep bug_kind before before user number now (Some low) tracked low merged.Nothing known refl (record { same = λ name needed. refl }) one
        (subst (λ (l : Option Name). IsBelow before (both_heads l tracked) one) (sym is) (is_first before one tracked));
  }

  pub left_outcome : (local : Option Name) (tracked : Name) (out : MergeOutcome) (new : History) → IsHeadAt (files_of old) folder side.Bugs id local → is_refused out ≡ false
      → BugOutcome folder user authors now id local tracked out old new → IsJoinOf folder id local tracked old new
  left_outcome local tracked outcome.Nothing new at ok is = subst (IsJoinOf folder id local tracked old) (sym is.1) (left_known local tracked at is.0)
  left_outcome local tracked outcome.New new at ok is = left_gets local tracked new (merged.New tracked) tracked refl (λ e. cc e) is
  left_outcome local tracked outcome.Forward new at ok is = left_gets local tracked new (merged.Forward tracked) tracked refl (λ e. cc e) is
  left_outcome local tracked outcome.Joined new at ok is = left_gets local tracked new (merged.Joined is.0) is.0 refl (λ e. cc e) is.1
  left_outcome local tracked (outcome.InvalidBug f) new at ok is = absurd (cc ok)
  left_outcome local tracked (outcome.InvalidIdentity f) new at ok is = absurd is
  left_outcome local tracked (outcome.NotForward name) new at ok is = absurd is
