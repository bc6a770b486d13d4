-- The head that a bug gets by a word.
use Rattle.std.proofs.Common.{arith, ◌≡◌, ℕ, List, [], ◌∷◌, Option, Some, None, inl, inr, refl, sym, ap, subst}
use Rattle.std.proofs.lemmas.Option.{same_Some}
use Rattle.gb_text.specs.declared.id.Id.{Id}
use Rattle.gb_text.specs.declared.id.Name.{Name}
use Rattle.gb_store.specs.Files.{History}
use Rattle.object_store.specs.Held.{Objects, objects_after}
use Rattle.object_batch.specs.Batches.{CannotHave}
use Rattle.entity_merge.specs.Joins.{HasWord, head_of}
use Rattle.entity_merge.specs.declared.word.Merged.{Merged}
use Rattle.entity_merge.specs.declared.word.Merged.TheVariants as merged
use Rattle.merge_steps.specs.Merging.{BugOutcome, GetsHead, HasPlan}
use Rattle.repo_merge.specs.Turning.{new_head, word_outcome}

-- the first head of a bug is the tracked one
pub new_is_tracked : (objects : Objects) (local : Option Name) (tracked head : Name) → HasWord objects local tracked (merged.New head) → head ≡ tracked
new_is_tracked objects None tracked head is = is
new_is_tracked objects (Some low) tracked head none = absurd none

-- and so is one that goes forward
pub forward_is_tracked : (objects : Objects) (local : Option Name) (tracked head : Name) → HasWord objects local tracked (merged.Forward head) → head ≡ tracked
forward_is_tracked objects None tracked head none = absurd none
forward_is_tracked objects (Some low) tracked head is = is.0

-- the head that a bug gets is the resulting one
pub new_head_results : (local : Option Name) (word : Merged) (head : Name) → Some head ≡ new_head word → Some head ≡ head_of local word
new_head_results local merged.Nothing head is = absurd (cc)
new_head_results local (merged.New top) head is = is
new_head_results local (merged.Forward top) head is = is
new_head_results local (merged.Joined top) head is = is

-- where it gets one, the word is not `Nothing`
pub gets_one : (word : Merged) (head : Name) → Some head ≡ new_head word → word ≡ merged.Nothing → ⊥
gets_one word head is nothing = absurd (cc)

-- where it gets none, the word is `Nothing`
pub none_is_nothing : (word : Merged) → new_head word ≡ None → word ≡ merged.Nothing
none_is_nothing merged.Nothing is = refl
none_is_nothing (merged.New top) is = absurd (cc)
none_is_nothing (merged.Forward top) is = absurd (cc)
none_is_nothing (merged.Joined top) is = absurd (cc)

-- no text is refused where there is none
none_refused : (folder : List ℕ) (texts : List (List ℕ)) (old : History) (name : Name) → texts ≡ [] → CannotHave folder texts old name → ⊥
none_refused folder [] old name is (inl taken) = omega (arith, taken.member.1)
none_refused folder [] old name is (inr clash) = omega (arith, clash.member_one.1)
none_refused folder (text ∷ texts) old name is cannot = absurd (cc)

module _ (folder : List ℕ) (user : Id) (authors : List Id) (now : ℕ) (id : Id) (local : Option Name) (tracked : Name) (old : History) where
  -- the head that is got is the one of the word
  gets_here : (new : History) (word : Merged) (head top : Name) → Some head ≡ Some top → GetsHead folder user authors now id local tracked word head old new → GetsHead folder user authors now id local tracked word top old new
  gets_here new word head top is gets = subst (λ (h : Name). GetsHead folder user authors now id local tracked word h old new) (same_Some head top is) gets

  -- a bug that gets a head by a word has the outcome of the word
  pub gets_head : (new : History) (word : Merged) (head : Name) → Some head ≡ new_head word → GetsHead folder user authors now id local tracked word head old new
      → BugOutcome folder user authors now id local tracked (word_outcome word) old new
  gets_head new merged.Nothing head is gets = absurd (cc)
  gets_head new (merged.New top) head is gets =
      let taken = gets_here new (merged.New top) head top is gets in
      subst (λ (h : Name). GetsHead folder user authors now id local tracked (merged.New h) h old new) (new_is_tracked (objects_after old folder) local tracked top taken.plan.word_is) taken
  gets_head new (merged.Forward top) head is gets =
      let taken = gets_here new (merged.Forward top) head top is gets in
      subst (λ (h : Name). GetsHead folder user authors now id local tracked (merged.Forward h) h old new) (forward_is_tracked (objects_after old folder) local tracked top taken.plan.word_is) taken
  gets_head new (merged.Joined top) head is gets = (top, gets_here new (merged.Joined top) head top is gets)

  -- an object is refused only where a merge commit is made
  pub refused_joins : (word : Merged) (head : Name) (edit create : ℕ) (texts : List (List ℕ)) (name : Name) → Some head ≡ new_head word
      → HasPlan folder user authors now id local tracked word edit create texts old → CannotHave folder texts old name → word ≡ merged.Joined head
  refused_joins merged.Nothing head edit create texts name is plan cannot = absurd (cc)
  refused_joins (merged.New top) head edit create texts name is plan cannot = absurd (none_refused folder texts old name plan.does.no_texts cannot)
  refused_joins (merged.Forward top) head edit create texts name is plan cannot = absurd (none_refused folder texts old name plan.does.no_texts cannot)
  refused_joins (merged.Joined top) head edit create texts name is plan cannot = ap merged.Joined (sym (same_Some head top is))
