-- An object more is open.
use Rattle.std.proofs.Common.{◌≡◌, ◌≢◌, inl, inr, ◌<◌, ◌≤◌, ◌+◌, ℕ, Bool, List, [], ◌∷◌, ◌++◌, take, Contains, None, refl, sym, ◌∙◌, subst, arith, length-append}
use Rattle.std.specs.List.{AllPairs}
use Rattle.std.proofs.lemmas.List.Elements.{Contains-append_left, Contains-push, Contains-push_cases}
use Rattle.gb_text.specs.declared.id.Name.{Name}
use Rattle.git_object.specs.declared.frame.Kind.{Kind}
use Rattle.git_object.specs.declared.frame.Kind.TheVariants as kinds
use Rattle.git_object.specs.declared.object.Object.{Object}
use Rattle.object_store.specs.Held.{Objects}
use Rattle.object_batch.specs.Needs.{NamesNext}
use Rattle.commit_walk.proofs.DistinctLemmas.{Contains-nil}
use Rattle.remote_copy.specs.Causes.{IsCommit, IsOther, LeadsOn}
use Rattle.remote_copy.specs.Closure.{IsFollowed, IsLeft}
use Rattle.remote_copy.specs.Copying.{AreCounted, IsAbove, IsCopying, IsOpen, IsOpened}
use Rattle.remote_copy.specs.Index.{Sets, mark_of}
use Rattle.remote_copy.specs.Needs.{as_kind}
use Rattle.remote_copy.specs.Opens.{IsBegun, ref_of}
use Rattle.remote_copy.specs.Work.{CountsOne}
use Rattle.remote_copy.specs.declared.index.Index.{Index}
use Rattle.remote_copy.specs.declared.index.Mark.TheVariants as mark
use Rattle.remote_copy.specs.declared.need.Need.{Need}
use Rattle.remote_copy.specs.declared.open.Open.{Open}
use Rattle.commit_walk.specs.declared.below.TheConstants.{MOST_COMMITS}
use Rattle.remote_copy.specs.declared.work.TheConstants.{MOST_OTHERS}
use Rattle.remote_copy.specs.declared.work.Work.{Work}
use Rattle.remote_copy.proofs.CopyingLemmas.{added_later, counted_more, counted_other, finished_later, followed_unleft, leads_further, leads_next, met_later, open_later}
use Rattle.remote_copy.proofs.MarkLemmas.{StaysDone, sets_back, sets_done, sets_met}
use Rattle.remote_copy.proofs.StackLemmas.{pairs_last, pairs_push}

module _ (closed : Bool) (source entry : Objects) (head : Name) where
  -- the objects that were opened, after one more was
  pub record NewCounts (old new : Work) : Type 0 where
    pub are_commits : AreCounted closed source entry head new.index IsCommit new.commits
    pub are_others : AreCounted closed source entry head new.index IsOther new.others
    pub few_commits : new.commits ≤ MOST_COMMITS
    pub few_others : new.others ≤ MOST_OTHERS
    pub more : new.commits + new.others ≡ old.commits + old.others + 1

  module _ (old new : Work) (need : Need) (sets : Sets old.index new.index need mark.Open) (fresh : mark_of old.index need.kind need.name ≡ None) (text : List ℕ) (object : Object)
      (opened : IsOpened closed source entry head need text object) where
    other_counts : need.kind ≢ kinds.Commit → old.others < MOST_OTHERS → new.others ≡ old.others + 1 → new.commits ≡ old.commits
        → AreCounted closed source entry head old.index IsCommit old.commits → AreCounted closed source entry head old.index IsOther old.others → old.commits ≤ MOST_COMMITS → NewCounts old new
    other_counts kind few others commits k l most = record {
      are_commits = subst (AreCounted closed source entry head new.index IsCommit) (sym commits) (counted_other closed source entry head old.index new.index need sets fresh IsCommit old.commits kind k);
      are_others = subst (AreCounted closed source entry head new.index IsOther) (sym others) (counted_more closed source entry head old.index new.index need sets fresh IsOther old.others text object opened kind l);
      few_commits = omega (arith, commits, most);
      few_others = omega (arith, others, few);
      more = omega (arith, commits, others);
    }

    pub new_counts : (k : Kind) → need.kind ≡ k → CountsOne k old new
        → AreCounted closed source entry head old.index IsCommit old.commits → AreCounted closed source entry head old.index IsOther old.others
        → old.commits ≤ MOST_COMMITS → old.others ≤ MOST_OTHERS → NewCounts old new
    new_counts kinds.Commit kind (few, commits, others) are_commits are_others most_commits most_others = record {
      are_commits = subst (AreCounted closed source entry head new.index IsCommit) (sym commits) (counted_more closed source entry head old.index new.index need sets fresh IsCommit old.commits text object opened kind are_commits);
      are_others = subst (AreCounted closed source entry head new.index IsOther) (sym others) (counted_other closed source entry head old.index new.index need sets fresh IsOther old.others (λ other. other kind) are_others);
      few_commits = omega (arith, commits, few);
      few_others = omega (arith, others, most_others);
      more = omega (arith, commits, others);
    }
    new_counts kinds.Tree kind (few, others, commits) are_commits are_others most_commits most_others = other_counts (λ is. cc) few others commits are_commits are_others most_commits
    new_counts kinds.Blob kind (few, others, commits) are_commits are_others most_commits most_others = other_counts (λ is. cc) few others commits are_commits are_others most_commits

  -- an object that was not met is open now
  pub push : (target : Objects) (old new : Work) (stack : List Open) (item : Open) → IsCopying closed source entry target head old stack → mark_of old.index item.need.kind item.need.name ≡ None
      → IsFollowed closed source entry head (ref_of item.need) → IsBegun source target item.need item → ((low : Open) → Contains stack low → LeadsOn closed source entry (ref_of low.need) (ref_of item.need))
      → Sets old.index new.index item.need mark.Open → CountsOne item.need.kind old new → new.put ≡ old.put → IsCopying closed source entry target head new (stack ++ item ∷ [])
  push target old new stack item w fresh followed begun leads sets counts same_put = record {
    grew = w.grew;
    added = λ name text is there. elim (w.added name text is there) [ inl before ↦ inl before | inr a ↦ inr (added_later closed source entry head old.index new.index stays name text a) ];
    opens = λ one c. elim (Contains-push_cases stack item one c) [
      | inl low ↦ let o = w.opens one low in open_later closed source entry head target target old.index new.index stays one o refl (sets.others one.need (differs one low) ∙ o.is_marked)
      | inr e ↦ subst (IsOpen closed source entry target head new.index) e (record {
        object = begun.object;
        opened = opened;
        needs = begun.needs;
        done = λ need none. absurd (Contains-nil need (subst (λ (n : ℕ). Contains (take n item.needs.items) need) begun.start none));
        there = begun.there;
        is_marked = sets.here;
      })
    ];
    path = pairs_push (IsAbove closed source entry) stack item w.path (λ low c. (differs low c, leads low c));
    is_open = λ need m. elim (sets_back old.index new.index item.need mark.Open sets need mark.Open m) [
      | inl same ↦ (item, Contains-push stack item, sym same.0)
      | inr before ↦ let was = w.is_open need before in (was.0, Contains-append_left stack (item ∷ []) was.0 was.1, was.2)
    ];
    finished = λ need height m. elim (sets_back old.index new.index item.need mark.Open sets need (mark.Done height) m) [
      | inl same ↦ absurd (cc (same.1))
      | inr before ↦ elim (w.finished need height before) [ inl left ↦ inl left | inr f ↦ inr (finished_later closed source entry head target target old.index new.index stays need height (λ text t. t) f) ]
    ];
    order = w.order;
    in_order = w.in_order;
    ordered = λ need height m. elim (sets_back old.index new.index item.need mark.Open sets need (mark.Done height) m) [
      | inl same ↦ absurd (let bad = same.1 in cc)
      | inr before ↦ w.ordered need height before
    ];
    are_commits = now.are_commits;
    are_others = now.are_others;
    first = sets_met old.index new.index item.need mark.Open sets (as_kind kinds.Commit head) w.first;
    names = λ name was. elim (sets.names.back name was) [
      | inl before ↦ met_later closed entry old.index new.index name (sets_met old.index new.index item.need mark.Open sets) (w.names name before)
      | inr here ↦ record { need = item.need; is_named = sym here.1; met = (mark.Open, sets.here); unleft = followed_unleft closed source entry head (ref_of item.need) followed }
    ];
    few_commits = now.few_commits;
    few_others = now.few_others;
    few_put = let few = w.few_put in let more = now.more in omega (arith, few, more, same_put, length-append stack (item ∷ []));
  }
    where
      stays : StaysDone old.index new.index
      stays = sets_done old.index new.index item.need mark.Open sets (λ height is. cc (sym fresh ∙ is))

      opened : IsOpened closed source entry head item.need item.text begun.object
      opened = record { followed = followed; is = begun.is }

      now : NewCounts old new
      now = new_counts old new item.need sets fresh item.text begun.object opened item.need.kind refl counts w.are_commits w.are_others w.few_commits w.few_others

      differs : (low : Open) → Contains stack low → low.need ≢ item.need
      differs low c same =
          let marked = (w.opens low c).is_marked in
          let none : mark_of old.index low.need.kind low.need.name ≡ None = subst (λ (n : Need). mark_of old.index n.kind n.name ≡ None) (sym same) fresh in
          cc (sym none ∙ marked)

  -- what the deepest open object names, all open objects lead to
  pub leads_below : (target : Objects) (index : Index) (rest : List Open) (top : Open) (need : Need) → AllPairs (IsAbove closed source entry) (rest ++ top ∷ []) → NamesNext source (ref_of top.need) (ref_of need) → (IsLeft closed entry (ref_of need) → ⊥)
      → (low : Open) → Contains (rest ++ top ∷ []) low → LeadsOn closed source entry (ref_of low.need) (ref_of need)
  leads_below target index rest top need path names unleft low c =
      elim (Contains-push_cases rest top low c) [
        | inl before ↦ leads_further closed source entry (ref_of low.need) (ref_of top.need) (ref_of need) (pairs_last (IsAbove closed source entry) rest top low path before).1 names unleft
        | inr e ↦ subst (λ (item : Open). LeadsOn closed source entry (ref_of item.need) (ref_of need)) e (leads_next closed source entry (ref_of top.need) (ref_of need) names unleft)
      ]
