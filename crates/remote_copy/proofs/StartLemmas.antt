-- A copy begins with its head.
use Rattle.std.proofs.Common.{◌≡◌, ◌⊎◌, inl, inr, ℕ, Bool, List, [], ◌∷◌, ◌++◌, length, take, Contains, Option, Some, None, Ok, Err, refl, sym, ◌∙◌, ap, subst, arith}
use Rattle.gb_text.specs.declared.id.Name.{Name}
use Rattle.git_object.specs.declared.frame.Kind.{Kind}
use Rattle.git_object.specs.declared.frame.Kind.TheVariants as kinds
use Rattle.object_store.specs.Held.{Objects}
use Rattle.object_store.proofs.GrowthLemmas.{OnlyGrew-none}
use Rattle.commit_walk.proofs.DistinctLemmas.{AreDistinct-nil, Contains-first, Contains-nil, Contains-one}
use Rattle.remote_copy.specs.Causes.{IsCommit, IsOther}
use Rattle.remote_copy.specs.Closure.{IsFollowed, IsLeft, commit_named, first}
use Rattle.remote_copy.specs.Copies.{StartAnswers}
use Rattle.remote_copy.specs.Copying.{AreCounted, IsCopying, IsOpen, IsOpened}
use Rattle.remote_copy.specs.Index.{IsMet, WasOpened, mark_of}
use Rattle.remote_copy.specs.Needs.{as_kind}
use Rattle.remote_copy.specs.Opens.{BeginAnswers, IsBegun, ref_of}
use Rattle.remote_copy.specs.Work.{Adds, EnterAnswers, Enters, IsFull, IsNew}
use Rattle.remote_copy.specs.declared.fault.CopyFault.{CopyFault}
use Rattle.remote_copy.specs.declared.fault.CopyFault.TheVariants as fault
use Rattle.remote_copy.specs.declared.index.Mark.TheVariants as mark
use Rattle.remote_copy.specs.declared.need.Need.{Need}
use Rattle.remote_copy.specs.declared.open.Open.{Open}
use Rattle.remote_copy.specs.declared.work.Work.{Work}
use Rattle.remote_copy.proofs.CopyingLemmas.{counted_later, followed_unleft, names_later}
use Rattle.remote_copy.proofs.MarkLemmas.{sets_back}
use Rattle.remote_copy.proofs.PushLemmas.{NewCounts, new_counts}

module _ (closed : Bool) (source target : Objects) (head : Name) where
  abbrev head_need : Need
  head_need = as_kind kinds.Commit head

  -- why the head is not opened is a cause
  pub start_refused : (e : CopyFault) → BeginAnswers closed source target head_need (Err e) → StartAnswers closed source target head (Err e)
  start_refused fault.Memory b = tt
  start_refused fault.Disk b = tt
  start_refused (fault.Missing n) b = record { one = commit_named head; is_named = sym b.1.0; followed = first refl b.0; is = b.1.1 }
  start_refused (fault.Damaged n) b = record { one = commit_named head; is_named = sym b.1.0; followed = first refl b.0; is = b.1.1 }
  start_refused (fault.WrongKind n) b = record { one = commit_named head; is_named = sym b.1.0; followed = first refl b.0; is = b.1.1 }
  start_refused (fault.TooLarge count) b = inl (b.1.0, record { one = commit_named head; followed = first refl b.0; large = b.1.1 })
  start_refused (fault.Ring n) b = absurd b.1
  start_refused (fault.Taken n) b = record { one = commit_named head; is_named = sym b.1.0; followed = first refl b.0; is = b.1.1 }

  -- nothing was opened
  none_counted : (work : Work) → IsNew work → (IsOne : Kind → Type 0) → AreCounted closed source target head work.index IsOne 0
  none_counted work new IsOne = record {
    them = [];
    once = AreDistinct-nil;
    long = refl;
    each = λ need c. absurd (Contains-nil need c);
    all = λ need met one. let none = new.none need.kind need.name in absurd (cc (sym none ∙ met.1));
  }

  -- the head is open
  opened_start : (old new : Work) (item : Open) → IsNew old → (IsLeft closed target (commit_named head) → ⊥) → IsBegun source target head_need item → Adds old item new
      → IsCopying closed source target target head new new.stack.items
  opened_start old new item is_new unleft begun adds = subst (λ (l : List Open). IsCopying closed source target target head new l) (sym stack) (record {
    grew = OnlyGrew-none target;
    added = λ name text is there. inl there;
    opens = λ one c. subst (IsOpen closed source target target head new.index) (Contains-one item one c) (record {
      object = begun.object;
      opened = opened;
      needs = begun.needs;
      done = λ need none. absurd (Contains-nil need (subst (λ (n : ℕ). Contains (take n item.needs.items) need) begun.start none));
      there = begun.there;
      is_marked = adds.index.here;
    });
    path = λ i j d before within. absurd (omega (arith, before, within));
    is_open = λ need m. elim (sets_back old.index new.index item.need mark.Open adds.index need mark.Open m) [
      | inl same ↦ (item, Contains-first item [], sym same.0)
      | inr was ↦ let none = is_new.none need.kind need.name in absurd (cc (sym none ∙ was))
    ];
    finished = λ need height m. elim (sets_back old.index new.index item.need mark.Open adds.index need (mark.Done height) m) [
      | inl same ↦ absurd (let bad = same.1 in cc)
      | inr was ↦ let none = is_new.none need.kind need.name in absurd (cc (sym none ∙ was))
    ];
    order = [];
    in_order = tt;
    ordered = λ need height m. elim (sets_back old.index new.index item.need mark.Open adds.index need (mark.Done height) m) [
      | inl same ↦ absurd (let bad = same.1 in cc)
      | inr was ↦ let none = is_new.none need.kind need.name in absurd (cc (sym none ∙ was))
    ];
    are_commits = now.are_commits;
    are_others = now.are_others;
    first = (mark.Open, subst (λ (n : Need). mark_of new.index n.kind n.name ≡ Some mark.Open) begun.is_need adds.index.here);
    names = λ name was. elim (adds.index.names.back name was) [
      | inl before ↦ absurd (is_new.names name before)
      | inr here ↦ record { need = item.need; is_named = sym here.1; met = (mark.Open, adds.index.here); unleft = followed_unleft closed source target head (ref_of item.need) opened.followed }
    ];
    few_commits = now.few_commits;
    few_others = now.few_others;
    few_put =
        let more = now.more in
        let put = adds.put in
        let zero_put = is_new.put in
        omega (arith, more, put, zero_put);
  })
    where
      stack : new.stack.items ≡ item ∷ []
      stack = adds.stack ∙ ap (λ (l : List Open). l ++ item ∷ []) is_new.empty

      opened : IsOpened closed source target head item.need item.text begun.object
      opened = record { followed = subst (λ (n : Need). IsFollowed closed source target head (ref_of n)) (sym begun.is_need) (first refl unleft); is = begun.is }

      now : NewCounts closed source target head old new
      now =
          let c = is_new.commits in
          let o = is_new.others in
          new_counts closed source target head old new item.need adds.index (is_new.none item.need.kind item.need.name) item.text begun.object opened item.need.kind refl adds.counts
          (subst (AreCounted closed source target head old.index IsCommit) (sym c) (none_counted old is_new IsCommit))
          (subst (AreCounted closed source target head old.index IsOther) (sym o) (none_counted old is_new IsOther))
          (omega (arith, c)) (omega (arith, o))

  -- the head is left
  left_start : (old new : Work) → IsNew old → IsLeft closed target (commit_named head) → Enters old head_need new → IsCopying closed source target target head new new.stack.items
  left_start old new is_new is_left enters = record {
    grew = OnlyGrew-none target;
    added = λ name text is there. inl there;
    opens = λ one c. absurd (Contains-nil one (subst (λ (l : List Open). Contains l one) stack c));
    path = λ i j d before within. absurd (let empty = ap length stack in omega (arith, within, empty));
    is_open = λ need m. elim (sets_back old.index new.index head_need (mark.Done 0) enters.index need mark.Open m) [
      | inl same ↦ absurd (let bad = same.1 in cc)
      | inr was ↦ let none = is_new.none need.kind need.name in absurd (cc (sym none ∙ was))
    ];
    finished = λ need height m. elim (sets_back old.index new.index head_need (mark.Done 0) enters.index need (mark.Done height) m) [
      | inl same ↦ inl (subst (λ (n : Need). IsLeft closed target (ref_of n)) (sym same.0) is_left)
      | inr was ↦ let none = is_new.none need.kind need.name in absurd (cc (sym none ∙ was))
    ];
    order = [];
    in_order = tt;
    ordered = λ need height m. elim (sets_back old.index new.index head_need (mark.Done 0) enters.index need (mark.Done height) m) [
      | inl same ↦ inl (subst (λ (n : Need). IsLeft closed target (ref_of n)) (sym same.0) is_left)
      | inr was ↦ let none = is_new.none need.kind need.name in absurd (cc (sym none ∙ was))
    ];
    are_commits = subst (AreCounted closed source target head new.index IsCommit) (sym commits) (counted_later closed source target head old.index new.index IsCommit 0 met back (none_counted old is_new IsCommit));
    are_others = subst (AreCounted closed source target head new.index IsOther) (sym others) (counted_later closed source target head old.index new.index IsOther 0 met back (none_counted old is_new IsOther));
    first = (mark.Done 0, enters.index.here);
    names = names_later closed target old.index new.index head_need 0 enters.index met (λ name was. absurd (is_new.names name was));
    few_commits = omega (arith, commits);
    few_others = omega (arith, others);
    few_put =
        let empty = ap length stack in
        let put = enters.put in
        let zero_put = is_new.put in
        omega (arith, empty, put, zero_put, commits, others);
  }
    where
      stack : new.stack.items ≡ []
      stack = enters.stack ∙ is_new.empty

      commits : new.commits ≡ 0
      commits = enters.counts.commits ∙ is_new.commits

      others : new.others ≡ 0
      others = enters.counts.others ∙ is_new.others

      met : (n : Need) → IsMet old.index n → IsMet new.index n
      met n m = let none = is_new.none n.kind n.name in absurd (cc (sym none ∙ m.1))

      back : (n : Need) → IsMet new.index n → IsMet old.index n ⊎ IsLeft closed target (ref_of n)
      back n m = elim (sets_back old.index new.index head_need (mark.Done 0) enters.index n m.0 m.1) [
        | inl same ↦ inr (subst (λ (x : Need). IsLeft closed target (ref_of x)) (sym same.0) is_left)
        | inr was ↦ inl (m.0, was)
      ]

  -- a copy began
  pub started : (old new : Work) (found : Option Open) → IsNew old → BeginAnswers closed source target head_need (Ok found) → EnterAnswers old head_need found new (Ok tt) → StartAnswers closed source target head (Ok new)
  started old new (Some item) is_new (unleft, begun) adds =
      (opened_start old new item is_new unleft begun adds, adds.put ∙ is_new.put, inr (subst (λ (n : Need). WasOpened new.index n.name) begun.is_need (adds.index.names.opens refl)))
  started old new None is_new is_left enters = (left_start old new is_new is_left enters, enters.put ∙ is_new.put, inl is_left)

  -- a copy that is new is not full
  pub not_started : (old new : Work) (found : Option Open) (e : CopyFault) → IsNew old → EnterAnswers old head_need found new (Err e) → StartAnswers closed source target head (Err e)
  not_started old new found fault.Memory is_new a = tt
  not_started old new found fault.Disk is_new a = tt
  not_started old new (Some item) (fault.TooLarge count) is_new a = absurd (full item.need.kind a)
    where
      full : (kind : Kind) → IsFull kind old count → ⊥
      full kinds.Commit f = let none = is_new.commits in omega (arith, f.1, none)
      full kinds.Tree f = let none = is_new.others in omega (arith, f.1, none)
      full kinds.Blob f = let none = is_new.others in omega (arith, f.1, none)
  not_started old new None (fault.TooLarge count) is_new a = absurd a
  not_started old new (Some item) (fault.Missing n) is_new a = absurd a
  not_started old new None (fault.Missing n) is_new a = absurd a
  not_started old new (Some item) (fault.Damaged n) is_new a = absurd a
  not_started old new None (fault.Damaged n) is_new a = absurd a
  not_started old new (Some item) (fault.WrongKind n) is_new a = absurd a
  not_started old new None (fault.WrongKind n) is_new a = absurd a
  not_started old new (Some item) (fault.Ring n) is_new a = absurd a
  not_started old new None (fault.Ring n) is_new a = absurd a
  not_started old new (Some item) (fault.Taken n) is_new a = absurd a
  not_started old new None (fault.Taken n) is_new a = absurd a
