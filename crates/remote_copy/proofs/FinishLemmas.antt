-- The deepest open object is put, and done.
use Rattle.std.proofs.Common.{◌≡◌, ◌≢◌, ◌⊎◌, inl, inr, ◌<◌, ◌≤◌, ◌+◌, ℕ, Bool, List, [], ◌∷◌, ◌++◌, take, Contains, Option, Some, None, refl, sym, ◌∙◌, ap, subst, arith, length-append}
use Rattle.std.specs.List.{slice_get}
use Rattle.std.proofs.lemmas.List.{take_all}
use Rattle.std.proofs.lemmas.List.Elements.{All-cons, All-nil, Contains-append_left, Contains-push, Contains-push_cases}
use Rattle.std.proofs.lemmas.Option.{slice_get_cases, same_Some}
use Rattle.gb_text.specs.declared.id.Name.{Name}
use Rattle.gb_text.specs.Digits.{IsName}
use Rattle.gb_store.specs.Counts.{raised}
use Rattle.git_object.specs.declared.frame.Kind.{Kind}
use Rattle.git_object.specs.declared.frame.Kind.TheVariants as kinds
use Rattle.git_object.specs.Grammar.{kind_of}
use Rattle.git_object.specs.Reading.{object_of}
use Rattle.object_store.specs.Growth.{OnlyGrew}
use Rattle.object_store.specs.Held.{Objects, object_at, text_at}
use Rattle.object_store.proofs.GrowthLemmas.{OnlyGrew-then}
use Rattle.object_batch.specs.Needs.{AllHeld, IsHeldAs, NamesNext, Reference}
use Rattle.commit_walk.proofs.DistinctLemmas.{Contains-first, Contains-later}
use Rattle.remote_copy.specs.Causes.{IsCommit, IsOther}
use Rattle.remote_copy.specs.Closure.{IsLeft, IsReached, StandsAlike, need, then}
use Rattle.remote_copy.specs.Copying.{AreCounted, HasTrees, IsAbove, IsCopying, IsFinished, IsOpen}
use Rattle.remote_copy.specs.Index.{IsDone, IsDoneAt, IsHeight, IsMet, Sets, level_at, level_of, mark_of}
use Rattle.remote_copy.specs.Needs.{as_kind, needs_of}
use Rattle.remote_copy.specs.Opens.{ref_of}
use Rattle.remote_copy.specs.Work.{HasHeight}
use Rattle.remote_copy.specs.declared.index.Mark.{Mark}
use Rattle.remote_copy.specs.declared.index.Mark.TheVariants as mark
use Rattle.remote_copy.specs.declared.need.Need.{Need}
use Rattle.remote_copy.specs.declared.open.Open.{Open}
use Rattle.remote_copy.specs.declared.open.TheConstants.{MOST_TREES}
use Rattle.remote_copy.specs.declared.work.Work.{Work}
use Rattle.remote_copy.proofs.CopyingLemmas.{added_later, counted_later, finished_later, left_stays, names_later, open_later}
use Rattle.remote_copy.proofs.MarkLemmas.{StaysDone, done_stays, one_height, sets_back, sets_done, sets_met}
use Rattle.remote_copy.proofs.IndexLemmas.{same_need}
use Rattle.remote_copy.proofs.NeedLemmas.{needs_of-has, needs_of-only}
use Rattle.remote_copy.proofs.StackLemmas.{pairs_front, pairs_last}
use Rattle.remote_copy.proofs.TextLemmas.{names_next, next_names, object_at-of_text, text_at-name, text_at-there}

-- a level is that of a tree that is done, or none
level_cases : (kind : Kind) (o : Option Mark) (height : ℕ) → level_at kind o ≡ height → (height ≡ 0) ⊎ ((kind ≡ kinds.Tree) × ((h : ℕ) × (o ≡ Some (mark.Done h)) × (raised h ≡ height)))
level_cases kinds.Tree (Some (mark.Done h)) height e = inr (refl, (h, refl, e))
level_cases kinds.Tree (Some mark.Open) height e = inl (sym e)
level_cases kinds.Tree None height e = inl (sym e)
level_cases kinds.Blob o height e = inl (sym e)
level_cases kinds.Commit o height e = inl (sym e)

level_done : (kind : Kind) (o : Option Mark) (h : ℕ) → kind ≡ kinds.Tree → o ≡ Some (mark.Done h) → level_at kind o ≡ raised h
level_done kinds.Tree (Some (mark.Done k)) h tree is = let same : k ≡ h = cc in ap raised same
level_done kinds.Tree (Some mark.Open) h tree is = absurd (cc)
level_done kinds.Tree None h tree is = absurd (cc)
level_done kinds.Blob o h tree is = absurd (cc)
level_done kinds.Commit o h tree is = absurd (cc)

module _ (closed : Bool) (source entry : Objects) (head : Name) (target : Objects) (before : Work) (rest : List Open) (top : Open)
    (w : IsCopying closed source entry target head before (rest ++ top ∷ [])) (ended : slice_get top.needs.items top.next ≡ None) where
  abbrev it : IsOpen closed source entry target head before.index top
  it = w.opens top (Contains-push rest top)

  all_taken : take top.next top.needs.items ≡ top.needs.items
  all_taken = elim (slice_get_cases top.needs.items top.next).1 [
    | inl some ↦ absurd (cc (sym ended ∙ some.2))
    | inr past ↦ take_all top.next top.needs.items past.0
  ]

  -- all that the deepest open object names is done
  pub top_done : (low : Need) → Contains (needs_of it.object) low → IsDone before.index low
  top_done low c = it.done low (subst (λ (l : List Need). Contains l low) (sym (all_taken ∙ it.needs)) c)

  -- what is done is held in the target
  pub done_held : (low : Need) → IsDone before.index low → IsHeldAs target low.name low.kind
  done_held low (height, at) = elim (w.finished low height at) [
    | inl left ↦ let held = (left_stays closed entry target (ref_of low) w.grew left).held in
        record { object = held.object; is = held.is; is_kind = held.is_kind ∙ sym left.is_commit }
    | inr f ↦ record {
      object = f.object;
      is = object_at-of_text target low.name f.text f.object (text_at-there source target low.name f.text f.opened.is.held f.there) f.opened.is.is;
      is_kind = f.opened.is.is_kind;
    }
  ]

  pub top_needs : AllHeld target it.object
  top_needs name kind names = done_held (as_kind kind name) (top_done (as_kind kind name) (needs_of-has it.object (as_kind kind name) names))

  reached_unleft : (one : Reference) → IsReached closed source target it.object one → IsLeft closed target one → ⊥
  reached_unleft one (need names unleft) = unleft
  reached_unleft one (then high next unleft) = unleft

  -- what is done and not left is finished
  done_finished : (one : Reference) → IsDone before.index (as_kind one.kind one.name) → (IsLeft closed target one → ⊥)
      → (height : ℕ) × IsFinished closed source entry target head before.index (as_kind one.kind one.name) height
  done_finished one (height, at) unleft = elim (w.finished (as_kind one.kind one.name) height at) [
    | inl left ↦ absurd (unleft (left_stays closed entry target one w.grew left))
    | inr f ↦ (height, f)
  ]

  -- all that is reached is done
  reached_done : (one : Reference) → IsReached closed source target it.object one → IsDone before.index (as_kind one.kind one.name)
  reached_done one (need names unleft) = top_done (as_kind one.kind one.name) (needs_of-has it.object (as_kind one.kind one.name) names)
  reached_done one (then {high = high} reached next unleft) =
      let f = (done_finished high (reached_done high reached) (reached_unleft high reached)).1 in
      f.done (as_kind one.kind one.name) (needs_of-has f.object (as_kind one.kind one.name) (next_names source high one f.text f.object f.opened.is.held f.opened.is.is next))

  pub top_reached : (one : Reference) → IsReached closed source target it.object one → StandsAlike source target one
  top_reached one reached =
      let f = (done_finished one (reached_done one reached) (reached_unleft one reached)).1 in
      record { text = f.text; object = f.object; held = f.opened.is.held; is = f.opened.is.is; is_kind = f.opened.is.is_kind; there = f.there }

  -- a need of the deepest object that is a tree has fewer trees below it
  low_trees : (low : Need) (h height : ℕ) → low.kind ≡ kinds.Tree → IsDoneAt before.index low h → level_of before.index low ≤ height → (h < height) × (raised h ≡ h + 1) × HasTrees source low h
  low_trees low h height tree at level = elim (w.finished low h at) [
    | inl left ↦ absurd (let no : kinds.Tree ≡ kinds.Commit = sym tree ∙ left.is_commit in cc)
    | inr f ↦
        let few = f.few in
        let up : raised h ≡ h + 1 = omega (arith, few) in
        let is = level_done low.kind (mark_of before.index low.kind low.name) h tree at in
        (omega (arith, is, up, level), up, f.trees)
  ]

  -- so many trees lie below the deepest open object
  pub top_trees : (height : ℕ) → IsHeight before.index top.needs.items height → HasTrees source top.need height
  top_trees height high = elim high.some [
    | inl none ↦ bare none
    | inr (low, c, level) ↦ elim (level_cases low.kind (mark_of before.index low.kind low.name) height level) [
      | inl none ↦ bare none
      | inr (tree, (h, at, up)) ↦ onto low c tree h at up (high.above low c)
    ]
  ]
    where
      bare : height ≡ 0 → HasTrees source top.need height
      bare none = record { path = []; last = ref_of top.need; leads = refl; trees = All-nil (λ (one : Reference). one.kind ≡ kinds.Tree); long = sym none }

      onto : (low : Need) → Contains top.needs.items low → low.kind ≡ kinds.Tree → (h : ℕ) → IsDoneAt before.index low h → raised h ≡ height → level_of before.index low ≤ height → HasTrees source top.need height
      onto low c tree h at up level =
          let (less, more, t) = low_trees low h height tree at level in
          let names : NamesNext source (ref_of top.need) (ref_of low) =
          names_next source (ref_of top.need) (ref_of low) top.text it.object it.opened.is.held it.opened.is.is it.opened.is.is_kind (needs_of-only it.object low (subst (λ (l : List Need). Contains l low) it.needs c)) in
          let whole = t.long in
          record {
            path = ref_of low ∷ t.path;
            last = t.last;
            leads = (names, t.leads);
            trees = All-cons (λ (one : Reference). one.kind ≡ kinds.Tree) (ref_of low) t.path tree t.trees;
            long = omega (arith, whole, more, up);
          }

  -- an object that is done keeps its place among the names: no open object below has its name
  other_name : (low : Open) → Contains rest low → low.need.name ≢ top.need.name
  other_name low c same =
      let o = w.opens low (Contains-append_left rest (top ∷ []) low c) in
      let differs = (pairs_last (IsAbove closed source entry) rest top low w.path c).0 in
      let one : object_at source low.need.name ≡ Some o.object = object_at-of_text source low.need.name low.text o.object o.opened.is.held o.opened.is.is in
      let two : object_at source top.need.name ≡ Some it.object = object_at-of_text source top.need.name top.text it.object it.opened.is.held it.opened.is.is in
      let objects : o.object ≡ it.object = same_Some o.object it.object (sym one ∙ ap (object_at source) same ∙ two) in
      let kind : low.need.kind ≡ top.need.kind = sym o.opened.is.is_kind ∙ ap kind_of objects ∙ it.opened.is.is_kind in
      differs (same_need low.need top.need same kind)

  module _ (after : Work) (later : Objects) (height : ℕ) (few : height ≤ MOST_TREES) (high : HasHeight before top height) (sets : Sets before.index after.index top.need (mark.Done height))
      (grew : OnlyGrew target later) (there : later top.need.name ≡ Some top.text)
      (only : (name : Name) (text : List ℕ) → IsName name → later name ≡ Some text → (target name ≡ Some text) ⊎ ((name ≡ top.need.name) × (text ≡ top.text)))
      (others : (name : Name) → IsName name → name ≢ top.need.name → later name ≡ target name)
      (commits : after.commits ≡ before.commits) (more : after.others ≡ before.others) (put : after.put ≤ before.put + 1) where
    stays : StaysDone before.index after.index
    stays = sets_done before.index after.index top.need (mark.Done height) sets (λ h is. let marked = it.is_marked in cc (sym marked ∙ is))

    met : (n : Need) → IsMet before.index n → IsMet after.index n
    met n m = sets_met before.index after.index top.need (mark.Done height) sets n m

    back : (n : Need) → IsMet after.index n → IsMet before.index n ⊎ IsLeft closed entry (ref_of n)
    back n m = elim (sets_back before.index after.index top.need (mark.Done height) sets n m.0 m.1) [
      | inl same ↦ inl (subst (λ (x : Need). IsMet before.index x) (sym same.0) (mark.Open, it.is_marked))
      | inr old ↦ inl (m.0, old)
    ]

    trees_of : (kind : Kind) → top.need.kind ≡ kind → HasHeight before top height → HasTrees source top.need height
    trees_of kinds.Tree kind h = top_trees height (as_tree h)
      where
        as_tree : HasHeight before top height → IsHeight before.index top.needs.items height
        as_tree h = rw kind at h
    trees_of kinds.Blob kind h = bare (rw kind at h)
      where
        bare : height ≡ 0 → HasTrees source top.need height
        bare none = record { path = []; last = ref_of top.need; leads = refl; trees = All-nil (λ (one : Reference). one.kind ≡ kinds.Tree); long = sym none }
    trees_of kinds.Commit kind h = bare (rw kind at h)
      where
        bare : height ≡ 0 → HasTrees source top.need height
        bare none = record { path = []; last = ref_of top.need; leads = refl; trees = All-nil (λ (one : Reference). one.kind ≡ kinds.Tree); long = sym none }

    top_finished : IsFinished closed source entry later head after.index top.need height
    top_finished = record {
      text = top.text;
      object = it.object;
      opened = it.opened;
      there = there;
      done = λ low c. done_stays before.index after.index stays low (top_done low c);
      few = few;
      trees = trees_of top.need.kind refl high;
      above = λ tree low below c is_tree at.
          let h : IsHeight before.index top.needs.items height = rw tree at high in
          let was = top_done low c in
          let same : below ≡ was.0 = one_height after.index low below was.0 at (stays.stays low was.0 was.1) in
          let level = h.above low (subst (λ (l : List Need). Contains l low) (sym it.needs) c) in
          let less = (low_trees low was.0 height is_tree was.1 level).0 in
          omega (arith, same, less);
    }

    pub finish : IsCopying closed source entry later head after rest
    finish = record {
      grew = OnlyGrew-then entry target later w.grew grew;
      added = λ name text is here. elim (only name text is here) [
        | inl old ↦ elim (w.added name text is old) [ inl first ↦ inl first | inr a ↦ inr (added_later closed source entry head before.index after.index stays name text a) ]
        | inr new ↦ inr (record {
          object = it.object;
          held = subst (λ (t : List ℕ). text_at source name ≡ Some t) (sym new.1) (subst (λ (n : Name). text_at source n ≡ Some top.text) (sym new.0) it.opened.is.held);
          is = subst (λ (t : List ℕ). object_of t ≡ Some it.object) (sym new.1) it.opened.is.is;
          done =
              let same : as_kind (kind_of it.object) name ≡ top.need = same_need (as_kind (kind_of it.object) name) top.need new.0 it.opened.is.is_kind in
              subst (IsDone after.index) (sym same) (height, sets.here);
        })
      ];
      opens = λ item c.
          let o = w.opens item (Contains-append_left rest (top ∷ []) item c) in
          let name = text_at-name source item.need.name item.text o.opened.is.held in
          open_later closed source entry head target later before.index after.index stays item o (others item.need.name name (other_name item c))
          (sets.others item.need (pairs_last (IsAbove closed source entry) rest top item w.path c).0 ∙ o.is_marked);
      path = pairs_front (IsAbove closed source entry) rest (top ∷ []) w.path;
      is_open = λ n m. elim (sets_back before.index after.index top.need (mark.Done height) sets n mark.Open m) [
        | inl same ↦ absurd (let no = same.1 in cc)
        | inr old ↦ let was = w.is_open n old in elim (Contains-push_cases rest top was.0 was.1) [
          | inl low ↦ (was.0, low, was.2)
          | inr e ↦
              let same : top.need ≡ n = ap (λ (item : Open). item.need) e ∙ was.2 in
              let done : mark_of after.index n.kind n.name ≡ Some (mark.Done height) = subst (λ (x : Need). mark_of after.index x.kind x.name ≡ Some (mark.Done height)) same sets.here in
              absurd (cc (sym done ∙ m))
        ]
      ];
      finished = λ n h m. elim (sets_back before.index after.index top.need (mark.Done height) sets n (mark.Done h) m) [
        | inl same ↦
            let equal : height ≡ h = let e = same.1 in cc in
            inr (subst (λ (k : ℕ). IsFinished closed source entry later head after.index n k) equal (subst (λ (x : Need). IsFinished closed source entry later head after.index x height) (sym same.0) top_finished))
        | inr old ↦ elim (w.finished n h old) [
          | inl left ↦ inl left
          | inr f ↦ inr (finished_later closed source entry head target later before.index after.index stays n h (λ text t. grew.stays n.name text t) f)
        ]
      ];
      order = top.need ∷ w.order;
      in_order = (
        λ low names.
            let n : Need = as_kind low.kind low.name in
            let was = top_done n (needs_of-has it.object n (next_names source (ref_of top.need) low top.text it.object it.opened.is.held it.opened.is.is names)) in
            w.ordered n was.0 was.1,
        w.in_order,
      );
      ordered = λ n h m. elim (sets_back before.index after.index top.need (mark.Done height) sets n (mark.Done h) m) [
        | inl same ↦ inr (subst (Contains (top.need ∷ w.order)) (sym same.0) (Contains-first top.need w.order))
        | inr old ↦ elim (w.ordered n h old) [ inl left ↦ inl left | inr c ↦ inr (Contains-later top.need w.order n c) ]
      ];
      are_commits = subst (λ (k : ℕ). AreCounted closed source entry head after.index IsCommit k) (sym commits) (counted_later closed source entry head before.index after.index IsCommit before.commits met back w.are_commits);
      are_others = subst (λ (k : ℕ). AreCounted closed source entry head after.index IsOther k) (sym more) (counted_later closed source entry head before.index after.index IsOther before.others met back w.are_others);
      first = met (as_kind kinds.Commit head) w.first;
      names = names_later closed entry before.index after.index top.need height sets met w.names;
      few_commits = let most = w.few_commits in omega (arith, most, commits);
      few_others = let most = w.few_others in omega (arith, most, more);
      few_put = let most = w.few_put in omega (arith, most, put, commits, more, length-append rest (top ∷ []));
    }
