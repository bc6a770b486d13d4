-- A copy that ends: all of the part stands in the target, and nothing kept it from being copied.
use Rattle.std.proofs.Common.{◌≡◌, inl, inr, ◌≤◌, zero, suc, ℕ, Bool, List, [], ◌∷◌, length, map, All, Contains, Some, None, sym, ◌∙◌, ap, subst, arith}
use Rattle.std.specs.List.{AllByRecursion}
use Rattle.std.proofs.lemmas.List.{length-map}
use Rattle.std.proofs.lemmas.Option.{same_Some}
use Rattle.gb_text.specs.declared.id.Name.{Name}
use Rattle.git_object.specs.declared.frame.Kind.{Kind}
use Rattle.git_object.specs.declared.frame.Kind.TheVariants as kinds
use Rattle.git_object.specs.declared.object.Object.{Object}
use Rattle.git_object.specs.Grammar.{kind_of}
use Rattle.object_store.specs.Held.{IsDamaged, IsLarge, Objects, object_at}
use Rattle.object_batch.specs.Needs.{IsHeldAs, Leads, NamesNext, Reference}
use Rattle.commit_walk.proofs.DistinctLemmas.{Contains-cons, Contains-later, Contains-map, Contains-nil, length-distinct}
use Rattle.remote_copy.specs.Causes.{AreTooMany, CauseHolds, IsCommit, IsOfOtherKind, IsOther, IsTaken, IsTooDeep, LeadsOn}
use Rattle.remote_copy.specs.Closure.{IsFollowed, IsLeft, StandsAlike, commit_named, first, next}
use Rattle.remote_copy.specs.Copying.{AreCounted, InOrder, IsCopying, IsFinished}
use Rattle.remote_copy.specs.Index.{IsDone, IsDoneAt, IsMet, mark_of}
use Rattle.remote_copy.specs.Needs.{as_kind, needs_of}
use Rattle.remote_copy.specs.Opens.{ref_of}
use Rattle.remote_copy.specs.declared.fault.CopyFault.{CopyFault}
use Rattle.remote_copy.specs.declared.fault.CopyFault.TheVariants as fault
use Rattle.remote_copy.specs.declared.index.Mark.{Mark}
use Rattle.remote_copy.specs.declared.index.Mark.TheVariants as mark
use Rattle.remote_copy.specs.declared.need.Need.{Need}
use Rattle.commit_walk.specs.declared.below.TheConstants.{MOST_COMMITS}
use Rattle.remote_copy.specs.declared.work.TheConstants.{MOST_OTHERS}
use Rattle.remote_copy.specs.declared.work.Work.{Work}
use Rattle.remote_copy.proofs.NeedLemmas.{needs_of-has}
use Rattle.remote_copy.proofs.TextLemmas.{next_names, object_at-of_text, text_at-is}

-- a fact of each element, by recursion
All-by_recursion : {X : Type 0} (P : X → Type 0) (xs : List X) → All P xs → AllByRecursion P xs
All-by_recursion P [] all = tt
All-by_recursion P (x ∷ xs) all = (all zero x (omega arith), All-by_recursion P xs (λ k d within. all (suc k) d (omega arith)))

module _ (closed : Bool) (source entry : Objects) (head : Name) (target : Objects) (work : Work) (w : IsCopying closed source entry target head work []) where
  abbrev as_need : Reference → Need
  as_need one = as_kind one.kind one.name

  -- what was met is done
  met_done : (need : Need) → IsMet work.index need → IsDone work.index need
  met_done need (m, is) = by m is
    where
      by : (m : Mark) → mark_of work.index need.kind need.name ≡ Some m → IsDone work.index need
      by (mark.Done height) is = (height, is)
      by mark.Open is = let was = w.is_open need is in absurd (Contains-nil was.0 was.1)

  followed_unleft : (one : Reference) → IsFollowed closed source entry head one → IsLeft closed entry one → ⊥
  followed_unleft one (first e unleft) = unleft
  followed_unleft one (next f names unleft) = unleft

  -- what is done and followed is finished
  finished_at : (one : Reference) → IsDone work.index (as_need one) → IsFollowed closed source entry head one → (height : ℕ) × IsFinished closed source entry target head work.index (as_need one) height × IsDoneAt work.index (as_need one) height
  finished_at one (height, at) f = elim (w.finished (as_need one) height at) [
    | inl left ↦ absurd (followed_unleft one f left)
    | inr is ↦ (height, is, at)
  ]

  -- all of the part is done
  followed_done : (one : Reference) → IsFollowed closed source entry head one → IsDone work.index (as_need one)
  followed_done one (first e unleft) = subst (λ (r : Reference). IsDone work.index (as_need r)) (sym e) (met_done (as_kind kinds.Commit head) w.first)
  followed_done one (next {high = high} f names unleft) =
      let is = (finished_at high (followed_done high f) f).1 in
      is.done (as_need one) (needs_of-has is.object (as_need one) (next_names source high one is.text is.object is.opened.is.held is.opened.is.is names))

  pub followed_finished : (one : Reference) → IsFollowed closed source entry head one → (height : ℕ) × IsFinished closed source entry target head work.index (as_need one) height × IsDoneAt work.index (as_need one) height
  followed_finished one f = finished_at one (followed_done one f) f

  -- all of the part stands in the target as in the source
  pub stands_alike : (one : Reference) → IsFollowed closed source entry head one → StandsAlike source target one
  stands_alike one f =
      let is = (followed_finished one f).1 in
      record { text = is.text; object = is.object; held = is.opened.is.held; is = is.opened.is.is; is_kind = is.opened.is.is_kind; there = is.there }

  -- ---- nothing kept it from being copied

  -- what is held is neither missing, damaged, too large, nor of another kind
  finished_held : (need : Need) (height : ℕ) → IsFinished closed source entry target head work.index need height → (object : Object) × (object_at source need.name ≡ Some object) × (kind_of object ≡ need.kind)
  finished_held need height f = (f.object, object_at-of_text source need.name f.text f.object f.opened.is.held f.opened.is.is, f.opened.is.is_kind)

  no_missing : (one : Reference) → IsFollowed closed source entry head one → source one.name ≡ None → ⊥
  no_missing one f none =
      let is = (followed_finished one f).1 in
      let stands = (text_at-is source one.name is.text is.opened.is.held).stands in
      cc (sym none ∙ stands)

  no_damaged : (one : Reference) → IsFollowed closed source entry head one → IsDamaged source one.name → ⊥
  no_damaged one f damaged =
      let held = finished_held (as_need one) (followed_finished one f).0 (followed_finished one f).1 in
      let none = damaged.is_none in
      cc (sym none ∙ held.1)

  no_other : (one : Reference) → IsFollowed closed source entry head one → IsOfOtherKind source one → ⊥
  no_other one f other =
      let held = finished_held (as_need one) (followed_finished one f).0 (followed_finished one f).1 in
      let same : other.object ≡ held.0 = same_Some other.object held.0 (sym other.held ∙ held.1) in
      other.differs (ap kind_of same ∙ held.2)

  no_large : (one : Reference) → IsFollowed closed source entry head one → IsLarge (source one.name) → ⊥
  no_large one f large =
      let is = (followed_finished one f).1 in
      let text = text_at-is source one.name is.text is.opened.is.held in
      let same : large.text ≡ is.text = same_Some large.text is.text (sym large.stands ∙ text.stands) in
      let within = text.within in
      let long = large.long in
      omega (arith, within, long, ap length same)

  -- what stood in the target stands, so it is the same
  no_taken : (one : Reference) → IsFollowed closed source entry head one → IsTaken source entry one.name → ⊥
  no_taken one f taken =
      let is = (followed_finished one f).1 in
      let there : is.text ≡ taken.other = same_Some is.text taken.other (sym is.there ∙ w.grew.stays one.name taken.other taken.stands) in
      let same : taken.text ≡ is.text = same_Some taken.text is.text (sym taken.held ∙ is.opened.is.held) in
      taken.differs (sym there ∙ sym same)

  -- no more objects than were counted
  no_many : (IsOne : Kind → Type 0) (count most : ℕ) → AreCounted closed source entry head work.index IsOne count → count ≤ most → AreTooMany closed source entry head IsOne most → ⊥
  no_many IsOne count most k few many =
      let fewer : length many.them ≤ length (map ref_of k.them) = length-distinct many.them (map ref_of k.them) many.once (λ one c. member one (many.each one c)) in
      let long = k.long in
      let more = many.many in
      omega (arith, fewer, long, more, few, length-map k.them ref_of)
    where
      member : (one : Reference) → IsFollowed closed source entry head one × IsHeldAs source one.name one.kind × IsOne one.kind → Contains (map ref_of k.them) one
      member one (f, held, is) = elim (k.all (as_need one) (mark.Done (followed_finished one f).0, (followed_finished one f).2) is) [
        | inl left ↦ absurd (followed_unleft one f left)
        | inr c ↦ Contains-map ref_of k.them (as_need one) c
      ]

  -- a path of trees below a tree that is done is no longer than its height
  path_high : (path : List Reference) (from to : Reference) (height : ℕ) → from.kind ≡ kinds.Tree → IsFinished closed source entry target head work.index (as_need from) height → Leads source from path to
      → AllByRecursion (λ (one : Reference). one.kind ≡ kinds.Tree) path → length path ≤ height
  path_high [] from to height tree f leads trees = omega arith
  path_high (one ∷ path) from to height tree f (names, leads) (is_tree, trees) =
      let member : Contains (needs_of f.object) (as_need one) = needs_of-has f.object (as_need one) (next_names source from one f.text f.object f.opened.is.held f.opened.is.is names) in
      let done = f.done (as_need one) member in
      let lower = f.above tree (as_need one) done.0 member is_tree done.1 in
      let rest : length path ≤ done.0 = elim (w.finished (as_need one) done.0 done.1) [
        | inl left ↦ absurd (let no_tree : kinds.Tree ≡ kinds.Commit = sym is_tree ∙ left.is_commit in cc)
        | inr g ↦ path_high path one to done.0 is_tree g leads trees
      ] in
      omega (arith, lower, rest)

  no_deep : IsTooDeep closed source entry head → ⊥
  no_deep deep =
      let commit = (followed_finished (commit_named deep.commit) deep.followed).1 in
      let member : Contains (needs_of commit.object) (as_need deep.tree) = needs_of-has commit.object (as_need deep.tree) (next_names source (commit_named deep.commit) deep.tree commit.text commit.object commit.opened.is.held commit.opened.is.is deep.names) in
      let done = commit.done (as_need deep.tree) member in
      elim (w.finished (as_need deep.tree) done.0 done.1) [
        | inl left ↦ absurd (let is = deep.is_tree in let no_tree : kinds.Tree ≡ kinds.Commit = sym is ∙ left.is_commit in cc)
        | inr f ↦
            let short = path_high deep.path deep.tree deep.last done.0 deep.is_tree f deep.leads (All-by_recursion (λ (one : Reference). one.kind ≡ kinds.Tree) deep.path deep.trees) in
            let few = f.few in
            let long = deep.deep in
            omega (arith, short, few, long)
      ]

  -- what an object of an order names, but for commits that are left, is of the order
  next_in : (order : List Need) → InOrder closed source entry order → (from low : Reference) → Contains order (as_need from) → NamesNext source from low → (IsLeft closed entry low → ⊥) → Contains order (as_need low)
  next_in [] in_order from low c names unleft = absurd (Contains-nil (as_need from) c)
  next_in (need ∷ earlier) (here, rest) from low c names unleft = Contains-later need earlier (as_need low) (elim (Contains-cons need earlier (as_need from) c) [
    | inl e ↦ elim (here low (subst (λ (n : Need). NamesNext source (ref_of n) low) (sym e) names)) [ inl left ↦ absurd (unleft left) | inr found ↦ found ]
    | inr before ↦ next_in earlier rest from low before names unleft
  ])

  -- and so is all that it leads to
  path_in : (order : List Need) → InOrder closed source entry order → (path : List Reference) (from to : Reference) → Contains order (as_need from) → Leads source from path to
      → AllByRecursion (λ (on : Reference). IsLeft closed entry on → ⊥) path → Contains order (as_need to)
  path_in order in_order [] from to c leads unleft = subst (λ (r : Reference). Contains order (as_need r)) leads c
  path_in order in_order (one ∷ path) from to c (names, leads) (here, rest) = path_in order in_order path one to (next_in order in_order from one c names here) leads rest

  -- nothing of an order lies below itself
  order_ring : (order : List Need) → InOrder closed source entry order → (one : Reference) → Contains order (as_need one) → LeadsOn closed source entry one one → ⊥
  order_ring [] in_order one c leads = Contains-nil (as_need one) c
  order_ring (need ∷ earlier) (here, rest) one c l =
      let unleft = All-by_recursion (λ (on : Reference). IsLeft closed entry on → ⊥) (l.next ∷ l.path) l.unleft in
      elim (Contains-cons need earlier (as_need one) c) [
        | inl e ↦ elim (here l.next (subst (λ (n : Need). NamesNext source (ref_of n) l.next) (sym e) l.names)) [
          | inl left ↦ unleft.0 left
          | inr found ↦ order_ring earlier rest one (path_in earlier rest l.path l.next one found l.leads unleft.1) l
        ]
        | inr before ↦ order_ring earlier rest one before l
      ]

  no_ring : (one : Reference) → IsFollowed closed source entry head one → LeadsOn closed source entry one one → ⊥
  no_ring one f leads =
      let found = followed_finished one f in
      elim (w.ordered (as_need one) found.0 found.2) [
        | inl left ↦ followed_unleft one f left
        | inr c ↦ order_ring w.order w.in_order one c leads
      ]

  pub no_cause : (f : CopyFault) → CauseHolds closed source entry head f → ⊥
  no_cause fault.Memory c = c
  no_cause fault.Disk c = c
  no_cause (fault.Missing name) c = no_missing c.one c.followed c.is
  no_cause (fault.Damaged name) c = no_damaged c.one c.followed c.is
  no_cause (fault.WrongKind name) c = no_other c.one c.followed c.is
  no_cause (fault.TooLarge count) (inl large) = no_large large.1.one large.1.followed large.1.large
  no_cause (fault.TooLarge count) (inr (inl many)) = no_many IsCommit work.commits MOST_COMMITS w.are_commits w.few_commits many.1
  no_cause (fault.TooLarge count) (inr (inr (inl many))) = no_many IsOther work.others MOST_OTHERS w.are_others w.few_others many.1
  no_cause (fault.TooLarge count) (inr (inr (inr deep))) = no_deep deep.1
  no_cause (fault.Ring name) c = no_ring c.one c.followed c.is.1
  no_cause (fault.Taken name) c = no_taken c.one c.followed c.is
