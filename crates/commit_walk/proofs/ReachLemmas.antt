-- What was found below some names grows by a name that is read, and by a name that is added.
use Rattle.std.proofs.Common.{◌≡◌, ◌⊎◌, inl, inr, ⊎_elim, ◌≤◌, ◌<◌, ◌+◌, ℕ, List, [], ◌∷◌, ◌++◌, length, take, get_or, Contains, Some, None, sym, ◌∙◌, ap, subst, arith, length-append}
use Rattle.std.specs.List.{slice_get}
use Rattle.std.proofs.lemmas.Bool.{cases_lt}
use Rattle.std.proofs.lemmas.List.{get_or_append_left, length-map, map-append, take-append-le, take_more, take_all}
use Rattle.std.proofs.lemmas.List.Elements.{Contains-append_left, Contains-append_right, Contains-append_cases, Contains-push_cases}
use Rattle.std.proofs.lemmas.Option.{get_or_from_slice_get, slice_get-get_or, slice_get_within, slice_get_cases, same_Some}
use Rattle.gb_text.specs.declared.id.Name.{Name}
use Rattle.git_object.specs.declared.commit.Commit.{Commit}
use Rattle.object_store.specs.Held.{Objects}
use Rattle.object_store.specs.Typed.{commit_at}
use Rattle.commit_walk.specs.Answers.{ReadsBelow}
use Rattle.commit_walk.specs.Below.{AreBelow, AreTooMany, FaultHolds, IsBelow, IsClosed, IsCommit, head, parent, names_of}
use Rattle.commit_walk.specs.Reaches.{IsReach, ReadsKnown, Reached, TurnedBy, Turned, TurnedIn, a_commit, known, no_commit}
use Rattle.commit_walk.specs.Distinct.{AreDistinct}
use Rattle.commit_walk.specs.Queues.{Adds}
use Rattle.commit_walk.specs.declared.below.Met.{Met}
use Rattle.commit_walk.specs.declared.reach.Reach.{Reach}
use Rattle.commit_walk.specs.declared.fault.WalkFault.{WalkFault}
use Rattle.commit_walk.specs.declared.fault.WalkFault.TheVariants as fault
use Rattle.commit_walk.proofs.BelowLemmas.{below_below}
use Rattle.commit_walk.proofs.DistinctLemmas.{AreDistinct-nil, Contains-nil}
use Rattle.commit_walk.proofs.FaultLemmas.{fault_at, fault_over, holds_none}

-- ---- names that are known

pub known_after : (old more new : List Name) (name : Name) → Adds old more new → Contains old name → Contains new name
known_after old more new name adds c = subst (λ (l : List Name). Contains l name) (sym adds.kept) (Contains-append_left old adds.rest name c)

pub name_is_known : (names : List Name) (place : ℕ) (name : Name) → slice_get names place ≡ Some name → Contains names name
name_is_known names place name at = (place, slice_get_within names place name at, get_or_from_slice_get names place name name at)

-- a name that stood at a place stands there still
pub stands_still : (old more new : List Name) (place : ℕ) (name : Name) → Adds old more new → place < length old → slice_get new place ≡ Some name → slice_get old place ≡ Some name
stands_still old more new place name adds within at =
    let here : get_or new place name ≡ name = get_or_from_slice_get new place name name at in
    let same : get_or new place name ≡ get_or old place name = ap (λ (l : List Name). get_or l place name) adds.kept ∙ get_or_append_left old adds.rest name place within in
    slice_get-get_or old place name within ∙ ap Some (sym same ∙ here)

-- the first names stay
front_stays : (old more new : List Name) (done : ℕ) → Adds old more new → done ≤ length old → take done new ≡ take done old
front_stays old more new done adds within = ap (take done) adds.kept ∙ take-append-le done old adds.rest within

pub add_more : (old more new : List Name) → Adds old more new → length old ≤ length new
add_more old more new adds = omega (arith, ap length adds.kept, length-append old adds.rest)

-- where no name is left all were read
pub all_read : (names : List Name) (place : ℕ) → place ≤ length names → slice_get names place ≡ None → place ≡ length names
all_read names place within none =
    elim (slice_get_cases names place).1 [
      | inl s ↦ cc (sym none ∙ s.2)
      | inr h ↦ omega (arith, h.0, within)
    ]

pub earlier_or_last : (place done : ℕ) → place < done + 1 → (place < done) ⊎ (place ≡ done)
earlier_or_last place done within = elim (cases_lt place done) [ inl l ↦ inl l | inr g ↦ inr (omega (arith, g, within)) ]

-- ---- whatever the store tells

module _ (tops : List Name) (old new : Reach) where
  pub IsReach-turn : (name : Name) (done : ℕ) → IsReach tops old done → slice_get (known old) done ≡ Some name → Turned old new name → IsReach tops new (done + 1)
  IsReach-turn name done r at (a_commit met _ is adds walk wrong) =
      let within : done < length (known old) = slice_get_within (known old) done name at in
      let here : get_or (known old) done name ≡ met.name = get_or_from_slice_get (known old) done name name at ∙ sym is in
      record {
        tops_known = λ n c. known_after (known old) met.parents (known new) n adds (r.tops_known n c);
        parents_known = λ m n c p. ⊎_elim
            (λ (h : Contains old.walk.items m). known_after (known old) met.parents (known new) n adds (r.parents_known m n h p))
            (λ (e : met ≡ m). adds.has n (subst (λ (x : Met). Contains x.parents n) (sym e) p))
            (Contains-push_cases old.walk.items met m (subst (λ (l : List Met). Contains l m) walk c));
        whole = λ none.
            ap names_of walk ∙ map-append (λ (m : Met). m.name) old.walk.items (met ∷ [])
            ∙ ap (λ (l : List Name). l ++ met.name ∷ []) (r.whole (sym wrong ∙ none))
            ∙ ap (λ (n : Name). take done (known old) ++ n ∷ []) (sym here)
            ∙ sym (take_more (known old) done name within)
            ∙ sym (front_stays (known old) met.parents (known new) (done + 1) adds (omega arith));
      }
  IsReach-turn name done r at (no_commit f _ names walk wrong) = record {
    tops_known = λ n c. subst (λ (l : List Name). Contains l n) (sym names) (r.tops_known n c);
    parents_known = λ m n c p. subst (λ (l : List Name). Contains l n) (sym names) (r.parents_known m n (subst (λ (l : List Met). Contains l m) walk c) p);
    whole = λ none. cc (sym none ∙ wrong);
  }

  pub IsReach-more : (top : Name) (done : ℕ) → IsReach tops old done → done ≤ length (known old) → Adds (known old) (top ∷ []) (known new) → new.walk ≡ old.walk → new.wrong ≡ old.wrong → IsReach (tops ++ top ∷ []) new done
  IsReach-more top done r within adds walk wrong = record {
    tops_known = λ n c. ⊎_elim
        (λ (h : Contains tops n). known_after (known old) (top ∷ []) (known new) n adds (r.tops_known n h))
        (λ (h : Contains (top ∷ []) n). adds.has n h)
        (Contains-append_cases tops (top ∷ []) n c);
    parents_known = λ m n c p. known_after (known old) (top ∷ []) (known new) n adds (r.parents_known m n (subst (λ w. Contains w.items m) walk c) p);
    whole = λ none. ap (λ w. names_of w.items) walk ∙ r.whole (sym wrong ∙ none) ∙ sym (front_stays (known old) (top ∷ []) (known new) done adds within);
  }

-- ---- of a store

-- what is wrong below some heads is wrong below more
more_wrong : (objects : Objects) (heads more : List Name) (f : WalkFault) → ((name : Name) → Contains heads name → Contains more name) → FaultHolds objects heads f → FaultHolds objects more f
more_wrong objects heads more f all h = fault_over objects (IsBelow objects heads) (AreTooMany objects heads) (IsBelow objects more) (AreTooMany objects more) up many f h
  where
    up : (name : Name) → IsBelow objects heads name → IsBelow objects more name
    up name b = below_below objects more heads name (λ n c. head (all n c)) b

    many : AreTooMany objects heads → AreTooMany objects more
    many h = record {
      names = h.names;
      once = h.once;
      many = h.many;
      each = λ name c. let is = h.each name c in record { below = up name is.below; commit = is.commit; held = is.held };
    }

module _ (objects : Objects) (tops : List Name) (old new : Reach) where
  pub Reached-turn : (name : Name) (done : ℕ) → Reached objects tops old done → slice_get (known old) done ≡ Some name → TurnedIn objects old new name → Reached objects tops new (done + 1)
  Reached-turn name done r at (a_commit met commit is adds walk wrong) =
      let within : done < length (known old) = slice_get_within (known old) done name at in
      let below : IsBelow objects tops met.name = r.below met.name (subst (Contains (known old)) (sym is) (name_is_known (known old) done name at)) in
      record {
        tops_known = λ n c. known_after (known old) met.parents (known new) n adds (r.tops_known n c);
        below = λ n c. ⊎_elim
            (λ (h : Contains (known old) n). r.below n h)
            (λ (h : Contains met.parents n). parent below (record { commit = commit.commit; held = commit.held; names = subst (λ (l : List Name). Contains l n) commit.parents h }))
            (adds.only n c);
        parents_known = λ place n low earlier there p.
            let stood : slice_get (known old) place ≡ Some n = stands_still (known old) met.parents (known new) place n adds (omega (arith, earlier, within)) there in
            ⊎_elim
            (λ (less : place < done). known_after (known old) met.parents (known new) low adds (r.parents_known place n low less stood p))
            (λ (last : place ≡ done).
            let named : n ≡ met.name = same_Some n met.name (sym stood ∙ ap (slice_get (known old)) last ∙ at ∙ ap Some (sym is)) in
            let same : p.commit ≡ commit.commit = same_Some p.commit commit.commit (sym p.held ∙ ap (commit_at objects) named ∙ commit.held) in
            adds.has low (subst (λ (l : List Name). Contains l low) (ap (λ (c : Commit). c.parents) same ∙ sym commit.parents) p.names))
            (earlier_or_last place done earlier);
        each = λ m c. ⊎_elim (λ (h : Contains old.walk.items m). r.each m h) (λ (e : met ≡ m). subst (IsCommit objects) e commit) (Contains-push_cases old.walk.items met m (subst (λ (l : List Met). Contains l m) walk c));
        wrong = λ f e. r.wrong f (sym wrong ∙ e);
      }
  Reached-turn name done r at (no_commit f lacks names walk wrong) = record {
    tops_known = λ n c. subst (λ (l : List Name). Contains l n) (sym names) (r.tops_known n c);
    below = λ n c. r.below n (subst (λ (l : List Name). Contains l n) names c);
    parents_known = λ place n low earlier there p.
        let stood : slice_get (known old) place ≡ Some n = ap (λ (l : List Name). slice_get l place) (sym names) ∙ there in
        ⊎_elim
        (λ (less : place < done). subst (λ (l : List Name). Contains l low) (sym names) (r.parents_known place n low less stood p))
        (λ (last : place ≡ done).
        let named : n ≡ name = same_Some n name (sym stood ∙ ap (slice_get (known old)) last ∙ at) in
        let none : commit_at objects n ≡ None = ap (commit_at objects) named ∙ holds_none objects name f lacks in
        cc (sym none ∙ p.held))
        (earlier_or_last place done earlier);
    each = λ m c. r.each m (subst (λ (l : List Met). Contains l m) walk c);
    wrong = λ g e.
        let same : f ≡ g = same_Some f g (sym wrong ∙ e) in
        subst (FaultHolds objects tops) same (fault_at objects (IsBelow objects tops) (AreTooMany objects tops) name f (r.below name (name_is_known (known old) done name at)) lacks);
  }

  pub Reached-more : (top : Name) → Reached objects tops old (length (known old)) → Adds (known old) (top ∷ []) (known new) → new.walk ≡ old.walk → new.wrong ≡ old.wrong → Reached objects (tops ++ top ∷ []) new (length (known old))
  Reached-more top r adds walk wrong = record {
    tops_known = λ n c. ⊎_elim
        (λ (h : Contains tops n). known_after (known old) (top ∷ []) (known new) n adds (r.tops_known n h))
        (λ (h : Contains (top ∷ []) n). adds.has n h)
        (Contains-append_cases tops (top ∷ []) n c);
    below = λ n c. ⊎_elim
        (λ (h : Contains (known old) n). below_below objects (tops ++ top ∷ []) tops n (λ m c. head (Contains-append_left tops (top ∷ []) m c)) (r.below n h))
        (λ (h : Contains (top ∷ []) n). head (Contains-append_right tops (top ∷ []) n h))
        (adds.only n c);
    parents_known = λ place n low earlier there p.
        known_after (known old) (top ∷ []) (known new) low adds (r.parents_known place n low earlier (stands_still (known old) (top ∷ []) (known new) place n adds earlier there) p);
    each = λ m c. r.each m (subst (λ w. Contains w.items m) walk c);
    wrong = λ f e. more_wrong objects tops (tops ++ top ∷ []) f (λ n c. Contains-append_left tops (top ∷ []) n c) (r.wrong f (sym wrong ∙ e));
  }

-- ---- where all that is known was read

module _ (objects : Objects) (tops : List Name) (reach : Reach) (r : Reached objects tops reach (length (known reach))) where
  -- all that lies below is known
  pub known_below : (name : Name) → IsBelow objects tops name → Contains (known reach) name
  known_below name (head c) = r.tops_known name c
  known_below name (parent {high = high} b p) =
      let c : Contains (known reach) high = known_below high b in
      r.parents_known c.0 high name c.1 (slice_get-get_or (known reach) c.0 high c.1 ∙ ap Some c.2) p

  module _ (once : AreDistinct (known reach)) (is : IsReach tops reach (length (known reach))) (none : reach.wrong ≡ None) where
    all : names_of reach.walk.items ≡ known reach
    all = is.whole none ∙ take_all (length (known reach)) (known reach) (omega arith)

    pub are_below : AreBelow objects tops reach.walk.items
    are_below = record {
      all = λ name b. subst (λ (l : List Name). Contains l name) (sym all) (known_below name b);
      only = λ name c. r.below name (subst (λ (l : List Name). Contains l name) all c);
      each = r.each;
      once = subst AreDistinct (sym all) once;
    }

-- such a walk is closed
pub is_closed : (tops : List Name) (reach : Reach) → AreDistinct (known reach) → IsReach tops reach (length (known reach)) → reach.wrong ≡ None → IsClosed tops reach.walk.items
is_closed tops reach once is none =
    let all : names_of reach.walk.items ≡ known reach = is.whole none ∙ take_all (length (known reach)) (known reach) (omega arith) in
    record {
      heads_met = λ name c. subst (λ (l : List Name). Contains l name) (sym all) (is.tops_known name c);
      parents_met = λ met name c p. subst (λ (l : List Name). Contains l name) (sym all) (is.parents_known met name c p);
      once = subst AreDistinct (sym all) once;
    }

-- what is known grows
pub turned_more : (Holds : Met → Type 0) (Lacks : WalkFault → Type 0) (old new : Reach) (name : Name) → TurnedBy Holds Lacks old new name → length (known old) ≤ length (known new)
turned_more Holds Lacks old new name (a_commit met _ is adds walk wrong) = add_more (known old) met.parents (known new) adds
turned_more Holds Lacks old new name (no_commit f _ names walk wrong) = omega (arith, ap length names)

-- ---- how many objects were read

module _ (objects : Objects) (tops : List Name) (reach : Reach) (place : ℕ) (r : Reached objects tops reach place) (once : AreDistinct (known reach)) where
  -- so many of the known names were read
  pub reads_known : (done before after : ℕ) → after + done ≤ before + length (known reach) → ReadsKnown objects tops done before after
  reads_known done before after few = record { names = known reach; once = once; each = r.below; few = few }

-- what lies below some names lies below more
pub reads_more : (objects : Objects) (tops more : List Name) (done before after : ℕ) → ((name : Name) → Contains tops name → Contains more name) → ReadsKnown objects tops done before after → ReadsKnown objects more done before after
reads_more objects tops more done before after all r = record { names = r.names; once = r.once; each = λ name c. below_below objects more tops name (λ n h. head (all n h)) (r.each name c); few = r.few }

-- all reads of both
pub reads_both : (objects : Objects) (heads : List Name) (done before mid after : ℕ) → mid ≤ before + done → ReadsKnown objects heads done mid after → ReadsBelow objects heads before after
reads_both objects heads done before mid after first r = record { names = r.names; once = r.once; each = r.each; few = omega (arith, first, r.few) }

-- no object was read
pub reads_none : (objects : Objects) (heads : List Name) (before after : ℕ) → after ≤ before → ReadsBelow objects heads before after
reads_none objects heads before after same = record { names = []; once = AreDistinct-nil; each = λ name c. absurd (Contains-nil name c); few = omega (arith, same) }

-- ---- the walk below two heads

pub IsReach-start : (reach : Reach) → known reach ≡ [] → reach.walk.items ≡ [] → IsReach [] reach (length (known reach))
IsReach-start reach names walk = record {
  tops_known = λ n c. absurd (Contains-nil n c);
  parents_known = λ m n c p. absurd (Contains-nil m (subst (λ (l : List Met). Contains l m) walk c));
  whole = λ none. ap names_of walk ∙ sym (take_all (length (known reach)) (known reach) (omega arith) ∙ names);
}

pub Reached-start : (objects : Objects) (reach : Reach) → known reach ≡ [] → reach.walk.items ≡ [] → reach.wrong ≡ None → Reached objects [] reach (length (known reach))
Reached-start objects reach names walk none = record {
  tops_known = λ n c. absurd (Contains-nil n c);
  below = λ n c. absurd (Contains-nil n (subst (λ (l : List Name). Contains l n) names c));
  parents_known = λ place n low within at p. absurd (omega (arith, within, ap length names));
  each = λ m c. absurd (Contains-nil m (subst (λ (l : List Met). Contains l m) walk c));
  wrong = λ f e. cc (sym none ∙ e);
}

pub walk_length : (tops : List Name) (reach : Reach) → IsReach tops reach (length (known reach)) → reach.wrong ≡ None → length reach.walk.items ≡ length (known reach)
walk_length tops reach is none =
    sym (length-map reach.walk.items (λ (m : Met). m.name)) ∙ ap length (is.whole none ∙ take_all (length (known reach)) (known reach) (omega arith))
