-- A commit that is left is not read in the source.
use Rattle.std.proofs.Common.{◌≡◌, ◌≤◌, ◌+◌, ◌*◌, refl, sym, ◌∙◌, ap, subst, Bool, true, ℕ, List, [], ◌∷◌, length, Contains, arith}
use Rattle.std.proofs.Math.ListN.{get_or-map}
use Rattle.std.proofs.lemmas.List.{length-map}
use Rattle.gb_text.specs.declared.id.Name.{Name}
use Rattle.git_object.specs.declared.frame.Kind.TheVariants as kinds
use Rattle.object_store.specs.Held.{Objects}
use Rattle.object_batch.specs.Needs.{IsHeldAs, Reference}
use Rattle.commit_walk.specs.Distinct.{AreDistinct}
use Rattle.commit_walk.proofs.DistinctLemmas.{Contains-first, length-distinct}
use Rattle.remote_copy.specs.Closure.{IsAsked, IsFollowed, IsLeft, ask_first, ask_next, commit_named, first, next}
use Rattle.remote_copy.specs.Copies.{ReadsEach, names_of}

-- where no name comes twice, nothing does
AreDistinct-named : (them : List Reference) → AreDistinct (names_of them) → AreDistinct them
AreDistinct-named them once i j d before within same =
    let named : Reference → Name = λ one. one.name in
    once i j d.name before (omega (arith, within, length-map them named)) (get_or-map named them i d ∙ ap named same ∙ sym (get_or-map named them j d))

-- at most two for each
pub twice : (closed : Bool) (source target : Objects) (head : Name) (before after : ℕ) → ReadsEach closed source target head before after
    → (them : List Reference) × AreDistinct them × ((one : Reference) → Contains them one → IsAsked closed source target head one) × (after ≤ before + 2 * length them)
twice closed source target head before after r =
    let few = r.few in
    let fewer = length-distinct r.opened r.them (AreDistinct-named r.opened r.opened_once) (λ one c. (r.opened_each one c).0) in
    (r.them, r.once, r.each, omega (arith, few, fewer))

pub apart : (closed : Bool) (source target : Objects) (head : Name) (before after : ℕ) → ReadsEach closed source target head before after
    → (asked followed : List Reference) × AreDistinct asked × AreDistinct (names_of followed) × ((one : Reference) → Contains asked one → IsAsked closed source target head one)
    × ((one : Reference) → Contains followed one → IsFollowed closed source target head one) × (after ≤ before + length asked + length followed)
apart closed source target head before after r = (r.them, r.opened, r.once, r.opened_once, r.each, λ one c. (r.opened_each one c).1, r.few)

module _ (source target : Objects) (head : Name) where
  -- a commit that the target holds
  is_left : (one : Reference) → one.kind ≡ kinds.Commit → IsHeldAs target one.name kinds.Commit → IsLeft true target one
  is_left one is held = record { is_closed = refl; is_commit = is; held = held }

  pub not_followed : (one : Reference) → one.kind ≡ kinds.Commit → IsHeldAs target one.name kinds.Commit → IsFollowed true source target head one → ⊥
  not_followed one is held (first e unleft) = unleft (is_left one is held)
  not_followed one is held (next f names unleft) = unleft (is_left one is held)

  -- where the head is left, nothing is followed
  none_followed : IsHeldAs target head kinds.Commit → (one : Reference) → IsFollowed true source target head one → ⊥
  none_followed held one (first e unleft) = unleft (subst (IsLeft true target) (sym e) (is_left (commit_named head) refl held))
  none_followed held one (next {high = high} f names unleft) = none_followed held high f

  -- and nothing but the head is asked for
  head_asked : IsHeldAs target head kinds.Commit → (one : Reference) → IsAsked true source target head one → Contains (commit_named head ∷ []) one
  head_asked held one (ask_first e) = subst (Contains (commit_named head ∷ [])) (sym e) (Contains-first (commit_named head) [])
  head_asked held one (ask_next {high = high} f names) = absurd (none_followed held high f)

  pub head_alone : (before after : ℕ) → IsHeldAs target head kinds.Commit → ReadsEach true source target head before after → after ≤ before + 1
  head_alone before after held r =
      let few = r.few in
      let asked = length-distinct r.them (commit_named head ∷ []) r.once (λ one c. head_asked held one (r.each one c)) in
      let opened = length-distinct r.opened [] (AreDistinct-named r.opened r.opened_once) (λ one c. absurd (none_followed held one (r.opened_each one c).1)) in
      omega (arith, few, asked, opened)
