-- Marks before and after one of them was set.
use Rattle.std.proofs.Common.{◌≡◌, ◌≢◌, ◌⊎◌, inl, inr, ℕ, Bool, true, false, List, Some, refl, sym, ◌∙◌, ap, subst}
use Rattle.std.specs.Str.{bytes_eq}
use Rattle.std.proofs.lemmas.Slice.Eq.{bytes_eq-Decides}
use Rattle.std.proofs.lemmas.Option.{same_Some}
use Rattle.gb_text.specs.declared.id.Name.{Name}
use Rattle.remote_copy.specs.Index.{IsDone, IsDoneAt, IsMet, Sets, mark_of}
use Rattle.remote_copy.specs.declared.index.Index.{Index}
use Rattle.remote_copy.specs.declared.index.Mark.{Mark}
use Rattle.remote_copy.specs.declared.index.Mark.TheVariants as mark
use Rattle.remote_copy.specs.declared.need.Need.{Need}
use Rattle.remote_copy.proofs.IndexLemmas.{same_kind, same_need}

-- two needs are one or differ
pub need_cases : (one two : Need) → (one ≡ two) ⊎ (one ≢ two)
need_cases one two = by_kind (same_kind one.kind two.kind)
  where
    by_name : (b : Bool) → bytes_eq one.name.bytes two.name.bytes ≡ b → one.kind ≡ two.kind → (one ≡ two) ⊎ (one ≢ two)
    by_name true e kind =
        let bytes : one.name.bytes ≡ two.name.bytes = (bytes_eq-Decides one.name.bytes two.name.bytes).0 e in
        let of_bytes : List ℕ → Name = λ b. record { bytes = b } in
        inl (same_need one two (ap of_bytes bytes) kind)
    by_name false e kind = inr (λ same. let yes : bytes_eq one.name.bytes two.name.bytes ≡ true = (bytes_eq-Decides one.name.bytes two.name.bytes).1 (ap (λ (n : Need). n.name.bytes) same) in cc)

    by_kind : (one.kind ≡ two.kind) ⊎ (one.kind ≢ two.kind) → (one ≡ two) ⊎ (one ≢ two)
    by_kind (inl e) = by_name (bytes_eq one.name.bytes two.name.bytes) refl e
    by_kind (inr n) = inr (λ same. n (ap (λ (x : Need). x.kind) same))

-- what was done stays done
pub record StaysDone (old new : Index) : Type 0 where
  pub stays : (need : Need) (height : ℕ) → IsDoneAt old need height → IsDoneAt new need height

pub done_stays : (old new : Index) → StaysDone old new → (need : Need) → IsDone old need → IsDone new need
done_stays old new s need (height, is) = (height, s.stays need height is)

-- a thing has one height
pub one_height : (index : Index) (need : Need) (one two : ℕ) → IsDoneAt index need one → IsDoneAt index need two → one ≡ two
one_height index need one two first second =
    let same : mark.Done one ≡ mark.Done two = same_Some (mark.Done one) (mark.Done two) (sym first ∙ second) in cc

module _ (old new : Index) (need : Need) (set : Mark) (sets : Sets old new need set) where
  pub sets_kept : (other : Need) (m : Mark) → other ≢ need → mark_of old other.kind other.name ≡ Some m → mark_of new other.kind other.name ≡ Some m
  sets_kept other m differs is = sets.others other differs ∙ is

  -- a mark is the one that was set, or was there
  pub sets_back : (other : Need) (m : Mark) → mark_of new other.kind other.name ≡ Some m → ((other ≡ need) × (m ≡ set)) ⊎ (mark_of old other.kind other.name ≡ Some m)
  sets_back other m is = by (need_cases other need)
    where
      by : (other ≡ need) ⊎ (other ≢ need) → ((other ≡ need) × (m ≡ set)) ⊎ (mark_of old other.kind other.name ≡ Some m)
      by (inl e) =
          let here : mark_of new other.kind other.name ≡ Some set = subst (λ (n : Need). mark_of new n.kind n.name ≡ Some set) (sym e) sets.here in
          inl (e, same_Some m set (sym is ∙ here))
      by (inr n) = inr (sym (sets.others other n) ∙ is)

  -- where the one was not done, what was done stays
  pub sets_done : ((height : ℕ) → IsDoneAt old need height → ⊥) → StaysDone old new
  sets_done fresh = record { stays = λ other height is. by other height is (need_cases other need) }
    where
      by : (other : Need) (height : ℕ) → IsDoneAt old other height → (other ≡ need) ⊎ (other ≢ need) → IsDoneAt new other height
      by other height is (inl e) = absurd (fresh height (subst (λ (n : Need). IsDoneAt old n height) e is))
      by other height is (inr n) = sets_kept other (mark.Done height) n is

  pub sets_met : (other : Need) → IsMet old other → IsMet new other
  sets_met other (m, is) = by (need_cases other need)
    where
      by : (other ≡ need) ⊎ (other ≢ need) → IsMet new other
      by (inl e) = (set, subst (λ (n : Need). mark_of new n.kind n.name ≡ Some set) (sym e) sets.here)
      by (inr n) = (m, sets_kept other m n is)
