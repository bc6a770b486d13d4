-- What may be wrong with two heads together of which each is valid alone.
use Rattle.std.proofs.Common.{◌≡◌, ◌⊎◌, inl, inr, ⊎_elim, ℕ, List, [], ◌∷◌, refl, sym, arith}
use Rattle.gb_text.specs.declared.id.Id.{Id}
use Rattle.gb_text.specs.declared.id.Name.{Name}
use Rattle.object_store.specs.Held.{Objects}
use Rattle.commit_walk.specs.Below.{AreTooMany, IsBelow}
use Rattle.commit_walk.proofs.BelowLemmas.{below_one}
use Rattle.commit_pack.specs.declared.fault.CommitPackFault.{CommitPackFault}
use Rattle.commit_pack.specs.declared.fault.CommitPackFault.TheVariants as pack
use Rattle.op_kind.specs.Meaning.{Meaning}
use Rattle.dag_entity.specs.Faults.{EntityFaultHolds, IsRootCommit, IsRootNode, IsSecondRoot, IsTooLarge, IsValid, NeedTooMany, RepeatsAcross, RepeatsWithin}
use Rattle.dag_entity.specs.Joining.{IsRepeatedAcross, IsRootAcross, TakesBoth}
use Rattle.dag_entity.specs.Nodes.{HasPackFault, IsNeeded, IsNodeBelow}
use Rattle.dag_entity.specs.declared.entity.Loaded.{Loaded}
use Rattle.dag_entity.specs.declared.fault.EntityFault.{EntityFault}
use Rattle.dag_entity.specs.declared.fault.EntityFault.TheVariants as fault
use Rattle.dag_entity.proofs.PairLemmas.{is_first, is_second, under}

module _ {Op State Row : Type 0} (k : Meaning Op State Row) (objects : Objects) (id : Id) (authors : List Id) (one two : Name)
    (first : IsValid k objects id (one ∷ []) authors) (second : IsValid k objects id (two ∷ []) authors) where
  abbrev both : List Name
  both = one ∷ two ∷ []

  -- ---- each below one of the heads

  below : (name : Name) → IsBelow objects both name → IsBelow objects (one ∷ []) name ⊎ IsBelow objects (two ∷ []) name
  below name b = below_one objects one two b

  needed : (name : Name) → IsNeeded objects both name → IsNeeded objects (one ∷ []) name ⊎ IsNeeded objects (two ∷ []) name
  needed name (inl b) = ⊎_elim (λ (l : IsBelow objects (one ∷ []) name). inl (inl l)) (λ (r : IsBelow objects (two ∷ []) name). inr (inl r)) (below name b)
  needed name (inr n) = ⊎_elim
      (λ (l : IsBelow objects (one ∷ []) n.high). inl (inr (record { high = n.high; commit = n.commit; is = record { below = l; held = n.is.held }; needs = n.needs })))
      (λ (r : IsBelow objects (two ∷ []) n.high). inr (inr (record { high = n.high; commit = n.commit; is = record { below = r; held = n.is.held }; needs = n.needs })))
      (below n.high n.is.below)

  pack_fault : (name : Name) (f : CommitPackFault) → HasPackFault k objects both name f → HasPackFault k objects (one ∷ []) name f ⊎ HasPackFault k objects (two ∷ []) name f
  pack_fault name f h = ⊎_elim
      (λ (l : IsBelow objects (one ∷ []) name). inl (record { commit = h.commit; is = record { below = l; held = h.is.held }; holds = h.holds }))
      (λ (r : IsBelow objects (two ∷ []) name). inr (record { commit = h.commit; is = record { below = r; held = h.is.held }; holds = h.holds }))
      (below name h.is.below)

  node : (n : Loaded Op) → IsNodeBelow k objects both n → IsNodeBelow k objects (one ∷ []) n ⊎ IsNodeBelow k objects (two ∷ []) n
  node n h = ⊎_elim
      (λ (l : IsBelow objects (one ∷ []) n.placed.commit). inl (record { below = l; is = h.is }))
      (λ (r : IsBelow objects (two ∷ []) n.placed.commit). inr (record { below = r; is = h.is }))
      (below n.placed.commit h.below)

  root_node : (n : Loaded Op) → IsRootNode k objects both n → IsRootNode k objects (one ∷ []) n ⊎ IsRootNode k objects (two ∷ []) n
  root_node n h = ⊎_elim (λ (l : IsNodeBelow k objects (one ∷ []) n). inl (record { is = l; root = h.root })) (λ (r : IsNodeBelow k objects (two ∷ []) n). inr (record { is = r; root = h.root })) (node n h.is)

  root : (name : Name) → IsRootCommit objects both name → IsRootCommit objects (one ∷ []) name ⊎ IsRootCommit objects (two ∷ []) name
  root name h = ⊎_elim
      (λ (l : IsBelow objects (one ∷ []) name). inl (record { commit = h.commit; is = record { below = l; held = h.is.held }; root = h.root }))
      (λ (r : IsBelow objects (two ∷ []) name). inr (record { commit = h.commit; is = record { below = r; held = h.is.held }; root = h.root }))
      (below name h.is.below)

  -- ---- what takes both

  roots : (name : Name) → IsSecondRoot objects both name → IsRootAcross objects one two name ⊎ IsRootAcross objects two one name
  unfolding EntityFaultHolds
  roots name h = ⊎_elim
      (λ (l : IsRootCommit objects (one ∷ []) name). ⊎_elim
      (λ (m : IsRootCommit objects (one ∷ []) h.other). absurd (first (fault.SecondRoot name) (record { one = l; other = h.other; two = m; differ = h.differ })))
      (λ (m : IsRootCommit objects (two ∷ []) h.other). inl (record { one = l; other = h.other; two = m; differ = h.differ }))
      (root h.other h.two))
      (λ (r : IsRootCommit objects (two ∷ []) name). ⊎_elim
      (λ (m : IsRootCommit objects (one ∷ []) h.other). inr (record { one = r; other = h.other; two = m; differ = h.differ }))
      (λ (m : IsRootCommit objects (two ∷ []) h.other). absurd (second (fault.SecondRoot name) (record { one = r; other = h.other; two = m; differ = h.differ })))
      (root h.other h.two))
      (root name h.one)

  within : (found : Id) → RepeatsWithin k objects both found → ⊥
  unfolding EntityFaultHolds
  within found h = ⊎_elim
      (λ (l : IsNodeBelow k objects (one ∷ []) h.node). first (fault.RepeatedOperation found) (inl (record { node = h.node; is = l; one = h.one; two = h.two; differ = h.differ; at_one = h.at_one; at_two = h.at_two })))
      (λ (r : IsNodeBelow k objects (two ∷ []) h.node). second (fault.RepeatedOperation found) (inl (record { node = h.node; is = r; one = h.one; two = h.two; differ = h.differ; at_one = h.at_one; at_two = h.at_two })))
      (node h.node h.is)

  across : (found : Id) → RepeatsAcross k objects both found → IsRepeatedAcross k objects one two found
  unfolding EntityFaultHolds
  across found h = ⊎_elim
      (λ (l : IsNodeBelow k objects (one ∷ []) h.one). ⊎_elim
      (λ (m : IsNodeBelow k objects (one ∷ []) h.two). absurd (first (fault.RepeatedOperation found) (inr (record { one = h.one; two = h.two; is_one = l; is_two = m; differ = h.differ; in_one = h.in_one; in_two = h.in_two }))))
      (λ (m : IsNodeBelow k objects (two ∷ []) h.two). record { one = h.one; two = h.two; is_one = l; is_two = m; differ = h.differ; in_one = h.in_one; in_two = h.in_two })
      (node h.two h.is_two))
      (λ (r : IsNodeBelow k objects (two ∷ []) h.one). ⊎_elim
      (λ (m : IsNodeBelow k objects (one ∷ []) h.two). record { one = h.two; two = h.one; is_one = m; is_two = r; differ = λ e. h.differ (sym e); in_one = h.in_two; in_two = h.in_one })
      (λ (m : IsNodeBelow k objects (two ∷ []) h.two). absurd (second (fault.RepeatedOperation found) (inr (record { one = h.one; two = h.two; is_one = r; is_two = m; differ = h.differ; in_one = h.in_one; in_two = h.in_two }))))
      (node h.two h.is_two))
      (node h.one h.is_one)

  -- commits of which there are too many, all below one head
  many_below : (top : Name) → AreTooMany objects both → ((name : Name) → IsBelow objects both name → IsBelow objects (top ∷ []) name) → AreTooMany objects (top ∷ [])
  many_below top many down = record {
    names = many.names;
    once = many.once;
    many = many.many;
    each = λ name c. let is = many.each name c in record { below = down name is.below; commit = is.commit; held = is.held };
  }

  too_many : AreTooMany objects both → NeedTooMany objects both
  unfolding EntityFaultHolds
  too_many many = record {
    one = one;
    two = two;
    apart = record {
      are = refl;
      one_apart = λ b. second (fault.TooLarge 65537) (inl (refl, inl (many_below two many (λ name c. ⊎_elim (λ (l : IsBelow objects (one ∷ []) name). under objects (two ∷ []) one b name l) (λ (r : IsBelow objects (two ∷ []) name). r) (below name c)))));
      two_apart = λ b. first (fault.TooLarge 65537) (inl (refl, inl (many_below one many (λ name c. ⊎_elim (λ (l : IsBelow objects (one ∷ []) name). l) (λ (r : IsBelow objects (two ∷ []) name). under objects (one ∷ []) two b name r) (below name c)))));
    };
    names = many.names;
    once = many.once;
    many = omega (arith, many.many);
    each = many.each;
  }

  large : (count : ℕ) → IsTooLarge k objects both count → (count ≡ 65537) × NeedTooMany objects both
  unfolding EntityFaultHolds
  large count (inl (is, inl many)) = (is, too_many many)
  large count (inl (is, inr need)) = (is, need)
  large count (inr (inl (name, h))) = absurd (⊎_elim
      (λ (l : HasPackFault k objects (one ∷ []) name (pack.TooLarge count)). first (fault.TooLarge count) (inr (inl (name, l))))
      (λ (r : HasPackFault k objects (two ∷ []) name (pack.TooLarge count)). second (fault.TooLarge count) (inr (inl (name, r))))
      (pack_fault name (pack.TooLarge count) h))
  large count (inr (inr (is, (name, need, big)))) = absurd (⊎_elim
      (λ (l : IsNeeded objects (one ∷ []) name). first (fault.TooLarge count) (inr (inr (is, (name, l, big)))))
      (λ (r : IsNeeded objects (two ∷ []) name). second (fault.TooLarge count) (inr (inr (is, (name, r, big)))))
      (needed name need))

  -- ---- all others are of one head

  by_pack : (name : Name) (f : CommitPackFault) (e : EntityFault) → HasPackFault k objects both name f
      → (HasPackFault k objects (one ∷ []) name f → EntityFaultHolds k objects id (one ∷ []) authors e) → (HasPackFault k objects (two ∷ []) name f → EntityFaultHolds k objects id (two ∷ []) authors e) → ⊥
  by_pack name f e h l r = ⊎_elim (λ (x : HasPackFault k objects (one ∷ []) name f). first e (l x)) (λ (x : HasPackFault k objects (two ∷ []) name f). second e (r x)) (pack_fault name f h)

  by_node : (n : Loaded Op) (e : EntityFault) → IsNodeBelow k objects both n
      → (IsNodeBelow k objects (one ∷ []) n → EntityFaultHolds k objects id (one ∷ []) authors e) → (IsNodeBelow k objects (two ∷ []) n → EntityFaultHolds k objects id (two ∷ []) authors e) → ⊥
  by_node n e h l r = ⊎_elim (λ (x : IsNodeBelow k objects (one ∷ []) n). first e (l x)) (λ (x : IsNodeBelow k objects (two ∷ []) n). second e (r x)) (node n h)

  by_root : (n : Loaded Op) (e : EntityFault) → IsRootNode k objects both n
      → (IsRootNode k objects (one ∷ []) n → EntityFaultHolds k objects id (one ∷ []) authors e) → (IsRootNode k objects (two ∷ []) n → EntityFaultHolds k objects id (two ∷ []) authors e) → ⊥
  by_root n e h l r = ⊎_elim (λ (x : IsRootNode k objects (one ∷ []) n). first e (l x)) (λ (x : IsRootNode k objects (two ∷ []) n). second e (r x)) (root_node n h)

  by_needed : (name : Name) (e : EntityFault) → IsNeeded objects both name
      → (IsNeeded objects (one ∷ []) name → EntityFaultHolds k objects id (one ∷ []) authors e) → (IsNeeded objects (two ∷ []) name → EntityFaultHolds k objects id (two ∷ []) authors e) → ⊥
  by_needed name e h l r = ⊎_elim (λ (x : IsNeeded objects (one ∷ []) name). first e (l x)) (λ (x : IsNeeded objects (two ∷ []) name). second e (r x)) (needed name h)

  by_below : (name : Name) (e : EntityFault) → IsBelow objects both name
      → (IsBelow objects (one ∷ []) name → EntityFaultHolds k objects id (one ∷ []) authors e) → (IsBelow objects (two ∷ []) name → EntityFaultHolds k objects id (two ∷ []) authors e) → ⊥
  by_below name e h l r = ⊎_elim (λ (x : IsBelow objects (one ∷ []) name). first e (l x)) (λ (x : IsBelow objects (two ∷ []) name). second e (r x)) (below name h)

  pub wrong_with_both : (f : EntityFault) → EntityFaultHolds k objects id both authors f → TakesBoth k objects one two f
  unfolding EntityFaultHolds
  wrong_with_both fault.Memory h = h
  wrong_with_both fault.Disk h = h
  wrong_with_both (fault.Missing name) h = by_needed name (fault.Missing name) h.0 (λ n. (n, h.1)) (λ n. (n, h.1))
  wrong_with_both (fault.Damaged name) h = by_needed name (fault.Damaged name) h.0 (λ n. (n, h.1)) (λ n. (n, h.1))
  wrong_with_both (fault.NotCommit name) h = by_below name (fault.NotCommit name) h.0 (λ n. (n, h.1)) (λ n. (n, h.1))
  wrong_with_both (fault.BadTree name) h = by_pack name pack.BadTree (fault.BadTree name) h (λ x. x) (λ x. x)
  wrong_with_both (fault.UnknownVersion name n) h = by_pack name (pack.UnknownVersion n) (fault.UnknownVersion name n) h (λ x. x) (λ x. x)
  wrong_with_both (fault.NoOps name) h = by_pack name pack.NoOps (fault.NoOps name) h (λ x. x) (λ x. x)
  wrong_with_both (fault.BadClock name) h = by_pack name pack.BadClock (fault.BadClock name) h (λ x. x) (λ x. x)
  wrong_with_both (fault.BadPack name) h = by_pack name pack.BadPack (fault.BadPack name) h (λ x. x) (λ x. x)
  wrong_with_both (fault.BadOperation name i f) h = by_pack name (pack.BadOperation i f) (fault.BadOperation name i f) h (λ x. x) (λ x. x)
  wrong_with_both (fault.SecondRoot name) h = roots name h
  wrong_with_both (fault.ClockOrder high low) h = by_below high (fault.ClockOrder high low) h.below
      (λ b. record { below = b; parent = h.parent; above = h.above; beneath = h.beneath; says_above = h.says_above; says_beneath = h.says_beneath; falls = h.falls })
      (λ b. record { below = b; parent = h.parent; above = h.above; beneath = h.beneath; says_above = h.says_above; says_beneath = h.says_beneath; falls = h.falls })
  wrong_with_both (fault.ClockJump high low) h = by_below high (fault.ClockJump high low) h.is.below
      (λ b. record { commit = h.commit; is = record { below = b; held = h.is.held }; single = h.single; above = h.above; beneath = h.beneath; says_above = h.says_above; says_beneath = h.says_beneath; jumps = h.jumps })
      (λ b. record { commit = h.commit; is = record { below = b; held = h.is.held }; single = h.single; above = h.above; beneath = h.beneath; says_above = h.says_above; says_beneath = h.says_beneath; jumps = h.jumps })
  wrong_with_both (fault.MergeHasOperations name) h = by_node h.node (fault.MergeHasOperations name) h.is
      (λ n. record { node = h.node; is = n; named = h.named; many = h.many; some = h.some })
      (λ n. record { node = h.node; is = n; named = h.named; many = h.many; some = h.some })
  wrong_with_both (fault.NoCreateClock name) h = by_root h.node (fault.NoCreateClock name) h.is
      (λ n. record { node = h.node; is = n; named = h.named; lacks = h.lacks })
      (λ n. record { node = h.node; is = n; named = h.named; lacks = h.lacks })
  wrong_with_both (fault.RepeatedOperation found) (inl h) = absurd (within found h)
  wrong_with_both (fault.RepeatedOperation found) (inr h) = across found h
  wrong_with_both (fault.WrongId found) h = by_root h.node (fault.WrongId found) h.is
      (λ n. record { node = h.node; is = n; first = h.first; wrong = h.wrong })
      (λ n. record { node = h.node; is = n; first = h.first; wrong = h.wrong })
  wrong_with_both fault.FirstNotCreate h = by_root h.node fault.FirstNotCreate h.is
      (λ n. record { node = h.node; is = n; bad = h.bad })
      (λ n. record { node = h.node; is = n; bad = h.bad })
  wrong_with_both (fault.SecondCreate found) h = by_node h.node (fault.SecondCreate found) h.is
      (λ n. record { node = h.node; is = n; place = h.place; op = h.op; at = h.at; named = h.named; bad = h.bad; later = h.later })
      (λ n. record { node = h.node; is = n; place = h.place; op = h.op; at = h.at; named = h.named; bad = h.bad; later = h.later })
  wrong_with_both (fault.AuthorUnknown author) h = by_node h.node (fault.AuthorUnknown author) h.is
      (λ n. record { node = h.node; is = n; wrote = h.wrote; unknown = h.unknown })
      (λ n. record { node = h.node; is = n; wrote = h.wrote; unknown = h.unknown })
  wrong_with_both (fault.TooLarge count) h = large count h
  wrong_with_both (fault.ClockFull name) h = h

-- what takes both is wrong with both
module _ {Op State Row : Type 0} (k : Meaning Op State Row) (objects : Objects) (id : Id) (authors : List Id) (one two : Name) where
  up_one : (name : Name) → IsBelow objects (one ∷ []) name → IsBelow objects (one ∷ two ∷ []) name
  up_one name b = under objects (one ∷ two ∷ []) one (is_first objects one two) name b

  up_two : (name : Name) → IsBelow objects (two ∷ []) name → IsBelow objects (one ∷ two ∷ []) name
  up_two name b = under objects (one ∷ two ∷ []) two (is_second objects one two) name b

  root_up : (top name : Name) → ((low : Name) → IsBelow objects (top ∷ []) low → IsBelow objects (one ∷ two ∷ []) low) → IsRootCommit objects (top ∷ []) name → IsRootCommit objects (one ∷ two ∷ []) name
  root_up top name up h = record { commit = h.commit; is = record { below = up name h.is.below; held = h.is.held }; root = h.root }

  pub both_are_wrong : (f : EntityFault) → TakesBoth k objects one two f → EntityFaultHolds k objects id (one ∷ two ∷ []) authors f
  unfolding EntityFaultHolds
  both_are_wrong (fault.SecondRoot name) (inl h) = record { one = root_up one name up_one h.one; other = h.other; two = root_up two h.other up_two h.two; differ = h.differ }
  both_are_wrong (fault.SecondRoot name) (inr h) = record { one = root_up two name up_two h.one; other = h.other; two = root_up one h.other up_one h.two; differ = h.differ }
  both_are_wrong (fault.RepeatedOperation found) h = inr (record {
    one = h.one;
    two = h.two;
    is_one = record { below = up_one h.one.placed.commit h.is_one.below; is = h.is_one.is };
    is_two = record { below = up_two h.two.placed.commit h.is_two.below; is = h.is_two.is };
    differ = h.differ;
    in_one = h.in_one;
    in_two = h.in_two;
  })
  both_are_wrong (fault.TooLarge count) h = inl (h.0, inr h.1)
  both_are_wrong (fault.ClockFull name) h = h
  both_are_wrong _ h = absurd h
