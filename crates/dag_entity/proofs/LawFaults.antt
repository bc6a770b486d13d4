-- What the faults of an entity tell: which names, in which order, and which numbers.
use Rattle.std.proofs.Common.{◌≡◌, ◌≢◌, ◌↔◌, ◌⊎◌, inl, inr, ◌<◌, ◌≤◌, ◌+◌, ℕ, List, [], ◌∷◌, length, Contains, Option, Some, None, refl, arith}
use Rattle.gb_text.specs.declared.decimal.TheConstants.{GREATEST_TIME}
use Rattle.gb_text.specs.declared.id.Id.{Id}
use Rattle.gb_text.specs.declared.id.Name.{Name}
use Rattle.git_object.specs.declared.commit.Commit.{Commit}
use Rattle.lamport.specs.declared.clock.TheConstants.{JUMP}
use Rattle.object_store.specs.Held.{IsLarge, Objects}
use Rattle.commit_walk.specs.Below.{HasCommit, IsBelow, IsParent, head as head_below}
use Rattle.commit_walk.specs.Distinct.{AreDistinct}
use Rattle.commit_walk.proofs.DistinctLemmas.{length-distinct}
use Rattle.commit_pack.specs.declared.fault.CommitPackFault.TheVariants as pack
use Rattle.op_kind.specs.Meaning.{Meaning}
use Rattle.op_kind.specs.declared.place.TheConstants.{VERSION}
use Rattle.op_pack.specs.Packs.{PackTextFault, PartsFault}
use Rattle.op_pack.specs.Texts.{parts_at}
use Rattle.op_pack.specs.declared.fault.PackFault.TheVariants as text
use Rattle.dag_entity.specs.Entities.{IsEntity}
use Rattle.dag_entity.specs.Faults.{AreApart, EntityFaultHolds, IsTooLarge}
use Rattle.dag_entity.specs.Nodes.{HasPackFault, IsCommitBelow, IsNeeded, edit_at}
use Rattle.dag_entity.specs.declared.entity.Entity.{Entity}
use Rattle.dag_entity.specs.declared.fault.EntityFault.TheVariants as fault
use Rattle.dag_entity.proofs.LawValid.{has_edit}

-- ---- numbers

module _ {Op State Row : Type 0} (k : Meaning Op State Row) where
  -- too many operations are told by 4,097
  text_number : (t : List ℕ) (count : ℕ) → PackTextFault k VERSION t (text.TooLarge count) → count ≡ 4097
  unfolding PackTextFault
  text_number t count h = by (parts_at t) h
    where
      by : (parts : Option (Id × List (List ℕ))) → PartsFault k VERSION parts (text.TooLarge count) → count ≡ 4097
      by None h = absurd (cc h)
      by (Some parts) h = h.1

module _ {Op State Row : Type 0} (k : Meaning Op State Row) (objects : Objects) (id : Id) (heads : List Name) (authors : List Id) where
  -- a commit whose clock is not greater than that of its parent
  pub order : (high low : Name) → EntityFaultHolds k objects id heads authors (fault.ClockOrder high low)
      ↔ ((above : ℕ) × (beneath : ℕ) × IsBelow objects heads high × IsParent objects high low × (edit_at objects high ≡ Some above) × (edit_at objects low ≡ Some beneath) × (above ≤ beneath))
  unfolding EntityFaultHolds
  order high low = (
    λ h. (h.above, h.beneath, h.below, h.parent, h.says_above, h.says_beneath, h.falls),
    λ t. record { below = t.2; parent = t.3; above = t.0; beneath = t.1; says_above = t.4; says_beneath = t.5; falls = t.6 },
  )

  -- a commit with one parent, and a clock too far above it
  pub jump : (high low : Name) → EntityFaultHolds k objects id heads authors (fault.ClockJump high low)
      ↔ ((commit : Commit) × (above : ℕ) × (beneath : ℕ) × IsCommitBelow objects heads high commit × (commit.parents ≡ low ∷ []) × (edit_at objects high ≡ Some above) × (edit_at objects low ≡ Some beneath)
      × (beneath + JUMP < above))
  unfolding EntityFaultHolds
  jump high low = (
    λ h. (h.commit, h.above, h.beneath, h.is, h.single, h.says_above, h.says_beneath, h.jumps),
    λ t. record { commit = t.0; is = t.3; single = t.4; above = t.1; beneath = t.2; says_above = t.5; says_beneath = t.6; jumps = t.7 },
  )

  -- two commits without parents
  pub roots : (name : Name) → EntityFaultHolds k objects id heads authors (fault.SecondRoot name)
      ↔ ((commit : Commit) × (other : Name) × (last : Commit) × IsCommitBelow objects heads name commit × (commit.parents ≡ []) × IsCommitBelow objects heads other last × (last.parents ≡ []) × (name ≢ other))
  unfolding EntityFaultHolds
  roots name = (
    λ h. (h.one.commit, h.other, h.two.commit, h.one.is, h.one.root, h.two.is, h.two.root, h.differ),
    λ t. record { one = record { commit = t.0; is = t.3; root = t.4 }; other = t.1; two = record { commit = t.2; is = t.5; root = t.6 }; differ = t.7 },
  )

  -- one of two heads that are apart, with the greatest clock
  pub full : (head : Name) → EntityFaultHolds k objects id heads authors (fault.ClockFull head)
      ↔ ((one : Name) × (two : Name) × (heads ≡ one ∷ two ∷ []) × (IsBelow objects (two ∷ []) one → ⊥) × (IsBelow objects (one ∷ []) two → ⊥) × Contains heads head × (edit_at objects head ≡ Some GREATEST_TIME))
  unfolding EntityFaultHolds
  full head = (
    λ h. (h.one, h.two, h.apart.are, h.apart.one_apart, h.apart.two_apart, h.head, h.full),
    λ t. record { one = t.0; two = t.1; apart = record { are = t.2; one_apart = t.3; two_apart = t.4 }; head = t.5; full = t.6 },
  )

  -- what is above a limit is told by the limit and one
  pub numbers : (count : ℕ) → EntityFaultHolds k objects id heads authors (fault.TooLarge count)
      → (count ≡ 65537) ⊎ (((count ≡ 4097) × ((name : Name) × HasPackFault k objects heads name (pack.TooLarge count))) ⊎ ((count ≡ 4194305) × ((name : Name) × IsNeeded objects heads name × IsLarge (objects name))))
  unfolding EntityFaultHolds
  numbers count h = by h
    where
      by : IsTooLarge k objects heads count
          → (count ≡ 65537) ⊎ (((count ≡ 4097) × ((name : Name) × HasPackFault k objects heads name (pack.TooLarge count))) ⊎ ((count ≡ 4194305) × ((name : Name) × IsNeeded objects heads name × IsLarge (objects name))))
      by (inl commits) = inl commits.0
      by (inr (inl ops)) = inr (inl (text_number k ops.1.holds.text count ops.1.holds.fails, ops))
      by (inr (inr bytes)) = inr (inr bytes)

  -- ---- how many commits

  module _ (names : List Name) (once : AreDistinct names) (are : (name : Name) → Contains names name ↔ HasCommit objects heads name) where
    -- that there are too many commits is said of these
    counted : EntityFaultHolds k objects id heads authors (fault.TooLarge 65537) → (65536 < length names) ⊎ ((65536 ≤ length names) × ((one : Name) × (two : Name) × AreApart objects heads one two))
    unfolding EntityFaultHolds
    counted h = by h
      where
        by : IsTooLarge k objects heads 65537 → (65536 < length names) ⊎ ((65536 ≤ length names) × ((one : Name) × (two : Name) × AreApart objects heads one two))
        by (inl (is, inl too)) = let fewer = length-distinct too.names names too.once (λ name c. (are name).1 (too.each name c)) in inl (omega (arith, fewer, too.many))
        by (inl (is, inr need)) =
            let fewer = length-distinct need.names names need.once (λ name c. (are name).1 (need.each name c)) in
            inr (omega (arith, fewer, need.many), (need.one, need.two, need.apart))
        by (inr (inl ops)) = let is = text_number k ops.1.holds.text 65537 ops.1.holds.fails in absurd (omega (arith, is))
        by (inr (inr bytes)) = absurd (omega (arith, bytes.0))

    -- where no merge commit is needed
    pub together : ((one two : Name) → heads ≡ one ∷ two ∷ [] → (IsBelow objects (two ∷ []) one → ⊥) → (IsBelow objects (one ∷ []) two → ⊥) → ⊥)
        → EntityFaultHolds k objects id heads authors (fault.TooLarge 65537) ↔ (65536 < length names)
    unfolding EntityFaultHolds
    together never = (
      λ h. elim (counted h) [ inl many ↦ many | inr need ↦ absurd (never need.1.0 need.1.1 need.1.2.are need.1.2.one_apart need.1.2.two_apart) ],
      λ many. inl (refl, inl (record { names = names; once = once; many = many; each = λ name c. (are name).0 c })),
    )

    -- where one is
    pub apart : (one two : Name) → AreApart objects heads one two → EntityFaultHolds k objects id heads authors (fault.TooLarge 65537) ↔ (65536 ≤ length names)
    unfolding EntityFaultHolds
    apart one two are_apart = (
      λ h. elim (counted h) [ inl many ↦ omega (arith, many) | inr need ↦ need.0 ],
      λ many. inl (refl, inr (record { one = one; two = two; apart = are_apart; names = names; once = once; many = many; each = λ name c. (are name).0 c })),
    )

-- ---- the edit clock of an entity

module _ {Op State Row : Type 0} (k : Meaning Op State Row) (objects : Objects) (id : Id) (heads : List Name) (authors : List Id) (entity : Entity Op) (was : IsEntity k objects id heads authors entity) where
  pub edit_of_head : (head : Name) × Contains heads head × (edit_at objects head ≡ Some entity.edit)
  edit_of_head = (was.edit.head, was.edit.among, was.edit.says)

  pub edit_not_less : (head : Name) → Contains heads head → (clock : ℕ) × (edit_at objects head ≡ Some clock) × (clock ≤ entity.edit)
  edit_not_less head c =
      let has = has_edit k objects id heads authors entity was head (head_below c) in
      (has.0, has.1, was.edit.most head has.0 c has.1)
