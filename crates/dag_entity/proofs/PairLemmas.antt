-- What lies below two heads, and how their clocks lie.
use Rattle.std.proofs.Common.{◌≡◌, inl, inr, ◌≤◌, max, ℕ, List, [], ◌∷◌, Contains, Some, sym, ◌∙◌, ap, subst, arith}
use Rattle.std.proofs.lemmas.Option.{same_Some}
use Rattle.gb_text.specs.declared.decimal.TheConstants.{GREATEST_TIME}
use Rattle.gb_text.specs.declared.id.Id.{Id}
use Rattle.gb_text.specs.declared.id.Name.{Name}
use Rattle.git_object.specs.declared.commit.Commit.{Commit}
use Rattle.object_store.specs.Held.{Objects}
use Rattle.object_store.specs.Typed.{commit_at}
use Rattle.object_store.proofs.GrowthLemmas.{bind-some}
use Rattle.commit_walk.specs.Below.{AreBelow, IsBelow, IsParent, head, parent}
use Rattle.commit_walk.specs.declared.below.Met.{Met}
use Rattle.commit_walk.proofs.BelowLemmas.{below_below, below_one}
use Rattle.commit_walk.proofs.DistinctLemmas.{Contains-cons, Contains-first, Contains-from_map, Contains-later, Contains-map, Contains-one}
use Rattle.commit_walk.proofs.FrontierLemmas.{met_of}
use Rattle.commit_pack.specs.Packs.{pack_under}
use Rattle.commit_pack.proofs.LawLemmas.{pack_under-found}
use Rattle.op_kind.specs.Meaning.{Meaning}
use Rattle.op_pack.proofs.HeadLaws.{head_in_range}
use Rattle.dag_entity.specs.Entities.{IsEntity, IsGreatestEdit, IsRootClock}
use Rattle.dag_entity.specs.Joining.{HasChild}
use Rattle.dag_entity.specs.Nodes.{edit_at}
use Rattle.dag_entity.specs.declared.entity.Entity.{Entity}
use Rattle.dag_entity.specs.declared.entity.Placed.{Placed}
use Rattle.dag_entity.proofs.LawValid.{clocks_rise, edit_of_pack, has_edit}

-- ---- below two heads

-- a head below another, with all that lies below it
pub under : (objects : Objects) (heads : List Name) (top : Name) → IsBelow objects heads top → (name : Name) → IsBelow objects (top ∷ []) name → IsBelow objects heads name
under objects heads top b name = below_below objects heads (top ∷ []) name (λ n c. subst (IsBelow objects heads) (Contains-one top n c) b)

pub is_first : (objects : Objects) (one two : Name) → IsBelow objects (one ∷ two ∷ []) one
is_first objects one two = head (Contains-first one (two ∷ []))

pub is_second : (objects : Objects) (one two : Name) → IsBelow objects (one ∷ two ∷ []) two
is_second objects one two = head (Contains-later one (two ∷ []) two (Contains-first two []))

-- ---- clocks

module _ {Op State Row : Type 0} (k : Meaning Op State Row) (objects : Objects) (id : Id) (heads : List Name) (authors : List Id) (entity : Entity Op) (was : IsEntity k objects id heads authors entity) where
  -- what lies below has no greater clock
  pub not_greater : (high low : Name) (above beneath : ℕ) → IsBelow objects heads high → IsBelow objects (high ∷ []) low → edit_at objects high ≡ Some above → edit_at objects low ≡ Some beneath → beneath ≤ above
  not_greater high low above beneath there (head c) says_above says_beneath =
      let same : beneath ≡ above = same_Some beneath above (sym says_beneath ∙ ap (edit_at objects) (sym (Contains-one high low c)) ∙ says_above) in
      omega (arith, same)
  not_greater high low above beneath there (parent {high = mid} b p) says_above says_beneath =
      let below_mid = under objects heads high there mid b in
      let rise = clocks_rise k objects id heads authors entity was mid low below_mid p in
      let less : rise.above ≤ above = not_greater high mid above rise.above there b says_above rise.says_above in
      let same : rise.beneath ≡ beneath = same_Some rise.beneath beneath (sym rise.says_beneath ∙ says_beneath) in
      omega (arith, less, same, rise.rises)

  -- no clock is above the limit
  pub within_limit : (name : Name) (edit : ℕ) → IsBelow objects heads name → edit_at objects name ≡ Some edit → edit ≤ GREATEST_TIME
  within_limit name edit b says =
      let at = Contains-from_map (λ (p : Placed Op). p.commit) entity.packs name (was.packs.all name b) in
      let has = was.packs.each at.0 at.1 in
      let commit = bind-some (λ (c : Commit). pack_under k objects c.tree) (commit_at objects at.0.commit) at.0.pack has in
      let is = pack_under-found k objects commit.0.tree at.0.pack commit.2 in
      let range = (head_in_range is.tree is.head is.says).edit in
      let same : edit ≡ at.0.pack.edit = same_Some edit at.0.pack.edit (sym says ∙ ap (edit_at objects) (sym at.2) ∙ edit_of_pack k objects at.0.commit at.0.pack has) in
      omega (arith, same, is.is.edit_is, range.high)

-- ---- which of two heads lies below the other

module _ {Op State Row : Type 0} (k : Meaning Op State Row) (objects : Objects) (id : Id) (one two : Name) (authors : List Id) (entity : Entity Op)
    (was : IsEntity k objects id (one ∷ two ∷ []) authors entity) where
  module _ (walk : List Met) (whole : AreBelow objects (one ∷ two ∷ []) walk) where
    -- a head that has a child lies below the other
    pub child_means_under : HasChild walk one → IsBelow objects (two ∷ []) one
    child_means_under h =
        let commit = whole.each h.met h.among in
        let below = whole.only h.met.name (Contains-map (λ (m : Met). m.name) walk h.met h.among) in
        let leads : IsParent objects h.met.name one = record { commit = commit.commit; held = commit.held; names = subst (λ (l : List Name). Contains l one) commit.parents h.names } in
        elim (below_one objects one two below) [
          | inl b ↦
              let rise = clocks_rise k objects id (one ∷ two ∷ []) authors entity was h.met.name one below leads in
              let less : rise.above ≤ rise.beneath = not_greater k objects id (one ∷ two ∷ []) authors entity was one h.met.name rise.beneath rise.above (is_first objects one two) b rise.says_beneath rise.says_above in
              absurd (omega (arith, less, rise.rises))
          | inr b ↦ parent b leads
        ]

  -- the greatest edit clock of both
  pub greatest_is : (edit a b : ℕ) → IsGreatestEdit objects (one ∷ two ∷ []) edit → edit_at objects one ≡ Some a → edit_at objects two ≡ Some b → edit ≡ max a b
  greatest_is edit a b greatest says_one says_two =
      let le_one : a ≤ edit = greatest.most one a (Contains-first one (two ∷ [])) says_one in
      let le_two : b ≤ edit = greatest.most two b (Contains-later one (two ∷ []) two (Contains-first two [])) says_two in
      elim (Contains-cons one (two ∷ []) greatest.head greatest.among) [
        | inl e ↦
            let same : edit ≡ a = same_Some edit a (sym greatest.says ∙ ap (edit_at objects) (sym e) ∙ says_one) in
            omega (arith, same, le_two)
        | inr h ↦
            let same : edit ≡ b = same_Some edit b (sym greatest.says ∙ ap (edit_at objects) (sym (Contains-one two greatest.head h)) ∙ says_two) in
            omega (arith, same, le_one)
      ]

  -- where the first lies below the second, the clocks are the second's
  pub edit_of_second : IsBelow objects (two ∷ []) one → edit_at objects two ≡ Some entity.edit
  edit_of_second b =
      let first = has_edit k objects id (one ∷ two ∷ []) authors entity was one (is_first objects one two) in
      let second = has_edit k objects id (one ∷ two ∷ []) authors entity was two (is_second objects one two) in
      let less : first.0 ≤ second.0 = not_greater k objects id (one ∷ two ∷ []) authors entity was two one second.0 first.0 (is_second objects one two) b second.1 first.1 in
      let is = greatest_is entity.edit first.0 second.0 was.edit first.1 second.1 in
      let same : second.0 ≡ entity.edit = omega (arith, is, less) in
      second.1 ∙ ap Some same

  pub root_of_second : IsBelow objects (two ∷ []) one → IsRootClock k objects (two ∷ []) entity.create
  root_of_second b =
      let node = was.create.node in
      let below : IsBelow objects (two ∷ []) node.placed.commit = elim (below_one objects one two was.create.is.is.below) [
        | inl l ↦ under objects (two ∷ []) one b node.placed.commit l
        | inr r ↦ r
      ] in
      record { node = node; is = record { is = record { below = below; is = was.create.is.is.is }; root = was.create.is.root }; says = was.create.says }

-- a head below the other has a child, unless the other is known
pub under_means_child : (objects : Objects) (one two : Name) (walk : List Met) → AreBelow objects (one ∷ two ∷ []) walk → (IsBelow objects (one ∷ []) two → ⊥) → IsBelow objects (two ∷ []) one → HasChild walk one
under_means_child objects one two walk whole apart (head c) = absurd (apart (head (subst (λ (n : Name). Contains (n ∷ []) two) (Contains-one two one c) (Contains-first two []))))
under_means_child objects one two walk whole apart (parent {high = high} b p) =
    let found = met_of walk high (whole.all high (under objects (one ∷ two ∷ []) two (is_second objects one two) high b)) in
    let commit = whole.each found.0 found.1 in
    let same : commit.commit ≡ p.commit = same_Some commit.commit p.commit (sym commit.held ∙ ap (commit_at objects) found.2 ∙ p.held) in
    record { met = found.0; among = found.1; names = subst (λ (l : List Name). Contains l one) (sym (commit.parents ∙ ap (λ (c : Commit). c.parents) same)) p.names }
