-- Below the head of an entity without a fault few commits lie, and none lies below itself.
use Rattle.std.proofs.Common.{◌≡◌, ◌≢◌, ◌<◌, ◌≤◌, ◌+◌, inl, inr, refl, sym, ◌∙◌, ap, subst, arith, ℕ, zero, suc, List, [], ◌∷◌, length, map, Contains, Some}
use Rattle.std.proofs.lemmas.Bool.{cases_eq, cases_lt}
use Rattle.std.proofs.lemmas.List.{length-map}
use Rattle.std.proofs.lemmas.Option.{same_Some}
use Rattle.gb_text.specs.declared.id.Id.{Id}
use Rattle.gb_text.specs.declared.id.Name.{Name}
use Rattle.git_object.specs.declared.commit.Commit.{Commit}
use Rattle.object_store.specs.Held.{Objects}
use Rattle.object_store.specs.Typed.{commit_at}
use Rattle.commit_walk.specs.Below.{IsBelow, IsParent, head, parent}
use Rattle.commit_walk.specs.Chain.{Chain, IsLink, Walked}
use Rattle.commit_walk.specs.declared.chain.Link.{Link}
use Rattle.commit_walk.specs.declared.below.TheConstants.{MOST_COMMITS}
use Rattle.commit_walk.proofs.ChainLemmas.{Chain-same, Chain-shorter}
use Rattle.commit_walk.proofs.ChainPassLemmas.{walk_passes}
use Rattle.commit_walk.proofs.DistinctLemmas.{Contains-map, Contains-nil, Contains-one, length-distinct}
use Rattle.commit_pack.specs.declared.fault.CommitPackFault.{CommitPackFault}
use Rattle.commit_pack.specs.declared.fault.CommitPackFault.TheVariants as pack
use Rattle.op_kind.specs.Meaning.{KeepsLaws, Meaning}
use Rattle.bug_ops.specs.Kind.{bug_kind}
use Rattle.bug_ops.specs.Laws.{bug_keeps_laws}
use Rattle.dag_entity.specs.Faults.{EntityFaultHolds}
use Rattle.dag_entity.specs.Nodes.{edit_at}
use Rattle.dag_entity.specs.Stops.{pack_stop}
use Rattle.dag_entity.specs.declared.fault.EntityFault.TheVariants as fault
use Rattle.dag_entity.proofs.LawValid.{below_pack_or_fault, edit_of_pack}
use Rattle.dag_entity.proofs.ReadLemmas.{pack_fault_holds}
use Rattle.identity.specs.Persons.{IsChain}
use Rattle.repo_state.specs.Sound.{HasNoFault, HasNoFaultOf}
use Rattle.copy_limits.specs.Commits.{HasFewCommits, HasNoRing, LiesUnder}
use Rattle.copy_limits.proofs.NamedLemmas.{under_below}

-- ---- entities of operations: the edit clocks rise

-- what keeps a commit from having a pack is no unknown author
no_author : (name : Name) (f : CommitPackFault) (author : Id) → pack_stop name f ≢ fault.AuthorUnknown author
no_author name pack.Memory author e = cc e
no_author name pack.Disk author e = cc e
no_author name (pack.Missing n) author e = cc e
no_author name (pack.Damaged n) author e = cc e
no_author name (pack.Large n) author e = cc e
no_author name pack.BadTree author e = cc e
no_author name (pack.UnknownVersion n) author e = cc e
no_author name pack.NoOps author e = cc e
no_author name pack.BadClock author e = cc e
no_author name pack.BadPack author e = cc e
no_author name (pack.BadOperation i f) author e = cc e
no_author name (pack.TooLarge n) author e = cc e

module _ {Op State Row : Type 0} (k : Meaning Op State Row) (laws : KeepsLaws k) (objects : Objects) (id : Id) (top : Name) (sound : HasNoFaultOf k objects id top) where
  -- a commit below the head has an edit clock
  has_edit : (name : Name) (commit : Commit) → IsBelow objects (top ∷ []) name → commit_at objects name ≡ Some commit → (edit : ℕ) × (edit_at objects name ≡ Some edit)
  has_edit name commit below held =
      elim (below_pack_or_fault k laws objects (top ∷ []) name commit (record { below = below; held = held })) [
        | inl has ↦ (has.0.edit, edit_of_pack k objects name has.0 has.1)
        | inr fails ↦ absurd (sound (pack_stop name fails.0) (no_author name fails.0) (pack_fault_holds k objects (top ∷ []) id [] name fails.1.commit fails.1.is fails.0 fails.1.holds))
      ]

  -- that of a parent is less
  rises : (high low : Name) (above beneath : ℕ) → IsBelow objects (top ∷ []) high → IsParent objects high low → edit_at objects high ≡ Some above → edit_at objects low ≡ Some beneath → beneath < above
  unfolding EntityFaultHolds
  rises high low above beneath below up says_above says_beneath =
      elim (cases_lt beneath above) [
        | inl less ↦ less
        | inr falls ↦ absurd (sound (fault.ClockOrder high low) (λ author e. cc e)
            (record { below = below; parent = up; above = above; beneath = beneath; says_above = says_above; says_beneath = says_beneath; falls = falls }))
      ]

  -- and so is that of each commit below the parent
  less : (high low : Name) (above : ℕ) → IsBelow objects (top ∷ []) high → IsParent objects high low → edit_at objects high ≡ Some above
      → (name : Name) → IsBelow objects (low ∷ []) name → (edit : ℕ) → edit_at objects name ≡ Some edit → edit < above
  less high low above below up says name (head c) edit is =
      rises high low above edit below up says (ap (edit_at objects) (Contains-one low name c) ∙ is)
  less high low above below up says name (parent {high = on} b p) edit is =
      let here : IsBelow objects (top ∷ []) on = under_below objects (top ∷ []) low on (parent below up) b in
      let clock = has_edit on p.commit here p.held in
      let before = less high low above below up says on b clock.0 clock.1 in
      let after = rises on name clock.0 edit here p clock.1 is in
      omega (arith, before, after)

  -- so no commit lies below its parent
  entity_no_ring : HasNoRing objects top
  entity_no_ring name below ring =
      let clock = has_edit name ring.is_parent.commit below ring.is_parent.held in
      let falls = less name ring.parent clock.0 below ring.is_parent clock.1 name ring.below clock.0 clock.1 in
      omega (arith, falls)

pub bug_no_ring : (objects : Objects) (id : Id) (top : Name) → HasNoFault objects id top → HasNoRing objects top
bug_no_ring objects id top sound = entity_no_ring bug_kind bug_keeps_laws objects id top sound

-- and no more than the limit lie below the head
pub bug_few : (objects : Objects) (id : Id) (top : Name) → HasNoFault objects id top → HasFewCommits objects top
unfolding EntityFaultHolds
bug_few objects id top sound many = sound (fault.TooLarge (MOST_COMMITS + 1)) (λ author e. cc e) (inl (refl, inl many))

-- ---- identities: the chain ends

module _ (objects : Objects) (top : Name) (root : Link) (above : List Link) (leads : Chain objects top above root.name) (ends : IsLink objects root []) where
  -- a chain goes on to each parent, and is shorter than the whole one
  step : (a : List Link) (name low : Name) → Chain objects top a name → IsParent objects name low → (length a < length above) × ((link : Link) × Chain objects top (link ∷ a) low)
  step a name low chain up = elim (cases_lt (length a) (length above)) [
    | inl lt ↦
        let single = Chain-shorter objects top a above name root.name lt chain leads in
        let commit : single.1 ≡ up.commit = same_Some single.1 up.commit (sym single.2 ∙ up.held) in
        let parents : up.commit.parents ≡ single.0 ∷ [] = ap (λ (c : Commit). c.parents) (sym commit) ∙ single.3 in
        let same : single.0 ≡ low = Contains-one single.0 low (subst (λ (l : List Name). Contains l low) parents up.names) in
        (lt, (record { name = name; tree = up.commit.tree }, (chain, record { commit = up.commit; held = up.held; tree = refl; parents = ap (λ (n : Name). n ∷ []) (sym same) ∙ sym parents })))
    | inr le ↦ elim (cases_eq (length above) (length a)) [
      | inl e ↦
          let same = Chain-same objects top above a root.name name e leads chain in
          let commit : ends.commit ≡ up.commit = same_Some ends.commit up.commit (sym ends.held ∙ ap (commit_at objects) same.1 ∙ up.held) in
          let parents : up.commit.parents ≡ [] = ap (λ (c : Commit). c.parents) (sym commit) ∙ sym ends.parents in
          absurd (Contains-nil low (subst (λ (l : List Name). Contains l low) parents up.names))
      | inr differ ↦
          let single = Chain-shorter objects top above a root.name name (omega (arith, le, differ)) leads chain in
          let commit : ends.commit ≡ single.1 = same_Some ends.commit single.1 (sym ends.held ∙ single.2) in
          let none : [] ≡ single.0 ∷ [] = ends.parents ∙ ap (λ (c : Commit). c.parents) commit ∙ single.3 in
          absurd (cc none)
    ]
  ]

  -- chains lead to all that lies below a name to which one leads, and get no shorter
  reach : (a : List Link) (name low : Name) → Chain objects top a name → IsBelow objects (name ∷ []) low → (b : List Link) × Chain objects top b low × (length a ≤ length b)
  reach a name low chain (head c) = (a, subst (Chain objects top a) (Contains-one name low c) chain, omega arith)
  reach a name low chain (parent {high = on} b p) =
      let far = reach a name on chain b in
      let more = step far.0 on low far.1 p in
      (more.1.0 ∷ far.0, more.1.1, omega (arith, far.2))

  -- a ring would make them longer without end
  turns : (left : ℕ) (a : List Link) (name : Name) → length above ≤ length a + left → Chain objects top a name → LiesUnder objects name name → ⊥
  turns zero a name far chain ring = let on = step a name ring.parent chain ring.is_parent in omega (arith, far, on.0)
  turns (suc left) a name far chain ring =
      let on = step a name ring.parent chain ring.is_parent in
      let back = reach (on.1.0 ∷ a) ring.parent name on.1.1 ring.below in
      turns left back.0 name (omega (arith, far, back.2)) back.1 ring

  chain_no_ring : HasNoRing objects top
  chain_no_ring name below ring =
      let at = reach [] top name refl below in
      turns (length above) at.0 name (omega arith) at.1 ring

  -- no chain is longer than the whole one
  no_longer : (a : List Link) (name : Name) → Chain objects top a name → length a ≤ length above
  no_longer a name chain = elim (cases_lt (length above) (length a)) [
    | inl lt ↦
        let single = Chain-shorter objects top above a root.name name lt leads chain in
        let commit : ends.commit ≡ single.1 = same_Some ends.commit single.1 (sym ends.held ∙ single.2) in
        let none : [] ≡ single.0 ∷ [] = ends.parents ∙ ap (λ (c : Commit). c.parents) commit ∙ single.3 in
        absurd (cc none)
    | inr le ↦ le
  ]

  -- so each commit below the head is one of the chain
  in_chain : length (root ∷ above) ≤ MOST_COMMITS → (name : Name) → IsBelow objects (top ∷ []) name → Contains (map (λ (l : Link). l.name) (root ∷ above)) name
  in_chain within name below =
      let at = reach [] top name refl below in
      let passes = walk_passes objects top name (root ∷ above) (leads, ends) (record { above = at.0; chain = at.1; near = omega (arith, within, no_longer at.0 name at.1) }) in
      subst (Contains (map (λ (l : Link). l.name) (root ∷ above))) passes.is (Contains-map (λ (l : Link). l.name) (root ∷ above) passes.link passes.at)

  chain_few : length (root ∷ above) ≤ MOST_COMMITS → HasFewCommits objects top
  chain_few within many =
      let fewer = length-distinct many.names (map (λ (l : Link). l.name) (root ∷ above)) many.once (λ name c. in_chain within name (many.each name c).below) in
      omega (arith, within, fewer, many.many, length-map (root ∷ above) (λ (l : Link). l.name))

walked_few : (objects : Objects) (top : Name) (walk : List Link) → Walked objects top walk → length walk ≤ MOST_COMMITS → HasFewCommits objects top
walked_few objects top [] none within = absurd none
walked_few objects top (root ∷ above) (leads, ends) within = chain_few objects top root above leads ends within

pub identity_few : (objects : Objects) (id : Id) (top : Name) → IsChain objects id top → HasFewCommits objects top
identity_few objects id top chain = walked_few objects top chain.walk chain.walked chain.within

walked_no_ring : (objects : Objects) (top : Name) (walk : List Link) → Walked objects top walk → HasNoRing objects top
walked_no_ring objects top [] none = absurd none
walked_no_ring objects top (root ∷ above) (leads, ends) = chain_no_ring objects top root above leads ends

pub identity_no_ring : (objects : Objects) (id : Id) (top : Name) → IsChain objects id top → HasNoRing objects top
identity_no_ring objects id top chain = walked_no_ring objects top chain.walk chain.walked
