-- The commits of a whole walk along a chain are those that it meets, and it has no fault.
use Rattle.std.proofs.Common.{◌≡◌, inl, inr, ℕ, ◌<◌, ◌≤◌, zero, suc, List, [], ◌∷◌, length, get_or, Contains, Some, None, refl, sym, ◌∙◌, ap, subst, arith}
use Rattle.std.proofs.lemmas.Option.{same_Some}
use Rattle.std.proofs.lemmas.Bool.{cases_eq, cases_lt}
use Rattle.gb_text.specs.declared.id.Name.{Name}
use Rattle.git_object.specs.declared.commit.Commit.{Commit}
use Rattle.object_store.specs.Held.{Objects}
use Rattle.object_store.specs.Typed.{commit_at}
use Rattle.commit_walk.specs.Chain.{Chain, ChainFaultHolds, IsLink, IsTooLong, Meets, MeetsMerge, Passes, Walked}
use Rattle.commit_walk.specs.declared.chain.Link.{Link}
use Rattle.commit_walk.specs.declared.fault.WalkFault.{WalkFault}
use Rattle.commit_walk.proofs.ChainLemmas.{IsLink-same, Chain-same, Chain-shorter, no_merge}
use Rattle.commit_walk.proofs.FaultLemmas.{no_fault_where}

-- a commit from which the walk goes on, or at which it ends, and how it was met
abbrev pub Linked : Objects → Name → List Link → Type 0
Linked objects head [] = ⊥
Linked objects head (link ∷ above) = Chain objects head above link.name × ((parents : List Name) × IsLink objects link parents)

-- the commits of a whole walk are linked
pub Linked-walked : (objects : Objects) (head : Name) (walk : List Link) → Walked objects head walk → Linked objects head walk
Linked-walked objects head [] walked = absurd walked
Linked-walked objects head (root ∷ above) walked = (walked.0, ([], walked.1))

-- so are those above the first
pub Linked-above : (objects : Objects) (head : Name) (low high : Link) (above : List Link) → Linked objects head (low ∷ high ∷ above) → Linked objects head (high ∷ above)
Linked-above objects head low high above linked = (linked.0.0, (low.name ∷ [], linked.0.1))

-- the walk meets the first of linked commits
pub meets_first : (objects : Objects) (head : Name) (link : Link) (above : List Link) → Linked objects head (link ∷ above) → length above ≤ 65536 → Meets objects head link.name
meets_first objects head link above linked near = record { above = above; chain = linked.0; near = near }

-- each of linked commits was met, and is held
pub linked_at : (objects : Objects) (head : Name) (walk : List Link) (k : ℕ) (d : Link) → Linked objects head walk → length walk ≤ 65536 → k < length walk
    → Meets objects head (get_or walk k d).name × ((parents : List Name) × IsLink objects (get_or walk k d) parents)
linked_at objects head [] k d linked near lt = absurd linked
linked_at objects head (link ∷ above) zero d linked near lt = (meets_first objects head link above linked (omega (arith, near)), linked.1)
linked_at objects head (link ∷ []) (suc k) d linked near lt = absurd (omega (arith, lt))
linked_at objects head (link ∷ high ∷ above) (suc k) d linked near lt =
    linked_at objects head (high ∷ above) k d (Linked-above objects head link high above linked) (omega (arith, near)) (omega (arith, lt))

-- a whole walk meets no merge
pub no_merge-walked : (objects : Objects) (head : Name) (walk : List Link) → Walked objects head walk → (name : Name) → MeetsMerge objects head name → ⊥
no_merge-walked objects head [] walked = absurd walked
no_merge-walked objects head (root ∷ above) walked =
    let none : (c : Commit) → commit_at objects root.name ≡ Some c → c.parents ≡ [] = λ c e. ap (λ (x : Commit). x.parents) (same_Some c walked.1.commit (sym e ∙ walked.1.held)) ∙ sym walked.1.parents in
    no_merge objects head above root.name walked.0 (λ c e. omega (arith, ap length (none c e))) (inr (λ p c e has. cc (sym (none c e) ∙ has)))

Passes-first : (link : Link) (walk : List Link) (name : Name) → link.name ≡ name → Passes (link ∷ walk) name
Passes-first link walk name e = record { link = link; at = (0, omega arith, refl); is = e }

Passes-above : (link : Link) (walk : List Link) (name : Name) → Passes walk name → Passes (link ∷ walk) name
Passes-above link walk name passes = record { link = passes.link; at = (suc passes.at.0, omega (arith, passes.at.1), passes.at.2); is = passes.is }

-- the longer of two chains passes the name to which the shorter leads
Chain-passes : (objects : Objects) (head : Name) (a b : List Link) (n m : Name) → length b < length a → Chain objects head a n → Chain objects head b m → Passes a m
Chain-passes objects head [] b n m lt first second = absurd (omega (arith, lt))
Chain-passes objects head (y ∷ a) b n m lt first second =
    elim (cases_eq (length b) (length a)) [
      | inl e ↦ let same = Chain-same objects head b a m y.name e second first.0 in Passes-first y a m (sym same.1)
      | inr differ ↦ Passes-above y a m (Chain-passes objects head a b y.name m (omega (arith, lt, differ)) first.0 second)
    ]

-- a root is no commit from which a chain goes on
root_ends : (objects : Objects) (head : Name) (root : Link) (a b : List Link) (m : Name) → Chain objects head a root.name → IsLink objects root []
    → Chain objects head b m → length a < length b → ⊥
root_ends objects head root a b m first is second lt =
    let on = Chain-shorter objects head a b root.name m lt first second in
    let commit = same_Some on.1 is.commit (sym on.2 ∙ is.held) in
    cc (sym on.3 ∙ ap (λ (c : Commit). c.parents) commit ∙ sym is.parents)

-- a whole walk passes each name that the walk meets
pub walk_passes : (objects : Objects) (head name : Name) (walk : List Link) → Walked objects head walk → Meets objects head name → Passes walk name
walk_passes objects head name [] walked meets = absurd walked
walk_passes objects head name (root ∷ a) walked meets =
    elim (cases_eq (length meets.above) (length a)) [
      | inl e ↦ let same = Chain-same objects head meets.above a name root.name e meets.chain walked.0 in Passes-first root a name (sym same.1)
      | inr differ ↦ elim (cases_lt (length meets.above) (length a)) [
        | inl lt ↦ Passes-above root a name (Chain-passes objects head a meets.above root.name name lt walked.0 meets.chain)
        | inr ge ↦ absurd (root_ends objects head root a meets.above name walked.0 walked.1 meets.chain (omega (arith, differ, ge)))
      ]
    ]

-- each commit of linked commits but the first has the one before it as its single parent
pub parent_at : (objects : Objects) (head : Name) (walk : List Link) (k : ℕ) (d : Link) → Linked objects head walk → suc k < length walk
    → IsLink objects (get_or walk (suc k) d) ((get_or walk k d).name ∷ [])
parent_at objects head [] k d linked lt = absurd linked
parent_at objects head (m ∷ []) k d linked lt = absurd (omega (arith, lt))
parent_at objects head (m ∷ n ∷ ms) zero d linked lt = linked.0.1
parent_at objects head (m ∷ n ∷ ms) (suc k) d linked lt = parent_at objects head (n ∷ ms) k d (Linked-above objects head m n ms linked) (omega (arith, lt))

-- the root of a walk has no parent
pub root_has : (objects : Objects) (head : Name) (walk : List Link) (d : Link) → Walked objects head walk → IsLink objects (get_or walk 0 d) []
root_has objects head [] d walked = absurd walked
root_has objects head (root ∷ a) d walked = walked.1

-- a whole walk of at most 65,536 commits is not too long
pub not_too_long : (objects : Objects) (head : Name) (walk : List Link) → Walked objects head walk → length walk ≤ 65536 → IsTooLong objects head → ⊥
not_too_long objects head [] walked count long = absurd walked
not_too_long objects head (root ∷ a) walked count long =
    root_ends objects head root a long.above long.name walked.0 walked.1 long.chain (omega (arith, count, long.far))

-- of two chains from one head that end at merges, neither is the shorter
merge_ends : (objects : Objects) (head one two : Name) → (first : MeetsMerge objects head one) → (second : MeetsMerge objects head two)
    → length first.meets.above < length second.meets.above → ⊥
merge_ends objects head one two first second lt =
    let on = Chain-shorter objects head first.meets.above second.meets.above one two lt first.meets.chain second.meets.chain in
    let commit = same_Some on.1 first.commit (sym on.2 ∙ first.held) in
    let few : length first.commit.parents ≡ 1 = ap (λ (c : Commit). length c.parents) (sym commit) ∙ ap length on.3 in
    omega (arith, few, first.many)

-- a walk meets one merge at most
pub one_merge : (objects : Objects) (head one two : Name) → MeetsMerge objects head one → MeetsMerge objects head two → one ≡ two
one_merge objects head one two first second =
    elim (cases_eq (length first.meets.above) (length second.meets.above)) [
      | inl e ↦ (Chain-same objects head first.meets.above second.meets.above one two e first.meets.chain second.meets.chain).1
      | inr differ ↦ elim (cases_lt (length first.meets.above) (length second.meets.above)) [
        | inl lt ↦ absurd (merge_ends objects head one two first second lt)
        | inr ge ↦ absurd (merge_ends objects head two one second first (omega (arith, differ, ge)))
      ]
    ]

-- a head has one walk
pub one_walk : (objects : Objects) (head : Name) (a b : List Link) → Walked objects head a → Walked objects head b → a ≡ b
one_walk objects head [] b first second = absurd first
one_walk objects head (r ∷ a) [] first second = absurd second
one_walk objects head (r ∷ a) (s ∷ b) first second =
    elim (cases_eq (length a) (length b)) [
      | inl e ↦
          let same = Chain-same objects head a b r.name s.name e first.0 second.0 in
          let root = IsLink-same objects r s [] [] same.1 first.1 second.1 in
          grind (arith, root.0, same.0)
      | inr differ ↦ elim (cases_lt (length a) (length b)) [
        | inl lt ↦ absurd (root_ends objects head r a b s.name first.0 first.1 second.0 lt)
        | inr ge ↦ absurd (root_ends objects head s b a r.name second.0 second.1 first.0 (omega (arith, differ, ge)))
      ]
    ]

-- a name that the walk meets holds a commit, where the walk is whole
holds_commit : (objects : Objects) (head name : Name) (walk : List Link) → Walked objects head walk → length walk ≤ 65536 → Meets objects head name → commit_at objects name ≡ None → ⊥
holds_commit objects head name walk walked count meets none =
    let passes = walk_passes objects head name walk walked meets in
    let here = linked_at objects head walk passes.at.0 passes.link (Linked-walked objects head walk walked) count passes.at.1 in
    let named : (get_or walk passes.at.0 passes.link).name ≡ name = ap (λ (m : Link). m.name) passes.at.2 ∙ passes.is in
    cc (sym none ∙ ap (commit_at objects) (sym named) ∙ here.1.1.held)

-- a whole walk has no fault
pub no_fault-walked : (objects : Objects) (head : Name) (walk : List Link) (f : WalkFault) → Walked objects head walk → length walk ≤ 65536 → ChainFaultHolds objects head f → ⊥
no_fault-walked objects head walk f walked count h =
    no_fault_where objects (Meets objects head) (IsTooLong objects head) (λ name. holds_commit objects head name walk walked count) (not_too_long objects head walk walked count) f h

-- a commit of a whole walk was met, and is held
pub met_at : (objects : Objects) (head : Name) (walk : List Link) (link : Link) → Walked objects head walk → length walk ≤ 65536 → Contains walk link
    → Meets objects head link.name × ((parents : List Name) × IsLink objects link parents)
met_at objects head walk link walked count has =
    subst (λ (m : Link). Meets objects head m.name × ((parents : List Name) × IsLink objects m parents)) has.2 (linked_at objects head walk has.0 link (Linked-walked objects head walk walked) count has.1)
