-- What a whole walk says of the commits below the heads.
use Rattle.std.proofs.Common.{◌≡◌, ◌≤◌, ◌↔◌, ◌⊎◌, inl, inr, ◌∷◌, [], List, length, Contains, Some, None, sym, ◌∙◌, ap, subst, arith}
use Rattle.std.proofs.lemmas.List.{length-map}
use Rattle.std.proofs.lemmas.List.Elements.{Contains-append_left, Contains-append_right}
use Rattle.std.proofs.lemmas.Option.{same_Some}
use Rattle.gb_text.specs.declared.id.Name.{Name}
use Rattle.git_object.specs.declared.commit.Commit.{Commit}
use Rattle.object_store.specs.Growth.{OnlyGrew}
use Rattle.object_store.specs.Held.{Objects}
use Rattle.object_store.specs.Typed.{as_commit, commit_at}
use Rattle.object_store.proofs.GrowthLemmas.{stays}
use Rattle.commit_walk.specs.Below.{AreBelow, AreTooMany, FaultHolds, IsBelow, IsCommit, IsParent, head, names_of, parent}
use Rattle.commit_walk.specs.declared.below.Met.{Met}
use Rattle.commit_walk.specs.declared.fault.WalkFault.{WalkFault}
use Rattle.commit_walk.proofs.DistinctLemmas.{Contains-cons, Contains-first, Contains-map, length-distinct}
use Rattle.commit_walk.proofs.FaultLemmas.{no_fault_where}
use Rattle.commit_walk.proofs.FrontierLemmas.{met_of}

module _ (objects : Objects) where
  module _ (heads : List Name) (walk : List Met) (whole : AreBelow objects heads walk) where
    -- a name below holds a commit of the walk
    below_is_held : (name : Name) → IsBelow objects heads name → commit_at objects name ≡ None → ⊥
    below_is_held name below none =
        let found = met_of walk name (whole.all name below) in
        let commit = whole.each found.0 found.1 in
        cc (sym none ∙ ap (commit_at objects) (sym found.2) ∙ commit.held)

    too_many : length walk ≤ 65536 → AreTooMany objects heads → ⊥
    too_many few h =
        let fewer : length h.names ≤ length (names_of walk) = length-distinct h.names (names_of walk) h.once (λ name c. whole.all name (h.each name c).below) in
        omega (arith, fewer, few, h.many, length-map walk (λ (m : Met). m.name))

    pub no_fault : (f : WalkFault) → length walk ≤ 65536 → FaultHolds objects heads f → ⊥
    no_fault f few h = no_fault_where objects (IsBelow objects heads) (AreTooMany objects heads) below_is_held (too_many few) f h

  -- a commit that is met in one walk is met in the other
  met_in : (heads others : List Name) (one two : List Met) → AreBelow objects heads one → AreBelow objects others two
      → ((name : Name) → IsBelow objects heads name → IsBelow objects others name) → (met : Met) → Contains one met → Contains two met
  met_in heads others one two first second same met c =
      let below : IsBelow objects others met.name = same met.name (first.only met.name (Contains-map (λ (m : Met). m.name) one met c)) in
      let found = met_of two met.name (second.all met.name below) in
      let here = first.each met c in
      let there = second.each found.0 found.1 in
      let commit : there.commit ≡ here.commit = same_Some there.commit here.commit (sym there.held ∙ ap (commit_at objects) found.2 ∙ here.held) in
      let tree : found.0.tree ≡ met.tree = there.tree ∙ ap (λ (k : Commit). k.tree) commit ∙ sym here.tree in
      let parents : found.0.parents ≡ met.parents = there.parents ∙ ap (λ (k : Commit). k.parents) commit ∙ sym here.parents in
      let all : found.0 ≡ met = grind (arith, found.2, tree, parents) in
      subst (Contains two) all found.1

  pub same_commits : (heads others : List Name) (one two : List Met) → AreBelow objects heads one → AreBelow objects others two
      → ((name : Name) → IsBelow objects heads name ↔ IsBelow objects others name) → (met : Met) → Contains one met ↔ Contains two met
  same_commits heads others one two first second same met =
      (met_in heads others one two first second (λ name. (same name).0) met, met_in others heads two one second first (λ name. (same name).1) met)

  pub below_below : (heads others : List Name) (name : Name) → ((low : Name) → Contains others low → IsBelow objects heads low) → IsBelow objects others name → IsBelow objects heads name
  below_below heads others name all (head c) = all name c
  below_below heads others name all (parent {high = high} b p) = parent (below_below heads others high all b) p

  -- what lies below two heads lies below one of them
  pub below_one : (one two : Name) {name : Name} → IsBelow objects (one ∷ two ∷ []) name → IsBelow objects (one ∷ []) name ⊎ IsBelow objects (two ∷ []) name
  below_one one two {name = name} (head c) = elim (Contains-cons one (two ∷ []) name c) [
    | inl e ↦ inl (head (subst (Contains (one ∷ [])) e (Contains-first one [])))
    | inr h ↦ inr (head h)
  ]
  below_one one two (parent b p) = elim (below_one one two b) [ inl l ↦ inl (parent l p) | inr r ↦ inr (parent r p) ]

  pub below_two : (one two name : Name) → IsBelow objects (one ∷ two ∷ []) name ↔ (IsBelow objects (one ∷ []) name ⊎ IsBelow objects (two ∷ []) name)
  below_two one two name = (
    λ b. below_one one two b,
    λ h. elim h [
      | inl l ↦ below_below (one ∷ two ∷ []) (one ∷ []) name (λ n c. head (Contains-append_left (one ∷ []) (two ∷ []) n c)) l
      | inr r ↦ below_below (one ∷ two ∷ []) (two ∷ []) name (λ n c. head (Contains-append_right (one ∷ []) (two ∷ []) n c)) r
    ],
  )

-- while objects are only added
module _ (old new : Objects) (grew : OnlyGrew old new) (heads : List Name) where
  -- what is below stays below
  pub IsBelow-stays : (name : Name) → IsBelow old heads name → IsBelow new heads name
  IsBelow-stays name (head c) = head c
  IsBelow-stays name (parent {high = high} b p) =
      let leads : IsParent new high name = record { commit = p.commit; held = stays old new grew as_commit high p.commit p.held; names = p.names } in
      parent (IsBelow-stays high b) leads

  module _ (walk : List Met) (whole : AreBelow old heads walk) where
    -- a commit that was met is held
    commit_stays : (met : Met) → Contains walk met → IsCommit new met
    commit_stays met c =
        let is = whole.each met c in
        record { commit = is.commit; held = stays old new grew as_commit met.name is.commit is.held; tree = is.tree; parents = is.parents }

    -- nothing more is below the heads of a whole walk
    pub IsBelow-before : (name : Name) → IsBelow new heads name → IsBelow old heads name
    IsBelow-before name (head c) = head c
    IsBelow-before name (parent {high = high} b p) =
        let below : IsBelow old heads high = IsBelow-before high b in
        let found = met_of walk high (whole.all high below) in
        let was = whole.each found.0 found.1 in
        let held : commit_at old high ≡ Some was.commit = ap (commit_at old) (sym found.2) ∙ was.held in
        let same : p.commit ≡ was.commit = same_Some p.commit was.commit (sym p.held ∙ stays old new grew as_commit high was.commit held) in
        let leads : IsParent old high name = record { commit = was.commit; held = held; names = subst (λ (c : Commit). Contains c.parents name) same p.names } in
        parent below leads

    pub AreBelow-stays : AreBelow new heads walk
    AreBelow-stays = record {
      all = λ name b. whole.all name (IsBelow-before name b);
      only = λ name c. IsBelow-stays name (whole.only name c);
      each = commit_stays;
      once = whole.once;
    }
