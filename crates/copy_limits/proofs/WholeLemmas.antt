-- Between whole stores of one text each, nothing but a limit of trees keeps few commits without a ring from being copied.
use Rattle.std.proofs.Common.{◌≡◌, inl, inr, refl, sym, ◌∙◌, ap, subst, arith, Bool, ℕ, ◌<◌, List, [], ◌∷◌, length, map, get_or, Contains, None, Some, option_and_then}
use Rattle.std.proofs.lemmas.List.{get_or-map, length-map}
use Rattle.std.proofs.lemmas.List.Elements.{Contains-get_or}
use Rattle.std.proofs.lemmas.Option.{same_Some}
use Rattle.gb_text.specs.Digits.{IsName}
use Rattle.gb_text.specs.declared.id.Name.{Name}
use Rattle.git_object.specs.declared.frame.Kind.TheVariants as kinds
use Rattle.git_object.specs.declared.object.Object.{Object}
use Rattle.git_object.specs.Grammar.{kind_of}
use Rattle.git_object.specs.Reading.{object_of}
use Rattle.git_object.proofs.NameLaws.{IsName-object_name}
use Rattle.object_store.specs.Held.{Objects, named, object_at, text_at}
use Rattle.object_store.proofs.GrowthLemmas.{bind-some}
use Rattle.object_store.proofs.HeldLemmas.{named-is, object_at-is}
use Rattle.object_batch.specs.Needs.{IsHeldAs, Reference}
use Rattle.object_batch.proofs.LeadLemmas.{held_commit}
use Rattle.commit_walk.specs.Below.{HasCommit}
use Rattle.commit_walk.specs.Distinct.{AreDistinct}
use Rattle.commit_walk.specs.declared.below.TheConstants.{MOST_COMMITS}
use Rattle.commit_walk.proofs.DistinctLemmas.{Contains-from_map}
use Rattle.dag_entity.specs.Folders.{HaveOneText}
use Rattle.remote_copy.specs.Causes.{AreTooMany, CauseHolds, HasLarge, IsCommit, IsTaken}
use Rattle.remote_copy.specs.Closure.{IsFollowed, commit_named, first, next}
use Rattle.remote_copy.specs.declared.fault.CopyFault.{CopyFault}
use Rattle.remote_copy.specs.declared.fault.CopyFault.TheVariants as fault
use Rattle.repo_state.specs.Sound.{AreWhole}
use Rattle.copy_limits.specs.Commits.{HasFewCommits, HasNoRing}
use Rattle.copy_limits.specs.Flat.{HasFlatTrees}
use Rattle.copy_limits.specs.Limits.{IsTreeLimit}
use Rattle.copy_limits.proofs.FlatLemmas.{not_deep, not_others}
use Rattle.copy_limits.proofs.NamedLemmas.{followed_below, leads_below, next_parent}

-- a name that holds an object is one
held_name : (objects : Objects) (name : Name) (object : Object) → object_at objects name ≡ Some object → IsName name
held_name objects name object is = let held = object_at-is objects name object is in subst IsName held.is_named (IsName-object_name held.text)

-- a file under a name of whole objects is the text that the name holds
file_text : (objects : Objects) → AreWhole objects → (name : Name) (file : List ℕ) → IsName name → objects name ≡ Some file → text_at objects name ≡ Some file
file_text objects whole name file is stands =
    let held = whole.held name file is stands in
    let text = bind-some object_of (text_at objects name) held.0 held.1 in
    let found = bind-some (named name) (objects name) text.0 text.1 in
    let read = named-is name found.0 text.0 found.2 in
    text.1 ∙ ap Some (read.0 ∙ same_Some found.0 file (sym found.1 ∙ stands))

-- commits that are distinct have distinct names
names_distinct : (them : List Reference) → AreDistinct them → ((one : Reference) → Contains them one → one.kind ≡ kinds.Commit) → AreDistinct (map (λ (r : Reference). r.name) them)
names_distinct them once are i j d before within same =
    let short : j < length them = omega (arith, within, length-map them (λ (r : Reference). r.name)) in
    let one : get_or (map (λ (r : Reference). r.name) them) i d ≡ (get_or them i (commit_named d)).name = get_or-map (λ (r : Reference). r.name) them i (commit_named d) d (omega (arith, before, short)) in
    let two : get_or (map (λ (r : Reference). r.name) them) j d ≡ (get_or them j (commit_named d)).name = get_or-map (λ (r : Reference). r.name) them j (commit_named d) d short in
    let here = are (get_or them i (commit_named d)) (Contains-get_or them i (commit_named d) (omega (arith, before, short))) in
    let there = are (get_or them j (commit_named d)) (Contains-get_or them j (commit_named d) short) in
    once i j (commit_named d) before short (same_commit (get_or them i (commit_named d)) (get_or them j (commit_named d)) (sym one ∙ same ∙ two) (here ∙ sym there))
  where
    same_commit : (one two : Reference) → one.name ≡ two.name → one.kind ≡ two.kind → one ≡ two
    same_commit one two names kinds = grind (arith, names, kinds)

module _ (closed : Bool) (source target : Objects) (top : Name) (whole : AreWhole source) (also : AreWhole target) (alike : HaveOneText source target)
    (top_held : IsHeldAs source top kinds.Commit) (no_ring : HasNoRing source top) (few : HasFewCommits source top) where
  -- all that a copy follows is held
  followed_held : (one : Reference) → IsFollowed closed source target top one → IsHeldAs source one.name one.kind
  followed_held one (first same unleft) = subst (λ (r : Reference). IsHeldAs source r.name r.kind) (sym same) top_held
  followed_held one (next {high = high} f step unleft) = whole.whole.needs high.name step.object step.is one.name one.kind step.names

  -- no other bytes stand under its name
  not_taken : (one : Reference) → IsFollowed closed source target top one → IsTaken source target one.name → ⊥
  not_taken one f taken =
      let held = followed_held one f in
      let there = file_text target also one.name taken.other (held_name source one.name held.object held.is) taken.stands in
      taken.differs (sym (alike one.name taken.text taken.other taken.held there))

  -- nor has it too many bytes, since it is held
  not_large : HasLarge closed source target top → ⊥
  not_large large =
      let held = followed_held large.one large.followed in
      let is = object_at-is source large.one.name held.object held.is in
      let same : length large.large.text ≡ length is.text = ap length (same_Some large.large.text is.text (sym large.large.stands ∙ is.stands)) in
      omega (arith, large.large.long, is.within, same)

  -- the commits that a copy follows are no more than those below the head
  not_many : AreTooMany closed source target top IsCommit MOST_COMMITS → ⊥
  not_many many = few (record {
    names = map (λ (r : Reference). r.name) many.them;
    once = names_distinct many.them many.once (λ one c. (many.each one c).2);
    many = omega (arith, many.many, length-map many.them (λ (r : Reference). r.name));
    each = λ name c.
        let from = Contains-from_map (λ (r : Reference). r.name) many.them name c in
        let is = many.each from.0 from.1 in
        let held = held_commit source from.0.name (subst (IsHeldAs source from.0.name) is.2 is.1) in
        subst (HasCommit source (top ∷ [])) from.2 (record { below = followed_below closed source target top from.0 is.0 is.2; commit = held.0; held = held.1 });
  })

  pub limit_alone : (why : CopyFault) → CauseHolds closed source target top why → (count : ℕ) × (why ≡ fault.TooLarge count) × IsTreeLimit count
  limit_alone fault.Memory none = absurd none
  limit_alone fault.Disk none = absurd none
  limit_alone (fault.Missing name) c =
      let held = followed_held c.one c.followed in
      let none : None ≡ Some held.object = sym (ap (λ file. option_and_then object_of (option_and_then (named c.one.name) file)) c.is) ∙ held.is in
      absurd (cc none)
  limit_alone (fault.Damaged name) c =
      let held = followed_held c.one c.followed in
      let none : None ≡ Some held.object = sym c.is.is_none ∙ held.is in
      absurd (cc none)
  limit_alone (fault.WrongKind name) c =
      let held = followed_held c.one c.followed in
      absurd (c.is.differs (ap kind_of (same_Some c.is.object held.object (sym c.is.held ∙ held.is)) ∙ held.is_kind))
  limit_alone (fault.TooLarge count) (inl bytes) = absurd (not_large bytes.1)
  limit_alone (fault.TooLarge count) (inr (inl commits)) = absurd (not_many commits.1)
  limit_alone (fault.TooLarge count) (inr (inr (inl others))) = (count, refl, inl others.0)
  limit_alone (fault.TooLarge count) (inr (inr (inr deep))) = (count, refl, inr deep.0)
  limit_alone (fault.Ring name) c =
      let on = c.is.1 in
      let back = leads_below source on.next on.path c.one on.leads c.is.0 in
      absurd (no_ring c.one.name (followed_below closed source target top c.one c.followed c.is.0)
      (record { parent = on.next.name; is_parent = (next_parent source c.one on.next on.names back.0).1; below = back.1 }))
  limit_alone (fault.Taken name) c = absurd (not_taken c.one c.followed c.is)

  -- where their trees are flat and small, nothing does
  pub none_alone : HasFlatTrees source top → (why : CopyFault) → CauseHolds closed source target top why → ⊥
  none_alone flat fault.Memory none = none
  none_alone flat fault.Disk none = none
  none_alone flat (fault.TooLarge count) (inl bytes) = not_large bytes.1
  none_alone flat (fault.TooLarge count) (inr (inl commits)) = not_many commits.1
  none_alone flat (fault.TooLarge count) (inr (inr (inl others))) = not_others closed source target top flat few others.1
  none_alone flat (fault.TooLarge count) (inr (inr (inr deep))) = not_deep closed source target top flat deep.1
  none_alone flat (fault.Missing name) c = let told = limit_alone (fault.Missing name) c in cc told.1
  none_alone flat (fault.Damaged name) c = let told = limit_alone (fault.Damaged name) c in cc told.1
  none_alone flat (fault.WrongKind name) c = let told = limit_alone (fault.WrongKind name) c in cc told.1
  none_alone flat (fault.Ring name) c = let told = limit_alone (fault.Ring name) c in cc told.1
  none_alone flat (fault.Taken name) c = let told = limit_alone (fault.Taken name) c in cc told.1
