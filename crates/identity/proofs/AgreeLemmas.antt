-- Where two stores agree about what a chain needs, they have the same chain.
use Rattle.std.proofs.Common.{◌≡◌, inl, inr, ◌≤◌, ℕ, List, [], ◌∷◌, length, Option, Some, None, option_and_then, refl, sym, ◌∙◌, ap, subst, arith}
use Rattle.gb_text.specs.declared.id.Id.{Id}
use Rattle.gb_text.specs.declared.id.Name.{Name}
use Rattle.git_object.specs.declared.commit.Commit.{Commit}
use Rattle.git_object.specs.declared.object.Object.{Object}
use Rattle.git_object.specs.Reading.{object_of}
use Rattle.object_store.specs.Held.{IsDamaged, IsLarge, Objects, named, object_at}
use Rattle.object_store.specs.Typed.{IsOtherKind, as_blob, as_commit, as_tree, blob_at, commit_at, tree_at}
use Rattle.commit_walk.specs.Chain.{Chain, IsTooLong, Meets, Walked}
use Rattle.commit_walk.specs.declared.chain.Link.{Link}
use Rattle.identity.specs.Agreeing.{SameChain}
use Rattle.identity.specs.Commits.{HasNoVersion, HasVersion, IsBad, Needs, TreeNeeds, no_blob, no_entry, no_tree, no_version, text_in, version_at, version_object, version_text_at}
use Rattle.identity.specs.Persons.{BeginsWith, IdentityFaultHolds, IsChain, Shows, SomeHasNoVersion}
use Rattle.identity.specs.Version.{version_of}
use Rattle.identity.specs.declared.chain.Person.{Person}
use Rattle.identity.specs.declared.fault.IdentityFault.{IdentityFault}
use Rattle.identity.specs.declared.fault.IdentityFault.TheVariants as fault
use Rattle.identity.specs.declared.version.Version.{Version}

-- names with the same file hold the same
object_same : (one two : Objects) (name : Name) → two name ≡ one name → object_at two name ≡ object_at one name
object_same one two name same = ap (λ (file : Option (List ℕ)). option_and_then object_of (option_and_then (named name) file)) same

other_same : {T : Type 0} (read : Object → Option T) (one two : Objects) (name : Name) → two name ≡ one name → IsOtherKind read one name → IsOtherKind read two name
other_same read one two name same o = record { object = o.object; held = object_same one two name same ∙ o.held; is_none = o.is_none }

damaged_same : (one two : Objects) (name : Name) → two name ≡ one name → IsDamaged one name → IsDamaged two name
damaged_same one two name same d = record { text = d.text; stands = same ∙ d.stands; within = d.within; is_none = object_same one two name same ∙ d.is_none }

-- what is found in the same option by readings that agree is the same
found_same : {A B : Type 0} (f g : A → Option B) (o p : Option A) → p ≡ o → ((a : A) → o ≡ Some a → f a ≡ g a) → option_and_then f p ≡ option_and_then g o
found_same {A = A} {B = B} f g o p e agree = ap (option_and_then f) e ∙ each o agree
  where
    each : (o : Option A) → ((a : A) → o ≡ Some a → f a ≡ g a) → option_and_then f o ≡ option_and_then g o
    each None agree = refl
    each (Some a) agree = agree a refl

module _ (one two : Objects) (top : Name) (agree : SameChain one two top) where
  -- ---- the names that are met

  commit_same : (met : Name) → Meets one top met → commit_at two met ≡ commit_at one met
  commit_same met m = ap (option_and_then as_commit) (object_same one two met (agree.same met met m (inl refl)))

  chain_over : (above : List Link) (name : Name) → length above ≤ 65536 → Chain one top above name → Chain two top above name
  chain_over [] name few c = c
  chain_over (link ∷ above) name few c =
      let m : Meets one top link.name = record { above = above; chain = c.0; near = omega (arith, few) } in
      (chain_over above link.name (omega (arith, few)) c.0, record { commit = c.1.commit; held = commit_same link.name m ∙ c.1.held; tree = c.1.tree; parents = c.1.parents })

  chain_back : (above : List Link) (name : Name) → length above ≤ 65536 → Chain two top above name → Chain one top above name
  chain_back [] name few c = c
  chain_back (link ∷ above) name few c =
      let there : Chain one top above link.name = chain_back above link.name (omega (arith, few)) c.0 in
      let m : Meets one top link.name = record { above = above; chain = there; near = omega (arith, few) } in
      (there, record { commit = c.1.commit; held = sym (commit_same link.name m) ∙ c.1.held; tree = c.1.tree; parents = c.1.parents })

  pub meets_over : (name : Name) → Meets one top name → Meets two top name
  meets_over name m = record { above = m.above; chain = chain_over m.above name m.near m.chain; near = m.near }

  pub meets_back : (name : Name) → Meets two top name → Meets one top name
  meets_back name m = record { above = m.above; chain = chain_back m.above name m.near m.chain; near = m.near }

  -- ---- what the version of one of them needs

  module _ (met : Name) (m : Meets one top met) where
    module _ (commit : Commit) (held : commit_at one met ≡ Some commit) where
      needed : (name : Name) → TreeNeeds one commit.tree name → two name ≡ one name
      needed name t = agree.same met name m (inr (commit, held, t))

      tree_same : tree_at two commit.tree ≡ tree_at one commit.tree
      tree_same = ap (option_and_then as_tree) (object_same one two commit.tree (needed commit.tree (inl refl)))

      tree_needs_over : (name : Name) → TreeNeeds one commit.tree name → TreeNeeds two commit.tree name
      tree_needs_over name (inl e) = inl e
      tree_needs_over name (inr e) = inr (ap (option_and_then version_object) tree_same ∙ e)

      tree_needs_back : (name : Name) → TreeNeeds two commit.tree name → TreeNeeds one commit.tree name
      tree_needs_back name (inl e) = inl e
      tree_needs_back name (inr e) = inr (sym (ap (option_and_then version_object) tree_same) ∙ e)

      text_same : text_in two commit.tree ≡ text_in one commit.tree
      text_same = found_same (blob_at two) (blob_at one) (option_and_then version_object (tree_at one commit.tree)) (option_and_then version_object (tree_at two commit.tree)) (ap (option_and_then version_object) tree_same)
          (λ name is. ap (option_and_then as_blob) (object_same one two name (needed name (inr is))))

      bad_over : IsBad one commit.tree → IsBad two commit.tree
      bad_over (no_tree o) = no_tree (other_same as_tree one two commit.tree (needed commit.tree (inl refl)) o)
      bad_over (no_entry t at e) = no_entry t (tree_same ∙ at) e
      bad_over (no_blob t name at e o) = no_blob t name (tree_same ∙ at) e (other_same as_blob one two name (needed name (inr (ap (option_and_then version_object) at ∙ e))) o)
      bad_over (no_version text at e) = no_version text (text_same ∙ at) e

    needs_over : (name : Name) → Needs one met name → Needs two met name
    needs_over name (inl e) = inl e
    needs_over name (inr n) = inr (n.0, commit_same met m ∙ n.1, tree_needs_over n.0 n.1 name n.2)

    needs_back : (name : Name) → Needs two met name → Needs one met name
    needs_back name (inl e) = inl e
    needs_back name (inr n) =
        let held : commit_at one met ≡ Some n.0 = sym (commit_same met m) ∙ n.1 in
        inr (n.0, held, tree_needs_back n.0 held name n.2)

    version_text_same : version_text_at two met ≡ version_text_at one met
    version_text_same = found_same (λ (commit : Commit). text_in two commit.tree) (λ (commit : Commit). text_in one commit.tree) (commit_at one met) (commit_at two met) (commit_same met m) (λ commit held. text_same commit held)

    version_same : version_at two met ≡ version_at one met
    version_same = ap (option_and_then version_of) version_text_same

    has_over : (version : Version) → HasVersion one met version → HasVersion two met version
    has_over version h = record { is = version_same ∙ h.is; no_keys = h.no_keys }

    has_back : (version : Version) → HasVersion two met version → HasVersion one met version
    has_back version h = record { is = sym version_same ∙ h.is; no_keys = h.no_keys }

    lacks_over : (f : IdentityFault) → HasNoVersion one met f → HasNoVersion two met f
    lacks_over (fault.Missing n) h = (needs_over n h.0, agree.same met n m h.0 ∙ h.1)
    lacks_over (fault.Damaged n) h = (needs_over n h.0, damaged_same one two n (agree.same met n m h.0) h.1)
    lacks_over (fault.TooLarge count) h = (h.0, h.1, needs_over h.1 h.2, subst IsLarge (sym (agree.same met h.1 m h.2)) h.3)
    lacks_over (fault.NotCommit n) h = (h.0, other_same as_commit one two met (agree.same met met m (inl refl)) h.1)
    lacks_over (fault.BadVersion n) h = (h.0, h.1, commit_same met m ∙ h.2, bad_over h.1 h.2 h.3)
    lacks_over (fault.KeysPresent n) h = (h.0, h.1, version_same ∙ h.2, h.3)
    lacks_over _ h = absurd h

  -- ---- the chain

  pub same_back : SameChain two one top
  same_back = record { same = λ met name m n. let there = meets_back met m in sym (agree.same met name there (needs_back met there name n)) }

  begins_over : (text : List ℕ) → BeginsWith one top text → BeginsWith two top text
  begins_over text b = record {
    root = b.root;
    commit = b.commit;
    meets = record { meets = meets_over b.root b.meets.meets; held = commit_same b.root b.meets.meets ∙ b.meets.held };
    no_parents = b.no_parents;
    holds = version_text_same b.root b.meets.meets ∙ b.holds;
    version = b.version;
    reads = b.reads;
  }

  some_over : (f : IdentityFault) → SomeHasNoVersion one top f → SomeHasNoVersion two top f
  some_over f h = (h.0, meets_over h.0 h.1, lacks_over h.0 h.1 f h.2)

  long_over : IsTooLong one top → IsTooLong two top
  long_over l =
      let few : length l.above ≤ 65536 = omega (arith, l.far) in
      record { above = l.above; name = l.name; commit = l.commit; chain = chain_over l.above l.name few l.chain; far = l.far; held = commit_same l.name (record { above = l.above; chain = l.chain; near = few }) ∙ l.held }

  pub fault_over : (id : Id) (f : IdentityFault) → IdentityFaultHolds one id top f → IdentityFaultHolds two id top f
  fault_over id (fault.NotLinear name) h = record { meets = meets_over name h.meets; commit = h.commit; held = commit_same name h.meets ∙ h.held; many = h.many }
  fault_over id (fault.WrongId found) h = (h.0, begins_over h.0 h.1, h.2, h.3)
  fault_over id (fault.TooLarge count) (inl h) = inl (h.0, long_over h.1)
  fault_over id (fault.TooLarge count) (inr h) = inr (some_over (fault.TooLarge count) h)
  fault_over id f h = some_over f h

  walked_over : (walk : List Link) → length walk ≤ 65536 → Walked one top walk → Walked two top walk
  walked_over [] few w = w
  walked_over (root ∷ above) few w =
      let near : length above ≤ 65536 = omega (arith, few) in
      let m : Meets one top root.name = record { above = above; chain = w.0; near = near } in
      (chain_over above root.name near w.0, record { commit = w.1.commit; held = commit_same root.name m ∙ w.1.held; tree = w.1.tree; parents = w.1.parents })

  pub chain_too : (id : Id) (chain : IsChain one id top) → (other : IsChain two id top) × (other.walk ≡ chain.walk)
  chain_too id chain = (
    record {
      walk = chain.walk;
      walked = walked_over chain.walk chain.within chain.walked;
      within = chain.within;
      each = λ name m. let there = meets_back name m in let has = chain.each name there in (has.0, has_over name there has.0 has.1);
      text = chain.text;
      begins = begins_over chain.text chain.begins;
      is_id = chain.is_id;
    },
    refl,
  )

  top_met : Meets one top top
  top_met = record { above = []; chain = refl; near = omega arith }

  pub shows_over : (id : Id) (person : Person) → Shows one id top person → Shows two id top person
  shows_over id person s = record { version = s.version; has = has_over top top_met s.version s.has; is = s.is }
