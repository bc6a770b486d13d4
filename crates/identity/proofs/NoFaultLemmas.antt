-- A chain has no fault, and a head one chain and one person.
use Rattle.std.proofs.Common.{◌≡◌, ◌<◌, inl, inr, ℕ, zero, suc, List, [], ◌∷◌, length, get_or, Some, None, Option, option_and_then, refl, sym, ◌∙◌, ap, arith}
use Rattle.std.proofs.lemmas.Option.{same_Some}
use Rattle.gb_text.specs.declared.id.Id.{Id}
use Rattle.gb_text.specs.declared.id.Name.{Name}
use Rattle.git_object.specs.declared.commit.Commit.{Commit}
use Rattle.git_object.specs.declared.tree.Tree.{Tree}
use Rattle.git_object.specs.declared.object.Object.{Object}
use Rattle.git_object.specs.Reading.{object_of}
use Rattle.object_store.specs.Held.{Objects, object_at, named}
use Rattle.object_store.specs.Typed.{as_blob, as_commit, as_tree, blob_at, commit_at}
use Rattle.commit_walk.specs.Chain.{Walked, MeetsCommit}
use Rattle.commit_walk.specs.declared.chain.Link.{Link}
use Rattle.object_store.proofs.FaultLemmas.{fault-none}
use Rattle.object_store.specs.declared.fault.ObjFault.TheVariants as object
use Rattle.commit_walk.proofs.ChainPassLemmas.{Linked-walked, no_merge-walked, not_too_long, one_walk, parent_at, walk_passes}
use Rattle.identity.specs.Version.{version_of, version_id, person_name}
use Rattle.identity.specs.Commits.{Needs, IsBad, no_tree, no_entry, no_blob, no_version, text_in, version_object, version_text_at, version_at, HasVersion, HasNoVersion}
use Rattle.identity.specs.Persons.{BeginsWith, IsChain, Shows, SomeHasNoVersion, IdentityFaultHolds}
use Rattle.identity.specs.declared.version.Version.{Version}
use Rattle.identity.specs.declared.chain.Person.{Person}
use Rattle.identity.specs.declared.fault.IdentityFault.{IdentityFault}
use Rattle.identity.specs.declared.fault.IdentityFault.TheVariants as fault

-- ---- a commit with a version has no fault

-- the version of a commit that is held is that of its tree
version_at-commit : (objects : Objects) (name : Name) (commit : Commit) → commit_at objects name ≡ Some commit → version_at objects name ≡ option_and_then version_of (text_in objects commit.tree)
version_at-commit objects name commit held = ap (λ (o : Option Commit). option_and_then version_of (option_and_then (λ (c : Commit). text_in objects c.tree) o)) held

-- so is none where the tree has none
no_version_at : (objects : Objects) (name : Name) (commit : Commit) → commit_at objects name ≡ Some commit → text_in objects commit.tree ≡ None → version_at objects name ≡ None
no_version_at objects name commit held none = version_at-commit objects name commit held ∙ ap (option_and_then version_of) none

-- an object that a version needs and that is not held leaves none
Needs-none : (objects : Objects) (of name : Name) → Needs objects of name → object_at objects name ≡ None → version_at objects of ≡ None
Needs-none objects of name (inl e) none =
    ap (λ (o : Option Object). option_and_then version_of (option_and_then (λ (c : Commit). text_in objects c.tree) (option_and_then as_commit o))) (ap (object_at objects) (sym e) ∙ none)
Needs-none objects of name (inr (commit, held, inl e)) none =
    no_version_at objects of commit held
    (ap (λ (o : Option Object). option_and_then (blob_at objects) (option_and_then version_object (option_and_then as_tree o))) (ap (object_at objects) (sym e) ∙ none))
Needs-none objects of name (inr (commit, held, inr e)) none =
    no_version_at objects of commit held (ap (option_and_then (blob_at objects)) e ∙ ap (option_and_then as_blob) none)

-- what is no version leaves none
IsBad-none : (objects : Objects) (tree : Name) → IsBad objects tree → option_and_then version_of (text_in objects tree) ≡ None
IsBad-none objects tree (no_tree other) =
    ap (λ (o : Option Tree). option_and_then version_of (option_and_then (blob_at objects) (option_and_then version_object o))) (ap (option_and_then as_tree) other.held ∙ other.is_none)
IsBad-none objects tree (no_entry t held none) =
    ap (λ (o : Option Name). option_and_then version_of (option_and_then (blob_at objects) o)) (ap (option_and_then version_object) held ∙ none)
IsBad-none objects tree (no_blob t name held names other) =
    ap (λ (o : Option Name). option_and_then version_of (option_and_then (blob_at objects) o)) (ap (option_and_then version_object) held ∙ names)
    ∙ ap (option_and_then version_of) (ap (option_and_then as_blob) other.held ∙ other.is_none)
IsBad-none objects tree (no_version text is none) = ap (option_and_then version_of) is ∙ none

same_version : (one two : Version) → Some one ≡ Some two → one ≡ two
same_version one two e = grind (arith, e)

without : (objects : Objects) (name : Name) (version : Version) → HasVersion objects name version → version_at objects name ≡ None → ⊥
without objects name version has none = cc (sym none ∙ has.is)

-- a commit that has a version has none of the faults
pub no_fault_at : (objects : Objects) (name : Name) (version : Version) (f : IdentityFault) → HasVersion objects name version → HasNoVersion objects name f → ⊥
no_fault_at objects name version fault.Memory has h = h
no_fault_at objects name version fault.Disk has h = h
no_fault_at objects name version (fault.Missing n) has h =
    without objects name version has (Needs-none objects name n h.0 (ap (λ (o : Option (List ℕ)). option_and_then object_of (option_and_then (named n) o)) h.1))
no_fault_at objects name version (fault.Damaged n) has h = without objects name version has (Needs-none objects name n h.0 h.1.is_none)
no_fault_at objects name version (fault.NotCommit n) has h =
    without objects name version has (ap (λ (o : Option Commit). option_and_then version_of (option_and_then (λ (c : Commit). text_in objects c.tree) o)) (ap (option_and_then as_commit) h.1.held ∙ h.1.is_none))
no_fault_at objects name version (fault.BadVersion n) has h =
    without objects name version has (version_at-commit objects name h.1 h.2 ∙ IsBad-none objects h.1.tree h.3)
no_fault_at objects name version (fault.KeysPresent n) has h =
    let same = same_version h.1 version (sym h.2 ∙ has.is) in
    cc (sym h.3 ∙ ap (λ (v : Version). v.has_keys) same ∙ has.no_keys)
no_fault_at objects name version (fault.NotLinear n) has h = h
no_fault_at objects name version (fault.WrongId found) has h = h
no_fault_at objects name version (fault.TooLarge count) has h =
    without objects name version has (Needs-none objects name h.1 h.2 (fault-none objects h.1 (object.Large h.1) (refl, h.3)))

-- ---- a chain has none

-- a commit without parents is the first of the walk
pub root_is : (objects : Objects) (head name : Name) (commit : Commit) (root : Link) (above : List Link) → Walked objects head (root ∷ above) → MeetsCommit objects head name commit
    → commit.parents ≡ [] → root.name ≡ name
root_is objects head name commit root above walked met none =
    let passes = walk_passes objects head name (root ∷ above) walked met.meets in
    at_place passes.link passes.at.0 passes.at.1 (ap (λ (m : Link). m.name) passes.at.2 ∙ passes.is)
  where
    at_place : (d : Link) (k : ℕ) → k < length (root ∷ above) → (get_or (root ∷ above) k d).name ≡ name → root.name ≡ name
    at_place d zero lt named = named
    at_place d (suc k) lt named =
        let is = parent_at objects head (root ∷ above) k d (Linked-walked objects head (root ∷ above) walked) lt in
        let same = same_Some is.commit commit (sym is.held ∙ ap (commit_at objects) named ∙ met.held) in
        absurd (cc (is.parents ∙ ap (λ (c : Commit). c.parents) same ∙ none))

same_text : (s t : List ℕ) → Some s ≡ Some t → s ≡ t
same_text s t e = grind (arith, e)

-- a walk begins with one text
BeginsWith-same : (objects : Objects) (head : Name) (walk : List Link) (s t : List ℕ) → Walked objects head walk → BeginsWith objects head s → BeginsWith objects head t → s ≡ t
BeginsWith-same objects head [] s t walked one two = absurd walked
BeginsWith-same objects head (root ∷ above) s t walked one two =
    let first = root_is objects head one.root one.commit root above walked one.meets one.no_parents in
    let second = root_is objects head two.root two.commit root above walked two.meets two.no_parents in
    same_text s t (sym one.holds ∙ ap (version_text_at objects) (sym first ∙ second) ∙ two.holds)

some_no_fault : (objects : Objects) (id : Id) (head : Name) (f : IdentityFault) → IsChain objects id head → SomeHasNoVersion objects head f → ⊥
some_no_fault objects id head f chain h = let has = chain.each h.0 h.1 in no_fault_at objects h.0 has.0 f has.1 h.2

-- a chain has no fault
pub no_fault : (objects : Objects) (id : Id) (head : Name) (f : IdentityFault) → IsChain objects id head → IdentityFaultHolds objects id head f → ⊥
no_fault objects id head fault.Memory chain h = some_no_fault objects id head fault.Memory chain h
no_fault objects id head fault.Disk chain h = some_no_fault objects id head fault.Disk chain h
no_fault objects id head (fault.Missing n) chain h = some_no_fault objects id head (fault.Missing n) chain h
no_fault objects id head (fault.Damaged n) chain h = some_no_fault objects id head (fault.Damaged n) chain h
no_fault objects id head (fault.NotCommit n) chain h = some_no_fault objects id head (fault.NotCommit n) chain h
no_fault objects id head (fault.BadVersion n) chain h = some_no_fault objects id head (fault.BadVersion n) chain h
no_fault objects id head (fault.KeysPresent n) chain h = some_no_fault objects id head (fault.KeysPresent n) chain h
no_fault objects id head (fault.NotLinear n) chain h = no_merge-walked objects head chain.walk chain.walked n h
no_fault objects id head (fault.WrongId found) chain h =
    let same = BeginsWith-same objects head chain.walk h.0 chain.text chain.walked h.1 chain.begins in
    h.3 (h.2 ∙ ap version_id same ∙ chain.is_id)
no_fault objects id head (fault.TooLarge count) chain (inl h) = not_too_long objects head chain.walk chain.walked chain.within h.1
no_fault objects id head (fault.TooLarge count) chain (inr h) = some_no_fault objects id head (fault.TooLarge count) chain h

-- ---- one chain, one person

-- a head has one id
pub one_id : (objects : Objects) (one two : Id) (head : Name) → IsChain objects one head → IsChain objects two head → one ≡ two
one_id objects one two head first second =
    sym first.is_id ∙ ap version_id (BeginsWith-same objects head first.walk first.text second.text first.walked first.begins second.begins) ∙ second.is_id

-- a chain has one count of commits
pub one_count : (objects : Objects) (id : Id) (head : Name) → (one two : IsChain objects id head) → length one.walk ≡ length two.walk
one_count objects id head one two = ap length (one_walk objects head one.walk two.walk one.walked two.walked)

-- a head shows one person
pub one_person : (objects : Objects) (id : Id) (head : Name) (one two : Person) → Shows objects id head one → Shows objects id head two → one ≡ two
one_person objects id head one two first second =
    let same = same_version first.version second.version (sym first.has.is ∙ second.has.is) in
    let shown : (version : Version) → Person = λ version. record { id = id; head = head; name = person_name version; email = version.email } in
    first.is ∙ ap shown same ∙ sym second.is

-- the head of a chain shows a person
pub chain_shows : (objects : Objects) (id : Id) (head : Name) → IsChain objects id head → (person : Person) × Shows objects id head person
chain_shows objects id head chain =
    let has = chain.each head (record { above = []; chain = refl; near = omega arith }) in
    (record { id = id; head = head; name = person_name has.0; email = has.0.email }, record { version = has.0; has = has.1; is = refl })
