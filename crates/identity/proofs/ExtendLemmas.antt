-- A new version goes on with the chain of its identity, in objects that only grew.
use Rattle.std.proofs.Common.{◌≡◌, ◌<◌, ◌≤◌, inl, inr, ℕ, zero, suc, false, List, [], ◌∷◌, ◌++◌, length, Contains, Option, Some, None, option_and_then, option_to_list, refl, sym, ◌∙◌, ap, subst, arith, length-append}
use Rattle.std.proofs.lemmas.List.Elements.{Contains-push_cases}
use Rattle.gb_text.specs.declared.id.Id.{Id}
use Rattle.gb_text.specs.declared.id.Name.{Name}
use Rattle.git_object.specs.declared.commit.Commit.{Commit}
use Rattle.git_object.specs.declared.tree.Tree.{Tree}
use Rattle.git_object.specs.declared.object.Object.{Object}
use Rattle.git_object.specs.Grammar.{object_name}
use Rattle.object_store.specs.Held.{Objects}
use Rattle.object_store.specs.Typed.{as_blob, as_commit, as_tree, blob_at, commit_at, tree_at}
use Rattle.commit_walk.specs.Chain.{IsLink, Chain, Walked, Meets}
use Rattle.commit_walk.specs.declared.chain.Link.{Link}
use Rattle.commit_walk.proofs.ChainPassLemmas.{Linked-walked, meets_first, met_at, walk_passes}
use Rattle.identity.specs.Version.{version_of, version_id}
use Rattle.identity.specs.Commits.{HasVersion, text_in, version_object, version_text_at}
use Rattle.identity.specs.Extending.{Extends, IsLonger}
use Rattle.object_store.specs.Growth.{OnlyGrew}
use Rattle.object_store.proofs.GrowthLemmas.{stays}
use Rattle.commit_walk.proofs.ChainStayLemmas.{Chain_stays, Walked_stays}
use Rattle.identity.specs.Making.{HoldsVersion, tree_object, made_of, version_commit}
use Rattle.identity.specs.Persons.{BeginsWith, IsChain, Shows}
use Rattle.identity.specs.declared.chain.Person.{Person}
use Rattle.identity.specs.declared.making.Made.{Made}
use Rattle.identity.specs.declared.version.Version.{Version}
use Rattle.identity.proofs.NoFaultLemmas.{root_is}

-- ---- what was held is held

module _ (old new : Objects) (grew : OnlyGrew old new) where
  text_in_stays : (tree : Name) (text : List ℕ) → text_in old tree ≡ Some text → text_in new tree ≡ Some text
  text_in_stays tree text held = each (tree_at old tree) refl
    where
      inner : (t : Tree) → tree_at old tree ≡ Some t → (o : Option Name) → version_object t ≡ o → text_in new tree ≡ Some text
      inner t e None f = let no : None ≡ Some text = sym (ap (λ (x : Option Tree). option_and_then (blob_at old) (option_and_then version_object x)) e ∙ ap (option_and_then (blob_at old)) f) ∙ held in cc
      inner t e (Some name) f =
          let blob : blob_at old name ≡ Some text = sym (ap (λ (x : Option Tree). option_and_then (blob_at old) (option_and_then version_object x)) e ∙ ap (option_and_then (blob_at old)) f) ∙ held in
          ap (λ (x : Option Tree). option_and_then (blob_at new) (option_and_then version_object x)) (stays old new grew as_tree tree t e) ∙ ap (option_and_then (blob_at new)) f ∙ stays old new grew as_blob name text blob

      each : (o : Option Tree) → tree_at old tree ≡ o → text_in new tree ≡ Some text
      each None e = let no : None ≡ Some text = sym (ap (λ (x : Option Tree). option_and_then (blob_at old) (option_and_then version_object x)) e) ∙ held in cc
      each (Some t) e = inner t e (version_object t) refl

  version_text_stays : (name : Name) (text : List ℕ) → version_text_at old name ≡ Some text → version_text_at new name ≡ Some text
  version_text_stays name text held = each (commit_at old name) refl
    where
      each : (o : Option Commit) → commit_at old name ≡ o → version_text_at new name ≡ Some text
      each None e = let no : None ≡ Some text = sym (ap (option_and_then (λ (c : Commit). text_in old c.tree)) e) ∙ held in cc
      each (Some c) e =
          ap (option_and_then (λ (c : Commit). text_in new c.tree)) (stays old new grew as_commit name c e)
          ∙ text_in_stays c.tree text (sym (ap (option_and_then (λ (c : Commit). text_in old c.tree)) e) ∙ held)

  HasVersion_stays : (name : Name) (version : Version) → HasVersion old name version → HasVersion new name version
  HasVersion_stays name version has = each (version_text_at old name) refl
    where
      each : (o : Option (List ℕ)) → version_text_at old name ≡ o → HasVersion new name version
      each None e = let no : None ≡ Some version = sym (ap (option_and_then version_of) e) ∙ has.is in cc
      each (Some text) e = record {
        is = ap (option_and_then version_of) (version_text_stays name text e) ∙ (sym (ap (option_and_then version_of) e) ∙ has.is);
        no_keys = has.no_keys;
      }

-- the one item of a list
only_one : (link other : Link) → Contains (link ∷ []) other → link ≡ other
only_one link other (zero, lt, e) = e
only_one link other (suc k, lt, e) = absurd (omega (arith, lt))

-- ---- a commit over a head

module _ (objects : Objects) (head : Name) (link : Link) (is : IsLink objects link (head ∷ [])) where
  Chain_over : (above : List Link) (name : Name) → Chain objects head above name → Chain objects link.name (above ++ link ∷ []) name
  Chain_over [] name chain = (refl, subst (λ (n : Name). IsLink objects link (n ∷ [])) (sym chain) is)
  Chain_over (m ∷ above) name chain = (Chain_over above m.name chain.0, chain.1)

  Walked_over : (walk : List Link) → Walked objects head walk → Walked objects link.name (walk ++ link ∷ [])
  Walked_over [] walked = absurd walked
  Walked_over (root ∷ above) walked = (Chain_over above root.name walked.0, walked.1)

-- ---- the chain of a new version

-- what a new version's commit holds
module _ (objects : Objects) (text : List ℕ) (parent : Option Name) (now : ℕ) (made : Made) (version : Version)
    (holds : HoldsVersion objects text parent now made) (reads : version_of text ≡ Some version) (no_keys : version.has_keys ≡ false) where
  abbrev new_commit : Commit
  new_commit = version_commit (object_name (tree_object text)) parent now

  abbrev new_link : Link
  new_link = record { name = made.head; tree = object_name (tree_object text) }

  new_is : (parents : List Name) → new_commit.parents ≡ parents → IsLink objects new_link parents
  new_is parents has = record { commit = new_commit; held = ap (option_and_then as_commit) holds.commit; tree = refl; parents = sym has }

  new_text : version_text_at objects made.head ≡ Some text
  new_text =
      ap (option_and_then (λ (c : Commit). text_in objects c.tree)) (ap (option_and_then as_commit) holds.commit)
      ∙ ap (λ (o : Option Object). option_and_then (blob_at objects) (option_and_then version_object (option_and_then as_tree o))) holds.tree
      ∙ ap (option_and_then as_blob) holds.blob

  new_has : HasVersion objects made.head version
  new_has = record { is = ap (option_and_then version_of) new_text ∙ reads; no_keys = no_keys }

  -- the version begins a chain
  longer_first : parent ≡ None → made.id ≡ version_id text → IsLonger objects made.id [] made.head version
  unfolding new_is
  longer_first none id_is = record {
    chain = record {
      walk = new_link ∷ [];
      walked = (refl, is);
      within = omega arith;
      each = at_name;
      text = text;
      begins = record {
        root = made.head;
        commit = new_commit;
        meets = record { meets = record { above = []; chain = refl; near = omega arith }; held = is.held };
        no_parents = sym is.parents;
        holds = new_text;
        version = version;
        reads = reads;
      };
      is_id = sym id_is;
    };
    tree = object_name (tree_object text);
    longer = refl;
    shows = record { version = version; has = new_has; is = refl };
  }
    where
      is : IsLink objects new_link []
      is = new_is [] (ap option_to_list none)

      at_name : (name : Name) → Meets objects made.head name → (v : Version) × HasVersion objects name v
      at_name name meets =
          let passes = walk_passes objects made.head name (new_link ∷ []) (refl, is) meets in
          let same : new_link ≡ passes.link = only_one new_link passes.link passes.at in
          (version, subst (λ (n : Name). HasVersion objects n version) (ap (λ (m : Link). m.name) same ∙ passes.is) new_has)

-- the version goes on with a chain
module _ (old new : Objects) (grew : OnlyGrew old new) (text : List ℕ) (head : Name) (now : ℕ) (made : Made) (version : Version)
    (holds : HoldsVersion new text (Some head) now made) (reads : version_of text ≡ Some version) (no_keys : version.has_keys ≡ false)
    (id : Id) (chain : IsChain old id head) (room : length chain.walk < 65536) where
  abbrev last : Link
  last = record { name = made.head; tree = object_name (tree_object text) }

  abbrev whole : List Link
  whole = chain.walk ++ last ∷ []

  last_is : IsLink new last (head ∷ [])
  last_is = new_is new text (Some head) now made version holds reads no_keys (head ∷ []) refl

  last_has : HasVersion new made.head version
  last_has = new_has new text (Some head) now made version holds reads no_keys

  walked : Walked new made.head whole
  walked = Walked_over new head last last_is chain.walk (Walked_stays old new grew head chain.walk chain.walked)

  within : length whole ≤ 65536
  within = omega (arith, room, length-append chain.walk (last ∷ []))

  at_name : (name : Name) → Meets new made.head name → (v : Version) × HasVersion new name v
  at_name name meets =
      let passes = walk_passes new made.head name whole walked meets in
      elim (Contains-push_cases chain.walk last passes.link passes.at) [
        | inl below ↦
            let at = met_at old head chain.walk passes.link chain.walked chain.within below in
            let has = chain.each passes.link.name at.0 in
            (has.0, subst (λ (n : Name). HasVersion new n has.0) passes.is (HasVersion_stays old new grew passes.link.name has.0 has.1))
        | inr same ↦ (version, subst (λ (n : Name). HasVersion new n version) (ap (λ (m : Link). m.name) same ∙ passes.is) last_has)
      ]

  -- the chain begins where it began
  root_meets : (walk : List Link) → Walked old head walk → Walked new made.head (walk ++ last ∷ []) → length (walk ++ last ∷ []) ≤ 65536 → Meets new made.head chain.begins.root
  root_meets [] before after near = absurd before
  root_meets (root ∷ above) before after near =
      subst (Meets new made.head) (root_is old head chain.begins.root chain.begins.commit root above before chain.begins.meets chain.begins.no_parents)
      (meets_first new made.head root (above ++ last ∷ []) (Linked-walked new made.head (root ∷ above ++ last ∷ []) after) (omega (arith, near)))

  begins : BeginsWith new made.head chain.text
  begins = record {
    root = chain.begins.root;
    commit = chain.begins.commit;
    meets = record {
      meets = root_meets chain.walk chain.walked walked within;
      held = stays old new grew as_commit chain.begins.root chain.begins.commit chain.begins.meets.held;
    };
    no_parents = chain.begins.no_parents;
    holds = version_text_stays old new grew chain.begins.root chain.text chain.begins.holds;
    version = chain.begins.version;
    reads = chain.begins.reads;
  }

  longer_later : IsLonger new id chain.walk made.head version
  longer_later = record {
    chain = record { walk = whole; walked = walked; within = within; each = at_name; text = chain.text; begins = begins; is_id = chain.is_id };
    tree = object_name (tree_object text);
    longer = refl;
    shows = record { version = version; has = last_has; is = refl };
  }

-- in both cases
pub extends : (old new : Objects) (parent : Option Name) (text : List ℕ) (now : ℕ) (made : Made) (version : Version) → OnlyGrew old new → made ≡ made_of text parent now
    → HoldsVersion new text parent now made → version_of text ≡ Some version → version.has_keys ≡ false → Extends old new parent version made
extends old new None text now made version grew is holds reads no_keys = longer_first new text None now made version holds reads no_keys refl (ap (λ (m : Made). m.id) is)
extends old new (Some head) text now made version grew is holds reads no_keys =
    λ id chain room. longer_later old new grew text head now made version holds reads no_keys id chain room

-- ---- a chain stays one

-- a chain stays while objects are only added
pub chain_stays : (old new : Objects) → OnlyGrew old new → (id : Id) (head : Name) → (chain : IsChain old id head) → (later : IsChain new id head) × (later.walk ≡ chain.walk)
chain_stays old new grew id head chain = (
  record {
    walk = chain.walk;
    walked = walked;
    within = chain.within;
    each = at_name;
    text = chain.text;
    begins = record {
      root = chain.begins.root;
      commit = chain.begins.commit;
      meets = record { meets = record { above = first.above; chain = Chain_stays old new grew head first.above chain.begins.root first.chain; near = first.near }; held = stays old new grew as_commit chain.begins.root chain.begins.commit chain.begins.meets.held };
      no_parents = chain.begins.no_parents;
      holds = version_text_stays old new grew chain.begins.root chain.text chain.begins.holds;
      version = chain.begins.version;
      reads = chain.begins.reads;
    };
    is_id = chain.is_id;
  },
  refl,
)
  where
    first : Meets old head chain.begins.root
    first = chain.begins.meets.meets

    walked : Walked new head chain.walk
    walked = Walked_stays old new grew head chain.walk chain.walked

    at_name : (name : Name) → Meets new head name → (v : Version) × HasVersion new name v
    at_name name meets =
        let passes = walk_passes new head name chain.walk walked meets in
        let at = met_at old head chain.walk passes.link chain.walked chain.within passes.at in
        let has = chain.each passes.link.name at.0 in
        (has.0, subst (λ (n : Name). HasVersion new n has.0) passes.is (HasVersion_stays old new grew passes.link.name has.0 has.1))

-- so does the person that a head shows
pub person_stays : (old new : Objects) → OnlyGrew old new → (id : Id) (head : Name) (person : Person) → Shows old id head person → Shows new id head person
person_stays old new grew id head person shows = record { version = shows.version; has = HasVersion_stays old new grew head shows.version shows.has; is = shows.is }
