-- Where the trees of few commits are flat and small, a copy breaks no limit.
use Rattle.std.proofs.Common.{◌≡◌, ◌≢◌, ◌⊎◌, inl, inr, refl, sym, ◌∙◌, ap, subst, arith, Bool, ℕ, ◌≤◌, ◌<◌, ◌*◌, List, [], ◌∷◌, ◌++◌, length, map, All, Contains, Option, None, Some, option_and_then, length-append}
use Rattle.std.specs.List.{flat_map}
use Rattle.std.specs.Str.{bytes_eq}
use Rattle.std.proofs.lemmas.Bool.{cases_Bool, cases_lt}
use Rattle.std.proofs.lemmas.List.{length-map}
use Rattle.std.proofs.lemmas.List.Elements.{All-contains, Contains-append_left, Contains-append_right, Contains-push, Contains-push_cases}
use Rattle.std.proofs.lemmas.Option.{same_Some}
use Rattle.std.proofs.lemmas.Slice.Eq.{bytes_eq-Decides}
use Rattle.gb_text.specs.declared.id.Name.{Name}
use Rattle.git_object.specs.declared.commit.Commit.{Commit}
use Rattle.git_object.specs.declared.entry.Entry.{Entry}
use Rattle.git_object.specs.declared.frame.Kind.{Kind}
use Rattle.git_object.specs.declared.frame.Kind.TheVariants as kinds
use Rattle.git_object.specs.declared.object.Object.{Object}
use Rattle.git_object.specs.declared.object.Object.TheVariants as object
use Rattle.git_object.specs.declared.tree.Tree.{Tree}
use Rattle.git_object.specs.Grammar.{kind_of}
use Rattle.object_store.specs.Held.{Objects, object_at}
use Rattle.object_store.specs.Typed.{as_commit, as_tree, commit_at, tree_at}
use Rattle.object_batch.specs.Needs.{Leads, Names, Reference, kind_named}
use Rattle.commit_walk.specs.Below.{IsBelow}
use Rattle.commit_walk.specs.Distinct.{AreDistinct}
use Rattle.commit_walk.specs.declared.below.TheConstants.{MOST_COMMITS}
use Rattle.commit_walk.proofs.DistinctLemmas.{AreDistinct-nil, AreDistinct-push, Contains-cons, Contains-first, Contains-later, Contains-map, Contains-nil, length-distinct}
use Rattle.remote_copy.specs.Causes.{AreTooMany, IsOther, IsTooDeep}
use Rattle.remote_copy.specs.Closure.{IsFollowed, commit_named, first, next}
use Rattle.remote_copy.specs.declared.open.TheConstants.{MOST_TREES}
use Rattle.remote_copy.specs.declared.work.TheConstants.{MOST_OTHERS}
use Rattle.copy_limits.specs.Commits.{HasFewCommits}
use Rattle.copy_limits.specs.Flat.{HasFlatTree, HasFlatTrees}
use Rattle.copy_limits.proofs.NamedLemmas.{followed_below}

-- ---- lists

-- what an element gives is among what all give
Contains-flat_map : {X Y : Type 0} (f : X → List Y) (xs : List X) (x : X) (y : Y) → Contains xs x → Contains (f x) y → Contains (flat_map f xs) y
Contains-flat_map f [] x y c at = absurd (Contains-nil x c)
Contains-flat_map f (z ∷ xs) x y c at = elim (Contains-cons z xs x c) [
  | inl e ↦ Contains-append_left (f z) (flat_map f xs) y (subst (λ w. Contains (f w) y) (sym e) at)
  | inr later ↦ Contains-append_right (f z) (flat_map f xs) y (Contains-flat_map f xs x y later at)
]

-- where each gives at most so many, all give at most so many times as many
length-flat : {X Y : Type 0} (f : X → List Y) (xs : List X) → ((x : X) → Contains xs x → length (f x) ≤ 16) → length (flat_map f xs) ≤ 16 * length xs
length-flat f [] few = omega arith
length-flat f (x ∷ xs) few =
    let one = few x (Contains-first x xs) in
    let rest = length-flat f xs (λ z c. few z (Contains-later x xs z c)) in
    omega (arith, one, rest, length-append (f x) (flat_map f xs))

-- a name is in a list or not
among : (names : List Name) (name : Name) → Contains names name ⊎ (Contains names name → ⊥)
among [] name = inr (Contains-nil name)
among (one ∷ names) name = elim (cases_Bool (bytes_eq one.bytes name.bytes)) [
  | inl same ↦
      let is : one ≡ name = ap (λ (bytes : List ℕ). record { bytes = bytes }) ((bytes_eq-Decides one.bytes name.bytes).0 same) in
      inl (subst (Contains (one ∷ names)) is (Contains-first one names))
  | inr differ ↦ elim (among names name) [
    | inl later ↦ inl (Contains-later one names name later)
    | inr none ↦ inr (λ c. elim (Contains-cons one names name c) [
      | inl is ↦ (let same = (bytes_eq-Decides one.bytes name.bytes).1 (ap (λ (n : Name). n.bytes) is) in cc (differ, same))
      | inr later ↦ none later
    ])
  ]
]

-- ---- what commits with flat trees name

-- the kind by which an entry names an object, or some other kind than that of trees
kind_or_blob : Option Kind → Kind
kind_or_blob None = kinds.Blob
kind_or_blob (Some kind) = kind

named_by : Entry → Reference
named_by entry = record { name = entry.object; kind = kind_or_blob (kind_named entry.mode) }

named_in : Option Tree → List Reference
named_in None = []
named_in (Some tree) = map named_by tree.entries

-- the tree of a commit, and what that names
others_in : Objects → Option Commit → List Reference
others_in objects None = []
others_in objects (Some commit) = record { name = commit.tree; kind = kinds.Tree } ∷ named_in (tree_at objects commit.tree)

others_of : Objects → Name → List Reference
others_of objects name = others_in objects (commit_at objects name)

module _ (objects : Objects) (name : Name) (flat : HasFlatTree objects name) where
  others_are : others_of objects name ≡ record { name = flat.commit.tree; kind = kinds.Tree } ∷ map named_by flat.tree.entries
  unfolding others_of others_in named_in
  others_are = ap (others_in objects) flat.held ∙ ap (λ (o : Option Tree). record { name = flat.commit.tree; kind = kinds.Tree } ∷ named_in o) flat.is_tree

  -- they are at most 16
  others_few : length (others_of objects name) ≤ 16
  others_few = omega (arith, ap length others_are, flat.is.few, length-map flat.tree.entries named_by)

  has_tree : Contains (others_of objects name) (record { name = flat.commit.tree; kind = kinds.Tree })
  has_tree = subst (λ (l : List Reference). Contains l (record { name = flat.commit.tree; kind = kinds.Tree })) (sym others_are) (Contains-first (record { name = flat.commit.tree; kind = kinds.Tree }) (map named_by flat.tree.entries))

  has_entry : (entry : Entry) → Contains flat.tree.entries entry → Contains (others_of objects name) (named_by entry)
  has_entry entry c =
      subst (λ (l : List Reference). Contains l (named_by entry)) (sym others_are)
      (Contains-later (record { name = flat.commit.tree; kind = kinds.Tree }) (map named_by flat.tree.entries) (named_by entry) (Contains-map named_by flat.tree.entries entry c))

module _ (closed : Bool) (source target : Objects) (top : Name) (flat : HasFlatTrees source top) where
  -- an object is the tree of a commit below the head, or an entry of that tree names it
  data IsOf (one : Reference) : Type 0 where
    the_tree : (name : Name) (below : IsBelow source (top ∷ []) name) → one ≡ record { name = (flat name below).commit.tree; kind = kinds.Tree } → IsOf one
    an_entry : (name : Name) (below : IsBelow source (top ∷ []) name) (entry : Entry) → Contains (flat name below).tree.entries entry
        → entry.object ≡ one.name → kind_named entry.mode ≡ Some one.kind → IsOf one

  same_reference : (one two : Reference) → one.name ≡ two.name → one.kind ≡ two.kind → one ≡ two
  same_reference one two names kind = grind (arith, names, kind)

  -- what an object of the part names is, where it is no commit
  named_of : (high low : Reference) → IsFollowed closed source target top high → (high.kind ≢ kinds.Commit → IsOf high)
      → (o : Object) → object_at source high.name ≡ Some o → kind_of o ≡ high.kind → Names o low.name low.kind → low.kind ≢ kinds.Commit → IsOf low
  named_of high low f before (object.Blob content) is kind none other = absurd none
  named_of high low f before (object.Commit commit) is kind (inr up) other = absurd (other up.1)
  named_of high low f before (object.Commit commit) is kind (inl tree) other =
      let below = followed_below closed source target top high f (sym kind) in
      let here = flat high.name below in
      let same : commit ≡ here.commit = same_Some commit here.commit (sym (ap (option_and_then as_commit) is) ∙ here.held) in
      the_tree high.name below (same_reference low (record { name = here.commit.tree; kind = kinds.Tree }) (sym tree.0 ∙ ap (λ (c : Commit). c.tree) same) tree.1)
  named_of high low f before (object.Tree tree) is kind (entry, has, at, named) other = by (before (λ e. let no : kinds.Tree ≡ kinds.Commit = kind ∙ e in cc no))
    where
      by : IsOf high → IsOf low
      by (the_tree name below same) =
          let here = flat name below in
          let read : tree_at source here.commit.tree ≡ Some tree = ap (λ (r : Reference). tree_at source r.name) (sym same) ∙ ap (option_and_then as_tree) is in
          let trees : tree ≡ here.tree = same_Some tree here.tree (sym read ∙ here.is_tree) in
          an_entry name below entry (subst (λ (t : Tree). Contains t.entries entry) trees has) at named
      by (an_entry name below up on place names) = absurd ((flat name below).is.flat up on (names ∙ ap Some (sym kind)))

  followed_of : (one : Reference) → IsFollowed closed source target top one → one.kind ≢ kinds.Commit → IsOf one
  followed_of one (first same unleft) other = absurd (other (ap (λ (r : Reference). r.kind) same))
  followed_of one (next {high = high} f step unleft) other =
      named_of high one f (followed_of high f) step.object step.is step.is_kind step.names other

  -- so some commit below the head has it among its others
  record HasAmong (names : List Name) (one : Reference) : Type 0 where
    pub name : Name
    pub in_list : Contains names name
    pub has : Contains (others_of source name) one

  record IsBelowOf (one : Reference) : Type 0 where
    pub name : Name
    pub below : IsBelow source (top ∷ []) name
    pub has : Contains (others_of source name) one

  below_of : (one : Reference) → IsOf one → IsBelowOf one
  unfolding named_by kind_or_blob
  below_of one (the_tree name below same) = record { name = name; below = below; has = subst (Contains (others_of source name)) (sym same) (has_tree source name (flat name below)) }
  below_of one (an_entry name below entry up at named) = record {
    name = name;
    below = below;
    has = subst (Contains (others_of source name)) (same_reference (named_by entry) one at (ap kind_or_blob named)) (has_entry source name (flat name below) entry up);
  }

  -- the commits of some objects, each once
  record Commits (them : List Reference) : Type 0 where
    pub names : List Name
    pub once : AreDistinct names
    pub each : (name : Name) → Contains names name → IsBelow source (top ∷ []) name
    pub all : (one : Reference) → Contains them one → HasAmong names one

  -- those of one object more
  module _ (one : Reference) (them : List Reference) (mine : IsBelowOf one) (rest : Commits them) where
    wider : (names : List Name) → ((name : Name) → Contains rest.names name → Contains names name) → Contains names mine.name → (other : Reference) → Contains (one ∷ them) other → HasAmong names other
    wider names more here other c = elim (Contains-cons one them other c) [
      | inl same ↦ record { name = mine.name; in_list = here; has = subst (Contains (others_of source mine.name)) same mine.has }
      | inr later ↦ (let before = rest.all other later in record { name = before.name; in_list = more before.name before.in_list; has = before.has })
    ]

    commits_more : Contains rest.names mine.name ⊎ (Contains rest.names mine.name → ⊥) → Commits (one ∷ them)
    commits_more (inl here) = record { names = rest.names; once = rest.once; each = rest.each; all = wider rest.names (λ name c. c) here }
    commits_more (inr none) = record {
      names = rest.names ++ mine.name ∷ [];
      once = AreDistinct-push rest.names mine.name rest.once none;
      each = λ name c. elim (Contains-push_cases rest.names mine.name name c) [ inl before ↦ rest.each name before | inr same ↦ subst (IsBelow source (top ∷ [])) same mine.below ];
      all = wider (rest.names ++ mine.name ∷ []) (λ name c. Contains-append_left rest.names (mine.name ∷ []) name c) (Contains-push rest.names mine.name);
    }

  commits_of : (them : List Reference) → ((one : Reference) → Contains them one → IsBelowOf one) → Commits them
  commits_of [] of = record { names = []; once = AreDistinct-nil; each = λ name c. absurd (Contains-nil name c); all = λ one c. absurd (Contains-nil one c) }
  commits_of (one ∷ them) of =
      let rest = commits_of them (λ other c. of other (Contains-later one them other c)) in
      let mine = of one (Contains-first one them) in
      commits_more one them mine rest (among rest.names mine.name)

  module _ (few : HasFewCommits source top) where
    -- commits below the head are few
    names_few : (names : List Name) → AreDistinct names → ((name : Name) → Contains names name → IsBelow source (top ∷ []) name) → length names ≤ MOST_COMMITS
    names_few names once each = elim (cases_lt MOST_COMMITS (length names)) [
      | inl many ↦ absurd (few (record {
        names = names;
        once = once;
        many = many;
        each = λ name c. (let below = each name c in record { below = below; commit = (flat name below).commit; held = (flat name below).held });
      }))
      | inr within ↦ within
    ]

    -- so the objects that are no commits are not too many
    pub not_others : AreTooMany closed source target top IsOther MOST_OTHERS → ⊥
    not_others many =
        let commits = commits_of many.them (λ one c. let is = many.each one c in below_of one (followed_of one is.0 is.2)) in
        let all = flat_map (others_of source) commits.names in
        let within = names_few commits.names commits.once commits.each in
        let fewer = length-distinct many.them all many.once (λ one c. let has = commits.all one c in Contains-flat_map (others_of source) commits.names has.name one has.in_list has.has) in
        let most = length-flat (others_of source) commits.names (λ name c. others_few source name (flat name (commits.each name c))) in
        let limit : MOST_OTHERS ≡ 16 * MOST_COMMITS = refl in
        omega (arith, within, fewer, most, limit, many.many)

  -- no tree of the part names a tree
  no_step : (high low : Reference) → IsOf high → high.kind ≡ kinds.Tree → (o : Object) → object_at source high.name ≡ Some o → kind_of o ≡ high.kind → Names o low.name low.kind → low.kind ≡ kinds.Tree → ⊥
  no_step high low (an_entry name below up on place named) tree o is kind names lower = (flat name below).is.flat up on (named ∙ ap Some tree)
  no_step high low (the_tree name below same) tree (object.Blob content) is kind none lower = none
  no_step high low (the_tree name below same) tree (object.Commit commit) is kind names lower = let no : kinds.Commit ≡ kinds.Tree = kind ∙ tree in cc no
  no_step high low (the_tree name below same) tree (object.Tree held) is kind (entry, has, at, named) lower =
      let here = flat name below in
      let read : tree_at source here.commit.tree ≡ Some held = ap (λ (r : Reference). tree_at source r.name) (sym same) ∙ ap (option_and_then as_tree) is in
      let trees : held ≡ here.tree = same_Some held here.tree (sym read ∙ here.is_tree) in
      here.is.flat entry (subst (λ (t : Tree). Contains t.entries entry) trees has) (named ∙ ap Some lower)

  -- so none lies below another
  pub not_deep : IsTooDeep closed source target top → ⊥
  not_deep deep = by deep.path deep.leads deep.trees deep.deep
    where
      tree_of : IsOf deep.tree
      tree_of = named_of (commit_named deep.commit) deep.tree deep.followed (λ other. absurd (other refl)) deep.names.object deep.names.is deep.names.is_kind deep.names.names
          (λ e. let no : kinds.Tree ≡ kinds.Commit = sym deep.is_tree ∙ e in cc no)

      by : (path : List Reference) → Leads source deep.tree path deep.last → All (λ (one : Reference). one.kind ≡ kinds.Tree) path → MOST_TREES < length path → ⊥
      by [] leads trees long = omega (arith, long)
      by (low ∷ path) (step, later) trees long =
          no_step deep.tree low tree_of deep.is_tree step.object step.is step.is_kind step.names (All-contains (λ (one : Reference). one.kind ≡ kinds.Tree) (low ∷ path) low trees (Contains-first low path))
