-- What an object names, as a list and as a relation.
use Rattle.std.proofs.Common.{◌≡◌, inl, inr, ◌<◌, ◌+◌, ℕ, List, [], ◌∷◌, ◌++◌, length, take, get_or, map, Contains, Option, Some, None, sym, ◌∙◌, ap, subst, arith, append_assoc}
use Rattle.std.proofs.lemmas.List.{append-nil, map-append, take_more}
use Rattle.std.proofs.lemmas.List.Elements.{Contains-append_left, Contains-append_right, Contains-append_cases}
use Rattle.std.proofs.lemmas.Option.{same_Some}
use Rattle.gb_text.specs.declared.id.Name.{Name}
use Rattle.git_object.specs.declared.entry.Entry.{Entry}
use Rattle.git_object.specs.declared.frame.Kind.{Kind}
use Rattle.git_object.specs.declared.frame.Kind.TheVariants as kinds
use Rattle.git_object.specs.declared.object.Object.{Object}
use Rattle.git_object.specs.declared.object.Object.TheVariants as objects
use Rattle.object_batch.specs.Needs.{Names, kind_named}
use Rattle.commit_walk.proofs.DistinctLemmas.{Contains-nil, Contains-one, Contains-cons, Contains-first, Contains-later, Contains-map, Contains-from_map}
use Rattle.remote_copy.specs.Needs.{as_kind, commit_needs, entry_need, entry_needs, named_so, needs_of}
use Rattle.remote_copy.specs.declared.need.Need.{Need}

-- one entry more
entry_needs-push : (xs : List Entry) (x : Entry) → entry_needs (xs ++ x ∷ []) ≡ entry_needs xs ++ entry_need x
entry_needs-push [] x = append-nil (entry_need x)
entry_needs-push (y ∷ ys) x = ap (λ (l : List Need). entry_need y ++ l) (entry_needs-push ys x) ∙ sym (append_assoc (entry_need y) (entry_needs ys) (entry_need x))

pub entry_needs-more : (xs : List Entry) (i : ℕ) (d : Entry) (old new : List Need) → i < length xs → old ≡ entry_needs (take i xs) → new ≡ old ++ entry_need (get_or xs i d)
    → new ≡ entry_needs (take (i + 1) xs)
entry_needs-more xs i d old new within is more =
    more ∙ ap (λ (l : List Need). l ++ entry_need (get_or xs i d)) is ∙ sym (entry_needs-push (take i xs) (get_or xs i d)) ∙ ap entry_needs (sym (take_more xs i d within))

-- one parent more
pub commit_needs-more : (tree : Name) (xs : List Name) (i : ℕ) (d : Name) (old new : List Need) → i < length xs → old ≡ commit_needs tree (take i xs)
    → new ≡ old ++ as_kind kinds.Commit (get_or xs i d) ∷ [] → new ≡ commit_needs tree (take (i + 1) xs)
commit_needs-more tree xs i d old new within is more =
    more ∙ ap (λ (l : List Need). l ++ as_kind kinds.Commit (get_or xs i d) ∷ []) is
    ∙ ap (λ (l : List Need). as_kind kinds.Tree tree ∷ l) (sym (map-append (as_kind kinds.Commit) (take i xs) (get_or xs i d ∷ [])))
    ∙ ap (commit_needs tree) (sym (take_more xs i d within))

-- what an entry names, by the kind
in_named_so : (kind : Option Kind) (name : Name) (need : Need) → Contains (named_so kind name) need → (name ≡ need.name) × (kind ≡ Some need.kind)
in_named_so None name need c = absurd (Contains-nil need c)
in_named_so (Some kind) name need c =
    let is : as_kind kind name ≡ need = Contains-one (as_kind kind name) need c in
    (ap (λ (n : Need). n.name) is, ap (λ (n : Need). Some n.kind) is)

named_so-has : (kind : Option Kind) (need : Need) → kind ≡ Some need.kind → Contains (named_so kind need.name) need
named_so-has None need e = absurd (cc)
named_so-has (Some kind) need e =
    let is : kind ≡ need.kind = same_Some kind need.kind e in
    subst (λ (k : Kind). Contains (as_kind k need.name ∷ []) need) (sym is) (Contains-first need [])

in_entries : (entries : List Entry) (need : Need) → Contains (entry_needs entries) need → (entry : Entry) × Contains entries entry × (entry.object ≡ need.name) × (kind_named entry.mode ≡ Some need.kind)
in_entries [] need c = absurd (Contains-nil need c)
in_entries (entry ∷ entries) need c =
    elim (Contains-append_cases (entry_need entry) (entry_needs entries) need c) [
      | inl here ↦ let is = in_named_so (kind_named entry.mode) entry.object need here in (entry, Contains-first entry entries, is.0, is.1)
      | inr later ↦ let found = in_entries entries need later in (found.0, Contains-later entry entries found.0 found.1, found.2, found.3)
    ]

entries-have : (entries : List Entry) (entry : Entry) (need : Need) → Contains entries entry → entry.object ≡ need.name → kind_named entry.mode ≡ Some need.kind → Contains (entry_needs entries) need
entries-have [] entry need c named kind = absurd (Contains-nil entry c)
entries-have (first ∷ entries) entry need c named kind =
    elim (Contains-cons first entries entry c) [
      | inl e ↦
          let has : Contains (named_so (kind_named entry.mode) entry.object) need = subst (λ (n : Name). Contains (named_so (kind_named entry.mode) n) need) (sym named) (named_so-has (kind_named entry.mode) need kind) in
          Contains-append_left (entry_need first) (entry_needs entries) need (subst (λ (x : Entry). Contains (entry_need x) need) (sym e) has)
      | inr later ↦ Contains-append_right (entry_need first) (entry_needs entries) need (entries-have entries entry need later named kind)
    ]

-- what an object names is in its list
pub needs_of-has : (object : Object) (need : Need) → Names object need.name need.kind → Contains (needs_of object) need
needs_of-has (objects.Blob content) need names = absurd names
needs_of-has (objects.Tree tree) need (entry, member, named, kind) = entries-have tree.entries entry need member named kind
needs_of-has (objects.Commit commit) need (inl is) =
    let same : as_kind kinds.Tree commit.tree ≡ need = grind (arith, is.0, is.1) in
    subst (Contains (commit_needs commit.tree commit.parents)) same (Contains-first (as_kind kinds.Tree commit.tree) (map (as_kind kinds.Commit) commit.parents))
needs_of-has (objects.Commit commit) need (inr is) =
    let same : as_kind kinds.Commit need.name ≡ need = grind (arith, is.1) in
    Contains-later (as_kind kinds.Tree commit.tree) (map (as_kind kinds.Commit) commit.parents) need
    (subst (Contains (map (as_kind kinds.Commit) commit.parents)) same (Contains-map (as_kind kinds.Commit) commit.parents need.name is.0))

-- and the list has nothing else
pub needs_of-only : (object : Object) (need : Need) → Contains (needs_of object) need → Names object need.name need.kind
needs_of-only (objects.Blob content) need c = Contains-nil need c
needs_of-only (objects.Tree tree) need c = in_entries tree.entries need c
needs_of-only (objects.Commit commit) need c =
    elim (Contains-cons (as_kind kinds.Tree commit.tree) (map (as_kind kinds.Commit) commit.parents) need c) [
      | inl is ↦ inl (ap (λ (n : Need). n.name) is, sym (ap (λ (n : Need). n.kind) is))
      | inr later ↦
          let found = Contains-from_map (as_kind kinds.Commit) commit.parents need later in
          inr (subst (Contains commit.parents) (ap (λ (n : Need). n.name) found.2) found.1, sym (ap (λ (n : Need). n.kind) found.2))
    ]
