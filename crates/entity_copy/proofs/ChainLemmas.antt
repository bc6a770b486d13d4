-- What the chain of an identity needs, of a head that was copied.
use Rattle.std.proofs.Common.{◌≡◌, inl, inr, true, false, [], ◌∷◌, Contains, Option, Some, None, refl, sym, ◌∙◌, ap}
use Rattle.std.specs.Prelude.{codes, find}
use Rattle.std.specs.Option.{option_map}
use Rattle.std.specs.Str.{bytes_eq}
use Rattle.std.proofs.lemmas.Bool.{and_parts}
use Rattle.std.proofs.lemmas.Option.{same_Some}
use Rattle.gb_text.specs.declared.id.Name.{Name}
use Rattle.git_object.specs.declared.entry.Entry.{Entry}
use Rattle.git_object.specs.declared.entry.Mode.{Mode}
use Rattle.git_object.specs.declared.entry.Mode.TheVariants as mode
use Rattle.git_object.specs.declared.frame.Kind.TheVariants as kinds
use Rattle.git_object.specs.declared.tree.Tree.{Tree}
use Rattle.object_store.specs.Held.{Objects}
use Rattle.object_store.specs.Typed.{tree_at}
use Rattle.object_store.proofs.GrowthLemmas.{bind-some}
use Rattle.object_batch.specs.Needs.{kind_named}
use Rattle.object_batch.proofs.ClashLemmas.{find-some}
use Rattle.commit_walk.specs.Below.{IsBelow}
use Rattle.commit_walk.specs.Chain.{Meets}
use Rattle.commit_walk.proofs.ChainLemmas.{chain_below}
use Rattle.identity.specs.Agreeing.{SameChain}
use Rattle.identity.specs.Commits.{Needs, TreeNeeds, is_file, is_version_entry, version_object}
use Rattle.remote_copy.specs.Closure.{IsFollowed, commit_named}
use Rattle.remote_copy.specs.Copies.{IsCopied}
use Rattle.entity_copy.proofs.NeededLemmas.{alike_same, as_kind, below_followed, file_followed, tree_followed}

-- a file is named as a blob
file_kind : (m : Mode) → is_file m ≡ true → kind_named m ≡ Some kinds.Blob
file_kind mode.Plain e = refl
file_kind mode.Exec e = refl
file_kind mode.Link e = absurd (cc)
file_kind mode.Folder e = absurd (cc)
file_kind mode.Module e = absurd (cc)

-- the entry that names the version is a file
version_entry : (tree : Tree) (name : Name) → version_object tree ≡ Some name → (one : Entry) × Contains tree.entries one × (one.object ≡ name) × (kind_named one.mode ≡ Some kinds.Blob)
version_entry tree name named = by (find is_version_entry tree.entries) refl
  where
    by : (o : Option Entry) → find is_version_entry tree.entries ≡ o → (one : Entry) × Contains tree.entries one × (one.object ≡ name) × (kind_named one.mode ≡ Some kinds.Blob)
    by None e = absurd (cc (sym (ap (option_map (λ (it : Entry). it.object)) e) ∙ named))
    by (Some one) e =
        let is = find-some is_version_entry tree.entries one e in
        let object : one.object ≡ name = same_Some one.object name (sym (ap (option_map (λ (it : Entry). it.object)) e) ∙ named) in
        (one, is.0, object, file_kind one.mode (and_parts (bytes_eq one.name (codes "version")) (is_file one.mode) is.1).1)

module _ (source entry target : Objects) (top : Name) (copied : IsCopied false source entry target top) where
  module _ (met : Name) (m : Meets source top met) where
    below : IsBelow source (top ∷ []) met
    below = chain_below source top m.above met m.chain

    same_needs : (name : Name) → Needs source met name → target name ≡ source name
    same_needs name (inl e) = ap target e ∙ alike_same source entry target top copied (commit_named met) (copied (commit_named met) (below_followed source entry target top copied met below)) ∙ ap source (sym e)
    same_needs name (inr n) = at n.2
      where
        up : IsFollowed false source entry top (as_kind kinds.Tree n.0.tree)
        up = tree_followed source entry target top copied met n.0 below n.1

        at : TreeNeeds source n.0.tree name → target name ≡ source name
        at (inl e) = ap target e ∙ alike_same source entry target top copied (as_kind kinds.Tree n.0.tree) (copied (as_kind kinds.Tree n.0.tree) up) ∙ ap source (sym e)
        at (inr named) =
            let found = bind-some version_object (tree_at source n.0.tree) name named in
            let one = version_entry found.0 name found.2 in
            let followed : IsFollowed false source entry top (as_kind kinds.Blob one.0.object) = file_followed source entry target top copied n.0.tree found.0 one.0 up found.1 one.1 one.3 in
            ap target (sym one.2) ∙ alike_same source entry target top copied (as_kind kinds.Blob one.0.object) (copied (as_kind kinds.Blob one.0.object) followed) ∙ ap source one.2

  pub same_chain : SameChain source target top
  same_chain = record { same = λ met name m n. same_needs met m name n }
