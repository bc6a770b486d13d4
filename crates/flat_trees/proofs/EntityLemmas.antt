-- The entities of sound folders whose trees are flat are flat, and nothing keeps them from being copied.
use Rattle.std.proofs.Common.{◌≡◌, inl, inr, refl, ◌∙◌, ap, subst, ℕ, Bool, List, [], ◌∷◌, Contains, Some}
use Rattle.std.proofs.lemmas.Option.{same_Some}
use Rattle.gb_text.specs.Digits.{IsId}
use Rattle.gb_text.specs.declared.id.Id.{Id}
use Rattle.gb_text.specs.declared.id.Name.{Name}
use Rattle.gb_store.specs.Files.{Files, History, files_of}
use Rattle.git_object.specs.declared.commit.Commit.{Commit}
use Rattle.git_object.specs.declared.frame.Kind.TheVariants as kinds
use Rattle.git_object.specs.declared.object.Object.{Object}
use Rattle.git_object.specs.declared.object.Object.TheVariants as object
use Rattle.object_store.specs.Held.{Objects, object_at, objects_after, objects_in}
use Rattle.object_store.specs.Typed.{as_commit, commit_at}
use Rattle.object_store.proofs.GrowthLemmas.{bind-some}
use Rattle.object_batch.specs.Needs.{IsHeldAs, IsWhole}
use Rattle.object_batch.proofs.LeadLemmas.{held_commit, held_tree}
use Rattle.commit_walk.specs.Below.{IsBelow, head, parent}
use Rattle.commit_walk.proofs.DistinctLemmas.{Contains-one}
use Rattle.ref_store.specs.Refs.{Head}
use Rattle.remote_copy.specs.Causes.{CauseHolds}
use Rattle.remote_copy.specs.declared.fault.CopyFault.{CopyFault}
use Rattle.repo_state.specs.Sides.{head_at}
use Rattle.repo_state.specs.Sound.{IsSound}
use Rattle.repo_state.specs.Sound as parts
use Rattle.sync_steps.specs.Places.{local_side}
use Rattle.sync_steps.specs.declared.line.EntityWord.{EntityWord}
use Rattle.bug_run.specs.Runs.{AreAllSound, AreApart}
use Rattle.bug_run.proofs.RunsLemmas.{runs_from_nothing}
use Rattle.copy_limits.specs.Flat.{HasFlatEntities, HasFlatTrees}
use Rattle.copy_limits.proofs.SoundLemmas.{sound_none}
use Rattle.full_exchanges.specs.Having.{HaveOneTextEach}
use Rattle.full_exchanges.proofs.HasLemmas.{head_held}
use Rattle.exchange_runs.specs.Takes.{RunsAmong}
use Rattle.exchange_runs.proofs.AmongLemmas.{are_runs}
use Rattle.flat_trees.specs.Flat.{AreTreesFlat}
use Rattle.flat_trees.proofs.RunLemmas.{runs_flat}

commit_is : (o : Object) (commit : Commit) → as_commit o ≡ Some commit → o ≡ object.Commit commit
commit_is (object.Blob content) commit e = absurd (cc e)
commit_is (object.Tree tree) commit e = absurd (cc e)
commit_is (object.Commit found) commit e = ap object.Commit (same_Some found commit e)

module _ (objects : Objects) (whole : IsWhole objects) (top : Name) (held : IsHeldAs objects top kinds.Commit) where
  commit_object : (name : Name) (commit : Commit) → commit_at objects name ≡ Some commit → object_at objects name ≡ Some (object.Commit commit)
  commit_object name commit e =
      let found = bind-some as_commit (object_at objects name) commit e in
      found.1 ∙ ap Some (commit_is found.0 commit found.2)

  -- what lies below a head that is held is held
  below_held : (name : Name) → IsBelow objects (top ∷ []) name → IsHeldAs objects name kinds.Commit
  below_held name (head c) = subst (λ (n : Name). IsHeldAs objects n kinds.Commit) (Contains-one top name c) held
  below_held name (parent {high = high} b p) = whole.needs high (object.Commit p.commit) (commit_object high p.commit p.held) name kinds.Commit (inr (p.names, refl))

  -- with its tree, which is flat
  flat_below : AreTreesFlat objects → HasFlatTrees objects top
  flat_below flat name below =
      let commit = held_commit objects name (below_held name below) in
      let tree = held_tree objects commit.0.tree (whole.needs name (object.Commit commit.0) (commit_object name commit.0 commit.1) commit.0.tree kinds.Tree (inl (refl, refl))) in
      record { commit = commit.0; held = commit.1; tree = tree.0; is_tree = tree.1; is = flat commit.0.tree tree.0 tree.1 }

pub entities_flat : (folder : List ℕ) (files : Files) → IsSound folder files → AreTreesFlat (objects_in files folder) → HasFlatEntities folder files
entities_flat folder files sound flat word id top is at =
    flat_below (objects_in files folder) (sound parts.Objects).whole top (head_held files folder (local_side word) id top sound is at) flat

-- ---- after any runs

module _ (folders : List (List ℕ)) (apart : AreApart folders) (new : History) (runs : RunsAmong folders [] new) where
  sound : AreAllSound folders (files_of new)
  sound = runs_from_nothing folders apart new (are_runs folders [] new runs)

  pub runs_entities : (folder : List ℕ) → Contains folders folder → HasFlatEntities folder (files_of new)
  runs_entities folder is = entities_flat folder (files_of new) (sound folder is) (runs_flat folders apart new runs folder is)

  pub runs_copied : HaveOneTextEach (files_of new) folders → (source target : List ℕ) → Contains folders source → Contains folders target → (closed : Bool) (word : EntityWord) (id : Id) (top : Name) (why : CopyFault)
      → IsId id → head_at (files_of new) source (local_side word) id ≡ Head top → CauseHolds closed (objects_after new source) (objects_after new target) top why → ⊥
  runs_copied one_text source target is also closed word id top why is_id at cause =
      sound_none source (files_of new) (sound source is) id is_id closed (objects_after new target) (sound target also parts.Objects)
      (λ name text other here there. one_text source target name text other is also here there) word top at (runs_entities source is word id top is_id at) why cause
