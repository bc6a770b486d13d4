-- The writes that keep the trees of folders flat: those that leave their objects, and those of texts of flat trees.
use Rattle.std.proofs.Common.{◌≡◌, ◌⊎◌, inl, inr, refl, sym, ◌∙◌, ap, subst, ℕ, Bool, true, false, cond, List, Contains, Option, Some, option_and_then}
use Rattle.std.specs.Str.{bytes_eq}
use Rattle.std.proofs.lemmas.Option.{same_Some}
use Rattle.gb_text.specs.Folder.{is_rooted, joined}
use Rattle.gb_text.specs.Overlap.{Overlap}
use Rattle.gb_text.specs.declared.id.Id.{Id}
use Rattle.gb_text.specs.declared.id.Name.{Name}
use Rattle.gb_store.specs.Files.{Files, written}
use Rattle.gb_store.specs.ObjectPath.{object_place}
use Rattle.gb_store.specs.declared.store.Change.{Change}
use Rattle.gb_store.proofs.FrameLemmas.{written-apart}
use Rattle.git_object.specs.declared.object.Object.{Object}
use Rattle.git_object.specs.declared.object.Object.TheVariants as object
use Rattle.git_object.specs.declared.tree.Tree.{Tree}
use Rattle.git_object.specs.Reading.{object_of}
use Rattle.object_store.specs.Held.{named, objects_in}
use Rattle.object_store.specs.Typed.{as_tree, tree_at}
use Rattle.object_store.proofs.GrowthLemmas.{bind-some}
use Rattle.object_store.proofs.HeldLemmas.{named-is}
use Rattle.ref_packing.specs.Kinds.{IsPackWrite}
use Rattle.ref_store.specs.Setting.{ref_write}
use Rattle.excerpt_cache.specs.Rows.{row_place, row_write}
use Rattle.repo_state.specs.Clocks.{clock_place, clock_write}
use Rattle.repo_state.specs.Sides.{ref_place}
use Rattle.repo_state.specs.Users.{user_place, user_write}
use Rattle.repo_state.specs.declared.clocks.ClockFile.{ClockFile}
use Rattle.repo_state.specs.declared.clocks.ClockFile.TheVariants as file
use Rattle.repo_state.specs.declared.side.Side.{Side}
use Rattle.repo_state.proofs.KindLemmas.{objects-clock_write, objects-ref_write, objects-row_write, objects-user_write}
use Rattle.repo_state.proofs.PlaceLemmas.{same_or_other}
use Rattle.repo_writes.proofs.PackLemmas.{pack-says_same, pack_apart}
use Rattle.sync_steps.proofs.WriteLemmas.{IsIn, ref_in}
use Rattle.bug_run.specs.Runs.{AreApart}
use Rattle.full_exchanges.proofs.HasLemmas.{same_objects}
use Rattle.flat_trees.specs.Flat.{AreAllFlat, AreTreesFlat}
use Rattle.flat_trees.proofs.TextLemmas.{IsFlatText}

-- ---- one write

-- the tree that a file is under a name, if it is one
abbrev tree_of_file : Name → Option (List ℕ) → Option Tree
tree_of_file name file = option_and_then as_tree (option_and_then object_of (option_and_then (named name) file))

tree_is : (o : Object) (tree : Tree) → as_tree o ≡ Some tree → o ≡ object.Tree tree
tree_is (object.Blob content) tree e = absurd (cc e)
tree_is (object.Commit commit) tree e = absurd (cc e)
tree_is (object.Tree found) tree e = ap object.Tree (same_Some found tree e)

-- a write is of the text of this tree
record IsTreeWrite (change : Change) (tree : Tree) : Type 0 where
  pub text : List ℕ
  pub bytes : change.bytes ≡ Some text
  pub reads : object_of text ≡ Some (object.Tree tree)

-- a tree that is held after a write was held before it, or the write is of its text
tree_after : (files : Files) (change : Change) (folder : List ℕ) (name : Name) (tree : Tree) → tree_at (objects_in (written files change) folder) name ≡ Some tree
    → (tree_at (objects_in files folder) name ≡ Some tree) ⊎ IsTreeWrite change tree
tree_after files change folder name tree is = by (bytes_eq change.path (joined folder (object_place name))) refl
  where
    by : (b : Bool) → bytes_eq change.path (joined folder (object_place name)) ≡ b → (tree_at (objects_in files folder) name ≡ Some tree) ⊎ IsTreeWrite change tree
    by true e =
        let here : tree_of_file name change.bytes ≡ Some tree = sym (ap (λ (b : Bool). tree_of_file name (cond b change.bytes (files (joined folder (object_place name))))) e) ∙ is in
        let held = bind-some as_tree (option_and_then object_of (option_and_then (named name) change.bytes)) tree here in
        let read = bind-some object_of (option_and_then (named name) change.bytes) held.0 held.1 in
        let found = bind-some (named name) change.bytes read.0 read.1 in
        let same = named-is name found.0 read.0 found.2 in
        inr (record { text = read.0; bytes = found.1 ∙ ap Some (sym same.0); reads = read.2 ∙ ap Some (tree_is held.0 tree held.2) })
    by false e = inl (sym (ap (λ (b : Bool). tree_of_file name (cond b change.bytes (files (joined folder (object_place name))))) e) ∙ is)

-- a write keeps the trees of these folders flat
abbrev pub KeepsFlat : List (List ℕ) → Files → Change → Type 0
KeepsFlat folders files change = AreAllFlat folders files → AreAllFlat folders (written files change)

module _ (folders : List (List ℕ)) where
  -- so does one of a text of flat trees, in whatever folder
  pub text_keeps : (files : Files) (change : Change) (text : List ℕ) → change.bytes ≡ Some text → (AreAllFlat folders files → IsFlatText text) → KeepsFlat folders files change
  text_keeps files change text is flat all folder among name tree held = elim (tree_after files change folder name tree held) [
    | inl before ↦ all folder among name tree before
    | inr wrote ↦ flat all tree (ap object_of (same_Some text wrote.text (sym is ∙ wrote.bytes)) ∙ wrote.reads)
  ]

  -- and one that leaves the objects of each
  pub leaves_all : (files : Files) (change : Change) → ((folder : List ℕ) → Contains folders folder → objects_in (written files change) folder ≡ objects_in files folder) → KeepsFlat folders files change
  leaves_all files change stays all folder among = subst AreTreesFlat (sym (stays folder among)) (all folder among)

  -- as one below a folder that overlaps none of them
  pub far_keeps : (place : List ℕ) → ((folder : List ℕ) → Contains folders folder → Overlap folder place → ⊥) → (files : Files) (change : Change) → IsIn place change → KeepsFlat folders files change
  far_keeps place far files change at =
      leaves_all files change (λ folder among i name. written-apart files change folder place at.0 (object_place name) at.2 at.1 refl (far folder among) i)

  pub far_pack_keeps : (place : List ℕ) → ((folder : List ℕ) → Contains folders folder → Overlap folder place → ⊥) → (files : Files) (change : Change) → IsPackWrite place files change → KeepsFlat folders files change
  far_pack_keeps place far files change may =
      leaves_all files change (λ folder among. same_objects folder files (written files change) (pack_apart folder place (far folder among) files change may))

-- ---- writes in one of the folders

-- the places of clocks do not begin with a slash
clock_plain : (which : ClockFile) → is_rooted (clock_place which) ≡ false
clock_plain file.BugsCreate = refl
clock_plain file.BugsEdit = refl

module _ (folders : List (List ℕ)) (apart : AreApart folders) (place : List ℕ) (is : Contains folders place) where
  -- the objects of each are left where those of the one are
  beside_keeps : (files : Files) (change : Change) → IsIn place change → objects_in (written files change) place ≡ objects_in files place → KeepsFlat folders files change
  beside_keeps files change at same = leaves_all folders files change each
    where
      each : (folder : List ℕ) → Contains folders folder → objects_in (written files change) folder ≡ objects_in files folder
      each folder among = elim (same_or_other folder place) [
        | inl one ↦ subst (λ (f : List ℕ). objects_in (written files change) f ≡ objects_in files f) (sym one) same
        | inr differ ↦
            same_objects folder files (written files change)
            (λ rest plain. written-apart files change folder place at.0 rest at.2 at.1 plain (λ overlap. differ (apart folder place among is overlap)))
      ]

  -- as by the write of a ref, a clock, the user or a row
  pub ref_keeps : (files : Files) (change : Change) (of : Side) (id : Id) (head : Name) → change ≡ ref_write place (ref_place of id) head → KeepsFlat folders files change
  ref_keeps files change of id head write =
      beside_keeps files change (ref_in place of id head change write) (ap (λ (c : Change). objects_in (written files c) place) write ∙ objects-ref_write files place of id head)

  pub clock_keeps : (files : Files) (change : Change) (which : ClockFile) (n : ℕ) → change ≡ clock_write place which n → KeepsFlat folders files change
  clock_keeps files change which n write =
      beside_keeps files change (clock_place which, clock_plain which, ap (λ (c : Change). c.path) write)
      (ap (λ (c : Change). objects_in (written files c) place) write ∙ objects-clock_write files place which n)

  pub user_keeps : (files : Files) (change : Change) (id : Id) → change ≡ user_write place id → KeepsFlat folders files change
  user_keeps files change id write =
      beside_keeps files change (user_place, refl, ap (λ (c : Change). c.path) write) (ap (λ (c : Change). objects_in (written files c) place) write ∙ objects-user_write files place id)

  pub row_keeps : (files : Files) (change : Change) (id : Id) (text : List ℕ) → change ≡ row_write place id text → KeepsFlat folders files change
  row_keeps files change id text write =
      beside_keeps files change (row_place id, refl, ap (λ (c : Change). c.path) write) (ap (λ (c : Change). objects_in (written files c) place) write ∙ objects-row_write files place id text)

  -- and by those of a pack
  pub pack_keeps : (files : Files) (change : Change) → IsPackWrite place files change → KeepsFlat folders files change
  pack_keeps files change may = leaves_all folders files change each
    where
      each : (folder : List ℕ) → Contains folders folder → objects_in (written files change) folder ≡ objects_in files folder
      each folder among = elim (same_or_other folder place) [
        | inl one ↦ subst (λ (f : List ℕ). objects_in (written files change) f ≡ objects_in files f) (sym one) (pack-says_same place files change may).objects
        | inr differ ↦ same_objects folder files (written files change) (pack_apart folder place (λ overlap. differ (apart folder place among is overlap)) files change may)
      ]
