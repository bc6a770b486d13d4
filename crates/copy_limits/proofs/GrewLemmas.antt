-- The writes of an exchange only add objects.
use Rattle.std.proofs.Common.{inl, inr, sym, ◌∙◌, ap, subst, ℕ, List, [], ◌∷◌, ◌++◌, ◌≡◌}
use Rattle.gb_text.specs.declared.id.Id.{Id}
use Rattle.gb_text.specs.declared.id.Name.{Name}
use Rattle.gb_store.specs.Files.{Files, History, files_of, written}
use Rattle.gb_store.specs.Moments.{EachWrite, Wrote, at_moment}
use Rattle.gb_store.specs.declared.store.Change.{Change}
use Rattle.object_store.specs.Growth.{OnlyGrew}
use Rattle.object_store.specs.Held.{objects_after, objects_in}
use Rattle.object_store.proofs.GrowthLemmas.{OnlyGrew-none, OnlyGrew-then}
use Rattle.ref_store.specs.Setting.{ref_write}
use Rattle.remote_copy.specs.NeedWrites.{PutsOneAfterNeeds}
use Rattle.remote_name.specs.declared.remote.RemoteName.{RemoteName}
use Rattle.repo_state.specs.Sides.{ref_place}
use Rattle.repo_state.specs.declared.side.Side.{Side}
use Rattle.repo_state.proofs.KindLemmas.{objects-ref_write}
use Rattle.repo_writes.specs.Kinds.{an_object}
use Rattle.repo_writes.proofs.SoundLemmas.{write-grew}
use Rattle.repo_writes.proofs.StayLemmas.{same-grew}
use Rattle.sync_steps.specs.Places.{local_side, tracking_side}
use Rattle.sync_steps.specs.Writes.{MayFetch, MayPush}

-- the change only adds objects of a folder
abbrev AddsAlone : List ℕ → Files → Change → Type 0
AddsAlone folder files change = OnlyGrew (objects_in files folder) (objects_in (written files change) folder)

-- where each change does, all do
grows : (May : Files → Change → Type 0) (folder : List ℕ) → ((files : Files) (change : Change) → May files change → AddsAlone folder files change)
    → (old new : History) → Wrote May old new → OnlyGrew (objects_after old folder) (objects_after new folder)
grows May folder each old new wrote = subst (λ (h : History). OnlyGrew (objects_after old folder) (objects_after h folder)) (sym wrote.grew) (by wrote.writes wrote.each)
  where
    by : (writes : List Change) → EachWrite (at_moment May) old writes → OnlyGrew (objects_after old folder) (objects_after (writes ++ old) folder)
    by [] all = OnlyGrew-none (objects_after old folder)
    by (change ∷ earlier) all =
        OnlyGrew-then (objects_after old folder) (objects_after (earlier ++ old) folder) (objects_after (change ∷ earlier ++ old) folder) (by earlier all.0) (each (files_of (earlier ++ old)) change all.1)

-- an object that is put is added
put_adds : (folder : List ℕ) (files : Files) (change : Change) → PutsOneAfterNeeds folder files change → AddsAlone folder files change
put_adds folder files change puts = write-grew folder files change (an_object (record { texts = puts.0 ∷ []; puts = puts.1 }))

-- a ref that is set leaves the objects
ref_adds : (folder : List ℕ) (files : Files) (change : Change) (of : Side) (id : Id) (head : Name) → change ≡ ref_write folder (ref_place of id) head → AddsAlone folder files change
ref_adds folder files change of id head is =
    same-grew folder files (written files change) (ap (λ (c : Change). objects_in (written files c) folder) is ∙ objects-ref_write files folder of id head)

pub fetch_grew : (own peer : List ℕ) (remote : RemoteName) (old new : History) → Wrote (MayFetch own peer remote) old new → OnlyGrew (objects_after old own) (objects_after new own)
fetch_grew own peer remote old new wrote = grows (MayFetch own peer remote) own each old new wrote
  where
    each : (files : Files) (change : Change) → MayFetch own peer remote files change → AddsAlone own files change
    each files change (inl puts) = put_adds own files change puts
    each files change (inr set) = ref_adds own files change (tracking_side remote set.word) set.id set.head set.write

pub push_grew : (own peer : List ℕ) (old new : History) → Wrote (MayPush own peer) old new → OnlyGrew (objects_after old peer) (objects_after new peer)
push_grew own peer old new wrote = grows (MayPush own peer) peer each old new wrote
  where
    each : (files : Files) (change : Change) → MayPush own peer files change → AddsAlone peer files change
    each files change (inl puts) = put_adds peer files change puts
    each files change (inr set) = ref_adds peer files change (local_side set.word) set.id set.head set.write
