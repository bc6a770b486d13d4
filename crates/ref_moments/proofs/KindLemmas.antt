-- Which write changes the ref of an id: the put of its own file alone.
use Rattle.std.proofs.Common.{◌≡◌, ◌≢◌, ◌⊎◌, inl, inr, sym, ◌∙◌, ap, subst, ℕ, List, ◌++◌}
use Rattle.gb_text.specs.Digits.{IsId, IsName}
use Rattle.gb_text.specs.declared.id.Id.{Id}
use Rattle.gb_text.specs.declared.id.Name.{Name}
use Rattle.gb_store.specs.Files.{Files, History, files_of, written}
use Rattle.gb_store.specs.declared.store.Change.{Change}
use Rattle.ref_store.specs.Setting.{ref_write}
use Rattle.ref_store.proofs.FrameLemmas.{head_is_name, ref_at-other}
use Rattle.ref_store.proofs.MapLemmas.{joined-same, set_ref_reads}
use Rattle.remote_copy.specs.NeedWrites.{PutsOneAfterNeeds}
use Rattle.remote_name.specs.declared.remote.RemoteName.{RemoteName}
use Rattle.repo_state.specs.Sides.{head_at, ref_place}
use Rattle.repo_state.specs.declared.side.Side.{Side}
use Rattle.repo_state.specs.declared.side.Side.TheVariants as side
use Rattle.repo_state.proofs.KindLemmas.{head_at-object_write}
use Rattle.repo_state.proofs.PlaceLemmas.{ref-not_packed, ref_place-same, ref_place-side}
use Rattle.repo_writes.specs.Kinds.{IsWrite}
use Rattle.repo_writes.proofs.SoundLemmas.{by_kind}
use Rattle.repo_state.proofs.KindLemmas.{head_at-clock_write, head_at-row_write, head_at-user_write}
use Rattle.row_text.specs.Rows.{row_text}
use Rattle.sync_steps.specs.Places.{local_side, tracking_side}
use Rattle.sync_writes.specs.Kinds.{FetchWrites, PushWrites}
use Rattle.ref_moments.specs.Once.{LeavesOrPuts}
use Rattle.ref_moments.proofs.PutLemmas.{this_or_leaves}

module _ (folder : List ℕ) (of : Side) (id : Id) (files : Files) where
  -- a put of a ref's file
  pub put_changes : (on : Side) (other : Id) (head : Name) → IsName head → LeavesOrPuts folder of id files (ref_write folder (ref_place on other) head)
  put_changes on other head named = elim (this_or_leaves folder of id on other head) [
    | inl place ↦ inr (
      head,
      ap (λ (p : List ℕ). ref_write folder p head) place,
      ap (λ (p : List ℕ). head_at (written files (ref_write folder p head)) folder of id) place ∙ set_ref_reads files folder (ref_place of id) head named,
    )
    | inr leaves ↦ inl (leaves files)
  ]

  -- the same of a change that is one
  as_put : (change : Change) (on : Side) (other : Id) (head : Name) → IsName head → change ≡ ref_write folder (ref_place on other) head → LeavesOrPuts folder of id files change
  as_put change on other head named is = subst (LeavesOrPuts folder of id files) (sym is) (put_changes on other head named)

  -- an object
  pub object_changes : (change : Change) → PutsOneAfterNeeds folder files change → LeavesOrPuts folder of id files change
  object_changes change puts = inl (ap (λ (c : Change). head_at (written files c) folder of id) puts.1.write ∙ head_at-object_write files folder puts.1.text of id)

  -- any write of a folder's kinds
  pub write_changes : (change : Change) → IsWrite folder files change → LeavesOrPuts folder of id files change
  write_changes change write =
      by_kind folder files change (LeavesOrPuts folder of id files)
      (λ w. inl (head_at-object_write files folder w.puts.text of id))
      (λ w. put_changes side.Identities w.id w.head w.is_name)
      (λ w. inl (head_at-user_write files folder of id w.id))
      (λ w. put_changes side.Bugs w.id w.head w.is_name)
      (λ w. inl (head_at-clock_write files folder of id w.which _))
      (λ w. inl (head_at-row_write files folder of id w.id (row_text w.row))) write

-- any of a fetch
pub fetch_changes : (own peer : List ℕ) (remote : RemoteName) (of : Side) (id : Id) (entry : History) (earlier : List Change) (change : Change) → FetchWrites own peer remote entry earlier change
    → LeavesOrPuts own of id (files_of (earlier ++ entry)) change
fetch_changes own peer remote of id entry earlier change (inl puts) = object_changes own of id (files_of (earlier ++ entry)) change puts
fetch_changes own peer remote of id entry earlier change (inr head) =
    let w = head.set in
    as_put own of id (files_of (earlier ++ entry)) change (tracking_side remote w.word) w.id w.head
    (head_is_name (files_of (earlier ++ entry)) peer (ref_place (local_side w.word) w.id) w.head w.is_peers) w.write

-- and any of a push
pub push_changes : (own peer : List ℕ) (of : Side) (id : Id) (files : Files) (change : Change) → PushWrites own peer files change → LeavesOrPuts peer of id files change
push_changes own peer of id files change (inl puts) = object_changes peer of id files change puts
push_changes own peer of id files change (inr head) =
    let w = head.set in
    as_put peer of id files change (local_side w.word) w.id w.head (head_is_name files own (ref_place (local_side w.word) w.id) w.head w.is_local) w.write

-- the put of one ref's file leaves each other ref
pub other_ref : (folder : List ℕ) (files : Files) (of on : Side) (id other : Id) (head : Name) → IsId id → IsId other → (of ≢ on) ⊎ (id ≢ other)
    → head_at (written files (ref_write folder (ref_place of id) head)) folder on other ≡ head_at files folder on other
other_ref folder files of on id other head is_id is_other differ =
    ref_at-other files (ref_write folder (ref_place of id) head) folder (ref_place on other)
    (λ path. by differ (joined-same folder (ref_place of id) (ref_place on other) path)) (ref-not_packed folder of id)
  where
    by : (of ≢ on) ⊎ (id ≢ other) → ref_place of id ≡ ref_place on other → ⊥
    by (inl sides) place = sides (ref_place-side of on id other place)
    by (inr ids) place =
        let same = ref_place-side of on id other place in
        ids (ref_place-same of id other is_id is_other (place ∙ ap (λ (s : Side). ref_place s other) (sym same)))
