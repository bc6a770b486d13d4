-- Writes that leave what a folder has last seen at remotes.
use Rattle.std.proofs.Common.{◌≡◌, ◌≢◌, ◌⊎◌, inl, inr, ℕ, List, ◌++◌, refl, ◌∙◌, ap, subst}
use Rattle.gb_text.specs.Overlap.{Overlap}
use Rattle.gb_text.specs.declared.id.Id.{Id}
use Rattle.gb_store.specs.Files.{Files, History, files_of, written}
use Rattle.gb_store.specs.Moments.{Wrote, WroteBy, at_moment}
use Rattle.gb_store.specs.declared.store.Change.{Change}
use Rattle.gb_store.proofs.MomentLemmas.{AllMoments-from_WroteBy}
use Rattle.bug_run.proofs.UserStayLemmas.{last_moment}
use Rattle.ref_packing.specs.Kinds.{IsPackWrite}
use Rattle.ref_store.specs.Refs.{Ref}
use Rattle.remote_name.specs.declared.remote.RemoteName.{RemoteName}
use Rattle.repo_state.specs.Sides.{head_at}
use Rattle.repo_state.specs.declared.side.Side.TheVariants as side
use Rattle.repo_state.proofs.KindLemmas.{head_at-clock_write, head_at-object_write, head_at-other_side, head_at-row_write, head_at-user_write}
use Rattle.repo_writes.specs.Kinds.{IsWrite}
use Rattle.repo_writes.proofs.PackLemmas.{pack-says_same, pack_apart}
use Rattle.repo_writes.proofs.SoundLemmas.{by_kind, clock_after, write-place}
use Rattle.repo_writes.proofs.StayLemmas.{IsAtPlace, stay-apart}
use Rattle.row_text.specs.Rows.{row_text}
use Rattle.sync_steps.specs.Places.{local_side, tracking_side}
use Rattle.sync_steps.specs.declared.line.EntityWord.{EntityWord}
use Rattle.sync_steps.specs.declared.line.EntityWord.TheVariants as word
use Rattle.sync_writes.specs.Kinds.{PushWrites}
use Rattle.sync_writes.proofs.PlaceLemmas.{push-place}
use Rattle.full_exchanges.proofs.HasLemmas.{same_heads}

-- a local ref is no tracking ref
pub local_apart : (remote : RemoteName) (local kind : EntityWord) → local_side local ≢ tracking_side remote kind
local_apart remote word.Identity word.Identity e = cc e
local_apart remote word.Identity word.Bug e = cc e
local_apart remote word.Bug word.Identity e = cc e
local_apart remote word.Bug word.Bug e = cc e

module _ (folder : List ℕ) where
  -- the ref at which the folder has last seen an entity
  abbrev pub seen_at : RemoteName → EntityWord → Id → Files → Ref
  seen_at remote kind id files = head_at files folder (tracking_side remote kind) id

  -- each such ref is as it was
  abbrev pub IsLeft : Files → Files → Type 0
  IsLeft old new = (remote : RemoteName) (kind : EntityWord) (id : Id) → seen_at remote kind id new ≡ seen_at remote kind id old

  -- a write of a kind in the folder leaves them
  pub kind_leaves : (files : Files) (change : Change) → IsWrite folder files change → IsLeft files (written files change)
  kind_leaves files change may remote kind id = by_kind folder files change (λ (c : Change). seen_at remote kind id (written files c) ≡ seen_at remote kind id files)
      (λ w. head_at-object_write files folder w.puts.text (tracking_side remote kind) id)
      (λ w. head_at-other_side files folder side.Identities (tracking_side remote kind) w.id id w.head (local_apart remote word.Identity kind))
      (λ w. head_at-user_write files folder (tracking_side remote kind) id w.id)
      (λ w. head_at-other_side files folder side.Bugs (tracking_side remote kind) w.id id w.head (local_apart remote word.Bug kind))
      (λ w. head_at-clock_write files folder (tracking_side remote kind) id w.which (clock_after folder files change w))
      (λ w. head_at-row_write files folder (tracking_side remote kind) id w.id (row_text w.row)) may

  -- a write below a folder apart leaves them
  pub apart_leaves : (other : List ℕ) → (Overlap folder other → ⊥) → (files : Files) (change : Change) → IsAtPlace other change → IsLeft files (written files change)
  apart_leaves other apart files change at remote kind id = same_heads folder files (written files change) (stay-apart folder other apart files change at) (tracking_side remote kind) id

  -- where each write of a call leaves them, the call does
  pub left_by : (Rule : History → List Change → Change → Type 0) (old new : History)
      → ((earlier : List Change) (change : Change) → Rule old earlier change → IsLeft (files_of (earlier ++ old)) (written (files_of (earlier ++ old)) change))
      → WroteBy Rule old new → IsLeft (files_of old) (files_of new)
  left_by Rule old new leaves wrote =
      (AllMoments-from_WroteBy Rule (λ (files : Files). IsLeft (files_of old) files) old new
      (λ earlier change so_far may remote kind id. leaves earlier change may remote kind id ∙ so_far remote kind id)
      (λ remote kind id. refl) wrote).each new (last_moment Rule old new wrote)

  -- the folder, or one apart from it
  abbrev pub IsThisOrApart : List ℕ → Type 0
  IsThisOrApart other = (other ≡ folder) ⊎ (Overlap folder other → ⊥)

  -- calls that write by kinds, packs and pushes leave them
  pub kinds_leave : (other : List ℕ) → IsThisOrApart other → (old new : History) → Wrote (IsWrite other) old new → IsLeft (files_of old) (files_of new)
  kinds_leave other at old new wrote = left_by (at_moment (IsWrite other)) old new (λ earlier change may. each at (files_of (earlier ++ old)) change may) wrote
    where
      each : IsThisOrApart other → (files : Files) (change : Change) → IsWrite other files change → IsLeft files (written files change)
      each (inl same) files change may = kind_leaves files change (subst (λ (f : List ℕ). IsWrite f files change) same may)
      each (inr apart) files change may = apart_leaves other apart files change (write-place other files change may)

  pub packs_leave : (other : List ℕ) → IsThisOrApart other → (old new : History) → Wrote (IsPackWrite other) old new → IsLeft (files_of old) (files_of new)
  packs_leave other at old new wrote = left_by (at_moment (IsPackWrite other)) old new (λ earlier change may. each at (files_of (earlier ++ old)) change may) wrote
    where
      each : IsThisOrApart other → (files : Files) (change : Change) → IsPackWrite other files change → IsLeft files (written files change)
      each (inl same) files change may remote kind id =
          (pack-says_same folder files change (subst (λ (f : List ℕ). IsPackWrite f files change) same may)).heads (tracking_side remote kind) id
      each (inr apart) files change may remote kind id = same_heads folder files (written files change) (pack_apart folder other apart files change may) (tracking_side remote kind) id

  pub pushes_leave : (own peer : List ℕ) → IsThisOrApart peer → (old new : History) → Wrote (PushWrites own peer) old new → IsLeft (files_of old) (files_of new)
  pushes_leave own peer at old new wrote = left_by (at_moment (PushWrites own peer)) old new (λ earlier change may. each at (files_of (earlier ++ old)) change may) wrote
    where
      mine : (files : Files) (change : Change) → PushWrites own folder files change → IsLeft files (written files change)
      mine files change (inl puts) remote kind id =
          ap (λ (c : Change). seen_at remote kind id (written files c)) puts.1.write ∙ head_at-object_write files folder puts.1.text (tracking_side remote kind) id
      mine files change (inr head) remote kind id =
          ap (λ (c : Change). seen_at remote kind id (written files c)) head.set.write
          ∙ head_at-other_side files folder (local_side head.set.word) (tracking_side remote kind) head.set.id id head.set.head (local_apart remote head.set.word kind)

      each : IsThisOrApart peer → (files : Files) (change : Change) → PushWrites own peer files change → IsLeft files (written files change)
      each (inl same) files change may = mine files change (subst (λ (f : List ℕ). PushWrites own f files change) same may)
      each (inr apart) files change may = apart_leaves peer apart files change (push-place own peer files change may)
