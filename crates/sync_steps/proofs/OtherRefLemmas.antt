-- An exchange leaves each ref of the folder that it writes in, but for those of the side that it sets.
use Rattle.std.proofs.Common.{◌≡◌, ◌≢◌, inl, inr, refl, sym, ◌∙◌, ap, ℕ, List, []}
use Rattle.gb_text.specs.declared.id.Id.{Id}
use Rattle.gb_store.specs.Files.{Files, History, files_of, written}
use Rattle.gb_store.specs.Moments.{Wrote}
use Rattle.gb_store.specs.declared.store.Change.{Change}
use Rattle.gb_store.proofs.MomentLemmas.{AllMoments-from_Wrote}
use Rattle.remote_copy.specs.NeedWrites.{PutsOneAfterNeeds}
use Rattle.remote_name.specs.declared.remote.RemoteName.{RemoteName}
use Rattle.repo_state.specs.Sides.{head_at}
use Rattle.repo_state.specs.declared.side.Side.{Side}
use Rattle.repo_state.proofs.KindLemmas.{head_at-object_write, head_at-other_side}
use Rattle.sync_steps.specs.Places.{local_side, tracking_side}
use Rattle.sync_steps.specs.Writes.{MayFetch, MayPush}
use Rattle.sync_steps.specs.declared.line.EntityWord.{EntityWord}

-- what each write leaves of the files, all of them leave
wrote_leaves : {A : Type 0} (view : Files → A) (May : Files → Change → Type 0) → ((files : Files) (change : Change) → May files change → view (written files change) ≡ view files)
    → (old new : History) → Wrote May old new → view (files_of new) ≡ view (files_of old)
wrote_leaves view May leaves old new wrote =
    (AllMoments-from_Wrote May (λ (files : Files). view files ≡ view (files_of old)) (λ files change same may. leaves files change may ∙ same) old new refl wrote).each
    new (record { later = []; done = wrote.writes; before = wrote.grew; after = refl })

-- an object that is put
put_leaves : (folder : List ℕ) (of : Side) (id : Id) (files : Files) (change : Change) → PutsOneAfterNeeds folder files change → head_at (written files change) folder of id ≡ head_at files folder of id
put_leaves folder of id files change puts = ap (λ (c : Change). head_at (written files c) folder of id) puts.1.write ∙ head_at-object_write files folder puts.1.text of id

-- all that a fetch writes
pub fetch_leaves : (own peer : List ℕ) (remote : RemoteName) (of : Side) (id : Id) → ((word : EntityWord) → of ≢ tracking_side remote word) → (old new : History) → Wrote (MayFetch own peer remote) old new
    → head_at (files_of new) own of id ≡ head_at (files_of old) own of id
fetch_leaves own peer remote of id other old new wrote = wrote_leaves (λ (files : Files). head_at files own of id) (MayFetch own peer remote) each old new wrote
  where
    each : (files : Files) (change : Change) → MayFetch own peer remote files change → head_at (written files change) own of id ≡ head_at files own of id
    each files change (inl puts) = put_leaves own of id files change puts
    each files change (inr set) =
        ap (λ (c : Change). head_at (written files c) own of id) set.write ∙ head_at-other_side files own (tracking_side remote set.word) of set.id id set.head (λ same. other set.word (sym same))

-- all that a push writes
pub push_leaves : (own peer : List ℕ) (of : Side) (id : Id) → ((word : EntityWord) → of ≢ local_side word) → (old new : History) → Wrote (MayPush own peer) old new
    → head_at (files_of new) peer of id ≡ head_at (files_of old) peer of id
push_leaves own peer of id other old new wrote = wrote_leaves (λ (files : Files). head_at files peer of id) (MayPush own peer) each old new wrote
  where
    each : (files : Files) (change : Change) → MayPush own peer files change → head_at (written files change) peer of id ≡ head_at files peer of id
    each files change (inl puts) = put_leaves peer of id files change puts
    each files change (inr set) =
        ap (λ (c : Change). head_at (written files c) peer of id) set.write ∙ head_at-other_side files peer (local_side set.word) of set.id id set.head (λ same. other set.word (sym same))
