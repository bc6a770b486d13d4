-- Where an exchange writes.
use Rattle.std.proofs.Common.{inl, inr, ℕ, List, ◌++◌, ap}
use Rattle.gb_store.specs.Files.{Files, History, files_of}
use Rattle.gb_store.specs.declared.store.Change.{Change}
use Rattle.remote_name.specs.declared.remote.RemoteName.{RemoteName}
use Rattle.repo_state.specs.Sides.{ref_place}
use Rattle.repo_writes.specs.Kinds.{a_ref_place}
use Rattle.repo_writes.proofs.SoundLemmas.{write-place}
use Rattle.repo_writes.proofs.StayLemmas.{IsAtPlace}
use Rattle.sync_steps.specs.Places.{local_side, tracking_side}
use Rattle.sync_writes.specs.Kinds.{FetchWrites, PushWrites}
use Rattle.sync_writes.proofs.PutLemmas.{put-write}

-- a fetch writes in its own folder
pub fetch-place : (own peer : List ℕ) (remote : RemoteName) (entry : History) (earlier : List Change) (change : Change)
    → FetchWrites own peer remote entry earlier change → IsAtPlace own change
fetch-place own peer remote entry earlier change (inl puts) = write-place own (files_of (earlier ++ entry)) change (put-write own (files_of (earlier ++ entry)) change puts)
fetch-place own peer remote entry earlier change (inr head) =
    let w = head.set in
    let of = tracking_side remote w.word in
    (ref_place of w.id, a_ref_place of w.id w.is_id, ap (λ (c : Change). c.path) w.write)

-- and a push in the peer
pub push-place : (own peer : List ℕ) (files : Files) (change : Change) → PushWrites own peer files change → IsAtPlace peer change
push-place own peer files change (inl puts) = write-place peer files change (put-write peer files change puts)
push-place own peer files change (inr head) =
    let w = head.set in
    let of = local_side w.word in
    (ref_place of w.id, a_ref_place of w.id w.is_id, ap (λ (c : Change). c.path) w.write)
