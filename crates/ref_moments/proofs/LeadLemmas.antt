-- Where each write only adds objects, what refs lead to is kept from each moment to each later one.
use Rattle.std.proofs.Common.{◌≡◌, inl, inr, refl, ◌∙◌, ap, ℕ, List, [], ◌∷◌, ◌++◌}
use Rattle.gb_store.specs.Files.{Files, History, files_of, written}
use Rattle.gb_store.specs.Moments.{Wrote, WroteBy, at_moment}
use Rattle.gb_store.specs.declared.store.Change.{Change}
use Rattle.gb_store.proofs.MomentLemmas.{AllMoments-from_Wrote, IsMoment-of_second, WroteBy-after, WroteBy-before, WroteBy-wider, at_moment-from_later}
use Rattle.commit_walk.proofs.BelowLemmas.{IsBelow-stays}
use Rattle.object_store.specs.Growth.{OnlyGrew}
use Rattle.object_store.specs.Held.{Objects, objects_in}
use Rattle.remote_copy.specs.NeedWrites.{PutsOneAfterNeeds}
use Rattle.remote_name.specs.declared.remote.RemoteName.{RemoteName}
use Rattle.repo_state.proofs.KindLemmas.{objects-ref_write}
use Rattle.repo_writes.specs.Kinds.{IsWrite, an_object}
use Rattle.repo_writes.proofs.SoundLemmas.{write-grew}
use Rattle.sync_steps.specs.Places.{local_side, tracking_side}
use Rattle.sync_writes.specs.Kinds.{FetchWrites, PushWrites}
use Rattle.ref_moments.specs.Leads.{LeadsOn}
use Rattle.ref_moments.proofs.OnceLemmas.{first_moment, last_moment}

-- a write only adds objects to a folder
abbrev pub Grows : List ℕ → Files → Change → Type 0
Grows folder files change = OnlyGrew (objects_in files folder) (objects_in (written files change) folder)

-- objects that grew twice
grew_then : (one two three : Objects) → OnlyGrew one two → OnlyGrew two three → OnlyGrew one three
grew_then one two three first second = record { stays = λ name text stands. second.stays name text (first.stays name text stands) }

-- the same objects
grew_same : (old new : Objects) → new ≡ old → OnlyGrew old new
grew_same old new same = record { stays = λ name text stands. ap (λ (objects : Objects). objects name) same ∙ stands }

pub leads_on : (folder : List ℕ) (old new : History) → Wrote (Grows folder) old new → LeadsOn folder old new
leads_on folder old new wrote early late is then = record {
  objects = grew;
  commits = λ of id head name stands low. IsBelow-stays (objects_in (files_of early) folder) (objects_in (files_of late) folder) grew (head ∷ []) name low;
}
  where
    upto : Wrote (Grows folder) old late
    upto = WroteBy-before (at_moment (Grows folder)) old new late wrote (IsMoment-of_second old early new late (first_moment old early is.done is.before) then)

    from : Wrote (Grows folder) early late
    from = WroteBy-after (at_moment (Grows folder)) old late early (at_moment-from_later (Grows folder)) upto (record { later = then.done; done = is.done; before = is.before; after = then.before })

    grew : OnlyGrew (objects_in (files_of early) folder) (objects_in (files_of late) folder)
    grew =
        (AllMoments-from_Wrote (Grows folder) (λ files. OnlyGrew (objects_in (files_of early) folder) (objects_in files folder))
        (λ files change so_far grows. grew_then (objects_in (files_of early) folder) (objects_in files folder) (objects_in (written files change) folder) so_far grows)
        early late (grew_same (objects_in (files_of early) folder) (objects_in (files_of early) folder) refl) from).each late (last_moment early late (first_moment early late then.done then.before))

-- ---- the kinds of writes

put_grows : (folder : List ℕ) (files : Files) (change : Change) → PutsOneAfterNeeds folder files change → Grows folder files change
put_grows folder files change puts = write-grew folder files change (an_object (record { texts = puts.0 ∷ []; puts = puts.1 }))

-- of a folder
pub kinds_lead_on : (folder : List ℕ) (old new : History) → Wrote (IsWrite folder) old new → LeadsOn folder old new
kinds_lead_on folder old new wrote =
    leads_on folder old new (WroteBy-wider (at_moment (IsWrite folder)) (at_moment (Grows folder)) old new (λ earlier change write. write-grew folder (files_of (earlier ++ old)) change write) wrote)

-- of a fetch
pub fetch_leads_on : (own peer : List ℕ) (remote : RemoteName) (old new : History) → WroteBy (FetchWrites own peer remote) old new → LeadsOn own old new
fetch_leads_on own peer remote old new wrote = leads_on own old new (WroteBy-wider (FetchWrites own peer remote) (at_moment (Grows own)) old new each wrote)
  where
    each : (earlier : List Change) (change : Change) → FetchWrites own peer remote old earlier change → Grows own (files_of (earlier ++ old)) change
    each earlier change (inl puts) = put_grows own (files_of (earlier ++ old)) change puts
    each earlier change (inr head) =
        let files = files_of (earlier ++ old) in
        grew_same (objects_in files own) (objects_in (written files change) own)
        (ap (λ (c : Change). objects_in (written files c) own) head.set.write ∙ objects-ref_write files own (tracking_side remote head.set.word) head.set.id head.set.head)

-- of a push
pub push_leads_on : (own peer : List ℕ) (old new : History) → Wrote (PushWrites own peer) old new → LeadsOn peer old new
push_leads_on own peer old new wrote = leads_on peer old new (WroteBy-wider (at_moment (PushWrites own peer)) (at_moment (Grows peer)) old new each wrote)
  where
    each : (earlier : List Change) (change : Change) → PushWrites own peer (files_of (earlier ++ old)) change → Grows peer (files_of (earlier ++ old)) change
    each earlier change (inl puts) = put_grows peer (files_of (earlier ++ old)) change puts
    each earlier change (inr head) =
        let files = files_of (earlier ++ old) in
        grew_same (objects_in files peer) (objects_in (written files change) peer)
        (ap (λ (c : Change). objects_in (written files c) peer) head.set.write ∙ objects-ref_write files peer (local_side head.set.word) head.set.id head.set.head)
