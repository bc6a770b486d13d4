-- Nothing is lost by writes, of their own folder or of one apart from it; and folders apart stay sound.
use Rattle.std.proofs.Common.{◌≡◌, ℕ, List, [], ◌∷◌, ◌++◌, subst, arith}
use Rattle.gb_text.specs.Digits.{IsId}
use Rattle.gb_text.specs.Overlap.{Overlap}
use Rattle.gb_text.specs.declared.id.Id.{Id}
use Rattle.gb_text.specs.declared.id.Name.{Name}
use Rattle.gb_store.specs.Files.{Files, History, files_of, written}
use Rattle.gb_store.specs.Moments.{AllMoments, Wrote, WroteBy, at_moment}
use Rattle.gb_store.specs.declared.store.Change.{Change}
use Rattle.gb_store.proofs.MomentLemmas.{AllMoments-from_Wrote, AllMoments-from_WroteBy}
use Rattle.object_store.specs.Held.{Objects, objects_in}
use Rattle.commit_walk.proofs.ChainLemmas.{chain_below}
use Rattle.commit_walk.specs.Below.{IsBelow as Below}
use Rattle.commit_walk.proofs.BelowLemmas.{IsBelow-stays, below_below}
use Rattle.commit_walk.proofs.DistinctLemmas.{Contains-one}
use Rattle.ref_store.specs.Refs.{Head}
use Rattle.repo_state.specs.Sides.{head_at}
use Rattle.repo_state.specs.Sound.{HasPart, KeepsParts}
use Rattle.repo_state.specs.declared.side.Side.{Side}
use Rattle.repo_state.specs.declared.side.Side.TheVariants as side
use Rattle.repo_writes.specs.Kept.{IsOwnSide, KeepsBelow, LosesNothing}
use Rattle.repo_writes.specs.Kinds.{IsWrite}
use Rattle.repo_writes.proofs.LossLemmas.{bug-below, clock-rises, head-below}
use Rattle.repo_writes.proofs.SoundLemmas.{write-grew, write-place}
use Rattle.repo_writes.proofs.StayLemmas.{FilesStay, IsAtPlace, LosesNothing-stays, part-stays, stay-apart}

-- ---- nothing is lost

-- what lies below a name that lies below a head lies below the head
below_then : (objects : Objects) (top middle name : Name) → Below objects (top ∷ []) middle → Below objects (middle ∷ []) name → Below objects (top ∷ []) name
below_then objects top middle name high low =
    below_below objects (top ∷ []) (middle ∷ []) name (λ one c. subst (Below objects (top ∷ [])) (Contains-one middle one c) high) low

-- nothing is lost where nothing is written
pub LosesNothing-none : (folder : List ℕ) (files : Files) → LosesNothing folder files files
LosesNothing-none folder files = record {
  objects = record { stays = λ name text stands. stands };
  heads = λ of own id is head name stands low. record { head = head; is_head = stands; below = low };
  clocks = λ which. omega arith;
}

-- nor by two that lose nothing, one after the other
pub LosesNothing-then : (folder : List ℕ) (old mid new : Files) → LosesNothing folder old mid → LosesNothing folder mid new → LosesNothing folder old new
LosesNothing-then folder old mid new first second = record {
  objects = record { stays = λ name text stands. second.objects.stays name text (first.objects.stays name text stands) };
  heads = λ of own id is head name stands low.
      let one = first.heads of own id is head name stands low in
      second.heads of own id is one.head name one.is_head one.below;
  clocks = λ which. omega (arith, first.clocks which, second.clocks which);
}

-- by one write in the folder
write-loses_nothing : (folder : List ℕ) (files : Files) (change : Change) → IsWrite folder files change → LosesNothing folder files (written files change)
write-loses_nothing folder files change write = record {
  objects = write-grew folder files change write;
  heads = keeps;
  clocks = clock-rises folder files change write;
}
  where
    later : Objects
    later = objects_in (written files change) folder

    stays : (head name : Name) → Below (objects_in files folder) (head ∷ []) name → Below later (head ∷ []) name
    stays head name low = IsBelow-stays (objects_in files folder) later (write-grew folder files change write) (head ∷ []) name low

    keeps : (of : Side) → IsOwnSide of → (id : Id) → IsId id → (head name : Name) → head_at files folder of id ≡ Head head
        → Below (objects_in files folder) (head ∷ []) name → KeepsBelow folder (written files change) of id name
    keeps side.Bugs own id is head name stands low =
        let set = bug-below folder files change write id is head stands in
        record { head = set.0; is_head = set.1; below = below_then later set.0 head name set.2 (stays head name low) }
    keeps side.Identities own id is head name stands low =
        let set = head-below folder files change write id is head stands in
        record { head = set.0; is_head = set.1; below = below_then later set.0 head name (chain_below later set.0 set.2.above head set.2.chain) (stays head name low) }
    keeps (side.RemoteBugs remote) own id is head name stands low = absurd own
    keeps (side.RemoteIdentities remote) own id is head name stands low = absurd own

-- ---- over the writes of a call

-- a call loses nothing of its folder
pub loses_nothing : (folder : List ℕ) (old new : History) → Wrote (IsWrite folder) old new → AllMoments (LosesNothing folder (files_of old)) old new
loses_nothing folder old new wrote =
    AllMoments-from_Wrote (IsWrite folder) (LosesNothing folder (files_of old))
    (λ files change so_far write. LosesNothing-then folder (files_of old) files (written files change) so_far (write-loses_nothing folder files change write)) old new
    (LosesNothing-none folder (files_of old)) wrote

-- ---- a folder apart

-- each write of a rule leaves the files of a folder
module _ (Rule : History → List Change → Change → Type 0) (folder : List ℕ) (old new : History)
    (stay : (earlier : List Change) (change : Change) → Rule old earlier change → FilesStay folder (files_of (earlier ++ old)) (written (files_of (earlier ++ old)) change))
    (wrote : WroteBy Rule old new) where
  -- so the folder keeps each part
  pub stay_keeps_parts : KeepsParts folder old new
  stay_keeps_parts = λ part good.
      AllMoments-from_WroteBy Rule (HasPart part folder) old new
      (λ earlier change has may. part-stays folder (files_of (earlier ++ old)) (written (files_of (earlier ++ old)) change) (stay earlier change may) part has) good wrote

  -- and nothing of it is lost
  pub stay_loses_nothing : AllMoments (LosesNothing folder (files_of old)) old new
  stay_loses_nothing =
      AllMoments-from_WroteBy Rule (LosesNothing folder (files_of old)) old new
      (λ earlier change so_far may.
      let files = files_of (earlier ++ old) in
      LosesNothing-then folder (files_of old) files (written files change) so_far (LosesNothing-stays folder files (written files change) (stay earlier change may)))
      (LosesNothing-none folder (files_of old)) wrote

-- each write of a rule is at a place of another folder
module _ (Rule : History → List Change → Change → Type 0) (folder other : List ℕ) (apart : Overlap folder other → ⊥)
    (places : (entry : History) (earlier : List Change) (change : Change) → Rule entry earlier change → IsAtPlace other change) (old new : History) (wrote : WroteBy Rule old new) where
  -- such a write leaves the files of the folder
  stay : (earlier : List Change) (change : Change) → Rule old earlier change → FilesStay folder (files_of (earlier ++ old)) (written (files_of (earlier ++ old)) change)
  stay earlier change may = stay-apart folder other apart (files_of (earlier ++ old)) change (places old earlier change may)

  -- so the folder keeps each part
  pub rule_keeps_parts : KeepsParts folder old new
  rule_keeps_parts = stay_keeps_parts Rule folder old new stay wrote

  -- and nothing of it is lost
  pub rule_loses_nothing : AllMoments (LosesNothing folder (files_of old)) old new
  rule_loses_nothing = stay_loses_nothing Rule folder old new stay wrote

module _ (folder other : List ℕ) (old new : History) (apart : Overlap folder other → ⊥) (wrote : Wrote (IsWrite other) old new) where
  abbrev places : (entry : History) (earlier : List Change) (change : Change) → IsWrite other (files_of (earlier ++ entry)) change → IsAtPlace other change
  places entry earlier change write = write-place other (files_of (earlier ++ entry)) change write

  -- a folder keeps each part, whatever is written by kinds in one apart from it
  pub apart_keeps_parts : KeepsParts folder old new
  apart_keeps_parts = rule_keeps_parts (at_moment (IsWrite other)) folder other apart places old new wrote

  -- and loses nothing
  pub apart_loses_nothing : AllMoments (LosesNothing folder (files_of old)) old new
  apart_loses_nothing = rule_loses_nothing (at_moment (IsWrite other)) folder other apart places old new wrote
