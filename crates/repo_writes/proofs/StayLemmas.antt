-- A folder keeps each part of soundness where what it says stays, and so where its files do, as those of a folder apart.
use Rattle.std.proofs.Common.{◌≡◌, ℕ, false, IsTrue, List, [], ◌∷◌, refl, sym, ◌∙◌, ap, subst, arith}
use Rattle.gb_text.specs.Digits.{IsId}
use Rattle.gb_text.specs.Folder.{is_rooted, joined}
use Rattle.gb_text.specs.Overlap.{Overlap}
use Rattle.gb_text.specs.declared.id.Id.{Id}
use Rattle.gb_store.specs.Files.{Files, written}
use Rattle.gb_store.specs.ObjectPath.{object_place}
use Rattle.gb_store.specs.declared.store.Change.{Change}
use Rattle.gb_store.proofs.FrameLemmas.{written-apart}
use Rattle.object_store.specs.Growth.{OnlyGrew}
use Rattle.object_store.specs.Held.{Objects, objects_in}
use Rattle.excerpt_cache.specs.Rows.{row_place}
use Rattle.commit_walk.proofs.BelowLemmas.{IsBelow-stays}
use Rattle.ref_store.specs.Refs.{packed_place, reads_as_packed}
use Rattle.ref_store.proofs.FrameLemmas.{same_ref}
use Rattle.repo_state.specs.Clocks.{clock_at, clock_in, clock_place}
use Rattle.repo_state.specs.Rows.{stored_row}
use Rattle.repo_state.specs.Sides.{has_ref, head_at, is_there, ref_place}
use Rattle.repo_state.specs.Sound.{AreWhole, HasPackedRefs, HasPart, HasTrueRows, IsAuthoredBug, IsSoundBug, IsSoundIdentity, IsSoundTracking, IsTrueRow, Part}
use Rattle.repo_state.specs.Sound as parts
use Rattle.repo_state.specs.Users.{user_at, user_place}
use Rattle.repo_state.specs.declared.clocks.ClockFile.{ClockFile}
use Rattle.repo_state.specs.declared.clocks.ClockFile.TheVariants as file
use Rattle.repo_state.specs.declared.side.Side.{Side}
use Rattle.repo_state.specs.declared.side.Side.TheVariants as side
use Rattle.repo_state.proofs.KindLemmas.{stored_row-same, user_at-same}
use Rattle.repo_writes.specs.Kept.{IsOwnSide, LosesNothing}
use Rattle.repo_writes.specs.Kinds.{IsPlace}
use Rattle.repo_writes.proofs.PlaceLemmas.{place_plain}
use Rattle.repo_writes.proofs.SoundBugLemmas.{authored-grew}

-- ---- by objects and heads

-- nothing is lost where objects are only added, and the folder's own heads and its clocks stay
pub nothing_lost : (folder : List ℕ) (old new : Files) → OnlyGrew (objects_in old folder) (objects_in new folder)
    → ((of : Side) → IsOwnSide of → (id : Id) → head_at new folder of id ≡ head_at old folder of id)
    → ((which : ClockFile) → clock_at new folder which ≡ clock_at old folder which) → LosesNothing folder old new
nothing_lost folder old new grew heads clocks = record {
  objects = grew;
  heads = λ of own id is head name stands low. record {
    head = head;
    is_head = heads of own id ∙ stands;
    below = IsBelow-stays (objects_in old folder) (objects_in new folder) grew (head ∷ []) name low;
  };
  clocks = λ which. omega (arith, clocks which);
}

module _ (folder : List ℕ) (old new : Files) (same : objects_in new folder ≡ objects_in old folder) where
  -- the same objects are no fewer
  pub same-grew : OnlyGrew (objects_in old folder) (objects_in new folder)
  same-grew = record { stays = λ name text stands. ap (λ (objects : Objects). objects name) same ∙ stands }

  -- whole objects are whole
  pub whole-stays : HasPart parts.Objects folder old → HasPart parts.Objects folder new
  whole-stays has = subst AreWhole (sym same) has

  -- an identity's ref that reads as before is as sound as before
  pub identity-stays : (id : Id) → head_at new folder side.Identities id ≡ head_at old folder side.Identities id
      → IsSoundIdentity (objects_in old folder) id (head_at old folder side.Identities id) → IsSoundIdentity (objects_in new folder) id (head_at new folder side.Identities id)
  identity-stays id head was =
      subst (IsSoundIdentity (objects_in new folder) id) (sym head)
      (subst (λ (objects : Objects). IsSoundIdentity objects id (head_at old folder side.Identities id)) (sym same) was)

  -- so is a bug's
  pub bug-stays : (id : Id) → head_at new folder side.Bugs id ≡ head_at old folder side.Bugs id
      → IsSoundBug (objects_in old folder) id (head_at old folder side.Bugs id) → IsSoundBug (objects_in new folder) id (head_at new folder side.Bugs id)
  bug-stays id head was =
      subst (IsSoundBug (objects_in new folder) id) (sym head)
      (subst (λ (objects : Objects). IsSoundBug objects id (head_at old folder side.Bugs id)) (sym same) was)

  -- and a tracking ref
  pub tracking-stays : (of : Side) (id : Id) → head_at new folder of id ≡ head_at old folder of id
      → IsSoundTracking (objects_in old folder) (head_at old folder of id) → IsSoundTracking (objects_in new folder) (head_at new folder of id)
  tracking-stays of id head was =
      subst (IsSoundTracking (objects_in new folder)) (sym head)
      (subst (λ (objects : Objects). IsSoundTracking objects (head_at old folder of id)) (sym same) was)

  -- rows that are stored as before are as true as before
  pub rows-stay : ((id : Id) → stored_row new folder id ≡ stored_row old folder id) → HasTrueRows folder old → HasTrueRows folder new
  rows-stay rows was = λ id is row stored. subst (λ (objects : Objects). IsTrueRow objects id row) (sym same) (was id is row (sym (rows id) ∙ stored))

  -- a bug's authors stay local identities, while the refs of identities still stand
  pub authored-stays : ((id : Id) → IsId id → IsTrue (has_ref old folder side.Identities id) → IsTrue (has_ref new folder side.Identities id))
      → (id : Id) → head_at new folder side.Bugs id ≡ head_at old folder side.Bugs id
      → IsAuthoredBug folder old id (head_at old folder side.Bugs id) → IsAuthoredBug folder new id (head_at new folder side.Bugs id)
  authored-stays stand id head was =
      subst (IsAuthoredBug folder new id) (sym head) (authored-grew folder old new same-grew stand id (head_at old folder side.Bugs id) was)

-- ---- by what a folder says

-- a folder says the same: its objects, refs, user, clocks and rows are as they were, and its packed refs read if they did
pub record SaysSame (folder : List ℕ) (old new : Files) : Type 0 where
  pub objects : objects_in new folder ≡ objects_in old folder
  pub heads : (of : Side) (id : Id) → head_at new folder of id ≡ head_at old folder of id
  pub user : user_at new folder ≡ user_at old folder
  pub clocks : (which : ClockFile) → clock_at new folder which ≡ clock_at old folder which
  pub rows : (id : Id) → stored_row new folder id ≡ stored_row old folder id
  pub packed : HasPackedRefs folder old → HasPackedRefs folder new

module _ (folder : List ℕ) (old new : Files) (same : SaysSame folder old new) where
  -- then each part stays
  pub part-same : (part : Part) → HasPart part folder old → HasPart part folder new
  part-same parts.Objects has = whole-stays folder old new same.objects has
  part-same parts.Identities has = λ id is. identity-stays folder old new same.objects id (same.heads side.Identities id) (has id is)
  part-same parts.Bugs has = λ id is. bug-stays folder old new same.objects id (same.heads side.Bugs id) (has id is)
  part-same parts.Authors has = λ id is.
      authored-stays folder old new same.objects (λ author _ stands. ap is_there (same.heads side.Identities author) ∙ stands) id (same.heads side.Bugs id) (has id is)
  part-same parts.Tracking has = λ remote id is. (
    tracking-stays folder old new same.objects (side.RemoteBugs remote) id (same.heads (side.RemoteBugs remote) id) (has remote id is).0,
    tracking-stays folder old new same.objects (side.RemoteIdentities remote) id (same.heads (side.RemoteIdentities remote) id) (has remote id is).1,
  )
  part-same parts.User has = λ bad. has (sym same.user ∙ bad)
  part-same parts.Packed has = same.packed has
  part-same parts.Rows has =
      (λ id is. bug-stays folder old new same.objects id (same.heads side.Bugs id) (has.0 id is), rows-stay folder old new same.objects same.rows has.1)

  -- and nothing is lost
  pub LosesNothing-same : LosesNothing folder old new
  LosesNothing-same = nothing_lost folder old new (same-grew folder old new same.objects) (λ of own id. same.heads of id) same.clocks

-- ---- by files

-- each file below a folder is as it was
abbrev pub FilesStay : List ℕ → Files → Files → Type 0
FilesStay folder old new = (rest : List ℕ) → is_rooted rest ≡ false → new (joined folder rest) ≡ old (joined folder rest)

-- no ref's place begins with a slash
pub plain_ref : (of : Side) (id : Id) → is_rooted (ref_place of id) ≡ false
plain_ref side.Bugs id = refl
plain_ref side.Identities id = refl
plain_ref (side.RemoteBugs remote) id = refl
plain_ref (side.RemoteIdentities remote) id = refl

module _ (folder : List ℕ) (old new : Files) (stay : FilesStay folder old new) where
  -- so its refs stay
  head : (of : Side) (id : Id) → head_at new folder of id ≡ head_at old folder of id
  head of id = same_ref new old folder (ref_place of id) (stay (ref_place of id) (plain_ref of id)) (stay packed_place refl)

  -- and its clocks
  clock : (which : ClockFile) → clock_at new folder which ≡ clock_at old folder which
  clock file.BugsCreate = ap clock_in (stay (clock_place file.BugsCreate) refl)
  clock file.BugsEdit = ap clock_in (stay (clock_place file.BugsEdit) refl)

  -- and all that it says
  says_same : SaysSame folder old new
  says_same = record {
    objects = λ i name. stay (object_place name) refl i;
    heads = head;
    user = user_at-same old new folder (stay user_place refl) (head side.Identities);
    clocks = clock;
    rows = λ id. stored_row-same old new folder id (stay (row_place id) refl);
    packed = λ has. ap reads_as_packed (stay packed_place refl) ∙ has;
  }

  -- each part stays
  pub part-stays : (part : Part) → HasPart part folder old → HasPart part folder new
  part-stays = part-same folder old new says_same

  -- and nothing is lost
  pub LosesNothing-stays : LosesNothing folder old new
  LosesNothing-stays = LosesNothing-same folder old new says_same

-- ---- by a write elsewhere

-- a change is at one of the places of a folder at which is written
abbrev pub IsAtPlace : List ℕ → Change → Type 0
IsAtPlace folder change = (place : List ℕ) × IsPlace place × (change.path ≡ joined folder place)

-- such a write leaves the files of a folder apart
pub stay-apart : (folder other : List ℕ) → (Overlap folder other → ⊥) → (files : Files) (change : Change) → IsAtPlace other change → FilesStay folder files (written files change)
stay-apart folder other apart files change at = λ rest plain. written-apart files change folder other at.0 rest at.2 (place_plain at.0 at.1) plain apart
