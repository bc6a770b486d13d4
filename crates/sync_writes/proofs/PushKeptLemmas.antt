-- What a push keeps of the peer.
use Rattle.std.proofs.Common.{◌≡◌, ◌≢◌, ◌⊎◌, inl, inr, ℕ, IsTrue, List, [], ◌∷◌, arith, refl, sym, ◌∙◌, ap, subst}
use Rattle.gb_text.specs.Digits.{IsId, IsName}
use Rattle.gb_text.specs.Overlap.{Overlap}
use Rattle.gb_text.specs.declared.id.Id.{Id}
use Rattle.gb_text.specs.declared.id.Name.{Name}
use Rattle.gb_store.specs.Files.{Files, History, files_of, written}
use Rattle.gb_store.specs.Moments.{AllMoments, Wrote}
use Rattle.gb_store.specs.declared.store.Change.{Change}
use Rattle.gb_store.proofs.MomentLemmas.{AllMoments-from_Wrote}
use Rattle.object_store.specs.Held.{Objects, objects_in}
use Rattle.commit_walk.specs.Below.{IsBelow}
use Rattle.bug_ops.specs.Kind.{bug_kind}
use Rattle.dag_entity.specs.Nodes.{IsNodeBelow}
use Rattle.identity.specs.Persons.{IsChain}
use Rattle.ref_store.specs.Refs.{Head, Ref}
use Rattle.ref_store.specs.Setting.{ref_write}
use Rattle.ref_store.proofs.FrameLemmas.{packed_reads-other}
use Rattle.repo_state.proofs.PlaceLemmas.{ref-not_packed}
use Rattle.remote_name.specs.declared.remote.RemoteName.{RemoteName}
use Rattle.repo_state.specs.Bugs.{IsLocal}
use Rattle.repo_state.specs.Sides.{has_ref, head_at, is_there, ref_place}
use Rattle.repo_state.specs.Sound.{AreAuthorsLocal, HasNoFault, HasPart, IsAuthoredBug, IsSound, IsSoundBug, IsSoundIdentity, IsSoundTracking, Part}
use Rattle.repo_state.specs.Sound as parts
use Rattle.repo_state.specs.declared.side.Side.{Side}
use Rattle.repo_state.specs.declared.side.Side.TheVariants as side
use Rattle.repo_state.proofs.KindLemmas.{clock_at-ref_write, head_at-other_side, objects-ref_write, stored_row-ref_write, user_at-ref_write}
use Rattle.repo_writes.specs.Kept.{LosesNothing}
use Rattle.repo_writes.proofs.KeptLemmas.{LosesNothing-none, LosesNothing-then}
use Rattle.sync_steps.specs.Places.{local_side}
use Rattle.sync_steps.specs.Pushing.{IsForward}
use Rattle.sync_steps.specs.Writes.{IsPeerWrite}
use Rattle.sync_steps.specs.declared.line.EntityWord.{EntityWord}
use Rattle.sync_steps.specs.declared.line.EntityWord.TheVariants as word
use Rattle.sync_writes.specs.Keeping.{KeepsPartsFrom}
use Rattle.sync_writes.specs.Kinds.{ArePeopleThere, PushWrites}
use Rattle.sync_writes.proofs.AlikeLemmas.{author-alike, below-alike, chain-alike, head-name, no_fault-alike}
use Rattle.sync_writes.proofs.PlaceLemmas.{push-place}
use Rattle.sync_writes.proofs.PutLemmas.{head_at-set, put-keeps, put-loses_nothing}
use Rattle.repo_writes.proofs.StayLemmas.{authored-stays, bug-stays, identity-stays, part-stays, rows-stay, same-grew, stay-apart, tracking-stays, whole-stays}

-- an entity on the side of bugs is a bug
bug_word : (entity : EntityWord) → local_side entity ≡ side.Bugs → entity ≡ word.Bug
bug_word word.Identity e = absurd (cc)
bug_word word.Bug e = refl

-- no entity stands on the side of a remote
local_differs : (remote : RemoteName) (entity : EntityWord) → (local_side entity ≢ side.RemoteBugs remote) × (local_side entity ≢ side.RemoteIdentities remote)
local_differs remote word.Identity = (λ e. cc e, λ e. cc e)
local_differs remote word.Bug = (λ e. cc e, λ e. cc e)

-- ---- the head of a ref of the peer

module _ (own peer : List ℕ) (files : Files) (change : Change) (w : IsPeerWrite own peer files change) where
  abbrev of : Side
  of = local_side w.word

  abbrev now : Files
  now = written files (ref_write peer (ref_place of w.id) w.head)

  -- objects stay
  objects : objects_in now peer ≡ objects_in files peer
  objects = objects-ref_write files peer of w.id w.head

  -- the head is a name, since a name holds it
  is_name : IsName w.head
  is_name = head-name (objects_in files own) (objects_in files peer) w.head w.alike

  -- a ref of the peer reads as before, or as the local ref that it was set to
  after : (on : Side) (id : Id) → IsId id
      → (head_at now peer on id ≡ head_at files peer on id) ⊎ ((of ≡ on) × (w.id ≡ id) × (head_at now peer on id ≡ Head w.head))
  after on id is = head_at-set files peer of on w.id id w.head w.is_id is is_name

  -- the local ref, by the side and the id that it has
  here : (on : Side) (id : Id) → of ≡ on → w.id ≡ id → head_at files own on id ≡ Head w.head
  here on id same is = ap (λ (s : Side). head_at files own s id) (sym same) ∙ ap (head_at files own of) (sym is) ∙ w.is_local

  -- and what the peer's was
  before : (on : Side) (id : Id) → of ≡ on → w.id ≡ id → head_at files peer of w.id ≡ head_at files peer on id
  before on id same is = ap (λ (s : Side). head_at files peer s w.id) same ∙ ap (head_at files peer on) is

  -- an identity's ref that stands still stands
  stand : (id : Id) → IsId id → IsTrue (has_ref files peer side.Identities id) → IsTrue (has_ref now peer side.Identities id)
  stand id is stands = elim (after side.Identities id is) [
    | inl same ↦ ap is_there same ∙ stands
    | inr set ↦ ap is_there set.2
  ]

  -- the chain that an identity's ref leads to has no fault
  identity : (id : Id) → IsId id → IsSoundIdentity (objects_in files own) id (head_at files own side.Identities id)
      → IsSoundIdentity (objects_in files peer) id (head_at files peer side.Identities id) → IsSoundIdentity (objects_in now peer) id (head_at now peer side.Identities id)
  identity id is ours was = elim (after side.Identities id is) [
    | inl same ↦ identity-stays peer files now objects id same was
    | inr set ↦
        let chain : IsChain (objects_in files own) id w.head = subst (IsSoundIdentity (objects_in files own) id) (here side.Identities id set.0 set.1) ours in
        let there : IsChain (objects_in files peer) id w.head = chain-alike (objects_in files own) (objects_in files peer) w.head w.alike id chain in
        subst (IsSoundIdentity (objects_in now peer) id) (sym set.2) (subst (λ (o : Objects). IsChain o id w.head) (sym objects) there)
  ]

  -- where nothing is wrong with an entity in the own folder, nothing is in the peer
  no_fault : (id : Id) → HasNoFault (objects_in files own) id w.head → HasNoFault (objects_in now peer) id w.head
  no_fault id ours =
      subst (λ (o : Objects). HasNoFault o id w.head) (sym objects) (no_fault-alike (objects_in files own) (objects_in files peer) w.head w.alike id ours)

  -- nothing is wrong with the entity that a bug's ref leads to
  bug : (id : Id) → IsId id → IsSoundBug (objects_in files own) id (head_at files own side.Bugs id)
      → IsSoundBug (objects_in files peer) id (head_at files peer side.Bugs id) → IsSoundBug (objects_in now peer) id (head_at now peer side.Bugs id)
  bug id is ours was = elim (after side.Bugs id is) [
    | inl same ↦ bug-stays peer files now objects id same was
    | inr set ↦
        let sound : HasNoFault (objects_in files own) id w.head = subst (IsSoundBug (objects_in files own) id) (here side.Bugs id set.0 set.1) ours in
        subst (IsSoundBug (objects_in now peer) id) (sym set.2) (no_fault id sound)
  ]

  -- and its authors have refs in the peer, as they have in the own folder
  authors : ArePeopleThere own peer files → AreAuthorsLocal own files w.head → AreAuthorsLocal peer now w.head
  authors people ours node below =
      let there : IsNodeBelow bug_kind (objects_in files peer) (w.head ∷ []) node = subst (λ (o : Objects). IsNodeBelow bug_kind o (w.head ∷ []) node) objects below in
      let mate = author-alike (objects_in files own) (objects_in files peer) w.head w.alike node there in
      let local : IsLocal files own node.placed.pack.author = subst (IsLocal files own) mate.2 (ours mate.0 mate.1) in
      let ref = people node.placed.pack.author local in
      record { is_id = local.is_id; stands = stand node.placed.pack.author local.is_id (ap is_there ref.1) }

  -- so a bug's authors have refs there
  authored : (w.word ≡ word.Bug → ArePeopleThere own peer files) → (id : Id) → IsId id → IsAuthoredBug own files id (head_at files own side.Bugs id)
      → IsAuthoredBug peer files id (head_at files peer side.Bugs id) → IsAuthoredBug peer now id (head_at now peer side.Bugs id)
  authored people id is ours was = elim (after side.Bugs id is) [
    | inl same ↦ authored-stays peer files now objects stand id same was
    | inr set ↦
        let sound : IsAuthoredBug own files id (Head w.head) = subst (IsAuthoredBug own files id) (here side.Bugs id set.0 set.1) ours in
        let both : IsAuthoredBug peer now id (Head w.head) = (no_fault id sound.0, authors (people (bug_word w.word set.0)) sound.1) in
        subst (IsAuthoredBug peer now id) (sym set.2) both
  ]

  -- a tracking ref is as sound as before
  tracking : (on : Side) (id : Id) → of ≢ on → IsSoundTracking (objects_in files peer) (head_at files peer on id) → IsSoundTracking (objects_in now peer) (head_at now peer on id)
  tracking on id differ was = tracking-stays peer files now objects on id (head_at-other_side files peer of on w.id id w.head differ) was

  -- the peer keeps each part that both folders have
  peer-keeps : (w.word ≡ word.Bug → ArePeopleThere own peer files) → (part : Part) → HasPart part own files → HasPart part peer files → HasPart part peer now
  peer-keeps people parts.Objects ours has = whole-stays peer files now objects has
  peer-keeps people parts.Identities ours has = λ id is. identity id is (ours id is) (has id is)
  peer-keeps people parts.Bugs ours has = λ id is. bug id is (ours id is) (has id is)
  peer-keeps people parts.Authors ours has = λ id is. authored people id is (ours id is) (has id is)
  peer-keeps people parts.Tracking ours has = λ remote id is. (
    tracking (side.RemoteBugs remote) id (local_differs remote w.word).0 (has remote id is).0,
    tracking (side.RemoteIdentities remote) id (local_differs remote w.word).1 (has remote id is).1,
  )
  peer-keeps people parts.User ours has = λ bad. has (sym (user_at-ref_write files peer of w.id w.head has) ∙ bad)
  peer-keeps people parts.Packed ours has = packed_reads-other files (ref_write peer (ref_place of w.id) w.head) peer (ref-not_packed peer of w.id) ∙ has
  peer-keeps people parts.Rows ours has =
      (λ id is. bug id is (ours.0 id is) (has.0 id is), rows-stay peer files now objects (λ id. stored_row-ref_write files peer of w.id id w.head) has.1)

  -- ---- nothing is lost

  -- what lay below a head of the peer lies below the one that its ref was set to
  below : (was name : Name) → head_at files peer of w.id ≡ Head was → IsBelow (objects_in files peer) (was ∷ []) name → IsBelow (objects_in now peer) (w.head ∷ []) name
  below was name at low =
      let forward : IsForward (objects_in files own) (Head was) w.head = subst (λ (ref : Ref). IsForward (objects_in files own) ref w.head) at w.forward in
      subst (λ (o : Objects). IsBelow o (w.head ∷ []) name) (sym objects) (below-alike (objects_in files own) (objects_in files peer) w.head w.alike was name forward.1 low)

  -- and no clock falls
  peer-loses_nothing : LosesNothing peer files now
  peer-loses_nothing = record {
    objects = same-grew peer files now objects;
    heads = λ on mine id is head name stands low. elim (after on id is) [
      | inl same ↦ record { head = head; is_head = same ∙ stands; below = subst (λ (o : Objects). IsBelow o (head ∷ []) name) (sym objects) low }
      | inr set ↦ record { head = w.head; is_head = set.2; below = below head name (before on id set.0 set.1 ∙ stands) low }
    ];
    clocks = λ which. omega (arith, clock_at-ref_write files peer of w.id w.head which);
  }

-- ---- over the writes of a push

module _ (own peer : List ℕ) (files : Files) (change : Change) where
  -- each write keeps each part that both folders have
  push-keeps : (part : Part) → HasPart part own files → HasPart part peer files → PushWrites own peer files change → HasPart part peer (written files change)
  push-keeps part ours has (inl puts) = put-keeps peer files change puts part has
  push-keeps part ours has (inr head) = subst (λ (c : Change). HasPart part peer (written files c)) (sym head.set.write) (peer-keeps own peer files change head.set head.people part ours has)

  -- and loses nothing of the peer
  push-loses_nothing : PushWrites own peer files change → LosesNothing peer files (written files change)
  push-loses_nothing (inl puts) = put-loses_nothing peer files change puts
  push-loses_nothing (inr head) = subst (λ (c : Change). LosesNothing peer files (written files c)) (sym head.set.write) (peer-loses_nothing own peer files change head.set)

module _ (own peer : List ℕ) (old new : History) (apart : Overlap own peer → ⊥) (wrote : Wrote (PushWrites own peer) old new) where
  -- a push keeps each part that both folders have, since it leaves the own folder as it was
  pub push_keeps_parts : KeepsPartsFrom own peer old new
  push_keeps_parts part ours theirs =
      let both = AllMoments-from_Wrote (PushWrites own peer) (λ (files : Files). HasPart part own files × HasPart part peer files)
      (λ files change has may. (
        part-stays own files (written files change) (stay-apart own peer apart files change (push-place own peer files change may)) part has.0,
        push-keeps own peer files change part has.0 has.1 may,
      )) old new (ours, theirs) wrote in
      record { grew = both.grew; each = λ moment at. (both.each moment at).1 }

-- so a sound peer stays sound, if the own folder is sound
pub push_keeps_sound : (own peer : List ℕ) (old new : History) → KeepsPartsFrom own peer old new → IsSound own (files_of old) → IsSound peer (files_of old) → AllMoments (IsSound peer) old new
push_keeps_sound own peer old new keeps ours theirs = record {
  grew = (keeps parts.Objects (ours parts.Objects) (theirs parts.Objects)).grew;
  each = λ moment at part. (keeps part (ours part) (theirs part)).each moment at;
}

-- a push loses nothing of the peer, even where the folders overlap
pub push_loses_nothing : (own peer : List ℕ) (old new : History) → Wrote (PushWrites own peer) old new → AllMoments (LosesNothing peer (files_of old)) old new
push_loses_nothing own peer old new wrote =
    AllMoments-from_Wrote (PushWrites own peer) (LosesNothing peer (files_of old))
    (λ files change so_far may. LosesNothing-then peer (files_of old) files (written files change) so_far (push-loses_nothing own peer files change may)) old new
    (LosesNothing-none peer (files_of old)) wrote
