-- Each kind of write keeps each part of a sound folder.
use Rattle.std.proofs.Common.{◌≡◌, ◌≢◌, ◌⊎◌, inl, inr, ℕ, List, IsTrue, Option, Some, None, option_and_then, refl, sym, ◌∙◌, ap, subst}
use Rattle.gb_text.specs.Digits.{IsId, IsName}
use Rattle.gb_text.specs.Folder.{joined}
use Rattle.gb_text.specs.declared.id.Id.{Id}
use Rattle.gb_text.specs.declared.id.Name.{Name}
use Rattle.gb_store.specs.Files.{Files, History, files_of, written}
use Rattle.gb_store.specs.Moments.{AllMoments, Wrote}
use Rattle.gb_store.specs.ObjectPath.{object_place}
use Rattle.gb_store.specs.declared.store.Change.{Change}
use Rattle.gb_store.proofs.MomentLemmas.{AllMoments-from_Wrote}
use Rattle.git_object.specs.declared.object.Object.{Object}
use Rattle.git_object.specs.Grammar.{object_name}
use Rattle.git_object.specs.Reading.{object_of}
use Rattle.object_store.specs.Held.{Objects, named, object_at, objects_in}
use Rattle.object_store.specs.Puts.{object_write}
use Rattle.object_store.proofs.HeldLemmas.{object_at-held, object_at-is}
use Rattle.object_batch.specs.Needs.{AllHeld, PutsAfterNeeds}
use Rattle.git_object.proofs.NameLaws.{IsName-object_name}
use Rattle.object_store.proofs.PathLemmas.{path_name}
use Rattle.object_store.specs.Typed.{as_commit}
use Rattle.ref_store.specs.Refs.{Ref, Absent, Head, Bad}
use Rattle.ref_store.specs.Setting.{ref_write}
use Rattle.ref_store.proofs.MapLemmas.{written-other, written-same}
use Rattle.object_store.specs.Growth.{OnlyGrew}
use Rattle.identity.specs.Persons.{IsChain}
use Rattle.identity.proofs.ExtendLemmas.{chain_stays}
use Rattle.object_store.proofs.GrowthLemmas.{object_stays, stays}
use Rattle.lamport.specs.Clock.{seen_by}
use Rattle.excerpt_cache.specs.Rows.{row_place, row_write}
use Rattle.repo_state.specs.Clocks.{clock_at, clock_place, clock_write}
use Rattle.repo_state.specs.Rows.{stored_row}
use Rattle.repo_state.specs.Sides.{has_ref, head_at, is_there, ref_place}
use Rattle.repo_state.specs.Sound.{AreWhole, HasKnownAuthors, HasNoFault, HasPackedRefs, HasSoundBugs, HasSoundIdentities, HasSoundTracking, HasSoundUser, HasPart, HasWholeObjects, IsAuthoredBug, IsSound, IsSoundBug, IsSoundIdentity, IsSoundTracking, IsTrueRow, KeepsParts, Part}
use Rattle.repo_state.specs.Sound as parts
use Rattle.repo_state.specs.Users.{user_place, user_write}
use Rattle.repo_state.specs.declared.side.Side.{Side}
use Rattle.repo_state.specs.declared.side.Side.TheVariants as side
use Rattle.repo_state.proofs.IdLemmas.{IsId-chain}
use Rattle.repo_state.proofs.KindLemmas.{head_at-clock_write, head_at-object_write, head_at-other_side, head_at-ref_write, head_at-row_write, head_at-user_write, objects-clock_write, objects-ref_write, objects-row_write, objects-user_write, stored_row-clock_write, stored_row-object_write, stored_row-ref_write, stored_row-row_write, stored_row-user_write, user_at-put, user_at-row_write, user_at-set, written-free}
use Rattle.repo_state.proofs.PlaceLemmas.{clock-not_packed, clock-not_user, object-not_packed, ref-not_packed, ref-not_user, row-not_packed, same_or_other, user-not_object, user-not_packed}
use Rattle.ref_store.specs.Refs.{packed_place}
use Rattle.ref_store.proofs.FrameLemmas.{packed_reads-other}
use Rattle.repo_writes.specs.Kinds.{IsBugHeadWrite, IsClockWrite, IsIdentityHeadWrite, IsObjectWrite, IsPlace, IsRowWrite, IsUserWrite, IsWrite, a_bug_head, a_clock, a_clock_place, a_ref_place, a_row, a_row_place, a_user, an_identity_head, an_object, an_object_place, the_user_place}
use Rattle.repo_writes.proofs.SoundBugLemmas.{HasNoFault-grew, IsTrueRow-grew, authored-grew, bug-grew}
use Rattle.row_text.specs.Rows.{row_text}
use Rattle.row_text.specs.declared.row.HeadRow.{HeadRow}

-- ---- objects that grew

-- no object more
same-grew : (old new : Objects) → new ≡ old → OnlyGrew old new
same-grew old new same = record { stays = λ name text stands. ap (λ (objects : Objects). objects name) same ∙ stands }

-- a put where nothing stood only adds
put-grew : (files : Files) (folder text : List ℕ) → objects_in files folder (object_name text) ≡ None → OnlyGrew (objects_in files folder) (objects_in (written files (object_write folder text)) folder)
put-grew files folder text free = record {
  stays = λ name found stands. written-free files (object_write folder text) (joined folder (object_place name)) found free stands;
}

module _ (old new : Objects) (grew : OnlyGrew old new) where
  -- what was held as of a kind is
  AllHeld-grew : (object : Object) → AllHeld old object → AllHeld new object
  AllHeld-grew object held = λ name kind names.
      let was = held name kind names in
      record { object = was.object; is = object_stays old new grew name was.object was.is; is_kind = was.is_kind }

  -- a sound identity stays sound
  identity-grew : (id : Id) (ref : Ref) → IsSoundIdentity old id ref → IsSoundIdentity new id ref
  identity-grew id Absent sound = tt
  identity-grew id (Head head) sound = (chain_stays old new grew id head sound).0
  identity-grew id Bad sound = sound

  -- and so does a tracking ref
  tracking-grew : (ref : Ref) → IsSoundTracking old ref → IsSoundTracking new ref
  tracking-grew Absent sound = tt
  tracking-grew (Head head) sound = (sound.0, stays old new grew as_commit head sound.0 sound.1)
  tracking-grew Bad sound = sound

-- ---- one object more

-- a name that is not that of the text stands as before
put-other : (files : Files) (folder text : List ℕ) (name : Name) → IsName name
    → (object_name text ≡ name) ⊎ (objects_in (written files (object_write folder text)) folder name ≡ objects_in files folder name)
put-other files folder text name is = elim (same_or_other (joined folder (object_place (object_name text))) (joined folder (object_place name))) [
  | inl path ↦ inl (path_name folder (object_name text) name (IsName-object_name text) is path)
  | inr differ ↦ inr (written-other files (object_write folder text) (joined folder (object_place name)) differ)
]

-- whole objects are whole with one more, put after all that it names
put-whole : (files : Files) (folder : List ℕ) (texts : List (List ℕ)) (change : Change) → (put : PutsAfterNeeds folder texts files change)
    → HasWholeObjects folder files → HasWholeObjects folder (written files (object_write folder put.text))
put-whole files folder texts change put whole = record { held = held; whole = record { needs = needs } }
  where
    old : Objects
    old = objects_in files folder

    new : Objects
    new = objects_in (written files (object_write folder put.text)) folder

    grew : OnlyGrew old new
    grew = put-grew files folder put.text put.free

    own : object_at new (object_name put.text) ≡ Some put.object
    own = object_at-held new (object_name put.text) put.object
        (record { text = put.text; stands = written-same files (object_write folder put.text); within = put.within; is_named = refl; is = put.is })

    held : (name : Name) (text : List ℕ) → IsName name → new name ≡ Some text → (object : Object) × (object_at new name ≡ Some object)
    held name text is stands = at (put-other files folder put.text name is)
      where
        at : (object_name put.text ≡ name) ⊎ (new name ≡ old name) → (object : Object) × (object_at new name ≡ Some object)
        at (inl e) = (put.object, ap (object_at new) (sym e) ∙ own)
        at (inr same) = let was = whole.held name text is (sym same ∙ stands) in (was.0, object_stays old new grew name was.0 was.1)

    needs : (name : Name) (object : Object) → object_at new name ≡ Some object → AllHeld new object
    needs name object found = at (put-other files folder put.text name (subst IsName (object_at-is new name object found).is_named (IsName-object_name (object_at-is new name object found).text)))
      where
        at : (object_name put.text ≡ name) ⊎ (new name ≡ old name) → AllHeld new object
        at (inl e) =
            let both : Some put.object ≡ Some object = sym own ∙ ap (object_at new) e ∙ found in
            let same : put.object ≡ object = cc in
            subst (AllHeld new) same (AllHeld-grew old new grew put.object put.needs)
        at (inr same) =
            AllHeld-grew old new grew object
            (whole.whole.needs name object (ap (λ (o : Option (List ℕ)). option_and_then object_of (option_and_then (named name) o)) (sym same) ∙ found))

-- ---- each kind of write

module _ (folder : List ℕ) (files : Files) (change : Change) where
  -- what a write of a clock sets it to
  abbrev pub clock_after : IsClockWrite folder files change → ℕ
  clock_after w = seen_by (clock_at files folder w.which) w.number

  -- what holds after each kind of write holds after each write
  pub by_kind : (P : Change → Type 0)
      → ((w : IsObjectWrite folder files change) → P (object_write folder w.puts.text))
      → ((w : IsIdentityHeadWrite folder files change) → P (ref_write folder (ref_place side.Identities w.id) w.head))
      → ((w : IsUserWrite folder files change) → P (user_write folder w.id))
      → ((w : IsBugHeadWrite folder files change) → P (ref_write folder (ref_place side.Bugs w.id) w.head))
      → ((w : IsClockWrite folder files change) → P (clock_write folder w.which (clock_after w)))
      → ((w : IsRowWrite folder files change) → P (row_write folder w.id (row_text w.row)))
      → IsWrite folder files change → P change
  by_kind P object head user bug clock row (an_object w) = subst P (sym w.puts.write) (object w)
  by_kind P object head user bug clock row (an_identity_head w) = subst P (sym w.write) (head w)
  by_kind P object head user bug clock row (a_user w) = subst P (sym w.write) (user w)
  by_kind P object head user bug clock row (a_bug_head w) = subst P (sym w.write) (bug w)
  by_kind P object head user bug clock row (a_clock w) = subst P (sym w.write) (clock w)
  by_kind P object head user bug clock row (a_row w) = subst P (sym w.write) (row w)

  -- objects are only added
  pub write-grew : IsWrite folder files change → OnlyGrew (objects_in files folder) (objects_in (written files change) folder)
  write-grew = by_kind (λ (c : Change). OnlyGrew (objects_in files folder) (objects_in (written files c) folder))
      (λ w. put-grew files folder w.puts.text w.puts.free)
      (λ w. same-grew (objects_in files folder) (objects_in (written files (ref_write folder (ref_place side.Identities w.id) w.head)) folder) (objects-ref_write files folder side.Identities w.id w.head))
      (λ w. same-grew (objects_in files folder) (objects_in (written files (user_write folder w.id)) folder) (objects-user_write files folder w.id))
      (λ w. same-grew (objects_in files folder) (objects_in (written files (ref_write folder (ref_place side.Bugs w.id) w.head)) folder) (objects-ref_write files folder side.Bugs w.id w.head))
      (λ w. same-grew (objects_in files folder) (objects_in (written files (clock_write folder w.which (clock_after w))) folder) (objects-clock_write files folder w.which (clock_after w)))
      (λ w. same-grew (objects_in files folder) (objects_in (written files (row_write folder w.id (row_text w.row))) folder) (objects-row_write files folder w.id (row_text w.row)))

  -- the ref of an identity reads as before, or the write set it to the head that it reads as
  pub identity-after : (id : Id) → IsId id → IsWrite folder files change
      → (head_at (written files change) folder side.Identities id ≡ head_at files folder side.Identities id)
      ⊎ ((w : IsIdentityHeadWrite folder files change) × (w.id ≡ id) × (head_at (written files change) folder side.Identities id ≡ Head w.head))
  identity-after id is = by_kind
      (λ (c : Change). (head_at (written files c) folder side.Identities id ≡ head_at files folder side.Identities id)
      ⊎ ((w : IsIdentityHeadWrite folder files change) × (w.id ≡ id) × (head_at (written files c) folder side.Identities id ≡ Head w.head)))
      (λ w. inl (head_at-object_write files folder w.puts.text side.Identities id))
      (λ w. elim (head_at-ref_write files folder side.Identities w.id id w.head (IsId-chain (objects_in files folder) w.id w.head w.chain) is w.is_name) [
        | inl same ↦ inl same
        | inr set ↦ inr (w, set.0, set.1)
      ])
      (λ w. inl (head_at-user_write files folder side.Identities id w.id))
      (λ w. inl (head_at-other_side files folder side.Bugs side.Identities w.id id w.head (λ e. cc e)))
      (λ w. inl (head_at-clock_write files folder side.Identities id w.which (clock_after w)))
      (λ w. inl (head_at-row_write files folder side.Identities id w.id (row_text w.row)))

  -- an identity's ref that stands still stands
  identity-stands : IsWrite folder files change → (id : Id) → IsId id
      → IsTrue (has_ref files folder side.Identities id) → IsTrue (has_ref (written files change) folder side.Identities id)
  identity-stands wrote id is stands = elim (identity-after id is wrote) [
    | inl same ↦ ap is_there same ∙ stands
    | inr set ↦ ap is_there set.2
  ]

  -- the ref of a bug reads as before, or the write set it to the head that it reads as
  pub bug-after : (id : Id) → IsId id → IsWrite folder files change
      → (head_at (written files change) folder side.Bugs id ≡ head_at files folder side.Bugs id)
      ⊎ ((w : IsBugHeadWrite folder files change) × (w.id ≡ id) × (head_at (written files change) folder side.Bugs id ≡ Head w.head))
  bug-after id is = by_kind
      (λ (c : Change). (head_at (written files c) folder side.Bugs id ≡ head_at files folder side.Bugs id)
      ⊎ ((w : IsBugHeadWrite folder files change) × (w.id ≡ id) × (head_at (written files c) folder side.Bugs id ≡ Head w.head)))
      (λ w. inl (head_at-object_write files folder w.puts.text side.Bugs id))
      (λ w. inl (head_at-other_side files folder side.Identities side.Bugs w.id id w.head (λ e. cc e)))
      (λ w. inl (head_at-user_write files folder side.Bugs id w.id))
      (λ w. elim (head_at-ref_write files folder side.Bugs w.id id w.head w.is_id is w.is_name) [
        | inl same ↦ inl same
        | inr set ↦ inr (w, set.0, set.1)
      ])
      (λ w. inl (head_at-clock_write files folder side.Bugs id w.which (clock_after w)))
      (λ w. inl (head_at-row_write files folder side.Bugs id w.id (row_text w.row)))

  -- a tracking ref reads as before
  other-after : (of : Side) (id : Id) → side.Identities ≢ of → side.Bugs ≢ of → IsWrite folder files change
      → head_at (written files change) folder of id ≡ head_at files folder of id
  other-after of id other also = by_kind (λ (c : Change). head_at (written files c) folder of id ≡ head_at files folder of id)
      (λ w. head_at-object_write files folder w.puts.text of id)
      (λ w. head_at-other_side files folder side.Identities of w.id id w.head other)
      (λ w. head_at-user_write files folder of id w.id)
      (λ w. head_at-other_side files folder side.Bugs of w.id id w.head also)
      (λ w. head_at-clock_write files folder of id w.which (clock_after w))
      (λ w. head_at-row_write files folder of id w.id (row_text w.row))

  -- the stored row of a bug is as before, or the write set it to the row that it is
  pub row-after : (id : Id) → IsId id → IsWrite folder files change
      → (stored_row (written files change) folder id ≡ stored_row files folder id)
      ⊎ ((w : IsRowWrite folder files change) × (w.id ≡ id) × (stored_row (written files change) folder id ≡ Some w.row))
  row-after id is = by_kind
      (λ (c : Change). (stored_row (written files c) folder id ≡ stored_row files folder id)
      ⊎ ((w : IsRowWrite folder files change) × (w.id ≡ id) × (stored_row (written files c) folder id ≡ Some w.row)))
      (λ w. inl (stored_row-object_write files folder w.puts.text id))
      (λ w. inl (stored_row-ref_write files folder side.Identities w.id id w.head))
      (λ w. inl (stored_row-user_write files folder w.id id))
      (λ w. inl (stored_row-ref_write files folder side.Bugs w.id id w.head))
      (λ w. inl (stored_row-clock_write files folder w.which (clock_after w) id))
      (λ w. elim (stored_row-row_write files folder w.id id w.row w.is_id is w.fits) [
        | inl same ↦ inl same
        | inr set ↦ inr (w, set.0, set.1)
      ])

  -- ---- the parts of a sound folder

  -- its objects stay whole
  keeps-whole : HasWholeObjects folder files → IsWrite folder files change → HasWholeObjects folder (written files change)
  keeps-whole whole = by_kind (λ (c : Change). HasWholeObjects folder (written files c))
      (λ w. put-whole files folder _ change w.puts whole)
      (λ w. subst AreWhole (sym (objects-ref_write files folder side.Identities w.id w.head)) whole)
      (λ w. subst AreWhole (sym (objects-user_write files folder w.id)) whole)
      (λ w. subst AreWhole (sym (objects-ref_write files folder side.Bugs w.id w.head)) whole)
      (λ w. subst AreWhole (sym (objects-clock_write files folder w.which (clock_after w))) whole)
      (λ w. subst AreWhole (sym (objects-row_write files folder w.id (row_text w.row))) whole)

  -- its identities stay sound
  keeps-identities : HasSoundIdentities folder files → IsWrite folder files change → HasSoundIdentities folder (written files change)
  keeps-identities sound wrote = λ id is. elim (identity-after id is wrote) [
    | inl same ↦ subst (IsSoundIdentity (objects_in (written files change) folder) id) (sym same) (identity-grew _ _ (write-grew wrote) id _ (sound id is))
    | inr set ↦ subst (IsSoundIdentity (objects_in (written files change) folder) id) (sym set.2)
        (chain_stays _ _ (write-grew wrote) id set.0.head (subst (λ (i : Id). IsChain (objects_in files folder) i set.0.head) set.1 set.0.chain)).0
  ]

  -- its bugs stay sound
  keeps-bugs : HasSoundBugs folder files → IsWrite folder files change → HasSoundBugs folder (written files change)
  keeps-bugs sound wrote = λ id is. elim (bug-after id is wrote) [
    | inl same ↦ subst (IsSoundBug (objects_in (written files change) folder) id) (sym same) (bug-grew _ _ (write-grew wrote) id _ (sound id is))
    | inr set ↦ subst (IsSoundBug (objects_in (written files change) folder) id) (sym set.2)
        (HasNoFault-grew _ _ (write-grew wrote) id set.0.head (subst (λ (i : Id). HasNoFault (objects_in files folder) i set.0.head) set.1 set.0.no_fault))
  ]

  -- their authors stay local identities
  keeps-authors : HasKnownAuthors folder files → IsWrite folder files change → HasKnownAuthors folder (written files change)
  keeps-authors sound wrote = λ id is. elim (bug-after id is wrote) [
    | inl same ↦ subst (IsAuthoredBug folder (written files change) id) (sym same) (authored-grew folder files (written files change) (write-grew wrote) (identity-stands wrote) id _ (sound id is))
    | inr set ↦ subst (IsAuthoredBug folder (written files change) id) (sym set.2)
        (authored-grew folder files (written files change) (write-grew wrote) (identity-stands wrote) id (Head set.0.head)
        (subst (λ (i : Id). HasNoFault (objects_in files folder) i set.0.head) set.1 set.0.no_fault, set.0.authors))
  ]

  -- its tracking refs stay sound
  keeps-tracking : HasSoundTracking folder files → IsWrite folder files change → HasSoundTracking folder (written files change)
  keeps-tracking sound wrote = λ remote id is.
      let was = sound remote id is in (
        one (side.RemoteBugs remote) id (λ e. cc e) (λ e. cc e) was.0,
        one (side.RemoteIdentities remote) id (λ e. cc e) (λ e. cc e) was.1,
      )
    where
      one : (of : Side) (id : Id) → side.Identities ≢ of → side.Bugs ≢ of
          → IsSoundTracking (objects_in files folder) (head_at files folder of id) → IsSoundTracking (objects_in (written files change) folder) (head_at (written files change) folder of id)
      one of id other also was = subst (IsSoundTracking (objects_in (written files change) folder)) (sym (other-after of id other also wrote)) (tracking-grew _ _ (write-grew wrote) _ was)

  -- its user file names a local identity still
  keeps-user : HasSoundUser folder files → IsWrite folder files change → HasSoundUser folder (written files change)
  keeps-user sound = by_kind (λ (c : Change). HasSoundUser folder (written files c))
      (λ w bad. sound (sym (user_at-put files folder (joined folder (object_place (object_name w.puts.text))) w.puts.text (λ e. user-not_object folder (object_name w.puts.text) (sym e)) (object-not_packed folder (object_name w.puts.text)) sound) ∙ bad))
      (λ w bad. sound (sym (user_at-put files folder (joined folder (ref_place side.Identities w.id)) _ (ref-not_user folder side.Identities w.id) (ref-not_packed folder side.Identities w.id) sound) ∙ bad))
      (λ w bad. cc (sym (user_at-set files folder w.id w.is_id w.stands) ∙ bad))
      (λ w bad. sound (sym (user_at-put files folder (joined folder (ref_place side.Bugs w.id)) _ (ref-not_user folder side.Bugs w.id) (ref-not_packed folder side.Bugs w.id) sound) ∙ bad))
      (λ w bad. sound (sym (user_at-put files folder (joined folder (clock_place w.which)) _ (clock-not_user folder w.which) (clock-not_packed folder w.which) sound) ∙ bad))
      (λ w bad. sound (sym (user_at-row_write files folder w.id (row_text w.row)) ∙ bad))

  -- its rows stay true
  keeps-rows : HasPart parts.Rows folder files → IsWrite folder files change → HasPart parts.Rows folder (written files change)
  keeps-rows has wrote = (
    keeps-bugs has.0 wrote,
    λ id is row stored. elim (row-after id is wrote) [
      | inl same ↦ grown id row (has.1 id is row (sym same ∙ stored))
      | inr set ↦
          let both : Some set.0.row ≡ Some row = sym set.2 ∙ stored in
          let is_row : set.0.row ≡ row = cc in
          subst (λ (r : HeadRow). IsTrueRow (objects_in (written files change) folder) id r) is_row
          (grown id set.0.row (subst (λ (i : Id). IsTrueRow (objects_in files folder) i set.0.row) set.1 (set.0.is_true has)))
    ],
  )
    where
      grown : (id : Id) (row : HeadRow) → IsTrueRow (objects_in files folder) id row → IsTrueRow (objects_in (written files change) folder) id row
      grown id row was = IsTrueRow-grew _ _ (write-grew wrote) id row was

  -- its packed refs read as before
  keeps-packed : HasPackedRefs folder files → IsWrite folder files change → HasPackedRefs folder (written files change)
  keeps-packed has wrote = packed_reads-other files change folder (other wrote) ∙ has
    where
      other : IsWrite folder files change → change.path ≢ joined folder packed_place
      other (an_object w) same = object-not_packed folder (object_name w.puts.text) (sym (ap (λ (c : Change). c.path) w.puts.write) ∙ same)
      other (an_identity_head w) same = ref-not_packed folder side.Identities w.id (sym (ap (λ (c : Change). c.path) w.write) ∙ same)
      other (a_user w) same = user-not_packed folder (sym (ap (λ (c : Change). c.path) w.write) ∙ same)
      other (a_bug_head w) same = ref-not_packed folder side.Bugs w.id (sym (ap (λ (c : Change). c.path) w.write) ∙ same)
      other (a_clock w) same = clock-not_packed folder w.which (sym (ap (λ (c : Change). c.path) w.write) ∙ same)
      other (a_row w) same = row-not_packed folder w.id (sym (ap (λ (c : Change). c.path) w.write) ∙ same)

  -- each part stays
  pub keeps-part : (part : Part) → HasPart part folder files → IsWrite folder files change → HasPart part folder (written files change)
  keeps-part parts.Objects = keeps-whole
  keeps-part parts.Identities = keeps-identities
  keeps-part parts.Bugs = keeps-bugs
  keeps-part parts.Authors = keeps-authors
  keeps-part parts.Tracking = keeps-tracking
  keeps-part parts.User = keeps-user
  keeps-part parts.Rows = keeps-rows
  keeps-part parts.Packed = keeps-packed

  -- ---- where is written

  -- each write has a place below the folder
  pub write-place : IsWrite folder files change → (place : List ℕ) × IsPlace place × (change.path ≡ joined folder place)
  write-place (an_object w) =
      (object_place (object_name w.puts.text), an_object_place (object_name w.puts.text) (IsName-object_name w.puts.text), ap (λ (c : Change). c.path) w.puts.write)
  write-place (an_identity_head w) = (
    ref_place side.Identities w.id,
    a_ref_place side.Identities w.id (IsId-chain (objects_in files folder) w.id w.head w.chain),
    ap (λ (c : Change). c.path) w.write,
  )
  write-place (a_user w) = (user_place, the_user_place, ap (λ (c : Change). c.path) w.write)
  write-place (a_bug_head w) = (ref_place side.Bugs w.id, a_ref_place side.Bugs w.id w.is_id, ap (λ (c : Change). c.path) w.write)
  write-place (a_clock w) = (clock_place w.which, a_clock_place w.which, ap (λ (c : Change). c.path) w.write)
  write-place (a_row w) = (row_place w.id, a_row_place w.id w.is_id, ap (λ (c : Change). c.path) w.write)

-- what is written by kinds keeps each part at each moment
pub keeps_parts : (folder : List ℕ) (old new : History) → Wrote (IsWrite folder) old new → KeepsParts folder old new
keeps_parts folder old new wrote = λ part good. AllMoments-from_Wrote (IsWrite folder) (HasPart part folder) (λ files change has may. keeps-part folder files change part has may) old new good wrote

-- what keeps each part keeps a sound folder sound
pub keeps_sound : (folder : List ℕ) (old new : History) → KeepsParts folder old new → IsSound folder (files_of old) → AllMoments (IsSound folder) old new
keeps_sound folder old new keeps good = record {
  grew = (keeps parts.Objects (good parts.Objects)).grew;
  each = λ moment at part. (keeps part (good part)).each moment at;
}
