-- A bug that gets a head: the objects, the ref and the clocks are written, each by its kind.
use Rattle.std.proofs.Common.{◌≡◌, ℕ, List, [], ◌∷◌, ◌++◌, reverse, Option, Some, None, inr, refl, sym, ◌∙◌, ap, subst, append_assoc}
use Rattle.std.proofs.lemmas.List.{reverse-append}
use Rattle.ref_store.proofs.MapLemmas.{set_ref_reads}
use Rattle.repo_state.specs.Bugs.{IsBug}
use Rattle.repo_state.specs.declared.clocks.ClockFile.TheVariants as file
use Rattle.repo_state.specs.declared.side.Side.TheVariants as side
use Rattle.repo_state.proofs.BugSoundLemmas.{EachIsLocal-over, bug_authors_local, bug_has_no_fault}
use Rattle.repo_state.proofs.KindLemmas.{clock_at-ref_write, objects-ref_write}
use Rattle.repo_writes.specs.Kinds.{IsUnder, a_bug_head, an_object, ref_to}
use Rattle.merge_steps.proofs.Names.{IsId, IsName, Id, Name, History, files_of, Wrote, Change, Wrote-one, Wrote-then, Wrote-wider, Objects, objects_after, objects_in, missing_writes, PutsAfterNeeds, Head, ref_write, bug_kind, BugOp, IsEntity, IsRootClock, edit_at, Entity, IsHeadAt, EachIsLocal, clock_at, see_writes, head_at, ref_place, ClockFile, HeadEntry, Side, IsWrite, merged_writes}
use Rattle.merge_steps.proofs.ClockLemmas.{Seen, seen, seen_wrote}
use Rattle.merge_steps.proofs.JoinedLemmas.{put}
use Rattle.merge_steps.proofs.LeaveLemmas.{puts_leave_clocks, puts_leave_heads}

-- what a ref is whose head is this, or none
pub is_ref_to : (files : History) (folder : List ℕ) (of : Side) (id : Id) (local : Option Name) → IsHeadAt (files_of files) folder of id local → head_at (files_of files) folder of id ≡ ref_to local
is_ref_to old folder of id None is = is
is_ref_to old folder of id (Some name) is = is

-- writes behind others
pub behind : (first more : List Change) (old : History) → reverse (first ++ more) ++ old ≡ reverse more ++ (reverse first ++ old)
behind first more old = ap (λ (ws : List Change). ws ++ old) (reverse-append first more) ∙ append_assoc (reverse more) (reverse first) old

-- the objects of a head may be put, and the head is a valid one over the local one then
pub record IsReady (folder : List ℕ) (id : Id) (local : Option Name) (head : Name) (authors : List Id) (edit create : ℕ) (texts : List (List ℕ)) (old : History) : Type 0 where
  pub objects : Wrote (PutsAfterNeeds folder texts) old (put folder texts old)
  pub is_name : IsName head
  pub under : IsUnder (objects_after (put folder texts old) folder) local head
  pub entity : Entity BugOp
  pub is : IsEntity bug_kind (objects_after (put folder texts old) folder) id (head ∷ []) authors entity
  pub edit_is : edit_at (objects_after (put folder texts old) folder) head ≡ Some edit
  pub create_is : IsRootClock bug_kind (objects_after (put folder texts old) folder) (head ∷ []) create

module _ (folder : List ℕ) (id : Id) (head : Name) (edit create : ℕ) (texts : List (List ℕ)) (old : History) where
  abbrev stood : History
  stood = put folder texts old

  abbrev write : Change
  write = ref_write folder (ref_place side.Bugs id) head

  -- the head is set behind the objects
  abbrev set : History
  set = write ∷ stood

  -- then the clocks are seen
  abbrev created : History
  created = reverse (see_writes folder file.BugsCreate (clock_at (files_of old) folder file.BugsCreate) create) ++ set

  abbrev pub after_head : History
  after_head = reverse (see_writes folder file.BugsEdit (clock_at (files_of old) folder file.BugsEdit) edit) ++ created

  -- these are the writes
  pub all_writes : reverse (merged_writes folder id head edit create texts (files_of old)) ++ old ≡ after_head
  all_writes =
      let creates = see_writes folder file.BugsCreate (clock_at (files_of old) folder file.BugsCreate) create in
      let edits = see_writes folder file.BugsEdit (clock_at (files_of old) folder file.BugsEdit) edit in
      behind (missing_writes folder texts (files_of old)) (write ∷ (creates ++ edits)) old
      ∙ behind (write ∷ []) (creates ++ edits) stood
      ∙ behind creates edits set

  create_seen : Seen folder file.BugsCreate set created
  create_seen = seen folder file.BugsCreate create set (clock_at (files_of old) folder file.BugsCreate)

  edit_seen : Seen folder file.BugsEdit created after_head
  edit_seen = seen folder file.BugsEdit edit created (clock_at (files_of old) folder file.BugsEdit)

  -- the ref has the head then
  pub head_then : IsName head → head_at (files_of after_head) folder side.Bugs id ≡ Head head
  head_then is_name = edit_seen.heads side.Bugs id ∙ create_seen.heads side.Bugs id ∙ set_ref_reads (files_of stood) folder (ref_place side.Bugs id) head is_name

  -- and the objects are those that were put
  pub objects_then : objects_in (files_of after_head) folder ≡ objects_in (files_of stood) folder
  objects_then = edit_seen.objects ∙ create_seen.objects ∙ objects-ref_write (files_of stood) folder side.Bugs id head

  module _ (is_id : IsId id) (local : Option Name) (is_local : IsHeadAt (files_of old) folder side.Bugs id local) (authors : List Id) (locals : EachIsLocal (files_of old) folder authors)
      (ready : IsReady folder id local head authors edit create texts old) where
    abbrev bug : HeadEntry
    bug = record { id = id; name = head }

    heads_kept : (of : Side) (one : Id) → head_at (files_of stood) folder of one ≡ head_at (files_of old) folder of one
    heads_kept = puts_leave_heads folder texts old stood ready.objects

    clocks_kept : (which : ClockFile) → clock_at (files_of set) folder which ≡ clock_at (files_of old) folder which
    clocks_kept which = clock_at-ref_write (files_of stood) folder side.Bugs id head which ∙ puts_leave_clocks folder texts old stood ready.objects which

    is_bug : IsBug (files_of stood) folder bug ready.entity
    is_bug = record { authors = authors; locals = EachIsLocal-over folder (files_of old) (files_of stood) (heads_kept side.Identities) authors locals; is = ready.is }

    set_wrote : Wrote (IsWrite folder) old set
    set_wrote = Wrote-then (IsWrite folder) old stood set
        (Wrote-wider (PutsAfterNeeds folder texts) (IsWrite folder) old stood (λ files change puts. an_object (record { texts = texts; puts = puts })) ready.objects)
        (Wrote-one (IsWrite folder) write stood set
        (a_bug_head (record {
          id = id;
          is_id = is_id;
          head = head;
          is_name = ready.is_name;
          present = local;
          is_present = heads_kept side.Bugs id ∙ is_ref_to old folder side.Bugs id local is_local;
          below = ready.under;
          no_fault = bug_has_no_fault (files_of stood) folder bug ready.entity is_bug;
          authors = bug_authors_local (files_of stood) folder bug ready.entity is_bug;
          write = refl;
        })) (inr refl))

    reads : head_at (files_of set) folder side.Bugs id ≡ Head head
    reads = set_ref_reads (files_of stood) folder (ref_place side.Bugs id) head ready.is_name

    set_objects : objects_in (files_of set) folder ≡ objects_in (files_of stood) folder
    set_objects = objects-ref_write (files_of stood) folder side.Bugs id head

    create_wrote : Wrote (IsWrite folder) set created
    create_wrote = seen_wrote folder file.BugsCreate create set bug is_id reads
        (subst (λ (o : Objects). IsRootClock bug_kind o (head ∷ []) create) (sym set_objects) ready.create_is) (clock_at (files_of old) folder file.BugsCreate) (clocks_kept file.BugsCreate)

    edit_wrote : Wrote (IsWrite folder) created after_head
    edit_wrote = seen_wrote folder file.BugsEdit edit created bug is_id (create_seen.heads side.Bugs id ∙ reads)
        (ap (λ (o : Objects). edit_at o head) (create_seen.objects ∙ set_objects) ∙ ready.edit_is) (clock_at (files_of old) folder file.BugsEdit)
        (create_seen.other file.BugsEdit (λ e. cc e) ∙ clocks_kept file.BugsEdit)

    -- each write is of its kind
    pub ready_wrote : Wrote (IsWrite folder) old (reverse (merged_writes folder id head edit create texts (files_of old)) ++ old)
    ready_wrote = subst (Wrote (IsWrite folder) old) (sym all_writes)
        (Wrote-then (IsWrite folder) old created after_head (Wrote-then (IsWrite folder) old set created set_wrote create_wrote) edit_wrote)
