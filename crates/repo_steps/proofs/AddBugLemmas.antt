-- A commit that is added to a bug, by its writes alone.
use Rattle.std.proofs.Common.{◌≡◌, ◌≢◌, ◌<◌, ◌≤◌, ◌^◌, ℕ, Bool, true, false, List, [], ◌∷◌, ◌++◌, reverse, Option, Some, inl, inr, refl, sym, ◌∙◌, ap, subst, arith, ltb-true}
use Rattle.std.specs.Prelude.{nat_lt}
use Rattle.std.specs.List.{AllByRecursion}
use Rattle.std.proofs.lemmas.Bool.{cases_lt, lt-ltb}
use Rattle.std.proofs.lemmas.List.{reverse-append}
use Rattle.repo_steps.proofs.Names.{encode_lower, IsId, joined, Id, Name, Files, History, files_of, Wrote, Change, Wrote-none, Wrote-one, Wrote-then, Wrote-wider, IsName-object_name, objects_after, objects_in, MayBePut, missing_writes, PutsAfterNeeds, Head, ref_write, set_ref_reads, written-other, seen_by, bug_kind, bug_keeps_laws, BugOp, AreHeld, CanBeRead, MayBeAppended, appended_node, IsEntity, Entity, Loaded, EachIsLocal, IsBug, clock_at, clock_in, clock_place, clock_write, see_writes, head_at, ref_place, ClockFile, Env, HeadEntry, Side, IsBug-over, clock_at-capped, objects-ref_write, clock-not_object, ref-not_clock, ref-not_object, addition_head, addition_objects, IsWrite, an_object, ref_to, OnlyChanges, Addition}
use Rattle.gb_text.specs.Digits.{IsName}
use Rattle.object_store.specs.Growth.{OnlyGrew}
use Rattle.object_batch.proofs.PlanLemmas.{batch_grew, batch_held}
use Rattle.dag_entity.specs.Appending.{after_append, commit_object}
use Rattle.dag_entity.specs.Nodes.{IsNode}
use Rattle.dag_entity.proofs.AppendedLemmas.{append_needed, node_stands, pack_reads, parent_names}
use Rattle.repo_state.specs.declared.side.Side.TheVariants as side
use Rattle.repo_state.proofs.BugSoundLemmas.{EachIsLocal-over, bug_authors_local, bug_has_no_fault}
use Rattle.repo_state.proofs.KindLemmas.{clock_at-other, clock_at-set, head_at-clock_write, head_at-other_side, objects-clock_write}
use Rattle.repo_writes.specs.Kinds.{IsClockOf, IsUnder, a_bug_head, a_clock}
use Rattle.repo_steps.proofs.OnlyLemmas.{AddsObject, OnlyChanges-objects, OnlyChanges-put, OnlyChanges-then, head_kept}

-- a clock reads the same where only objects were added
clock_kept : (folder : List ℕ) (old new : Files) → OnlyChanges folder [] old new → (which : ClockFile) → clock_at new folder which ≡ clock_at old folder which
clock_kept folder old new only which = ap clock_in
    (only.others (joined folder (clock_place which)) (λ place among. absurd (omega (arith, among.1))) (λ is. clock-not_object folder which is.name is.is))

-- ---- a clock that sees a number

-- what is so after a clock of a folder saw a number
pub record Seen (folder : List ℕ) (which : ClockFile) (number : ℕ) (mid new : History) : Type 0 where
  pub clock : clock_at (files_of new) folder which ≡ seen_by (clock_at (files_of mid) folder which) number
  pub other : (two : ClockFile) → which ≢ two → clock_at (files_of new) folder two ≡ clock_at (files_of mid) folder two
  pub objects : objects_in (files_of new) folder ≡ objects_in (files_of mid) folder
  pub heads : (of : Side) (id : Id) → head_at (files_of new) folder of id ≡ head_at (files_of mid) folder of id
  pub only : OnlyChanges folder (clock_place which ∷ []) (files_of mid) (files_of new)
  pub wrote : Wrote (IsWrite folder) mid new

module _ (folder : List ℕ) (which : ClockFile) (number : ℕ) (mid : History) (bug : HeadEntry) (is_id : IsId bug.id) (is_head : head_at (files_of mid) folder side.Bugs bug.id ≡ Head bug.name)
    (is : IsClockOf which (objects_in (files_of mid) folder) bug.name number) where
  abbrev present : ℕ
  present = clock_at (files_of mid) folder which

  -- it rose
  rose : present < seen_by present number → Seen folder which number mid (clock_write folder which (seen_by present number) ∷ mid)
  rose rises = record {
    clock = clock_at-set (files_of mid) folder which (seen_by present number) (omega (arith, clock_at-capped (files_of mid) folder which));
    other = λ two differ. clock_at-other (files_of mid) folder which two (seen_by present number) differ;
    objects = objects-clock_write (files_of mid) folder which (seen_by present number);
    heads = λ of id. head_at-clock_write (files_of mid) folder of id which (seen_by present number);
    only = OnlyChanges-put folder (clock_place which) _ (files_of mid) (clock-not_object folder which);
    wrote = Wrote-one (IsWrite folder) (clock_write folder which (seen_by present number)) mid (clock_write folder which (seen_by present number) ∷ mid)
        (a_clock (record { bug = bug; is_id = is_id; is_head = is_head; which = which; number = number; is = is; rises = rises; write = refl })) (inr refl);
  }

  -- it stayed
  stayed : seen_by present number ≤ present → Seen folder which number mid mid
  stayed low = record {
    clock = let same : seen_by present number ≡ present = omega (arith, low) in sym same;
    other = λ two differ. refl;
    objects = refl;
    heads = λ of id. refl;
    only = record { objects = record { stays = λ name text stands. stands }; others = λ path apart none. refl };
    wrote = Wrote-none (IsWrite folder) mid mid refl;
  }

  by_present : Seen folder which number mid (reverse (see_writes folder which present number) ++ mid)
  by_present = decide (nat_lt present (seen_by present number)) refl
    where
      decide : (b : Bool) → nat_lt present (seen_by present number) ≡ b → Seen folder which number mid (reverse (see_writes folder which present number) ++ mid)
      decide true h = rw h (rose (ltb-true present (seen_by present number) h))
      decide false h = rw h (stayed (elim (cases_lt present (seen_by present number)) [ inl rises ↦ cc (h, lt-ltb present (seen_by present number) rises) | inr low ↦ low ]))

  -- the clock may have been read before
  pub see_made : (clock : ℕ) → present ≡ clock → Seen folder which number mid (reverse (see_writes folder which clock number) ++ mid)
  see_made clock same = subst (λ (c : ℕ). Seen folder which number mid (reverse (see_writes folder which c number) ++ mid)) same by_present

-- ---- the objects, and the head

-- each moment is a number of 64 bits
before_limit : (env : Env) → env.moment.now < 2 ^ 64
before_limit env = omega (arith, env.moment.within)

module _ (env : Env) (old : History) (a : Addition) (may : MayBeAppended bug_kind a.pack) (can : CanBeRead bug_kind a.pack) (author : IsId a.pack.author)
    (parents : AreHeld (objects_after old env.folder) a.parents) (free : MayBePut env.folder (addition_objects env.moment.now (Some a)) old) where
  abbrev objects : List (List ℕ)
  objects = addition_objects env.moment.now (Some a)

  abbrev pub top : Name
  top = addition_head env.moment.now a

  abbrev pub node : Loaded BugOp
  node = appended_node bug_kind a.parents a.pack env.moment.now

  -- the objects stand
  abbrev pub put : History
  put = after_append bug_kind env.folder a.parents a.pack env.moment.now old

  abbrev write : Change
  write = ref_write env.folder (ref_place side.Bugs a.bug) top

  -- and the head is set
  abbrev pub set : History
  set = write ∷ put

  names : AllByRecursion IsName a.parents
  names = parent_names (objects_after old env.folder) a.parents parents

  -- the commit holds its pack
  pub put_node : IsNode bug_kind (objects_in (files_of put) env.folder) node
  put_node = node_stands bug_kind a.parents a.pack env.moment.now may (before_limit env) names (objects_after put env.folder) (batch_held env.folder objects old free) (pack_reads bug_kind a.pack bug_keeps_laws author can)

  -- nothing that was held is lost
  pub put_grew : OnlyGrew (objects_in (files_of old) env.folder) (objects_in (files_of put) env.folder)
  put_grew = batch_grew env.folder objects old free

  put_wrote : Wrote (PutsAfterNeeds env.folder objects) old put
  put_wrote = append_needed bug_kind a.parents a.pack env.moment.now may (before_limit env) names env.folder old parents free

  put_only : OnlyChanges env.folder [] (files_of old) (files_of put)
  put_only = OnlyChanges-objects env.folder old put
      (Wrote-wider (PutsAfterNeeds env.folder objects) (AddsObject env.folder) old put (λ files change puts. (puts.text, puts.free, puts.write)) put_wrote)

  -- after the objects are put each head and each clock is as before
  pub put_heads : (of : Side) (id : Id) → head_at (files_of put) env.folder of id ≡ head_at (files_of old) env.folder of id
  put_heads of id = head_kept env.folder (files_of old) (files_of put) put_only of id

  is_name : IsName top
  is_name = IsName-object_name (commit_object bug_kind a.parents a.pack env.moment.now)

  pub set_objects : objects_in (files_of set) env.folder ≡ objects_in (files_of put) env.folder
  set_objects = objects-ref_write (files_of put) env.folder side.Bugs a.bug top

  -- the head reads
  pub set_head : head_at (files_of set) env.folder side.Bugs a.bug ≡ Head top
  set_head = set_ref_reads (files_of put) env.folder (ref_place side.Bugs a.bug) top is_name

  -- the refs of identities are as before
  pub set_identities : (id : Id) → head_at (files_of set) env.folder side.Identities id ≡ head_at (files_of put) env.folder side.Identities id
  set_identities id = head_at-other_side (files_of put) env.folder side.Bugs side.Identities a.bug id top (λ e. cc e)

  -- and the clocks
  pub set_clock : (which : ClockFile) → clock_at (files_of set) env.folder which ≡ clock_at (files_of old) env.folder which
  set_clock which =
      ap clock_in (written-other (files_of put) write (joined env.folder (clock_place which)) (ref-not_clock env.folder side.Bugs a.bug which))
      ∙ clock_kept env.folder (files_of old) (files_of put) put_only which

  -- nothing else is changed
  pub set_only : OnlyChanges env.folder (ref_place side.Bugs a.bug ∷ []) (files_of old) (files_of set)
  set_only = OnlyChanges-then env.folder [] (ref_place side.Bugs a.bug ∷ []) (files_of old) (files_of put) (files_of set) put_only
      (OnlyChanges-put env.folder (ref_place side.Bugs a.bug) (encode_lower top.bytes ++ 10 ∷ []) (files_of put) (ref-not_object env.folder side.Bugs a.bug))

  -- these are the writes
  pub set_writes : set ≡ reverse (missing_writes env.folder objects (files_of old) ++ write ∷ []) ++ old
  set_writes = sym (ap (λ (ws : List Change). ws ++ old) (reverse-append (missing_writes env.folder objects (files_of old)) (write ∷ [])))

  module _ (entity : Entity BugOp) (authors : List Id) (locals : EachIsLocal (files_of old) env.folder authors) (is_id : IsId a.bug)
      (is : IsEntity bug_kind (objects_in (files_of put) env.folder) a.bug (top ∷ []) authors entity) where
    abbrev pub bug : HeadEntry
    bug = record { id = a.bug; name = top }

    put_bug : IsBug (files_of put) env.folder bug entity
    put_bug = record { authors = authors; locals = EachIsLocal-over env.folder (files_of old) (files_of put) (put_heads side.Identities) authors locals; is = is }

    -- the bug has the entity at the head
    pub set_bug : IsBug (files_of set) env.folder bug entity
    set_bug = IsBug-over env.folder (files_of put) (files_of set) set_identities set_objects bug entity put_bug

    -- each write is of its kind
    pub set_wrote : (present : Option Name) → head_at (files_of old) env.folder side.Bugs a.bug ≡ ref_to present → IsUnder (objects_in (files_of put) env.folder) present top
        → Wrote (IsWrite env.folder) old set
    set_wrote present is_present under = Wrote-then (IsWrite env.folder) old put set
        (Wrote-wider (PutsAfterNeeds env.folder objects) (IsWrite env.folder) old put (λ files change puts. an_object (record { texts = objects; puts = puts })) put_wrote)
        (Wrote-one (IsWrite env.folder) write put set
        (a_bug_head (record {
          id = a.bug;
          is_id = is_id;
          head = top;
          is_name = is_name;
          present = present;
          is_present = put_heads side.Bugs a.bug ∙ is_present;
          below = under;
          no_fault = bug_has_no_fault (files_of put) env.folder bug entity put_bug;
          authors = bug_authors_local (files_of put) env.folder bug entity put_bug;
          write = refl;
        })) (inr refl))
