-- How many objects were read, for what was met and for what was opened.
use Rattle.std.proofs.Common.{◌≡◌, ◌⊎◌, ◌≤◌, ◌+◌, inl, inr, ℕ, Bool, List, [], ◌∷◌, ◌++◌, length, map, Contains, Option, Some, None, Result, Ok, Err, OnOk, refl, sym, ◌∙◌, ap, subst, arith, length-append}
use Rattle.std.specs.List.{slice_get}
use Rattle.std.proofs.lemmas.List.{length-map, map-append}
use Rattle.std.proofs.lemmas.List.Elements.{Contains-append_left, Contains-push, Contains-push_cases}
use Rattle.gb_text.specs.declared.id.Name.{Name}
use Rattle.gb_store.specs.Files.{History}
use Rattle.git_object.specs.declared.frame.Kind.TheVariants as kinds
use Rattle.object_store.specs.Growth.{OnlyGrew}
use Rattle.object_store.specs.Held.{Objects}
use Rattle.object_batch.specs.Needs.{Reference}
use Rattle.commit_walk.specs.Distinct.{AreDistinct}
use Rattle.commit_walk.proofs.DistinctLemmas.{AreDistinct-nil, AreDistinct-push, Contains-from_map, Contains-map, Contains-nil, Contains-one}
use Rattle.remote_copy.specs.Closure.{IsAsked, IsFollowed, IsLeft, ask_first, ask_next, commit_named, first, next}
use Rattle.remote_copy.specs.Copies.{AreRead, ReadsEach, StepReads, names_of, need_names}
use Rattle.remote_copy.specs.Copying.{IsCopying}
use Rattle.remote_copy.specs.Index.{IsMet, Sets, WasOpened, mark_of}
use Rattle.remote_copy.specs.Needs.{as_kind}
use Rattle.remote_copy.specs.Opens.{BeginAnswers, BeginReads, ref_of}
use Rattle.remote_copy.specs.Work.{Advances, DescendAnswers, Finishes}
use Rattle.remote_copy.specs.declared.fault.CopyFault.{CopyFault}
use Rattle.remote_copy.specs.declared.index.Index.{Index}
use Rattle.remote_copy.specs.declared.index.Mark.TheVariants as mark
use Rattle.remote_copy.specs.declared.need.Need.{Need}
use Rattle.remote_copy.specs.declared.open.Open.{Open}
use Rattle.remote_copy.specs.declared.work.Work.{Work}
use Rattle.remote_copy.proofs.CauseLemmas.{AreDistinct-refs}
use Rattle.remote_copy.proofs.CopyingLemmas.{left_stays, next_need}
use Rattle.remote_copy.proofs.MarkLemmas.{sets_met}

-- the names of needs, as those of references
same_names : (needs : List Need) → names_of (map ref_of needs) ≡ need_names needs
same_names [] = refl
same_names (need ∷ needs) = ap (λ (names : List Name). need.name ∷ names) (same_names needs)

-- what is not left in the target now was not left at the start
pub begun_reads : (closed : Bool) (entry target : Objects) (need : Need) (before now : ℕ) → OnlyGrew entry target → BeginReads closed target need before now → BeginReads closed entry need before now
begun_reads closed entry target need before now grew (inl one) = inl one
begun_reads closed entry target need before now grew (inr (unleft, two)) = inr (λ left. unleft (left_stays closed entry target (ref_of need) grew left), two)

module _ (closed : Bool) (source entry : Objects) (head : Name) where
  abbrev Asked : Need → Type 0
  Asked need = IsAsked closed source entry head (ref_of need)

  abbrev Followed : Need → Type 0
  Followed need = IsFollowed closed source entry head (ref_of need)

  -- what is asked for and not left is followed
  asked_followed : (one : Reference) → IsAsked closed source entry head one → (IsLeft closed entry one → ⊥) → IsFollowed closed source entry head one
  asked_followed one (ask_first is) unleft = first is unleft
  asked_followed one (ask_next high names) unleft = next high names unleft

  -- what was opened of some needs, each once by its name, with as many reads
  record AreOpened (Named : Name → Type 0) (them : List Need) (before now : ℕ) : Type 0 where
    opened : List Need
    opened_once : AreDistinct (need_names opened)
    opened_each : (need : Need) → Contains opened need → Contains them need × Followed need × Named need.name
    few : now ≤ before + length them + length opened

  module _ (Named Later : Name → Type 0) (stays : (name : Name) → Named name → Later name) (them : List Need) (before mid now : ℕ) (need : Need) (o : AreOpened Named them before mid) where
    -- one more was asked for
    asked_more : now ≤ mid + 1 → AreOpened Later (them ++ need ∷ []) before now
    asked_more one = record {
      opened = o.opened;
      opened_once = o.opened_once;
      opened_each = λ n c. let e = o.opened_each n c in (Contains-append_left them (need ∷ []) n e.0, e.1, stays n.name e.2);
      few = let was = o.few in omega (arith, was, one, length-append them (need ∷ []));
    }

    -- and perhaps opened, where none of its name was
    opened_more : (Named need.name → ⊥) → Later need.name → Asked need → BeginReads closed entry need mid now → AreOpened Later (them ++ need ∷ []) before now
    opened_more fresh named asked (inl one) = asked_more one
    opened_more fresh named asked (inr (unleft, two)) = record {
      opened = o.opened ++ need ∷ [];
      opened_once = subst AreDistinct (sym (map-append (λ (n : Need). n.name) o.opened (need ∷ []))) (AreDistinct-push (need_names o.opened) need.name o.opened_once unnamed);
      opened_each = λ n c. elim (Contains-push_cases o.opened need n c) [
        | inl low ↦ let e = o.opened_each n low in (Contains-append_left them (need ∷ []) n e.0, e.1, stays n.name e.2)
        | inr same ↦ subst (λ (x : Need). Contains (them ++ need ∷ []) x × Followed x × Later x.name) same (Contains-push them need, asked_followed (ref_of need) asked unleft, named)
      ];
      few = let was = o.few in omega (arith, was, two, length-append them (need ∷ []), length-append o.opened (need ∷ []));
    }
      where
        unnamed : Contains (need_names o.opened) need.name → ⊥
        unnamed c = let found = Contains-from_map (λ (n : Need). n.name) o.opened need.name c in fresh (subst Named found.2 (o.opened_each found.0 found.1).2)

  -- needs, each once and each asked for
  each_read : (Named : Name → Type 0) (them : List Need) (before now : ℕ) → AreDistinct them → ((need : Need) → Contains them need → Asked need) → AreOpened Named them before now → ReadsEach closed source entry head before now
  each_read Named them before now once each o = record {
    them = map ref_of them;
    once = AreDistinct-refs them once;
    each = λ one c. let found = Contains-from_map ref_of them one c in subst (IsAsked closed source entry head) found.2 (each found.0 found.1);
    opened = map ref_of o.opened;
    opened_once = subst AreDistinct (sym (same_names o.opened)) o.opened_once;
    opened_each = λ one c. let found = Contains-from_map ref_of o.opened one c in
        let e = o.opened_each found.0 found.1 in
        (subst (Contains (map ref_of them)) found.2 (Contains-map ref_of them found.0 e.0), subst (IsFollowed closed source entry head) found.2 e.1);
    few = let few = o.few in omega (arith, few, length-map them ref_of, length-map o.opened ref_of);
  }

  -- what was opened of what was read
  opened_of : (index : Index) (before now : ℕ) → (r : AreRead closed source entry head index before now) → AreOpened (WasOpened index) r.them before now
  opened_of index before now r = record { opened = r.opened; opened_once = r.opened_once; opened_each = r.opened_each; few = r.few }

  -- needs that were met
  are_read : (index : Index) (them : List Need) (before now : ℕ) → AreDistinct them → ((need : Need) → Contains them need → IsMet index need × Asked need) → AreOpened (WasOpened index) them before now
      → AreRead closed source entry head index before now
  are_read index them before now once each o = record { them = them; once = once; each = each; opened = o.opened; opened_once = o.opened_once; opened_each = o.opened_each; few = o.few }

  pub read_end : (index : Index) (before now : ℕ) → AreRead closed source entry head index before now → ReadsEach closed source entry head before now
  read_end index before now r = each_read (WasOpened index) r.them before now r.once (λ need c. (r.each need c).1) (opened_of index before now r)

  -- the head alone
  the_head : Need
  the_head = as_kind kinds.Commit head

  none_opened : (before : ℕ) → AreOpened (λ name. ⊥) [] before before
  none_opened before = record { opened = []; opened_once = AreDistinct-nil; opened_each = λ n c. absurd (Contains-nil n c); few = omega arith }

  head_once : AreDistinct (the_head ∷ [])
  head_once = AreDistinct-push [] the_head AreDistinct-nil (λ c. Contains-nil the_head c)

  head_opened : (Later : Name → Type 0) (before now : ℕ) → Later head → BeginReads closed entry the_head before now → AreOpened Later (the_head ∷ []) before now
  unfolding the_head
  head_opened Later before now named few = opened_more (λ name. ⊥) Later (λ name none. absurd none) [] before before now the_head (none_opened before) (λ none. none) named (ask_first refl) few

  head_asked : (Later : Name → Type 0) (before now : ℕ) → now ≤ before + 1 → AreOpened Later (the_head ∷ []) before now
  head_asked Later before now one = asked_more (λ name. ⊥) Later (λ name none. absurd none) [] before before now the_head (none_opened before) one

  pub read_start : (index : Index) (before now : ℕ) → IsMet index (as_kind kinds.Commit head) → IsLeft closed entry (commit_named head) ⊎ WasOpened index head → BeginReads closed entry (as_kind kinds.Commit head) before now
      → AreRead closed source entry head index before now
  unfolding the_head
  read_start index before now met named few =
      are_read index (the_head ∷ []) before now head_once (λ need c. subst (λ (n : Need). IsMet index n × Asked n) (Contains-one the_head need c) (met, ask_first refl)) (by named few)
    where
      by : IsLeft closed entry (commit_named head) ⊎ WasOpened index head → BeginReads closed entry (as_kind kinds.Commit head) before now → AreOpened (WasOpened index) (the_head ∷ []) before now
      by (inr named) few = head_opened (WasOpened index) before now named few
      by (inl left) (inl one) = head_asked (WasOpened index) before now one
      by (inl left) (inr (unleft, two)) = absurd (unleft left)

  pub read_refused : (before now : ℕ) → BeginReads closed entry (as_kind kinds.Commit head) before now → ReadsEach closed source entry head before now
  unfolding the_head
  read_refused before now few = each_read (λ name. Unit {0}) (the_head ∷ []) before now head_once (λ need c. subst Asked (Contains-one the_head need c) (ask_first refl)) (head_opened (λ name. Unit {0}) before now tt few)

  -- no more was read
  read_same : (i1 i2 : Index) (before mid now : ℕ) → ((need : Need) → IsMet i1 need → IsMet i2 need) → ((name : Name) → WasOpened i1 name → WasOpened i2 name) → now ≡ mid → AreRead closed source entry head i1 before mid
      → AreRead closed source entry head i2 before now
  read_same i1 i2 before mid now met names same r = record {
    them = r.them;
    once = r.once;
    each = λ need c. let e = r.each need c in (met need e.0, e.1);
    opened = r.opened;
    opened_once = r.opened_once;
    opened_each = λ need c. let e = r.opened_each need c in (e.0, e.1, names need.name e.2);
    few = let few = r.few in omega (arith, few, same);
  }

  module _ (index : Index) (before mid now : ℕ) (need : Need) (r : AreRead closed source entry head index before mid) (fresh : mark_of index need.kind need.name ≡ None) (asked : Asked need) where
    unmet : Contains r.them need → ⊥
    unmet c = let met = (r.each need c).0 in cc (sym fresh ∙ met.1)

    longer : AreDistinct (r.them ++ need ∷ [])
    longer = AreDistinct-push r.them need r.once unmet

    -- one more, which is met now
    read_more : (later : Index) → ((n : Need) → IsMet index n → IsMet later n) → IsMet later need → AreOpened (WasOpened later) (r.them ++ need ∷ []) before now → AreRead closed source entry head later before now
    read_more later met here enough = are_read later (r.them ++ need ∷ []) before now longer (λ n c. elim (Contains-push_cases r.them need n c) [
      | inl low ↦ let e = r.each n low in (met n e.0, e.1)
      | inr e ↦ subst (λ (x : Need). IsMet later x × Asked x) e (here, asked)
    ]) enough

    -- one more, and no further
    pub read_stop : (WasOpened index need.name → ⊥) → BeginReads closed entry need mid now → ReadsEach closed source entry head before now
    read_stop unnamed few = each_read (λ name. Unit {0}) (r.them ++ need ∷ []) before now longer (λ n c. elim (Contains-push_cases r.them need n c) [
      | inl low ↦ (r.each n low).1
      | inr e ↦ subst Asked e asked
    ]) (opened_more (WasOpened index) (λ name. Unit {0}) (λ name was. tt) r.them before mid now need (opened_of index before mid r) unnamed tt asked few)

    -- one that is left was read in the target alone
    left_once : (target : Objects) → IsLeft closed target (ref_of need) → BeginReads closed target need mid now → now ≤ mid + 1
    left_once target left (inl one) = one
    left_once target left (inr (unleft, two)) = absurd (unleft left)

    pub descend_reads : (work after : Work) (top : Open) (found : Option Open) (result : Result Unit CopyFault) → work.index ≡ index → (target : Objects) → OnlyGrew entry target → (WasOpened index need.name → ⊥)
        → BeginReads closed target need mid now → BeginAnswers closed source target need (Ok found) → DescendAnswers work top need found after result → StepReads closed source entry head after.index before now result
    descend_reads work after top (Some item) (Ok u) same target grew unnamed few begun d =
        let sets : Sets index after.index need mark.Open = subst (λ (i : Index). Sets i after.index need mark.Open) same (subst (λ (n : Need). Sets work.index after.index n mark.Open) begun.1.is_need d.index) in
        read_more after.index (λ n m. sets_met index after.index need mark.Open sets n m) (mark.Open, sets.here)
        (opened_more (WasOpened index) (WasOpened after.index) sets.names.stays r.them before mid now need (opened_of index before mid r) unnamed (sets.names.opens refl) asked (begun_reads closed entry target need mid now grew few))
    descend_reads work after top None (Ok u) same target grew unnamed few begun d =
        let sets : Sets index after.index need (mark.Done 0) = subst (λ (i : Index). Sets i after.index need (mark.Done 0)) same d.index in
        read_more after.index (λ n m. sets_met index after.index need (mark.Done 0) sets n m) (mark.Done 0, sets.here)
        (asked_more (WasOpened index) (WasOpened after.index) sets.names.stays r.them before mid now need (opened_of index before mid r) (left_once target begun few))
    descend_reads work after top found (Err e) same target grew unnamed few begun d = read_stop unnamed (begun_reads closed entry target need mid now grew few)

  -- what the deepest open object names is asked for
  pub next_asked : (target : Objects) (work : Work) (rest : List Open) (top : Open) (need : Need) → IsCopying closed source entry target head work (rest ++ top ∷ []) → slice_get top.needs.items top.next ≡ Some need → Asked need
  next_asked target work rest top need w at =
      let open_top = w.opens top (Contains-push rest top) in
      ask_next open_top.opened.followed (next_need closed source entry head target work.index top need open_top at)

  pub advance_reads : (work after : Work) (top : Open) (before mid now : ℕ) (result : Result Unit CopyFault) → OnOk result (Advances work top after) → now ≡ mid → AreRead closed source entry head work.index before mid
      → StepReads closed source entry head after.index before now result
  advance_reads work after top before mid now (Ok u) a same r = read_same work.index after.index before mid now (λ need m. subst (λ (i : Index). IsMet i need) (sym a.index) m) (λ name was. subst (λ (i : Index). WasOpened i name) (sym a.index) was) same r
  advance_reads work after top before mid now (Err e) a same r = read_end work.index before now (read_same work.index work.index before mid now (λ need m. m) (λ name was. was) same r)

  pub finish_reads : (folder : List ℕ) (old new : History) (work after : Work) (top : Open) (before mid now : ℕ) (result : Result Unit CopyFault) → Finishes folder old new work top after result → now ≡ mid
      → AreRead closed source entry head work.index before mid → StepReads closed source entry head after.index before now result
  finish_reads folder old new work after top before mid now (Ok u) f same r =
      read_same work.index after.index before mid now (λ need m. sets_met work.index after.index top.need (mark.Done f.height) f.index need m) f.index.names.stays same r
  finish_reads folder old new work after top before mid now (Err e) f same r = read_end work.index before now (read_same work.index work.index before mid now (λ need m. m) (λ name was. was) same r)
