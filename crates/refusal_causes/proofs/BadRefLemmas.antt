-- A merge is refused for the first entity, in the order of turns, of which a ref is no ref text at entry.
use Rattle.std.proofs.Common.{◌≡◌, ◌≢◌, ◌⊎◌, inl, inr, ℕ, zero, suc, List, [], ◌∷◌, ◌++◌, map, Contains, Option, Some, None, refl, sym, ◌∙◌, ap, subst, arith}
use Rattle.std.proofs.lemmas.List.Elements.{Contains-append_left, Contains-append_right}
use Rattle.gb_text.specs.Digits.{IsId}
use Rattle.gb_text.specs.declared.id.Id.{Id}
use Rattle.gb_text.specs.declared.id.Name.{Name}
use Rattle.gb_store.specs.Files.{History, files_of}
use Rattle.gb_store.specs.Moments.{Wrote}
use Rattle.gb_store.specs.Turns.{InTurn}
use Rattle.object_batch.proofs.ClashLemmas.{Contains-first, Contains-later}
use Rattle.ref_store.specs.Refs.{Bad}
use Rattle.remote_name.specs.declared.remote.RemoteName.{RemoteName}
use Rattle.repo_state.specs.Listed.{AreRefs, ref_with}
use Rattle.repo_state.specs.Sides.{IsFirst, head_at}
use Rattle.repo_state.specs.declared.refs.EntityRef.{EntityRef}
use Rattle.repo_state.specs.declared.side.Side.{Side}
use Rattle.repo_state.specs.declared.side.Side.TheVariants as side
use Rattle.repo_state.proofs.KindLemmas.{head_at-other_id}
use Rattle.repo_state.proofs.ListingLemmas.{Contains-map}
use Rattle.repo_steps.specs.declared.refusal.Refusal.{Refusal}
use Rattle.repo_steps.specs.declared.refusal.Refusal.TheVariants as refusal
use Rattle.sync_steps.specs.Places.{local_side, tracking_side}
use Rattle.sync_steps.specs.declared.line.EntityWord.{EntityWord}
use Rattle.sync_steps.specs.declared.line.EntityWord.TheVariants as word
use Rattle.sync_steps.proofs.SetLemmas.{AllOnce, none_among, once_of_refs}
use Rattle.merge_steps.specs.Merging.{IsBadTurn, MergeTurn, MergesBug, MergesPerson}
use Rattle.merge_steps.specs.Turns.{IsMerged, PeopleMerged, Tracked, Went, entities_of}
use Rattle.merge_steps.specs.declared.line.MergeLine.{MergeLine}
use Rattle.merge_steps.specs.declared.stop.TurnStop.TheVariants as turn
use Rattle.merge_steps.proofs.TouchLemmas.{Touch, bug_touches, person_touches, touch_leaves}
use Rattle.merge_steps.proofs.TurnOfLemmas.{people_stay}
use Rattle.refusal_causes.specs.TurnCauses.{BarsMerge, IsTakenSooner, MergeBarred, RefBarred}
use Rattle.refusal_causes.proofs.FetchTurnLemmas.{as_turn, entities_as}
use Rattle.refusal_causes.proofs.FirstLemmas.{at_stands, first_at, no_head, one_first_turn}
use Rattle.refusal_causes.proofs.MergeTurnLemmas.{not_bad}

-- ---- turns of different entities

module _ (folder : List ℕ) (to : Side) (Step : MergeTurn → History → History → Type 0) (touches : (turn : MergeTurn) (old new : History) → Step turn old new → Wrote (Touch folder to turn.entity.id) old new)
    (reads : (turn : MergeTurn) (old new : History) → Step turn old new → (turn.entity.head ≡ None → ⊥) × (head_at (files_of old) folder to turn.entity.id ≡ Bad → ⊥)) where
  -- a turn leaves the ref of another entity
  leaves : (turn : MergeTurn) (id : Id) (old new : History) → IsId turn.entity.id → IsId id → turn.entity.id ≢ id → Step turn old new → head_at (files_of new) folder to id ≡ head_at (files_of old) folder to id
  leaves turn id old new mine is_id differ step =
      touch_leaves folder to turn.entity.id to id (λ name files. head_at-other_id files folder to turn.entity.id id name mine is_id differ) old new (touches turn old new step)

  -- the first of some entities is of another id than each behind it
  apart : (first : EntityRef) (refs : List EntityRef) → AllOnce (map as_turn (first ∷ refs)) → (e : EntityRef) → Contains refs e → first.id ≢ e.id
  apart first refs once e c same = none_among first.id (map as_turn refs) once.0 (as_turn e) (Contains-map as_turn refs e c) (sym same)

  -- an entity that had its turn had a head, and no bad ref
  had_reads : (turns : List MergeTurn) (rest : List EntityRef) → AllOnce (map as_turn (entities_of turns ++ rest)) → ((e : EntityRef) → Contains (entities_of turns ++ rest) e → IsId e.id) → (old new : History)
      → InTurn Step turns old new → (e : EntityRef) → Contains (entities_of turns) e → (e.head ≡ None → ⊥) × (head_at (files_of old) folder to e.id ≡ Bad → ⊥)
  had_reads [] rest once ids old new went e (k, lt, is) = absurd (omega (arith, lt))
  had_reads (first ∷ turns) rest once ids old new (mid, step, later) e (zero, lt, is) =
      subst (λ (x : EntityRef). (x.head ≡ None → ⊥) × (head_at (files_of old) folder to x.id ≡ Bad → ⊥)) is (reads first old mid step)
  had_reads (first ∷ turns) rest once ids old new (mid, step, later) e (suc k, lt, is) =
      let c : Contains (entities_of turns) e = (k, omega (arith, lt), is) in
      let more = entities_of turns ++ rest in
      let among : Contains more e = Contains-append_left (entities_of turns) rest e c in
      let then = had_reads turns rest once.1 (λ x d. ids x (Contains-later first.entity more x d)) mid new later e c in
      (then.0, λ bad. then.1 (leaves first e.id old mid (ids first.entity (Contains-first first.entity more)) (ids e (Contains-later first.entity more e among)) (apart first.entity more once e among) step ∙ bad))

  -- turns leave the refs of what comes behind them
  rest_left : (turns : List MergeTurn) (rest : List EntityRef) → AllOnce (map as_turn (entities_of turns ++ rest)) → ((e : EntityRef) → Contains (entities_of turns ++ rest) e → IsId e.id) → (old new : History)
      → InTurn Step turns old new → (e : EntityRef) → Contains rest e → head_at (files_of new) folder to e.id ≡ head_at (files_of old) folder to e.id
  rest_left [] rest once ids old new same e c = ap (λ (h : History). head_at (files_of h) folder to e.id) same
  rest_left (first ∷ turns) rest once ids old new (mid, step, later) e c =
      let more = entities_of turns ++ rest in
      let among : Contains more e = Contains-append_right (entities_of turns) rest e c in
      rest_left turns rest once.1 (λ x d. ids x (Contains-later first.entity more x d)) mid new later e c
      ∙ leaves first e.id old mid (ids first.entity (Contains-first first.entity more)) (ids e (Contains-later first.entity more e among)) (apart first.entity more once e among) step

-- ---- the turns of one kind, which begin behind the entry of the call

module _ (folder : List ℕ) (remote : RemoteName) (word : EntityWord) (Step : MergeTurn → History → History → Type 0)
    (touches : (turn : MergeTurn) (old new : History) → Step turn old new → Wrote (Touch folder (local_side word) turn.entity.id) old new)
    (reads : (turn : MergeTurn) (old new : History) → Step turn old new → (turn.entity.head ≡ None → ⊥) × (head_at (files_of old) folder (local_side word) turn.entity.id ≡ Bad → ⊥))
    (entry start : History) (agree : (id : Id) → head_at (files_of start) folder (local_side word) id ≡ head_at (files_of entry) folder (local_side word) id)
    (refs : List EntityRef) (are : AreRefs (files_of entry) folder (tracking_side remote word) refs) where
  abbrev BarsAt : Id → List ℕ → Type 0
  BarsAt id path = BarsMerge folder remote (files_of entry) word id path

  abbrev Bars : Id → Type 0
  Bars id = (path : List ℕ) × BarsAt id path

  stands : (id : Id) → Bars id → (head : Option Name) × (head_at (files_of entry) folder (tracking_side remote word) id ≡ ref_with head)
  stands id (path, inl bad) = (None, bad.1)
  stands id (path, inr (head, bad)) = (Some head.0, head.1)

  once : (them : List EntityRef) → refs ≡ them → AllOnce (map as_turn them)
  once them is = subst (λ (es : List EntityRef). AllOnce (map as_turn es)) is (once_of_refs (files_of entry) folder (tracking_side remote word) refs (map as_turn refs) are (entities_as refs))

  ids : (them : List EntityRef) → refs ≡ them → (e : EntityRef) → Contains them e → IsId e.id
  ids them is e c = ((are.members e).0 (subst (λ (es : List EntityRef). Contains es e) (sym is) c)).0

  -- of an entity that had its turn this is not so
  had_none : (turns : List MergeTurn) (rest : List EntityRef) → refs ≡ entities_of turns ++ rest → (new : History) → InTurn Step turns start new → (e : EntityRef) → Contains (entities_of turns) e → Bars e.id → ⊥
  had_none turns rest is new went e c (path, bars) = by bars
    where
      had : (e.head ≡ None → ⊥) × (head_at (files_of start) folder (local_side word) e.id ≡ Bad → ⊥)
      had = had_reads folder (local_side word) Step touches reads turns rest (once (entities_of turns ++ rest) is) (ids (entities_of turns ++ rest) is) start new went e c

      listed : head_at (files_of entry) folder (tracking_side remote word) e.id ≡ ref_with e.head
      listed = ((are.members e).0 (subst (λ (es : List EntityRef). Contains es e) (sym is) (Contains-append_left (entities_of turns) rest e c))).1

      by : BarsAt e.id path → ⊥
      by (inl bad) = had.0 (no_head e.head (sym listed ∙ bad.1))
      by (inr (head, bad)) = had.1 (agree e.id ∙ bad.1)

  nothing_behind : (them : List EntityRef) → them ≡ them ++ []
  nothing_behind [] = refl
  nothing_behind (e ∷ them) = ap (λ (es : List EntityRef). e ∷ es) (nothing_behind them)

  -- so it is of none where all had
  pub went_none : (turns : List MergeTurn) (new : History) → Went Step refs turns start new → (id : Id) → IsId id → Bars id → ⊥
  went_none turns new went id is_id bars =
      let found = stands id bars in
      let e : EntityRef = record { id = id; head = found.0 } in
      let c : Contains (entities_of turns) e = subst (λ (es : List EntityRef). Contains es e) (sym went.are) ((are.members e).1 (is_id, found.1)) in
      had_none turns [] (sym went.are ∙ nothing_behind (entities_of turns)) new went.each e c bars

  -- the call ended at the first entity of which it is so
  pub ended_first : (path : List ℕ) (done : List MergeTurn) (at : EntityRef) (rest : List EntityRef) → refs ≡ entities_of done ++ at ∷ rest → (mid new : History) → InTurn Step done start mid
      → IsBadTurn folder (tracking_side remote word) (local_side word) at path mid new → BarsAt at.id path × IsFirst Bars at.id
  ended_first path done at rest is mid new before ended =
      (bars, first_at (files_of entry) folder (tracking_side remote word) refs are (entities_of done) at rest is Bars stands (path, bars) (had_none done (at ∷ rest) is mid before))
    where
      listed : head_at (files_of entry) folder (tracking_side remote word) at.id ≡ ref_with at.head
      listed = (at_stands (files_of entry) folder (tracking_side remote word) refs are (entities_of done) at rest is).1

      left : head_at (files_of mid) folder (local_side word) at.id ≡ head_at (files_of start) folder (local_side word) at.id
      left = rest_left folder (local_side word) Step touches reads done (at ∷ rest) (once (entities_of done ++ at ∷ rest) is) (ids (entities_of done ++ at ∷ rest) is) start mid before at (Contains-first at rest)

      by : IsBadTurn folder (tracking_side remote word) (local_side word) at path mid new → BarsAt at.id path
      by (inl (none, place), same) = inl (place, listed ∙ ap ref_with none)
      by (inr (name, has, bad), same) = inr ((name, listed ∙ ap ref_with has), (bad.0, sym (agree at.id) ∙ sym left ∙ bad.1))

      bars : BarsAt at.id path
      bars = by ended

-- ---- a whole merge

module _ (folder : List ℕ) (remote : RemoteName) (now : ℕ) (old : History) where
  person_reads : (turn : MergeTurn) (before after : History) → MergesPerson folder turn before after → (turn.entity.head ≡ None → ⊥) × (head_at (files_of before) folder side.Identities turn.entity.id ≡ Bad → ⊥)
  person_reads turn before after step = (λ none. cc (sym none ∙ step.is_tracked), not_bad (files_of before) folder side.Identities turn.entity.id step.local step.is_local)

  bug_reads : (user : Id) (authors : List Id) (turn : MergeTurn) (before after : History) → MergesBug folder user authors now turn before after
      → (turn.entity.head ≡ None → ⊥) × (head_at (files_of before) folder side.Bugs turn.entity.id ≡ Bad → ⊥)
  bug_reads user authors turn before after step = (λ none. cc (sym none ∙ step.is_tracked), not_bad (files_of before) folder side.Bugs turn.entity.id step.local step.is_local)

  abbrev BarsTurn : EntityWord → Id → Type 0
  BarsTurn kind id = (path : List ℕ) × BarsMerge folder remote (files_of old) kind id path

  -- the turns of identities, and then those of bugs
  module _ (lists : Tracked folder remote now old) where
    people_none : (turns : List MergeTurn) (mid : History) → Went (MergesPerson folder) lists.people turns old mid → (id : Id) → IsId id → BarsTurn word.Identity id → ⊥
    people_none = went_none folder remote word.Identity (MergesPerson folder) (person_touches folder) person_reads old old (λ id. refl) lists.people lists.are_people

    module _ (mid : History) (first : PeopleMerged folder remote now lists.people old mid) where
      bugs_agree : (id : Id) → head_at (files_of mid) folder side.Bugs id ≡ head_at (files_of old) folder side.Bugs id
      bugs_agree id = people_stay folder remote now old mid side.Bugs (λ e. cc e) id first.turns old mid first.went.each

      bugs_none : (turns : List MergeTurn) (new : History) → Went (MergesBug folder lists.user first.authors now) lists.bugs turns mid new → (id : Id) → IsId id → BarsTurn word.Bug id → ⊥
      bugs_none =
          went_none folder remote word.Bug (MergesBug folder lists.user first.authors now) (bug_touches folder lists.user first.authors now) (bug_reads lists.user first.authors) old mid bugs_agree
          lists.bugs lists.are_bugs

  -- one that is done meets no such entity
  pub refs_unbarred : (new : History) (lines : List MergeLine) (kind : EntityWord) (r : Refusal) → RefBarred folder remote (files_of old) kind r → IsMerged folder remote now lines old new → ⊥
  refs_unbarred new lines word.Identity r (id, path, bars, first, told) done = people_none done.tracked done.first.turns done.mid done.first.went id first.is_id first.is_so
  refs_unbarred new lines word.Bug r (id, path, bars, first, told) done = bugs_none done.tracked done.mid done.first done.turns new done.then id first.1.is_id first.1.is_so

  -- a turn that fails for a ref fails for the first
  pub refs_barred : (new : History) (path : List ℕ) → MergeBarred folder remote now old new (refusal.Damaged path) → (kind : EntityWord) × RefBarred folder remote (files_of old) kind (refusal.Damaged path)
  refs_barred new path (turn.Memory, ended, told) = absurd (cc told)
  refs_barred new path (turn.Disk, ended, told) = absurd (cc told)
  refs_barred new path (turn.Taken name, ended, told) = absurd (cc told)
  refs_barred new path (turn.Damaged at, inl e, told) =
      let first = ended_first folder remote word.Identity (MergesPerson folder) (person_touches folder) person_reads old old (λ id. refl) e.tracked.people e.tracked.are_people
      at e.ended.done e.ended.at e.ended.rest e.ended.are e.ended.mid new e.ended.before e.ended.ended in
      let same : path ≡ at = cc told in
      (word.Identity, (e.ended.at.id, at, first.0, first.1, ap refusal.Damaged same))
  refs_barred new path (turn.Damaged at, inr e, told) =
      let user = e.tracked.user in
      let known = e.first.authors in
      let first = ended_first folder remote word.Bug (MergesBug folder user known now) (bug_touches folder user known now) (bug_reads user known) old e.mid (bugs_agree e.tracked e.mid e.first)
      e.tracked.bugs e.tracked.are_bugs at e.ended.done e.ended.at e.ended.rest e.ended.are e.ended.mid new e.ended.before e.ended.ended in
      let same : path ≡ at = cc told in
      (word.Bug, (e.ended.at.id, at, first.0, (people_none e.tracked e.first.turns e.mid e.first.went, first.1), ap refusal.Damaged same))

  -- the path at which an entity bars is one
  one_path : (kind : EntityWord) (id : Id) (path at : List ℕ) → BarsMerge folder remote (files_of old) kind id path → BarsMerge folder remote (files_of old) kind id at → path ≡ at
  one_path kind id path at (inl one) (inl two) = one.0 ∙ sym two.0
  one_path kind id path at (inl one) (inr two) = absurd (cc (sym one.1 ∙ two.0.1))
  one_path kind id path at (inr one) (inl two) = absurd (cc (sym two.1 ∙ one.0.1))
  one_path kind id path at (inr one) (inr two) = one.1.0 ∙ sym two.1.0

  one_barred : (kind other : EntityWord) (r s : Refusal) → RefBarred folder remote (files_of old) kind r → RefBarred folder remote (files_of old) other s → r ≡ s
  one_barred kind other r s (id, path, bars, first, told) (twin, at, bars_too, first_too, told_too) =
      let same = one_first_turn BarsTurn kind other id twin first first_too in
      let over = subst (λ (w : EntityWord). BarsMerge folder remote (files_of old) w id at) (sym same.0) (subst (λ (i : Id). BarsMerge folder remote (files_of old) other i at) (sym same.1) bars_too) in
      told ∙ ap refusal.Damaged (one_path kind id path at bars over) ∙ sym told_too

  -- where there is a first, it is told, or a name that is taken for a bug before it
  pub refs_told : (new : History) (kind : EntityWord) (r s : Refusal) → RefBarred folder remote (files_of old) kind r → MergeBarred folder remote now old new s → (r ≡ s) ⊎ IsTakenSooner kind s
  refs_told new kind r s barred (turn.Memory, ended, told) = absurd (cc told)
  refs_told new kind r s barred (turn.Disk, ended, told) = absurd (cc told)
  refs_told new kind r s barred (turn.Damaged at, ended, told) =
      let same : s ≡ refusal.Damaged at = cc told in
      let found = refs_barred new at (turn.Damaged at, ended, refl) in
      inl (one_barred kind found.0 r (refusal.Damaged at) barred found.1 ∙ sym same)
  refs_told new word.Identity r s (id, path, bars, first, also) (turn.Taken name, inl e, told) = absurd e.ended.ended
  refs_told new word.Identity r s (id, path, bars, first, also) (turn.Taken name, inr e, told) = absurd (people_none e.tracked e.first.turns e.mid e.first.went id first.is_id first.is_so)
  refs_told new word.Bug r s barred (turn.Taken name, ended, told) = let same : s ≡ refusal.NameTaken name = cc told in inr (name, same)
