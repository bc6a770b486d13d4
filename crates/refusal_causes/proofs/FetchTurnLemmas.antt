-- A fetch is refused exactly for the first tracking ref that is no ref text, of the entities that have a head in the peer.
use Rattle.std.proofs.Common.{◌≡◌, inl, inr, ℕ, zero, suc, List, [], ◌∷◌, ◌++◌, map, Contains, Option, Some, None, Ok, Err, refl, sym, ◌∙◌, ap, subst, arith}
use Rattle.std.proofs.lemmas.List.{map-append}
use Rattle.std.proofs.lemmas.List.Elements.{Contains-append_left, Contains-append_right}
use Rattle.gb_text.specs.Digits.{IsId}
use Rattle.gb_text.specs.Folder.{joined}
use Rattle.gb_text.specs.declared.id.Id.{Id}
use Rattle.gb_text.specs.declared.id.Name.{Name}
use Rattle.gb_store.specs.Files.{Files, History, files_of, written}
use Rattle.gb_store.specs.Turns.{InTurn}
use Rattle.ref_store.specs.Refs.{Bad, Ref}
use Rattle.ref_store.specs.Setting.{ref_write}
use Rattle.remote_name.specs.declared.remote.RemoteName.{RemoteName}
use Rattle.repo_state.specs.Listed.{AreRefs, ref_with}
use Rattle.repo_state.specs.Sides.{IsFirst, head_at, ref_place}
use Rattle.repo_state.specs.declared.refs.EntityRef.{EntityRef}
use Rattle.repo_state.specs.declared.side.Side.{Side}
use Rattle.repo_state.specs.declared.stop.ReadStop.TheVariants as read
use Rattle.repo_state.proofs.ListingLemmas.{Contains-from_map, Contains-map}
use Rattle.repo_steps.specs.declared.refusal.Refusal.{Refusal}
use Rattle.repo_steps.specs.declared.refusal.Refusal.TheVariants as refusal
use Rattle.sync_steps.specs.Fetching.{FetchAnswers, FetchOutcome, FetchStops, Fetches, IsBadTracking, IsOther}
use Rattle.sync_steps.specs.Places.{local_side, tracking_side}
use Rattle.sync_steps.specs.Turns.{Ended, Turn, Went, entities_of}
use Rattle.sync_steps.specs.declared.line.EntityWord.{EntityWord}
use Rattle.sync_steps.specs.declared.line.EntityWord.TheVariants as word
use Rattle.sync_steps.specs.declared.line.Line.{Line}
use Rattle.sync_steps.specs.declared.line.Outcome.{Outcome}
use Rattle.sync_steps.specs.declared.line.Outcome.TheVariants as outcome
use Rattle.sync_steps.proofs.FetchedLemmas.{turn_leaves}
use Rattle.sync_steps.proofs.SetLemmas.{AllOnce, NoneIs, id_of, none_among, once_of_refs, sides_leave, turn_leaves_other, turns_leave}
use Rattle.refusal_causes.specs.TurnCauses.{BarsFetch, FetchBarred}
use Rattle.refusal_causes.proofs.FirstLemmas.{at_stands, first_at, one_first_turn, some_head}

-- ---- turns of different entities

-- the turns before one are of other entities, and of different ones
none_before : (done : List Turn) (turn : Turn) (rest : List Turn) → AllOnce (done ++ turn ∷ rest) → NoneIs (id_of turn) done
none_before [] turn rest once = tt
none_before (first ∷ done) turn rest once = (
  λ same. none_among (id_of first) (done ++ turn ∷ rest) once.0 turn (Contains-append_right done (turn ∷ rest) turn (0, omega arith, refl)) (sym same),
  none_before done turn rest once.1,
)

none_in_front : (id : Id) (done rest : List Turn) → NoneIs id (done ++ rest) → NoneIs id done
none_in_front id [] rest none = tt
none_in_front id (turn ∷ done) rest none = (none.0, none_in_front id done rest none.1)

once_in_front : (done rest : List Turn) → AllOnce (done ++ rest) → AllOnce done
once_in_front [] rest once = tt
once_in_front (turn ∷ done) rest once = (none_in_front (id_of turn) done rest once.0, once_in_front done rest once.1)

-- an entity, as if it had a turn
abbrev pub as_turn : EntityRef → Turn
as_turn entity = record { entity = entity; outcome = outcome.Same }

pub entities_as : (refs : List EntityRef) → entities_of (map as_turn refs) ≡ refs
entities_as [] = refl
entities_as (entity ∷ refs) = ap (λ (them : List EntityRef). entity ∷ them) (entities_as refs)

-- where a head had its turn, the tracking ref was not bad
not_bad : (own peer : List ℕ) (to : Side) (id : Id) (name : Name) (out : Outcome) (old new : History) → FetchOutcome own peer to id (Some name) out old new → head_at (files_of old) own to id ≡ Bad → ⊥
not_bad own peer to id name outcome.Same old new is bad = cc (sym is.0 ∙ bad)
not_bad own peer to id name outcome.Fetched old new is bad = subst (λ (r : Ref). IsOther r name) bad is.0
not_bad own peer to id name (outcome.DamagedCopy why) old new is bad = subst (λ (r : Ref). IsOther r name) bad is.0
not_bad own peer to id name outcome.BadRef old new none bad = none
not_bad own peer to id name outcome.Pushed old new none bad = none
not_bad own peer to id name (outcome.NotForward other) old new none bad = none
not_bad own peer to id name outcome.Held old new none bad = none

module _ (own peer : List ℕ) (remote : RemoteName) where
  leaves : (word : EntityWord) (turn : Turn) (of : Side) (id : Id) (old new : History)
      → ((name : Name) (files : Files) → head_at (written files (ref_write own (ref_place (tracking_side remote word) (id_of turn)) name)) own of id ≡ head_at files own of id)
      → Fetches own peer (tracking_side remote word) turn old new → head_at (files_of new) own of id ≡ head_at (files_of old) own of id
  leaves word turn of id old new free step = turn_leaves own peer (tracking_side remote word) of id (id_of turn) turn.entity.head turn.outcome old new free step

  module _ (word : EntityWord) where
    abbrev to : Side
    to = tracking_side remote word

    abbrev Step : Turn → History → History → Type 0
    Step = Fetches own peer to

    -- an entity with a head that had its turn had no bad tracking ref
    had_read : (turns : List Turn) → AllOnce turns → ((turn : Turn) → Contains turns turn → IsId (id_of turn)) → (old new : History) → InTurn Step turns old new → (turn : Turn) → Contains turns turn
        → (name : Name) → turn.entity.head ≡ Some name → head_at (files_of old) own to (id_of turn) ≡ Bad → ⊥
    had_read [] once are old new went turn (k, lt, e) name is bad = absurd (omega arith)
    had_read (first ∷ turns) once are old new (mid, step, later) turn (zero, lt, e) name is bad =
        not_bad own peer to (id_of first) name first.outcome old mid
        (subst (λ (head : Option Name). FetchOutcome own peer to (id_of first) head first.outcome old mid) (ap (λ (t : Turn). t.entity.head) e ∙ is) step)
        (ap (λ (t : Turn). head_at (files_of old) own to (id_of t)) e ∙ bad)
    had_read (first ∷ turns) once are old new (mid, step, later) turn (suc k, lt, e) name is bad =
        let c : Contains turns turn = (k, omega (arith, lt), e) in
        had_read turns once.1 (λ t d. are t (suc d.0, omega (arith, d.1), d.2)) mid new later turn c name is
        (turn_leaves_other own to Step (leaves word) first (id_of turn) (are first (0, omega arith, refl)) (are turn (suc k, lt, e)) (λ same. none_among (id_of first) turns once.0 turn c (sym same)) old mid step ∙ bad)

    -- ---- the turns of one kind, which begin behind the entry of the call

    module _ (entry start : History) (agree : (id : Id) → head_at (files_of start) own to id ≡ head_at (files_of entry) own to id) (refs : List EntityRef) (are : AreRefs (files_of entry) peer (local_side word) refs) where
      abbrev Bars : Id → Type 0
      Bars = BarsFetch own peer remote (files_of entry) word

      -- such an entity is listed
      stands : (id : Id) → Bars id → (head : Option Name) × (head_at (files_of entry) peer (local_side word) id ≡ ref_with head)
      stands id bars = (Some bars.0.0, bars.0.1)

      -- of an entity that had its turn this is not so
      module _ (turns : List Turn) (once : AllOnce turns) (among : (e : EntityRef) → Contains (entities_of turns) e → Contains refs e) (new : History) (went : InTurn Step turns start new) where
        had_none : (e : EntityRef) → Contains (entities_of turns) e → Bars e.id → ⊥
        had_none e has bars =
            let from = Contains-from_map (λ (t : Turn). t.entity) turns e has in
            let reads = ((are.members e).0 (among e has)).1 in
            let is : e.head ≡ Some bars.0.0 = some_head e.head bars.0.0 (sym reads ∙ bars.0.1) in
            had_read turns once (λ t d. ((are.members t.entity).0 (among t.entity (Contains-map (λ (u : Turn). u.entity) turns t d))).0) start new went from.0 from.1 bars.0.0
            (ap (λ (x : EntityRef). x.head) from.2 ∙ is) (agree from.0.entity.id ∙ ap (λ (x : EntityRef). head_at (files_of entry) own to x.id) from.2 ∙ bars.1)

      -- so it is not where all had
      pub went_none : (turns : List Turn) (new : History) → Went Step refs turns start new → (id : Id) → IsId id → Bars id → ⊥
      went_none turns new went id is_id bars =
          let e : EntityRef = record { id = id; head = Some bars.0.0 } in
          had_none turns (once_of_refs (files_of entry) peer (local_side word) refs turns are went.are) (λ other has. subst (λ (es : List EntityRef). Contains es other) went.are has) new went.each e
          (subst (λ (es : List EntityRef). Contains es e) (sym went.are) ((are.members e).1 (is_id, bars.0.1))) bars

      module _ (path : List ℕ) (new : History) (ended : Ended Step (FetchStops own peer to) (read.Damaged path) refs start new) where
        abbrev all : List Turn
        all = ended.done ++ as_turn ended.at ∷ map as_turn ended.rest

        all_once : AllOnce all
        all_once =
            once_of_refs (files_of entry) peer (local_side word) refs all are
            (map-append (λ (t : Turn). t.entity) ended.done (as_turn ended.at ∷ map as_turn ended.rest) ∙ ap (λ (them : List EntityRef). entities_of ended.done ++ ended.at ∷ them) (entities_as ended.rest) ∙ sym ended.are)

        among : (e : EntityRef) → Contains (entities_of ended.done) e → Contains refs e
        among e has = subst (λ (es : List EntityRef). Contains es e) (sym ended.are) (Contains-append_left (entities_of ended.done) (ended.at ∷ ended.rest) e has)

        listed : IsId ended.at.id × (head_at (files_of entry) peer (local_side word) ended.at.id ≡ ref_with ended.at.head)
        listed = at_stands (files_of entry) peer (local_side word) refs are (entities_of ended.done) ended.at ended.rest ended.are

        -- the turns before it left its tracking ref
        left : head_at (files_of ended.mid) own to ended.at.id ≡ head_at (files_of start) own to ended.at.id
        left =
            turns_leave own to Step (leaves word) ended.at.id listed.0 ended.done (λ t c. ((are.members t.entity).0 (among t.entity (Contains-map (λ (u : Turn). u.entity) ended.done t c))).0)
            (none_before ended.done (as_turn ended.at) (map as_turn ended.rest) all_once) start ended.mid ended.before

        -- the call ended at the first entity of which it is so
        pub ended_first : (id : Id) × IsFirst Bars id × (path ≡ joined own (ref_place to id))
        ended_first = by ended.at.head refl ended.ended
          where
            by : (head : Option Name) → ended.at.head ≡ head → IsBadTracking own peer to ended.at.id head path ended.mid new → (id : Id) × IsFirst Bars id × (path ≡ joined own (ref_place to id))
            by None is none = absurd none
            by (Some name) is (bad, same) =
                let bars : Bars ended.at.id = ((name, listed.1 ∙ ap ref_with is), sym (agree ended.at.id) ∙ sym left ∙ bad.1) in (
                  ended.at.id,
                  first_at (files_of entry) peer (local_side word) refs are (entities_of ended.done) ended.at ended.rest ended.are Bars stands bars
                      (had_none ended.done (once_in_front ended.done (as_turn ended.at ∷ map as_turn ended.rest) all_once) among ended.mid ended.before),
                  bad.0,
                )

  -- ---- a whole fetch

  -- the turns of identities leave the tracking refs of bugs
  bugs_agree : (turns : List Turn) (old mid : History) → InTurn (Step word.Identity) turns old mid → (id : Id) → head_at (files_of mid) own (to word.Bug) id ≡ head_at (files_of old) own (to word.Bug) id
  bugs_agree turns old mid went id = sides_leave own (to word.Identity) (Step word.Identity) (leaves word.Identity) (to word.Bug) (λ e. cc) id turns old mid went

  -- one that ends at damage ends at the first entity
  pub fetch_barred : (old new : History) (path : List ℕ) → FetchAnswers own peer remote old new (Err (read.Damaged path)) → FetchBarred own peer remote (files_of old) (refusal.Damaged path)
  fetch_barred old new path (inl none) = absurd none.0
  fetch_barred old new path (inr (inl e)) =
      let first = ended_first word.Identity old old (λ id. refl) e.people e.are.are_people path new e.ended in
      (word.Identity, first.0, first.1, ap refusal.Damaged first.2)
  fetch_barred old new path (inr (inr e)) =
      let first = ended_first word.Bug old e.mid (bugs_agree e.person_turns old e.mid e.first.each) e.bugs e.are.are_bugs path new e.ended in (
        word.Bug,
        first.0,
        (went_none word.Identity old old (λ id. refl) e.people e.are.are_people e.person_turns e.mid e.first, first.1),
        ap refusal.Damaged first.2,
      )

  -- one that is done has none
  pub fetch_unbarred : (old new : History) (lines : List Line) (r : Refusal) → FetchAnswers own peer remote old new (Ok lines) → FetchBarred own peer remote (files_of old) r → ⊥
  fetch_unbarred old new lines r done (word.Identity, id, first, told) = went_none word.Identity old old (λ id. refl) done.people done.are.are_people done.person_turns done.mid done.first id first.is_id first.is_so
  fetch_unbarred old new lines r done (word.Bug, id, first, told) =
      went_none word.Bug old done.mid (bugs_agree done.person_turns old done.mid done.first.each) done.bugs done.are.are_bugs done.bug_turns new done.then id first.1.is_id first.1.is_so

  -- and there is one refusal
  pub one_fetch_barred : (files : Files) (r s : Refusal) → FetchBarred own peer remote files r → FetchBarred own peer remote files s → r ≡ s
  one_fetch_barred files r s (word, id, first, told) (other, twin, also, told_too) =
      let same = one_first_turn (BarsFetch own peer remote files) word other id twin first also in
      told ∙ (λ i. refusal.Damaged (joined own (ref_place (tracking_side remote (same.0 i)) (same.1 i)))) ∙ sym told_too
