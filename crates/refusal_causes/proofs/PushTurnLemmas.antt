-- A push is refused exactly for the first local ref that is no ref text, of the entities that it looks at.
use Rattle.std.proofs.Common.{◌≡◌, ◌⊎◌, inl, inr, ℕ, zero, suc, Bool, true, false, List, [], ◌∷◌, Contains, Option, Some, None, Ok, Err, refl, sym, ◌∙◌, ap, subst, arith}
use Rattle.std.specs.Prelude.{◌||◌}
use Rattle.std.proofs.lemmas.List.Elements.{Contains-append_left}
use Rattle.gb_text.specs.Digits.{IsId}
use Rattle.gb_text.specs.Folder.{joined}
use Rattle.gb_text.specs.Overlap.{Overlap}
use Rattle.gb_text.specs.declared.id.Id.{Id}
use Rattle.gb_text.specs.declared.id.Name.{Name}
use Rattle.gb_store.specs.Files.{Files, History, files_of}
use Rattle.gb_store.specs.Turns.{InTurn}
use Rattle.object_store.specs.Held.{Objects, objects_after, objects_in}
use Rattle.ref_store.specs.Refs.{Bad, Head, Ref}
use Rattle.remote_copy.specs.Copies.{HasNoCause}
use Rattle.repo_state.specs.Listed.{AreRefs, ref_with}
use Rattle.repo_state.specs.Sides.{IsFirst, head_at, ref_place}
use Rattle.repo_state.specs.declared.refs.EntityRef.{EntityRef}
use Rattle.repo_state.specs.declared.side.Side.{Side}
use Rattle.repo_state.specs.declared.side.Side.TheVariants as side
use Rattle.repo_state.specs.declared.stop.ReadStop.TheVariants as read
use Rattle.repo_state.proofs.ListingLemmas.{Contains-from_map}
use Rattle.repo_steps.specs.declared.refusal.Refusal.{Refusal}
use Rattle.repo_steps.specs.declared.refusal.Refusal.TheVariants as refusal
use Rattle.sync_steps.specs.Carrying.{IsCarried, fault_of}
use Rattle.sync_steps.specs.Places.{local_side}
use Rattle.sync_steps.specs.Pushing.{IsBadLocal, IsForward, PushAnswers, PushOfRef, PushOutcome, PushStops, Pushes}
use Rattle.sync_steps.specs.Turns.{Ended, Turn, Went, are_held, entities_of, is_damage}
use Rattle.sync_steps.specs.declared.line.EntityWord.{EntityWord}
use Rattle.sync_steps.specs.declared.line.EntityWord.TheVariants as word
use Rattle.sync_steps.specs.declared.line.Line.{Line}
use Rattle.sync_steps.specs.declared.line.Outcome.{Outcome}
use Rattle.sync_steps.specs.declared.line.Outcome.TheVariants as outcome
use Rattle.refusal_causes.proofs.CarriedLemmas.{carried_same}
use Rattle.refusal_causes.specs.TurnCauses.{BarsPush, PushBarred}
use Rattle.refusal_causes.proofs.FirstLemmas.{at_stands, first_at, no_head, one_first_turn, refs_same}

-- ---- the turns of one kind, of which nothing is held

module _ (own peer : List ℕ) (word : EntityWord) where
  abbrev Step : Turn → History → History → Type 0
  Step = Pushes own peer (local_side word) false

  -- an entity that had its turn had a head
  had_head : (turns : List Turn) (old new : History) → InTurn Step turns old new → (turn : Turn) → Contains turns turn → turn.entity.head ≡ None → ⊥
  had_head [] old new went turn (k, lt, e) none = absurd (omega arith)
  had_head (first ∷ turns) old new (mid, step, later) turn (zero, lt, e) none =
      subst (λ (head : Option Name). PushOfRef own peer (local_side word) first.entity.id head first.outcome old mid) (ap (λ (t : Turn). t.entity.head) e ∙ none) step
  had_head (first ∷ turns) old new (mid, step, later) turn (suc k, lt, e) none = had_head turns mid new later turn (k, omega (arith, lt), e) none

  module _ (entry start : History) (refs : List EntityRef) (are : AreRefs (files_of entry) own (local_side word) refs) where
    abbrev Bars : Id → Type 0
    Bars = BarsPush own (files_of entry) word

    stands : (id : Id) → Bars id → (head : Option Name) × (head_at (files_of entry) own (local_side word) id ≡ ref_with head)
    stands id bad = (None, bad)

    had_none : (turns : List Turn) (new : History) → InTurn Step turns start new → (e : EntityRef) → Contains (entities_of turns) e → Contains refs e → Bars e.id → ⊥
    had_none turns new went e has among bad =
        let from = Contains-from_map (λ (t : Turn). t.entity) turns e has in
        had_head turns start new went from.0 from.1 (ap (λ (x : EntityRef). x.head) from.2 ∙ no_head e.head (sym ((are.members e).0 among).1 ∙ bad))

    -- where all had their turns no ref is bad
    pub went_none : (turns : List Turn) (new : History) → Went Step refs turns start new → (id : Id) → IsId id → Bars id → ⊥
    went_none turns new went id is_id bad =
        let e : EntityRef = record { id = id; head = None } in
        let among : Contains refs e = (are.members e).1 (is_id, bad) in
        had_none turns new went.each e (subst (λ (es : List EntityRef). Contains es e) (sym went.are) among) among bad

    -- the call ended at the first that is
    pub ended_first : (path : List ℕ) (new : History) → Ended Step (PushStops own peer (local_side word) false) (read.Damaged path) refs start new
        → (id : Id) × IsFirst Bars id × (path ≡ joined own (ref_place (local_side word) id))
    ended_first path new ended = by ended.at.head refl ended.ended
      where
        by : (head : Option Name) → ended.at.head ≡ head → IsBadLocal own peer (local_side word) false ended.at.id head path ended.mid new
            → (id : Id) × IsFirst Bars id × (path ≡ joined own (ref_place (local_side word) id))
        by (Some name) is none = absurd none
        by None is (at, same) = (
          ended.at.id,
          first_at (files_of entry) own (local_side word) refs are (entities_of ended.done) ended.at ended.rest ended.are Bars stands
              ((at_stands (files_of entry) own (local_side word) refs are (entities_of ended.done) ended.at ended.rest ended.are).1 ∙ ap ref_with is)
              (λ e has. had_none ended.done ended.mid ended.before e has
              (subst (λ (es : List EntityRef). Contains es e) (sym ended.are) (Contains-append_left (entities_of ended.done) (ended.at ∷ ended.rest) e has))),
          at,
        )

-- ---- turns from the same files

module _ (own peer : List ℕ) (apart : Overlap own peer → ⊥) (of : Side) where
  -- the peer's ref is left, and is a ref text
  abbrev IsLeft : Objects → Ref → Name → Type 0
  IsLeft objects ref name = (IsForward objects ref name → ⊥) × (ref ≡ Bad → ⊥)

  abbrev peers_ref : Id → History → Ref
  peers_ref id old = head_at (files_of old) peer of id

  -- what came of a head that is not damaged
  abbrev Came : Id → Name → History → History → Type 0
  Came id name old new =
      (IsLeft (objects_after old own) (peers_ref id old) name × (new ≡ old))
      ⊎ (IsForward (objects_after old own) (peers_ref id old) name × IsCarried false own peer of (record { id = id; name = name }) old new)

  same_left : (objects : Objects) (ref : Ref) (name : Name) → ref ≡ Head name → IsLeft objects ref name
  same_left objects ref name at = (
    λ goes. (subst (λ (r : Ref). IsForward objects r name) at goes).0 refl,
    λ bad. cc (sym at ∙ bad),
  )

  other_left : (objects : Objects) (ref : Ref) (name other : Name) → ref ≡ Head other → ((IsForward objects (Head other) name) → ⊥) → IsLeft objects ref name
  other_left objects ref name other at none = (λ goes. none (subst (λ (r : Ref). IsForward objects r name) at goes), λ bad. cc (sym at ∙ bad))

  came : (id : Id) (name : Name) (out : Outcome) (old new : History) → is_damage out ≡ false → PushOutcome own peer of id name out old new → Came id name old new
  came id name outcome.Same old new fine is = inl (same_left (objects_after old own) (peers_ref id old) name is.0, is.1)
  came id name (outcome.NotForward other) old new fine is = inl (other_left (objects_after old own) (peers_ref id old) name other is.0 (λ goes. is.2 goes.1), is.3)
  came id name outcome.Pushed old new fine is = inr is
  came id name outcome.BadRef old new fine is = absurd (cc fine)
  came id name (outcome.DamagedCopy why) old new fine is = absurd (cc fine)
  came id name outcome.Fetched old new fine none = absurd none
  came id name outcome.Held old new fine none = absurd none

  -- so nothing else comes of it
  left_then : (id : Id) (name : Name) (out : Outcome) (old new : History) → IsLeft (objects_after old own) (peers_ref id old) name → PushOutcome own peer of id name out old new → (is_damage out ≡ false) × (new ≡ old)
  left_then id name outcome.Same old new left is = (refl, is.1)
  left_then id name (outcome.NotForward other) old new left is = (refl, is.3)
  left_then id name outcome.BadRef old new left is = absurd (left.1 is.0)
  left_then id name outcome.Pushed old new left is = absurd (left.0 is.0)
  left_then id name (outcome.DamagedCopy why) old new left is = absurd (left.0 is.0)
  left_then id name outcome.Fetched old new left none = absurd none
  left_then id name outcome.Held old new left none = absurd none

  goes_then : (id : Id) (name : Name) (out : Outcome) (old new : History) → IsForward (objects_after old own) (peers_ref id old) name → HasNoCause false (objects_after old own) (objects_after old peer) name
      → PushOutcome own peer of id name out old new → (is_damage out ≡ false) × IsCarried false own peer of (record { id = id; name = name }) old new
  goes_then id name outcome.Same old new goes free is = absurd ((same_left (objects_after old own) (peers_ref id old) name is.0).0 goes)
  goes_then id name (outcome.NotForward other) old new goes free is = absurd ((other_left (objects_after old own) (peers_ref id old) name other is.0 (λ on. is.2 on.1)).0 goes)
  goes_then id name outcome.BadRef old new goes free is = absurd (subst (λ (r : Ref). IsForward (objects_after old own) r name) is.0 goes)
  goes_then id name outcome.Pushed old new goes free is = (refl, is.1)
  goes_then id name (outcome.DamagedCopy why) old new goes free is = absurd (free (fault_of why) is.1.cause)
  goes_then id name outcome.Fetched old new goes free none = absurd none
  goes_then id name outcome.Held old new goes free none = absurd none

  -- another turn of it from the same files is not damaged, and leaves the same files
  module _ (id : Id) (name : Name) (other : Outcome) (old elder new newer : History) (same : files_of old ≡ files_of elder) (also : PushOutcome own peer of id name other elder newer) where
    head_too : Came id name old new → (is_damage other ≡ false) × (files_of new ≡ files_of newer)
    head_too (inl (left, quiet)) =
        let then = left_then id name other elder newer (subst (λ (files : Files). IsLeft (objects_in files own) (head_at files peer of id) name) same left) also in
        (then.0, ap files_of quiet ∙ same ∙ sym (ap files_of then.1))
    head_too (inr (goes, carried)) =
        let then = goes_then id name other elder newer (subst (λ (files : Files). IsForward (objects_in files own) (head_at files peer of id) name) same goes)
        (subst (λ (files : Files). HasNoCause false (objects_in files own) (objects_in files peer) name) same carried.no_cause) also in
        (then.0, carried_same false own peer apart of (record { id = id; name = name }) old elder new newer same carried then.1)

  turn_too : (entity : EntityRef) (out other : Outcome) (old elder new newer : History) → files_of old ≡ files_of elder → is_damage out ≡ false
      → PushOfRef own peer of entity.id entity.head out old new → PushOfRef own peer of entity.id entity.head other elder newer → (is_damage other ≡ false) × (files_of new ≡ files_of newer)
  turn_too entity out other old elder new newer same fine one two = by entity.head one two
    where
      by : (head : Option Name) → PushOfRef own peer of entity.id head out old new → PushOfRef own peer of entity.id head other elder newer → (is_damage other ≡ false) × (files_of new ≡ files_of newer)
      by None here there = absurd here
      by (Some name) here there = head_too entity.id name other old elder new newer same there (came entity.id name out old new fine here)

  both_false : (a b : Bool) → (a || b) ≡ false → (a ≡ false) × (b ≡ false)
  both_false true b e = absurd (cc e)
  both_false false b e = (refl, e)

  none_held : (a b : Bool) → a ≡ false → b ≡ false → (a || b) ≡ false
  none_held a b one two = ap (λ (c : Bool). c || b) one ∙ two

  -- where the turns of some entities harm none, no turns of them do
  unharmed_too : (turns others : List Turn) (old elder new newer : History) → entities_of turns ≡ entities_of others → files_of old ≡ files_of elder → are_held turns ≡ false
      → InTurn (Pushes own peer of false) turns old new → InTurn (Pushes own peer of false) others elder newer → are_held others ≡ false
  unharmed_too turns [] old elder new newer e same fine one two = refl
  unharmed_too [] (other ∷ others) old elder new newer e same fine one two = absurd (cc e)
  unharmed_too (turn ∷ turns) (other ∷ others) old elder new newer e same fine (mid, step, later) (middle, also, rest) =
      let first : turn.entity ≡ other.entity = cc e in
      let tails : entities_of turns ≡ entities_of others = cc e in
      let parts = both_false (is_damage turn.outcome) (are_held turns) fine in
      let then = turn_too turn.entity turn.outcome other.outcome old elder mid middle same parts.0 step
      (subst (λ (entity : EntityRef). PushOfRef own peer of entity.id entity.head other.outcome elder middle) (sym first) also) in
      none_held (is_damage other.outcome) (are_held others) then.0 (unharmed_too turns others mid middle new newer tails then.1 parts.1 later rest)

-- ---- a whole push

module _ (own peer : List ℕ) where
  -- one that ends at damage ends at the first entity that it looks at
  pub push_barred : (old new : History) (path : List ℕ) → PushAnswers own peer old new (Err (read.Damaged path)) → PushBarred own peer old (refusal.Damaged path)
  push_barred old new path (inl none) = absurd none.0
  push_barred old new path (inr (inl e)) =
      let first = ended_first own peer word.Identity old old e.people e.are.are_people path new e.ended in
      (word.Identity, first.0, first.1, tt, ap refusal.Damaged first.2)
  push_barred old new path (inr (inr e)) = by (are_held e.person_turns) refl e.ended
    where
      by : (held : Bool) → are_held e.person_turns ≡ held → Ended (Pushes own peer side.Bugs held) (PushStops own peer side.Bugs held) (read.Damaged path) e.bugs e.mid new → PushBarred own peer old (refusal.Damaged path)
      by true is ended = absurd ended.ended
      by false is ended =
          let first = ended_first own peer word.Bug old e.mid e.bugs e.are.are_bugs path new ended in (
            word.Bug,
            first.0,
            (went_none own peer word.Identity old old e.people e.are.are_people e.person_turns e.mid e.first, first.1),
            record { people = e.people; are_people = e.are.are_people; turns = e.person_turns; mid = e.mid; went = e.first; unharmed = is },
            ap refusal.Damaged first.2,
          )

  -- and there is one refusal
  pub one_push_barred : (old : History) (r s : Refusal) → PushBarred own peer old r → PushBarred own peer old s → r ≡ s
  one_push_barred old r s (word, id, first, looks, told) (other, twin, also, looks_too, told_too) =
      let same = one_first_turn (BarsPush own (files_of old)) word other id twin first also in
      told ∙ (λ i. refusal.Damaged (joined own (ref_place (local_side (same.0 i)) (same.1 i)))) ∙ sym told_too

  -- one that is done has none
  pub push_unbarred : (Overlap own peer → ⊥) → (old new : History) (lines : List Line) (r : Refusal) → PushAnswers own peer old new (Ok lines) → PushBarred own peer old r → ⊥
  push_unbarred apart old new lines r done (word.Identity, id, first, looks, told) =
      went_none own peer word.Identity old old done.people done.are.are_people done.person_turns done.mid done.first id first.is_id first.is_so
  push_unbarred apart old new lines r done (word.Bug, id, first, looks, told) =
      went_none own peer word.Bug old done.mid done.bugs done.are.are_bugs done.bug_turns new
      (subst (λ (held : Bool). Went (Pushes own peer side.Bugs held) done.bugs done.bug_turns done.mid new) unharmed done.then) id first.1.is_id first.1.is_so
    where
      unharmed : are_held done.person_turns ≡ false
      unharmed =
          unharmed_too own peer apart side.Identities looks.turns done.person_turns old old looks.mid done.mid
          (looks.went.are ∙ refs_same (files_of old) own side.Identities looks.people done.people looks.are_people done.are.are_people ∙ sym done.first.are) refl looks.unharmed looks.went.each done.first.each
