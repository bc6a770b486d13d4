-- A push between sound folders finds damage by a limit alone.
use Rattle.std.proofs.Common.{◌≡◌, ◌⊎◌, inl, inr, refl, sym, ◌∙◌, ap, subst, Bool, true, false, ℕ, List, Contains, Option, Some, None, Ok}
use Rattle.gb_text.specs.Digits.{IsId}
use Rattle.gb_text.specs.Overlap.{Overlap}
use Rattle.gb_text.specs.declared.id.Id.{Id}
use Rattle.gb_text.specs.declared.id.Name.{Name}
use Rattle.gb_store.specs.Files.{Files, History, files_of}
use Rattle.gb_store.specs.Moments.{IsMoment, Wrote, at_moment}
use Rattle.gb_store.specs.declared.store.Change.{Change}
use Rattle.gb_store.proofs.MomentLemmas.{Wrote-wider, WroteBy-after, WroteBy-before, at_moment-from_later}
use Rattle.object_store.specs.Growth.{OnlyGrew}
use Rattle.object_store.specs.Held.{Objects, objects_after}
use Rattle.dag_entity.specs.Folders.{HaveOneText}
use Rattle.ref_store.specs.Refs.{Bad, Head}
use Rattle.remote_copy.specs.Causes.{CauseHolds}
use Rattle.remote_copy.specs.declared.fault.CopyFault.{CopyFault}
use Rattle.remote_copy.specs.declared.fault.CopyFault.TheVariants as fault
use Rattle.repo_state.specs.Listed.{ref_with}
use Rattle.repo_state.specs.Sides.{head_at}
use Rattle.repo_state.specs.Sound.{IsSound}
use Rattle.repo_state.specs.Sound as parts
use Rattle.repo_state.specs.declared.side.Side.{Side}
use Rattle.sync_steps.specs.Carrying.{fault_of}
use Rattle.sync_steps.specs.Lines.{is_refused}
use Rattle.sync_steps.specs.Places.{local_side}
use Rattle.sync_steps.specs.Pushing.{PushAnswers, PushOfRef, PushOutcome, PushStops, Pushes}
use Rattle.sync_steps.specs.Turns.{Turn}
use Rattle.sync_steps.specs.Writes.{MayPush}
use Rattle.sync_steps.specs.declared.line.CopyCause.{CopyCause}
use Rattle.sync_steps.specs.declared.line.CopyCause.TheVariants as cause
use Rattle.sync_steps.specs.declared.line.EntityWord.{EntityWord}
use Rattle.sync_steps.specs.declared.line.EntityWord.TheVariants as word
use Rattle.sync_steps.specs.declared.line.Exchange.TheVariants as verb
use Rattle.sync_steps.specs.declared.line.Line.{Line}
use Rattle.sync_steps.specs.declared.line.Outcome.{Outcome}
use Rattle.sync_steps.specs.declared.line.Outcome.TheVariants as outcome
use Rattle.sync_steps.proofs.HeldLemmas.{held_lines}
use Rattle.sync_steps.proofs.PushWriteLemmas.{PushesAs, in_peer, push_turn_wrote, pushes_as}
use Rattle.sync_steps.proofs.WriteLemmas.{objects_apart}
use Rattle.sync_writes.specs.Kinds.{PushWrites}
use Rattle.sync_writes.proofs.PushKeptLemmas.{push_keeps_parts, push_keeps_sound}
use Rattle.sync_writes.proofs.PushKindLemmas.{push_writes}
use Rattle.copy_limits.specs.Flat.{HasFlatEntities, HasFlatTrees}
use Rattle.copy_limits.specs.Limits.{IsTreeLimit}
use Rattle.copy_limits.proofs.GrewLemmas.{push_grew}
use Rattle.copy_limits.proofs.SoundLemmas.{no_bad_ref, one_text_before, sound_limit, sound_none, told_limit}
use Rattle.copy_limits.proofs.TurnLemmas.{LineTurn, its_moment, line_turn}

module _ (own peer : List ℕ) (apart : Overlap own peer → ⊥) (old new : History) (wrote : Wrote (PushWrites own peer) old new)
    (ours : IsSound own (files_of old)) (theirs : IsSound peer (files_of old)) (alike : HaveOneText (objects_after new own) (objects_after new peer)) where
  abbrev May : History → History → Type 0
  May = Wrote (MayPush own peer)

  -- by the files alone
  may : May old new
  may = Wrote-wider (PushWrites own peer) (MayPush own peer) old new each wrote
    where
      each : (files : Files) (change : Change) → PushWrites own peer files change → MayPush own peer files change
      each files change (inl puts) = inl puts
      each files change (inr head) = inr head.set

  -- the own objects stay
  own_objects : (before after : History) → May before after → objects_after after own ≡ objects_after before own
  own_objects before after between = objects_apart (MayPush own peer) peer own apart (in_peer own peer apart old) before after between

  own_grew : OnlyGrew (objects_after old own) (objects_after new own)
  own_grew = record { stays = λ name text stands. ap (λ (o : Objects). o name) (own_objects old new may) ∙ stands }

  module _ (moment : History) (at : IsMoment old new moment) where
    since : May moment new
    since = WroteBy-after (at_moment (MayPush own peer)) old new moment (at_moment-from_later (MayPush own peer)) may at

    same : objects_after moment own ≡ objects_after old own
    same = own_objects old moment (WroteBy-before (at_moment (MayPush own peer)) old new moment may at)

    -- the peer is sound at each moment
    pub peer_sound : IsSound peer (files_of moment)
    peer_sound = (push_keeps_sound own peer old new (push_keeps_parts own peer old new apart wrote) ours theirs).each moment at

    one_text : HaveOneText (objects_after old own) (objects_after moment peer)
    one_text = one_text_before (objects_after old own) (objects_after moment peer) (objects_after new own) (objects_after new peer) own_grew (push_grew own peer moment new since) alike

    -- and nothing but a limit keeps a local head from being copied
    pub push_limit_at : (kind : EntityWord) (id : Id) (head : Name) → IsId id → head_at (files_of old) own (local_side kind) id ≡ Head head
        → (why : CopyFault) → CauseHolds false (objects_after moment own) (objects_after moment peer) head why → (count : ℕ) × (why ≡ fault.TooLarge count) × IsTreeLimit count
    push_limit_at kind id head is reads why holds =
        sound_limit own (files_of old) ours id is false (objects_after moment peer) (peer_sound parts.Objects) one_text kind head reads why
        (subst (λ (o : Objects). CauseHolds false o (objects_after moment peer) head why) same holds)

    -- nothing does where the trees below it are flat and small
    pub push_none_at : (kind : EntityWord) (id : Id) (head : Name) → IsId id → head_at (files_of old) own (local_side kind) id ≡ Head head → HasFlatTrees (objects_after old own) head
        → (why : CopyFault) → CauseHolds false (objects_after moment own) (objects_after moment peer) head why → ⊥
    push_none_at kind id head is reads flat why holds =
        sound_none own (files_of old) ours id is false (objects_after moment peer) (peer_sound parts.Objects) one_text kind head reads flat why
        (subst (λ (o : Objects). CauseHolds false o (objects_after moment peer) head why) same holds)

-- ---- one turn

-- what the refusal of a turn says: that it is held, that the peer's ref is bad, that it is not below, or what kept the head from being copied
data TellsOf (own peer : List ℕ) (of : Side) (id : Id) (head : Option Name) (old : History) : Outcome → Type 0 where
  held : {out : Outcome} → out ≡ outcome.Held → TellsOf own peer of id head old out
  bad : {out : Outcome} → head_at (files_of old) peer of id ≡ Bad → TellsOf own peer of id head old out
  beside : {out : Outcome} (other : Name) → out ≡ outcome.NotForward other → TellsOf own peer of id head old out
  refused : {out : Outcome} (name : Name) (why : CopyCause) → head ≡ Some name → out ≡ outcome.DamagedCopy why
      → CauseHolds false (objects_after old own) (objects_after old peer) name (fault_of why) → TellsOf own peer of id head old out

module _ (own peer : List ℕ) (of : Side) (id : Id) where
  head_tells : (name : Name) (out : Outcome) (old new : History) → PushOutcome own peer of id name out old new → is_refused out ≡ true → TellsOf own peer of id (Some name) old out
  head_tells name outcome.Same old new step is = absurd (cc is)
  head_tells name outcome.BadRef old new step is = bad step.0
  head_tells name (outcome.NotForward other) old new step is = beside other refl
  head_tells name outcome.Pushed old new step is = absurd (cc is)
  head_tells name (outcome.DamagedCopy why) old new step is = refused name why refl refl step.1.cause
  head_tells name outcome.Fetched old new none is = absurd none
  head_tells name outcome.Held old new none is = absurd none

  ref_tells : (head : Option Name) (out : Outcome) (old new : History) → PushOfRef own peer of id head out old new → is_refused out ≡ true → TellsOf own peer of id head old out
  ref_tells None out old new none is = absurd none
  ref_tells (Some name) out old new step is = head_tells name out old new step is

tells_of : (own peer : List ℕ) (of : Side) (free : Bool) (turn : Turn) (old new : History) → Pushes own peer of free turn old new → is_refused turn.outcome ≡ true
    → TellsOf own peer of turn.entity.id turn.entity.head old turn.outcome
tells_of own peer of true turn old new step is = held step.0
tells_of own peer of false turn old new step is = ref_tells own peer of turn.entity.id turn.entity.head turn.outcome old new step is

-- ---- the lines

module _ (own peer : List ℕ) (apart : Overlap own peer → ⊥) (old new : History) (ours : IsSound own (files_of old)) (theirs : IsSound peer (files_of old))
    (alike : HaveOneText (objects_after new own) (objects_after new peer)) (lines : List Line) (done : PushAnswers own peer old new (Ok lines)) where
  abbrev Steps : EntityWord → Bool → Turn → History → History → Type 0
  Steps kind = Pushes own peer (local_side kind)

  writes : (kind : EntityWord) (free : Bool) (turn : Turn) (before after : History) → (IsId turn.entity.id × (head_at (files_of old) own (local_side kind) turn.entity.id ≡ ref_with turn.entity.head)) → Wrote (MayPush own peer) old before
      → Steps kind free turn before after → Wrote (MayPush own peer) before after
  writes kind free turn before after listed came step =
      Wrote-wider (PushesAs own peer kind free) (MayPush own peer) before after (pushes_as own peer kind free) (push_turn_wrote own peer apart old kind free turn before after listed came step)

  abbrev IsLimit : Outcome → Type 0
  IsLimit out = (count : ℕ) × (out ≡ outcome.DamagedCopy (cause.TooLarge count)) × IsTreeLimit count

  -- a line that refuses tells a limit, a head that is not below, or that it is held
  abbrev Tells : Line → Type 0
  Tells l = is_refused l.outcome ≡ true → IsLimit l.outcome ⊎ (((other : Name) × (l.outcome ≡ outcome.NotForward other)) ⊎ (l.outcome ≡ outcome.Held))

  module _ (line : Line) (among : Contains lines line) where
    of : LineTurn (MayPush own peer) verb.Push Steps (λ (kind : EntityWord). PushStops own peer (local_side kind)) own old new writes line
    of = line_turn (MayPush own peer) verb.Push Steps (λ (kind : EntityWord). PushStops own peer (local_side kind)) own old new writes lines done line among

    moment : IsMoment old new of.made.before
    moment = its_moment (MayPush own peer) (Steps of.kind of.held) old new of.turn of.made

    wrote : Wrote (PushWrites own peer) old new
    wrote = push_writes own peer apart old new (Ok lines) done

    pub push_limit : Tells line
    push_limit = subst Tells of.is (λ is. by (tells_of own peer (local_side of.kind) of.held of.turn of.made.before of.made.after of.made.step is))
      where
        by : TellsOf own peer (local_side of.kind) of.turn.entity.id of.turn.entity.head of.made.before of.turn.outcome
            → IsLimit of.turn.outcome ⊎ (((other : Name) × (of.turn.outcome ≡ outcome.NotForward other)) ⊎ (of.turn.outcome ≡ outcome.Held))
        by (held is) = inr (inr is)
        by (bad at) = absurd (no_bad_ref peer (files_of of.made.before) (peer_sound own peer apart old new wrote ours theirs alike of.made.before moment) of.turn.entity.id of.listed.0 of.kind at)
        by (beside other is) = inr (inl (other, is))
        by (refused name why head is cause) =
            let limit = push_limit_at own peer apart old new wrote ours theirs alike of.made.before moment of.kind of.turn.entity.id name of.listed.0 (of.listed.1 ∙ ap ref_with head) (fault_of why) cause in
            inl (limit.0, is ∙ ap outcome.DamagedCopy (told_limit why limit.0 limit.1), limit.2)

    -- where the own entities have flat trees, it tells no refused copy
    pub push_none : HasFlatEntities own (files_of old) → (why : CopyCause) → line.outcome ≡ outcome.DamagedCopy why → ⊥
    push_none flat why = subst (λ (l : Line). l.outcome ≡ outcome.DamagedCopy why → ⊥) of.is
        (λ told. by told (tells_of own peer (local_side of.kind) of.held of.turn of.made.before of.made.after of.made.step (ap is_refused told)))
      where
        by : of.turn.outcome ≡ outcome.DamagedCopy why → TellsOf own peer (local_side of.kind) of.turn.entity.id of.turn.entity.head of.made.before of.turn.outcome → ⊥
        by told (held is) = let no : outcome.DamagedCopy why ≡ outcome.Held = sym told ∙ is in cc no
        by told (bad at) = no_bad_ref peer (files_of of.made.before) (peer_sound own peer apart old new wrote ours theirs alike of.made.before moment) of.turn.entity.id of.listed.0 of.kind at
        by told (beside other is) = let no : outcome.DamagedCopy why ≡ outcome.NotForward other = sym told ∙ is in cc no
        by told (refused name found head is cause) =
            let reads = of.listed.1 ∙ ap ref_with head in
            push_none_at own peer apart old new wrote ours theirs alike of.made.before moment of.kind of.turn.entity.id name of.listed.0 reads
            (flat of.kind of.turn.entity.id name of.listed.0 reads) (fault_of found) cause

  -- a bug is held only for an identity that breaks a limit
  abbrev HeldFor : Line → Type 0
  HeldFor line = (line.word ≡ word.Bug) × ((other : Line) × Contains lines other × (other.word ≡ word.Identity) × IsLimit other.outcome)

  damaged_limit : (out : Outcome) → (out ≡ outcome.BadRef) ⊎ ((why : CopyCause) × (out ≡ outcome.DamagedCopy why))
      → (is_refused out ≡ true → IsLimit out ⊎ (((other : Name) × (out ≡ outcome.NotForward other)) ⊎ (out ≡ outcome.Held))) → IsLimit out
  damaged_limit out (inl e) tells = elim (tells (ap is_refused e)) [
    | inl limit ↦ limit
    | inr (inl other) ↦ absurd (let no : outcome.BadRef ≡ outcome.NotForward other.0 = sym e ∙ other.1 in cc no)
    | inr (inr is) ↦ absurd (let no : outcome.BadRef ≡ outcome.Held = sym e ∙ is in cc no)
  ]
  damaged_limit out (inr (why, e)) tells = elim (tells (ap is_refused e)) [
    | inl limit ↦ limit
    | inr (inl other) ↦ absurd (let no : outcome.DamagedCopy why ≡ outcome.NotForward other.0 = sym e ∙ other.1 in cc no)
    | inr (inr is) ↦ absurd (let no : outcome.DamagedCopy why ≡ outcome.Held = sym e ∙ is in cc no)
  ]

  pub held_limit : (line : Line) → Contains lines line → line.outcome ≡ outcome.Held → HeldFor line
  held_limit line among is =
      let for = (held_lines own peer lines old new done line among).0 is in
      let other = for.1.0 in
      (for.0, (other, for.1.1, for.1.2, damaged_limit other.outcome for.1.3 (push_limit other for.1.1)))

  -- where the own entities have flat trees, a line refuses only a head that is not below
  pub push_beside : HasFlatEntities own (files_of old) → (line : Line) → Contains lines line → is_refused line.outcome ≡ true → (other : Name) × (line.outcome ≡ outcome.NotForward other)
  push_beside flat line among told = elim (push_limit line among told) [
    | inl limit ↦ absurd (push_none line among flat (cause.TooLarge limit.0) limit.1)
    | inr (inl other) ↦ other
    | inr (inr is) ↦
        let for = held_limit line among is in
        absurd (push_none for.1.0 for.1.1 flat (cause.TooLarge for.1.3.0) for.1.3.1)
  ]
