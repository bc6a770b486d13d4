-- What a push writes: where it sets the ref of a bug, each local identity has a ref in the peer.
use Rattle.std.proofs.Common.{◌≡◌, ◌≢◌, inl, inr, refl, sym, ◌∙◌, ap, subst, ℕ, Bool, true, false, IsTrue, List, ◌∷◌, ◌++◌, Contains, Option, Some, None, Result}
use Rattle.std.specs.Prelude.{⊤}
use Rattle.gb_text.specs.Digits.{IsName}
use Rattle.gb_text.specs.Overlap.{Overlap}
use Rattle.gb_text.specs.declared.id.Id.{Id}
use Rattle.gb_text.specs.declared.id.Name.{Name}
use Rattle.gb_store.specs.Files.{Files, History, files_of, written}
use Rattle.gb_store.specs.Moments.{Wrote, at_moment}
use Rattle.gb_store.specs.declared.store.Change.{Change}
use Rattle.gb_store.proofs.MomentLemmas.{Wrote-one, Wrote-wider}
use Rattle.ref_store.specs.Refs.{Ref, Absent, Head, Bad}
use Rattle.repo_state.specs.Bugs.{IsLocal}
use Rattle.repo_state.specs.Listed.{AreRefs, ref_with}
use Rattle.repo_state.specs.Sides.{head_at, is_there}
use Rattle.repo_state.specs.declared.refs.EntityRef.{EntityRef}
use Rattle.repo_state.specs.declared.side.Side.{Side}
use Rattle.repo_state.specs.declared.side.Side.TheVariants as side
use Rattle.repo_state.specs.declared.stop.ReadStop.{ReadStop}
use Rattle.repo_state.proofs.KindLemmas.{head_at-other_id}
use Rattle.sync_steps.specs.Places.{local_side}
use Rattle.sync_steps.specs.Pushing.{PushAnswers, PushOfRef, PushStops, Pushes}
use Rattle.sync_steps.specs.Turns.{Turn, Went, are_held, is_damage}
use Rattle.sync_steps.specs.Writes.{MayPush}
use Rattle.sync_steps.specs.declared.line.EntityWord.{EntityWord}
use Rattle.sync_steps.specs.declared.line.EntityWord.TheVariants as word
use Rattle.sync_steps.specs.declared.line.Exchange.TheVariants as verb
use Rattle.sync_steps.specs.declared.line.Line.{Line}
use Rattle.sync_steps.specs.declared.line.Outcome.{Outcome}
use Rattle.sync_steps.specs.declared.line.Outcome.TheVariants as outcome
use Rattle.sync_steps.proofs.FetchedLemmas.{push_sets, pushes_leave}
use Rattle.sync_steps.proofs.HeldLemmas.{held_from}
use Rattle.sync_steps.proofs.PushWriteLemmas.{PushesAs, in_peer, push_turn_wrote, pushes_as, stop_wrote}
use Rattle.sync_steps.proofs.SetLemmas.{id_of}
use Rattle.sync_steps.proofs.WriteLemmas.{heads_apart}
use Rattle.sync_writes.specs.Kinds.{ArePeopleThere, PushWrites}
use Rattle.sync_writes.proofs.PartsLemmas.{exchange_writes}
use Rattle.sync_writes.proofs.StandLemmas.{WasListed, listed_came, listed_name, put_leaves, set_leaves}

-- a ref that stands is listed, with its head if it reads
listing_of : (ref : Ref) → IsTrue (is_there ref) → (head : Option Name) × (ref ≡ ref_with head)
listing_of Absent stands = absurd cc
listing_of (Head name) stands = (Some name, refl)
listing_of Bad stands = (None, refl)

-- where none is damage, this one is not
not_damage : (turns : List Turn) (turn : Turn) → Contains turns turn → are_held turns ≡ false → is_damage turn.outcome ≡ false
not_damage turns turn c sound = by (is_damage turn.outcome) refl
  where
    by : (b : Bool) → is_damage turn.outcome ≡ b → b ≡ false
    by true at = sym (held_from turns turn c at) ∙ sound
    by false at = refl

module _ (own peer : List ℕ) where
  -- the peer's ref of an identity reads
  abbrev HasHead : Id → History → Type 0
  HasHead id now = (head : Name) × (head_at (files_of now) peer side.Identities id ≡ Head head)

  -- it does after a turn that is no damage
  turn_there : (id : Id) (head : Option Name) (out : Outcome) (old new : History) → ((name : Name) → head ≡ Some name → IsName name) → PushOfRef own peer side.Identities id head out old new → is_damage out ≡ false → HasHead id new
  turn_there id None out old new named none sound = absurd none
  turn_there id (Some name) outcome.Same old new named (at, same) sound = (name, ap (λ (h : History). head_at (files_of h) peer side.Identities id) same ∙ at)
  turn_there id (Some name) (outcome.NotForward other) old new named told sound = (other, ap (λ (h : History). head_at (files_of h) peer side.Identities id) told.3 ∙ told.0)
  turn_there id (Some name) outcome.Pushed old new named step sound = (name, push_sets own peer side.Identities id name outcome.Pushed old new (named name refl) (inl refl) step)
  turn_there id (Some name) outcome.BadRef old new named step sound = absurd cc
  turn_there id (Some name) (outcome.DamagedCopy why) old new named step sound = absurd cc
  turn_there id (Some name) outcome.Fetched old new named none sound = absurd none
  turn_there id (Some name) outcome.Held old new named none sound = absurd none

module _ (own peer : List ℕ) (apart : Overlap own peer → ⊥) (entry : History) where
  abbrev May : Files → Change → Type 0
  May = MayPush own peer

  abbrev As : EntityWord → Bool → Files → Change → Type 0
  As = PushesAs own peer

  abbrev Listed : Turn → Type 0
  Listed = WasListed (files_of entry) own side.Identities

  -- what came of the turn of an identity
  abbrev Came : Turn → History → Type 0
  Came turn now = is_damage turn.outcome ≡ false → HasHead own peer (id_of turn) now

  -- refs of the own folder stay
  own_stays : (on : Side) (id : Id) (old new : History) → Wrote May old new → head_at (files_of new) own on id ≡ head_at (files_of old) own on id
  own_stays on id old new wrote = heads_apart May peer own apart (in_peer own peer apart entry) on id old new wrote

  -- its turn brings it about
  comes : (turn : Turn) (old new : History) → Listed turn → ⊤ → Pushes own peer side.Identities false turn old new → Came turn new
  comes turn old new listed begun step sound = turn_there own peer (id_of turn) turn.entity.head turn.outcome old new (λ name at. listed_name (files_of entry) own side.Identities turn name listed at) step sound

  -- and the turns of others leave it
  stays : (turn other : Turn) (old new : History) → Listed turn → Listed other → id_of other ≢ id_of turn → Pushes own peer side.Identities false other old new → Came turn old → Came turn new
  stays turn other old new listed theirs differ step came sound =
      let had = came sound in (
        had.0,
        pushes_leave own peer side.Identities false other side.Identities (id_of turn) old new
            (λ name files. head_at-other_id files peer side.Identities (id_of other) (id_of turn) name theirs.0 listed.0 differ) step ∙ had.1,
      )

  -- a local identity is one at the entry, whose ref was listed
  was_there : (id : Id) (old new : History) → Wrote May old new → IsLocal (files_of new) own id → IsLocal (files_of old) own id
  was_there id old new wrote local = record { is_id = local.is_id; stands = subst (λ (r : Ref). IsTrue (is_there r)) (own_stays side.Identities id old new wrote) local.stands }

  -- when all identities had their turns, and none is damage, each local one is there
  people_there : (people : List EntityRef) (turns : List Turn) (mid : History) → AreRefs (files_of entry) own side.Identities people → Went (Pushes own peer side.Identities false) people turns entry mid → Wrote (As word.Identity false) entry mid
      → are_held turns ≡ false → ArePeopleThere own peer (files_of mid)
  people_there people turns mid are went wrote sound person local =
      let was = was_there person entry mid (Wrote-wider (As word.Identity false) May entry mid (pushes_as own peer word.Identity false) wrote) local in
      let listing = listing_of (head_at (files_of entry) own side.Identities person) was.stands in
      let came = listed_came (files_of entry) own side.Identities (Pushes own peer side.Identities false) (λ (h : History). ⊤) Came (λ turn old new begun step. tt) comes stays people turns are entry mid tt went
      (record { id = person; head = listing.0 }) was.is_id listing.1 in
      subst (λ (e : EntityRef). HasHead own peer e.id mid) came.2 (came.3 (not_damage turns came.0 came.1 sound))

  -- where bugs have their turns
  abbrev Good : List Turn → History → Type 0
  Good turns now = are_held turns ≡ false → ArePeopleThere own peer (files_of now)

  -- the writes of a bug leave the refs of identities
  bug_leaves : (held : Bool) (files : Files) (change : Change) (id : Id) → As word.Bug held files change → head_at (written files change) peer side.Identities id ≡ head_at files peer side.Identities id
  bug_leaves held files change id (inl puts) = put_leaves peer files change side.Identities id puts
  bug_leaves held files change id (inr (set, is_bug, free)) =
      set_leaves peer files change (local_side set.word) side.Identities set.id id set.head set.write
      (λ e. let same : side.Bugs ≡ side.Identities = sym (ap local_side is_bug) ∙ e in cc)

  -- so each local identity stays there
  keeps : (turns : List Turn) (now : History) (change : Change) → Good turns now → As word.Bug (are_held turns) (files_of now) change → Good turns (change ∷ now)
  keeps turns now change good may sound person local =
      let held = are_held turns in
      let had = good sound person (was_there person now (change ∷ now) (Wrote-one May change now (change ∷ now) (pushes_as own peer word.Bug held (files_of now) change may) (inr refl)) local) in
      (had.0, bug_leaves held (files_of now) change person may ∙ had.1)

  -- a write of an identity is one of these writes, and so is one of a bug
  person : (earlier : List Change) (change : Change) → As word.Identity false (files_of (earlier ++ entry)) change → PushWrites own peer (files_of (earlier ++ entry)) change
  person earlier change (inl puts) = inl puts
  person earlier change (inr (set, is_person, free)) = inr (record { set = set; people = λ is_bug. (let same : word.Identity ≡ word.Bug = sym is_person ∙ is_bug in absurd cc) })

  bug : (turns : List Turn) (earlier : List Change) (change : Change) → Good turns (earlier ++ entry) → As word.Bug (are_held turns) (files_of (earlier ++ entry)) change → PushWrites own peer (files_of (earlier ++ entry)) change
  bug turns earlier change good (inl puts) = inl puts
  bug turns earlier change good (inr (set, is_bug, free)) = inr (record { set = set; people = λ e. good free })

  pub push_writes : (new : History) (result : Result (List Line) ReadStop) → PushAnswers own peer entry new result → Wrote (PushWrites own peer) entry new
  push_writes new result answers =
      exchange_writes As May (pushes_as own peer) verb.Push (λ (word : EntityWord). Pushes own peer (local_side word)) (λ (word : EntityWord). PushStops own peer (local_side word)) own entry
      (push_turn_wrote own peer apart entry) (stop_wrote own peer apart entry)
      (at_moment (PushWrites own peer)) Good person people_there keeps bug new result answers
