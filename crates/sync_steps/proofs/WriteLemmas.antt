-- What each turn writes, and what the writes in one folder leave of another.
use Rattle.std.proofs.Common.{◌≡◌, inl, inr, refl, sym, ◌∙◌, ap, subst, ℕ, Bool, false, List, [], ◌∷◌, ◌++◌, Contains, suc, Result, Ok, Err, arith}
use Rattle.std.proofs.lemmas.List.Elements.{Contains-append_left, Contains-append_right}
use Rattle.gb_text.specs.Digits.{IsId}
use Rattle.gb_text.specs.Folder.{is_rooted, joined}
use Rattle.gb_text.specs.Overlap.{Overlap}
use Rattle.gb_text.specs.declared.id.Id.{Id}
use Rattle.gb_text.specs.declared.id.Name.{Name}
use Rattle.gb_store.specs.Files.{Files, History, files_of}
use Rattle.gb_store.specs.Moments.{EachWrite, Wrote, at_moment}
use Rattle.gb_store.specs.ObjectPath.{object_place}
use Rattle.gb_store.specs.Turns.{InTurn}
use Rattle.gb_store.specs.declared.store.Change.{Change}
use Rattle.gb_store.proofs.FrameLemmas.{written-apart}
use Rattle.gb_store.proofs.MomentLemmas.{Wrote-none, Wrote-then}
use Rattle.git_object.specs.Grammar.{object_name}
use Rattle.object_store.specs.Held.{objects_after}
use Rattle.ref_store.proofs.FrameLemmas.{ref_at-write_apart}
use Rattle.ref_store.specs.Setting.{ref_write}
use Rattle.remote_copy.specs.NeedWrites.{PutsOneAfterNeeds}
use Rattle.repo_state.specs.Listed.{ref_with}
use Rattle.repo_state.specs.Sides.{head_at, ref_place}
use Rattle.repo_state.specs.declared.refs.EntityRef.{EntityRef}
use Rattle.repo_state.specs.declared.side.Side.{Side}
use Rattle.repo_state.specs.declared.side.Side.TheVariants as side
use Rattle.repo_state.specs.declared.stop.ReadStop.{ReadStop}
use Rattle.repo_state.proofs.ListingLemmas.{Contains-map}
use Rattle.sync_steps.specs.Places.{local_side}
use Rattle.sync_steps.specs.Turns.{AreBoth, Ended, ExchangeAnswers, Turn, Went, are_held, entities_of}
use Rattle.sync_steps.specs.declared.line.EntityWord.{EntityWord}
use Rattle.sync_steps.specs.declared.line.EntityWord.TheVariants as word
use Rattle.sync_steps.specs.declared.line.Exchange.{Exchange}
use Rattle.sync_steps.specs.declared.line.Line.{Line}

-- ---- frames

-- no ref's place begins with a slash
pub ref_plain : (of : Side) (id : Id) → is_rooted (ref_place of id) ≡ false
ref_plain side.Bugs id = refl
ref_plain side.Identities id = refl
ref_plain (side.RemoteBugs remote) id = refl
ref_plain (side.RemoteIdentities remote) id = refl

-- a change is at a place of a folder
abbrev pub IsIn : List ℕ → Change → Type 0
IsIn folder change = (place : List ℕ) × (is_rooted place ≡ false) × (change.path ≡ joined folder place)

pub object_in : (folder : List ℕ) (files : Files) (change : Change) → PutsOneAfterNeeds folder files change → IsIn folder change
object_in folder files change puts = (object_place (object_name puts.1.text), refl, ap (λ (c : Change). c.path) puts.1.write)

pub ref_in : (folder : List ℕ) (of : Side) (id : Id) (head : Name) (change : Change) → change ≡ ref_write folder (ref_place of id) head → IsIn folder change
ref_in folder of id head change is = (ref_place of id, ref_plain of id, ap (λ (c : Change). c.path) is)

module _ (May : Files → Change → Type 0) (target other : List ℕ) (apart : Overlap other target → ⊥) (ins : (files : Files) (change : Change) → May files change → IsIn target change) where
  -- writes in one folder leave each ref of another
  pub heads_apart : (of : Side) (id : Id) (old new : History) → Wrote May old new → head_at (files_of new) other of id ≡ head_at (files_of old) other of id
  heads_apart of id old new wrote = ap (λ (h : History). head_at (files_of h) other of id) wrote.grew ∙ by wrote.writes wrote.each
    where
      by : (writes : List Change) → EachWrite (at_moment May) old writes → head_at (files_of (writes ++ old)) other of id ≡ head_at (files_of old) other of id
      by [] each = refl
      by (change ∷ earlier) each =
          let at = ins (files_of (earlier ++ old)) change each.1 in
          ref_at-write_apart (files_of (earlier ++ old)) change other target at.0 (ref_place of id) at.2 at.1 (ref_plain of id) apart ∙ by earlier each.0

  -- and its objects
  pub objects_apart : (old new : History) → Wrote May old new → objects_after new other ≡ objects_after old other
  objects_apart old new wrote = ap (λ (h : History). objects_after h other) wrote.grew ∙ by wrote.writes wrote.each
    where
      by : (writes : List Change) → EachWrite (at_moment May) old writes → objects_after (writes ++ old) other ≡ objects_after old other
      by [] each = refl
      by (change ∷ earlier) each =
          let at = ins (files_of (earlier ++ old)) change each.1 in
          let step : objects_after (change ∷ earlier ++ old) other ≡ objects_after (earlier ++ old) other =
          (λ i name. written-apart (files_of (earlier ++ old)) change other target at.0 (object_place name) at.2 at.1 refl apart i) in
          step ∙ by earlier each.0

-- ---- the turns of a call

-- an entity's ref was listed so
abbrev pub IsListed : History → List ℕ → EntityWord → EntityRef → Type 0
IsListed entry folder word entity = IsId entity.id × (head_at (files_of entry) folder (local_side word) entity.id ≡ ref_with entity.head)

-- where each turn goes on from what went before it, so do all
module _ (Rel : History → History → Type 0) (none : (old new : History) → new ≡ old → Rel old new) (then : (old mid new : History) → Rel old mid → Rel mid new → Rel old new) where
  module _ (Step : Turn → History → History → Type 0) (entry : History) (Good : EntityRef → Type 0) (each : (turn : Turn) (old new : History) → Good turn.entity → Rel entry old → Step turn old new → Rel old new) where
    pub turns_go : (turns : List Turn) → ((turn : Turn) → Contains turns turn → Good turn.entity) → (old new : History) → Rel entry old → InTurn Step turns old new → Rel old new
    turns_go [] good old new before same = none old new same
    turns_go (turn ∷ turns) good old new before (mid, step, later) =
        let first = each turn old mid (good turn (0, omega arith, refl)) before step in
        then old mid new first (turns_go turns (λ t c. good t (suc c.0, omega (arith, c.1), c.2)) mid new (then entry old mid before first) later)

    -- of refs that were listed
    pub went_goes : (refs : List EntityRef) → ((entity : EntityRef) → Contains refs entity → Good entity) → (turns : List Turn) (old new : History) → Rel entry old → Went Step refs turns old new → Rel old new
    went_goes refs good turns old new before went =
        turns_go turns (λ turn c. good turn.entity (subst (λ (es : List EntityRef). Contains es turn.entity) went.are (Contains-map (λ (t : Turn). t.entity) turns turn c))) old new before went.each

    -- and of those before the one at which the call ended
    pub ended_goes : (Stops : ReadStop → EntityRef → History → History → Type 0) → ((why : ReadStop) (entity : EntityRef) (old new : History) → Good entity → Rel entry old → Stops why entity old new → Rel old new)
        → (why : ReadStop) (refs : List EntityRef) → ((entity : EntityRef) → Contains refs entity → Good entity) → (old new : History) → Rel entry old → Ended Step Stops why refs old new → Rel old new
    ended_goes Stops last why refs good old new before ended =
        let among : (entity : EntityRef) → Contains (entities_of ended.done ++ ended.at ∷ ended.rest) entity → Good entity = λ entity c. good entity (subst (λ (es : List EntityRef). Contains es entity) (sym ended.are) c) in
        let first = turns_go ended.done
        (λ turn c. among turn.entity (Contains-append_left (entities_of ended.done) (ended.at ∷ ended.rest) turn.entity (Contains-map (λ (t : Turn). t.entity) ended.done turn c))) old ended.mid before ended.before in
        then old ended.mid new first
        (last why ended.at ended.mid new (among ended.at (Contains-append_right (entities_of ended.done) (ended.at ∷ ended.rest) ended.at (0, omega arith, refl))) (then entry old ended.mid before first) ended.ended)

  -- so does a whole exchange
  module _ (verb : Exchange) (Step : EntityWord → Bool → Turn → History → History → Type 0) (Stops : EntityWord → Bool → ReadStop → EntityRef → History → History → Type 0) (folder : List ℕ) (entry : History)
      (each : (word : EntityWord) (held : Bool) (turn : Turn) (old new : History) → IsListed entry folder word turn.entity → Rel entry old → Step word held turn old new → Rel old new)
      (last : (word : EntityWord) (held : Bool) (why : ReadStop) (entity : EntityRef) (old new : History) → IsListed entry folder word entity → Rel entry old → Stops word held why entity old new → Rel old new) where
    people_listed : (people bugs : List EntityRef) → AreBoth folder entry people bugs → (entity : EntityRef) → Contains people entity → IsListed entry folder word.Identity entity
    people_listed people bugs are entity c = (are.are_people.members entity).0 c

    bugs_listed : (people bugs : List EntityRef) → AreBoth folder entry people bugs → (entity : EntityRef) → Contains bugs entity → IsListed entry folder word.Bug entity
    bugs_listed people bugs are entity c = (are.are_bugs.members entity).0 c

    start : Rel entry entry
    start = none entry entry refl

    pub exchange_goes : (new : History) (result : Result (List Line) ReadStop) → ExchangeAnswers verb Step Stops folder entry new result → Rel entry new
    exchange_goes new (Ok lines) done =
        let people = went_goes (Step word.Identity false) entry (IsListed entry folder word.Identity) (each word.Identity false) done.people (people_listed done.people done.bugs done.are) done.person_turns entry done.mid start done.first in
        let held = are_held done.person_turns in
        then entry done.mid new people
        (went_goes (Step word.Bug held) entry (IsListed entry folder word.Bug) (each word.Bug held) done.bugs (bugs_listed done.people done.bugs done.are) done.bug_turns done.mid new people done.then)
    exchange_goes new (Err why) (inl same) = none entry new same.1
    exchange_goes new (Err why) (inr (inl at)) =
        ended_goes (Step word.Identity false) entry (IsListed entry folder word.Identity) (each word.Identity false) (Stops word.Identity false) (last word.Identity false) why at.people (people_listed at.people at.bugs at.are) entry new start at.ended
    exchange_goes new (Err why) (inr (inr at)) =
        let people = went_goes (Step word.Identity false) entry (IsListed entry folder word.Identity) (each word.Identity false) at.people (people_listed at.people at.bugs at.are) at.person_turns entry at.mid start at.first in
        let held = are_held at.person_turns in
        then entry at.mid new people
        (ended_goes (Step word.Bug held) entry (IsListed entry folder word.Bug) (each word.Bug held) (Stops word.Bug held) (last word.Bug held) why at.bugs (bugs_listed at.people at.bugs at.are) at.mid new people at.ended)

-- where each turn keeps to a rule, with what was written before it, so do all
module _ (May : Files → Change → Type 0) where
  module _ (Step : Turn → History → History → Type 0) (entry : History) (Good : EntityRef → Type 0) (each : (turn : Turn) (old new : History) → Good turn.entity → Wrote May entry old → Step turn old new → Wrote May old new) where
    pub went_wrote : (refs : List EntityRef) → ((entity : EntityRef) → Contains refs entity → Good entity) → (turns : List Turn) (old new : History) → Wrote May entry old → Went Step refs turns old new → Wrote May entry new
    went_wrote refs good turns old new before went =
        Wrote-then May entry old new before (went_goes (Wrote May) (Wrote-none May) (Wrote-then May) Step entry Good each refs good turns old new before went)

    pub ended_wrote : (Stops : ReadStop → EntityRef → History → History → Type 0) → ((why : ReadStop) (entity : EntityRef) (old new : History) → Good entity → Wrote May entry old → Stops why entity old new → Wrote May old new)
        → (why : ReadStop) (refs : List EntityRef) → ((entity : EntityRef) → Contains refs entity → Good entity) → (old new : History) → Wrote May entry old → Ended Step Stops why refs old new → Wrote May entry new
    ended_wrote Stops last why refs good old new before ended =
        Wrote-then May entry old new before (ended_goes (Wrote May) (Wrote-none May) (Wrote-then May) Step entry Good each Stops last why refs good old new before ended)

  module _ (verb : Exchange) (Step : EntityWord → Bool → Turn → History → History → Type 0) (Stops : EntityWord → Bool → ReadStop → EntityRef → History → History → Type 0) (folder : List ℕ) (entry : History)
      (each : (word : EntityWord) (held : Bool) (turn : Turn) (old new : History) → IsListed entry folder word turn.entity → Wrote May entry old → Step word held turn old new → Wrote May old new)
      (last : (word : EntityWord) (held : Bool) (why : ReadStop) (entity : EntityRef) (old new : History) → IsListed entry folder word entity → Wrote May entry old → Stops word held why entity old new → Wrote May old new) where
    pub exchange_wrote : (new : History) (result : Result (List Line) ReadStop) → ExchangeAnswers verb Step Stops folder entry new result → Wrote May entry new
    exchange_wrote new result answers = exchange_goes (Wrote May) (Wrote-none May) (Wrote-then May) verb Step Stops folder entry each last new result answers
