-- The first turn at which an exchange or a merge is refused.
use Rattle.std.specs.Prelude.{◌≡◌, ◌⊎◌, ⊤, ℕ, false, List}
use Rattle.gb_text.specs.Digits.{IsId}
use Rattle.gb_text.specs.Folder.{joined}
use Rattle.gb_text.specs.declared.id.Id.{Id}
use Rattle.gb_text.specs.declared.id.Name.{Name}
use Rattle.gb_store.specs.Files.{Files, History, files_of}
use Rattle.merge_steps.specs.Stops.{stop_of_turn}
use Rattle.merge_steps.specs.Turns.{EndedAtBug, EndedAtPerson}
use Rattle.merge_steps.specs.declared.stop.TurnStop.{TurnStop}
use Rattle.ref_store.specs.Refs.{Bad, Head}
use Rattle.remote_name.specs.declared.remote.RemoteName.{RemoteName}
use Rattle.repo_state.specs.Listed.{AreRefs}
use Rattle.repo_state.specs.Sides.{IsBadRef, IsFirst, head_at, ref_place}
use Rattle.repo_state.specs.declared.refs.EntityRef.{EntityRef}
use Rattle.repo_state.specs.declared.side.Side.TheVariants as side
use Rattle.repo_steps.specs.declared.refusal.Refusal.{Refusal}
use Rattle.repo_steps.specs.declared.refusal.Refusal.TheVariants as refusal
use Rattle.repo_steps.specs.declared.refusal.Stop.TheVariants as stop
use Rattle.sync_steps.specs.Places.{local_side, tracking_side}
use Rattle.sync_steps.specs.Pushing.{Pushes}
use Rattle.sync_steps.specs.Turns.{Turn, Went, are_held}
use Rattle.sync_steps.specs.declared.line.EntityWord.{EntityWord}
use Rattle.sync_steps.specs.declared.line.EntityWord.TheVariants as word
use Rattle.bug_run.specs.Exchanges.{stop_of_merge}

-- the first turn, in the order of turns, of whose entity something is so: the first identity by id, or, if it is so of no identity, the
-- first bug by id
abbrev pub IsFirstTurn : (EntityWord → Id → Type 0) → EntityWord → Id → Type 0
IsFirstTurn IsSo word.Identity id = IsFirst (IsSo word.Identity) id
IsFirstTurn IsSo word.Bug id = ((other : Id) → IsId other → IsSo word.Identity other → ⊥) × IsFirst (IsSo word.Bug) id

-- ---- fetches

-- the peer's ref of an entity has a head, and the tracking ref is no ref text
abbrev pub BarsFetch : List ℕ → List ℕ → RemoteName → Files → EntityWord → Id → Type 0
BarsFetch own peer remote files word id =
    ((head : Name) × (head_at files peer (local_side word) id ≡ Head head)) × (head_at files own (tracking_side remote word) id ≡ Bad)

-- there is such an entity, and the refusal tells the tracking ref of the first
abbrev pub FetchBarred : List ℕ → List ℕ → RemoteName → Files → Refusal → Type 0
FetchBarred own peer remote files r =
    (word : EntityWord) × (id : Id) × IsFirstTurn (BarsFetch own peer remote files) word id
    × (r ≡ refusal.Damaged (joined own (ref_place (tracking_side remote word) id)))

-- ---- pushes

-- a local ref is no ref text
abbrev pub BarsPush : List ℕ → Files → EntityWord → Id → Type 0
BarsPush own files word id = head_at files own (local_side word) id ≡ Bad

-- a push that begins here may give each identity its turn, and none of them is damaged: so it does not hold the bugs
pub record LooksAtBugs (own peer : List ℕ) (old : History) : Type 0 where
  pub people : List EntityRef
  pub are_people : AreRefs (files_of old) own side.Identities people
  pub turns : List Turn
  pub mid : History
  pub went : Went (Pushes own peer side.Identities false) people turns old mid
  pub unharmed : are_held turns ≡ false

abbrev pub LooksAt : List ℕ → List ℕ → History → EntityWord → Type 0
LooksAt own peer old word.Identity = ⊤
LooksAt own peer old word.Bug = LooksAtBugs own peer old

-- there is an entity whose local ref is no ref text, the push looks at it, and the refusal tells the local ref of the first
abbrev pub PushBarred : List ℕ → List ℕ → History → Refusal → Type 0
PushBarred own peer old r =
    (word : EntityWord) × (id : Id) × IsFirstTurn (BarsPush own (files_of old)) word id × LooksAt own peer old word
    × (r ≡ refusal.Damaged (joined own (ref_place (local_side word) id)))

-- ---- merges

-- from the one history to the other the turns before one were had, and that one fails: what is told of it is the refusal
abbrev pub MergeBarred : List ℕ → RemoteName → ℕ → History → History → Refusal → Type 0
MergeBarred folder remote now old new r =
    (why : TurnStop) × (EndedAtPerson folder remote now why old new ⊎ EndedAtBug folder remote now why old new)
    × (stop.Refused r ≡ stop_of_merge (stop_of_turn why))

-- a ref at this path bars a merge: the tracking ref is no ref text; or it has a head, and the local ref is none
abbrev pub BarsMerge : List ℕ → RemoteName → Files → EntityWord → Id → List ℕ → Type 0
BarsMerge folder remote files word id path =
    IsBadRef files folder (tracking_side remote word) id path
    ⊎ (((head : Name) × (head_at files folder (tracking_side remote word) id ≡ Head head)) × IsBadRef files folder (local_side word) id path)

-- this is so of an entity of this kind, which is the first, and the refusal tells that ref
abbrev pub RefBarred : List ℕ → RemoteName → Files → EntityWord → Refusal → Type 0
RefBarred folder remote files word r =
    (id : Id) × (path : List ℕ) × BarsMerge folder remote files word id path
    × IsFirstTurn (λ one other. (at : List ℕ) × BarsMerge folder remote files one other at) word id × (r ≡ refusal.Damaged path)

-- a taken name is told, which is one of a bug: so it is not told before the turn of an identity
abbrev pub IsTakenSooner : EntityWord → Refusal → Type 0
IsTakenSooner word.Identity r = ⊥
IsTakenSooner word.Bug r = (name : Name) × (r ≡ refusal.NameTaken name)
