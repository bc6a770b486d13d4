-- What comes of a turn stands when all have had theirs, and what a write leaves.
use Rattle.std.proofs.Common.{◌≡◌, ◌≢◌, refl, sym, ◌∙◌, ap, subst, arith, ℕ, zero, suc, List, [], ◌∷◌, Contains, Some}
use Rattle.gb_text.specs.Digits.{IsId, IsName}
use Rattle.gb_text.specs.declared.id.Id.{Id}
use Rattle.gb_text.specs.declared.id.Name.{Name}
use Rattle.gb_store.specs.Files.{Files, History, written}
use Rattle.gb_store.specs.Turns.{InTurn}
use Rattle.gb_store.specs.declared.store.Change.{Change}
use Rattle.ref_store.specs.Setting.{ref_write}
use Rattle.remote_copy.specs.NeedWrites.{PutsOneAfterNeeds}
use Rattle.repo_state.specs.Listed.{AreRefs, ref_with}
use Rattle.repo_state.specs.Sides.{head_at, ref_place}
use Rattle.repo_state.specs.declared.refs.EntityRef.{EntityRef}
use Rattle.repo_state.specs.declared.side.Side.{Side}
use Rattle.repo_state.proofs.KindLemmas.{head_at-object_write, head_at-other_side}
use Rattle.repo_state.proofs.ListingLemmas.{Contains-from_map, Contains-map}
use Rattle.sync_steps.specs.Turns.{Turn, Went}
use Rattle.ref_store.proofs.FrameLemmas.{head_is_name}
use Rattle.sync_steps.proofs.SetLemmas.{AllOnce, NoneIs, id_of, once_of_refs}

-- ---- writes

-- an object that is put leaves each head
pub put_leaves : (folder : List ℕ) (files : Files) (change : Change) (on : Side) (id : Id) → PutsOneAfterNeeds folder files change → head_at (written files change) folder on id ≡ head_at files folder on id
put_leaves folder files change on id puts = ap (λ (c : Change). head_at (written files c) folder on id) puts.1.write ∙ head_at-object_write files folder puts.1.text on id

-- a head that is set leaves those of another side
pub set_leaves : (folder : List ℕ) (files : Files) (change : Change) (of on : Side) (id other : Id) (head : Name) → change ≡ ref_write folder (ref_place of id) head → of ≢ on
    → head_at (written files change) folder on other ≡ head_at files folder on other
set_leaves folder files change of on id other head is differ = ap (λ (c : Change). head_at (written files c) folder on other) is ∙ head_at-other_side files folder of on id other head differ

-- ---- turns

-- the ref of a turn's entity was listed so
abbrev pub WasListed : Files → List ℕ → Side → Turn → Type 0
WasListed files folder of turn = IsId (id_of turn) × (head_at files folder of (id_of turn) ≡ ref_with turn.entity.head)

-- a head that was listed is a name
pub listed_name : (files : Files) (folder : List ℕ) (of : Side) (turn : Turn) (name : Name) → WasListed files folder of turn → turn.entity.head ≡ Some name → IsName name
listed_name files folder of turn name listed at = head_is_name files folder (ref_place of (id_of turn)) name (listed.1 ∙ ap ref_with at)

module _ (files : Files) (folder : List ℕ) (of : Side) (Step : Turn → History → History → Type 0) (Begun : History → Type 0) (Came : Turn → History → Type 0)
    (goes : (turn : Turn) (old new : History) → Begun old → Step turn old new → Begun new)
    (comes : (turn : Turn) (old new : History) → WasListed files folder of turn → Begun old → Step turn old new → Came turn new)
    (stays : (turn other : Turn) (old new : History) → WasListed files folder of turn → WasListed files folder of other → id_of other ≢ id_of turn → Step other old new → Came turn old → Came turn new) where
  abbrev Listed : Turn → Type 0
  Listed = WasListed files folder of

  -- turns of other entities leave what came of one
  others_leave : (turn : Turn) → Listed turn → (turns : List Turn) → ((t : Turn) → Contains turns t → Listed t) → NoneIs (id_of turn) turns → (old new : History) → InTurn Step turns old new → Came turn old → Came turn new
  others_leave turn listed [] are none old new same came = subst (Came turn) (sym same) came
  others_leave turn listed (next ∷ turns) are none old new (mid, step, later) came =
      others_leave turn listed turns (λ t c. are t (suc c.0, omega (arith, c.1), c.2)) none.1 mid new later
      (stays turn next old mid listed (are next (0, omega arith, refl)) none.0 step came)

  -- so what came of each stands in the end
  each_came : (turns : List Turn) → ((t : Turn) → Contains turns t → Listed t) → AllOnce turns → (old new : History) → Begun old → InTurn Step turns old new → (turn : Turn) → Contains turns turn → Came turn new
  each_came [] are once old new begun same turn (k, lt, e) = absurd (omega arith)
  each_came (first ∷ turns) are once old new begun (mid, step, later) turn (zero, lt, e) =
      let listed = are first (0, omega arith, refl) in
      subst (λ (t : Turn). Came t new) e
      (others_leave first listed turns (λ t c. are t (suc c.0, omega (arith, c.1), c.2)) once.0 mid new later (comes first old mid listed begun step))
  each_came (first ∷ turns) are once old new begun (mid, step, later) turn (suc k, lt, e) =
      each_came turns (λ t c. are t (suc c.0, omega (arith, c.1), c.2)) once.1 mid new (goes first old mid begun step) later turn (k, omega arith, e)

  -- each ref that was listed has a turn, and what came of it stands in the end
  pub listed_came : (refs : List EntityRef) (turns : List Turn) → AreRefs files folder of refs → (old new : History) → Begun old → Went Step refs turns old new
      → (entity : EntityRef) → IsId entity.id → head_at files folder of entity.id ≡ ref_with entity.head → (turn : Turn) × Contains turns turn × (turn.entity ≡ entity) × Came turn new
  listed_came refs turns are old new begun went entity is_id reads =
      let from = Contains-from_map (λ (t : Turn). t.entity) turns entity (subst (λ (es : List EntityRef). Contains es entity) (sym went.are) ((are.members entity).1 (is_id, reads))) in
      let among : (t : Turn) → Contains turns t → Listed t = λ t c. (are.members t.entity).0 (subst (λ (es : List EntityRef). Contains es t.entity) went.are (Contains-map (λ (t : Turn). t.entity) turns t c)) in
      (from.0, from.1, from.2, each_came turns among (once_of_refs files folder of refs turns are went.are) old new begun went.each from.0 from.1)
