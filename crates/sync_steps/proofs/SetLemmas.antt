-- Turns leave the refs of other entities and other sides, and a copy leaves each.
use Rattle.std.proofs.Common.{◌≡◌, ◌≢◌, ◌<◌, refl, sym, ◌∙◌, ap, subst, arith, ℕ, zero, suc, Bool, List, [], ◌∷◌, ◌++◌, Contains, length, map, get_or}
use Rattle.std.proofs.lemmas.Simd.{map-map}
use Rattle.std.specs.Prelude.{⊤}
use Rattle.std.specs.Cmp.Lexicographic.{slice_cmp}
use Rattle.std.specs.List.{AllPairs}
use Rattle.std.specs.List.Sorted.{IsStrictlySortedBy}
use Rattle.std.specs.Ordering.{nat_cmp}
use Rattle.gb_text.specs.Digits.{IsId}
use Rattle.gb_text.specs.declared.id.Id.{Id}
use Rattle.gb_text.specs.declared.id.Name.{Name}
use Rattle.gb_store.specs.Files.{Files, History, files_of, written}
use Rattle.gb_store.specs.Moments.{EachWrite, Wrote, at_moment}
use Rattle.gb_store.specs.Turns.{InTurn}
use Rattle.gb_store.specs.declared.store.Change.{Change}
use Rattle.object_store.specs.Held.{Objects}
use Rattle.ref_store.specs.Setting.{ref_write}
use Rattle.ref_store.proofs.ListLemmas.{ids_differ}
use Rattle.remote_copy.specs.Writes.{PutsCopy}
use Rattle.repo_state.specs.Listed.{AreRefs}
use Rattle.repo_state.specs.Sides.{head_at, ref_place}
use Rattle.repo_state.specs.declared.refs.EntityRef.{EntityRef}
use Rattle.repo_state.specs.declared.side.Side.{Side}
use Rattle.repo_state.proofs.KindLemmas.{head_at-object_put, head_at-other_id, head_at-other_side}
use Rattle.sync_steps.specs.Turns.{Turn, entities_of}

-- ---- heads

-- ---- the turns of different entities

abbrev pub id_of : Turn → Id
id_of turn = turn.entity.id

-- none of these is of an id
abbrev pub NoneIs : Id → List Turn → Type 0
NoneIs id [] = ⊤
NoneIs id (turn ∷ turns) = (id_of turn ≢ id) × NoneIs id turns

-- each is of another id than those behind it
abbrev pub AllOnce : List Turn → Type 0
AllOnce [] = ⊤
AllOnce (turn ∷ turns) = NoneIs (id_of turn) turns × AllOnce turns

none_is : (id : Id) (turns : List Turn) → ((j : ℕ) (d : Id) → j < length (map id_of turns) → id ≢ get_or (map id_of turns) j d) → NoneIs id turns
none_is id [] h = tt
none_is id (turn ∷ turns) h = (λ e. h 0 id (omega arith) (sym e), none_is id turns (λ j d within. h (suc j) d (omega arith)))

all_once : (turns : List Turn) → AllPairs (λ (one other : Id). one ≢ other) (map id_of turns) → AllOnce turns
all_once [] p = tt
all_once (turn ∷ turns) p = (
  none_is (id_of turn) turns (λ j d within. p 0 (suc j) d (omega arith) (omega arith)),
  all_once turns (λ i j d lt within. p (suc i) (suc j) d (omega arith) (omega arith)),
)

-- one of these is of another id
pub none_among : (id : Id) (turns : List Turn) → NoneIs id turns → (turn : Turn) → Contains turns turn → id_of turn ≢ id
none_among id [] none turn (k, lt, e) = absurd (omega arith)
none_among id (first ∷ turns) none turn (zero, lt, e) = subst (λ (t : Turn). id_of t ≢ id) e none.0
none_among id (first ∷ turns) none turn (suc k, lt, e) = none_among id turns none.1 turn (k, omega arith, e)

-- the turns of refs that are listed
pub once_of_refs : (files : Files) (folder : List ℕ) (of : Side) (refs : List EntityRef) (turns : List Turn) → AreRefs files folder of refs → entities_of turns ≡ refs → AllOnce turns
once_of_refs files folder of refs turns are is =
    let ids : map id_of turns ≡ map (λ (e : EntityRef). e.id) refs = sym (map-map (λ (e : EntityRef). e.id) (λ (t : Turn). t.entity) turns) ∙ ap (map (λ (e : EntityRef). e.id)) is in
    let rising = subst (IsStrictlySortedBy (slice_cmp nat_cmp)) (sym (map-map (λ (id : Id). id.bytes) (λ (e : EntityRef). e.id) refs)) are.rising in
    all_once turns (subst (AllPairs (λ (one other : Id). one ≢ other)) (sym ids) (ids_differ (map (λ (e : EntityRef). e.id) refs) rising))

-- ---- what turns leave

-- the objects of a copy leave each head
pub puts_leave : (closed : Bool) (source target : List ℕ) (entry : Objects) (head : Name) (of : Side) (id : Id) (old new : History) → Wrote (PutsCopy closed source target entry head) old new
    → head_at (files_of new) target of id ≡ head_at (files_of old) target of id
puts_leave closed source target entry head of id old new wrote =
    ap (λ (h : History). head_at (files_of h) target of id) wrote.grew ∙ by wrote.writes wrote.each
  where
    by : (writes : List Change) → EachWrite (at_moment (PutsCopy closed source target entry head)) old writes → head_at (files_of (writes ++ old)) target of id ≡ head_at (files_of old) target of id
    by [] each = refl
    by (change ∷ earlier) each =
        let put = each.1 in
        ap (λ (c : Change). head_at (written (files_of (earlier ++ old)) c) target of id) put.write
        ∙ head_at-object_put (files_of (earlier ++ old)) target put.text of id put.name
        ∙ by earlier each.0

-- ---- turns that leave the ref of an id

module _ (target : List ℕ) (to : Side) (Step : Turn → History → History → Type 0)
    (leaves : (turn : Turn) (of : Side) (id : Id) (old new : History) → ((name : Name) (files : Files) → head_at (written files (ref_write target (ref_place to (id_of turn)) name)) target of id ≡ head_at files target of id)
    → Step turn old new → head_at (files_of new) target of id ≡ head_at (files_of old) target of id) where
  -- a turn of another entity
  pub turn_leaves_other : (turn : Turn) (id : Id) → IsId (id_of turn) → IsId id → id_of turn ≢ id → (old new : History) → Step turn old new → head_at (files_of new) target to id ≡ head_at (files_of old) target to id
  turn_leaves_other turn id mine is_id differ old new step = leaves turn to id old new (λ name files. head_at-other_id files target to (id_of turn) id name mine is_id differ) step

  -- turns of other entities
  pub turns_leave : (id : Id) → IsId id → (turns : List Turn) → ((turn : Turn) → Contains turns turn → IsId (id_of turn)) → NoneIs id turns → (old new : History) → InTurn Step turns old new
      → head_at (files_of new) target to id ≡ head_at (files_of old) target to id
  turns_leave id is_id [] are none old new same = ap (λ (h : History). head_at (files_of h) target to id) same
  turns_leave id is_id (turn ∷ turns) are none old new (mid, step, later) =
      turns_leave id is_id turns (λ t c. are t (suc c.0, omega (arith, c.1), c.2)) none.1 mid new later
      ∙ turn_leaves_other turn id (are turn (0, omega arith, refl)) is_id none.0 old mid step

  -- turns on another side
  pub sides_leave : (of : Side) → to ≢ of → (id : Id) (turns : List Turn) (old new : History) → InTurn Step turns old new → head_at (files_of new) target of id ≡ head_at (files_of old) target of id
  sides_leave of differ id [] old new same = ap (λ (h : History). head_at (files_of h) target of id) same
  sides_leave of differ id (turn ∷ turns) old new (mid, step, later) =
      sides_leave of differ id turns mid new later
      ∙ leaves turn of id old mid (λ name files. head_at-other_side files target to of (id_of turn) id name differ) step
