-- Each comment of a bug has an id of its own.
use Rattle.std.proofs.Common.{◌≡◌, inl, inr, ℕ, suc, Bool, true, false, cond, List, [], ◌∷◌, ◌++◌, map, flat_map, filter, Contains, refl, sym, ◌∙◌, ap, subst, arith}
use Rattle.std.proofs.lemmas.List.{map-append}
use Rattle.std.proofs.lemmas.List.Elements.{Contains-append_cases}
use Rattle.gb_text.specs.declared.id.Id.{Id}
use Rattle.gb_store.specs.Files.{Files}
use Rattle.object_batch.proofs.ClashLemmas.{Contains-cons_cases, Contains-first, Contains-later}
use Rattle.object_store.specs.Held.{objects_in}
use Rattle.commit_walk.specs.Distinct.{AreDistinct}
use Rattle.bug_ops.specs.Kind.{bug_kind}
use Rattle.bug_ops.specs.declared.op.BugOp.{BugOp}
use Rattle.bug_ops.specs.declared.op.BugOp.TheVariants.{AddComment, Create, EditComment, LabelChange, NoOp, SetMetadata, SetStatus, SetTitle}
use Rattle.bug_ops.specs.declared.snapshot.Comment.{Comment}
use Rattle.snapshot.specs.LastMention.{comment_in, comments_of}
use Rattle.dag_entity.specs.Entities.{ops_in}
use Rattle.dag_entity.specs.declared.entity.Entity.{Entity}
use Rattle.dag_entity.proofs.LawValid.{operations_once}
use Rattle.repo_state.specs.Bugs.{IsBug}
use Rattle.repo_state.specs.Comments.{comment_ids}
use Rattle.repo_state.specs.Seeking.{entries_of, made_by}
use Rattle.repo_state.specs.declared.comments.CommentEntry.{CommentEntry}
use Rattle.repo_state.specs.declared.side.HeadEntry.{HeadEntry}
use Rattle.repo_state.proofs.FittingLemmas.{StandApart}
use Rattle.repo_state.proofs.ListingLemmas.{Contains-from_map}
use Rattle.repo_state.proofs.PrefixLemmas.{Contains-from_filter}

-- ---- lists

-- without repetition each item differs from all later ones
pub stand_apart : {X : Type 0} (xs : List X) → AreDistinct xs → StandApart xs
stand_apart [] once = tt
stand_apart (x ∷ xs) once = (
  λ has. let low = has.1 in once 0 (suc has.0) x (omega arith) (omega (arith, low)) (sym has.2),
  stand_apart xs (λ i j d before within. once (suc i) (suc j) d (omega (arith, before)) (omega (arith, within))),
)

pub filter_apart : {X : Type 0} (p : X → Bool) (xs : List X) → StandApart xs → StandApart (filter p xs)
filter_apart p [] apart = tt
filter_apart p (x ∷ xs) (differs, rest) = each (p x) (filter_apart p xs rest)
  where
    each : (b : Bool) → StandApart (filter p xs) → StandApart (cond b (x ∷ filter p xs) (filter p xs))
    each true kept = (λ has. differs (Contains-from_filter p xs x has).0, kept)
    each false kept = kept

-- ---- the ids of comments

-- an operation makes the same comment, whatever comes later
made_ids : (op : BugOp) (later : List BugOp) → map (λ (c : Comment). c.id) (comment_in op later) ≡ made_by op
made_ids (Create c title message files) later = refl
made_ids (SetTitle c title was) later = refl
made_ids (AddComment c message files) later = refl
made_ids (SetStatus c status) later = refl
made_ids (LabelChange c added removed) later = refl
made_ids (EditComment c target message files) later = refl
made_ids (NoOp c) later = refl
made_ids (SetMetadata c target pairs) later = refl

all_made : (ops : List BugOp) → map (λ (c : Comment). c.id) (comments_of ops) ≡ flat_map made_by ops
all_made [] = refl
all_made (op ∷ later) =
    map-append (λ (c : Comment). c.id) (comment_in op later) (comments_of later)
    ∙ ap (λ (ids : List Id). ids ++ map (λ (c : Comment). c.id) (comments_of later)) (made_ids op later)
    ∙ ap (λ (ids : List Id). made_by op ++ ids) (all_made later)

-- the ids of a bug's comments are those of the operations that make one
pub ids_made : (ops : List BugOp) → comment_ids ops ≡ flat_map made_by ops
ids_made [] = refl
ids_made (op ∷ later) = all_made (op ∷ later)

-- ---- each once

abbrev op_id : BugOp → Id
op_id op = (bug_kind.common_of op).place.id

-- what an operation makes has its id
made_has : (op : BugOp) (id : Id) → Contains (made_by op) id → op_id op ≡ id
made_has (Create c title message files) id has = only has
  where
    only : Contains (c.place.id ∷ []) id → c.place.id ≡ id
    only h = elim (Contains-cons_cases c.place.id [] id h) [ inl same ↦ same | inr none ↦ absurd (omega (arith, none.1)) ]
made_has (AddComment c message files) id has = only has
  where
    only : Contains (c.place.id ∷ []) id → c.place.id ≡ id
    only h = elim (Contains-cons_cases c.place.id [] id h) [ inl same ↦ same | inr none ↦ absurd (omega (arith, none.1)) ]
made_has (SetTitle c title was) id has = absurd (omega (arith, has.1))
made_has (SetStatus c status) id has = absurd (omega (arith, has.1))
made_has (LabelChange c added removed) id has = absurd (omega (arith, has.1))
made_has (EditComment c target message files) id has = absurd (omega (arith, has.1))
made_has (NoOp c) id has = absurd (omega (arith, has.1))
made_has (SetMetadata c target pairs) id has = absurd (omega (arith, has.1))

-- the id of a comment is that of an operation
made_among : (ops : List BugOp) (id : Id) → Contains (flat_map made_by ops) id → Contains (map op_id ops) id
made_among [] id has = absurd (omega (arith, has.1))
made_among (op ∷ ops) id has = elim (Contains-append_cases (made_by op) (flat_map made_by ops) id has) [
  | inl here ↦ subst (Contains (map op_id (op ∷ ops))) (made_has op id here) (Contains-first (op_id op) (map op_id ops))
  | inr later ↦ Contains-later (op_id op) (map op_id ops) id (made_among ops id later)
]

made_apart : (ops : List BugOp) → StandApart (map op_id ops) → StandApart (flat_map made_by ops)
made_apart [] apart = tt
made_apart (op ∷ ops) (differs, rest) = each op differs (made_apart ops rest)
  where
    each : (one : BugOp) → (Contains (map op_id ops) (op_id one) → ⊥) → StandApart (flat_map made_by ops) → StandApart (made_by one ++ flat_map made_by ops)
    each (Create c title message files) differs later = (λ has. differs (made_among ops c.place.id has), later)
    each (AddComment c message files) differs later = (λ has. differs (made_among ops c.place.id has), later)
    each (SetTitle c title was) differs later = later
    each (SetStatus c status) differs later = later
    each (LabelChange c added removed) differs later = later
    each (EditComment c target message files) differs later = later
    each (NoOp c) differs later = later
    each (SetMetadata c target pairs) differs later = later

-- the comments of a bug
pub entries_apart : (bug : HeadEntry) (ids : List Id) → StandApart ids → StandApart (entries_of bug ids)
entries_apart bug [] apart = tt
entries_apart bug (id ∷ ids) (differs, rest) = (
  λ has.
      let from = Contains-from_map (λ (i : Id). record { bug = bug; comment = i }) ids (record { bug = bug; comment = id }) has in
      differs (subst (Contains ids) (ap (λ (c : CommentEntry). c.comment) from.2) from.1),
  entries_apart bug ids rest,
)

pub comments_apart : (files : Files) (folder : List ℕ) (bug : HeadEntry) (entity : Entity BugOp) → IsBug files folder bug entity → StandApart (comment_ids (ops_in bug_kind entity.packs))
comments_apart files folder bug entity is =
    let once = operations_once bug_kind (objects_in files folder) bug.id (bug.name ∷ []) is.authors entity is.is in
    subst StandApart (sym (ids_made (ops_in bug_kind entity.packs))) (made_apart (ops_in bug_kind entity.packs) (stand_apart (map op_id (ops_in bug_kind entity.packs)) once))
