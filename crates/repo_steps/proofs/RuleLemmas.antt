-- The operations of a bug keep the rules of bugs' operations, and so does one that an edit adds.
use Rattle.std.proofs.Common.{◌≡◌, ℕ, true, inl, inr, List, [], ◌∷◌, ◌++◌, map, get_or, Contains, Some, Result, Ok, refl, sym, ap, subst}
use Rattle.std.specs.List.{AllByRecursion}
use Rattle.std.proofs.lemmas.List.{map-append}
use Rattle.std.proofs.lemmas.List.Elements.{Contains-append_cases, Contains-get_or}
use Rattle.repo_steps.proofs.Names.{Contains-nil, Contains-one, IsId, Id, Message, Files, Commit, Objects, objects_in, commit_at, bind-some, Contains-first, Contains-later, IsId-version_id, place_of, Place, edit_op, edited_comment_op, BugEdit, NoChange, bug_kind, bug_keeps_laws, BugOp, Entity, IsBug, HeadEntry, CommentEntry, snapshot_of, Snapshot, Head, head_at, ops_in, Placed, HasFound, Growth, comment_growth, edit_growth, bug_says, Env}
use Rattle.op_pack.specs.declared.head.TreeHead.{TreeHead}
use Rattle.op_pack.proofs.RuleLaws.{pack_keeps, pack_stands}
use Rattle.commit_pack.specs.Packs.{pack_under}
use Rattle.commit_pack.proofs.LawLemmas.{pack_under-found}
use Rattle.bug_edits.proofs.CommentEditLemmas.{edited_keeps}
use Rattle.bug_edits.proofs.EditLemmas.{added_keeps, may_follow}
use Rattle.bug_ops.specs.declared.op.BugOp.TheVariants.{AddComment, Create, EditComment, LabelChange, NoOp, SetMetadata, SetStatus, SetTitle}
use Rattle.bug_ops.specs.declared.snapshot.Comment.{Comment}
use Rattle.snapshot.specs.LastMention.{IsBugList, comment_in, comments_of}
use Rattle.repo_state.specs.Comments.{comment_finder, comment_ids}
use Rattle.repo_state.specs.Finds.{IsDetermined}
use Rattle.repo_state.specs.declared.side.Side.TheVariants as side
use Rattle.repo_state.proofs.CommentLemmas.{comment_finder_is_determined}
use Rattle.repo_state.proofs.FoundLemmas.{finds_an_id, heads_are_determined}
use Rattle.dag_entity.specs.Entities.{KeepsRules}
use Rattle.dag_entity.specs.Nodes.{pack_at}
use Rattle.repo_state.proofs.BugListLemmas.{entity_is_bug_list}

-- an operation that keeps the rules, with an id of 32 bytes
record IsGood (op : BugOp) : Type 0 where
  rules : bug_kind.KeepsRules op
  sized : IsId (bug_kind.common_of op).place.id

abbrev place_in : BugOp → Place
place_in op = (bug_kind.common_of op).place

-- ---- lists

all_append : (P : BugOp → Type 0) (ops more : List BugOp) → AllByRecursion P ops → AllByRecursion P more → AllByRecursion P (ops ++ more)
all_append P [] more all rest = rest
all_append P (op ∷ ops) more all rest = (all.0, all_append P ops more all.1 rest)

all_rules : (ops : List BugOp) → AllByRecursion IsGood ops → AllByRecursion (λ (o : BugOp). bug_kind.KeepsRules o) ops
all_rules [] all = tt
all_rules (op ∷ ops) all = (all.0.rules, all_rules ops all.1)

-- what begins a list that is that of a bug
first_sized : (ops : List BugOp) → AllByRecursion IsGood ops → IsBugList ops → IsId (snapshot_of ops).row.id
first_sized [] all none = absurd none
first_sized (op ∷ ops) all bug = all.0.sized

-- operations that keep the rules, at the places of their texts
good_at : (head : TreeHead) (author : Id) (slices : List (List ℕ)) (ops : List BugOp) → AllByRecursion (λ (o : BugOp). bug_kind.KeepsRules o) ops
    → map place_in ops ≡ map (place_of head author) slices → AllByRecursion IsGood ops
good_at head author slices [] rules places = tt
good_at head author [] (op ∷ ops) rules places = absurd (cc places)
good_at head author (slice ∷ slices) (op ∷ ops) rules places =
    let first : place_in op ≡ place_of head author slice = cc places in
    let rest : map place_in ops ≡ map (place_of head author) slices = cc places in
    (record { rules = rules.0; sized = subst IsId (sym (ap (λ (p : Place). p.id) first)) (IsId-version_id slice) }, good_at head author slices ops rules.1 rest)

-- ---- the operations of a bug

module _ (objects : Objects) where
  pack_good : (placed : Placed BugOp) → pack_at bug_kind objects placed.commit ≡ Some placed.pack → AllByRecursion IsGood placed.pack.ops
  pack_good placed at =
      let commit = bind-some (λ (commit : Commit). pack_under bug_kind objects commit.tree) (commit_at objects placed.commit) placed.pack at in
      let under = pack_under-found bug_kind objects commit.0.tree placed.pack commit.2 in
      good_at under.head placed.pack.author under.slices placed.pack.ops (pack_keeps bug_kind bug_keeps_laws under.head under.text under.slices placed.pack under.is)
      (pack_stands bug_kind bug_keeps_laws under.head under.text under.slices placed.pack under.is)

  packs_good : (packs : List (Placed BugOp)) → ((placed : Placed BugOp) → Contains packs placed → pack_at bug_kind objects placed.commit ≡ Some placed.pack)
      → AllByRecursion IsGood (ops_in bug_kind packs)
  packs_good [] each = tt
  packs_good (placed ∷ packs) each = all_append IsGood placed.pack.ops (ops_in bug_kind packs) (pack_good placed (each placed (Contains-first placed packs)))
      (packs_good packs (λ other among. each other (Contains-later placed packs other among)))

  packs_keep : (packs : List (Placed BugOp)) → ((placed : Placed BugOp) → Contains packs placed → pack_at bug_kind objects placed.commit ≡ Some placed.pack) → KeepsRules bug_kind packs
  packs_keep packs each = λ i d within.
      let placed = get_or packs i d in all_rules placed.pack.ops (pack_good placed (each placed (Contains-get_or packs i d within)))

-- the operations of a bug, which are all good
bug_good : (env : Env) (files : Files) (bug : HeadEntry) (entity : Entity BugOp) → IsBug files env.folder bug entity → AllByRecursion IsGood (ops_in bug_kind entity.packs)
bug_good env files bug entity is = packs_good (objects_in files env.folder) entity.packs is.is.packs.each

-- they are those of a bug
pub bug_is_list : (env : Env) (files : Files) (bug : HeadEntry) (entity : Entity BugOp) → IsBug files env.folder bug entity → IsBugList (ops_in bug_kind entity.packs)
bug_is_list env files bug entity is =
    let held = objects_in files env.folder in
    entity_is_bug_list held bug.id (bug.name ∷ []) is.authors entity is.is (packs_keep held entity.packs is.is.packs.each)

-- what an edit adds to a bug keeps the rules
adds_keep : (env : Env) (files : Files) (e : BugEdit) (op : BugOp) (bug : HeadEntry) (entity : Entity BugOp) → IsBug files env.folder bug entity → edit_op env.moment e (bug_says entity) ≡ Ok op → bug_kind.KeepsRules op
adds_keep env files e op bug entity is adds =
    let ops = ops_in bug_kind entity.packs in
    let good = bug_good env files bug entity is in
    added_keeps env.moment e ops op (all_rules ops good) (first_sized ops good (bug_is_list env files bug entity is)) adds

-- ---- comments

-- the id of a comment is that of the operation which made it
comment_sized : (op : BugOp) (later : List BugOp) → IsId (bug_kind.common_of op).place.id → (id : Id) → Contains (map (λ (c : Comment). c.id) (comment_in op later)) id → IsId id
comment_sized (Create c title message files) later sized id has = subst IsId (Contains-one c.place.id id has) sized
comment_sized (SetTitle c title was) later sized id has = absurd (Contains-nil id has)
comment_sized (AddComment c message files) later sized id has = subst IsId (Contains-one c.place.id id has) sized
comment_sized (SetStatus c status) later sized id has = absurd (Contains-nil id has)
comment_sized (LabelChange c added removed) later sized id has = absurd (Contains-nil id has)
comment_sized (EditComment c target message files) later sized id has = absurd (Contains-nil id has)
comment_sized (NoOp c) later sized id has = absurd (Contains-nil id has)
comment_sized (SetMetadata c target pairs) later sized id has = absurd (Contains-nil id has)

comments_sized : (ops : List BugOp) → AllByRecursion IsGood ops → (id : Id) → Contains (map (λ (c : Comment). c.id) (comments_of ops)) id → IsId id
comments_sized [] all id has = absurd (Contains-nil id has)
comments_sized (op ∷ later) all id has =
    elim (Contains-append_cases (map (λ (c : Comment). c.id) (comment_in op later)) (map (λ (c : Comment). c.id) (comments_of later)) id
    (subst (λ (ids : List Id). Contains ids id) (map-append (λ (c : Comment). c.id) (comment_in op later) (comments_of later)) has)) [
      | inl here ↦ comment_sized op later all.0.sized id here
      | inr there ↦ comments_sized later all.1 id there
    ]

-- so it is 32 bytes
bug_comments_sized : (ops : List BugOp) → AllByRecursion IsGood ops → (id : Id) → Contains (comment_ids ops) id → IsId id
bug_comments_sized [] all id has = absurd (Contains-nil id has)
bug_comments_sized (op ∷ later) all id has = comments_sized (op ∷ later) all id has

-- ---- what adds to a bug

-- A bug is found in one way, with an id of 32 bytes and at its head, and an operation that is added keeps the rules and may follow others.
pub record AddsWell (env : Env) (files : Files) (growth : Growth) : Type 0 where
  pub finds : IsDetermined (growth.finder files)
  pub sized : (bug : HeadEntry) → (growth.finder files).Found bug → IsId bug.id
  pub head : (bug : HeadEntry) → (growth.finder files).Found bug → head_at files env.folder side.Bugs bug.id ≡ Head bug.name
  pub keeps : (op : BugOp) (bug : HasFound env.folder files (growth.finder files)) → growth.adds (bug_says bug.entity) ≡ Ok op → bug_kind.KeepsRules op
  pub follows : (op : BugOp) (bug : Snapshot) → growth.adds bug ≡ Ok op → bug_kind.is_following op ≡ true

pub edits_add_well : (env : Env) (files : Files) (e : BugEdit) (word : List ℕ) → AddsWell env files (edit_growth env e word)
edits_add_well env files e word = record {
  finds = heads_are_determined side.Bugs files env.folder word;
  sized = λ bug found. finds_an_id bug.id found.found;
  head = λ bug found. found.head;
  keeps = λ op bug adds. adds_keep env files e op bug.bug bug.entity bug.is adds;
  follows = λ op bug adds. may_follow env.moment e bug op adds;
}

pub same_op : (one other : BugOp) → ◌≡◌ {A = Result BugOp NoChange} (Ok one) (Ok other) → one ≡ other
same_op one other is = cc is

pub comments_add_well : (env : Env) (files : Files) (message : Message) (word : List ℕ) (comment : Id) → AddsWell env files (comment_growth env message word comment)
comments_add_well env files message word comment = record {
  finds = record {
    one = λ bug other first second. ap (λ (entry : CommentEntry). entry.bug) (is.one (entry bug) (entry other) first second);
    apart = λ bug why first fails. is.apart (entry bug) why first fails;
    same = λ one other first second. is.same one other first second;
  };
  sized = λ bug found. found.fits.is_sought.is_id;
  head = λ bug found. found.fits.is.head;
  keeps = λ op bug adds.
      let fits = bug.finds.fits in
      let sized = bug_comments_sized (ops_in bug_kind fits.entity.packs) (bug_good env files bug.bug fits.entity fits.is.is) comment fits.has in
      subst bug_kind.KeepsRules (same_op (edited_comment_op env.moment comment message) op adds) (edited_keeps env.moment comment message sized);
  follows = λ op bug adds. subst (λ (o : BugOp). bug_kind.is_following o ≡ true) (same_op (edited_comment_op env.moment comment message) op adds) refl;
}
  where
    is : IsDetermined (comment_finder files env.folder word)
    is = comment_finder_is_determined files env.folder word

    entry : HeadEntry → CommentEntry
    entry bug = record { bug = bug; comment = comment }
