-- A bug is one: its head, its authors and its packs are determined, and it has no fault.
use Rattle.std.proofs.Common.{◌≡◌, ◌≤◌, ◌&&◌, nat_le, leb-true, Option, None, option_and_then, inl, inr, ℕ, List, [], ◌∷◌, Some, map, length, Contains, sym, ◌∙◌, ap, subst, arith}
use Rattle.std.proofs.lemmas.Bool.{and_parts}
use Rattle.std.proofs.lemmas.Option.{cond_some}
use Rattle.std.proofs.lemmas.Cmp.{nat_list_cmp_total}
use Rattle.std.proofs.lemmas.Option.{same_Some}
use Rattle.gb_text.specs.declared.id.Id.{Id}
use Rattle.gb_text.specs.declared.id.Name.{Name}
use Rattle.gb_text.proofs.SortedLemmas.{same_elements}
use Rattle.gb_store.specs.Files.{Files}
use Rattle.object_store.specs.Held.{Objects, objects_in}
use Rattle.ref_store.specs.Refs.{Head, Bad}
use Rattle.bug_ops.specs.Kind.{bug_kind}
use Rattle.bug_ops.specs.declared.op.BugOp.{BugOp}
use Rattle.dag_entity.specs.Entities.{AreAllInOrder, IsGreatestEdit, IsRootClock}
use Rattle.dag_entity.specs.Extending.{BeginsOnce}
use Rattle.dag_entity.specs.Nodes.{edit_at, pack_at}
use Rattle.dag_entity.specs.declared.entity.Entity.{Entity}
use Rattle.dag_entity.specs.declared.entity.Placed.{Placed}
use Rattle.dag_entity.proofs.AgreeGrowth.{fewer_authors}
use Rattle.dag_entity.proofs.LawValid.{begins_once, pack_of_node}
use Rattle.dag_entity.proofs.OrderLemmas.{one_rise}
use Rattle.object_batch.proofs.ClashLemmas.{Contains-cons_cases}
use Rattle.git_object.specs.declared.commit.Commit.{Commit}
use Rattle.object_store.proofs.GrowthLemmas.{bind-some}
use Rattle.object_store.specs.Typed.{commit_at, tree_at}
use Rattle.gb_text.specs.Decimal.{decimal_of}
use Rattle.gb_text.specs.declared.decimal.TheConstants.{GREATEST_TIME}
use Rattle.op_kind.specs.Members.{only_value}
use Rattle.op_pack.specs.Heads.{clock_at as clock_value, clock_in_range, edit_clock_of, edit_clocks}
use Rattle.op_pack.specs.declared.pack.Pack.{Pack}
use Rattle.repo_state.specs.Bugs.{AreLocal, FindsBug, HasBugFault, IsBug, IsDamagedBug}
use Rattle.repo_state.specs.Finds.{Finds, One}
use Rattle.repo_state.specs.Sides.{head_at}
use Rattle.repo_state.specs.declared.side.HeadEntry.{HeadEntry}
use Rattle.repo_state.specs.declared.side.Side.TheVariants as side
use Rattle.repo_state.proofs.FoundLemmas.{finds_one_entity, finds_the_same}
use Rattle.repo_state.proofs.HeadIdLemmas.{ids-same}
use Rattle.repo_state.proofs.ListingLemmas.{Contains-from_map, Contains-map}

-- a word finds one bug
pub one_bug : (files : Files) (folder word : List ℕ) (one two : HeadEntry) → FindsBug files folder word one → FindsBug files folder word two → one ≡ two
one_bug files folder word one two first second = finds_one_entity one two first second

-- the local identities have one list of ids
locals_within : (files : Files) (folder : List ℕ) (ones twos : List Id) → AreLocal files folder ones → AreLocal files folder twos
    → (bytes : List ℕ) → Contains (map (λ (id : Id). id.bytes) ones) bytes → Contains (map (λ (id : Id). id.bytes) twos) bytes
locals_within files folder ones twos first second bytes has =
    let found = Contains-from_map (λ (id : Id). id.bytes) ones bytes has in
    subst (Contains (map (λ (id : Id). id.bytes) twos)) found.2
    (Contains-map (λ (id : Id). id.bytes) twos found.0 ((second.members found.0).1 ((first.members found.0).0 found.1)))

pub one_locals : (files : Files) (folder : List ℕ) (ones twos : List Id) → AreLocal files folder ones → AreLocal files folder twos → ones ≡ twos
one_locals files folder ones twos first second =
    ids-same ones twos (same_elements nat_list_cmp_total (map (λ (id : Id). id.bytes) ones) (map (λ (id : Id). id.bytes) twos) first.rising second.rising
    (locals_within files folder ones twos first second) (locals_within files folder twos ones second first))

-- a pack of one list of all packs stands in the other
packs_within : (objects : Objects) (heads : List Name) (one two : List (Placed BugOp)) → AreAllInOrder bug_kind objects heads one → AreAllInOrder bug_kind objects heads two
    → (placed : Placed BugOp) → Contains one placed → Contains two placed
packs_within objects heads one two first second placed has =
    let found = Contains-from_map (λ (p : Placed BugOp). p.commit) two placed.commit (second.all placed.commit (first.only placed has)) in
    let packs : placed.pack ≡ (found.0).pack =
    same_Some placed.pack (found.0).pack (sym (first.each placed has) ∙ ap (pack_at bug_kind objects) (sym found.2) ∙ second.each found.0 found.1) in
    let same : found.0 ≡ placed = λ i. record { commit = found.2 i; pack = sym packs i } in
    subst (Contains two) same found.1

-- all packs in order are one list
pub one_order : (objects : Objects) (heads : List Name) (one two : List (Placed BugOp)) → AreAllInOrder bug_kind objects heads one → AreAllInOrder bug_kind objects heads two → one ≡ two
one_order objects heads one two first second =
    one_rise one two first.rise second.rise (λ placed. (packs_within objects heads one two first second placed, packs_within objects heads two one second first placed))

-- nothing is wrong with a bug that was read
pub bug_no_fault : (files : Files) (folder : List ℕ) (bug : HeadEntry) (entity : Entity BugOp) → IsBug files folder bug entity → HasBugFault files folder bug → ⊥
bug_no_fault files folder bug entity is wrong =
    is.is.valid wrong.fault
    (fewer_authors bug_kind bug.id (bug.name ∷ []) (objects_in files folder) is.authors wrong.authors
    (λ author has. let local = is.locals author has in (wrong.locals.members author).1 (local.is_id, local.stands)) wrong.fault wrong.holds)

-- nor is a bug damaged that a word finds and that was read
pub bug_not_damaged : (files : Files) (folder word : List ℕ) (bug : HeadEntry) (entity : Entity BugOp) (id : Id) → FindsBug files folder word bug → IsBug files folder bug entity
    → Finds files folder side.Bugs word (One id) → IsDamagedBug files folder id → ⊥
bug_not_damaged files folder word bug entity id finds is found (inl bad) =
    let ids : bug.id ≡ id = finds_the_same bug.id id finds.found found in
    let heads : Head bug.name ≡ Bad = sym finds.head ∙ ap (head_at files folder side.Bugs) ids ∙ bad in
    cc (heads)
bug_not_damaged files folder word bug entity id finds is found (inr (head, has, wrong)) =
    let bugs : bug ≡ record { id = id; name = head } = one_bug files folder word bug (record { id = id; name = head }) finds (record { found = found; head = has }) in
    bug_no_fault files folder bug entity is (subst (HasBugFault files folder) (sym bugs) wrong)

-- the edit clock of an entity with one head is that of the head
pub head_edit : (objects : Objects) (head : Name) (edit : ℕ) → IsGreatestEdit objects (head ∷ []) edit → edit_at objects head ≡ Some edit
head_edit objects head edit is = elim (Contains-cons_cases head [] is.head is.among) [
  | inl same ↦ ap (edit_at objects) same ∙ is.says
  | inr none ↦ absurd (omega (arith, none.1))
]

-- an edit clock is within the limit
clock_within : (o : Option ℕ) (n : ℕ) → clock_in_range o ≡ Some n → n ≤ GREATEST_TIME
clock_within None n h = absurd (cc (h))
clock_within (Some m) n h =
    let is = cond_some (nat_le 1 m && nat_le m GREATEST_TIME) m n h in
    subst (λ (k : ℕ). k ≤ GREATEST_TIME) is.1 (leb-true m GREATEST_TIME (and_parts (nat_le 1 m) (nat_le m GREATEST_TIME) is.0).1)

only_within : (texts : List (List ℕ)) (n : ℕ) → only_value clock_value texts ≡ Some n → n ≤ GREATEST_TIME
only_within [] n h = absurd (cc (h))
only_within (text ∷ []) n h = clock_within (decimal_of text) n h
only_within (text ∷ other ∷ texts) n h = absurd (cc (h))

pub edit_within : (objects : Objects) (name : Name) (edit : ℕ) → edit_at objects name ≡ Some edit → edit ≤ GREATEST_TIME
edit_within objects name edit says =
    let commit = bind-some (λ (c : Commit). option_and_then edit_clock_of (tree_at objects c.tree)) (commit_at objects name) edit says in
    let tree = bind-some edit_clock_of (tree_at objects commit.0.tree) edit commit.2 in
    only_within (edit_clocks tree.0) edit tree.2

-- and the create clock of an entity is that of its one root
root_clock : (objects : Objects) (heads : List Name) (id : Id) (one two : ℕ) → BeginsOnce bug_kind objects heads id one → IsRootClock bug_kind objects heads two → one ≡ two
root_clock objects heads id one two begins is =
    let commit = is.node.placed.commit in
    let names : commit ≡ begins.root.placed.commit = begins.only commit
    (record { commit = is.is.is.is.commit; is = record { below = is.is.is.below; held = is.is.is.is.held }; root = sym is.is.is.is.parents ∙ is.is.root }) in
    let packs : begins.root.placed.pack ≡ is.node.placed.pack = same_Some _ _ (sym (pack_of_node bug_kind objects begins.root begins.is.is.is) ∙ ap (pack_at bug_kind objects) (sym names) ∙ pack_of_node bug_kind objects is.node is.is.is.is) in
    same_Some one two (sym begins.opens.says ∙ ap (λ (pack : Pack BugOp). pack.create) packs ∙ is.says)

-- a head has one entity of a bug
pub one_entity : (files : Files) (folder : List ℕ) (bug : HeadEntry) (one two : Entity BugOp) → IsBug files folder bug one → IsBug files folder bug two → one ≡ two
one_entity files folder bug one two first second = λ i. record {
  id = (first.is.id_is ∙ sym second.is.id_is) i;
  heads = (first.is.heads_are ∙ sym second.is.heads_are) i;
  edit = edits i;
  create = creates i;
  commits = (first.is.count ∙ ap length packs ∙ sym second.is.count) i;
  packs = packs i;
}
  where
    objects : Objects
    objects = objects_in files folder

    packs : one.packs ≡ two.packs
    packs = one_order objects (bug.name ∷ []) one.packs two.packs first.is.packs second.is.packs

    edits : one.edit ≡ two.edit
    edits = same_Some one.edit two.edit (sym (head_edit objects bug.name one.edit first.is.edit) ∙ head_edit objects bug.name two.edit second.is.edit)

    root : BeginsOnce bug_kind objects (bug.name ∷ []) bug.id one.create
    root = begins_once bug_kind objects bug.id (bug.name ∷ []) first.authors one first.is

    creates : one.create ≡ two.create
    creates = root_clock objects (bug.name ∷ []) bug.id one.create two.create root second.is.create
