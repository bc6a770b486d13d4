-- The objects that are written of a commit of an entity: their contents, and the plan of them.
use Rattle.std.proofs.Common.{◌≡◌, ℕ, zero, suc, List, [], ◌∷◌, Contains, Option, Some, None, Result, Ok, Err, codes, refl, sym, ◌∙◌, ap, subst, arith}
use Rattle.std.specs.Prelude.{IfOk, IsSortedByKey}
use Rattle.std.specs.List.{AllByRecursion}
use Rattle.std.specs.Option.{ForSome}
use Rattle.std.specs.Ordering.{nat_cmp}
use Rattle.std.specs.Cmp.Lexicographic.{slice_cmp}
use Rattle.std.specs.Fmt.{digits}
use Rattle.std.proofs.lemmas.List.Elements.{All-from_recursion}
use Rattle.std.proofs.lemmas.List.Sorted.{Contains-permutation}
use Rattle.gb_text.specs.Digits.{IsName}
use Rattle.gb_text.specs.declared.id.Id.{Id}
use Rattle.gb_text.specs.declared.id.Name.{Name}
use Rattle.gb_store.specs.Files.{History}
use Rattle.git_object.specs.declared.commit.Commit.{Commit}
use Rattle.git_object.specs.declared.object.Object.TheVariants as object
use Rattle.git_object.specs.declared.tree.Tree.{Tree}
use Rattle.git_object.specs.declared.frame.Kind.TheVariants as kinds
use Rattle.git_object.specs.Grammar.{IsCommitText, IsEntry, IsSortedForm, IsTreeText, commit_text, framed, object_name, sort_key}
use Rattle.git_object.proofs.DistinctLaws.{distinct_are}
use Rattle.git_object.proofs.NameLaws.{IsName-object_name}
use Rattle.git_object.proofs.OrderLaws.{one_sorted_text}
use Rattle.object_store.specs.Held.{Objects}
use Rattle.object_store.specs.Texts.{HasObject}
use Rattle.object_store.specs.declared.fault.PutFault.{PutFault}
use Rattle.object_store.specs.declared.fault.PutFault.TheVariants as fault
use Rattle.object_batch.specs.Batches.{AllStand, BatchAnswers, HasLong, SizesAnswer}
use Rattle.op_kind.specs.Meaning.{Meaning}
use Rattle.op_pack.specs.Heads.{IsClock, head_of, plain_entry, tree_with}
use Rattle.op_pack.specs.Packs.{pack_text, written_ids}
use Rattle.op_pack.specs.declared.pack.Pack.{Pack}
use Rattle.op_pack.proofs.TreeLemmas.{tree_names}
use Rattle.dag_entity.specs.declared.appending.CommitPlan.{CommitPlan}
use Rattle.dag_entity.specs.Appending.{AppendAnswers, AppendPlanAnswers, append_plan, appended_name, appended_objects, appended_tree, commit_content, commit_object, empty_object, pack_object, tree_content, tree_name, tree_object}

-- what holds of each of a list's elements holds of one that is among them
pub holds_among : {X : Type 0} (P : X → Type 0) (xs : List X) (x : X) → AllByRecursion P xs → Contains xs x → P x
holds_among P xs x all (k, below, is) = subst P is (All-from_recursion P xs all k x below)

-- ---- the tree

in_order : (edit : ℕ) (create : Option ℕ) (ops : Name) → IsSortedByKey sort_key (slice_cmp nat_cmp) (appended_tree edit create ops).entries
in_order edit None ops zero d low below = refl
in_order edit None ops (suc zero) d low below = refl
in_order edit None ops (suc (suc k)) d low below = absurd (omega (arith, below))
in_order edit (Some n) ops zero d low below = refl
in_order edit (Some n) ops (suc zero) d low below = refl
in_order edit (Some n) ops (suc (suc zero)) d low below = refl
in_order edit (Some n) ops (suc (suc (suc k))) d low below = absurd (omega (arith, below))

-- it has the entries of the tree that is made, in order
pub tree_sorted : (edit : ℕ) (create : Option ℕ) (ops : Name) → IsSortedForm (tree_with edit create ops) (appended_tree edit create ops)
tree_sorted edit None ops = record {
  permutation = record { moves = (1, 2) ∷ (0, 2) ∷ []; below = (omega arith, omega arith, (omega arith, omega arith, tt)); is = refl };
  order = in_order edit None ops;
}
tree_sorted edit (Some n) ops = record {
  permutation = record {
    moves = (2, 3) ∷ (1, 2) ∷ (0, 3) ∷ [];
    below = (omega arith, omega arith, (omega arith, omega arith, (omega arith, omega arith, tt)));
    is = refl;
  };
  order = in_order edit (Some n) ops;
}

-- it says what that tree says
pub tree_says : (edit : ℕ) (create : Option ℕ) (ops : Name) → head_of (appended_tree edit create ops) ≡ head_of (tree_with edit create ops)
tree_says edit None ops = refl
tree_says edit (Some n) ops = refl

-- and has its content
pub tree_text : (edit : ℕ) (create : Option ℕ) (ops : Name) → IsClock edit → ForSome create (λ clock. IsClock clock) → IsName ops
    → IsTreeText (tree_content edit create ops) (appended_tree edit create ops)
unfolding digits
tree_text edit None ops is may name =
    let empty = IsName-object_name empty_object in
    let good = (tree_names edit None ops is may).each in
    record {
      each = (record { name = good.1.1.0; object = empty }, (record { name = good.0; object = name }, (record { name = good.1.0; object = empty }, tt)));
      distinct = distinct_are (appended_tree edit None ops).entries refl;
      text = refl;
    }
tree_text edit (Some n) ops is may name =
    let empty = IsName-object_name empty_object in
    let good = (tree_names edit (Some n) ops is may).each in
    record {
      each = (
        record { name = good.1.1.1.0; object = empty },
        (record { name = good.1.1.0; object = empty }, (record { name = good.0; object = name }, (record { name = good.1.0; object = empty }, tt))),
      );
      distinct = distinct_are (appended_tree edit (Some n) ops).entries refl;
      text = refl;
    }

-- what a written tree names is a name
ops_is_name : (edit : ℕ) (create : Option ℕ) (ops : Name) (sorted : Tree) → IsSortedForm (tree_with edit create ops) sorted → AllByRecursion IsEntry sorted.entries → IsName ops
ops_is_name edit create ops sorted form each =
    let entry = plain_entry (codes "ops") ops in
    let first : Contains (tree_with edit create ops).entries entry = (0, omega arith, refl) in
    (holds_among IsEntry sorted.entries entry each (Contains-permutation (tree_with edit create ops).entries sorted.entries entry form.permutation first)).object

-- what is written of the tree is its content
pub tree_is : {E : Type 0} (tree : Tree) (edit : ℕ) (create : Option ℕ) (ops : Name) (r : Result (List ℕ) E) → IsClock edit → ForSome create (λ clock. IsClock clock)
    → tree ≡ tree_with edit create ops → IfOk r (λ t. (sorted : Tree) × IsSortedForm tree sorted × IsTreeText t sorted) → IfOk r (λ t. IsTreeText t (appended_tree edit create ops))
tree_is tree edit create ops (Err e) is may same written = tt
tree_is tree edit create ops (Ok text) is may same written =
    let form : IsSortedForm (tree_with edit create ops) written.0 = subst (λ (t : Tree). IsSortedForm t written.0) same written.1 in
    let own = tree_text edit create ops is may (ops_is_name edit create ops written.0 form written.2.each) in
    subst (λ (t : List ℕ). IsTreeText t (appended_tree edit create ops))
    (one_sorted_text (tree_with edit create ops) (appended_tree edit create ops) written.0 (tree_content edit create ops) text (tree_sorted edit create ops) form own written.2) own

pub tree_text_is : {E : Type 0} (edit : ℕ) (create : Option ℕ) (ops : Name) (r : Result (List ℕ) E) → IfOk r (λ t. IsTreeText t (appended_tree edit create ops))
    → IfOk r (λ t. t ≡ tree_content edit create ops)
tree_text_is edit create ops (Ok text) is = is.text
tree_text_is edit create ops (Err e) is = tt

-- ---- the commit

-- what is written of a commit is the commit's content
pub commit_text_is : {E : Type 0} (commit : Commit) (r : Result (List ℕ) E) → IfOk r (λ t. IsCommitText t commit) → IfOk r (λ t. t ≡ commit_text commit)
commit_text_is commit (Ok text) is = is.text
commit_text_is commit (Err e) is = tt

-- the content of a tree or of a commit is that of an object
pub tree_has : (slice content : List ℕ) (tree : Tree) → slice ≡ content → IsTreeText content tree → HasObject kinds.Tree slice
tree_has slice content tree same is = record { object = object.Tree tree; is_kind = refl; is = subst (λ (t : List ℕ). IsTreeText t tree) (sym same) is }

pub commit_has : (slice content : List ℕ) (commit : Commit) → slice ≡ content → IsCommitText content commit → HasObject kinds.Commit slice
commit_has slice content commit same is = record { object = object.Commit commit; is_kind = refl; is = subst (λ (t : List ℕ). IsCommitText t commit) (sym same) is }

-- ---- the plan

-- what is made of a value is made of what it is
made_of : {A B : Type 0} (f : A → B) (made : B) (x y : A) → made ≡ f x → x ≡ y → made ≡ f y
made_of f made x y is same = is ∙ ap f same

four_are : (objects : List (List ℕ)) (a b c d e f g h : List ℕ) → objects ≡ a ∷ b ∷ c ∷ d ∷ [] → a ≡ e → b ≡ f → c ≡ g → d ≡ h → objects ≡ e ∷ f ∷ g ∷ h ∷ []
four_are objects a b c d e f g h are one two three four = cc

plan_with : (head name : Name) (objects texts : List (List ℕ)) (ids adds : List Id) (plan made : CommitPlan) → plan ≡ record { head = head; objects = objects; ids = ids }
    → made ≡ record { head = name; objects = texts; ids = adds } → head ≡ name → objects ≡ texts → ids ≡ adds → plan ≡ made
plan_with head name objects texts ids adds plan made is are same all told = cc

module _ {Op State Row : Type 0} (k : Meaning Op State Row) (parents : List Name) (pack : Pack Op) (now : ℕ) where
  -- a plan of texts that are what they are to be
  pub plan_is : (text empty blob content tree more commit : List ℕ) (named named_tree head : Name) (objects : List (List ℕ)) (ids : List Id) → text ≡ pack_text k pack.author pack.ops
      → empty ≡ empty_object → blob ≡ framed kinds.Blob text → named ≡ object_name blob → content ≡ tree_content pack.edit pack.create named → tree ≡ framed kinds.Tree content
      → named_tree ≡ object_name tree → more ≡ commit_content named_tree parents now → commit ≡ framed kinds.Commit more → head ≡ object_name commit
      → objects ≡ empty ∷ blob ∷ tree ∷ commit ∷ [] → ids ≡ written_ids k pack.ops → record { head = head; objects = objects; ids = ids } ≡ append_plan k parents pack now
  plan_is text empty blob content tree more commit named named_tree head objects ids text_is empty_is blob_is named_is content_is tree_is named_tree_is more_is commit_is head_is objects_are ids_are =
      let blob_same = made_of (framed kinds.Blob) blob text (pack_text k pack.author pack.ops) blob_is text_is in
      let named_same = made_of object_name named blob (pack_object k pack) named_is blob_same in
      let content_same = made_of (tree_content pack.edit pack.create) content named (object_name (pack_object k pack)) content_is named_same in
      let tree_same = made_of (framed kinds.Tree) tree content (tree_content pack.edit pack.create (object_name (pack_object k pack))) tree_is content_same in
      let named_tree_same = made_of object_name named_tree tree (tree_object k pack) named_tree_is tree_same in
      let more_same = made_of (λ (t : Name). commit_content t parents now) more named_tree (tree_name k pack) more_is named_tree_same in
      let commit_same = made_of (framed kinds.Commit) commit more (commit_content (tree_name k pack) parents now) commit_is more_same in
      plan_with head (appended_name k parents pack now) objects (appended_objects k parents pack now) ids (written_ids k pack.ops) (record { head = head; objects = objects; ids = ids }) (append_plan k parents pack now) refl refl
      (made_of object_name head commit (commit_object k parents pack now) head_is commit_same)
      (four_are objects empty blob tree commit empty_object (pack_object k pack) (tree_object k pack) (commit_object k parents pack now) objects_are empty_is blob_same tree_same commit_same)
      ids_are

  -- a plan one of whose objects is too long
  pub plan_refused : (plan : CommitPlan) (e : PutFault) → plan ≡ append_plan k parents pack now → SizesAnswer plan.objects (Err e) → AppendPlanAnswers k parents pack now (Err e)
  plan_refused plan (fault.Large count) same long = (long.0, subst (λ (p : CommitPlan). HasLong p.objects) same long.1)
  plan_refused plan (fault.Taken name) same never = absurd never
  plan_refused plan fault.Memory same never = absurd never
  plan_refused plan fault.Disk same never = absurd never

-- ---- the answers, for a plan's texts

texts_are : (texts : List (List ℕ)) (plan made : CommitPlan) → texts ≡ plan.objects → plan ≡ made → texts ≡ made.objects
texts_are texts plan made is same = cc

-- a put of them that is refused or stops
pub append_refused : (folder : List ℕ) (texts : List (List ℕ)) (plan made : CommitPlan) (old new : History) (e : PutFault) (r : Result Name PutFault) → texts ≡ plan.objects
    → plan ≡ made → r ≡ Err e → BatchAnswers folder texts old new (Err e) → AppendAnswers folder made.objects old new r
append_refused folder texts plan made old new e r is same refused answers =
    subst (AppendAnswers folder made.objects old new) (sym refused)
    (subst (λ (ts : List (List ℕ)). BatchAnswers folder ts old new (Err e)) (texts_are texts plan made is same) answers)

-- one that is made
pub append_made : (folder : List ℕ) (texts : List (List ℕ)) (plan made : CommitPlan) (old new : History) → texts ≡ plan.objects → plan ≡ made
    → BatchAnswers folder texts old new (Ok tt) → BatchAnswers folder made.objects old new (Ok tt)
append_made folder texts plan made old new is same = subst (λ (ts : List (List ℕ)). BatchAnswers folder ts old new (Ok tt)) (texts_are texts plan made is same)

-- after which they stand
pub plan_stands : (objects : Objects) (texts : List (List ℕ)) (plan made : CommitPlan) → texts ≡ plan.objects → plan ≡ made → AllStand objects texts → AllStand objects made.objects
plan_stands objects texts plan made is same = subst (AllStand objects) (texts_are texts plan made is same)
