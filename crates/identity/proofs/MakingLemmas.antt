-- The objects that are written of a version.
use Rattle.std.proofs.Common.{◌≡◌, ℕ, zero, suc, List, [], ◌∷◌, All, Option, Some, option_and_then, Result, Ok, Err, IfOk, codes, refl, ◌∙◌, ap, subst, arith}
use Rattle.std.specs.List.Sorted.{IsPermutation}
use Rattle.std.proofs.lemmas.List.Sorted.{length_permutation}
use Rattle.std.proofs.lemmas.List.Sorted.{All-permutation}
use Rattle.gb_text.specs.declared.id.Name.{Name}
use Rattle.git_object.specs.declared.commit.Commit.{Commit}
use Rattle.git_object.specs.declared.entry.Entry.{Entry}
use Rattle.git_object.specs.declared.entry.Mode.TheVariants.{Plain}
use Rattle.git_object.specs.declared.tree.Tree.{Tree}
use Rattle.git_object.specs.Grammar.{IsCommitText, IsSortedForm, IsTreeText, commit_text}
use Rattle.git_object.specs.declared.object.Object.{Object}
use Rattle.git_object.specs.declared.object.Object.TheVariants as object
use Rattle.git_object.specs.Grammar.{IsContent, framed, kind_of, object_name}
use Rattle.git_object.specs.Reading.{object_of}
use Rattle.git_object.proofs.ObjectLaws.{framed_reads, with_again}
use Rattle.object_store.specs.Held.{Objects, object_at, text_at}
use Rattle.object_store.specs.declared.fault.PutFault.{PutFault}
use Rattle.object_store.specs.declared.fault.PutFault.TheVariants as fault
use Rattle.object_batch.specs.Batches.{HasLong, SizesAnswer}
use Rattle.object_store.specs.Texts.{IsShort}
use Rattle.identity.specs.declared.making.Made.{Made}
use Rattle.identity.specs.declared.making.VersionPlan.{VersionPlan}
use Rattle.identity.specs.Making.{AreContents, HoldsVersion, PlanAnswers, blob_object, commit_content, commit_object, tree_content, tree_object, version_commit, version_objects, version_plan, version_tree}

-- what is written of a commit is the commit's text
pub commit_is : {E : Type 0} (commit : Commit) (r : Result (List ℕ) E) → IfOk r (λ t. IsCommitText t commit) → IfOk r (λ t. t ≡ commit_text commit)
commit_is commit (Ok text) is = is.text
commit_is commit (Err e) is = tt

one_entry : (e : Entry) (ys : List Entry) → IsPermutation (e ∷ []) ys → ys ≡ e ∷ []
one_entry e [] p = absurd (omega (arith, length_permutation (e ∷ []) [] p))
one_entry e (y ∷ []) p = ap (λ (x : Entry). x ∷ []) (All-permutation (λ x. x ≡ e) (e ∷ []) (y ∷ []) p alone 0 e (omega arith))
  where
    alone : All (λ x. x ≡ e) (e ∷ [])
    alone zero d below = refl
    alone (suc k) d below = absurd (omega arith)
one_entry e (y ∷ z ∷ ys) p = absurd (omega (arith, length_permutation (e ∷ []) (y ∷ z ∷ ys) p))

-- what is written of the tree is its content
pub tree_is : {E : Type 0} (tree : Tree) (blob : Name) (r : Result (List ℕ) E) → tree ≡ version_tree blob
    → IfOk r (λ t. (sorted : Tree) × IsSortedForm tree sorted × IsTreeText t sorted) → IfOk r (λ t. IsTreeText t (version_tree blob))
tree_is tree blob (Ok text) same is =
    let form : IsSortedForm (version_tree blob) is.0 = subst (λ (t : Tree). IsSortedForm t is.0) same is.1 in
    let entries = one_entry (record { mode = Plain; name = codes "version"; object = blob }) is.0.entries form.permutation in
    let sorted : is.0 ≡ version_tree blob = ap (λ (es : List Entry). record { entries = es }) entries in
    subst (IsTreeText text) sorted is.2
tree_is tree blob (Err e) same is = tt

-- the text of the tree of a version
pub tree_text_is : {E : Type 0} (blob : Name) (r : Result (List ℕ) E) → IfOk r (λ t. IsTreeText t (version_tree blob)) → IfOk r (λ t. t ≡ tree_content blob)
tree_text_is blob (Ok text) is = is.text
tree_text_is blob (Err e) is = tt

-- ---- what is held

-- what a name holds of which the text stands
holds_object : (objects : Objects) (o : Object) (content : List ℕ) → IsContent content o → text_at objects (object_name (framed (kind_of o) content)) ≡ Some (framed (kind_of o) content)
    → object_at objects (object_name (framed (kind_of o) content)) ≡ Some o
holds_object objects o content is stands =
    ap (option_and_then object_of) stands ∙ framed_reads (kind_of o) content ∙ with_again content o is

-- the objects of a version whose texts stand are held
pub holds_version : (objects : Objects) (version : List ℕ) (parent : Option Name) (now : ℕ) (texts : List (List ℕ)) (made : Made) → texts ≡ version_objects version parent now
    → AreContents version parent now → made.head ≡ object_name (commit_object version parent now) → All (λ text. text_at objects (object_name text) ≡ Some text) texts
    → HoldsVersion objects version parent now made
holds_version objects version parent now texts made same are is held =
    let stand : All (λ text. text_at objects (object_name text) ≡ Some text) (version_objects version parent now) =
    subst (λ (ts : List (List ℕ)). All (λ text. text_at objects (object_name text) ≡ Some text) ts) same held in
    let blob = object_name (blob_object version) in
    let tree = object_name (tree_object version) in
    record {
      commit = ap (object_at objects) is
          ∙ holds_object objects (object.Commit (version_commit tree parent now)) (commit_content tree parent now) are.commit (stand 2 [] (omega arith));
      tree = holds_object objects (object.Tree (version_tree blob)) (tree_content blob) are.tree (stand 1 [] (omega arith));
      blob = holds_object objects (object.Blob version) version refl (stand 0 [] (omega arith));
    }

-- ---- what is to be made

-- a plan whose objects are short enough
pub plan_made : (bytes version : List ℕ) (parent : Option Name) (now : ℕ) (plan : VersionPlan) → bytes ≡ version → plan ≡ version_plan bytes parent now
    → All IsShort plan.objects → PlanAnswers version parent now (Ok plan)
plan_made bytes version parent now plan is same short =
    let all : plan ≡ version_plan version parent now = same ∙ ap (λ (v : List ℕ). version_plan v parent now) is in
    (all, subst (λ (p : VersionPlan). All IsShort p.objects) all short)

-- one of which is too long
pub plan_refused : (bytes version : List ℕ) (parent : Option Name) (now : ℕ) (plan : VersionPlan) (e : PutFault) → bytes ≡ version → plan ≡ version_plan bytes parent now
    → SizesAnswer plan.objects (Err e) → PlanAnswers version parent now (Err e)
plan_refused bytes version parent now plan (fault.Large count) is same long =
    (long.0, subst (λ (p : VersionPlan). HasLong p.objects) (same ∙ ap (λ (v : List ℕ). version_plan v parent now) is) long.1)
plan_refused bytes version parent now plan (fault.Taken name) is same never = absurd never
plan_refused bytes version parent now plan fault.Memory is same never = absurd never
plan_refused bytes version parent now plan fault.Disk is same never = absurd never
