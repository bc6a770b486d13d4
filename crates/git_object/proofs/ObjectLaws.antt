-- An object that is read has this text, and the text of an object is read.
use Rattle.std.proofs.lemmas.Option.{same_Some}
use Rattle.std.proofs.Common.{◌≡◌, ℕ, List, Option, Some, None, refl, sym, ap, subst, ◌∙◌}
use Rattle.std.specs.Option.{option_map}
use Rattle.git_object.specs.declared.frame.Kind.{Kind}
use Rattle.git_object.specs.declared.frame.Kind.TheVariants as kinds
use Rattle.git_object.specs.declared.object.Object.{Object}
use Rattle.git_object.specs.declared.object.Object.TheVariants as objects
use Rattle.git_object.specs.declared.tree.Tree.{Tree}
use Rattle.git_object.specs.declared.commit.Commit.{Commit}
use Rattle.git_object.specs.Grammar.{IsTreeText, IsCommitText, framed, IsContent, IsObjectText, kind_of}
use Rattle.git_object.specs.Reading.{frame_of, tree_of, commit_of, object_with, object_of}
use Rattle.git_object.proofs.CutLaws.{bind_some}
use Rattle.git_object.proofs.FrameLaws.{frame_takes, frame_again}
use Rattle.git_object.proofs.TreeLaws.{tree_takes, tree_only}
use Rattle.git_object.proofs.CommitLaws.{commit_takes, commit_only}

mapped : {A B : Type 0} (o : Option A) (f : A → B) (y : B) → option_map f o ≡ Some y → (x : A) × (o ≡ Some x) × (f x ≡ y)
mapped None f y e = absurd cc
mapped (Some x) f y e = (x, refl, same_Some (f x) y e)

-- ---- contents

-- what is read of a content of a kind
pub record Holds (kind : Kind) (content : List ℕ) (o : Object) : Type 0 where
  pub same : kind ≡ kind_of o
  pub is : IsContent content o

-- content that reads as an object of a kind is its content
pub with_takes : (kind : Kind) (content : List ℕ) (o : Object) → object_with kind content ≡ Some o → Holds kind content o
with_takes kinds.Blob content o e = subst (λ (v : Object). Holds kinds.Blob content v) (same_Some (objects.Blob content) o e) (record { same = refl; is = refl })
with_takes kinds.Tree content o e =
    let t = mapped (tree_of content) (λ (t : Tree). objects.Tree t) o e in
    subst (λ (v : Object). Holds kinds.Tree content v) t.2 (record { same = refl; is = tree_takes content t.0 t.1 })
with_takes kinds.Commit content o e =
    let c = mapped (commit_of content) (λ (c : Commit). objects.Commit c) o e in
    subst (λ (v : Object). Holds kinds.Commit content v) c.2 (record { same = refl; is = commit_takes content c.0 c.1 })

-- the content of an object reads again
pub with_again : (content : List ℕ) (o : Object) → IsContent content o → object_with (kind_of o) content ≡ Some o
with_again content (objects.Blob blob) is = ap (λ (b : List ℕ). Some (objects.Blob b)) is
with_again content (objects.Tree t) is = ap (option_map (λ (t : Tree). objects.Tree t)) (tree_only content t is)
with_again content (objects.Commit c) is = ap (option_map (λ (c : Commit). objects.Commit c)) (commit_only content c is)

-- content of an object reads as it alone
pub with_only : (kind : Kind) (content : List ℕ) (o : Object) → kind ≡ kind_of o → IsContent content o → object_with kind content ≡ Some o
with_only kind content o same is = ap (λ (k : Kind). object_with k content) same ∙ with_again content o is

-- ---- texts

-- what reads as an object is the text of it
pub object_takes : (text : List ℕ) (o : Object) → object_of text ≡ Some o → IsObjectText text o
unfolding object_of
object_takes text o e =
    let f = bind_some (frame_of text) (λ frame. object_with frame.0 frame.1) o e in
    let holds = with_takes f.0.0 f.0.1 o f.2 in
    record { content = f.0.1; is = holds.is; frames = frame_takes text f.0.0 f.0.1 f.1 ∙ ap (λ (k : Kind). framed k f.0.1) holds.same }

-- the text of an object reads as it alone
pub object_only : (text : List ℕ) (o : Object) → IsObjectText text o → object_of text ≡ Some o
unfolding object_of
object_only text o is = ap object_of is.frames ∙ rw (frame_again (kind_of o) is.content) (with_again is.content o is.is)

-- a framed content reads as an object of its kind
pub framed_reads : (kind : Kind) (content : List ℕ) → object_of (framed kind content) ≡ object_with kind content
unfolding object_of
framed_reads kind content = rw (frame_again kind content) refl

-- ---- one value a text, one text a value

-- a content is that of one tree
pub one_tree : (content : List ℕ) (t u : Tree) → IsTreeText content t → IsTreeText content u → t ≡ u
one_tree content t u p q = same_Some t u (sym (tree_only content t p) ∙ tree_only content u q)

-- a content is that of one commit
pub one_commit : (content : List ℕ) (c d : Commit) → IsCommitText content c → IsCommitText content d → c ≡ d
one_commit content c d p q = same_Some c d (sym (commit_only content c p) ∙ commit_only content d q)

-- a text is that of one object
pub one_object : (text : List ℕ) (o p : Object) → IsObjectText text o → IsObjectText text p → o ≡ p
one_object text o p is also = same_Some o p (sym (object_only text o is) ∙ object_only text p also)

one_content : (content rest : List ℕ) (o : Object) → IsContent content o → IsContent rest o → content ≡ rest
one_content content rest (objects.Blob blob) is also = is ∙ sym also
one_content content rest (objects.Tree t) is also = is.text ∙ sym also.text
one_content content rest (objects.Commit c) is also = is.text ∙ sym also.text

-- an object has one text
pub one_object_text : (text other : List ℕ) (o : Object) → IsObjectText text o → IsObjectText other o → text ≡ other
one_object_text text other o is also = is.frames ∙ ap (framed (kind_of o)) (one_content is.content also.content o is.is also.is) ∙ sym also.frames
