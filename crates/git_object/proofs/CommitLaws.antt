-- A commit that is read has this text, and the text of a commit is read.
use Rattle.std.proofs.lemmas.Option.{same_Some}
use Rattle.std.proofs.Common.{◌≡◌, ◌≢◌, ℕ, suc, ◌/◌, ◌%◌, ◌<◌, Bool, true, false, cond, eqb, List, [], ◌∷◌, ◌++◌, length, get_or, Option, Some, None, refl, sym, ap, subst, ◌∙◌, append_assoc, arith, length-append}
use Rattle.std.specs.Prelude.{codes}
use Rattle.std.specs.List.{flat_map, AllByRecursion}
use Rattle.std.proofs.lemmas.Option.{some_pair_parts}
use Rattle.hex.specs.Hex.{encode_lower, encode_with, lower_digits}
use Rattle.gb_text.specs.Digits.{IsName, name_of}
use Rattle.gb_text.specs.declared.id.Name.{Name}
use Rattle.gb_text.proofs.DigitLemmas.{name_of-is, name_of-encode_lower}
use Rattle.git_object.specs.declared.commit.Commit.{Commit}
use Rattle.git_object.specs.Grammar.{Lacks, IsLine, ended, parent_line, commit_text, IsCommitText, HasGoodTexts}
use Rattle.git_object.specs.Reading.{◌>>=◌, strip, cut_at, lines_at, named_at, tree_at, text_at, parent_after, parent_at, all_at, commit_of}
use Rattle.git_object.proofs.CutLaws.{nil_length, some_length, lacks_by_test, index_lacks, bind_some, strip_again, strip_takes, cut_takes, cut_again}
use Rattle.git_object.proofs.RepeatLaws.{Steps, Lists, TakesSome, takes_some, many_takes, all_again}
use Rattle.git_object.proofs.LineLaws.{Whole, lines_again, lines_whole}

-- ---- a name and its line's end

digit_no_end : (i : ℕ) → get_or lower_digits i 0 ≢ 10
digit_no_end i = index_lacks 10 lower_digits i (λ e. omega arith) (lacks_by_test 10 lower_digits refl)

digits_no_end : (bytes : List ℕ) → Lacks 10 (encode_lower bytes)
unfolding encode_with
digits_no_end [] = tt
digits_no_end (b ∷ bs) = (digit_no_end (b / 16), (digit_no_end (b % 16), digits_no_end bs))

named_takes : (bytes : List ℕ) (y : Name × List ℕ) → named_at bytes ≡ Some y → IsName y.0 × (bytes ≡ encode_lower y.0.bytes ++ 10 ∷ y.1)
unfolding named_at
named_takes bytes y e =
    let l = bind_some (cut_at 10 bytes) (λ line. name_of line.0 >>= λ name. Some (name, line.1)) y e in
    let n = bind_some (name_of l.0.0) (λ name. Some (name, l.0.1)) y l.2 in
    let cuts = cut_takes 10 bytes l.0 l.1 in
    let name = name_of-is l.0.0 n.0 n.1 in
    subst (λ (w : Name × List ℕ). IsName w.0 × (bytes ≡ encode_lower w.0.bytes ++ 10 ∷ w.1)) (same_Some (n.0, l.0.1) y n.2) (name.0, cuts.parts ∙ ap (λ (t : List ℕ). t ++ 10 ∷ l.0.1) name.1)

named_again : (n : Name) (rest : List ℕ) → IsName n → named_at (encode_lower n.bytes ++ 10 ∷ rest) ≡ Some (n, rest)
unfolding named_at
named_again n rest is = rw (cut_again 10 (encode_lower n.bytes) rest (digits_no_end n.bytes), name_of-encode_lower n is) refl

-- ---- parents

-- no further parent
pub record NoParent (bytes rest : List ℕ) : Type 0 where
  pub same : bytes ≡ rest
  pub other : strip (codes "parent ") bytes ≡ None

line_apart : (word name rest : List ℕ) → ended (word ++ name) ++ rest ≡ word ++ (name ++ 10 ∷ rest)
line_apart word name rest = append_assoc (word ++ name) (10 ∷ []) rest ∙ append_assoc word name (10 ∷ rest)

parent_taken : (o : Option (List ℕ)) (bytes : List ℕ) → strip (codes "parent ") bytes ≡ o → (x : Name) (rest : List ℕ) → parent_after o bytes ≡ Some (Some x, rest) → IsName x × (bytes ≡ parent_line x ++ rest)
parent_taken None bytes at x rest e = (let first = (some_pair_parts None (Some x) bytes rest e).0 in absurd cc)
parent_taken (Some after) bytes at x rest e =
    let n = bind_some (named_at after) (λ n. Some (Some n.0, n.1)) (Some x, rest) e in
    let t = named_takes after n.0 n.1 in
    let front = strip_takes (codes "parent ") bytes after at in
    let same = some_pair_parts (Some n.0.0) (Some x) n.0.1 rest n.2 in
    let same_name : n.0.0 ≡ x = same_Some n.0.0 x same.0 in
    let same_rest : n.0.1 ≡ rest = same.1 in
    let whole : bytes ≡ parent_line n.0.0 ++ n.0.1 = front ∙ ap (λ (r : List ℕ). codes "parent " ++ r) t.1 ∙ sym (line_apart (codes "parent ") (encode_lower n.0.0.bytes) n.0.1) in
    (subst (λ (w : Name). IsName w) same_name t.0, whole ∙ ap (λ (w : Name). parent_line w ++ n.0.1) same_name ∙ ap (λ (r : List ℕ). parent_line x ++ r) same_rest)

parent_ended : (o : Option (List ℕ)) (bytes : List ℕ) → strip (codes "parent ") bytes ≡ o → (rest : List ℕ) → parent_after o bytes ≡ Some (None, rest) → NoParent bytes rest
parent_ended None bytes at rest e = record { same = (some_pair_parts {A = Option Name} None None bytes rest e).1; other = at }
parent_ended (Some after) bytes at rest e = (let n = bind_some (named_at after) (λ n. Some (Some n.0, n.1)) (None, rest) e in let first = (some_pair_parts (Some n.0.0) None n.0.1 rest n.2).0 in absurd cc)

parent_steps : Steps parent_at parent_line IsName NoParent
unfolding parent_at
parent_steps = record {
  item_takes = λ bytes x rest e. parent_taken (strip (codes "parent ") bytes) bytes refl x rest e;
  item_again = λ x rest is. ap (λ (b : List ℕ). parent_after (strip (codes "parent ") b) b) (line_apart (codes "parent ") (encode_lower x.bytes) rest) ∙ rw (named_again x rest is) refl;
  end_takes = λ bytes rest e. parent_ended (strip (codes "parent ") bytes) bytes refl rest e;
  end_again = λ bytes rest ends. (let other = ends.other in rw other (ap (λ (r : List ℕ). Some (None, r)) ends.same));
}

-- a parent's line takes a byte at least
pub parent_takes_some : TakesSome parent_at
parent_takes_some = takes_some parent_at parent_line IsName NoParent parent_steps (λ x. omega (arith, length-append (codes "parent " ++ encode_lower x.bytes) (10 ∷ [])))

-- ---- lines with a word

-- what reads as the line of a tree is that line
pub tree_takes : (bytes : List ℕ) (y : Name × List ℕ) → tree_at bytes ≡ Some y → IsName y.0 × (bytes ≡ ended (codes "tree " ++ encode_lower y.0.bytes) ++ y.1)
unfolding tree_at
tree_takes bytes y e =
    let r = bind_some (strip (codes "tree ") bytes) named_at y e in
    let t = named_takes r.0 y r.2 in
    (t.0, strip_takes (codes "tree ") bytes r.0 r.1 ∙ ap (λ (v : List ℕ). codes "tree " ++ v) t.1 ∙ sym (line_apart (codes "tree ") (encode_lower y.0.bytes) y.1))

tree_again : (n : Name) (rest : List ℕ) → IsName n → tree_at (ended (codes "tree " ++ encode_lower n.bytes) ++ rest) ≡ Some (n, rest)
unfolding tree_at
tree_again n rest is = ap tree_at (line_apart (codes "tree ") (encode_lower n.bytes) rest) ∙ named_again n rest is

choose_none : (b : Bool) (l y : List ℕ × List ℕ) → cond b None (Some l) ≡ Some y → (b ≡ false) × (l ≡ y)
choose_none true l y e = absurd cc
choose_none false l y e = (refl, same_Some l y e)

text_takes : (word bytes : List ℕ) (y : List ℕ × List ℕ) → text_at word bytes ≡ Some y → IsLine y.0 × (bytes ≡ ended (word ++ y.0) ++ y.1)
unfolding text_at
text_takes word bytes y e =
    let r = bind_some (strip word bytes) (λ rest. cut_at 10 rest >>= λ line. cond (eqb (length line.0) 0) None (Some line)) y e in
    let l = bind_some (cut_at 10 r.0) (λ line. cond (eqb (length line.0) 0) None (Some line)) y r.2 in
    let ends = choose_none (eqb (length l.0.0) 0) l.0 y l.2 in
    let cuts = cut_takes 10 r.0 l.0 l.1 in
    let is : IsLine l.0.0 = record { some = nil_length l.0.0 ends.0; no_end = cuts.lacks } in
    let whole : bytes ≡ ended (word ++ l.0.0) ++ l.0.1 = strip_takes word bytes r.0 r.1 ∙ ap (λ (v : List ℕ). word ++ v) cuts.parts ∙ sym (line_apart word l.0.0 l.0.1) in
    subst (λ (w : List ℕ × List ℕ). IsLine w.0 × (bytes ≡ ended (word ++ w.0) ++ w.1)) ends.1 (is, whole)

text_again : (word line rest : List ℕ) → IsLine line → text_at word (ended (word ++ line) ++ rest) ≡ Some (line, rest)
unfolding text_at
text_again word line rest is = ap (text_at word) (line_apart word line rest) ∙ rw (strip_again word (line ++ 10 ∷ rest), cut_again 10 line rest is.no_end, some_length line is.some) refl

-- ---- the whole

regrouped : (a b c d e f : List ℕ) → a ++ b ++ c ++ d ++ e ++ f ≡ a ++ (b ++ (c ++ (d ++ (e ++ f))))
regrouped a b c d e f = simp append_assoc

parent_some : (x : Name) → 0 < length (parent_line x)
parent_some x = omega (arith, length-append (codes "parent " ++ encode_lower x.bytes) (10 ∷ []))

joined : (bytes a b c d e f ra rb rc rd : List ℕ) → bytes ≡ a ++ ra → ra ≡ b ++ rb → rb ≡ c ++ rc → rc ≡ d ++ rd → rd ≡ e ++ f → bytes ≡ a ++ b ++ c ++ d ++ e ++ f
joined bytes a b c d e f ra rb rc rd p q r s t =
    p ∙ ap (λ (v : List ℕ). a ++ v) (q ∙ ap (λ (v : List ℕ). b ++ v) (r ∙ ap (λ (v : List ℕ). c ++ v) (s ∙ ap (λ (v : List ℕ). d ++ v) t))) ∙ sym (regrouped a b c d e f)

abbrev made : Name × List ℕ → List Name × List ℕ → List ℕ × List ℕ → List ℕ × List ℕ → List ℕ × List ℕ → Commit
made tree parents author committer more = record { tree = tree.0; parents = parents.0; author = author.0; committer = committer.0; more = more.0; message = more.1 }

commit_made : (bytes : List ℕ) (t : Name × List ℕ) (p : List Name × List ℕ) (a k m : List ℕ × List ℕ) (c : Commit)
    → IsName t.0 × (bytes ≡ ended (codes "tree " ++ encode_lower t.0.bytes) ++ t.1) → Lists parent_line IsName NoParent t.1 p → IsLine a.0 × (p.1 ≡ ended (codes "author " ++ a.0) ++ a.1)
    → IsLine k.0 × (a.1 ≡ ended (codes "committer " ++ k.0) ++ k.1) → Whole k.1 m → made t p a k m ≡ c → IsCommitText bytes c
commit_made bytes t p a k m c tree parents author committer more is =
    let text : bytes ≡ commit_text (made t p a k m) = joined bytes (ended (codes "tree " ++ encode_lower t.0.bytes)) (flat_map parent_line p.0) (ended (codes "author " ++ a.0)) (ended (codes "committer " ++ k.0)) m.0 (10 ∷ m.1) t.1 p.1 a.1 k.1 tree.1 (parents.whole ∙ ap (λ (v : List ℕ). flat_map parent_line p.0 ++ v) parents.ends.same) author.1 committer.1 more.parts in
    subst (λ (w : Commit). IsCommitText bytes w) is (record { tree = tree.0; parents = parents.each; texts = record { author = author.0; committer = committer.0; more = more.lines }; text = text })

-- what reads as a commit is the text of it
pub commit_takes : (bytes : List ℕ) (c : Commit) → commit_of bytes ≡ Some c → IsCommitText bytes c
unfolding commit_of
commit_takes bytes c e =
    let t = bind_some (tree_at bytes) (λ tree. all_at parent_at tree.1 >>= λ parents. text_at (codes "author ") parents.1 >>= λ author. text_at (codes "committer ") author.1 >>= λ committer. lines_at true committer.1 >>= λ more. Some (made tree parents author committer more)) c e in
    let p = bind_some (all_at parent_at t.0.1) (λ parents. text_at (codes "author ") parents.1 >>= λ author. text_at (codes "committer ") author.1 >>= λ committer. lines_at true committer.1 >>= λ more. Some (made t.0 parents author committer more)) c t.2 in
    let a = bind_some (text_at (codes "author ") p.0.1) (λ author. text_at (codes "committer ") author.1 >>= λ committer. lines_at true committer.1 >>= λ more. Some (made t.0 p.0 author committer more)) c p.2 in
    let k = bind_some (text_at (codes "committer ") a.0.1) (λ committer. lines_at true committer.1 >>= λ more. Some (made t.0 p.0 a.0 committer more)) c a.2 in
    let m = bind_some (lines_at true k.0.1) (λ more. Some (made t.0 p.0 a.0 k.0 more)) c k.2 in
    commit_made bytes t.0 p.0 a.0 k.0 m.0 c (tree_takes bytes t.0 t.1) (many_takes parent_at parent_line IsName NoParent parent_steps (suc (length t.0.1)) t.0.1 p.0 p.1)
    (text_takes (codes "author ") p.0.1 a.0 a.1) (text_takes (codes "committer ") a.0.1 k.0 k.1) (lines_whole k.0.1 m.0 m.1) (same_Some (made t.0 p.0 a.0 k.0 m.0) c m.2)

commit_again : (c : Commit) → IsName c.tree → AllByRecursion IsName c.parents → HasGoodTexts c → commit_of (commit_text c) ≡ Some c
unfolding commit_of
commit_again c tree parents texts =
    let after_committer : List ℕ = c.more ++ 10 ∷ c.message in
    let after_author : List ℕ = ended (codes "committer " ++ c.committer) ++ after_committer in
    let after_parents : List ℕ = ended (codes "author " ++ c.author) ++ after_author in
    let after_tree : List ℕ = flat_map parent_line c.parents ++ after_parents in
    let at_tree = tree_again c.tree after_tree tree in
    let at_parents = all_again parent_at parent_line IsName NoParent parent_steps parent_some c.parents after_parents after_parents parents (record { same = refl; other = refl }) in
    let at_author = text_again (codes "author ") c.author after_author texts.author in
    let at_committer = text_again (codes "committer ") c.committer after_committer texts.committer in
    let at_more = lines_again c.more c.message texts.more in
    ap commit_of (regrouped (ended (codes "tree " ++ encode_lower c.tree.bytes)) (flat_map parent_line c.parents) (ended (codes "author " ++ c.author)) (ended (codes "committer " ++ c.committer)) c.more (10 ∷ c.message))
    ∙ rw (at_tree, at_parents, at_author, at_committer, at_more) refl

-- the text of a commit reads as it alone
pub commit_only : (bytes : List ℕ) (c : Commit) → IsCommitText bytes c → commit_of bytes ≡ Some c
commit_only bytes c is = ap commit_of is.text ∙ commit_again c is.tree is.parents is.texts

-- ---- what is appended

-- seven pieces one behind the other are their text
pub appended : (old t1 t2 t3 t4 t5 t6 t7 a b c d e m : List ℕ) → t1 ≡ old ++ a → t2 ≡ t1 ++ b → t3 ≡ t2 ++ c → t4 ≡ t3 ++ d → t5 ≡ t4 ++ e → t6 ≡ t5 ++ 10 ∷ [] → t7 ≡ t6 ++ m
    → t7 ≡ old ++ (a ++ b ++ c ++ d ++ e ++ 10 ∷ m)
appended old t1 t2 t3 t4 t5 t6 t7 a b c d e m p1 p2 p3 p4 p5 p6 p7 = rw (p7, p6, p5, p4, p3, p2, p1) (simp append_assoc)
