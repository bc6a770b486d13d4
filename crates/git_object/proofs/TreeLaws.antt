-- A tree that is read has this text, and the text of a tree is read.
use Rattle.std.proofs.lemmas.Bool.{and_parts}
use Rattle.std.proofs.lemmas.Option.{same_Some}
use Rattle.std.proofs.Common.{◌≡◌, ℕ, suc, ◌<◌, Bool, true, false, cond, eqb, List, [], ◌∷◌, ◌++◌, length, Option, Some, None, refl, sym, ap, subst, ◌∙◌, arith, length-append}
use Rattle.std.specs.Prelude.{IsTrue, ◌↔◌}
use Rattle.std.specs.List.{list_all, flat_map, AllByRecursion}
use Rattle.std.proofs.lemmas.Bool.{eqb-true, ne_eqb}
use Rattle.std.proofs.lemmas.List.{append-nil, nil_from_length}
use Rattle.std.proofs.lemmas.Option.{some_pair_parts}
use Rattle.git_object.specs.declared.entry.Entry.{Entry}
use Rattle.git_object.specs.declared.tree.Tree.{Tree}
use Rattle.git_object.specs.Grammar.{mode_text, entry_text, IsEntry, IsTreeText, HasGoodNames, IsEntryName}
use Rattle.git_object.specs.Reading.{has_entry_name, ◌>>=◌, entry_at, entry_step, entries_at, all_at, are_distinct, tree_of}
use Rattle.git_object.proofs.CutLaws.{bind_some, if_some}
use Rattle.git_object.proofs.RepeatLaws.{Steps, TakesSome, takes_some, many_takes, all_again}
use Rattle.git_object.proofs.EntryLaws.{has_entry_name_is, has_entry_name_again, entry_takes, entry_again}
use Rattle.git_object.proofs.DistinctLaws.{distinct_are, are_distinct_again}

-- ---- the list

pub record AtEnd (bytes rest : List ℕ) : Type 0 where
  pub none : bytes ≡ []
  pub left : rest ≡ []

abbrev stepping : Bool → List ℕ → Option (Entry × List ℕ) → Option (Option Entry × List ℕ)
stepping b bytes o = cond b (Some (None, bytes)) (o >>= λ e. Some (Some e.0, e.1))

stepped : (b : Bool) (bytes : List ℕ) (x : Entry) (rest : List ℕ) → stepping b bytes (entry_at bytes) ≡ Some (Some x, rest) → entry_at bytes ≡ Some (x, rest)
stepped true bytes x rest e = (let first = (some_pair_parts None (Some x) bytes rest e).0 in absurd cc)
stepped false bytes x rest e =
    let b = bind_some (entry_at bytes) (λ e. Some (Some e.0, e.1)) (Some x, rest) e in
    let same = some_pair_parts (Some b.0.0) (Some x) b.0.1 rest b.2 in
    b.1 ∙ ap (λ (v : Entry). Some (v, b.0.1)) (same_Some b.0.0 x same.0) ∙ ap (λ (r : List ℕ). Some (x, r)) same.1

stopped : (b : Bool) (bytes rest : List ℕ) → eqb (length bytes) 0 ≡ b → stepping b bytes (entry_at bytes) ≡ Some (None, rest) → AtEnd bytes rest
stopped true bytes rest t e =
    let empty : bytes ≡ [] = nil_from_length bytes (eqb-true (length bytes) 0 t) in
    record { none = empty; left = sym (some_pair_parts {A = Option Entry} None None bytes rest e).1 ∙ empty }
stopped false bytes rest t e =
    let b = bind_some (entry_at bytes) (λ e. Some (Some e.0, e.1)) (None, rest) e in
    let first = (some_pair_parts (Some b.0.0) None b.0.1 rest b.2).0 in
    absurd cc

text_some : (e : Entry) (rest : List ℕ) → 0 < length (entry_text e ++ rest)
text_some e rest = omega (arith, length-append (entry_text e) rest, length-append (mode_text e.mode ++ 32 ∷ e.name) (0 ∷ e.object.bytes))

entry_steps : Steps entry_step entry_text IsEntry AtEnd
unfolding entry_step
entry_steps = record {
  item_takes = λ bytes x rest e. entry_takes bytes (x, rest) (stepped (eqb (length bytes) 0) bytes x rest e);
  item_again = λ x rest is. (let some = text_some x rest in rw (ne_eqb (length (entry_text x ++ rest)) 0 (omega arith), entry_again x rest is) refl);
  end_takes = λ bytes rest e. stopped (eqb (length bytes) 0) bytes rest refl e;
  end_again = λ bytes rest ends. (let none = ends.none in let left = ends.left in rw (none, left) refl);
}

entry_some : (e : Entry) → 0 < length (entry_text e)
entry_some e = omega (arith, length-append (mode_text e.mode ++ 32 ∷ e.name) (0 ∷ e.object.bytes))

-- an entry takes a byte at least
pub entry_takes_some : TakesSome entry_step
entry_takes_some = takes_some entry_step entry_text IsEntry AtEnd entry_steps entry_some

pub record AreEntries (bytes : List ℕ) (es : List Entry) : Type 0 where
  pub each : AllByRecursion IsEntry es
  pub whole : bytes ≡ flat_map entry_text es

entries_take : (bytes : List ℕ) (es : List Entry) → entries_at bytes ≡ Some es → AreEntries bytes es
unfolding entries_at
entries_take bytes es e =
    let a = bind_some (all_at entry_step bytes) (λ all. Some all.0) es e in
    let l = many_takes entry_step entry_text IsEntry AtEnd entry_steps (suc (length bytes)) bytes a.0 a.1 in
    subst (λ (w : List Entry). AreEntries bytes w) (same_Some a.0.0 es a.2)
    (record { each = l.each; whole = l.whole ∙ ap (λ (v : List ℕ). flat_map entry_text a.0.0 ++ v) l.ends.none ∙ append-nil (flat_map entry_text a.0.0) })

entries_again : (es : List Entry) → AllByRecursion IsEntry es → entries_at (flat_map entry_text es) ≡ Some es
unfolding entries_at
entries_again es each =
    let all = all_again entry_step entry_text IsEntry AtEnd entry_steps entry_some es [] [] each (record { none = refl; left = refl }) in
    ap entries_at (sym (append-nil (flat_map entry_text es))) ∙ rw all refl

-- ---- the loop's steps

-- where the bytes end, the entries so far are all
pub ends_at : (bytes : List ℕ) (all : Option (List Entry × List ℕ)) (es : List Entry) (rest : List ℕ) → all ≡ all_at entry_step bytes → Some (es, rest) ≡ all → Some es ≡ entries_at bytes
unfolding entries_at
ends_at bytes all es rest is e = ap (λ (o : Option (List Entry × List ℕ)). o >>= λ all. Some all.0) (e ∙ is)

-- where an entry fails, no entries read
pub fails_at : (bytes : List ℕ) → None ≡ all_at entry_step bytes → None ≡ entries_at bytes
unfolding entries_at
fails_at bytes e = ap (λ (o : Option (List Entry × List ℕ)). o >>= λ all. Some all.0) e

-- ---- the whole

-- what reads as a tree is the text of it
pub tree_takes : (content : List ℕ) (t : Tree) → tree_of content ≡ Some t → IsTreeText content t
unfolding tree_of
tree_takes content t e =
    let a = bind_some (entries_at content) (λ entries. cond (are_distinct entries) (Some (record { entries = entries })) None) t e in
    let picked = if_some (are_distinct a.0) (record { entries = a.0 }) t a.2 in
    let are = entries_take content a.0 a.1 in
    subst (λ (u : Tree). IsTreeText content u) picked.1 (record { each = are.each; distinct = distinct_are a.0 picked.0; text = are.whole })

-- the text of a tree reads as it alone
pub tree_only : (content : List ℕ) (t : Tree) → IsTreeText content t → tree_of content ≡ Some t
unfolding tree_of
tree_only content t is = ap tree_of is.text ∙ rw (entries_again t.entries is.each, are_distinct_again t.entries is.distinct) refl

good_each : (es : List Entry) → AllByRecursion IsEntry es → AllByRecursion (λ e. IsEntryName e.name) es
good_each [] each = tt
good_each (e ∷ es) each = (each.0.name, good_each es each.1)

-- a tree that was read has good names
pub tree_good : (content : List ℕ) (t : Tree) → IsTreeText content t → HasGoodNames t
tree_good content t is = record { each = good_each t.entries is.each; distinct = is.distinct }

-- ---- the test of names

each_named : (es : List Entry) → list_all has_entry_name es ≡ true → AllByRecursion (λ e. IsEntryName e.name) es
each_named [] t = tt
each_named (e ∷ es) t =
    let p = and_parts (has_entry_name e) (list_all has_entry_name es) t in
    (has_entry_name_is e p.0, each_named es p.1)

each_named_again : (es : List Entry) → AllByRecursion (λ e. IsEntryName e.name) es → list_all has_entry_name es ≡ true
each_named_again [] each = refl
each_named_again (e ∷ es) each = rw (has_entry_name_again e each.0) (each_named_again es each.1)

-- a name that is none is told
pub bad_names : (t : Tree) → list_all has_entry_name t.entries ≡ false → IsTrue false ↔ HasGoodNames t
bad_names t e = (λ f. absurd cc, λ good. (let all = each_named_again t.entries good.each in absurd cc))

-- names that are such are good where they are distinct
pub good_names : (t : Tree) (b : Bool) → list_all has_entry_name t.entries ≡ true → b ≡ are_distinct t.entries → IsTrue b ↔ HasGoodNames t
good_names t b all e = (
  λ yes. record { each = each_named t.entries all; distinct = distinct_are t.entries (sym e ∙ yes) },
  λ good. e ∙ are_distinct_again t.entries good.distinct,
)
