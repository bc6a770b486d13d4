-- Labels that are named, gone over one after the other, and which of them change.
use mathlib.Core.Bool.{beq}
use Rattle.std.proofs.Common.{◌≡◌, ◌+◌, ◌<◌, ◌≤◌, ◌&&◌, ℕ, suc, Bool, true, false, cond, List, [], ◌∷◌, drop, length, refl, sym, ◌∙◌, ap, arith}
use Rattle.std.specs.Prelude.{filter, slice_index_or}
use Rattle.std.specs.BTreeMap.{insert_entry}
use Rattle.std.specs.BTreeSet.{insert_key}
use Rattle.std.specs.List.{AllByRecursion, list_all}
use Rattle.std.specs.Ordering.{match_ordering}
use Rattle.std.specs.Str.{bytes_eq}
use Rattle.std.specs.declared.cmp.Ordering.{Ordering}
use Rattle.std.specs.declared.cmp.Ordering.TheVariants.{Less, Equal, Greater}
use Rattle.std.proofs.Math.Seq.{drop-cons}
use Rattle.std.proofs.lemmas.List.{drop_all}
use Rattle.std.proofs.lemmas.Map.Views.{any-filter_same}
use Rattle.std.proofs.lemmas.Str.{IsUtf8-from_is_utf8}
use Rattle.gb_text.specs.Rules.{is_title_text}
use Rattle.gb_text.specs.declared.ruled.Title.{Title}
use Rattle.bug_ops.specs.BugForms.{AreLabels, IsTitle}
use Rattle.bug_ops.specs.Folds.{marks_of}
use Rattle.bug_ops.specs.Mentions.{is_among}
use Rattle.bug_ops.specs.Snapshots.{Marks, by_bytes, texts_of as marked, with_texts}
use Rattle.bug_ops.proofs.LabelSets.{one_more_on}
use Rattle.snapshot.proofs.FoundLemmas.{same_text}
use Rattle.snapshot.proofs.LabelLemmas.{order_has}
use Rattle.bug_edits.specs.EditTable.{is_so, named_where}
use Rattle.bug_edits.specs.NewOps.{texts_of}

-- ---- labels one after the other

-- those that are left, from a place on
abbrev pub left : Bool → List (List ℕ) → List Title → ℕ → List (List ℕ)
left sought on named i = filter (λ label. is_so sought (is_among on label)) (texts_of (drop i named))

abbrev by_test : List ℕ → List (List ℕ) → Bool → List (List ℕ)
by_test text rest test = cond test (text ∷ rest) rest

module _ (sought : Bool) (on : List (List ℕ)) (named : List Title) (i : ℕ) (label : Title) (low : i < length named) (is : label ≡ slice_index_or named i label) where
  here : (test : Bool) → is_so sought (is_among on label.text) ≡ test → left sought on named i ≡ by_test label.text (left sought on named (i + 1)) test
  here test so =
      let next : suc i ≡ i + 1 = omega arith in
      ap (λ (labels : List Title). filter (λ label. is_so sought (is_among on label)) (texts_of labels))
      (drop-cons named i label low ∙ ap (λ (l : Title). l ∷ drop (suc i) named) (sym is) ∙ ap (λ (n : ℕ). label ∷ drop n named) next)
      ∙ ap (by_test label.text (left sought on named (i + 1))) so

  -- the label here is left out
  pub left_here : is_so sought (is_among on label.text) ≡ false → left sought on named i ≡ left sought on named (i + 1)
  left_here off = here false off

  -- it is put among those before it
  pub put_here : (before after : List (List ℕ)) (copy : List ℕ) → is_so sought (is_among on label.text) ≡ true → copy ≡ label.text → after ≡ insert_key by_bytes before copy
      → with_texts (marks_of before) (left sought on named i) ≡ with_texts (marks_of after) (left sought on named (i + 1))
  put_here before after copy found same put =
      ap (with_texts (marks_of before)) (here true found)
      ∙ one_more_on before after (label.text ∷ left sought on named (i + 1)) 0 label.text copy (omega arith) refl same put

texts_back : (texts : List (List ℕ)) → marked (marks_of texts) ≡ texts
texts_back [] = refl
texts_back (text ∷ texts) = ap (λ ts. text ∷ ts) (texts_back texts)

-- labels that were put among none are the named ones in order
pub put_in_order : (sought : Bool) (on : List (List ℕ)) (named : List Title) (keys : List (List ℕ)) (i : ℕ) → length named ≤ i
    → with_texts [] (left sought on named 0) ≡ with_texts (marks_of keys) (left sought on named i) → keys ≡ named_where sought on (texts_of named)
put_in_order sought on named keys i past is =
    sym (texts_back keys) ∙ ap marked (sym (is ∙ ap (λ (labels : List Title). with_texts (marks_of keys) (filter (λ label. is_so sought (is_among on label)) (texts_of labels))) (drop_all i named past)))

-- whether a label is as it is sought
pub is_sought : (sought on : Bool) → is_so sought on ≡ beq on sought
is_sought true true = refl
is_sought true false = refl
is_sought false true = refl
is_sought false false = refl

-- ---- which labels they are

-- those of the named that are as is sought
pub where_has : (sought : Bool) (on named : List (List ℕ)) (text : List ℕ) → is_among (named_where sought on named) text ≡ (is_so sought (is_among on text) && is_among named text)
where_has sought on named text =
    order_has (filter (λ label. is_so sought (is_among on label)) named) text
    ∙ any-filter_same (λ u. bytes_eq u text) (λ label. is_so sought (is_among on label)) (is_so sought (is_among on text)) (λ k same. ap (λ (t : List ℕ). is_so sought (is_among on t)) (same_text k text same)) named

-- ---- they are titles

abbrev AreTitles : List (List ℕ) → Type 0
AreTitles = AllByRecursion IsTitle

titles_are : (labels : List Title) → AreTitles (texts_of labels)
titles_are [] = tt
titles_are (label ∷ labels) = (record { utf8 = IsUtf8-from_is_utf8 label.text label.utf8; title = label.is_title }, titles_are labels)

filter_titles : (test : List ℕ → Bool) (texts : List (List ℕ)) → AreTitles texts → AreTitles (filter test texts)
filter_titles test [] all = tt
filter_titles test (text ∷ texts) all = by (test text) (filter_titles test texts all.1)
  where
    by : (b : Bool) → AreTitles (filter test texts) → AreTitles (cond b (text ∷ filter test texts) (filter test texts))
    by true rest = (all.0, rest)
    by false rest = rest

insert_titles : (marks : Marks) (text : List ℕ) → AreTitles (marked marks) → IsTitle text → AreTitles (marked (insert_entry by_bytes marks text tt))
insert_titles [] text all is = (is, tt)
insert_titles (e ∷ es) text all is = by (by_bytes text e.0) (insert_titles es text all.1 is)
  where
    by : (r : Ordering) → AreTitles (marked (insert_entry by_bytes es text tt)) → AreTitles (marked (match_ordering r ((text, tt) ∷ e ∷ es) ((e.0, tt) ∷ es) (e ∷ insert_entry by_bytes es text tt)))
    by Less rest = (is, all)
    by Equal rest = all
    by Greater rest = (all.0, rest)

put_titles : (marks : Marks) (texts : List (List ℕ)) → AreTitles (marked marks) → AreTitles texts → AreTitles (marked (with_texts marks texts))
put_titles marks [] all texts_are = all
put_titles marks (text ∷ texts) all texts_are = put_titles (insert_entry by_bytes marks text tt) texts (insert_titles marks text all texts_are.0) texts_are.1

both_true : (a b : Bool) → a ≡ true → b ≡ true → (a && b) ≡ true
both_true a b one two = ap (λ (c : Bool). c && b) one ∙ two

as_labels : (texts : List (List ℕ)) → AreTitles texts → AreLabels texts
as_labels [] all = record { utf8 = tt; labels = refl }
as_labels (text ∷ texts) all =
    let rest = as_labels texts all.1 in
    record { utf8 = (all.0.utf8, rest.utf8); labels = both_true (is_title_text text) (list_all is_title_text texts) all.0.title rest.labels }

-- labels of the named are labels
pub where_are_labels : (sought : Bool) (on : List (List ℕ)) (named : List Title) → AreLabels (named_where sought on (texts_of named))
where_are_labels sought on named =
    let test : List ℕ → Bool = λ label. is_so sought (is_among on label) in
    as_labels (named_where sought on (texts_of named)) (put_titles [] (filter test (texts_of named)) tt (filter_titles test (texts_of named) (titles_are named)))
