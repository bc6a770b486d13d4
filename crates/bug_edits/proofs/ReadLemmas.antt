-- The names of edits, and what each reads of its arguments.
use Rattle.std.proofs.Common.{◌≡◌, ◌≤◌, ◌∙◌, inl, inr, refl, sym, ap, subst, ℕ, zero, suc, Bool, true, false, List, [], ◌∷◌, length, Contains, IsSome, Option, Some, None, Result, Ok, Err, arith}
use Rattle.std.specs.Prelude.{⊤, ◌&&◌, cond, find, option_and_then, IfSome}
use Rattle.std.specs.List.{list_all}
use Rattle.std.specs.Str.{bytes_eq}
use Rattle.std.proofs.lemmas.Slice.Eq.{bytes_eq-Decides}
use Rattle.bug_ops.specs.declared.op.BugStatus.TheVariants.{Opened, Closed}
use Rattle.bug_edits.specs.EditTable.{edit_by, edit_from, edit_of, form_of, is_read, name_of, name_read, row_of}
use Rattle.bug_edits.specs.EditWords.{IsCountedEdit, IsFirstBad, all_keep, counted_edits, edit_keeps, edit_named, kept_of_bug, label_edits}
use Rattle.bug_edits.specs.Given.{HasTitles, given_by, given_texts}
use Rattle.bug_edits.specs.declared.edit.BugEdit.{BugEdit}
use Rattle.bug_edits.specs.declared.edit.BugEdit.TheVariants as edit
use Rattle.bug_edits.specs.declared.given.Given.{Given}
use Rattle.bug_edits.specs.declared.names.EditName.{EditName}
use Rattle.bug_edits.specs.declared.names.EditName.TheVariants as named
use Rattle.bug_edits.specs.declared.names.TheConstants.{EDITS}
use Rattle.bug_edits.proofs.GivenLemmas.{AllOf, Counts, IfRead, Judges, after_good, all_read, counted_form, first_of_all, form_counts, form_for, form_judged, form_keeps, given_back}

-- ---- the cases of each name

-- it is listed
is_listed : (n : EditName) → Contains EDITS n
is_listed named.Comment = (0, omega arith, refl)
is_listed named.Title = (1, omega arith, refl)
is_listed named.Close = (2, omega arith, refl)
is_listed named.Open = (3, omega arith, refl)
is_listed named.LabelAdd = (4, omega arith, refl)
is_listed named.LabelRm = (5, omega arith, refl)
is_listed named.Meta = (6, omega arith, refl)
is_listed named.Noop = (7, omega arith, refl)

-- its text is read as it
pub name_back : (n : EditName) → name_read (name_of n) ≡ Some n
name_back named.Comment = refl
name_back named.Title = refl
name_back named.Close = refl
name_back named.Open = refl
name_back named.LabelAdd = refl
name_back named.LabelRm = refl
name_back named.Meta = refl
name_back named.Noop = refl

-- arguments of its types make an edit
fits : (n : EditName) → AllOf (form_of n) (λ g. IsSome (edit_of n g))
fits named.Comment = λ message. refl
fits named.Title = λ title. refl
fits named.Close = refl
fits named.Open = refl
fits named.LabelAdd = λ labels. refl
fits named.LabelRm = λ labels. refl
fits named.Meta = λ key value. refl
fits named.Noop = refl

-- its number of arguments is listed, and their rules are those of its types
counted : (n : EditName) (count : ℕ) → Counts (form_of n) count → IsCountedEdit (name_of n) count
counted named.Noop count is = subst (λ c. IsCountedEdit (name_of named.Noop) c) (sym is) (inl (0, omega arith, refl))
counted named.Close count is = subst (λ c. IsCountedEdit (name_of named.Close) c) (sym is) (inl (1, omega arith, refl))
counted named.Open count is = subst (λ c. IsCountedEdit (name_of named.Open) c) (sym is) (inl (2, omega arith, refl))
counted named.Comment count is = subst (λ c. IsCountedEdit (name_of named.Comment) c) (sym is) (inl (3, omega arith, refl))
counted named.Title count is = subst (λ c. IsCountedEdit (name_of named.Title) c) (sym is) (inl (4, omega arith, refl))
counted named.Meta count is = subst (λ c. IsCountedEdit (name_of named.Meta) c) (sym is) (inl (5, omega arith, refl))
counted named.LabelAdd count is = inr (is, (0, omega arith, refl))
counted named.LabelRm count is = inr (is, (1, omega arith, refl))

ruled : (n : EditName) (words : List (List ℕ)) → form_keeps (form_of n) words ≡ edit_keeps (name_of n) words
ruled named.Comment words = refl
ruled named.Title words = refl
ruled named.Close words = refl
ruled named.Open words = refl
ruled named.LabelAdd words = refl
ruled named.LabelRm words = refl
ruled named.Meta words = refl
ruled named.Noop words = refl

-- each edit is of the name and of the arguments of its row
of_row : (e : BugEdit) → (form_for (row_of e).words ≡ form_of (row_of e).name) × (edit_of (row_of e).name (row_of e).words ≡ Some e)
of_row (edit.Comment message) = (refl, refl)
of_row edit.Noop = (refl, refl)
of_row (edit.Title title) = (refl, refl)
of_row (edit.Status Opened) = (refl, refl)
of_row (edit.Status Closed) = (refl, refl)
of_row (edit.AddLabels labels) = (refl, refl)
of_row (edit.RemoveLabels labels) = (refl, refl)
of_row (edit.Metadata key value) = (refl, refl)

-- ---- names

-- what is so of all that are listed is so of each
all_at : {X : Type 0} (test : X → Bool) (xs : List X) (x : X) → list_all test xs ≡ true → Contains xs x → test x ≡ true
all_at test [] x all (k, few, is) = absurd (omega (arith, few))
all_at test (y ∷ ys) x all (zero, few, is) = subst (λ z. test z ≡ true) is (first_of (test y) (list_all test ys) all)
  where
    first_of : (a b : Bool) → (a && b) ≡ true → a ≡ true
    first_of true b both = refl
    first_of false b both = both
all_at test (y ∷ ys) x all (suc k, few, is) = all_at test ys x (later_of (test y) (list_all test ys) all) (k, omega (arith, few), is)
  where
    later_of : (a b : Bool) → (a && b) ≡ true → b ≡ true
    later_of true b both = both
    later_of false b both = absurd (cc both)

pub each_name : (test : EditName → Bool) → list_all test EDITS ≡ true → (n : EditName) → test n ≡ true
each_name test all n = all_at test EDITS n all (is_listed n)

-- what is found passes the test
passed : {X : Type 0} (test : X → Bool) (x y : X) (rest : Option X) (b : Bool) → test y ≡ b → (rest ≡ Some x → test x ≡ true) → cond b (Some y) rest ≡ Some x → test x ≡ true
passed test x y rest true passes later is = let same : y ≡ x = cc is in subst (λ z. test z ≡ true) same passes
passed test x y rest false passes later is = later is

pub found_passes : {X : Type 0} (test : X → Bool) (xs : List X) (x : X) → find test xs ≡ Some x → test x ≡ true
found_passes test [] x is = absurd (cc is)
found_passes test (y ∷ ys) x is = passed test x y (find test ys) (test y) refl (found_passes test ys x) is

-- a text is the name of the edit that it is read as
pub name_is : (text : List ℕ) (n : EditName) → name_read text ≡ Some n → text ≡ name_of n
name_is text n is = sym ((bytes_eq-Decides (name_of n) text).0 (found_passes (λ m. bytes_eq (name_of m) text) EDITS n is))

-- arguments that give an edit are those of a name that is read
pub of_a_name : (text : List ℕ) (words : List (List ℕ)) (read : Result BugEdit ℕ) → edit_named text words ≡ Some read → (n : EditName) × (text ≡ name_of n) × (edit_from n words ≡ Some read)
of_a_name text words read is = by (name_read text) refl is
  where
    by : (o : Option EditName) → name_read text ≡ o → option_and_then (λ n. edit_from n words) o ≡ Some read → (n : EditName) × (text ≡ name_of n) × (edit_from n words ≡ Some read)
    by None found is = absurd (cc is)
    by (Some n) found is = (n, name_is text n found, is)

pub some_is : {A : Type 0} (o : Option A) → IsSome o → (a : A) × (o ≡ Some a)
some_is None some = absurd (cc some)
some_is (Some a) some = (a, refl)

-- ---- numbers of arguments

-- arguments of its types give an edit
pub some_if : (n : EditName) (words : List (List ℕ)) → IsSome (given_by (form_of n) words) → IsSome (edit_from n words)
some_if n words some = by (given_by (form_of n) words) some (all_read (form_of n) words (λ g. IsSome (edit_of n g)) (fits n))
  where
    read_is : (o : Option BugEdit) → IsSome o → IsSome (is_read o)
    read_is None some = some
    read_is (Some e) some = refl

    by : (o : Option (Result Given ℕ)) → IsSome o → IfRead (λ g. IsSome (edit_of n g)) o → IsSome (edit_by n o)
    by None some all = some
    by (Some (Err place)) some all = refl
    by (Some (Ok g)) some all = read_is (edit_of n g) all

-- and no others do
pub counted_of : (n : EditName) (words : List (List ℕ)) → IfSome (edit_from n words) (λ read. IsCountedEdit (name_of n) (length words))
counted_of n words = by (given_by (form_of n) words) (form_counts (form_of n) words)
  where
    read_is : (o : Option BugEdit) → IsCountedEdit (name_of n) (length words) → IfSome (is_read o) (λ read. IsCountedEdit (name_of n) (length words))
    read_is None is = tt
    read_is (Some e) is = is

    by : (o : Option (Result Given ℕ)) → IfSome o (λ read. Counts (form_of n) (length words)) → IfSome (edit_by n o) (λ read. IsCountedEdit (name_of n) (length words))
    by None is = tt
    by (Some (Err place)) is = counted n (length words) is
    by (Some (Ok g)) is = read_is (edit_of n g) (counted n (length words) is)

pub only_counted_edits : (text : List ℕ) (words : List (List ℕ)) → IsSome (edit_named text words) → IsCountedEdit text (length words)
only_counted_edits text words some =
    let read = some_is (edit_named text words) some in
    let by = of_a_name text words read.0 read.1 in
    subst (λ t. IsCountedEdit t (length words)) (sym by.1) (subst (λ o. IfSome o (λ r. IsCountedEdit (name_of by.0) (length words))) by.2 (counted_of by.0 words))

gives : (n : EditName) (words : List (List ℕ)) → Counts (form_of n) (length words) → IsSome (edit_named (name_of n) words)
gives n words count = subst (λ o. IsSome (option_and_then (λ m. edit_from m words) o)) (sym (name_back n)) (some_if n words (counted_form (form_of n) words count))

-- each of these names gives an edit with so many arguments
abbrev EachGives : List (List ℕ × ℕ) → Type 0
EachGives [] = ⊤
EachGives (p ∷ rest) = ((words : List (List ℕ)) → length words ≡ p.1 → IsSome (edit_named p.0 words)) × EachGives rest

each_gives : EachGives counted_edits
each_gives = (gives named.Noop, (gives named.Close, (gives named.Open, (gives named.Comment, (gives named.Title, (gives named.Meta, tt))))))

gives_by : (listed : List (List ℕ × ℕ)) → EachGives listed → (text : List ℕ) (words : List (List ℕ)) → Contains listed (text, length words) → IsSome (edit_named text words)
gives_by [] each text words (k, few, is) = absurd (omega (arith, few))
gives_by (p ∷ rest) each text words (zero, few, is) =
    subst (λ t. IsSome (edit_named t words)) (ap (λ (q : List ℕ × ℕ). q.0) is) (each.0 words (sym (ap (λ (q : List ℕ × ℕ). q.1) is)))
gives_by (p ∷ rest) each text words (suc k, few, is) = gives_by rest each.1 text words (k, omega (arith, few), is)

labels_give : (text : List ℕ) (words : List (List ℕ)) → 1 ≤ length words → Contains label_edits text → IsSome (edit_named text words)
labels_give text words many (zero, few, is) = subst (λ t. IsSome (edit_named t words)) is (gives named.LabelAdd words many)
labels_give text words many (suc zero, few, is) = subst (λ t. IsSome (edit_named t words)) is (gives named.LabelRm words many)
labels_give text words many (suc (suc k), few, is) = absurd (omega (arith, few))

pub counted_edits_give : (text : List ℕ) (words : List (List ℕ)) → IsCountedEdit text (length words) → IsSome (edit_named text words)
counted_edits_give text words (inl has) = gives_by counted_edits each_gives text words has
counted_edits_give text words (inr (many, has)) = labels_give text words many has

-- ---- what is read

-- each edit is read of the name and the arguments of its row
pub row_back : (e : BugEdit) → HasTitles (row_of e).words → edit_from (row_of e).name (given_texts (row_of e).words) ≡ Some (Ok e)
row_back e some =
    let row = row_of e in
    let so = of_row e in
    ap (edit_by row.name) (ap (λ f. given_by f (given_texts row.words)) (sym so.0) ∙ given_back row.words some) ∙ ap is_read so.1

pub row_named : (e : BugEdit) → HasTitles (row_of e).words → edit_named (name_of (row_of e).name) (given_texts (row_of e).words) ≡ Some (Ok e)
row_named e some = ap (option_and_then (λ n. edit_from n (given_texts (row_of e).words))) (name_back (row_of e).name) ∙ row_back e some

-- what is read agrees with the rules of the arguments
pub edit_judged : (n : EditName) (words : List (List ℕ)) → IfSome (edit_from n words) (Judges 2 (edit_keeps (name_of n) words))
edit_judged n words = by (given_by (form_of n) words) (subst (λ kept. IfSome (given_by (form_of n) words) (Judges 2 kept)) (ruled n words) (form_judged (form_of n) words))
  where
    read_so : (o : Option BugEdit) → all_keep (edit_keeps (name_of n) words) ≡ true → IfSome (is_read o) (Judges 2 (edit_keeps (name_of n) words))
    read_so None all = tt
    read_so (Some e) all = all

    by : (o : Option (Result Given ℕ)) → IfSome o (Judges 2 (edit_keeps (name_of n) words)) → IfSome (edit_by n o) (Judges 2 (edit_keeps (name_of n) words))
    by None so = tt
    by (Some (Err place)) so = so
    by (Some (Ok g)) so = read_so (edit_of n g) so

-- with the argument of the bug before them
pub bug_judged : (text bug : List ℕ) (words : List (List ℕ)) (read : Result BugEdit ℕ) → edit_named text words ≡ Some read → Judges 1 (kept_of_bug text (bug ∷ words)) read
bug_judged text bug words read is =
    let by = of_a_name text words read is in
    subst (λ t. Judges 1 (kept_of_bug t (bug ∷ words)) read) (sym by.1)
    (after_good 1 (edit_keeps (name_of by.0) words) read (subst (λ o. IfSome o (Judges 2 (edit_keeps (name_of by.0) words))) by.2 (edit_judged by.0 words)))

pub first_bad_edit : (text bug : List ℕ) (words : List (List ℕ)) (place : ℕ) → edit_named text words ≡ Some (Err place) → IsFirstBad (kept_of_bug text (bug ∷ words)) place
first_bad_edit text bug words place is = first_of_all (kept_of_bug text (bug ∷ words)) place (bug_judged text bug words (Err place) is)

pub none_bad_edit : (text bug : List ℕ) (words : List (List ℕ)) (e : BugEdit) → edit_named text words ≡ Some (Ok e) → all_keep (kept_of_bug text (bug ∷ words)) ≡ true
none_bad_edit text bug words e is = bug_judged text bug words (Ok e) is
