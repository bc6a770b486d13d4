-- What stands while texts are put.
use Rattle.std.proofs.Common.{◌≡◌, ◌≢◌, ℕ, zero, suc, ◌<◌, ◌+◌, Bool, true, false, List, [], ◌∷◌, ◌++◌, length, take, slice_index_or, All, Contains, Option, Some, None, option_and_then, ◌⊎◌, inl, inr, refl, sym, ◌∙◌, ap, subst, arith}
use Rattle.std.proofs.Math.Seq.{take-suc}
use Rattle.std.specs.Str.{bytes_eq}
use Rattle.std.proofs.lemmas.List.Elements.{All-contains_itself}
use Rattle.std.proofs.lemmas.Slice.Eq.{bytes_eq-Decides}
use Rattle.gb_text.specs.declared.id.Name.{Name}
use Rattle.gb_text.specs.Folder.{joined}
use Rattle.gb_store.specs.Files.{History, file_at, files_of}
use Rattle.gb_store.specs.ObjectPath.{object_place}
use Rattle.gb_store.proofs.FileLemmas.{file_at-other}
use Rattle.git_object.specs.Grammar.{object_name}
use Rattle.object_store.specs.Held.{named, objects_in, text_at}
use Rattle.object_store.specs.Texts.{IsShort}
use Rattle.object_store.specs.Puts.{IsPut, IsTaken, object_write}
use Rattle.object_store.proofs.PutLemmas.{objects_in-written}
use Rattle.object_batch.specs.Batches.{ArePut, CannotHave, IsFree, MayBePut}
use Rattle.object_batch.proofs.ClashLemmas.{Contains-cons_cases, Contains-first, Contains-later}
use Rattle.git_object.proofs.NameLaws.{IsName-object_name}
use Rattle.object_store.proofs.HeldLemmas.{named-own}
use Rattle.object_store.proofs.PathLemmas.{path_name}

-- one text more
ArePut-push : (folder : List ℕ) (texts : List (List ℕ)) (text : List ℕ) (old mid new : History) → ArePut folder texts old mid → IsPut folder text mid new → ArePut folder (texts ++ text ∷ []) old new
ArePut-push folder [] text old mid new put last = (new, subst (λ (h : History). IsPut folder text h new) put last, refl)
ArePut-push folder (t ∷ ts) text old mid new put last = (put.0, put.1, ArePut-push folder ts text put.0 mid new put.2 last)

-- ---- what stands stays

-- a file that stood stays through one put
pub stays_one : (folder text : List ℕ) (old new : History) (path found : List ℕ) → IsPut folder text old new → file_at old path ≡ Some found → file_at new path ≡ Some found
stays_one folder text old new path found (inl same) stands = ap (λ (h : History). file_at h path) same.1 ∙ stands
stays_one folder text old new path found (inr wrote) stands =
    ap (λ (h : History). file_at h path) wrote.1 ∙ file_at-other (object_write folder text) old path differs ∙ stands
  where
    differs : joined folder (object_place (object_name text)) ≢ path
    differs e = cc (sym wrote.0 ∙ ap (file_at old) e ∙ stands)

-- and through a batch
pub stays : (folder : List ℕ) (texts : List (List ℕ)) (old new : History) (path found : List ℕ) → ArePut folder texts old new → file_at old path ≡ Some found → file_at new path ≡ Some found
stays folder [] old new path found put stands = ap (λ (h : History). file_at h path) put ∙ stands
stays folder (text ∷ texts) old new path found put stands =
    stays folder texts put.0 new path found put.2 (stays_one folder text old put.0 path found put.1 stands)

-- an object that was put stands
pub put_stands : (folder text : List ℕ) (old new : History) → IsPut folder text old new → objects_in (files_of new) folder (object_name text) ≡ Some text
put_stands folder text old new (inl same) = ap (λ (h : History). objects_in (files_of h) folder (object_name text)) same.1 ∙ same.0
put_stands folder text old new (inr wrote) = ap (λ (h : History). objects_in (files_of h) folder (object_name text)) wrote.1 ∙ objects_in-written folder text old

-- each text that was put stands
pub all_stand : (folder : List ℕ) (texts : List (List ℕ)) (old new : History) → ArePut folder texts old new → (text : List ℕ) → Contains texts text
    → objects_in (files_of new) folder (object_name text) ≡ Some text
all_stand folder [] old new put text member = absurd (omega (arith, member.1))
all_stand folder (t ∷ ts) old new put text member = at (all_stand folder ts put.0 new put.2 text) (Contains-cons_cases t ts text member)
  where
    at : (Contains ts text → objects_in (files_of new) folder (object_name text) ≡ Some text) → (t ≡ text) ⊎ Contains ts text
        → objects_in (files_of new) folder (object_name text) ≡ Some text
    at rest (inl is) = subst (λ (x : List ℕ). objects_in (files_of new) folder (object_name x) ≡ Some x) is
        (stays folder ts put.0 new (joined folder (object_place (object_name t))) t put.2 (put_stands folder t old put.0 put.1))
    at rest (inr later) = rest later

-- and is held
pub all_held : (folder : List ℕ) (texts : List (List ℕ)) (old new : History) → All IsShort texts → ArePut folder texts old new
    → All (λ text. text_at (objects_in (files_of new) folder) (object_name text) ≡ Some text) texts
all_held folder texts old new short put k d below =
    let text = slice_index_or texts k d in
    ap (option_and_then (named (object_name text))) (all_stand folder texts old new put text (All-contains_itself texts k d below)) ∙ named-own (object_name text) text (short k d below) refl

-- ---- what is free stays free for the text

-- a path that was free of another text stays so through one put
pub free_one : (folder other : List ℕ) (old new : History) (text : List ℕ) → IsPut folder other old new → (object_name other ≡ object_name text → other ≡ text)
    → IsFree folder old text → IsFree folder new text
free_one folder other old new text (inl same) apart free = subst (λ (h : History). IsFree folder h text) (sym same.1) free
free_one folder other old new text (inr wrote) apart free = at (bytes_eq one two) refl
  where
    one : List ℕ
    one = joined folder (object_place (object_name other))

    two : List ℕ
    two = joined folder (object_place (object_name text))

    was : file_at new two ≡ file_at old two → IsFree folder old text → IsFree folder new text
    was same (inl none) = inl (same ∙ none)
    was same (inr stands) = inr (same ∙ stands)

    at : (b : Bool) → bytes_eq one two ≡ b → IsFree folder new text
    at true h =
        let paths : one ≡ two = (bytes_eq-Decides one two).0 h in
        let is = apart (path_name folder (object_name other) (object_name text) (IsName-object_name other) (IsName-object_name text) paths) in
        inr (subst (λ (x : List ℕ). objects_in (files_of new) folder (object_name x) ≡ Some x) is (put_stands folder other old new (inr wrote)))
    at false h =
        let differ : one ≢ two = λ e. cc (sym h ∙ (bytes_eq-Decides one two).1 e) in
        let same : file_at new two ≡ file_at old two = ap (λ (n : History). file_at n two) wrote.1 ∙ file_at-other (object_write folder other) old two differ in
        was same free

-- a text that may stand under its name may still, after others that are apart from it
free_kept : (folder : List ℕ) (texts : List (List ℕ)) (old new : History) (text : List ℕ) → ArePut folder texts old new
    → ((other : List ℕ) → Contains texts other → object_name other ≡ object_name text → other ≡ text) → IsFree folder old text → IsFree folder new text
free_kept folder [] old new text put apart free = subst (λ (h : History). IsFree folder h text) (sym put) free
free_kept folder (t ∷ ts) old new text put apart free =
    free_kept folder ts put.0 new text put.2 (λ other member. apart other (Contains-later t ts other member))
    (free_one folder t old put.0 text put.1 (apart t (Contains-first t ts)) free)

-- ---- what may be put

-- a text that may stand is not taken
free_not_taken : (folder text : List ℕ) (old : History) → IsFree folder old text → IsTaken folder text old → ⊥
free_not_taken folder text old (inl none) taken = cc (sym none ∙ taken.stands)
free_not_taken folder text old (inr stands) taken =
    let same : Some text ≡ Some taken.other = sym stands ∙ taken.stands in
    taken.differs (cc)

-- texts that are short, may stand and are apart may be put
pub may_be_put : (folder : List ℕ) (texts : List (List ℕ)) (old : History) → All IsShort texts → All (IsFree folder old) texts
    → ((one two : List ℕ) → Contains texts one → Contains texts two → object_name one ≡ object_name two → one ≡ two) → MayBePut folder texts old
may_be_put folder texts old short free apart = record { short = short; free = at }
  where
    at : (name : Name) → CannotHave folder texts old name → ⊥
    at name (inl h) =
        free_not_taken folder h.text old (subst (IsFree folder old) h.member.2 (free h.member.0 h.text h.member.1)) h.taken
    at name (inr h) = h.differ (apart h.one h.two h.member_one h.member_two (h.named_one ∙ sym h.named_two))

-- texts that may be put may stand
pub put_free : (folder : List ℕ) (texts : List (List ℕ)) (old : History) → MayBePut folder texts old → (text : List ℕ) → Contains texts text → IsFree folder old text
put_free folder texts old may text member = at (objects_in (files_of old) folder (object_name text)) refl
  where
    at : (o : Option (List ℕ)) → objects_in (files_of old) folder (object_name text) ≡ o → IsFree folder old text
    at None h = inl h
    at (Some other) h = decide (bytes_eq other text) refl
      where
        decide : (b : Bool) → bytes_eq other text ≡ b → IsFree folder old text
        decide true same = inr (h ∙ ap Some ((bytes_eq-Decides other text).0 same))
        decide false not_same = absurd (may.free (object_name text) (inl (record {
          text = text;
          member = member;
          is_named = refl;
          taken = record { other = other; stands = h; differs = λ e. cc (sym not_same ∙ (bytes_eq-Decides other text).1 e) };
        })))

-- and are apart
pub put_apart : (folder : List ℕ) (texts : List (List ℕ)) (old : History) → MayBePut folder texts old → (one two : List ℕ) → Contains texts one → Contains texts two
    → object_name one ≡ object_name two → one ≡ two
put_apart folder texts old may one two first second same = decide (bytes_eq one two) refl
  where
    decide : (b : Bool) → bytes_eq one two ≡ b → one ≡ two
    decide true is = (bytes_eq-Decides one two).0 is
    decide false not_same = absurd (may.free (object_name one) (inr (record {
      one = one;
      two = two;
      member_one = first;
      member_two = second;
      differ = λ e. cc (sym not_same ∙ (bytes_eq-Decides one two).1 e);
      named_one = refl;
      named_two = sym same;
    })))

-- ---- a put of one text, and of the texts up to it

-- one of the first is one of all
pub Contains-take : (texts : List (List ℕ)) (i : ℕ) (text : List ℕ) → Contains (take i texts) text → Contains texts text
Contains-take [] zero text member = member
Contains-take [] (suc i) text member = member
Contains-take (t ∷ ts) zero text member = absurd (omega (arith, member.1))
Contains-take (t ∷ ts) (suc i) text member = at (Contains-take ts i text) (Contains-cons_cases t (take i ts) text member)
  where
    at : (Contains (take i ts) text → Contains ts text) → (t ≡ text) ⊎ Contains (take i ts) text → Contains (t ∷ ts) text
    at rest (inl is) = (0, omega arith, is)
    at rest (inr later) = Contains-later t ts text (rest later)

-- the texts up to one, and that one
pub put_more : (folder : List ℕ) (texts : List (List ℕ)) (i : ℕ) (text : List ℕ) (old mid new : History) → i < length texts → slice_index_or texts i text ≡ text
    → ArePut folder (take i texts) old mid → IsPut folder text mid new → ArePut folder (take (i + 1) texts) old new
put_more folder texts i text old mid new below is put last =
    let step : i + 1 ≡ suc i = omega arith in
    let all : take (i + 1) texts ≡ take i texts ++ text ∷ [] = ap (λ (k : ℕ). take k texts) step ∙ take-suc texts i text below ∙ ap (λ (t : List ℕ). take i texts ++ t ∷ []) is in
    subst (λ (ts : List (List ℕ)). ArePut folder ts old new) (sym all) (ArePut-push folder (take i texts) text old mid new put last)
