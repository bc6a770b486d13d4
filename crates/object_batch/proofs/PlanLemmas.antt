-- Which of some texts are to be written, and that these writes put them.
use Rattle.std.proofs.Common.{◌≡◌, ◌≢◌, ℕ, ◌<◌, ◌+◌, true, false, List, [], ◌∷◌, ◌++◌, length, take, reverse, slice_index_or, All, Contains, Option, Some, None, inl, inr, Result, Ok, Err, refl, sym, ◌∙◌, ap, subst, append_assoc, arith}
use Rattle.std.proofs.lemmas.List.{append_cancel_right, get_or_default, reverse-append, reverse-reverse}
use Rattle.std.proofs.lemmas.Bool.{cases_lt}
use Rattle.std.proofs.lemmas.List.Folds.{Any-from_list_any}
use Rattle.std.proofs.lemmas.Slice.Eq.{bytes_eq-Decides}
use Rattle.gb_text.specs.declared.id.Name.{Name}
use Rattle.gb_text.specs.Folder.{joined}
use Rattle.gb_store.specs.Files.{History, files_of}
use Rattle.gb_store.specs.Moments.{WroteSome}
use Rattle.gb_store.specs.ObjectPath.{object_place}
use Rattle.gb_store.specs.Writing.{WritesAnswers}
use Rattle.gb_store.specs.declared.fault.StoreFault.{StoreFault}
use Rattle.gb_store.specs.declared.fault.StoreFault.TheVariants as store
use Rattle.gb_store.specs.declared.store.Change.{Change}
use Rattle.gb_store.proofs.FileLemmas.{file_at-other}
use Rattle.git_object.specs.Grammar.{object_name}
use Rattle.object_store.specs.Held.{objects_in}
use Rattle.object_store.specs.Faults.{put_fault}
use Rattle.object_store.specs.Growth.{OnlyGrew}
use Rattle.object_store.specs.Puts.{IsPut, IsTaken, object_write}
use Rattle.object_store.specs.declared.fault.PutFault.{PutFault}
use Rattle.object_store.specs.declared.fault.PutFault.TheVariants as fault
use Rattle.object_batch.specs.Batches.{AddsMissing, AllStand, AreApart, AreMissing, ArePut, BatchAnswers, IsFree, IsMissing, MayBePut, PlanAnswers, is_among, missing_writes, share_a_name}
use Rattle.object_store.specs.Texts.{IsShort}
use Rattle.object_batch.proofs.ClashLemmas.{Contains-first, Contains-later, any-none}
use Rattle.object_batch.proofs.MissingLemmas.{all_written, writes_by}
use Rattle.git_object.proofs.NameLaws.{IsName-object_name}
use Rattle.object_store.proofs.PathLemmas.{path_name}
use Rattle.object_batch.proofs.PutLemmas.{Contains-take, all_held, all_stand, free_one, may_be_put, put_apart, put_free, put_more, stays}

-- ---- what is absent stays absent

absent_one : (folder other : List ℕ) (old new : History) (text : List ℕ) → IsPut folder other old new → object_name other ≢ object_name text
    → objects_in (files_of old) folder (object_name text) ≡ None → objects_in (files_of new) folder (object_name text) ≡ None
absent_one folder other old new text (inl same) differ none = ap (λ (h : History). objects_in (files_of h) folder (object_name text)) same.1 ∙ none
absent_one folder other old new text (inr wrote) differ none =
    ap (λ (h : History). objects_in (files_of h) folder (object_name text)) wrote.1
    ∙ file_at-other (object_write folder other) old (joined folder (object_place (object_name text)))
    (λ e. differ (path_name folder (object_name other) (object_name text) (IsName-object_name other) (IsName-object_name text) e)) ∙ none

absent : (folder : List ℕ) (texts : List (List ℕ)) (old new : History) (text : List ℕ) → ArePut folder texts old new
    → ((other : List ℕ) → Contains texts other → object_name other ≢ object_name text)
    → objects_in (files_of old) folder (object_name text) ≡ None → objects_in (files_of new) folder (object_name text) ≡ None
absent folder [] old new text put differ none = ap (λ (h : History). objects_in (files_of h) folder (object_name text)) put ∙ none
absent folder (t ∷ ts) old new text put differ none =
    absent folder ts put.0 new text put.2 (λ other member. differ other (Contains-later t ts other member))
    (absent_one folder t old put.0 text put.1 (differ t (Contains-first t ts)) none)

-- ---- names among earlier ones

share-is : (one two : List ℕ) → share_a_name one two ≡ true → object_name one ≡ object_name two
share-is one two e = ap (λ (bytes : List ℕ). record { bytes = bytes }) ((bytes_eq-Decides (object_name one).bytes (object_name two).bytes).0 e)

none_among : (text : List ℕ) (texts : List (List ℕ)) → is_among text texts ≡ false → (other : List ℕ) → Contains texts other → object_name other ≢ object_name text
none_among text texts e other member same =
    cc (sym (any-none (share_a_name text) texts e other member)
    ∙ (bytes_eq-Decides (object_name text).bytes (object_name other).bytes).1 (ap (λ (n : Name). n.bytes) (sym same)))

one_among : (text : List ℕ) (texts : List (List ℕ)) → is_among text texts ≡ true → (other : List ℕ) × Contains texts other × (object_name other ≡ object_name text)
one_among text texts e =
    let any = Any-from_list_any (share_a_name text) texts e in
    (any.1, (any.0, any.2, any.3), sym (share-is text any.1 any.4))

-- ---- a text more

-- the writes so far and one more, the newest first
reverse-push : (changes : List Change) (change : Change) (old : History) → reverse (changes ++ change ∷ []) ++ old ≡ change ∷ reverse changes ++ old
reverse-push changes change old = ap (λ (ws : List Change). ws ++ old) (reverse-append changes (change ∷ []))

-- what is added of a text is a put of it behind the others
put_here : (folder : List ℕ) (text : List ℕ) (earlier : List (List ℕ)) (old : History) (before after : List Change)
    → ((other : List ℕ) → Contains earlier other → object_name other ≡ object_name text → other ≡ text)
    → ArePut folder earlier old (reverse before ++ old) → AddsMissing folder text earlier old before after (Ok tt)
    → IsPut folder text (reverse before ++ old) (reverse after ++ old)
put_here folder text earlier old before after apart put (inl adds) = inr (
  absent folder earlier old (reverse before ++ old) text put (none_among text earlier adds.0.1) adds.0.0,
  ap (λ (ws : List Change). reverse ws ++ old) adds.1 ∙ reverse-push before (object_write folder text) old,
)
put_here folder text earlier old before after apart put (inr (inl stands, same)) = inl (
  stays folder earlier old (reverse before ++ old) (joined folder (object_place (object_name text))) text put stands,
  ap (λ (ws : List Change). reverse ws ++ old) same,
)
put_here folder text earlier old before after apart put (inr (inr among, same)) =
    let other = one_among text earlier among.1 in
    let is : other.0 ≡ text = apart other.0 other.1 other.2 in
    inl (
      subst (λ (t : List ℕ). objects_in (files_of (reverse before ++ old)) folder (object_name t) ≡ Some t) is
          (all_stand folder earlier old (reverse before ++ old) put other.0 other.1),
      ap (λ (ws : List Change). reverse ws ++ old) same,
    )

-- a text that is added may stand under its name
pub adds_free : (folder text : List ℕ) (earlier : List (List ℕ)) (old : History) (before after : List Change)
    → AddsMissing folder text earlier old before after (Ok tt) → IsFree folder old text
adds_free folder text earlier old before after (inl adds) = inl adds.0.0
adds_free folder text earlier old before after (inr (inl stands, same)) = inr stands
adds_free folder text earlier old before after (inr (inr among, same)) = inl among.0

-- one text more of a list
pub plan_more : (folder : List ℕ) (texts : List (List ℕ)) (i : ℕ) (text : List ℕ) (earlier : List (List ℕ)) (old : History) (before after : List Change)
    → i < length texts → slice_index_or texts i text ≡ text → earlier ≡ take i texts → AreApart texts → ArePut folder (take i texts) old (reverse before ++ old)
    → AddsMissing folder text earlier old before after (Ok tt) → ArePut folder (take (i + 1) texts) old (reverse after ++ old)
plan_more folder texts i text earlier old before after below is are apart put adds =
    put_more folder texts i text old (reverse before ++ old) (reverse after ++ old) below is put
    (put_here folder text (take i texts) old before after
    (λ other member same. apart other text (Contains-take texts i other member) (i, below, is) same) put
    (subst (λ (ts : List (List ℕ)). AddsMissing folder text ts old before after (Ok tt)) are adds))

-- the writes that put texts are the missing ones
plan_is : (folder : List ℕ) (texts : List (List ℕ)) (old : History) (changes : List Change) → ArePut folder texts old (reverse changes ++ old)
    → changes ≡ missing_writes folder texts (files_of old)
plan_is folder texts old changes put =
    let missing = missing_writes folder texts (files_of old) in
    let turned : reverse changes ≡ reverse missing = append_cancel_right (reverse changes) (reverse missing) old (all_written folder texts old (reverse changes ++ old) put) in
    sym (reverse-reverse changes) ∙ ap reverse turned ∙ reverse-reverse missing

-- the missing ones put the texts
are_put : (folder : List ℕ) (texts : List (List ℕ)) (old : History) → ((text : List ℕ) → Contains texts text → IsFree folder old text) → AreApart texts
    → ArePut folder texts old (reverse (missing_writes folder texts (files_of old)) ++ old)
are_put folder [] old free apart = refl
are_put folder (text ∷ texts) old free apart = each (λ mid may are. are_put folder texts mid may are) (free text (Contains-first text texts))
  where
    AllPut : Type 0
    AllPut = (mid : History) → ((other : List ℕ) → Contains texts other → IsFree folder mid other) → AreApart texts
        → ArePut folder texts mid (reverse (missing_writes folder texts (files_of mid)) ++ mid)

    rest_apart : AreApart texts
    rest_apart one two first second same = apart one two (Contains-later text texts one first) (Contains-later text texts two second) same

    later : (mid : History) → IsPut folder text old mid → (other : List ℕ) → Contains texts other → IsFree folder mid other
    later mid put other member =
        free_one folder text old mid other put (apart text other (Contains-first text texts) (Contains-later text texts other member))
        (free other (Contains-later text texts other member))

    by : Option (List ℕ) → History
    by stands = reverse (writes_by folder text texts old stands) ++ old

    each : AllPut → IsFree folder old text → ArePut folder (text ∷ texts) old (by (objects_in (files_of old) folder (object_name text)))
    each put_rest (inr stands) =
        subst (λ (o : Option (List ℕ)). ArePut folder (text ∷ texts) old (by o)) (sym stands)
        (old, inl (stands, refl), put_rest old (later old (inl (stands, refl))) rest_apart)
    each put_rest (inl none) =
        let write = object_write folder text in
        let rest = missing_writes folder texts (files_of (write ∷ old)) in
        let put : IsPut folder text old (write ∷ old) = inr (none, refl) in
        let turned : reverse (write ∷ rest) ++ old ≡ reverse rest ++ write ∷ old =
        ap (λ (ws : List Change). ws ++ old) (reverse-append (write ∷ []) rest) ∙ append_assoc (reverse rest) (write ∷ []) old in
        subst (λ (o : Option (List ℕ)). ArePut folder (text ∷ texts) old (by o)) (sym none)
        (write ∷ old, put, subst (ArePut folder texts (write ∷ old)) (sym turned) (put_rest (write ∷ old) (later (write ∷ old) put) rest_apart))

-- so do those of texts that may be put
pub batch_put : (folder : List ℕ) (texts : List (List ℕ)) (old : History) → MayBePut folder texts old
    → ArePut folder texts old (reverse (missing_writes folder texts (files_of old)) ++ old)
batch_put folder texts old may = are_put folder texts old (put_free folder texts old may) (put_apart folder texts old may)

-- each of them is held then
pub batch_held : (folder : List ℕ) (texts : List (List ℕ)) (old : History) → MayBePut folder texts old
    → AllStand (objects_in (files_of (reverse (missing_writes folder texts (files_of old)) ++ old)) folder) texts
batch_held folder texts old may = all_held folder texts old (reverse (missing_writes folder texts (files_of old)) ++ old) may.short (batch_put folder texts old may)

-- and what was held before
pub batch_grew : (folder : List ℕ) (texts : List (List ℕ)) (old : History) → MayBePut folder texts old
    → OnlyGrew (objects_in (files_of old) folder) (objects_in (files_of (reverse (missing_writes folder texts (files_of old)) ++ old)) folder)
batch_grew folder texts old may = record {
  stays = λ name text stands.
      stays folder texts old (reverse (missing_writes folder texts (files_of old)) ++ old) (joined folder (object_place name)) text (batch_put folder texts old may) stands;
}

-- ---- the answers

-- one text more is added by the files before
pub adds_at : (folder text : List ℕ) (earlier : List (List ℕ)) (old mid : History) (before after : List Change) → mid ≡ old
    → AddsMissing folder text earlier mid before after (Ok tt) → AddsMissing folder text earlier old before after (Ok tt)
adds_at folder text earlier old mid before after same = subst (λ (h : History). AddsMissing folder text earlier h before after (Ok tt)) same

-- a refusal of one text is one of all
pub plan_refused : (folder : List ℕ) (texts : List (List ℕ)) (i : ℕ) (text : List ℕ) (earlier : List (List ℕ)) (old mid : History) (e : PutFault)
    → mid ≡ old → i < length texts → slice_index_or texts i text ≡ text → IsMissing folder text earlier mid (Err e) → AreMissing folder texts old (Err e)
plan_refused folder texts i text earlier old mid fault.Memory same below is adds = tt
plan_refused folder texts i text earlier old mid fault.Disk same below is adds = tt
plan_refused folder texts i text earlier old mid (fault.Large count) same below is adds = adds
plan_refused folder texts i text earlier old mid (fault.Taken name) same below is adds = record {
  text = text;
  member = (i, below, is);
  is_named = adds.0;
  taken = subst (IsTaken folder text) same adds.1;
}

-- one text more may stand
pub free_more : (folder : List ℕ) (texts : List (List ℕ)) (i : ℕ) (text : List ℕ) (old : History) → slice_index_or texts i text ≡ text → i < length texts
    → ((k : ℕ) (d : List ℕ) → k < i → IsFree folder old (slice_index_or texts k d)) → IsFree folder old text
    → (k : ℕ) (d : List ℕ) → k < i + 1 → IsFree folder old (slice_index_or texts k d)
free_more folder texts i text old is below free here k d lt = elim (cases_lt k i) [
  | inl less ↦ free k d less
  | inr more ↦
      let at : i ≡ k = omega arith in
      let same : slice_index_or texts i d ≡ text = get_or_default texts i d text below ∙ is in
      subst (λ (n : ℕ). IsFree folder old (slice_index_or texts n d)) at (subst (IsFree folder old) (sym same) here)
]

-- a plan of texts none of which is too long or shares a name
pub plan_answers : (folder : List ℕ) (texts : List (List ℕ)) (old : History) (r : Result (List Change) PutFault) → All IsShort texts → AreApart texts
    → AreMissing folder texts old r → PlanAnswers folder texts old r
plan_answers folder texts old (Ok changes) short apart are = (may_be_put folder texts old short are.0 apart, plan_is folder texts old changes are.1)
plan_answers folder texts old (Err fault.Memory) short apart are = tt
plan_answers folder texts old (Err fault.Disk) short apart are = tt
plan_answers folder texts old (Err (fault.Large count)) short apart are = absurd are
plan_answers folder texts old (Err (fault.Taken name)) short apart are = (short, inl are)

-- a plan that is refused
pub put_refused : (folder : List ℕ) (texts : List (List ℕ)) (old new : History) (e : PutFault) → new ≡ old → PlanAnswers folder texts old (Err e)
    → BatchAnswers folder texts old new (Err e)
put_refused folder texts old new fault.Memory same plan = inl same
put_refused folder texts old new fault.Disk same plan = inl same
put_refused folder texts old new (fault.Large count) same plan = (plan.0, plan.1, same)
put_refused folder texts old new (fault.Taken name) same plan = (plan.0, plan.1, same)

-- one whose writes were made, all or the first
pub put_made : (folder : List ℕ) (texts : List (List ℕ)) (old mid new : History) (changes : List Change) → mid ≡ old → PlanAnswers folder texts old (Ok changes)
    → WritesAnswers changes mid new (Ok tt) → BatchAnswers folder texts old new (Ok tt)
put_made folder texts old mid new changes same plan made = (
  plan.0,
  made ∙ ap (λ (h : History). reverse changes ++ h) same ∙ ap (λ (ws : List Change). reverse ws ++ old) plan.1,
)

-- a batch that stops made a front of its writes
pub put_stopped : (folder : List ℕ) (texts : List (List ℕ)) (old mid new : History) (changes : List Change) (e : StoreFault) → mid ≡ old → PlanAnswers folder texts old (Ok changes)
    → WritesAnswers changes mid new (Err e) → BatchAnswers folder texts old new (Err (put_fault e))
put_stopped folder texts old mid new changes e same plan some = each e
  where
    first : WroteSome (missing_writes folder texts (files_of old)) old new
    first = subst (λ (h : History). WroteSome (missing_writes folder texts (files_of old)) h new) same (subst (λ (ws : List Change). WroteSome ws mid new) plan.1 some)

    each : (e : StoreFault) → BatchAnswers folder texts old new (Err (put_fault e))
    each store.Memory = inr (plan.0, first)
    each store.Failed = inr (plan.0, first)
