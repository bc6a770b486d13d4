-- The people of some refs, one after the other, and the first of these that has none.
use Rattle.std.proofs.Common.{◌≡◌, ◌<◌, ◌≤◌, ◌+◌, ◌*◌, ℕ, inl, inr, List, [], ◌∷◌, ◌++◌, length, map, take, drop, get_or, Result, Ok, Err, refl, sym, ◌∙◌, ap, subst, add-one, drop-cons, arith}
use Rattle.std.specs.Prelude.{Contains, IsTrue}
use Rattle.std.proofs.lemmas.List.{length-map, map-append, take_more, take-append-drop}
use Rattle.gb_text.specs.Folder.{joined}
use Rattle.gb_text.specs.declared.id.Id.{Id}
use Rattle.gb_text.specs.declared.id.Name.{Name}
use Rattle.gb_store.specs.Files.{Files}
use Rattle.object_batch.proofs.ClashLemmas.{Contains-cons_cases}
use Rattle.object_store.specs.Held.{Objects, objects_in}
use Rattle.identity.specs.Commits.{HasNoVersion}
use Rattle.identity.specs.Persons.{Shows}
use Rattle.identity.specs.declared.chain.Person.{Person}
use Rattle.identity.proofs.NoFaultLemmas.{no_fault_at}
use Rattle.ref_store.specs.Listing.{IsRefList}
use Rattle.ref_store.specs.Refs.{Bad, Head}
use Rattle.ref_store.specs.declared.listing.RefEntry.{RefEntry}
use Rattle.ref_store.specs.declared.listing.RefFound.{RefFound}
use Rattle.ref_store.specs.declared.listing.RefFound.TheVariants as found
use Rattle.repo_state.specs.Answers.{ArePersons, HasBadPerson, HeadOf, HeadsOf, IsBadFound, IsBadPerson, IsBehind, PeopleOf, PersonAt, PersonOf, Reads, ReadsPeople, as_entry, head_shown}
use Rattle.repo_state.specs.People.{AllShow, ArePeople}
use Rattle.repo_state.specs.Sides.{dir_of, has_ref, is_there, ref_place}
use Rattle.repo_state.specs.declared.stop.ReadStop.{ReadStop}
use Rattle.repo_state.specs.declared.stop.ReadStop.TheVariants as stop
use Rattle.repo_state.specs.declared.side.HeadEntry.{HeadEntry}
use Rattle.repo_state.specs.declared.side.Side.{Side}
use Rattle.repo_state.specs.declared.side.Side.TheVariants as side
use Rattle.repo_state.proofs.ListingLemmas.{entry_is_bad, entry_reads, first_of_refs, heads_of_refs, ids_of_refs, sooner_reads}

-- ---- one after the other

-- one person more
AllShow-push : (objects : Objects) (heads : List HeadEntry) (people : List Person) (e : HeadEntry) (person : Person) → AllShow objects heads people
    → Shows objects e.id e.name person → AllShow objects (heads ++ e ∷ []) (people ++ person ∷ [])
AllShow-push objects [] [] e person shown shows = (shows, tt)
AllShow-push objects [] (p ∷ ps) e person shown shows = absurd shown
AllShow-push objects (h ∷ hs) [] e person shown shows = absurd shown
AllShow-push objects (h ∷ hs) (p ∷ ps) e person shown shows = (shown.0, AllShow-push objects hs ps e person shown.1 shows)

-- the person of the next of these refs
pub ArePersons-more : (objects : Objects) (entries : List RefEntry) (people : List Person) (k : ℕ) (d : RefEntry) (person : Person) → k < length entries
    → ArePersons objects (take k entries) people → as_entry (head_shown person) ≡ get_or entries k d → Shows objects person.id person.head person
    → ArePersons objects (take (k + 1) entries) (people ++ person ∷ [])
ArePersons-more objects entries people k d person lt are is shows = record {
  heads =
      ap (map as_entry) (map-append head_shown people (person ∷ []))
      ∙ map-append as_entry (map head_shown people) (head_shown person ∷ [])
      ∙ ap (λ (es : List RefEntry). es ++ as_entry (head_shown person) ∷ []) are.heads
      ∙ ap (λ (e : RefEntry). take k entries ++ e ∷ []) is
      ∙ sym (take_more entries k d lt);
  shown =
      subst (λ (heads : List HeadEntry). AllShow objects heads (people ++ person ∷ [])) (sym (map-append head_shown people (person ∷ [])))
      (AllShow-push objects (map head_shown people) people (head_shown person) person are.shown shows);
}

-- what is told of the head of a ref is told of the ref
pub by_its_head : (files : Files) (folder : List ℕ) (head : HeadEntry) (entry : RefEntry) → as_entry head ≡ entry → (result : Result Person ReadStop)
    → PersonAt files folder head result → PersonOf files folder entry result
by_its_head files folder head entry is (Ok person) shows =
    let same : head_shown person ≡ head = ap head_shown shows.is in
    (ap as_entry same ∙ is, subst (λ (e : HeadEntry). Shows (objects_in files folder) e.id e.name person) (sym same) shows)
by_its_head files folder head entry is (Err stop.Memory) told = tt
by_its_head files folder head entry is (Err stop.Disk) told = tt
by_its_head files folder head entry is (Err (stop.Damaged path)) told =
    subst (λ (e : RefEntry). (path ≡ joined folder (ref_place side.Identities e.id)) × IsBadFound (objects_in files folder) e.found) is (told.0, (told.1, told.2))

-- a ref that is no ref text has no person
pub no_head : (files : Files) (folder : List ℕ) (entry : RefEntry) (s : ReadStop) → HeadOf folder side.Identities entry (Err s) → PersonOf files folder entry (Err s)
no_head files folder entry stop.Memory told = tt
no_head files folder entry stop.Disk told = absurd told
no_head files folder entry (stop.Damaged path) told =
    (told.1, subst (IsBadFound (objects_in files folder)) (sym told.0) tt)

-- the list up to a place, what stands there, and the rest
pub split_at : {X : Type 0} (xs : List X) (k : ℕ) (d : X) → k < length xs → xs ≡ take k xs ++ get_or xs k d ∷ drop (k + 1) xs
split_at xs k d lt = sym (take-append-drop k xs) ∙ ap (λ (rest : List _). take k xs ++ rest) (drop-cons xs k d lt ∙ ap (λ (n : ℕ). get_or xs k d ∷ drop n xs) (sym (add-one k)))

-- the heads of refs up to one that has none
pub heads_stop : (folder : List ℕ) (of : Side) (entries : List RefEntry) (heads : List HeadEntry) (k : ℕ) (d : RefEntry) → k < length entries
    → map as_entry heads ≡ take k entries → (s : ReadStop) → HeadOf folder of (get_or entries k d) (Err s) → HeadsOf folder of entries (Err s)
heads_stop folder of entries heads k d lt are stop.Memory told = tt
heads_stop folder of entries heads k d lt are stop.Disk told = absurd told
heads_stop folder of entries heads k d lt are (stop.Damaged path) told =
    let entry = get_or entries k d in
    let bad : entry ≡ record { id = entry.id; found = found.Bad } = λ i. record { id = entry.id; found = told.0 i } in (
      entry.id,
      heads,
      (
        drop (k + 1) entries,
        split_at entries k d lt ∙ ap (λ (es : List RefEntry). es ++ entry ∷ drop (k + 1) entries) (sym are)
            ∙ ap (λ (e : RefEntry). map as_entry heads ++ e ∷ drop (k + 1) entries) bad,
      ),
      told.1,
    )

-- the people of refs up to one that has none
pub people_stop : (files : Files) (folder : List ℕ) (entries : List RefEntry) (people : List Person) (k : ℕ) (d : RefEntry) → k < length entries
    → ArePersons (objects_in files folder) (take k entries) people → (s : ReadStop) → PersonOf files folder (get_or entries k d) (Err s) → PeopleOf files folder entries (Err s)
people_stop files folder entries people k d lt are stop.Memory told = tt
people_stop files folder entries people k d lt are stop.Disk told = tt
people_stop files folder entries people k d lt are (stop.Damaged path) told =
    let entry = get_or entries k d in
    (people, entry, (drop (k + 1) entries, split_at entries k d lt ∙ ap (λ (es : List RefEntry). es ++ entry ∷ drop (k + 1) entries) (sym are.heads)), are.shown, told.0, told.1)

-- ---- the first that has none

-- a head that shows a person has a version
shows_at : (objects : Objects) (heads : List HeadEntry) (people : List Person) (e : HeadEntry) → AllShow objects heads people → Contains heads e → (person : Person) × Shows objects e.id e.name person
shows_at objects [] people e shown has = absurd (omega (arith, has.1))
shows_at objects (h ∷ hs) [] e shown has = absurd shown
shows_at objects (h ∷ hs) (p ∷ ps) e shown has = elim (Contains-cons_cases h hs e has) [
  | inl same ↦ subst (λ (x : HeadEntry). (person : Person) × Shows objects x.id x.name person) same (p, shown.0)
  | inr later ↦ shows_at objects hs ps e shown.1 later
]

module _ (files : Files) (folder : List ℕ) (entries : List RefEntry) (are : IsRefList files folder (dir_of side.Identities) entries) where
  -- what is told of an entry is so of its ref
  bad_entry : (heads : List HeadEntry) (entry : RefEntry) → IsBehind entries heads entry → (f : RefFound) → entry.found ≡ f → IsBadFound (objects_in files folder) f → IsBadPerson files folder entry.id
  bad_entry heads entry behind found.Bad is bad = inl (entry_is_bad files folder side.Identities entries are heads entry behind is)
  bad_entry heads entry behind (found.Head name) is bad = inr (name, entry_reads files folder side.Identities entries are heads entry behind name is, bad.0, bad.1)

  bad_stands : (id : Id) → IsBadPerson files folder id → IsTrue (has_ref files folder side.Identities id)
  bad_stands id (inl bad) = ap is_there bad
  bad_stands id (inr (head, is, fault, wrong)) = ap is_there is

  -- no identity before it is so
  none_sooner : (heads : List HeadEntry) (people : List Person) (entry : RefEntry) → IsBehind entries heads entry → AllShow (objects_in files folder) heads people
      → (e : HeadEntry) → Contains heads e → IsBadPerson files folder e.id → ⊥
  none_sooner heads people entry behind shown e has (inl bad) =
      let both : Head e.name ≡ Bad = sym (sooner_reads files folder side.Identities entries are heads entry behind e has) ∙ bad in cc (both)
  none_sooner heads people entry behind shown e has (inr (head, is, fault, wrong)) =
      let both : Head e.name ≡ Head head = sym (sooner_reads files folder side.Identities entries are heads entry behind e has) ∙ is in
      let same : e.name ≡ head = cc (both) in
      let shows = shows_at (objects_in files folder) heads people e shown has in
      no_fault_at (objects_in files folder) e.name shows.1.version fault shows.1.has (subst (λ (name : Name). HasNoVersion (objects_in files folder) name fault) (sym same) wrong)

  -- `Damaged` for the first that is damaged
  pub stops_at_bad_person : (s : ReadStop) → PeopleOf files folder entries (Err s) → Reads {T = List Person} (ArePeople files folder) (HasBadPerson files folder) (Err s)
  stops_at_bad_person stop.Memory h = h
  stops_at_bad_person stop.Disk h = h
  stops_at_bad_person (stop.Damaged path) (people, entry, behind, shown, at, bad) = (
    entry.id,
    first_of_refs files folder side.Identities entries are (IsBadPerson files folder) bad_stands (map head_shown people) entry behind
        (bad_entry (map head_shown people) entry behind entry.found refl bad) (none_sooner (map head_shown people) people entry behind shown),
    at,
  )

  -- the people of all
  pub people_of_refs : (people : List Person) → ArePersons (objects_in files folder) entries people → ArePeople files folder people
  people_of_refs people persons = record {
    heads = map head_shown people;
    are_heads = heads_of_refs files folder side.Identities entries are (map head_shown people) persons.heads;
    shown = persons.shown;
  }

  -- what is read of the refs is read of their ids
  pub reads_people : (old new : ℕ) → new ≤ old + 3 * length entries → ReadsPeople files folder old new
  reads_people old new few =
      let ids = map (λ (e : RefEntry). e.id) entries in
      inr (ids, ids_of_refs files folder side.Identities entries are ids refl, subst (λ (n : ℕ). new ≤ old + 3 * n) (sym (length-map entries (λ (e : RefEntry). e.id))) few)
