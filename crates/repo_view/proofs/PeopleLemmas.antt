-- The people of a folder are one list, and where there is one none of them is damaged. So `show` and `users` have one answer.
use Rattle.std.proofs.Common.{◌≡◌, ℕ, inl, inr, List, [], ◌∷◌, map, Contains, Option, Some, None, refl, sym, ◌∙◌, ap, subst, arith}
use Rattle.std.proofs.lemmas.Cmp.{nat_list_cmp_total}
use Rattle.std.proofs.lemmas.Option.{same_Some}
use Rattle.gb_text.specs.Folder.{joined}
use Rattle.gb_text.specs.declared.id.Id.{Id}
use Rattle.gb_text.proofs.SortedLemmas.{same_elements}
use Rattle.gb_store.specs.Files.{Files}
use Rattle.object_store.specs.Held.{Objects, objects_in}
use Rattle.object_batch.proofs.ClashLemmas.{Contains-cons_cases, Contains-first, Contains-later}
use Rattle.ref_store.specs.Refs.{Head}
use Rattle.identity.specs.Persons.{Shows}
use Rattle.identity.specs.Version.{person_name}
use Rattle.identity.specs.declared.chain.Person.{Person}
use Rattle.identity.specs.declared.version.Version.{Version}
use Rattle.identity.proofs.NoFaultLemmas.{no_fault_at}
use Rattle.repo_state.specs.Answers.{HasBadPerson, IsBadPerson, IsBadUser, IsUser}
use Rattle.repo_state.specs.People.{AllShow, ArePeople}
use Rattle.repo_state.specs.Sides.{AreHeads, head_at, ref_place}
use Rattle.repo_state.specs.Users.{BadUser, NoUser, User}
use Rattle.repo_state.specs.declared.side.HeadEntry.{HeadEntry}
use Rattle.repo_state.specs.declared.side.Side.{Side}
use Rattle.repo_state.specs.declared.side.Side.TheVariants as side
use Rattle.repo_state.proofs.ListingLemmas.{Contains-from_map, Contains-map, one_first}

-- ---- one list of heads

abbrev bytes_of : HeadEntry → List ℕ
bytes_of e = e.id.bytes

-- heads with the same ids, each of which is what the ref of its id reads as, are the same
same_heads : (files : Files) (folder : List ℕ) (of : Side) (ones twos : List HeadEntry) → map bytes_of ones ≡ map bytes_of twos
    → ((e : HeadEntry) → Contains ones e → head_at files folder of e.id ≡ Head e.name) → ((e : HeadEntry) → Contains twos e → head_at files folder of e.id ≡ Head e.name) → ones ≡ twos
same_heads files folder of [] [] ids one two = refl
same_heads files folder of [] (e ∷ es) ids one two = absurd (cc)
same_heads files folder of (e ∷ es) [] ids one two = absurd (cc)
same_heads files folder of (e ∷ es) (f ∷ fs) ids one two =
    let bytes : e.id.bytes ≡ f.id.bytes = cc in
    let rest : map bytes_of es ≡ map bytes_of fs = cc in
    let same : e.id ≡ f.id = λ i. record { bytes = bytes i } in
    let heads : Head e.name ≡ Head f.name = sym (one e (Contains-first e es)) ∙ ap (head_at files folder of) same ∙ two f (Contains-first f fs) in
    let names : e.name ≡ f.name = cc (heads) in
    let first : e ≡ f = λ i. record { id = same i; name = names i } in
    let later : es ≡ fs = same_heads files folder of es fs rest (λ x has. one x (Contains-later e es x has)) (λ x has. two x (Contains-later f fs x has)) in
    λ i. first i ∷ later i

within : (files : Files) (folder : List ℕ) (of : Side) (ones twos : List HeadEntry) → AreHeads files folder of ones → AreHeads files folder of twos
    → (bytes : List ℕ) → Contains (map bytes_of ones) bytes → Contains (map bytes_of twos) bytes
within files folder of ones twos first second bytes has =
    let found = Contains-from_map bytes_of ones bytes has in
    subst (Contains (map bytes_of twos)) found.2 (Contains-map bytes_of twos found.0 ((second.members found.0).1 ((first.members found.0).0 found.1)))

pub one_heads : (files : Files) (folder : List ℕ) (of : Side) (ones twos : List HeadEntry) → AreHeads files folder of ones → AreHeads files folder of twos → ones ≡ twos
one_heads files folder of ones twos first second =
    same_heads files folder of ones twos
    (same_elements nat_list_cmp_total (map bytes_of ones) (map bytes_of twos) first.rising second.rising (within files folder of ones twos first second) (within files folder of twos ones second first))
    (λ e has. ((first.members e).0 has).1) (λ e has. ((second.members e).0 has).1)

-- ---- one list of people

one_person : (objects : Objects) (e : HeadEntry) (p q : Person) → Shows objects e.id e.name p → Shows objects e.id e.name q → p ≡ q
one_person objects e p q one two =
    let version : one.version ≡ two.version = same_Some one.version two.version (sym one.has.is ∙ two.has.is) in
    one.is ∙ ap (λ (v : Version). record { id = e.id; head = e.name; name = person_name v; email = v.email }) version ∙ sym two.is

same_people : (objects : Objects) (heads : List HeadEntry) (ps qs : List Person) → AllShow objects heads ps → AllShow objects heads qs → ps ≡ qs
same_people objects [] [] [] one two = refl
same_people objects [] [] (q ∷ qs) one two = absurd two
same_people objects [] (p ∷ ps) qs one two = absurd one
same_people objects (e ∷ es) [] qs one two = absurd one
same_people objects (e ∷ es) (p ∷ ps) [] one two = absurd two
same_people objects (e ∷ es) (p ∷ ps) (q ∷ qs) one two =
    let first : p ≡ q = one_person objects e p q one.0 two.0 in
    let later : ps ≡ qs = same_people objects es ps qs one.1 two.1 in
    λ i. first i ∷ later i

pub one_people : (files : Files) (folder : List ℕ) (people persons : List Person) → ArePeople files folder people → ArePeople files folder persons → people ≡ persons
one_people files folder people persons one two =
    same_people (objects_in files folder) one.heads people persons one.shown
    (subst (λ (heads : List HeadEntry). AllShow (objects_in files folder) heads persons) (sym (one_heads files folder side.Identities one.heads two.heads one.are_heads two.are_heads)) two.shown)

-- ---- none of the people is damaged

shown_at : (objects : Objects) (heads : List HeadEntry) (people : List Person) (e : HeadEntry) → AllShow objects heads people → Contains heads e → (person : Person) × Shows objects e.id e.name person
shown_at objects [] people e shown has = absurd (omega (arith, has.1))
shown_at objects (h ∷ hs) [] e shown has = absurd shown
shown_at objects (h ∷ hs) (p ∷ ps) e shown has = elim (Contains-cons_cases h hs e has) [
  | inl same ↦ subst (λ (x : HeadEntry). (person : Person) × Shows objects x.id x.name person) same (p, shown.0)
  | inr later ↦ shown_at objects hs ps e shown.1 later
]

pub no_bad_among : (files : Files) (folder path : List ℕ) (people : List Person) → ArePeople files folder people → HasBadPerson files folder path → ⊥
no_bad_among files folder path people are (id, first, at) = not_bad first.is_so
  where
    not_bad : IsBadPerson files folder id → ⊥
    not_bad (inl bad) = are.are_heads.none_bad id first.is_id bad
    not_bad (inr (head, has, fault, none)) =
        let e : HeadEntry = record { id = id; name = head } in
        let shows = shown_at (objects_in files folder) are.heads people e are.shown ((are.are_heads.members e).1 (first.is_id, has)) in
        no_fault_at (objects_in files folder) head shows.1.version fault shows.1.has none

-- one path is told of a damaged person
pub one_bad_person : (files : Files) (folder one two : List ℕ) → HasBadPerson files folder one → HasBadPerson files folder two → one ≡ two
one_bad_person files folder one two (id, first, at) (other, second, there) =
    at ∙ ap (λ (i : Id). joined folder (ref_place side.Identities i)) (one_first (IsBadPerson files folder) id other first second) ∙ sym there

-- ---- the user

pub one_user : (files : Files) (folder : List ℕ) (one two : Option Id) → IsUser files folder one → IsUser files folder two → one ≡ two
one_user files folder None None first second = refl
one_user files folder None (Some id) first second = let e : NoUser ≡ User id = sym first ∙ second in absurd (cc (e))
one_user files folder (Some id) None first second = let e : User id ≡ NoUser = sym first ∙ second in absurd (cc (e))
one_user files folder (Some id) (Some other) first second = let e : User id ≡ User other = sym first ∙ second in let same : id ≡ other = cc (e) in ap Some same

pub user_not_bad : (files : Files) (folder path : List ℕ) (user : Option Id) → IsUser files folder user → IsBadUser files folder path → ⊥
user_not_bad files folder path None is bad = let e : NoUser ≡ BadUser = sym is ∙ bad.1 in cc (e)
user_not_bad files folder path (Some id) is bad = let e : User id ≡ BadUser = sym is ∙ bad.1 in cc (e)
