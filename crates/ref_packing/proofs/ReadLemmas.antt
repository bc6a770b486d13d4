-- What the faults of reads are to a pack, and what the names of a dir answer.
use Rattle.std.proofs.Common.{◌≡◌, Bool, ℕ, ◌+◌, ◌<◌, suc, List, [], ◌∷◌, ◌++◌, length, get_or, take, drop, Option, Result, Ok, Err, sym, ◌∙◌, ap, subst, drop-cons}
use Rattle.std.specs.Prelude.{All}
use Rattle.std.specs.List.{cons_option, filter_map}
use Rattle.std.specs.Result.{IsErrAnd}
use Rattle.std.proofs.lemmas.List.{take-append-drop, take_more}
use Rattle.std.proofs.lemmas.List.Elements.{All-push, filter_map-append}
use Rattle.gb_text.specs.Folder.{joined}
use Rattle.gb_store.specs.Faults.{KeepsFaults}
use Rattle.gb_store.specs.Files.{Files, IsListing}
use Rattle.gb_store.specs.declared.fault.StoreFault.{StoreFault}
use Rattle.gb_store.specs.declared.fault.StoreFault.TheVariants as store
use Rattle.gb_store.proofs.FaultLemmas.{KeepsFaults_then}
use Rattle.packed_refs.specs.Packed.{PackedRef}
use Rattle.ref_store.specs.Refs.{Answers, ref_at}
use Rattle.ref_store.specs.declared.fault.RefFault.{RefFault}
use Rattle.ref_store.specs.declared.fault.RefFault.TheVariants as ref
use Rattle.ref_packing.specs.Faults.{of_ref, of_store}
use Rattle.ref_packing.specs.Packing.{IsFirstBad}
use Rattle.ref_packing.specs.Reading.{DirAnswers, IsFirstInDir, IsGoodName, LooseAnswers, NameAnswers, NamesAnswer, PlaceAnswers}
use Rattle.ref_packing.specs.declared.fault.PackFault.{PackFault}
use Rattle.ref_packing.specs.declared.fault.PackFault.TheVariants as fault

-- what holds of an error holds of the result that is it
pub at_err : {T E : Type 0} (P : Result T E → Type 0) (e : E) (r : Result T E) → IsErrAnd r (λ at. at ≡ e) → P (Err e) → P r
at_err P e (Ok value) is holds = absurd is
at_err P e (Err at) is holds = subst (λ x. P (Err x)) (sym is) holds

-- two calls that did not fail, one after the other
pub calm_then : {S : Type 0} (never_fails : S → Bool) (faults : S → ℕ) (failed : Type 0) (old mid new : S) → (failed → ⊥) → KeepsFaults never_fails faults ⊥ old mid → KeepsFaults never_fails faults failed mid new
    → KeepsFaults never_fails faults ⊥ old new
calm_then never_fails faults failed old mid new never first then = KeepsFaults_then never_fails faults failed ⊥ old mid new first then (λ none. absurd none) never

-- a fault of a ref
pub place_err : (files : Files) (folder place : List ℕ) (e : RefFault) → Answers (joined folder place) (ref_at files folder place) (Err e)
    → PlaceAnswers files folder place (Err (of_ref e))
place_err files folder place ref.Memory a = tt
place_err files folder place ref.Disk a = tt
place_err files folder place (ref.BadRef at) a = a

-- a fault of the store
pub dir_store_err : (files : Files) (folder dir : List ℕ) (old new : List PackedRef) (e : StoreFault) → DirAnswers files folder dir old new (Err (of_store e))
dir_store_err files folder dir old new store.Memory = tt
dir_store_err files folder dir old new store.Failed = tt

-- the names round an index
split_names : (names : List (List ℕ)) (i : ℕ) (name : List ℕ) → i < length names → name ≡ get_or names i name → names ≡ take i names ++ name ∷ drop (suc i) names
split_names names i name lt is =
    sym (take-append-drop i names) ∙ ap (λ (rest : List (List ℕ)). take i names ++ rest) (drop-cons names i name lt ∙ ap (λ (n : List ℕ). n ∷ drop (suc i) names) (sym is))

-- a fault of a name is that of the names, where those before it are good
pub names_err : (files : Files) (folder dir : List ℕ) (names : List (List ℕ)) (old new : List PackedRef) (i : ℕ) (name : List ℕ) (e : PackFault) → i < length names → name ≡ get_or names i name
    → All (IsGoodName files folder dir) (take i names) → NameAnswers files folder dir name (Err e) → NamesAnswer files folder dir names old new (Err e)
names_err files folder dir names old new i name fault.Memory lt is good a = tt
names_err files folder dir names old new i name fault.Disk lt is good a = tt
names_err files folder dir names old new i name (fault.BadRef at) lt is good a =
    (a.0, a.1, record { before = take i names; name = name; after = drop (suc i) names; are = split_names names i name lt is; good = good; bad = a.2 })
names_err files folder dir names old new i name (fault.TooLarge bytes) lt is good a = a

-- one name more
pub lines_more : (f : List ℕ → Option PackedRef) (names : List (List ℕ)) (i : ℕ) (name : List ℕ) → i < length names → name ≡ get_or names i name
    → filter_map f (take (i + 1) names) ≡ filter_map f (take i names) ++ cons_option (f name) []
lines_more f names i name lt is =
    ap (filter_map f) (take_more names i name lt ∙ ap (λ (n : List ℕ). take i names ++ n ∷ []) (sym is)) ∙ filter_map-append f (take i names) (name ∷ [])

pub good_more : (P : List ℕ → Type 0) (names : List (List ℕ)) (i : ℕ) (name : List ℕ) → i < length names → name ≡ get_or names i name → All P (take i names) → P name → All P (take (i + 1) names)
good_more P names i name lt is all here =
    subst (All P) (sym (take_more names i name lt ∙ ap (λ (n : List ℕ). take i names ++ n ∷ []) (sym is))) (All-push P (take i names) name all here)

-- the names of a dir answer for it
pub dir_answers : (files : Files) (folder dir : List ℕ) (names : List (List ℕ)) (old new : List PackedRef) (r : Result Unit PackFault) → IsListing files (joined folder dir) names
    → NamesAnswer files folder dir names old new r → DirAnswers files folder dir old new r
dir_answers files folder dir names old new (Ok done) listing a = record { names = names; listing = listing; lines = a.0; good = a.1 }
dir_answers files folder dir names old new (Err fault.Memory) listing a = tt
dir_answers files folder dir names old new (Err fault.Disk) listing a = tt
dir_answers files folder dir names old new (Err (fault.BadRef at)) listing a = (a.0, a.1, record { names = names; listing = listing; first = a.2 })
dir_answers files folder dir names old new (Err (fault.TooLarge bytes)) listing a = a

-- a fault of a dir is that of the loose refs
pub loose_err : (files : Files) (folder dir : List ℕ) (old new : List PackedRef) (e : PackFault) → ((at : List ℕ) → IsFirstInDir files folder dir at → IsFirstBad files folder at)
    → DirAnswers files folder dir old new (Err e) → LooseAnswers files folder (Err e)
loose_err files folder dir old new fault.Memory first a = tt
loose_err files folder dir old new fault.Disk first a = tt
loose_err files folder dir old new (fault.BadRef at) first a = (a.0, a.1, first a.0 a.2)
loose_err files folder dir old new (fault.TooLarge bytes) first a = a
