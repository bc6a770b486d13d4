-- An entry that is read has this text, and the text of an entry is read.
use Rattle.std.proofs.lemmas.Bool.{and_parts}
use Rattle.std.proofs.lemmas.Option.{same_Some}
use Rattle.std.proofs.Common.{◌≡◌, ◌≢◌, ℕ, zero, suc, Bool, true, false, cond, eqb, ltb, List, [], ◌∷◌, ◌++◌, length, take, drop, Option, Some, None, refl, sym, ap, subst, ◌∙◌, append_assoc, arith}
use Rattle.std.specs.Prelude.{codes, not}
use Rattle.std.specs.List.{list_any, list_all}
use Rattle.std.specs.Str.{bytes_eq}
use Rattle.std.proofs.lemmas.Bool.{eqb-true, ltb-true, lt-ltb, not-true}
use Rattle.std.proofs.lemmas.List.{take-append-drop}
use Rattle.std.proofs.lemmas.Slice.Eq.{bytes_eq-Decides}
use Rattle.std.proofs.Math.Seq.{take-append_seam, drop-append_seam}
use Rattle.hex.specs.Hex.{IsBytes}
use Rattle.gb_text.specs.Digits.{IsName}
use Rattle.gb_text.specs.declared.id.Name.{Name}
use Rattle.git_object.specs.declared.entry.Mode.{Mode}
use Rattle.git_object.specs.declared.entry.Mode.TheVariants.{Plain, Exec, Link, Folder, Module}
use Rattle.git_object.specs.declared.entry.Entry.{Entry}
use Rattle.git_object.specs.Grammar.{Lacks, is_folder, mode_text, entry_text, IsEntryName, IsEntry}
use Rattle.git_object.specs.Reading.{has_entry_name, ◌>>=◌, cut_at, mode_of, is_entry_name, are_name_bytes, name_at, entry_at}
use Rattle.git_object.proofs.CutLaws.{lacks_from_any, any_from_lacks, lacks_by_test, bind_some, if_some, cut_takes, cut_again, nil_length, some_length}

-- ---- modes

pick : (text word : List ℕ) (m n : Mode) (o : Option Mode) → (mode_text m ≡ word) → (o ≡ Some n → text ≡ mode_text n) → cond (bytes_eq text word) (Some m) o ≡ Some n → text ≡ mode_text n
pick text word m n o is others e = go (bytes_eq text word) refl e
  where
    go : (b : Bool) → bytes_eq text word ≡ b → cond b (Some m) o ≡ Some n → text ≡ mode_text n
    go true t e = (bytes_eq-Decides text word).0 t ∙ sym is ∙ ap mode_text (same_Some m n e)
    go false t e = others e

mode_takes : (text : List ℕ) (n : Mode) → mode_of text ≡ Some n → text ≡ mode_text n
mode_takes text n e =
    pick text (codes "100644") Plain n _ refl (λ e. pick text (codes "100755") Exec n _ refl (λ e. pick text (codes "120000") Link n _ refl (λ e. pick text (codes "40000") Folder n _ refl (λ e. pick text (codes "160000") Module n None refl (λ e. absurd cc) e) e) e) e) e

mode_again : (m : Mode) → mode_of (mode_text m) ≡ Some m
mode_again Plain = refl
mode_again Exec = refl
mode_again Link = refl
mode_again Folder = refl
mode_again Module = refl

mode_lacks : (m : Mode) → Lacks 32 (mode_text m)
mode_lacks Plain = lacks_by_test 32 (mode_text Plain) refl
mode_lacks Exec = lacks_by_test 32 (mode_text Exec) refl
mode_lacks Link = lacks_by_test 32 (mode_text Link) refl
mode_lacks Folder = lacks_by_test 32 (mode_text Folder) refl
mode_lacks Module = lacks_by_test 32 (mode_text Module) refl

-- ---- keys by which entries are sorted

-- a folder's has a slash
pub folder_key : (name : List ℕ) (m : Mode) → m ≡ Folder → cond (is_folder m) (name ++ 47 ∷ []) name ≡ name ++ codes "/"
folder_key name Plain e = absurd cc
folder_key name Exec e = absurd cc
folder_key name Link e = absurd cc
folder_key name Folder e = refl
folder_key name Module e = absurd cc

-- any other's has none
pub other_key : (name : List ℕ) (m : Mode) → m ≢ Folder → cond (is_folder m) (name ++ 47 ∷ []) name ≡ name
other_key name Plain differs = refl
other_key name Exec differs = refl
other_key name Link differs = refl
other_key name Folder differs = absurd (differs refl)
other_key name Module differs = refl

-- ---- names of entries

entry_name_is : (name : List ℕ) → Lacks 0 name → is_entry_name name ≡ true → IsEntryName name
entry_name_is name no_zero e =
    let p = and_parts (not (eqb (length name) 0)) (not (list_any (λ x. eqb x 47) name)) e in
    record { some = nil_length name (not-true _ p.0); no_zero = no_zero; no_slash = lacks_from_any 47 name (not-true _ p.1) }

is_entry_name_again : (name : List ℕ) → IsEntryName name → is_entry_name name ≡ true
is_entry_name_again name is = rw (some_length name is.some, any_from_lacks 47 name is.no_slash) refl

-- what passes the test is the name of an entry
pub has_entry_name_is : (e : Entry) → has_entry_name e ≡ true → IsEntryName e.name
has_entry_name_is e t =
    let p = and_parts (is_entry_name e.name) (not (list_any (λ x. eqb x 0) e.name)) t in
    entry_name_is e.name (lacks_from_any 0 e.name (not-true _ p.1)) p.0

-- the name of an entry passes the test
pub has_entry_name_again : (e : Entry) → IsEntryName e.name → has_entry_name e ≡ true
has_entry_name_again e is = rw (is_entry_name_again e.name is, any_from_lacks 0 e.name is.no_zero) refl

-- ---- names of objects

small : (bytes : List ℕ) → list_all (λ b. ltb b 256) bytes ≡ true → IsBytes bytes
small [] e i = omega arith
small (b ∷ bs) e zero = ltb-true b 256 (and_parts (ltb b 256) (list_all (λ b. ltb b 256) bs) e).0
small (b ∷ bs) e (suc i) = small bs (and_parts (ltb b 256) (list_all (λ b. ltb b 256) bs) e).1 i

small_again : (bytes : List ℕ) → IsBytes bytes → list_all (λ b. ltb b 256) bytes ≡ true
small_again [] are = refl
small_again (b ∷ bs) are = rw (lt-ltb b 256 (are 0)) (small_again bs (λ i. are (suc i)))

name_bytes_are : (n : Name) → IsName n → are_name_bytes n.bytes ≡ true
name_bytes_are n is = (let sized = is.sized in rw (sized, small_again n.bytes is.bytes) refl)

name_takes : (bytes : List ℕ) (y : Name × List ℕ) → name_at bytes ≡ Some y → IsName y.0 × (bytes ≡ y.0.bytes ++ y.1)
unfolding name_at
name_takes bytes y e =
    let picked = if_some (are_name_bytes (take 20 bytes)) (record { bytes = take 20 bytes }, drop 20 bytes) y e in
    let tests = and_parts (eqb (length (take 20 bytes)) 20) (list_all (λ b. ltb b 256) (take 20 bytes)) picked.0 in
    subst (λ (w : Name × List ℕ). IsName w.0 × (bytes ≡ w.0.bytes ++ w.1)) picked.1
    (record { sized = eqb-true (length (take 20 bytes)) 20 tests.0; bytes = small (take 20 bytes) tests.1 }, sym (take-append-drop 20 bytes))

take_name : (name rest : List ℕ) → length name ≡ 20 → take 20 (name ++ rest) ≡ name
take_name name rest e = subst (λ (k : ℕ). take k (name ++ rest) ≡ name) e (take-append_seam name rest)

drop_name : (name rest : List ℕ) → length name ≡ 20 → drop 20 (name ++ rest) ≡ rest
drop_name name rest e = subst (λ (k : ℕ). drop k (name ++ rest) ≡ rest) e (drop-append_seam name rest)

name_again : (n : Name) (rest : List ℕ) → IsName n → name_at (n.bytes ++ rest) ≡ Some (n, rest)
unfolding name_at
name_again n rest is = rw (take_name n.bytes rest is.sized, drop_name n.bytes rest is.sized, name_bytes_are n is) refl

-- twenty bytes at the front are a name
pub name_here : (bytes : List ℕ) (n : Name) → IsName n → n.bytes ≡ take 20 bytes → Some (n, drop 20 bytes) ≡ name_at bytes
name_here bytes n is e = sym (ap name_at (sym (take-append-drop 20 bytes) ∙ ap (λ (front : List ℕ). front ++ drop 20 bytes) (sym e)) ∙ name_again n (drop 20 bytes) is)

-- ---- entries

apart : (mode name object rest : List ℕ) → mode ++ 32 ∷ name ++ 0 ∷ object ++ rest ≡ mode ++ 32 ∷ (name ++ 0 ∷ (object ++ rest))
apart mode name object rest = simp append_assoc

entry_made : (bytes digits after_mode after_name : List ℕ) (mode : Mode) (name : List ℕ) (object : Name × List ℕ) (y : Entry × List ℕ) → bytes ≡ digits ++ 32 ∷ after_mode → digits ≡ mode_text mode → Lacks 0 name → after_mode ≡ name ++ 0 ∷ after_name
    → IsName object.0 × (after_name ≡ object.0.bytes ++ object.1) → cond (is_entry_name name) (Some (record { mode = mode; name = name; object = object.0 }, object.1)) None ≡ Some y → IsEntry y.0 × (bytes ≡ entry_text y.0 ++ y.1)
entry_made bytes digits after_mode after_name mode name object y whole is lacks parts named chosen =
    let picked = if_some (is_entry_name name) (record { mode = mode; name = name; object = object.0 }, object.1) y chosen in
    let text : bytes ≡ mode_text mode ++ 32 ∷ name ++ 0 ∷ object.0.bytes ++ object.1 =
    whole ∙ ap (λ (v : List ℕ). v ++ 32 ∷ after_mode) is ∙ ap (λ (v : List ℕ). mode_text mode ++ 32 ∷ v) (parts ∙ ap (λ (v : List ℕ). name ++ 0 ∷ v) named.1) ∙ sym (apart (mode_text mode) name object.0.bytes object.1) in
    subst (λ (w : Entry × List ℕ). IsEntry w.0 × (bytes ≡ entry_text w.0 ++ w.1)) picked.1 (record { name = entry_name_is name lacks picked.0; object = named.0 }, text)

-- what reads as an entry is its text in front of the rest
pub entry_takes : (bytes : List ℕ) (y : Entry × List ℕ) → entry_at bytes ≡ Some y → IsEntry y.0 × (bytes ≡ entry_text y.0 ++ y.1)
unfolding entry_at
entry_takes bytes y e =
    let d = bind_some (cut_at 32 bytes) (λ digits. mode_of digits.0 >>= λ mode. cut_at 0 digits.1 >>= λ name. name_at name.1 >>= λ object. cond (is_entry_name name.0) (Some (record { mode = mode; name = name.0; object = object.0 }, object.1)) None) y e in
    let m = bind_some (mode_of d.0.0) (λ mode. cut_at 0 d.0.1 >>= λ name. name_at name.1 >>= λ object. cond (is_entry_name name.0) (Some (record { mode = mode; name = name.0; object = object.0 }, object.1)) None) y d.2 in
    let n = bind_some (cut_at 0 d.0.1) (λ name. name_at name.1 >>= λ object. cond (is_entry_name name.0) (Some (record { mode = m.0; name = name.0; object = object.0 }, object.1)) None) y m.2 in
    let o = bind_some (name_at n.0.1) (λ object. cond (is_entry_name n.0.0) (Some (record { mode = m.0; name = n.0.0; object = object.0 }, object.1)) None) y n.2 in
    entry_made bytes d.0.0 d.0.1 n.0.1 m.0 n.0.0 o.0 y (cut_takes 32 bytes d.0 d.1).parts (mode_takes d.0.0 m.0 m.1) (cut_takes 0 d.0.1 n.0 n.1).lacks (cut_takes 0 d.0.1 n.0 n.1).parts (name_takes n.0.1 o.0 o.1) o.2

-- the text of an entry reads again
pub entry_again : (e : Entry) (rest : List ℕ) → IsEntry e → entry_at (entry_text e ++ rest) ≡ Some (e, rest)
unfolding entry_at
entry_again e rest is =
    ap entry_at (apart (mode_text e.mode) e.name e.object.bytes rest)
    ∙ rw (cut_again 32 (mode_text e.mode) (e.name ++ 0 ∷ (e.object.bytes ++ rest)) (mode_lacks e.mode), mode_again e.mode, cut_again 0 e.name (e.object.bytes ++ rest) is.name.no_zero, name_again e.object rest is.object, is_entry_name_again e.name is.name)
    refl
