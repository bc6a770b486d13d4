-- No place of a folder begins with a slash or holds a dot.
use Rattle.std.proofs.Common.{◌≡◌, ℕ, ◌==◌, Bool, true, false, not, List, [], ◌∷◌, ◌++◌, codes, take, drop, refl, sym, ◌∙◌, ap}
use Rattle.std.specs.List.{list_all}
use Rattle.std.proofs.lemmas.Bool.{and_from, and_parts}
use Rattle.std.proofs.lemmas.Bool.Decides.{Decides-eqb}
use Rattle.std.proofs.lemmas.List.{take-append-drop}
use Rattle.std.proofs.lemmas.List.Folds.{list_all-append}
use Rattle.hex.specs.Hex.{IsBytes, encode_lower, is_hex_digit}
use Rattle.gb_text.specs.Digits.{IsName}
use Rattle.gb_text.specs.Folder.{is_rooted}
use Rattle.gb_text.specs.declared.id.Name.{Name}
use Rattle.gb_text.proofs.AsciiLemmas.{encode_lower-digits}
use Rattle.gb_store.specs.ObjectPath.{object_place}
use Rattle.repo_state.specs.Sides.{dir_of}
use Rattle.repo_state.specs.declared.clocks.ClockFile.TheVariants as file
use Rattle.repo_state.specs.declared.side.Side.{Side}
use Rattle.repo_state.specs.declared.side.Side.TheVariants as side
use Rattle.remote_name.proofs.RemoteLemmas.{bytes_of_remote}
use Rattle.repo_writes.specs.Kinds.{IsPlace, a_clock_place, a_ref_place, a_row_place, an_object_place, is_dotless, the_user_place}

-- where a rule that holds of no dot holds of each character, none is a dot
by_rule : (rule : ℕ → Bool) → rule 46 ≡ false → (text : List ℕ) → list_all rule text ≡ true → is_dotless text ≡ true
by_rule rule dot [] all = refl
by_rule rule dot (c ∷ text) all =
    let here = and_parts (rule c) (list_all rule text) all in
    and_from (not (c == 46)) (is_dotless text) (each (c == 46) refl here.0) (by_rule rule dot text here.1)
  where
    each : (b : Bool) → (c == 46) ≡ b → rule c ≡ true → not b ≡ true
    each true e holds = let same : c ≡ 46 = (Decides-eqb c 46).0 e in absurd (cc (sym holds ∙ ap rule same ∙ dot))
    each false e holds = refl

-- a text is dotless where both its parts are, and only there
joined : (xs ys : List ℕ) → is_dotless xs ≡ true → is_dotless ys ≡ true → is_dotless (xs ++ ys) ≡ true
joined xs ys one two = list_all-append (λ c. not (c == 46)) xs ys ∙ and_from (is_dotless xs) (is_dotless ys) one two

parted : (xs ys : List ℕ) → is_dotless (xs ++ ys) ≡ true → (is_dotless xs ≡ true) × (is_dotless ys ≡ true)
parted xs ys is = and_parts (is_dotless xs) (is_dotless ys) (sym (list_all-append (λ c. not (c == 46)) xs ys) ∙ is)

digits_dotless : (bytes : List ℕ) → IsBytes bytes → is_dotless (encode_lower bytes) ≡ true
digits_dotless bytes are = by_rule is_hex_digit refl (encode_lower bytes) (encode_lower-digits bytes are)

object_dotless : (name : Name) → IsName name → is_dotless (object_place name) ≡ true
object_dotless name is =
    let digits = encode_lower name.bytes in
    let both = parted (take 2 digits) (drop 2 digits) (ap is_dotless (take-append-drop 2 digits) ∙ digits_dotless name.bytes is.bytes) in
    joined (codes "objects/" ++ take 2 digits ++ codes "/") (drop 2 digits)
    (joined (codes "objects/" ++ take 2 digits) (codes "/") (joined (codes "objects/") (take 2 digits) refl both.0) refl) both.1

dir_dotless : (of : Side) → is_dotless (dir_of of) ≡ true
dir_dotless side.Bugs = refl
dir_dotless side.Identities = refl
dir_dotless (side.RemoteBugs remote) =
    joined (codes "refs/remotes/" ++ remote.text) (codes "/bugs") (joined (codes "refs/remotes/") remote.text refl (by_rule _ refl remote.text (bytes_of_remote remote))) refl
dir_dotless (side.RemoteIdentities remote) =
    joined (codes "refs/remotes/" ++ remote.text) (codes "/identities") (joined (codes "refs/remotes/") remote.text refl (by_rule _ refl remote.text (bytes_of_remote remote))) refl

-- the places of writes hold no dot
pub place_dotless : (place : List ℕ) → IsPlace place → is_dotless place ≡ true
place_dotless place (an_object_place name is) = object_dotless name is
place_dotless place (a_ref_place of id is) = joined (dir_of of) (47 ∷ encode_lower id.bytes) (dir_dotless of) (digits_dotless id.bytes is.bytes)
place_dotless place the_user_place = refl
place_dotless place (a_clock_place file.BugsCreate) = refl
place_dotless place (a_clock_place file.BugsEdit) = refl
place_dotless place (a_row_place id is) = joined (codes "git-bug/cache/bugs/") (encode_lower id.bytes) refl (digits_dotless id.bytes is.bytes)

-- no place begins with a slash
pub place_plain : (place : List ℕ) → IsPlace place → is_rooted place ≡ false
place_plain place (an_object_place name is) = refl
place_plain place (a_ref_place side.Bugs id is) = refl
place_plain place (a_ref_place side.Identities id is) = refl
place_plain place (a_ref_place (side.RemoteBugs remote) id is) = refl
place_plain place (a_ref_place (side.RemoteIdentities remote) id is) = refl
place_plain place the_user_place = refl
place_plain place (a_clock_place file.BugsCreate) = refl
place_plain place (a_clock_place file.BugsEdit) = refl
place_plain place (a_row_place id is) = refl
