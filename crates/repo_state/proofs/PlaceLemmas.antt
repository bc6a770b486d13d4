-- Places below a folder: which of them are never the same.
use Rattle.std.proofs.lemmas.Bool.{and_parts}
use Rattle.std.proofs.lemmas.Option.{same_Some}
use Rattle.std.proofs.Common.{◌≡◌, ◌≢◌, ◌⊎◌, inl, inr, ℕ, Bool, true, false, List, [], ◌∷◌, ◌++◌, codes, refl, sym, ◌∙◌, ap, append_assoc, arith}
use Rattle.std.proofs.lemmas.List.{append_cancel_left}
use Rattle.std.specs.List.{list_all}
use Rattle.std.specs.Prelude.{slice_index}
use Rattle.std.specs.Str.{bytes_eq}
use Rattle.std.proofs.lemmas.Slice.Eq.{bytes_eq-Decides}
use Rattle.hex.specs.Hex.{encode_lower}
use Rattle.gb_text.specs.Digits.{IsId}
use Rattle.gb_text.specs.Folder.{joined}
use Rattle.gb_text.specs.declared.id.Id.{Id}
use Rattle.gb_text.specs.declared.id.Name.{Name}
use Rattle.gb_store.specs.ObjectPath.{object_place}
use Rattle.excerpt_cache.specs.Rows.{row_place}
use Rattle.git_object.specs.Grammar.{Lacks}
use Rattle.git_object.specs.Reading.{cut_at}
use Rattle.git_object.proofs.CutLaws.{cut_again}
use Rattle.ref_store.specs.Refs.{packed_place}
use Rattle.ref_store.proofs.MapLemmas.{joined-same}
use Rattle.repo_state.specs.Clocks.{clock_place}
use Rattle.remote_name.specs.RemoteTexts.{is_remote_byte}
use Rattle.repo_state.specs.Sides.{dir_of, ref_place}
use Rattle.repo_state.specs.Users.{user_place}
use Rattle.repo_state.specs.declared.clocks.ClockFile.{ClockFile}
use Rattle.repo_state.specs.declared.clocks.ClockFile.TheVariants as clock
use Rattle.remote_name.specs.declared.remote.RemoteName.{RemoteName}
use Rattle.repo_state.specs.declared.side.Side.{Side}
use Rattle.repo_state.specs.declared.side.Side.TheVariants as side
use Rattle.remote_name.proofs.RemoteLemmas.{bytes_of_remote, one_remote}
use Rattle.gb_text.proofs.DigitLemmas.{id_digits-same}

-- two paths are the same or not
pub same_or_other : (one two : List ℕ) → (one ≡ two) ⊎ (one ≢ two)
same_or_other one two = decide (bytes_eq one two) refl
  where
    decide : (b : Bool) → bytes_eq one two ≡ b → (one ≡ two) ⊎ (one ≢ two)
    decide true h = inl ((bytes_eq-Decides one two).0 h)
    decide false h = inr (λ e. cc (sym h ∙ (bytes_eq-Decides one two).1 e))

-- places that differ in a byte stand at paths that differ
apart : (folder one two : List ℕ) (k : ℕ) → slice_index one k ≢ slice_index two k → joined folder one ≢ joined folder two
apart folder one two k differ e = differ (ap (λ (place : List ℕ). slice_index place k) (joined-same folder one two e))

-- a ref and an object
pub ref-not_object : (folder : List ℕ) (of : Side) (id : Id) (name : Name) → joined folder (ref_place of id) ≢ joined folder (object_place name)
ref-not_object folder side.Bugs id name = apart folder (ref_place side.Bugs id) (object_place name) 0 (λ e. omega arith)
ref-not_object folder side.Identities id name = apart folder (ref_place side.Identities id) (object_place name) 0 (λ e. omega arith)
ref-not_object folder (side.RemoteBugs remote) id name = apart folder (ref_place (side.RemoteBugs remote) id) (object_place name) 0 (λ e. omega arith)
ref-not_object folder (side.RemoteIdentities remote) id name = apart folder (ref_place (side.RemoteIdentities remote) id) (object_place name) 0 (λ e. omega arith)

-- a ref and the user
pub ref-not_user : (folder : List ℕ) (of : Side) (id : Id) → joined folder (ref_place of id) ≢ joined folder user_place
ref-not_user folder side.Bugs id = apart folder (ref_place side.Bugs id) user_place 0 (λ e. omega arith)
ref-not_user folder side.Identities id = apart folder (ref_place side.Identities id) user_place 0 (λ e. omega arith)
ref-not_user folder (side.RemoteBugs remote) id = apart folder (ref_place (side.RemoteBugs remote) id) user_place 0 (λ e. omega arith)
ref-not_user folder (side.RemoteIdentities remote) id = apart folder (ref_place (side.RemoteIdentities remote) id) user_place 0 (λ e. omega arith)

-- the user and an object
pub user-not_object : (folder : List ℕ) (name : Name) → joined folder user_place ≢ joined folder (object_place name)
user-not_object folder name = apart folder user_place (object_place name) 0 (λ e. omega arith)

-- a clock and an object
pub clock-not_object : (folder : List ℕ) (which : ClockFile) (name : Name) → joined folder (clock_place which) ≢ joined folder (object_place name)
clock-not_object folder clock.BugsCreate name = apart folder (clock_place clock.BugsCreate) (object_place name) 0 (λ e. omega arith)
clock-not_object folder clock.BugsEdit name = apart folder (clock_place clock.BugsEdit) (object_place name) 0 (λ e. omega arith)

-- a clock and the user
pub clock-not_user : (folder : List ℕ) (which : ClockFile) → joined folder (clock_place which) ≢ joined folder user_place
clock-not_user folder clock.BugsCreate = apart folder (clock_place clock.BugsCreate) user_place 8 (λ e. omega arith)
clock-not_user folder clock.BugsEdit = apart folder (clock_place clock.BugsEdit) user_place 8 (λ e. omega arith)

-- the places of clocks begin alike
clock-first : (which : ClockFile) → slice_index (clock_place which) 0 ≡ 103
clock-first clock.BugsCreate = refl
clock-first clock.BugsEdit = refl

-- a ref and a clock
pub ref-not_clock : (folder : List ℕ) (of : Side) (id : Id) (which : ClockFile) → joined folder (ref_place of id) ≢ joined folder (clock_place which)
ref-not_clock folder side.Bugs id which = apart folder (ref_place side.Bugs id) (clock_place which) 0 (λ e. omega (arith, e ∙ clock-first which))
ref-not_clock folder side.Identities id which = apart folder (ref_place side.Identities id) (clock_place which) 0 (λ e. omega (arith, e ∙ clock-first which))
ref-not_clock folder (side.RemoteBugs remote) id which = apart folder (ref_place (side.RemoteBugs remote) id) (clock_place which) 0 (λ e. omega (arith, e ∙ clock-first which))
ref-not_clock folder (side.RemoteIdentities remote) id which = apart folder (ref_place (side.RemoteIdentities remote) id) (clock_place which) 0 (λ e. omega (arith, e ∙ clock-first which))

-- two clocks
pub clock-other : (folder : List ℕ) (one two : ClockFile) → one ≢ two → joined folder (clock_place one) ≢ joined folder (clock_place two)
clock-other folder clock.BugsCreate clock.BugsCreate differ = absurd (differ refl)
clock-other folder clock.BugsCreate clock.BugsEdit differ = apart folder (clock_place clock.BugsCreate) (clock_place clock.BugsEdit) 20 (λ e. omega arith)
clock-other folder clock.BugsEdit clock.BugsCreate differ = apart folder (clock_place clock.BugsEdit) (clock_place clock.BugsCreate) 20 (λ e. omega arith)
clock-other folder clock.BugsEdit clock.BugsEdit differ = absurd (differ refl)

-- a row and an object
pub row-not_object : (folder : List ℕ) (id : Id) (name : Name) → joined folder (row_place id) ≢ joined folder (object_place name)
row-not_object folder id name = apart folder (row_place id) (object_place name) 0 (λ e. omega arith)

-- a row and the user
pub row-not_user : (folder : List ℕ) (id : Id) → joined folder (row_place id) ≢ joined folder user_place
row-not_user folder id = apart folder (row_place id) user_place 8 (λ e. omega arith)

-- a row and a clock
pub row-not_clock : (folder : List ℕ) (id : Id) (which : ClockFile) → joined folder (row_place id) ≢ joined folder (clock_place which)
row-not_clock folder id clock.BugsCreate = apart folder (row_place id) (clock_place clock.BugsCreate) 9 (λ e. omega arith)
row-not_clock folder id clock.BugsEdit = apart folder (row_place id) (clock_place clock.BugsEdit) 9 (λ e. omega arith)

-- a ref and a row
pub ref-not_row : (folder : List ℕ) (of : Side) (id other : Id) → joined folder (ref_place of id) ≢ joined folder (row_place other)
ref-not_row folder side.Bugs id other = apart folder (ref_place side.Bugs id) (row_place other) 0 (λ e. omega arith)
ref-not_row folder side.Identities id other = apart folder (ref_place side.Identities id) (row_place other) 0 (λ e. omega arith)
ref-not_row folder (side.RemoteBugs remote) id other = apart folder (ref_place (side.RemoteBugs remote) id) (row_place other) 0 (λ e. omega arith)
ref-not_row folder (side.RemoteIdentities remote) id other = apart folder (ref_place (side.RemoteIdentities remote) id) (row_place other) 0 (λ e. omega arith)

-- packed refs and a ref
pub ref-not_packed : (folder : List ℕ) (of : Side) (id : Id) → joined folder (ref_place of id) ≢ joined folder packed_place
ref-not_packed folder side.Bugs id = apart folder (ref_place side.Bugs id) packed_place 0 (λ e. omega arith)
ref-not_packed folder side.Identities id = apart folder (ref_place side.Identities id) packed_place 0 (λ e. omega arith)
ref-not_packed folder (side.RemoteBugs remote) id = apart folder (ref_place (side.RemoteBugs remote) id) packed_place 0 (λ e. omega arith)
ref-not_packed folder (side.RemoteIdentities remote) id = apart folder (ref_place (side.RemoteIdentities remote) id) packed_place 0 (λ e. omega arith)

-- packed refs and an object
pub object-not_packed : (folder : List ℕ) (name : Name) → joined folder (object_place name) ≢ joined folder packed_place
object-not_packed folder name = apart folder (object_place name) packed_place 0 (λ e. omega arith)

-- packed refs and the user
pub user-not_packed : (folder : List ℕ) → joined folder user_place ≢ joined folder packed_place
user-not_packed folder = apart folder user_place packed_place 0 (λ e. omega arith)

-- packed refs and a clock
pub clock-not_packed : (folder : List ℕ) (which : ClockFile) → joined folder (clock_place which) ≢ joined folder packed_place
clock-not_packed folder which = apart folder (clock_place which) packed_place 0 (λ e. omega (arith, sym (clock-first which) ∙ e))

-- packed refs and a row
pub row-not_packed : (folder : List ℕ) (id : Id) → joined folder (row_place id) ≢ joined folder packed_place
row-not_packed folder id = apart folder (row_place id) packed_place 0 (λ e. omega arith)

-- the refs of one side stand at one place only for one id
pub ref_place-same : (of : Side) (one two : Id) → IsId one → IsId two → ref_place of one ≡ ref_place of two → one ≡ two
ref_place-same of one two first second e =
    let tail : 47 ∷ encode_lower one.bytes ≡ 47 ∷ encode_lower two.bytes = append_cancel_left (dir_of of) (47 ∷ encode_lower one.bytes) (47 ∷ encode_lower two.bytes) e in
    id_digits-same one two first second cc

-- ---- two sides

-- the name of a remote has no slash
remote-lacks : (remote : RemoteName) → Lacks 47 remote.text
remote-lacks remote = each remote.text (bytes_of_remote remote)
  where
    each : (cs : List ℕ) → list_all is_remote_byte cs ≡ true → Lacks 47 cs
    each [] all = tt
    each (c ∷ cs) all =
        let parts = and_parts (is_remote_byte c) (list_all is_remote_byte cs) all in
        ((λ e. cc (sym parts.0 ∙ ap is_remote_byte e)), each cs parts.1)

-- refs of remotes stand at one place only for one remote, and below one dir of it
remotes-same : (one two : RemoteName) (kind other x y : List ℕ)
    → ((codes "refs/remotes/" ++ one.text) ++ 47 ∷ kind) ++ x ≡ ((codes "refs/remotes/" ++ two.text) ++ 47 ∷ other) ++ y → (one ≡ two) × (kind ++ x ≡ other ++ y)
remotes-same one two kind other x y e =
    let tails : one.text ++ 47 ∷ (kind ++ x) ≡ two.text ++ 47 ∷ (other ++ y) =
    append_cancel_left (codes "refs/remotes/") (one.text ++ 47 ∷ (kind ++ x)) (two.text ++ 47 ∷ (other ++ y)) (sym (spelled one.text kind x) ∙ e ∙ spelled two.text other y) in
    let cuts : ◌≡◌ {A = List ℕ × List ℕ} (one.text, kind ++ x) (two.text, other ++ y) =
    same_Some _ _ (sym (cut_again 47 one.text (kind ++ x) (remote-lacks one)) ∙ ap (cut_at 47) tails ∙ cut_again 47 two.text (other ++ y) (remote-lacks two)) in
    (one_remote one two (ap (λ (cut : List ℕ × List ℕ). cut.0) cuts), ap (λ (cut : List ℕ × List ℕ). cut.1) cuts)
  where
    spelled : (remote kind x : List ℕ) → ((codes "refs/remotes/" ++ remote) ++ 47 ∷ kind) ++ x ≡ codes "refs/remotes/" ++ (remote ++ 47 ∷ (kind ++ x))
    spelled remote kind x = simp append_assoc

-- the refs of two sides stand at no one place
pub ref_place-side : (one two : Side) (id other : Id) → ref_place one id ≡ ref_place two other → one ≡ two
ref_place-side side.Bugs side.Bugs id other e = refl
ref_place-side side.Identities side.Identities id other e = refl
ref_place-side (side.RemoteBugs one) (side.RemoteBugs two) id other e =
    ap side.RemoteBugs (remotes-same one two (codes "bugs") (codes "bugs") (47 ∷ encode_lower id.bytes) (47 ∷ encode_lower other.bytes) e).0
ref_place-side (side.RemoteIdentities one) (side.RemoteIdentities two) id other e =
    ap side.RemoteIdentities (remotes-same one two (codes "identities") (codes "identities") (47 ∷ encode_lower id.bytes) (47 ∷ encode_lower other.bytes) e).0
ref_place-side (side.RemoteBugs one) (side.RemoteIdentities two) id other e =
    absurd (omega (arith, ap (λ (rest : List ℕ). slice_index rest 0) (remotes-same one two (codes "bugs") (codes "identities") (47 ∷ encode_lower id.bytes) (47 ∷ encode_lower other.bytes) e).1))
ref_place-side (side.RemoteIdentities one) (side.RemoteBugs two) id other e =
    absurd (omega (arith, ap (λ (rest : List ℕ). slice_index rest 0) (remotes-same one two (codes "identities") (codes "bugs") (47 ∷ encode_lower id.bytes) (47 ∷ encode_lower other.bytes) e).1))
ref_place-side one two id other e = absurd (omega (arith, ap (λ (place : List ℕ). slice_index place 5) e))
