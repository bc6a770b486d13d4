-- No write of a pack changes a ref.
use Rattle.std.proofs.Common.{◌≡◌, ◌≢◌, inl, inr, ℕ, Bool, true, false, cond, ◌&&◌, List, [], Option, Some, None, refl, sym, ◌∙◌, ap, subst}
use Rattle.std.specs.Prelude.{not}
use Rattle.std.specs.Str.{bytes_eq}
use Rattle.std.proofs.lemmas.Slice.Eq.{bytes_eq-Decides}
use Rattle.gb_text.specs.Folder.{joined}
use Rattle.gb_text.specs.declared.id.Name.{Name}
use Rattle.gb_text.proofs.PathLemmas.{joined-rest}
use Rattle.gb_store.specs.Files.{Files, History, Put, Removed, files_of, written}
use Rattle.gb_store.specs.Moments.{AllMoments, Wrote}
use Rattle.gb_store.specs.declared.store.Change.{Change}
use Rattle.gb_store.proofs.FrameLemmas.{written-other, written-same}
use Rattle.gb_store.proofs.MomentLemmas.{AllMoments-from_Wrote}
use Rattle.packed_refs.specs.Packed.{PackedRef, head_of, is_packed, refs_in}
use Rattle.ref_store.specs.Refs.{Ref, Absent, Head, Bad, head_if, is_long, packed_at, packed_in, packed_place, reads_as_packed, ref_at, ref_of}
use Rattle.ref_store.proofs.FrameLemmas.{by_loose, ref_at-beside}
use Rattle.ref_store.proofs.IdPathLemmas.{id_place_is_not_packed}
use Rattle.ref_packing.specs.Kinds.{IsLooseRemoval, IsPackWrite, IsPackedPut, a_loose_removal, a_packed_put}
use Rattle.ref_packing.specs.Packing.{IsPlace}

-- the place of an id's ref is not that of packed refs
pub place_is_not_packed : (folder name : List ℕ) → IsPlace name → joined folder name ≢ joined folder packed_place
place_is_not_packed folder name place e =
    id_place_is_not_packed folder folder place.dir place.id place.is_id (ap (joined folder) (sym place.is_place) ∙ e)

-- the refs of a text that reads as packed refs
pub refs_of_read : (text : List ℕ) → reads_as_packed (Some text) ≡ true → packed_in (Some text) ≡ refs_in text
refs_of_read text reads = by (is_long text) refl reads
  where
    by : (b : Bool) → is_long text ≡ b → reads_as_packed (Some text) ≡ true → packed_in (Some text) ≡ refs_in text
    by false at reads = ap (λ (b : Bool). cond b [] (refs_in text)) at
    by true at reads = absurd (let is : reads_as_packed (Some text) ≡ false = ap (λ (b : Bool). not b && is_packed text) at in cc (reads, is))

module _ (folder : List ℕ) (files : Files) (change : Change) (path : List ℕ) where
  -- the packed refs are put
  put_keeps : IsPackedPut folder files change → path ≢ packed_place → ref_at (written files change) folder path ≡ ref_at files folder path
  put_keeps put other = by (ref_of (files (joined folder path))) refl
    where
      loose : written files change (joined folder path) ≡ files (joined folder path)
      loose = written-other files change (joined folder path) (λ same. other (sym (joined-rest folder packed_place path (sym (ap (λ (c : Change). c.path) put.write) ∙ same))))

      packed : packed_at (written files change) folder ≡ refs_in put.text
      packed =
          ap packed_in (ap (λ (c : Change). written files c (joined folder packed_place)) put.write ∙ written-same files (Put (joined folder packed_place) put.text))
          ∙ refs_of_read put.text put.reads

      some : (o : Option Name) (head : Name) → head_if o ≡ Head head → o ≡ Some head
      some None head e = absurd cc
      some (Some name) head e = cc

      heads : ref_of (files (joined folder path)) ≡ Absent → (before then : Option Name) → head_of path (packed_at files folder) ≡ before → head_of path (refs_in put.text) ≡ then → then ≡ before
      heads absent None None at is = refl
      heads absent (Some head) None at is = (let now = put.kept path head at in absurd (cc (is, now.1)))
      heads absent before (Some head) at is = elim (put.heads path head is) [
        | inl ref ↦ sym (some before head (ap head_if (sym at) ∙ sym (by_loose files folder path Absent absent) ∙ ref))
        | inr was ↦ sym was ∙ at
      ]

      by : (ref : Ref) → ref_of (files (joined folder path)) ≡ ref → ref_at (written files change) folder path ≡ ref_at files folder path
      by Absent at =
          by_loose (written files change) folder path Absent (ap ref_of loose ∙ at)
          ∙ ap (λ (refs : List PackedRef). head_if (head_of path refs)) packed
          ∙ ap head_if (heads at (head_of path (packed_at files folder)) (head_of path (refs_in put.text)) refl refl)
          ∙ sym (by_loose files folder path Absent at)
      by (Head name) at = by_loose (written files change) folder path (Head name) (ap ref_of loose ∙ at) ∙ sym (by_loose files folder path (Head name) at)
      by Bad at = by_loose (written files change) folder path Bad (ap ref_of loose ∙ at) ∙ sym (by_loose files folder path Bad at)

  -- a loose ref is removed
  removal_keeps : IsLooseRemoval folder files change → ref_at (written files change) folder path ≡ ref_at files folder path
  removal_keeps is = by (bytes_eq is.name path) refl
    where
      at_path : change.path ≡ joined folder is.name
      at_path = ap (λ (c : Change). c.path) is.write

      gone : written files change (joined folder is.name) ≡ None
      gone = ap (λ (c : Change). written files c (joined folder is.name)) is.write ∙ written-same files (Removed (joined folder is.name))

      packed : packed_at (written files change) folder ≡ packed_at files folder
      packed = ap packed_in (written-other files change (joined folder packed_place) (λ same. place_is_not_packed folder is.name is.place (sym at_path ∙ same)))

      same_name : ref_at (written files change) folder is.name ≡ ref_at files folder is.name
      same_name =
          by_loose (written files change) folder is.name Absent (ap ref_of gone)
          ∙ ap (λ (refs : List PackedRef). head_if (head_of is.name refs)) packed
          ∙ ap head_if is.is_packed
          ∙ sym (by_loose files folder is.name (Head is.head) is.is_loose)

      by : (b : Bool) → bytes_eq is.name path ≡ b → ref_at (written files change) folder path ≡ ref_at files folder path
      by true at = subst (λ (p : List ℕ). ref_at (written files change) folder p ≡ ref_at files folder p) ((bytes_eq-Decides is.name path).0 at) same_name
      by false at =
          ref_at-beside files change folder is.name path at_path (λ same. let yes = (bytes_eq-Decides is.name path).1 same in cc (at, yes))
          (λ same. place_is_not_packed folder is.name is.place (ap (joined folder) same))

  pub write_keeps : IsPackWrite folder files change → path ≢ packed_place → ref_at (written files change) folder path ≡ ref_at files folder path
  write_keeps (a_packed_put put) other = put_keeps put other
  write_keeps (a_loose_removal is) other = removal_keeps is

-- so each ref has its head at every moment
pub moments_keep : (folder : List ℕ) (old new : History) (path : List ℕ) → Wrote (IsPackWrite folder) old new → path ≢ packed_place
    → AllMoments (λ files. ref_at files folder path ≡ ref_at (files_of old) folder path) old new
moments_keep folder old new path wrote other =
    AllMoments-from_Wrote (IsPackWrite folder) (λ files. ref_at files folder path ≡ ref_at (files_of old) folder path)
    (λ files change good may. write_keeps folder files change path may other ∙ good) old new refl wrote
