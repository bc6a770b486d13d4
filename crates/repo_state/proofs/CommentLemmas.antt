-- What an argument finds of the comments of a folder is one thing.
use Rattle.std.proofs.Common.{◌≡◌, ◌⊎◌, inl, inr, ℕ, false, List, refl, sym, ◌∙◌, ap, subst}
use Rattle.gb_text.specs.Folder.{joined}
use Rattle.gb_text.specs.declared.id.Id.{Id}
use Rattle.gb_store.specs.Files.{Files}
use Rattle.combined_id.specs.Lookup.{is_below}
use Rattle.combined_id.proofs.OrderLemmas.{below-neither, below-trans}
use Rattle.bug_ops.specs.declared.op.BugOp.{BugOp}
use Rattle.dag_entity.specs.declared.entity.Entity.{Entity}
use Rattle.repo_state.specs.Bugs.{IsDamagedBug}
use Rattle.repo_state.specs.Comments.{AllSoughtAreWhole, AreLeastIds, FindsComment, FindsNoComment, HasDamagedBug, IsIdOf, IsSought, IsWholeBug, comment_finder}
use Rattle.repo_state.specs.Finds.{IsDetermined}
use Rattle.repo_state.specs.Sides.{ref_place}
use Rattle.repo_state.specs.Sound.{IsSound}
use Rattle.repo_state.specs.declared.comments.CommentEntry.{CommentEntry}
use Rattle.repo_state.specs.declared.side.Side.TheVariants as side
use Rattle.repo_state.specs.declared.stop.Missed.{Missed}
use Rattle.repo_state.specs.declared.stop.Missed.TheVariants as missed
use Rattle.repo_state.proofs.FittingLemmas.{one_id}
use Rattle.repo_state.proofs.ListingLemmas.{one_first}
use Rattle.repo_state.proofs.SeekLemmas.{whole_not_damaged}
use Rattle.repo_state.proofs.UndamagedLemmas.{no_bad_bug}

-- ---- the two least

module _ {files : Files} {folder word : List ℕ} where
  -- of two pairs of least ids the lesser of one is not above the greater of the other, unless both begin with one comment
  ends_same : (a b c d : Id) → (one : AreLeastIds files folder word a b) → (two : AreLeastIds files folder word c d) → one.one ≡ two.one → (a ≡ c) × (is_below d b ≡ false)
  ends_same a b c d one two same = (
    one_id two.one a c (subst (λ (x : CommentEntry). IsIdOf x a) same one.is_first) two.is_first,
    elim (one.above two.two d two.fits_two two.is_second) [
      | inl first ↦ absurd (two.differ (sym (first ∙ same)))
      | inr not ↦ not
    ],
  )

  pub one_pair : (a b c d : Id) → AreLeastIds files folder word a b → AreLeastIds files folder word c d → (a ≡ c) × (b ≡ d)
  one_pair a b c d one two = each (one.above two.one c two.fits_one two.is_first) (two.above one.one a one.fits_one one.is_first)
    where
      same_first : one.one ≡ two.one → (a ≡ c) × (b ≡ d)
      same_first same =
          let ends = ends_same a b c d one two same in
          let back = ends_same c d a b two one (sym same) in
          (ends.0, below-neither b d back.1 ends.1)

      -- neither is first in the other: then all four are one id
      each : (two.one ≡ one.one) ⊎ (is_below c b ≡ false) → (one.one ≡ two.one) ⊎ (is_below a d ≡ false) → (a ≡ c) × (b ≡ d)
      each (inl same) other = same_first (sym same)
      each (inr low) (inl same) = same_first same
      each (inr low) (inr high) =
          let d_from_b = below-trans b c d low two.ordered in
          let b_from_d = below-trans d a b high one.ordered in
          let c_from_a = below-trans a b c one.ordered low in
          let a_from_c = below-trans c d a two.ordered high in
          (below-neither a c a_from_c c_from_a, below-neither b d b_from_d d_from_b)

-- ---- a comment is found or not

-- one that is found has its bug's entity
pub found_comment_entity : {files : Files} {folder word : List ℕ} {c : CommentEntry} → FindsComment files folder word c → (entity : Entity BugOp) × IsWholeBug files folder c.bug entity
found_comment_entity found = (found.fits.entity, found.fits.is)

module _ (files : Files) (folder word : List ℕ) where
  -- where each bug that is read is whole none is damaged
  none_damaged : AllSoughtAreWhole files folder word → (path : List ℕ) → HasDamagedBug files folder word path → ⊥
  none_damaged all path (id, first, at) =
      let whole = all id first.is_so.0 in
      whole_not_damaged files folder whole.0 whole.2 whole.3 (subst (IsDamagedBug files folder) (sym whole.1) first.is_so.1)

  comment_apart : (c : CommentEntry) (why : Missed) → FindsComment files folder word c → FindsNoComment files folder word why → ⊥
  comment_apart c missed.NotFound found none = none.1 c found.fits
  comment_apart c (missed.Ambiguous first second) found many =
      let l = many.1 in
      l.differ (found.no_other l.one l.fits_one ∙ sym (found.no_other l.two l.fits_two))
  comment_apart c (missed.Damaged path) found damaged = none_damaged found.all path damaged

  one_damaged : (one two : List ℕ) → HasDamagedBug files folder word one → HasDamagedBug files folder word two → one ≡ two
  one_damaged one two (id, first, at) (other, also, there) =
      at ∙ ap (λ (x : Id). joined folder (ref_place side.Bugs x)) (one_first (λ x. IsSought files folder word x × IsDamagedBug files folder x) id other first also) ∙ sym there

  one_why : (one two : Missed) → FindsNoComment files folder word one → FindsNoComment files folder word two → one ≡ two
  one_why missed.NotFound missed.NotFound first second = refl
  one_why missed.NotFound (missed.Ambiguous a b) first second = absurd (first.1 second.1.one second.1.fits_one)
  one_why missed.NotFound (missed.Damaged path) first second = absurd (none_damaged first.0 path second)
  one_why (missed.Ambiguous a b) missed.NotFound first second = absurd (second.1 first.1.one first.1.fits_one)
  one_why (missed.Ambiguous a b) (missed.Ambiguous c d) first second =
      let both = one_pair a b c d first.1 second.1 in
      λ i. missed.Ambiguous (both.0 i) (both.1 i)
  one_why (missed.Ambiguous a b) (missed.Damaged path) first second = absurd (none_damaged first.0 path second)
  one_why (missed.Damaged path) missed.NotFound first second = absurd (none_damaged second.0 path first)
  one_why (missed.Damaged path) (missed.Ambiguous a b) first second = absurd (none_damaged second.0 path first)
  one_why (missed.Damaged path) (missed.Damaged other) first second = ap missed.Damaged (one_damaged path other first second)

  -- a comment is found, or is not in one way, and never both
  pub comment_finder_is_determined : IsDetermined (comment_finder files folder word)
  comment_finder_is_determined = record {
    one = λ c other found also. also.no_other c found.fits;
    apart = comment_apart;
    same = one_why;
  }

-- in a sound folder no bug that is read is damaged
pub no_damaged_comment : (folder : List ℕ) (files : Files) → IsSound folder files → (word path : List ℕ) → FindsNoComment files folder word (missed.Damaged path) → ⊥
no_damaged_comment folder files sound word path (id, first, at) = no_bad_bug folder files sound id first.is_id first.is_so.1
