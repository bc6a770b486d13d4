-- An argument fits the comments whose first digits it is, and a longer one fits fewer.
use Rattle.std.proofs.Common.{◌≡◌, ◌≢◌, ◌≤◌, ◌+◌, ◌&&◌, ◌↔◌, IsTrue, ℕ, zero, suc, nat_le, Bool, true, false, List, [], ◌∷◌, ◌++◌, length, take, take-take, take_all, drop, Contains, refl, sym, ◌∙◌, ap, subst, arith, le-leb, length-append}
use Rattle.std.specs.List.{list_all}
use Rattle.std.proofs.lemmas.Bool.{and_from, and_parts}
use Rattle.std.proofs.lemmas.Grind.{common_steps}
use Rattle.std.proofs.lemmas.List.Folds.{list_all-append}
use Rattle.hex.specs.Hex.{encode_lower}
use Rattle.gb_text.specs.Digits.{IsId}
use Rattle.gb_text.specs.Prefix.{begins_with}
use Rattle.gb_text.specs.PrefixText.{is_lower_digit, is_prefix_text}
use Rattle.gb_text.specs.declared.id.Id.{Id}
use Rattle.gb_text.proofs.PrefixLemmas.{begins_with-take, id_digits-sized, take-begins_with}
use Rattle.gb_store.specs.Files.{Files}
use Rattle.combined_id.specs.Combined.{combined_from, digits_at, is_second}
use Rattle.combined_id.proofs.CombinedLemmas.{combined_bytes, first_place, second_place}
use Rattle.combined_id.proofs.FrontLemmas.{Suffice, counted, is_first, other}
use Rattle.combined_id.proofs.PartLemmas.{parts_agree}
use Rattle.combined_id.proofs.SplitLemmas.{digits_at-append}
use Rattle.bug_ops.specs.Kind.{bug_kind}
use Rattle.bug_ops.specs.declared.op.BugOp.{BugOp}
use Rattle.dag_entity.specs.Entities.{ops_in}
use Rattle.dag_entity.specs.declared.entity.Entity.{Entity}
use Rattle.repo_state.specs.Comments.{AllSoughtAreWhole, FindsComment, FindsNoComment, FitsComment, IsSought, IsWholeBug, bug_digits, comment_digits, comment_ids}
use Rattle.repo_state.specs.Sides.{has_ref, is_there}
use Rattle.repo_state.specs.declared.comments.CommentEntry.{CommentEntry}
use Rattle.repo_state.specs.declared.side.Side.TheVariants as side
use Rattle.repo_state.specs.declared.stop.Missed.TheVariants as missed
use Rattle.repo_state.proofs.WordLemmas.{at_least_one, front_is_prefix, not_empty, take_front}

-- ---- the digits of a comment

-- of enough digits as many places are filled
long_combined : (count place : ℕ) (one two : List ℕ) → Suffice is_first count place one → Suffice is_second count place two → length (combined_from count place one two) ≡ count
unfolding combined_from
long_combined zero place one two first second = refl
long_combined (suc count) place one two first second = decide (is_second place) refl one two first second (long_combined count (suc place))
  where
    decide : (b : Bool) → is_second place ≡ b → (one two : List ℕ) → Suffice is_first (suc count) place one → Suffice is_second (suc count) place two
        → ((one two : List ℕ) → Suffice is_first count (suc place) one → Suffice is_second count (suc place) two → length (combined_from count (suc place) one two) ≡ count)
        → length (combined_from (suc count) place one two) ≡ suc count
    decide true h one [] first second more = absurd (let n = counted is_second count place true h in omega (arith, n, second))
    decide true h one (t ∷ ts) first second more =
        let n = counted is_second count place true h in
        let m = counted is_first count place false (other place true h) in
        rw (second_place count place one (t ∷ ts) h) (ap suc (more one ts (omega (arith, m, first)) (omega (arith, n, second))))
    decide false h [] two first second more = absurd (let m = counted is_first count place true (other place false h) in omega (arith, m, first))
    decide false h (t ∷ ts) two first second more =
        let n = counted is_second count place false h in
        let m = counted is_first count place true (other place false h) in
        rw (first_place count place (t ∷ ts) two h) (ap suc (more ts two (omega (arith, m, first)) (omega (arith, n, second))))

-- and never more
few_combined : (count place : ℕ) (one two : List ℕ) → length (combined_from count place one two) ≤ count
unfolding combined_from
few_combined zero place one two = omega arith
few_combined (suc count) place one two = decide (is_second place) refl one two (few_combined count (suc place))
  where
    decide : (b : Bool) → is_second place ≡ b → (one two : List ℕ) → ((one two : List ℕ) → length (combined_from count (suc place) one two) ≤ count)
        → length (combined_from (suc count) place one two) ≤ suc count
    decide true h one [] more = rw (second_place count place one [] h) (let less = more one [] in omega (arith, less))
    decide true h one (t ∷ ts) more = rw (second_place count place one (t ∷ ts) h) (let less = more one ts in omega (arith, less))
    decide false h [] two more = rw (first_place count place [] two h) (let less = more [] two in omega (arith, less))
    decide false h (t ∷ ts) two more = rw (first_place count place (t ∷ ts) two h) (let less = more ts two in omega (arith, less))

module _ (c : CommentEntry) (is_bug : IsId c.bug.id) (is_comment : IsId c.comment) where
  pub comment_digits-sized : length (comment_digits c) ≡ 64
  comment_digits-sized =
      let sized = id_digits-sized c.bug.id is_bug in
      let sized_own = id_digits-sized c.comment is_comment in
      long_combined 64 0 (encode_lower c.bug.id.bytes) (encode_lower c.comment.bytes) (omega (arith, sized)) (omega (arith, sized_own))

  -- they are those of an id
  pub comment_id : (id : Id) × IsId id × (encode_lower id.bytes ≡ comment_digits c)
  comment_id =
      let has = combined_bytes c.bug.id.bytes c.comment.bytes (comment_digits c) is_bug.bytes is_comment.bytes refl comment_digits-sized in
      (record { bytes = has.bytes }, record { sized = has.sized; bytes = has.are }, has.prints)

  -- what they begin with has first digits of the bug's id
  pub bug_begins : (word : List ℕ) → length word ≤ 64 → begins_with word (comment_digits c) ≡ true → begins_with (bug_digits word) (encode_lower c.bug.id.bytes) ≡ true
  bug_begins word few begins =
      let sized = id_digits-sized c.bug.id is_bug in
      let sized_own = id_digits-sized c.comment is_comment in
      let agree = parts_agree 64 0 word (encode_lower c.bug.id.bytes) (encode_lower c.comment.bytes) few (omega (arith, sized)) (omega (arith, sized_own)) in
      take-begins_with (bug_digits word) (encode_lower c.bug.id.bytes) (agree.0 (begins_with-take word (comment_digits c) begins)).0

-- ---- an argument that is some of the first digits

-- digits that a text begins with, and the rest of it
all_of : (digits text : List ℕ) → begins_with digits text ≡ true → text ≡ digits ++ drop (length digits) text
all_of digits text begins =
    let front : take (length digits) text ≡ digits = begins_with-take digits text begins in
    grind (arith, common_steps)

few_of_prefix : (word : List ℕ) → is_prefix_text word ≡ true → length word ≤ 64
few_of_prefix word is = grind (arith, is)

begins_shorter : (word more text : List ℕ) → begins_with (word ++ more) text ≡ true → begins_with word text ≡ true
begins_shorter word more text begins =
    let long = length-append word more in
    let front : take (length word) (take (length (word ++ more)) text) ≡ word = ap (take (length word)) (begins_with-take (word ++ more) text begins) ∙ take_front word more in
    take-begins_with word text (sym (take-take (length word) (length (word ++ more)) text (omega (arith, long))) ∙ front)

shorter_is_prefix : (word more : List ℕ) → word ≢ [] → is_prefix_text (word ++ more) ≡ true → is_prefix_text word ≡ true
shorter_is_prefix word more some is =
    let parts = and_parts (nat_le 1 (length (word ++ more)) && nat_le (length (word ++ more)) 64) (list_all is_lower_digit (word ++ more)) is in
    let few = few_of_prefix (word ++ more) is in
    let long = length-append word more in
    let lower : (list_all is_lower_digit word && list_all is_lower_digit more) ≡ true = sym (list_all-append is_lower_digit word more) ∙ parts.1 in
    and_from (nat_le 1 (length word) && nat_le (length word) 64) (list_all is_lower_digit word)
    (and_from (nat_le 1 (length word)) (nat_le (length word) 64) (at_least_one word some) (le-leb (length word) 64 (omega (arith, few, long))))
    (and_parts (list_all is_lower_digit word) (list_all is_lower_digit more) lower).0

module _ {files : Files} {folder : List ℕ} where
  -- the argument is some of the first digits of the comment's id
  pub fits_comment_front : (word : List ℕ) (c : CommentEntry) → IsId c.comment
      → FitsComment files folder word c ↔ (IsId c.bug.id × (word ≢ []) × ((rest : List ℕ) × (comment_digits c ≡ word ++ rest))
      × ((entity : Entity BugOp) × IsWholeBug files folder c.bug entity × Contains (comment_ids (ops_in bug_kind entity.packs)) c.comment))
  fits_comment_front word c is_comment = (
    λ fits. (
      fits.is_sought.is_id,
      not_empty word fits.is_sought.is_prefix,
      (drop (length word) (comment_digits c), all_of word (comment_digits c) fits.begins),
      (fits.entity, fits.is, fits.has),
    ),
    λ h.
        let id = comment_id c h.0 is_comment in
        let is_prefix : is_prefix_text word ≡ true = front_is_prefix id.0 word h.2.0 id.1 h.1 (id.2 ∙ h.2.1) in
        let begins : begins_with word (comment_digits c) ≡ true = take-begins_with word (comment_digits c) (ap (take (length word)) h.2.1 ∙ take_front word h.2.0) in
        record {
          is_sought = record {
            is_id = h.0;
            is_prefix = is_prefix;
            begins = bug_begins c h.0 is_comment word (few_of_prefix word is_prefix) begins;
            stands = ap is_there h.3.1.head;
          };
          begins = begins;
          entity = h.3.0;
          is = h.3.1;
          has = h.3.2;
        },
  )

  -- the bugs that are read
  pub sought_front : (word : List ℕ) (id : Id) → is_prefix_text word ≡ true
      → IsSought files folder word id ↔ (IsId id × IsTrue (has_ref files folder side.Bugs id) × ((rest : List ℕ) × (encode_lower id.bytes ≡ bug_digits word ++ rest)))
  sought_front word id is_prefix = (
    λ so. (so.is_id, so.stands, (drop (length (bug_digits word)) (encode_lower id.bytes), all_of (bug_digits word) (encode_lower id.bytes) so.begins)),
    λ h. record {
      is_id = h.0;
      is_prefix = is_prefix;
      begins = take-begins_with (bug_digits word) (encode_lower id.bytes) (ap (take (length (bug_digits word))) h.2.1 ∙ take_front (bug_digits word) h.2.0);
      stands = h.1;
    },
  )

  -- all digits of a comment's id find it, where no other comment has the same
  pub finds_whole_comment : (c : CommentEntry) (entity : Entity BugOp) → IsId c.bug.id → IsId c.comment → IsWholeBug files folder c.bug entity
      → Contains (comment_ids (ops_in bug_kind entity.packs)) c.comment → AllSoughtAreWhole files folder (comment_digits c)
      → ((other : CommentEntry) (its : Entity BugOp) → IsWholeBug files folder other.bug its → Contains (comment_ids (ops_in bug_kind its.packs)) other.comment → comment_digits other ≡ comment_digits c → other ≡ c)
      → FindsComment files folder (comment_digits c) c
  finds_whole_comment c entity is_bug is_comment whole has all alone = record {
    all = all;
    fits = (fits_comment_front (comment_digits c) c is_comment).1 (is_bug, some, ([], sym (nothing_more (comment_digits c))), (entity, whole, has));
    no_other = λ other fits. alone other fits.entity fits.is fits.has (same other (begins_with-take (comment_digits c) (comment_digits other) fits.begins));
  }
    where
      sized : length (comment_digits c) ≡ 64
      sized = comment_digits-sized c is_bug is_comment

      some : comment_digits c ≢ []
      some none = let long : length (comment_digits c) ≡ 0 = ap (λ (l : List ℕ). length l) none in absurd (omega (arith, long, sized))

      nothing_more : (xs : List ℕ) → xs ++ [] ≡ xs
      nothing_more xs = grind (arith, common_steps)

      same : (other : CommentEntry) → take (length (comment_digits c)) (comment_digits other) ≡ comment_digits c → comment_digits other ≡ comment_digits c
      same other begins =
          let few = few_combined 64 0 (encode_lower other.bug.id.bytes) (encode_lower other.comment.bytes) in
          sym (take_all (length (comment_digits c)) (comment_digits other) (omega (arith, few, sized))) ∙ begins

  -- ---- longer arguments

  -- the bugs of a longer argument are some of those of the shorter
  shorter_sought : (word more : List ℕ) (id : Id) → word ≢ [] → IsSought files folder (word ++ more) id → IsSought files folder word id
  shorter_sought word more id some so = record {
    is_id = so.is_id;
    is_prefix = shorter_is_prefix word more some so.is_prefix;
    begins = begins_shorter (bug_digits word) (digits_at is_first (0 + length word) more) (encode_lower id.bytes)
        (ap (λ (digits : List ℕ). begins_with digits (encode_lower id.bytes)) (sym (digits_at-append is_first 0 word more)) ∙ so.begins);
    stands = so.stands;
  }

  shorter_fits : (word more : List ℕ) (c : CommentEntry) → word ≢ [] → FitsComment files folder (word ++ more) c → FitsComment files folder word c
  shorter_fits word more c some fits = record {
    is_sought = shorter_sought word more c.bug.id some fits.is_sought;
    begins = begins_shorter word more (comment_digits c) fits.begins;
    entity = fits.entity;
    is = fits.is;
    has = fits.has;
  }

  longer_all : (word more : List ℕ) → word ≢ [] → AllSoughtAreWhole files folder word → AllSoughtAreWhole files folder (word ++ more)
  longer_all word more some all id so = all id (shorter_sought word more id some so)

  found_some : (word : List ℕ) (c : CommentEntry) → FindsComment files folder word c → word ≢ []
  found_some word c found = not_empty word found.fits.is_sought.is_prefix

  pub longer_finds_one_comment : (word more : List ℕ) (c other : CommentEntry) → FindsComment files folder word c → FindsComment files folder (word ++ more) other → other ≡ c
  longer_finds_one_comment word more c other found also = found.no_other other (shorter_fits word more other (found_some word c found) also.fits)

  pub longer_finds_comment : (word more : List ℕ) (c : CommentEntry) → FindsComment files folder word c → FitsComment files folder (word ++ more) c → FindsComment files folder (word ++ more) c
  longer_finds_comment word more c found fits =
      let some = found_some word c found in
      record {
        all = longer_all word more some found.all;
        fits = fits;
        no_other = λ other its. found.no_other other (shorter_fits word more other some its);
      }

  pub longer_finds_none : (word more : List ℕ) (c : CommentEntry) → FindsComment files folder word c → (FitsComment files folder (word ++ more) c → ⊥) → FindsNoComment files folder (word ++ more) missed.NotFound
  longer_finds_none word more c found none =
      let some = found_some word c found in (
        longer_all word more some found.all,
        λ other fits. none (subst (FitsComment files folder (word ++ more)) (found.no_other other (shorter_fits word more other some fits)) fits),
      )

  pub longer_finds_none_either : (word more : List ℕ) → word ≢ [] → FindsNoComment files folder word missed.NotFound → FindsNoComment files folder (word ++ more) missed.NotFound
  longer_finds_none_either word more some none = (longer_all word more some none.0, λ c fits. none.1 c (shorter_fits word more c some fits))
