-- The objects of a commit that joins two heads are short.
use Rattle.std.proofs.Common.{◌≡◌, ◌<◌, ◌≤◌, ◌+◌, ◌*◌, ◌^◌, ℕ, zero, suc, List, [], ◌∷◌, ◌++◌, All, None, codes, decimal, length, arith, length-append}
use Rattle.std.proofs.lemmas.Fmt.{length-decimal-le}
use Rattle.hex.specs.Hex.{encode_lower, lower_digits}
use Rattle.hex.proofs.HexLemmas.{length-encode_with}
use Rattle.gb_text.specs.Digits.{IsId, IsName}
use Rattle.gb_text.specs.declared.id.Id.{Id}
use Rattle.gb_text.specs.declared.id.Name.{Name}
use Rattle.git_object.specs.Grammar.{ended, entry_text, framed, kind_text, object_name, parent_line}
use Rattle.git_object.specs.declared.frame.Kind.{Kind}
use Rattle.git_object.specs.declared.frame.Kind.TheVariants as kinds
use Rattle.git_object.proofs.NameLaws.{IsName-object_name}
use Rattle.object_store.specs.Texts.{IsShort}
use Rattle.object_batch.specs.Commits.{signature}
use Rattle.op_kind.specs.Meaning.{Meaning}
use Rattle.op_pack.specs.Heads.{empty_blob, number_entry, plain_entry}
use Rattle.op_pack.specs.Packs.{pack_text}
use Rattle.op_pack.specs.declared.pack.Pack.{Pack}
use Rattle.dag_entity.specs.Appending.{commit_content, commit_object, empty_object, pack_object, tree_content, tree_name, tree_object}
use Rattle.dag_entity.specs.Joining.{merge_objects, merge_pack}

-- ---- lengths of what is joined, over any lists, so that no text is computed

append_le : (a b : List ℕ) (x y : ℕ) → length a ≤ x → length b ≤ y → length (a ++ b) ≤ x + y
append_le a b x y le_a le_b = omega (arith, length-append a b, le_a, le_b)

cons_le : (n : ℕ) (a : List ℕ) (x : ℕ) → length a ≤ x → length (n ∷ a) ≤ x + 1
cons_le n a x le = omega (arith, le)

hex_le : (bytes : List ℕ) (n : ℕ) → length bytes ≡ n → length (encode_lower bytes) ≤ 2 * n
hex_le bytes n sized = let twice : length (encode_lower bytes) ≡ 2 * length bytes = length-encode_with lower_digits bytes in omega (arith, twice, sized)

digits_le : (n : ℕ) → n < 2 ^ 64 → length (decimal n) ≤ 20
digits_le n few = length-decimal-le 20 n (omega arith) (omega (arith, few)) few

-- the frame adds little
frame_le : (kind : Kind) (content : List ℕ) → length content ≤ 500 → length (framed kind content) ≤ 520
frame_le kind content few =
    let digits : length (decimal (length content)) ≤ 3 = length-decimal-le 3 (length content) (omega arith) (omega (arith, few)) (omega (arith, few)) in
    let all = append_le (kind_text kind ++ 32 ∷ decimal (length content)) (0 ∷ content) 10 501
    (append_le (kind_text kind) (32 ∷ decimal (length content)) 6 4 (words kind) (cons_le 32 (decimal (length content)) 3 digits)) (cons_le 0 content 500 few) in
    at_most (framed kind content) 511 all
  where
    words : (kind : Kind) → length (kind_text kind) ≤ 6
    words kinds.Blob = omega arith
    words kinds.Tree = omega arith
    words kinds.Commit = omega arith

    at_most : (xs : List ℕ) (n : ℕ) → length xs ≤ n → length xs ≤ n + 9
    at_most xs n le = omega (arith, le)

short : (text : List ℕ) → length text ≤ 520 → IsShort text
short text le = omega (arith, le)

-- the entry of an object
entry_le : (name : List ℕ) (object : Name) (n : ℕ) → IsName object → length name ≤ n → length (entry_text (plain_entry name object)) ≤ 6 + (n + 1) + (20 + 1)
entry_le name object n is le =
    append_le (codes "100644" ++ 32 ∷ name) (0 ∷ object.bytes) (6 + (n + 1)) (20 + 1)
    (append_le (codes "100644") (32 ∷ name) 6 (n + 1) (omega arith) (cons_le 32 name n le)) (cons_le 0 object.bytes 20 (omega (arith, is.sized)))

-- the line of a parent
line_le : (name : Name) → IsName name → length (parent_line name) ≤ 48
line_le name is = append_le (codes "parent " ++ encode_lower name.bytes) (10 ∷ []) 47 1 (append_le (codes "parent ") (encode_lower name.bytes) 7 40 (omega arith) (hex_le name.bytes 20 is.sized)) (omega arith)

signature_le : (now : ℕ) → now < 2 ^ 64 → length (signature now) ≤ 54
signature_le now moment =
    append_le (codes "git-bug <git-bug@localhost> " ++ decimal now) (codes " +0000") 48 6
    (append_le (codes "git-bug <git-bug@localhost> ") (decimal now) 28 20 (omega arith) (digits_le now moment)) (omega arith)

-- ---- the objects

module _ {Op State Row : Type 0} (k : Meaning Op State Row) (local remote : Name) (author : Id) (edit now : ℕ) (is_author : IsId author) (is_local : IsName local) (is_remote : IsName remote)
    (clock : edit < 2 ^ 64) (moment : now < 2 ^ 64) where
  abbrev pack : Pack Op
  pack = merge_pack author edit

  pack_le : length (pack_text k author []) ≤ 500
  unfolding pack_text
  pack_le =
      append_le (codes "{\"author\":{\"id\":\"") (encode_lower author.bytes ++ (codes "\"},\"ops\":[" ++ ([] ++ codes "]}"))) 17 483 (omega arith)
      (append_le (encode_lower author.bytes) (codes "\"},\"ops\":[" ++ ([] ++ codes "]}")) 64 419 (hex_le author.bytes 32 is_author.sized) (omega arith))

  tree_le : length (tree_content edit None (object_name (pack_object k pack))) ≤ 500
  tree_le =
      let ops = object_name (pack_object k pack) in
      let first = number_entry (codes "edit-clock-") edit in
      let second = plain_entry (codes "ops") ops in
      let third = number_entry (codes "version-") 4 in
      let blob = IsName-object_name (framed kinds.Blob []) in
      append_le (entry_text first) (entry_text second ++ (entry_text third ++ [])) 59 441
      (entry_le (codes "edit-clock-" ++ decimal edit) empty_blob 31 blob (append_le (codes "edit-clock-") (decimal edit) 11 20 (omega arith) (digits_le edit clock)))
      (append_le (entry_text second) (entry_text third ++ []) 31 410 (entry_le (codes "ops") ops 3 (IsName-object_name (pack_object k pack)) (omega arith))
      (append_le (entry_text third) [] 410 0 (entry_le (codes "version-" ++ decimal 4) empty_blob 382 blob (append_le (codes "version-") (decimal 4) 362 20 (omega arith) (digits_le 4 (omega arith)))) (omega arith)))

  commit_le : length (commit_content (tree_name k pack) (local ∷ remote ∷ []) now) ≤ 500
  commit_le =
      let tree = tree_name k pack in
      let a = ended (codes "tree " ++ encode_lower tree.bytes) in
      let b = parent_line local ++ (parent_line remote ++ []) in
      let c = ended (codes "author " ++ signature now) in
      let d = ended (codes "committer " ++ signature now) in
      let first : length a ≤ 46 =
      append_le (codes "tree " ++ encode_lower tree.bytes) (10 ∷ []) 45 1 (append_le (codes "tree ") (encode_lower tree.bytes) 5 40 (omega arith) (hex_le tree.bytes 20 (IsName-object_name (tree_object k pack)).sized)) (omega arith) in
      let second : length b ≤ 96 =
      append_le (parent_line local) (parent_line remote ++ []) 48 48 (line_le local is_local) (append_le (parent_line remote) [] 48 0 (line_le remote is_remote) (omega arith)) in
      let third : length c ≤ 62 = append_le (codes "author " ++ signature now) (10 ∷ []) 61 1 (append_le (codes "author ") (signature now) 7 54 (omega arith) (signature_le now moment)) (omega arith) in
      let fourth : length d ≤ 65 = append_le (codes "committer " ++ signature now) (10 ∷ []) 64 1 (append_le (codes "committer ") (signature now) 10 54 (omega arith) (signature_le now moment)) (omega arith) in
      append_le (a ++ b ++ c ++ d ++ []) (10 ∷ codes "git-bug\n") 269 231
      (append_le (a ++ b ++ c ++ d) [] 269 0 (append_le (a ++ b ++ c) d 204 65 (append_le (a ++ b) c 142 62 (append_le a b 46 96 first second) third) fourth) (omega arith)) (omega arith)

  pub merge_short : All IsShort (merge_objects k local remote author edit now)
  merge_short = shorts empty_object (pack_object k pack) (tree_object k pack) (commit_object k (local ∷ remote ∷ []) pack now)
      (short empty_object (frame_le kinds.Blob [] (omega arith)))
      (short (pack_object k pack) (frame_le kinds.Blob (pack_text k author []) pack_le))
      (short (tree_object k pack) (frame_le kinds.Tree (tree_content edit None (object_name (pack_object k pack))) tree_le))
      (short (commit_object k (local ∷ remote ∷ []) pack now) (frame_le kinds.Commit (commit_content (tree_name k pack) (local ∷ remote ∷ []) now) commit_le))
    where
      shorts : (p q r s : List ℕ) → IsShort p → IsShort q → IsShort r → IsShort s → All IsShort (p ∷ q ∷ r ∷ s ∷ [])
      shorts p q r s a b c d zero e w = a
      shorts p q r s a b c d (suc zero) e w = b
      shorts p q r s a b c d (suc (suc zero)) e w = c
      shorts p q r s a b c d (suc (suc (suc zero))) e w = d
      shorts p q r s a b c d (suc (suc (suc (suc i)))) e w = absurd (omega (arith, w))
