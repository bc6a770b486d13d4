-- A text is a pack text exactly where it has parts, which are those of the pack.
use Rattle.std.proofs.Common.{◌≡◌, ◌∙◌, ap, sym, refl, List, ℕ, Bool, true, false, Option, Some, None}
use Rattle.std.specs.Prelude.{option_and_then, if◌then◌else◌}
use Rattle.std.specs.Str.{is_utf8}
use Rattle.std.proofs.lemmas.Str.{is_utf8-from_IsUtf8, IsUtf8-from_is_utf8}
use Rattle.std.proofs.lemmas.Option.{some_pair_parts}
use Rattle.gb_text.specs.declared.id.Id.{Id}
use Rattle.git_object.specs.declared.tree.Tree.{Tree}
use Rattle.op_kind.specs.Members.{Fields, fields_at}
use Rattle.op_pack.specs.Texts.{author_of, slices_of, both, parts_of, parts_at, IsPackText, IsPack}
use Rattle.op_pack.specs.declared.head.TreeHead.{TreeHead}

both_some : (a : Option Id) (s : Option (List (List ℕ))) (author : Id) (slices : List (List ℕ)) → both a s ≡ Some (author, slices) → (a ≡ Some author) × (s ≡ Some slices)
both_some None s author slices h = absurd (cc)
both_some (Some a) None author slices h = absurd (cc)
both_some (Some a) (Some s) author slices h = let same = some_pair_parts a author s slices h in (ap Some same.0, ap Some same.1)

from_fields : (text : List ℕ) (fields : Option Fields) → fields_at text ≡ fields → is_utf8 text ≡ true → (author : Id) (slices : List (List ℕ)) → option_and_then parts_of fields ≡ Some (author, slices) → IsPackText text author slices
from_fields text None is utf8 author slices h = absurd (cc)
from_fields text (Some fields) is utf8 author slices h =
    let all = both_some (author_of fields) (slices_of fields) author slices h in
    record { utf8 = IsUtf8-from_is_utf8 text utf8; fields = fields; object = is; author_is = all.0; slices_are = all.1 }

from_test : (text : List ℕ) (b : Bool) → is_utf8 text ≡ b → (author : Id) (slices : List (List ℕ)) → (if b then option_and_then parts_of (fields_at text) else None) ≡ Some (author, slices) → IsPackText text author slices
from_test text true is author slices h = from_fields text (fields_at text) refl is author slices h
from_test text false is author slices h = absurd (cc)

-- A text with parts is a pack text with these.
pub parts_found : (text : List ℕ) (author : Id) (slices : List (List ℕ)) → parts_at text ≡ Some (author, slices) → IsPackText text author slices
unfolding parts_at
parts_found text author slices h = from_test text (is_utf8 text) refl author slices h

-- A pack text has its parts.
pub parts_only : (text : List ℕ) (author : Id) (slices : List (List ℕ)) → IsPackText text author slices → parts_at text ≡ Some (author, slices)
unfolding parts_at
parts_only text author slices is =
    ap (λ b. if b then option_and_then parts_of (fields_at text) else None) (is_utf8-from_IsUtf8 text is.utf8)
    ∙ ap (option_and_then parts_of) is.object
    ∙ ap (λ a. both a (slices_of is.fields)) is.author_is
    ∙ ap (both (Some author)) is.slices_are

-- A text has at most one author and one list of operations' texts.
pub one_text : (text : List ℕ) (author second : Id) (slices rest : List (List ℕ)) → IsPackText text author slices → IsPackText text second rest → (author ≡ second) × (slices ≡ rest)
one_text text author second slices rest one two = some_pair_parts author second slices rest (sym (parts_only text author slices one) ∙ parts_only text second rest two)

-- A tree has at most one head.
pub one_head : (tree : Tree) (text : List ℕ) (head other : TreeHead) (author second : Id) (slices rest : List (List ℕ)) → IsPack tree text head author slices → IsPack tree text other second rest → head ≡ other
one_head tree text head other author second slices rest one two = let same : Some head ≡ Some other = sym one.head_is ∙ two.head_is in cc (same)
