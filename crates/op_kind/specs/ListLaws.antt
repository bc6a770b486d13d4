-- What a list of texts is written as reads back.
use Rattle.std.proofs.Common.{◌≡◌, ◌≤◌, ◌∙◌, ◌++◌, refl, sym, ap, List, [], ◌∷◌, ℕ, Some, map, append_assoc, append-nil}
use Rattle.std.specs.Prelude.{All, option_and_then}
use Rattle.std.proofs.lemmas.List.Elements.{All-nil, All-cons}
use Rattle.std.specs.Str.{IsUtf8}
use Rattle.std.proofs.lemmas.Str.{IsUtf8-append, IsUtf8-nil}
use Rattle.json.specs.Print.{quoted}
use Rattle.json.proofs.Printed.Utf8.{IsUtf8-quoted, IsUtf8-are_ascii}
use Rattle.json_span.specs.Grammar.{IsValueText}
use Rattle.json_span.specs.declared.nest.TheConstants.{MOST_BRACKETS}
use Rattle.json_span.specs.Joined.{behind_commas, joined}
use Rattle.json_span.proofs.JoinLaws.{elements_joined, array_value}
use Rattle.json_span.proofs.ValueLaws.{deeper}
use Rattle.op_kind.specs.Forms.{texts_from, elements_at, texts_at}
use Rattle.op_kind.specs.QuotedLaws.{quoted_is_value, quoted_reads}
use Rattle.op_kind.specs.Written.{EachUtf8, IsWritable, texts_text}
use Rattle.op_kind.specs.WritingLaws.{comma}

all_read : (before ts : List (List ℕ)) → EachUtf8 ts → texts_from before (map quoted ts) ≡ Some (before ++ ts)
all_read before [] each = ap Some (sym (append-nil before))
all_read before (t ∷ ts) each =
    ap (option_and_then (λ u. texts_from (before ++ u ∷ []) (map quoted ts))) (quoted_reads t each.0)
    ∙ all_read (before ++ t ∷ []) ts each.1
    ∙ ap Some (append_assoc before (t ∷ []) ts)

all_values : (depth : ℕ) (ts : List (List ℕ)) → All (IsValueText depth) (map quoted ts)
all_values depth [] = All-nil (IsValueText depth)
all_values depth (t ∷ ts) = All-cons (IsValueText depth) (quoted t) (map quoted ts) (quoted_is_value depth t) (all_values depth ts)

elements_read : (ts : List (List ℕ)) → EachUtf8 ts → elements_at (texts_text ts) ≡ Some ts
unfolding elements_at
elements_read ts each = ap (option_and_then (texts_from [])) (elements_joined (map quoted ts) (all_values MOST_BRACKETS ts)) ∙ all_read [] ts each

-- A list of texts reads as the texts.
pub texts_read : (ts : List (List ℕ)) → EachUtf8 ts → texts_at (texts_text ts) ≡ Some ts
texts_read ts each = elements_read ts each

-- A list of texts is a value text with one bracket.
pub texts_are_value : (ts : List (List ℕ)) → IsValueText 1 (texts_text ts)
texts_are_value ts = array_value 0 (map quoted ts) (all_values 0 ts)

closed : IsUtf8 (93 ∷ [])
closed = IsUtf8-are_ascii (93 ∷ []) refl

commas_utf8 : (ts : List (List ℕ)) → EachUtf8 ts → IsUtf8 (behind_commas (map quoted ts))
commas_utf8 [] each = IsUtf8-nil
commas_utf8 (t ∷ ts) each = IsUtf8-append (44 ∷ []) _ comma (IsUtf8-append _ _ (IsUtf8-quoted t each.0) (commas_utf8 ts each.1))

joined_utf8 : (ts : List (List ℕ)) → EachUtf8 ts → IsUtf8 (joined (map quoted ts))
joined_utf8 [] each = IsUtf8-nil
joined_utf8 (t ∷ ts) each = IsUtf8-append _ _ (IsUtf8-quoted t each.0) (commas_utf8 ts each.1)

-- A list of texts is writable.
pub texts_writable : (depth : ℕ) (name : List ℕ) (ts : List (List ℕ)) → 1 ≤ depth → IsUtf8 name → EachUtf8 ts → IsWritable depth (name, texts_text ts)
texts_writable depth name ts room utf8 each = record {
  name = utf8;
  utf8 = IsUtf8-append (91 ∷ []) _ (IsUtf8-are_ascii (91 ∷ []) refl) (IsUtf8-append _ _ (joined_utf8 ts each) closed);
  value = deeper 1 depth (texts_text ts) room (texts_are_value ts);
}
