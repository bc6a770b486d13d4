-- Worked examples of the definitions, computed (RFC 8259).
use Rattle.std.specs.Prelude.{◌≡◌, ⊤, codes, [], ◌∷◌, Some, None}
use Rattle.std.proofs.Common.{refl}
use Rattle.json_span.specs.Machine.{string_step, number_step, scalar_begin, push, value_begin, part_begin, fresh_step, after_step, begin_step, step, run, read, split_of}
use Rattle.json_span.specs.Parts.{elements_of, members_of}

-- what an answer unfolds to compute the readers on a literal
unfoldable pub json_span_on_literals : ⊤
unfolding string_step number_step scalar_begin push value_begin part_begin fresh_step after_step begin_step step run read split_of members_of elements_of
json_span_on_literals = tt

-- objects
object_empty : members_of (codes "{}") ≡ Some []
unfolding json_span_on_literals
object_empty = refl

object_spaces : members_of (codes " {\t} \n") ≡ Some []
unfolding json_span_on_literals
object_spaces = refl

object_one : members_of (codes "{\"a\":1}") ≡ Some ((codes "\"a\"", codes "1") ∷ [])
unfolding json_span_on_literals
object_one = refl

object_two : members_of (codes "{\"a\" : [1,2] , \"a\":null}") ≡ Some ((codes "\"a\"", codes "[1,2]") ∷ (codes "\"a\"", codes "null") ∷ [])
unfolding json_span_on_literals
object_two = refl

object_of_nothing : members_of [] ≡ None
unfolding json_span_on_literals
object_of_nothing = refl

object_array : members_of (codes "[]") ≡ None
unfolding json_span_on_literals
object_array = refl

object_comma : members_of (codes "{\"a\":1,}") ≡ None
unfolding json_span_on_literals
object_comma = refl

object_open : members_of (codes "{\"a\":1") ≡ None
unfolding json_span_on_literals
object_open = refl

object_more : members_of (codes "{}{}") ≡ None
unfolding json_span_on_literals
object_more = refl

object_bare_name : members_of (codes "{a:1}") ≡ None
unfolding json_span_on_literals
object_bare_name = refl

object_other_bracket : members_of (codes "{\"a\":[1}]") ≡ None
unfolding json_span_on_literals
object_other_bracket = refl

object_no_break_space : members_of (194 ∷ 160 ∷ codes "{}") ≡ None
unfolding json_span_on_literals
object_no_break_space = refl

-- arrays, and the values in them
array_empty : elements_of (codes "[]") ≡ Some []
unfolding json_span_on_literals
array_empty = refl

array_object : elements_of (codes "{}") ≡ None
unfolding json_span_on_literals
array_object = refl

array_literals : elements_of (codes "[true,false,null]") ≡ Some (codes "true" ∷ codes "false" ∷ codes "null" ∷ [])
unfolding json_span_on_literals
array_literals = refl

array_capital : elements_of (codes "[True]") ≡ None
unfolding json_span_on_literals
array_capital = refl

array_zero : elements_of (codes "[0,-0]") ≡ Some (codes "0" ∷ codes "-0" ∷ [])
unfolding json_span_on_literals
array_zero = refl

array_leading_zero : elements_of (codes "[01]") ≡ None
unfolding json_span_on_literals
array_leading_zero = refl

array_plus : elements_of (codes "[+1]") ≡ None
unfolding json_span_on_literals
array_plus = refl

array_point : elements_of (codes "[1.]") ≡ None
unfolding json_span_on_literals
array_point = refl

array_no_integer : elements_of (codes "[.5]") ≡ None
unfolding json_span_on_literals
array_no_integer = refl

array_exponent : elements_of (codes "[1.5e+3,1E-2]") ≡ Some (codes "1.5e+3" ∷ codes "1E-2" ∷ [])
unfolding json_span_on_literals
array_exponent = refl

array_bare_exponent : elements_of (codes "[1e]") ≡ None
unfolding json_span_on_literals
array_bare_exponent = refl

array_escape : elements_of (codes "[\"\\u00e9\\/\"]") ≡ Some (codes "\"\\u00e9\\/\"" ∷ [])
unfolding json_span_on_literals
array_escape = refl

array_bad_escape : elements_of (codes "[\"\\x\"]") ≡ None
unfolding json_span_on_literals
array_bad_escape = refl

array_short_escape : elements_of (codes "[\"\\u00e\"]") ≡ None
unfolding json_span_on_literals
array_short_escape = refl

array_control : elements_of (codes "[\"\t\"]") ≡ None
unfolding json_span_on_literals
array_control = refl

array_delete : elements_of (91 ∷ 34 ∷ 127 ∷ 34 ∷ 93 ∷ []) ≡ Some ((34 ∷ 127 ∷ 34 ∷ []) ∷ [])
unfolding json_span_on_literals
array_delete = refl

array_quote : elements_of (codes "['a']") ≡ None
unfolding json_span_on_literals
array_quote = refl

array_comma_first : elements_of (codes "[,1]") ≡ None
unfolding json_span_on_literals
array_comma_first = refl

array_two_commas : elements_of (codes "[1,,2]") ≡ None
unfolding json_span_on_literals
array_two_commas = refl

array_nested : elements_of (codes "[[[]],{\"a\":{}}]") ≡ Some (codes "[[]]" ∷ codes "{\"a\":{}}" ∷ [])
unfolding json_span_on_literals
array_nested = refl
