-- Worked examples of the definitions, computed.
use Rattle.std.specs.Prelude.{◌≡◌, codes, [], ◌∷◌, Some, None, true, false}
use Rattle.std.specs.Fmt.{digits}
use Rattle.std.specs.Str.{chars}
use Rattle.std.proofs.Common.{refl}
use Rattle.hex.proofs.OnLiterals.{hex_on_literals}
use Rattle.gb_text.specs.Decimal.{decimal_of}
use Rattle.gb_text.specs.Digits.{bytes_of_digits}
use Rattle.gb_text.specs.Folder.{folder_of, joined}
use Rattle.gb_text.specs.LineEnd.{line_of}
use Rattle.gb_text.specs.Rules.{is_line_text, is_message_text, is_title_text}

-- plain decimals: the edges of 64 bits, and texts that would print otherwise
decimal_zero : decimal_of (codes "0") ≡ Some 0
unfolding digits
decimal_zero = refl

decimal_leading_zero : decimal_of (codes "007") ≡ None
unfolding digits
decimal_leading_zero = refl

decimal_two_zeros : decimal_of (codes "00") ≡ None
unfolding digits
decimal_two_zeros = refl

decimal_empty : decimal_of [] ≡ None
unfolding digits
decimal_empty = refl

decimal_sign : decimal_of (codes "+1") ≡ None
unfolding digits
decimal_sign = refl

decimal_negative : decimal_of (codes "-1") ≡ None
unfolding digits
decimal_negative = refl

decimal_space : decimal_of (codes " 1") ≡ None
unfolding digits
decimal_space = refl

decimal_line_feed : decimal_of (49 ∷ 10 ∷ []) ≡ None
unfolding digits
decimal_line_feed = refl

decimal_greatest : decimal_of (codes "18446744073709551615") ≡ Some 18446744073709551615
unfolding digits
decimal_greatest = refl

decimal_one_more : decimal_of (codes "18446744073709551616") ≡ None
unfolding digits
decimal_one_more = refl

-- folder words
folder_parts : folder_of (codes "./a//b/") ≡ Some (codes "a/b")
unfolding chars
folder_parts = refl

folder_rooted : folder_of (codes "//a/.") ≡ Some (codes "/a")
unfolding chars
folder_rooted = refl

folder_root : folder_of (codes "/") ≡ Some (codes "/")
unfolding chars
folder_root = refl

folder_here : folder_of (codes ".") ≡ Some []
unfolding chars
folder_here = refl

folder_dots : folder_of (codes "...") ≡ Some (codes "...")
unfolding chars
folder_dots = refl

folder_empty : folder_of [] ≡ None
unfolding chars
folder_empty = refl

folder_up : folder_of (codes "a/../b") ≡ None
unfolding chars
folder_up = refl

folder_tab : folder_of (97 ∷ 9 ∷ []) ≡ None
unfolding chars
folder_tab = refl

folder_c1 : folder_of (194 ∷ 133 ∷ []) ≡ None
unfolding chars
folder_c1 = refl

-- paths below a folder
joined_here : joined [] (codes "x") ≡ codes "x"
joined_here = refl

joined_root : joined (codes "/") (codes "x") ≡ codes "/x"
joined_root = refl

joined_below : joined (codes "a") (codes "x") ≡ codes "a/x"
joined_below = refl

-- lines, titles and messages: the edges of control characters and of white space
line_empty : is_line_text [] ≡ true
unfolding chars
line_empty = refl

line_space : is_line_text (codes " ") ≡ true
unfolding chars
line_space = refl

line_tab : is_line_text (9 ∷ []) ≡ false
unfolding chars
line_tab = refl

line_last_control : is_line_text (31 ∷ []) ≡ false
unfolding chars
line_last_control = refl

line_tilde : is_line_text (codes "~") ≡ true
unfolding chars
line_tilde = refl

line_delete : is_line_text (127 ∷ []) ≡ false
unfolding chars
line_delete = refl

line_first_c1 : is_line_text (194 ∷ 128 ∷ []) ≡ false
unfolding chars
line_first_c1 = refl

line_last_c1 : is_line_text (194 ∷ 159 ∷ []) ≡ false
unfolding chars
line_last_c1 = refl

line_no_break_space : is_line_text (194 ∷ 160 ∷ []) ≡ true
unfolding chars
line_no_break_space = refl

title_empty : is_title_text [] ≡ false
unfolding chars
title_empty = refl

title_blank : is_title_text (codes " ") ≡ false
unfolding chars
title_blank = refl

title_no_break_space : is_title_text (194 ∷ 160 ∷ []) ≡ false
unfolding chars
title_no_break_space = refl

title_zero_width_space : is_title_text (226 ∷ 128 ∷ 139 ∷ []) ≡ true
unfolding chars
title_zero_width_space = refl

title_line_feed : is_title_text (97 ∷ 10 ∷ []) ≡ false
unfolding chars
title_line_feed = refl

message_ends_and_tabs : is_message_text (97 ∷ 9 ∷ 13 ∷ 10 ∷ []) ≡ true
unfolding chars
message_ends_and_tabs = refl

message_empty : is_message_text [] ≡ true
unfolding chars
message_empty = refl

message_vertical_tab : is_message_text (11 ∷ []) ≡ false
unfolding chars
message_vertical_tab = refl

message_delete : is_message_text (127 ∷ []) ≡ false
unfolding chars
message_delete = refl

-- the digits of bytes
digits_two : bytes_of_digits 2 (codes "00ff") ≡ Some (0 ∷ 255 ∷ [])
unfolding hex_on_literals
digits_two = refl

digits_upper_case : bytes_of_digits 2 (codes "00FF") ≡ None
unfolding hex_on_literals
digits_upper_case = refl

digits_odd : bytes_of_digits 2 (codes "00f") ≡ None
unfolding hex_on_literals
digits_odd = refl

digits_few : bytes_of_digits 2 (codes "00") ≡ None
unfolding hex_on_literals
digits_few = refl

digits_many : bytes_of_digits 2 (codes "000000") ≡ None
unfolding hex_on_literals
digits_many = refl

digits_other : bytes_of_digits 1 (codes "0g") ≡ None
unfolding hex_on_literals
digits_other = refl

-- one line feed at the end
line_of_none : line_of [] ≡ []
line_of_none = refl

line_of_line_feed : line_of (10 ∷ []) ≡ []
line_of_line_feed = refl

line_of_one : line_of (97 ∷ 10 ∷ []) ≡ codes "a"
line_of_one = refl

line_of_two : line_of (97 ∷ 10 ∷ 10 ∷ []) ≡ 97 ∷ 10 ∷ []
line_of_two = refl

line_of_return : line_of (97 ∷ 13 ∷ 10 ∷ []) ≡ 97 ∷ 13 ∷ []
line_of_return = refl
