-- Cells, computed.
use Rattle.std.specs.Prelude.{◌≡◌, ◌++◌, codes, [], ◌∷◌, encode_utf8_all}
use Rattle.std.proofs.Common.{refl}
use Rattle.unicode_width.proofs.Computing.{unicode_width}
use Rattle.columns.specs.Cells.{cell_of}

padded : cell_of 4 (codes "ab") ≡ codes "ab  "
unfolding unicode_width
padded = refl

cut : cell_of 4 (codes "abcde") ≡ codes "abc~"
unfolding unicode_width
cut = refl

-- two wide characters in three columns, of which the second would end in the fourth
wide : cell_of 3 (encode_utf8_all (0x65E5 ∷ 0x672C ∷ [])) ≡ encode_utf8_all (0x65E5 ∷ []) ++ codes "~"
unfolding unicode_width
wide = refl
