-- Worked examples of the definitions, computed.
use Rattle.std.specs.Prelude.{◌≡◌, ℕ, List, codes, [], ◌∷◌, Some, None}
use Rattle.std.proofs.Common.{refl}
use Rattle.hex.proofs.OnLiterals.{hex_on_literals}
use Rattle.gb_text.specs.declared.id.Name.{Name}
use Rattle.packed_refs.specs.Lines.{lines_of}
use Rattle.packed_refs.specs.Packed.{PackedRef, head_of, heads_in, last_head, packed_refs, refs_in, refs_of_lines}

-- the names of the blob of no bytes and of the tree of no entries
abbrev blob : Name
blob = record { bytes = 230 ∷ 157 ∷ 226 ∷ 155 ∷ 178 ∷ 209 ∷ 214 ∷ 67 ∷ 75 ∷ 139 ∷ 41 ∷ 174 ∷ 119 ∷ 90 ∷ 216 ∷ 194 ∷ 228 ∷ 140 ∷ 83 ∷ 145 ∷ [] }

abbrev tree : Name
tree = record { bytes = 75 ∷ 130 ∷ 93 ∷ 198 ∷ 66 ∷ 203 ∷ 110 ∷ 185 ∷ 160 ∷ 96 ∷ 229 ∷ 75 ∷ 248 ∷ 214 ∷ 146 ∷ 136 ∷ 251 ∷ 238 ∷ 73 ∷ 4 ∷ [] }

-- the ref of a name to the blob
abbrev ref : List ℕ → PackedRef
ref name = record { name = name; head = blob }

-- ---- lines

no_bytes : packed_refs [] ≡ Some []
unfolding hex_on_literals lines_of refs_of_lines
no_bytes = refl

header : packed_refs (codes "# pack-refs with: peeled fully-peeled sorted \n") ≡ Some []
unfolding hex_on_literals lines_of refs_of_lines
header = refl

one_ref : packed_refs (codes "e69de29bb2d1d6434b8b29ae775ad8c2e48c5391 refs/heads/main\n") ≡ Some (ref (codes "refs/heads/main") ∷ [])
unfolding hex_on_literals lines_of refs_of_lines
one_ref = refl

last_line_without_line_feed : packed_refs (codes "e69de29bb2d1d6434b8b29ae775ad8c2e48c5391 refs/heads/main") ≡ Some (ref (codes "refs/heads/main") ∷ [])
unfolding hex_on_literals lines_of refs_of_lines
last_line_without_line_feed = refl

peeled : packed_refs (codes "e69de29bb2d1d6434b8b29ae775ad8c2e48c5391 refs/tags/v1\n^4b825dc642cb6eb9a060e54bf8d69288fbee4904\n") ≡ Some (ref (codes "refs/tags/v1") ∷ [])
unfolding hex_on_literals lines_of refs_of_lines
peeled = refl

name_begins_with_a_space : packed_refs (codes "e69de29bb2d1d6434b8b29ae775ad8c2e48c5391  refs/x\n") ≡ Some (ref (codes " refs/x") ∷ [])
unfolding hex_on_literals lines_of refs_of_lines
name_begins_with_a_space = refl

name_ends_with_a_return : packed_refs (codes "e69de29bb2d1d6434b8b29ae775ad8c2e48c5391 refs/x\r\n") ≡ Some (ref (codes "refs/x\r") ∷ [])
unfolding hex_on_literals lines_of refs_of_lines
name_ends_with_a_return = refl

-- ---- texts that are not packed

no_name : packed_refs (codes "e69de29bb2d1d6434b8b29ae775ad8c2e48c5391 \n") ≡ None
unfolding hex_on_literals lines_of refs_of_lines
no_name = refl

no_space : packed_refs (codes "e69de29bb2d1d6434b8b29ae775ad8c2e48c5391\n") ≡ None
unfolding hex_on_literals lines_of refs_of_lines
no_space = refl

upper_case_digits : packed_refs (codes "E69DE29BB2D1D6434B8B29AE775AD8C2E48C5391 refs/x\n") ≡ None
unfolding hex_on_literals lines_of refs_of_lines
upper_case_digits = refl

peeled_without_digits : packed_refs (codes "^\n") ≡ None
unfolding hex_on_literals lines_of refs_of_lines
peeled_without_digits = refl

peeled_and_more : packed_refs (codes "^4b825dc642cb6eb9a060e54bf8d69288fbee4904 \n") ≡ None
unfolding hex_on_literals lines_of refs_of_lines
peeled_and_more = refl

empty_line : packed_refs (codes "\n") ≡ None
unfolding hex_on_literals lines_of refs_of_lines
empty_line = refl

empty_line_behind_a_ref : packed_refs (codes "e69de29bb2d1d6434b8b29ae775ad8c2e48c5391 refs/x\n\n") ≡ None
unfolding hex_on_literals lines_of refs_of_lines
empty_line_behind_a_ref = refl

return_alone : packed_refs (codes "\r\n") ≡ None
unfolding hex_on_literals lines_of refs_of_lines
return_alone = refl

no_refs_of_it : refs_in (codes "e69de29bb2d1d6434b8b29ae775ad8c2e48c5391 refs/x\nx\n") ≡ []
unfolding hex_on_literals lines_of refs_of_lines
no_refs_of_it = refl

-- ---- heads

last_of_a_name : head_of (codes "refs/x") (refs_in (codes "e69de29bb2d1d6434b8b29ae775ad8c2e48c5391 refs/x\n4b825dc642cb6eb9a060e54bf8d69288fbee4904 refs/x\ne69de29bb2d1d6434b8b29ae775ad8c2e48c5391 refs/xy\n")) ≡ Some tree
unfolding hex_on_literals lines_of refs_of_lines last_head
last_of_a_name = refl

no_such_name : head_of (codes "refs") (refs_in (codes "e69de29bb2d1d6434b8b29ae775ad8c2e48c5391 refs/x\n")) ≡ None
unfolding hex_on_literals lines_of refs_of_lines last_head
no_such_name = refl

ids_right_in_a_dir : heads_in (codes "refs/bugs") (refs_in (codes "e69de29bb2d1d6434b8b29ae775ad8c2e48c5391 refs/bugs/0a0a0a0a0a0a0a0a0a0a0a0a0a0a0a0a0a0a0a0a0a0a0a0a0a0a0a0a0a0a0a0a\n4b825dc642cb6eb9a060e54bf8d69288fbee4904 refs/bugs/x/0a0a0a0a0a0a0a0a0a0a0a0a0a0a0a0a0a0a0a0a0a0a0a0a0a0a0a0a0a0a0a0a\n4b825dc642cb6eb9a060e54bf8d69288fbee4904 refs/bugs/0a0a0a0a0a0a0a0a0a0a0a0a0a0a0a0a0a0a0a0a0a0a0a0a0a0a0a0a0a0a0a0a\n4b825dc642cb6eb9a060e54bf8d69288fbee4904 refs/bugsx/0a0a0a0a0a0a0a0a0a0a0a0a0a0a0a0a0a0a0a0a0a0a0a0a0a0a0a0a0a0a0a0a\n")) ≡ record { id = record { bytes = 10 ∷ 10 ∷ 10 ∷ 10 ∷ 10 ∷ 10 ∷ 10 ∷ 10 ∷ 10 ∷ 10 ∷ 10 ∷ 10 ∷ 10 ∷ 10 ∷ 10 ∷ 10 ∷ 10 ∷ 10 ∷ 10 ∷ 10 ∷ 10 ∷ 10 ∷ 10 ∷ 10 ∷ 10 ∷ 10 ∷ 10 ∷ 10 ∷ 10 ∷ 10 ∷ 10 ∷ 10 ∷ [] }; head = blob } ∷ record { id = record { bytes = 10 ∷ 10 ∷ 10 ∷ 10 ∷ 10 ∷ 10 ∷ 10 ∷ 10 ∷ 10 ∷ 10 ∷ 10 ∷ 10 ∷ 10 ∷ 10 ∷ 10 ∷ 10 ∷ 10 ∷ 10 ∷ 10 ∷ 10 ∷ 10 ∷ 10 ∷ 10 ∷ 10 ∷ 10 ∷ 10 ∷ 10 ∷ 10 ∷ 10 ∷ 10 ∷ 10 ∷ 10 ∷ [] }; head = tree } ∷ []
unfolding hex_on_literals lines_of refs_of_lines
ids_right_in_a_dir = refl
