-- Worked examples of the definitions, computed.
use Rattle.std.specs.Prelude.{◌≡◌, codes, [], ◌∷◌, Some, None}
use Rattle.std.proofs.Common.{refl}
use Rattle.hex.proofs.OnLiterals.{hex_on_literals}
use Rattle.gb_text.specs.declared.id.Name.{Name}
use Rattle.ref_store.specs.Listing.{id_place}
use Rattle.packed_refs.specs.Lines.{lines_of}
use Rattle.packed_refs.specs.Packed.{head_of, last_head, refs_of_lines}
use Rattle.ref_store.specs.Refs.{Absent, Bad, Head, or_packed, packed_in, ref_of}

-- the name of the blob of no bytes
abbrev head : Name
head = record { bytes = 230 ∷ 157 ∷ 226 ∷ 155 ∷ 178 ∷ 209 ∷ 214 ∷ 67 ∷ 75 ∷ 139 ∷ 41 ∷ 174 ∷ 119 ∷ 90 ∷ 216 ∷ 194 ∷ 228 ∷ 140 ∷ 83 ∷ 145 ∷ [] }

-- loose refs
ref_none : ref_of None ≡ Absent
unfolding hex_on_literals
ref_none = refl

ref_digits : ref_of (Some (codes "e69de29bb2d1d6434b8b29ae775ad8c2e48c5391")) ≡ Head head
unfolding hex_on_literals
ref_digits = refl

ref_line : ref_of (Some (codes "e69de29bb2d1d6434b8b29ae775ad8c2e48c5391\n")) ≡ Head head
unfolding hex_on_literals
ref_line = refl

ref_two_line_feeds : ref_of (Some (codes "e69de29bb2d1d6434b8b29ae775ad8c2e48c5391\n\n")) ≡ Bad
unfolding hex_on_literals
ref_two_line_feeds = refl

ref_return : ref_of (Some (codes "e69de29bb2d1d6434b8b29ae775ad8c2e48c5391\r\n")) ≡ Bad
unfolding hex_on_literals
ref_return = refl

ref_space : ref_of (Some (codes "e69de29bb2d1d6434b8b29ae775ad8c2e48c5391 ")) ≡ Bad
unfolding hex_on_literals
ref_space = refl

ref_upper_case : ref_of (Some (codes "E69DE29BB2D1D6434B8B29AE775AD8C2E48C5391")) ≡ Bad
unfolding hex_on_literals
ref_upper_case = refl

ref_short : ref_of (Some (codes "e69de29bb2d1d6434b8b29ae775ad8c2e48c539")) ≡ Bad
unfolding hex_on_literals
ref_short = refl

ref_long : ref_of (Some (codes "e69de29bb2d1d6434b8b29ae775ad8c2e48c53910")) ≡ Bad
unfolding hex_on_literals
ref_long = refl

ref_empty : ref_of (Some []) ≡ Bad
unfolding hex_on_literals
ref_empty = refl

ref_symbolic : ref_of (Some (codes "ref: refs/heads/main\n")) ≡ Bad
unfolding hex_on_literals
ref_symbolic = refl

ref_place : id_place (codes "refs/bugs") (record { bytes = 10 ∷ 10 ∷ 10 ∷ 10 ∷ 10 ∷ 10 ∷ 10 ∷ 10 ∷ 10 ∷ 10 ∷ 10 ∷ 10 ∷ 10 ∷ 10 ∷ 10 ∷ 10 ∷ 10 ∷ 10 ∷ 10 ∷ 10 ∷ 10 ∷ 10 ∷ 10 ∷ 10 ∷ 10 ∷ 10 ∷ 10 ∷ 10 ∷ 10 ∷ 10 ∷ 10 ∷ 10 ∷ [] }) ≡ codes "refs/bugs/0a0a0a0a0a0a0a0a0a0a0a0a0a0a0a0a0a0a0a0a0a0a0a0a0a0a0a0a0a0a0a0a"
unfolding hex_on_literals
ref_place = refl

-- packed refs
packed_none : packed_in None ≡ []
unfolding hex_on_literals
packed_none = refl

packed_bad_line : packed_in (Some (codes "e69de29bb2d1d6434b8b29ae775ad8c2e48c5391 refs/x\nx\n")) ≡ []
unfolding hex_on_literals lines_of refs_of_lines
packed_bad_line = refl

packed_counts : or_packed (ref_of None) (head_of (codes "refs/x") (packed_in (Some (codes "e69de29bb2d1d6434b8b29ae775ad8c2e48c5391 refs/x\n")))) ≡ Head head
unfolding hex_on_literals lines_of refs_of_lines last_head
packed_counts = refl

loose_counts : or_packed (ref_of (Some (codes "e69de29bb2d1d6434b8b29ae775ad8c2e48c5391\n"))) (head_of (codes "refs/x") (packed_in (Some (codes "4b825dc642cb6eb9a060e54bf8d69288fbee4904 refs/x\n")))) ≡ Head head
unfolding hex_on_literals lines_of refs_of_lines last_head
loose_counts = refl

bad_counts : or_packed (ref_of (Some (codes "x"))) (head_of (codes "refs/x") (packed_in (Some (codes "e69de29bb2d1d6434b8b29ae775ad8c2e48c5391 refs/x\n")))) ≡ Bad
unfolding hex_on_literals lines_of refs_of_lines last_head
bad_counts = refl
