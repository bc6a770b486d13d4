-- Worked examples of the definitions, computed.
use Rattle.std.specs.Prelude.{◌≡◌, codes, [], ◌∷◌}
use Rattle.std.proofs.Common.{refl}
use Rattle.hex.proofs.OnLiterals.{hex_on_literals}
use Rattle.gb_text.specs.declared.id.Name.{Name}
use Rattle.gb_store.specs.Files.{Put, Removed}
use Rattle.packed_refs.specs.Packed.{PackedRef}
use Rattle.ref_packing.specs.Packing.{pack_writes}

-- the names of the blob of no bytes and of the tree of no entries
abbrev blob : Name
blob = record { bytes = 230 ∷ 157 ∷ 226 ∷ 155 ∷ 178 ∷ 209 ∷ 214 ∷ 67 ∷ 75 ∷ 139 ∷ 41 ∷ 174 ∷ 119 ∷ 90 ∷ 216 ∷ 194 ∷ 228 ∷ 140 ∷ 83 ∷ 145 ∷ [] }

abbrev tree : Name
tree = record { bytes = 75 ∷ 130 ∷ 93 ∷ 198 ∷ 66 ∷ 203 ∷ 110 ∷ 185 ∷ 160 ∷ 96 ∷ 229 ∷ 75 ∷ 248 ∷ 214 ∷ 146 ∷ 136 ∷ 251 ∷ 238 ∷ 73 ∷ 4 ∷ [] }

abbrev loose : PackedRef
loose = record { name = codes "refs/bugs/x"; head = tree }

abbrev other : PackedRef
other = record { name = codes "refs/heads/main"; head = blob }

no_writes : pack_writes (codes ".git") [] (other ∷ []) ≡ []
no_writes = refl

first_the_packed_refs : pack_writes (codes ".git") (loose ∷ []) (loose ∷ other ∷ [])
    ≡ Put (codes ".git/packed-refs") (codes "4b825dc642cb6eb9a060e54bf8d69288fbee4904 refs/bugs/x\ne69de29bb2d1d6434b8b29ae775ad8c2e48c5391 refs/heads/main\n") ∷ Removed (codes ".git/refs/bugs/x") ∷ []
unfolding hex_on_literals
first_the_packed_refs = refl
