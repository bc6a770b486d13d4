-- Names of ids, computed.
use Rattle.std.specs.Prelude.{◌≡◌, ℕ, codes, [], ◌∷◌}
use Rattle.std.specs.List.{repeat}
use Rattle.std.proofs.Common.{refl}
use Rattle.hex.proofs.OnLiterals.{hex_on_literals}
use Rattle.gb_text.specs.declared.id.Id.{Id}
use Rattle.gb_text.specs.declared.id.Name.{Name}
use Rattle.identity.specs.declared.chain.Person.{Person}
use Rattle.person_names.specs.Named.{name_among}

-- the id, and the name of a commit, whose bytes are all this one
abbrev id_of : ℕ → Id
id_of byte = record { bytes = repeat 32 (byte ∷ []) }

abbrev name_of : ℕ → Name
name_of byte = record { bytes = repeat 20 (byte ∷ []) }

-- Ana and Ann have one id
abbrev ana : Person
ana = record { id = id_of 160; head = name_of 0; name = codes "Ana"; email = codes "ana@x" }

abbrev ann : Person
ann = record { id = id_of 160; head = name_of 0; name = codes "Ann"; email = [] }

first : name_among (ana ∷ ann ∷ []) (id_of 160) ≡ codes "Ana"
first = refl

digits : name_among (ana ∷ []) (id_of 193) ≡ codes "c1c1c1c"
unfolding hex_on_literals
digits = refl

nobody : name_among [] (id_of 10) ≡ codes "0a0a0a0"
unfolding hex_on_literals
nobody = refl
