-- How a person is named.
use Rattle.std.specs.Prelude.{ℕ, List, [], ◌∷◌, take, if◌then◌else◌}
use Rattle.hex.specs.Hex.{encode_lower}
use Rattle.gb_text.specs.declared.id.Id.{Id}
use Rattle.bug_ops.specs.Snapshots.{same_id}
use Rattle.identity.specs.declared.chain.Person.{Person}

-- the first seven digits of an id
abbrev pub short_of : Id → List ℕ
short_of id = take 7 (encode_lower id.bytes)

-- the name of the first person with this id, or the id's first digits if no person has it
abbrev pub name_among : List Person → Id → List ℕ
name_among [] id = short_of id
name_among (person ∷ persons) id = if same_id person.id id then person.name else name_among persons id
