-- The list of persons: a line for each, with a star for the user.
use Rattle.std.specs.Prelude.{ℕ, Bool, false, List, [], ◌++◌, codes, Option, Some, None, if◌then◌else◌}
use Rattle.std.specs.List.{flat_map}
use Rattle.hex.specs.Hex.{encode_lower}
use Rattle.gb_text.specs.declared.id.Id.{Id}
use Rattle.bug_ops.specs.Snapshots.{same_id}
use Rattle.identity.specs.declared.chain.Person.{Person}

-- the id is the user's
abbrev pub is_user : Option Id → Id → Bool
is_user None id = false
is_user (Some user) id = same_id user id

-- the part of the user's line that others have not
abbrev pub star : Bool → List ℕ
star is = if is then codes "\t*" else []

-- the line of a person: the id, the name and the email with TABs between, and a star for the user
abbrev pub user_line : Option Id → Person → List ℕ
user_line user person =
    encode_lower person.id.bytes ++ codes "\t" ++ person.name ++ codes "\t" ++ person.email
    ++ star (is_user user person.id) ++ codes "\n"

-- the lines
abbrev pub users_text_of : List Person → Option Id → List ℕ
users_text_of persons user = flat_map (user_line user) persons
