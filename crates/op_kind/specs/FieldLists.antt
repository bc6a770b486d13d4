-- The members of the code as those of the definitions.
use Rattle.std.specs.Prelude.{List, map}
use Rattle.op_kind.specs.Members.{Fields}
use Rattle.op_kind.specs.declared.members.Field.{Field}
use Rattle.op_kind.specs.declared.written.Written.{Written}

-- members that were read
abbrev pub fields_in : List Field → Fields
fields_in fields = map (λ f. (f.name, f.value.now)) fields

-- members that are to be written
abbrev pub fields_for : List Written → Fields
fields_for members = map (λ m. (m.name.now, m.value)) members
