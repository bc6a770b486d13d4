-- The log of a bug: a line for each pack of its entity, in the entity's order.
use Rattle.std.specs.Prelude.{ℕ, List, ◌++◌, codes, decimal}
use Rattle.std.specs.List.{flat_map}
use Rattle.hex.specs.Hex.{encode_lower}
use Rattle.bug_ops.specs.declared.op.BugOp.{BugOp}
use Rattle.dag_entity.specs.declared.entity.Placed.{Placed}

-- the line of a pack: its edit clock, a space, the name of its commit
abbrev pub log_line : Placed BugOp → List ℕ
log_line placed = decimal placed.pack.edit ++ codes " " ++ encode_lower placed.commit.bytes ++ codes "\n"

-- the lines
abbrev pub log_text_of : List (Placed BugOp) → List ℕ
log_text_of packs = flat_map log_line packs
