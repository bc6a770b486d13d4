-- What the texts of rows mean, and the law of a codec.
use Rattle.std.specs.Prelude.{◌≡◌, ℕ, List, Option, Some}

-- The meaning of a type of rows.
pub record Codec (Row : Type 0) : Type 1 where
  -- the text that a row is written as
  pub written : Row → List ℕ
  -- the row that a text reads as, if it is one
  pub read_as : List ℕ → Option Row
  -- the row satisfies the rules of its type
  pub KeepsRules : Row → Type 0

-- The law of a codec: what is written of a row that satisfies the rules reads as the row.
pub record KeepsLaw {Row : Type 0} (codec : Codec Row) : Type 0 where
  pub reads_back : (row : Row) → codec.KeepsRules row → codec.read_as (codec.written row) ≡ Some row
