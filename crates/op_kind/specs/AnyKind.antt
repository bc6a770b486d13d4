-- The kind that keeps the text that it was read from.
use Rattle.std.specs.Prelude.{◌≡◌, ⊤, ℕ, ◌+◌, ◌-◌, ◌^◌, min, true, List, Some}
use Rattle.std.specs.Option.{option_map}
use Rattle.op_kind.specs.OpText.{IsOpText}
use Rattle.op_kind.specs.Meaning.{Meaning}
use Rattle.op_kind.specs.Common.{common_at, CommonFault}
use Rattle.op_kind.specs.declared.place.Common.{Common}
use Rattle.op_kind.specs.declared.any_op.AnyOp.{AnyOp}

-- the text with its common part
abbrev pub any_op : List ℕ → Common → AnyOp
any_op t c = record { common = c; text = t }

-- one more, up to the greatest number of 64 bits
abbrev pub one_more : ℕ → ℕ
one_more n = min (n + 1) (2 ^ 64 - 1)

-- its text is that of an operation, and has its common part
pub record KeepsText (o : AnyOp) : Type 0 where
  pub is_text : IsOpText o.text
  pub reads : common_at o.common.place o.text ≡ Some o.common

-- What an operation means that keeps its text: it is written as it was read, and is counted.
abbrev pub any_kind : Meaning AnyOp ℕ ℕ
any_kind = record {
  read_at = λ p t. option_map (any_op t) (common_at p t);
  HasFault = λ version t f. CommonFault t f;
  written = λ o. o.text;
  KeepsRules = KeepsText;
  Fits = λ p o. ⊤;
  common_of = λ o. o.common;
  placed = λ p o. record { common = record o.common { place = p }; text = o.text };
  is_opening = λ o. true;
  is_following = λ o. true;
  initial = 0;
  state_after = λ s o. one_more s;
  row_of = λ s. s;
  row_after = λ r o. one_more r;
}
