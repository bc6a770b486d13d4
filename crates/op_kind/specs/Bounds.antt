-- Which common parts can be written so that they read back.
use Rattle.std.specs.Prelude.{◌≤◌, ◌<◌, ◌-◌, ◌^◌}
use Rattle.gb_text.specs.declared.decimal.TheConstants.{GREATEST_TIME}
use Rattle.op_kind.specs.Nonces.{IsNonce}
use Rattle.op_kind.specs.Pairs.{AreInKeyOrder, EachPairUtf8}
use Rattle.op_kind.specs.declared.place.Common.{Common}

-- The numbers are within their limits, the nonce is one, and the metadata is in byte order of its keys and UTF-8.
pub record IsWithinBounds (c : Common) : Type 0 where
  pub kind : c.kind < 2 ^ 64
  pub time : c.time ≤ GREATEST_TIME
  pub nonce : IsNonce c.nonce
  pub order : AreInKeyOrder c.metadata
  pub texts : EachPairUtf8 c.metadata
