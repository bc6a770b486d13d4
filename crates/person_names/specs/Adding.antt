-- What a call adds to a text.
use Rattle.std.specs.Prelude.{◌≡◌, ℕ, List, ◌++◌, String, string_bytes, Result, OnOk}
use Rattle.std.specs.declared.alloc.Global.{Global}

-- A text got these bytes at its end, if the result is no fault.
abbrev pub Adds : {A E : Type 0} → Result A E → String Global → String Global → List ℕ → Type 0
Adds result old new bytes = OnOk result (string_bytes new ≡ string_bytes old ++ bytes)
