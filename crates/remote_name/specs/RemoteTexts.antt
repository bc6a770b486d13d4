-- Which texts are names of remotes.
use Rattle.std.specs.Prelude.{ℕ, ◌==◌, ◌&&◌, ◌||◌, nat_le, Bool, List, length}
use Rattle.std.specs.Char.{is_ascii_alphanumeric}
use Rattle.std.specs.List.{list_all}

-- a letter, a digit, `_` or `-` of ASCII
abbrev pub is_remote_byte : ℕ → Bool
is_remote_byte c = (is_ascii_alphanumeric c || c == 95) || c == 45

-- the name of a remote: 1 to 64 of these
abbrev pub is_remote_name : List ℕ → Bool
is_remote_name text = (nat_le 1 (length text) && nat_le (length text) 64) && list_all is_remote_byte text
