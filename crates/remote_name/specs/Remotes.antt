-- The remote's name that a text is.
use Rattle.std.specs.Prelude.{◌≡◌, refl, ℕ, Bool, true, false, List, Option, Some, None}
use Rattle.remote_name.specs.RemoteTexts.{is_remote_name}
use Rattle.remote_name.specs.declared.remote.RemoteName.{RemoteName}

-- a remote's name, by whether the text is one
abbrev pub remote_by : (text : List ℕ) (good : Bool) → is_remote_name text ≡ good → Option RemoteName
remote_by text true good = Some (record { text = text; is_name = good })
remote_by text false good = None

-- the remote's name that a text is, if it is one
abbrev pub remote_of : List ℕ → Option RemoteName
remote_of text = remote_by text (is_remote_name text) refl
