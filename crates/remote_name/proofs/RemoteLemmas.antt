-- A text that is the name of a remote is read as the one name that has this text; another is read as none.
use Rattle.std.proofs.Common.{◌≡◌, ◌∙◌, refl, ap, sym, ℕ, Bool, true, false, ◌&&◌, nat_le, List, length, Some, None, IsSome}
use Rattle.std.proofs.Math.Bool.{Bool-set}
use Rattle.std.proofs.lemmas.Bool.{and_parts}
use Rattle.std.proofs.lemmas.Option.{same_Some}
use Rattle.std.specs.List.{list_all}
use Rattle.remote_name.specs.RemoteTexts.{is_remote_byte, is_remote_name}
use Rattle.remote_name.specs.Remotes.{remote_by, remote_of}
use Rattle.remote_name.specs.declared.remote.RemoteName.{RemoteName}

pub the_remote : (remote : RemoteName) → remote_of remote.text ≡ Some remote
the_remote remote = by (is_remote_name remote.text) refl remote.is_name
  where
    by : (good : Bool) (g : is_remote_name remote.text ≡ good) → is_remote_name remote.text ≡ true → remote_by remote.text good g ≡ Some remote
    by true g h = ap (λ g. Some (record { text = remote.text; is_name = g })) (Bool-set _ _ g remote.is_name)
    by false g h = absurd cc

-- so a text is that of one name only
pub one_remote : (one two : RemoteName) → one.text ≡ two.text → one ≡ two
one_remote one two same = same_Some one two (sym (the_remote one) ∙ ap remote_of same ∙ the_remote two)

-- a copy of a text that is a name
pub copied_remote : (text : List ℕ) (remote : RemoteName) → remote.text ≡ text → Some remote ≡ remote_of text
copied_remote text remote is = sym (ap remote_of (sym is) ∙ the_remote remote)

-- a text that is a name is read as one
pub is_a_remote : (text : List ℕ) → is_remote_name text ≡ true → IsSome (remote_of text)
is_a_remote text good = by (is_remote_name text) refl good
  where
    by : (good : Bool) (g : is_remote_name text ≡ good) → is_remote_name text ≡ true → IsSome (remote_by text good g)
    by true g h = refl
    by false g h = absurd cc

pub no_remote : (text : List ℕ) → is_remote_name text ≡ false → remote_of text ≡ None
no_remote text bad = by (is_remote_name text) refl bad
  where
    by : (good : Bool) (g : is_remote_name text ≡ good) → is_remote_name text ≡ false → remote_by text good g ≡ None
    by true g h = absurd cc
    by false g h = refl

-- the bytes of a name
pub bytes_of_remote : (remote : RemoteName) → list_all is_remote_byte remote.text ≡ true
bytes_of_remote remote = (and_parts (nat_le 1 (length remote.text) && nat_le (length remote.text) 64) (list_all is_remote_byte remote.text) remote.is_name).1
