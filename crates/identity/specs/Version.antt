-- Version texts: what a version of an identity says, and how it is written.
use Rattle.std.specs.Prelude.{◌≡◌, ℕ, ◌≤◌, ◌-◌, ◌^◌, ◌==◌, ◌||◌, List, [], ◌∷◌, Bool, true, false, IsTrue, codes, decimal, Option, Some, None, option_and_then, if◌then◌else◌}
use Rattle.std.specs.Option.{option_map}
use Rattle.std.specs.Str.{IsUtf8, bytes_eq, is_utf8}
use Rattle.sha2.specs.Sha256.{sha256}
use Rattle.json.specs.Print.{quoted}
use Rattle.gb_text.specs.Decimal.{decimal_of}
use Rattle.gb_text.specs.Rules.{is_line_text, is_title_text}
use Rattle.gb_text.specs.declared.id.Id.{Id}
use Rattle.gb_text.specs.declared.ruled.Line.{Line}
use Rattle.gb_text.specs.declared.ruled.Title.{Title}
use Rattle.json_span.specs.Parts.{elements_of}
use Rattle.op_kind.specs.Common.{time_at, nonce_of}
use Rattle.op_kind.specs.Members.{Fields, text_at, fields_at, values_of, only_value, value_or}
use Rattle.op_kind.specs.Nonces.{IsNonce}
use Rattle.op_kind.specs.Written.{fields_text, nonce_text}
use Rattle.identity.specs.declared.version.Version.{Version}

-- ---- what the value of a member reads as

-- the text, if it is a line
abbrev pub line_only : List ℕ → Option (List ℕ)
line_only text = if is_line_text text then Some text else None

-- a line: a text with no control character
abbrev pub line_at : List ℕ → Option (List ℕ)
line_at value = option_and_then line_only (text_at value)

-- there is an element
abbrev pub has_element : List (List ℕ) → Bool
has_element [] = false
has_element (x ∷ xs) = true

-- keys, null or an array: whether there are any
abbrev pub keys_at : List ℕ → Option Bool
keys_at value = if bytes_eq value (codes "null") then Some false else option_map has_element (elements_of value)

-- ---- what the members say

-- the number of the format
abbrev pub format_of : Fields → Option ℕ
format_of fs = only_value decimal_of (values_of (codes "version") fs)

-- the line under a name, empty where it is absent
abbrev pub line_of : List ℕ → Fields → Option (List ℕ)
line_of name fs = value_or [] line_at (values_of name fs)

-- the time
abbrev pub moment_of : Fields → Option ℕ
moment_of fs = only_value time_at (values_of (codes "unix_time") fs)

-- whether there are keys
abbrev pub keys_of : Fields → Option Bool
keys_of fs = value_or false keys_at (values_of (codes "pub_keys") fs)

-- a name or a login shows something
abbrev pub is_titled : Version → Bool
is_titled v = is_title_text v.name || is_title_text v.login

-- The text is UTF-8 and an object whose members say this in the format 2, no known member repeated.
pub record IsVersionText (text : List ℕ) (v : Version) : Type 0 where
  pub utf8 : IsTrue (is_utf8 text)
  pub fields : Fields
  pub object : fields_at text ≡ Some fields
  pub format : format_of fields ≡ Some 2
  pub name : line_of (codes "name") fields ≡ Some v.name
  pub email : line_of (codes "email") fields ≡ Some v.email
  pub login : line_of (codes "login") fields ≡ Some v.login
  pub avatar_url : line_of (codes "avatar_url") fields ≡ Some v.avatar_url
  pub time : moment_of fields ≡ Some v.time
  pub nonce : nonce_of fields ≡ Some v.nonce
  pub keys : keys_of fields ≡ Some v.has_keys
  pub titled : IsTrue (is_titled v)

-- ---- the version that a text is

-- what is made of a value, if there is one
abbrev pub with_value : {A B : Type 0} → Option A → (A → Option B) → Option B
with_value o next = option_and_then next o

-- the version, if its format is 2 and a name or a login shows something
abbrev pub titled_only : Version → Option Version
titled_only v = if is_titled v then Some v else None

-- what the members say, format aside
abbrev pub said_by : Fields → Option Version
said_by fs =
    with_value (line_of (codes "name") fs) (λ name.
    with_value (line_of (codes "email") fs) (λ email.
    with_value (line_of (codes "login") fs) (λ login.
    with_value (line_of (codes "avatar_url") fs) (λ avatar_url.
    with_value (moment_of fs) (λ time.
    with_value (nonce_of fs) (λ nonce.
    with_value (keys_of fs) (λ has_keys.
    titled_only (record { name = name; email = email; login = login; avatar_url = avatar_url; time = time; nonce = nonce; has_keys = has_keys }))))))))

-- the version that the members are
unfoldable pub version_in : Fields → Option Version
version_in fs = with_value (format_of fs) (λ format. if format == 2 then said_by fs else None)

-- The version that a text is, if it is a version text.
abbrev pub version_of : List ℕ → Option Version
version_of text = if is_utf8 text then option_and_then version_in (fields_at text) else None

-- ---- what a version is for

-- The person's name: the name, or the login where the name is blank.
abbrev pub person_name : Version → List ℕ
person_name v = if is_title_text v.name then v.name else v.login

-- The id of the identity whose first version has this text: its SHA-256.
abbrev pub version_id : List ℕ → Id
version_id text = record { bytes = sha256 text }

-- ---- how a version is written

-- the members that are written
abbrev pub version_fields : List ℕ → List ℕ → List ℕ → ℕ → Fields
version_fields name email nonce time =
    (codes "email", quoted email) ∷
    (codes "name", quoted name) ∷
    (codes "nonce", nonce_text nonce) ∷
    (codes "times", codes "{}") ∷
    (codes "unix_time", decimal time) ∷
    (codes "version", decimal 2) ∷ []

-- The text of a version: an object without white space.
abbrev pub version_text_of : List ℕ → List ℕ → List ℕ → ℕ → List ℕ
version_text_of name email nonce time = fields_text (version_fields name email nonce time)

-- A version may be written of these: a title, a line, a nonce, and a time up to 2^63 - 1.
pub record MayBeWritten (name email nonce : List ℕ) (time : ℕ) : Type 0 where
  pub name_utf8 : IsUtf8 name
  pub email_utf8 : IsUtf8 email
  pub title : IsTrue (is_title_text name)
  pub line : IsTrue (is_line_text email)
  pub is_nonce : IsNonce nonce
  pub moment : time ≤ 2 ^ 63 - 1

-- the version that is written: no login, no picture, no keys
abbrev pub written_version : List ℕ → List ℕ → List ℕ → ℕ → Version
written_version name email nonce time = record { name = name; email = email; login = []; avatar_url = []; time = time; nonce = nonce; has_keys = false }

-- the text of a version with this name and email
abbrev pub text_with : Title → Line → List ℕ → ℕ → List ℕ
text_with name email nonce time = version_text_of name.text email.text nonce time

-- the version that it reads as
abbrev pub version_with : Title → Line → List ℕ → ℕ → Version
version_with name email nonce time = written_version name.text email.text nonce time
