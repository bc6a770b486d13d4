-- The user of a folder: the identity whose edits are made there.
use Rattle.std.specs.Prelude.{ℕ, List, [], ◌∷◌, ◌++◌, codes, Option, Some, None, if◌then◌else◌}
use Rattle.hex.specs.Hex.{encode_lower}
use Rattle.gb_text.specs.Digits.{id_of}
use Rattle.gb_text.specs.Folder.{joined}
use Rattle.gb_text.specs.LineEnd.{line_of}
use Rattle.gb_text.specs.declared.id.Id.{Id}
use Rattle.gb_store.specs.Files.{Files, Put}
use Rattle.gb_store.specs.declared.store.Change.{Change}
use Rattle.ref_store.specs.Refs.{Ref, Absent, Head, Bad}
use Rattle.repo_state.specs.Sides.{has_ref, head_at}
use Rattle.repo_state.specs.declared.side.HeadEntry.{HeadEntry}
use Rattle.repo_state.specs.declared.side.Side.TheVariants as side

-- the user: none where no file stands, a local identity, or a file that names none
pub data UserFound : Type 0 where
  NoUser : UserFound
  User : Id → UserFound
  BadUser : UserFound

-- where the user file stands, below its folder
abbrev pub user_place : List ℕ
user_place = codes "git-bug/user"

-- the user that a file's id names, if it is the id of a local identity
abbrev pub local_user : Files → List ℕ → Option Id → UserFound
local_user files folder None = BadUser
local_user files folder (Some id) = if has_ref files folder side.Identities id then User id else BadUser

-- the user that a file names: an id of 64 lower-case digits, with at most one LF behind them
abbrev pub user_of : Files → List ℕ → Option (List ℕ) → UserFound
user_of files folder None = NoUser
user_of files folder (Some text) = local_user files folder (id_of (line_of text))

-- the user of a folder
abbrev pub user_at : Files → List ℕ → UserFound
user_at files folder = user_of files folder (files (joined folder user_place))

-- an id with its head, where its ref reads
abbrev pub entry_by : Id → Ref → Option HeadEntry
entry_by id Absent = None
entry_by id (Head name) = Some (record { id = id; name = name })
entry_by id Bad = None

-- the user with its head, where there is a user whose ref reads
abbrev pub entry_of_user : Files → List ℕ → UserFound → Option HeadEntry
entry_of_user files folder NoUser = None
entry_of_user files folder (User id) = entry_by id (head_at files folder side.Identities id)
entry_of_user files folder BadUser = None

abbrev pub user_entry : Files → List ℕ → Option HeadEntry
user_entry files folder = entry_of_user files folder (user_at files folder)

-- the line of an id: its digits and LF
abbrev pub id_line : Id → List ℕ
id_line id = encode_lower id.bytes ++ 10 ∷ []

-- the write of the user file
abbrev pub user_write : List ℕ → Id → Change
user_write folder id = Put (joined folder user_place) (id_line id)
