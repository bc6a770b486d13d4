-- Worked texts of each command that reads, computed.
use Rattle.std.specs.Prelude.{◌≡◌, ◌++◌, ℕ, codes, [], ◌∷◌, Some, None}
use Rattle.std.specs.Fmt.{digits}
use Rattle.std.specs.List.{repeat}
use Rattle.std.proofs.Common.{refl}
use Rattle.hex.proofs.OnLiterals.{hex_on_literals}
use Rattle.json.proofs.OnLiterals.{json_on_literals}
use Rattle.gb_text.specs.declared.id.Id.{Id}
use Rattle.gb_text.specs.declared.id.Name.{Name}
use Rattle.bug_ops.specs.declared.op.BugOp.{BugOp}
use Rattle.bug_ops.specs.declared.op.BugStatus.TheVariants.{Closed, Opened}
use Rattle.bug_ops.specs.declared.snapshot.Snapshot.{Snapshot}
use Rattle.combined_id.specs.Combined.{combined_from}
use Rattle.dag_entity.specs.declared.entity.Placed.{Placed}
use Rattle.identity.specs.declared.chain.Person.{Person}
use Rattle.render.specs.Log.{log_text_of}
use Rattle.render.specs.Show.{show_text_of}
use Rattle.render.specs.Users.{users_text_of}

-- the id, and the name of a commit, whose bytes are all this one
abbrev id_of : ℕ → Id
id_of byte = record { bytes = repeat 32 (byte ∷ []) }

abbrev name_of : ℕ → Name
name_of byte = record { bytes = repeat 20 (byte ∷ []) }

-- Ana with the id of `a0`, and Bo, who has no email, with that of `b0`
abbrev ana : Person
ana = record { id = id_of 160; head = name_of 0; name = codes "Ana"; email = codes "ana@x" }

abbrev bo : Person
bo = record { id = id_of 176; head = name_of 0; name = codes "Bo"; email = [] }

-- the user's line ends with a star
persons : users_text_of (ana ∷ bo ∷ []) (Some (id_of 176)) ≡ repeat 32 (codes "a0") ++ codes "\tAna\tana@x\n" ++ repeat 32 (codes "b0") ++ codes "\tBo\t\t*\n"
unfolding hex_on_literals
persons = refl

no_user : users_text_of (bo ∷ []) None ≡ repeat 32 (codes "b0") ++ codes "\tBo\t\n"
unfolding hex_on_literals
no_user = refl

-- with an email or without
user_with_email : users_text_of (ana ∷ []) (Some (id_of 160)) ≡ repeat 32 (codes "a0") ++ codes "\tAna\tana@x\t*\n"
unfolding hex_on_literals
user_with_email = refl

-- a commit with an empty pack at this clock
abbrev placed_at : ℕ → ℕ → Placed BugOp
placed_at byte edit = record {
  commit = name_of byte;
  pack = record { id = id_of byte; version = 4; edit = edit; create = None; author = id_of 0; ops = [] };
}

log : log_text_of (placed_at 238 2 ∷ placed_at 15 10 ∷ []) ≡ codes "2 " ++ repeat 20 (codes "ee") ++ codes "\n10 " ++ repeat 20 (codes "0f") ++ codes "\n"
unfolding digits hex_on_literals
log = refl

-- the edit clock is told, also of a pack that has a create clock
abbrev root_at : ℕ → ℕ → ℕ → Placed BugOp
root_at byte create edit = record {
  commit = name_of byte;
  pack = record { id = id_of byte; version = 4; edit = edit; create = Some create; author = id_of 0; ops = [] };
}

log_of_a_root : log_text_of (root_at 238 7 3 ∷ []) ≡ codes "3 " ++ repeat 20 (codes "ee") ++ codes "\n"
unfolding digits hex_on_literals
log_of_a_root = refl

-- a closed bug with a label of two words, an actor whom nobody knows, metadata with a quote and a line feed, and a comment of two lines with an empty one between
abbrev bug : Snapshot
bug = record {
  row = record {
    id = id_of 170;
    title = codes "A title";
    status = Closed;
    labels = codes "two words" ∷ [];
    author = id_of 160;
    actors = id_of 160 ∷ id_of 193 ∷ [];
    participants = id_of 176 ∷ [];
    create = 5;
    edit = 12;
    first = 34;
    last = 0;
    comments = 1;
    metadata = record { key = codes "a\"b"; value = codes "\n" } ∷ [];
  };
  list = record { id = id_of 187; author = id_of 176; time = 7; message = codes "one\n\ntwo" } ∷ [];
}

shown : show_text_of bug (ana ∷ bo ∷ []) ≡
    codes "bug " ++ repeat 32 (codes "aa")
    ++ codes "\ntitle A title\nstatus closed\nlabel two words\nauthor Ana\ncreated 5 34\nedited 12 0\nactor Ana\nactor c1c1c1c\nparticipant Bo\nmetadata \"a\\\"b\" \"\\n\"\n"
    ++ codes "comment abababaaab" ++ repeat 10 (codes "aaaab") ++ codes "aaaa Bo 7\n    one\n    \n    two\n"
unfolding digits hex_on_literals json_on_literals combined_from
shown = refl

-- an open bug without labels and metadata, and two comments, the second of which is empty
abbrev open_bug : Snapshot
open_bug = record {
  row = record {
    id = id_of 170;
    title = codes "t";
    status = Opened;
    labels = [];
    author = id_of 176;
    actors = id_of 176 ∷ [];
    participants = [];
    create = 1;
    edit = 1;
    first = 2;
    last = 2;
    comments = 2;
    metadata = [];
  };
  list =
      record { id = id_of 187; author = id_of 176; time = 2; message = codes "m" }
      ∷ record { id = id_of 204; author = id_of 160; time = 3; message = [] }
      ∷ [];
}

shown_open : show_text_of open_bug (ana ∷ bo ∷ []) ≡
    codes "bug " ++ repeat 32 (codes "aa")
    ++ codes "\ntitle t\nstatus open\nauthor Bo\ncreated 1 2\nedited 1 2\nactor Bo\n"
    ++ codes "comment abababaaab" ++ repeat 10 (codes "aaaab") ++ codes "aaaa Bo 2\n    m\n"
    ++ codes "comment acacacaaac" ++ repeat 10 (codes "aaaac") ++ codes "aaaa Ana 3\n    \n"
unfolding digits hex_on_literals json_on_literals combined_from
shown_open = refl

-- a stranger, whose id begins with unlike digits, and two persons with one id, of whom the first is named; two labels, two pairs and two participants in the
-- order given; and a message with a return, which stays, and a line feed at its end, behind which an empty line stands
abbrev stranger : Id
stranger = record { bytes = 1 ∷ 35 ∷ 69 ∷ 103 ∷ repeat 28 (137 ∷ []) }

abbrev other_ana : Person
other_ana = record { id = id_of 160; head = name_of 1; name = codes "Other"; email = [] }

abbrev strange_bug : Snapshot
strange_bug = record {
  row = record {
    id = id_of 170;
    title = codes "t";
    status = Opened;
    labels = codes "b" ∷ codes "a" ∷ [];
    author = stranger;
    actors = stranger ∷ [];
    participants = id_of 160 ∷ stranger ∷ [];
    create = 1;
    edit = 3;
    first = 0;
    last = 9;
    comments = 1;
    metadata = record { key = codes "k"; value = codes "\"v\"" } ∷ record { key = codes "j"; value = [] } ∷ [];
  };
  list = record { id = id_of 187; author = stranger; time = 0; message = codes "a\r\n" } ∷ [];
}

shown_stranger : show_text_of strange_bug (bo ∷ ana ∷ other_ana ∷ []) ≡
    codes "bug " ++ repeat 32 (codes "aa")
    ++ codes "\ntitle t\nstatus open\nlabel b\nlabel a\nauthor 0123456\ncreated 1 0\nedited 3 9\nactor 0123456\nparticipant Ana\nparticipant 0123456\n"
    ++ codes "metadata \"k\" \"\\\"v\\\"\"\nmetadata \"j\" \"\"\n"
    ++ codes "comment abababaaab" ++ repeat 10 (codes "aaaab") ++ codes "aaaa 0123456 0\n    a\r\n    \n"
unfolding digits hex_on_literals json_on_literals combined_from
shown_stranger = refl
