-- Worked examples of the definitions, computed: which text each type of operation is, and what is wrong with some that are none.
use Rattle.std.specs.Prelude.{◌≡◌, ⊤, ℕ, List, codes, [], ◌∷◌, Some}
use Rattle.std.specs.Fmt.{digits}
use Rattle.std.specs.Str.{chars, is_utf8}
use Rattle.std.proofs.Common.{refl, inl, inr, lit≤}
use Rattle.hex.proofs.OnLiterals.{hex_on_literals}
use Rattle.json.proofs.OnLiterals.{json_on_literals}
use Rattle.gb_text.specs.declared.id.Id.{Id}
use Rattle.gb_text.specs.declared.id.Name.{Name}
use Rattle.op_kind.proofs.Examples.{op_kind_on_literals}
use Rattle.op_kind.specs.Forms.{elements_at}
use Rattle.op_kind.specs.Tables.{op_with}
use Rattle.op_kind.specs.declared.fault.OpFault.TheVariants.{UnknownType, BadMember, BadText}
use Rattle.op_kind.specs.declared.place.Common.{Common}
use Rattle.op_kind.specs.declared.place.Place.{Place}
use Rattle.op_kind.specs.declared.place.TheConstants.{VERSION}
use Rattle.bug_ops.specs.Kind.{bug_kind}
use Rattle.bug_ops.specs.declared.op.BugOp.{BugOp}
use Rattle.bug_ops.specs.declared.op.BugOp.TheVariants.{Create, SetTitle, AddComment, SetStatus, LabelChange, EditComment, NoOp, SetMetadata}
use Rattle.bug_ops.specs.declared.op.BugStatus.TheVariants.{Opened, Closed}

-- what an answer unfolds to read and write an operation on a literal
unfoldable pub bug_ops_on_literals : ⊤
unfolding digits chars is_utf8 hex_on_literals json_on_literals op_kind_on_literals elements_at op_with
bug_ops_on_literals = tt

-- a place
abbrev place : Place
place = record { id = record { bytes = 1 ∷ [] }; author = record { bytes = 2 ∷ [] }; edit = 3; create = Some 4 }

-- the common part there of an operation whose type has a number: 20 bytes of nonce, and no metadata
abbrev common : ℕ → Common
common kind = record { place = place; kind = kind; time = 0; nonce = 0 ∷ 0 ∷ 0 ∷ 0 ∷ 0 ∷ 0 ∷ 0 ∷ 0 ∷ 0 ∷ 0 ∷ 0 ∷ 0 ∷ 0 ∷ 0 ∷ 0 ∷ 0 ∷ 0 ∷ 0 ∷ 0 ∷ 0 ∷ []; metadata = [] }

-- the id of 32 bytes 10, and the object name of 20 bytes 10
abbrev target : Id
target = record { bytes = 10 ∷ 10 ∷ 10 ∷ 10 ∷ 10 ∷ 10 ∷ 10 ∷ 10 ∷ 10 ∷ 10 ∷ 10 ∷ 10 ∷ 10 ∷ 10 ∷ 10 ∷ 10 ∷ 10 ∷ 10 ∷ 10 ∷ 10 ∷ 10 ∷ 10 ∷ 10 ∷ 10 ∷ 10 ∷ 10 ∷ 10 ∷ 10 ∷ 10 ∷ 10 ∷ 10 ∷ 10 ∷ [] }

abbrev blob : Name
blob = record { bytes = 10 ∷ 10 ∷ 10 ∷ 10 ∷ 10 ∷ 10 ∷ 10 ∷ 10 ∷ 10 ∷ 10 ∷ 10 ∷ 10 ∷ 10 ∷ 10 ∷ 10 ∷ 10 ∷ 10 ∷ 10 ∷ 10 ∷ 10 ∷ [] }

-- the text reads as the operation, and the operation is written so
abbrev IsTextOf : BugOp → List ℕ → Type 0
IsTextOf op text = (bug_kind.read_at place text ≡ Some op) × (bug_kind.written op ≡ text)

-- ---- which text each type of operation is

create : IsTextOf (Create (common 1) (codes "a") (codes "b") []) (codes "{\"files\":[],\"message\":\"b\",\"nonce\":\"AAAAAAAAAAAAAAAAAAAAAAAAAAA=\",\"timestamp\":0,\"title\":\"a\",\"type\":1}")
unfolding bug_ops_on_literals
create = (refl, refl)

set_title : IsTextOf (SetTitle (common 2) (codes "a") (codes "b")) (codes "{\"nonce\":\"AAAAAAAAAAAAAAAAAAAAAAAAAAA=\",\"timestamp\":0,\"title\":\"a\",\"type\":2,\"was\":\"b\"}")
unfolding bug_ops_on_literals
set_title = (refl, refl)

add_comment : IsTextOf (AddComment (common 3) (codes "b") (blob ∷ [])) (codes "{\"files\":[\"0a0a0a0a0a0a0a0a0a0a0a0a0a0a0a0a0a0a0a0a\"],\"message\":\"b\",\"nonce\":\"AAAAAAAAAAAAAAAAAAAAAAAAAAA=\",\"timestamp\":0,\"type\":3}")
unfolding bug_ops_on_literals
add_comment = (refl, refl)

opened : IsTextOf (SetStatus (common 4) Opened) (codes "{\"nonce\":\"AAAAAAAAAAAAAAAAAAAAAAAAAAA=\",\"status\":1,\"timestamp\":0,\"type\":4}")
unfolding bug_ops_on_literals
opened = (refl, refl)

closed : IsTextOf (SetStatus (common 4) Closed) (codes "{\"nonce\":\"AAAAAAAAAAAAAAAAAAAAAAAAAAA=\",\"status\":2,\"timestamp\":0,\"type\":4}")
unfolding bug_ops_on_literals
closed = (refl, refl)

label_change : IsTextOf (LabelChange (common 5) (codes "a" ∷ []) (codes "b" ∷ codes "c" ∷ [])) (codes "{\"added\":[\"a\"],\"nonce\":\"AAAAAAAAAAAAAAAAAAAAAAAAAAA=\",\"removed\":[\"b\",\"c\"],\"timestamp\":0,\"type\":5}")
unfolding bug_ops_on_literals
label_change = (refl, refl)

edit_comment : IsTextOf (EditComment (common 6) target (codes "b") []) (codes "{\"files\":[],\"message\":\"b\",\"nonce\":\"AAAAAAAAAAAAAAAAAAAAAAAAAAA=\",\"target\":\"0a0a0a0a0a0a0a0a0a0a0a0a0a0a0a0a0a0a0a0a0a0a0a0a0a0a0a0a0a0a0a0a\",\"timestamp\":0,\"type\":6}")
unfolding bug_ops_on_literals
edit_comment = (refl, refl)

no_op : IsTextOf (NoOp (common 7)) (codes "{\"nonce\":\"AAAAAAAAAAAAAAAAAAAAAAAAAAA=\",\"timestamp\":0,\"type\":7}")
unfolding bug_ops_on_literals
no_op = (refl, refl)

set_metadata : IsTextOf (SetMetadata (common 8) target (record { key = codes "a"; value = codes "b" } ∷ [])) (codes "{\"new_metadata\":{\"a\":\"b\"},\"nonce\":\"AAAAAAAAAAAAAAAAAAAAAAAAAAA=\",\"target\":\"0a0a0a0a0a0a0a0a0a0a0a0a0a0a0a0a0a0a0a0a0a0a0a0a0a0a0a0a0a0a0a0a\",\"timestamp\":0,\"type\":8}")
unfolding bug_ops_on_literals
set_metadata = (refl, refl)

own_metadata : IsTextOf (NoOp (record (common 7) { time = 1; metadata = record { key = codes "a"; value = codes "b" } ∷ [] })) (codes "{\"metadata\":{\"a\":\"b\"},\"nonce\":\"AAAAAAAAAAAAAAAAAAAAAAAAAAA=\",\"timestamp\":1,\"type\":7}")
unfolding bug_ops_on_literals
own_metadata = (refl, refl)

-- ---- what may be absent or null, and what a message may have

files_absent : bug_kind.read_at place (codes "{\"message\":\"b\",\"nonce\":\"AAAAAAAAAAAAAAAAAAAAAAAAAAA=\",\"timestamp\":0,\"title\":\"a\",\"type\":1}") ≡ Some (Create (common 1) (codes "a") (codes "b") [])
unfolding bug_ops_on_literals
files_absent = refl

files_null : bug_kind.read_at place (codes "{\"files\":null,\"message\":\"b\",\"nonce\":\"AAAAAAAAAAAAAAAAAAAAAAAAAAA=\",\"timestamp\":0,\"type\":3}") ≡ Some (AddComment (common 3) (codes "b") [])
unfolding bug_ops_on_literals
files_null = refl

was_absent : bug_kind.read_at place (codes "{\"nonce\":\"AAAAAAAAAAAAAAAAAAAAAAAAAAA=\",\"timestamp\":0,\"title\":\"a\",\"type\":2}") ≡ Some (SetTitle (common 2) (codes "a") [])
unfolding bug_ops_on_literals
was_absent = refl

labels_absent : bug_kind.read_at place (codes "{\"nonce\":\"AAAAAAAAAAAAAAAAAAAAAAAAAAA=\",\"timestamp\":0,\"type\":5}") ≡ Some (LabelChange (common 5) [] [])
unfolding bug_ops_on_literals
labels_absent = refl

labels_null : bug_kind.read_at place (codes "{\"added\":null,\"nonce\":\"AAAAAAAAAAAAAAAAAAAAAAAAAAA=\",\"removed\":null,\"timestamp\":0,\"type\":5}") ≡ Some (LabelChange (common 5) [] [])
unfolding bug_ops_on_literals
labels_null = refl

message_lines : bug_kind.read_at place (codes "{\"message\":\"\\t\\r\\n\",\"nonce\":\"AAAAAAAAAAAAAAAAAAAAAAAAAAA=\",\"timestamp\":0,\"type\":3}") ≡ Some (AddComment (common 3) (9 ∷ 13 ∷ 10 ∷ []) [])
unfolding bug_ops_on_literals
message_lines = refl

-- ---- what is wrong with a text, by the number of the member

-- a member that must stand is missing, or its JSON is not of its form
title_missing : bug_kind.HasFault VERSION (codes "{\"nonce\":\"AAAAAAAAAAAAAAAAAAAAAAAAAAA=\",\"timestamp\":0,\"type\":2}") (BadMember 5)
unfolding bug_ops_on_literals
title_missing = inr (inl (inl (refl, inr (inl refl))))

title_number : bug_kind.HasFault VERSION (codes "{\"nonce\":\"AAAAAAAAAAAAAAAAAAAAAAAAAAA=\",\"timestamp\":0,\"title\":1,\"type\":2}") (BadMember 5)
unfolding bug_ops_on_literals
title_number = inr (inl (inl (refl, inr (inr (inl refl)))))

message_missing : bug_kind.HasFault VERSION (codes "{\"files\":[],\"nonce\":\"AAAAAAAAAAAAAAAAAAAAAAAAAAA=\",\"timestamp\":0,\"type\":3}") (BadMember 7)
unfolding bug_ops_on_literals
message_missing = inr (inl (inl (refl, inr (inl refl))))

message_repeated : bug_kind.HasFault VERSION (codes "{\"message\":\"a\",\"message\":\"b\",\"nonce\":\"AAAAAAAAAAAAAAAAAAAAAAAAAAA=\",\"timestamp\":0,\"type\":3}") (BadMember 7)
unfolding bug_ops_on_literals
message_repeated = inr (inl (inl (refl, inl (lit≤ tt))))

status_0 : bug_kind.HasFault VERSION (codes "{\"nonce\":\"AAAAAAAAAAAAAAAAAAAAAAAAAAA=\",\"status\":0,\"timestamp\":0,\"type\":4}") (BadMember 9)
unfolding bug_ops_on_literals
status_0 = inr (inl (inl (refl, inr (inr (inl refl)))))

status_3 : bug_kind.HasFault VERSION (codes "{\"nonce\":\"AAAAAAAAAAAAAAAAAAAAAAAAAAA=\",\"status\":3,\"timestamp\":0,\"type\":4}") (BadMember 9)
unfolding bug_ops_on_literals
status_3 = inr (inl (inl (refl, inr (inr (inl refl)))))

status_missing : bug_kind.HasFault VERSION (codes "{\"nonce\":\"AAAAAAAAAAAAAAAAAAAAAAAAAAA=\",\"timestamp\":0,\"type\":4}") (BadMember 9)
unfolding bug_ops_on_literals
status_missing = inr (inl (inl (refl, inr (inl refl))))

target_missing : bug_kind.HasFault VERSION (codes "{\"message\":\"b\",\"nonce\":\"AAAAAAAAAAAAAAAAAAAAAAAAAAA=\",\"timestamp\":0,\"type\":6}") (BadMember 12)
unfolding bug_ops_on_literals
target_missing = inr (inl (inl (refl, inr (inl refl))))

target_of_31 : bug_kind.HasFault VERSION (codes "{\"message\":\"b\",\"nonce\":\"AAAAAAAAAAAAAAAAAAAAAAAAAAA=\",\"target\":\"0a0a0a0a0a0a0a0a0a0a0a0a0a0a0a0a0a0a0a0a0a0a0a0a0a0a0a0a0a0a0a\",\"timestamp\":0,\"type\":6}") (BadMember 12)
unfolding bug_ops_on_literals
target_of_31 = inr (inl (inl (refl, inr (inr (inl refl)))))

edit_without_message : bug_kind.HasFault VERSION (codes "{\"nonce\":\"AAAAAAAAAAAAAAAAAAAAAAAAAAA=\",\"target\":\"0a0a0a0a0a0a0a0a0a0a0a0a0a0a0a0a0a0a0a0a0a0a0a0a0a0a0a0a0a0a0a0a\",\"timestamp\":0,\"type\":6}") (BadMember 7)
unfolding bug_ops_on_literals
edit_without_message = inr (inr (inl (inl (refl, inr (inl refl)))))

new_metadata_missing : bug_kind.HasFault VERSION (codes "{\"nonce\":\"AAAAAAAAAAAAAAAAAAAAAAAAAAA=\",\"target\":\"0a0a0a0a0a0a0a0a0a0a0a0a0a0a0a0a0a0a0a0a0a0a0a0a0a0a0a0a0a0a0a0a\",\"timestamp\":0,\"type\":8}") (BadMember 13)
unfolding bug_ops_on_literals
new_metadata_missing = inr (inr (inl (inl (refl, inr (inl refl)))))

new_metadata_null : bug_kind.HasFault VERSION (codes "{\"new_metadata\":null,\"nonce\":\"AAAAAAAAAAAAAAAAAAAAAAAAAAA=\",\"target\":\"0a0a0a0a0a0a0a0a0a0a0a0a0a0a0a0a0a0a0a0a0a0a0a0a0a0a0a0a0a0a0a0a\",\"timestamp\":0,\"type\":8}") (BadMember 13)
unfolding bug_ops_on_literals
new_metadata_null = inr (inr (inl (inl (refl, inr (inr (inl refl))))))

-- so is the JSON of one that may be absent
was_number : bug_kind.HasFault VERSION (codes "{\"nonce\":\"AAAAAAAAAAAAAAAAAAAAAAAAAAA=\",\"timestamp\":0,\"title\":\"a\",\"type\":2,\"was\":1}") (BadMember 6)
unfolding bug_ops_on_literals
was_number = inr (inr (inl (inl (refl, inr (inl refl)))))

files_of_19 : bug_kind.HasFault VERSION (codes "{\"files\":[\"0a0a0a0a0a0a0a0a0a0a0a0a0a0a0a0a0a0a0a\"],\"message\":\"b\",\"nonce\":\"AAAAAAAAAAAAAAAAAAAAAAAAAAA=\",\"timestamp\":0,\"type\":3}") (BadMember 8)
unfolding bug_ops_on_literals
files_of_19 = inr (inr (inl (inl (refl, inr (inl refl)))))

files_upper_case : bug_kind.HasFault VERSION (codes "{\"files\":[\"0A0A0A0A0A0A0A0A0A0A0A0A0A0A0A0A0A0A0A0A\"],\"message\":\"b\",\"nonce\":\"AAAAAAAAAAAAAAAAAAAAAAAAAAA=\",\"timestamp\":0,\"title\":\"a\",\"type\":1}") (BadMember 8)
unfolding bug_ops_on_literals
files_upper_case = inr (inr (inr (inl (inl (refl, inr (inl refl))))))

added_text : bug_kind.HasFault VERSION (codes "{\"added\":\"a\",\"nonce\":\"AAAAAAAAAAAAAAAAAAAAAAAAAAA=\",\"timestamp\":0,\"type\":5}") (BadMember 10)
unfolding bug_ops_on_literals
added_text = inr (inl (inl (refl, inr (inl refl))))

removed_text : bug_kind.HasFault VERSION (codes "{\"nonce\":\"AAAAAAAAAAAAAAAAAAAAAAAAAAA=\",\"removed\":\"a\",\"timestamp\":0,\"type\":5}") (BadMember 11)
unfolding bug_ops_on_literals
removed_text = inr (inr (inl (inl (refl, inr (inl refl)))))

-- a title or a label is blank or has a control character, a message has one that is neither LF nor CR nor TAB
title_blank : bug_kind.HasFault VERSION (codes "{\"nonce\":\"AAAAAAAAAAAAAAAAAAAAAAAAAAA=\",\"timestamp\":0,\"title\":\" \",\"type\":2}") (BadText 5)
unfolding bug_ops_on_literals
title_blank = inr (inl (inr (refl, inl (codes " ", refl, refl))))

title_line_feed : bug_kind.HasFault VERSION (codes "{\"nonce\":\"AAAAAAAAAAAAAAAAAAAAAAAAAAA=\",\"timestamp\":0,\"title\":\"a\\n\",\"type\":2}") (BadText 5)
unfolding bug_ops_on_literals
title_line_feed = inr (inl (inr (refl, inl (codes "a\n", refl, refl))))

message_bell : bug_kind.HasFault VERSION (codes "{\"message\":\"\\u0007\",\"nonce\":\"AAAAAAAAAAAAAAAAAAAAAAAAAAA=\",\"timestamp\":0,\"type\":3}") (BadText 7)
unfolding bug_ops_on_literals
message_bell = inr (inl (inr (refl, inl (7 ∷ [], refl, refl))))

added_blank : bug_kind.HasFault VERSION (codes "{\"added\":[\"a\",\"\"],\"nonce\":\"AAAAAAAAAAAAAAAAAAAAAAAAAAA=\",\"timestamp\":0,\"type\":5}") (BadText 10)
unfolding bug_ops_on_literals
added_blank = inr (inl (inr (refl, inl (codes "a" ∷ [] ∷ [], refl, refl))))

added_tab : bug_kind.HasFault VERSION (codes "{\"added\":[\"a\\t\"],\"nonce\":\"AAAAAAAAAAAAAAAAAAAAAAAAAAA=\",\"timestamp\":0,\"type\":5}") (BadText 10)
unfolding bug_ops_on_literals
added_tab = inr (inl (inr (refl, inl (codes "a\t" ∷ [], refl, refl))))

removed_blank : bug_kind.HasFault VERSION (codes "{\"nonce\":\"AAAAAAAAAAAAAAAAAAAAAAAAAAA=\",\"removed\":[\" \"],\"timestamp\":0,\"type\":5}") (BadText 11)
unfolding bug_ops_on_literals
removed_blank = inr (inr (inl (inr (refl, inl (codes " " ∷ [], refl, refl)))))

removed_tab : bug_kind.HasFault VERSION (codes "{\"nonce\":\"AAAAAAAAAAAAAAAAAAAAAAAAAAA=\",\"removed\":[\"a\\t\"],\"timestamp\":0,\"type\":5}") (BadText 11)
unfolding bug_ops_on_literals
removed_tab = inr (inr (inl (inr (refl, inl (codes "a\t" ∷ [], refl, refl)))))

-- there is no type with the number
type_0 : bug_kind.HasFault VERSION (codes "{\"nonce\":\"AAAAAAAAAAAAAAAAAAAAAAAAAAA=\",\"timestamp\":0,\"type\":0}") (UnknownType 0)
unfolding bug_ops_on_literals
type_0 = inr refl

type_9 : bug_kind.HasFault VERSION (codes "{\"nonce\":\"AAAAAAAAAAAAAAAAAAAAAAAAAAA=\",\"timestamp\":0,\"type\":9}") (UnknownType 9)
unfolding bug_ops_on_literals
type_9 = inr refl
