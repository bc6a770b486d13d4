-- A worked line of each outcome, and of each form of a fault, computed.
use Rattle.std.specs.Prelude.{◌≡◌, ◌++◌, ℕ, List, codes, [], ◌∷◌}
use Rattle.std.specs.Fmt.{digits}
use Rattle.std.specs.List.{repeat}
use Rattle.std.proofs.Common.{refl}
use Rattle.hex.proofs.OnLiterals.{hex_on_literals}
use Rattle.gb_text.specs.declared.id.Id.{Id}
use Rattle.gb_text.specs.declared.id.Name.{Name}
use Rattle.op_kind.specs.declared.fault.OpFault.TheVariants as op
use Rattle.dag_entity.specs.declared.fault.EntityFault.{EntityFault}
use Rattle.dag_entity.specs.declared.fault.EntityFault.TheVariants as entity
use Rattle.identity.specs.declared.fault.IdentityFault.{IdentityFault}
use Rattle.identity.specs.declared.fault.IdentityFault.TheVariants as identity
use Rattle.sync_steps.specs.declared.line.EntityWord.{EntityWord}
use Rattle.sync_steps.specs.declared.line.EntityWord.TheVariants as word
use Rattle.merge_steps.specs.MergeLines.{line_text, lines_text_of, refused_in}
use Rattle.merge_steps.specs.declared.line.MergeLine.{MergeLine}
use Rattle.merge_steps.specs.declared.line.MergeOutcome.{MergeOutcome}
use Rattle.merge_steps.specs.declared.line.MergeOutcome.TheVariants as outcome

-- the names of commits whose bytes are all `ee`, or all `0f`, and an id whose bytes are all `b1`
abbrev name : Name
name = record { bytes = repeat 20 (238 ∷ []) }

abbrev low : Name
low = record { bytes = repeat 20 (15 ∷ []) }

abbrev id : Id
id = record { bytes = repeat 32 (177 ∷ []) }

-- the line of an entity whose id has the bytes `a0`
abbrev line_with : EntityWord → MergeOutcome → MergeLine
line_with word out = record { word = word; id = record { bytes = repeat 32 (160 ∷ []) }; outcome = out }

abbrev bug_with : EntityFault → MergeLine
bug_with fault = line_with word.Bug (outcome.InvalidBug fault)

abbrev person_with : IdentityFault → MergeLine
person_with fault = line_with word.Identity (outcome.InvalidIdentity fault)

-- what stands before the outcome
abbrev of_bug : List ℕ
of_bug = codes "merge bug " ++ repeat 32 (codes "a0") ++ codes " "

abbrev of_person : List ℕ
of_person = codes "merge identity " ++ repeat 32 (codes "a0") ++ codes " "

abbrev name_digits : List ℕ
name_digits = repeat 20 (codes "ee")

abbrev low_digits : List ℕ
low_digits = repeat 20 (codes "0f")

abbrev id_digits : List ℕ
id_digits = repeat 32 (codes "b1")

-- ---- outcomes

nothing : line_text (line_with word.Bug outcome.Nothing) ≡ of_bug ++ codes "nothing\n"
unfolding hex_on_literals
nothing = refl

new : line_text (line_with word.Identity outcome.New) ≡ of_person ++ codes "new\n"
unfolding hex_on_literals
new = refl

forward : line_text (line_with word.Identity outcome.Forward) ≡ of_person ++ codes "forward\n"
unfolding hex_on_literals
forward = refl

joined : line_text (line_with word.Bug outcome.Joined) ≡ of_bug ++ codes "joined\n"
unfolding hex_on_literals
joined = refl

not_forward : line_text (line_with word.Identity (outcome.NotForward name)) ≡ of_person ++ codes "not-forward " ++ name_digits ++ codes "\n"
unfolding hex_on_literals
not_forward = refl

-- ---- what is wrong with a bug

-- a name
missing : line_text (bug_with (entity.Missing name)) ≡ of_bug ++ codes "invalid E1 " ++ name_digits ++ codes "\n"
unfolding hex_on_literals
missing = refl

-- a name and a number
version : line_text (bug_with (entity.UnknownVersion name 3)) ≡ of_bug ++ codes "invalid E5 " ++ name_digits ++ codes " 3\n"
unfolding digits hex_on_literals
version = refl

-- a name, the place of an operation and what is wrong with it
operation : line_text (bug_with (entity.BadOperation name 12 op.BadTime)) ≡ of_bug ++ codes "invalid E9 " ++ name_digits ++ codes " 12 bad-time\n"
unfolding digits hex_on_literals
operation = refl

member : line_text (bug_with (entity.BadOperation name 0 (op.BadMember 13))) ≡ of_bug ++ codes "invalid E9 " ++ name_digits ++ codes " 0 bad-member 13\n"
unfolding digits hex_on_literals
member = refl

-- two names
clock_order : line_text (bug_with (entity.ClockOrder name low)) ≡ of_bug ++ codes "invalid E11 " ++ name_digits ++ codes " " ++ low_digits ++ codes "\n"
unfolding hex_on_literals
clock_order = refl

-- an id
repeated : line_text (bug_with (entity.RepeatedOperation id)) ≡ of_bug ++ codes "invalid E15 " ++ id_digits ++ codes "\n"
unfolding hex_on_literals
repeated = refl

-- nothing else
no_create : line_text (bug_with entity.FirstNotCreate) ≡ of_bug ++ codes "invalid E17\n"
unfolding hex_on_literals
no_create = refl

-- a number
large : line_text (bug_with (entity.TooLarge 65537)) ≡ of_bug ++ codes "invalid E20 65537\n"
unfolding digits hex_on_literals
large = refl

-- ---- what is wrong with an identity

keys : line_text (person_with (identity.KeysPresent name)) ≡ of_person ++ codes "invalid I5 " ++ name_digits ++ codes "\n"
unfolding hex_on_literals
keys = refl

wrong_id : line_text (person_with (identity.WrongId id)) ≡ of_person ++ codes "invalid I7 " ++ id_digits ++ codes "\n"
unfolding hex_on_literals
wrong_id = refl

long : line_text (person_with (identity.TooLarge 4194305)) ≡ of_person ++ codes "invalid I8 4194305\n"
unfolding digits hex_on_literals
long = refl

-- ---- lines

-- a line behind another, and how many of them are refusals
two : lines_text_of (line_with word.Identity outcome.New ∷ bug_with entity.FirstNotCreate ∷ []) ≡ of_person ++ codes "new\n" ++ of_bug ++ codes "invalid E17\n"
unfolding hex_on_literals
two = refl

one_refused : refused_in (line_with word.Identity outcome.New ∷ bug_with entity.FirstNotCreate ∷ []) ≡ 1
one_refused = refl
