-- Worked examples of the definitions, computed: where the files of a folder stand, and what they say.
use Rattle.std.specs.Prelude.{◌≡◌, ◌++◌, ℕ, List, codes, [], ◌∷◌, Some, None}
use Rattle.std.specs.Fmt.{digits}
use Rattle.std.specs.List.{repeat}
use Rattle.std.proofs.Common.{refl}
use Rattle.hex.proofs.OnLiterals.{hex_on_literals}
use Rattle.gb_text.specs.declared.id.Id.{Id}
use Rattle.gb_store.specs.Files.{Files, Put}
use Rattle.packed_refs.specs.Packed.{last_head}
use Rattle.ref_store.specs.Refs.{ref_at}
use Rattle.ref_store.specs.declared.read.TheConstants.{MOST_BYTES}
use Rattle.repo_state.specs.Clocks.{clock_at, clock_write, see_writes}
use Rattle.repo_state.specs.Comments.{bug_digits}
use Rattle.repo_state.specs.Finds.{Finds, Nothing, One}
use Rattle.repo_state.specs.Sides.{ref_place}
use Rattle.repo_state.specs.Users.{BadUser, NoUser, User, user_at, user_of, user_write}
use Rattle.repo_state.specs.declared.clocks.ClockFile.TheVariants as file
use Rattle.remote_name.specs.declared.remote.RemoteName.{RemoteName}
use Rattle.repo_state.specs.declared.side.Side.TheVariants as side
use Rattle.repo_state.proofs.FoundLemmas.{finds_no_prefix, finds_no_ref, finds_one}

abbrev id : Id
id = record { bytes = repeat 32 (10 ∷ []) }

abbrev id_digits : List ℕ
id_digits = repeat 32 (codes "0a")

-- a folder without files, and one in which each file says this
abbrev no_files : Files
no_files path = None

abbrev all_say : List ℕ → Files
all_say text path = Some text

abbrev head_digits : List ℕ
head_digits = codes "e69de29bb2d1d6434b8b29ae775ad8c2e48c5391"

-- the name of a remote
abbrev hub : RemoteName
hub = record { text = codes "hub"; is_name = refl }

-- where refs stand
place_of_a_bug : ref_place side.Bugs id ≡ codes "refs/bugs/" ++ id_digits
unfolding hex_on_literals
place_of_a_bug = refl

place_of_an_identity : ref_place side.Identities id ≡ codes "refs/identities/" ++ id_digits
unfolding hex_on_literals
place_of_an_identity = refl

place_of_a_remote_bug : ref_place (side.RemoteBugs hub) id ≡ codes "refs/remotes/hub/bugs/" ++ id_digits
unfolding hex_on_literals
place_of_a_remote_bug = refl

place_of_a_remote_identity : ref_place (side.RemoteIdentities hub) id ≡ codes "refs/remotes/hub/identities/" ++ id_digits
unfolding hex_on_literals
place_of_a_remote_identity = refl

-- what a word finds: all 64 digits, where a ref stands
word_found : Finds (all_say head_digits) (codes "f") side.Bugs id_digits (One id)
unfolding hex_on_literals ref_at last_head
word_found = finds_one id refl refl

word_of_a_bad_ref : Finds (all_say (codes "x")) (codes "f") side.Bugs id_digits (One id)
unfolding hex_on_literals ref_at last_head
word_of_a_bad_ref = finds_one id refl refl

word_of_no_ref : Finds no_files (codes "f") side.Bugs id_digits Nothing
unfolding hex_on_literals ref_at last_head
word_of_no_ref = finds_no_ref id refl refl

word_with_a_line_feed : Finds (all_say head_digits) (codes "f") side.Bugs (id_digits ++ codes "\n") Nothing
unfolding hex_on_literals
word_with_a_line_feed = finds_no_prefix refl

word_of_no_digits : Finds (all_say head_digits) (codes "f") side.Bugs [] Nothing
word_of_no_digits = finds_no_prefix refl

word_of_65_digits : Finds (all_say head_digits) (codes "f") side.Bugs (id_digits ++ codes "0") Nothing
unfolding hex_on_literals
word_of_65_digits = finds_no_prefix refl

word_with_an_upper_case_digit : Finds (all_say head_digits) (codes "f") side.Bugs (codes "0A") Nothing
word_with_an_upper_case_digit = finds_no_prefix refl

-- clocks
clock_of_no_file : clock_at no_files (codes "f") file.BugsEdit ≡ 0
clock_of_no_file = refl

clock_of_a_line : clock_at (all_say (codes "12\n")) (codes "f") file.BugsCreate ≡ 12
unfolding digits
clock_of_a_line = refl

clock_of_the_greatest : clock_at (all_say (codes "18446744073709551615\n")) (codes "f") file.BugsEdit ≡ 4611686018427387904
unfolding digits
clock_of_the_greatest = refl

clock_limit : MOST_BYTES ≡ 4096
clock_limit = refl

create_clock_written : clock_write (codes "f") file.BugsCreate 7 ≡ Put (codes "f/git-bug/clocks/bugs-create") (codes "7")
unfolding digits
create_clock_written = refl

edit_clock_written : clock_write (codes "f") file.BugsEdit 12 ≡ Put (codes "f/git-bug/clocks/bugs-edit") (codes "12")
unfolding digits
edit_clock_written = refl

clock_that_rises : see_writes (codes "f") file.BugsEdit 3 4 ≡ Put (codes "f/git-bug/clocks/bugs-edit") (codes "4") ∷ []
unfolding digits
clock_that_rises = refl

clock_that_stays : see_writes (codes "f") file.BugsEdit 4 4 ≡ []
clock_that_stays = refl

-- the user
user_of_no_file : user_at no_files (codes "f") ≡ NoUser
user_of_no_file = refl

user_of_digits : user_of (all_say head_digits) (codes "f") (Some id_digits) ≡ User id
unfolding hex_on_literals ref_at last_head
user_of_digits = refl

user_of_a_line : user_of (all_say head_digits) (codes "f") (Some (id_digits ++ codes "\n")) ≡ User id
unfolding hex_on_literals ref_at last_head
user_of_a_line = refl

user_of_two_line_feeds : user_of (all_say head_digits) (codes "f") (Some (id_digits ++ codes "\n\n")) ≡ BadUser
unfolding hex_on_literals
user_of_two_line_feeds = refl

user_of_a_bad_ref : user_of (all_say (codes "x")) (codes "f") (Some id_digits) ≡ User id
unfolding hex_on_literals ref_at last_head
user_of_a_bad_ref = refl

user_of_no_ref : user_of no_files (codes "f") (Some id_digits) ≡ BadUser
unfolding hex_on_literals ref_at last_head
user_of_no_ref = refl

user_of_nothing : user_of (all_say head_digits) (codes "f") (Some []) ≡ BadUser
unfolding hex_on_literals
user_of_nothing = refl

user_written : user_write (codes "f") id ≡ Put (codes "f/git-bug/user") (id_digits ++ codes "\n")
unfolding hex_on_literals
user_written = refl

-- ten digits of the id of a comment, of which six are of its bug's id
six_of_a_bug : bug_digits (codes "3399112f32") ≡ codes "3912f3"
six_of_a_bug = refl
