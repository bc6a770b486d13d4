-- Lists, computed.
use Rattle.std.specs.Prelude.{◌≡◌, ◌++◌, ℕ, codes, length, [], ◌∷◌}
use Rattle.std.specs.Fmt.{digits}
use Rattle.std.specs.List.{repeat}
use Rattle.std.proofs.Common.{refl}
use Rattle.hex.proofs.OnLiterals.{hex_on_literals}
use Rattle.gb_text.specs.declared.id.Id.{Id}
use Rattle.bug_ops.specs.declared.op.BugStatus.TheVariants.{Closed}
use Rattle.bug_ops.specs.declared.snapshot.Excerpt.{Excerpt}
use Rattle.list_texts.specs.Boards.{board_text_of, header, number_cell}
use Rattle.list_texts.specs.Lists.{list_text_of}

abbrev id_of : ℕ → Id
id_of byte = record { bytes = repeat 32 (byte ∷ []) }

-- a closed bug with two labels
abbrev bug : Excerpt
bug =
    record {
      id = id_of 170;
      title = codes "T";
      status = Closed;
      labels = codes "x" ∷ codes "y" ∷ [];
      author = id_of 193;
      actors = [];
      participants = [];
      create = 1;
      edit = 2;
      first = 3;
      last = 4;
      comments = 12;
      metadata = [];
    }

line : list_text_of [] (bug ∷ []) (0 ∷ []) ≡ codes "aaaaaaa\tclosed\tT\tc1c1c1c\t12\tx\ty\n"
unfolding hex_on_literals digits
line = refl

no_lines : list_text_of [] (bug ∷ []) [] ≡ []
no_lines = refl

empty_board : board_text_of [] [] [] ≡ header ++ codes "0 open, 0 closed\n"
unfolding digits
empty_board = refl

header_length : length header ≡ 77
header_length = refl

short_number : number_cell 12 ≡ codes "  12"
unfolding digits
short_number = refl

long_number : number_cell 12345 ≡ codes "12345"
unfolding digits
long_number = refl
