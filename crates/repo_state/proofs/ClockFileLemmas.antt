-- What a clock file says, and that it is no object.
use Rattle.std.proofs.Common.{◌≡◌, false, ℕ, List, arith, refl}
use Rattle.std.specs.Prelude.{codes}
use Rattle.gb_text.specs.Folder.{joined}
use Rattle.gb_store.specs.ObjectPath.{is_object_path}
use Rattle.repo_state.specs.Clocks.{clock_place}
use Rattle.repo_state.specs.declared.clocks.ClockFile.{ClockFile}
use Rattle.repo_state.specs.declared.clocks.ClockFile.TheVariants as file
use Rattle.repo_state.proofs.UserFileLemmas.{place_is_no_object}

-- a clock file is no object
pub clock_place_is_no_object : (folder : List ℕ) (which : ClockFile) → is_object_path (joined folder (clock_place which)) ≡ false
clock_place_is_no_object folder file.BugsCreate = place_is_no_object folder (codes "git-bug/clocks/bugs") (codes "create") 45 refl (omega arith)
clock_place_is_no_object folder file.BugsEdit = place_is_no_object folder (codes "git-bug/clocks/bugs") (codes "edit") 45 refl (omega arith)
