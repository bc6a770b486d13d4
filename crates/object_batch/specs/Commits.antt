-- Commits as they are written.
use Rattle.std.specs.Prelude.{ℕ, List, [], ◌++◌, codes, decimal}
use Rattle.gb_text.specs.declared.id.Name.{Name}
use Rattle.git_object.specs.declared.commit.Commit.{Commit}

-- who writes: the program, at a time in seconds since 1970, in the time zone of Greenwich
abbrev pub signature : ℕ → List ℕ
signature now = codes "git-bug <git-bug@localhost> " ++ decimal now ++ codes " +0000"

-- the commit that is written of a tree, with these parents
abbrev pub written_commit : Name → List Name → ℕ → Commit
written_commit tree parents now = record { tree = tree; parents = parents; author = signature now; committer = signature now; more = []; message = codes "git-bug\n" }
