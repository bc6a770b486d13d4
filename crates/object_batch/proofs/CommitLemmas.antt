-- The commits that are written can be.
use Rattle.std.proofs.Common.{◌≡◌, ◌<◌, ◌^◌, ◌++◌, ℕ, List, refl, sym, subst, [], codes, append_assoc, arith}
use Rattle.std.specs.Prelude.{decimal}
use Rattle.std.specs.List.{flat_map}
use Rattle.hex.specs.Hex.{encode_lower}
use Rattle.gb_text.specs.declared.id.Name.{Name}
use Rattle.git_object.specs.declared.commit.Commit.{Commit}
use Rattle.git_object.specs.Grammar.{HasGoodTexts, IsLine, commit_text}
use Rattle.git_object.proofs.CutLaws.{lacks_by_test, lacks_append}
use Rattle.git_object.proofs.FrameLaws.{decimal_lacks}
use Rattle.object_batch.specs.Commits.{signature, written_commit}

signature_line : (now : ℕ) → now < 2 ^ 64 → IsLine (signature now)
signature_line now high = record {
  some = λ e. absurd (cc (e));
  no_end = lacks_append 10 (codes "git-bug <git-bug@localhost> " ++ decimal now) (codes " +0000")
      (lacks_append 10 (codes "git-bug <git-bug@localhost> ") (decimal now) (lacks_by_test 10 (codes "git-bug <git-bug@localhost> ") refl) (decimal_lacks 10 now (omega arith)))
      (lacks_by_test 10 (codes " +0000") refl);
}

-- a commit with such texts can be written
pub commit_texts : (now : ℕ) (commit : Commit) → now < 2 ^ 64 → commit.author ≡ signature now → commit.committer ≡ signature now → commit.more ≡ [] → HasGoodTexts commit
commit_texts now commit high author committer more = record {
  author = subst IsLine (sym author) (signature_line now high);
  committer = subst IsLine (sym committer) (signature_line now high);
  more = record { lines = []; each = tt; joined = more };
}

-- the lines of a commit, with the parts of each side by side
regrouped : (t e parents a c by now zone end more message : List ℕ)
    → ((t ++ e) ++ end) ++ parents ++ ((a ++ (by ++ now ++ zone)) ++ end) ++ ((c ++ (by ++ now ++ zone)) ++ end) ++ more ++ message
    ≡ t ++ e ++ end ++ parents ++ (a ++ by) ++ now ++ (zone ++ end) ++ (c ++ by) ++ now ++ (zone ++ end) ++ (more ++ message)
regrouped t e parents a c by now zone end more message = simp append_assoc

-- the text of a commit that is written
pub written_text : (tree : Name) (parents : List Name) (now : ℕ) → commit_text (written_commit tree parents now)
    ≡ codes "tree " ++ encode_lower tree.bytes ++ codes "\n" ++ flat_map (λ (parent : Name). (codes "parent " ++ encode_lower parent.bytes) ++ codes "\n") parents
    ++ codes "author git-bug <git-bug@localhost> " ++ decimal now ++ codes " +0000\n" ++ codes "committer git-bug <git-bug@localhost> " ++ decimal now ++ codes " +0000\n" ++ codes "\ngit-bug\n"
written_text tree parents now =
    regrouped (codes "tree ") (encode_lower tree.bytes) (flat_map (λ (parent : Name). (codes "parent " ++ encode_lower parent.bytes) ++ codes "\n") parents) (codes "author ") (codes "committer ")
    (codes "git-bug <git-bug@localhost> ") (decimal now) (codes " +0000") (codes "\n") [] (codes "\ngit-bug\n")
