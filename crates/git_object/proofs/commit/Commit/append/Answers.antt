use Rattle.std.proofs.Common.{◌≡◌, ◌++◌, ◌∷◌, [], rules}
use Rattle.std.specs.Prelude.{codes}
use Rattle.std.specs.List.{flat_map}
use Rattle.hex.specs.Hex.{encode_lower}
use Rattle.git_object.specs.Grammar.{ended, parent_line}
use Rattle.git_object.proofs.CommitLaws.{appended}
use Rattle.git_object.proofs.commit.Commit.append.Goals as goal

pub returns-clause-text : goal.returns-clause-text
returns-clause-text c =
    let commit = c.args.self.now in
    let tree : c.append_name.new.text.items ≡ c.args.text.now.items ++ ended (codes "tree " ++ encode_lower commit.tree.bytes) = search rules in
    let parents : c.append_parents.new.text.items ≡ c.append_name.new.text.items ++ flat_map parent_line commit.parents = search rules in
    let author : c.append_line.new.text.items ≡ c.append_parents.new.text.items ++ ended (codes "author " ++ commit.author) = search rules in
    let committer : c.append_line-2.new.text.items ≡ c.append_line.new.text.items ++ ended (codes "committer " ++ commit.committer) = search rules in
    let more : c.extend_from_slice.new.self.items ≡ c.append_line-2.new.text.items ++ commit.more = search rules in
    let empty : c.extend_from_slice-2.new.self.items ≡ c.extend_from_slice.new.self.items ++ 10 ∷ [] = search rules in
    let message : c.extend_from_slice-3.new.self.items ≡ c.extend_from_slice-2.new.self.items ++ commit.message = search rules in
    appended c.args.text.now.items c.append_name.new.text.items c.append_parents.new.text.items c.append_line.new.text.items c.append_line-2.new.text.items c.extend_from_slice.new.self.items c.extend_from_slice-2.new.self.items c.extend_from_slice-3.new.self.items
    (ended (codes "tree " ++ encode_lower commit.tree.bytes)) (flat_map parent_line commit.parents) (ended (codes "author " ++ commit.author)) (ended (codes "committer " ++ commit.committer)) commit.more commit.message
    tree parents author committer more empty message
