use Rattle.std.proofs.Common.{◌≡◌, rules}
use Rattle.std.specs.Prelude.{◌&&◌}
use Rattle.git_object.specs.Reading.{is_line, are_lines}
use Rattle.git_object.proofs.LineLaws.{texts_are_good}
use Rattle.git_object.proofs.commit.Commit.has_good_texts.Goals as goal

pub returns-then-is_line-2 : goal.returns-then-is_line-2
returns-then-is_line-2 c =
    let commit = c.args.self.now in
    let tested : c.are_lines.result ≡ (is_line commit.author && is_line commit.committer && are_lines commit.more) = search rules in
    texts_are_good commit c.are_lines.result tested

pub returns-else-is_line-2 : goal.returns-else-is_line-2
returns-else-is_line-2 c =
    let commit = c.args.self.now in
    let tested : c.if-is_line.value ≡ (is_line commit.author && is_line commit.committer && are_lines commit.more) = search rules in
    texts_are_good commit c.if-is_line.value tested
