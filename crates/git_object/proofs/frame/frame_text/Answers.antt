use Rattle.std.proofs.Common.{◌≡◌, rules}
use Rattle.git_object.specs.Grammar.{framed}
use Rattle.git_object.proofs.FrameLaws.{frame_only}
use Rattle.git_object.proofs.frame.frame_text.Goals as goal

pub returns-clause-reads_back : goal.returns-clause-reads_back
returns-clause-reads_back c = (let text : c.from_vec.result ≡ framed c.args.kind c.args.content.now = search rules in frame_only c.from_vec.result c.args.kind c.args.content.now text)
