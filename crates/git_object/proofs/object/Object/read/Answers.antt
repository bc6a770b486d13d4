use Rattle.git_object.specs.Grammar.{IsObjectText}
use Rattle.git_object.specs.Reading.{object_of}
use Rattle.git_object.proofs.ReadLaws.{reads_found, reads_only}
use Rattle.git_object.proofs.ObjectLaws.{object_takes, object_only}
use Rattle.git_object.proofs.object.Object.read.Goals as goal

pub returns-clause-found : goal.returns-clause-found
returns-clause-found c = reads_found (IsObjectText c.args.text.now) (object_of c.args.text.now) c.parse.result (λ o e. object_takes c.args.text.now o e) c.parse.ensures

pub returns-clause-only : goal.returns-clause-only
returns-clause-only c = λ o is. reads_only (object_of c.args.text.now) c.parse.result o (object_only c.args.text.now o is) c.parse.ensures
