use Rattle.git_object.proofs.ObjectLaws.{framed_reads}
use Rattle.git_object.proofs.laws.frames_read_through.Goals as goal

pub returns : goal.returns
returns c = framed_reads
