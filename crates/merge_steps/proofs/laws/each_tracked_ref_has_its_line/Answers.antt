use Rattle.merge_steps.proofs.ToldLemmas.{lines_of_merged}
use Rattle.merge_steps.proofs.laws.each_tracked_ref_has_its_line.Goals as goal

pub returns : goal.returns
returns c = λ folder remote now old new lines done. lines_of_merged folder remote now lines old new done
