use Rattle.gitbug_edge.proofs.start.whole_seconds.Goals as goal

pub returns : goal.returns
returns c = c.as_secs.ensures
