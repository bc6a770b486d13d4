use Rattle.std.proofs.Common.{inl}
use Rattle.bug_run.proofs.exchange.merge_lines.Goals as goal

pub returns-in-Err-clause-answers : goal.returns-in-Err-clause-answers
returns-in-Err-clause-answers g c = λ tells. inl (c.in-Err.why, c.in-Err.ensures.answers tells, c.stop_of_merge.ensures)
