-- What fits of the comments so far.
use Rattle.std.proofs.Common.{take}
use Rattle.gb_text.specs.Prefix.{digits_of}
use Rattle.repo_state.specs.Seeking.{FitsAfter, entries_of, fitting_of}
use Rattle.repo_state.proofs.fitting.with_comments.Given as goal

abbrev pub invariant-loop-comment : goal.invariant-loop-comment
invariant-loop-comment l = FitsAfter l.fn.before (fitting_of (digits_of l.prefix) (entries_of l.bug (take l.comment-index l.comments))) l.fitting
