use Rattle.std.proofs.Common.{map, string_bytes}
use Rattle.world.proofs.RunLemmas.{ends_by}
use Rattle.world.proofs.runs.run_words.Goals as goal

pub returns-clause-ends : goal.returns-clause-ends
returns-clause-ends c =
    ends_by _ (map string_bytes c.args.words.now) c.args.moment c.args.store.now.history c.run_over-status.new.store.history c.run_over-status.new.out.written c.run_over-status.result
    c.ended_of.ensures c.run_over-status.ensures.runs
