use Rattle.std.proofs.Common.{◌≡◌, [], get_or, true, false, arith}
use Rattle.std.specs.BTreeSet.{contains}
use Rattle.gb_text.specs.declared.id.Id.{Id}
use Rattle.dag_entity.specs.Judging.{by_bytes}
use Rattle.dag_entity.proofs.JudgeSets.{AreDistinct-more, IsRepeated-at, IsSetOf-more}
use Rattle.dag_entity.proofs.judge.check_distinct.Goals as goal

none : Id
none = record { bytes = [] }

pub loop-id-preserved : goal.loop-id-preserved
unfolding none
loop-id-preserved c =
    let absent : contains by_bytes c.loop-id.known (get_or c.args.ids.now c.loop-id.id-index none) ≡ false = grind (arith, c.if-not-branch.false, c.in_ok-insert.ensures.added) in
    record {
      once = AreDistinct-more c.loop-id.known c.args.ids.now c.loop-id.id-index none c.loop-id-test.true c.loop-id.invariant.known c.loop-id.invariant.once absent;
      known = IsSetOf-more c.loop-id.known c.insert.new.self c.args.ids.now c.loop-id.id-index none c.loop-id-test.true c.loop-id.invariant.known c.in_ok-insert.ensures.updates.0;
    }

pub returns-then-not-branch : goal.returns-then-not-branch
unfolding none
returns-then-not-branch c =
    let there : contains by_bytes c.loop-id.known (get_or c.args.ids.now c.loop-id.id-index none) ≡ true = grind (arith, c.if-not-branch.true, c.in_ok-insert.ensures.added) in
    IsRepeated-at c.loop-id.known c.args.ids.now c.loop-id.id-index none c.loop-id-test.true c.loop-id.invariant.known there
