use Rattle.std.proofs.Common.{arith}
use Rattle.object_batch.proofs.CommitLemmas.{commit_texts}
use Rattle.object_batch.proofs.commit.commit_for.Goals as goal

pub returns-clause-texts : goal.returns-clause-texts
returns-clause-texts c =
    commit_texts c.args.now
    (record {
      tree = c.args.tree;
      parents = c.args.parents;
      author = c.in_ok-signature.field-0;
      committer = c.in_ok-signature-2.field-0;
      more = c.in_ok-from_slice.field-0;
      message = c.in_ok-from_slice-2.field-0;
    })
    (omega (arith, c.ranges.now.fits)) c.in_ok-signature.ensures c.in_ok-signature-2.ensures c.in_ok-from_slice.ensures
