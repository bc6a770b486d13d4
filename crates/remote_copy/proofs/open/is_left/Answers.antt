use Rattle.std.proofs.Common.{◌≡◌, true, arith}
use Rattle.git_object.specs.declared.frame.Kind.TheVariants as kinds
use Rattle.remote_copy.proofs.OpenLemmas.{if_left_holds}
use Rattle.remote_copy.proofs.open.is_left.Goals as goal

pub returns : goal.returns
returns c = λ target there.
    let is : c.args.closed ≡ true = grind (arith, c.if-not-closed.false) in
    let kind : c.args.need.kind ≡ kinds.Commit = grind arith in
    if_left_holds c.args.closed target c.args.need c.holds_commit.result is kind (c.holds_commit.ensures target there)
