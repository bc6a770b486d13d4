use Rattle.std.proofs.Common.{◌≡◌, sym, subst, rules}
use Rattle.op_kind.specs.Bounds.{IsWithinBounds}
use Rattle.op_kind.specs.declared.place.Common.{Common}
use Rattle.bug_edits.specs.NewOps.{new_common}
use Rattle.bug_edits.proofs.RuleLemmas.{is_within}
use Rattle.bug_edits.proofs.operation.new_common.Goals as goal

pub returns-clause-within : goal.returns-clause-within
returns-clause-within c =
    let common : Common = record { place = c.nowhere.result; kind = c.args.kind; time = c.args.moment.now.now; nonce = c.in_ok-from_bytes.field-0; metadata = c.new.result } in
    let is : common ≡ new_common c.args.moment.now c.args.kind = search rules in
    subst IsWithinBounds (sym is) (is_within c.args.moment.now c.args.kind c.ranges.kind.fits)
