use Rattle.std.proofs.Common.{◌≡◌, [], Vec, Global, Result, Err, sym, subst, rules}
use Rattle.ref_store.specs.declared.listing.RefEntry.{RefEntry}
use Rattle.ref_store.specs.declared.listing.RefFound.TheVariants as found
use Rattle.repo_state.specs.Answers.{HeadsOf}
use Rattle.repo_state.specs.declared.stop.ReadStop.{ReadStop}
use Rattle.repo_state.specs.declared.side.HeadEntry.{HeadEntry}
use Rattle.repo_state.proofs.PeopleLemmas.{heads_stop}
use Rattle.repo_state.proofs.refs.heads_of.Goals as goal

none : RefEntry
none = record { id = record { bytes = [] }; found = found.Head (record { bytes = [] }) }

pub returns-in_err-head_of : goal.returns-in_err-head_of
unfolding none
returns-in_err-head_of c =
    let is : c.from_residual.result ≡ Err c.in_err-head_of.field-0.0 = search rules in
    subst (λ (r : Result (Vec HeadEntry Global) ReadStop). HeadsOf c.args.folder.now c.args.side.now c.args.entries.now r) (sym is)
    (heads_stop c.args.folder.now c.args.side.now c.args.entries.now c.loop-entry.heads.items c.loop-entry.entry-index none c.loop-entry-test.true c.loop-entry.invariant c.in_err-head_of.field-0.0 c.in_err-head_of.ensures)
