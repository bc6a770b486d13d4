use Rattle.std.proofs.Common.{◌≡◌, List, map, Result, Err, sym, ◌∙◌, ap, subst, rules}
use Rattle.gb_store.specs.Files.{files_of}
use Rattle.ref_store.specs.declared.listing.RefEntry.{RefEntry}
use Rattle.repo_state.specs.Answers.{HasBadRef, HeadsOf, Reads, as_entry}
use Rattle.repo_state.specs.Sides.{AreHeads}
use Rattle.repo_state.specs.declared.stop.ReadStop.{ReadStop}
use Rattle.repo_state.specs.declared.side.HeadEntry.{HeadEntry}
use Rattle.repo_state.proofs.ListingLemmas.{heads_of_refs, stops_at_bad_ref}
use Rattle.repo_state.proofs.refs.heads.Goals as goal

pub returns-in_err-heads_of-clause-answers : goal.returns-in_err-heads_of-clause-answers
returns-in_err-heads_of-clause-answers g c = λ tells.
    let files = files_of (g.S.Store.history c.args.disk.now) in
    let is : c.from_residual-in_err-heads_of.result ≡ Err c.in_err-heads_of.field-0.0 = search rules in
    let refused : HeadsOf c.args.folder.now c.args.side.now c.in_ok-entries.entries (Err c.in_err-heads_of.field-0.0) =
    subst (λ (es : List RefEntry). HeadsOf c.args.folder.now c.args.side.now es (Err c.in_err-heads_of.field-0.0)) c.as_slice.ensures c.in_err-heads_of.ensures in
    subst (λ (r : Result (List HeadEntry) ReadStop). Reads (AreHeads files c.args.folder.now c.args.side.now) (HasBadRef files c.args.folder.now c.args.side.now) r) (sym is)
    (stops_at_bad_ref files c.args.folder.now c.args.side.now c.in_ok-entries.entries (c.in_ok-entries.ensures.entries tells) c.in_err-heads_of.field-0.0 refused)

pub returns-clause-answers : goal.returns-clause-answers
returns-clause-answers g c = λ tells.
    heads_of_refs (files_of (g.S.Store.history c.args.disk.now)) c.args.folder.now c.args.side.now c.in_ok-entries.entries (c.in_ok-entries.ensures.entries tells)
    c.from_vec.result (ap (map as_entry) c.from_vec.ensures ∙ c.in_ok-heads_of.ensures ∙ c.as_slice.ensures)
