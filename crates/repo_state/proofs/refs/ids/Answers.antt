use Rattle.std.proofs.Common.{◌∙◌}
use Rattle.gb_store.specs.Files.{files_of}
use Rattle.repo_state.proofs.ListingLemmas.{all_listed}
use Rattle.repo_state.proofs.refs.ids.Goals as goal

pub returns-clause-answers : goal.returns-clause-answers
returns-clause-answers g c = λ tells.
    all_listed (files_of (g.S.Store.history c.args.disk.now)) c.args.folder.now c.args.side.now c.as_str.result.now c.ids.result (c.as_str.ensures ∙ c.in_ok-dir.ensures) (c.ids.ensures.ids tells)
