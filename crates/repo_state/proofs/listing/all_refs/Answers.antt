use Rattle.std.proofs.Common.{map, ◌∙◌, ap}
use Rattle.gb_store.specs.Files.{files_of}
use Rattle.repo_state.specs.Listed.{ref_in}
use Rattle.repo_state.proofs.ListedLemmas.{refs_are}
use Rattle.repo_state.proofs.listing.all_refs.Goals as goal

pub returns-clause-answers : goal.returns-clause-answers
returns-clause-answers g c = λ tells.
    refs_are (files_of (g.S.Store.history c.args.disk.now)) c.args.folder.now c.args.side.now c.in_ok-entries.entries (c.in_ok-entries.ensures.entries tells)
    c.from_vec.result (c.from_vec.ensures ∙ c.in_ok-refs_of.ensures ∙ ap (map ref_in) c.as_slice.ensures)
