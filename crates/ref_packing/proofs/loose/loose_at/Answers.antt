use Rattle.std.proofs.Common.{◌≡◌, ◌∙◌, List, ℕ, Err, subst}
use Rattle.gb_text.specs.Folder.{joined}
use Rattle.gb_store.specs.Files.{files_of}
use Rattle.ref_store.specs.Listing.{id_place}
use Rattle.ref_store.specs.Refs.{Answers, ref_at}
use Rattle.ref_packing.specs.Faults.{of_ref}
use Rattle.ref_packing.specs.Reading.{PlaceAnswers}
use Rattle.ref_packing.proofs.ReadLemmas.{at_err, place_err}
use Rattle.ref_packing.proofs.loose.loose_at.Goals as goal

pub returns-in_err-head-clause-answers : goal.returns-in_err-head-clause-answers
returns-in_err-head-clause-answers g c = λ tells.
    let files = files_of (g.S.Store.history c.args.disk.now) in
    let place : c.as_str.result.now ≡ id_place c.args.dir.now c.args.id.now = c.as_str.ensures ∙ c.in_ok-place.ensures.place in
    at_err (PlaceAnswers files c.args.folder.now (id_place c.args.dir.now c.args.id.now)) (of_ref c.in_err-head.field-0.0) c.from_residual-in_err-head.result c.from_residual-in_err-head.ensures.1
    (place_err files c.args.folder.now (id_place c.args.dir.now c.args.id.now) c.in_err-head.field-0.0 (subst (λ (p : List ℕ). Answers (joined c.args.folder.now p) (ref_at files c.args.folder.now p) (Err c.in_err-head.field-0.0)) place (c.in_err-head.ensures.answers tells)))
