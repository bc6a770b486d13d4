use Rattle.std.proofs.Common.{◌≡◌, ap, ◌∙◌, arith}
use Rattle.std.proofs.lemmas.Grind.{common_steps}
use Rattle.gb_text.specs.Folder.{joined}
use Rattle.gb_store.specs.ObjectPath.{is_object_path}
use Rattle.ref_store.specs.Listing.{id_place}
use Rattle.ref_store.proofs.IdPathLemmas.{id_place_is_no_object}
use Rattle.ref_store.proofs.listing.place_of.Goals as goal

pub returns-clause-no_object : goal.returns-clause-no_object
returns-clause-no_object c = λ folder.
    let place : c.from_string.result ≡ id_place c.args.dir.now c.args.id.now = grind (arith, common_steps, c.from_string.ensures, c.in_ok-push_id.ensures.digits, c.in_ok-push_str.ensures.bytes, c.in_ok-place.ensures.ok) in
    ap (λ place. is_object_path (joined folder place)) place ∙ id_place_is_no_object folder c.args.dir.now c.args.id.now c.push_id.ensures.sized
