use Rattle.std.proofs.Common.{◌≡◌, Some, Option, sym, ◌∙◌, ap}
use Rattle.std.specs.Option.{option_map}
use Rattle.git_object.specs.declared.object_view.ObjectView.{ObjectView}
use Rattle.git_object.specs.Reading.{object_of}
use Rattle.git_object.specs.Views.{object_seen}
use Rattle.git_object.proofs.ObjectLaws.{object_takes}
use Rattle.object_store.proofs.view.object_in.Goals as goal

pub returns-in-Some-clause-asked : goal.returns-in-Some-clause-asked
returns-in-Some-clause-asked c = λ fits.
    let reads : object_of c.args.text.now ≡ Some (object_seen c.in-Some.object) = sym c.in_ok-object.ensures ∙ ap (λ (o : Option ObjectView). option_map object_seen o) c.in-Some.is in
    record { text = c.args.text.now; is = object_takes c.args.text.now (object_seen c.in-Some.object) reads; fits = fits }
