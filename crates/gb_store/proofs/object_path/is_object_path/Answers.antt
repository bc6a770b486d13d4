use Rattle.std.proofs.Common.{◌∙◌, ap}
use Rattle.gb_store.specs.ObjectTail.{has_object_tail}
use Rattle.gb_store.proofs.ObjectPathLemmas.{has_object_tail-is}
use Rattle.gb_store.proofs.object_path.is_object_path.Goals as goal

pub returns : goal.returns
returns c = c.has_object_tail.ensures ∙ ap has_object_tail c.as_bytes.ensures.value ∙ has_object_tail-is c.args.path.now
