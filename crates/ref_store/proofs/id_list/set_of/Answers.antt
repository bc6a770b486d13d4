use Rattle.std.proofs.lemmas.Iterator.{YieldsList-from_slice}
use Rattle.std.proofs.lemmas.Iterator.Consumers.{YieldsList-from_copied}
use Rattle.std.proofs.lemmas.Iterator.Adapters.{fact_from_collect}
use Rattle.std.specs.BTreeSet.{IsFromIterResult}
use Rattle.ref_store.specs.Listing.{id_cmp}
use Rattle.ref_store.proofs.id_list.set_of.Goals as goal

pub returns : goal.returns
returns c = fact_from_collect (IsFromIterResult id_cmp) c.collect.result c.collect.ensures.ran (YieldsList-from_copied (YieldsList-from_slice c.args.ids.now cc))
