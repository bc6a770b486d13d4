use Rattle.gb_store.proofs.MomentLemmas.{Wrote-wider}
use Rattle.remote_copy.specs.NeedWrites.{PutsOneAfterNeeds}
use Rattle.remote_copy.specs.Writes.{PutsCopy}
use Rattle.remote_copy.proofs.NeedWriteLemmas.{puts_after_needs}
use Rattle.remote_copy.proofs.write_laws.copies_come_after_their_needs.Goals as goal

pub returns : goal.returns
returns c = λ closed source target entry head old new wrote.
    Wrote-wider (PutsCopy closed source target entry head) (PutsOneAfterNeeds target) old new (λ files change. puts_after_needs closed source target entry head files change) wrote
