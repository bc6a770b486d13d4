use Rattle.std.proofs.Common.{sym, ◌∙◌, ap}
use Rattle.packed_refs.specs.Packed.{head_of}
use Rattle.ref_store.specs.Refs.{refs_of_text}
use Rattle.ref_store.proofs.FrameLemmas.{none_named}
use Rattle.ref_store.proofs.packed.packed_head.Goals as goal

pub returns-in-None-clause-head : goal.returns-in-None-clause-head
returns-in-None-clause-head g c = λ tells. sym (none_named c.args.path.now) ∙ ap (head_of c.args.path.now) (sym (ap refs_of_text c.in-None.is) ∙ c.in_ok-text.ensures.text tells)
