use Rattle.std.proofs.Common.{List, sym, subst, take, ◌∙◌}
use Rattle.gb_text.specs.declared.id.Id.{Id}
use Rattle.combined_id.specs.Lookup.{Answers, fitting}
use Rattle.combined_id.proofs.LookupLemmas.{fitting_as_before, fitting_more}
use Rattle.combined_id.proofs.lookup.find.Goals as goal
use Rattle.combined_id.proofs.lookup.find.Goals.{then-fits, else-fits}

pub loop-place-preserved : goal.loop-place-preserved
loop-place-preserved c =
    let ids = c.args.ids.now in
    let prefix = c.args.prefix.now in
    let place = c.loop-place.place in
    elim c.if-fits.branch [
      | then-fits w ↦
          let next = fitting_more prefix ids place _ c.loop-place-test.true (sym c.fits.ensures ∙ w.if-fits.true) in
          rw w.found-is (subst (λ (l : List Id). Answers ids l w.with_more-found.result) (sym next) (w.with_more-found.ensures (fitting prefix (take place ids)) c.loop-place.invariant))
      | else-fits w ↦
          let next = fitting_as_before prefix ids place _ c.loop-place-test.true (sym c.fits.ensures ∙ w.if-fits.false) in
          rw w.found-is (subst (λ (l : List Id). Answers ids l c.loop-place.found) (sym next) c.loop-place.invariant)
    ]
