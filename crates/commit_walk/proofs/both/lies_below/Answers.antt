use Rattle.std.proofs.Common.{inl, inr, sym, ◌∙◌}
use Rattle.std.proofs.lemmas.Bool.{cases_Bool}
use Rattle.object_store.specs.Held.{objects_after}
use Rattle.commit_walk.proofs.BothLemmas.{found_where_below}
use Rattle.commit_walk.proofs.SearchLemmas.{reads_below}
use Rattle.commit_walk.proofs.both.lies_below.Goals as goal

pub returns-clause-answers : goal.returns-clause-answers
returns-clause-answers g c = λ tells.
    let objects = objects_after (g.S.Store.history c.args.disk.now) c.args.folder.now in
    let found = c.in_ok-reach.ensures.answers tells in (
      λ is_known. found.below c.args.low.now (c.leads_to.ensures.0 is_known),
      λ b. elim (cases_Bool c.leads_to.result) [
        | inl found_it ↦ found_it
        | inr none ↦ absurd (found_where_below objects c.args.high.now c.args.low.now c.in_ok-reach.reach found (λ h. let is_known = c.leads_to.ensures.1 h in cc (sym none ∙ is_known)) b)
      ],
    )

pub returns-in_err-reach-clause-each : goal.returns-in_err-reach-clause-each
returns-in_err-reach-clause-each g c = λ tells. reads_below _ _ _ _ _ (c.in_err-reach.ensures.until tells)

pub returns-clause-each : goal.returns-clause-each
returns-clause-each g c = λ tells. reads_below _ _ _ _ _ (c.in_ok-reach.ensures.until tells)
