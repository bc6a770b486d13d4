use Rattle.std.proofs.Common.{sym, ◌∙◌}
use Rattle.commit_walk.proofs.reach.Reach.leads_to.Goals as goal

pub returns : goal.returns
returns c = (λ yes. c.requires.only c.args.name.now (sym c.contains.ensures ∙ yes), λ among. c.contains.ensures ∙ c.requires.known c.args.name.now among)
