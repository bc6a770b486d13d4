use Rattle.identity.proofs.MadeLemmas.{head_held, made_below, made_extends, made_held}
use Rattle.identity.proofs.making_laws.new_versions_extend_their_chains.Goals as goal

pub returns-clause-held : goal.returns-clause-held
returns-clause-held c = made_held

pub returns-clause-extends : goal.returns-clause-extends
returns-clause-extends c = made_extends

pub returns-clause-below : goal.returns-clause-below
returns-clause-below c = made_below

pub returns-clause-parent : goal.returns-clause-parent
returns-clause-parent c = head_held
