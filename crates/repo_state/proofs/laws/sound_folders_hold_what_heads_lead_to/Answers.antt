use Rattle.repo_state.proofs.LedLemmas.{led_from_heads}
use Rattle.repo_state.proofs.laws.sound_folders_hold_what_heads_lead_to.Goals as goal

pub returns : goal.returns
returns c = λ folder files of id head one sound. led_from_heads folder files sound of id head one
