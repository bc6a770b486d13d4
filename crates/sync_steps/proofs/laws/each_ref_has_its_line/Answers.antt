use Rattle.std.specs.Prelude.{Bool}
use Rattle.sync_steps.specs.Fetching.{FetchStops, Fetches}
use Rattle.sync_steps.specs.Places.{local_side, tracking_side}
use Rattle.sync_steps.specs.Pushing.{PushStops, Pushes}
use Rattle.sync_steps.specs.declared.line.EntityWord.{EntityWord}
use Rattle.sync_steps.specs.declared.line.Exchange.TheVariants as verb
use Rattle.sync_steps.proofs.ToldLemmas.{lines_of_done}
use Rattle.sync_steps.proofs.laws.each_ref_has_its_line.Goals as goal

pub returns-clause-fetch : goal.returns-clause-fetch
returns-clause-fetch c = λ own peer remote old new lines done.
    lines_of_done verb.Fetch (λ (word : EntityWord) (held : Bool). Fetches own peer (tracking_side remote word)) (λ (word : EntityWord) (held : Bool). FetchStops own peer (tracking_side remote word))
    peer lines old new done

pub returns-clause-push : goal.returns-clause-push
returns-clause-push c = λ own peer old new lines done.
    lines_of_done verb.Push (λ (word : EntityWord). Pushes own peer (local_side word)) (λ (word : EntityWord). PushStops own peer (local_side word)) own lines old new done
