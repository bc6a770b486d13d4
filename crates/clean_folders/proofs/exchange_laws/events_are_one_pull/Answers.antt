use Rattle.std.proofs.Common.{◌≡◌, ℕ, List, sym, ◌∙◌, ap}
use Rattle.remote_name.specs.declared.remote.RemoteName.{RemoteName}
use Rattle.remote_name.proofs.RemoteLemmas.{one_remote}
use Rattle.full_exchanges.specs.Pulls.{Pull as PullValue}
use Rattle.world_events.specs.Words.{folder_word}
use Rattle.world_events.specs.declared.act.Act.TheVariants.{Pull}
use Rattle.world_events.specs.declared.event.Event.{Event}
use Rattle.clean_folders.specs.Unlimited.{IsPullOf}
use Rattle.clean_folders.proofs.exchange_laws.events_are_one_pull.Goals as goal

one_peer : (first second : ℕ) → Pull first ≡ Pull second → first ≡ second
one_peer first second same = cc

by : (event : Event) (one two : PullValue) → IsPullOf event one → IsPullOf event two → one ≡ two
by event one two first second =
    let text : folder_word first.peer ≡ folder_word second.peer = ap folder_word (one_peer first.peer second.peer (sym first.act ∙ second.act)) in
    ap (λ (own : List ℕ). record { own = own; peer = one.peer; remote = one.remote; now = one.now }) (first.own ∙ sym second.own)
    ∙ ap (λ (peer : List ℕ). record { own = two.own; peer = peer; remote = one.remote; now = one.now }) (first.its ∙ text ∙ sym second.its)
    ∙ ap (λ (remote : RemoteName). record { own = two.own; peer = two.peer; remote = remote; now = one.now }) (one_remote one.remote two.remote (first.named ∙ text ∙ sym second.named))
    ∙ ap (λ (now : ℕ). record { own = two.own; peer = two.peer; remote = two.remote; now = now }) (first.time ∙ sym second.time)

pub returns : goal.returns
returns c = by
