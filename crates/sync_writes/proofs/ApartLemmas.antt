-- What an exchange leaves of a folder apart from the one in which it writes.
use Rattle.std.proofs.Common.{ℕ, List, ◌++◌}
use Rattle.gb_text.specs.Overlap.{Overlap}
use Rattle.gb_store.specs.Files.{History, files_of}
use Rattle.gb_store.specs.Moments.{AllMoments, Wrote, WroteBy, at_moment}
use Rattle.gb_store.specs.declared.store.Change.{Change}
use Rattle.remote_name.specs.declared.remote.RemoteName.{RemoteName}
use Rattle.repo_state.specs.Sound.{KeepsParts}
use Rattle.repo_writes.specs.Kept.{LosesNothing}
use Rattle.repo_writes.proofs.KeptLemmas.{rule_keeps_parts, rule_loses_nothing}
use Rattle.sync_writes.specs.Kinds.{FetchWrites, PushWrites}
use Rattle.sync_writes.proofs.PlaceLemmas.{fetch-place, push-place}

-- a fetch leaves a folder apart from the own one
pub fetch_leaves : (own peer folder : List ℕ) (remote : RemoteName) (old new : History) → (Overlap folder own → ⊥) → WroteBy (FetchWrites own peer remote) old new
    → KeepsParts folder old new × AllMoments (LosesNothing folder (files_of old)) old new
fetch_leaves own peer folder remote old new apart wrote =
    let places = fetch-place own peer remote in
    (rule_keeps_parts (FetchWrites own peer remote) folder own apart places old new wrote, rule_loses_nothing (FetchWrites own peer remote) folder own apart places old new wrote)

-- and a push one apart from the peer
pub push_leaves : (own peer folder : List ℕ) (old new : History) → (Overlap folder peer → ⊥) → Wrote (PushWrites own peer) old new
    → KeepsParts folder old new × AllMoments (LosesNothing folder (files_of old)) old new
push_leaves own peer folder old new apart wrote =
    let Rule = at_moment (PushWrites own peer) in
    let places = (λ (entry : History) (earlier : List Change) (change : Change). push-place own peer (files_of (earlier ++ entry)) change) in
    (rule_keeps_parts Rule folder peer apart places old new wrote, rule_loses_nothing Rule folder peer apart places old new wrote)
