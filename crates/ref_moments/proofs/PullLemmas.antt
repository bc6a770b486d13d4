-- A pull sets each tracking ref once at most, and then each local ref.
use Rattle.std.proofs.Common.{◌≢◌, ◌⊎◌, inl, inr, refl, sym, ◌∙◌, ℕ, List, Result, Ok, Err}
use Rattle.gb_text.specs.Digits.{IsId}
use Rattle.gb_text.specs.declared.id.Id.{Id}
use Rattle.gb_store.specs.Files.{History}
use Rattle.remote_name.specs.declared.remote.RemoteName.{RemoteName}
use Rattle.repo_state.specs.declared.side.Side.{Side}
use Rattle.sync_steps.specs.Places.{local_side, tracking_side}
use Rattle.sync_steps.specs.declared.line.EntityWord.{EntityWord}
use Rattle.sync_steps.specs.declared.line.EntityWord.TheVariants as word
use Rattle.merge_steps.specs.Pulling.{PullAnswers}
use Rattle.merge_steps.specs.declared.line.Pulled.{Pulled}
use Rattle.merge_steps.specs.declared.stop.MergeStop.{MergeStop}
use Rattle.merge_steps.proofs.MergeWriteLemmas.{not_begun_same}
use Rattle.ref_moments.specs.Once.{StaysSame}
use Rattle.ref_moments.specs.Sets.{IsFetched, IsMergedRef, IsPulledRef}
use Rattle.ref_moments.proofs.FetchLemmas.{fetch_once}
use Rattle.ref_moments.proofs.MergeLemmas.{merge_once}
use Rattle.ref_moments.proofs.OnceLemmas.{set_then, stays_none, stays_then, then_set}

-- no side is both a tracking one and a local one
pub sides_apart : (remote : RemoteName) (one two : EntityWord) → tracking_side remote one ≢ local_side two
sides_apart remote word.Identity word.Identity same = cc same
sides_apart remote word.Identity word.Bug same = cc same
sides_apart remote word.Bug word.Identity same = cc same
sides_apart remote word.Bug word.Bug same = cc same

module _ (own peer : List ℕ) (remote : RemoteName) (now : ℕ) (of : Side) (id : Id) (is_id : IsId id) (old new : History) where
  abbrev Out : Type 0
  Out = StaysSame own of id old new ⊎ (IsFetched own peer remote of id old new ⊎ IsPulledRef own of id old new)

  -- a fetch, and then a merge
  both : (mid : History) → StaysSame own of id old mid ⊎ IsFetched own peer remote of id old mid → StaysSame own of id mid new ⊎ IsMergedRef own remote of id mid new → Out
  both mid (inl one) (inl two) = inl (stays_then own of id old mid new one two)
  both mid (inr one) (inl two) =
      inr (inl (record { word = one.word; is_side = one.is_side; head = one.head; is_peers = one.is_peers; once = set_then own of id one.head old mid new one.once two }))
  both mid (inl one) (inr two) = inr (inr (record { word = two.word; is_side = two.is_side; head = two.head; once = then_set own of id two.head old mid new one two.once }))
  both mid (inr one) (inr two) = absurd (sides_apart remote one.word two.word (sym one.is_side ∙ two.is_side))

  pub pull_once : (result : Result Pulled MergeStop) → PullAnswers own peer remote now old new result → Out
  pull_once (Ok pulled) is =
      both is.mid (fetch_once own peer remote old of id is_id is.mid (Ok pulled.fetched) is.first) (merge_once own remote now is.mid of id is_id new (Ok pulled.merged) is.then)
  pull_once (Err why) (inl none) = inl (stays_none own of id old new (not_begun_same own remote now why old new none))
  pull_once (Err why) (inr (inl is)) = both new (fetch_once own peer remote old of id is_id new (Err is.stop) is.ended) (inl (stays_none own of id new new refl))
  pull_once (Err why) (inr (inr (fetched, is))) =
      both is.mid (fetch_once own peer remote old of id is_id is.mid (Ok fetched) is.first) (merge_once own remote now is.mid of id is_id new (Err why) is.then)
