-- Each head of an identity that pulls among folders leave was there before.
use Rattle.std.proofs.Common.{◌≡◌, ◌≢◌, ◌⊎◌, inl, inr, ℕ, List, [], ◌∷◌, Contains, Ok, refl, sym, ◌∙◌, subst}
use Rattle.std.specs.Prelude.{All}
use Rattle.std.proofs.lemmas.List.Elements.{All-head, All-tail}
use Rattle.gb_text.specs.Digits.{IsId}
use Rattle.gb_text.specs.Overlap.{Overlap}
use Rattle.gb_text.specs.declared.id.Id.{Id}
use Rattle.gb_text.specs.declared.id.Name.{Name}
use Rattle.gb_store.specs.Files.{History, files_of}
use Rattle.gb_store.specs.Moments.{IsMoment, Wrote, WroteBy}
use Rattle.gb_store.specs.Turns.{InTurn}
use Rattle.gb_store.proofs.MomentLemmas.{IsMoment-of_first}
use Rattle.ref_store.specs.Refs.{Head}
use Rattle.repo_state.specs.Sides.{head_at}
use Rattle.repo_state.proofs.PlaceLemmas.{same_or_other}
use Rattle.repo_writes.specs.Kept.{LosesNothing}
use Rattle.repo_writes.specs.Kinds.{IsWrite}
use Rattle.repo_writes.proofs.KeptLemmas.{LosesNothing-then, loses_nothing}
use Rattle.sync_writes.specs.Kinds.{FetchWrites}
use Rattle.sync_writes.proofs.FetchKeptLemmas.{fetch_loses_nothing}
use Rattle.sync_writes.proofs.FetchKindLemmas.{fetch_writes}
use Rattle.merge_steps.proofs.MergeWriteLemmas.{merge_wrote}
use Rattle.ref_moments.proofs.OnceLemmas.{last_moment}
use Rattle.full_exchanges.specs.Exchanges.{IsAmong, Member, folders_of, pull_of}
use Rattle.full_exchanges.specs.Leaving.{IsUntouched}
use Rattle.full_exchanges.specs.Pulls.{Pull, WasPulled}
use Rattle.full_exchanges.proofs.ExchangeLemmas.{folder_in}
use Rattle.full_exchanges.proofs.HasLemmas.{same_heads}
use Rattle.full_exchanges.proofs.PullLemmas.{pull_leaves}
use Rattle.identity_runs.specs.Heads.{IsThere}
use Rattle.identity_runs.proofs.HeadLemmas.{pull_was}

module _ (members : List Member) (apart : (one two : List ℕ) → Contains (folders_of members) one → Contains (folders_of members) two → Overlap one two → one ≡ two) where
  module _ (one other : Member) (is_one : Contains members one) (is_other : Contains members other) (differ : one.folder ≢ other.folder) (now : ℕ) (old new : History)
      (was : WasPulled (pull_of one other now) old new) where
    abbrev mid : History
    mid = was.answers.mid

    own_in : Contains (folders_of members) one.folder
    own_in = folder_in members one is_one

    peer_in : Contains (folders_of members) other.folder
    peer_in = folder_in members other is_other

    pub never_over : Overlap one.folder other.folder → ⊥
    never_over overlap = differ (apart one.folder other.folder own_in peer_in overlap)

    -- the other folders are untouched
    pub others_left : (folder : List ℕ) → Contains (folders_of members) folder → folder ≢ one.folder → IsUntouched folder (files_of old) (files_of new)
    others_left folder is differs = pull_leaves (pull_of one other now) old new never_over was folder (λ overlap. differs (apart folder one.folder is own_in overlap))

    -- the writes of the pull
    first_wrote : WroteBy (FetchWrites one.folder other.folder other.name) old mid
    first_wrote = fetch_writes one.folder other.folder other.name never_over old mid (Ok was.pulled.fetched) was.answers.first

    then_wrote : Wrote (IsWrite one.folder) mid new
    then_wrote = merge_wrote one.folder other.name now mid new (Ok was.pulled.merged) was.in_time was.answers.then

    first_came : IsMoment old mid old
    first_came = record { later = first_wrote.writes; done = []; before = refl; after = first_wrote.grew }

    then_came : IsMoment mid new mid
    then_came = record { later = then_wrote.writes; done = []; before = refl; after = then_wrote.grew }

    -- the own folder loses nothing
    pub own_loses_nothing : LosesNothing one.folder (files_of old) (files_of new)
    own_loses_nothing =
        LosesNothing-then one.folder (files_of old) (files_of mid) (files_of new)
        ((fetch_loses_nothing one.folder other.folder other.name old mid first_wrote).each mid (last_moment old mid first_came))
        ((loses_nothing one.folder mid new then_wrote).each new (last_moment mid new then_came))

    -- each head that is there then was there
    pub one_was : (id : Id) → IsId id → (head : Name) → IsThere (files_of new) (folders_of members) id head → IsThere (files_of old) (folders_of members) id head
    one_was id is_id head there = by (same_or_other there.folder one.folder)
      where
        by : (there.folder ≡ one.folder) ⊎ (there.folder ≢ one.folder) → IsThere (files_of old) (folders_of members) id head
        by (inl same) =
            pull_was (folders_of members) old id is_id one.folder other.folder own_in peer_in other.name now new (Ok was.pulled) was.answers new
            (last_moment old new (IsMoment-of_first old mid new old first_came then_came)) there.of there.of_people head
            (subst (λ (f : List ℕ). head_at (files_of new) f there.of id ≡ Head head) same there.is_head)
        by (inr differs) = record {
          folder = there.folder;
          is = there.is;
          of = there.of;
          of_people = there.of_people;
          is_head = sym (same_heads there.folder (files_of old) (files_of new) (others_left there.folder there.is differs) there.of id) ∙ there.is_head;
        }

  -- so it is of pulls one after another
  pub all_were : (pulls : List Pull) (old new : History) → All (IsAmong members) pulls → InTurn WasPulled pulls old new → (id : Id) → IsId id → (head : Name) → IsThere (files_of new) (folders_of members) id head
      → IsThere (files_of old) (folders_of members) id head
  all_were [] old new all same id is_id head there = subst (λ (h : History). IsThere (files_of h) (folders_of members) id head) same there
  all_were (pull ∷ pulls) old new all (mid, step, later) id is_id head there =
      let at = All-head (IsAmong members) pull pulls all in
      one_was at.one at.other at.is_one at.is_other at.differ at.now old mid (subst (λ (p : Pull). WasPulled p old mid) at.is step) id is_id head
      (all_were pulls mid new (All-tail (IsAmong members) pull pulls all) later id is_id head there)
