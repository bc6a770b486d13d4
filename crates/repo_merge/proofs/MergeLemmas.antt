-- A merge is done, or where it ended.
use Rattle.std.proofs.Common.{◌≡◌, ◌++◌, ℕ, List, [], Err, inl, inr, refl, sym, ◌∙◌, ap, subst}
use Rattle.gb_text.specs.declared.id.Id.{Id}
use Rattle.gb_store.specs.Files.{History, files_of}
use Rattle.gb_store.specs.declared.fault.StoreFault.{StoreFault}
use Rattle.gb_store.specs.declared.fault.StoreFault.TheVariants as store
use Rattle.remote_name.specs.declared.remote.RemoteName.{RemoteName}
use Rattle.repo_state.specs.Sides.{AreIds}
use Rattle.repo_state.specs.declared.refs.EntityRef.{EntityRef}
use Rattle.repo_state.specs.declared.side.Side.{Side}
use Rattle.repo_state.specs.declared.side.Side.TheVariants as side
use Rattle.sync_steps.specs.declared.line.EntityWord.TheVariants as word
use Rattle.merge_steps.specs.Merging.{BugStops, MergesBug, MergesPerson, PersonStops}
use Rattle.merge_steps.specs.Stops.{stop_of_store, stop_of_turn}
use Rattle.merge_steps.specs.Turns.{Ended, EndedBetween, IsMerged, MergeAnswers, NotBegun, PeopleMerged, Tracked, Went, WentOn, lines_of}
use Rattle.merge_steps.specs.declared.line.MergeLine.{MergeLine}
use Rattle.merge_steps.specs.declared.stop.MergeStop.{MergeStop}
use Rattle.merge_steps.specs.declared.stop.MergeStop.TheVariants as stop
use Rattle.merge_steps.specs.declared.stop.TurnStop.{TurnStop}
use Rattle.repo_merge.specs.Heads.{AreLocals}
use Rattle.repo_merge.specs.Listing.{HasLocals, IsListing, ListAnswers}
use Rattle.repo_merge.specs.declared.listing.Listing.{Listing}
use Rattle.repo_merge.specs.declared.listing.Locals.{Locals}
use Rattle.repo_merge.proofs.LocalLemmas.{all_local}

module _ (folder : List ℕ) (remote : RemoteName) (now : ℕ) where
  -- nothing was begun
  pub not_begun : (old new : History) (why : MergeStop) → ListAnswers folder remote old (Err why) → new ≡ old → NotBegun folder remote now why old new
  not_begun old new stop.Memory told same = same
  not_begun old new stop.Disk told same = same
  not_begun old new stop.NoUser told same = (told, same)
  not_begun old new (stop.Damaged path) told same = (told.1, told.0, same)
  not_begun old new (stop.Taken name) told same = absurd told

  module _ (listing : Listing) (old one : History) (listed : IsListing (files_of old) folder remote listing) (same : one ≡ old) where
    tracked : Tracked folder remote now old
    tracked = record { user = listing.user; is_user = listed.is_user; people = listing.people; are_people = listed.are_people; bugs = listing.bugs; are_bugs = listed.are_bugs }

    -- what the local refs of identities have is what was listed
    pub people_here : (refs : List EntityRef) → refs ≡ listing.people → AreLocals (files_of one) folder side.Identities listing.people_here refs
    people_here refs is =
        subst (λ (es : List EntityRef). AreLocals (files_of one) folder side.Identities listing.people_here es) (sym is)
        (subst (λ (h : History). AreLocals (files_of h) folder side.Identities listing.people_here listing.people) (sym same)
        (all_local (files_of old) (files_of old) folder (side.RemoteIdentities remote) side.Identities listing.people listing.people_here listed.are_people listed.here_side listed.are_here))

    -- and so it is of the bugs, once the identities had their turns
    pub bugs_here : (mid two : History) → two ≡ mid → (locals : Locals) → HasLocals (files_of mid) folder locals → (refs : List EntityRef) → refs ≡ listing.bugs → AreLocals (files_of two) folder side.Bugs locals.bugs refs
    bugs_here mid two same_two locals are refs is =
        subst (λ (es : List EntityRef). AreLocals (files_of two) folder side.Bugs locals.bugs es) (sym is)
        (subst (λ (h : History). AreLocals (files_of h) folder side.Bugs locals.bugs listing.bugs) (sym same_two)
        (all_local (files_of mid) (files_of old) folder (side.RemoteBugs remote) side.Bugs listing.bugs locals.bugs listed.are_bugs are.bugs_side are.are_bugs))

    -- the call ended at an identity
    pub ended_at_person : (why : TurnStop) (new : History) → Ended (MergesPerson folder) (PersonStops folder listing.people_side) why listing.people one new
        → MergeAnswers folder remote now old new (Err (stop_of_turn why))
    unfolding tracked
    ended_at_person why new ended = inr (inl (
      why,
      refl,
      inl (record {
        tracked = tracked;
        ended = subst (λ (h : History). Ended (MergesPerson folder) (PersonStops folder (side.RemoteIdentities remote)) why listing.people h new) same
            (subst (λ (s : Side). Ended (MergesPerson folder) (PersonStops folder s) why listing.people one new) listed.people_side ended);
      }),
    ))

    module _ (start lines : List MergeLine) (is_start : start ≡ []) (mid two : History) (on : WentOn (MergesPerson folder) word.Identity listing.people start lines one mid) (same_two : two ≡ mid) where
      went : Went (MergesPerson folder) listing.people on.turns old mid
      went = subst (λ (h : History). Went (MergesPerson folder) listing.people on.turns h mid) same on.went

      between : EndedBetween folder remote now old two
      unfolding tracked
      between = record { tracked = tracked; turns = on.turns; went = subst (Went (MergesPerson folder) listing.people on.turns old) (sym same_two) went }

      -- the call ended before the first bug
      pub ended_between : (fault : StoreFault) → MergeAnswers folder remote now old two (Err (stop_of_store fault))
      ended_between store.Memory = inr (inr (tt, between))
      ended_between store.Failed = inr (inr (tt, between))

      module _ (authors : List Id) (are_authors : AreIds (files_of mid) folder side.Identities authors) (new : History) where
        first : PeopleMerged folder remote now listing.people old mid
        first = record { turns = on.turns; went = went; authors = authors; are_authors = are_authors }

        -- the call ended at a bug
        pub ended_at_bug : (why : TurnStop) → Ended (MergesBug folder listing.user authors now) (BugStops folder listing.user authors now listing.bugs_side) why listing.bugs two new
            → MergeAnswers folder remote now old new (Err (stop_of_turn why))
        unfolding tracked first
        ended_at_bug why ended = inr (inl (
          why,
          refl,
          inr (record {
            tracked = tracked;
            mid = mid;
            first = first;
            ended = subst (λ (h : History). Ended (MergesBug folder listing.user authors now) (BugStops folder listing.user authors now (side.RemoteBugs remote)) why listing.bugs h new) same_two
                (subst (λ (s : Side). Ended (MergesBug folder listing.user authors now) (BugStops folder listing.user authors now s) why listing.bugs two new) listed.bugs_side ended);
          }),
        ))

        -- the call is done
        pub is_merged : (late : List MergeLine) → WentOn (MergesBug folder listing.user authors now) word.Bug listing.bugs lines late two new → IsMerged folder remote now late old new
        unfolding tracked first
        is_merged late then = record {
          tracked = tracked;
          mid = mid;
          first = first;
          turns = then.turns;
          then = subst (λ (h : History). Went (MergesBug folder listing.user authors now) listing.bugs then.turns h new) same_two then.went;
          are_lines = then.lines ∙ ap (λ (ls : List MergeLine). ls ++ lines_of word.Bug then.turns) (on.lines ∙ ap (λ (ls : List MergeLine). ls ++ lines_of word.Identity on.turns) is_start);
        }
