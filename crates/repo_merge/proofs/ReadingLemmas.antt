-- What turns read adds up, one turn after another.
use Rattle.std.proofs.Common.{◌≡◌, ◌≤◌, ◌+◌, ◌*◌, arith, ℕ, List, [], length, Option, Some, inl, inr, sym, subst}
use Rattle.gb_text.specs.declared.id.Id.{Id}
use Rattle.gb_text.specs.declared.id.Name.{Name}
use Rattle.gb_store.specs.Files.{History, files_of}
use Rattle.object_store.specs.Held.{Objects}
use Rattle.commit_walk.proofs.DistinctLemmas.{AreDistinct-nil, Contains-nil}
use Rattle.commit_walk.specs.Chain.{Walked}
use Rattle.commit_walk.specs.Passing.{ReadsAbove}
use Rattle.commit_walk.specs.declared.below.TheConstants.{MOST_COMMITS}
use Rattle.commit_walk.specs.declared.chain.Link.{Link}
use Rattle.dag_entity.specs.Entities.{ReadsEach}
use Rattle.entity_merge.specs.Merging.{ReadsAndPuts}
use Rattle.remote_name.specs.declared.remote.RemoteName.{RemoteName}
use Rattle.repo_state.specs.Sides.{AreIds}
use Rattle.repo_state.specs.declared.refs.EntityRef.{EntityRef}
use Rattle.repo_state.specs.declared.side.Side.TheVariants as side
use Rattle.merge_steps.specs.Merging.{MergeTurn}
use Rattle.merge_steps.specs.Turns.{Tracked}
use Rattle.repo_sync.specs.Reading.{FetchedAll, ReadsFetched}
use Rattle.repo_sync.proofs.ReadingLemmas.{SomeRead-all}
use Rattle.repo_merge.specs.Listing.{IsListing}
use Rattle.repo_merge.specs.Reading.{AllPeopleRead, PersonRead, ReadsChains, ReadsMerging, ReadsPerson, ReadsPulling, SomeBugsRead, SomePeopleRead}
use Rattle.repo_merge.specs.declared.listing.Listing.{Listing}

-- ---- one turn

-- where nothing is read, no name is needed
pub none_put : (objects : Objects) (heads : List Name) (before after : ℕ) → after ≡ before → ReadsAndPuts objects heads before after
none_put objects heads before after same = record {
  mid = before;
  planned = record {
    names = [];
    once = AreDistinct-nil;
    each = λ name c. absurd (Contains-nil name c);
    few = omega arith;
  };
  put = omega (arith, same);
}

-- the objects of a plan are read behind it
pub plan_put : (objects : Objects) (heads : List Name) (before start mid after : ℕ) (texts : List (List ℕ)) → start ≡ before → ReadsEach objects heads 3 start mid → length texts ≤ 4 → after ≤ mid + length texts → ReadsAndPuts objects heads before after
plan_put objects heads before start mid after texts unread planned few put = record {
  mid = mid;
  planned = subst (λ (n : ℕ). ReadsEach objects heads 3 n mid) unread planned;
  put = omega (arith, few, put);
}

-- a head is taken up, and then its ref is set
pub chains_then : (objects : Objects) (local : Option Name) (tracked : Name) (IsNew : Type 0) (before mid after : ℕ) → ((head : Name) → local ≡ Some head → ReadsAbove objects head tracked before mid) → mid ≤ before + 4 * MOST_COMMITS → after ≡ mid
    → (IsNew → (walk : List Link) → Walked objects tracked walk → mid ≤ before + 3 * length walk) → ReadsChains objects local tracked IsNew before after
chains_then objects local tracked IsNew before mid after above most same new = record {
  above = λ head is. subst (λ (n : ℕ). ReadsAbove objects head tracked before n) (sym same) (above head is);
  new = λ is walk walked. omega (arith, same, new is walk walked);
  most = omega (arith, same, most);
}

-- what is read of a new identity is read of less
pub person_narrower : (folder : List ℕ) (P Q : Type 0) (entity : EntityRef) (old : History) (before after : ℕ) → (Q → P) → ReadsPerson folder P entity old before after → ReadsPerson folder Q entity old before after
person_narrower folder P Q entity old before after less (inl none) = inl none
person_narrower folder P Q entity old before after less (inr (heads, has, reads)) = inr (heads, has, record { above = reads.above; new = λ q. reads.new (less q); most = reads.most })

-- ---- a merge

module _ (folder : List ℕ) (remote : RemoteName) (now : ℕ) (listing : Listing) (old one : History) (listed : IsListing (files_of old) folder remote listing) (same : one ≡ old) (before start : ℕ) (unread : start ≡ before) where
  tracked : Tracked folder remote now old
  tracked = record { user = listing.user; is_user = listed.is_user; people = listing.people; are_people = listed.are_people; bugs = listing.bugs; are_bugs = listed.are_bugs }

  -- it ended at an identity
  pub reads_at_person : (after : ℕ) → SomePeopleRead folder listing.people one start after → ReadsMerging folder remote now old before after
  unfolding tracked
  reads_at_person after some = inr (
    tracked,
    inl (subst (λ (n : ℕ). SomePeopleRead folder listing.people old n after) unread
        (subst (λ (h : History). SomePeopleRead folder listing.people h start after) same some)),
  )

  module _ (mid two : History) (between then : ℕ) (read : AllPeopleRead folder listing.people one mid start between) (same_two : two ≡ mid) (unread_two : then ≡ between) where
    from_start : AllPeopleRead folder listing.people old mid before between
    from_start = subst (λ (n : ℕ). AllPeopleRead folder listing.people old mid n between) unread
        (subst (λ (h : History). AllPeopleRead folder listing.people h mid start between) same read)

    -- before the first bug
    pub reads_between : ReadsMerging folder remote now old before then
    unfolding tracked
    reads_between = inr (tracked, inl (SomeRead-all (λ (turn : MergeTurn). turn.entity) (PersonRead folder) (ReadsPerson folder ⊥) listing.people old mid before between then from_start (omega (arith, unread_two))))

    -- at a bug, or behind all of them
    pub reads_at_bug : (authors : List Id) → AreIds (files_of mid) folder side.Identities authors → (after : ℕ) → SomeBugsRead folder listing.user authors now listing.bugs two then after
        → ReadsMerging folder remote now old before after
    unfolding tracked
    reads_at_bug authors are after some = inr (
      tracked,
      inr (record {
        mid = mid;
        between = between;
        first = from_start;
        authors = authors;
        are_authors = are;
        then = subst (λ (n : ℕ). SomeBugsRead folder listing.user authors now listing.bugs mid n after) unread_two
            (subst (λ (h : History). SomeBugsRead folder listing.user authors now listing.bugs h then after) same_two some);
      }),
    )

-- ---- a pull

module _ (own peer : List ℕ) (remote : RemoteName) (now : ℕ) (old one mid : History) (same : one ≡ old) (before start : ℕ) (unread : start ≡ before) where
  -- it ended in its fetch
  pub reads_in_fetch : (after : ℕ) → ReadsFetched own peer remote one start after → ReadsPulling own peer remote now old before after
  reads_in_fetch after read =
      inl (subst (λ (n : ℕ). ReadsFetched own peer remote old n after) unread (subst (λ (h : History). ReadsFetched own peer remote h start after) same read))

  -- or in its merge, or behind it
  pub reads_in_merge : (between after : ℕ) → FetchedAll own peer remote one mid start between → ReadsMerging own remote now mid between after → ReadsPulling own peer remote now old before after
  reads_in_merge between after first then = inr (record {
    mid = mid;
    between = between;
    first = subst (λ (n : ℕ). FetchedAll own peer remote old mid n between) unread (subst (λ (h : History). FetchedAll own peer remote h mid start between) same first);
    then = then;
  })
