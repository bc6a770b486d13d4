-- What turns read adds up, one turn after another.
use Rattle.std.proofs.Common.{◌≡◌, ◌≤◌, ◌<◌, ◌+◌, ◌∷◌, ◌++◌, arith, ℕ, List, [], length, take, drop, get_or, map, Result, Ok, Err, inl, inr, refl, sym, ◌∙◌, ap, subst}
use Rattle.std.proofs.lemmas.List.{append-nil, map-append, take_more}
use Rattle.gb_store.specs.Files.{History, files_of}
use Rattle.remote_name.specs.declared.remote.RemoteName.{RemoteName}
use Rattle.repo_state.specs.declared.refs.EntityRef.{EntityRef}
use Rattle.repo_state.specs.declared.side.Side.{Side}
use Rattle.repo_state.specs.declared.side.Side.TheVariants as side
use Rattle.repo_state.proofs.PeopleLemmas.{split_at}
use Rattle.sync_steps.specs.Turns.{AreBoth, Turn}
use Rattle.repo_sync.specs.Listing.{IsListing}
use Rattle.repo_state.specs.declared.stop.ReadStop.{ReadStop}
use Rattle.sync_steps.specs.declared.line.Line.{Line}
use Rattle.repo_sync.specs.Reading.{AllFetchesRead, AllRead, FetchRead, FetchedAll, FetchedBugs, FetchedPeople, ReadsFetch, ReadsFetched, ReadsFetching, SomeFetchesRead, SomeRead, TurnsRead}
use Rattle.repo_sync.specs.declared.listing.Listing.{Listing}

module _ {A : Type 0} (entity_of : A → EntityRef) (Turns : A → History → History → ℕ → ℕ → Type 0) where
  -- one more turn behind those before it
  TurnsRead-snoc : (turns : List A) (last : A) (old mid new : History) (before between after : ℕ) → TurnsRead entity_of Turns turns old mid before between → Turns last mid new between after
      → TurnsRead entity_of Turns (turns ++ last ∷ []) old new before after
  TurnsRead-snoc [] last old mid new before between after none turn =
      (new, after, subst (λ (n : ℕ). Turns last old new n after) none.1 (subst (λ (h : History). Turns last h new between after) none.0 turn), (refl, refl))
  TurnsRead-snoc (one ∷ turns) last old mid new before between after read turn =
      (read.0, read.1, read.2, TurnsRead-snoc turns last read.0 mid new read.1 between after read.3 turn)

  -- no entity had its turn yet
  pub AllRead-none : (old new : History) (before after : ℕ) → new ≡ old → after ≡ before → AllRead entity_of Turns [] old new before after
  AllRead-none old new before after same unread = record { turns = []; are = refl; each = (same, unread) }

  -- one more had
  pub AllRead-next : (refs : List EntityRef) (i : ℕ) (d : EntityRef) (last : A) (old mid new : History) (before between after : ℕ) → i < length refs → entity_of last ≡ get_or refs i d
      → AllRead entity_of Turns (take i refs) old mid before between → Turns last mid new between after → AllRead entity_of Turns (take (i + 1) refs) old new before after
  AllRead-next refs i d last old mid new before between after within is read turn = record {
    turns = read.turns ++ last ∷ [];
    are = map-append entity_of read.turns (last ∷ []) ∙ ap (λ (es : List EntityRef). es ++ entity_of last ∷ []) read.are ∙ ap (λ (e : EntityRef). take i refs ++ e ∷ []) is ∙ sym (take_more refs i d within);
    each = TurnsRead-snoc read.turns last old mid new before between after read.each turn;
  }

  module _ (Reads : EntityRef → History → ℕ → ℕ → Type 0) where
    -- the call ended at one
    pub SomeRead-at : (refs : List EntityRef) (i : ℕ) (d : EntityRef) (old mid : History) (before between after : ℕ) → i < length refs
        → AllRead entity_of Turns (take i refs) old mid before between → Reads (get_or refs i d) mid between after → SomeRead entity_of Turns Reads refs old before after
    SomeRead-at refs i d old mid before between after within read last = record {
      done = read.turns;
      rest = get_or refs i d ∷ drop (i + 1) refs;
      are = split_at refs i d within ∙ ap (λ (es : List EntityRef). es ++ get_or refs i d ∷ drop (i + 1) refs) (sym read.are);
      mid = mid;
      between = between;
      each = read.each;
      last = last;
    }

    -- the call ended behind all, and read no more
    pub SomeRead-all : (refs : List EntityRef) (old new : History) (before between after : ℕ) → AllRead entity_of Turns refs old new before between → after ≤ between → SomeRead entity_of Turns Reads refs old before after
    SomeRead-all refs old new before between after read none = record {
      done = read.turns;
      rest = [];
      are = sym (append-nil (map entity_of read.turns) ∙ read.are);
      mid = new;
      between = between;
      each = read.each;
      last = none;
    }

-- ---- a fetch

module _ (own peer : List ℕ) (remote : RemoteName) (listing : Listing) (old one : History) (listed : IsListing (files_of old) peer own (side.RemoteIdentities remote) (side.RemoteBugs remote) listing) (same : one ≡ old) (before start : ℕ) (unread : start ≡ before) where
  both : AreBoth peer old listing.people listing.bugs
  both = record { are_people = listed.people; are_bugs = listed.bugs }

  -- it ended at an identity
  pub fetched_people : (after : ℕ) → SomeFetchesRead own peer listing.people_there.side listing.people one start after → FetchedPeople own peer remote old before after
  unfolding both
  fetched_people after some = record {
    people = listing.people;
    bugs = listing.bugs;
    are = both;
    some = subst (λ (n : ℕ). SomeFetchesRead own peer (side.RemoteIdentities remote) listing.people old n after) unread
        (subst (λ (h : History). SomeFetchesRead own peer (side.RemoteIdentities remote) listing.people h start after) same
        (subst (λ (to : Side). SomeFetchesRead own peer to listing.people one start after) listed.people_there.side some));
  }

  module _ (mid : History) (between : ℕ) (read : AllFetchesRead own peer listing.people_there.side listing.people one mid start between) where
    from_start : AllFetchesRead own peer (side.RemoteIdentities remote) listing.people old mid before between
    from_start = subst (λ (n : ℕ). AllFetchesRead own peer (side.RemoteIdentities remote) listing.people old mid n between) unread
        (subst (λ (h : History). AllFetchesRead own peer (side.RemoteIdentities remote) listing.people h mid start between) same
        (subst (λ (to : Side). AllFetchesRead own peer to listing.people one mid start between) listed.people_there.side read))

    -- at a bug
    pub fetched_bugs : (after : ℕ) → SomeFetchesRead own peer listing.bugs_there.side listing.bugs mid between after → FetchedBugs own peer remote old before after
    unfolding both
    fetched_bugs after some = record {
      people = listing.people;
      bugs = listing.bugs;
      are = both;
      mid = mid;
      between = between;
      first = from_start;
      some = subst (λ (to : Side). SomeFetchesRead own peer to listing.bugs mid between after) listed.bugs_there.side some;
    }

    -- or behind all
    pub fetched_all : (new : History) (after : ℕ) → AllFetchesRead own peer listing.bugs_there.side listing.bugs mid new between after → FetchedAll own peer remote old new before after
    unfolding both
    fetched_all new after all = record {
      people = listing.people;
      bugs = listing.bugs;
      are = both;
      mid = mid;
      between = between;
      first = from_start;
      then = subst (λ (to : Side). AllFetchesRead own peer to listing.bugs mid new between after) listed.bugs_there.side all;
    }

-- what is read where all had their turns is read by a fetch
pub any_fetch : (own peer : List ℕ) (remote : RemoteName) (old new : History) (before after : ℕ) (result : Result (List Line) ReadStop) → ReadsFetching own peer remote old new before after result → ReadsFetched own peer remote old before after
any_fetch own peer remote old new before after (Ok lines) all = inr (inr (record {
  people = all.people;
  bugs = all.bugs;
  are = all.are;
  mid = all.mid;
  between = all.between;
  first = all.first;
  some = SomeRead-all (λ (turn : Turn). turn.entity) (FetchRead own peer (side.RemoteBugs remote)) (ReadsFetch own peer) all.bugs all.mid new all.between after after all.then (omega arith);
}))
any_fetch own peer remote old new before after (Err why) some = some
