-- What follows from a look at packed refs: where they read, the command answers.
use Rattle.std.proofs.Common.{◌≡◌, inl, inr, ℕ, Bool, true, false, if◌then◌else◌, List, [], ◌∷◌, Option, Some, None, Result, Ok, Err, refl, sym, ◌∙◌, ap, subst}
use Rattle.gb_store.specs.Files.{Files, History}
use Rattle.gb_store.specs.Moments.{WroteBy}
use Rattle.gb_store.specs.declared.store.Change.{Change}
use Rattle.gb_store.proofs.MomentLemmas.{WroteBy-none}
use Rattle.ref_store.specs.Refs.{packed_reads}
use Rattle.repo_state.specs.Packed.{PackedAnswers}
use Rattle.repo_state.specs.declared.stop.ReadStop.{ReadStop}
use Rattle.repo_state.specs.declared.stop.ReadStop.TheVariants as read
use Rattle.repo_steps.specs.Stops.{stop_of_read}
use Rattle.repo_steps.specs.declared.refusal.Refusal.{Refusal}
use Rattle.repo_steps.specs.declared.refusal.Refusal.TheVariants as refusal
use Rattle.repo_steps.specs.declared.refusal.Stop.{Stop}
use Rattle.repo_steps.specs.declared.refusal.Stop.TheVariants as stop
use Rattle.words.specs.declared.pair.FolderPair.{FolderPair}
use Rattle.words.specs.declared.words.PeerCommand.{PeerCommand}
use Rattle.bug_run.specs.Answer.{Answer}
use Rattle.bug_run.specs.Headline.{IsFault}
use Rattle.bug_run.specs.Looks.{Guarded, LookAnswers, NotBegun, ReadsGuarded, first_unread, looks_at_peer, pair_looks}
use Rattle.bug_run.specs.Printed.{IsTold}
use Rattle.bug_run.specs.Run.{status_of}
use Rattle.bug_run.specs.declared.status.Status.{Status}

-- ---- the answer to a look

pub look_done : (files : Files) (folder : List ℕ) → packed_reads files folder ≡ true → first_unread files (folder ∷ []) ≡ None
look_done files folder reads = ap (λ (b : Bool). if b then None else Some folder) reads

pub look_refused : (files : Files) (folder : List ℕ) (why : ReadStop) → PackedAnswers files folder (Err why) → NotBegun {A = Unit} (first_unread files (folder ∷ [])) (Err (stop_of_read why))
look_refused files folder read.Memory is = tt
look_refused files folder read.Disk is = tt
look_refused files folder (read.Damaged path) (at, unread) = (folder, ap (λ (b : Bool). if b then None else Some folder) unread, ap refusal.Damaged at)

-- a look at one folder more, where the first one's packed refs read
first_more : (files : Files) (folder : List ℕ) (more : List (List ℕ)) → first_unread files (folder ∷ []) ≡ None → first_unread files (folder ∷ more) ≡ first_unread files more
first_more files folder more none = by (packed_reads files folder) refl none
  where
    by : (b : Bool) → packed_reads files folder ≡ b → (if b then None else Some folder) ≡ None → (if packed_reads files folder then first_unread files more else Some folder) ≡ first_unread files more
    by true at none = ap (λ (b : Bool). if b then first_unread files more else Some folder) at
    by false at none = absurd cc

-- and where they do not
first_stays : (files : Files) (folder at : List ℕ) (more : List (List ℕ)) → first_unread files (folder ∷ []) ≡ Some at → first_unread files (folder ∷ more) ≡ Some at
first_stays files folder at more some = by (packed_reads files folder) refl some
  where
    by : (b : Bool) → packed_reads files folder ≡ b → (if b then None else Some folder) ≡ Some at → (if packed_reads files folder then first_unread files more else Some folder) ≡ Some at
    by true is some = absurd cc
    by false is some = ap (λ (b : Bool). if b then first_unread files more else Some folder) is ∙ some

pub stopped_first : (files : Files) (folder : List ℕ) (more : List (List ℕ)) (s : Stop) → LookAnswers (first_unread files (folder ∷ [])) (Err s) → LookAnswers (first_unread files (folder ∷ more)) (Err s)
stopped_first files folder more stop.Memory is = tt
stopped_first files folder more stop.Disk is = tt
stopped_first files folder more (stop.Refused r) (at, first, told) = (at, first_stays files folder at more first, told)

module _ (command : PeerCommand) (pair : FolderPair) (files : Files) (own : first_unread files (pair.own ∷ []) ≡ None) where
  looks : List (List ℕ)
  looks = pair_looks command pair files

  -- the own folder was looked at, and then the peer
  pub peer_looked : looks_at_peer command pair files ≡ true → (r : Result Unit Stop) → LookAnswers (first_unread files (pair.peer ∷ [])) r → LookAnswers (first_unread files (pair_looks command pair files)) r
  peer_looked looked r is =
      subst (λ (first : Option (List ℕ)). LookAnswers first r)
      (sym (first_more files pair.own (if looks_at_peer command pair files then pair.peer ∷ [] else []) own ∙ ap (λ (b : Bool). first_unread files (if b then pair.peer ∷ [] else [])) looked)) is

  -- or not
  pub own_looked : looks_at_peer command pair files ≡ false → first_unread files (pair_looks command pair files) ≡ None
  own_looked unlooked = first_more files pair.own (if looks_at_peer command pair files then pair.peer ∷ [] else []) own ∙ ap (λ (b : Bool). first_unread files (if b then pair.peer ∷ [] else [])) unlooked

  -- what is not read is the peer's
  pub peer_unread : (folder : List ℕ) → first_unread files (pair_looks command pair files) ≡ Some folder → (packed_reads files pair.peer ≡ false) × (folder ≡ pair.peer)
  peer_unread folder unread = by (looks_at_peer command pair files) (packed_reads files pair.peer) refl (sym (first_more files pair.own (if looks_at_peer command pair files then pair.peer ∷ [] else []) own) ∙ unread)
    where
      by : (b c : Bool) → packed_reads files pair.peer ≡ c → first_unread files (if b then pair.peer ∷ [] else []) ≡ Some folder → (packed_reads files pair.peer ≡ false) × (folder ≡ pair.peer)
      by false c at e = absurd (cc e)
      by true true at e = absurd (cc (sym (ap (λ (c : Bool). if c then None else Some pair.peer) at) ∙ e))
      by true false at e = (at, let same : Some pair.peer ≡ Some folder = sym (ap (λ (c : Bool). if c then None else Some pair.peer) at) ∙ e in cc same)

-- ---- what is guarded by a look

module _ {A : Type 0} (first : Option (List ℕ)) (Answers : Result A Stop → Type 0) (old new : History) where
  -- what is done was begun
  pub begun : (said : A) → Guarded first Answers old new (Ok said) → Answers (Ok said)
  begun said (inl none) = absurd none.0
  begun said (inr is) = is.1

  -- where the packed refs read, what is refused is refused by the command
  pub refused_by : first ≡ None → (r : Refusal) → Guarded first Answers old new (Err (stop.Refused r)) → Answers (Err (stop.Refused r))
  refused_by reads r (inl ((folder, unread, told), same)) = absurd (cc (sym reads ∙ unread))
  refused_by reads r (inr is) = is.1

  -- what was not begun wrote nothing
  pub guarded_wrote : (Rule : History → List Change → Change → Type 0) (result : Result A Stop) → (Answers result → WroteBy Rule old new) → Guarded first Answers old new result → WroteBy Rule old new
  guarded_wrote Rule result wrote (inl none) = WroteBy-none Rule old new none.1
  guarded_wrote Rule result wrote (inr is) = wrote is.1

stopped : (first : Option (List ℕ)) → first ≡ None → (result : Result Answer Stop) (answer : Status) → NotBegun first result → answer ≡ status_of result → IsFault answer
stopped first reads (Ok said) answer none is = absurd none
stopped first reads (Err stop.Memory) answer none is = inl is
stopped first reads (Err stop.Disk) answer none is = inr (inl is)
stopped first reads (Err (stop.Refused r)) answer none is = absurd (cc (sym reads ∙ none.1))

-- where the packed refs read, only a fault or want of memory keeps a command from beginning
pub not_begun : (first : Option (List ℕ)) → first ≡ None → (result : Result Answer Stop) (answer : Status) → NotBegun first result → IsTold (status_of result) answer → IsFault answer
not_begun first reads result answer none (inr (inl fault)) = inr (inr fault)
not_begun first reads result answer none (inr (inr memory)) = inl memory
not_begun first reads result answer none (inl is) = stopped first reads result answer none is

-- ---- what is read

pub reads_less : (P Q R S : Type 0) (before after : ℕ) → (Q → P) → (R → S) → ReadsGuarded P R before after → ReadsGuarded Q S before after
reads_less P Q R S before after less more (inl none) = inl ((λ q. none.0 (less q)), none.1)
reads_less P Q R S before after less more (inr reads) = inr (more reads)
