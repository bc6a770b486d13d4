-- An exchange is refused as a whole where packed refs do not read, and what follows from a look at them and at the user.
use Rattle.std.proofs.Common.{◌≡◌, ◌⊎◌, inl, inr, ℕ, Bool, true, false, List, [], ◌∷◌, Option, Some, None, Result, Ok, Err, if◌then◌else◌, refl, sym, ◌∙◌, ap, subst}
use Rattle.std.specs.Prelude.{is_some}
use Rattle.gb_text.specs.Digits.{id_of}
use Rattle.gb_text.specs.Folder.{joined}
use Rattle.gb_text.specs.LineEnd.{line_of}
use Rattle.gb_text.specs.declared.id.Id.{Id}
use Rattle.gb_store.specs.Files.{Files, History, files_of}
use Rattle.ref_store.specs.Refs.{packed_place, packed_reads}
use Rattle.repo_state.specs.Sides.{has_ref}
use Rattle.repo_state.specs.Users.{BadUser, NoUser, User, local_user, user_at, user_of, user_place}
use Rattle.repo_state.specs.declared.side.Side.TheVariants as side
use Rattle.repo_steps.specs.declared.refusal.Refusal.{Refusal}
use Rattle.repo_steps.specs.declared.refusal.Refusal.TheVariants as refusal
use Rattle.repo_steps.specs.declared.refusal.Stop.{Stop}
use Rattle.repo_steps.specs.declared.refusal.Stop.TheVariants as stop
use Rattle.bug_run.specs.Answer.{Answer}
use Rattle.bug_run.specs.Exchanges.{ExchangeAnswers}
use Rattle.bug_run.specs.Looks.{Guarded, first_unread, looks_at_peer, pair_looks}
use Rattle.bug_run.specs.Printed.{IsTold}
use Rattle.bug_run.specs.Run.{status_of}
use Rattle.bug_run.specs.declared.status.Refused.TheVariants.{ByCommand}
use Rattle.bug_run.specs.declared.status.Status.{Status}
use Rattle.bug_run.specs.declared.status.Status.TheVariants as status
use Rattle.words.specs.declared.pair.FolderPair.{FolderPair}
use Rattle.words.specs.declared.words.PeerCommand.{PeerCommand}
use Rattle.words.specs.declared.words.PeerCommand.TheVariants.{Fetch, Pull, Push}
use Rattle.refusal_causes.specs.Causes.{IsRefusedOrFault, IsRefusedSo, IsUnread}
use Rattle.refusal_causes.specs.ExchangeCauses.{HasUser, PackedCause, PairCause, UserCause}
use Rattle.refusal_causes.proofs.RequestLemmas.{refused_told}

-- ---- packed refs that do not read

module _ (first : Option (List ℕ)) (Answers : Result Answer Stop → Type 0) (old new : History) (folder : List ℕ) (unread : first ≡ Some folder) where
  not_done : (said : Answer) → Guarded first Answers old new (Ok said) → ⊥
  not_done said (inl none) = none.0
  not_done said (inr is) = cc (sym unread ∙ is.0)

  is_that : (s : Refusal) → Guarded first Answers old new (Err (stop.Refused s)) → refusal.Damaged (joined folder packed_place) ≡ s
  is_that s (inl ((at, is, told), same)) =
      let both : Some folder ≡ Some at = sym unread ∙ is in
      let place : folder ≡ at = cc both in
      ap (λ (f : List ℕ). refusal.Damaged (joined f packed_place)) place ∙ sym told
  is_that s (inr is) = absurd (cc (sym unread ∙ is.0))

  pub unread_told : (r : Refusal) → r ≡ refusal.Damaged (joined folder packed_place) → (result : Result Answer Stop) (answer : Status) → Guarded first Answers old new result → IsTold (status_of result) answer
      → IsRefusedSo (λ s. r ≡ s) answer
  unread_told r is result answer guarded told =
      refused_told (λ s. r ≡ s) result answer (λ said e. not_done said (subst (Guarded first Answers old new) e guarded))
      (λ s e. is ∙ is_that s (subst (Guarded first Answers old new) e guarded)) told

-- ---- the looks of a command with a peer

module _ (files : Files) (own peer : List ℕ) where
  abbrev looks : Bool → List (List ℕ)
  looks b = own ∷ (if b then peer ∷ [] else [])

  -- which packed refs do not read
  abbrev Unread : Bool → List ℕ → Type 0
  Unread b at = ((packed_reads files own ≡ false) × (at ≡ own)) ⊎ ((b ≡ true) × (packed_reads files own ≡ true) × (packed_reads files peer ≡ false) × (at ≡ peer))

  pub looked_pair : (b : Bool) (at : List ℕ) → first_unread files (looks b) ≡ Some at → Unread b at
  looked_pair true at e = by (packed_reads files own) (packed_reads files peer) refl refl e
    where
      by : (c d : Bool) → packed_reads files own ≡ c → packed_reads files peer ≡ d → (if c then (if d then None else Some peer) else Some own) ≡ Some at → Unread true at
      by true true here there e = absurd (cc e)
      by true false here there e = inr (refl, here, there, let same : peer ≡ at = cc e in sym same)
      by false d here there e = inl (here, let same : own ≡ at = cc e in sym same)
  looked_pair false at e = by (packed_reads files own) refl e
    where
      by : (c : Bool) → packed_reads files own ≡ c → (if c then None else Some own) ≡ Some at → Unread false at
      by true here e = absurd (cc e)
      by false here e = inl (here, let same : own ≡ at = cc e in sym same)

  pub looked_own : (b : Bool) → first_unread files (looks b) ≡ None → packed_reads files own ≡ true
  looked_own b e = by (packed_reads files own) refl e
    where
      by : (c : Bool) → packed_reads files own ≡ c → (if c then first_unread files (if b then peer ∷ [] else []) else Some own) ≡ None → packed_reads files own ≡ true
      by true here e = here
      by false here e = absurd (cc e)

  -- where both are looked at both read
  pub looked_both : (b : Bool) → b ≡ true → first_unread files (looks b) ≡ None → (packed_reads files own ≡ true) × (packed_reads files peer ≡ true)
  looked_both b is e = (looked_own b e, by (packed_reads files peer) refl there)
    where
      there : first_unread files (peer ∷ []) ≡ None
      there =
          sym (ap (λ (c : Bool). if c then first_unread files (peer ∷ []) else Some own) (looked_own b e))
          ∙ sym (ap (λ (c : Bool). first_unread files (looks c)) is) ∙ e

      by : (c : Bool) → packed_reads files peer ≡ c → (if c then None else Some peer) ≡ None → packed_reads files peer ≡ true
      by true here e = here
      by false here e = absurd (cc e)

  -- and where they read nothing is found
  pub none_unread : (b : Bool) → packed_reads files own ≡ true → packed_reads files peer ≡ true → first_unread files (looks b) ≡ None
  none_unread true here there =
      ap (λ (c : Bool). if c then first_unread files (peer ∷ []) else Some own) here ∙ ap (λ (c : Bool). if c then None else Some peer) there
  none_unread false here there = ap (λ (c : Bool). if c then None else Some own) here

  own_first : (b : Bool) → packed_reads files own ≡ false → first_unread files (looks b) ≡ Some own
  own_first b unread = ap (λ (c : Bool). if c then first_unread files (if b then peer ∷ [] else []) else Some own) unread

  peer_first : (b : Bool) → b ≡ true → packed_reads files own ≡ true → packed_reads files peer ≡ false → first_unread files (looks b) ≡ Some peer
  peer_first b is reads unread =
      ap (λ (c : Bool). if c then first_unread files (if b then peer ∷ [] else []) else Some own) reads
      ∙ ap (λ (c : Bool). first_unread files (if c then peer ∷ [] else [])) is
      ∙ ap (λ (c : Bool). if c then None else Some peer) unread

-- ---- the user

module _ (files : Files) (folder : List ℕ) where
  local_named : (id : Option Id) → local_user files folder id ≡ NoUser → ⊥
  local_named None e = cc e
  local_named (Some id) e = by (has_ref files folder side.Identities id) e
    where
      by : (b : Bool) → (if b then User id else BadUser) ≡ NoUser → ⊥
      by true e = cc e
      by false e = cc e

  -- where there is no user there is no file
  pub no_file : user_at files folder ≡ NoUser → is_some (files (joined folder user_place)) ≡ false
  no_file none = by (files (joined folder user_place)) none
    where
      by : (text : Option (List ℕ)) → user_of files folder text ≡ NoUser → is_some text ≡ false
      by None e = refl
      by (Some text) e = absurd (local_named (id_of (line_of text)) e)

  pub some_file : (user_at files folder ≡ NoUser → ⊥) → is_some (files (joined folder user_place)) ≡ true
  some_file some = by (files (joined folder user_place)) some
    where
      by : (text : Option (List ℕ)) → (user_of files folder text ≡ NoUser → ⊥) → is_some text ≡ true
      by None e = absurd (e refl)
      by (Some text) e = refl

  -- where there is a user there is no cause in it
  pub user_clears : (r : Refusal) → HasUser folder files → UserCause folder files r → ⊥
  user_clears r user (inl none) = cc (sym user.1 ∙ none.0)
  user_clears r user (inr bad) = cc (sym user.1 ∙ bad.0)

  -- and else there is one
  pub one_user : (r s : Refusal) → UserCause folder files r → UserCause folder files s → r ≡ s
  one_user r s (inl one) (inl two) = one.1 ∙ sym two.1
  one_user r s (inl one) (inr two) = absurd (cc (sym one.0 ∙ two.0))
  one_user r s (inr one) (inl two) = absurd (cc (sym one.0 ∙ two.0))
  one_user r s (inr one) (inr two) = one.1 ∙ sym two.1

-- ---- what is told

-- a refusal that is one is that one
pub one_told : (r : Refusal) (answer : Status) → IsRefusedSo (λ s. r ≡ s) answer → IsRefusedOrFault r answer
one_told r answer (inl (s, is, same)) = inl (is ∙ ap (λ (x : Refusal). status.Refused (ByCommand x)) (sym same))
one_told r answer (inr fault) = inr fault

module _ (command : PeerCommand) (pair : FolderPair) (now : ℕ) (old new : History) where
  abbrev first : Option (List ℕ)
  first = first_unread (files_of old) (pair_looks command pair (files_of old))

  abbrev PeerGuards : Result Answer Stop → Type 0
  PeerGuards = Guarded first (ExchangeAnswers command pair now old new) old new

  pair_told : looks_at_peer command pair (files_of old) ≡ true → (r : Refusal) → PairCause pair (files_of old) r → (result : Result Answer Stop) (answer : Status) → PeerGuards result → IsTold (status_of result) answer
      → IsRefusedSo (λ s. r ≡ s) answer
  pair_told at r (inl unread) result answer guarded told =
      unread_told first (ExchangeAnswers command pair now old new) old new pair.own (own_first (files_of old) pair.own pair.peer (looks_at_peer command pair (files_of old)) unread.0) r unread.1 result answer guarded told
  pair_told at r (inr (reads, unread)) result answer guarded told =
      unread_told first (ExchangeAnswers command pair now old new) old new pair.peer (peer_first (files_of old) pair.own pair.peer (looks_at_peer command pair (files_of old)) at reads unread.0) r unread.1 result answer guarded told

  own_told : (r : Refusal) → IsUnread (files_of old) pair.own r → (result : Result Answer Stop) (answer : Status) → PeerGuards result → IsTold (status_of result) answer → IsRefusedSo (λ s. r ≡ s) answer
  own_told r unread result answer guarded told =
      unread_told first (ExchangeAnswers command pair now old new) old new pair.own (own_first (files_of old) pair.own pair.peer (looks_at_peer command pair (files_of old)) unread.0) r unread.1 result answer guarded told

pub packed_told : (command : PeerCommand) (pair : FolderPair) (now : ℕ) (old new : History) (r : Refusal) → PackedCause command pair (files_of old) r → (result : Result Answer Stop) (answer : Status)
    → PeerGuards command pair now old new result → IsTold (status_of result) answer → IsRefusedSo (λ s. r ≡ s) answer
packed_told (Fetch remote) pair now old new r cause result answer guarded told = pair_told (Fetch remote) pair now old new refl r cause result answer guarded told
packed_told Push pair now old new r cause result answer guarded told = pair_told Push pair now old new refl r cause result answer guarded told
packed_told (Pull remote) pair now old new r (inl unread) result answer guarded told = own_told (Pull remote) pair now old new r unread result answer guarded told
packed_told (Pull remote) pair now old new r (inr (reads, (some, unread))) result answer guarded told =
    pair_told (Pull remote) pair now old new (some_file (files_of old) pair.own some) r (inr (reads, unread)) result answer guarded told
