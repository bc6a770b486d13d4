-- Folders of a world that have the same have one digest.
use Rattle.std.proofs.Common.{◌≡◌, ◌≢◌, ◌<◌, ◌^◌, inl, inr, ℕ, suc, All, IsTrue, List, [], ◌∷◌, map, Contains, length, get_or, codes, Option, Some, None, Ok, refl, sym, ◌∙◌, ap, subst, arith}
use Rattle.std.specs.Prelude.{flat_map}
use Rattle.std.specs.List.{AllZip}
use Rattle.std.proofs.lemmas.Cmp.{nat_list_cmp_total}
use Rattle.sha2.specs.Sha256.{sha256}
use Rattle.hex.specs.Hex.{encode_lower, hex_digit_value}
use Rattle.hex.proofs.HexLemmas.{IsDigits-lower_digits}
use Rattle.combined_id.proofs.CombinedLemmas.{IsDigit, digits-encode_lower}
use Rattle.gb_text.specs.Digits.{IsId}
use Rattle.gb_text.specs.Folder.{folder_of}
use Rattle.gb_text.specs.declared.id.Id.{Id}
use Rattle.gb_text.proofs.SortedLemmas.{same_elements}
use Rattle.gb_store.specs.Files.{Files, History, files_of}
use Rattle.object_store.specs.Held.{objects_in}
use Rattle.ref_store.specs.Refs.{Ref, Absent, Bad, Head}
use Rattle.bug_run.specs.Headline.{HeadlineHolds, OwnIsSound, ShowEnds}
use Rattle.bug_run.specs.Run.{RunAnswers}
use Rattle.bug_run.specs.declared.status.Status.{Status}
use Rattle.bug_run.specs.declared.status.Status.TheVariants as status
use Rattle.bug_run.proofs.HeadlineLemmas.{same_printed}
use Rattle.repo_state.specs.Bugs.{FindsBug}
use Rattle.repo_state.specs.Finds.{FindsNoId}
use Rattle.repo_state.specs.Sides.{AreIds, has_ref, head_at, is_there}
use Rattle.repo_state.specs.Sound.{IsSound, IsSoundBug}
use Rattle.repo_state.specs.Sound as parts
use Rattle.repo_state.specs.declared.side.HeadEntry.{HeadEntry}
use Rattle.repo_state.specs.declared.side.Side.TheVariants as side
use Rattle.repo_state.specs.declared.stop.Missed.{Missed}
use Rattle.repo_state.specs.declared.stop.Missed.TheVariants as missed
use Rattle.repo_state.proofs.FoundLemmas.{finds_not_both, finds_not_many, finds_whole}
use Rattle.repo_state.proofs.HeadIdLemmas.{ids-same}
use Rattle.repo_state.proofs.ListingLemmas.{Contains-from_map, Contains-map}
use Rattle.words.specs.Arguments.{IsPlain}
use Rattle.words.specs.Words.{asked_in, asked_of}
use Rattle.words.specs.declared.words.Asked.{Asked}
use Rattle.words.specs.declared.words.Asked.TheVariants as asked
use Rattle.words.specs.declared.words.Command.TheVariants.{Show}
use Rattle.words.proofs.ArgumentLemmas.{all_plain}
use Rattle.words.proofs.AskLemmas.{asked_with}
use Rattle.full_exchanges.specs.Having.{Has, HaveTheSame, NameAuthorsAlike, TheBug}
use Rattle.full_exchanges.proofs.ShownLemmas.{same_commits}
use Rattle.world.specs.Digests.{IsDigest}
use Rattle.world.specs.Plays.{HasBugs, call_with}
use Rattle.world.specs.Shown.{Shows, show_words}
use Rattle.world_events.specs.Words.{folder_word}
use Rattle.world_texts.specs.declared.tally.Digest.{Digest}
use Rattle.exchange_runs.proofs.FolderLemmas.{word_is_folder}

-- ---- the bugs

-- a bug whose ref stands in a sound folder has a head
bug_there : (files : Files) (folder : List ℕ) (id : Id) → IsSound folder files → IsId id → IsTrue (has_ref files folder side.Bugs id) → Has files folder side.Bugs id TheBug
bug_there files folder id sound is stands = by (head_at files folder side.Bugs id) refl
  where
    by : (ref : Ref) → head_at files folder side.Bugs id ≡ ref → Has files folder side.Bugs id TheBug
    by Absent at = absurd (cc (sym stands ∙ ap is_there at))
    by (Head head) at = record { head = head; is_head = at; is = tt }
    by Bad at = absurd (subst (IsSoundBug (objects_in files folder) id) at (sound parts.Bugs id is))

-- so folders that have the same have refs of the same ids
module _ (files : Files) (folder place : List ℕ) (sound : IsSound folder files) (same : HaveTheSame files folder files place) where
  stands_over : (id : Id) → IsId id → IsTrue (has_ref files folder side.Bugs id) → IsTrue (has_ref files place side.Bugs id)
  stands_over id is stands = ap is_there ((same id TheBug is).0 (bug_there files folder id sound is stands)).is_head

-- ids in order, of the same refs, are the same
one_ids : (files : Files) (folder place : List ℕ) (ones twos : List Id) → IsSound folder files → IsSound place files → HaveTheSame files folder files place
    → AreIds files folder side.Bugs ones → AreIds files place side.Bugs twos → ones ≡ twos
one_ids files folder place ones twos sound also same one two =
    ids-same ones twos (same_elements nat_list_cmp_total (map bytes ones) (map bytes twos) one.rising two.rising there back)
  where
    bytes : Id → List ℕ
    bytes id = id.bytes

    there : (text : List ℕ) → Contains (map bytes ones) text → Contains (map bytes twos) text
    there text c =
        let from = Contains-from_map bytes ones text c in
        let member = (one.members from.0).0 from.1 in
        subst (Contains (map bytes twos)) from.2
        (Contains-map bytes twos from.0 ((two.members from.0).1 (member.0, stands_over files folder place sound same from.0 member.0 member.1)))

    back : (text : List ℕ) → Contains (map bytes twos) text → Contains (map bytes ones) text
    back text c =
        let from = Contains-from_map bytes twos text c in
        let member = (two.members from.0).0 from.1 in
        let turned : HaveTheSame files place files folder = λ id piece is. ((same id piece is).1, (same id piece is).0) in
        subst (Contains (map bytes ones)) from.2
        (Contains-map bytes ones from.0 ((one.members from.0).1 (member.0, stands_over files place folder also turned from.0 member.0 member.1)))

-- ---- what is shown

-- the digits of an id are an argument that is taken as it is
not_dash : (digit : ℕ) → IsDigit digit → digit ≢ 45
not_dash digit is same =
    let value : hex_digit_value digit ≡ Some is.value = ap hex_digit_value is.is ∙ IsDigits-lower_digits is.value is.below in
    let none : hex_digit_value digit ≡ None = ap hex_digit_value same in
    cc (value, none)

digits_plain : (digits : List ℕ) → All IsDigit digits → IsPlain digits
digits_plain [] all = inr (λ more same. cc same)
digits_plain (first ∷ more) all =
    inr (λ rest same. not_dash first (all 0 first (omega arith)) (ap (λ (text : List ℕ). get_or text 0 0) same))

id_plain : (id : Id) → IsId id → IsPlain (encode_lower id.bytes)
id_plain id is = digits_plain (encode_lower id.bytes) (digits-encode_lower id.bytes is.bytes)

show_asks : (folder : ℕ) (bug : Id) → IsId bug → folder_of (folder_word folder) ≡ Some (folder_word folder)
    → asked_of (show_words folder bug) ≡ asked.Request (record { folder = folder_word folder; command = Show (encode_lower bug.bytes) })
show_asks folder bug is named =
    asked_with (folder_word folder) (codes "show") (encode_lower bug.bytes ∷ []) (encode_lower bug.bytes ∷ []) (all_plain (encode_lower bug.bytes ∷ []) (id_plain bug is, tt))
    ∙ ap (λ (o : Option (List ℕ)). asked_in o (Ok (Show (encode_lower bug.bytes)))) named

-- a folder that shows a bug is done
module _ (history : History) (folder : ℕ) (bug : Id) (text : List ℕ) (is : IsId bug) (sound : IsSound (folder_word folder) (files_of history))
    (named : folder_of (folder_word folder) ≡ Some (folder_word folder)) (stands : IsTrue (has_ref (files_of history) (folder_word folder) side.Bugs bug))
    (shows : Shows history folder bug text) where
  asks : asked_of (show_words folder bug) ≡ asked.Request (record { folder = folder_word folder; command = Show (encode_lower bug.bytes) })
  asks = show_asks folder bug is named

  never_missed : (why : Missed) → FindsNoId (files_of history) (folder_word folder) side.Bugs (encode_lower bug.bytes) why → ⊥
  never_missed missed.NotFound none = finds_not_both bug (finds_whole bug is stands) none
  never_missed (missed.Ambiguous first second) many = finds_not_many bug first second (finds_whole bug is stands) many
  never_missed (missed.Damaged path) h = h

  is_done : shows.answer ≡ status.Done
  is_done = elim ends [
    | inl done ↦ done.0
    | inr other ↦ elim other [ inl none ↦ absurd (never_missed none.why none.finds) | inr fault ↦ absurd (shows.runs.reached fault) ]
  ]
    where
      own : OwnIsSound (asked_of (show_words folder bug)) (files_of history)
      own = subst (λ (a : Asked). OwnIsSound a (files_of history)) (sym asks) (λ place e. (let same : folder_word folder ≡ place = cc e in subst (λ (f : List ℕ). IsSound f (files_of history)) same sound))

      ends : ShowEnds (folder_word folder) (encode_lower bug.bytes) history history [] text shows.answer
      ends = subst (λ (a : Asked). HeadlineHolds a shows.moment history history [] text shows.answer) asks (shows.runs.headline own)

  done_answers : RunAnswers (call_with (show_words folder bug) shows.moment) history history [] text status.Done
  done_answers = subst (λ (answer : Status). RunAnswers (call_with (show_words folder bug) shows.moment) history history [] text answer) is_done shows.runs.answers

-- the bug that its digits find
found_bug : (files : Files) (folder : List ℕ) (id : Id) → IsId id → (has : Has files folder side.Bugs id TheBug) → FindsBug files folder (encode_lower id.bytes) (record { id = id; name = has.head })
found_bug files folder id is has = record { found = finds_whole id is (ap is_there has.is_head); head = has.is_head }

module _ (history : History) (one two : ℕ) (sound : IsSound (folder_word one) (files_of history)) (also : IsSound (folder_word two) (files_of history))
    (named : folder_of (folder_word one) ≡ Some (folder_word one)) (called : folder_of (folder_word two) ≡ Some (folder_word two))
    (same : HaveTheSame (files_of history) (folder_word one) (files_of history) (folder_word two))
    (alike : NameAuthorsAlike (files_of history) (folder_word one) (files_of history) (folder_word two)) where
  -- both show the same of a bug
  same_text : (bug : Id) (here there : List ℕ) → IsId bug → IsTrue (has_ref (files_of history) (folder_word one) side.Bugs bug) → Shows history one bug here → Shows history two bug there → here ≡ there
  same_text bug here there is stands first second =
      let mine = bug_there (files_of history) (folder_word one) bug sound is stands in
      let its = (same bug TheBug is).0 mine in
      let top : HeadEntry = record { id = bug; name = mine.head } in
      let other : HeadEntry = record { id = bug; name = its.head } in
      let finds = found_bug (files_of history) (folder_word one) bug is mine in
      let found = found_bug (files_of history) (folder_word two) bug is its in
      let both = stands_over (files_of history) (folder_word one) (folder_word two) sound same bug is stands in
      let printed = same_printed (call_with (show_words one bug) first.moment) (call_with (show_words two bug) second.moment) history history history history [] here [] there
      (folder_word one) (folder_word two) (encode_lower bug.bytes) (encode_lower bug.bytes) top other refl refl refl refl
      (asks history one bug here is sound named stands first) (asks history two bug there is also called both second) finds found
      (same_commits (files_of history) (files_of history) (folder_word one) (folder_word two) (encode_lower bug.bytes) same top other finds found)
      (alike top is mine.is_head)
      (done_answers history one bug here is sound named stands first) (done_answers history two bug there is also called both second) in
      printed.1 ∙ sym printed.2

  same_texts : (bugs : List Id) (heres theres : List (List ℕ)) → ((bug : Id) → Contains bugs bug → IsId bug × IsTrue (has_ref (files_of history) (folder_word one) side.Bugs bug))
      → AllZip (Shows history one) bugs heres → AllZip (Shows history two) bugs theres → heres ≡ theres
  same_texts [] [] [] each first second = refl
  same_texts [] [] (there ∷ theres) each first second = absurd second
  same_texts [] (here ∷ heres) theres each first second = absurd first
  same_texts (bug ∷ bugs) [] theres each first second = absurd first
  same_texts (bug ∷ bugs) (here ∷ heres) [] each first second = absurd second
  same_texts (bug ∷ bugs) (here ∷ heres) (there ∷ theres) each first second =
      let at = each bug (0, omega arith, refl) in
      let text : here ≡ there = same_text bug here there at.0 at.1 first.0 second.0 in
      let texts : heres ≡ theres = same_texts bugs heres theres (λ b c. each b (suc c.0, omega (arith, c.1), c.2)) first.1 second.1 in
      λ i. text i ∷ texts i

-- ---- digests

module _ (history : History) (one two : ℕ) (small : one < 2 ^ 64) (few : two < 2 ^ 64) (sound : IsSound (folder_word one) (files_of history)) (also : IsSound (folder_word two) (files_of history))
    (same : HaveTheSame (files_of history) (folder_word one) (files_of history) (folder_word two)) (first second : Digest) (is_first : IsDigest history one first) (is_second : IsDigest history two second) where
  named : (n : ℕ) (bugs : List Id) → n < 2 ^ 64 → (has : HasBugs (files_of history) n bugs) → has.text ≡ folder_word n
  named n bugs within has = word_is_folder n has.text within has.named

  ids_of : (n : ℕ) (bugs : List Id) → n < 2 ^ 64 → HasBugs (files_of history) n bugs → AreIds (files_of history) (folder_word n) side.Bugs bugs
  ids_of n bugs within has = subst (λ (f : List ℕ). AreIds (files_of history) f side.Bugs bugs) (named n bugs within has) has.are

  same_bugs : is_first.bugs ≡ is_second.bugs
  same_bugs =
      one_ids (files_of history) (folder_word one) (folder_word two) is_first.bugs is_second.bugs sound also same (ids_of one is_first.bugs small is_first.has) (ids_of two is_second.bugs few is_second.has)

  pub same_count : first.bugs ≡ second.bugs
  same_count = is_first.count ∙ ap length same_bugs ∙ sym is_second.count

  pub same_digest : NameAuthorsAlike (files_of history) (folder_word one) (files_of history) (folder_word two) → first ≡ second
  same_digest alike =
      let mine = is_first.has.named ∙ ap Some (named one is_first.bugs small is_first.has) in
      let its = is_second.has.named ∙ ap Some (named two is_second.bugs few is_second.has) in
      let shown = subst (λ (bugs : List Id). AllZip (Shows history two) bugs is_second.hash.texts) (sym same_bugs) is_second.hash.shown in
      let texts = same_texts history one two sound also mine its same alike is_first.bugs is_first.hash.texts is_second.hash.texts
      (λ bug c. ((ids_of one is_first.bugs small is_first.has).members bug).0 c) is_first.hash.shown shown in
      let bytes : first.hash.bytes ≡ second.hash.bytes = is_first.hash.is ∙ ap (λ (all : List (List ℕ)). sha256 (flat_map (λ (text : List ℕ). text) all)) texts ∙ sym is_second.hash.is in
      λ i. record { bugs = same_count i; hash = record { bytes = bytes i } }
