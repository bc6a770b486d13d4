-- Clean folders stay clean in a run of a command with a peer, which makes no operation.
use Rattle.std.proofs.Common.{◌≡◌, inl, inr, ◌⊎◌, ◌∙◌, sym, ℕ, List, []}
use Rattle.gb_store.specs.Files.{History}
use Rattle.bug_run.specs.Runs.{IsRun}
use Rattle.words.specs.Words.{asked_of}
use Rattle.words.specs.declared.edit.Edit.TheVariants as edit
use Rattle.words.specs.declared.words.Asked.TheVariants as asked
use Rattle.words.specs.declared.words.Command.TheVariants.{Edit}
use Rattle.words.specs.declared.words.PeerRequest.{PeerRequest}
use Rattle.exchange_runs.specs.Takes.{TakesAmong, one_more}
use Rattle.clean_folders.specs.Seeds.{Hashes, IsHashed, MakesOne}
use Rattle.identity_runs.specs.Homes.{AreEditedAtHome, AreMadeOnce}
use Rattle.clean_folders.specs.Clean.{AreClean}

makes_none : (folders : List (List ℕ)) (old new : History) (run : IsRun folders old new) (request : PeerRequest) → asked_of run.words ≡ asked.Exchange request → MakesOne folders old new run → ⊥
makes_none folders old new run request asks one =
    let made = one.made in
    let clash : asked.Exchange request ≡ asked.Request (record { folder = made.folder; command = Edit made.edits }) = sym asks ∙ made.asked_for in cc clash

pub stays_clean : (folders : List (List ℕ)) (old new : History) → AreClean folders old → (run : IsRun folders old new) (request : PeerRequest) → asked_of run.words ≡ asked.Exchange request
    → TakesAmong folders (asked_of run.words) → AreClean folders new
stays_clean folders old new clean run request asks takes = record {
  apart = clean.apart;
  runs = one_more old new clean.runs run takes;
  seeds = (clean.seeds, λ one same. makes_none folders old new run request asks one);
  no_collision = λ one two first second. clean.no_collision one two (before one first) (before two second);
}
  where
    before : (text : List ℕ) → IsHashed folders [] old clean.runs text ⊎ Hashes folders old new run text → IsHashed folders [] old clean.runs text
    before text (inl early) = early
    before text (inr late) = absurd (makes_none folders old new run request asks late.one)

-- it makes and edits no identity
pub stays_made : (folders : List (List ℕ)) (old new : History) (clean : AreClean folders old) (run : IsRun folders old new) (request : PeerRequest) (asks : asked_of run.words ≡ asked.Exchange request)
    (takes : TakesAmong folders (asked_of run.words)) → AreMadeOnce folders [] old clean.runs → AreMadeOnce folders [] new (stays_clean folders old new clean run request asks takes).runs
unfolding stays_clean
stays_made folders old new clean run request asks takes made =
    (made, λ id place home makes before. let clash : asked.Exchange request ≡ asked.Request (record { folder = place; command = Edit (edit.UserNew makes.name makes.email) }) = sym asks ∙ makes.asked_for in cc clash)

pub stays_edited : (folders : List (List ℕ)) (old new : History) (clean : AreClean folders old) (run : IsRun folders old new) (request : PeerRequest) (asks : asked_of run.words ≡ asked.Exchange request)
    (takes : TakesAmong folders (asked_of run.words)) → AreEditedAtHome folders [] old clean.runs → AreEditedAtHome folders [] new (stays_clean folders old new clean run request asks takes).runs
unfolding stays_clean
stays_edited folders old new clean run request asks takes edited =
    (edited, λ id place edits. let clash : asked.Exchange request ≡ asked.Request (record { folder = place; command = Edit (edit.UserEdit edits.name edits.email) }) = sym asks ∙ edits.asked_for in cc clash)
