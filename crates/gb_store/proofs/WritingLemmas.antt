-- Where writes in order stop, the first of them were made.
use Rattle.std.proofs.Common.{◌≡◌, ◌<◌, ◌+◌, ℕ, List, [], ◌∷◌, ◌++◌, length, take, drop, get_or, reverse, Err, inl, inr, sym, ◌∙◌, ap}
use Rattle.std.proofs.lemmas.List.{reverse-append, take-append-drop, take_more}
use Rattle.gb_store.specs.Files.{History}
use Rattle.gb_store.specs.Moments.{WroteSome}
use Rattle.gb_store.specs.Writing.{WriteAnswers, WritesAnswers}
use Rattle.gb_store.specs.declared.fault.StoreFault.{StoreFault}
use Rattle.gb_store.specs.declared.fault.StoreFault.TheVariants as fault
use Rattle.gb_store.specs.declared.store.Change.{Change}
use Rattle.gb_store.proofs.MomentLemmas.{WroteSome-back}

-- a front of some writes was made
front_made : (changes : List Change) (i : ℕ) (old new : History) → new ≡ reverse (take i changes) ++ old → WroteSome changes old new
front_made changes i old new made = WroteSome-back changes old new (take i changes) (drop i changes) (sym (take-append-drop i changes)) made

-- and one more
pub one_more : (changes : List Change) (i : ℕ) (change : Change) (old mid new : History) → i < length changes → change ≡ get_or changes i change
    → mid ≡ reverse (take i changes) ++ old → new ≡ change ∷ mid → new ≡ reverse (take (i + 1) changes) ++ old
one_more changes i change old mid new below is before made =
    let all : take (i + 1) changes ≡ take i changes ++ change ∷ [] = take_more changes i change below ∙ ap (λ (c : Change). take i changes ++ c ∷ []) (sym is) in
    made ∙ ap (λ (h : History). change ∷ h) before
    ∙ sym (ap (λ (ws : List Change). ws ++ old) (reverse-append (take i changes) (change ∷ [])))
    ∙ ap (λ (ws : List Change). reverse ws ++ old) (sym all)

-- a list of writes that stops at one made those before it
pub writes_stop : (changes : List Change) (i : ℕ) (change : Change) (old mid new : History) (e : StoreFault) → i < length changes → change ≡ get_or changes i change
    → mid ≡ reverse (take i changes) ++ old → WriteAnswers change mid new (Err e) → WritesAnswers changes old new (Err e)
writes_stop changes i change old mid new fault.Memory below is before same = front_made changes i old new (same ∙ before)
writes_stop changes i change old mid new fault.Failed below is before (inl same) = front_made changes i old new (same ∙ before)
writes_stop changes i change old mid new fault.Failed below is before (inr made) =
    front_made changes (i + 1) old new (one_more changes i change old mid new below is before made)
