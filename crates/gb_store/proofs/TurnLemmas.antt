-- What holds of each step of a call holds of all of them, one after another.
use Rattle.std.proofs.Common.{◌≡◌, List, [], ◌∷◌, ◌++◌, refl, sym, ◌∙◌, subst, ap, append_assoc}
use Rattle.gb_store.specs.declared.store.Change.{Change}
use Rattle.gb_store.specs.Files.{Files, History, files_of}
use Rattle.gb_store.specs.Moments.{AllMoments, AllowsFromEarlier, IsMoment, WroteBy}
use Rattle.gb_store.specs.Turns.{InTurn, StoppedInTurn}
use Rattle.gb_store.proofs.MomentLemmas.{AllMoments-from_WroteBy, AllMoments-then, IsMoment-of_first, IsMoment-of_second, WroteBy-none, WroteBy-then}

-- a history is the last moment of what led to it
IsMoment-last : (old new : History) → IsMoment old new old → IsMoment old new new
IsMoment-last old new grew = record { later = []; done = grew.later; before = grew.after; after = refl }

-- no write has one moment
AllMoments-none : (Good : Files → Type 0) (old new : History) → Good (files_of old) → new ≡ old → AllMoments Good old new
AllMoments-none Good old new good same =
    let Never : History → List Change → Change → Type 0 = λ (h : History) (ws : List Change) (c : Change). ⊥ in
    AllMoments-from_WroteBy Never Good old new (λ earlier change held none. absurd none) good (WroteBy-none Never old new same)

module _ {A : Type 0} (Step : A → History → History → Type 0) where
  -- where each step keeps to a rule of writes, so do all
  pub InTurn-wrote : (Rule : History → List Change → Change → Type 0) → AllowsFromEarlier Rule → ((item : A) (old new : History) → Step item old new → WroteBy Rule old new)
      → (items : List A) (old new : History) → InTurn Step items old new → WroteBy Rule old new
  InTurn-wrote Rule from each [] old new same = WroteBy-none Rule old new same
  InTurn-wrote Rule from each (item ∷ later) old new turns =
      WroteBy-then Rule old turns.0 new from (each item old turns.0 turns.1) (InTurn-wrote Rule from each later turns.0 new turns.2)

  -- where each step keeps a property at each moment of it, so do all
  pub InTurn-keeps : (Good : Files → Type 0) → ((item : A) (old new : History) → Good (files_of old) → Step item old new → AllMoments Good old new)
      → (items : List A) (old new : History) → Good (files_of old) → InTurn Step items old new → AllMoments Good old new
  InTurn-keeps Good each [] old new good same = AllMoments-none Good old new good same
  InTurn-keeps Good each (item ∷ later) old new good turns =
      let first = each item old turns.0 good turns.1 in
      AllMoments-then Good old turns.0 new first
      (InTurn-keeps Good each later turns.0 new (first.each turns.0 (IsMoment-last old turns.0 first.grew)) turns.2)

  module _ (grows : (item : A) (old new : History) → Step item old new → IsMoment old new old) where
    -- the history before the first step is a moment of all
    pub InTurn-grew : (items : List A) (old new : History) → InTurn Step items old new → IsMoment old new old
    InTurn-grew [] old new same = record { later = []; done = []; before = refl; after = same }
    InTurn-grew (item ∷ later) old new turns =
        IsMoment-of_first old turns.0 new old (grows item old turns.0 turns.1) (InTurn-grew later turns.0 new turns.2)

    -- a step among the others goes from one moment of the call to a later one
    pub InTurn-at : (early : List A) (item : A) (late : List A) (old new : History) → InTurn Step (early ++ item ∷ late) old new
        → (mid : History) × (end : History) × Step item mid end × IsMoment old new mid × IsMoment mid new end × InTurn Step early old mid × InTurn Step late end new
    InTurn-at [] item late old new turns =
        let rest = InTurn-grew late turns.0 new turns.2 in
        let first = grows item old turns.0 turns.1 in
        (old, turns.0, turns.1, IsMoment-of_first old turns.0 new old first rest, IsMoment-of_first old turns.0 new turns.0 (IsMoment-last old turns.0 first) rest, refl, turns.2)
    InTurn-at (next ∷ early) item late old new turns =
        let ih = InTurn-at early item late turns.0 new turns.2 in
        (ih.0, ih.1, ih.2, IsMoment-of_second old turns.0 new ih.0 (grows next old turns.0 turns.1) ih.3, ih.4, (turns.0, turns.1, ih.5), ih.6)

  module _ (Stops : A → History → History → Type 0) where
    -- a call that stopped at a step keeps to the rule too
    pub StoppedInTurn-wrote : (Rule : History → List Change → Change → Type 0) → AllowsFromEarlier Rule → ((item : A) (old new : History) → Step item old new → WroteBy Rule old new)
        → ((item : A) (old new : History) → Stops item old new → WroteBy Rule old new)
        → (items : List A) (old new : History) → StoppedInTurn Step Stops items old new → WroteBy Rule old new
    StoppedInTurn-wrote Rule from each last items old new stopped =
        WroteBy-then Rule old stopped.mid new from (InTurn-wrote Rule from each stopped.done old stopped.mid stopped.before) (last stopped.at stopped.mid new stopped.stopped)

    -- and the property
    pub StoppedInTurn-keeps : (Good : Files → Type 0) → ((item : A) (old new : History) → Good (files_of old) → Step item old new → AllMoments Good old new)
        → ((item : A) (old new : History) → Good (files_of old) → Stops item old new → AllMoments Good old new)
        → (items : List A) (old new : History) → Good (files_of old) → StoppedInTurn Step Stops items old new → AllMoments Good old new
    StoppedInTurn-keeps Good each last items old new good stopped =
        let first = InTurn-keeps Good each stopped.done old stopped.mid good stopped.before in
        AllMoments-then Good old stopped.mid new first
        (last stopped.at stopped.mid new (first.each stopped.mid (IsMoment-last old stopped.mid first.grew)) stopped.stopped)
