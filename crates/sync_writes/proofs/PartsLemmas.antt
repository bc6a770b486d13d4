-- The writes of an exchange, by its two parts: the identities have their turns, and then the bugs.
use Rattle.std.proofs.Common.{inl, inr, refl, sym, ◌∙◌, ap, subst, append_assoc, ℕ, Bool, false, List, [], ◌∷◌, ◌++◌, Contains, Result, Ok, Err}
use Rattle.gb_store.specs.Files.{Files, History, files_of}
use Rattle.gb_store.specs.Moments.{EachWrite, Wrote, WroteBy, at_moment}
use Rattle.gb_store.specs.declared.store.Change.{Change}
use Rattle.gb_store.proofs.MomentLemmas.{Wrote-none, Wrote-then, Wrote-wider, WroteBy-none, WroteBy-wider}
use Rattle.repo_state.specs.Listed.{AreRefs}
use Rattle.repo_state.specs.declared.refs.EntityRef.{EntityRef}
use Rattle.repo_state.specs.declared.side.Side.TheVariants as side
use Rattle.repo_state.specs.declared.stop.ReadStop.{ReadStop}
use Rattle.sync_steps.specs.Turns.{Ended, ExchangeAnswers, Turn, Went, are_held}
use Rattle.sync_steps.specs.declared.line.EntityWord.{EntityWord}
use Rattle.sync_steps.specs.declared.line.EntityWord.TheVariants as word
use Rattle.sync_steps.specs.declared.line.Exchange.{Exchange}
use Rattle.sync_steps.specs.declared.line.Line.{Line}
use Rattle.sync_steps.proofs.WriteLemmas.{IsListed, ended_wrote, went_wrote}

-- writes behind others, where what a wider rule needs holds before them and each keeps it
pub wrote_behind : (May : Files → Change → Type 0) (Wide : History → List Change → Change → Type 0) (Good : History → Type 0) (old mid new : History)
    → ((now : History) (change : Change) → Good now → May (files_of now) change → Good (change ∷ now))
    → ((earlier : List Change) (change : Change) → Good (earlier ++ old) → May (files_of (earlier ++ old)) change → Wide old earlier change)
    → WroteBy Wide old mid → Good mid → Wrote May mid new → WroteBy Wide old new
wrote_behind May Wide Good old mid new keeps wide first good then = record {
  writes = then.writes ++ first.writes;
  grew = then.grew ∙ ap (λ (h : History). then.writes ++ h) first.grew ∙ sym (append_assoc then.writes first.writes old);
  each = (by then.writes (subst (λ (h : History). EachWrite (at_moment May) h then.writes) first.grew then.each)).0;
}
  where
    by : (late : List Change) → EachWrite (at_moment May) (first.writes ++ old) late → EachWrite Wide old (late ++ first.writes) × Good ((late ++ first.writes) ++ old)
    by [] each = (first.each, subst Good first.grew good)
    by (change ∷ late) each =
        let ih = by late each.0 in
        let may = subst (λ (h : History). May (files_of h) change) (sym (append_assoc late first.writes old)) each.1 in
        ((ih.0, wide (late ++ first.writes) change ih.1 may), keeps ((late ++ first.writes) ++ old) change ih.1 may)

module _ (As : EntityWord → Bool → Files → Change → Type 0) (Any : Files → Change → Type 0)
    (any : (word : EntityWord) (held : Bool) (files : Files) (change : Change) → As word held files change → Any files change)
    (verb : Exchange) (Step : EntityWord → Bool → Turn → History → History → Type 0) (Stops : EntityWord → Bool → ReadStop → EntityRef → History → History → Type 0) (folder : List ℕ) (entry : History)
    (each : (word : EntityWord) (held : Bool) (turn : Turn) (old new : History) → IsListed entry folder word turn.entity → Wrote Any entry old → Step word held turn old new → Wrote (As word held) old new)
    (last : (word : EntityWord) (held : Bool) (why : ReadStop) (entity : EntityRef) (old new : History) → IsListed entry folder word entity → Wrote Any entry old → Stops word held why entity old new → Wrote (As word held) old new) where
  module _ (word : EntityWord) (held : Bool) (start : History) (before : Wrote Any entry start) (refs : List EntityRef) (listed : (entity : EntityRef) → Contains refs entity → IsListed entry folder word entity) where
    -- the writes of this part are those of the call so far, behind those before it
    so_far : (old : History) → Wrote (As word held) start old → Wrote Any entry old
    so_far old wrote = Wrote-then Any entry start old before (Wrote-wider (As word held) Any start old (any word held) wrote)

    -- a turn of this part
    one_wrote : (turn : Turn) (old new : History) → IsListed entry folder word turn.entity → Wrote (As word held) start old → Step word held turn old new → Wrote (As word held) old new
    one_wrote turn old new is wrote step = each word held turn old new is (so_far old wrote) step

    -- nothing of it yet
    none_wrote : Wrote (As word held) start start
    none_wrote = Wrote-none (As word held) start start refl

    -- each entity of one kind had its turn
    part_went : (turns : List Turn) (new : History) → Went (Step word held) refs turns start new → Wrote (As word held) start new
    part_went turns new went = went_wrote (As word held) (Step word held) start (IsListed entry folder word) one_wrote refs listed turns start new none_wrote went

    -- or the call ended at one
    part_ended : (why : ReadStop) (new : History) → Ended (Step word held) (Stops word held) why refs start new → Wrote (As word held) start new
    part_ended why new ended =
        ended_wrote (As word held) (Step word held) start (IsListed entry folder word) one_wrote (Stops word held) (λ why entity old new is wrote stops. last word held why entity old new is (so_far old wrote) stops)
        why refs listed start new none_wrote ended

  -- a wider rule, which needs something where a bug has its turn
  module _ (Wide : History → List Change → Change → Type 0) (Good : List Turn → History → Type 0)
      (person : (earlier : List Change) (change : Change) → As word.Identity false (files_of (earlier ++ entry)) change → Wide entry earlier change)
      (good : (people : List EntityRef) (turns : List Turn) (mid : History) → AreRefs (files_of entry) folder side.Identities people → Went (Step word.Identity false) people turns entry mid → Wrote (As word.Identity false) entry mid → Good turns mid)
      (keeps : (turns : List Turn) (now : History) (change : Change) → Good turns now → As word.Bug (are_held turns) (files_of now) change → Good turns (change ∷ now))
      (bug : (turns : List Turn) (earlier : List Change) (change : Change) → Good turns (earlier ++ entry) → As word.Bug (are_held turns) (files_of (earlier ++ entry)) change → Wide entry earlier change) where
    -- the turns of the identities keep to it
    people_wrote : (mid : History) → Wrote (As word.Identity false) entry mid → WroteBy Wide entry mid
    people_wrote mid wrote = WroteBy-wider (at_moment (As word.Identity false)) Wide entry mid person wrote

    -- and so do those of the bugs behind them
    both_wrote : (people : List EntityRef) (turns : List Turn) (mid new : History) → AreRefs (files_of entry) folder side.Identities people → Went (Step word.Identity false) people turns entry mid
        → (Wrote Any entry mid → Wrote (As word.Bug (are_held turns)) mid new) → WroteBy Wide entry new
    both_wrote people turns mid new are went then =
        let early = part_went word.Identity false entry (Wrote-none Any entry entry refl) people (λ entity c. (are.members entity).0 c) turns mid went in
        wrote_behind (As word.Bug (are_held turns)) Wide (Good turns) entry mid new (keeps turns) (bug turns) (people_wrote mid early) (good people turns mid are went early)
        (then (Wrote-wider (As word.Identity false) Any entry mid (any word.Identity false) early))

    -- then the whole exchange keeps to it
    pub exchange_writes : (new : History) (result : Result (List Line) ReadStop) → ExchangeAnswers verb Step Stops folder entry new result → WroteBy Wide entry new
    exchange_writes new (Ok lines) done =
        let held = are_held done.person_turns in
        both_wrote done.people done.person_turns done.mid new done.are.are_people done.first
        (λ before. part_went word.Bug held done.mid before done.bugs (λ entity c. (done.are.are_bugs.members entity).0 c) done.bug_turns new done.then)
    exchange_writes new (Err why) (inl none) = WroteBy-none Wide entry new none.1
    exchange_writes new (Err why) (inr (inl at)) =
        people_wrote new (part_ended word.Identity false entry (Wrote-none Any entry entry refl) at.people (λ entity c. (at.are.are_people.members entity).0 c) why new at.ended)
    exchange_writes new (Err why) (inr (inr at)) =
        let held = are_held at.person_turns in
        both_wrote at.people at.person_turns at.mid new at.are.are_people at.first
        (λ before. part_ended word.Bug held at.mid before at.bugs (λ entity c. (at.are.are_bugs.members entity).0 c) why new at.ended)
