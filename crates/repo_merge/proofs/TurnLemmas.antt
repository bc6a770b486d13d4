-- What goes through tracked entities goes on by one, or ends at one.
use Rattle.std.proofs.Common.{◌≡◌, ◌<◌, ◌+◌, ℕ, List, [], ◌∷◌, ◌++◌, length, take, drop, get_or, refl, sym, ◌∙◌, ap, subst, append_assoc}
use Rattle.std.proofs.lemmas.List.{append-nil, map-append, take_more}
use Rattle.gb_store.specs.Files.{History}
use Rattle.gb_store.specs.Turns.{InTurn}
use Rattle.repo_state.specs.declared.refs.EntityRef.{EntityRef}
use Rattle.repo_state.proofs.PeopleLemmas.{split_at}
use Rattle.sync_steps.specs.declared.line.EntityWord.{EntityWord}
use Rattle.merge_steps.specs.Merging.{MergeTurn}
use Rattle.merge_steps.specs.Turns.{Ended, WentOn, line_of, lines_of}
use Rattle.merge_steps.specs.declared.line.MergeLine.{MergeLine}
use Rattle.merge_steps.specs.declared.line.MergeOutcome.{MergeOutcome}
use Rattle.merge_steps.specs.declared.stop.TurnStop.{TurnStop}

-- one more step behind those before it
InTurn-snoc : {A : Type 0} (Step : A → History → History → Type 0) (items : List A) (last : A) (old mid new : History) → InTurn Step items old mid → Step last mid new
    → InTurn Step (items ++ last ∷ []) old new
InTurn-snoc Step [] last old mid new same step = (new, subst (λ (h : History). Step last h new) same step, refl)
InTurn-snoc Step (item ∷ items) last old mid new turns step = (turns.0, turns.1, InTurn-snoc Step items last turns.0 mid new turns.2 step)

module _ (Step : MergeTurn → History → History → Type 0) (word : EntityWord) where
  -- no entity had its turn yet
  pub WentOn-none : (early late : List MergeLine) (old new : History) → late ≡ early → new ≡ old → WentOn Step word [] early late old new
  WentOn-none early late old new lines same = record {
    turns = [];
    went = record { are = refl; each = same };
    lines = lines ∙ sym (append-nil early);
  }

  -- one more had
  pub WentOn-next : (refs : List EntityRef) (i : ℕ) (d : EntityRef) (outcome : MergeOutcome) (early then late : List MergeLine) (old mid new : History) → i < length refs
      → WentOn Step word (take i refs) early then old mid → Step (record { entity = get_or refs i d; outcome = outcome }) mid new
      → late ≡ then ++ line_of word (record { entity = get_or refs i d; outcome = outcome }) ∷ []
      → WentOn Step word (take (i + 1) refs) early late old new
  WentOn-next refs i d outcome early then late old mid new within on step added =
      let turn : MergeTurn = record { entity = get_or refs i d; outcome = outcome } in
      record {
        turns = on.turns ++ turn ∷ [];
        went = record {
          are = map-append (λ (t : MergeTurn). t.entity) on.turns (turn ∷ []) ∙ ap (λ (es : List EntityRef). es ++ get_or refs i d ∷ []) on.went.are ∙ sym (take_more refs i d within);
          each = InTurn-snoc Step on.turns turn old mid new on.went.each step;
        };
        lines = added ∙ ap (λ (ls : List MergeLine). ls ++ line_of word turn ∷ []) on.lines
            ∙ append_assoc early (lines_of word on.turns) (line_of word turn ∷ [])
            ∙ ap (λ (ls : List MergeLine). early ++ ls) (sym (map-append (line_of word) on.turns (turn ∷ [])));
      }

  -- the call ended at one
  pub Ended-at : (Stops : TurnStop → EntityRef → History → History → Type 0) (why : TurnStop) (refs : List EntityRef) (i : ℕ) (d : EntityRef) (early then : List MergeLine) (old mid new : History)
      → i < length refs → WentOn Step word (take i refs) early then old mid → Stops why (get_or refs i d) mid new → Ended Step Stops why refs old new
  Ended-at Stops why refs i d early then old mid new within on stopped = record {
    done = on.turns;
    at = get_or refs i d;
    rest = drop (i + 1) refs;
    are = split_at refs i d within ∙ ap (λ (es : List EntityRef). es ++ get_or refs i d ∷ drop (i + 1) refs) (sym on.went.are);
    mid = mid;
    before = on.went.each;
    ended = stopped;
  }
