-- What goes through entities goes on by one, or ends at one.
use Rattle.std.proofs.Common.{◌≡◌, ◌<◌, ◌+◌, ℕ, Bool, true, ◌||◌, List, [], ◌∷◌, ◌++◌, length, take, drop, get_or, refl, sym, ◌∙◌, ap, subst, append_assoc}
use Rattle.std.proofs.lemmas.Bool.{and_parts}
use Rattle.std.proofs.lemmas.List.{append-nil, map-append, take_more}
use Rattle.std.proofs.lemmas.List.Folds.{list_all-append}
use Rattle.std.specs.List.{list_any}
use Rattle.gb_store.specs.Files.{History}
use Rattle.gb_store.specs.Turns.{InTurn}
use Rattle.repo_state.specs.declared.refs.EntityRef.{EntityRef}
use Rattle.repo_state.specs.declared.stop.ReadStop.{ReadStop}
use Rattle.repo_state.proofs.PeopleLemmas.{split_at}
use Rattle.sync_steps.specs.Lines.{are_quiet, is_quiet}
use Rattle.sync_steps.specs.Turns.{AddsLines, Ended, Turn, WentOn, are_held, is_damage, line_of, lines_of}
use Rattle.sync_steps.specs.declared.line.EntityWord.{EntityWord}
use Rattle.sync_steps.specs.declared.line.Exchange.{Exchange}
use Rattle.sync_steps.specs.declared.line.Line.{Line}
use Rattle.sync_steps.specs.declared.line.Outcome.{Outcome}

-- one more step behind those before it
InTurn-snoc : {A : Type 0} (Step : A → History → History → Type 0) (items : List A) (last : A) (old mid new : History) → InTurn Step items old mid → Step last mid new
    → InTurn Step (items ++ last ∷ []) old new
InTurn-snoc Step [] last old mid new same step = (new, subst (λ (h : History). Step last h new) same step, refl)
InTurn-snoc Step (item ∷ items) last old mid new turns step = (turns.0, turns.1, InTurn-snoc Step items last turns.0 mid new turns.2 step)

module _ (verb : Exchange) (word : EntityWord) (Step : Turn → History → History → Type 0) where
  -- no entity had its turn yet
  pub WentOn-none : (early late : List Line) (old new : History) → late ≡ early → new ≡ old → WentOn verb word Step [] early late old new
  WentOn-none early late old new lines same = record {
    turns = [];
    went = record { are = refl; each = same };
    lines = lines ∙ sym (append-nil early);
  }

  -- one more had
  pub WentOn-next : (refs : List EntityRef) (i : ℕ) (d : EntityRef) (outcome : Outcome) (early then late : List Line) (old mid new : History) → i < length refs
      → WentOn verb word Step (take i refs) early then old mid → Step (record { entity = get_or refs i d; outcome = outcome }) mid new
      → late ≡ then ++ line_of verb word (record { entity = get_or refs i d; outcome = outcome }) ∷ []
      → WentOn verb word Step (take (i + 1) refs) early late old new
  WentOn-next refs i d outcome early then late old mid new within on step added =
      let turn : Turn = record { entity = get_or refs i d; outcome = outcome } in
      record {
        turns = on.turns ++ turn ∷ [];
        went = record {
          are = map-append (λ (t : Turn). t.entity) on.turns (turn ∷ []) ∙ ap (λ (es : List EntityRef). es ++ get_or refs i d ∷ []) on.went.are ∙ sym (take_more refs i d within);
          each = InTurn-snoc Step on.turns turn old mid new on.went.each step;
        };
        lines = added ∙ ap (λ (ls : List Line). ls ++ line_of verb word turn ∷ []) on.lines
            ∙ append_assoc early (lines_of verb word on.turns) (line_of verb word turn ∷ [])
            ∙ ap (λ (ls : List Line). early ++ ls) (sym (map-append (line_of verb word) on.turns (turn ∷ [])));
      }

  -- the call ended at one
  pub Ended-at : (Stops : ReadStop → EntityRef → History → History → Type 0) (why : ReadStop) (refs : List EntityRef) (i : ℕ) (d : EntityRef) (early then : List Line) (old mid new : History)
      → i < length refs → WentOn verb word Step (take i refs) early then old mid → Stops why (get_or refs i d) mid new → Ended Step Stops why refs old new
  Ended-at Stops why refs i d early then old mid new within on stopped = record {
    done = on.turns;
    at = get_or refs i d;
    rest = drop (i + 1) refs;
    are = split_at refs i d within ∙ ap (λ (es : List EntityRef). es ++ get_or refs i d ∷ drop (i + 1) refs) (sym on.went.are);
    mid = mid;
    before = on.went.each;
    ended = stopped;
  }

-- no line was added
pub AddsLines-none : (early late : List Line) (before after : ℕ) → late ≡ early → after ≡ before → AddsLines early late before after
AddsLines-none early late before after lines same = record { added = []; lines = lines ∙ sym (append-nil early); unread = λ quiet. same }

-- one more was
pub AddsLines-next : (early then late : List Line) (line : Line) (before between after : ℕ) → AddsLines early then before between → (is_quiet line.outcome ≡ true → after ≡ between)
    → late ≡ then ++ line ∷ [] → AddsLines early late before after
AddsLines-next early then late line before between after adds unread lines = record {
  added = adds.added ++ line ∷ [];
  lines = lines ∙ ap (λ (ls : List Line). ls ++ line ∷ []) adds.lines ∙ append_assoc early adds.added (line ∷ []);
  unread = λ quiet.
      let both = and_parts (are_quiet adds.added) (are_quiet (line ∷ [])) (sym (list_all-append (λ (l : Line). is_quiet l.outcome) adds.added (line ∷ [])) ∙ quiet) in
      unread (and_parts (is_quiet line.outcome) true both.1).0 ∙ adds.unread both.0;
}

-- where the lines of both kinds came of refs alone, no object was read
pub both_unread : (start then late : List Line) (before one mid new : ℕ) → start ≡ [] → one ≡ before → AddsLines start then one mid → AddsLines then late mid new → are_quiet late ≡ true → new ≡ before
both_unread start then late before one mid new none same first second quiet =
    let quiet_of = λ (ls : List Line). are_quiet ls in
    let both = and_parts (are_quiet then) (are_quiet second.added) (sym (list_all-append (λ (l : Line). is_quiet l.outcome) then second.added) ∙ sym (ap quiet_of second.lines) ∙ quiet) in
    let added : then ≡ first.added = first.lines ∙ ap (λ (ls : List Line). ls ++ first.added) none in
    second.unread both.1 ∙ first.unread (sym (ap quiet_of added) ∙ both.0) ∙ same

-- what is damaged among the lines of turns is what is among the turns
pub held_by_lines : (verb : Exchange) (word : EntityWord) (turns : List Turn) → list_any (λ (line : Line). is_damage line.outcome) (lines_of verb word turns) ≡ are_held turns
held_by_lines verb word [] = refl
held_by_lines verb word (turn ∷ turns) = ap (λ (rest : Bool). is_damage turn.outcome || rest) (held_by_lines verb word turns)
