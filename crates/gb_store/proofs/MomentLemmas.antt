-- How a list of writes grows, and what holds at each of its moments.
use Rattle.std.proofs.Common.{◌≡◌, ◌⊎◌, Bool, IsTrue, List, [], ◌∷◌, ◌++◌, length, sym, ◌∙◌, ap, subst, inl, inr, append_assoc, arith, length-append, refl, ℕ, ◌-◌, ◌≤◌, take, drop, reverse}
use Rattle.std.proofs.lemmas.List.{append_cancel_right, drop-append-le, take-append-drop, reverse-append}
use Rattle.gb_text.proofs.PathLemmas.{append_cases}
use Rattle.gb_store.specs.declared.store.Change.{Change}
use Rattle.gb_store.specs.Files.{History, Files, files_of, written}
use Rattle.gb_store.specs.Moments.{MaybeWrote, at_moment, EachWrite, WroteBy, Wrote, WroteIf, AllowsFromEarlier, AllowsFromLater, WroteSome, IsMoment, AllMoments, first_writes}

module _ (Rule : History → List Change → Change → Type 0) where
  -- writes after writes
  EachWrite-append : (old early late : List Change) → AllowsFromEarlier Rule → EachWrite Rule old early → EachWrite Rule (early ++ old) late → EachWrite Rule old (late ++ early)
  EachWrite-append old early [] from first then = first
  EachWrite-append old early (change ∷ late) from first then = (EachWrite-append old early late from first then.0, from old early late change then.1)

  -- the earlier of some writes
  EachWrite-early : (old early late : List Change) → EachWrite Rule old (late ++ early) → EachWrite Rule old early
  EachWrite-early old early [] each = each
  EachWrite-early old early (change ∷ late) each = EachWrite-early old early late each.0

  -- the later of some writes
  EachWrite-late : (old early late : List Change) → AllowsFromLater Rule → EachWrite Rule old (late ++ early) → EachWrite Rule (early ++ old) late
  EachWrite-late old early [] from each = tt
  EachWrite-late old early (change ∷ late) from each = (EachWrite-late old early late from each.0, from old early late change each.1)

  -- what each allowed write keeps holds in the end
  EachWrite-keeps : (Good : Files → Type 0) (old : History) → ((earlier : List Change) (change : Change) → Good (files_of (earlier ++ old)) → Rule old earlier change → Good (written (files_of (earlier ++ old)) change))
      → (writes : List Change) → Good (files_of old) → EachWrite Rule old writes → Good (files_of (writes ++ old))
  EachWrite-keeps Good old keeps [] good each = good
  EachWrite-keeps Good old keeps (change ∷ writes) good each = keeps writes change (EachWrite-keeps Good old keeps writes good each.0) each.1

  -- a wider rule allows it too
  EachWrite-wider : (Wide : History → List Change → Change → Type 0) (old : History) → ((earlier : List Change) (change : Change) → Rule old earlier change → Wide old earlier change)
      → (writes : List Change) → EachWrite Rule old writes → EachWrite Wide old writes
  EachWrite-wider Wide old wider [] each = tt
  EachWrite-wider Wide old wider (change ∷ writes) each = (EachWrite-wider Wide old wider writes each.0, wider writes change each.1)

-- no write
pub WroteBy-none : (Rule : History → List Change → Change → Type 0) (old new : History) → new ≡ old → WroteBy Rule old new
WroteBy-none Rule old new same = record { writes = []; grew = same; each = tt }

-- one write that is allowed, made or not
pub WroteBy-one : (Rule : History → List Change → Change → Type 0) (change : Change) (old new : History) → Rule old [] change → MaybeWrote change old new → WroteBy Rule old new
WroteBy-one Rule change old new may (inl same) = record { writes = []; grew = same; each = tt }
WroteBy-one Rule change old new may (inr made) = record { writes = change ∷ []; grew = made; each = (tt, may) }

-- one call after another
pub WroteBy-then : (Rule : History → List Change → Change → Type 0) (old mid new : History) → AllowsFromEarlier Rule → WroteBy Rule old mid → WroteBy Rule mid new → WroteBy Rule old new
WroteBy-then Rule old mid new from first then = record {
  writes = then.writes ++ first.writes;
  grew = then.grew ∙ ap (λ (h : History). then.writes ++ h) first.grew ∙ sym (append_assoc then.writes first.writes old);
  each = EachWrite-append Rule old first.writes then.writes from first.each (subst (λ (h : History). EachWrite Rule h then.writes) first.grew then.each);
}

-- what is allowed may be said more widely
pub WroteBy-wider : (Rule Wide : History → List Change → Change → Type 0) (old new : History) → ((earlier : List Change) (change : Change) → Rule old earlier change → Wide old earlier change)
    → WroteBy Rule old new → WroteBy Wide old new
WroteBy-wider Rule Wide old new wider wrote = record {
  writes = wrote.writes;
  grew = wrote.grew;
  each = EachWrite-wider Rule Wide old wider wrote.writes wrote.each;
}

-- ---- rules by the files alone

-- such a rule does not see where the call began
at_moment-from_earlier : (May : Files → Change → Type 0) → AllowsFromEarlier (at_moment May)
at_moment-from_earlier May = λ old early late change may. subst (λ (ws : History). May (files_of ws) change) (sym (append_assoc late early old)) may

-- what a moment allows does not look at what was written before it
pub at_moment-from_later : (May : Files → Change → Type 0) → AllowsFromLater (at_moment May)
at_moment-from_later May = λ old early late change may. subst (λ (ws : History). May (files_of ws) change) (append_assoc late early old) may

-- no write
pub Wrote-none : (May : Files → Change → Type 0) (old new : History) → new ≡ old → Wrote May old new
Wrote-none May old new same = WroteBy-none (at_moment May) old new same

-- one write that is allowed, made or not
pub Wrote-one : (May : Files → Change → Type 0) (change : Change) (old new : History) → May (files_of old) change → MaybeWrote change old new → Wrote May old new
Wrote-one May change old new may maybe = WroteBy-one (at_moment May) change old new may maybe

-- one call after another
pub Wrote-then : (May : Files → Change → Type 0) (old mid new : History) → Wrote May old mid → Wrote May mid new → Wrote May old new
Wrote-then May old mid new first then = WroteBy-then (at_moment May) old mid new (at_moment-from_earlier May) first then

-- what is allowed may be said more widely
pub Wrote-wider : (May Might : Files → Change → Type 0) (old new : History) → ((files : Files) (change : Change) → May files change → Might files change)
    → Wrote May old new → Wrote Might old new
Wrote-wider May Might old new wider wrote = WroteBy-wider (at_moment May) (at_moment Might) old new (λ earlier. wider (files_of (earlier ++ old))) wrote

-- one write that is allowed, made or not, in such a store
pub WroteIf_one : (tells : Bool) (May : Files → Change → Type 0) (change : Change) (old new : History)
    → (IsTrue tells → May (files_of old) change) → (IsTrue tells → MaybeWrote change old new) → WroteIf tells May old new
WroteIf_one tells May change old new may made = record { wrote = λ t. Wrote-one May change old new (may t) (made t) }

-- ---- moments

-- the writes of a call are those before a moment and those after it
parted : (Rule : History → List Change → Change → Type 0) (old new moment : History) (wrote : WroteBy Rule old new) (at : IsMoment old new moment) → wrote.writes ≡ at.later ++ at.done
parted Rule old new moment wrote at =
    append_cancel_right wrote.writes (at.later ++ at.done) old
    (sym wrote.grew ∙ at.after ∙ ap (λ (h : History). at.later ++ h) at.before ∙ sym (append_assoc at.later at.done old))

-- the writes before a moment
pub WroteBy-before : (Rule : History → List Change → Change → Type 0) (old new moment : History) → WroteBy Rule old new → IsMoment old new moment → WroteBy Rule old moment
WroteBy-before Rule old new moment wrote at = record {
  writes = at.done;
  grew = at.before;
  each = EachWrite-early Rule old at.done at.later (subst (λ (ws : List Change). EachWrite Rule old ws) (parted Rule old new moment wrote at) wrote.each);
}

-- the writes after a moment
pub WroteBy-after : (Rule : History → List Change → Change → Type 0) (old new moment : History) → AllowsFromLater Rule → WroteBy Rule old new → IsMoment old new moment → WroteBy Rule moment new
WroteBy-after Rule old new moment from wrote at = record {
  writes = at.later;
  grew = at.after;
  each = subst (λ (h : History). EachWrite Rule h at.later) (sym at.before)
      (EachWrite-late Rule old at.done at.later from (subst (λ (ws : List Change). EachWrite Rule old ws) (parted Rule old new moment wrote at) wrote.each));
}

-- what each allowed write keeps holds at each moment
pub AllMoments-from_WroteBy : (Rule : History → List Change → Change → Type 0) (Good : Files → Type 0) (old new : History)
    → ((earlier : List Change) (change : Change) → Good (files_of (earlier ++ old)) → Rule old earlier change → Good (written (files_of (earlier ++ old)) change))
    → Good (files_of old) → WroteBy Rule old new → AllMoments Good old new
AllMoments-from_WroteBy Rule Good old new keeps good wrote = record {
  grew = record { later = wrote.writes; done = []; before = refl; after = wrote.grew };
  each = λ moment at.
      let first = WroteBy-before Rule old new moment wrote at in
      subst (λ (h : History). Good (files_of h)) (sym first.grew) (EachWrite-keeps Rule Good old keeps first.writes good first.each);
}

-- the same of a rule by the files alone
pub AllMoments-from_Wrote : (May : Files → Change → Type 0) (Good : Files → Type 0)
    → ((files : Files) (change : Change) → Good files → May files change → Good (written files change))
    → (old new : History) → Good (files_of old) → Wrote May old new → AllMoments Good old new
AllMoments-from_Wrote May Good keeps old new good wrote =
    AllMoments-from_WroteBy (at_moment May) Good old new (λ earlier. keeps (files_of (earlier ++ old))) good wrote

-- a moment of a moment
pub IsMoment-of_first : (old mid new moment : History) → IsMoment old mid moment → IsMoment mid new mid → IsMoment old new moment
IsMoment-of_first old mid new moment at then = record {
  later = then.later ++ at.later;
  done = at.done;
  before = at.before;
  after = then.after ∙ ap (λ (h : History). then.later ++ h) at.after ∙ sym (append_assoc then.later at.later moment);
}

-- a moment of the second part is one of both
pub IsMoment-of_second : (old mid new moment : History) → IsMoment old mid old → IsMoment mid new moment → IsMoment old new moment
IsMoment-of_second old mid new moment first at = record {
  later = at.later;
  done = at.done ++ first.later;
  before = at.before ∙ ap (λ (h : History). at.done ++ h) first.after ∙ sym (append_assoc at.done first.later old);
  after = at.after;
}

-- a moment of two calls, one after the other, is one of the first or of the second
pub IsMoment-cases : (old mid new moment : History) → IsMoment old mid old → IsMoment mid new mid → IsMoment old new moment → IsMoment old mid moment ⊎ IsMoment mid new moment
IsMoment-cases old mid new moment first then at =
    let whole : (at.later ++ at.done) ++ old ≡ (then.later ++ first.later) ++ old =
    append_assoc at.later at.done old ∙ ap (λ (h : History). at.later ++ h) (sym at.before) ∙ sym at.after ∙ then.after
    ∙ ap (λ (h : History). then.later ++ h) first.after ∙ sym (append_assoc then.later first.later old) in
    each (append_cases at.later then.later at.done first.later (append_cancel_right (at.later ++ at.done) (then.later ++ first.later) old whole))
  where
    each : ((rest : List Change) × (then.later ≡ at.later ++ rest) × (at.done ≡ rest ++ first.later)) ⊎ ((rest : List Change) × (at.later ≡ then.later ++ rest) × (first.later ≡ rest ++ at.done))
        → IsMoment old mid moment ⊎ IsMoment mid new moment
    each (inl in_second) = inr (record {
      later = at.later;
      done = in_second.0;
      before = at.before ∙ ap (λ (h : History). h ++ old) in_second.2 ∙ append_assoc in_second.0 first.later old ∙ ap (λ (h : History). in_second.0 ++ h) (sym first.after);
      after = at.after;
    })
    each (inr in_first) = inl (record {
      later = in_first.0;
      done = at.done;
      before = at.before;
      after = first.after ∙ ap (λ (h : History). h ++ old) in_first.2 ∙ append_assoc in_first.0 at.done old ∙ ap (λ (h : History). in_first.0 ++ h) (sym at.before);
    })

-- what holds at each moment of two calls, one after the other
pub AllMoments-then : (Good : Files → Type 0) (old mid new : History) → AllMoments Good old mid → AllMoments Good mid new → AllMoments Good old new
AllMoments-then Good old mid new first then = record {
  grew = IsMoment-of_first old mid new old first.grew then.grew;
  each = λ moment at. elim (IsMoment-cases old mid new moment first.grew then.grew at) [ inl early ↦ first.each moment early | inr late ↦ then.each moment late ];
}

-- a cut is a moment
pub IsMoment-first_writes : (old new : History) (count : ℕ) → IsMoment old new old → length old ≤ count → count ≤ length new → IsMoment old new (first_writes count new)
IsMoment-first_writes old new count at low high = record {
  later = take (length new - count) new;
  done = drop (length new - count) at.later;
  before = ap (drop (length new - count)) at.after ∙ drop-append-le (length new - count) at.later old (omega (arith, ap length at.after, length-append at.later old));
  after = sym (take-append-drop (length new - count) new);
}

-- ---- writes in order

-- a front of a list of writes was made
pub WroteSome-there : (writes : List Change) (old new : History) → WroteSome writes old new
    → (done : List Change) × (later : List Change) × (writes ≡ done ++ later) × (new ≡ reverse done ++ old)
WroteSome-there [] old new same = ([], [], refl, same)
WroteSome-there (change ∷ rest) old new (inl same) = ([], change ∷ rest, refl, same)
WroteSome-there (change ∷ rest) old new (inr some) =
    let ih = WroteSome-there rest (change ∷ old) new some in (
      change ∷ ih.0,
      ih.1,
      ap (λ (ws : List Change). change ∷ ws) ih.2,
      ih.3 ∙ sym (ap (λ (ws : List Change). ws ++ old) (reverse-append (change ∷ []) ih.0) ∙ append_assoc (reverse ih.0) (change ∷ []) old),
    )

-- writes in front of others are a front
pub WroteSome-back : (writes : List Change) (old new : History) (done later : List Change) → writes ≡ done ++ later → new ≡ reverse done ++ old → WroteSome writes old new
WroteSome-back [] old new [] later e grew = grew
WroteSome-back [] old new (x ∷ done) later e grew = absurd (cc)
WroteSome-back (change ∷ rest) old new [] later e grew = inl grew
WroteSome-back (change ∷ rest) old new (x ∷ done) later e grew =
    let same : change ≡ x = cc in
    let tail : rest ≡ done ++ later = cc in
    inr (WroteSome-back rest (change ∷ old) new done later tail
    (grew ∙ ap (λ (ws : List Change). ws ++ old) (reverse-append (x ∷ []) done) ∙ append_assoc (reverse done) (x ∷ []) old ∙ ap (λ (c : Change). reverse done ++ c ∷ old) (sym same)))

-- some first ones of writes that the rule allows
pub WroteBy-some : (Rule : History → List Change → Change → Type 0) (writes : List Change) (old new : History) → EachWrite Rule old (reverse writes) → WroteSome writes old new → WroteBy Rule old new
WroteBy-some Rule writes old new each some =
    let front = WroteSome-there writes old new some in
    let parts : reverse writes ≡ reverse front.1 ++ reverse front.0 = ap reverse front.2 ∙ reverse-append front.0 front.1 in
    record {
      writes = reverse front.0;
      grew = front.3;
      each = EachWrite-early Rule old (reverse front.0) (reverse front.1) (subst (λ (ws : List Change). EachWrite Rule old ws) parts each);
    }
