-- Header lines up to the empty one: what is taken are lines that are not empty, and such lines are taken again.
use Rattle.std.proofs.lemmas.Bool.{and_parts}
use Rattle.std.proofs.lemmas.Option.{same_Some}
use Rattle.std.proofs.Common.{◌≡◌, ℕ, Bool, true, false, cond, eqb, List, [], ◌∷◌, ◌++◌, Option, Some, None, refl, sym, ap, subst, ◌∙◌, append_assoc}
use Rattle.std.proofs.Common.{inl, inr, ◌⊎◌, length, take, ◌-◌}
use Rattle.std.specs.Prelude.{is_none, not, ◌&&◌, ◌||◌, IsTrue, ◌↔◌}
use Rattle.std.proofs.lemmas.Bool.{not-true}
use Rattle.std.proofs.lemmas.Bool.Decides.{Decides-eqb}
use Rattle.std.proofs.lemmas.Slice.Eq.{ends_is}
use Rattle.git_object.specs.declared.commit.Commit.{Commit}
use Rattle.std.proofs.lemmas.List.{append-nil, nil_from_length}
use Rattle.std.specs.List.{flat_map, AllByRecursion, list_any, ends_with}
use Rattle.std.proofs.lemmas.Bool.{eqb-true, eqb-false, ne_eqb}
use Rattle.std.proofs.lemmas.List.Concat.{flat_map-cons}
use Rattle.git_object.specs.Grammar.{Lacks, IsLine, ended, AreLines, HasGoodTexts}
use Rattle.git_object.specs.Reading.{onto, lines_at, are_lines, is_line}
use Rattle.git_object.proofs.CutLaws.{nil_length, some_length, lacks_from_any, any_from_lacks, front_onto, onto_some}

onto_front : (x : ℕ) (front : List ℕ) (o : Option (List ℕ × List ℕ)) → onto x (front_onto front o) ≡ front_onto (x ∷ front) o
onto_front x front None = refl
onto_front x front (Some r) = refl

onto_one : (x : ℕ) (o : Option (List ℕ × List ℕ)) → onto x o ≡ front_onto (x ∷ []) o
onto_one x None = refl
onto_one x (Some r) = refl

line_goes : (line rest : List ℕ) → Lacks 10 line → lines_at false (line ++ 10 ∷ rest) ≡ front_onto (ended line) (lines_at true rest)
unfolding lines_at
line_goes [] rest lacks = onto_one 10 (lines_at true rest)
line_goes (x ∷ xs) rest lacks = rw (ne_eqb x 10 lacks.0) (ap (onto x) (line_goes xs rest lacks.1) ∙ onto_front x (ended xs) (lines_at true rest))

line_again : (line rest : List ℕ) → IsLine line → lines_at true (line ++ 10 ∷ rest) ≡ front_onto (ended line) (lines_at true rest)
unfolding lines_at
line_again [] rest is = absurd (is.some refl)
line_again (x ∷ xs) rest is = rw (ne_eqb x 10 is.no_end.0) (ap (onto x) (line_goes xs rest is.no_end.1) ∙ onto_front x (ended xs) (lines_at true rest))

lines_again_by : (lines : List (List ℕ)) (rest : List ℕ) → AllByRecursion IsLine lines → lines_at true (flat_map ended lines ++ 10 ∷ rest) ≡ Some (flat_map ended lines, rest)
unfolding lines_at
lines_again_by [] rest fits = refl
lines_again_by (l ∷ ls) rest fits =
    let cons : flat_map ended (l ∷ ls) ≡ ended l ++ flat_map ended ls = flat_map-cons ended l ls in
    let regrouped : flat_map ended (l ∷ ls) ++ 10 ∷ rest ≡ l ++ 10 ∷ (flat_map ended ls ++ 10 ∷ rest) = ap (λ (t : List ℕ). t ++ 10 ∷ rest) cons ∙ append_assoc (ended l) (flat_map ended ls) (10 ∷ rest) ∙ append_assoc l (10 ∷ []) (flat_map ended ls ++ 10 ∷ rest) in
    ap (lines_at true) regrouped ∙ line_again l (flat_map ended ls ++ 10 ∷ rest) fits.0 ∙ ap (front_onto (ended l)) (lines_again_by ls rest fits.1) ∙ ap (λ (t : List ℕ). Some (t, rest)) (sym cons)

-- lines read again up to the empty one
pub lines_again : (text rest : List ℕ) → AreLines text → lines_at true (text ++ 10 ∷ rest) ≡ Some (text, rest)
lines_again text rest are = subst (λ (t : List ℕ). lines_at true (t ++ 10 ∷ rest) ≡ Some (t, rest)) (sym are.joined) (lines_again_by are.lines rest are.each)

-- what was taken where a line begins, or inside one
pub record Whole (bytes : List ℕ) (y : List ℕ × List ℕ) : Type 0 where
  pub lines : AreLines y.0
  pub parts : bytes ≡ y.0 ++ 10 ∷ y.1

record Inside (bytes : List ℕ) (y : List ℕ × List ℕ) : Type 0 where
  piece : List ℕ
  others : List ℕ
  lacks : Lacks 10 piece
  lines : AreLines others
  text : y.0 ≡ ended piece ++ others
  parts : bytes ≡ y.0 ++ 10 ∷ y.1

abbrev Taken : Bool → List ℕ → List ℕ × List ℕ → Type 0
Taken true bytes y = Whole bytes y
Taken false bytes y = Inside bytes y

add_line : (piece others : List ℕ) → IsLine piece → AreLines others → AreLines (ended piece ++ others)
add_line piece others is are = record { lines = piece ∷ are.lines; each = (is, are.each); joined = ap (λ (t : List ℕ). ended piece ++ t) are.joined ∙ sym (flat_map-cons ended piece are.lines) }

inside : (b : Bool) (x : ℕ) (xs : List ℕ) (z : List ℕ × List ℕ) → eqb x 10 ≡ b → Taken b xs z → Inside (x ∷ xs) (x ∷ z.0, z.1)
inside true x xs z e t =
    let same : x ≡ 10 = eqb-true x 10 e in
    record { piece = []; others = z.0; lacks = tt; lines = t.lines; text = ap (λ (v : ℕ). v ∷ z.0) same; parts = ap (λ (v : List ℕ). x ∷ v) t.parts }
inside false x xs z e t = record { piece = x ∷ t.piece; others = t.others; lacks = (eqb-false x 10 e, t.lacks); lines = t.lines; text = ap (λ (v : List ℕ). x ∷ v) t.text; parts = ap (λ (v : List ℕ). x ∷ v) t.parts }

fresh : (b : Bool) (x : ℕ) (xs : List ℕ) (o : Option (List ℕ × List ℕ)) (y : List ℕ × List ℕ) → eqb x 10 ≡ b → ((z : List ℕ × List ℕ) → o ≡ Some z → Inside xs z)
    → cond b (Some ([], xs)) (onto x o) ≡ Some y → Whole (x ∷ xs) y
fresh true x xs o y e others chosen =
    subst (λ (w : List ℕ × List ℕ). Whole (x ∷ xs) w) (same_Some ([], xs) y chosen) (record { lines = record { lines = []; each = tt; joined = refl }; parts = ap (λ (v : ℕ). v ∷ xs) (eqb-true x 10 e) })
fresh false x xs o y e others chosen =
    let found = onto_some x o y chosen in
    let t = others found.0 found.1 in
    let is : IsLine (x ∷ t.piece) = record { some = λ same. absurd cc; no_end = (eqb-false x 10 e, t.lacks) } in
    let text : x ∷ found.0.0 ≡ ended (x ∷ t.piece) ++ t.others = ap (λ (v : List ℕ). x ∷ v) t.text in
    subst (λ (w : List ℕ × List ℕ). Whole (x ∷ xs) w) (sym found.2) (record { lines = subst AreLines (sym text) (add_line (x ∷ t.piece) t.others is t.lines); parts = ap (λ (v : List ℕ). x ∷ v) t.parts })

lines_take : (f : Bool) (bytes : List ℕ) (y : List ℕ × List ℕ) → lines_at f bytes ≡ Some y → Taken f bytes y
unfolding lines_at
lines_take true [] y e = absurd cc
lines_take false [] y e = absurd cc
lines_take true (x ∷ xs) y e = fresh (eqb x 10) x xs (lines_at false xs) y refl (λ z h. lines_take false xs z h) e
lines_take false (x ∷ xs) y e =
    let found = onto_some x (lines_at (eqb x 10) xs) y e in
    subst (λ (w : List ℕ × List ℕ). Inside (x ∷ xs) w) (sym found.2) (inside (eqb x 10) x xs found.0 refl (lines_take (eqb x 10) xs found.0 found.1))

-- what reads as lines is the text of them
pub lines_whole : (bytes : List ℕ) (y : List ℕ × List ℕ) → lines_at true bytes ≡ Some y → Whole bytes y
lines_whole bytes y e = lines_take true bytes y e

-- ---- the tests

front_nothing : (o : Option (List ℕ × List ℕ)) → front_onto [] o ≡ o
front_nothing None = refl
front_nothing (Some r) = refl

none_onto : (x : ℕ) (o : Option (List ℕ × List ℕ)) → onto x o ≡ None → o ≡ None
none_onto x None e = refl
none_onto x (Some r) e = absurd cc

-- whether a line begins behind the text
begins_behind : Bool → List ℕ → Bool
begins_behind f [] = f
begins_behind f (x ∷ xs) = begins_behind (eqb x 10) xs

no_line_here : (b : Bool) (x : ℕ) (xs : List ℕ) (o : Option (List ℕ × List ℕ)) → cond b (Some ([], xs)) (onto x o) ≡ None → (b ≡ false) × (o ≡ None)
no_line_here true x xs o e = absurd cc
no_line_here false x xs o e = (refl, none_onto x o e)

lines_go_on : (f : Bool) (text rest : List ℕ) → lines_at f text ≡ None → lines_at f (text ++ rest) ≡ front_onto text (lines_at (begins_behind f text) rest)
unfolding lines_at begins_behind
lines_go_on true [] rest e = sym (front_nothing (lines_at true rest))
lines_go_on false [] rest e = sym (front_nothing (lines_at false rest))
lines_go_on true (x ∷ xs) rest e =
    let here = no_line_here (eqb x 10) x xs (lines_at false xs) e in
    let not_here = here.0 in
    rw not_here (ap (onto x) (lines_go_on false xs rest here.1) ∙ onto_front x xs (lines_at (begins_behind false xs) rest))
lines_go_on false (x ∷ xs) rest e =
    ap (onto x) (lines_go_on (eqb x 10) xs rest (none_onto x (lines_at (eqb x 10) xs) e)) ∙ onto_front x xs (lines_at (begins_behind (eqb x 10) xs) rest)

begins_behind_end : (f : Bool) (text : List ℕ) → begins_behind f (text ++ 10 ∷ []) ≡ true
unfolding begins_behind
begins_behind_end f [] = refl
begins_behind_end f (x ∷ xs) = begins_behind_end (eqb x 10) xs

lines_from_end : (front : List ℕ) → lines_at true (front ++ 10 ∷ []) ≡ None → AreLines (front ++ 10 ∷ [])
unfolding lines_at
lines_from_end front e =
    let text : List ℕ = front ++ 10 ∷ [] in
    let more : lines_at true (text ++ 10 ∷ []) ≡ front_onto text (lines_at true (10 ∷ [])) = lines_go_on true text (10 ∷ []) e ∙ ap (λ (f : Bool). front_onto text (lines_at f (10 ∷ []))) (begins_behind_end true front) in
    subst AreLines (append-nil text) (lines_whole (text ++ 10 ∷ []) (text ++ [], []) more).lines

no_empty_line : (lines : List (List ℕ)) → AllByRecursion IsLine lines → lines_at true (flat_map ended lines) ≡ None
unfolding lines_at
no_empty_line [] each = refl
no_empty_line (l ∷ ls) each =
    ap (lines_at true) (flat_map-cons ended l ls ∙ append_assoc l (10 ∷ []) (flat_map ended ls)) ∙ line_again l (flat_map ended ls) each.0 ∙ ap (front_onto (ended l)) (no_empty_line ls each.1)

ends_in_line : (lines : List (List ℕ)) → (flat_map ended lines ≡ []) ⊎ ((front : List ℕ) × (flat_map ended lines ≡ front ++ 10 ∷ []))
ends_in_line [] = inl refl
ends_in_line (l ∷ ls) = elim (ends_in_line ls) [
  | inl none ↦ inr (l, flat_map-cons ended l ls ∙ ap (λ (t : List ℕ). ended l ++ t) none ∙ append-nil (ended l))
  | inr some ↦ inr (ended l ++ some.0, flat_map-cons ended l ls ∙ ap (λ (t : List ℕ). ended l ++ t) some.1 ∙ sym (append_assoc (ended l) some.0 (10 ∷ [])))
]

none_from_test : (o : Option (List ℕ × List ℕ)) → is_none o ≡ true → o ≡ None
none_from_test None t = refl
none_from_test (Some r) t = absurd cc

end_taken : (text : List ℕ) (empty ends : Bool) → eqb (length text) 0 ≡ empty → ends_with (λ x y. eqb x y) text (10 ∷ []) ≡ ends → (empty || ends) ≡ true → lines_at true text ≡ None → AreLines text
end_taken text true ends p q t none = subst AreLines (sym (nil_from_length text (eqb-true (length text) 0 p))) (record { lines = []; each = tt; joined = refl })
end_taken text false true p q t none =
    let front : List ℕ = take (length text - 1) text in
    let is : text ≡ front ++ 10 ∷ [] = (ends_is Decides-eqb text (10 ∷ []) true (sym q)).0 refl in
    subst AreLines (sym is) (lines_from_end front (sym (ap (lines_at true) is) ∙ none))
end_taken text false false p q t none = absurd cc

are_lines_take : (text : List ℕ) → are_lines text ≡ true → AreLines text
are_lines_take text t =
    let p = and_parts (is_none (lines_at true text)) (eqb (length text) 0 || ends_with (λ x y. eqb x y) text (10 ∷ [])) t in
    end_taken text (eqb (length text) 0) (ends_with (λ x y. eqb x y) text (10 ∷ [])) refl refl p.1 (none_from_test (lines_at true text) p.0)

or_right : (b : Bool) → (b || true) ≡ true
or_right true = refl
or_right false = refl

end_tested : (text : List ℕ) → (text ≡ []) ⊎ ((front : List ℕ) × (text ≡ front ++ 10 ∷ [])) → (eqb (length text) 0 || ends_with (λ x y. eqb x y) text (10 ∷ [])) ≡ true
end_tested text (inl empty) = ap (λ (t : List ℕ). eqb (length t) 0 || ends_with (λ x y. eqb x y) t (10 ∷ [])) empty
end_tested text (inr some) =
    let ends : ends_with (λ x y. eqb x y) text (10 ∷ []) ≡ true = (ends_is Decides-eqb text (10 ∷ []) (ends_with (λ x y. eqb x y) text (10 ∷ [])) refl).1 some.0 some.1 in
    rw ends (or_right (eqb (length text) 0))

are_lines_again : (text : List ℕ) → AreLines text → are_lines text ≡ true
are_lines_again text are =
    let none : lines_at true text ≡ None = ap (lines_at true) are.joined ∙ no_empty_line are.lines are.each in
    let ended_well = end_tested text (subst (λ (t : List ℕ). (t ≡ []) ⊎ ((front : List ℕ) × (t ≡ front ++ 10 ∷ []))) (sym are.joined) (ends_in_line are.lines)) in
    rw none ended_well

is_line_takes : (text : List ℕ) → is_line text ≡ true → IsLine text
is_line_takes text t =
    let p = and_parts (not (eqb (length text) 0)) (not (list_any (λ x. eqb x 10) text)) t in
    record { some = nil_length text (not-true _ p.0); no_end = lacks_from_any 10 text (not-true _ p.1) }

is_line_again : (text : List ℕ) → IsLine text → is_line text ≡ true
is_line_again text is = rw (some_length text is.some, any_from_lacks 10 text is.no_end) refl

-- the texts of a commit are good exactly where they are lines
pub texts_are_good : (c : Commit) (b : Bool) → b ≡ (is_line c.author && is_line c.committer && are_lines c.more) → IsTrue b ↔ HasGoodTexts c
texts_are_good c b e = (
  λ t. (let p = and_parts (is_line c.author && is_line c.committer) (are_lines c.more) (sym e ∙ t) in
      let q = and_parts (is_line c.author) (is_line c.committer) p.0 in
      record { author = is_line_takes c.author q.0; committer = is_line_takes c.committer q.1; more = are_lines_take c.more p.1 }),
  λ good. e ∙ rw (is_line_again c.author good.author, is_line_again c.committer good.committer, are_lines_again c.more good.more) refl,
)
