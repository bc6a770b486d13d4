-- A folder's text reads again as the folder.
use Rattle.std.proofs.lemmas.Bool.{and_parts, or_parts}
use Rattle.std.proofs.Common.{◌≡◌, ◌≢◌, ℕ, ◌<◌, ◌+◌, ◌==◌, Bool, true, false, ◌&&◌, ◌||◌, cond, List, [], ◌∷◌, ◌++◌, length, filter, Some, None, refl, sym, ◌∙◌, ap, subst, append_assoc, append-nil, eqb-true, lit<, arith, length-append}
use Rattle.std.specs.Prelude.{codes, not, slice_index}
use Rattle.std.proofs.lemmas.List.Folds.{list_all-append}
use Rattle.std.proofs.lemmas.Str.{IsUtf8-append, IsUtf8-take, IsUtf8-drop, IsCharBoundary-before_ascii, IsCharBoundary-after_ascii, chars-append}
use Rattle.std.proofs.Math.Seq.{take-append_seam, drop-append-add}
use Rattle.std.specs.List.{list_all, list_any, onto_first, join_with_byte, AllByRecursion}
use Rattle.std.specs.Str.{IsUtf8, bytes_eq, chars}
use Rattle.gb_text.specs.Folder.{is_rooted, parts_of, counts, goes_up, folder_text, folder_of}
use Rattle.gb_text.specs.Rules.{is_control, is_line_text}
use Rattle.gb_text.proofs.PartLemmas.{NoSlash, NoSlash-parts_of, parts_of-join_with_byte}

-- ---- lines that are cut at a slash

slash_is_utf8 : IsUtf8 (47 ∷ [])
unfolding lib.Utf8.encode
slash_is_utf8 = (47 ∷ [], (refl, refl))

slash_is_line : is_line_text (47 ∷ []) ≡ true
unfolding chars
slash_is_line = refl

-- a text with no control character
record IsLine (text : List ℕ) : Type 0 where
  utf8 : IsUtf8 text
  line : is_line_text text ≡ true

is_line_text-append : (xs ys : List ℕ) → IsUtf8 xs → is_line_text (xs ++ ys) ≡ (is_line_text xs && is_line_text ys)
is_line_text-append xs ys utf8 =
    ap (list_all (λ c. not (is_control c))) (chars-append xs ys utf8) ∙ list_all-append (λ c. not (is_control c)) (chars xs) (chars ys)

IsLine-joined : (xs ys : List ℕ) → IsLine xs → IsLine ys → IsLine (xs ++ 47 ∷ ys)
IsLine-joined xs ys one two = record {
  utf8 = IsUtf8-append xs (47 ∷ ys) one.utf8 (IsUtf8-append (47 ∷ []) ys slash_is_utf8 two.utf8);
  line = is_line_text-append xs (47 ∷ ys) one.utf8 ∙ ap (λ (b : Bool). b && is_line_text (47 ∷ ys)) one.line
      ∙ is_line_text-append (47 ∷ []) ys slash_is_utf8 ∙ ap (λ (b : Bool). b && is_line_text ys) slash_is_line ∙ two.line;
}

index_at : (above rest : List ℕ) → slice_index (above ++ 47 ∷ rest) (length above) ≡ 47
index_at [] rest = refl
index_at (x ∷ xs) rest = index_at xs rest

-- the two sides of a slash
IsLine-cut : (xs ys : List ℕ) → IsLine (xs ++ 47 ∷ ys) → IsLine xs × IsLine ys
IsLine-cut xs ys whole =
    let text = xs ++ 47 ∷ ys in
    let long : length xs < length text = omega (arith, length-append xs (47 ∷ ys)) in
    let ascii : slice_index text (length xs) < 128 = subst (λ (c : ℕ). c < 128) (sym (index_at xs ys)) (lit< tt) in
    let first : IsUtf8 xs = subst IsUtf8 (take-append_seam xs (47 ∷ ys)) (IsUtf8-take text (length xs) whole.utf8 (IsCharBoundary-before_ascii text (length xs) long ascii)) in
    let second : IsUtf8 ys = subst IsUtf8 (drop-append-add xs (47 ∷ ys) 1) (IsUtf8-drop text (length xs + 1) whole.utf8 (IsCharBoundary-after_ascii text (length xs) whole.utf8 long ascii)) in
    let lines = and_parts (is_line_text xs) (is_line_text (47 ∷ ys)) (sym (is_line_text-append xs (47 ∷ ys) first) ∙ whole.line) in
    let last = and_parts (is_line_text (47 ∷ [])) (is_line_text ys) (sym (is_line_text-append (47 ∷ []) ys slash_is_utf8) ∙ lines.1) in
    (record { utf8 = first; line = lines.0 }, record { utf8 = second; line = last.1 })

-- what stands before the first part
onto : List ℕ → List (List ℕ) → List (List ℕ)
onto before [] = before ∷ []
onto before (part ∷ parts) = (before ++ part) ∷ parts

-- each part of a line is a line
lines_of_parts : (before text : List ℕ) → IsLine (before ++ text) → AllByRecursion IsLine (onto before (parts_of text))
unfolding onto
lines_of_parts before [] whole = (whole, tt)
lines_of_parts before (c ∷ cs) whole = each (c == 47) refl (λ front. lines_of_parts front cs)
  where
    at_slash : (l : List (List ℕ)) → IsLine before → AllByRecursion IsLine (onto [] l) → AllByRecursion IsLine ((before ++ []) ∷ l)
    at_slash [] first later = (subst IsLine (sym (append-nil before)) first, tt)
    at_slash (y ∷ ys) first later = (subst IsLine (sym (append-nil before)) first, later)

    more : (l : List (List ℕ)) → AllByRecursion IsLine (onto (before ++ c ∷ []) l) → AllByRecursion IsLine (onto before (onto_first c l))
    more [] later = later
    more (y ∷ ys) later = (subst IsLine (append_assoc before (c ∷ []) y) later.0, later.1)

    each : (b : Bool) → (c == 47) ≡ b → ((front : List ℕ) → IsLine (front ++ cs) → AllByRecursion IsLine (onto front (parts_of cs)))
        → AllByRecursion IsLine (onto before (cond b ([] ∷ parts_of cs) (onto_first c (parts_of cs))))
    each true e later =
        let is : c ≡ 47 = eqb-true c 47 e in
        let sides = IsLine-cut before cs (subst (λ (d : ℕ). IsLine (before ++ d ∷ cs)) is whole) in
        at_slash (parts_of cs) sides.0 (later [] sides.1)
    each false e later = more (parts_of cs) (later (before ++ c ∷ []) (subst IsLine (sym (append_assoc before (c ∷ []) cs)) whole))

-- ---- the parts that count

-- a step of a folder
record IsStep (part : List ℕ) : Type 0 where
  line : IsLine part
  no_slash : NoSlash part
  steps : counts part ≡ true
  not_up : bytes_eq part (codes "..") ≡ false

unput : (l : List (List ℕ)) → AllByRecursion IsLine (onto [] l) → AllByRecursion IsLine l
unfolding onto
unput [] all = tt
unput (y ∷ ys) all = all

-- the parts that count, of a line that does not go up, are steps
steps_of_parts : (parts : List (List ℕ)) → AllByRecursion IsLine parts → AllByRecursion NoSlash parts → goes_up parts ≡ false → AllByRecursion IsStep (filter counts parts)
steps_of_parts [] lines slashes up = tt
steps_of_parts (part ∷ parts) lines slashes up =
    each (counts part) refl (steps_of_parts parts lines.1 slashes.1 (or_parts (bytes_eq part (codes "..")) (goes_up parts) up).1)
  where
    each : (b : Bool) → counts part ≡ b → AllByRecursion IsStep (filter counts parts) → AllByRecursion IsStep (cond b (part ∷ filter counts parts) (filter counts parts))
    each true e later = (record { line = lines.0; no_slash = slashes.0; steps = e; not_up = (or_parts (bytes_eq part (codes "..")) (goes_up parts) up).0 }, later)
    each false e later = later

filter-steps : (parts : List (List ℕ)) → AllByRecursion IsStep parts → filter counts parts ≡ parts
filter-steps [] all = refl
filter-steps (part ∷ parts) all =
    ap (λ (b : Bool). cond b (part ∷ filter counts parts) (filter counts parts)) all.0.steps ∙ ap (λ (l : List (List ℕ)). part ∷ l) (filter-steps parts all.1)

goes_up-steps : (parts : List (List ℕ)) → AllByRecursion IsStep parts → goes_up parts ≡ false
goes_up-steps [] all = refl
goes_up-steps (part ∷ parts) all = ap (λ (b : Bool). b || goes_up parts) all.0.not_up ∙ goes_up-steps parts all.1

no_slashes : (parts : List (List ℕ)) → AllByRecursion IsStep parts → AllByRecursion NoSlash parts
no_slashes [] all = tt
no_slashes (part ∷ parts) all = (all.0.no_slash, no_slashes parts all.1)

line_of_steps : (part : List ℕ) (parts : List (List ℕ)) → AllByRecursion IsStep (part ∷ parts) → IsLine (join_with_byte 47 (part ∷ parts))
line_of_steps part [] all = all.0.line
line_of_steps part (next ∷ more) all = IsLine-joined part (join_with_byte 47 (next ∷ more)) all.0.line (line_of_steps next more all.1)

-- ---- the text of steps

-- a line that does not go up names a folder
folder_of-line : (c : ℕ) (cs : List ℕ) (rooted : Bool) (steps : List (List ℕ)) → is_line_text (c ∷ cs) ≡ true → goes_up (parts_of (c ∷ cs)) ≡ false
    → (c == 47) ≡ rooted → filter counts (parts_of (c ∷ cs)) ≡ steps → folder_of (c ∷ cs) ≡ Some (folder_text rooted steps)
folder_of-line c cs rooted steps line up root are =
    ap (λ (b : Bool). cond (not b || goes_up (parts_of (c ∷ cs))) None (Some (folder_text (is_rooted (c ∷ cs)) (filter counts (parts_of (c ∷ cs)))))) line
    ∙ ap (λ (b : Bool). cond b None (Some (folder_text (is_rooted (c ∷ cs)) (filter counts (parts_of (c ∷ cs)))))) up
    ∙ ap (λ (b : Bool). Some (folder_text b (filter counts (parts_of (c ∷ cs))))) root
    ∙ ap (λ (l : List (List ℕ)). Some (folder_text rooted l)) are

-- the empty text is a line
pub empty_is_line : is_line_text [] ≡ true
unfolding chars
empty_is_line = refl

reads_rooted : (part : List ℕ) (parts : List (List ℕ)) → AllByRecursion IsStep (part ∷ parts) → folder_of (folder_text true (part ∷ parts)) ≡ Some (folder_text true (part ∷ parts))
reads_rooted part parts all =
    let text = join_with_byte 47 (part ∷ parts) in
    let are : parts_of text ≡ part ∷ parts = parts_of-join_with_byte part parts (no_slashes (part ∷ parts) all) in
    let line = IsLine-joined [] text (record { utf8 = ([], (refl, refl)); line = empty_is_line }) (line_of_steps part parts all) in
    folder_of-line 47 text true (part ∷ parts) line.line (ap goes_up are ∙ goes_up-steps (part ∷ parts) all) refl (ap (filter counts) are ∙ filter-steps (part ∷ parts) all)

-- a text of steps begins with a byte that is no slash
begins : (part : List ℕ) (parts : List (List ℕ)) → AllByRecursion IsStep (part ∷ parts) → (c : ℕ) × (cs : List ℕ) × (join_with_byte 47 (part ∷ parts) ≡ c ∷ cs) × ((c == 47) ≡ false)
begins [] parts all = let no : false ≡ true = all.0.steps in cc no
begins (c ∷ cs) [] all = (c, cs, refl, (or_parts (c == 47) (list_any (λ d. d == 47) cs) all.0.no_slash).0)
begins (c ∷ cs) (next ∷ more) all = (c, cs ++ 47 ∷ join_with_byte 47 (next ∷ more), refl, (or_parts (c == 47) (list_any (λ d. d == 47) cs) all.0.no_slash).0)

reads_plain : (part : List ℕ) (parts : List (List ℕ)) → AllByRecursion IsStep (part ∷ parts) → folder_of (folder_text false (part ∷ parts)) ≡ Some (folder_text false (part ∷ parts))
reads_plain part parts all =
    let are : parts_of (join_with_byte 47 (part ∷ parts)) ≡ part ∷ parts = parts_of-join_with_byte part parts (no_slashes (part ∷ parts) all) in
    let start = begins part parts all in
    let line : is_line_text (start.0 ∷ start.1) ≡ true = ap is_line_text (sym start.2) ∙ (line_of_steps part parts all).line in
    let same : parts_of (start.0 ∷ start.1) ≡ part ∷ parts = ap parts_of (sym start.2) ∙ are in
    ap folder_of start.2
    ∙ folder_of-line start.0 start.1 false (part ∷ parts) line (ap goes_up same ∙ goes_up-steps (part ∷ parts) all) start.3 (ap (filter counts) same ∙ filter-steps (part ∷ parts) all)

reads : (rooted : Bool) (parts : List (List ℕ)) → AllByRecursion IsStep parts → folder_text rooted parts ≢ [] → folder_of (folder_text rooted parts) ≡ Some (folder_text rooted parts)
unfolding chars
reads true [] all some = refl
reads false [] all some = absurd (some refl)
reads true (part ∷ parts) all some = reads_rooted part parts all
reads false (part ∷ parts) all some = reads_plain part parts all

-- the text of a folder, where it is not empty, names that folder
pub folder_of-folder : (word folder : List ℕ) → IsUtf8 word → folder_of word ≡ Some folder → folder ≢ [] → folder_of folder ≡ Some folder
folder_of-folder [] folder utf8 e some = absurd (cc e)
folder_of-folder (c ∷ cs) folder utf8 e some = each (is_line_text (c ∷ cs)) refl (goes_up (parts_of (c ∷ cs))) refl e
  where
    text : List ℕ
    text = folder_text (c == 47) (filter counts (parts_of (c ∷ cs)))

    each : (a : Bool) → is_line_text (c ∷ cs) ≡ a → (b : Bool) → goes_up (parts_of (c ∷ cs)) ≡ b
        → cond (not a || b) None (Some (folder_text (c == 47) (filter counts (parts_of (c ∷ cs))))) ≡ Some folder → folder_of folder ≡ Some folder
    each false line b up e = absurd (cc e)
    each true line true up e = absurd (cc e)
    each true line false up e =
        let is : folder_text (c == 47) (filter counts (parts_of (c ∷ cs))) ≡ folder = cc e in
        let lines = unput (parts_of (c ∷ cs)) (lines_of_parts [] (c ∷ cs) (record { utf8 = utf8; line = line })) in
        let all = steps_of_parts (parts_of (c ∷ cs)) lines (NoSlash-parts_of (c ∷ cs)) up in
        subst (λ (t : List ℕ). folder_of t ≡ Some t) is (reads (c == 47) (filter counts (parts_of (c ∷ cs))) all (λ none. some (sym is ∙ none)))
