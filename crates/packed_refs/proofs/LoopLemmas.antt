-- A text's refs by its first line and the rest, and what loops over the lines have so far.
use Rattle.std.proofs.Common.{◌≡◌, ℕ, ◌==◌, length, Bool, true, false, cond, List, [], ◌∷◌, ◌++◌, Bor, Option, Some, None, option_and_then, refl, sym, ◌∙◌, ap, append_assoc}
use Rattle.std.specs.Prelude.{is_some}
use Rattle.std.specs.List.{cons_option}
use Rattle.std.specs.Option.{option_map}
use Rattle.std.specs.Str.{bytes_eq}
use Rattle.std.proofs.lemmas.Bool.{eqb-true}
use Rattle.std.proofs.lemmas.List.{append-nil, nil_from_length}
use Rattle.gb_text.specs.declared.id.Id.{Id}
use Rattle.gb_text.specs.declared.id.Name.{Name}
use Rattle.packed_refs.specs.Lines.{lines_of}
use Rattle.packed_refs.specs.Packed.{PackedLine, PackedRef, head_in, head_of, heads_in, id_below, is_packed, last_head, line_is, or_none, packed_line, packed_refs, refs_in, refs_of_lines, with_line}
use Rattle.packed_refs.specs.declared.line.Line.{Line}
use Rattle.packed_refs.specs.declared.line.Line.TheVariants as code
use Rattle.packed_refs.specs.declared.packed.PackedHead.{PackedHead}

-- the refs of a line as it was read and of the lines after it
abbrev pub refs_with : Option Line → Option (List PackedRef) → Option (List PackedRef)
refs_with read refs = option_and_then (λ one. option_map (with_line one) refs) (option_map line_is read)

-- a text's refs are those of its first line and of the rest
pub refs_step : (text line rest : List ℕ) (read : Option Line) → lines_of text ≡ line ∷ lines_of rest → option_map line_is read ≡ packed_line line
    → packed_refs text ≡ refs_with read (packed_refs rest)
unfolding refs_of_lines
refs_step text line rest read cut is =
    ap refs_of_lines cut ∙ ap (λ (o : Option PackedLine). option_and_then (λ one. option_map (with_line one) (packed_refs rest)) o) (sym is)

refs_nil : packed_refs [] ≡ Some []
unfolding refs_of_lines lines_of
refs_nil = refl

-- ---- whether a text is packed

packed_cases : (read : Option Line) (refs : Option (List PackedRef)) → is_some read ≡ true → is_some (refs_with read refs) ≡ is_some refs
packed_cases None refs some = absurd cc
packed_cases (Some line) None some = refl
packed_cases (Some line) (Some refs) some = refl

unpacked : (read : Option Line) (refs : Option (List PackedRef)) → is_some read ≡ false → is_some (refs_with read refs) ≡ false
unpacked None refs none = refl
unpacked (Some line) refs none = absurd cc

pub packed_on : (text line rest : List ℕ) (read : Option Line) → lines_of text ≡ line ∷ lines_of rest → option_map line_is read ≡ packed_line line
    → is_some read ≡ true → is_packed rest ≡ is_packed text
packed_on text line rest read cut is some = sym (ap is_some (refs_step text line rest read cut is) ∙ packed_cases read (packed_refs rest) some)

pub packed_not : (text line rest : List ℕ) (read : Option Line) → lines_of text ≡ line ∷ lines_of rest → option_map line_is read ≡ packed_line line
    → is_some read ≡ false → is_packed text ≡ false
packed_not text line rest read cut is none = ap is_some (refs_step text line rest read cut is) ∙ unpacked read (packed_refs rest) none

pub packed_nil : is_packed [] ≡ true
packed_nil = ap is_some refs_nil

-- ---- the head of a name

-- the head after refs, if there are any to follow
abbrev head_then : List ℕ → Option Name → Option (List PackedRef) → Option Name
head_then name found None = None
head_then name found (Some refs) = last_head name found refs

-- the head after the refs of a text
abbrev pub head_from : List ℕ → Option Name → List ℕ → Option Name
head_from name found text = head_then name found (packed_refs text)

pub head_start : (name text : List ℕ) → head_from name None text ≡ head_of name (refs_in text)
unfolding last_head
head_start name text = each (packed_refs text)
  where
    each : (refs : Option (List PackedRef)) → head_then name None refs ≡ head_of name (or_none refs)
    each None = refl
    each (Some refs) = refl

pub head_end : (name : List ℕ) (found : Option Name) (rest : List ℕ) → rest ≡ [] → head_from name found rest ≡ found
unfolding last_head
head_end name found rest none = ap (λ (text : List ℕ). head_from name found text) none ∙ ap (head_then name found) refs_nil

pub head_bad : (name : List ℕ) (found : Option Name) (text line rest : List ℕ) (read : Option Line) → lines_of text ≡ line ∷ lines_of rest
    → option_map line_is read ≡ packed_line line → read ≡ None → head_from name found text ≡ None
head_bad name found text line rest read cut is none =
    ap (head_then name found) (refs_step text line rest read cut is ∙ ap (λ (o : Option Line). refs_with o (packed_refs rest)) none)

pub head_note : (name : List ℕ) (found : Option Name) (text line rest : List ℕ) (read : Option Line) → lines_of text ≡ line ∷ lines_of rest
    → option_map line_is read ≡ packed_line line → read ≡ Some code.Note → head_from name found text ≡ head_from name found rest
head_note name found text line rest read cut is note =
    ap (head_then name found) (refs_step text line rest read cut is ∙ ap (λ (o : Option Line). refs_with o (packed_refs rest)) note) ∙ each (packed_refs rest)
  where
    each : (refs : Option (List PackedRef)) → head_then name found (refs_with (Some code.Note) refs) ≡ head_then name found refs
    each None = refl
    each (Some refs) = refl

pub head_ref : (name : List ℕ) (found : Option Name) (text line rest : List ℕ) (read : Option Line) (other : Bor (List ℕ)) (head : Name) → lines_of text ≡ line ∷ lines_of rest
    → option_map line_is read ≡ packed_line line → read ≡ Some (code.Ref other head)
    → head_from name found text ≡ head_from name (cond (bytes_eq other.now name) (Some head) found) rest
unfolding last_head
head_ref name found text line rest read other head cut is ref =
    ap (head_then name found) (refs_step text line rest read cut is ∙ ap (λ (o : Option Line). refs_with o (packed_refs rest)) ref) ∙ each (packed_refs rest)
  where
    each : (refs : Option (List PackedRef)) → head_then name found (refs_with (Some (code.Ref other head)) refs) ≡ head_then name (cond (bytes_eq other.now name) (Some head) found) refs
    each None = refl
    each (Some refs) = refl

-- ---- the heads in a dir

-- the heads so far and those of refs, if there are any to follow
abbrev heads_then : List ℕ → List PackedHead → Option (List PackedRef) → List PackedHead
heads_then dir heads None = []
heads_then dir heads (Some refs) = heads ++ heads_in dir refs

-- the heads so far and those of a text
abbrev pub heads_from : List ℕ → List PackedHead → List ℕ → List PackedHead
heads_from dir heads text = heads_then dir heads (packed_refs text)

pub heads_start : (dir text : List ℕ) → heads_from dir [] text ≡ heads_in dir (refs_in text)
heads_start dir text = each (packed_refs text)
  where
    each : (refs : Option (List PackedRef)) → heads_then dir [] refs ≡ heads_in dir (or_none refs)
    each None = refl
    each (Some refs) = refl

pub heads_end : (dir : List ℕ) (heads : List PackedHead) (rest : List ℕ) → rest ≡ [] → heads_from dir heads rest ≡ heads
heads_end dir heads rest none = ap (λ (text : List ℕ). heads_from dir heads text) none ∙ ap (heads_then dir heads) refs_nil ∙ append-nil heads

pub heads_bad : (dir : List ℕ) (heads : List PackedHead) (text line rest : List ℕ) (read : Option Line) → lines_of text ≡ line ∷ lines_of rest
    → option_map line_is read ≡ packed_line line → read ≡ None → heads_from dir heads text ≡ []
heads_bad dir heads text line rest read cut is none =
    ap (heads_then dir heads) (refs_step text line rest read cut is ∙ ap (λ (o : Option Line). refs_with o (packed_refs rest)) none)

pub heads_note : (dir : List ℕ) (heads : List PackedHead) (text line rest : List ℕ) (read : Option Line) → lines_of text ≡ line ∷ lines_of rest
    → option_map line_is read ≡ packed_line line → read ≡ Some code.Note → heads_from dir heads text ≡ heads_from dir heads rest
heads_note dir heads text line rest read cut is note =
    ap (heads_then dir heads) (refs_step text line rest read cut is ∙ ap (λ (o : Option Line). refs_with o (packed_refs rest)) note) ∙ each (packed_refs rest)
  where
    each : (refs : Option (List PackedRef)) → heads_then dir heads (refs_with (Some code.Note) refs) ≡ heads_then dir heads refs
    each None = refl
    each (Some refs) = refl

pub heads_ref : (dir : List ℕ) (heads : List PackedHead) (text line rest : List ℕ) (read : Option Line) (name : Bor (List ℕ)) (head : Name) → lines_of text ≡ line ∷ lines_of rest
    → option_map line_is read ≡ packed_line line → read ≡ Some (code.Ref name head)
    → heads_from dir heads text ≡ heads_from dir (heads ++ cons_option (head_in dir (record { name = name.now; head = head })) []) rest
heads_ref dir heads text line rest read name head cut is ref =
    ap (heads_then dir heads) (refs_step text line rest read cut is ∙ ap (λ (o : Option Line). refs_with o (packed_refs rest)) ref) ∙ each (packed_refs rest)
  where
    added : (o : Option PackedHead) (more : List PackedHead) → heads ++ cons_option o more ≡ heads ++ cons_option o [] ++ more
    added None more = ap (λ (hs : List PackedHead). hs ++ more) (sym (append-nil heads))
    added (Some one) more = sym (append_assoc heads (one ∷ []) more)

    each : (refs : Option (List PackedRef))
        → heads_then dir heads (refs_with (Some (code.Ref name head)) refs) ≡ heads_then dir (heads ++ cons_option (head_in dir (record { name = name.now; head = head })) []) refs
    each None = refl
    each (Some refs) = added (head_in dir (record { name = name.now; head = head })) (heads_in dir refs)

-- with an id below the dir there is one more
pub heads_entry : (dir : List ℕ) (heads : List PackedHead) (text line rest : List ℕ) (read : Option Line) (name : Bor (List ℕ)) (head : Name) (id : Id) → lines_of text ≡ line ∷ lines_of rest
    → option_map line_is read ≡ packed_line line → read ≡ Some (code.Ref name head) → id_below dir name.now ≡ Some id
    → heads_from dir heads text ≡ heads_from dir (heads ++ record { id = id; head = head } ∷ []) rest
heads_entry dir heads text line rest read name head id cut is ref below =
    heads_ref dir heads text line rest read name head cut is ref
    ∙ ap (λ (o : Option Id). heads_from dir (heads ++ cons_option (option_map (λ i. record { id = i; head = head }) o) []) rest) below

-- and without one there is none
pub heads_other : (dir : List ℕ) (heads : List PackedHead) (text line rest : List ℕ) (read : Option Line) (name : Bor (List ℕ)) (head : Name) → lines_of text ≡ line ∷ lines_of rest
    → option_map line_is read ≡ packed_line line → read ≡ Some (code.Ref name head) → id_below dir name.now ≡ None
    → heads_from dir heads text ≡ heads_from dir heads rest
heads_other dir heads text line rest read name head cut is ref below =
    heads_ref dir heads text line rest read name head cut is ref
    ∙ ap (λ (o : Option Id). heads_from dir (heads ++ cons_option (option_map (λ i. record { id = i; head = head }) o) []) rest) below
    ∙ ap (λ (hs : List PackedHead). heads_from dir hs rest) (append-nil heads)

-- ---- all refs

-- the refs so far and those of a text, if there are any to follow
abbrev refs_then : List PackedRef → Option (List PackedRef) → List PackedRef
refs_then refs None = []
refs_then refs (Some more) = refs ++ more

-- the refs so far and those of a text
abbrev pub refs_from : List PackedRef → List ℕ → List PackedRef
refs_from refs text = refs_then refs (packed_refs text)

pub refs_start : (text : List ℕ) → refs_from [] text ≡ refs_in text
refs_start text = each (packed_refs text)
  where
    each : (refs : Option (List PackedRef)) → refs_then [] refs ≡ or_none refs
    each None = refl
    each (Some refs) = refl

pub refs_end : (refs : List PackedRef) (rest : List ℕ) → rest ≡ [] → refs_from refs rest ≡ refs
refs_end refs rest none = ap (refs_from refs) none ∙ ap (refs_then refs) refs_nil ∙ append-nil refs

pub refs_bad : (refs : List PackedRef) (text line rest : List ℕ) (read : Option Line) → lines_of text ≡ line ∷ lines_of rest
    → option_map line_is read ≡ packed_line line → read ≡ None → refs_from refs text ≡ []
refs_bad refs text line rest read cut is none =
    ap (refs_then refs) (refs_step text line rest read cut is ∙ ap (λ (o : Option Line). refs_with o (packed_refs rest)) none)

pub refs_note : (refs : List PackedRef) (text line rest : List ℕ) (read : Option Line) → lines_of text ≡ line ∷ lines_of rest
    → option_map line_is read ≡ packed_line line → read ≡ Some code.Note → refs_from refs text ≡ refs_from refs rest
refs_note refs text line rest read cut is note =
    ap (refs_then refs) (refs_step text line rest read cut is ∙ ap (λ (o : Option Line). refs_with o (packed_refs rest)) note) ∙ each (packed_refs rest)
  where
    each : (more : Option (List PackedRef)) → refs_then refs (refs_with (Some code.Note) more) ≡ refs_then refs more
    each None = refl
    each (Some more) = refl

-- with a ref there is one more
pub refs_more : (refs : List PackedRef) (text line rest : List ℕ) (read : Option Line) (name : Bor (List ℕ)) (head : Name) → lines_of text ≡ line ∷ lines_of rest
    → option_map line_is read ≡ packed_line line → read ≡ Some (code.Ref name head)
    → refs_from refs text ≡ refs_from (refs ++ record { name = name.now; head = head } ∷ []) rest
refs_more refs text line rest read name head cut is ref =
    ap (refs_then refs) (refs_step text line rest read cut is ∙ ap (λ (o : Option Line). refs_with o (packed_refs rest)) ref) ∙ each (packed_refs rest)
  where
    each : (more : Option (List PackedRef)) → refs_then refs (refs_with (Some (code.Ref name head)) more) ≡ refs_then (refs ++ record { name = name.now; head = head } ∷ []) more
    each None = refl
    each (Some more) = sym (append_assoc refs (record { name = name.now; head = head } ∷ []) more)

-- no bytes are left where the rest is empty
pub nothing_left : (rest : List ℕ) (empty : Bool) → empty ≡ (length rest == 0) → empty ≡ true → rest ≡ []
nothing_left rest empty is e = nil_from_length rest (eqb-true (length rest) 0 (sym is ∙ e))
