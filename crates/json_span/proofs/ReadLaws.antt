-- What the code has read so far, step by step.
use Rattle.std.proofs.Common.{◌≡◌, ℕ, suc, ◌+◌, ◌-◌, ◌<◌, ◌≤◌, Bool, true, false, cond, List, [], ◌∷◌, ◌++◌, length, take, drop, Option, Some, None, refl, sym, ap, subst, ◌∙◌, append_assoc, arith, drop-cons, length-drop, get_or, map}
use Rattle.std.proofs.Math.Seq.{take-suc, drop-length}
use Rattle.std.proofs.lemmas.List.{append-nil}
use Rattle.std.specs.Option.{option_map}
use Rattle.json_span.specs.Machine.{◌>>=◌, State, step, start, run, read, split_of, within, marked, finished, also, is_done, no_marks}
use Rattle.json_span.specs.Stops.{StopsAt}
use Rattle.json_span.proofs.BasicLaws.{bind_twice, map_none}
use Rattle.json_span.specs.declared.Member.{Member}
use Rattle.json_span.specs.declared.state.Kind.{Kind}
use Rattle.json_span.specs.declared.marks.Marks.{Marks}
use Rattle.json_span.specs.declared.marks.Within.{Within}

-- A front of the text is read: these parts are met, and what is left completes them to the text's split.
pub record HasRead (P : Type 0) (f : Member → P) (k : Kind) (text : List ℕ) (place : ℕ) (met : List P) (s : State) (m : Marks) : Type 0 where
  pub begun : m.from ≤ place
  pub reads : option_map (λ rest. met ++ map f rest) (read (length text) s m (drop place text)) ≡ option_map (map f) (split_of k text)
  pub taken : run (start k) (take place text) ≡ Some s

-- ---- states

run_last : (front : List ℕ) (b : ℕ) (s : State) → run s (front ++ b ∷ []) ≡ (run s front >>= λ t. step t.at t.kinds t.room b)
unfolding run
run_last [] b s = once (step s.at s.kinds s.room b)
  where
    once : (o : Option State) → (o >>= λ t. Some t) ≡ o
    once None = refl
    once (Some t) = refl
run_last (x ∷ xs) b s = bind_twice (step s.at s.kinds s.room x) (λ t. run t (xs ++ b ∷ [])) (λ t. run t xs) (λ t. step t.at t.kinds t.room b) (λ t. run_last xs b t)

run_next : (text : List ℕ) (place : ℕ) (s t : State) → place < length text → run s (take place text) ≡ Some t → run s (take (place + 1) text) ≡ step t.at t.kinds t.room (get_or text place 0)
run_next text place s t lt e =
    let n : place + 1 ≡ suc place = omega arith in
    ap (λ (x : ℕ). run s (take x text)) n ∙ ap (run s) (take-suc text place 0 lt) ∙ run_last (take place text) (get_or text place 0) s ∙ ap (λ (o : Option State). o >>= λ (x : State). step x.at x.kinds x.room (get_or text place 0)) e

-- ---- parts

-- the part that a step finishes, at the end of those that are met
abbrev pub gained : {P : Type 0} → (Member → P) → List P → Option Member → List P
gained f met None = met
gained f met (Some m) = met ++ f m ∷ []

gained_rest : (P : Type 0) (f : Member → P) (met : List P) (o : Option Member) (r : Option (List Member)) → option_map (λ rest. met ++ map f rest) (option_map (also o) r) ≡ option_map (λ rest. gained f met o ++ map f rest) r
gained_rest P f met None None = refl
gained_rest P f met None (Some ms) = refl
gained_rest P f met (Some m) None = refl
gained_rest P f met (Some m) (Some ms) = ap (λ (x : List P). Some x) (sym (append_assoc met (f m ∷ []) (map f ms)))

-- What is read at a byte, where a step is taken.
pub read_on : (n : ℕ) (s t : State) (m : Marks) (b : ℕ) (bs : List ℕ) → step s.at s.kinds s.room b ≡ Some t
    → read n s m (b ∷ bs) ≡ option_map (also (finished (n - length (b ∷ bs)) (n - length bs) (within s.at s.kinds) (within t.at t.kinds) m)) (read n t (marked (n - length (b ∷ bs)) (n - length bs) (within s.at s.kinds) (within t.at t.kinds) m) bs)
unfolding read
read_on n s t m b bs e = rw e refl

read_stuck : (n : ℕ) (s : State) (m : Marks) (b : ℕ) (bs : List ℕ) → step s.at s.kinds s.room b ≡ None → read n s m (b ∷ bs) ≡ None
unfolding read
read_stuck n s m b bs e = rw e refl

-- Before a text nothing is read.
pub has_begun : (P : Type 0) (f : Member → P) (k : Kind) (text : List ℕ) → HasRead P f k text 0 [] (start k) no_marks
unfolding run split_of
has_begun P f k text = record { begun = omega arith; reads = whole (read (length text) (start k) no_marks text); taken = refl }
  where
    whole : (o : Option (List Member)) → option_map (λ rest. [] ++ map f rest) o ≡ option_map (map f) o
    whole None = refl
    whole (Some ms) = refl

has_next : (P : Type 0) (f : Member → P) (k : Kind) (text : List ℕ) (place : ℕ) (met : List P) (s t : State) (m : Marks)
    → place < length text
    → HasRead P f k text place met s m
    → step s.at s.kinds s.room (get_or text place 0) ≡ Some t
    → (marked place (place + 1) (within s.at s.kinds) (within t.at t.kinds) m).from ≤ place + 1
    → HasRead P f k text (place + 1) (gained f met (finished place (place + 1) (within s.at s.kinds) (within t.at t.kinds) m)) t (marked place (place + 1) (within s.at s.kinds) (within t.at t.kinds) m)
has_next P f k text place met s t m lt has e begun =
    let n : suc place ≡ place + 1 = omega arith in
    let b = get_or text place 0 in
    let rest : List ℕ = drop (place + 1) text in
    let cons : drop place text ≡ b ∷ rest = drop-cons text place 0 lt ∙ ap (λ (x : ℕ). b ∷ drop x text) n in
    let here : length text - length (b ∷ rest) ≡ place = omega (arith, sym (ap length cons), length-drop place text) in
    let next : length text - length rest ≡ place + 1 = omega (arith, length-drop (place + 1) text) in
    let w = within s.at s.kinds in
    let v = within t.at t.kinds in
    let on : read (length text) s m (drop place text) ≡ option_map (also (finished place (place + 1) w v m)) (read (length text) t (marked place (place + 1) w v m) rest) =
    ap (read (length text) s m) cons ∙ read_on (length text) s t m b rest e
    ∙ ap (λ (x : ℕ). option_map (also (finished x (length text - length rest) w v m)) (read (length text) t (marked x (length text - length rest) w v m) rest)) here
    ∙ ap (λ (x : ℕ). option_map (also (finished place x w v m)) (read (length text) t (marked place x w v m) rest)) next in
    record {
      begun = begun;
      reads = sym (gained_rest P f met (finished place (place + 1) w v m) (read (length text) t (marked place (place + 1) w v m) rest)) ∙ ap (λ (o : Option (List Member)). option_map (λ x. met ++ map f x) o) (sym on) ∙ has.reads;
      taken = run_next text place (start k) s lt has.taken ∙ e;
    }

-- One byte further one byte more is read.
pub has_gone_on : (P : Type 0) (f : Member → P) (k : Kind) (text : List ℕ) (place : ℕ) (met met2 : List P) (s t : State) (m m2 : Marks) (before after : Within) (o : Option Member)
    → place < length text
    → HasRead P f k text place met s m
    → Some t ≡ step s.at s.kinds s.room (get_or text place 0)
    → before ≡ within s.at s.kinds
    → after ≡ within t.at t.kinds
    → o ≡ finished place (place + 1) before after m
    → m2 ≡ marked place (place + 1) before after m
    → m2.from ≤ place + 1
    → met2 ≡ gained f met o
    → HasRead P f k text (place + 1) met2 t m2
has_gone_on P f k text place met met2 s t m m2 before after o lt has e eb ea eo em begun e2 =
    let marks : m2 ≡ marked place (place + 1) (within s.at s.kinds) (within t.at t.kinds) m = em ∙ ap (λ (w : Within). marked place (place + 1) w after m) eb ∙ ap (λ (w : Within). marked place (place + 1) (within s.at s.kinds) w m) ea in
    let part : o ≡ finished place (place + 1) (within s.at s.kinds) (within t.at t.kinds) m = eo ∙ ap (λ (w : Within). finished place (place + 1) w after m) eb ∙ ap (λ (w : Within). finished place (place + 1) (within s.at s.kinds) w m) ea in
    subst (λ (x : List P). HasRead P f k text (place + 1) x t m2) (sym (e2 ∙ ap (gained f met) part))
    (subst (λ (x : Marks). HasRead P f k text (place + 1) (gained f met (finished place (place + 1) (within s.at s.kinds) (within t.at t.kinds) m)) t x) (sym marks)
    (has_next P f k text place met s t m lt has (sym e) (subst (λ (x : Marks). x.from ≤ place + 1) marks begun)))

-- ---- the ends

-- Where a step is refused the machine stops.
pub has_stopped : (P : Type 0) (f : Member → P) (k : Kind) (text : List ℕ) (place : ℕ) (met : List P) (s : State) (m : Marks) → place < length text → HasRead P f k text place met s m → None ≡ step s.at s.kinds s.room (get_or text place 0) → StopsAt k text place
has_stopped P f k text place met s m lt has e =
    let b = get_or text place 0 in
    let stuck : read (length text) s m (drop place text) ≡ None = ap (read (length text) s m) (drop-cons text place 0 lt) ∙ read_stuck (length text) s m b (drop (suc place) text) (sym e) in
    record {
      within = omega arith;
      no_split = map_none (map f) (split_of k text) (sym has.reads ∙ ap (λ (o : Option (List Member)). option_map (λ x. met ++ map f x) o) stuck);
      state = s;
      taken = has.taken;
      stuck = λ _. run_next text place (start k) s lt has.taken ∙ sym e;
    }

read_ended : (n : ℕ) (s : State) (m : Marks) (done : Bool) → is_done s.at s.kinds ≡ done → read n s m [] ≡ cond done (Some []) None
unfolding read
read_ended n s m done e = rw e refl

ended : (P : Type 0) (f : Member → P) (k : Kind) (text : List ℕ) (met : List P) (s : State) (m : Marks) (done : Bool) → HasRead P f k text (length text) met s m → is_done s.at s.kinds ≡ done → option_map (λ rest. met ++ map f rest) (cond done (Some []) None) ≡ option_map (map f) (split_of k text)
ended P f k text met s m done has e = ap (λ (o : Option (List Member)). option_map (λ rest. met ++ map f rest) o) (sym (ap (read (length text) s m) (drop-length text) ∙ read_ended (length text) s m done e)) ∙ has.reads

at_end : (P : Type 0) (f : Member → P) (k : Kind) (text : List ℕ) (place : ℕ) (met : List P) (s : State) (m : Marks) → length text ≤ place → place ≤ length text → HasRead P f k text place met s m → HasRead P f k text (length text) met s m
at_end P f k text place met s m le ge has = let e : place ≡ length text = omega arith in subst (λ (x : ℕ). HasRead P f k text x met s m) e has

-- At the end of a whole list its parts are those that were met.
pub has_found : (P : Type 0) (f : Member → P) (k : Kind) (text : List ℕ) (place : ℕ) (met : List P) (s : State) (m : Marks) → length text ≤ place → place ≤ length text → HasRead P f k text place met s m → true ≡ is_done s.at s.kinds → option_map (map f) (split_of k text) ≡ Some met
has_found P f k text place met s m le ge has e = sym (ended P f k text met s m true (at_end P f k text place met s m le ge has) (sym e)) ∙ ap (λ (x : List P). Some x) (append-nil met)

-- At the end of a list that is open there is no split.
pub has_failed : (P : Type 0) (f : Member → P) (k : Kind) (text : List ℕ) (place : ℕ) (met : List P) (s : State) (m : Marks) → length text ≤ place → place ≤ length text → HasRead P f k text place met s m → false ≡ is_done s.at s.kinds → StopsAt k text (length text)
has_failed P f k text place met s m le ge has e = let h = at_end P f k text place met s m le ge has in record {
  within = omega arith;
  no_split = map_none (map f) (split_of k text) (sym (ended P f k text met s m false h (sym e)));
  state = s;
  taken = h.taken;
  stuck = λ lt. absurd (omega arith);
}
