-- The clocks that `new` writes, in their order.
use Rattle.std.proofs.Common.{◌≡◌, ◌<◌, ◌+◌, ◌++◌, ℕ, Bool, List, [], ◌∷◌, Some, sym, ◌∙◌, ap, append_assoc, arith}
use Rattle.std.specs.Prelude.{nat_lt, if◌then◌else◌}
use Rattle.std.specs.Option.{option_map}
use Rattle.std.proofs.lemmas.Bool.{lt-ltb}
use Rattle.repo_steps.proofs.Names.{Id, Files, Change, missing_writes, ref_write, root_time_of, seen_by, CAP, BugOp, clock_at, clock_write, see_writes, ref_place, UserFound, User, ClockFile, Env, addition_head, addition_objects, addition_writes, root_addition, some_id, Addition}
use Rattle.repo_state.specs.declared.clocks.ClockFile.TheVariants as file
use Rattle.repo_state.specs.declared.side.Side.TheVariants as side

-- a clock below the cap that sees the clock of a new root is written one further
one_further : (folder : List ℕ) (which : ClockFile) (clock : ℕ) → clock < CAP → see_writes folder which clock (root_time_of clock) ≡ clock_write folder which (clock + 1) ∷ []
one_further folder which clock below =
    let same : seen_by clock (root_time_of clock) ≡ clock + 1 = omega (arith, below) in
    let rises : clock < clock + 1 = omega arith in
    ap (λ (n : ℕ). if nat_lt clock n then clock_write folder which n ∷ [] else []) same
    ∙ ap (λ (b : Bool). if b then clock_write folder which (clock + 1) ∷ [] else []) (lt-ltb clock (clock + 1) rises)

-- two lists of one write, behind others
two_behind : (objects : List Change) (head one other : Change) (first last : List Change) → first ≡ one ∷ [] → last ≡ other ∷ []
    → objects ++ (head ∷ first ++ last) ≡ (objects ++ head ∷ []) ++ one ∷ other ∷ []
two_behind objects head one other first last first_is last_is =
    let then_one : objects ++ (head ∷ first ++ last) ≡ objects ++ head ∷ one ∷ last = ap (λ (ws : List Change). objects ++ (head ∷ ws ++ last)) first_is in
    let then_other : objects ++ head ∷ one ∷ last ≡ objects ++ head ∷ one ∷ other ∷ [] = ap (λ (ws : List Change). objects ++ head ∷ one ∷ ws) last_is in
    let apart : (objects ++ head ∷ []) ++ one ∷ other ∷ [] ≡ objects ++ head ∷ one ∷ other ∷ [] = append_assoc objects (head ∷ []) (one ∷ other ∷ []) in
    then_one ∙ then_other ∙ sym apart

module _ (env : Env) (files : Files) (op : BugOp) (user : Id) where
  abbrev create : ℕ
  create = clock_at files env.folder file.BugsCreate

  abbrev edit : ℕ
  edit = clock_at files env.folder file.BugsEdit

  abbrev added : UserFound → List Change
  added there = addition_writes env files (option_map (root_addition env.folder files op) (some_id there))

  abbrev a : Addition
  a = root_addition env.folder files op user

  abbrev before : List Change
  before = missing_writes env.folder (addition_objects env.moment.now (Some a)) files ++ ref_write env.folder (ref_place side.Bugs a.bug) (addition_head env.moment.now a) ∷ []

  -- what begins a bug ends with the clock of creations, and then that of edits
  ends : create < CAP → edit < CAP → added (User user) ≡ before ++ clock_write env.folder file.BugsCreate (create + 1) ∷ clock_write env.folder file.BugsEdit (edit + 1) ∷ []
  ends one other = two_behind (missing_writes env.folder (addition_objects env.moment.now (Some a)) files) (ref_write env.folder (ref_place side.Bugs a.bug) (addition_head env.moment.now a))
      (clock_write env.folder file.BugsCreate (create + 1)) (clock_write env.folder file.BugsEdit (edit + 1))
      (see_writes env.folder file.BugsCreate create (root_time_of create)) (see_writes env.folder file.BugsEdit edit (root_time_of edit))
      (one_further env.folder file.BugsCreate create one) (one_further env.folder file.BugsEdit edit other)

  pub clocks_in_order : (there : UserFound) → there ≡ User user → create < CAP → edit < CAP
      → (first : List Change) × (added there ≡ first ++ clock_write env.folder file.BugsCreate (create + 1) ∷ clock_write env.folder file.BugsEdit (edit + 1) ∷ [])
  clocks_in_order there is one other = (before, ap added is ∙ ends one other)
