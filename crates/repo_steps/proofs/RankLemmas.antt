-- Each check of a command has its place in the order of refusals, or tells damage alone. So which check told a refusal follows from its
-- place, and of the causes that hold one that comes first is told.
use Rattle.std.proofs.Common.{◌≡◌, ℕ, zero, suc, ◌≤◌, ◌+◌, ◌⊎◌, ◌&&◌, Bool, true, false, inl, inr, List, [], ◌∷◌, Option, Some, None, refl, sym, ◌∙◌, ap, arith}
use Rattle.std.specs.Prelude.{⊤, nat_le, option_and_then}
use Rattle.std.specs.Option.{option_map}
use Rattle.std.proofs.lemmas.Bool.{leb-true}
use Rattle.std.proofs.lemmas.Option.{same_Some}
use Rattle.repo_steps.proofs.Names.{joined, Id, Files, History, files_of, MOST_BYTES, MOST_COMMITS, create_op, op_id, NoChange, BugOp, Finder, Growth, comment_growth, edit_growth, longer_bug, person_finder, ref_place, user_at, user_entry, user_place, HeadEntry, Side, Missed, addition_objects, bug_reads, clock_room, commit_room, adds_op, later_by, new_operation, root_addition, some_id, AreClear, Check, FirstFails, found, fresh, names, sizes, some_user, user_file, doing_of, new_made, new_objects, user_chain, user_room, Picked, of_missed, of_no_change, Edit, Env, Refusal}
use Rattle.commit_walk.specs.declared.below.TheConstants.{MOST_COMMITS as MOST_VERSIONS}
use Rattle.bug_edits.specs.declared.edit.NoChange.TheVariants as no_change
use Rattle.repo_state.specs.declared.side.Side.TheVariants as side
use Rattle.repo_state.specs.declared.stop.Missed.TheVariants as missed
use Rattle.repo_steps.specs.Ranks.{SomeFails, rank_of}
use Rattle.words.specs.declared.edit.Edit.TheVariants as edit
use Rattle.repo_steps.specs.declared.refusal.Refusal.TheVariants as refusal
use Rattle.repo_steps.proofs.ClearLemmas.{checks_clear}

-- ---- checks with their places

-- a refusal of this check is of this place, if it is not of damage
abbrev Within : Check → Option ℕ → Type 0
Within check place = (r : Refusal) (n : ℕ) → check.Fails r → rank_of r ≡ Some n → Some n ≡ place

-- these checks have these places; none tells damage alone
abbrev pub AreWithin : List Check → List (Option ℕ) → Type 0
AreWithin [] [] = ⊤
AreWithin (check ∷ checks) (place ∷ places) = Within check place × AreWithin checks places
AreWithin _ _ = ⊥

-- ---- which check told a refusal

abbrev same_number : ℕ → ℕ → Bool
same_number zero zero = true
same_number (suc m) (suc n) = same_number m n
same_number _ _ = false

abbrev is_at : ℕ → Option ℕ → Bool
is_at n None = false
is_at n (Some place) = same_number place n

abbrev Or : Bool → Type 0 → Type 0 → Type 0
Or true A B = A ⊎ B
Or false A B = B

-- one of the checks at this place fails with a refusal
abbrev pub FailsAt : ℕ → List Check → List (Option ℕ) → Refusal → Type 0
FailsAt n (check ∷ checks) (place ∷ places) r = Or (is_at n place) (check.Fails r) (FailsAt n checks places r)
FailsAt n _ _ r = ⊥

same_at : (n : ℕ) → same_number n n ≡ true
same_at zero = refl
same_at (suc n) = same_at n

here : (b : Bool) (A B : Type 0) → b ≡ true → A → Or b A B
here true A B is a = inl a
here false A B is a = absurd (cc is)

later : (b : Bool) (A B : Type 0) → B → Or b A B
later true A B b = inr b
later false A B b = b

-- the first that does not pass is at the place of the refusal
pub told_at : (n : ℕ) (checks : List Check) (places : List (Option ℕ)) (r : Refusal) → AreWithin checks places → rank_of r ≡ Some n → FirstFails checks r → FailsAt n checks places r
told_at n [] [] r within is fails = fails
told_at n [] (place ∷ places) r within is fails = fails
told_at n (check ∷ checks) [] r within is fails = absurd within
told_at n (check ∷ checks) (place ∷ places) r within is (inl fails) =
    here (is_at n place) (check.Fails r) (FailsAt n checks places r) (ap (is_at n) (sym (within.0 r n fails is)) ∙ same_at n) fails
told_at n (check ∷ checks) (place ∷ places) r within is (inr rest) =
    later (is_at n place) (check.Fails r) (FailsAt n checks places r) (told_at n checks places r within.1 is rest.1)

-- ---- checks in order

-- the places ascend, from this one
abbrev ascend : ℕ → List (Option ℕ) → Bool
ascend from [] = true
ascend from (None ∷ places) = ascend from places
ascend from (Some place ∷ places) = nat_le from place && ascend place places

both_true : (a b : Bool) → (a && b) ≡ true → (a ≡ true) × (b ≡ true)
both_true true b is = (refl, is)
both_true false b is = absurd (cc is)

-- then none of them fails with a refusal of a place before it
not_before : (from : ℕ) (checks : List Check) (places : List (Option ℕ)) (r : Refusal) (n : ℕ) → AreWithin checks places → ascend from places ≡ true → SomeFails checks r → rank_of r ≡ Some n → from ≤ n
not_before from [] places r n within up fails is = absurd fails
not_before from (check ∷ checks) [] r n within up fails is = absurd within
not_before from (check ∷ checks) (None ∷ places) r n within up (inl fails) is = absurd (cc (within.0 r n fails is))
not_before from (check ∷ checks) (None ∷ places) r n within up (inr rest) is = not_before from checks places r n within.1 up rest is
not_before from (check ∷ checks) (Some place ∷ places) r n within up (inl fails) is =
    omega (arith, leb-true from place (both_true (nat_le from place) (ascend place places) up).0, same_Some n place (within.0 r n fails is))
not_before from (check ∷ checks) (Some place ∷ places) r n within up (inr rest) is =
    let split = both_true (nat_le from place) (ascend place places) up in
    omega (arith, leb-true from place split.0, not_before place checks places r n within.1 split.1 rest is)

-- and the first that does not pass fails with one of a first place
in_order : (from : ℕ) (checks : List Check) (places : List (Option ℕ)) (told other : Refusal) (first last : ℕ) → AreClear checks → AreWithin checks places → ascend from places ≡ true
    → FirstFails checks told → SomeFails checks other → rank_of told ≡ Some first → rank_of other ≡ Some last → first ≤ last
in_order from [] places told other first last clear within up fails also one two = absurd fails
in_order from (check ∷ checks) [] told other first last clear within up fails also one two = absurd within
in_order from (check ∷ checks) (place ∷ places) told other first last clear within up (inl fails) (inl also) one two =
    let same = same_Some first last (within.0 told first fails one ∙ sym (within.0 other last also two)) in omega (arith, same)
in_order from (check ∷ checks) (None ∷ places) told other first last clear within up (inl fails) (inr also) one two = absurd (cc (within.0 told first fails one))
in_order from (check ∷ checks) (Some place ∷ places) told other first last clear within up (inl fails) (inr also) one two =
    let split = both_true (nat_le from place) (ascend place places) up in
    omega (arith, same_Some first place (within.0 told first fails one), not_before place checks places other last within.1 split.1 also two)
in_order from (check ∷ checks) (place ∷ places) told other first last clear within up (inr rest) (inl also) one two = absurd (clear.0.apart other also rest.0)
in_order from (check ∷ checks) (None ∷ places) told other first last clear within up (inr rest) (inr also) one two =
    in_order from checks places told other first last clear.1 within.1 up rest.1 also one two
in_order from (check ∷ checks) (Some place ∷ places) told other first last clear within up (inr rest) (inr also) one two =
    in_order place checks places told other first last clear.1 within.1 (both_true (nat_le from place) (ascend place places) up).1 rest.1 also one two

-- ---- the place of each check

-- what is a refusal of this place is of that place
of_rank : (r s : Refusal) (n : ℕ) (place : Option ℕ) → r ≡ s → rank_of s ≡ place → rank_of r ≡ Some n → Some n ≡ place
of_rank r s n place same ranked is = sym is ∙ ap rank_of same ∙ ranked

module _ (folder : List ℕ) (files : Files) where
  user_file_rank : Within (user_file folder files) None
  user_file_rank r n fails is = of_rank r (refusal.Damaged (joined folder user_place)) n None fails.1 refl is

  some_user_rank : Within (some_user folder files) (Some 3)
  some_user_rank r n fails is = of_rank r refusal.NoUser n (Some 3) fails.1 refl is

  user_chain_rank : Within (user_chain folder files) None
  user_chain_rank r n fails is = of_rank r (refusal.Damaged (joined folder (ref_place side.Identities fails.0))) n None fails.3 refl is

  user_room_rank : Within (user_room folder files) (Some 7)
  user_room_rank r n fails is = of_rank r (refusal.TooLarge (MOST_VERSIONS + 1)) n (Some 7) fails.2 refl is

  fresh_rank : (of : Side) (id : Id) → Within (fresh folder files of id) (Some 8)
  fresh_rank of id r n fails is = of_rank r (refusal.EntityExists id) n (Some 8) fails.1 refl is

-- what finds nothing is of one place, if it is not damaged
missed_rank : (r : Refusal) (n : ℕ) (why : Missed) → r ≡ of_missed why → rank_of r ≡ Some n → Some n ≡ Some 4
missed_rank r n missed.NotFound same is = of_rank r refusal.NotFound n (Some 4) same refl is
missed_rank r n (missed.Ambiguous least next) same is = of_rank r (refusal.Ambiguous least next) n (Some 4) same refl is
missed_rank r n (missed.Damaged path) same is = absurd (cc (of_rank r (refusal.Damaged path) n None same refl is))

found_rank : {T : Type 0} → (finder : Finder T) (value : T) → Within (found finder value) (Some 4)
found_rank finder value r n fails is = missed_rank r n fails.0 fails.2 is

sizes_rank : (texts : List (List ℕ)) → Within (sizes texts) (Some 7)
sizes_rank texts r n fails is = of_rank r (refusal.TooLarge (MOST_BYTES + 1)) n (Some 7) fails.1 refl is

names_rank : (folder : List ℕ) (texts : List (List ℕ)) (old : History) → Within (names folder texts old) (Some 9)
names_rank folder texts old r n fails is = of_rank r (refusal.NameTaken fails.0) n (Some 9) fails.2 refl is

-- an edit that changes nothing is of one place
no_change_rank : (why : NoChange) → rank_of (of_no_change why) ≡ Some 5
no_change_rank no_change.SameStatus = refl
no_change_rank no_change.NoLabelChange = refl

adds_rank : (folder : List ℕ) (files : Files) (growth : Growth) (op : BugOp) → Within (adds_op folder files growth op) (Some 5)
adds_rank folder files growth op r n fails is = of_rank r (of_no_change fails.1) n (Some 5) fails.3 (no_change_rank fails.1) is

module _ (folder : List ℕ) (files : Files) (finder : Finder HeadEntry) where
  bug_reads_rank : (bug : HeadEntry) → Within (bug_reads folder files bug) None
  bug_reads_rank bug r n fails is = of_rank r (refusal.Damaged (joined folder (ref_place side.Bugs bug.id))) n None fails.1 refl is

  clock_room_rank : Within (clock_room folder files finder) (Some 6)
  clock_room_rank r n fails is = of_rank r (refusal.ClockFull fails.0.bug.name) n (Some 6) fails.2 refl is

  commit_room_rank : Within (commit_room folder files finder) (Some 7)
  commit_room_rank r n fails is = of_rank r (refusal.TooLarge (MOST_COMMITS + 1)) n (Some 7) fails.2 refl is

  new_operation_rank : (op : BugOp) → Within (new_operation folder files finder op) (Some 8)
  new_operation_rank op r n fails is = of_rank r (refusal.RepeatedOperation (op_id op)) n (Some 8) fails.2 refl is

-- ---- each command

-- the places of the checks of what adds to a bug
abbrev pub longer_places : List (Option ℕ)
longer_places = None ∷ Some 3 ∷ Some 4 ∷ None ∷ Some 5 ∷ Some 6 ∷ Some 7 ∷ Some 7 ∷ Some 8 ∷ Some 9 ∷ []

-- the places of the checks of a command
abbrev pub places_of : Edit → List (Option ℕ)
places_of (edit.UserNew name email) = None ∷ Some 7 ∷ Some 8 ∷ Some 9 ∷ []
places_of (edit.UserEdit name email) = None ∷ Some 3 ∷ None ∷ Some 7 ∷ Some 7 ∷ Some 9 ∷ []
places_of (edit.UserSet word) = Some 4 ∷ []
places_of (edit.New title message) = None ∷ Some 3 ∷ Some 7 ∷ Some 8 ∷ Some 9 ∷ []
places_of (edit.OfBug word e) = longer_places
places_of (edit.OfComment word message) = longer_places

places_ascend : (command : Edit) → ascend 0 (places_of command) ≡ true
places_ascend (edit.UserNew name email) = refl
places_ascend (edit.UserEdit name email) = refl
places_ascend (edit.UserSet word) = refl
places_ascend (edit.New title message) = refl
places_ascend (edit.OfBug word e) = refl
places_ascend (edit.OfComment word message) = refl

-- the checks of what adds to a bug
longer_within : (env : Env) (growth : Growth) (bug : HeadEntry) (op : BugOp) (old : History) → AreWithin (longer_bug env growth bug op old).checks longer_places
longer_within env growth bug op old =
    (user_file_rank env.folder files, (some_user_rank env.folder files, (found_rank finder bug, (bug_reads_rank env.folder files finder bug, (adds_rank env.folder files growth op, then)))))
  where
    files : Files
    files = files_of old

    finder : Finder HeadEntry
    finder = growth.finder files

    objects : List (List ℕ)
    objects = addition_objects env.moment.now (option_and_then (later_by env.folder files bug op) (some_id (user_at files env.folder)))

    then : AreWithin (clock_room env.folder files finder ∷ commit_room env.folder files finder ∷ sizes objects ∷ new_operation env.folder files finder op ∷ names env.folder objects old ∷ []) (Some 6 ∷ Some 7 ∷ Some 7 ∷ Some 8 ∷ Some 9 ∷ [])
    then = (clock_room_rank env.folder files finder, (commit_room_rank env.folder files finder, (sizes_rank objects, (new_operation_rank env.folder files finder op, (names_rank env.folder objects old, tt)))))

pub checks_within : (env : Env) (command : Edit) (picked : Picked) (old : History) → AreWithin (doing_of env command picked old).checks (places_of command)
checks_within env (edit.UserNew name email) picked old =
    let objects = new_objects env name email None in
    (user_file_rank env.folder (files_of old), (sizes_rank objects, (fresh_rank env.folder (files_of old) side.Identities (new_made env name email None).id, (names_rank env.folder objects old, tt))))
checks_within env (edit.UserEdit name email) picked old =
    let files = files_of old in
    let objects = new_objects env name email (option_map (λ (e : HeadEntry). e.name) (user_entry files env.folder)) in
    (user_file_rank env.folder files, (some_user_rank env.folder files, (user_chain_rank env.folder files, (user_room_rank env.folder files, (sizes_rank objects, (names_rank env.folder objects old, tt))))))
checks_within env (edit.UserSet word) picked old = (found_rank (person_finder (files_of old) env.folder word) picked.person, tt)
checks_within env (edit.New title message) picked old =
    let files = files_of old in
    let new = create_op env.moment title message in
    let objects = addition_objects env.moment.now (option_map (root_addition env.folder files new) (some_id (user_at files env.folder))) in
    (user_file_rank env.folder files, (some_user_rank env.folder files, (sizes_rank objects, (fresh_rank env.folder files side.Bugs (op_id new), (names_rank env.folder objects old, tt)))))
checks_within env (edit.OfBug word e) picked old = longer_within env (edit_growth env e word) picked.bug picked.op old
checks_within env (edit.OfComment word message) picked old = longer_within env (comment_growth env message word picked.comment) picked.bug picked.op old

-- of the causes that hold, one that comes first is told
pub told_in_order : (env : Env) (command : Edit) (picked : Picked) (old : History) (told other : Refusal) (first last : ℕ)
    → FirstFails (doing_of env command picked old).checks told → SomeFails (doing_of env command picked old).checks other → rank_of told ≡ Some first → rank_of other ≡ Some last → first ≤ last
told_in_order env command picked old told other first last =
    in_order 0 (doing_of env command picked old).checks (places_of command) told other first last (checks_clear env command picked old) (checks_within env command picked old) (places_ascend command)

-- the check that told a refusal of a command is one of its place
pub told_by : (env : Env) (command : Edit) (picked : Picked) (old : History) (r : Refusal) (n : ℕ) → rank_of r ≡ Some n → FirstFails (doing_of env command picked old).checks r
    → FailsAt n (doing_of env command picked old).checks (places_of command) r
told_by env command picked old r n is fails = told_at n (doing_of env command picked old).checks (places_of command) r (checks_within env command picked old) is fails
