-- A sound folder is not damaged.
use Rattle.std.proofs.Common.{◌≡◌, ℕ, inl, inr, List, [], ◌∷◌, subst}
use Rattle.std.specs.Prelude.{⊤}
use Rattle.repo_steps.proofs.Names.{Growth, bug_of_comment, comment_growth, edit_growth, longer_bug, Id, Files, History, files_of, objects_in, no_fault, User, user_at, Env, NoChange, bug_finder, person_finder, HeadEntry, Missed, Check, FirstFails, found, user_file, Refused, doing_of, HasBadChain, of_missed, of_no_change, Edit, IsLocal-user}
use Rattle.repo_state.specs.Sound.{IsSound, IsSoundIdentity}
use Rattle.repo_state.specs.Sound as parts
use Rattle.repo_steps.specs.declared.refusal.Refusal.TheVariants as refusal
use Rattle.bug_edits.specs.declared.edit.NoChange.TheVariants as no_change
use Rattle.repo_state.specs.declared.stop.Missed.TheVariants as missed
use Rattle.words.specs.declared.edit.Edit.TheVariants as edit
use Rattle.repo_state.specs.Bugs.{HasBugFault}
use Rattle.repo_state.proofs.BugLemmas.{bug_no_fault}
use Rattle.repo_state.proofs.CommentLemmas.{no_damaged_comment}
use Rattle.repo_state.proofs.UndamagedLemmas.{no_bad_found}

-- in a sound folder no check fails for damage
module _ (folder : List ℕ) (files : Files) (sound : IsSound folder files) where
  no_bad_chain : (id : Id) → user_at files folder ≡ User id → HasBadChain folder files id → ⊥
  no_bad_chain id is (inl bad) =
      subst (IsSoundIdentity (objects_in files folder) id) bad (sound parts.Identities id (IsLocal-user files folder id is).is_id)
  no_bad_chain id is (inr (head, has, fault, holds)) =
      no_fault (objects_in files folder) id head fault
      (subst (IsSoundIdentity (objects_in files folder) id) has (sound parts.Identities id (IsLocal-user files folder id is).is_id)) holds

-- ---- checks that tell no damage

-- each of these checks, where those before it pass, fails with another refusal than damage
abbrev AreUndamaged : List Check → List ℕ → Type 0
AreUndamaged [] path = ⊤
AreUndamaged (check ∷ checks) path = (check.Fails (refusal.Damaged path) → ⊥) × (check.Passes → AreUndamaged checks path)

none_damaged : (checks : List Check) (path : List ℕ) → AreUndamaged checks path → FirstFails checks (refusal.Damaged path) → ⊥
none_damaged [] path never fails = fails
none_damaged (check ∷ checks) path never (inl fails) = never.0 fails
none_damaged (check ∷ checks) path never (inr later) = none_damaged checks path (never.1 later.0) later.1

-- nothing that an edit refuses by what the bug says is damage
no_damage : (why : NoChange) (path : List ℕ) → refusal.Damaged path ≡ of_no_change why → ⊥
no_damage no_change.SameStatus path is = cc is
no_damage no_change.NoLabelChange path is = cc is

-- ---- each command

-- no command is refused for damage
pub not_damaged : (env : Env) (command : Edit) (old : History) (path : List ℕ) → IsSound env.folder (files_of old) → Refused env command old (refusal.Damaged path) → ⊥
not_damaged env command old path sound (picked, fails) = none_damaged (doing_of env command picked old).checks path (each command) fails
  where
    files : Files
    files = files_of old

    file : (user_file env.folder files).Fails (refusal.Damaged path) → ⊥
    file f = sound parts.User f.0

    -- a bug that is found has a ref that reads
    lost : (word : List ℕ) (bug : HeadEntry) → (found (bug_finder files env.folder word) bug).Fails (refusal.Damaged path) → ⊥
    lost word bug (missed.NotFound, none, is) = cc is
    lost word bug (missed.Ambiguous least next, many, is) = cc is
    lost word bug (missed.Damaged other, bad, is) = no_bad_found env.folder files sound word bad.0 bad.1 (inl bad.2.1)

    -- and so has each that is sought for a comment
    lost_comment : (word : List ℕ) (comment : Id) (bug : HeadEntry) → (found (bug_of_comment files env.folder word comment) bug).Fails (refusal.Damaged path) → ⊥
    lost_comment word comment bug (missed.NotFound, none, is) = cc is
    lost_comment word comment bug (missed.Ambiguous least next, many, is) = cc is
    lost_comment word comment bug (missed.Damaged other, bad, is) = no_damaged_comment env.folder files sound word other bad

    -- a bug gets an operation more
    longer : (growth : Growth) → ((found (growth.finder files) picked.bug).Fails (refusal.Damaged path) → ⊥) → ((growth.finder files).Found picked.bug → HasBugFault files env.folder picked.bug → ⊥)
        → AreUndamaged (longer_bug env growth picked.bug picked.op old).checks path
    longer growth unfound whole = (
      file,
      λ _. (
        (λ f. cc f.1),
        λ _. (
          unfound,
          λ b. (
            (λ f. whole b f.0),
            λ _. (
              (λ f. no_damage f.1 path f.3),
              λ _. ((λ f. cc f.2), λ _. ((λ f. cc f.2), λ _. ((λ f. cc f.1), λ _. ((λ f. cc f.2), λ _. ((λ f. cc f.2), λ _. tt))))),
            ),
          ),
        ),
      ),
    )

    each : (command : Edit) → AreUndamaged (doing_of env command picked old).checks path
    each (edit.UserNew name email) = (file, λ _. ((λ f. cc f.1), λ _. ((λ f. cc f.1), λ _. ((λ f. cc f.2), λ _. tt))))
    each (edit.UserEdit name email) = (file, λ _. ((λ f. cc f.1), λ _. ((λ f. no_bad_chain env.folder files sound f.0 f.1 f.2), λ _. ((λ f. cc f.2), λ _. ((λ f. cc f.1), λ _. ((λ f. cc f.2), λ _. tt))))))
    each (edit.UserSet word) = (unfound, λ _. tt)
      where
        unfound : (why : Missed) × (person_finder files env.folder word).Fails why × (refusal.Damaged path ≡ of_missed why) → ⊥
        unfound (missed.NotFound, none, is) = cc is
        unfound (missed.Ambiguous least next, many, is) = cc is
        unfound (missed.Damaged other, never, is) = never
    each (edit.New title message) = (file, λ _. ((λ f. cc f.1), λ _. ((λ f. cc f.1), λ _. ((λ f. cc f.1), λ _. ((λ f. cc f.2), λ _. tt)))))
    each (edit.OfBug word e) = longer (edit_growth env e word) (lost word picked.bug) (λ b bad. no_bad_found env.folder files sound word (picked.bug).id b.found (inr ((picked.bug).name, b.head, bad)))
    each (edit.OfComment word message) = longer (comment_growth env message word picked.comment) (lost_comment word picked.comment picked.bug)
        (λ b bad. bug_no_fault files env.folder picked.bug b.fits.entity b.fits.is.is bad)
