-- What is read of a bug is what an edit adds to.
use Rattle.std.proofs.Common.{◌≡◌, ℕ, List, [], ◌∷◌, Err, inl, inr, refl, sym, ◌∙◌, ap, subst}
use Rattle.std.specs.List.Sorted.{IsStrictlySortedBy}
use Rattle.bug_ops.specs.Snapshots.{zero_id}
use Rattle.repo_state.specs.Comments.{AreSought, IsSought, ReadsEachBug, ReadsSought, whole_comment_finder}
use Rattle.repo_steps.proofs.Names.{Contains-first, Contains-nil, bug_of_comment, Id, Files, objects_in, bug_kind, BugOp, Entity, IsBug, clock_at, Finder, BadUser, NoUser, User, user_at, HeadEntry}
use Rattle.repo_edit.specs.Reads.{ReadsComment}
use Rattle.repo_edit.proofs.Names.{Stop, BugRefused, FinderAnswers, FindStop, ReadStop, stop_of_find, stop_of_read, no_entry, AuthorAnswers, GrowingAnswers, Grows, Growing, growing_from}
use Rattle.dag_entity.specs.Entities.{KeepsRules}
use Rattle.repo_steps.specs.declared.refusal.Refusal.TheVariants as refusal
use Rattle.repo_steps.specs.declared.refusal.Stop.TheVariants as stop
use Rattle.repo_state.specs.declared.clocks.ClockFile.TheVariants as file
use Rattle.repo_state.specs.declared.stop.FindStop.TheVariants as find
use Rattle.repo_state.specs.declared.stop.ReadStop.TheVariants as read
use Rattle.repo_state.proofs.BugLemmas.{edit_within}
use Rattle.repo_state.proofs.BugListLemmas.{entity_is_bug_list}

-- the bug that was read, and the user, who adds to it
pub growing_grows : (files : Files) (folder : List ℕ) (finder : Finder HeadEntry) (author : Id) → user_at files folder ≡ User author
    → (head : HeadEntry) → finder.Found head → (entity : Entity BugOp) → IsBug files folder head entity → KeepsRules bug_kind entity.packs
    → (seen : ℕ) → seen ≡ clock_at files folder file.BugsEdit → (g : Growing) → g ≡ growing_from author head entity seen
    → Grows files folder finder g
growing_grows files folder finder author is_user head finds entity is rules seen sees g from = subst (Grows files folder finder) (sym from) (record {
  is_user = is_user;
  bug = record { bug = head; finds = finds; entity = entity; is = is };
  is_head = refl;
  are_ops = refl;
  begins = entity_is_bug_list (objects_in files folder) head.id (head.name ∷ []) is.authors entity is.is rules;
  is_seen = sees;
  is_edit = refl;
  within = edit_within (objects_in files folder) is.is.edit.head entity.edit is.is.edit.says;
  is_count = sym is.is.count;
})

-- ---- why nothing is added

module _ (files : Files) (folder : List ℕ) (finder : Finder HeadEntry) where
  -- there is no user
  pub growing_nobody : (s : Stop) → AuthorAnswers files folder (Err s) → GrowingAnswers files folder finder (Err s)
  growing_nobody stop.Memory h = tt
  growing_nobody stop.Disk h = tt
  growing_nobody (stop.Refused refusal.NoUser) none = (no_entry, inr ((λ e. cc (sym none ∙ e)), inl (none, refl)))
  growing_nobody (stop.Refused (refusal.Damaged path)) h = (no_entry, inl (h.1, ap refusal.Damaged h.0))
  growing_nobody (stop.Refused _) h = absurd h

  module _ (author : Id) (is_user : user_at files folder ≡ User author) where
    not_bad : user_at files folder ≡ BadUser → ⊥
    not_bad e = cc (sym is_user ∙ e)

    somebody : user_at files folder ≡ NoUser → ⊥
    somebody e = cc (sym is_user ∙ e)

    -- no bug is found
    pub growing_lost : (why : FindStop) → FinderAnswers finder (Err why) → GrowingAnswers files folder finder (Err (stop_of_find why))
    growing_lost find.Memory h = tt
    growing_lost find.Disk h = tt
    growing_lost (find.Missed missed) h = (no_entry, inr (not_bad, inr (somebody, inl (missed, h, refl))))

    -- something is wrong with the bug
    pub growing_broken : (head : HeadEntry) → finder.Found head → (why : ReadStop) → BugRefused files folder head why → GrowingAnswers files folder finder (Err (stop_of_read why))
    growing_broken head finds read.Memory h = tt
    growing_broken head finds read.Disk h = tt
    growing_broken head finds (read.Damaged path) h = (head, inr (not_bad, inr (somebody, inr (finds, inl (h.1, ap refusal.Damaged h.0)))))

-- no comment is found
pub comment_lost : (files : Files) (folder word : List ℕ) (author : Id) → user_at files folder ≡ User author → (why : FindStop) → FinderAnswers (whole_comment_finder files folder word) (Err why)
    → GrowingAnswers files folder (bug_of_comment files folder word zero_id) (Err (stop_of_find why))
comment_lost files folder word author is_user find.Memory h = tt
comment_lost files folder word author is_user find.Disk h = tt
comment_lost files folder word author is_user (find.Missed missed) h = growing_lost files folder (bug_of_comment files folder word zero_id) author is_user (find.Missed missed) h

-- ---- what is read to find a comment

-- where no bug was read, nothing was
pub no_reads : (files : Files) (folder word : List ℕ) (before after : ℕ) → after ≡ before → ReadsSought files folder word before after
unfolding IsStrictlySortedBy
no_reads files folder word before after same = ([], record { rising = tt; each = λ bug has. absurd (Contains-nil bug has) }, same)

-- none, where no bug has to be read
none_read : (files : Files) (folder word : List ℕ) (bugs : List HeadEntry) → ((id : Id) → IsSought files folder word id → ⊥) → AreSought files folder word bugs
    → (before after : ℕ) → ReadsEachBug files folder bugs before after → after ≡ before
none_read files folder word [] none are before after reads = reads
none_read files folder word (bug ∷ bugs) none are before after reads = absurd (none bug.id (are.each bug (Contains-first bug bugs)).0)

pub nothing_sought : (files : Files) (folder word : List ℕ) (before after : ℕ) → ((id : Id) → IsSought files folder word id → ⊥) → ReadsComment files folder word before after → after ≡ before
nothing_sought files folder word before after none (between, (bugs, are, each), inl same) = same ∙ none_read files folder word bugs none are before between each
nothing_sought files folder word before after none (between, (bugs, are, each), inr (c, finds, few)) = absurd (none c.bug.id finds.fits.is_sought)
