-- Folders that have the same show the same.
use Rattle.std.proofs.Common.{◌≡◌, ℕ, List, [], ◌∷◌, Ok, sym, ◌∙◌, ap, subst}
use Rattle.gb_text.specs.Digits.{IsId}
use Rattle.gb_text.specs.declared.id.Id.{Id}
use Rattle.gb_text.specs.declared.id.Name.{Name}
use Rattle.gb_store.specs.Files.{Files}
use Rattle.object_store.specs.Held.{objects_in}
use Rattle.ref_store.specs.Refs.{Head}
use Rattle.bug_ops.specs.Kind.{bug_kind}
use Rattle.dag_entity.specs.Entities.{IsOperationCommit}
use Rattle.repo_state.specs.Bugs.{FindsBug}
use Rattle.repo_state.specs.Sides.{head_at, is_there}
use Rattle.repo_state.specs.declared.side.HeadEntry.{HeadEntry}
use Rattle.repo_state.specs.declared.side.Side.TheVariants as side
use Rattle.repo_view.specs.Shown.{HaveSameCommits, ShowAnswers}
use Rattle.repo_view.proofs.ShownLemmas.{same_shown}
use Rattle.full_exchanges.specs.Having.{ACommit, HaveTheSame, NameAuthorsAlike, TheBug}

module _ (files others : Files) (folder place word : List ℕ) (same : HaveTheSame files folder others place) where
  module _ (bug top : HeadEntry) (finds : FindsBug files folder word bug) (found : FindsBug others place word top) where
    -- a word that finds a bug in each finds the same one
    same_bug : top.id ≡ bug.id
    same_bug =
        let fits = found.found.is_so in
        let has = (same top.id TheBug fits.is_id).1 (record { head = top.name; is_head = found.head; is = tt }) in
        finds.found.no_other top.id (record { is_id = fits.is_id; is_prefix = fits.is_prefix; begins = fits.begins; stands = ap is_there has.is_head })

    top_at : head_at others place side.Bugs bug.id ≡ Head top.name
    top_at = subst (λ (id : Id). head_at others place side.Bugs id ≡ Head top.name) same_bug found.head

    -- which has the same commits
    pub same_commits : HaveSameCommits files folder bug others place top
    same_commits placed = (there, back)
      where
        is_id : IsId bug.id
        is_id = finds.found.is_so.is_id

        there : IsOperationCommit bug_kind (objects_in files folder) (bug.name ∷ []) placed → IsOperationCommit bug_kind (objects_in others place) (top.name ∷ []) placed
        there h =
            let has = (same bug.id (ACommit placed) is_id).0 (record { head = bug.name; is_head = finds.head; is = h }) in
            let both : Head has.head ≡ Head top.name = sym has.is_head ∙ top_at in
            let head : has.head ≡ top.name = cc in
            subst (λ (name : Name). IsOperationCommit bug_kind (objects_in others place) (name ∷ []) placed) head has.is

        back : IsOperationCommit bug_kind (objects_in others place) (top.name ∷ []) placed → IsOperationCommit bug_kind (objects_in files folder) (bug.name ∷ []) placed
        back h =
            let has = (same bug.id (ACommit placed) is_id).1 (record { head = top.name; is_head = top_at; is = h }) in
            let both : Head has.head ≡ Head bug.name = sym has.is_head ∙ finds.head in
            let head : has.head ≡ bug.name = cc in
            subst (λ (name : Name). IsOperationCommit bug_kind (objects_in files folder) (name ∷ []) placed) head has.is

-- so both show the same text
pub agreeing_show : (files others : Files) (folder place word one two : List ℕ) → HaveTheSame files folder others place
    → NameAuthorsAlike files folder others place → ShowAnswers files folder word (Ok one) → ShowAnswers others place word (Ok two) → one ≡ two
agreeing_show files others folder place word one two same alike first second =
    same_shown files others folder place word word one two first.0 second.0 first.1 second.1
    (same_commits files others folder place word same first.0 second.0 first.1 second.1)
    (alike first.0 first.1.found.is_so.is_id first.1.head) first second
