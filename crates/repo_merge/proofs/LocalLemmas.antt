-- While entities have their turns, the local ref of each one that is still to come stands as it was listed.
use Rattle.std.proofs.Common.{◌≡◌, ◌<◌, ℕ, List, length, take, get_or, sym, subst}
use Rattle.std.proofs.lemmas.List.Elements.{Contains-get_or}
use Rattle.gb_store.specs.Files.{Files, History, files_of}
use Rattle.gb_store.specs.Moments.{Wrote}
use Rattle.repo_state.specs.Listed.{AreRefs}
use Rattle.repo_state.specs.Sides.{head_at}
use Rattle.repo_state.specs.declared.refs.EntityRef.{EntityRef}
use Rattle.repo_state.specs.declared.side.Side.{Side}
use Rattle.repo_state.specs.declared.side.Side.TheVariants as side
use Rattle.listed_refs.specs.declared.listed.ListedSide.{ListedSide}
use Rattle.listed_refs.proofs.ListedLemmas.{as_listed, had_another, still}
use Rattle.sync_steps.specs.declared.line.EntityWord.{EntityWord}
use Rattle.sync_steps.specs.declared.line.EntityWord.TheVariants as word
use Rattle.merge_steps.specs.Merging.{MergeTurn, MergesBug, MergesPerson}
use Rattle.merge_steps.specs.Turns.{WentOn}
use Rattle.merge_steps.specs.declared.line.MergeLine.{MergeLine}
use Rattle.merge_steps.proofs.TouchLemmas.{Touch, bug_touches, person_touches}
use Rattle.merge_steps.proofs.TurnOfLemmas.{others_stay}
use Rattle.repo_merge.specs.Heads.{AreLocals, IsLocal}
use Rattle.repo_merge.specs.declared.maker.Maker.{Maker}

-- before the first turn
pub all_local : (files before : Files) (folder : List ℕ) (tracked local : Side) (refs : List EntityRef) (locals : ListedSide) → AreRefs before folder tracked refs → locals.side ≡ local → AreRefs files folder local locals.refs
    → AreLocals files folder local locals refs
all_local files before folder tracked local refs locals are is found = record {
  side = is;
  alike = as_listed folder locals files before folder tracked refs are (subst (λ (of : Side). AreRefs files folder of locals.refs) (sym is) found);
}

-- behind turns
module _ (folder : List ℕ) (local : Side) (word : EntityWord) (Step : MergeTurn → History → History → Type 0) (touches : (turn : MergeTurn) (old new : History) → Step turn old new → Wrote (Touch folder local turn.entity.id) old new) where
  next_local : (locals : ListedSide) (refs : List EntityRef) (i : ℕ) (d : EntityRef) (early late : List MergeLine) (old mid : History) → i < length refs → AreLocals (files_of old) folder local locals refs
      → WentOn Step word (take i refs) early late old mid → IsLocal (files_of mid) folder local locals (get_or refs i d).id
  next_local locals refs i d early late old mid within all on =
      let id = (get_or refs i d).id in
      let alike = all.alike.each (get_or refs i d) (Contains-get_or refs i d within) in
      let another = had_another (λ (t : MergeTurn). t.entity) refs i d on.turns all.alike.rising within on.went.are in
      let kept = others_stay folder local Step touches id alike.is_id on.turns (λ t c. ((all.alike.each t.entity (another t c).0).is_id, (another t c).1)) old mid on.went.each in
      record {
        side = all.side;
        alike = still folder locals (files_of old) (files_of mid) id (subst (λ (of : Side). head_at (files_of mid) folder of id ≡ head_at (files_of old) folder of id) (sym all.side) kept) alike;
      }

-- of identities
pub next_person : (folder : List ℕ) (locals : ListedSide) (refs : List EntityRef) (i : ℕ) (d : EntityRef) (early late : List MergeLine) (old mid : History) → i < length refs → AreLocals (files_of old) folder side.Identities locals refs
    → WentOn (MergesPerson folder) word.Identity (take i refs) early late old mid → IsLocal (files_of mid) folder side.Identities locals (get_or refs i d).id
next_person folder = next_local folder side.Identities word.Identity (MergesPerson folder) (person_touches folder)

-- of bugs
pub next_bug : (folder : List ℕ) (maker : Maker) (locals : ListedSide) (refs : List EntityRef) (i : ℕ) (d : EntityRef) (early late : List MergeLine) (old mid : History) → i < length refs → AreLocals (files_of old) folder side.Bugs locals refs
    → WentOn (MergesBug folder maker.user maker.authors maker.time) word.Bug (take i refs) early late old mid → IsLocal (files_of mid) folder side.Bugs locals (get_or refs i d).id
next_bug folder maker = next_local folder side.Bugs word.Bug (MergesBug folder maker.user maker.authors maker.time) (bug_touches folder maker.user maker.authors maker.time)
