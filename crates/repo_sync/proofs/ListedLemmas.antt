-- While entities have their turns, the ref of each one that is still to come stands as it was listed.
use Rattle.std.proofs.Common.{◌≡◌, ◌≢◌, ◌<◌, arith, Bool, false, ℕ, suc, List, [], ◌∷◌, Contains, length, take, get_or, refl, sym, subst}
use Rattle.std.proofs.lemmas.List.Elements.{Contains-get_or}
use Rattle.gb_text.specs.declared.id.Id.{Id}
use Rattle.gb_text.specs.declared.id.Name.{Name}
use Rattle.gb_store.specs.Files.{Files, History, files_of, written}
use Rattle.ref_store.specs.Setting.{ref_write}
use Rattle.repo_state.specs.Sides.{head_at, ref_place}
use Rattle.repo_state.specs.declared.refs.EntityRef.{EntityRef}
use Rattle.repo_state.specs.declared.side.Side.{Side}
use Rattle.listed_refs.specs.AsListed.{AreAsListed, IsAsListed}
use Rattle.listed_refs.specs.declared.listed.ListedSide.{ListedSide}
use Rattle.listed_refs.proofs.ListedLemmas.{all_still, had_another, still}
use Rattle.sync_steps.specs.Fetching.{Fetches}
use Rattle.sync_steps.specs.Pushing.{Pushes}
use Rattle.sync_steps.specs.Turns.{Turn, WentOn}
use Rattle.sync_steps.specs.declared.line.EntityWord.{EntityWord}
use Rattle.sync_steps.specs.declared.line.Exchange.{Exchange}
use Rattle.sync_steps.specs.declared.line.Exchange.TheVariants as verb
use Rattle.sync_steps.specs.declared.line.Line.{Line}
use Rattle.sync_steps.proofs.FetchedLemmas.{pushes_leave, turn_leaves}
use Rattle.sync_steps.proofs.SetLemmas.{NoneIs, id_of, sides_leave, turns_leave}

none_is : (id : Id) (turns : List Turn) → ((turn : Turn) → Contains turns turn → id_of turn ≢ id) → NoneIs id turns
none_is id [] apart = tt
none_is id (turn ∷ turns) apart = (apart turn (0, omega arith, refl), none_is id turns (λ t c. apart t (suc c.0, omega (arith, c.1), c.2)))

module _ (verb : Exchange) (word : EntityWord) (folder : List ℕ) (to : Side) (Step : Turn → History → History → Type 0)
    (leaves : (turn : Turn) (of : Side) (id : Id) (old new : History) → ((name : Name) (files : Files) → head_at (written files (ref_write folder (ref_place to (id_of turn)) name)) folder of id ≡ head_at files folder of id)
    → Step turn old new → head_at (files_of new) folder of id ≡ head_at (files_of old) folder of id) where
  -- the next entity's
  pub next_as_listed : (listed : ListedSide) (refs : List EntityRef) (i : ℕ) (d : EntityRef) (early late : List Line) (old mid : History) → listed.side ≡ to → i < length refs
      → AreAsListed (files_of old) folder listed refs → WentOn verb word Step (take i refs) early late old mid → IsAsListed (files_of mid) folder listed (get_or refs i d).id
  next_as_listed listed refs i d early late old mid is within all on =
      let id = (get_or refs i d).id in
      let alike = all.each (get_or refs i d) (Contains-get_or refs i d within) in
      let another = had_another (λ (t : Turn). t.entity) refs i d on.turns all.rising within on.went.are in
      let kept = turns_leave folder to Step leaves id alike.is_id on.turns (λ t c. (all.each t.entity (another t c).0).is_id) (none_is id on.turns (λ t c. (another t c).1)) old mid on.went.each in
      still folder listed (files_of old) (files_of mid) id (subst (λ (of : Side). head_at (files_of mid) folder of id ≡ head_at (files_of old) folder of id) (sym is) kept) alike

  -- and so does each of another side
  pub others_as_listed : (listed : ListedSide) (refs others : List EntityRef) (early late : List Line) (old mid : History) → (to ≡ listed.side → ⊥)
      → WentOn verb word Step refs early late old mid → AreAsListed (files_of old) folder listed others → AreAsListed (files_of mid) folder listed others
  others_as_listed listed refs others early late old mid apart on all =
      all_still folder listed (files_of old) (files_of mid) others (λ id. sides_leave folder to Step leaves listed.side apart id on.turns old mid on.went.each) all

-- ---- both verbs

module _ (own peer : List ℕ) where
  pub fetches_leave : (of : Side) (held : Bool) (turn : Turn) (on : Side) (id : Id) (old new : History) → ((name : Name) (files : Files) → head_at (written files (ref_write own (ref_place of (id_of turn)) name)) own on id ≡ head_at files own on id)
      → Fetches own peer of turn old new → head_at (files_of new) own on id ≡ head_at (files_of old) own on id
  fetches_leave of held turn on id old new apart step = turn_leaves own peer of on id (id_of turn) turn.entity.head turn.outcome old new apart step

  pub next_fetched : (word : EntityWord) (listed : ListedSide) (refs : List EntityRef) (i : ℕ) (d : EntityRef) (early late : List Line) (old mid : History) → i < length refs
      → AreAsListed (files_of old) own listed refs → WentOn verb.Fetch word (Fetches own peer listed.side) (take i refs) early late old mid → IsAsListed (files_of mid) own listed (get_or refs i d).id
  next_fetched word listed refs i d early late old mid = next_as_listed verb.Fetch word own listed.side (Fetches own peer listed.side) (fetches_leave listed.side false) listed refs i d early late old mid refl

  pub next_pushed : (word : EntityWord) (listed : ListedSide) (held : Bool) (refs : List EntityRef) (i : ℕ) (d : EntityRef) (early late : List Line) (old mid : History) → i < length refs
      → AreAsListed (files_of old) peer listed refs → WentOn verb.Push word (Pushes own peer listed.side held) (take i refs) early late old mid → IsAsListed (files_of mid) peer listed (get_or refs i d).id
  next_pushed word listed held refs i d early late old mid = next_as_listed verb.Push word peer listed.side (Pushes own peer listed.side held) (pushes_leave own peer listed.side held) listed refs i d early late old mid refl
