-- The turns of a merge are determined: what one writes, and that one which fails was not had.
use Rattle.std.proofs.Common.{◌≡◌, ◌⊎◌, inl, inr, ℕ, List, [], ◌∷◌, ◌++◌, reverse, Option, Some, None, refl, sym, ◌∙◌, ap, subst}
use Rattle.std.proofs.lemmas.Option.{same_Some}
use Rattle.gb_text.specs.declared.id.Id.{Id}
use Rattle.gb_text.specs.declared.id.Name.{Name}
use Rattle.gb_store.specs.Files.{Files, History, files_of}
use Rattle.gb_store.specs.Turns.{InTurn}
use Rattle.object_store.specs.Held.{Objects, objects_after}
use Rattle.object_batch.specs.Batches.{CannotHave}
use Rattle.commit_walk.specs.Below.{IsBelow}
use Rattle.ref_store.specs.Refs.{Bad}
use Rattle.ref_store.specs.Setting.{ref_write}
use Rattle.bug_ops.specs.Kind.{bug_kind}
use Rattle.bug_ops.specs.declared.op.BugOp.{BugOp}
use Rattle.dag_entity.specs.Entities.{IsEntity, IsRootClock}
use Rattle.dag_entity.specs.Faults.{EntityFaultHolds, IsRootCommit, IsRootNode, IsValid}
use Rattle.dag_entity.specs.Joining.{merge_name, merge_objects}
use Rattle.dag_entity.specs.Nodes.{pack_at}
use Rattle.dag_entity.specs.declared.entity.Entity.{Entity}
use Rattle.dag_entity.specs.declared.entity.Loaded.{Loaded}
use Rattle.dag_entity.specs.declared.fault.EntityFault.{EntityFault}
use Rattle.dag_entity.specs.declared.fault.EntityFault.TheVariants as fault
use Rattle.dag_entity.proofs.LawValid.{name_stable, pack_of_node}
use Rattle.dag_entity.proofs.PairLemmas.{is_second, under}
use Rattle.lamport.specs.Clock.{merge_time_of}
use Rattle.identity.specs.Advancing.{HasLocal, IsInLocal}
use Rattle.identity.specs.Persons.{IdentityFaultHolds, IsChain}
use Rattle.identity.specs.declared.fault.IdentityFault.{IdentityFault}
use Rattle.identity.proofs.NoFaultLemmas.{no_fault}
use Rattle.entity_merge.specs.Joins.{DoesWord, HasWord, IsKnown, JoinsBoth, TakesRemote, both_heads, head_of}
use Rattle.entity_merge.specs.declared.word.Merged.{Merged}
use Rattle.entity_merge.specs.declared.word.Merged.TheVariants as merged
use Rattle.entity_merge.proofs.WordLemmas.{one_word}
use Rattle.repo_state.specs.Answers.{IsHeadAt}
use Rattle.repo_state.specs.Clocks.{clock_at}
use Rattle.repo_state.specs.Sides.{head_at, ref_place}
use Rattle.repo_state.specs.declared.clocks.ClockFile.TheVariants as file
use Rattle.repo_state.specs.declared.refs.EntityRef.{EntityRef}
use Rattle.repo_state.specs.declared.side.Side.{Side}
use Rattle.repo_state.specs.declared.side.Side.TheVariants as side
use Rattle.merge_steps.specs.Merging.{BugOutcome, BugStops, GetsHead, HasPlan, IsBadTurn, MergeTurn, MergesBug, MergesPerson, PersonOutcome, PersonStops, merged_writes}
use Rattle.merge_steps.specs.Turns.{entities_of}
use Rattle.merge_steps.specs.declared.line.MergeOutcome.{MergeOutcome}
use Rattle.merge_steps.specs.declared.line.MergeOutcome.TheVariants as outcome
use Rattle.merge_steps.specs.declared.stop.TurnStop.{TurnStop}
use Rattle.merge_steps.specs.declared.stop.TurnStop.TheVariants as turn
use Rattle.merge_steps.proofs.FaultLemmas.{one_head}

-- ---- turns one after another

abbrev turn_with : EntityRef → MergeOutcome → MergeTurn
turn_with entity out = record { entity = entity; outcome = out }

-- turns of an entity from one history lead to one
abbrev pub IsFixed : (MergeTurn → History → History → Type 0) → Type 0
IsFixed Step = (entity : EntityRef) (out other : MergeOutcome) (old new newer : History) → Step (turn_with entity out) old new → Step (turn_with entity other) old newer → new ≡ newer

-- an entity that fails at a history has no turn there
abbrev pub AreApart : (MergeTurn → History → History → Type 0) → (EntityRef → History → Type 0) → Type 0
AreApart Step Fails = (entity : EntityRef) (out : MergeOutcome) (old new : History) → Step (turn_with entity out) old new → Fails entity old → ⊥

module _ (Step : MergeTurn → History → History → Type 0) (fixed : IsFixed Step) where
  -- turns of the same entities lead to one history
  pub same_end : (turns others : List MergeTurn) (old new newer : History) → entities_of turns ≡ entities_of others → InTurn Step turns old new → InTurn Step others old newer → new ≡ newer
  same_end [] [] old new newer e one two = one ∙ sym two
  same_end [] (other ∷ others) old new newer e one two = absurd (cc e)
  same_end (turn ∷ turns) [] old new newer e one two = absurd (cc e)
  same_end (turn ∷ turns) (other ∷ others) old new newer e (mid, step, later) (middle, also, rest) =
      let first : turn.entity ≡ other.entity = cc e in
      let tails : entities_of turns ≡ entities_of others = cc e in
      let here : mid ≡ middle = fixed turn.entity turn.outcome other.outcome old mid middle step (subst (λ (entity : EntityRef). Step (turn_with entity other.outcome) old middle) (sym first) also) in
      same_end turns others mid new newer tails later (subst (λ (h : History). InTurn Step others h newer) (sym here) rest)

  module _ (Fails : EntityRef → History → Type 0) (apart : AreApart Step Fails) where
    -- an entity at which turns failed did not have its turn
    pub no_pass : (done : List MergeTurn) (at : EntityRef) (rest : List EntityRef) (turns : List MergeTurn) (old mid new : History) → entities_of done ++ at ∷ rest ≡ entities_of turns
        → InTurn Step done old mid → Fails at mid → InTurn Step turns old new → ⊥
    no_pass [] at rest [] old mid new e one fails two = absurd (cc e)
    no_pass (turn ∷ done) at rest [] old mid new e one fails two = absurd (cc e)
    no_pass [] at rest (other ∷ others) old mid new e one fails (middle, also, more) =
        let first : at ≡ other.entity = cc e in
        apart other.entity other.outcome old middle also (subst (λ (entity : EntityRef). Fails entity old) first (subst (Fails at) one fails))
    no_pass (turn ∷ done) at rest (other ∷ others) old mid new e (center, step, later) fails (middle, also, more) =
        let first : turn.entity ≡ other.entity = cc e in
        let tails : entities_of done ++ at ∷ rest ≡ entities_of others = cc e in
        let here : center ≡ middle = fixed turn.entity turn.outcome other.outcome old center middle step (subst (λ (entity : EntityRef). Step (turn_with entity other.outcome) old middle) (sym first) also) in
        no_pass done at rest others center mid new tails later fails (subst (λ (h : History). InTurn Step others h new) (sym here) more)

    -- turns fail at one entity, and at one history
    pub same_stop : (done others : List MergeTurn) (at too : EntityRef) (rest more : List EntityRef) (old mid middle : History) → entities_of done ++ at ∷ rest ≡ entities_of others ++ too ∷ more
        → InTurn Step done old mid → Fails at mid → InTurn Step others old middle → Fails too middle → (at ≡ too) × (mid ≡ middle)
    same_stop [] [] at too rest more old mid middle e one fails two failed = (cc e, one ∙ sym two)
    same_stop [] (other ∷ others) at too rest more old mid middle e one fails (center, also, later) failed =
        let first : at ≡ other.entity = cc e in
        absurd (apart other.entity other.outcome old center also (subst (λ (entity : EntityRef). Fails entity old) first (subst (Fails at) one fails)))
    same_stop (turn ∷ done) [] at too rest more old mid middle e (center, step, later) fails two failed =
        let first : turn.entity ≡ too = cc e in
        absurd (apart turn.entity turn.outcome old center step (subst (λ (entity : EntityRef). Fails entity old) (sym first) (subst (Fails too) two failed)))
    same_stop (turn ∷ done) (other ∷ others) at too rest more old mid middle e (center, step, later) fails (core, also, behind) failed =
        let first : turn.entity ≡ other.entity = cc e in
        let tails : entities_of done ++ at ∷ rest ≡ entities_of others ++ too ∷ more = cc e in
        let here : center ≡ core = fixed turn.entity turn.outcome other.outcome old center core step (subst (λ (entity : EntityRef). Step (turn_with entity other.outcome) old core) (sym first) also) in
        same_stop done others at too rest more center mid middle tails later fails (subst (λ (h : History). InTurn Step others h middle) (sym here) behind) failed

-- ---- a ref that is no ref text

-- a ref has a head or none, so it is no bad one
pub not_bad : (files : Files) (folder : List ℕ) (of : Side) (id : Id) (local : Option Name) → IsHeadAt files folder of id local → head_at files folder of id ≡ Bad → ⊥
not_bad files folder of id None at bad = cc (sym at ∙ bad)
not_bad files folder of id (Some name) at bad = cc (sym at ∙ bad)

module _ (folder : List ℕ) (tracked_side local_side : Side) (entity : EntityRef) (old : History) where
  -- at a bad turn there are no heads
  pub bad_apart : (path : List ℕ) (new : History) (tracked : Name) (local : Option Name) → IsBadTurn folder tracked_side local_side entity path old new
      → entity.head ≡ Some tracked → IsHeadAt (files_of old) folder local_side entity.id local → ⊥
  bad_apart path new tracked local (inl (none, at), same) is there = cc (sym none ∙ is)
  bad_apart path new tracked local (inr (name, at, bad), same) is there = not_bad (files_of old) folder local_side entity.id local there bad.1

  -- and one path
  pub one_path : (path other : List ℕ) (new newer : History) → IsBadTurn folder tracked_side local_side entity path old new → IsBadTurn folder tracked_side local_side entity other old newer → path ≡ other
  one_path path other new newer (inl one, same) (inl two, still) = one.1 ∙ sym two.1
  one_path path other new newer (inl one, same) (inr two, still) = absurd (cc (sym one.0 ∙ two.1))
  one_path path other new newer (inr one, same) (inl two, still) = absurd (cc (sym two.0 ∙ one.1))
  one_path path other new newer (inr one, same) (inr two, still) = one.2.0 ∙ sym two.2.0

-- a stop that is no fault
abbrev pub IsBar : TurnStop → Type 0
IsBar turn.Memory = ⊥
IsBar turn.Disk = ⊥
IsBar _ = Unit

-- ---- identities

module _ (folder : List ℕ) where
  -- nothing is written of an identity
  abbrev IsQuiet : Objects → Id → Option Name → Name → Type 0
  IsQuiet objects id local tracked =
      IsInLocal objects local tracked
      ⊎ (((f : IdentityFault) × IdentityFaultHolds objects id tracked f) ⊎ ((HasLocal objects local tracked → ⊥) × ((one : Name) × (local ≡ Some one))))

  -- its ref is set
  abbrev Moves : Objects → Id → Option Name → Name → Type 0
  Moves objects id local tracked = (IsInLocal objects local tracked → ⊥) × IsChain objects id tracked × ((local ≡ None) ⊎ HasLocal objects local tracked)

  not_both : (objects : Objects) (id : Id) (local : Option Name) (tracked : Name) → IsQuiet objects id local tracked → Moves objects id local tracked → ⊥
  not_both objects id local tracked (inl known) moves = moves.0 known
  not_both objects id local tracked (inr (inl (f, holds))) moves = no_fault objects id tracked f moves.1 holds
  not_both objects id local tracked (inr (inr (none, (one, is)))) (new, chain, inl e) = cc (sym e ∙ is)
  not_both objects id local tracked (inr (inr (none, (one, is)))) (new, chain, inr has) = none has

  abbrev Came : Id → Option Name → Name → History → History → Type 0
  Came id local tracked old new =
      (IsQuiet (objects_after old folder) id local tracked × (new ≡ old))
      ⊎ (Moves (objects_after old folder) id local tracked × (new ≡ ref_write folder (ref_place side.Identities id) tracked ∷ old))

  came : (id : Id) (local : Option Name) (tracked : Name) (out : MergeOutcome) (old new : History) → PersonOutcome folder id local tracked out old new → Came id local tracked old new
  came id local tracked outcome.Nothing old new (known, same) = inl (inl known, same)
  came id local tracked outcome.New old new (is, wrote) = inr (((λ known. subst (λ (l : Option Name). IsInLocal (objects_after old folder) l tracked) is.0 known), is.1, inl is.0), wrote)
  came id local tracked outcome.Forward old new (is, wrote) = inr ((is.0.0, is.0.1, inr is.1), wrote)
  came id local tracked (outcome.InvalidIdentity f) old new (is, same) = inl (inr (inl (f, is.1)), same)
  came id local tracked (outcome.NotForward name) old new (one, is, same) = inl (inr (inr (is.1, (one, is.2))), same)
  came id local tracked outcome.Joined old new none = absurd none
  came id local tracked (outcome.InvalidBug f) old new none = absurd none

  came_once : (id : Id) (local : Option Name) (tracked : Name) (old new newer : History) → Came id local tracked old new → Came id local tracked old newer → new ≡ newer
  came_once id local tracked old new newer (inl one) (inl two) = one.1 ∙ sym two.1
  came_once id local tracked old new newer (inl one) (inr two) = absurd (not_both (objects_after old folder) id local tracked one.0 two.0)
  came_once id local tracked old new newer (inr one) (inl two) = absurd (not_both (objects_after old folder) id local tracked two.0 one.0)
  came_once id local tracked old new newer (inr one) (inr two) = one.1 ∙ sym two.1

  pub person_fixed : IsFixed (MergesPerson folder)
  person_fixed entity out other old new newer one two =
      let names : two.tracked ≡ one.tracked = same_Some two.tracked one.tracked (sym two.is_tracked ∙ one.is_tracked) in
      let locals : two.local ≡ one.local = one_head (files_of old) folder side.Identities entity.id two.local one.local two.is_local one.is_local in
      let also = subst (λ (l : Option Name). PersonOutcome folder entity.id l one.tracked other old newer) locals
      (subst (λ (t : Name). PersonOutcome folder entity.id two.local t other old newer) names two.is) in
      came_once entity.id one.local one.tracked old new newer (came entity.id one.local one.tracked out old new one.is) (came entity.id one.local one.tracked other old newer also)

  module _ (tracked : Side) where
    abbrev pub PersonFails : EntityRef → History → Type 0
    PersonFails entity old = (why : TurnStop) × (new : History) × IsBar why × PersonStops folder tracked why entity old new

    pub person_apart : AreApart (MergesPerson folder) PersonFails
    person_apart entity out old new step (turn.Memory, end, none, stops) = none
    person_apart entity out old new step (turn.Disk, end, none, stops) = none
    person_apart entity out old new step (turn.Damaged path, end, bar, stops) = bad_apart folder tracked side.Identities entity old path end step.tracked step.local stops step.is_tracked step.is_local
    person_apart entity out old new step (turn.Taken name, end, bar, stops) = stops

-- ---- bugs

-- the roots of heads with which nothing is wrong have one clock
one_root : (objects : Objects) (id : Id) (heads tops : List Name) (authors : List Id) → IsValid bug_kind objects id heads authors → ((name : Name) → IsBelow objects tops name → IsBelow objects heads name)
    → (create other : ℕ) → IsRootClock bug_kind objects tops create → IsRootClock bug_kind objects tops other → create ≡ other
unfolding EntityFaultHolds
one_root objects id heads tops authors valid up create other one two =
    let names : one.node.placed.commit ≡ two.node.placed.commit = name_stable one.node.placed.commit two.node.placed.commit (λ differ.
    valid (fault.SecondRoot one.node.placed.commit) (record { one = root one.node one.is; other = two.node.placed.commit; two = root two.node two.is; differ = differ })) in
    let packs = same_Some one.node.placed.pack two.node.placed.pack
    (sym (pack_of_node bug_kind objects one.node one.is.is.is) ∙ ap (pack_at bug_kind objects) names ∙ pack_of_node bug_kind objects two.node two.is.is.is) in
    same_Some create other (sym one.says ∙ ap (λ p. p.create) packs ∙ two.says)
  where
    root : (node : Loaded BugOp) → IsRootNode bug_kind objects tops node → IsRootCommit objects heads node.placed.commit
    root node is = record {
      commit = is.is.is.commit;
      is = record { below = up node.placed.commit is.is.below; held = is.is.is.held };
      root = sym is.is.is.parents ∙ is.root;
    }

-- what lies below the tracked head lies below both
below_both : (objects : Objects) (local : Option Name) (tracked name : Name) → IsBelow objects (tracked ∷ []) name → IsBelow objects (both_heads local tracked) name
below_both objects None tracked name below = below
below_both objects (Some low) tracked name below = under objects (low ∷ tracked ∷ []) tracked (is_second objects low tracked) name below

module _ (folder : List ℕ) (user : Id) (authors : List Id) (now : ℕ) (id : Id) (local : Option Name) (tracked : Name) (old : History) where
  abbrev objects : Objects
  objects = objects_after old folder

  abbrev Plan : Merged → ℕ → ℕ → List (List ℕ) → Type 0
  Plan word edit create texts = HasPlan folder user authors now id local tracked word edit create texts old

  abbrev clock : ℕ
  clock = clock_at (files_of old) folder file.BugsEdit

  -- nothing is wrong with both heads where one is to be set
  plan_entity : (word : Merged) (edit create : ℕ) (texts : List (List ℕ)) → (word ≡ merged.Nothing → ⊥) → DoesWord bug_kind objects id local tracked user authors clock now word edit create texts
      → (entity : Entity BugOp) × IsEntity bug_kind objects id (both_heads local tracked) authors entity
  plan_entity merged.Nothing edit create texts some does = absurd (some refl)
  plan_entity (merged.New head) edit create texts some does = (does.entity, does.is)
  plan_entity (merged.Forward head) edit create texts some does = (does.entity, does.is)
  plan_entity (merged.Joined head) edit create texts some does = by local does
    where
      by : (low : Option Name) → DoesWord bug_kind objects id low tracked user authors clock now (merged.Joined head) edit create texts → (entity : Entity BugOp) × IsEntity bug_kind objects id (both_heads low tracked) authors entity
      by None none = absurd none
      by (Some name) joins = (joins.entity, joins.is)

  -- and the tracked head is not known
  plan_unknown : (word : Merged) → (word ≡ merged.Nothing → ⊥) → HasWord objects local tracked word → IsKnown objects local tracked → ⊥
  plan_unknown merged.Nothing some has known = some refl
  plan_unknown (merged.New head) some has known = one_word objects local tracked (merged.New head) merged.Nothing has known
  plan_unknown (merged.Forward head) some has known = one_word objects local tracked (merged.Forward head) merged.Nothing has known
  plan_unknown (merged.Joined head) some has known = one_word objects local tracked (merged.Joined head) merged.Nothing has known

  -- the clocks and the texts that are to be written, and the head
  abbrev SameEnds : (edit late create made : ℕ) (texts others : List (List ℕ)) → Type 0
  SameEnds edit late create made texts others = (edit ≡ late) × (create ≡ made) × (texts ≡ others)

  takes_same : (edit late create made : ℕ) (texts others : List (List ℕ)) → TakesRemote bug_kind objects id local tracked authors edit create texts → TakesRemote bug_kind objects id local tracked authors late made others
      → SameEnds edit late create made texts others
  takes_same edit late create made texts others one two = (
    same_Some edit late (sym one.edit_is ∙ two.edit_is),
    one_root objects id (both_heads local tracked) (tracked ∷ []) authors one.is.valid (below_both objects local tracked) create made one.create_is two.create_is,
    one.no_texts ∙ sym two.no_texts,
  )

  joins_same : (low head second : Name) (edit late create made : ℕ) (texts others : List (List ℕ)) → JoinsBoth bug_kind objects id low tracked user authors clock now head edit create texts
      → JoinsBoth bug_kind objects id low tracked user authors clock now second late made others → (head ≡ second) × SameEnds edit late create made texts others
  joins_same low head second edit late create made texts others one two = (
    one.head_is ∙ ap (λ (e : ℕ). merge_name bug_kind low tracked user e now) edits ∙ sym two.head_is,
    (
      edits,
      one.create_is ∙ one_root objects id (low ∷ tracked ∷ []) (low ∷ tracked ∷ []) authors one.is.valid (λ name below. below) one.entity.create two.entity.create one.is.create two.is.create ∙ sym two.create_is,
      one.texts_are ∙ ap (λ (e : ℕ). merge_objects bug_kind low tracked user e now) edits ∙ sym two.texts_are,
    ),
  )
    where
      edits : edit ≡ late
      edits =
          let first : one.edit_is.one ≡ two.edit_is.one = same_Some one.edit_is.one two.edit_is.one (sym one.edit_is.says_one ∙ two.edit_is.says_one) in
          let then : one.edit_is.two ≡ two.edit_is.two = same_Some one.edit_is.two two.edit_is.two (sym one.edit_is.says_two ∙ two.edit_is.says_two) in
          one.edit_is.is ∙ (λ i. merge_time_of clock (first i) (then i)) ∙ sym two.edit_is.is

  abbrev Does : Merged → ℕ → ℕ → List (List ℕ) → Type 0
  Does word edit create texts = DoesWord bug_kind objects id local tracked user authors clock now word edit create texts

  -- two words that hold do the same
  words_same : (word other : Merged) (head second : Name) (edit late create made : ℕ) (texts others : List (List ℕ)) → (word ≡ merged.Nothing → ⊥) → Some head ≡ head_of local word → Some second ≡ head_of local other
      → HasWord objects local tracked word → HasWord objects local tracked other → Does word edit create texts → Does other late made others → (head ≡ second) × SameEnds edit late create made texts others
  words_same merged.Nothing other head second edit late create made texts others some is too has also does does_too = absurd (some refl)
  words_same (merged.New a) (merged.New b) head second edit late create made texts others some is too has also does does_too =
      (same_Some head a is ∙ one_word objects local tracked (merged.New a) (merged.New b) has also ∙ sym (same_Some second b too), takes_same edit late create made texts others does does_too)
  words_same (merged.New a) merged.Nothing head second edit late create made texts others some is too has also does does_too = absurd (one_word objects local tracked (merged.New a) merged.Nothing has also)
  words_same (merged.New a) (merged.Forward b) head second edit late create made texts others some is too has also does does_too = absurd (one_word objects local tracked (merged.New a) (merged.Forward b) has also)
  words_same (merged.New a) (merged.Joined b) head second edit late create made texts others some is too has also does does_too = absurd (one_word objects local tracked (merged.New a) (merged.Joined b) has also)
  words_same (merged.Forward a) (merged.Forward b) head second edit late create made texts others some is too has also does does_too =
      (same_Some head a is ∙ one_word objects local tracked (merged.Forward a) (merged.Forward b) has also ∙ sym (same_Some second b too), takes_same edit late create made texts others does does_too)
  words_same (merged.Forward a) merged.Nothing head second edit late create made texts others some is too has also does does_too = absurd (one_word objects local tracked (merged.Forward a) merged.Nothing has also)
  words_same (merged.Forward a) (merged.New b) head second edit late create made texts others some is too has also does does_too = absurd (one_word objects local tracked (merged.Forward a) (merged.New b) has also)
  words_same (merged.Forward a) (merged.Joined b) head second edit late create made texts others some is too has also does does_too = absurd (one_word objects local tracked (merged.Forward a) (merged.Joined b) has also)
  words_same (merged.Joined a) merged.Nothing head second edit late create made texts others some is too has also does does_too = absurd (one_word objects local tracked (merged.Joined a) merged.Nothing has also)
  words_same (merged.Joined a) (merged.New b) head second edit late create made texts others some is too has also does does_too = absurd (one_word objects local tracked (merged.Joined a) (merged.New b) has also)
  words_same (merged.Joined a) (merged.Forward b) head second edit late create made texts others some is too has also does does_too = absurd (one_word objects local tracked (merged.Joined a) (merged.Forward b) has also)
  words_same (merged.Joined a) (merged.Joined b) head second edit late create made texts others some is too has also does does_too =
      let same = joined local does does_too in
      (same_Some head a is ∙ same.0 ∙ sym (same_Some second b too), same.1)
    where
      joined : (low : Option Name) → DoesWord bug_kind objects id low tracked user authors clock now (merged.Joined a) edit create texts → DoesWord bug_kind objects id low tracked user authors clock now (merged.Joined b) late made others
          → (a ≡ b) × SameEnds edit late create made texts others
      joined None none never = absurd none
      joined (Some low) one two = joins_same low a b edit late create made texts others one two

  -- nothing is written of a bug
  abbrev Rests : Type 0
  Rests = IsKnown objects local tracked ⊎ ((f : EntityFault) × EntityFaultHolds bug_kind objects id (both_heads local tracked) authors f)

  rests_apart : (word : Merged) (edit create : ℕ) (texts : List (List ℕ)) → (word ≡ merged.Nothing → ⊥) → Plan word edit create texts → Rests → ⊥
  rests_apart word edit create texts some plan (inl known) = plan_unknown word some plan.word_is known
  rests_apart word edit create texts some plan (inr (f, holds)) = (plan_entity word edit create texts some plan.does).1.valid f holds

  -- or it gets a head
  record Gets (new : History) : Type 0 where
    word : Merged
    head : Name
    is_new : word ≡ merged.Nothing → ⊥
    is_head : Some head ≡ head_of local word
    gets : GetsHead folder user authors now id local tracked word head old new

  bug_came : (out : MergeOutcome) (new : History) → BugOutcome folder user authors now id local tracked out old new → (Rests × (new ≡ old)) ⊎ Gets new
  bug_came outcome.Nothing new (known, same) = inl (inl known, same)
  bug_came outcome.New new is = inr (record { word = merged.New tracked; head = tracked; is_new = λ e. cc e; is_head = refl; gets = is })
  bug_came outcome.Forward new is = inr (record { word = merged.Forward tracked; head = tracked; is_new = λ e. cc e; is_head = refl; gets = is })
  bug_came outcome.Joined new (head, is) = inr (record { word = merged.Joined head; head = head; is_new = λ e. cc e; is_head = refl; gets = is })
  bug_came (outcome.InvalidBug f) new is = inl (inr (f, is.1), is.2)
  bug_came (outcome.InvalidIdentity f) new none = absurd none
  bug_came (outcome.NotForward name) new none = absurd none

  gets_same : (new newer : History) (one : Gets new) (two : Gets newer) → new ≡ newer
  gets_same new newer one two =
      let a = one.gets in
      let b = two.gets in
      let same = words_same one.word two.word one.head two.head a.edit b.edit a.create b.create a.texts b.texts one.is_new one.is_head two.is_head a.plan.word_is b.plan.word_is a.plan.does b.plan.does in
      a.wrote ∙ (λ i. reverse (merged_writes folder id (same.0 i) (same.1.0 i) (same.1.1 i) (same.1.2 i) (files_of old)) ++ old) ∙ sym b.wrote

  bug_once : (new newer : History) → (Rests × (new ≡ old)) ⊎ Gets new → (Rests × (newer ≡ old)) ⊎ Gets newer → new ≡ newer
  bug_once new newer (inl one) (inl two) = one.1 ∙ sym two.1
  bug_once new newer (inl one) (inr two) = absurd (rests_apart two.word two.gets.edit two.gets.create two.gets.texts two.is_new two.gets.plan one.0)
  bug_once new newer (inr one) (inl two) = absurd (rests_apart one.word one.gets.edit one.gets.create one.gets.texts one.is_new one.gets.plan two.0)
  bug_once new newer (inr one) (inr two) = gets_same new newer one two

  -- a merge commit of which an object cannot have its name was not made
  barred_apart : (head name : Name) (edit create : ℕ) (texts : List (List ℕ)) (new : History) → Plan (merged.Joined head) edit create texts → CannotHave folder texts old name → (Rests × (new ≡ old)) ⊎ Gets new → ⊥
  barred_apart head name edit create texts new plan cannot (inl rests) = rests_apart (merged.Joined head) edit create texts (λ e. cc e) plan rests.0
  barred_apart head name edit create texts new plan cannot (inr one) =
      let a = one.gets in
      let same = words_same (merged.Joined head) one.word head one.head edit a.edit create a.create texts a.texts (λ e. cc e) refl one.is_head plan.word_is a.plan.word_is plan.does a.plan.does in
      a.free.free name (subst (λ (them : List (List ℕ)). CannotHave folder them old name) same.1.2 cannot)

module _ (folder : List ℕ) (user : Id) (authors : List Id) (now : ℕ) where
  -- the heads of one turn are those of another
  abbrev OfTurn : EntityRef → Option Name → Name → History → Type 0
  OfTurn entity local tracked old = (entity.head ≡ Some tracked) × IsHeadAt (files_of old) folder side.Bugs entity.id local

  heads_same : (entity : EntityRef) (old : History) (local low : Option Name) (tracked top : Name) → OfTurn entity local tracked old → OfTurn entity low top old → (P : Option Name → Name → Type 0) → P low top → P local tracked
  heads_same entity old local low tracked top one two P is =
      subst (λ (l : Option Name). P l tracked) (one_head (files_of old) folder side.Bugs entity.id low local two.1 one.1) (subst (P low) (same_Some top tracked (sym two.0 ∙ one.0)) is)

  pub bug_fixed : IsFixed (MergesBug folder user authors now)
  bug_fixed entity out other old new newer one two =
      let also = heads_same entity old one.local two.local one.tracked two.tracked (one.is_tracked, one.is_local) (two.is_tracked, two.is_local)
      (λ l t. BugOutcome folder user authors now entity.id l t other old newer) two.is in
      bug_once folder user authors now entity.id one.local one.tracked old new newer
      (bug_came folder user authors now entity.id one.local one.tracked old out new one.is) (bug_came folder user authors now entity.id one.local one.tracked old other newer also)

  module _ (tracked : Side) where
    abbrev pub BugFails : EntityRef → History → Type 0
    BugFails entity old = (why : TurnStop) × (new : History) × IsBar why × BugStops folder user authors now tracked why entity old new

    pub bug_apart : AreApart (MergesBug folder user authors now) BugFails
    bug_apart entity out old new step (turn.Memory, end, none, stops) = none
    bug_apart entity out old new step (turn.Disk, end, none, stops) = none
    bug_apart entity out old new step (turn.Damaged path, end, bar, stops) = bad_apart folder tracked side.Bugs entity old path end step.tracked step.local stops step.is_tracked step.is_local
    bug_apart entity out old new step (turn.Taken name, end, bar, stops) =
        let also = heads_same entity old stops.local step.local stops.tracked step.tracked (stops.is_tracked, stops.is_local) (step.is_tracked, step.is_local)
        (λ l t. BugOutcome folder user authors now entity.id l t out old new) step.is in
        barred_apart folder user authors now entity.id stops.local stops.tracked old stops.head name stops.edit stops.create stops.texts new stops.plan stops.cannot
        (bug_came folder user authors now entity.id stops.local stops.tracked old out new also)
