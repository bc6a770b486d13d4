-- The commit over both heads of a bug, once its objects are put.
use Rattle.std.proofs.Common.{◌≡◌, ◌<◌, ◌≤◌, ◌^◌, ℕ, List, [], ◌∷◌, ◌++◌, reverse, Contains, Some, inl, inr, refl, subst, arith}
use Rattle.gb_text.specs.declared.decimal.TheConstants.{GREATEST_TIME}
use Rattle.lamport.specs.declared.clock.TheConstants.{CAP}
use Rattle.object_store.specs.Typed.{HoldsAs, as_commit, commit_at}
use Rattle.object_store.proofs.GrowthLemmas.{bind-some}
use Rattle.object_batch.proofs.ClashLemmas.{Contains-cons_cases}
use Rattle.object_batch.proofs.PlanLemmas.{batch_grew, batch_held}
use Rattle.dag_entity.specs.Agreeing.{SameNeeded}
use Rattle.dag_entity.specs.Appending.{AreHeld, MayBeAppended}
use Rattle.dag_entity.specs.Extending.{extended}
use Rattle.dag_entity.specs.Faults.{AreApart}
use Rattle.dag_entity.specs.Joining.{IsMergeTime, merge_name, merge_node, merge_objects, merge_pack}
use Rattle.dag_entity.specs.Nodes.{IsNode}
use Rattle.dag_entity.proofs.AgreeGrowth.{valid_stays}
use Rattle.dag_entity.proofs.AppendedLemmas.{append_needed, node_stands, pack_reads, parent_names}
use Rattle.dag_entity.proofs.JoinLemmas.{joined_entity}
use Rattle.dag_entity.proofs.LawRules.{clock}
use Rattle.dag_entity.proofs.UnionLemmas.{one_below}
use Rattle.repo_state.proofs.BugLemmas.{edit_within}
use Rattle.merge_steps.proofs.Names.{IsId, IsName, Id, Name, History, files_of, Wrote, Objects, objects_after, MayBePut, missing_writes, PutsAfterNeeds, Contains-first, Contains-later, Contains-one, IsBelow, bug_kind, bug_keeps_laws, BugOp, IsEntity, edit_at, Entity}

-- what stands after these objects are put
abbrev pub put : List ℕ → List (List ℕ) → History → History
put folder texts old = reverse (missing_writes folder texts (files_of old)) ++ old

-- a head that says an edit clock is held, as a commit
pub says_held : (objects : Objects) (name : Name) (edit : ℕ) → edit_at objects name ≡ Some edit → HoldsAs as_commit objects name
says_held objects name edit says =
    let commit = bind-some _ (commit_at objects name) edit says in
    (commit.0, commit.1)

-- so it is a name
pub says_name : (objects : Objects) (name : Name) (edit : ℕ) → edit_at objects name ≡ Some edit → IsName name
says_name objects name edit says =
    (parent_names objects (name ∷ []) (λ p c. subst (HoldsAs as_commit objects) (Contains-one name p c) (says_held objects name edit says))).0

module _ (folder : List ℕ) (id : Id) (low tracked : Name) (user : Id) (authors : List Id) (number now edit : ℕ) (old : History) (entity : Entity BugOp)
    (is_user : IsId user) (moment : now < 2 ^ 64) (capped : number ≤ CAP) (is : IsEntity bug_kind (objects_after old folder) id (low ∷ tracked ∷ []) authors entity)
    (apart : AreApart (objects_after old folder) (low ∷ tracked ∷ []) low tracked) (time : IsMergeTime (objects_after old folder) low tracked number edit)
    (free : MayBePut folder (merge_objects bug_kind low tracked user edit now) old) where
  abbrev before : Objects
  before = objects_after old folder

  abbrev heads : List Name
  heads = low ∷ tracked ∷ []

  abbrev texts : List (List ℕ)
  texts = merge_objects bug_kind low tracked user edit now

  abbrev after : Objects
  after = objects_after (put folder texts old) folder

  -- no head has the greatest clock
  not_full : (head : Name) → Contains heads head → edit_at before head ≡ Some GREATEST_TIME → ⊥
  not_full head among = clock bug_kind before id authors low tracked head is.valid apart.one_apart apart.two_apart among

  below_greatest : (head : Name) (n : ℕ) → Contains heads head → edit_at before head ≡ Some n → n < GREATEST_TIME
  below_greatest head n among says =
      let within = edit_within before head n says in
      let other : n ≡ GREATEST_TIME → ⊥ = λ same. not_full head among (subst (λ (m : ℕ). edit_at before head ≡ Some m) same says) in
      omega (arith, within, other)

  may : MayBeAppended bug_kind (merge_pack user edit)
  may =
      let one = below_greatest low time.one (Contains-first low (tracked ∷ [])) time.says_one in
      let two = below_greatest tracked time.two (Contains-later low (tracked ∷ []) tracked (Contains-first tracked [])) time.says_two in
      record {
        version = refl;
        edit = record { low = omega (arith, time.is); high = omega (arith, time.is, one, two, capped) };
        create = λ n is. absurd (cc is);
        rules = tt;
      }

  are_held : AreHeld before heads
  are_held p c = elim (Contains-cons_cases low (tracked ∷ []) p c) [
    | inl same ↦ subst (HoldsAs as_commit before) same (says_held before low time.one time.says_one)
    | inr later ↦ subst (HoldsAs as_commit before) (Contains-one tracked p later) (says_held before tracked time.two time.says_two)
  ]

  -- each object is put after all that it names
  pub joined_needed : Wrote (PutsAfterNeeds folder texts) old (put folder texts old)
  joined_needed = append_needed bug_kind heads (merge_pack user edit) now may moment (parent_names before heads are_held) folder old are_held free

  -- the commit stands then, with its pack
  pub joined_node : IsNode bug_kind after (merge_node bug_kind low tracked user edit now)
  joined_node = node_stands bug_kind heads (merge_pack user edit) now may moment (parent_names before heads are_held) after (batch_held folder texts old free)
      (pack_reads bug_kind (merge_pack user edit) bug_keeps_laws is_user (record { few = omega arith; stand = tt }))

  -- what the entity of both heads needs is as before
  pub joined_agree : SameNeeded before after heads
  joined_agree = valid_stays bug_kind id heads before after authors (batch_grew folder texts old free) is.valid

  -- the local head lies below the commit
  pub joined_under : IsBelow after (merge_name bug_kind low tracked user edit now ∷ []) low
  joined_under = one_below bug_kind before after low tracked joined_agree user edit now joined_node

  -- it has the entity of both, if its author is known
  pub joined_is : Contains authors user → IsEntity bug_kind after id (merge_name bug_kind low tracked user edit now ∷ []) authors (extended entity (merge_node bug_kind low tracked user edit now))
  joined_is known = joined_entity bug_kind bug_keeps_laws before after id low tracked user authors number now edit entity is apart time joined_agree joined_node known
