-- The parts of a plan.
use Rattle.std.specs.Prelude.{◌≡◌, ◌≤◌, ◌+◌, ⊤, ℕ, max, [], All, Result, Ok, Err}
use Rattle.gb_text.specs.declared.decimal.TheConstants.{GREATEST_TIME}
use Rattle.gb_text.specs.declared.id.Id.{Id}
use Rattle.gb_text.specs.declared.id.Name.{Name}
use Rattle.object_store.specs.Texts.{IsShort}
use Rattle.op_kind.specs.Meaning.{Meaning}
use Rattle.dag_entity.specs.Joining.{merge_name, merge_objects}
use Rattle.entity_merge.specs.declared.fault.MergeFault.{MergeFault}
use Rattle.entity_merge.specs.declared.fault.MergeFault.TheVariants as stop
use Rattle.entity_merge.specs.declared.plan.MergePlan.{MergePlan}
use Rattle.entity_merge.specs.declared.word.Merged.TheVariants as merged

-- the plan that leaves the local head
abbrev pub no_plan : MergePlan
no_plan = record { merged = merged.Nothing; edit = 0; create = 0; objects = [] }

-- the heads were found to be equal, and nothing was read
pub record IsKnownEqual (result : Result MergePlan MergeFault) (before after : ℕ) : Type 0 where
  pub equal : result ≡ Ok no_plan
  pub reads : after ≡ before

module _ {Op State Row : Type 0} (k : Meaning Op State Row) where
  -- a merge commit joins two heads with this greatest edit clock
  pub record IsJoinPlan (greatest create : ℕ) (local remote : Name) (author : Id) (clock now : ℕ) (plan : MergePlan) : Type 0 where
    pub word : plan.merged ≡ merged.Joined (merge_name k local remote author plan.edit now)
    pub edit_is : plan.edit ≡ max clock greatest + 1
    pub create_is : plan.create ≡ create
    pub texts_are : plan.objects ≡ merge_objects k local remote author plan.edit now
    pub short : All IsShort plan.objects

  -- the answer to how they are joined
  abbrev pub JoinAnswers : ℕ → ℕ → Name → Name → Id → ℕ → ℕ → Result MergePlan MergeFault → Type 0
  JoinAnswers greatest create local remote author clock now (Ok plan) = IsJoinPlan greatest create local remote author clock now plan
  JoinAnswers greatest create local remote author clock now (Err stop.Memory) = ⊤
  JoinAnswers greatest create local remote author clock now (Err (stop.Invalid f)) = GREATEST_TIME ≤ greatest
  JoinAnswers greatest create local remote author clock now (Err _) = ⊥
