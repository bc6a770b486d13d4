-- How a bug gets a head by a plan.
use Rattle.std.specs.Prelude.{◌≡◌, ◌⊎◌, ◌++◌, ⊤, ℕ, List, reverse, Vec, Result, Ok, Err}
use Rattle.std.specs.declared.alloc.Global.{Global}
use Rattle.gb_text.specs.declared.id.Id.{Id}
use Rattle.gb_text.specs.declared.id.Name.{Name}
use Rattle.gb_store.specs.Files.{History, files_of}
use Rattle.gb_store.specs.Moments.{WroteSome}
use Rattle.gb_store.specs.declared.store.Change.{Change}
use Rattle.object_batch.specs.Batches.{CannotHave, MayBePut}
use Rattle.entity_merge.specs.declared.plan.MergePlan.{MergePlan}
use Rattle.merge_steps.specs.Merging.{merged_writes}
use Rattle.merge_steps.specs.declared.stop.TurnStop.{TurnStop}
use Rattle.merge_steps.specs.declared.stop.TurnStop.TheVariants as stop

module _ (folder : List ℕ) (id : Id) (head : Name) (plan : MergePlan) (old : History) where
  -- the writes of a plan
  abbrev pub writes_of : List Change
  writes_of = merged_writes folder id head plan.edit plan.create plan.objects (files_of old)

  -- the answer to which writes give the bug the head; or the name of an object that cannot have its text
  abbrev pub WritesAnswers : Result (Vec Change Global) TurnStop → Type 0
  WritesAnswers (Ok writes) = MayBePut folder plan.objects old × (writes.items ≡ writes_of)
  WritesAnswers (Err stop.Memory) = ⊤
  WritesAnswers (Err stop.Disk) = ⊤
  WritesAnswers (Err (stop.Damaged path)) = ⊥
  WritesAnswers (Err (stop.Taken name)) = CannotHave folder plan.objects old name

  -- nothing was written, or the first of the writes were made
  abbrev pub GiveCut : History → Type 0
  GiveCut new = (new ≡ old) ⊎ (MayBePut folder plan.objects old × WroteSome writes_of old new)

  -- the answer to these writes, and which of them were made
  abbrev pub GiveAnswers : History → Result Unit TurnStop → Type 0
  GiveAnswers new (Ok done) = MayBePut folder plan.objects old × (new ≡ reverse writes_of ++ old)
  GiveAnswers new (Err stop.Memory) = GiveCut new
  GiveAnswers new (Err stop.Disk) = GiveCut new
  GiveAnswers new (Err (stop.Damaged path)) = ⊥
  GiveAnswers new (Err (stop.Taken name)) = CannotHave folder plan.objects old name × (new ≡ old)
