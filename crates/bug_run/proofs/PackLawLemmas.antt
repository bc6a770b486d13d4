-- What a run that packs refs leaves and prints.
use Rattle.std.proofs.Common.{◌≡◌, ℕ, IsTrue, List, ◌++◌, ap, subst}
use Rattle.gb_text.specs.Folder.{joined}
use Rattle.gb_text.specs.declared.id.Id.{Id}
use Rattle.gb_store.specs.Files.{History, files_of}
use Rattle.gb_store.specs.Moments.{AllMoments, WroteBy}
use Rattle.ref_packing.specs.Answers.{Packs}
use Rattle.ref_packing.proofs.RefLemmas.{moments_keep}
use Rattle.repo_state.specs.Sides.{head_at, ref_place}
use Rattle.repo_state.specs.declared.side.Side.{Side}
use Rattle.repo_state.proofs.PlaceLemmas.{ref-not_packed}
use Rattle.words.specs.declared.words.Asked.TheVariants as asked
use Rattle.words.specs.declared.words.Asked.{Asked}
use Rattle.words.specs.declared.words.Command.TheVariants.{PackRefs}
use Rattle.words.specs.declared.words.Request.{Request}
use Rattle.bug_run.specs.Run.{AskedWrites, Call, RunAnswers, packed_line}
use Rattle.bug_run.specs.Answer.{Answer}
use Rattle.bug_run.specs.declared.status.Status.{Status}
use Rattle.bug_run.specs.declared.status.Status.TheVariants as status
use Rattle.bug_run.proofs.RunLemmas.{run_wrote}
use Rattle.bug_run.proofs.ServedLemmas.{done_begun, done_was}
use Rattle.bug_run.proofs.WordLemmas.{answered}

-- each ref keeps its head at each moment
pub pack_keeps_heads : (call : Call) (old new : History) (before after folder : List ℕ) (answer : Status) (of : Side) (id : Id) → IsTrue call.store_tells
    → call.asked ≡ asked.Request (record { folder = folder; command = PackRefs }) → RunAnswers call old new before after answer
    → AllMoments (λ files. head_at files folder of id ≡ head_at (files_of old) folder of id) old new
pack_keeps_heads call old new before after folder answer of id tells asks is =
    moments_keep folder old new (ref_place of id) (subst (λ (it : Asked). WroteBy (AskedWrites it call.moment) old new) asks (run_wrote call old new before after answer tells is))
    (λ same. ref-not_packed folder of id (ap (joined folder) same))

-- one that is done tells how many refs were packed
pub pack_prints : (call : Call) (old new : History) (before after folder : List ℕ) → IsTrue call.store_tells → IsTrue call.sink_tells
    → call.asked ≡ asked.Request (record { folder = folder; command = PackRefs }) → RunAnswers call old new before after status.Done
    → (count : ℕ) × Packs folder old new count × (after ≡ before ++ packed_line count)
pack_prints call old new before after folder tells prints asks is =
    let request : Request = record { folder = folder; command = PackRefs } in
    let a = answered call request old new before after status.Done asks is in
    let was = done_was call.sink_tells call.takes_memory before after a.result a.printed in
    let answers = done_begun call old new request a.result was.0 was.1 (a.done tells) in
    (answers.0, answers.1, subst (λ (said : Answer). after ≡ before ++ said.text) answers.2 (was.2 prints))
