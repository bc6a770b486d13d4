use Rattle.std.proofs.Common.{◌≡◌, ◌≢◌, List, ℕ, Result, Err, Some, sym, subst, rules}
use Rattle.gb_store.specs.Files.{History}
use Rattle.object_store.specs.Held.{objects_after}
use Rattle.object_store.specs.Typed.{AnswersAs, as_blob, blob_at}
use Rattle.op_kind.specs.declared.place.TheConstants.{VERSION}
use Rattle.op_pack.specs.Packs.{PackTextFault}
use Rattle.op_pack.specs.declared.fault.PackFault.TheVariants as pack
use Rattle.op_pack.specs.declared.pack.Pack.{Pack}
use Rattle.commit_pack.specs.Answers.{PackAnswers}
use Rattle.commit_pack.specs.Faults.{pack_fault}
use Rattle.commit_pack.specs.declared.fault.CommitPackFault.{CommitPackFault}
use Rattle.commit_pack.proofs.PackLemmas.{PackAnswers-ops, PackAnswers-text}
use Rattle.commit_pack.proofs.read.read_pack.Goals as goal

pub returns-in-Err-clause-answers : goal.returns-in-Err-clause-answers
returns-in-Err-clause-answers g c = λ tells.
    let objects = objects_after (g.S.Store.history c.args.disk.now) c.args.folder.now in
    let blob : AnswersAs as_blob objects c.in_ok-head.head.ops (Err c.in-Err.fault) =
    subst (λ (h : History). AnswersAs as_blob (objects_after h c.args.folder.now) c.in_ok-head.head.ops (Err c.in-Err.fault)) (c.in_ok-head.ensures.unwritten tells) (c.in-Err.ensures.answers tells) in
    subst (λ (f : CommitPackFault). PackAnswers g.K.OpKind.meaning objects c.args.tree.now (Err f)) (sym c.of_ops.ensures)
    (PackAnswers-ops g.K.OpKind.meaning objects c.args.tree.now c.in_ok-head.head (c.in_ok-head.ensures.answers tells) c.in-Err.fault blob)

pub returns-in_err-read-clause-answers : goal.returns-in_err-read-clause-answers
returns-in_err-read-clause-answers g c = λ tells.
    let objects = objects_after (g.S.Store.history c.args.disk.now) c.args.folder.now in
    let is : c.from_residual-in_err-read.result ≡ Err (pack_fault c.in_err-read.field-0.0) = search rules in
    let text : blob_at objects c.in_ok-head.head.ops ≡ Some c.in-Ok.text =
    subst (λ (h : History). blob_at (objects_after h c.args.folder.now) c.in_ok-head.head.ops ≡ Some c.in-Ok.text) (c.in_ok-head.ensures.unwritten tells) (c.in-Ok.ensures.answers tells) in
    let fails : c.in_err-read.field-0.0 ≢ pack.Memory → PackTextFault g.K.OpKind.meaning VERSION c.in-Ok.text c.in_err-read.field-0.0 =
    subst (λ (t : List ℕ). c.in_err-read.field-0.0 ≢ pack.Memory → PackTextFault g.K.OpKind.meaning VERSION t c.in_err-read.field-0.0) c.as_slice.ensures c.in_err-read.ensures.answer in
    subst (λ (r : Result (Pack g.row.K.Denot) CommitPackFault). PackAnswers g.K.OpKind.meaning objects c.args.tree.now r) (sym is)
    (PackAnswers-text g.K.OpKind.meaning objects c.args.tree.now c.in_ok-head.head (c.in_ok-head.ensures.answers tells) c.in-Ok.text text c.in_err-read.field-0.0 fails)
