use Rattle.std.proofs.Common.{◌≡◌, Ok, Option, subst}
use Rattle.gb_text.specs.Folder.{joined}
use Rattle.gb_text.specs.declared.id.Name.{Name}
use Rattle.gb_store.specs.Files.{History, files_of}
use Rattle.packed_refs.specs.Packed.{head_of}
use Rattle.ref_store.specs.Refs.{Absent, Answers, Head, packed_at, ref_of}
use Rattle.ref_store.proofs.ReadLemmas.{err_answers, head_answers, packed_answers}
use Rattle.ref_store.proofs.read.get.Goals as goal

pub returns-in_err-head-clause-answers : goal.returns-in_err-head-clause-answers
returns-in_err-head-clause-answers g c = λ tells.
    let files = files_of (g.S.Store.history c.args.disk.now) in
    err_answers files c.args.folder.now c.args.path.now c.in_err-head.field-0.0 c.from_residual.result c.from_residual.ensures.1 (c.in_err-head.ensures.answers tells)

pub returns-in-Some-clause-answers : goal.returns-in-Some-clause-answers
returns-in-Some-clause-answers g c = λ tells.
    let files = files_of (g.S.Store.history c.args.disk.now) in
    let loose : ref_of (files (joined c.args.folder.now c.args.path.now)) ≡ Head c.in-Some.head =
    subst (λ (o : Option Name). Answers (joined c.args.folder.now c.args.path.now) (ref_of (files (joined c.args.folder.now c.args.path.now))) (Ok o)) c.in-Some.is (c.in_ok-head.ensures.answers tells) in
    head_answers files c.args.folder.now c.args.path.now c.in-Some.head loose

pub returns-in_ok-packed_head-in-None-clause-answers : goal.returns-in_ok-packed_head-in-None-clause-answers
returns-in_ok-packed_head-in-None-clause-answers g c = λ tells.
    let files = files_of (g.S.Store.history c.args.disk.now) in
    let loose : ref_of (files (joined c.args.folder.now c.args.path.now)) ≡ Absent =
    subst (λ (o : Option Name). Answers (joined c.args.folder.now c.args.path.now) (ref_of (files (joined c.args.folder.now c.args.path.now))) (Ok o)) c.in-None.is (c.in_ok-head.ensures.answers tells) in
    let found : c.in_ok-packed_head-in-None.field-0 ≡ head_of c.args.path.now (packed_at files c.args.folder.now) =
    subst (λ (h : History). c.in_ok-packed_head-in-None.field-0 ≡ head_of c.args.path.now (packed_at (files_of h) c.args.folder.now)) (c.in_ok-head.ensures.unwritten tells) (c.in_ok-packed_head-in-None.ensures.head tells) in
    packed_answers files c.args.folder.now c.args.path.now c.in_ok-packed_head-in-None.field-0 loose found
