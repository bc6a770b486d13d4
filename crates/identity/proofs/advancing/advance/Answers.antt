use Rattle.std.proofs.Common.{rules, ◌≡◌, ◌∙◌, List, Option, Some, Ok, Err, length, sym, ap, subst, arith}
use Rattle.std.proofs.lemmas.Option.{same_Some}
use Rattle.gb_text.specs.declared.id.Name.{Name}
use Rattle.gb_store.specs.Files.{History}
use Rattle.object_store.specs.Held.{objects_after}
use Rattle.commit_walk.specs.Chain.{Meets, Passes}
use Rattle.commit_walk.specs.Passing.{ReadsAbove}
use Rattle.commit_walk.specs.declared.chain.Link.{Link}
use Rattle.commit_walk.proofs.ChainPassLemmas.{one_walk}
use Rattle.identity.specs.Advancing.{AdvanceAnswers, stop_of_fault}
use Rattle.identity.specs.Answers.{HasChain}
use Rattle.identity.specs.Faults.{Refused}
use Rattle.identity.specs.Persons.{IdentityFaultHolds}
use Rattle.identity.specs.declared.advancing.Step.TheVariants as step
use Rattle.identity.specs.declared.advancing.AdvanceFault.TheVariants as stop
use Rattle.identity.proofs.AdvancingLemmas.{advance_refused, goes_apart, goes_forward}
use Rattle.identity.proofs.advancing.advance.Goals as goal

pub returns-in_default-clause-begun : goal.returns-in_default-clause-begun
returns-in_default-clause-begun g c = λ tells none walk walked.
    let objects = objects_after (g.S.Store.history c.args.disk.now) c.args.folder.now in
    let has = c.in_ok-read_whole.ensures.answers tells in
    let same : c.in_ok-read_whole.field-0.0.items ≡ walk = has.walks ∙ one_walk objects c.args.remote.now has.chain.walk walk has.chain.walked walked in
    omega (arith, ap length same, c.in_ok-read_whole.ensures.once)

pub returns-in_err-passes-clause-above : goal.returns-in_err-passes-clause-above
returns-in_err-passes-clause-above g c = λ head tells is.
    let objects = objects_after (g.S.Store.history c.args.disk.now) c.args.folder.now in
    subst (λ (name : Name). ReadsAbove objects name c.args.remote.now (g.S.Store.object_reads c.args.disk.now) (g.S.Store.object_reads c.passes.new.disk))
    (same_Some c.in-Some.local head (sym c.in-Some.is ∙ is)) (c.in_err-passes.ensures.above tells)

pub returns-then-branch-clause-above : goal.returns-then-branch-clause-above
returns-then-branch-clause-above g c = λ head tells is.
    let objects = objects_after (g.S.Store.history c.args.disk.now) c.args.folder.now in
    subst (λ (name : Name). ReadsAbove objects name c.args.remote.now (g.S.Store.object_reads c.args.disk.now) (g.S.Store.object_reads c.passes.new.disk))
    (same_Some c.in-Some.local head (sym c.in-Some.is ∙ is)) (c.in_ok-passes.ensures.above tells)

pub returns-in_err-walk-clause-answers : goal.returns-in_err-walk-clause-answers
returns-in_err-walk-clause-answers g c = λ tells.
    let objects = objects_after (g.S.Store.history c.args.disk.now) c.args.folder.now in
    let id = c.args.id.now in
    let remote = c.args.remote.now in
    let f = c.in_err-walk.field-0.0 in
    let is : c.from_residual-in_err-walk.result ≡ Err (stop_of_fault f) = search rules in
    let unknown : Meets objects c.in-Some.local remote → ⊥ = λ met. let passed = (c.in_ok-passes.ensures.answers tells).1 met in cc (sym c.if-branch.false ∙ passed) in
    let holds : Refused (IdentityFaultHolds objects id remote) f =
    subst (λ (h : History). Refused (IdentityFaultHolds (objects_after h c.args.folder.now) id remote) f) (c.in_ok-passes.ensures.unwritten tells) (c.in_err-walk.ensures.answers tells) in
    let all : AdvanceAnswers objects id (Some c.in-Some.local) remote (Err (stop_of_fault f)) = advance_refused objects id (Some c.in-Some.local) remote unknown f holds in
    subst (λ (local : Option Name). AdvanceAnswers objects id local remote c.from_residual-in_err-walk.result) (sym c.in-Some.is)
    (subst (λ r. AdvanceAnswers objects id (Some c.in-Some.local) remote r) (sym is) all)

pub returns-then-has_commit-clause-answers : goal.returns-then-has_commit-clause-answers
returns-then-has_commit-clause-answers g c = λ tells.
    let objects = objects_after (g.S.Store.history c.args.disk.now) c.args.folder.now in
    let id = c.args.id.now in
    let remote = c.args.remote.now in
    let local = c.in-Some.local in
    let walk = c.in_ok-walk.walk.items in
    let last = c.in_ok-walk.field-0-1 in
    let unknown : Meets objects local remote → ⊥ = λ met. let passed = (c.in_ok-passes.ensures.answers tells).1 met in cc (sym c.if-branch.false ∙ passed) in
    let has : HasChain objects id remote walk last =
    subst (λ (h : History). HasChain (objects_after h c.args.folder.now) id remote walk last) (c.in_ok-passes.ensures.unwritten tells) (c.in_ok-walk.ensures.answers tells) in
    let passes : Passes walk local = subst (λ (links : List Link). Passes links local) c.deref.ensures.value (c.has_commit.ensures.0 c.if-has_commit.true) in
    subst (λ (head : Option Name). AdvanceAnswers objects id head remote (Ok step.Forward)) (sym c.in-Some.is) (goes_forward objects id local remote walk last unknown has passes)

pub returns-clause-answers : goal.returns-clause-answers
returns-clause-answers g c = λ tells.
    let objects = objects_after (g.S.Store.history c.args.disk.now) c.args.folder.now in
    let id = c.args.id.now in
    let remote = c.args.remote.now in
    let local = c.in-Some.local in
    let walk = c.in_ok-walk.walk.items in
    let last = c.in_ok-walk.field-0-1 in
    let unknown : Meets objects local remote → ⊥ = λ met. let passed = (c.in_ok-passes.ensures.answers tells).1 met in cc (sym c.if-branch.false ∙ passed) in
    let has : HasChain objects id remote walk last =
    subst (λ (h : History). HasChain (objects_after h c.args.folder.now) id remote walk last) (c.in_ok-passes.ensures.unwritten tells) (c.in_ok-walk.ensures.answers tells) in
    let apart : Passes walk local → ⊥ = λ passes.
    let found = c.has_commit.ensures.1 (subst (λ (links : List Link). Passes links local) (sym c.deref.ensures.value) passes) in cc (sym c.if-has_commit.false ∙ found) in
    subst (λ (head : Option Name). AdvanceAnswers objects id head remote (Err (stop.NotForward local remote))) (sym c.in-Some.is) (goes_apart objects id local remote walk last unknown has apart)
