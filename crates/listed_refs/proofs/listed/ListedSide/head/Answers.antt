use Rattle.std.proofs.Common.{rules, ◌≡◌, Option, Ok, Err, sym, subst}
use Rattle.repo_state.specs.Answers.{EntityAnswers, IsHeadAt, Reads}
use Rattle.repo_state.specs.Sides.{IsBadRef}
use Rattle.repo_state.specs.declared.refs.EntityRef.{EntityRef}
use Rattle.listed_refs.proofs.ListedLemmas.{bad_told, head_of_ref}
use Rattle.listed_refs.proofs.listed.ListedSide.head.Goals as goal

pub returns-in_err-whole-in-Some-clause-answers : goal.returns-in_err-whole-in-Some-clause-answers
returns-in_err-whole-in-Some-clause-answers c = λ files alike.
    let folder = c.args.folder.now in
    let of = c.args.self.now.side in
    let id = c.args.id.now in
    let why = c.in_err-whole-in-Some.field-0.0 in
    let is : c.from_residual.result ≡ Err why = search rules in
    let told = subst (λ (found : Option EntityRef). EntityAnswers files folder of id (Ok found)) c.in-Some.is (c.entity.ensures files folder alike) in
    subst (Reads (IsHeadAt files folder of id) (IsBadRef files folder of id)) (sym is) (bad_told files folder of id c.in-Some.entity why told c.in_err-whole-in-Some.ensures)

pub returns-in_ok-whole-in-Some-clause-answers : goal.returns-in_ok-whole-in-Some-clause-answers
returns-in_ok-whole-in-Some-clause-answers c = λ files alike.
    let folder = c.args.folder.now in
    let of = c.args.self.now.side in
    let id = c.args.id.now in
    let told = subst (λ (found : Option EntityRef). EntityAnswers files folder of id (Ok found)) c.in-Some.is (c.entity.ensures files folder alike) in
    head_of_ref files folder of id c.in-Some.entity c.in_ok-whole-in-Some.field-0.name told c.in_ok-whole-in-Some.ensures.1
