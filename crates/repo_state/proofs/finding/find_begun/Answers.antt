use Rattle.std.proofs.Common.{◌≡◌, true, [], ◌∙◌, sym, ap, subst}
use Rattle.gb_store.specs.Files.{files_of}
use Rattle.gb_text.specs.PrefixText.{is_prefix_text}
use Rattle.repo_state.specs.Sides.{AreIds}
use Rattle.repo_state.proofs.PrefixLemmas.{looked_up_many, looked_up_none, looked_up_one}
use Rattle.repo_state.proofs.finding.find_begun.Goals as goal

pub returns-in-One-clause-answers : goal.returns-in-One-clause-answers
returns-in-One-clause-answers g c = λ tells.
    let is_prefix : is_prefix_text c.args.word.now ≡ true = ap is_prefix_text (sym c.as_bytes.ensures.value) ∙ sym c.in-Some.ensures.found in
    let are = subst (AreIds (files_of (g.S.Store.history c.args.disk.now)) c.args.folder.now c.args.side.now) (sym c.as_slice-all.ensures) (c.in_ok-all.ensures.answers tells) in
    looked_up_one c.in-Some.prefix (c.in-Some.ensures.digits ∙ c.as_bytes.ensures.value) is_prefix c.as_slice-all.result.now are c.in-One.place (record { bytes = [] }) c.in-One.ensures.0 c.in-One.ensures.1

pub returns-in-NotFound-clause-answers : goal.returns-in-NotFound-clause-answers
returns-in-NotFound-clause-answers g c = λ tells.
    let is_prefix : is_prefix_text c.args.word.now ≡ true = ap is_prefix_text (sym c.as_bytes.ensures.value) ∙ sym c.in-Some.ensures.found in
    let are = subst (AreIds (files_of (g.S.Store.history c.args.disk.now)) c.args.folder.now c.args.side.now) (sym c.as_slice-all.ensures) (c.in_ok-all.ensures.answers tells) in
    looked_up_none c.in-Some.prefix (c.in-Some.ensures.digits ∙ c.as_bytes.ensures.value) is_prefix c.as_slice-all.result.now are c.in-NotFound.ensures

pub returns-clause-answers : goal.returns-clause-answers
returns-clause-answers g c = λ tells.
    let is_prefix : is_prefix_text c.args.word.now ≡ true = ap is_prefix_text (sym c.as_bytes.ensures.value) ∙ sym c.in-Some.ensures.found in
    let are = subst (AreIds (files_of (g.S.Store.history c.args.disk.now)) c.args.folder.now c.args.side.now) (sym c.as_slice-all.ensures) (c.in_ok-all.ensures.answers tells) in
    looked_up_many c.in-Some.prefix (c.in-Some.ensures.digits ∙ c.as_bytes.ensures.value) is_prefix c.as_slice-all.result.now are c.in-Ambiguous.least c.in-Ambiguous.next c.in-Ambiguous.ensures
