use Rattle.std.proofs.Common.{List, ℕ, ◌∙◌, subst}
use Rattle.gb_text.specs.Folder.{joined}
use Rattle.gb_store.specs.Files.{History, IsListing, files_of}
use Rattle.ref_packing.specs.Faults.{of_store}
use Rattle.ref_packing.specs.Reading.{DirAnswers, NamesAnswer}
use Rattle.ref_packing.specs.declared.fault.PackFault.TheVariants as fault
use Rattle.ref_packing.proofs.ReadLemmas.{at_err, dir_answers, dir_store_err}
use Rattle.ref_packing.proofs.loose.take_dir.Goals as goal

pub returns-in_err-at-clause-answers : goal.returns-in_err-at-clause-answers
returns-in_err-at-clause-answers g c = λ tells.
    let files = files_of (g.S.Store.history c.args.disk.now) in
    let taken = c.args.taken.now.items in
    at_err (DirAnswers files c.args.folder.now c.args.dir.now taken taken) fault.Memory c.from_residual.result c.from_residual.ensures.1 tt

pub returns-in_err-names-clause-answers : goal.returns-in_err-names-clause-answers
returns-in_err-names-clause-answers g c = λ tells.
    let files = files_of (g.S.Store.history c.args.disk.now) in
    let taken = c.args.taken.now.items in
    at_err (DirAnswers files c.args.folder.now c.args.dir.now taken taken) (of_store c.in_err-names.field-0.0) c.from_residual-in_err-names.result c.from_residual-in_err-names.ensures.1
    (dir_store_err files c.args.folder.now c.args.dir.now taken taken c.in_err-names.field-0.0)

pub returns-clause-answers : goal.returns-clause-answers
returns-clause-answers g c = λ tells.
    let files = files_of (g.S.Store.history c.args.disk.now) in
    let names = c.in_ok-names.names in
    let listing : IsListing files (joined c.args.folder.now c.args.dir.now) names =
    subst (λ (dir : List ℕ). IsListing files dir names) (c.as_str.ensures ∙ c.in_ok-at.ensures) (c.in_ok-names.ensures.names tells) in
    let answer : NamesAnswer files c.args.folder.now c.args.dir.now c.as_slice.result.now c.args.taken.now.items c.take_names.new.taken.items c.take_names.result =
    subst (λ (h : History). NamesAnswer (files_of h) c.args.folder.now c.args.dir.now c.as_slice.result.now c.args.taken.now.items c.take_names.new.taken.items c.take_names.result)
    (c.in_ok-names.ensures.unwritten tells) (c.take_names.ensures.answers tells) in
    dir_answers files c.args.folder.now c.args.dir.now names c.args.taken.now.items c.take_names.new.taken.items c.take_names.result listing
    (subst (λ (ns : List (List ℕ)). NamesAnswer files c.args.folder.now c.args.dir.now ns c.args.taken.now.items c.take_names.new.taken.items c.take_names.result) c.as_slice.ensures answer)
