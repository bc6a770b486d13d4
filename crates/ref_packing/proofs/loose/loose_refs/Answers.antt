use Rattle.std.proofs.Common.{◌≡◌, ◌++◌, List, Err, sym, ◌∙◌, ap, subst}
use Rattle.std.specs.Prelude.{codes}
use Rattle.std.specs.List.{filter_map}
use Rattle.gb_store.specs.Files.{History, files_of}
use Rattle.packed_refs.specs.Packed.{PackedRef}
use Rattle.ref_packing.specs.Packing.{AreLoose}
use Rattle.ref_packing.specs.Reading.{DirAnswers, DirTaken, LooseAnswers, named_line}
use Rattle.ref_packing.proofs.LooseLemmas.{are_loose, first_is_first_bad, second_is_first_bad}
use Rattle.ref_packing.proofs.ReadLemmas.{at_err, loose_err}
use Rattle.ref_packing.proofs.loose.loose_refs.Goals as goal

pub returns-in_err-take_dir-clause-answers : goal.returns-in_err-take_dir-clause-answers
returns-in_err-take_dir-clause-answers g c = λ tells.
    let files = files_of (g.S.Store.history c.args.disk.now) in
    at_err (LooseAnswers files c.args.folder.now) c.in_err-take_dir.field-0.0 c.from_residual.result c.from_residual.ensures.1
    (loose_err files c.args.folder.now (codes "refs/bugs") c.new-taken.result.items c.take_dir.new.taken.items c.in_err-take_dir.field-0.0
    (λ at first. first_is_first_bad files c.args.folder.now first.names at first.listing first.first) (c.in_err-take_dir.ensures.answers tells))

pub returns-in_err-take_dir-2-clause-answers : goal.returns-in_err-take_dir-2-clause-answers
returns-in_err-take_dir-2-clause-answers g c = λ tells.
    let files = files_of (g.S.Store.history c.args.disk.now) in
    let first : DirTaken files c.args.folder.now (codes "refs/bugs") c.new-taken.result.items c.take_dir.new.taken.items = c.in_ok-take_dir.ensures.answers tells in
    let second : DirAnswers files c.args.folder.now (codes "refs/identities") c.take_dir.new.taken.items c.take_dir-2.new.taken.items (Err c.in_err-take_dir-2.field-0.0) =
    subst (λ (h : History). DirAnswers (files_of h) c.args.folder.now (codes "refs/identities") c.take_dir.new.taken.items c.take_dir-2.new.taken.items (Err c.in_err-take_dir-2.field-0.0))
    (c.in_ok-take_dir.ensures.unwritten tells) (c.in_err-take_dir-2.ensures.answers tells) in
    at_err (LooseAnswers files c.args.folder.now) c.in_err-take_dir-2.field-0.0 c.from_residual-in_err-take_dir-2.result c.from_residual-in_err-take_dir-2.ensures.1
    (loose_err files c.args.folder.now (codes "refs/identities") c.take_dir.new.taken.items c.take_dir-2.new.taken.items c.in_err-take_dir-2.field-0.0
    (λ at bad. second_is_first_bad files c.args.folder.now first.names bad.names first.listing first.good at bad.listing bad.first) second)

pub returns-clause-answers : goal.returns-clause-answers
returns-clause-answers g c = λ tells.
    let files = files_of (g.S.Store.history c.args.disk.now) in
    let folder = c.args.folder.now in
    let first : DirTaken files folder (codes "refs/bugs") c.new-taken.result.items c.take_dir.new.taken.items = c.in_ok-take_dir.ensures.answers tells in
    let second : DirTaken files folder (codes "refs/identities") c.take_dir.new.taken.items c.take_dir-2.new.taken.items =
    subst (λ (h : History). DirTaken (files_of h) folder (codes "refs/identities") c.take_dir.new.taken.items c.take_dir-2.new.taken.items)
    (c.in_ok-take_dir.ensures.unwritten tells) (c.in_ok-take_dir-2.ensures.answers tells) in
    let bugs = filter_map (named_line files folder (codes "refs/bugs")) first.names in
    let persons = filter_map (named_line files folder (codes "refs/identities")) second.names in
    let start : c.take_dir.new.taken.items ≡ bugs = first.lines ∙ ap (λ (old : List PackedRef). old ++ bugs) c.new-taken.ensures.items in
    let all : c.from_vec.result ≡ bugs ++ persons = c.from_vec.ensures ∙ second.lines ∙ ap (λ (old : List PackedRef). old ++ persons) start in
    subst (AreLoose files folder) (sym all) (are_loose files folder first.names second.names first.listing first.good second.listing second.good)
