use Rattle.std.proofs.Common.{◌≡◌, [], ◌++◌, List, ℕ, Option, Err, take, sym, ◌∙◌, ap, subst, append_assoc, arith}
use Rattle.std.specs.Prelude.{All}
use Rattle.std.proofs.lemmas.Grind.{common_steps}
use Rattle.std.proofs.lemmas.List.{take_all}
use Rattle.std.specs.List.{cons_option, filter_map}
use Rattle.gb_store.specs.Files.{History, files_of}
use Rattle.packed_refs.specs.Packed.{PackedRef}
use Rattle.ref_packing.specs.Reading.{IsGoodName, NameAnswers, NamesAnswer, named_line}
use Rattle.ref_packing.proofs.ReadLemmas.{at_err, calm_then, good_more, lines_more, names_err}
use Rattle.ref_packing.proofs.loose.take_names.Goals.{in-Some+in_ok-push, in_default}
use Rattle.ref_packing.proofs.loose.take_names.Goals as goal

pub returns-in_err-one-clause-answers : goal.returns-in_err-one-clause-answers
returns-in_err-one-clause-answers g c = λ tells.
    let files = files_of (g.S.Store.history c.args.disk.now) in
    let name = c.name-item.result in
    let answer : NameAnswers files c.args.folder.now c.args.dir.now name (Err c.in_err-one.field-0.0) =
    subst (λ (h : History). NameAnswers (files_of h) c.args.folder.now c.args.dir.now name (Err c.in_err-one.field-0.0)) (c.loop-name.invariant.unwritten tells) (c.in_err-one.ensures.answers tells) in
    at_err (NamesAnswer files c.args.folder.now c.args.dir.now c.args.names.now c.args.taken.now.items c.loop-name.taken.items) c.in_err-one.field-0.0 c.from_residual.result c.from_residual.ensures.1
    (names_err files c.args.folder.now c.args.dir.now c.args.names.now c.args.taken.now.items c.loop-name.taken.items c.loop-name.name-index name c.in_err-one.field-0.0
    c.loop-name-test.true c.name-item.is (c.loop-name.invariant.good tells) answer)

pub loop-name-preserved : goal.loop-name-preserved
loop-name-preserved g c =
    let name = c.name-item.result in
    let added : c.match-branch-2.taken.items ≡ c.loop-name.taken.items ++ cons_option c.in_ok-one.field-0 [] = elim c.match-branch-2.branch [
      | in-Some+in_ok-push w ↦ grind (arith, common_steps)
      | in_default w ↦ grind (arith, common_steps)
    ] in
    record {
      lines = λ tells.
          let line = named_line (files_of (g.S.Store.history c.args.disk.now)) c.args.folder.now c.args.dir.now in
          let before = c.args.taken.now.items in
          let one : c.in_ok-one.field-0 ≡ line name =
          subst (λ (h : History). c.in_ok-one.field-0 ≡ named_line (files_of h) c.args.folder.now c.args.dir.now name) (c.loop-name.invariant.unwritten tells) (c.in_ok-one.ensures.answers tells).0 in
          added ∙ ap (λ (es : List PackedRef). es ++ cons_option c.in_ok-one.field-0 []) (c.loop-name.invariant.lines tells)
          ∙ ap (λ (o : Option PackedRef). before ++ filter_map line (take c.loop-name.name-index c.args.names.now) ++ cons_option o []) one
          ∙ append_assoc before (filter_map line (take c.loop-name.name-index c.args.names.now)) (cons_option (line name) [])
          ∙ ap (λ (es : List PackedRef). before ++ es) (sym (lines_more line c.args.names.now c.loop-name.name-index name c.loop-name-test.true c.name-item.is));
      good = λ tells.
          good_more (IsGoodName (files_of (g.S.Store.history c.args.disk.now)) c.args.folder.now c.args.dir.now) c.args.names.now c.loop-name.name-index name c.loop-name-test.true c.name-item.is
          (c.loop-name.invariant.good tells)
          (subst (λ (h : History). IsGoodName (files_of h) c.args.folder.now c.args.dir.now name) (c.loop-name.invariant.unwritten tells) (c.in_ok-one.ensures.answers tells).1);
      unwritten = λ tells. c.in_ok-one.ensures.unwritten tells ∙ c.loop-name.invariant.unwritten tells;
      reads = c.in_ok-one.ensures.reads ∙ c.loop-name.invariant.reads;
      caused = calm_then g.S.Store.never_fails g.S.Store.faults _ c.args.disk.now c.loop-name.disk c.loose_named.new.disk (λ fails. cc) c.loop-name.invariant.caused c.in_ok-one.ensures.caused;
    }

pub returns-clause-answers : goal.returns-clause-answers
returns-clause-answers g c = λ tells.
    let files = files_of (g.S.Store.history c.args.disk.now) in
    let all : take c.loop-name.name-index c.args.names.now ≡ c.args.names.now = take_all c.loop-name.name-index c.args.names.now c.loop-name-test.false in (
      c.loop-name.invariant.lines tells ∙ ap (λ (ns : List (List ℕ)). c.args.taken.now.items ++ filter_map (named_line files c.args.folder.now c.args.dir.now) ns) all,
      subst (All (IsGoodName files c.args.folder.now c.args.dir.now)) all (c.loop-name.invariant.good tells),
    )
