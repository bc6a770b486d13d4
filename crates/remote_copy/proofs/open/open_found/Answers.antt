use Rattle.std.proofs.Common.{◌≡◌, ℕ, List, Result, Err, refl, sym, ◌∙◌, ap, subst, rules, arith}
use Rattle.object_store.specs.Held.{objects_after}
use Rattle.object_store.specs.Texts.{IsShort}
use Rattle.remote_copy.specs.Answers.{StandAnswers, standing}
use Rattle.remote_copy.specs.Opens.{OpenAnswers}
use Rattle.remote_copy.specs.declared.fault.CopyFault.{CopyFault}
use Rattle.remote_copy.specs.declared.open.Open.{Open}
use Rattle.remote_copy.proofs.OpenLemmas.{stand_refused}
use Rattle.remote_copy.proofs.TextLemmas.{text_at-is}
use Rattle.remote_copy.proofs.open.open_found.Goals as goal

pub returns-in_err-stands-clause-answers : goal.returns-in_err-stands-clause-answers
returns-in_err-stands-clause-answers g c = λ tells target there.
    let source = objects_after (g.S.Store.history c.args.disk.now) c.args.source.now in
    let name = c.args.need.name in
    let text = c.in_ok-found.found.text in
    let held = (c.in_ok-found.ensures.answers tells).0 in
    let slice : c.as_slice.result.now ≡ text = c.as_slice.ensures in
    let short : IsShort c.as_slice.result.now = subst IsShort (sym slice) (text_at-is source name text held).within in
    let e : CopyFault = c.in_err-stands.field-0.0 in
    let is : c.from_residual-in_err-stands.result ≡ Err e = search rules in
    subst (λ (r : Result Open CopyFault). OpenAnswers source target c.args.need r) (sym is)
    (stand_refused source target c.args.need text e held (subst (λ (t : List ℕ). StandAnswers target name t (Err e)) slice (c.in_err-stands.ensures.answers target there short)))

pub returns-clause-answers : goal.returns-clause-answers
returns-clause-answers g c = λ tells target there.
    let source = objects_after (g.S.Store.history c.args.disk.now) c.args.source.now in
    let text = c.in_ok-found.found.text in
    let held = (c.in_ok-found.ensures.answers tells).0 in
    let slice : c.as_slice.result.now ≡ text = c.as_slice.ensures in
    let short : IsShort c.as_slice.result.now = subst IsShort (sym slice) (text_at-is source c.args.need.name text held).within in
    record {
      object = c.in_ok-found.found.object;
      is_need = refl;
      is = record { held = held; is = (c.in_ok-found.ensures.answers tells).1; is_kind = grind arith };
      needs = c.in_ok-needs_of.ensures;
      start = refl;
      there = c.in_ok-stands.ensures.answers target there short ∙ ap (standing c.in_ok-stands.field-0) slice;
    }
