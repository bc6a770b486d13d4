use Rattle.std.proofs.Common.{◌≡◌, Bool, true, false, cond, [], Some, sym, ◌∙◌, ap}
use Rattle.std.specs.Str.{bytes_eq}
use Rattle.packed_refs.specs.declared.line.Line.TheVariants as code
use Rattle.packed_refs.proofs.LoopLemmas.{head_bad, head_end, head_from, head_note, head_ref, head_start, nothing_left}
use Rattle.packed_refs.proofs.packed.head_of.Goals as goal

pub loop-name-init : goal.loop-name-init
loop-name-init c = head_start c.args.name.now c.args.text.now

pub returns-in-None : goal.returns-in-None
returns-in-None c =
    sym (head_bad c.args.name.now c.loop-name.found c.loop-name.rest.now _ _ c.read_line.result c.cut_line.ensures.lines c.read_line.ensures c.in-None.is) ∙ c.loop-name.invariant

pub loop-name-preserved-in-Some-Note : goal.loop-name-preserved-in-Some-Note
loop-name-preserved-in-Some-Note c =
    let note : c.read_line.result ≡ Some code.Note = cc in
    sym (head_note c.args.name.now c.loop-name.found c.loop-name.rest.now _ _ c.read_line.result c.cut_line.ensures.lines c.read_line.ensures note) ∙ c.loop-name.invariant

pub loop-name-preserved-then-eq : goal.loop-name-preserved-then-eq
loop-name-preserved-then-eq c =
    let head = c.in-Some-Ref.head in
    let ref : c.read_line.result ≡ Some (code.Ref c.in-Some-Ref.other head) = cc in
    let same : bytes_eq c.in-Some-Ref.other.now c.args.name.now ≡ true = sym c.eq.ensures ∙ c.if-eq.true in
    ap (λ (b : Bool). head_from c.args.name.now (cond b (Some head) c.loop-name.found) c.cut_line.result.1.now) (sym same)
    ∙ sym (head_ref c.args.name.now c.loop-name.found c.loop-name.rest.now _ _ c.read_line.result c.in-Some-Ref.other head c.cut_line.ensures.lines c.read_line.ensures ref)
    ∙ c.loop-name.invariant

pub loop-name-preserved : goal.loop-name-preserved
loop-name-preserved c =
    let head = c.in-Some-Ref.head in
    let ref : c.read_line.result ≡ Some (code.Ref c.in-Some-Ref.other head) = cc in
    let differs : bytes_eq c.in-Some-Ref.other.now c.args.name.now ≡ false = sym c.eq.ensures ∙ c.if-eq.false in
    ap (λ (b : Bool). head_from c.args.name.now (cond b (Some head) c.loop-name.found) c.cut_line.result.1.now) (sym differs)
    ∙ sym (head_ref c.args.name.now c.loop-name.found c.loop-name.rest.now _ _ c.read_line.result c.in-Some-Ref.other head c.cut_line.ensures.lines c.read_line.ensures ref)
    ∙ c.loop-name.invariant

pub returns : goal.returns
returns c =
    let nil : c.loop-name.rest.now ≡ [] = nothing_left c.loop-name.rest.now c.is_empty.result c.is_empty.ensures c.loop-name-test.false in
    sym (head_end c.args.name.now c.loop-name.found c.loop-name.rest.now nil) ∙ c.loop-name.invariant
