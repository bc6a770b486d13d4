use Rattle.std.proofs.Common.{◌≡◌, [], ◌∷◌, ◌++◌, List, Some, None, sym, ◌∙◌, ap, arith}
use Rattle.std.proofs.lemmas.Grind.{common_steps}
use Rattle.packed_refs.specs.Packed.{id_below}
use Rattle.packed_refs.specs.declared.line.Line.TheVariants as code
use Rattle.packed_refs.specs.declared.packed.PackedHead.{PackedHead}
use Rattle.packed_refs.proofs.LoopLemmas.{heads_bad, heads_end, heads_entry, heads_from, heads_note, heads_other, nothing_left}
use Rattle.packed_refs.proofs.packed.heads_in.Goals as goal

pub returns-in-None : goal.returns-in-None
returns-in-None c =
    c.new.ensures.items
    ∙ sym (heads_bad c.args.dir.now c.loop-rest.heads.items c.loop-rest.rest.now _ _ c.read_line.result c.cut_line.ensures.lines c.read_line.ensures c.in-None.is) ∙ c.loop-rest.invariant

pub loop-rest-preserved-in-Some-Note : goal.loop-rest-preserved-in-Some-Note
loop-rest-preserved-in-Some-Note c =
    let note : c.read_line.result ≡ Some code.Note = cc in
    sym (heads_note c.args.dir.now c.loop-rest.heads.items c.loop-rest.rest.now _ _ c.read_line.result c.cut_line.ensures.lines c.read_line.ensures note) ∙ c.loop-rest.invariant

pub loop-rest-preserved-in_ok-push-in-Some-Ref : goal.loop-rest-preserved-in_ok-push-in-Some-Ref
loop-rest-preserved-in_ok-push-in-Some-Ref c =
    let head = c.in-Some-Ref.head in
    let ref : c.read_line.result ≡ Some (code.Ref c.in-Some-Ref.name head) = cc in
    let below : id_below c.args.dir.now c.in-Some-Ref.name.now ≡ Some c.in-Some.id = sym c.id_below.ensures ∙ c.in-Some.is in
    let pushed : c.push.new.self.items ≡ c.loop-rest.heads.items ++ record { id = c.in-Some.id; head = head } ∷ [] = grind (arith, common_steps) in
    ap (λ (hs : List PackedHead). heads_from c.args.dir.now hs c.cut_line.result.1.now) pushed
    ∙ sym (heads_entry c.args.dir.now c.loop-rest.heads.items c.loop-rest.rest.now _ _ c.read_line.result c.in-Some-Ref.name head c.in-Some.id c.cut_line.ensures.lines c.read_line.ensures ref below)
    ∙ c.loop-rest.invariant

pub loop-rest-preserved : goal.loop-rest-preserved
loop-rest-preserved c =
    let head = c.in-Some-Ref.head in
    let ref : c.read_line.result ≡ Some (code.Ref c.in-Some-Ref.name head) = cc in
    let below : id_below c.args.dir.now c.in-Some-Ref.name.now ≡ None = sym c.id_below.ensures ∙ c.in_default.is in
    sym (heads_other c.args.dir.now c.loop-rest.heads.items c.loop-rest.rest.now _ _ c.read_line.result c.in-Some-Ref.name head c.cut_line.ensures.lines c.read_line.ensures ref below)
    ∙ c.loop-rest.invariant

pub returns : goal.returns
returns c =
    let nil : c.loop-rest.rest.now ≡ [] = nothing_left c.loop-rest.rest.now c.is_empty.result c.is_empty.ensures c.loop-rest-test.false in
    sym (heads_end c.args.dir.now c.loop-rest.heads.items c.loop-rest.rest.now nil) ∙ c.loop-rest.invariant
