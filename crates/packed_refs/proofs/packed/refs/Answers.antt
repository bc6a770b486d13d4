use Rattle.std.proofs.Common.{◌≡◌, ℕ, [], ◌∷◌, ◌++◌, List, Some, sym, ◌∙◌, ap}
use Rattle.packed_refs.specs.Packed.{PackedRef}
use Rattle.packed_refs.specs.declared.line.Line.TheVariants as code
use Rattle.packed_refs.proofs.LoopLemmas.{nothing_left, refs_bad, refs_end, refs_from, refs_more, refs_note}
use Rattle.packed_refs.proofs.packed.refs.Goals as goal

pub returns-in-None : goal.returns-in-None
returns-in-None c =
    c.new.ensures.items
    ∙ sym (refs_bad c.loop-rest.refs.items c.loop-rest.rest.now _ _ c.read_line.result c.cut_line.ensures.lines c.read_line.ensures c.in-None.is) ∙ c.loop-rest.invariant

pub loop-rest-preserved-in-Some-Note : goal.loop-rest-preserved-in-Some-Note
loop-rest-preserved-in-Some-Note c =
    let note : c.read_line.result ≡ Some code.Note = cc in
    sym (refs_note c.loop-rest.refs.items c.loop-rest.rest.now _ _ c.read_line.result c.cut_line.ensures.lines c.read_line.ensures note) ∙ c.loop-rest.invariant

pub loop-rest-preserved : goal.loop-rest-preserved
loop-rest-preserved c =
    let head = c.in-Some-Ref.head in
    let name = c.in-Some-Ref.name in
    let ref : c.read_line.result ≡ Some (code.Ref name head) = cc in
    let named : c.in_ok-name-in-Some-Ref.name ≡ name.now = c.in_ok-name-in-Some-Ref.ensures in
    let pushed : c.push.new.self.items ≡ c.loop-rest.refs.items ++ record { name = name.now; head = head } ∷ [] =
    c.in_ok-push-in-Some-Ref.ensures.items ∙ ap (λ (n : List ℕ). c.loop-rest.refs.items ++ record { name = n; head = head } ∷ []) named in
    ap (λ (refs : List PackedRef). refs_from refs c.cut_line.result.1.now) pushed
    ∙ sym (refs_more c.loop-rest.refs.items c.loop-rest.rest.now _ _ c.read_line.result name head c.cut_line.ensures.lines c.read_line.ensures ref)
    ∙ c.loop-rest.invariant

pub returns : goal.returns
returns c =
    let nil : c.loop-rest.rest.now ≡ [] = nothing_left c.loop-rest.rest.now c.is_empty.result c.is_empty.ensures c.loop-rest-test.false in
    sym (refs_end c.loop-rest.refs.items c.loop-rest.rest.now nil) ∙ c.loop-rest.invariant
