use Rattle.std.proofs.Common.{◌∙◌}
use Rattle.object_store.proofs.PutLemmas.{is_short-IsShort, stands_not, wrote_text}
use Rattle.object_store.proofs.write.put_text.Goals as goal

pub returns-in_err-put-clause-wrote : goal.returns-in_err-put-clause-wrote
returns-in_err-put-clause-wrote g c =
    let old = g.S.Store.history c.args.disk.now in
    let folder = c.args.folder.now in
    let text = c.args.text.now in
    wrote_text g.S.Store.tells folder c.as_str.result.now c.as_slice.result.now text c.name-name.result old (g.S.Store.history c.stands.new.disk) (g.S.Store.history c.put.new.self)
    c.name-name.ensures.object c.name-name.ensures.value (c.as_str.ensures ∙ c.in_ok-path.ensures.path) c.as_slice.ensures (is_short-IsShort text c.is_short.result c.is_short.ensures c.if-not-is_short.false)
    (λ tells. stands_not folder text old c.in_ok-stands.field-0 c.if-not-branch.true (c.in_ok-stands.ensures.answers tells)) (λ tells. c.stands.ensures.unwritten tells) (λ tells. c.put.ensures.maybe tells)

pub returns-in_ok-put-clause-wrote : goal.returns-in_ok-put-clause-wrote
returns-in_ok-put-clause-wrote g c =
    let old = g.S.Store.history c.args.disk.now in
    let folder = c.args.folder.now in
    let text = c.args.text.now in
    wrote_text g.S.Store.tells folder c.as_str.result.now c.as_slice.result.now text c.name-name.result old (g.S.Store.history c.stands.new.disk) (g.S.Store.history c.put.new.self)
    c.name-name.ensures.object c.name-name.ensures.value (c.as_str.ensures ∙ c.in_ok-path.ensures.path) c.as_slice.ensures (is_short-IsShort text c.is_short.result c.is_short.ensures c.if-not-is_short.false)
    (λ tells. stands_not folder text old c.in_ok-stands.field-0 c.if-not-branch.true (c.in_ok-stands.ensures.answers tells)) (λ tells. c.stands.ensures.unwritten tells) (λ tells. c.put.ensures.maybe tells)
