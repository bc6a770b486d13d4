use Rattle.std.proofs.Common.{◌≡◌, ◌∙◌, length, ap, rules}
use Rattle.identity.proofs.chain.versions.Goals as goal

pub returns-clause-answers : goal.returns-clause-answers
returns-clause-answers g c = λ tells.
    let has = c.in_ok-walk.ensures.answers tells in
    let counted : c.len.result ≡ length c.in_ok-walk.walk.items = search rules in
    (has.chain, counted ∙ ap length has.walks)
