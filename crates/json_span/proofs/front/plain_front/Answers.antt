-- What follows the chunks is a front of the rest.
use Rattle.std.proofs.Common.{take, subst}
use Rattle.std.proofs.lemmas.List.{take_rest}
use Rattle.json_span.specs.Grammar.{Each, is_plain}
use Rattle.json_span.proofs.FrontLaws.{each_further}
use Rattle.json_span.proofs.front.plain_front.Goals as goal

pub returns-clause-each : goal.returns-clause-each
returns-clause-each c =
    each_further is_plain c.plain_chunks-front.result c.plain_bytes.result c.args.text.now c.plain_chunks-front.ensures.each
    (subst (λ rest. Each is_plain (take c.plain_bytes.result rest)) (take_rest c.args.text.now c.plain_chunks-front.result) c.plain_bytes.ensures.each)
