use Rattle.std.proofs.Common.{◌≡◌, ◌∙◌, List, ℕ, None, Option, map, string_bytes, sym, subst}
use Rattle.bug_run.specs.Printed.{Printed}
use Rattle.bug_run.specs.declared.status.Status.TheVariants as status
use Rattle.world.specs.Told.{EndsFor, usage_text}
use Rattle.world_texts.specs.Asked.{asked_of}
use Rattle.world_texts.specs.declared.asked.Asked.{Asked}
use Rattle.world.proofs.start.run_world.Goals as goal

pub returns-in-None-clause-ends : goal.returns-in-None-clause-ends
returns-in-None-clause-ends g c =
    let sink = g.K.Sink in
    let before = sink.written c.args.out.now in
    let after = sink.written c.print.new.out in
    let none : None ≡ asked_of (map string_bytes c.args.words.now) = sym c.in-None.is ∙ c.read_asked.ensures.exact in
    let text : c.as_bytes.result.now ≡ usage_text = c.as_bytes.ensures.value in
    let printed = subst (λ (t : List ℕ). Printed sink.tells sink.takes_memory t status.Usage before after c.print.result) text c.print.ensures.printed in
    subst (λ (o : Option Asked). EndsFor o sink.tells sink.takes_memory before after c.print.result) none printed
