use Rattle.std.proofs.Common.{sym, subst, ◌∙◌}
use Rattle.combined_id.specs.Lookup.{Answers}
use Rattle.combined_id.proofs.LeastLemmas.{least_above, least_below, least_between}
use Rattle.combined_id.proofs.LookupLemmas.{pair_kept, pair_turned, third}
use Rattle.combined_id.proofs.lookup.with_more.Goals as goal

pub returns-then-is_below : goal.returns-then-is_below
returns-then-is_below c = λ fit a.
    pair_turned c.args.ids.now fit c.in-One.first c.args.place _ c.requires.place (subst (Answers c.args.ids.now fit) c.in-One.is a) (sym c.is_below.ensures ∙ c.if-is_below.true)

pub returns-else-is_below : goal.returns-else-is_below
returns-else-is_below c = λ fit a.
    pair_kept c.args.ids.now fit c.in-One.first c.args.place _ c.requires.place (subst (Answers c.args.ids.now fit) c.in-One.is a) (sym c.is_below.ensures ∙ c.if-is_below.false)

pub returns-then-is_below-2 : goal.returns-then-is_below-2
returns-then-is_below-2 c = λ fit a.
    let least = subst (Answers c.args.ids.now fit) c.in-Ambiguous.is a in
    third c.args.ids.now fit c.args.place _ _ _ c.requires.place (least_below fit c.in-Ambiguous.least c.in-Ambiguous.next _ least (sym c.is_below-in-Ambiguous.ensures ∙ c.if-is_below-2.true))

pub returns-then-is_below-3 : goal.returns-then-is_below-3
returns-then-is_below-3 c = λ fit a.
    let least = subst (Answers c.args.ids.now fit) c.in-Ambiguous.is a in
    third c.args.ids.now fit c.args.place _ _ _ c.requires.place
    (least_between fit c.in-Ambiguous.least c.in-Ambiguous.next _ least (sym c.is_below-in-Ambiguous.ensures ∙ c.if-is_below-2.false) (sym c.is_below-else-is_below-2.ensures ∙ c.if-is_below-3.true))

pub returns-else-is_below-3 : goal.returns-else-is_below-3
returns-else-is_below-3 c = λ fit a.
    let least = subst (Answers c.args.ids.now fit) c.in-Ambiguous.is a in
    third c.args.ids.now fit c.args.place _ _ _ c.requires.place
    (least_above fit c.in-Ambiguous.least c.in-Ambiguous.next _ least (sym c.is_below-else-is_below-2.ensures ∙ c.if-is_below-3.false))
