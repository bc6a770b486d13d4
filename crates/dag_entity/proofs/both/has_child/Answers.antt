use Rattle.std.proofs.Common.{◌≡◌, ◌+◌, ◌∷◌, ◌++◌, ⊎_elim, List, [], take, Contains, sym, ◌∙◌, ap, subst, arith}
use Rattle.std.proofs.lemmas.List.{take_all, take_more}
use Rattle.std.proofs.lemmas.List.Elements.{Contains-push_cases}
use Rattle.commit_walk.specs.declared.below.Met.{Met}
use Rattle.dag_entity.proofs.both.has_child.Goals as goal

pub loop-met-preserved : goal.loop-met-preserved
loop-met-preserved c = λ met among names.
    let walk = c.args.walk.now in
    let place = c.loop-met.met-index in
    let item = c.met-item.result in
    let front : take (place + 1) walk ≡ take place walk ++ item ∷ [] = take_more walk place item c.loop-met-test.true ∙ ap (λ (m : Met). take place walk ++ m ∷ []) (sym c.met-item.is) in
    ⊎_elim
    (λ (h : Contains (take place walk) met). c.loop-met.invariant met h names)
    (λ (e : item ≡ met).
    let yes = c.is_parent.ensures.1 (subst (λ (m : Met). Contains m.parents c.args.name.now) (sym e) names) in
    cc (sym c.if-is_parent.false ∙ yes))
    (Contains-push_cases (take place walk) item met (subst (λ (l : List Met). Contains l met) front among))

pub returns : goal.returns
returns c =
    let walk = c.args.walk.now in
    let place = c.loop-met.met-index in
    let all : take place walk ≡ walk = take_all place walk (omega (arith, c.loop-met-test.false)) in
    (λ never. cc, λ h. absurd (c.loop-met.invariant h.met (subst (λ (l : List Met). Contains l h.met) (sym all) h.among) h.names))
