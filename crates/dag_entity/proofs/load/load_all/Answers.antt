use Rattle.std.specs.List.{AllByRecursion}
use Rattle.std.proofs.Common.{All, rules, ◌≡◌, ◌++◌, ◌∷◌, [], List, Contains, length, Err, sym, ◌∙◌, ap, subst, arith, length-append}
use Rattle.std.proofs.lemmas.List.Elements.{All-push}
use Rattle.dag_graph.proofs.ListLemmas.{Contains-first, Contains-later}
use Rattle.gb_store.specs.Files.{History}
use Rattle.gb_store.proofs.FaultLemmas.{KeepsFaults_then}
use Rattle.object_store.specs.Held.{objects_after}
use Rattle.commit_walk.specs.declared.below.Met.{Met}
use Rattle.dag_entity.specs.Loading.{AllLoadAnswers, AreLoadedOf, IsLoaded, IsLoadedOf, LoadFails}
use Rattle.dag_entity.specs.Stops.{Refused}
use Rattle.dag_entity.proofs.LoadLemmas.{AreLoadedOf-push, all_refused, lineages_more}
use Rattle.dag_entity.proofs.load.load_all.Goals as goal

pub returns-in_err-load-clause-answers : goal.returns-in_err-load-clause-answers
returns-in_err-load-clause-answers g c = λ tells.
    let objects = objects_after (g.S.Store.history c.args.disk.now) c.args.folder.now in
    let k = g.K.OpKind.meaning in
    let before = c.loop-met.invariant in
    let met = c.in-Some.met in
    let split : c.loop-met.met-iterator.rest.items ≡ met ∷ c.next.new.self.rest.items = search rules in
    let among : Contains c.args.walk.items met = before.left met (subst (λ (l : List Met). Contains l met) (sym split) (Contains-first met c.next.new.self.rest.items)) in
    let stop = c.in_err-load.field-0.0 in
    let is : c.from_residual.result ≡ Err stop = search rules in
    let answer : Refused (LoadFails k objects met) stop =
    subst (λ (h : History). Refused (LoadFails k (objects_after h c.args.folder.now) met) stop) (before.unwritten tells) (c.in_err-load.ensures.answers tells) in
    subst (λ r. AllLoadAnswers k objects c.args.walk.items r) (sym is) (all_refused k objects c.args.walk.items met stop among answer)

pub loop-met-preserved : goal.loop-met-preserved
loop-met-preserved g c =
    let objects = objects_after (g.S.Store.history c.args.disk.now) c.args.folder.now in
    let k = g.K.OpKind.meaning in
    let before = c.loop-met.invariant in
    let met = c.in-Some.met in
    let rest = c.next.new.self.rest.items in
    let one = c.in_ok-load.field-0 in
    let split : c.loop-met.met-iterator.rest.items ≡ met ∷ rest = search rules in
    let pushed : c.push.new.self.items ≡ c.loop-met.loaded.items ++ one ∷ [] = c.in_ok-push.ensures.items in
    let among : Contains c.args.walk.items met = before.left met (subst (λ (l : List Met). Contains l met) (sym split) (Contains-first met rest)) in
    let longer : length c.push.new.self.items ≡ length (c.loop-met.loaded.items ++ one ∷ []) = ap length pushed in
    let shorter : length c.loop-met.met-iterator.rest.items ≡ length (met ∷ rest) = ap length split in
    record {
      can_next = tt;
      is_finite = tt;
      lineages = lineages_more c.loop-met.loaded.items c.push.new.self.items one met c.loop-met.met-iterator.rest.items rest c.args.walk.items pushed split c.in_ok-load.ensures.lineage before.lineages;
      left = λ other h. before.left other (subst (λ (l : List Met). Contains l other) (sym split) (Contains-later met rest other h));
      each = λ tells.
          let is : IsLoaded k objects met one = subst (λ (h : History). IsLoaded k (objects_after h c.args.folder.now) met one) (before.unwritten tells) (c.in_ok-load.ensures.answers tells) in
          let of : IsLoadedOf k objects c.args.walk.items one = record { met = met; among = among; is = is } in
          subst (AreLoadedOf k objects c.args.walk.items) (sym pushed) (AreLoadedOf-push k objects c.args.walk.items c.loop-met.loaded.items one (before.each tells) of);
      rules = subst (λ l. All (λ o. AllByRecursion k.KeepsRules o.placed.pack.ops) l) (sym pushed)
          (All-push (λ o. AllByRecursion k.KeepsRules o.placed.pack.ops) c.loop-met.loaded.items one before.rules c.in_ok-load.ensures.rules);
      count = omega (arith, before.count, longer, shorter, length-append c.loop-met.loaded.items (one ∷ []));
      unwritten = λ tells. c.in_ok-load.ensures.unwritten tells ∙ before.unwritten tells;
      reads = omega (arith, before.reads, c.in_ok-load.ensures.reads, longer, length-append c.loop-met.loaded.items (one ∷ []));
      caused = KeepsFaults_then g.S.Store.never_fails g.S.Store.faults _ ⊥ c.args.disk.now c.loop-met.disk c.load.new.disk before.caused c.in_ok-load.ensures.caused (λ none. absurd none) (λ fails. absurd (cc));
    }
