use Rattle.std.proofs.Common.{◌≡◌, true, refl, sym, subst, arith}
use Rattle.std.specs.BTreeSet.{contains}
use Rattle.std.specs.List.{All, Contains}
use Rattle.std.proofs.lemmas.List.{take_all}
use Rattle.std.proofs.lemmas.List.Elements.{All-contains, All-more}
use Rattle.dag_entity.specs.declared.entity.Placed.{Placed}
use Rattle.dag_entity.specs.Judging.{by_bytes}
use Rattle.dag_entity.proofs.judge.check_authors.Goals as goal

pub returns-then-not-contains : goal.returns-then-not-contains
returns-then-not-contains g c =
    let placed = c.placed-item.result in
    record {
      placed = placed;
      among = (c.loop-placed.placed-index, c.loop-placed-test.true, sym c.placed-item.is);
      wrote = refl;
      unknown = λ author. let there = c.in_ok-known.ensures.all placed.pack.author author in cc (there, c.if-not-contains.ensures);
    }

pub loop-placed-preserved : goal.loop-placed-preserved
loop-placed-preserved g c =
    let P = λ (placed : Placed g.row.K.Denot). Contains c.args.authors.now placed.pack.author in
    let placed = c.placed-item.result in
    let there : contains by_bytes c.in_ok-known.known placed.pack.author ≡ true = cc (c.if-not-contains.ensures) in
    All-more P c.args.packs.now c.loop-placed.placed-index placed c.loop-placed-test.true c.loop-placed.invariant
    (subst P c.placed-item.is (c.in_ok-known.ensures.only placed.pack.author there))

pub returns : goal.returns
returns g c =
    let P = λ (placed : Placed g.row.K.Denot). Contains c.args.authors.now placed.pack.author in
    λ placed among. All-contains P c.args.packs.now placed
    (subst (All P) (take_all c.loop-placed.placed-index c.args.packs.now (omega (arith, c.loop-placed-test.false))) c.loop-placed.invariant) among
