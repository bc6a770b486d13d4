use Rattle.std.proofs.Common.{rules, ◌≡◌, ◌≢◌, ◌∷◌, [], Some, None, ◌∙◌, ap, sym, subst}
use Rattle.gb_store.specs.Files.{files_of}
use Rattle.commit_walk.specs.Below.{IsBelow}
use Rattle.object_store.specs.Held.{objects_after}
use Rattle.ref_store.specs.Refs.{Ref, Head}
use Rattle.sync_steps.specs.Pushing.{IsForward}
use Rattle.repo_sync.proofs.StepLemmas.{ref_there}
use Rattle.repo_sync.proofs.pushing.settled.Goals as goal

pub returns-in_default-head-clause-answers : goal.returns-in_default-head-clause-answers
returns-in_default-head-clause-answers g c = λ tells alike.
    let a = c.args in
    let files = files_of (g.S.Store.history a.disk.now) in
    let peer = a.pair.now.peer in
    let of = a.there.now.side in
    let id = a.head.now.id in
    let none : c.in-Some.theirs.head ≡ None = search rules in
    ref_there files peer of id c.entity.result c.in-Some.theirs None (c.entity.ensures files peer alike) c.in-Some.is none

pub returns-then-eq-clause-answers : goal.returns-then-eq-clause-answers
returns-then-eq-clause-answers g c = λ tells alike.
    let a = c.args in
    let files = files_of (g.S.Store.history a.disk.now) in
    let peer = a.pair.now.peer in
    let of = a.there.now.side in
    let id = a.head.now.id in
    let same : c.in-Some-head.other ≡ a.head.now.name = search rules in
    ref_there files peer of id c.entity.result c.in-Some.theirs (Some c.in-Some-head.other) (c.entity.ensures files peer alike) c.in-Some.is c.in-Some-head.is ∙ ap Head same

pub returns-then-branch-clause-answers : goal.returns-then-branch-clause-answers
returns-then-branch-clause-answers g c = λ tells alike.
    let a = c.args in
    let files = files_of (g.S.Store.history a.disk.now) in
    let peer = a.pair.now.peer in
    let of = a.there.now.side in
    let id = a.head.now.id in
    let differ : c.in-Some-head.other ≢ a.head.now.name = search rules in
    let below : IsBelow (objects_after (g.S.Store.history a.disk.now) a.pair.now.own) (a.head.now.name ∷ []) c.in-Some-head.other = search rules in
    subst (λ (ref : Ref). IsForward (objects_after (g.S.Store.history a.disk.now) a.pair.now.own) ref a.head.now.name)
    (sym (ref_there files peer of id c.entity.result c.in-Some.theirs (Some c.in-Some-head.other) (c.entity.ensures files peer alike) c.in-Some.is c.in-Some-head.is)) (differ, below)

pub returns-clause-answers : goal.returns-clause-answers
returns-clause-answers g c = λ tells alike.
    let a = c.args in
    let files = files_of (g.S.Store.history a.disk.now) in
    let peer = a.pair.now.peer in
    let of = a.there.now.side in
    let id = a.head.now.id in
    let differ : c.in-Some-head.other ≢ a.head.now.name = search rules in
    let beside : IsBelow (objects_after (g.S.Store.history a.disk.now) a.pair.now.own) (a.head.now.name ∷ []) c.in-Some-head.other → ⊥ = search rules in (
      ref_there files peer of id c.entity.result c.in-Some.theirs (Some c.in-Some-head.other) (c.entity.ensures files peer alike) c.in-Some.is c.in-Some-head.is,
      differ,
      beside,
    )
