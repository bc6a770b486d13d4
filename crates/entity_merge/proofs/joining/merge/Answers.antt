use Rattle.std.proofs.Common.{rules, ◌≡◌, ◌≤◌, ◌+◌, length, Err, sym, ap, subst, arith}
use Rattle.gb_store.specs.Files.{History}
use Rattle.object_store.specs.Held.{objects_after}
use Rattle.object_batch.specs.Batches.{AllStand, BatchAnswers}
use Rattle.entity_merge.specs.Merging.{MergeAnswers}
use Rattle.entity_merge.specs.Parts.{no_plan}
use Rattle.entity_merge.specs.Stops.{put_stop}
use Rattle.entity_merge.specs.declared.plan.MergePlan.{MergePlan}
use Rattle.entity_merge.proofs.MergeLemmas.{few_texts, joins_made, put_refused}
use Rattle.entity_merge.proofs.joining.merge.Goals as goal

pub returns-in_err-put_all-clause-answers : goal.returns-in_err-put_all-clause-answers
returns-in_err-put_all-clause-answers g c = λ tells.
    let k = g.K.OpKind.meaning in
    let folder = c.args.folder.now in
    let old = g.S.Store.history c.args.disk.now in
    let new = g.S.Store.history c.put_all.new.disk in
    let plan = c.in_ok-plan.plan in
    let e = c.in_err-put_all.field-0.0 in
    let is : c.from_residual-in_err-put_all.result ≡ Err (put_stop e) = search rules in
    let answers : BatchAnswers folder plan.objects old new (Err e) = subst (λ t. BatchAnswers folder t old new (Err e)) c.as_slice-texts.ensures
    (subst (λ (h : History). BatchAnswers folder c.as_slice-texts.result.now h new (Err e)) (c.in_ok-plan.ensures.unwritten tells) (c.in_err-put_all.ensures.answers tells)) in
    subst (λ r. MergeAnswers k folder c.args.id.now c.args.local c.args.remote.now c.args.author.now c.args.authors.now c.args.clock.now c.args.now old new r) (sym is)
    (put_refused k folder c.args.id.now c.args.remote.now c.args.author.now c.args.authors.now c.args.clock.now c.args.now old new c.args.local plan.merged plan.edit plan.create plan.objects (c.in_ok-plan.ensures.answers tells) e answers)

pub returns-clause-joins : goal.returns-clause-joins
returns-clause-joins g c = λ tells.
    let k = g.K.OpKind.meaning in
    let folder = c.args.folder.now in
    let old = g.S.Store.history c.args.disk.now in
    let new = g.S.Store.history c.put_all.new.disk in
    let plan = c.in_ok-plan.plan in
    let stand : AllStand (objects_after new folder) plan.objects = subst (AllStand (objects_after new folder)) c.as_slice-texts.ensures (c.in_ok-put_all.ensures.held tells) in
    joins_made k folder c.args.id.now c.args.remote.now c.args.author.now c.args.authors.now c.args.clock.now c.args.now old new c.args.local plan.merged plan.edit plan.create plan.objects (c.in_ok-plan.ensures.answers tells)
    (c.in_ok-plan.ensures.node (objects_after new folder) stand)

pub returns-in_err-plan-clause-reads : goal.returns-in_err-plan-clause-reads
returns-in_err-plan-clause-reads g c = λ tells. record { mid = g.S.Store.object_reads c.plan_merge.new.disk; planned = c.in_err-plan.ensures.reads tells; put = omega arith }

pub returns-in_err-put_all-clause-reads : goal.returns-in_err-put_all-clause-reads
returns-in_err-put_all-clause-reads g c = λ tells.
    let plan = c.in_ok-plan.plan in
    let few : length plan.objects ≤ 4 =
    few_texts g.K.OpKind.meaning c.args.folder.now c.args.id.now c.args.remote.now c.args.author.now c.args.authors.now c.args.clock.now c.args.now (g.S.Store.history c.args.disk.now) (g.S.Store.history c.args.disk.now) c.args.local plan.merged plan.edit plan.create plan.objects
    (c.in_ok-plan.ensures.answers tells) in
    let put : g.S.Store.object_reads c.put_all.new.disk ≤ g.S.Store.object_reads c.plan_merge.new.disk + length plan.objects =
    subst (λ t. g.S.Store.object_reads c.put_all.new.disk ≤ g.S.Store.object_reads c.plan_merge.new.disk + length t) c.as_slice-texts.ensures c.put_all.ensures.reads in
    record { mid = g.S.Store.object_reads c.plan_merge.new.disk; planned = c.in_ok-plan.ensures.reads tells; put = omega (arith, few, put) }

pub returns-clause-reads : goal.returns-clause-reads
returns-clause-reads g c = λ tells.
    let plan = c.in_ok-plan.plan in
    let few : length plan.objects ≤ 4 =
    few_texts g.K.OpKind.meaning c.args.folder.now c.args.id.now c.args.remote.now c.args.author.now c.args.authors.now c.args.clock.now c.args.now (g.S.Store.history c.args.disk.now) (g.S.Store.history c.args.disk.now) c.args.local plan.merged plan.edit plan.create plan.objects
    (c.in_ok-plan.ensures.answers tells) in
    let put : g.S.Store.object_reads c.put_all.new.disk ≤ g.S.Store.object_reads c.plan_merge.new.disk + length plan.objects =
    subst (λ t. g.S.Store.object_reads c.put_all.new.disk ≤ g.S.Store.object_reads c.plan_merge.new.disk + length t) c.as_slice-texts.ensures c.put_all.ensures.reads in
    record { mid = g.S.Store.object_reads c.plan_merge.new.disk; planned = c.in_ok-plan.ensures.reads tells; put = omega (arith, few, put) }

pub returns-in_err-put_all-clause-equal : goal.returns-in_err-put_all-clause-equal
returns-in_err-put_all-clause-equal g c = λ same.
    let plan = c.in_ok-plan.plan in
    let known = c.in_ok-plan.ensures.equal same in
    let is : plan ≡ no_plan = cc known.equal in
    let put : g.S.Store.object_reads c.put_all.new.disk ≤ g.S.Store.object_reads c.plan_merge.new.disk + length plan.objects =
    subst (λ t. g.S.Store.object_reads c.put_all.new.disk ≤ g.S.Store.object_reads c.plan_merge.new.disk + length t) c.as_slice-texts.ensures c.put_all.ensures.reads in
    omega (arith, put, ap (λ (p : MergePlan). length p.objects) is, known.reads)

pub returns-clause-equal : goal.returns-clause-equal
returns-clause-equal g c = λ same.
    let plan = c.in_ok-plan.plan in
    let known = c.in_ok-plan.ensures.equal same in
    let is : plan ≡ no_plan = cc known.equal in
    let put : g.S.Store.object_reads c.put_all.new.disk ≤ g.S.Store.object_reads c.plan_merge.new.disk + length plan.objects =
    subst (λ t. g.S.Store.object_reads c.put_all.new.disk ≤ g.S.Store.object_reads c.plan_merge.new.disk + length t) c.as_slice-texts.ensures c.put_all.ensures.reads in
    omega (arith, put, ap (λ (p : MergePlan). length p.objects) is, known.reads)
