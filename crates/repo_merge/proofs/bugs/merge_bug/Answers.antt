use Rattle.std.proofs.Common.{rules, ◌≡◌, arith, Err, inl, inr, refl, sym, subst}
use Rattle.gb_store.specs.Files.{files_of}
use Rattle.repo_state.specs.declared.side.Side.TheVariants as side
use Rattle.repo_merge.specs.Turning.{OneBug}
use Rattle.repo_merge.proofs.QuietLemmas.{known_heads}
use Rattle.repo_merge.proofs.HeadsLemmas.{bug_ends}
use Rattle.repo_merge.proofs.bugs.merge_bug.Goals as goal

pub returns-in_err-heads-clause-answers : goal.returns-in_err-heads-clause-answers
returns-in_err-heads-clause-answers g c = λ tells here.
    let history = g.S.Store.history in
    let a = c.args in
    let why = c.in_err-heads.field-0.0 in
    let is : c.from_residual.result ≡ Err why = search rules in
    subst (OneBug a.folder.now a.maker.now a.tracked.now a.entity.now (history a.disk.now) (history a.disk.now)) (sym is)
    (bug_ends a.folder.now a.tracked.now a.entity.now (history a.disk.now) (history a.disk.now) refl a.maker.now why (c.in_err-heads.ensures.answers side.Bugs (history a.disk.now) here))

pub returns-clause-answers : goal.returns-clause-answers
returns-clause-answers g c = λ tells here.
    let a = c.args in
    c.join_heads.ensures.answers a.tracked.now a.entity.now tells (c.in_ok-heads.ensures.answers side.Bugs (g.S.Store.history a.disk.now) here)

pub returns-clause-unread : goal.returns-clause-unread
returns-clause-unread g c = λ tells here known.
    let old = g.S.Store.history c.args.disk.now in
    let a = c.args in
    c.join_heads.ensures.unread tells (known_heads (files_of old) a.folder.now side.Bugs a.entity.now c.in_ok-heads.heads (c.in_ok-heads.ensures.answers side.Bugs old here) known)

pub returns-in_err-heads-clause-reads : goal.returns-in_err-heads-clause-reads
returns-in_err-heads-clause-reads g c = λ tells here. inl (omega arith)

pub returns-clause-reads : goal.returns-clause-reads
returns-clause-reads g c = λ tells here.
    inr (c.in_ok-heads.heads, c.in_ok-heads.ensures.answers side.Bugs (g.S.Store.history c.args.disk.now) here, c.join_heads.ensures.reads tells)
