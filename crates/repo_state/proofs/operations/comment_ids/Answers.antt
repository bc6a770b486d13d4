use Rattle.std.proofs.Common.{◌≡◌, flat_map, take, take_all, sym, ◌∙◌, ap, arith}
use Rattle.bug_ops.specs.Kind.{bug_kind}
use Rattle.dag_entity.specs.Entities.{ops_in}
use Rattle.repo_state.specs.Seeking.{made_by}
use Rattle.repo_state.proofs.OnceLemmas.{ids_made}
use Rattle.repo_state.proofs.operations.comment_ids.Goals as goal

pub returns : goal.returns
returns c =
    let packs = c.args.packs.now in
    let all : take c.loop-placed.placed-index packs ≡ packs = take_all c.loop-placed.placed-index packs (omega (arith, c.loop-placed-test.false)) in
    c.from_vec.ensures ∙ c.loop-placed.invariant ∙ ap (λ ps. flat_map made_by (ops_in bug_kind ps)) all ∙ sym (ids_made (ops_in bug_kind packs))
