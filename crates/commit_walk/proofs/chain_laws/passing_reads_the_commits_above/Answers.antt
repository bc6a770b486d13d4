use Rattle.std.proofs.Common.{[], ◌∷◌, refl, sym, arith}
use Rattle.commit_walk.proofs.chain_laws.passing_reads_the_commits_above.Goals as goal

pub returns-clause-head : goal.returns-clause-head
returns-clause-head c = λ objects head before after reads. let few = reads (record { above = []; chain = refl; near = omega arith }) in omega (arith, few)

pub returns-clause-parent : goal.returns-clause-parent
returns-clause-parent c = λ objects head parent commit before after held only reads.
    let few = reads (record {
      above = record { name = head; tree = commit.tree } ∷ [];
      chain = (refl, record { commit = commit; held = held; tree = refl; parents = sym only });
      near = omega arith;
    }) in
    omega (arith, few)
