use Rattle.std.proofs.Common.{◌≡◌, ◌≤◌, ◌<◌, rules, List, [], ◌∷◌, length, slice_index_or, Option, Result, Err, refl, sym, ◌∙◌, ap, subst, arith}
use Rattle.gb_text.specs.declared.id.Name.{Name}
use Rattle.object_store.specs.Held.{Objects, objects_after}
use Rattle.object_store.specs.Typed.{commit_at}
use Rattle.commit_walk.specs.Answers.{CommitRefused}
use Rattle.commit_walk.specs.Below.{IsCommit}
use Rattle.commit_walk.specs.Chain.{IsLink}
use Rattle.commit_walk.specs.ChainAnswers.{LinkAnswers}
use Rattle.commit_walk.specs.Stops.{chain_stop}
use Rattle.commit_walk.specs.declared.below.Met.{Met}
use Rattle.commit_walk.specs.declared.chain.Link.{Link}
use Rattle.commit_walk.specs.declared.fault.ChainStop.{ChainStop}
use Rattle.commit_walk.specs.declared.fault.WalkStop.{WalkStop}
use Rattle.commit_walk.specs.declared.fault.WalkStop.TheVariants as stop
use Rattle.commit_walk.proofs.chain.step.Goals as goal

refused : (objects : Objects) (name : Name) (s : WalkStop) → CommitRefused objects name s → LinkAnswers objects name (Err (chain_stop s))
refused objects name stop.Memory h = tt
refused objects name stop.Disk h = tt
refused objects name (stop.Fault f) h = h

pub returns-in_err-met-clause-answers : goal.returns-in_err-met-clause-answers
returns-in_err-met-clause-answers g c = λ tells.
    let objects = objects_after (g.S.Store.history c.args.disk.now) c.args.folder.now in
    let s = c.in_err-met.field-0.0 in
    let is : c.from_residual.result ≡ Err (chain_stop s) = search rules in
    subst (λ (r : Result (Link × Option Name) ChainStop). LinkAnswers objects c.args.name.now r) (sym is) (refused objects c.args.name.now s (c.in_err-met.ensures.answers tells))

-- a commit that was met is a link with its parents
link_of : (objects : Objects) (name : Name) (met : Met) (parents : List Name) → met.name ≡ name → IsCommit objects met → met.parents ≡ parents
    → IsLink objects (record { name = name; tree = met.tree }) parents
link_of objects name met parents named is has = record {
  commit = is.commit;
  held = ap (commit_at objects) (sym named) ∙ is.held;
  tree = is.tree;
  parents = sym has ∙ is.parents;
}

none : (parents : List Name) → length parents < 1 → parents ≡ []
none [] few = refl
none (p ∷ ps) few = absurd (omega arith)

one : (parents : List Name) (d : Name) → 1 ≤ length parents → length parents < 2 → parents ≡ slice_index_or parents 0 d ∷ []
one [] d some few = absurd (omega arith)
one (p ∷ []) d some few = refl
one (p ∷ q ∷ ps) d some few = absurd (omega arith)

pub returns-in-empty-clause-answers : goal.returns-in-empty-clause-answers
returns-in-empty-clause-answers g c = λ tells.
    let objects = objects_after (g.S.Store.history c.args.disk.now) c.args.folder.now in
    let has : c.in_ok-met.met.parents ≡ [] = sym c.as_slice.ensures ∙ none c.as_slice.result.now (omega (arith, c.in-empty.len_below)) in
    (refl, link_of objects c.args.name.now c.in_ok-met.met [] c.in_ok-met.ensures.named (c.in_ok-met.ensures.answers tells) has)

pub returns-in-len1-clause-answers : goal.returns-in-len1-clause-answers
returns-in-len1-clause-answers g c = λ tells.
    let objects = objects_after (g.S.Store.history c.args.disk.now) c.args.folder.now in
    let parent : Name = slice_index_or c.as_slice.result.now 0 (record { bytes = [] }) in
    let has : c.in_ok-met.met.parents ≡ parent ∷ [] = sym c.as_slice.ensures ∙ one c.as_slice.result.now (record { bytes = [] }) (omega (arith, c.in-len1.len_at_least)) (omega (arith, c.in-len1.len_below)) in
    (refl, link_of objects c.args.name.now c.in_ok-met.met (parent ∷ []) c.in_ok-met.ensures.named (c.in_ok-met.ensures.answers tells) has)

pub returns-clause-answers : goal.returns-clause-answers
returns-clause-answers g c = λ tells.
    let objects = objects_after (g.S.Store.history c.args.disk.now) c.args.folder.now in
    let is : IsCommit objects c.in_ok-met.met = c.in_ok-met.ensures.answers tells in
    let same : length c.as_slice.result.now ≡ length is.commit.parents = ap length (c.as_slice.ensures ∙ is.parents) in
    (refl, record { commit = is.commit; held = ap (commit_at objects) (sym c.in_ok-met.ensures.named) ∙ is.held; many = omega (arith, same, c.in_default.len_at_least) })
