use Rattle.std.proofs.Common.{◌≡◌, ◌≢◌, ℕ, List, [], ◌∷◌, ◌++◌, Some, None, sym, ◌∙◌, ap}
use Rattle.std.proofs.lemmas.Bool.Decides.{Decides-eqb}
use Rattle.std.proofs.lemmas.Slice.Eq.{strip_prefix_is}
use Rattle.packed_refs.proofs.BelowLemmas.{below_is, no_dir_above, no_slash_below}
use Rattle.packed_refs.proofs.packed.id_below.Goals as goal

pub returns-in-Some-strip_prefix : goal.returns-in-Some-strip_prefix
returns-in-Some-strip_prefix c =
    let name = c.args.name.now in
    let below : name ≡ c.args.dir.now ++ c.in-Some.below.now = strip_prefix_is Decides-eqb name c.args.dir.now (Some c.in-Some.below) c.in-Some.ensures.cases in
    let digits : c.in-Some.below.now ≡ 47 ∷ c.in-Some-strip_prefix.digits.now = strip_prefix_is Decides-eqb c.in-Some.below.now (47 ∷ []) (Some c.in-Some-strip_prefix.digits) c.in-Some-strip_prefix.ensures.cases in
    c.read.ensures.value ∙ sym (below_is c.args.dir.now name c.in-Some-strip_prefix.digits.now (below ∙ ap (λ (rest : List ℕ). c.args.dir.now ++ rest) digits))

pub returns-in-None-strip_prefix : goal.returns-in-None-strip_prefix
returns-in-None-strip_prefix c =
    let name = c.args.name.now in
    let below : name ≡ c.args.dir.now ++ c.in-Some.below.now = strip_prefix_is Decides-eqb name c.args.dir.now (Some c.in-Some.below) c.in-Some.ensures.cases in
    let never : (rest : List ℕ) → c.in-Some.below.now ≢ 47 ∷ [] ++ rest = strip_prefix_is Decides-eqb c.in-Some.below.now (47 ∷ []) None c.in-None-strip_prefix.ensures.cases in
    sym (no_slash_below c.args.dir.now name c.in-Some.below.now below never)

pub returns-in-None : goal.returns-in-None
returns-in-None c =
    let name = c.args.name.now in
    let never : (rest : List ℕ) → name ≢ c.args.dir.now ++ rest = strip_prefix_is Decides-eqb name c.args.dir.now None c.in-None.ensures.cases in
    sym (no_dir_above c.args.dir.now name never)
