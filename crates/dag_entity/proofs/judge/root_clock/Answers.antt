use Rattle.std.proofs.Common.{◌≡◌, ◌∙◌, Bool, true, false, not, List, ℕ, Some, refl, sym, ap}
use Rattle.std.specs.List.{slice_get}
use Rattle.std.specs.Str.{bytes_eq}
use Rattle.std.proofs.lemmas.Slice.Eq.{bytes_eq-Decides}
use Rattle.gb_text.specs.declared.id.Id.{Id}
use Rattle.op_kind.specs.declared.place.Common.{Common}
use Rattle.dag_entity.proofs.JudgeLemmas.{first_id, rest_of}
use Rattle.dag_entity.proofs.judge.root_clock.Goals as goal

differ : (one two : Id) → true ≡ not (bytes_eq one.bytes two.bytes) → one ≡ two → ⊥
differ one two is same =
    let equal : bytes_eq one.bytes two.bytes ≡ true = (bytes_eq-Decides one.bytes two.bytes).1 (ap (λ (id : Id). id.bytes) same) in
    let no : not (bytes_eq one.bytes two.bytes) ≡ false = ap not equal in
    cc (is, no)

same : (one two : Id) → false ≡ not (bytes_eq one.bytes two.bytes) → one ≡ two
same one two is = ap (λ (bytes : List ℕ). record { bytes = bytes }) ((bytes_eq-Decides one.bytes two.bytes).0 (by (bytes_eq one.bytes two.bytes) is))
  where
    by : (b : Bool) → false ≡ not b → b ≡ true
    by true e = refl
    by false e = e

pub returns-then-ne : goal.returns-then-ne
returns-then-ne g c =
    let k = g.K.OpKind.meaning in
    let first = c.in-Some-first.first.now in
    let is : c.common.result.now ≡ k.common_of first = c.common.ensures in
    let at : Some first ≡ slice_get c.args.placed.now.pack.ops 0 = c.in-Some-first.ensures.value ∙ ap (λ ops. slice_get ops 0) c.as_slice.ensures in (
      first_id k c.args.placed.now.pack first at ∙ ap (λ (common : Common). Some common.place.id) (sym is),
      differ c.common.result.now.place.id c.args.id.now c.if-ne.ensures,
    )

pub returns : goal.returns
returns g c =
    let k = g.K.OpKind.meaning in
    let first = c.in-Some-first.first.now in
    let is : c.common.result.now ≡ k.common_of first = c.common.ensures in
    let at : Some first ≡ slice_get c.args.placed.now.pack.ops 0 = c.in-Some-first.ensures.value ∙ ap (λ ops. slice_get ops 0) c.as_slice.ensures in
    let parts = rest_of c.args.placed.now.pack.ops first at in
    record {
      says = c.in-Some.is ∙ ap (λ (n : ℕ). Some n) (sym c.number.ensures.value);
      first = first;
      rest = parts.0;
      begins = parts.1;
      opening = sym c.if-not-may_be_first.ensures;
      id_is = ap (λ (common : Common). common.place.id) (sym is) ∙ same c.common.result.now.place.id c.args.id.now c.if-ne.ensures;
    }
