use Rattle.std.proofs.Common.{inl, inr}
use Rattle.gb_store.proofs.MomentLemmas.{AllMoments-then, IsMoment-cases, IsMoment-of_first, IsMoment-of_second}
use Rattle.gb_store.proofs.laws.moments_compose.Goals as goal

pub returns-clause-split : goal.returns-clause-split
returns-clause-split g c = λ old mid new moment first then. (
  IsMoment-cases old mid new moment first then,
  λ at. elim at [ inl early ↦ IsMoment-of_first old mid new moment early then | inr late ↦ IsMoment-of_second old mid new moment first late ],
)

pub returns-clause-whole : goal.returns-clause-whole
returns-clause-whole g c = AllMoments-then g.P.Property.holds
