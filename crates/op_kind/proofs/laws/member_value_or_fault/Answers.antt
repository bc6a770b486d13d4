use Rattle.std.proofs.Common.{inl, inr, refl}
use Rattle.op_kind.specs.CommonLaws.{only-none, only-repeated, only-lacks, or-none, or-repeated, or-breaks}
use Rattle.op_kind.proofs.laws.member_value_or_fault.Goals as goal

pub returns-clause-lacking : goal.returns-clause-lacking
returns-clause-lacking g c = λ number read values fault h. elim h.1 [ inl r ↦ only-repeated read values r | inr l ↦ only-lacks read values l ]

pub returns-clause-one : goal.returns-clause-one
returns-clause-one g c = λ number read values h. (refl, only-none read values h)

pub returns-clause-broken : goal.returns-clause-broken
returns-clause-broken g c = λ absent number read values fault h. elim h.1 [ inl r ↦ or-repeated absent read values r | inr b ↦ or-breaks absent read values b ]

pub returns-clause-optional : goal.returns-clause-optional
returns-clause-optional g c = λ absent number read values h. (refl, or-none absent read values h)
