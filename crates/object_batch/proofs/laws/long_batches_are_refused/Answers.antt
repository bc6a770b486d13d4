use Rattle.object_batch.proofs.laws.long_batches_are_refused.Goals as goal

pub returns : goal.returns
returns c = λ folder texts old new count. (
  λ answer. (answer.0, (answer.1.text, answer.1.member, answer.1.long), answer.2),
  λ h. (h.0, record { text = h.1.0; member = h.1.1; long = h.1.2 }, h.2),
)
