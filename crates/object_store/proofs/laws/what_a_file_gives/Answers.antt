use Rattle.object_store.proofs.laws.what_a_file_gives.Goals as goal

pub returns-clause-held : goal.returns-clause-held
returns-clause-held c = λ objects name object. (λ held. (held.text, held.stands, held.within, held.is_named, held.is), λ h. record { text = h.0; stands = h.1; within = h.2; is_named = h.3; is = h.4 })

pub returns-clause-large : goal.returns-clause-large
returns-clause-large c = λ objects name at. (λ large. (large.0, (large.1.text, large.1.stands, large.1.long)), λ h. (h.0, record { text = h.1.0; stands = h.1.1; long = h.1.2 }))

pub returns-clause-damaged : goal.returns-clause-damaged
returns-clause-damaged c = λ objects name at. (λ d. (d.0, (d.1.text, d.1.stands, d.1.within, d.1.is_none)), λ h. (h.0, record { text = h.1.0; stands = h.1.1; within = h.1.2; is_none = h.1.3 }))

pub returns-clause-missing : goal.returns-clause-missing
returns-clause-missing c = λ objects name at. (λ missing. missing, λ missing. missing)
