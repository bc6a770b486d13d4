use Rattle.std.proofs.Common.{◌≡◌, ◌⊎◌, inl, inr, refl}
use Rattle.commit_pack.specs.Answers.{Refused}
use Rattle.commit_pack.specs.Packs.{CommitPackFaultHolds}
use Rattle.commit_pack.specs.declared.fault.CommitPackFault.{CommitPackFault}
use Rattle.commit_pack.specs.declared.fault.CommitPackFault.TheVariants as fault
use Rattle.commit_pack.proofs.laws.pack_answers_say_what_is_held.Goals as goal

-- a refusal is want of memory, a fault of the disk or a fault that holds
refused_for : (Holds : CommitPackFault → Type 0) (f : CommitPackFault) → Refused Holds f → ((f ≡ fault.Memory) ⊎ (f ≡ fault.Disk)) ⊎ Holds f
refused_for Holds fault.Memory h = inl (inl refl)
refused_for Holds fault.Disk h = inl (inr refl)
refused_for Holds (fault.Missing n) h = inr h
refused_for Holds (fault.Damaged n) h = inr h
refused_for Holds (fault.Large n) h = inr h
refused_for Holds fault.BadTree h = inr h
refused_for Holds (fault.UnknownVersion n) h = inr h
refused_for Holds fault.NoOps h = inr h
refused_for Holds fault.BadClock h = inr h
refused_for Holds fault.BadPack h = inr h
refused_for Holds (fault.BadOperation i f) h = inr h
refused_for Holds (fault.TooLarge n) h = inr h

pub returns-clause-pack : goal.returns-clause-pack
returns-clause-pack g c = λ objects tree pack is. is

pub returns-clause-refused : goal.returns-clause-refused
returns-clause-refused g c = λ objects tree why is. refused_for (CommitPackFaultHolds g.K.OpKind.meaning objects tree) why is
