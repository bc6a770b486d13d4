use Rattle.std.proofs.Common.{refl}
use Rattle.remote_name.proofs.laws.remote_names_are_known.Goals as goal

pub returns-clause-longest : goal.returns-clause-longest
returns-clause-longest c = refl

pub returns-clause-longer : goal.returns-clause-longer
returns-clause-longer c = refl

pub returns-clause-none : goal.returns-clause-none
returns-clause-none c = refl

pub returns-clause-signs : goal.returns-clause-signs
returns-clause-signs c = refl

pub returns-clause-dots : goal.returns-clause-dots
returns-clause-dots c = refl

pub returns-clause-slashes : goal.returns-clause-slashes
returns-clause-slashes c = refl

pub returns-clause-edges : goal.returns-clause-edges
returns-clause-edges c = refl

pub returns-clause-beside : goal.returns-clause-beside
returns-clause-beside c = (refl, (refl, (refl, (refl, (refl, (refl, (refl, (refl, (refl, (refl, (refl, (refl, (refl, (refl, (refl, tt)))))))))))))))
