-- The name of an id among persons.
use Rattle.std.proofs.Common.{◌≡◌, List, [], ◌∷◌, ◌++◌, true, false, if◌then◌else◌, refl, ap, ◌∙◌}
use Rattle.std.specs.List.{AllByRecursion}
use Rattle.std.proofs.lemmas.Slice.Eq.{bytes_eq-Decides}
use Rattle.gb_text.specs.declared.id.Id.{Id}
use Rattle.bug_ops.specs.Snapshots.{same_id}
use Rattle.identity.specs.declared.chain.Person.{Person}
use Rattle.person_names.specs.Named.{name_among, short_of}

pub unknown : (persons : List Person) (id : Id) → AllByRecursion (λ person. same_id person.id id ≡ false) persons → name_among persons id ≡ short_of id
unknown [] id h = refl
unknown (person ∷ persons) id h = ap (λ b. if b then person.name else name_among persons id) h.0 ∙ unknown persons id h.1

pub first_names : (before after : List Person) (person : Person) → AllByRecursion (λ other. same_id other.id person.id ≡ false) before → name_among (before ++ person ∷ after) person.id ≡ person.name
first_names [] after person h =
    let same : same_id person.id person.id ≡ true = (bytes_eq-Decides person.id.bytes person.id.bytes).1 refl in
    ap (λ b. if b then person.name else name_among after person.id) same
first_names (other ∷ before) after person h =
    ap (λ b. if b then other.name else name_among (before ++ person ∷ after) person.id) h.0 ∙ first_names before after person h.1
