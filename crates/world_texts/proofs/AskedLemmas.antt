-- Arguments that ask for a world.
use Rattle.std.proofs.Common.{◌≡◌, ℕ, List, [], ◌∷◌, Option, Some, None, refl, sym, ap, ◌∙◌, arith}
use Rattle.std.proofs.lemmas.Bool.Decides.{nat_tests}
use Rattle.std.proofs.lemmas.Grind.{common_steps}
use Rattle.std.specs.Prelude.{option_and_then}
use Rattle.gb_text.specs.Decimal.{decimal_of}
use Rattle.gb_text.proofs.DecimalLemmas.{decimal_of-is, decimal_of-decimal}
use Rattle.world_texts.specs.Asked.{IsAskedBy, IsInBounds, asked_of, bounded}
use Rattle.world_texts.specs.declared.asked.Asked.{Asked}

-- what follows on an option that gives something
follows : {B : Type 0} (o : Option ℕ) (next : ℕ → Option B) (b : B) → option_and_then next o ≡ Some b → (n : ℕ) × (o ≡ Some n) × (next n ≡ Some b)
follows None next b e = cc
follows (Some n) next b e = (n, refl, e)

-- the world of numbers that are in their bounds
record IsBounded (n f e : ℕ) (asked : Asked) : Type 0 where
  number : asked.number ≡ n
  folders : asked.folders ≡ f
  events : asked.events ≡ e
  bounds : IsInBounds asked

bounded-is : (number folders events : ℕ) (asked : Asked) → bounded number folders events ≡ Some asked → IsBounded number folders events asked
bounded-is number folders events asked e = record {
  number = grind (arith, common_steps, nat_tests);
  folders = grind (arith, common_steps, nat_tests);
  events = grind (arith, common_steps, nat_tests);
  bounds = record {
    some = grind (arith, common_steps, nat_tests);
    most = grind (arith, common_steps, nat_tests);
    enough = grind (arith, common_steps, nat_tests);
    few = grind (arith, common_steps, nat_tests);
  };
}

bounded-each : (asked : Asked) → IsInBounds asked → bounded asked.number asked.folders asked.events ≡ Some asked
bounded-each asked bounds = grind (arith, nat_tests)

-- the arguments of a world are the decimals of its numbers, in their bounds
pub asked_of_is : (words : List (List ℕ)) (asked : Asked) → asked_of words ≡ Some asked → IsAskedBy words asked
asked_of_is [] asked e = cc
asked_of_is (a ∷ []) asked e = cc
asked_of_is (a ∷ b ∷ []) asked e = cc
asked_of_is (a ∷ b ∷ c ∷ []) asked e =
    let one = follows (decimal_of a) _ asked e in
    let two = follows (decimal_of b) _ asked one.2 in
    let three = follows (decimal_of c) _ asked two.2 in
    let is = bounded-is one.0 two.0 three.0 asked three.2 in
    record {
      number = a;
      folders = b;
      events = c;
      are = refl;
      of_number = decimal_of-is a asked.number (one.1 ∙ ap (λ (m : ℕ). Some m) (sym is.number));
      of_folders = decimal_of-is b asked.folders (two.1 ∙ ap (λ (m : ℕ). Some m) (sym is.folders));
      of_events = decimal_of-is c asked.events (three.1 ∙ ap (λ (m : ℕ). Some m) (sym is.events));
      bounds = is.bounds;
    }
asked_of_is (a ∷ b ∷ c ∷ d ∷ more) asked e = cc

-- and such arguments ask for it
pub asked_of_each : (words : List (List ℕ)) (asked : Asked) → IsAskedBy words asked → asked_of words ≡ Some asked
asked_of_each words asked is =
    rw (
      is.are,
      decimal_of-decimal is.number asked.number is.of_number,
      decimal_of-decimal is.folders asked.folders is.of_folders,
      decimal_of-decimal is.events asked.events is.of_events,
    )
    (bounded-each asked is.bounds)
