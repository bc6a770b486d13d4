-- Which branch was taken.
use Rattle.std.proofs.Common.{◌≡◌, ◌≢◌, ℕ, Bool, true, false, cond, eqb, Option, Some, None, refl, arith, inl, inr, ◌⊎◌}
use Rattle.std.proofs.lemmas.Bool.Decides.{nat_tests}
use Rattle.std.specs.Prelude.{option_and_then}
use Rattle.std.specs.Option.{option_map}
use Rattle.json_span.specs.Machine.{◌>>=◌}

-- What follows a value has one where both steps have.
pub bind_some : {A B : Type 0} (o : Option A) (f : A → Option B) (y : B) → (o >>= f) ≡ Some y → (x : A) × (o ≡ Some x) × (f x ≡ Some y)
bind_some (Some x) f y e = (x, refl, e)
bind_some None f y e = absurd cc

-- Values that are there are equal where the two options are.
pub some_is : {A : Type 0} (x y : A) → Some x ≡ Some y → x ≡ y
some_is x y e = cc

-- Which of two values was chosen.
pub chosen : {A : Type 0} (b : Bool) (x y z : A) → cond b x y ≡ z → ((b ≡ true) × (x ≡ z)) ⊎ ((b ≡ false) × (y ≡ z))
chosen true x y z e = inl (refl, e)
chosen false x y z e = inr (refl, e)

-- A number is equal to itself.
pub same_eqb : (x : ℕ) → eqb x x ≡ true
same_eqb x = grind (arith, nat_tests)

-- What is not true is false.
pub not_true : (b : Bool) → b ≢ true → b ≡ false
not_true true ne = absurd (ne refl)
not_true false ne = refl

-- what follows a value in two steps
pub bind_twice : {A : Type 0} (o : Option A) (f g h : A → Option A) → ((x : A) → f x ≡ (g x >>= h)) → (o >>= f) ≡ ((o >>= g) >>= h)
bind_twice None f g h e = refl
bind_twice (Some x) f g h e = e x

-- ---- options

-- A value that is mapped comes of a value.
pub map_some : {A B : Type 0} (g : A → B) (x : Option A) (b : B) → option_map g x ≡ Some b → (a : A) × (x ≡ Some a) × (g a ≡ b)
map_some g None b h = absurd (cc)
map_some g (Some a) b h = (a, refl, cc)

-- Nothing that is mapped comes of nothing.
pub map_none : {A B : Type 0} (g : A → B) (x : Option A) → option_map g x ≡ None → x ≡ None
map_none g None h = refl
map_none g (Some a) h = absurd (cc)

-- What is read of a value in two steps has both.
pub then_some : {A B : Type 0} (f : A → Option B) (o : Option A) (b : B) → option_and_then f o ≡ Some b → (a : A) × (o ≡ Some a) × (f a ≡ Some b)
then_some f None b h = absurd (cc (h))
then_some f (Some a) b h = (a, refl, h)
