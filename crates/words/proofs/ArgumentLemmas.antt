-- Which arguments are taken, by how each begins.
use Rattle.std.proofs.Common.{◌≡◌, ◌∙◌, ◌==◌, inl, inr, refl, sym, ap, subst, ℕ, Bool, true, false, true≢false, eqb-true, List, [], ◌∷◌, ◌++◌, codes, Some, None, option_map}
use Rattle.std.specs.Prelude.{◌≢◌}
use Rattle.std.specs.List.{AllByRecursion}
use Rattle.std.proofs.lemmas.Slice.Eq.{bytes_eq-Decides}
use Rattle.words.specs.Arguments.{IsFlag, IsPlain, Shape, arguments_of, is_dashed, is_separator, plain, refused, separated}

-- ---- one argument

not_true : (b : Bool) → (b ≡ true → ⊥) → b ≡ false
not_true true never = absurd (never refl)
not_true false never = refl

other_than_separator : (argument : List ℕ) → argument ≢ codes "--" → is_separator argument ≡ false
other_than_separator argument never = not_true (is_separator argument) (λ is. never ((bytes_eq-Decides argument (codes "--")).0 is))

dashed_begins : (argument : List ℕ) → is_dashed argument ≡ true → (more : List ℕ) × (argument ≡ codes "-" ++ more) × (argument ≢ codes "-")
dashed_begins [] is = absurd (true≢false (sym is))
dashed_begins (x ∷ []) is = absurd (true≢false (sym is))
dashed_begins (x ∷ y ∷ more) is = (y ∷ more, ap (λ n. n ∷ y ∷ more) (eqb-true x 45 is), λ same. cc same)

-- a plain one is neither
plain_not_dashed : (argument : List ℕ) → IsPlain argument → is_dashed argument ≡ false
plain_not_dashed argument (inl is) = not_true (is_dashed argument) (λ d. (dashed_begins argument d).2 is)
plain_not_dashed argument (inr never) = not_true (is_dashed argument) (λ d. never (dashed_begins argument d).0 (dashed_begins argument d).1)

plain_no_separator : (argument : List ℕ) → IsPlain argument → is_separator argument ≡ false
plain_no_separator argument (inl is) = other_than_separator argument (λ same. let bad : codes "-" ≡ codes "--" = sym is ∙ same in cc bad)
plain_no_separator argument (inr never) = other_than_separator argument (never (codes "-"))

-- one that is refused is dashed
flag_dashed : (argument : List ℕ) → IsFlag argument → is_dashed argument ≡ true
flag_dashed argument flag = by flag.more flag.begins
  where
    by : (more : List ℕ) → argument ≡ codes "-" ++ more → is_dashed argument ≡ true
    by [] is = absurd (flag.longer is)
    by (y ∷ more) is = ap is_dashed is

-- one that is neither is plain
other_first : (x : ℕ) (xs : List ℕ) → (x == 45) ≡ false → (more : List ℕ) → (x ∷ xs) ≢ codes "-" ++ more
other_first x xs other more same =
    let is : x ≡ 45 = cc same in
    absurd (true≢false (subst (λ n. (n == 45) ≡ false) is other))

neither_plain : (argument : List ℕ) → is_dashed argument ≡ false → IsPlain argument
neither_plain [] never = inr (λ more same. cc same)
neither_plain (x ∷ []) never = by (x == 45) refl
  where
    by : (b : Bool) → (x == 45) ≡ b → IsPlain (x ∷ [])
    by true is = inl (ap (λ n. n ∷ []) (eqb-true x 45 is))
    by false is = inr (other_first x [] is)
neither_plain (x ∷ y ∷ more) never = inr (other_first x (y ∷ more) never)

-- ---- all of them

plain_first : (argument : List ℕ) (rest : List (List ℕ)) → IsPlain argument → arguments_of (argument ∷ rest) ≡ option_map (λ others. argument ∷ others) (arguments_of rest)
plain_first argument rest is = rw (plain_no_separator argument is, plain_not_dashed argument is) refl

pub all_plain : (given : List (List ℕ)) → AllByRecursion IsPlain given → arguments_of given ≡ Some given
all_plain [] all = refl
all_plain (argument ∷ rest) all = plain_first argument rest all.0 ∙ ap (option_map (λ others. argument ∷ others)) (all_plain rest all.1)

pub one_separator : (before after : List (List ℕ)) → AllByRecursion IsPlain before → arguments_of (before ++ codes "--" ∷ after) ≡ Some (before ++ after)
one_separator [] after all = refl
one_separator (argument ∷ before) after all =
    plain_first argument (before ++ codes "--" ∷ after) all.0 ∙ ap (option_map (λ others. argument ∷ others)) (one_separator before after all.1)

pub one_refused : (before after : List (List ℕ)) (flag : List ℕ) → AllByRecursion IsPlain before → IsFlag flag → arguments_of (before ++ flag ∷ after) ≡ None
one_refused [] after flag all is = rw (other_than_separator flag is.other, flag_dashed flag is) refl
one_refused (argument ∷ before) after flag all is =
    plain_first argument (before ++ flag ∷ after) all.0 ∙ ap (option_map (λ others. argument ∷ others)) (one_refused before after flag all.1 is)

-- with a plain one before them
plain_before : (argument : List ℕ) (rest : List (List ℕ)) → IsPlain argument → Shape rest → Shape (argument ∷ rest)
plain_before argument rest is (plain all) = plain (is, all)
plain_before argument rest is (separated before after all are) = separated (argument ∷ before) after (is, all) (ap (λ others. argument ∷ others) are)
plain_before argument rest is (refused before after flag all never are) = refused (argument ∷ before) after flag (is, all) never (ap (λ others. argument ∷ others) are)

pub shape_of : (given : List (List ℕ)) → Shape given
shape_of [] = plain tt
shape_of (argument ∷ rest) = by (is_separator argument) (is_dashed argument) refl refl (shape_of rest)
  where
    by : (separates dashed : Bool) → is_separator argument ≡ separates → is_dashed argument ≡ dashed → Shape rest → Shape (argument ∷ rest)
    by true dashed is d others = separated [] rest tt (ap (λ a. a ∷ rest) ((bytes_eq-Decides argument (codes "--")).0 is))
    by false true is d others =
        let begins = dashed_begins argument d in
        refused [] rest argument tt
        (record {
          more = begins.0;
          begins = begins.1;
          longer = begins.2;
          other = λ same. true≢false (sym ((bytes_eq-Decides argument (codes "--")).1 same) ∙ is);
        })
        refl
    by false false is d others = plain_before argument rest (neither_plain argument d) others
