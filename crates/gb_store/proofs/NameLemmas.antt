-- The name of a path that is right in a folder.
use Rattle.std.proofs.Common.{◌≡◌, ◌≢◌, ℕ, ◌==◌, Bool, false, cond, List, [], ◌∷◌, ◌++◌, Option, Some, None, refl, sym, ◌∙◌, ap, append_assoc, arith}
use Rattle.std.proofs.lemmas.Grind.{common_steps}
use Rattle.std.specs.List.{list_any}
use Rattle.gb_store.specs.MemIndex.{after_prefix, name_only, name_below}

after_prefix-append : (p n : List ℕ) → after_prefix p (p ++ n) ≡ Some n
after_prefix-append [] n = refl
after_prefix-append (c ∷ cs) n = grind (arith, common_steps, after_prefix-append cs n)

after_prefix-is : (p s n : List ℕ) → after_prefix p s ≡ Some n → s ≡ p ++ n
after_prefix-is [] s n e = cc
after_prefix-is (c ∷ cs) [] n e = cc
after_prefix-is (c ∷ cs) (d ∷ ds) n e = let rest = after_prefix-is cs ds n in grind (arith, common_steps, rest)

name_only-is : (o : Option (List ℕ)) (n : List ℕ) → name_only o ≡ Some n → (o ≡ Some n) × (list_any (λ c. c == 47) n ≡ false)
name_only-is None n e = cc
name_only-is (Some m) n e = grind (arith, common_steps)

-- a name right below a folder is the rest of the path
pub name_below-is : (dir path name : List ℕ) → name_below dir path ≡ Some name → (path ≡ dir ++ 47 ∷ name) × (list_any (λ c. c == 47) name ≡ false)
name_below-is dir path name e =
    let parts = name_only-is (after_prefix (dir ++ 47 ∷ []) path) name e in
    (after_prefix-is (dir ++ 47 ∷ []) path name parts.0 ∙ append_assoc dir (47 ∷ []) name, parts.1)

-- what `name_below` answers at such a path
name_below-at : (dir name : List ℕ) → name_below dir (dir ++ 47 ∷ name) ≡ cond (list_any (λ c. c == 47) name) None (Some name)
name_below-at dir name =
    ap name_only (ap (after_prefix (dir ++ 47 ∷ [])) (sym (append_assoc dir (47 ∷ []) name)) ∙ after_prefix-append (dir ++ 47 ∷ []) name)

-- a path that has no such form has no such name
pub name_below-none : (dir path : List ℕ) → ((name : List ℕ) → path ≢ dir ++ 47 ∷ name) → name_below dir path ≡ None
name_below-none dir path other = each (name_below dir path) refl
  where
    each : (o : Option (List ℕ)) → name_below dir path ≡ o → name_below dir path ≡ None
    each None e = e
    each (Some name) e = absurd (other name (name_below-is dir path name e).0)

-- the rest of a path is a name right below where it has no slash
pub name_below-at_slash : (dir path name : List ℕ) → path ≡ dir ++ 47 ∷ name → (b : Bool) → list_any (λ c. c == 47) name ≡ b → name_below dir path ≡ cond b None (Some name)
name_below-at_slash dir path name e b h = ap (name_below dir) e ∙ name_below-at dir name ∙ ap (λ (x : Bool). cond x None (Some name)) h
