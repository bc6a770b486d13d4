-- A tree says nothing of a pack exactly where it has a fault.
use Rattle.std.proofs.Common.{◌≡◌, ◌⊎◌, inl, inr, refl, sym, ap, ◌∙◌, ℕ, Bool, false, cond, List, [], ◌∷◌, Option, Some, None, subst, ◌&&◌, nat_le, leb-true, eqb-true, ◌==◌}
use Rattle.std.proofs.lemmas.Bool.{and_parts}
use Rattle.std.proofs.lemmas.Option.{cond_some}
use Rattle.std.specs.Option.{ForSome, option_map}
use Rattle.std.specs.List.{find, AllByRecursion}
use Rattle.gb_text.specs.Decimal.{decimal_of}
use Rattle.gb_text.specs.declared.id.Name.{Name}
use Rattle.git_object.specs.declared.entry.Entry.{Entry}
use Rattle.git_object.specs.declared.tree.Tree.{Tree}
use Rattle.op_kind.specs.Members.{IsRepeated, Breaks, Lacks, only_value, value_or}
use Rattle.op_kind.specs.CommonLaws.{only-none, only-repeated, only-lacks, or-none, or-repeated, or-breaks}
use Rattle.json_span.proofs.BasicLaws.{map_none, map_some, some_is}
use Rattle.gb_text.specs.declared.decimal.TheConstants.{GREATEST_TIME}
use Rattle.op_kind.specs.declared.place.TheConstants.{VERSION}
use Rattle.op_pack.specs.Heads.{known_version, clock_in_range, IsClock, IsHeadInRange, version_at, clock_at, some_clock_at, version_of, edit_clock_of, create_clock_of, is_ops, ops_of, all_four, head_of, versions, edit_clocks, create_clocks, IsTold, HeadFault}
use Rattle.op_pack.specs.declared.fault.PackFault.{PackFault}
use Rattle.op_pack.specs.declared.fault.PackFault.TheVariants.{Memory, UnknownVersion, NoOps, BadClock, BadPack, BadOperation, TooLarge}
use Rattle.op_pack.specs.declared.head.TreeHead.{TreeHead}
use Rattle.op_pack.proofs.RestLemmas.{told_more, find_none}

-- ---- versions

told_by : (text : List ℕ) (texts : List (List ℕ)) (o : Option ℕ) → decimal_of text ≡ o → (n : ℕ) × IsTold n texts → (n : ℕ) × IsTold n (text ∷ texts)
told_by text texts (Some n) is told = (n, inl (inl is))
told_by text texts None is told = (told.0, told_more told.0 text texts is told.1)

some_told : (texts : List (List ℕ)) → (n : ℕ) × IsTold n texts
some_told [] = (0, inr (refl, tt))
some_told (text ∷ texts) = told_by text texts (decimal_of text) refl (some_told texts)

-- ---- create clocks

breaks_clock : (texts : List (List ℕ)) → Breaks some_clock_at texts → Breaks clock_at texts
breaks_clock [] h = absurd h
breaks_clock (text ∷ texts) h = elim h [ inl none ↦ inl (map_none (λ n. Some n) (clock_at text) none) | inr rest ↦ inr (breaks_clock texts rest) ]

breaks_some : (texts : List (List ℕ)) → Breaks clock_at texts → Breaks some_clock_at texts
breaks_some [] h = absurd h
breaks_some (text ∷ texts) h = elim h [ inl none ↦ inl (ap (option_map (λ n. Some n)) none) | inr rest ↦ inr (breaks_some texts rest) ]

-- ---- the file of operations

none_found : (entries : List Entry) → AllByRecursion (λ e. is_ops e ≡ false) entries → find is_ops entries ≡ None
none_found [] all = refl
none_found (e ∷ es) all = ap (λ (b : Bool). cond b (Some e) (find is_ops es)) all.0 ∙ none_found es all.1

-- ---- all four

four_none : (v e : Option ℕ) (c : Option (Option ℕ)) (o : Option Name) → all_four v e c o ≡ None → (v ≡ None) ⊎ ((e ≡ None) ⊎ ((c ≡ None) ⊎ (o ≡ None)))
four_none None e c o h = inl refl
four_none (Some v) None c o h = inr (inl refl)
four_none (Some v) (Some e) None o h = inr (inr (inl refl))
four_none (Some v) (Some e) (Some c) None h = inr (inr (inr refl))
four_none (Some v) (Some e) (Some c) (Some o) h = absurd (cc)

without_version : (v e : Option ℕ) (c : Option (Option ℕ)) (o : Option Name) → v ≡ None → all_four v e c o ≡ None
without_version v e c o h = ap (λ x. all_four x e c o) h

without_edit : (v e : Option ℕ) (c : Option (Option ℕ)) (o : Option Name) → e ≡ None → all_four v e c o ≡ None
without_edit None e c o h = refl
without_edit (Some v) e c o h = ap (λ x. all_four (Some v) x c o) h

without_create : (v e : Option ℕ) (c : Option (Option ℕ)) (o : Option Name) → c ≡ None → all_four v e c o ≡ None
without_create None e c o h = refl
without_create (Some v) None c o h = refl
without_create (Some v) (Some e) c o h = ap (λ x. all_four (Some v) (Some e) x o) h

without_ops : (v e : Option ℕ) (c : Option (Option ℕ)) (o : Option Name) → o ≡ None → all_four v e c o ≡ None
without_ops None e c o h = refl
without_ops (Some v) None c o h = refl
without_ops (Some v) (Some e) None o h = refl
without_ops (Some v) (Some e) (Some c) o h = ap (λ x. all_four (Some v) (Some e) (Some c) x) h

no_only : (read : List ℕ → Option ℕ) (texts : List (List ℕ)) → IsRepeated texts ⊎ Lacks read texts → only_value read texts ≡ None
no_only read texts h = elim h [ inl r ↦ only-repeated read texts r | inr l ↦ only-lacks read texts l ]

no_create : (texts : List (List ℕ)) → IsRepeated texts ⊎ Breaks clock_at texts → value_or None some_clock_at texts ≡ None
no_create texts h = elim h [ inl r ↦ or-repeated None some_clock_at texts r | inr b ↦ or-breaks None some_clock_at texts (breaks_some texts b) ]

-- A tree with a fault says nothing of a pack.
pub head_fault_means_none : (t : Tree) (f : PackFault) → HeadFault t f → head_of t ≡ None
head_fault_means_none t Memory h = absurd h
head_fault_means_none t (UnknownVersion n) h = without_version _ _ _ _ (no_only version_at (versions t) h.0)
head_fault_means_none t NoOps h = without_ops (version_of t) (edit_clock_of t) (create_clock_of t) _ (ap (option_map (λ (e : Entry). e.object)) (none_found t.entries h))
head_fault_means_none t BadClock h = elim h [
  | inl edit ↦ without_edit (version_of t) _ _ _ (no_only clock_at (edit_clocks t) edit)
  | inr create ↦ without_create (version_of t) (edit_clock_of t) _ _ (no_create (create_clocks t) create)
]
head_fault_means_none t BadPack h = absurd h
head_fault_means_none t (BadOperation i f) h = absurd h
head_fault_means_none t (TooLarge n) h = absurd h

create_fault : (texts : List (List ℕ)) → value_or None some_clock_at texts ≡ None → IsRepeated texts ⊎ Breaks clock_at texts
create_fault texts h = elim (or-none None some_clock_at texts h) [ inl r ↦ inl r | inr b ↦ inr (breaks_clock texts b) ]

unknown : (t : Tree) → version_of t ≡ None → (f : PackFault) × HeadFault t f
unknown t none = let told = some_told (versions t) in (UnknownVersion told.0, (only-none version_at (versions t) none, told.1))

-- A tree that says nothing of a pack has a fault.
pub none_means_head_fault : (t : Tree) → head_of t ≡ None → (f : PackFault) × HeadFault t f
none_means_head_fault t h = elim (four_none (version_of t) (edit_clock_of t) (create_clock_of t) (ops_of t) h) [
  | inl one ↦ unknown t one
  | inr rest ↦ elim rest [
    | inl two ↦ (BadClock, inl (only-none clock_at (edit_clocks t) two))
    | inr last ↦ elim last [
      | inl three ↦ (BadClock, inr (create_fault (create_clocks t) three))
      | inr four ↦ (NoOps, find_none is_ops t.entries (map_none (λ (e : Entry). e.object) (find is_ops t.entries) four))
    ]
  ]
]

-- A tree that says something of a pack has no fault.
pub some_means_sound : (t : Tree) (head : TreeHead) → head_of t ≡ Some head → (f : PackFault) → HeadFault t f → ⊥
some_means_sound t head is f fault = let none : None ≡ Some head = sym (head_fault_means_none t f fault) ∙ is in absurd (cc (none))

-- ---- what a head says

-- The parts of what a tree says.
pub record HeadParts (t : Tree) (head : TreeHead) : Type 0 where
  pub version : version_of t ≡ Some head.version
  pub edit : edit_clock_of t ≡ Some head.edit
  pub create : create_clock_of t ≡ Some head.create
  pub ops : ops_of t ≡ Some head.ops

-- four values that are those of a head
record AreOf (v e : Option ℕ) (c : Option (Option ℕ)) (o : Option Name) (head : TreeHead) : Type 0 where
  version : v ≡ Some head.version
  edit : e ≡ Some head.edit
  create : c ≡ Some head.create
  ops : o ≡ Some head.ops

four_are : (v e : Option ℕ) (c : Option (Option ℕ)) (o : Option Name) (head : TreeHead) → all_four v e c o ≡ Some head → AreOf v e c o head
four_are None e c o head h = absurd (cc (h))
four_are (Some v) None c o head h = absurd (cc (h))
four_are (Some v) (Some e) None o head h = absurd (cc (h))
four_are (Some v) (Some e) (Some c) None head h = absurd (cc (h))
four_are (Some v) (Some e) (Some c) (Some o) head h =
    let same : record { version = v; edit = e; create = c; ops = o } ≡ head = cc (h) in
    subst (AreOf (Some v) (Some e) (Some c) (Some o)) same (record { version = refl; edit = refl; create = refl; ops = refl })

-- What a tree says comes of its four parts.
pub head_parts : (t : Tree) (head : TreeHead) → head_of t ≡ Some head → HeadParts t head
head_parts t head h =
    let all = four_are (version_of t) (edit_clock_of t) (create_clock_of t) (ops_of t) head h in
    record { version = all.version; edit = all.edit; create = all.create; ops = all.ops }

version_known : (o : Option ℕ) (n : ℕ) → known_version o ≡ Some n → n ≡ VERSION
version_known None n h = absurd (cc (h))
version_known (Some m) n h = let is = cond_some (m == VERSION) m n h in sym is.1 ∙ eqb-true m VERSION is.0

clock_ranges : (o : Option ℕ) (n : ℕ) → clock_in_range o ≡ Some n → IsClock n
clock_ranges None n h = absurd (cc (h))
clock_ranges (Some m) n h =
    let is = cond_some (nat_le 1 m && nat_le m GREATEST_TIME) m n h in
    let both = and_parts (nat_le 1 m) (nat_le m GREATEST_TIME) is.0 in
    subst IsClock is.1 (record { low = leb-true 1 m both.0; high = leb-true m GREATEST_TIME both.1 })

one_of : {A : Type 0} (P : A → Type 0) (read : List ℕ → Option A) → ((text : List ℕ) (a : A) → read text ≡ Some a → P a)
    → (texts : List (List ℕ)) (a : A) → only_value read texts ≡ Some a → P a
one_of P read each [] a h = absurd (cc (h))
one_of P read each (text ∷ []) a h = each text a h
one_of P read each (text ∷ other ∷ texts) a h = absurd (cc (h))

some_clock : (o : Option ℕ) (c : Option ℕ) → option_map (λ n. Some n) (clock_in_range o) ≡ Some c → ForSome c (λ n. IsClock n)
some_clock o c h =
    let found = map_some (λ n. Some n) (clock_in_range o) c h in
    λ n is. clock_ranges o n (found.1 ∙ (found.2 ∙ is))

create_ranges : (texts : List (List ℕ)) (c : Option ℕ) → value_or None some_clock_at texts ≡ Some c → ForSome c (λ n. IsClock n)
create_ranges [] c h = λ n is. let none : None ≡ Some n = some_is None c h ∙ is in absurd (cc (none))
create_ranges (text ∷ texts) c h = one_of (λ c. ForSome c (λ n. IsClock n)) some_clock_at (λ text c. some_clock (decimal_of text) c) (text ∷ texts) c h

-- What a tree says is in range.
pub head_in_range : (t : Tree) (head : TreeHead) → head_of t ≡ Some head → IsHeadInRange head
head_in_range t head h =
    let parts = head_parts t head h in
    record {
      version = one_of (λ n. n ≡ VERSION) version_at (λ text. version_known (decimal_of text)) (versions t) head.version parts.version;
      edit = one_of IsClock clock_at (λ text. clock_ranges (decimal_of text)) (edit_clocks t) head.edit parts.edit;
      create = create_ranges (create_clocks t) head.create parts.create;
    }
