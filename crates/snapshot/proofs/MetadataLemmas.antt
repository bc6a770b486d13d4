-- Metadata of which the first of each key counts, where one operation more comes.
use Rattle.std.proofs.Common.{◌≡◌, ◌≢◌, ◌∙◌, ◌||◌, ◌++◌, refl, sym, ap, subst, cond, Bool, true, false, List, [], ◌∷◌, ℕ, Option, None, Some, map, append_assoc, append-nil}
use Rattle.std.specs.Prelude.{is_some, flat_map, if◌then◌else◌}
use Rattle.std.specs.Option.{option_or, unwrap_or}
use Rattle.std.specs.BTreeMap.{insert_entry, is_at}
use Rattle.std.specs.Map.{lookup}
use Rattle.std.specs.List.{AllByRecursion}
use Rattle.std.specs.List.Sorted.{IsStrictlySortedBy}
use Rattle.std.specs.Cmp.Lexicographic.{nat_list_cmp_total}
use Rattle.std.specs.Ordering.{is_eq, match_ordering}
use Rattle.std.specs.Str.{bytes_eq}
use Rattle.std.specs.declared.cmp.Ordering.{Ordering}
use Rattle.std.specs.declared.cmp.Ordering.TheVariants.{Less, Equal, Greater}
use Rattle.std.proofs.lemmas.Cmp.{tied_itself}
use Rattle.std.proofs.lemmas.Grind.{flat_map-append}
use Rattle.std.proofs.lemmas.Map.{NonePasses, none_passes_from_lookup}
use Rattle.std.proofs.lemmas.Map.Text.{is_eq-slice_cmp}
use Rattle.std.proofs.lemmas.Slice.Eq.{bytes_eq-Decides}
use Rattle.gb_text.specs.declared.id.Id.{Id}
use Rattle.op_kind.specs.Metadata.{Entries, pair_of}
use Rattle.op_kind.specs.Pairs.{AreInKeyOrder}
use Rattle.op_kind.specs.declared.place.Common.{Common}
use Rattle.op_kind.specs.declared.place.Pair.{Pair}
use Rattle.bug_ops.specs.BugTable.{common_of_op}
use Rattle.bug_ops.specs.Mentions.{is_among}
use Rattle.bug_ops.specs.Snapshots.{by_bytes, same_id, with_pair, with_pairs, joined_pairs, metadata_after}
use Rattle.bug_ops.specs.declared.op.BugOp.{BugOp}
use Rattle.bug_ops.specs.declared.op.BugOp.TheVariants.{Create, SetTitle, AddComment, SetStatus, LabelChange, EditComment, NoOp, SetMetadata}
use Rattle.bug_ops.proofs.KeyOrder.{greater_back}
use Rattle.bug_ops.proofs.LabelLaws.{eq_turned}
use Rattle.bug_ops.proofs.OrderLaws.{joined_ascend}
use Rattle.bug_ops.proofs.PairMaps.{entries_are}
use Rattle.snapshot.specs.LastMention.{in_order, entries_of, first_value, first_of_each, pairs_in, metadata_of, snapshot_of, IsBugList, IsLater}
use Rattle.snapshot.proofs.FoundLemmas.{or_none, or_or, same_text, same_texts}
use Rattle.snapshot.proofs.LabelLemmas.{order_ascends, order_has}

-- ---- what stands under a key

-- what stands under a key
abbrev at_key : List ℕ → Entries → Option (List ℕ)
at_key q es = lookup (is_at (by_bytes q)) es

-- the keys of entries
abbrev keys : Entries → List (List ℕ)
keys es = map (λ e. e.0) es

same_key : (q k : List ℕ) → is_at (by_bytes q) k ≡ true → q ≡ k
same_key q k h = same_text q k (sym (is_eq-slice_cmp q k) ∙ h)

none_first : {V : Type 0} (b : Bool) (v : V) (rest : Option V) → cond b (Some v) rest ≡ option_or (cond b (Some v) None) rest
none_first true v rest = refl
none_first false v rest = refl

swap_first : {V : Type 0} (b c : Bool) (v w : V) (rest : Option V) → (c ≡ true → b ≡ false) → cond b (Some w) (cond c (Some v) rest) ≡ cond c (Some v) (cond b (Some w) rest)
swap_first b true v w rest apart = ap (λ (t : Bool). cond t (Some w) (Some v)) (apart refl)
swap_first b false v w rest apart = refl

-- what stands under a key once an entry with a new key is put
put_new : (es : Entries) (k v q : List ℕ) → NonePasses (is_at (by_bytes k)) es → at_key q (insert_entry by_bytes es k v) ≡ cond (is_at (by_bytes q) k) (Some v) (at_key q es)
put_new [] k v q none = refl
put_new (e ∷ es) k v q none = by (by_bytes k e.0) none.0 (put_new es k v q none.1)
  where
    apart : is_at (by_bytes q) k ≡ true → is_at (by_bytes q) e.0 ≡ false
    apart h = ap (λ t. is_at (by_bytes t) e.0) (same_key q k h) ∙ none.0

    by : (r : Ordering) → is_eq r ≡ false → at_key q (insert_entry by_bytes es k v) ≡ cond (is_at (by_bytes q) k) (Some v) (at_key q es)
        → at_key q (match_ordering r ((k, v) ∷ e ∷ es) ((e.0, v) ∷ es) (e ∷ insert_entry by_bytes es k v)) ≡ cond (is_at (by_bytes q) k) (Some v) (at_key q (e ∷ es))
    by Less not_same rest = refl
    by Equal not_same rest = absurd (cc (not_same))
    by Greater not_same rest = ap (cond (is_at (by_bytes q) e.0) (Some e.1)) rest ∙ swap_first (is_at (by_bytes q) e.0) (is_at (by_bytes q) k) v e.1 (at_key q es) apart

or_over : (o : Option (List ℕ)) (b : Bool) (v : List ℕ) → (b ≡ true → is_some o ≡ true) → o ≡ option_or o (cond b (Some v) None)
or_over (Some x) b v h = refl
or_over None false v h = refl
or_over None true v h = let e = h refl in absurd (cc (e))

under_new : (o : Option (List ℕ)) (b : Bool) (v : List ℕ) → (b ≡ true → o ≡ None) → cond b (Some v) o ≡ option_or o (cond b (Some v) None)
under_new None true v h = refl
under_new None false v h = refl
under_new (Some x) false v h = refl
under_new (Some x) true v h = let e = h refl in absurd (cc (e))

-- what stands under a key with a further pair: what stood there, or else what the pair has
with_one : (es : Entries) (p : Pair) (q : List ℕ) → at_key q (with_pair es p) ≡ option_or (at_key q es) (cond (is_at (by_bytes q) p.key) (Some p.value) None)
with_one es p q = by (at_key p.key es) refl
  where
    moved : is_at (by_bytes q) p.key ≡ true → at_key q es ≡ at_key p.key es
    moved h = ap (λ t. at_key t es) (same_key q p.key h)

    by : (o : Option (List ℕ)) → at_key p.key es ≡ o → at_key q (if is_some o then es else insert_entry by_bytes es p.key p.value) ≡ option_or (at_key q es) (cond (is_at (by_bytes q) p.key) (Some p.value) None)
    by (Some v) is = or_over (at_key q es) (is_at (by_bytes q) p.key) p.value (λ h. ap is_some (moved h ∙ is))
    by None is = put_new es p.key p.value q (none_passes_from_lookup (is_at (by_bytes p.key)) es is) ∙ under_new (at_key q es) (is_at (by_bytes q) p.key) p.value (λ h. moved h ∙ is)

-- what stands under a key with further pairs
with_all : (es : Entries) (ps : List Pair) (q : List ℕ) → at_key q (with_pairs es ps) ≡ option_or (at_key q es) (first_value ps q)
with_all es [] q = or_none (at_key q es)
with_all es (p ∷ ps) q =
    with_all (with_pair es p) ps q
    ∙ ap (λ o. option_or o (first_value ps q)) (with_one es p q)
    ∙ or_or (at_key q es) (cond (is_at (by_bytes q) p.key) (Some p.value) None) (first_value ps q)
    ∙ ap (option_or (at_key q es)) (sym (none_first (is_at (by_bytes q) p.key) p.value (first_value ps q)))

-- ---- the keys

-- a key is found where it is among the keys
found_key : (es : Entries) (q : List ℕ) → is_some (at_key q es) ≡ is_among (keys es) q
found_key [] q = refl
found_key (e ∷ es) q =
    by (is_at (by_bytes q) e.0) (at_key q es)
    ∙ ap (λ b. b || is_some (at_key q es)) (is_eq-slice_cmp q e.0 ∙ eq_turned q e.0)
    ∙ ap (λ b. bytes_eq e.0 q || b) (found_key es q)
  where
    by : (b : Bool) (o : Option (List ℕ)) → is_some (cond b (Some e.1) o) ≡ (b || is_some o)
    by true o = refl
    by false o = refl

keys_of_pairs : (ps : List Pair) → keys (entries_of ps) ≡ map (λ p. p.key) ps
keys_of_pairs [] = refl
keys_of_pairs (p ∷ ps) = ap (λ ks. p.key ∷ ks) (keys_of_pairs ps)

above : (k : List ℕ) (v : List ℕ) (es : Entries) → AllByRecursion (λ p. by_bytes k p.key ≡ Less) (map pair_of es) → AllByRecursion (λ x. by_bytes k x ≡ Less) (keys es)
above k v [] all = tt
above k v (e ∷ es) all = (all.0, above k v es all.1)

keys_ascend : (es : Entries) → AreInKeyOrder (map pair_of es) → IsStrictlySortedBy by_bytes (keys es)
unfolding IsStrictlySortedBy
keys_ascend [] s = tt
keys_ascend (e ∷ es) s = (above e.0 e.1 es s.0, keys_ascend es s.1)

-- the entries of pairs
abbrev joined : List Pair → Entries
joined ps = with_pairs [] ps

joined_in_order : (ps : List Pair) → AreInKeyOrder (map pair_of (joined ps))
joined_in_order ps = joined_ascend [] ps

joined_keys : (ps : List Pair) → keys (joined ps) ≡ in_order (map (λ p. p.key) ps)
joined_keys ps = same_texts (keys (joined ps)) (in_order (map (λ p. p.key) ps)) (keys_ascend (joined ps) (joined_in_order ps)) (order_ascends (map (λ p. p.key) ps))
    (λ q. sym (found_key (joined ps) q) ∙ ap is_some (with_all [] ps q) ∙ found_key (entries_of ps) q ∙ ap (λ ks. is_among ks q) (keys_of_pairs ps) ∙ sym (order_has (map (λ p. p.key) ps) q))

-- ---- the pairs of keys

-- a pair of a key and what is found under it
abbrev pair_at : (List ℕ → Option (List ℕ)) → List ℕ → Pair
pair_at f k = record { key = k; value = unwrap_or (f k) [] }

found_pairs : (f : List ℕ → Option (List ℕ)) (es : Entries) → AllByRecursion (λ e. f e.0 ≡ Some e.1) es → map (pair_at f) (keys es) ≡ map pair_of es
found_pairs f [] all = refl
found_pairs f (e ∷ es) all = ap (λ (v : Option (List ℕ)). record { key = e.0; value = unwrap_or v [] } ∷ map (pair_at f) (keys es)) all.0 ∙ ap (λ ps. pair_of e ∷ ps) (found_pairs f es all.1)

found_later : (k v : List ℕ) (f : List ℕ → Option (List ℕ)) (es : Entries) → AllByRecursion (λ x. by_bytes k x ≡ Less) (keys es) → AllByRecursion (λ e. f e.0 ≡ Some e.1) es
    → AllByRecursion (λ e. cond (is_at (by_bytes e.0) k) (Some v) (f e.0) ≡ Some e.1) es
found_later k v f [] all is = tt
found_later k v f (e ∷ es) all is = (ap (λ r. cond (is_eq r) (Some v) (f e.0)) (greater_back k e.0 all.0) ∙ is.0, found_later k v f es all.1 is.1)

-- each entry is found under its key, where the keys ascend
all_found : (es : Entries) → IsStrictlySortedBy by_bytes (keys es) → AllByRecursion (λ e. at_key e.0 es ≡ Some e.1) es
unfolding IsStrictlySortedBy
all_found [] s = tt
all_found (e ∷ es) s = (ap (λ r. cond (is_eq r) (Some e.1) (at_key e.0 es)) (tied_itself nat_list_cmp_total e.0), found_later e.0 e.1 (λ q. at_key q es) es s.0 (all_found es s.1))

same_found : (f g : List ℕ → Option (List ℕ)) → ((q : List ℕ) → f q ≡ g q) → (ks : List (List ℕ)) → map (pair_at f) ks ≡ map (pair_at g) ks
same_found f g h [] = refl
same_found f g h (k ∷ ks) = ap (λ (v : Option (List ℕ)). record { key = k; value = unwrap_or v [] } ∷ map (pair_at f) ks) (h k) ∙ ap (λ ps. pair_at g k ∷ ps) (same_found f g h ks)

-- The first pair of each key is what putting the pairs into a map, one after the other, keeps.
pub first_is_joined : (ps : List Pair) → first_of_each ps ≡ map pair_of (joined ps)
first_is_joined ps =
    ap (map (pair_at (first_value ps))) (sym (joined_keys ps))
    ∙ same_found (first_value ps) (λ q. at_key q (joined ps)) (λ q. sym (with_all [] ps q)) (keys (joined ps))
    ∙ found_pairs (λ q. at_key q (joined ps)) (joined ps) (all_found (joined ps) (keys_ascend (joined ps) (joined_in_order ps)))

-- ---- further pairs

pairs_append : (es : Entries) (ps qs : List Pair) → with_pairs es (ps ++ qs) ≡ with_pairs (with_pairs es ps) qs
pairs_append es [] qs = refl
pairs_append es (p ∷ ps) qs = pairs_append (with_pair es p) ps qs

joined_more : (ps qs : List Pair) → joined_pairs (first_of_each ps) qs ≡ first_of_each (ps ++ qs)
joined_more ps qs =
    ap (λ us. map pair_of (with_pairs (with_pairs [] us) qs)) (first_is_joined ps)
    ∙ ap (λ es. map pair_of (with_pairs es qs)) (sym (entries_are (joined ps) (joined_in_order ps)))
    ∙ ap (map pair_of) (sym (pairs_append [] ps qs))
    ∙ sym (first_is_joined (ps ++ qs))

pairs_back : (ps : List Pair) → map pair_of (entries_of ps) ≡ ps
pairs_back [] = refl
pairs_back (p ∷ ps) = ap (λ qs. p ∷ qs) (pairs_back ps)

-- Pairs in byte order of their keys are the first of each key.
pub ordered_are_first : (ps : List Pair) → AreInKeyOrder ps → first_of_each ps ≡ ps
ordered_are_first ps s =
    first_is_joined ps
    ∙ ap (λ us. map pair_of (joined us)) (sym (pairs_back ps))
    ∙ ap (map pair_of) (sym (entries_are (entries_of ps) (subst AreInKeyOrder (sym (pairs_back ps)) s)))
    ∙ pairs_back ps

-- The first pairs of each key are in byte order of their keys.
pub first_ascend : (ps : List Pair) → AreInKeyOrder (first_of_each ps)
first_ascend ps = subst AreInKeyOrder (sym (first_is_joined ps)) (joined_in_order ps)

entries_back : (es : Entries) → entries_of (map pair_of es) ≡ es
entries_back [] = refl
entries_back (e ∷ es) = ap (λ fs. e ∷ fs) (entries_back es)

-- The first pairs of each key have under each key its first value.
pub first_found : (ps : List Pair) (q : List ℕ) → first_value (first_of_each ps) q ≡ first_value ps q
first_found ps q = ap (λ us. first_value us q) (first_is_joined ps) ∙ ap (at_key q) (entries_back (joined ps)) ∙ with_all [] ps q

-- Pairs with further ones have under each key what was set there, and else what is set.
pub joined_have : (old pairs : List Pair) (q : List ℕ) → first_value (joined_pairs old pairs) q ≡ option_or (first_value old q) (first_value pairs q)
joined_have old pairs q =
    ap (at_key q) (entries_back (with_pairs (joined old) pairs))
    ∙ with_all (joined old) pairs q
    ∙ ap (λ o. option_or o (first_value pairs q)) (with_all [] old q)

-- ---- one operation further

set_by : (old pairs : List Pair) (b : Bool) → (if b then joined_pairs (first_of_each old) pairs else first_of_each old) ≡ first_of_each (old ++ ((if b then pairs else []) ++ []))
set_by old pairs true = joined_more old pairs ∙ ap (λ ps. first_of_each (old ++ ps)) (sym (append-nil pairs))
set_by old pairs false = ap first_of_each (sym (append-nil old))

none_set : (old : List Pair) → first_of_each old ≡ first_of_each (old ++ [])
none_set old = ap first_of_each (sym (append-nil old))

metadata_by : (id : _) (old : List Pair) (o : BugOp) → IsLater o → metadata_after id (first_of_each old) o ≡ first_of_each (old ++ flat_map (pairs_in id) (o ∷ []))
metadata_by id old (Create c title message files) later = absurd (cc (later))
metadata_by id old (SetMetadata c target pairs) later = set_by old pairs (same_id target id)
metadata_by id old (SetTitle c title was) later = none_set old
metadata_by id old (AddComment c message files) later = none_set old
metadata_by id old (SetStatus c status) later = none_set old
metadata_by id old (LabelChange c added removed) later = none_set old
metadata_by id old (EditComment c target message files) later = none_set old
metadata_by id old (NoOp c) later = none_set old

-- The metadata one operation further.
pub metadata_more : (first : Common) (ops : List BugOp) (o : BugOp) → IsLater o → metadata_after first.place.id (metadata_of first ops) o ≡ metadata_of first (ops ++ o ∷ [])
metadata_more first ops o later =
    let set = flat_map (pairs_in first.place.id) in
    metadata_by first.place.id (first.metadata ++ set ops) o later
    ∙ ap first_of_each (append_assoc first.metadata (set ops) (set (o ∷ [])))
    ∙ ap (λ ps. first_of_each (first.metadata ++ ps)) (sym (flat_map-append (pairs_in first.place.id) ops (o ∷ [])))

-- ---- what one operation more sets

values_behind : (ps qs : List Pair) (key : List ℕ) → first_value (ps ++ qs) key ≡ option_or (first_value ps key) (first_value qs key)
values_behind [] qs key = refl
values_behind (p ∷ ps) qs key = by (is_at (by_bytes key) p.key) (values_behind ps qs key)
  where
    by : (b : Bool) → first_value (ps ++ qs) key ≡ option_or (first_value ps key) (first_value qs key)
        → cond b (Some p.value) (first_value (ps ++ qs) key) ≡ option_or (cond b (Some p.value) (first_value ps key)) (first_value qs key)
    by true rest = refl
    by false rest = rest

-- An id is told to be itself.
pub own_id : (id : Id) → same_id id id ≡ true
own_id id = (bytes_eq-Decides id.bytes id.bytes).1 refl

-- under each key what an operation more sets there, behind what was set
pub set_behind : (first : Common) (later : List BugOp) (o : BugOp) (key : List ℕ)
    → first_value (metadata_of first (later ++ o ∷ [])) key ≡ option_or (first_value (metadata_of first later) key) (first_value (pairs_in first.place.id o) key)
set_behind first later o key =
    let set = λ (ops : List BugOp). flat_map (pairs_in first.place.id) ops in
    first_found (first.metadata ++ set (later ++ o ∷ [])) key
    ∙ ap (λ (ps : List Pair). first_value (first.metadata ++ ps) key) (flat_map-append (pairs_in first.place.id) later (o ∷ []) ∙ ap (λ (ps : List Pair). set later ++ ps) (append-nil (pairs_in first.place.id o)))
    ∙ ap (λ (ps : List Pair). first_value ps key) (sym (append_assoc first.metadata (set later) (pairs_in first.place.id o)))
    ∙ values_behind (first.metadata ++ set later) (pairs_in first.place.id o) key
    ∙ ap (λ (found : Option (List ℕ)). option_or found (first_value (pairs_in first.place.id o) key)) (sym (first_found (first.metadata ++ set later) key))

-- an operation that sets pairs of the bug sets each under a key with nothing
pub pairs_set : (ops : List BugOp) (common : Common) (pairs : List Pair) (key : List ℕ) → IsBugList ops
    → first_value (snapshot_of (ops ++ SetMetadata common (snapshot_of ops).row.id pairs ∷ [])).row.metadata key
    ≡ option_or (first_value (snapshot_of ops).row.metadata key) (first_value pairs key)
pairs_set [] common pairs key bug = absurd bug
pairs_set (o ∷ later) common pairs key bug =
    let first = common_of_op o in
    set_behind first later (SetMetadata common first.place.id pairs) key
    ∙ ap (λ (b : Bool). option_or (first_value (metadata_of first later) key) (first_value (if b then pairs else []) key)) (own_id first.place.id)

-- Ids that differ are told apart.
pub other_id : (one other : Id) → one ≢ other → same_id one other ≡ false
other_id one other differ = decide (same_id one other) refl
  where
    of_bytes : List ℕ → Id
    of_bytes bytes = record { bytes = bytes }

    decide : (b : Bool) → same_id one other ≡ b → same_id one other ≡ false
    decide true is = absurd (differ (ap of_bytes ((bytes_eq-Decides one.bytes other.bytes).0 is)))
    decide false is = is

none_left : (old : List Pair) (b : Bool) (pairs : List Pair) → b ≡ false → first_of_each (old ++ ((if b then pairs else []) ++ [])) ≡ first_of_each old
none_left old true pairs is = absurd (cc is)
none_left old false pairs is = ap first_of_each (append-nil old)

-- one that sets pairs of another target sets nothing
pub none_of_another : (ops : List BugOp) (common : Common) (target : Id) (pairs : List Pair) → IsBugList ops → target ≢ (snapshot_of ops).row.id
    → (snapshot_of (ops ++ SetMetadata common target pairs ∷ [])).row.metadata ≡ (snapshot_of ops).row.metadata
none_of_another [] common target pairs bug differ = absurd bug
none_of_another (o ∷ later) common target pairs bug differ =
    let first = common_of_op o in
    let set = flat_map (pairs_in first.place.id) in
    ap (λ (ps : List Pair). first_of_each (first.metadata ++ ps)) (flat_map-append (pairs_in first.place.id) later (SetMetadata common target pairs ∷ []))
    ∙ ap first_of_each (sym (append_assoc first.metadata (set later) (set (SetMetadata common target pairs ∷ []))))
    ∙ none_left (first.metadata ++ set later) (same_id target first.place.id) pairs (other_id target first.place.id differ)

-- and a bug of one operation has the metadata of that
pub first_has : (o : BugOp) → IsBugList (o ∷ []) → (snapshot_of (o ∷ [])).row.metadata ≡ (common_of_op o).metadata
first_has o bug = ap first_of_each (append-nil (common_of_op o).metadata) ∙ ordered_are_first (common_of_op o).metadata bug.metadata
