-- A kind by a table of its types keeps the laws of a kind.
use Rattle.std.proofs.Common.{◌≡◌, ◌⊎◌, ◌∙◌, ◌&&◌, inl, inr, refl, sym, ap, subst, not, ℕ, Bool, true, false, List, [], ◌∷◌, ◌++◌, Option, Some, None, codes, decimal, arith}
use Rattle.std.specs.Prelude.{⊤, option_and_then, if◌then◌else◌}
use Rattle.std.specs.List.{list_all}
use Rattle.std.specs.Option.{option_map}
use Rattle.std.specs.Str.{bytes_eq}
use Rattle.std.proofs.lemmas.Bool.{and_parts, not-true}
use Rattle.std.proofs.lemmas.Slice.Eq.{bytes_eq-Decides}
use Rattle.json.proofs.Printed.Utf8.{IsUtf8-are_ascii}
use Rattle.json_span.proofs.BasicLaws.{map_some, map_none}
use Rattle.gb_text.specs.Decimal.{decimal_of}
use Rattle.op_kind.specs.Bounds.{IsWithinBounds}
use Rattle.op_kind.specs.Common.{kind_of, time_of, nonce_of, metadata_of, time_at, nonce_in, metadata_at, all_four, parts_of, Parts, at_place, common_of, common_at}
use Rattle.op_kind.specs.CommonLaws.{fault_is_none, none_has_fault, common_place}
use Rattle.op_kind.specs.FormLaws.{AreForms, no_values_are_fault, fault_is_no_values, memory_is_no_fault, values_can_be, values_read_back}
use Rattle.op_kind.specs.Meaning.{Meaning, KeepsLaws, version_of}
use Rattle.op_kind.specs.MemberForms.{member}
use Rattle.op_kind.specs.Members.{Fields, fields_at, values_of, only_value, value_or}
use Rattle.op_kind.specs.NameOrder.{with_written, put_all, NamesAscend, is_apart, are_apart, common_names, metadata_members, nonce_member, time_member, type_member, common_members}
use Rattle.op_kind.specs.NameOrderLaws.{NameIsNew, values_put, values_put_all, new_is_absent, new_put, AllNew, names_put_all, each_put_all}
use Rattle.op_kind.specs.OpText.{member_brackets}
use Rattle.op_kind.specs.Pairs.{AreInKeyOrder, EachPairUtf8, pairs_text}
use Rattle.op_kind.specs.Shapes.{Shape, Values, values_in, CanBeAll, StandAll, own_members, names_of}
use Rattle.op_kind.specs.Shapes.Shape.{nothing, and}
use Rattle.op_kind.specs.Tables.{Table, op_of_type, op_with, op_of, op_at, TypeFault, KindFault, MembersFault, FaultOf, members_with, members_of_op, op_text, KeepsParts, KeepsOp, placed, HasType, kind_by}
use Rattle.op_kind.specs.Written.{nonce_text, fields_text, IsWritable, EachWritable}
use Rattle.op_kind.specs.WritingLaws.{decimal_reads, time_reads, nonce_reads, decimal_writable, nonce_writable, fields_read, text_of_operation}
use Rattle.op_kind.proofs.PairTexts.{metadata_reads, pairs_writable}
use Rattle.op_kind.proofs.ReadLaws.{common_is_within}
use Rattle.op_kind.specs.declared.fault.OpFault.{OpFault}
use Rattle.op_kind.specs.declared.fault.OpFault.TheVariants.{Memory, UnknownType}
use Rattle.op_kind.specs.declared.place.Place.{Place}
use Rattle.op_kind.specs.declared.place.Common.{Common}
use Rattle.op_kind.specs.declared.place.Pair.{Pair}

-- ---- the members that every operation has

four_kind : (a b : Option ℕ) (c : Option (List ℕ)) (d : Option (List Pair)) (x : Parts) → all_four a b c d ≡ Some x → a ≡ Some x.kind
four_kind None b c d x h = absurd (cc (h))
four_kind (Some k) None c d x h = absurd (cc (h))
four_kind (Some k) (Some t) None d x h = absurd (cc (h))
four_kind (Some k) (Some t) (Some n) None x h = absurd (cc (h))
four_kind (Some k) (Some t) (Some n) (Some m) x h =
    let e : record { kind = k; time = t; nonce = n; metadata = m } ≡ x = cc (h) in
    ap (λ (x : Parts). Some x.kind) e

-- The number of a common part is that of the member.
pub common_kind : (p : Place) (fs : Fields) (c : Common) → common_of p fs ≡ Some c → kind_of fs ≡ Some c.kind
unfolding parts_of
common_kind p fs c h =
    let m = map_some (at_place p) (parts_of fs) c h in
    four_kind _ _ _ _ m.0 m.1 ∙ ap (λ (c : Common). Some c.kind) m.2

-- what stands under the name of the metadata
abbrev pub metadata_values : List Pair → List (List ℕ)
metadata_values [] = []
metadata_values (p ∷ ps) = pairs_text (p ∷ ps) ∷ []

-- The members that every operation has stand once, as they are written.
pub record StandCommon (c : Common) (m : List Pair) (fs : Fields) : Type 0 where
  pub kind : values_of (codes "type") fs ≡ decimal c.kind ∷ []
  pub time : values_of (codes "timestamp") fs ≡ decimal c.time ∷ []
  pub nonce : values_of (codes "nonce") fs ≡ nonce_text c.nonce ∷ []
  pub metadata : values_of (codes "metadata") fs ≡ metadata_values m

common_stands : (c : Common) (m : List Pair) → StandCommon c m (metadata_members m ++ nonce_member c ∷ time_member c ∷ type_member c ∷ [])
common_stands c [] = record { kind = refl; time = refl; nonce = refl; metadata = refl }
common_stands c (p ∷ ps) = record { kind = refl; time = refl; nonce = refl; metadata = refl }

common_ascends : (c : Common) (m : List Pair) → NamesAscend (metadata_members m ++ nonce_member c ∷ time_member c ∷ type_member c ∷ [])
common_ascends c [] = ((refl, (refl, tt)), ((refl, tt), (tt, tt)))
common_ascends c (p ∷ ps) = ((refl, (refl, (refl, tt))), ((refl, (refl, tt)), ((refl, tt), (tt, tt))))

metadata_back : (m : List Pair) (c : Common) → IsWithinBounds c → c.metadata ≡ m → value_or [] metadata_at (metadata_values m) ≡ Some m
metadata_back [] c within h = refl
metadata_back (p ∷ ps) c within h = metadata_reads (p ∷ ps) (subst AreInKeyOrder h within.order) (subst EachPairUtf8 h within.texts)

pub four_back : (a b : Option ℕ) (c : Option (List ℕ)) (d : Option (List Pair)) (x : Parts) → a ≡ Some x.kind → b ≡ Some x.time → c ≡ Some x.nonce → d ≡ Some x.metadata → all_four a b c d ≡ Some x
four_back a b c d x ha hb hc hd =
    ap (λ o. all_four o b c d) ha ∙ ap (λ o. all_four (Some x.kind) o c d) hb
    ∙ ap (λ o. all_four (Some x.kind) (Some x.time) o d) hc ∙ ap (all_four (Some x.kind) (Some x.time) (Some x.nonce)) hd

-- A common part within its bounds, whose members stand as they are written, is read.
common_reads : (p : Place) (c : Common) (fs : Fields) → IsWithinBounds c → StandCommon c c.metadata fs → common_of p fs ≡ Some (record c { place = p })
unfolding parts_of kind_of time_of nonce_of metadata_of
common_reads p c fs within stand =
    ap (option_map (at_place p)) (four_back _ _ _ _ (record { kind = c.kind; time = c.time; nonce = c.nonce; metadata = c.metadata })
    (ap (only_value decimal_of) stand.kind ∙ decimal_reads c.kind within.kind)
    (ap (only_value time_at) stand.time ∙ time_reads c.time within.time)
    (ap (only_value nonce_in) stand.nonce ∙ nonce_reads c.nonce within.nonce)
    (ap (value_or [] metadata_at) stand.metadata ∙ metadata_back c.metadata c within refl))

behind_metadata : (m : List Pair) (fs : Fields) → EachPairUtf8 m → EachWritable member_brackets fs → EachWritable member_brackets (metadata_members m ++ fs)
behind_metadata [] fs utf8 each = each
behind_metadata (p ∷ ps) fs utf8 each = (pairs_writable member_brackets (codes "metadata") (p ∷ ps) (omega arith) (IsUtf8-are_ascii (codes "metadata") refl) utf8, each)

common_writable : (c : Common) → IsWithinBounds c → EachWritable member_brackets (common_members c)
common_writable c within = behind_metadata c.metadata _ within.texts (
  nonce_writable member_brackets (codes "nonce") c.nonce (IsUtf8-are_ascii (codes "nonce") refl),
  (
    decimal_writable member_brackets (codes "timestamp") c.time (IsUtf8-are_ascii (codes "timestamp") refl) (let h = within.time in omega arith),
    (decimal_writable member_brackets (codes "type") c.kind (IsUtf8-are_ascii (codes "type") refl) within.kind, tt),
  ),
)

-- ---- names

-- two names differ, by both tests
record AreOther (a b : List ℕ) : Type 0 where
  front : bytes_eq b a ≡ false
  back : bytes_eq a b ≡ false

others_are : (a b : List ℕ) → (not (bytes_eq b a) && not (bytes_eq a b)) ≡ true → AreOther a b
others_are a b h = let both = and_parts (not (bytes_eq b a)) (not (bytes_eq a b)) h in record { front = not-true (bytes_eq b a) both.0; back = not-true (bytes_eq a b) both.1 }

-- the name differs from each name that every operation has
record IsOwn (name : List ℕ) : Type 0 where
  metadata : AreOther name (codes "metadata")
  nonce : AreOther name (codes "nonce")
  time : AreOther name (codes "timestamp")
  kind : AreOther name (codes "type")

own_name : (name : List ℕ) → is_apart name common_names ≡ true → IsOwn name
own_name name h =
    let one = and_parts _ _ h in
    let two = and_parts _ _ one.1 in
    let three = and_parts _ _ two.1 in
    let four = and_parts _ _ three.1 in
    record { metadata = others_are name _ one.0; nonce = others_are name _ two.0; time = others_are name _ three.0; kind = others_are name _ four.0 }

common_new : (name : List ℕ) (c : Common) (m : List Pair) → IsOwn name → NameIsNew name (metadata_members m ++ nonce_member c ∷ time_member c ∷ type_member c ∷ [])
common_new name c [] own = (own.nonce.front, (own.time.front, (own.kind.front, tt)))
common_new name c (p ∷ ps) own = (own.metadata.front, (own.nonce.front, (own.time.front, (own.kind.front, tt))))

-- each of the names is another than those that every operation has
abbrev pub are_own : List (List ℕ) → Bool
are_own names = list_all (λ name. is_apart name common_names) names

own_new : (name : List ℕ) (shape : Shape) (xs : Values shape) → ((own : List ℕ) → IsOwn own → bytes_eq own name ≡ false) → are_own (names_of shape) ≡ true → NameIsNew name (own_members shape xs)
own_new name nothing xs pick h = tt
own_new name (and A form shape) xs pick h =
    let both = and_parts (is_apart form.name common_names) (are_own (names_of shape)) h in
    (pick form.name (own_name form.name both.0), own_new name shape xs.1 pick both.1)

-- each name of a shape is new among members
abbrev AreNew : Shape → Fields → Type 0
AreNew nothing fs = ⊤
AreNew (and A form shape) fs = NameIsNew form.name fs × AreNew shape fs

common_are_new : (shape : Shape) (c : Common) → are_own (names_of shape) ≡ true → AreNew shape (common_members c)
common_are_new nothing c h = tt
common_are_new (and A form shape) c h =
    let both = and_parts (is_apart form.name common_names) (are_own (names_of shape)) h in
    (common_new form.name c c.metadata (own_name form.name both.0), common_are_new shape c both.1)

-- the names behind one are others than it
later_new : (name : List ℕ) (shape : Shape) (xs : Values shape) → is_apart name (names_of shape) ≡ true → NameIsNew name (own_members shape xs)
later_new name nothing xs h = tt
later_new name (and A form shape) xs h =
    let both = and_parts _ (is_apart name (names_of shape)) h in
    ((others_are name form.name both.0).front, later_new name shape xs.1 both.1)

still_new : (f : List ℕ × List ℕ) (fs : Fields) (shape : Shape) → is_apart f.0 (names_of shape) ≡ true → AreNew shape fs → AreNew shape (with_written f fs)
still_new f fs nothing h new = tt
still_new f fs (and A form shape) h new =
    let both = and_parts _ (is_apart f.0 (names_of shape)) h in
    (new_put form.name f fs (others_are f.0 form.name both.0).back new.0, still_new f fs shape both.1 new.1)

-- ---- what is put stands once, and in order

own_stand : (shape : Shape) (xs : Values shape) (fs : Fields) → are_apart (names_of shape) ≡ true → AreNew shape fs → StandAll shape xs (put_all fs (own_members shape xs))
own_stand nothing xs fs h new = tt
own_stand (and A form shape) xs fs h new =
    let both = and_parts (is_apart form.name (names_of shape)) (are_apart (names_of shape)) h in
    let f = member form xs.0 in (
      values_put_all form.name (with_written f fs) (own_members shape xs.1) (later_new form.name shape xs.1 both.0)
          ∙ values_put form.name f fs
          ∙ ap (λ b. if b then form.printed xs.0 ∷ values_of form.name fs else values_of form.name fs) ((bytes_eq-Decides form.name form.name).1 refl)
          ∙ ap (λ vs. form.printed xs.0 ∷ vs) (new_is_absent form.name fs new.0),
      own_stand shape xs.1 (with_written f fs) both.1 (still_new f fs shape both.0 new.1),
    )

own_all_new : (shape : Shape) (xs : Values shape) (fs : Fields) → are_apart (names_of shape) ≡ true → AreNew shape fs → AllNew fs (own_members shape xs)
own_all_new nothing xs fs h new = tt
own_all_new (and A form shape) xs fs h new =
    let both = and_parts (is_apart form.name (names_of shape)) (are_apart (names_of shape)) h in
    (new.0, own_all_new shape xs.1 (with_written (member form xs.0) fs) both.1 (still_new (member form xs.0) fs shape both.0 new.1))

own_writable : (shape : Shape) (xs : Values shape) → AreForms shape → CanBeAll shape xs → EachWritable member_brackets (own_members shape xs)
own_writable nothing xs forms can = tt
own_writable (and A form shape) xs forms can = (forms.0.writable xs.0 can.0, own_writable shape xs.1 forms.1 can.1)

-- ---- tables

-- The laws of a table.
pub record IsTable {Op Type_ : Type 0} (table : Table Op Type_) : Type 1 where
  -- each member keeps the laws of a form
  pub forms : (t : Type_) → AreForms (table.shape_of t)
  -- no type has two members of one name, or one that every operation has
  pub apart : (t : Type_) → are_apart (names_of (table.shape_of t)) ≡ true
  pub own : (t : Type_) → are_own (names_of (table.shape_of t)) ≡ true
  -- a type is found by its number alone
  pub numbers : (version n : ℕ) (t : Type_) → table.type_of version n ≡ Some t → n ≡ table.number_of t
  -- an operation is made of its parts, and has them
  pub split : (P : (t : Type_) → Common → Values (table.shape_of t) → Type 0) (t : Type_) (c : Common) (xs : Values (table.shape_of t)) → P t c xs
      → P (table.type_in (table.made t c xs)) (table.part_in (table.made t c xs)) (table.values_of_op (table.made t c xs))
  pub whole : (o : Op) → table.made (table.type_in o) (table.part_in o) (table.values_of_op o) ≡ o

module _ {Op Type_ : Type 0} (table : Table Op Type_) (laws : IsTable table) where
  -- ---- what is written

  stand_common : (t : Type_) (c : Common) (xs : Values (table.shape_of t)) → StandCommon c c.metadata (members_with table t c xs)
  stand_common t c xs =
      let own = laws.own t in
      let shape = table.shape_of t in
      let stand = common_stands c c.metadata in
      record {
        kind = values_put_all (codes "type") (common_members c) (own_members shape xs) (own_new (codes "type") shape xs (λ n is. is.kind.back) own) ∙ stand.kind;
        time = values_put_all (codes "timestamp") (common_members c) (own_members shape xs) (own_new (codes "timestamp") shape xs (λ n is. is.time.back) own) ∙ stand.time;
        nonce = values_put_all (codes "nonce") (common_members c) (own_members shape xs) (own_new (codes "nonce") shape xs (λ n is. is.nonce.back) own) ∙ stand.nonce;
        metadata = values_put_all (codes "metadata") (common_members c) (own_members shape xs) (own_new (codes "metadata") shape xs (λ n is. is.metadata.back) own) ∙ stand.metadata;
      }

  stand_own : (t : Type_) (c : Common) (xs : Values (table.shape_of t)) → StandAll (table.shape_of t) xs (members_with table t c xs)
  stand_own t c xs = own_stand (table.shape_of t) xs (common_members c) (laws.apart t) (common_are_new (table.shape_of t) c (laws.own t))

  -- What is written of an operation is in byte order of its members' names.
  pub members_ascend : (o : Op) → NamesAscend (members_of_op table o)
  members_ascend o =
      let t = table.type_in o in
      let c = table.part_in o in
      let xs = table.values_of_op o in
      names_put_all (common_members c) (own_members (table.shape_of t) xs)
      (own_all_new (table.shape_of t) xs (common_members c) (laws.apart t) (common_are_new (table.shape_of t) c (laws.own t)))
      (common_ascends c c.metadata)

  parts_writable : (t : Type_) (c : Common) (xs : Values (table.shape_of t)) → KeepsParts table t c xs → EachWritable member_brackets (members_with table t c xs)
  parts_writable t c xs keeps = each_put_all member_brackets (common_members c) (own_members (table.shape_of t) xs) (common_writable c keeps.within) (own_writable (table.shape_of t) xs (laws.forms t) keeps.values)

  parts_back : (p : Place) (t : Type_) (c : Common) (xs : Values (table.shape_of t)) (fs : Fields) → KeepsParts table t c xs → table.type_of (version_of p) (table.number_of t) ≡ Some t
      → StandCommon c c.metadata fs → StandAll (table.shape_of t) xs fs → op_of table p fs ≡ Some (table.made t (record c { place = p }) xs)
  unfolding op_with
  parts_back p t c xs fs keeps fits stand own =
      let there : Common = record c { place = p } in
      ap (option_and_then (op_with table (version_of p) fs)) (common_reads p c fs keeps.within stand)
      ∙ ap (option_and_then (op_of_type table fs there)) (ap (table.type_of (version_of p)) keeps.kind ∙ fits)
      ∙ ap (option_map (table.made t there)) (values_read_back (table.shape_of t) (laws.forms t) xs fs keeps.values own)

  op_reads_back : (p : Place) (o : Op) → KeepsOp table o → HasType table p o → op_at table p (op_text table o) ≡ Some (placed table p o)
  op_reads_back p o keeps fits =
      let t = table.type_in o in
      let c = table.part_in o in
      let xs = table.values_of_op o in
      ap (option_and_then (op_of table p)) (fields_read member_brackets (members_of_op table o) (omega arith) (parts_writable t c xs keeps))
      ∙ parts_back p t c xs (members_of_op table o) keeps fits (stand_common t c xs) (stand_own t c xs)

  -- ---- what is read

  -- how an operation was read
  record IsRead (p : Place) (t : List ℕ) (o : Op) : Type 0 where
    type : Type_
    common : Common
    fields : Fields
    values : Values (table.shape_of type)
    part : common_at p t ≡ Some common
    typed : table.type_of (version_of p) common.kind ≡ Some type
    said : values_in (table.shape_of type) fields ≡ Some values
    is : table.made type common values ≡ o

  read_type : (p : Place) (t : List ℕ) (o : Op) (fs : Fields) (c : Common) (ty : Option Type_) → common_at p t ≡ Some c → table.type_of (version_of p) c.kind ≡ ty → option_and_then (op_of_type table fs c) ty ≡ Some o → IsRead p t o
  read_type p t o fs c None part typed h = absurd (cc (h))
  read_type p t o fs c (Some ty) part typed h =
      let m = map_some (table.made ty c) (values_in (table.shape_of ty) fs) o h in
      record { type = ty; common = c; fields = fs; values = m.0; part = part; typed = typed; said = m.1; is = m.2 }

  read_with : (p : Place) (t : List ℕ) (o : Op) (fs : Fields) (c : Option Common) → fields_at t ≡ Some fs → common_of p fs ≡ c → option_and_then (op_with table (version_of p) fs) c ≡ Some o → IsRead p t o
  unfolding op_with
  read_with p t o fs None fields part h = absurd (cc (h))
  read_with p t o fs (Some c) fields part h = read_type p t o fs c _ (ap (option_and_then (common_of p)) fields ∙ part) refl h

  read_in : (p : Place) (t : List ℕ) (o : Op) (fs : Option Fields) → fields_at t ≡ fs → option_and_then (op_of table p) fs ≡ Some o → IsRead p t o
  read_in p t o None fields h = absurd (cc (h))
  read_in p t o (Some fs) fields h = read_with p t o fs _ fields refl h

  is_read : (p : Place) (t : List ℕ) (o : Op) → op_at table p t ≡ Some o → IsRead p t o
  is_read p t o h = read_in p t o _ refl h

  read_keeps : (p : Place) (t : List ℕ) (o : Op) → op_at table p t ≡ Some o → KeepsOp table o
  read_keeps p t o h =
      let r = is_read p t o h in
      subst (KeepsOp table) r.is (laws.split (KeepsParts table) r.type r.common r.values (record {
        within = common_is_within p t r.common r.part;
        kind = laws.numbers (version_of p) r.common.kind r.type r.typed;
        values = values_can_be (table.shape_of r.type) (laws.forms r.type) r.fields r.values r.said;
      }))

  made_part : (t : Type_) (c : Common) (xs : Values (table.shape_of t)) → table.part_in (table.made t c xs) ≡ c
  made_part t c xs = laws.split (λ t d xs. d ≡ c) t c xs refl

  made_type : (t : Type_) (c : Common) (xs : Values (table.shape_of t)) → table.type_in (table.made t c xs) ≡ t
  made_type t c xs = laws.split (λ u d xs. u ≡ t) t c xs refl

  read_there : (p : Place) (t : List ℕ) (o : Op) → op_at table p t ≡ Some o → (table.part_in o).place ≡ p
  read_there p t o h =
      let r = is_read p t o h in
      ap (λ o. (table.part_in o).place) (sym r.is) ∙ ap (λ (c : Common). c.place) (made_part r.type r.common r.values) ∙ common_place p t r.common r.part

  read_fits : (p : Place) (t : List ℕ) (o : Op) → op_at table p t ≡ Some o → HasType table p o
  read_fits p t o h =
      let r = is_read p t o h in
      subst (HasType table p) r.is (laws.split (λ u d xs. table.type_of (version_of p) (table.number_of u) ≡ Some u) r.type r.common r.values
      (ap (table.type_of (version_of p)) (sym (laws.numbers (version_of p) r.common.kind r.type r.typed)) ∙ r.typed))

  -- ---- faults

  type_faulty : (fs : Fields) (c : Common) (ty : Option Type_) (f : OpFault) → TypeFault table fs c.kind ty f → option_and_then (op_of_type table fs c) ty ≡ None
  type_faulty fs c None f h = refl
  type_faulty fs c (Some t) f h = ap (option_map (table.made t c)) (fault_is_no_values (table.shape_of t) fs f h)

  kind_faulty : (p : Place) (fs : Fields) (f : OpFault) (c : Option Common) → common_of p fs ≡ c → KindFault table (version_of p) fs (kind_of fs) f → option_and_then (op_with table (version_of p) fs) c ≡ None
  unfolding op_with
  kind_faulty p fs f None is h = refl
  kind_faulty p fs f (Some c) is h = type_faulty fs c (table.type_of (version_of p) c.kind) f (subst (λ k. KindFault table (version_of p) fs k f) (common_kind p fs c is) h)

  faulty_in : (p : Place) (fs : Option Fields) (f : OpFault) → FaultOf table (version_of p) fs f → option_and_then (op_of table p) fs ≡ None
  faulty_in p None f h = refl
  faulty_in p (Some fs) f h = elim h [
    | inl common ↦ ap (λ o. option_and_then (op_with table (version_of p) fs) (option_map (at_place p) o)) (fault_is_none fs f common)
    | inr kind ↦ kind_faulty p fs f _ refl kind
  ]

  type_none : (fs : Fields) (c : Common) (ty : Option Type_) → option_and_then (op_of_type table fs c) ty ≡ None → (f : OpFault) × TypeFault table fs c.kind ty f
  type_none fs c None h = (UnknownType c.kind, refl)
  type_none fs c (Some t) h = no_values_are_fault (table.shape_of t) (laws.forms t) fs (map_none (table.made t c) (values_in (table.shape_of t) fs) h)

  with_none : (p : Place) (fs : Fields) (c : Option Common) → common_of p fs ≡ c → option_and_then (op_with table (version_of p) fs) c ≡ None → (f : OpFault) × MembersFault table (version_of p) fs f
  unfolding op_with
  with_none p fs None is h = let f = none_has_fault fs (map_none (at_place p) _ is) in (f.0, inl f.1)
  with_none p fs (Some c) is h =
      let f = type_none fs c (table.type_of (version_of p) c.kind) h in
      (f.0, inr (subst (λ k. KindFault table (version_of p) fs k f.0) (sym (common_kind p fs c is)) f.1))

  none_in : (p : Place) (fs : Option Fields) → option_and_then (op_of table p) fs ≡ None → (f : OpFault) × FaultOf table (version_of p) fs f
  none_in p None h = (_, refl)
  none_in p (Some fs) h = with_none p fs _ refl h

  memory_type : (fs : Fields) (n : ℕ) (ty : Option Type_) → TypeFault table fs n ty Memory → ⊥
  memory_type fs n None h = absurd (cc (h))
  memory_type fs n (Some t) h = memory_is_no_fault (table.shape_of t) fs h

  memory_kind : (version : ℕ) (fs : Fields) (k : Option ℕ) → KindFault table version fs k Memory → ⊥
  memory_kind version fs None h = h
  memory_kind version fs (Some n) h = memory_type fs n (table.type_of version n) h

  memory_in : (version : ℕ) (fs : Option Fields) → FaultOf table version fs Memory → ⊥
  memory_in version None h = absurd (cc (h))
  memory_in version (Some fs) h = elim h [ inl common ↦ common | inr kind ↦ memory_kind version fs (kind_of fs) kind ]

  -- ---- places

  placed_text : (p : Place) (o : Op) → op_text table (placed table p o) ≡ op_text table o
  placed_text p o = laws.split (λ t c xs. fields_text (members_with table t c xs) ≡ op_text table o) (table.type_in o) _ (table.values_of_op o) refl

  placed_stays : (o : Op) → placed table (table.part_in o).place o ≡ o
  placed_stays o = laws.whole o

  -- A kind by a table keeps the laws, where the row of the next state is the next row.
  pub table_keeps_laws : {State Row : Type 0} (initial : State) (state_after : State → Op → State) (row_of : State → Row) (row_after : Row → Op → Row)
      → ((s : State) (o : Op) → row_of (state_after s o) ≡ row_after (row_of s) o) → KeepsLaws (kind_by table initial state_after row_of row_after)
  table_keeps_laws initial state_after row_of row_after rows = record {
    reads_back = op_reads_back;
    is_text = λ o keeps. text_of_operation (members_of_op table o) (parts_writable (table.type_in o) (table.part_in o) (table.values_of_op o) keeps);
    keeps_rules = λ p t o utf8 value h. read_keeps p t o h;
    stands_there = read_there;
    fits_there = read_fits;
    moves = λ p o. made_part (table.type_in o) _ (table.values_of_op o);
    same_text = placed_text;
    stays = placed_stays;
    opens_anywhere = λ p o. ap table.opens (made_type (table.type_in o) _ (table.values_of_op o));
    follows_anywhere = λ p o. ap table.follows (made_type (table.type_in o) _ (table.values_of_op o));
    no_value = λ p t f h. faulty_in p (fields_at t) f h;
    has_fault = λ p t h. none_in p (fields_at t) h;
    no_memory = λ version t h. memory_in version (fields_at t) h;
    row_follows = rows;
  }
