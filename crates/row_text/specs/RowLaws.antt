-- What is written of a row that satisfies the rules reads as the row, and a row that is read satisfies them.
use Rattle.std.proofs.Common.{◌≡◌, ◌∙◌, refl, sym, ap, subst, ℕ, List, [], ◌∷◌, length, map, codes, Bool, true, false, Option, Some, None, eqb-true, arith}
use Rattle.std.specs.Prelude.{◌==◌, option_and_then, Contains, if◌then◌else◌}
use Rattle.std.specs.Option.{option_map}
use Rattle.std.proofs.lemmas.List.Elements.{All-contains, All-from_recursion}
use Rattle.json_span.specs.Parts.{members_of}
use Rattle.json_span.specs.declared.nest.TheConstants.{MOST_BRACKETS}
use Rattle.json_span.proofs.BasicLaws.{map_some, then_some}
use Rattle.json_span.proofs.JoinLaws.{members_joined}
use Rattle.op_kind.specs.FormLaws.{values_can_be, values_read_back}
use Rattle.op_kind.specs.MemberForms.{Form, one_value, ruled, value_in}
use Rattle.op_kind.specs.Members.{Fields, fields_of, values_of}
use Rattle.op_kind.specs.OpText.{member_brackets}
use Rattle.op_kind.specs.Shapes.{CanBeAll, Values, both, values_in}
use Rattle.op_kind.specs.Written.{EachWritable, named}
use Rattle.op_kind.specs.WritingLaws.{each_member, fields_read}
use Rattle.row_text.specs.FormsKeep.{bug_keeps, numbers_keep, people_keep, texts_keep}
use Rattle.row_text.specs.RowForms.{head_form, id_form, ids_form, labels_form, metadata_form, number_form, status_form, title_form, version_form}
use Rattle.row_text.specs.Rows.{RowRules, RowValues, bug_shape, fields_of_all, numbers_shape, people_shape, row_in, row_members, row_names, row_of, row_text, row_values, row_with, texts_shape}
use Rattle.row_text.specs.declared.fields.TheConstants.{MEMBERS}
use Rattle.row_text.specs.declared.row.HeadRow.{HeadRow}

-- ---- what is written reads back

-- the values of a row's members
abbrev bug_of : HeadRow → Values bug_shape
bug_of h = (tt, (h.row.id, (h.head, tt)))

abbrev people_of : HeadRow → Values people_shape
people_of h = (h.row.author, (h.row.actors, (h.row.participants, tt)))

abbrev numbers_of : HeadRow → Values numbers_shape
numbers_of h = (h.row.create, (h.row.edit, (h.row.first, (h.row.last, (h.row.comments, tt)))))

abbrev texts_of : HeadRow → Values texts_shape
texts_of h = (h.row.title, (h.row.status, (h.row.labels, (h.row.metadata, tt))))

module _ (h : HeadRow) (rules : RowRules h) where
  bug_can : CanBeAll bug_shape (bug_of h)
  bug_can = (tt, (rules.id, (rules.head, tt)))

  people_can : CanBeAll people_shape (people_of h)
  people_can = (rules.author, (rules.actors, (rules.participants, tt)))

  numbers_can : CanBeAll numbers_shape (numbers_of h)
  numbers_can = (rules.create, (rules.edit, (rules.first, (rules.last, (rules.comments, tt)))))

  texts_can : CanBeAll texts_shape (texts_of h)
  texts_can = (rules.title, (tt, (rules.labels, (rules.metadata, tt))))

  -- each part reads back from the members as they are written
  bug_back : values_in bug_shape (row_members h) ≡ Some (bug_of h)
  bug_back = values_read_back bug_shape bug_keeps (bug_of h) (row_members h) bug_can (refl, (refl, (refl, tt)))

  people_back : values_in people_shape (row_members h) ≡ Some (people_of h)
  people_back = values_read_back people_shape people_keep (people_of h) (row_members h) people_can (refl, (refl, (refl, tt)))

  numbers_back : values_in numbers_shape (row_members h) ≡ Some (numbers_of h)
  numbers_back = values_read_back numbers_shape numbers_keep (numbers_of h) (row_members h) numbers_can (refl, (refl, (refl, (refl, (refl, tt)))))

  texts_back : values_in texts_shape (row_members h) ≡ Some (texts_of h)
  texts_back = values_read_back texts_shape texts_keep (texts_of h) (row_members h) texts_can (refl, (refl, (refl, (refl, tt))))

  values_back : row_values (row_members h) ≡ Some (bug_of h, (people_of h, (numbers_of h, texts_of h)))
  values_back =
      ap (λ a. both a (both (values_in people_shape (row_members h)) (both (values_in numbers_shape (row_members h)) (values_in texts_shape (row_members h))))) bug_back
      ∙ ap (λ a. both (Some (bug_of h)) (both a (both (values_in numbers_shape (row_members h)) (values_in texts_shape (row_members h))))) people_back
      ∙ ap (λ a. both (Some (bug_of h)) (both (Some (people_of h)) (both a (values_in texts_shape (row_members h))))) numbers_back
      ∙ ap (λ a. both (Some (bug_of h)) (both (Some (people_of h)) (both (Some (numbers_of h)) a))) texts_back

  -- each member can be written
  members_writable : EachWritable member_brackets (row_members h)
  members_writable = (
    people_keep.1.0.writable h.row.actors rules.actors,
    (
      people_keep.0.writable h.row.author rules.author,
      (
        numbers_keep.1.1.1.1.0.writable h.row.comments rules.comments,
        (
          numbers_keep.0.writable h.row.create rules.create,
          (
            numbers_keep.1.0.writable h.row.edit rules.edit,
            (
              numbers_keep.1.1.0.writable h.row.first rules.first,
              (
                bug_keeps.1.1.0.writable h.head rules.head,
                (
                  bug_keeps.1.0.writable h.row.id rules.id,
                  (
                    texts_keep.1.1.0.writable h.row.labels rules.labels,
                    (
                      numbers_keep.1.1.1.0.writable h.row.last rules.last,
                      (
                        texts_keep.1.1.1.0.writable h.row.metadata rules.metadata,
                        (
                          people_keep.1.1.0.writable h.row.participants rules.participants,
                          (
                            bug_keeps.0.writable tt tt,
                            (
                              texts_keep.1.0.writable h.row.status tt,
                              (texts_keep.0.writable h.row.title rules.title, tt),
                            ),
                          ),
                        ),
                      ),
                    ),
                  ),
                ),
              ),
            ),
          ),
        ),
      ),
    ),
  )

  -- the text has the members that were written
  members_back : members_of (row_text h) ≡ Some (map named (row_members h))
  unfolding row_text
  members_back = members_joined (map named (row_members h)) (each_member member_brackets MOST_BRACKETS (row_members h) (omega arith) members_writable)

  fields_back : Some (fields_of (map named (row_members h))) ≡ Some (row_members h)
  unfolding row_text
  fields_back = sym (ap (option_map fields_of) members_back) ∙ fields_read member_brackets (row_members h) (omega arith) members_writable

  -- What is written of a row that satisfies the rules reads as the row.
  pub row_reads_back : row_of (row_text h) ≡ Some h
  unfolding row_of
  row_reads_back =
      ap (λ ms. option_and_then row_in (option_and_then fields_of_all ms)) members_back
      ∙ ap (option_and_then row_in) fields_back
      ∙ ap (option_map row_with) values_back

-- ---- what is read

both_some : {A B : Type 0} (a : Option A) (b : Option B) (x : A × B) → both a b ≡ Some x → (a ≡ Some x.0) × (b ≡ Some x.1)
both_some None b x h = absurd (cc (h))
both_some (Some a) None x h = absurd (cc (h))
both_some {A = A} {B = B} (Some a) (Some b) x h =
    let e : (let p : A × B = (a, b) in p) ≡ x = cc (h) in
    (ap (λ (p : A × B). Some p.0) e, ap (λ (p : A × B). Some p.1) e)

all_members : (ms : List (List ℕ × List ℕ)) (fs : Fields) (b : Bool) → (length ms == MEMBERS) ≡ b → (if b then Some (fields_of ms) else None) ≡ Some fs
    → (length ms ≡ MEMBERS) × (fields_of ms ≡ fs)
all_members ms fs true is h = (eqb-true (length ms) MEMBERS is, cc (h))
all_members ms fs false is h = absurd (cc (h))

-- how a row was read
pub record IsRead (text : List ℕ) (h : HeadRow) : Type 0 where
  pub members : List (List ℕ × List ℕ)
  pub object : members_of text ≡ Some members
  pub all : length members ≡ MEMBERS
  pub bug : Values bug_shape
  pub people : Values people_shape
  pub numbers : Values numbers_shape
  pub texts : Values texts_shape
  pub bug_is : values_in bug_shape (fields_of members) ≡ Some bug
  pub people_are : values_in people_shape (fields_of members) ≡ Some people
  pub numbers_are : values_in numbers_shape (fields_of members) ≡ Some numbers
  pub texts_are : values_in texts_shape (fields_of members) ≡ Some texts
  pub is : row_with (bug, (people, (numbers, texts))) ≡ h

read_with : (text : List ℕ) (h : HeadRow) (ms : List (List ℕ × List ℕ)) (xs : RowValues) → members_of text ≡ Some ms → length ms ≡ MEMBERS
    → row_values (fields_of ms) ≡ Some xs → row_with xs ≡ h → IsRead text h
read_with text h ms xs object all values is =
    let one = both_some (values_in bug_shape (fields_of ms)) _ xs values in
    let two = both_some (values_in people_shape (fields_of ms)) _ xs.1 one.1 in
    let three = both_some (values_in numbers_shape (fields_of ms)) _ xs.1.1 two.1 in
    record {
      members = ms;
      object = object;
      all = all;
      bug = xs.0;
      people = xs.1.0;
      numbers = xs.1.1.0;
      texts = xs.1.1.1;
      bug_is = one.0;
      people_are = two.0;
      numbers_are = three.0;
      texts_are = three.1;
      is = is;
    }

is_read : (text : List ℕ) (h : HeadRow) → row_of text ≡ Some h → IsRead text h
unfolding row_of
is_read text h e =
    let fields = then_some row_in (option_and_then fields_of_all (members_of text)) h e in
    let members = then_some fields_of_all (members_of text) fields.0 fields.1 in
    let all = all_members members.0 fields.0 (length members.0 == MEMBERS) refl members.2 in
    let values = map_some row_with (row_values fields.0) h fields.2 in
    read_with text h members.0 values.0 members.1 all.0 (ap row_values all.1 ∙ values.1) values.2

-- A row that is read satisfies the rules.
pub read_row_rules : (text : List ℕ) (h : HeadRow) → row_of text ≡ Some h → RowRules h
read_row_rules text h e =
    let r = is_read text h e in
    let fs = fields_of r.members in
    let bug = values_can_be bug_shape bug_keeps fs r.bug r.bug_is in
    let people = values_can_be people_shape people_keep fs r.people r.people_are in
    let numbers = values_can_be numbers_shape numbers_keep fs r.numbers r.numbers_are in
    let texts = values_can_be texts_shape texts_keep fs r.texts r.texts_are in
    subst RowRules r.is (record {
      head = bug.1.1.0;
      id = bug.1.0;
      author = people.0;
      actors = people.1.0;
      participants = people.1.1.0;
      create = numbers.0;
      edit = numbers.1.0;
      first = numbers.1.1.0;
      last = numbers.1.1.1.0;
      comments = numbers.1.1.1.1.0;
      title = texts.0;
      labels = texts.1.1.0;
      metadata = texts.1.1.1.0;
    })

-- ---- each name once

one_there : {A : Type 0} (absent : Option A) (read : List ℕ → Option A) (obeys : A → Bool) (vs : List (List ℕ)) (a : A) → absent ≡ None
    → option_and_then (ruled obeys) (one_value absent read vs) ≡ Some a → length vs ≡ 1
one_there None read obeys [] a none h = absurd (cc (h))
one_there None read obeys (v ∷ []) a none h = refl
one_there None read obeys (v ∷ w ∷ vs) a none h = absurd (cc (h))
one_there (Some b) read obeys vs a none h = absurd (cc (none))

-- a value that was read was the only one
only_one : {A : Type 0} (form : Form A) (fs : Fields) (a : A) → form.absent ≡ None → value_in form fs ≡ Some a → length (values_of form.name fs) ≡ 1
only_one form fs a none h = one_there form.absent form.read form.obeys (values_of form.name fs) a none h

-- the name is there once
abbrev pub IsOnce : Fields → List ℕ → Type 0
IsOnce fs name = length (values_of name fs) ≡ 1

-- Each of the fifteen names is there once.
pub names_once : (text : List ℕ) (h : HeadRow) → row_of text ≡ Some h
    → (members : List (List ℕ × List ℕ)) × (members_of text ≡ Some members) × (length members ≡ 15)
    × ((name : List ℕ) → Contains row_names name → length (values_of name (fields_of members)) ≡ 1)
names_once text h e =
    let r = is_read text h e in
    let fs = fields_of r.members in
    let bug = both_some _ _ r.bug r.bug_is in
    let bug1 = both_some _ _ r.bug.1 bug.1 in
    let bug2 = both_some _ _ r.bug.1.1 bug1.1 in
    let people = both_some _ _ r.people r.people_are in
    let people1 = both_some _ _ r.people.1 people.1 in
    let people2 = both_some _ _ r.people.1.1 people1.1 in
    let numbers = both_some _ _ r.numbers r.numbers_are in
    let numbers1 = both_some _ _ r.numbers.1 numbers.1 in
    let numbers2 = both_some _ _ r.numbers.1.1 numbers1.1 in
    let numbers3 = both_some _ _ r.numbers.1.1.1 numbers2.1 in
    let numbers4 = both_some _ _ r.numbers.1.1.1.1 numbers3.1 in
    let texts = both_some _ _ r.texts r.texts_are in
    let texts1 = both_some _ _ r.texts.1 texts.1 in
    let texts2 = both_some _ _ r.texts.1.1 texts1.1 in
    let texts3 = both_some _ _ r.texts.1.1.1 texts2.1 in (
      r.members,
      r.object,
      r.all,
      λ name has. All-contains (IsOnce fs) row_names name (All-from_recursion (IsOnce fs) row_names (
        only_one (ids_form (codes "actors")) fs _ refl people1.0,
        (
          only_one (id_form (codes "author")) fs _ refl people.0,
          (
            only_one (number_form (codes "comments")) fs _ refl numbers4.0,
            (
              only_one (number_form (codes "create")) fs _ refl numbers.0,
              (
                only_one (number_form (codes "edit")) fs _ refl numbers1.0,
                (
                  only_one (number_form (codes "first")) fs _ refl numbers2.0,
                  (
                    only_one head_form fs _ refl bug2.0,
                    (
                      only_one (id_form (codes "id")) fs _ refl bug1.0,
                      (
                        only_one labels_form fs _ refl texts2.0,
                        (
                          only_one (number_form (codes "last")) fs _ refl numbers3.0,
                          (
                            only_one metadata_form fs _ refl texts3.0,
                            (
                              only_one (ids_form (codes "participants")) fs _ refl people2.0,
                              (
                                only_one version_form fs _ refl bug.0,
                                (
                                  only_one status_form fs _ refl texts1.0,
                                  (only_one title_form fs _ refl texts.0, tt),
                                ),
                              ),
                            ),
                          ),
                        ),
                      ),
                    ),
                  ),
                ),
              ),
            ),
          ),
        ),
      )) has,
    )
