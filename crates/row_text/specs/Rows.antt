-- The texts of rows: which row a text is, how a row is written, and the rules for rows.
use Rattle.std.specs.Prelude.{◌≤◌, ◌==◌, ℕ, List, [], ◌∷◌, length, codes, decimal, Option, Some, None, option_and_then, if◌then◌else◌}
use Rattle.std.specs.Option.{option_map}
use Rattle.json.specs.Print.{quoted}
use Rattle.gb_text.specs.Digits.{IsId, IsName}
use Rattle.gb_text.specs.declared.decimal.TheConstants.{GREATEST_TIME}
use Rattle.json_span.specs.Parts.{members_of}
use Rattle.op_kind.specs.Members.{Fields, fields_of}
use Rattle.op_kind.specs.Pairs.{pairs_text}
use Rattle.op_kind.specs.Shapes.{Shape, Values, both, values_in}
use Rattle.op_kind.specs.Shapes.Shape.{nothing, and}
use Rattle.op_kind.specs.Written.{fields_text, texts_text}
use Rattle.bug_ops.specs.BugForms.{ArePairs, IsTitle, id_text, status_number}
use Rattle.bug_ops.specs.declared.snapshot.Excerpt.{Excerpt}
use Rattle.row_text.specs.RowForms.{AreIds, AreRowLabels, head_form, head_text, id_form, ids_form, ids_text, labels_form, metadata_form, number_form, status_form, title_form, version_form, version_text}
use Rattle.row_text.specs.declared.fields.TheConstants.{MEMBERS}
use Rattle.row_text.specs.declared.row.HeadRow.{HeadRow}

-- ---- reading

-- which bug the row is of, at which head
abbrev pub bug_shape : Shape
bug_shape = and _ version_form (and _ (id_form (codes "id")) (and _ head_form nothing))

-- the persons
abbrev pub people_shape : Shape
people_shape = and _ (id_form (codes "author")) (and _ (ids_form (codes "actors")) (and _ (ids_form (codes "participants")) nothing))

-- the clocks, the times and the count of comments
abbrev pub numbers_shape : Shape
numbers_shape = and _ (number_form (codes "create")) (and _ (number_form (codes "edit")) (and _ (number_form (codes "first"))
    (and _ (number_form (codes "last")) (and _ (number_form (codes "comments")) nothing))))

-- what the bug says
abbrev pub texts_shape : Shape
texts_shape = and _ title_form (and _ status_form (and _ labels_form (and _ metadata_form nothing)))

-- the values of all members
abbrev pub RowValues : Type 0
RowValues = Values bug_shape × (Values people_shape × (Values numbers_shape × Values texts_shape))

-- what all members say, if each reads
abbrev pub row_values : Fields → Option RowValues
row_values fs = both (values_in bug_shape fs) (both (values_in people_shape fs) (both (values_in numbers_shape fs) (values_in texts_shape fs)))

-- the row with these values
abbrev pub row_with : RowValues → HeadRow
row_with xs = record {
  head = xs.0.1.1.0;
  row = record {
    id = xs.0.1.0;
    title = xs.1.1.1.0;
    status = xs.1.1.1.1.0;
    labels = xs.1.1.1.1.1.0;
    author = xs.1.0.0;
    actors = xs.1.0.1.0;
    participants = xs.1.0.1.1.0;
    create = xs.1.1.0.0;
    edit = xs.1.1.0.1.0;
    first = xs.1.1.0.1.1.0;
    last = xs.1.1.0.1.1.1.0;
    comments = xs.1.1.0.1.1.1.1.0;
    metadata = xs.1.1.1.1.1.1.0;
  };
}

-- the names of the members, in byte order
abbrev pub row_names : List (List ℕ)
row_names =
    codes "actors" ∷ codes "author" ∷ codes "comments" ∷ codes "create" ∷ codes "edit" ∷ codes "first" ∷ codes "head" ∷ codes "id" ∷ codes "labels" ∷ codes "last"
    ∷ codes "metadata" ∷ codes "participants" ∷ codes "row" ∷ codes "status" ∷ codes "title" ∷ []

-- the fields of an object that has fifteen members; a member whose name does not read is left out
abbrev pub fields_of_all : List (List ℕ × List ℕ) → Option Fields
fields_of_all ms = if length ms == MEMBERS then Some (fields_of ms) else None

-- the row of fields
abbrev pub row_in : Fields → Option HeadRow
row_in fs = option_map row_with (row_values fs)

-- The row that a text is: an object of fifteen members, each of the fifteen names once. So it has no other member.
unfoldable pub row_of : List ℕ → Option HeadRow
row_of text = option_and_then row_in (option_and_then fields_of_all (members_of text))

-- ---- writing

-- the members of a row as they are written, in byte order of their names
abbrev pub row_members : HeadRow → Fields
row_members h =
    (codes "actors", ids_text h.row.actors)
    ∷ (codes "author", id_text h.row.author)
    ∷ (codes "comments", decimal h.row.comments)
    ∷ (codes "create", decimal h.row.create)
    ∷ (codes "edit", decimal h.row.edit)
    ∷ (codes "first", decimal h.row.first)
    ∷ (codes "head", head_text h.head)
    ∷ (codes "id", id_text h.row.id)
    ∷ (codes "labels", texts_text h.row.labels)
    ∷ (codes "last", decimal h.row.last)
    ∷ (codes "metadata", pairs_text h.row.metadata)
    ∷ (codes "participants", ids_text h.row.participants)
    ∷ (codes "row", version_text)
    ∷ (codes "status", decimal (status_number h.row.status))
    ∷ (codes "title", quoted h.row.title)
    ∷ []

-- The text of a row.
unfoldable pub row_text : HeadRow → List ℕ
row_text h = fields_text (row_members h)

-- ---- rules

-- each number is at most 2^63 - 1
abbrev pub HaveTimes : Excerpt → Type 0
HaveTimes row = (row.create ≤ GREATEST_TIME) × (row.edit ≤ GREATEST_TIME) × (row.first ≤ GREATEST_TIME) × (row.last ≤ GREATEST_TIME) × (row.comments ≤ GREATEST_TIME)

-- the head and the ids are such, and each number is at most 2^63 - 1
pub record RowRules (h : HeadRow) : Type 0 where
  pub head : IsName h.head
  pub id : IsId h.row.id
  pub author : IsId h.row.author
  pub actors : AreIds h.row.actors
  pub participants : AreIds h.row.participants
  pub create : h.row.create ≤ GREATEST_TIME
  pub edit : h.row.edit ≤ GREATEST_TIME
  pub first : h.row.first ≤ GREATEST_TIME
  pub last : h.row.last ≤ GREATEST_TIME
  pub comments : h.row.comments ≤ GREATEST_TIME
  pub title : IsTitle h.row.title
  pub labels : AreRowLabels h.row.labels
  pub metadata : ArePairs h.row.metadata
