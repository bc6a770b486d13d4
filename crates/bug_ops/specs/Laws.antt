-- The table of types keeps the laws of a table, and so operations of bugs those of a kind.
use Rattle.std.proofs.Common.{◌≡◌, ◌⊎◌, ◌∙◌, ◌==◌, inl, inr, refl, sym, ap, ℕ, Bool, true, false, Option, Some}
use Rattle.std.specs.Prelude.{if◌then◌else◌}
use Rattle.std.proofs.lemmas.Bool.{eqb-true}
use Rattle.op_kind.specs.Meaning.{KeepsLaws}
use Rattle.op_kind.specs.NameOrder.{are_apart}
use Rattle.op_kind.specs.Shapes.{Values, names_of}
use Rattle.op_kind.specs.declared.place.Common.{Common}
use Rattle.op_kind.proofs.TableLaws.{IsTable, are_own, table_keeps_laws}
use Rattle.bug_ops.specs.BugTable.{bug_table, type_of, shape_of, made, number_of, type_of_op, common_of_op, values_of_op}
use Rattle.bug_ops.specs.FormsKeep.{types_keep}
use Rattle.bug_ops.specs.Kind.{bug_kind}
use Rattle.bug_ops.specs.Snapshots.{row_after, snapshot_after, empty_snapshot}
use Rattle.bug_ops.specs.declared.op.BugOp.{BugOp}
use Rattle.bug_ops.specs.declared.op.BugOp.TheVariants.{Create, SetTitle, AddComment, SetStatus, LabelChange, EditComment, NoOp, SetMetadata}
use Rattle.bug_ops.specs.declared.op.OpType.{OpType}
use Rattle.bug_ops.specs.declared.op.OpType.TheVariants.{Creation, Title, Comment, Status, Labels, Edit, Nothing, Metadata}

-- ---- types and their numbers

pick : (k n : ℕ) (a t : OpType) (rest : Option OpType) (b : Bool) → (k == n) ≡ b → (if b then Some a else rest) ≡ Some t → ((a ≡ t) × (k ≡ n)) ⊎ (rest ≡ Some t)
pick k n a t rest true is h = inl (cc (h), eqb-true k n is)
pick k n a t rest false is h = inr h

number_is : (k n : ℕ) (a t : OpType) → number_of a ≡ n → (a ≡ t) × (k ≡ n) → k ≡ number_of t
number_is k n a t number h = h.1 ∙ sym number ∙ ap number_of h.0

numbers : (version k : ℕ) (t : OpType) → type_of k ≡ Some t → k ≡ number_of t
numbers version k t h =
    elim (pick k 1 Creation t _ _ refl h) [
      | inl is ↦ number_is k 1 Creation t refl is
      | inr h ↦
          elim (pick k 2 Title t _ _ refl h) [
            | inl is ↦ number_is k 2 Title t refl is
            | inr h ↦
                elim (pick k 3 Comment t _ _ refl h) [
                  | inl is ↦ number_is k 3 Comment t refl is
                  | inr h ↦
                      elim (pick k 4 Status t _ _ refl h) [
                        | inl is ↦ number_is k 4 Status t refl is
                        | inr h ↦
                            elim (pick k 5 Labels t _ _ refl h) [
                              | inl is ↦ number_is k 5 Labels t refl is
                              | inr h ↦
                                  elim (pick k 6 Edit t _ _ refl h) [
                                    | inl is ↦ number_is k 6 Edit t refl is
                                    | inr h ↦
                                        elim (pick k 7 Nothing t _ _ refl h) [
                                          | inl is ↦ number_is k 7 Nothing t refl is
                                          | inr h ↦
                                              elim (pick k 8 Metadata t _ _ refl h) [
                                                | inl is ↦ number_is k 8 Metadata t refl is
                                                | inr h ↦
                                                    absurd (cc (h))
                                              ]
                                        ]
                                  ]
                            ]
                      ]
                ]
          ]
    ]

-- ---- names

apart : (t : OpType) → are_apart (names_of (shape_of t)) ≡ true
apart Creation = refl
apart Title = refl
apart Comment = refl
apart Status = refl
apart Labels = refl
apart Edit = refl
apart Nothing = refl
apart Metadata = refl

own : (t : OpType) → are_own (names_of (shape_of t)) ≡ true
own Creation = refl
own Title = refl
own Comment = refl
own Status = refl
own Labels = refl
own Edit = refl
own Nothing = refl
own Metadata = refl

-- ---- made operations

split : (P : (t : OpType) → Common → Values (shape_of t) → Type 0) (t : OpType) (c : Common) (xs : Values (shape_of t)) → P t c xs
    → P (type_of_op (made t c xs)) (common_of_op (made t c xs)) (values_of_op (made t c xs))
split P Creation c xs p = p
split P Title c xs p = p
split P Comment c xs p = p
split P Status c xs p = p
split P Labels c xs p = p
split P Edit c xs p = p
split P Nothing c xs p = p
split P Metadata c xs p = p

whole : (o : BugOp) → made (type_of_op o) (common_of_op o) (values_of_op o) ≡ o
whole (Create c title message files) = refl
whole (SetTitle c title was) = refl
whole (AddComment c message files) = refl
whole (SetStatus c status) = refl
whole (LabelChange c added removed) = refl
whole (EditComment c target message files) = refl
whole (NoOp c) = refl
whole (SetMetadata c target pairs) = refl

-- The table of types keeps the laws of a table.
pub bug_is_table : IsTable bug_table
bug_is_table = record { forms = types_keep; apart = apart; own = own; numbers = numbers; split = split; whole = whole }

-- Operations of bugs keep the laws of a kind.
pub bug_keeps_laws : KeepsLaws bug_kind
bug_keeps_laws = table_keeps_laws bug_table bug_is_table empty_snapshot snapshot_after (λ s. s.row) row_after (λ s o. refl)
