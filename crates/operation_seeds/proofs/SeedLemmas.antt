-- Operations with one text have one nonce.
use Rattle.std.proofs.Common.{◌≡◌, ◌≢◌, ◌⊎◌, inl, inr, ◌∷◌, ◌++◌, [], ℕ, Bool, true, false, List, Some, refl, sym, ◌∙◌, ap}
use Rattle.std.proofs.lemmas.List.{append_cancel_right}
use Rattle.std.specs.Str.{bytes_eq}
use Rattle.std.proofs.lemmas.Slice.Eq.{bytes_eq-Decides}
use Rattle.gb_text.specs.declared.id.Id.{Id}
use Rattle.op_kind.specs.declared.place.Place.{Place}
use Rattle.bug_ops.specs.Kind.{bug_kind}
use Rattle.bug_ops.specs.Laws.{bug_keeps_laws}
use Rattle.bug_ops.specs.declared.op.BugOp.{BugOp}
use Rattle.bug_ops.specs.declared.op.BugOp.TheVariants.{AddComment, Create, EditComment, LabelChange, NoOp, SetMetadata, SetStatus, SetTitle}
use Rattle.bug_edits.specs.NewOps.{IsOfTheMoment, nonce_from, nowhere, op_id}
use Rattle.bug_edits.specs.declared.moment.Moment.{Moment}
use Rattle.operation_seeds.specs.Collisions.{Collide}

-- each operation may be written anywhere
fits : (place : Place) (op : BugOp) → bug_kind.Fits place op
fits place (Create common title message files) = refl
fits place (SetTitle common title was) = refl
fits place (AddComment common message files) = refl
fits place (SetStatus common status) = refl
fits place (LabelChange common added removed) = refl
fits place (EditComment common target message files) = refl
fits place (NoOp common) = refl
fits place (SetMetadata common target pairs) = refl

-- operations that are written alike have one nonce
one_nonce : (one two : BugOp) → bug_kind.KeepsRules one → bug_kind.KeepsRules two → bug_kind.written one ≡ bug_kind.written two
    → (bug_kind.common_of one).nonce ≡ (bug_kind.common_of two).nonce
one_nonce one two keeps_one keeps_two same =
    let both : Some (bug_kind.placed nowhere one) ≡ Some (bug_kind.placed nowhere two)
    = sym (bug_keeps_laws.reads_back nowhere one keeps_one (fits nowhere one)) ∙ ap (bug_kind.read_at nowhere) same ∙ bug_keeps_laws.reads_back nowhere two keeps_two (fits nowhere two) in
    let placed : bug_kind.placed nowhere one ≡ bug_kind.placed nowhere two = cc both in
    ap (λ c. c.nonce) (sym (bug_keeps_laws.moves nowhere one)) ∙ ap (λ o. (bug_kind.common_of o).nonce) placed ∙ ap (λ c. c.nonce) (bug_keeps_laws.moves nowhere two)

-- two texts are the same or not
same_or_other : (one two : List ℕ) → (one ≡ two) ⊎ (one ≢ two)
same_or_other one two = decide (bytes_eq one two) refl
  where
    decide : (b : Bool) → bytes_eq one two ≡ b → (one ≡ two) ⊎ (one ≢ two)
    decide true h = inl ((bytes_eq-Decides one two).0 h)
    decide false h = inr (λ e. cc (sym h ∙ (bytes_eq-Decides one two).1 e))

pub unlike : (first second : Moment) (one two : BugOp) → IsOfTheMoment first one → IsOfTheMoment second two → bug_kind.KeepsRules one → bug_kind.KeepsRules two
    → first.seed ≢ second.seed → op_id one ≡ op_id two → Collide (bug_kind.written one) (bug_kind.written two) ⊎ Collide (first.seed ++ 0 ∷ []) (second.seed ++ 0 ∷ [])
unlike first second one two made_one made_two keeps_one keeps_two differ same = by (same_or_other (bug_kind.written one) (bug_kind.written two))
  where
    by : (bug_kind.written one ≡ bug_kind.written two) ⊎ (bug_kind.written one ≢ bug_kind.written two)
        → Collide (bug_kind.written one) (bug_kind.written two) ⊎ Collide (first.seed ++ 0 ∷ []) (second.seed ++ 0 ∷ [])
    by (inl alike) =
        let nonces : nonce_from first.seed ≡ nonce_from second.seed = sym made_one.nonce ∙ one_nonce one two keeps_one keeps_two alike ∙ made_two.nonce in
        inr ((λ is. differ (append_cancel_right first.seed second.seed (0 ∷ []) is)), nonces)
    by (inr unlike) = inl (unlike, ap (λ (id : Id). id.bytes) same)
