-- An operation keeps the rules of bugs' operations in one way at most.
use Rattle.std.proofs.Common.{ℕ, List, [], ◌∷◌}
use Rattle.std.proofs.Math.Logic.{∥∥₁_elim}
use Rattle.std.proofs.Props.{props}
use Rattle.repo_steps.proofs.Names.{Name, bug_kind, BugOp}
use Rattle.op_kind.specs.Pairs.{EachPairUtf8}
use Rattle.op_kind.specs.Written.{EachUtf8}
use Rattle.op_kind.specs.declared.place.Pair.{Pair}
use Rattle.bug_ops.specs.BugForms.{AreNames}
use Rattle.bug_ops.specs.declared.op.BugOp.TheVariants.{AddComment, Create, EditComment, LabelChange, NoOp, SetMetadata, SetStatus, SetTitle}

texts_prop : (ts : List (List ℕ)) → IsProp (EachUtf8 ts)
texts_prop [] = hlevel
texts_prop (t ∷ ts) = hlevel (props, texts_prop ts)

pairs_prop : (ps : List Pair) → IsProp (EachPairUtf8 ps)
pairs_prop [] = hlevel
pairs_prop (p ∷ ps) = hlevel (props, pairs_prop ps)

names_prop : (names : List Name) → IsProp (AreNames names)
names_prop [] = hlevel
names_prop (name ∷ names) = hlevel (props, names_prop names)

keeps_prop : (op : BugOp) → IsProp (bug_kind.KeepsRules op)
keeps_prop (Create common title message files) = hlevel (props, pairs_prop, names_prop)
keeps_prop (SetTitle common title was) = hlevel (props, pairs_prop)
keeps_prop (AddComment common message files) = hlevel (props, pairs_prop, names_prop)
keeps_prop (SetStatus common status) = hlevel (props, pairs_prop)
keeps_prop (LabelChange common added removed) = hlevel (props, pairs_prop, texts_prop)
keeps_prop (EditComment common target message files) = hlevel (props, pairs_prop, names_prop)
keeps_prop (NoOp common) = hlevel (props, pairs_prop)
keeps_prop (SetMetadata common target pairs) = hlevel (props, pairs_prop)

-- so that it does is known
pub keeps : (op : BugOp) → ∥ bug_kind.KeepsRules op ∥₁ → bug_kind.KeepsRules op
keeps op kept = ∥∥₁_elim kept (keeps_prop op) (λ rules. rules)
