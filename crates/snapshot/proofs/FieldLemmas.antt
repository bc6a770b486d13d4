-- What is found last, where no operation is left, and what a bug has.
use Rattle.std.proofs.Common.{◌≡◌, ◌≤◌, refl, ap, ℕ, List, [], ◌∷◌, drop, length, Option}
use Rattle.std.specs.Option.{unwrap_or}
use Rattle.std.proofs.lemmas.List.{drop_all}
use Rattle.bug_ops.specs.Mentions.{is_among}
use Rattle.bug_ops.specs.declared.op.BugOp.{BugOp}
use Rattle.snapshot.specs.LastMention.{label_is_on, last_found, snapshot_of, title_of}
use Rattle.snapshot.proofs.LabelLemmas.{labels_have}

-- Where no item is left, nothing more is found.
pub found_all : {A B : Type 0} (f : A → Option B) (xs : List A) (i : ℕ) (last : B) → length xs ≤ i → unwrap_or (last_found f (drop i xs)) last ≡ last
found_all f xs i last past = ap (λ ys. unwrap_or (last_found f ys) last) (drop_all i xs past)

-- The title of a bug.
pub has_title : (ops : List BugOp) → (snapshot_of ops).row.title ≡ title_of ops
has_title [] = refl
has_title (o ∷ later) = refl

-- Whether a bug has a label.
pub has_this_label : (ops : List BugOp) (label : List ℕ) → is_among (snapshot_of ops).row.labels label ≡ label_is_on ops label
has_this_label [] label = refl
has_this_label (o ∷ later) label = labels_have (o ∷ later) label
