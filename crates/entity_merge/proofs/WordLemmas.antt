-- At most one word holds of two heads.
use Rattle.std.proofs.Common.{Option, Some, None, sym, ◌∙◌}
use Rattle.gb_text.specs.declared.id.Name.{Name}
use Rattle.object_store.specs.Held.{Objects}
use Rattle.entity_merge.specs.Joins.{HasWord}
use Rattle.entity_merge.specs.Unions.{SameWord}
use Rattle.entity_merge.specs.declared.word.Merged.{Merged}
use Rattle.entity_merge.specs.declared.word.Merged.TheVariants as merged
use Rattle.entity_merge.proofs.UnionLemmas.{none_below}

pub one_word : (objects : Objects) (local : Option Name) (remote : Name) (one two : Merged) → HasWord objects local remote one → HasWord objects local remote two → SameWord one two
one_word objects None remote (merged.New a) (merged.New b) h j = h ∙ sym j
one_word objects None remote (merged.New a) merged.Nothing h j = absurd (none_below objects remote j)
one_word objects None remote (merged.New a) (merged.Forward b) h j = absurd j
one_word objects None remote (merged.New a) (merged.Joined b) h j = absurd j
one_word objects None remote merged.Nothing two h j = absurd (none_below objects remote h)
one_word objects None remote (merged.Forward a) two h j = absurd h
one_word objects None remote (merged.Joined a) two h j = absurd h
one_word objects (Some local) remote (merged.New a) two h j = absurd h
one_word objects (Some local) remote merged.Nothing (merged.New b) h j = absurd j
one_word objects (Some local) remote merged.Nothing merged.Nothing h j = tt
one_word objects (Some local) remote merged.Nothing (merged.Forward b) h j = absurd (j.2 h)
one_word objects (Some local) remote merged.Nothing (merged.Joined b) h j = absurd (j.two_apart h)
one_word objects (Some local) remote (merged.Forward a) (merged.New b) h j = absurd j
one_word objects (Some local) remote (merged.Forward a) merged.Nothing h j = absurd (h.2 j)
one_word objects (Some local) remote (merged.Forward a) (merged.Forward b) h j = h.0 ∙ sym j.0
one_word objects (Some local) remote (merged.Forward a) (merged.Joined b) h j = absurd (j.one_apart h.1)
one_word objects (Some local) remote (merged.Joined a) (merged.New b) h j = absurd j
one_word objects (Some local) remote (merged.Joined a) merged.Nothing h j = absurd (h.two_apart j)
one_word objects (Some local) remote (merged.Joined a) (merged.Forward b) h j = absurd (h.one_apart j.1)
one_word objects (Some local) remote (merged.Joined a) (merged.Joined b) h j = tt
