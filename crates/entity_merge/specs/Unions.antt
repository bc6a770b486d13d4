-- Two words of joins of the same heads.
use Rattle.std.specs.Prelude.{◌≡◌, ⊤}
use Rattle.entity_merge.specs.declared.word.Merged.{Merged}
use Rattle.entity_merge.specs.declared.word.Merged.TheVariants as merged

-- the words are the same, with the same head where it is not a new commit
abbrev pub SameWord : Merged → Merged → Type 0
SameWord (merged.New one) (merged.New two) = one ≡ two
SameWord merged.Nothing merged.Nothing = ⊤
SameWord (merged.Forward one) (merged.Forward two) = one ≡ two
SameWord (merged.Joined one) (merged.Joined two) = ⊤
SameWord _ _ = ⊥
