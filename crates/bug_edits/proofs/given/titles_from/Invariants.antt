-- What all words give follows from the titles so far and from the words that are left.
use Rattle.std.proofs.Common.{◌∷◌, ◌+◌, drop, map}
use Rattle.bug_edits.specs.Given.{titles_from}
use Rattle.bug_edits.proofs.ArgumentLemmas.{text}
use Rattle.bug_edits.proofs.TitleLemmas.{So}
use Rattle.bug_edits.proofs.given.titles_from.Given as goal

abbrev pub invariant-loop-index : goal.invariant-loop-index
invariant-loop-index l = So text (titles_from 2 (l.fn.first ∷ map text l.words)) l.titles.items (l.index + 3) (drop l.index l.words)
