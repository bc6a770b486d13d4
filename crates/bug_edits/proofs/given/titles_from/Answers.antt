use Rattle.std.proofs.Common.{◌∙◌, ◌∷◌, [], ◌++◌, ◌+◌, sym, ap, subst, drop, map, Ok}
use Rattle.bug_edits.specs.Given.{titles_from}
use Rattle.bug_edits.proofs.ArgumentLemmas.{text}
use Rattle.bug_edits.proofs.TitleLemmas.{So, all_read, ends_there, with_the_first, with_the_next}
use Rattle.bug_edits.proofs.given.titles_from.Goals as goal

pub loop-index-init : goal.loop-index-init
loop-index-init c =
    let words = c.args.words.now in
    let all = titles_from 2 (c.args.first.now ∷ map text words) in
    subst (λ titles. So text all titles 3 words) (sym (c.in_ok-push.ensures.items ∙ ap (λ before. before ++ c.in-Some.title ∷ []) c.new-titles.ensures.items))
    (with_the_first text 2 c.args.first words c.in-Some.title (sym c.in-Some.is ∙ c.in_ok-title.ensures.read))

pub returns-in_default-2 : goal.returns-in_default-2
returns-in_default-2 c =
    let words = c.args.words.now in
    let all = titles_from 2 (c.args.first.now ∷ map text words) in
    ends_there text all c.loop-index.titles.items words c.loop-index.index _ c.loop-index-test.true (sym c.in_default-2.is ∙ c.in_ok-title-2.ensures.read) c.loop-index.invariant

pub loop-index-preserved : goal.loop-index-preserved
loop-index-preserved c =
    let words = c.args.words.now in
    let index = c.loop-index.index in
    let all = titles_from 2 (c.args.first.now ∷ map text words) in
    subst (λ titles. So text all titles (index + 1 + 3) (drop (index + 1) words)) (sym c.in_ok-push-2.ensures.items)
    (with_the_next text all c.loop-index.titles.items words index _ c.in-Some-2.title c.loop-index-test.true
    (sym c.in-Some-2.is ∙ c.in_ok-title-2.ensures.read) c.loop-index.invariant)

pub returns : goal.returns
returns c =
    let words = c.args.words.now in
    let all = titles_from 2 (c.args.first.now ∷ map text words) in
    ap Ok c.from_vec.ensures ∙ all_read text all c.loop-index.titles.items words c.loop-index.index (c.loop-index.index + 3) c.loop-index-test.false c.loop-index.invariant
