use Rattle.std.proofs.Common.{◌≡◌, ◌+◌, ◌≤◌, ◌<◌, length, take, chars, refl, sym, ap, ◌∙◌, subst, arith}
use Rattle.std.specs.Str.{IsCharBoundary}
use Rattle.std.proofs.lemmas.Iterator.{YieldsList-from_chars}
use Rattle.std.proofs.lemmas.Iterator.Consumers.{YieldsList-end, YieldsList-turn}
use Rattle.std.proofs.lemmas.List.{length_push}
use Rattle.columns.specs.Cells.{front_of}
use Rattle.columns.specs.Widths.{width}
use Rattle.columns.proofs.FrontLemmas.{all_of, boundary, characters, ends, fits_front, goes, has_front, next_place, one_more, spells_front, stops, up_to, within}
use Rattle.columns.proofs.StepLemmas.{no_width}
use Rattle.columns.proofs.front.front.Goals as goal

pub loop-c-init : goal.loop-c-init
loop-c-init c = record { place = refl; wide = sym no_width; within = omega arith; left = refl }

pub overflow_add-next : goal.overflow_add-next
overflow_add-next c =
    let t = YieldsList-turn (YieldsList-from_chars c.args.text.now c.utf8.text cc) c.loop-c.yielded _ c.loop-c.yielded_by _ _ c.in-Some.c c.in-Some.is c.next.ensures.steps in
    let n = length c.loop-c.yielded in
    let place = next_place c.args.text.now c.loop-c.end n c.in-Some.c c.len_utf8.result c.loop-c.invariant.place t.0 t.1 c.len_utf8.ensures.value in
    omega (arith, place, within c.args.text.now (n + 1) c.utf8.text, c.type_inv.text)

pub range-requires-clause-end_boundary : goal.range-requires-clause-end_boundary
range-requires-clause-end_boundary c =
    let t = YieldsList-turn (YieldsList-from_chars c.args.text.now c.utf8.text cc) c.loop-c.yielded _ c.loop-c.yielded_by _ _ c.in-Some.c c.in-Some.is c.next.ensures.steps in
    let n = length c.loop-c.yielded in
    let place = next_place c.args.text.now c.loop-c.end n c.in-Some.c c.len_utf8.result c.loop-c.invariant.place t.0 t.1 c.len_utf8.ensures.value in
    subst (IsCharBoundary c.args.text.now) (sym place) (boundary c.args.text.now (n + 1) c.utf8.text)

pub wider-wider-requires : goal.wider-wider-requires
wider-wider-requires c =
    let t = YieldsList-turn (YieldsList-from_chars c.args.text.now c.utf8.text cc) c.loop-c.yielded _ c.loop-c.yielded_by _ _ c.in-Some.c c.in-Some.is c.next.ensures.steps in
    let n = length c.loop-c.yielded in
    let place = next_place c.args.text.now c.loop-c.end n c.in-Some.c c.len_utf8.result c.loop-c.invariant.place t.0 t.1 c.len_utf8.ensures.value in
    record {
      front = take n (chars c.args.text.now);
      ends =
          ap chars (up_to c.args.text.now c.range.result.now (c.loop-c.end + c.len_utf8.result) (n + 1) c.utf8.text place c.range.ensures.value)
          ∙ characters c.args.text.now (n + 1) c.utf8.text ∙ one_more (chars c.args.text.now) n c.in-Some.c t.0 t.1;
      wide = c.loop-c.invariant.wide;
      fits = omega arith;
    }

pub range-requires-then-wider-most-clause-end_boundary : goal.range-requires-then-wider-most-clause-end_boundary
range-requires-then-wider-most-clause-end_boundary c =
    subst (IsCharBoundary c.args.text.now) (sym c.loop-c.invariant.place) (boundary c.args.text.now (length c.loop-c.yielded) c.utf8.text)

pub loop-c-preserved : goal.loop-c-preserved
loop-c-preserved c =
    let t = YieldsList-turn (YieldsList-from_chars c.args.text.now c.utf8.text cc) c.loop-c.yielded _ c.loop-c.yielded_by _ _ c.in-Some.c c.in-Some.is c.next.ensures.steps in
    let n = length c.loop-c.yielded in
    let cs = chars c.args.text.now in
    let place = next_place c.args.text.now c.loop-c.end n c.in-Some.c c.len_utf8.result c.loop-c.invariant.place t.0 t.1 c.len_utf8.ensures.value in
    let wide : c.wider-wider.result ≡ width (take (n + 1) cs) =
    c.wider-wider.ensures ∙ ap width (ap chars (up_to c.args.text.now c.range.result.now (c.loop-c.end + c.len_utf8.result) (n + 1) c.utf8.text place c.range.ensures.value) ∙ characters c.args.text.now (n + 1) c.utf8.text) in
    let fits : width (take (n + 1) cs) ≤ c.args.most = omega (arith, wide) in
    rw (length_push c.loop-c.yielded c.in-Some.c) (record {
      place = place;
      wide = wide;
      within = omega arith;
      left = c.loop-c.invariant.left ∙ goes c.args.most cs n c.in-Some.c t.0 t.1 fits;
    })

pub returns-then-wider-most-clause-spells : goal.returns-then-wider-most-clause-spells
returns-then-wider-most-clause-spells c =
    let t = YieldsList-turn (YieldsList-from_chars c.args.text.now c.utf8.text cc) c.loop-c.yielded _ c.loop-c.yielded_by _ _ c.in-Some.c c.in-Some.is c.next.ensures.steps in
    let n = length c.loop-c.yielded in
    let cs = chars c.args.text.now in
    let place = next_place c.args.text.now c.loop-c.end n c.in-Some.c c.len_utf8.result c.loop-c.invariant.place t.0 t.1 c.len_utf8.ensures.value in
    let wide : c.wider-wider.result ≡ width (take (n + 1) cs) =
    c.wider-wider.ensures ∙ ap width (ap chars (up_to c.args.text.now c.range.result.now (c.loop-c.end + c.len_utf8.result) (n + 1) c.utf8.text place c.range.ensures.value) ∙ characters c.args.text.now (n + 1) c.utf8.text) in
    let most : c.args.most < width (take (n + 1) cs) = omega (arith, wide) in
    let front : front_of c.args.most c.args.text.now ≡ take n cs = c.loop-c.invariant.left ∙ stops c.args.most cs n c.in-Some.c t.0 t.1 most in
    spells_front c.args.most c.args.text.now c.range-then-wider-most.result.now n front (up_to c.args.text.now c.range-then-wider-most.result.now c.loop-c.end n c.utf8.text c.loop-c.invariant.place c.range-then-wider-most.ensures.value)

pub returns-clause-spells : goal.returns-clause-spells
returns-clause-spells c =
    let e = YieldsList-end (YieldsList-from_chars c.args.text.now c.utf8.text cc) c.loop-c.yielded _ c.loop-c.yielded_by _ _ c.in-None.is c.next.ensures.steps in
    let n = length c.loop-c.yielded in
    let front : front_of c.args.most c.args.text.now ≡ take n (chars c.args.text.now) = c.loop-c.invariant.left ∙ ends c.args.most (chars c.args.text.now) n (omega (arith, e.1)) in
    spells_front c.args.most c.args.text.now c.args.text.now n front (all_of c.args.text.now n c.utf8.text e.1)

pub returns-then-wider-most-clause-characters : goal.returns-then-wider-most-clause-characters
returns-then-wider-most-clause-characters c =
    let t = YieldsList-turn (YieldsList-from_chars c.args.text.now c.utf8.text cc) c.loop-c.yielded _ c.loop-c.yielded_by _ _ c.in-Some.c c.in-Some.is c.next.ensures.steps in
    let n = length c.loop-c.yielded in
    let cs = chars c.args.text.now in
    let place = next_place c.args.text.now c.loop-c.end n c.in-Some.c c.len_utf8.result c.loop-c.invariant.place t.0 t.1 c.len_utf8.ensures.value in
    let wide : c.wider-wider.result ≡ width (take (n + 1) cs) =
    c.wider-wider.ensures ∙ ap width (ap chars (up_to c.args.text.now c.range.result.now (c.loop-c.end + c.len_utf8.result) (n + 1) c.utf8.text place c.range.ensures.value) ∙ characters c.args.text.now (n + 1) c.utf8.text) in
    let most : c.args.most < width (take (n + 1) cs) = omega (arith, wide) in
    let front : front_of c.args.most c.args.text.now ≡ take n cs = c.loop-c.invariant.left ∙ stops c.args.most cs n c.in-Some.c t.0 t.1 most in
    has_front c.args.most c.args.text.now c.range-then-wider-most.result.now n c.utf8.text front (up_to c.args.text.now c.range-then-wider-most.result.now c.loop-c.end n c.utf8.text c.loop-c.invariant.place c.range-then-wider-most.ensures.value)

pub returns-clause-characters : goal.returns-clause-characters
returns-clause-characters c =
    let e = YieldsList-end (YieldsList-from_chars c.args.text.now c.utf8.text cc) c.loop-c.yielded _ c.loop-c.yielded_by _ _ c.in-None.is c.next.ensures.steps in
    let n = length c.loop-c.yielded in
    let front : front_of c.args.most c.args.text.now ≡ take n (chars c.args.text.now) = c.loop-c.invariant.left ∙ ends c.args.most (chars c.args.text.now) n (omega (arith, e.1)) in
    has_front c.args.most c.args.text.now c.args.text.now n c.utf8.text front (all_of c.args.text.now n c.utf8.text e.1)

pub returns-then-wider-most-clause-fits : goal.returns-then-wider-most-clause-fits
returns-then-wider-most-clause-fits c =
    let t = YieldsList-turn (YieldsList-from_chars c.args.text.now c.utf8.text cc) c.loop-c.yielded _ c.loop-c.yielded_by _ _ c.in-Some.c c.in-Some.is c.next.ensures.steps in
    let n = length c.loop-c.yielded in
    let cs = chars c.args.text.now in
    let place = next_place c.args.text.now c.loop-c.end n c.in-Some.c c.len_utf8.result c.loop-c.invariant.place t.0 t.1 c.len_utf8.ensures.value in
    let wide : c.wider-wider.result ≡ width (take (n + 1) cs) =
    c.wider-wider.ensures ∙ ap width (ap chars (up_to c.args.text.now c.range.result.now (c.loop-c.end + c.len_utf8.result) (n + 1) c.utf8.text place c.range.ensures.value) ∙ characters c.args.text.now (n + 1) c.utf8.text) in
    let most : c.args.most < width (take (n + 1) cs) = omega (arith, wide) in
    let front : front_of c.args.most c.args.text.now ≡ take n cs = c.loop-c.invariant.left ∙ stops c.args.most cs n c.in-Some.c t.0 t.1 most in
    fits_front c.args.most c.loop-c.width c.args.text.now n front c.loop-c.invariant.wide c.loop-c.invariant.within

pub returns-clause-fits : goal.returns-clause-fits
returns-clause-fits c =
    let e = YieldsList-end (YieldsList-from_chars c.args.text.now c.utf8.text cc) c.loop-c.yielded _ c.loop-c.yielded_by _ _ c.in-None.is c.next.ensures.steps in
    let n = length c.loop-c.yielded in
    let front : front_of c.args.most c.args.text.now ≡ take n (chars c.args.text.now) = c.loop-c.invariant.left ∙ ends c.args.most (chars c.args.text.now) n (omega (arith, e.1)) in
    fits_front c.args.most c.loop-c.width c.args.text.now n front c.loop-c.invariant.wide c.loop-c.invariant.within
