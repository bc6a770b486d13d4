-- Each byte keeps what is read, and where the reading stops the text is refused.
use Rattle.std.proofs.Common.{◌≡◌, ℕ, List, true, ◌++◌, ◌∷◌, [], sym, ap, ◌∙◌, subst, Vec, Global, ◌+◌, arith, length, length-drop, take}
use Rattle.std.proofs.lemmas.List.{take_rest}
use Rattle.json_span.specs.Steps.{AllStay, state_of, stepped}
use Rattle.json_span.specs.Bare.{awaits_name}
use Rattle.json_span.specs.declared.Span.{Span}
use Rattle.json_span.specs.declared.marks.Marks.{Marks}
use Rattle.json_span.proofs.BasicLaws.{some_is}
use Rattle.json_span.proofs.PassLaws.{has_passed}
use Rattle.json_span.proofs.ReadLaws.{HasRead, gained, has_begun, has_gone_on, has_stopped, has_found, has_failed}
use Rattle.json_span.proofs.BareLaws.{has_member, has_begun_member, has_deep_member, member_ends}
use Rattle.json_span.proofs.split.split.Goals.{in-Some-finished+in_ok-push-2, in_default-finished, then-not-is_deep+then-is_whole+in_ok-push, then-not-is_deep+else-is_whole, else-not-is_deep}
use Rattle.json_span.proofs.split.split.Goals as goal

pub bytes-init : goal.bytes-init
bytes-init g c =
    let begun : HasRead g.row.P.Denot g.P.Kept.kept c.args.kind c.args.text.now 0 c.in_ok-parts.parts.items (state_of c.new-machine.result) c.new-marks.result =
    rw (c.in_ok-parts.ensures.items, c.new-machine.ensures, c.new-marks.ensures) (has_begun g.row.P.Denot g.P.Kept.kept c.args.kind c.args.text.now) in
    let passed = has_passed g.row.P.Denot g.P.Kept.kept c.args.kind c.args.text.now 0 c.passed-place.result c.in_ok-parts.parts.items (state_of c.new-machine.result) c.new-marks.result begun c.passed-place.ensures.same in
    record { within = c.passed-place.ensures.within; read = let e : 0 + c.passed-place.result ≡ c.passed-place.result = omega arith in subst (λ place. HasRead g.row.P.Denot g.P.Kept.kept c.args.kind c.args.text.now place c.in_ok-parts.parts.items (state_of c.new-machine.result) c.new-marks.result) e passed }

pub returns-then-not-step-clause-refused : goal.returns-then-not-step-clause-refused
returns-then-not-step-clause-refused g c =
    has_stopped g.row.P.Denot g.P.Kept.kept c.args.kind c.args.text.now c.bytes.place c.bytes.parts.items (state_of c.bytes.machine) c.bytes.marks c.bytes-test.true c.bytes.invariant.read
    (ap (λ taken. stepped taken c.step.new.self) (sym c.if-not-step.true) ∙ c.step.ensures)

pub bytes-preserved : goal.bytes-preserved
bytes-preserved g c =
    let met : c.match-finished.parts.items ≡ gained g.P.Kept.kept c.bytes.parts.items c.finished.result = elim c.match-finished.branch [
      | in-Some-finished+in_ok-push-2 w ↦ ap (λ (v : Vec g.row.P.Denot Global). v.items) w.parts-is ∙ w.in_ok-push-2.ensures.items ∙ ap (λ (x : g.row.P.Denot). c.bytes.parts.items ++ x ∷ []) w.keep-in-Some-finished.ensures ∙ sym (ap (gained g.P.Kept.kept c.bytes.parts.items) w.in-Some-finished.is)
      | in_default-finished w ↦ ap (λ (v : Vec g.row.P.Denot Global). v.items) w.parts-is ∙ sym (ap (gained g.P.Kept.kept c.bytes.parts.items) w.in_default-finished.is)
    ] in
    let on = has_gone_on g.row.P.Denot g.P.Kept.kept c.args.kind c.args.text.now c.bytes.place c.bytes.parts.items c.match-finished.parts.items (state_of c.bytes.machine) (state_of c.step.new.self) c.bytes.marks c.marked-marks.result c.within-before.result c.within-after.result c.finished.result
    c.bytes-test.true c.bytes.invariant.read (ap (λ taken. stepped taken c.step.new.self) (sym c.if-not-step.false) ∙ c.step.ensures) c.within-before.ensures c.within-after.ensures c.finished.ensures c.marked-marks.ensures.marked c.marked-marks.ensures.begun met in
    let more = c.passed-place-in-bytes.ensures.within in
    record {
      within = omega (arith, more, c.bytes-test.true, ap length (take_rest c.args.text.now (c.bytes.place + 1)), length-drop (c.bytes.place + 1) c.args.text.now);
      read = has_passed g.row.P.Denot g.P.Kept.kept c.args.kind c.args.text.now (c.bytes.place + 1) c.passed-place-in-bytes.result c.match-finished.parts.items (state_of c.step.new.self) c.marked-marks.result on
          (subst (λ rest. AllStay (state_of c.step.new.self) (take c.passed-place-in-bytes.result rest)) (take_rest c.args.text.now (c.bytes.place + 1)) c.passed-place-in-bytes.ensures.same);
    }

pub returns-then-is_done-clause-found : goal.returns-then-is_done-clause-found
returns-then-is_done-clause-found g c =
    has_found g.row.P.Denot g.P.Kept.kept c.args.kind c.args.text.now c.bytes.place c.bytes.parts.items (state_of c.bytes.machine) c.bytes.marks c.bytes-test.false c.bytes.invariant.within c.bytes.invariant.read c.if-is_done.ensures

pub returns-else-is_done-clause-refused : goal.returns-else-is_done-clause-refused
returns-else-is_done-clause-refused g c =
    has_failed g.row.P.Denot g.P.Kept.kept c.args.kind c.args.text.now c.bytes.place c.bytes.parts.items (state_of c.bytes.machine) c.bytes.marks c.bytes-test.false c.bytes.invariant.within c.bytes.invariant.read c.if-is_done.ensures

abbrev marks_of : Span → ℕ → Marks
marks_of name from = record { name = name; from = from }

pub bytes-smaller-in-Some : goal.bytes-smaller-in-Some
bytes-smaller-in-Some g c =
    let ends = member_ends c.args.text.now c.bytes.place c.in-Some.bare c.in-Some.ensures in
    let on = ends.0 in
    let within = ends.1 in
    omega (arith, on, within)

pub bytes-preserved-in-Some : goal.bytes-preserved-in-Some
bytes-preserved-in-Some g c =
    let text = c.args.text.now in
    let bare = c.in-Some.bare in
    let s = state_of c.bytes.machine in
    let waits : awaits_name s.at s.kinds ≡ true = sym c.awaits_name.ensures ∙ c.if-awaits_name.true in
    let stands : record { at = bare.at; kinds = s.kinds; room = s.room } ≡ state_of c.stand.new.self = sym (some_is (state_of c.stand.new.self) (record { at = bare.at; kinds = s.kinds; room = s.room }) c.stand.ensures) in
    let Read = λ (met : List g.row.P.Denot) (m : Marks). HasRead g.row.P.Denot g.P.Kept.kept c.args.kind text bare.end met (record { at = bare.at; kinds = s.kinds; room = s.room }) m in
    let read : Read c.if-not-is_deep.parts.items c.if-not-is_deep.marks = elim c.if-not-is_deep.branch [
      | then-not-is_deep+then-is_whole+in_ok-push w ↦
          let items : c.if-not-is_deep.parts.items ≡ c.bytes.parts.items ++ g.P.Kept.kept bare.member ∷ [] =
          ap (λ (v : Vec g.row.P.Denot Global). v.items) w.parts-is ∙ w.in_ok-push.ensures.items ∙ ap (λ (x : g.row.P.Denot). c.bytes.parts.items ++ x ∷ []) w.keep.ensures in
          subst (λ met. Read met c.if-not-is_deep.marks) (sym items) (subst (Read (c.bytes.parts.items ++ g.P.Kept.kept bare.member ∷ [])) (sym (w.marks-is ∙ w.new-marks-then-is_whole.ensures))
          (has_member g.row.P.Denot g.P.Kept.kept c.args.kind text c.bytes.place c.bytes.parts.items s c.bytes.marks bare c.bytes.invariant.read waits (sym c.is_deep.ensures ∙ w.if-not-is_deep.true) c.in-Some.ensures (sym w.is_whole.ensures ∙ w.if-is_whole.true)))
      | then-not-is_deep+else-is_whole w ↦
          let marks : c.if-not-is_deep.marks ≡ record { name = bare.member.name; from = bare.member.value.at } =
          w.marks-is ∙ ap (λ x. marks_of x w.of_value-marks.result.from) w.of_value-marks.ensures.name ∙ ap (marks_of bare.member.name) w.of_value-marks.ensures.from in
          subst (λ met. Read met c.if-not-is_deep.marks) (sym (ap (λ (v : Vec g.row.P.Denot Global). v.items) w.parts-is)) (subst (Read c.bytes.parts.items) (sym marks)
          (has_begun_member g.row.P.Denot g.P.Kept.kept c.args.kind text c.bytes.place c.bytes.parts.items s c.bytes.marks bare c.bytes.invariant.read waits (sym c.is_deep.ensures ∙ w.if-not-is_deep.true) c.in-Some.ensures (sym w.is_whole.ensures ∙ w.if-is_whole.false)))
      | else-not-is_deep w ↦
          subst (λ met. Read met c.if-not-is_deep.marks) (sym (ap (λ (v : Vec g.row.P.Denot Global). v.items) w.parts-is)) (subst (Read c.bytes.parts.items) (sym w.marks-is)
          (has_deep_member g.row.P.Denot g.P.Kept.kept c.args.kind text c.bytes.place c.bytes.parts.items s c.bytes.marks bare c.bytes.invariant.read waits (sym c.is_deep.ensures ∙ w.if-not-is_deep.false) c.in-Some.ensures))
    ] in
    record {
      within = (member_ends text c.bytes.place bare c.in-Some.ensures).1;
      read = subst (λ t. HasRead g.row.P.Denot g.P.Kept.kept c.args.kind text bare.end c.if-not-is_deep.parts.items t c.if-not-is_deep.marks) stands read;
    }
