-- What is passed leaves the state as it is.
use Rattle.std.proofs.Common.{◌≡◌, ℕ, List, take, subst, sym, ap, ◌∙◌, rules}
use Rattle.json_span.specs.Grammar.{Each, is_digit, is_plain, is_space}
use Rattle.json_span.specs.Steps.{AllStay, state_of}
use Rattle.json_span.specs.declared.machine.Machine.{Machine}
use Rattle.json_span.specs.declared.state.At.{At}
use Rattle.json_span.specs.declared.state.At.TheVariants.{Text, Number}
use Rattle.json_span.specs.declared.state.NumberAt.{NumberAt}
use Rattle.json_span.specs.declared.state.NumberAt.TheVariants.{InInteger, InFraction, InExponent}
use Rattle.json_span.specs.declared.state.StringAt.TheVariants.{Plain}
use Rattle.json_span.proofs.PassLaws.{TakesDigits, all_stay, plain_stays, digit_stays, space_stays, integer_takes, fraction_takes, exponent_takes}
use Rattle.json_span.proofs.TakenLaws.{S}
use Rattle.json_span.proofs.machine.Machine.passed.Goals as goal

-- bytes that leave a state as it is leave that of a machine which stands there
stay_at : (m : Machine) (at : At) (bs : List ℕ) → m.at ≡ at → AllStay (S at m.nest.0 m.nest.1) bs → AllStay (state_of m) bs
stay_at m at bs is all = subst (λ a. AllStay (S a m.nest.0 m.nest.1) bs) (sym is) all

digits_stay : (m : Machine) (n : NumberAt) (bs : List ℕ) → m.at ≡ Number n → TakesDigits n → Each is_digit bs → AllStay (state_of m) bs
digits_stay m n bs is takes each = stay_at m (Number n) bs is (all_stay (S (Number n) m.nest.0 m.nest.1) is_digit bs (λ b digit. digit_stays n m.nest.0 m.nest.1 b takes digit) each)

pub returns-in-Text-default-Plain-clause-same : goal.returns-in-Text-default-Plain-clause-same
returns-in-Text-default-Plain-clause-same c =
    let plain : c.in-Text-default-Plain.field-1 ≡ Plain = search rules in
    let bytes = take c.plain_front.result c.args.text.now in
    let role = c.in-Text-default-Plain.field-0 in
    let nest = c.args.self.now.nest in
    stay_at c.args.self.now (Text role Plain) bytes (c.in-Text-default-Plain.is ∙ ap (Text role) plain)
    (all_stay (S (Text role Plain) nest.0 nest.1) is_plain bytes (plain_stays role nest.0 nest.1) c.plain_front.ensures.each)

pub returns-in-Number-InInteger-clause-same : goal.returns-in-Number-InInteger-clause-same
returns-in-Number-InInteger-clause-same c =
    let is : c.in-Number-InInteger.field-0 ≡ InInteger = search rules in
    digits_stay c.args.self.now InInteger (take c.digit_front.result c.args.text.now) (c.in-Number-InInteger.is ∙ ap (λ n. Number n) is) integer_takes c.digit_front.ensures.each

pub returns-in-Number-InFraction-clause-same : goal.returns-in-Number-InFraction-clause-same
returns-in-Number-InFraction-clause-same c =
    let is : c.in-Number-InFraction.field-0 ≡ InFraction = search rules in
    digits_stay c.args.self.now InFraction (take c.digit_front-in-Number-InFraction.result c.args.text.now) (c.in-Number-InFraction.is ∙ ap (λ n. Number n) is) fraction_takes c.digit_front-in-Number-InFraction.ensures.each

pub returns-in-Number-InExponent-clause-same : goal.returns-in-Number-InExponent-clause-same
returns-in-Number-InExponent-clause-same c =
    let is : c.in-Number-InExponent.field-0 ≡ InExponent = search rules in
    digits_stay c.args.self.now InExponent (take c.digit_front-in-Number-InExponent.result c.args.text.now) (c.in-Number-InExponent.is ∙ ap (λ n. Number n) is) exponent_takes c.digit_front-in-Number-InExponent.ensures.each

pub returns-in_default-clause-same : goal.returns-in_default-clause-same
returns-in_default-clause-same c =
    all_stay (state_of c.args.self.now) is_space (take c.space_front.result c.args.text.now)
    (λ b is. space_stays c.args.self.now.at c.args.self.now.nest.0 c.args.self.now.nest.1 b c.in_default.not-Text c.in_default.not-Number c.in_default.not-Literal is) c.space_front.ensures.each
