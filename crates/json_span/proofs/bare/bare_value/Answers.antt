-- Each kind of value ends where it was found to.
use Rattle.json_span.specs.Bare.{bare_string, bare_null, bare_number}
use Rattle.json_span.proofs.bare.bare_value.Goals as goal

pub returns-in_ok-end-in-34 : goal.returns-in_ok-end-in-34
returns-in_ok-end-in-34 c = bare_string c.in_ok-end-in-34.ensures

pub returns-in_ok-end-in-110 : goal.returns-in_ok-end-in-110
returns-in_ok-end-in-110 c = bare_null c.in_ok-end-in-110.ensures

pub returns-in_ok-end-in_default : goal.returns-in_ok-end-in_default
returns-in_ok-end-in_default c = bare_number c.in_ok-end-in_default.ensures
