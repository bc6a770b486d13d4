-- The name, the colon, the value and the comma stand where they were found.
use Rattle.std.proofs.Common.{◌+◌, inl}
use Rattle.json_span.specs.Bare.{stays, passes_comma}
use Rattle.json_span.proofs.BareLaws.{value_grows}
use Rattle.json_span.proofs.bare.bare_member.Goals as goal

pub span_to-requires : goal.span_to-requires
span_to-requires c = value_grows c.args.text.now (c.in_ok-colon.colon + 1) c.in-Some.value.end c.in-Some.value.at c.in-Some.ensures

pub returns-then-stands : goal.returns-then-stands
returns-then-stands c = inl (record {
  colon = c.in_ok-colon.colon;
  to = c.in-Some.value.end;
  at = c.in-Some.value.at;
  is_name = c.in_ok-colon.ensures;
  is_colon = c.stands.ensures.0 c.if-not-stands.false;
  is_value = c.in-Some.ensures;
  goes = passes_comma (c.stands-2.ensures.0 c.if-stands.true);
  name = c.span_to-name.ensures;
  value = c.span_to.ensures;
})

pub returns-else-stands : goal.returns-else-stands
returns-else-stands c = inl (record {
  colon = c.in_ok-colon.colon;
  to = c.in-Some.value.end;
  at = c.in-Some.value.at;
  is_name = c.in_ok-colon.ensures;
  is_colon = c.stands.ensures.0 c.if-not-stands.false;
  is_value = c.in-Some.ensures;
  goes = stays;
  name = c.span_to-name.ensures;
  value = c.span_to.ensures;
})
