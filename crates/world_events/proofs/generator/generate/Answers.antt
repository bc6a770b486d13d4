use Rattle.std.proofs.Common.{◌≡◌, [], ◌∷◌, All, sym, ◌∙◌, subst, ap, arith}
use Rattle.std.proofs.lemmas.Grind.{common_steps}
use Rattle.std.proofs.lemmas.List.Elements.{All-append, All-cons, All-nil}
use Rattle.std.proofs.lemmas.List.FromFn.{map-range_with_len_more}
use Rattle.world_events.specs.Events.{event_at, event_of}
use Rattle.world_events.specs.Within.{IsWithin}
use Rattle.world_events.proofs.DrawLemmas.{no_lots_yet}
use Rattle.world_events.proofs.generator.generate.Goals as goal

pub loop-place-init : goal.loop-place-init
loop-place-init c = record {
  made = c.new-events.ensures;
  state = sym (no_lots_yet c.args.number c.args.folders);
  within = grind (arith, common_steps);
}

pub loop-place-preserved : goal.loop-place-preserved
loop-place-preserved c =
    let before = c.loop-place.invariant in
    let turn = c.next_turn-turn.ensures in
    let next : c.event_at.result ≡ event_of c.args.number c.args.folders c.loop-place.place
    = c.event_at.ensures ∙ ap (event_at c.args.number c.loop-place.place) (turn.turn c.args.number before.state) in
    let more = map-range_with_len_more (event_of c.args.number c.args.folders) 0 c.loop-place.place c.loop-place.place (omega arith) in
    let within : IsWithin c.args.folders c.event_at.result
    = subst (IsWithin c.args.folders) (sym c.event_at.ensures) (record { folder = turn.within.folder; peer = turn.within.peer }) in
    record {
      made = cc (c.in-Ok.ensures.ok, before.made, next, more);
      state = turn.state c.args.number before.state;
      within = subst (All (IsWithin c.args.folders)) (sym c.in-Ok.ensures.ok)
          (All-append (IsWithin c.args.folders) c.loop-place.events (c.event_at.result ∷ []) before.within
          (All-cons (IsWithin c.args.folders) c.event_at.result [] within (All-nil (IsWithin c.args.folders))));
    }
