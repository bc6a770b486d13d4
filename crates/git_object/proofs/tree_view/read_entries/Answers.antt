use Rattle.std.proofs.Common.{◌≡◌, ap, sym, ◌∙◌, refl, subst, map, List, ◌∷◌, [], ◌++◌, Some, None, Option}
use Rattle.std.specs.Option.{option_map}
use Rattle.std.proofs.lemmas.List.{map-append}
use Rattle.git_object.specs.declared.entry.Entry.{Entry}
use Rattle.git_object.specs.declared.tree_view.EntryView.{EntryView}
use Rattle.git_object.specs.Reading.{entry_step, all_at}
use Rattle.git_object.specs.Views.{entry_seen}
use Rattle.git_object.proofs.RepeatLaws.{SoFar, so_far_next, so_far_end, so_far_fails}
use Rattle.git_object.proofs.TreeLaws.{entry_takes_some, ends_at, fails_at}
use Rattle.git_object.proofs.tree_view.read_entries.Goals as goal

pub returns-in_default : goal.returns-in_default
returns-in_default c =
    fails_at c.args.content.now (so_far_fails entry_step (map entry_seen c.loop-entry.entries.items) c.loop-entry.rest.now (all_at entry_step c.args.content.now) (sym c.in_default.ensures) c.loop-entry.invariant)

pub returns-in_default-entry : goal.returns-in_default-entry
returns-in_default-entry c =
    let at : entry_step c.loop-entry.rest.now ≡ Some (None, c.in-Some.next.now) = sym c.in-Some.ensures ∙ ap (λ (o : Option EntryView). Some (option_map entry_seen o, c.in-Some.next.now)) c.in_default-entry.is in
    rw c.from_vec.ensures (ends_at c.args.content.now (all_at entry_step c.args.content.now) (map entry_seen c.loop-entry.entries.items) c.in-Some.next.now refl (so_far_end entry_step (map entry_seen c.loop-entry.entries.items) c.loop-entry.rest.now (all_at entry_step c.args.content.now) c.in-Some.next.now at c.loop-entry.invariant))

pub loop-entry-smaller : goal.loop-entry-smaller
loop-entry-smaller c =
    let at : entry_step c.loop-entry.rest.now ≡ Some (Some (entry_seen c.in-Some-entry.entry), c.in-Some.next.now) = sym c.in-Some.ensures ∙ ap (λ (o : Option EntryView). Some (option_map entry_seen o, c.in-Some.next.now)) c.in-Some-entry.is in
    entry_takes_some.less c.loop-entry.rest.now (entry_seen c.in-Some-entry.entry) c.in-Some.next.now at

pub loop-entry-preserved : goal.loop-entry-preserved
loop-entry-preserved c =
    let at : entry_step c.loop-entry.rest.now ≡ Some (Some (entry_seen c.in-Some-entry.entry), c.in-Some.next.now) = sym c.in-Some.ensures ∙ ap (λ (o : Option EntryView). Some (option_map entry_seen o, c.in-Some.next.now)) c.in-Some-entry.is in
    let more : map entry_seen c.loop-entry.entries.items ++ entry_seen c.in-Some-entry.entry ∷ [] ≡ map entry_seen c.push.new.self.items = sym (ap (map entry_seen) c.in-Ok.ensures.items ∙ map-append entry_seen c.loop-entry.entries.items (c.in-Some-entry.entry ∷ [])) in
    subst (λ (front : List Entry). SoFar entry_step front c.in-Some.next.now (all_at entry_step c.args.content.now)) more (so_far_next entry_step entry_takes_some (map entry_seen c.loop-entry.entries.items) c.loop-entry.rest.now (all_at entry_step c.args.content.now) (entry_seen c.in-Some-entry.entry) c.in-Some.next.now at c.loop-entry.invariant)
