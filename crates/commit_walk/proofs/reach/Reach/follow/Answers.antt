use Rattle.std.proofs.Common.{◌≡◌, ◌<◌, ◌++◌, ◌∷◌, [], length, Some, slice_get, refl, sym, ◌∙◌, subst, arith}
use Rattle.std.specs.Bool.{⊤}
use Rattle.std.proofs.lemmas.List.Elements.{Contains-append_left}
use Rattle.std.proofs.lemmas.Option.{slice_get_within}
use Rattle.gb_store.specs.Files.{History}
use Rattle.gb_store.proofs.FaultLemmas.{KeepsFaults_then}
use Rattle.object_store.specs.Held.{objects_after}
use Rattle.commit_walk.specs.Reaches.{IsReach, Reached, TurnedIn, known}
use Rattle.commit_walk.specs.Queues.{Adds}
use Rattle.commit_walk.specs.declared.reach.Reach.{Reach}
use Rattle.commit_walk.proofs.ReachLemmas.{IsReach-more, IsReach-turn, Reached-more, Reached-turn, add_more, all_read, reads_known, reads_more, turned_more}
use Rattle.commit_walk.proofs.reach.Reach.follow.Goals as goal

pub loop-place-init : goal.loop-place-init
loop-place-init g c =
    let objects = objects_after (g.S.Store.history c.args.disk.now) c.args.folder.now in
    let old = c.args.self.now in
    let new : Reach = record { queue = c.add.new.self; walk = old.walk; wrong = old.wrong } in
    let adds : Adds (known old) (c.args.head.now ∷ []) (known new) = c.in_ok-add.ensures.adds in
    let longer = add_more (known old) (c.args.head.now ∷ []) (known new) adds in
    let start : c.len-start.result ≡ length (known old) = omega (arith, c.len-start.ensures, old.queue.names.ok.0) in
    record {
      queue = c.in_ok-add.ensures.queue;
      reach = λ tops is. subst (IsReach (tops ++ c.args.head.now ∷ []) new) (sym start) (IsReach-more tops old new c.args.head.now (length (known old)) is (omega arith) adds refl refl);
      reached = λ tells tops is. subst (Reached objects (tops ++ c.args.head.now ∷ []) new) (sym start) (Reached-more objects tops old new c.args.head.now is adds refl refl);
      unwritten = λ tells. refl;
      reads = omega (arith, start);
      within = omega (arith, start, longer);
      caused = record { counts = omega arith; cause = λ f. absurd f; told = λ f. refl; calm = λ calm. (λ f. f, calm) };
    }

pub loop-place-preserved : goal.loop-place-preserved
loop-place-preserved g c =
    let objects = objects_after (g.S.Store.history c.args.disk.now) c.args.folder.now in
    let head = c.args.head.now in
    let first = c.args.self.now in
    let old = c.loop-place.self in
    let new = c.turn.new.self in
    let name = c.in-Some.name in
    let place = c.loop-place.place in
    let before = c.loop-place.invariant in
    let at : slice_get (known old) place ≡ Some name = sym c.get.ensures ∙ c.in-Some.is in
    let within : place < length (known old) = slice_get_within (known old) place name at in
    record {
      queue = c.in_ok-turn.ensures.queue;
      reach = λ tops is. IsReach-turn (tops ++ head ∷ []) old new name place (before.reach tops is) at c.in_ok-turn.ensures.turned;
      reached = λ tells tops is.
          let turned : TurnedIn objects old new name = subst (λ (h : History). TurnedIn (objects_after h c.args.folder.now) old new name) (before.unwritten tells) (c.in_ok-turn.ensures.answers tells) in
          Reached-turn objects (tops ++ head ∷ []) old new name place (before.reached tells tops is) at turned;
      unwritten = λ tells. c.in_ok-turn.ensures.unwritten tells ∙ before.unwritten tells;
      reads = omega (arith, before.reads, c.in_ok-turn.ensures.reads);
      within = omega (arith, within, turned_more (λ met. ⊤) (λ f. ⊤) old new name c.in_ok-turn.ensures.turned);
      caused = KeepsFaults_then g.S.Store.never_fails g.S.Store.faults _ ⊥ c.args.disk.now c.loop-place.disk c.turn.new.disk before.caused c.in_ok-turn.ensures.caused (λ none. absurd none) (λ fails. absurd (cc));
    }

pub returns-in_default-clause-reach : goal.returns-in_default-clause-reach
returns-in_default-clause-reach g c = λ tops is.
    let all : c.loop-place.place ≡ length (known c.loop-place.self) = all_read (known c.loop-place.self) c.loop-place.place c.loop-place.invariant.within (sym c.get.ensures ∙ c.in_default.is) in
    subst (IsReach (tops ++ c.args.head.now ∷ []) c.loop-place.self) all (c.loop-place.invariant.reach tops is)

pub returns-in_default-clause-reached : goal.returns-in_default-clause-reached
returns-in_default-clause-reached g c = λ tells tops is.
    let objects = objects_after (g.S.Store.history c.args.disk.now) c.args.folder.now in
    let all : c.loop-place.place ≡ length (known c.loop-place.self) = all_read (known c.loop-place.self) c.loop-place.place c.loop-place.invariant.within (sym c.get.ensures ∙ c.in_default.is) in
    subst (Reached objects (tops ++ c.args.head.now ∷ []) c.loop-place.self) all (c.loop-place.invariant.reached tells tops is)

pub returns-in_err-add-clause-each : goal.returns-in_err-add-clause-each
returns-in_err-add-clause-each g c = λ tells tops is.
    let objects = objects_after (g.S.Store.history c.args.disk.now) c.args.folder.now in
    let reads = g.S.Store.object_reads c.args.disk.now in
    reads_more objects tops (tops ++ c.args.head.now ∷ []) (length (known c.args.self.now)) reads reads (λ n m. Contains-append_left tops (c.args.head.now ∷ []) n m)
    (reads_known objects tops c.args.self.now (length (known c.args.self.now)) is c.requires.once (length (known c.args.self.now)) reads reads (omega arith))

pub returns-in_default-clause-each : goal.returns-in_default-clause-each
returns-in_default-clause-each g c = λ tells tops is.
    let objects = objects_after (g.S.Store.history c.args.disk.now) c.args.folder.now in
    let before = c.loop-place.invariant in
    reads_known objects (tops ++ c.args.head.now ∷ []) c.loop-place.self c.loop-place.place (before.reached tells tops is) before.queue.once (length (known c.args.self.now))
    (g.S.Store.object_reads c.args.disk.now) (g.S.Store.object_reads c.loop-place.disk) (omega (arith, before.reads, before.within))

pub returns-in_err-turn-clause-each : goal.returns-in_err-turn-clause-each
returns-in_err-turn-clause-each g c = λ tells tops is.
    let objects = objects_after (g.S.Store.history c.args.disk.now) c.args.folder.now in
    let before = c.loop-place.invariant in
    let at : slice_get (known c.loop-place.self) c.loop-place.place ≡ Some c.in-Some.name = sym c.get.ensures ∙ c.in-Some.is in
    let within = slice_get_within (known c.loop-place.self) c.loop-place.place c.in-Some.name at in
    reads_known objects (tops ++ c.args.head.now ∷ []) c.loop-place.self c.loop-place.place (before.reached tells tops is) before.queue.once (length (known c.args.self.now))
    (g.S.Store.object_reads c.args.disk.now) (g.S.Store.object_reads c.turn.new.disk) (omega (arith, before.reads, within, c.in_err-turn.ensures.reads))

pub returns-clause-each : goal.returns-clause-each
returns-clause-each g c = λ tells tops is.
    let objects = objects_after (g.S.Store.history c.args.disk.now) c.args.folder.now in
    let before = c.loop-place.invariant in
    reads_known objects (tops ++ c.args.head.now ∷ []) c.loop-place.self c.loop-place.place (before.reached tells tops is) before.queue.once (length (known c.args.self.now))
    (g.S.Store.object_reads c.args.disk.now) (g.S.Store.object_reads c.loop-place.disk) (omega (arith, before.reads, before.within))
