use Rattle.std.proofs.Common.{◌≡◌, ◌∙◌, [], ◌∷◌, ◌++◌, List, ℕ, flat_map, get_or, ap, subst, sym}
use Rattle.std.proofs.lemmas.Grind.{flat_map-append}
use Rattle.std.proofs.lemmas.List.{append-nil}
use Rattle.gb_store.specs.Files.{History}
use Rattle.gb_text.specs.declared.id.Id.{Id}
use Rattle.sha2.specs.Hashers.{Holds256}
use Rattle.world.specs.Shown.{Shows}
use Rattle.world.proofs.ZipLemmas.{take_next}
use Rattle.world.proofs.shown.hash_of.Goals as goal

no_id : Id
no_id = record { bytes = [] }

pub loop-bug-preserved : goal.loop-bug-preserved
unfolding no_id
loop-bug-preserved c =
    let was = c.loop-bug.invariant in
    let shown = c.in_ok-out.ensures in
    let texts = was.shown.0 in
    let text = c.in_ok-out.out.written in
    let all = λ (ts : List (List ℕ)). flat_map (λ (t : List ℕ). t) ts in
    let more : all (texts ++ text ∷ []) ≡ all texts ++ c.bytes.result.now
    = flat_map-append (λ (t : List ℕ). t) texts (text ∷ []) ∙ ap (λ (t : List ℕ). all texts ++ t) (append-nil text ∙ sym c.bytes.ensures) in
    record {
      shown = (
        texts ++ text ∷ [],
        take_next (Shows c.args.store.now.history c.args.folder) c.args.bugs.now c.loop-bug.bug-index no_id texts text c.loop-bug-test.true was.shown.1
            (subst (λ (h : History). Shows h c.args.folder (get_or c.args.bugs.now c.loop-bug.bug-index no_id) text) was.unwritten shown.shows),
        subst (Holds256 c.update.new.self) (sym more) (c.update.ensures (all texts) was.shown.2),
      );
      unwritten = shown.unwritten ∙ was.unwritten;
      calm = shown.calm;
    }
