use Rattle.std.proofs.Common.{◌≡◌, refl, arith}
use Rattle.std.proofs.lemmas.Grind.{common_steps}
use Rattle.gb_text.specs.Folder.{is_rooted}
use Rattle.gb_text.specs.Overlap.{steps_of}
use Rattle.gb_text.proofs.OverlapLemmas.{agree, Overlap-from_agree, agree-Overlap}
use Rattle.gb_text.proofs.folder.Folder.overlaps.Goals as goal

pub returns-then-is_rooted : goal.returns-then-is_rooted
returns-then-is_rooted c =
    let root : is_rooted c.args.self.now ≡ is_rooted c.args.other.now = grind (arith, common_steps, c.if-is_rooted.true, c.is_rooted.ensures, c.is_rooted-2.ensures, c.as_str-one.ensures, c.as_str-two.ensures) in
    let value : c.steps_agree.result ≡ agree (steps_of c.args.self.now) (steps_of c.args.other.now) = grind (arith, common_steps, c.steps_agree.ensures, c.as_str-one.ensures, c.as_str-two.ensures) in (
      λ yes. Overlap-from_agree c.args.self.now c.args.other.now root (rw value at yes),
      λ over. rw (value, agree-Overlap c.args.self.now c.args.other.now over) refl,
    )
