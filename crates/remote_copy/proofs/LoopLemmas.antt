-- A copy as far as it has come.
use Rattle.std.proofs.Common.{◌≡◌, ◌+◌, ℕ, Bool, List, [], length, Result, Ok, Err, refl, sym, ◌∙◌, subst, arith}
use Rattle.gb_text.specs.declared.id.Name.{Name}
use Rattle.gb_store.specs.Files.{History}
use Rattle.gb_store.specs.Moments.{Wrote}
use Rattle.gb_store.proofs.MomentLemmas.{Wrote-none, Wrote-then}
use Rattle.object_store.specs.Held.{Objects, objects_after}
use Rattle.remote_copy.specs.Causes.{CauseHolds}
use Rattle.remote_copy.specs.Copies.{CopyAnswers, StartAnswers}
use Rattle.remote_copy.specs.Copying.{IsCopying, StepAnswers, Steps}
use Rattle.remote_copy.specs.Writes.{PutsCopy}
use Rattle.remote_copy.specs.declared.fault.CopyFault.{CopyFault}
use Rattle.remote_copy.specs.declared.fault.CopyFault.TheVariants as fault
use Rattle.remote_copy.specs.declared.open.Open.{Open}
use Rattle.remote_copy.specs.declared.work.Work.{Work}

-- the source is as at the start, what was written is allowed, and as many objects were put
pub record OnTheWay (closed : Bool) (source target : List ℕ) (head : Name) (start now : History) (work : Work) : Type 0 where
  pub wrote : Wrote (PutsCopy closed source target (objects_after start target) head) start now
  pub kept : objects_after now source ≡ objects_after start source
  pub counted : length now ≡ length start + work.put
  pub copying : IsCopying closed (objects_after start source) (objects_after start target) (objects_after now target) head work work.stack.items

module _ (closed : Bool) (source target : List ℕ) (head : Name) (start : History) where
  pub way_start : (now : History) (work : Work) → now ≡ start → StartAnswers closed (objects_after start source) (objects_after start target) head (Ok work) → OnTheWay closed source target head start now work
  way_start now work same answers = subst (λ (h : History). OnTheWay closed source target head start h work) (sym same) (record {
    wrote = Wrote-none (PutsCopy closed source target (objects_after start target) head) start start refl;
    kept = refl;
    counted = let none = answers.1 in omega (arith, none);
    copying = answers.0;
  })

  -- the copy as its next step sees it
  pub way_copying : (now : History) (work : Work) → OnTheWay closed source target head start now work
      → IsCopying closed (objects_after now source) (objects_after start target) (objects_after now target) head work work.stack.items
  way_copying now work way = subst (λ (o : Objects). IsCopying closed o (objects_after start target) (objects_after now target) head work work.stack.items) (sym way.kept) way.copying

  pub way_step : (mid now : History) (before after : Work) (u : Unit {0}) → OnTheWay closed source target head start mid before
      → Steps closed source target (objects_after start target) head mid now before after (Ok u) → OnTheWay closed source target head start now after
  way_step mid now before after u way s = record {
    wrote = Wrote-then (PutsCopy closed source target (objects_after start target) head) start mid now way.wrote s.wrote;
    kept = s.kept ∙ way.kept;
    counted = let one = s.counted in let two = way.counted in omega (arith, one, two);
    copying = subst (λ (o : Objects). IsCopying closed o (objects_after start target) (objects_after now target) head after after.stack.items) way.kept s.answers;
  }

  -- a refusal has its cause at the start
  pub way_refused : (mid now : History) (before after : Work) (e : CopyFault) → OnTheWay closed source target head start mid before
      → Steps closed source target (objects_after start target) head mid now before after (Err e) → CopyAnswers closed (objects_after start source) (objects_after start target) head (Err e)
  way_refused mid now before after e way s = by e s.answers
    where
      back : (e : CopyFault) → CauseHolds closed (objects_after mid source) (objects_after start target) head e → CauseHolds closed (objects_after start source) (objects_after start target) head e
      back e cause = subst (λ (o : Objects). CauseHolds closed o (objects_after start target) head e) way.kept cause

      by : (e : CopyFault) → StepAnswers closed (objects_after mid source) (objects_after start target) (objects_after now target) head after (Err e) → CopyAnswers closed (objects_after start source) (objects_after start target) head (Err e)
      by fault.Memory a = tt
      by fault.Disk a = tt
      by (fault.Missing n) a = back (fault.Missing n) a
      by (fault.Damaged n) a = back (fault.Damaged n) a
      by (fault.WrongKind n) a = back (fault.WrongKind n) a
      by (fault.TooLarge n) a = back (fault.TooLarge n) a
      by (fault.Ring n) a = back (fault.Ring n) a
      by (fault.Taken n) a = back (fault.Taken n) a

  pub way_wrote : (mid now : History) (before after : Work) (r : Result Unit CopyFault) → OnTheWay closed source target head start mid before
      → Steps closed source target (objects_after start target) head mid now before after r → Wrote (PutsCopy closed source target (objects_after start target) head) start now
  way_wrote mid now before after r way s = Wrote-then (PutsCopy closed source target (objects_after start target) head) start mid now way.wrote s.wrote

  -- nothing is open any more
  pub way_end : (now : History) (work : Work) → work.stack.items ≡ [] → OnTheWay closed source target head start now work
      → IsCopying closed (objects_after start source) (objects_after start target) (objects_after now target) head work []
  way_end now work empty way = subst (λ (l : List Open). IsCopying closed (objects_after start source) (objects_after start target) (objects_after now target) head work l) empty way.copying
