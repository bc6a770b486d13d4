-- Why an object is not opened, and whether it is left.
use Rattle.std.proofs.Common.{◌≡◌, ℕ, Bool, true, false, IsTrue, IfOk, List, Some, Result, Ok, Err, sym, subst, rules}
use Rattle.gb_text.specs.declared.memory.Memory.{Memory}
use Rattle.git_object.specs.declared.frame.Kind.TheVariants as kinds
use Rattle.object_store.specs.Held.{Objects, text_at}
use Rattle.remote_copy.specs.Answers.{HoldsCommit, StandAnswers}
use Rattle.remote_copy.specs.Closure.{IsLeft}
use Rattle.remote_copy.specs.Opens.{BeginAnswers, LeftAnswers, OpenRefused, ref_of}
use Rattle.remote_copy.specs.declared.fault.CopyFault.{CopyFault}
use Rattle.remote_copy.specs.declared.fault.CopyFault.TheVariants as fault
use Rattle.remote_copy.specs.declared.need.Need.{Need}

-- other bytes stand under its name
pub stand_refused : (source target : Objects) (need : Need) (text : List ℕ) (e : CopyFault) → text_at source need.name ≡ Some text → StandAnswers target need.name text (Err e) → OpenRefused source target need e
stand_refused source target need text fault.Memory held s = absurd s
stand_refused source target need text fault.Disk held s = absurd s
stand_refused source target need text (fault.Missing n) held s = absurd s
stand_refused source target need text (fault.Damaged n) held s = absurd s
stand_refused source target need text (fault.WrongKind n) held s = absurd s
stand_refused source target need text (fault.TooLarge n) held s = absurd s
stand_refused source target need text (fault.Ring n) held s = absurd s
stand_refused source target need text (fault.Taken n) held s = (s.0, record { text = text; other = s.1.other; held = held; stands = s.1.stands; differs = s.1.differs })

-- a commit that a target holds which is closed
left_holds : (closed : Bool) (target : Objects) (need : Need) (b : Bool) → closed ≡ true → need.kind ≡ kinds.Commit → HoldsCommit target need.name b → LeftAnswers closed target need b
left_holds closed target need true is kind holds = record { is_closed = (let yes : IsTrue true = search rules in subst IsTrue (sym is) yes); is_commit = kind; held = holds }
left_holds closed target need false is kind holds = λ left. holds left.held

pub if_left_holds : (closed : Bool) (target : Objects) (need : Need) (r : Result Bool Memory) → closed ≡ true → need.kind ≡ kinds.Commit → IfOk r (HoldsCommit target need.name) → IfOk r (LeftAnswers closed target need)
if_left_holds closed target need (Ok b) is kind holds = left_holds closed target need b is kind holds
if_left_holds closed target need (Err e) is kind holds = tt

pub left_true : (closed : Bool) (target : Objects) (need : Need) (b : Bool) → b ≡ true → LeftAnswers closed target need b → IsLeft closed target (ref_of need)
left_true closed target need b is left = subst (LeftAnswers closed target need) is left

pub left_false : (closed : Bool) (target : Objects) (need : Need) (b : Bool) → b ≡ false → LeftAnswers closed target need b → IsLeft closed target (ref_of need) → ⊥
left_false closed target need b is left = subst (LeftAnswers closed target need) is left

-- why an object that is not left is not opened
pub begin_refused : (closed : Bool) (source target : Objects) (need : Need) (e : CopyFault) → (IsLeft closed target (ref_of need) → ⊥) → OpenRefused source target need e → BeginAnswers closed source target need (Err e)
begin_refused closed source target need fault.Memory unleft r = tt
begin_refused closed source target need fault.Disk unleft r = tt
begin_refused closed source target need (fault.Missing n) unleft r = (unleft, r)
begin_refused closed source target need (fault.Damaged n) unleft r = (unleft, r)
begin_refused closed source target need (fault.WrongKind n) unleft r = (unleft, r)
begin_refused closed source target need (fault.TooLarge n) unleft r = (unleft, r)
begin_refused closed source target need (fault.Ring n) unleft r = (unleft, r)
begin_refused closed source target need (fault.Taken n) unleft r = (unleft, r)
