-- What a step of a copy on its way does, by what its parts answer.
use Rattle.std.proofs.Common.{◌≡◌, ◌≢◌, ◌⊎◌, inl, inr, ◌≤◌, ◌+◌, ℕ, Bool, true, false, cond, List, [], ◌∷◌, ◌++◌, length, Contains, Option, Some, None, Result, Ok, Err, OnOk, refl, sym, ◌∙◌, ap, subst, arith}
use Rattle.std.specs.List.{slice_get}
use Rattle.std.specs.Str.{bytes_eq}
use Rattle.std.proofs.lemmas.List.Elements.{Contains-push}
use Rattle.std.proofs.lemmas.Option.{same_Some}
use Rattle.std.proofs.lemmas.Slice.Eq.{bytes_eq-Decides}
use Rattle.gb_text.specs.declared.id.Name.{Name}
use Rattle.gb_text.specs.Digits.{IsName}
use Rattle.gb_text.specs.Folder.{joined}
use Rattle.gb_text.specs.Overlap.{Overlap}
use Rattle.gb_store.specs.Files.{History, Put, files_of}
use Rattle.gb_store.specs.ObjectPath.{object_place}
use Rattle.gb_store.proofs.FileLemmas.{file_at-same}
use Rattle.gb_store.proofs.FrameLemmas.{written-apart, written-other}
use Rattle.gb_store.proofs.MomentLemmas.{Wrote-none, Wrote-one}
use Rattle.git_object.specs.declared.frame.Kind.{Kind}
use Rattle.git_object.specs.declared.frame.Kind.TheVariants as kinds
use Rattle.object_store.specs.Growth.{OnlyGrew}
use Rattle.object_store.specs.Held.{Objects, objects_after}
use Rattle.object_store.proofs.GrowthLemmas.{OnlyGrew-none}
use Rattle.object_store.proofs.PathLemmas.{path_name}
use Rattle.remote_copy.specs.Answers.{standing}
use Rattle.remote_copy.specs.Causes.{CauseHolds, LeadsOn}
use Rattle.remote_copy.specs.Closure.{IsFollowed, IsLeft, next}
use Rattle.remote_copy.specs.Copying.{IsCopying, IsCopyingWith, IsOpen, StepAnswers, Steps}
use Rattle.remote_copy.specs.Index.{IsDone, Sets, WasOpened, mark_of}
use Rattle.remote_copy.specs.Opens.{BeginAnswers, IsBegun, ref_of}
use Rattle.remote_copy.specs.Work.{Advances, DescendAnswers, Finishes, HasHeight, IsShortOfMemory, MaybeWritten, SameCounts, Written, one_more, put_after, ring_fault, write_of}
use Rattle.remote_copy.specs.Writes.{PutsCopy}
use Rattle.remote_copy.specs.declared.fault.CopyFault.{CopyFault}
use Rattle.remote_copy.specs.declared.fault.CopyFault.TheVariants as fault
use Rattle.remote_copy.specs.declared.index.Mark.TheVariants as mark
use Rattle.remote_copy.specs.declared.need.Need.{Need}
use Rattle.remote_copy.specs.declared.open.Open.{Open}
use Rattle.remote_copy.specs.declared.open.TheConstants.{MOST_TREES}
use Rattle.remote_copy.specs.declared.work.Work.{Work}
use Rattle.remote_copy.proofs.CauseLemmas.{deep_cause, full_cause, left_first, open_cause, opened_kind, ring_cause, unleft_first}
use Rattle.remote_copy.proofs.CopyingLemmas.{advance, followed_unleft, left, next_need}
use Rattle.remote_copy.proofs.FinishLemmas.{finish, top_needs, top_reached, top_trees}
use Rattle.remote_copy.proofs.PushLemmas.{leads_below, push}
use Rattle.remote_copy.proofs.TextLemmas.{text_at-name}

-- ---- a put in the target

module _ (source target : List ℕ) (apart : Overlap source target → ⊥) (old : History) (name : Name) (text : List ℕ) where
  abbrev path : List ℕ
  path = joined target (object_place name)

  -- the source is as before
  pub put_kept : objects_after (Put (joined target (object_place name)) text ∷ old) source ≡ objects_after old source
  put_kept = λ i one. written-apart (files_of old) (Put (joined target (object_place name)) text) source target (object_place name) (object_place one) refl refl refl apart i

  pub put_here : objects_after (Put (joined target (object_place name)) text ∷ old) target name ≡ Some text
  put_here = file_at-same (Put (joined target (object_place name)) text) old

  pub put_other : (one : Name) → IsName name → IsName one → one ≢ name → objects_after (Put (joined target (object_place name)) text ∷ old) target one ≡ objects_after old target one
  put_other one is other differs = written-other (files_of old) (Put (joined target (object_place name)) text) (joined target (object_place one)) (λ same. differs (sym (path_name target name one is other same)))

  pub put_grew : objects_after old target name ≡ None → OnlyGrew (objects_after old target) (objects_after (Put (joined target (object_place name)) text ∷ old) target)
  put_grew free = record { stays = λ one found stands. at one found stands (bytes_eq path (joined target (object_place one))) refl }
    where
      at : (one : Name) (found : List ℕ) → objects_after old target one ≡ Some found → (b : Bool) → bytes_eq path (joined target (object_place one)) ≡ b
          → cond (bytes_eq path (joined target (object_place one))) (Some text) (objects_after old target one) ≡ Some found
      at one found stands true e =
          let same : path ≡ joined target (object_place one) = (bytes_eq-Decides path (joined target (object_place one))).0 e in
          absurd (cc (sym free ∙ ap (files_of old) same ∙ stands))
      at one found stands false e = ap (λ (b : Bool). cond b (Some text) (objects_after old target one)) e ∙ stands

  pub put_only : IsName name → (one : Name) (found : List ℕ) → IsName one → objects_after (Put (joined target (object_place name)) text ∷ old) target one ≡ Some found
      → (objects_after old target one ≡ Some found) ⊎ ((one ≡ name) × (found ≡ text))
  put_only is one found other stands = at (bytes_eq path (joined target (object_place one))) refl
    where
      at : (b : Bool) → bytes_eq path (joined target (object_place one)) ≡ b → (objects_after old target one ≡ Some found) ⊎ ((one ≡ name) × (found ≡ text))
      at true e =
          let same : path ≡ joined target (object_place one) = (bytes_eq-Decides path (joined target (object_place one))).0 e in
          let value : Some text ≡ Some found = sym (ap (λ (b : Bool). cond b (Some text) (objects_after old target one)) e) ∙ stands in
          inr (sym (path_name target name one is other same), sym (same_Some text found value))
      at false e = inl (sym (ap (λ (b : Bool). cond b (Some text) (objects_after old target one)) e) ∙ stands)

module _ (closed : Bool) (source target : List ℕ) (entry : Objects) (head : Name) (apart : Overlap source target → ⊥) (old : History) where
  abbrev from : Objects
  from = objects_after old source

  abbrev into : Objects
  into = objects_after old target

  -- nothing was written
  pub same_steps : (before after : Work) (result : Result Unit CopyFault) → ((n : ℕ) → n + before.put ≡ n + after.put) ⊎ ((e : CopyFault) × (result ≡ Err e))
      → StepAnswers closed from entry into head after result → Steps closed source target entry head old old before after result
  same_steps before after (Ok u) (inl same) answers = record { wrote = Wrote-none (PutsCopy closed source target entry head) old old refl; kept = refl; counted = same (length old); answers = answers }
  same_steps before after (Ok u) (inr bad) answers = absurd (let never = bad.1 in cc)
  same_steps before after (Err e) any answers = record { wrote = Wrote-none (PutsCopy closed source target entry head) old old refl; kept = refl; counted = tt; answers = answers }

  -- ---- the deepest open object is finished

  module _ (before : Work) (rest : List Open) (top : Open) (w : IsCopying closed from entry into head before (rest ++ top ∷ [])) (ended : slice_get top.needs.items top.next ≡ None) where
    abbrev top_open : IsOpen closed from entry into head before.index top
    top_open = w.opens top (Contains-push rest top)

    is_name : IsName top.need.name
    is_name = text_at-name from top.need.name top.text top_open.opened.is.held

    -- the write of what does not stand
    puts_copy : top.stands ≡ false → PutsCopy closed source target entry head (files_of old) (write_of target top)
    puts_copy absent = record {
      name = top.need.name;
      text = top.text;
      object = top_open.object;
      held = top_open.opened.is.held;
      is = top_open.opened.is.is;
      followed = subst (λ (k : Kind). IsFollowed closed from entry head (record { name = top.need.name; kind = k })) (sym top_open.opened.is.is_kind) top_open.opened.followed;
      free = top_open.there ∙ ap (λ (b : Bool). standing b top.text) absent;
      needs = top_needs closed from entry head into before rest top w ended;
      reached = top_reached closed from entry head into before rest top w ended;
      write = refl;
    }

    -- a stop, where the object was put or nothing was
    stopped : (b : Bool) → top.stands ≡ b → (new : History) (after : Work) (e : CopyFault) → MaybeWritten b (write_of target top) old new
        → ((h : History) → StepAnswers closed from entry (objects_after h target) head after (Err e)) → Steps closed source target entry head old new before after (Err e)
    stopped true is new after e same answers = subst (λ (h : History). Steps closed source target entry head old h before after (Err e)) (sym same) (same_steps before after (Err e) (inr (e, refl)) (answers old))
    stopped false is new after e maybe answers = record {
      wrote = Wrote-one (PutsCopy closed source target entry head) (write_of target top) old new (puts_copy is) maybe;
      kept = elim maybe [
        | inl same ↦ ap (λ (h : History). objects_after h source) same
        | inr wrote ↦ ap (λ (h : History). objects_after h source) wrote ∙ put_kept source target apart old top.need.name top.text
      ];
      counted = tt;
      answers = answers new;
    }

    -- the object is done
    done_here : (b : Bool) → top.stands ≡ b → (new : History) (after : Work) (height : ℕ) → height ≤ MOST_TREES → HasHeight before top height → Sets before.index after.index top.need (mark.Done height)
        → Written b (write_of target top) old new → after.put ≡ put_after b before.put → SameCounts before after → after.stack.items ≡ rest
        → Steps closed source target entry head old new before after (Ok tt)
    done_here true is new after height few high sets same put counts stack =
        let there : into top.need.name ≡ Some top.text = top_open.there ∙ ap (λ (b : Bool). standing b top.text) is in
        let copying : IsCopying closed from entry into head after rest =
        finish closed from entry head into before rest top w ended after into height few high sets (OnlyGrew-none into) there (λ name text n s. inl s) (λ name n d. refl) counts.commits counts.others (omega (arith, put)) in
        subst (λ (h : History). Steps closed source target entry head old h before after (Ok tt)) (sym same)
        (same_steps before after (Ok tt) (inl (λ n. ap (λ (k : ℕ). n + k) (sym put))) (subst (λ (l : List Open). IsCopying closed from entry into head after l) (sym stack) copying))
    done_here false is new after height few high sets wrote put counts stack =
        let free : into top.need.name ≡ None = top_open.there ∙ ap (λ (b : Bool). standing b top.text) is in
        let most = w.few_put in
        let commits = w.few_commits in
        let others = w.few_others in
        let up : after.put ≡ before.put + 1 = omega (arith, put, most, commits, others) in
        let later : Objects = objects_after (write_of target top ∷ old) target in
        let copying : IsCopying closed from entry later head after rest =
        finish closed from entry head into before rest top w ended after later height few high sets (put_grew source target apart old top.need.name top.text free)
        (put_here source target apart old top.need.name top.text) (put_only source target apart old top.need.name top.text is_name)
        (λ one other differs. put_other source target apart old top.need.name top.text one is_name other differs) counts.commits counts.others (omega (arith, up)) in
        subst (λ (h : History). Steps closed source target entry head old h before after (Ok tt)) (sym wrote) (record {
          wrote = Wrote-one (PutsCopy closed source target entry head) (write_of target top) old (write_of target top ∷ old) (puts_copy is) (inr refl);
          kept = put_kept source target apart old top.need.name top.text;
          counted = omega (arith, up);
          answers = subst (λ (l : List Open). IsCopying closed from entry later head after l) (sym stack) copying;
        })

    pub finish_steps : (new : History) (after : Work) (result : Result Unit CopyFault) → Finishes target old new before top after result → OnOk result (after.stack.items ≡ rest) → OnOk result (SameCounts before after)
        → Steps closed source target entry head old new before after result
    finish_steps new after (Ok u) f stack counts = done_here top.stands refl new after f.height f.few f.is_height f.index f.written f.put counts stack
    finish_steps new after (Err fault.Memory) f stack counts = stopped top.stands refl new after fault.Memory f (λ h. tt)
    finish_steps new after (Err fault.Disk) f stack counts = stopped top.stands refl new after fault.Disk f (λ h. tt)
    finish_steps new after (Err (fault.TooLarge count)) f stack counts =
        let high = f.0 in
        let cause : CauseHolds closed from entry head (fault.TooLarge count) =
        subst (λ (k : ℕ). CauseHolds closed from entry head (fault.TooLarge k)) (sym high.is_count)
        (deep_cause closed from entry head top.need high.height high.is_tree top_open.opened.followed (top_trees closed from entry head into before rest top w ended high.height high.is_height) high.many) in
        subst (λ (h : History). Steps closed source target entry head old h before after (Err (fault.TooLarge count))) (sym f.1) (same_steps before after (Err (fault.TooLarge count)) (inr (fault.TooLarge count, refl)) cause)
    finish_steps new after (Err (fault.Missing n)) f stack counts = absurd f
    finish_steps new after (Err (fault.Damaged n)) f stack counts = absurd f
    finish_steps new after (Err (fault.WrongKind n)) f stack counts = absurd f
    finish_steps new after (Err (fault.Ring n)) f stack counts = absurd f
    finish_steps new after (Err (fault.Taken n)) f stack counts = absurd f

  -- ---- the next need of the deepest open object

  module _ (before : Work) (rest : List Open) (top : Open) (need : Need) (w : IsCopying closed from entry into head before (rest ++ top ∷ [])) (at : slice_get top.needs.items top.next ≡ Some need) where
    abbrev above : IsOpen closed from entry into head before.index top
    above = w.opens top (Contains-push rest top)

    -- it is done
    pub advance_steps : (after : Work) (result : Result Unit CopyFault) → IsDone before.index need → OnOk result (Advances before top after) → IsShortOfMemory result → rest ≡ before.stack.items
        → Steps closed source target entry head old old before after result
    advance_steps after (Ok u) done a short is =
        let moved = advance closed from entry head into before.index before.commits before.others before.put rest top need w at done in
        let stack : after.stack.items ≡ rest ++ one_more top ∷ [] = a.stack ∙ ap (λ (l : List Open). l ++ one_more top ∷ []) (sym is) in
        same_steps before after (Ok u) (inl (λ n. ap (λ (k : ℕ). n + k) (sym a.put))) (carried before after (rest ++ one_more top ∷ []) a.index a.counts a.put stack moved)
      where
        carried : (before after : Work) (stack : List Open) → after.index ≡ before.index → SameCounts before after → after.put ≡ before.put → after.stack.items ≡ stack
            → IsCopying closed from entry into head before stack → IsCopying closed from entry into head after after.stack.items
        carried before after stack index counts put is copying =
            subst (λ l. IsCopyingWith closed from entry into head after.index after.commits after.others after.put l) (sym is)
            (subst (λ i. IsCopyingWith closed from entry into head i after.commits after.others after.put stack) (sym index)
            (subst (λ k. IsCopyingWith closed from entry into head before.index k after.others after.put stack) (sym counts.commits)
            (subst (λ k. IsCopyingWith closed from entry into head before.index before.commits k after.put stack) (sym counts.others)
            (subst (λ k. IsCopyingWith closed from entry into head before.index before.commits before.others k stack) (sym put) copying))))
    advance_steps after (Err e) done a short is = same_steps before after (Err e) (inr (e, refl)) (quiet e short)
      where
        quiet : (e : CopyFault) → IsShortOfMemory {T = Unit {0}} (Err e) → StepAnswers closed from entry into head after (Err e)
        quiet fault.Memory s = tt
        quiet fault.Disk s = tt
        quiet (fault.Missing n) s = absurd s
        quiet (fault.Damaged n) s = absurd s
        quiet (fault.WrongKind n) s = absurd s
        quiet (fault.TooLarge n) s = absurd s
        quiet (fault.Ring n) s = absurd s
        quiet (fault.Taken n) s = absurd s

    -- it is open
    pub ring_steps : (after : Work) → mark_of before.index need.kind need.name ≡ Some mark.Open → Steps closed source target entry head old old before after (Err (ring_fault need))
    ring_steps after marked =
        let was = w.is_open need marked in
        let names = next_need closed from entry head into before.index top need above at in
        let followed : IsFollowed closed from entry head (ref_of need) = subst (λ (n : Need). IsFollowed closed from entry head (ref_of n)) was.2 (w.opens was.0 was.1).opened.followed in
        let leads = leads_below closed from entry head into before.index rest top need w.path names (followed_unleft closed from entry head (ref_of need) followed) was.0 was.1 in
        let itself = subst (λ (n : Need). LeadsOn closed from entry (ref_of n) (ref_of need)) was.2 leads in
        same_steps before after (Err (ring_fault need)) (inr (ring_fault need, refl)) (caused need.kind refl (ring_cause closed from entry head need.kind need refl followed itself))
      where
        caused : (kind : Kind) → need.kind ≡ kind → CauseHolds closed from entry head (ring_fault need) → StepAnswers closed from entry into head after (Err (ring_fault need))
        caused kinds.Commit is cause = rw is (rw is at cause)
        caused kinds.Tree is cause = rw is (rw is at cause)
        caused kinds.Blob is cause = rw is (rw is at cause)

    -- its name was opened as that of another kind
    pub kind_steps : (after : Work) → mark_of before.index need.kind need.name ≡ None → WasOpened before.index need.name → Steps closed source target entry head old old before after (Err (fault.WrongKind need.name))
    kind_steps after fresh opened =
        let known = opened_kind closed from entry head into before (rest ++ top ∷ []) need w fresh opened in
        let followed : IsFollowed closed from entry head (ref_of need) = next above.opened.followed (next_need closed from entry head into before.index top need above at) known.0 in
        same_steps before after (Err (fault.WrongKind need.name)) (inr (fault.WrongKind need.name, refl)) (record { one = ref_of need; is_named = refl; followed = followed; is = known.1 })

    -- it is not opened
    unleft : (IsLeft closed into (ref_of need) → ⊥) → IsFollowed closed from entry head (ref_of need)
    unleft not_left = next above.opened.followed (next_need closed from entry head into before.index top need above at) (unleft_first closed from entry head into before (rest ++ top ∷ []) (ref_of need) w not_left)

    pub begin_steps : (after : Work) (e : CopyFault) → BeginAnswers closed from into need (Err e) → Steps closed source target entry head old old before after (Err e)
    begin_steps after e b = same_steps before after (Err e) (inr (e, refl)) (refused e b)
      where
        refused : (e : CopyFault) → BeginAnswers closed from into need (Err e) → StepAnswers closed from entry into head after (Err e)
        refused fault.Memory b = tt
        refused fault.Disk b = tt
        refused (fault.Missing n) b = open_cause closed from entry head into before (rest ++ top ∷ []) need (fault.Missing n) w (unleft b.0) b.1 (λ e. cc) (λ e. cc)
        refused (fault.Damaged n) b = open_cause closed from entry head into before (rest ++ top ∷ []) need (fault.Damaged n) w (unleft b.0) b.1 (λ e. cc) (λ e. cc)
        refused (fault.WrongKind n) b = open_cause closed from entry head into before (rest ++ top ∷ []) need (fault.WrongKind n) w (unleft b.0) b.1 (λ e. cc) (λ e. cc)
        refused (fault.TooLarge n) b = open_cause closed from entry head into before (rest ++ top ∷ []) need (fault.TooLarge n) w (unleft b.0) b.1 (λ e. cc) (λ e. cc)
        refused (fault.Ring n) b = open_cause closed from entry head into before (rest ++ top ∷ []) need (fault.Ring n) w (unleft b.0) b.1 (λ e. cc) (λ e. cc)
        refused (fault.Taken n) b = open_cause closed from entry head into before (rest ++ top ∷ []) need (fault.Taken n) w (unleft b.0) b.1 (λ e. cc) (λ e. cc)

    -- it was opened, or is left
    pub descend_steps : (found : Option Open) (after : Work) (result : Result Unit CopyFault) → mark_of before.index need.kind need.name ≡ None → BeginAnswers closed from into need (Ok found)
        → DescendAnswers before top need found after result → rest ≡ before.stack.items → Steps closed source target entry head old old before after result
    descend_steps (Some item) after (Ok u) fresh (not_left, begun) d is =
        let names = next_need closed from entry head into before.index top need above at in
        let fresh_item : mark_of before.index item.need.kind item.need.name ≡ None = subst (λ (n : Need). mark_of before.index n.kind n.name ≡ None) (sym begun.is_need) fresh in
        let followed : IsFollowed closed from entry head (ref_of item.need) = subst (λ (n : Need). IsFollowed closed from entry head (ref_of n)) (sym begun.is_need) (unleft not_left) in
        let begun_item : IsBegun from into item.need item = subst (λ (n : Need). IsBegun from into n item) (sym begun.is_need) begun in
        let leads : (low : Open) → Contains (rest ++ top ∷ []) low → LeadsOn closed from entry (ref_of low.need) (ref_of item.need) = λ low c.
        subst (λ (n : Need). LeadsOn closed from entry (ref_of low.need) (ref_of n)) (sym begun.is_need) (leads_below closed from entry head into before.index rest top need w.path names (unleft_first closed from entry head into before (rest ++ top ∷ []) (ref_of need) w not_left) low c) in
        let pushed : IsCopying closed from entry into head after ((rest ++ top ∷ []) ++ item ∷ []) =
        push closed from entry head into before after (rest ++ top ∷ []) item w fresh_item followed begun_item leads d.index d.counts d.put in
        let stack : after.stack.items ≡ (rest ++ top ∷ []) ++ item ∷ [] = d.stack ∙ ap (λ (l : List Open). (l ++ top ∷ []) ++ item ∷ []) (sym is) in
        same_steps before after (Ok u) (inl (λ n. ap (λ (k : ℕ). n + k) (sym d.put))) (subst (λ (l : List Open). IsCopying closed from entry into head after l) (sym stack) pushed)
    descend_steps None after (Ok u) fresh is_left d is =
        let at_entry = left_first closed from entry head into before (rest ++ top ∷ []) need w fresh is_left in
        let marked = left closed from entry head into before.index after.index before.commits before.others before.put (rest ++ top ∷ []) need w fresh at_entry d.index in
        let moved = advance closed from entry head into after.index before.commits before.others before.put rest top need marked at (0, d.index.here) in
        let stack : after.stack.items ≡ rest ++ one_more top ∷ [] = d.stack ∙ ap (λ (l : List Open). l ++ one_more top ∷ []) (sym is) in
        same_steps before after (Ok u) (inl (λ n. ap (λ (k : ℕ). n + k) (sym d.put)))
        (subst (λ l. IsCopyingWith closed from entry into head after.index after.commits after.others after.put l) (sym stack)
        (subst (λ k. IsCopyingWith closed from entry into head after.index k after.others after.put (rest ++ one_more top ∷ [])) (sym d.counts.commits)
        (subst (λ k. IsCopyingWith closed from entry into head after.index before.commits k after.put (rest ++ one_more top ∷ [])) (sym d.counts.others)
        (subst (λ k. IsCopyingWith closed from entry into head after.index before.commits before.others k (rest ++ one_more top ∷ [])) (sym d.put) moved))))
    descend_steps (Some item) after (Err fault.Memory) fresh b d is = same_steps before after (Err fault.Memory) (inr (fault.Memory, refl)) tt
    descend_steps None after (Err fault.Memory) fresh b d is = same_steps before after (Err fault.Memory) (inr (fault.Memory, refl)) tt
    descend_steps (Some item) after (Err (fault.TooLarge count)) fresh (not_left, begun) d is =
        let followed : IsFollowed closed from entry head (ref_of item.need) = subst (λ (n : Need). IsFollowed closed from entry head (ref_of n)) (sym begun.is_need) (unleft not_left) in
        let fresh_item : mark_of before.index item.need.kind item.need.name ≡ None = subst (λ (n : Need). mark_of before.index n.kind n.name ≡ None) (sym begun.is_need) fresh in
        same_steps before after (Err (fault.TooLarge count)) (inr (fault.TooLarge count, refl))
        (full_cause closed from entry head before item.need item.text begun.object (record { followed = followed; is = begun.is }) fresh_item item.need.kind count refl w.are_commits w.are_others d)
    descend_steps None after (Err (fault.TooLarge count)) fresh b d is = absurd d
    descend_steps (Some item) after (Err fault.Disk) fresh b d is = absurd d
    descend_steps None after (Err fault.Disk) fresh b d is = absurd d
    descend_steps (Some item) after (Err (fault.Missing n)) fresh b d is = absurd d
    descend_steps None after (Err (fault.Missing n)) fresh b d is = absurd d
    descend_steps (Some item) after (Err (fault.Damaged n)) fresh b d is = absurd d
    descend_steps None after (Err (fault.Damaged n)) fresh b d is = absurd d
    descend_steps (Some item) after (Err (fault.WrongKind n)) fresh b d is = absurd d
    descend_steps None after (Err (fault.WrongKind n)) fresh b d is = absurd d
    descend_steps (Some item) after (Err (fault.Ring n)) fresh b d is = absurd d
    descend_steps None after (Err (fault.Ring n)) fresh b d is = absurd d
    descend_steps (Some item) after (Err (fault.Taken n)) fresh b d is = absurd d
    descend_steps None after (Err (fault.Taken n)) fresh b d is = absurd d
