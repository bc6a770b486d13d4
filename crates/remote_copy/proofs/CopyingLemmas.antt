-- A copy on its way: what is said of it stays while marks are set and objects are added.
use Rattle.std.proofs.Common.{◌≡◌, ◌⊎◌, inl, inr, ◌+◌, ℕ, Bool, List, [], ◌∷◌, ◌++◌, take, get_or, Contains, Some, None, refl, sym, ◌∙◌, ap, subst, arith, length-append}
use Rattle.std.specs.List.{slice_get}
use Rattle.std.proofs.lemmas.List.{take_more}
use Rattle.std.proofs.lemmas.List.Elements.{All-append, All-cons, All-nil, Contains-append_left, Contains-push, Contains-push_cases, Contains-get_or}
use Rattle.std.proofs.lemmas.Option.{get_or_from_slice_get, slice_get_within}
use Rattle.gb_text.specs.declared.id.Name.{Name}
use Rattle.git_object.specs.declared.frame.Kind.{Kind}
use Rattle.git_object.specs.declared.frame.Kind.TheVariants as kinds
use Rattle.git_object.specs.declared.object.Object.{Object}
use Rattle.git_object.specs.Grammar.{kind_of}
use Rattle.object_store.specs.Growth.{OnlyGrew}
use Rattle.object_store.specs.Held.{Objects}
use Rattle.object_store.proofs.GrowthLemmas.{object_stays}
use Rattle.object_batch.specs.Needs.{NamesNext, Reference}
use Rattle.object_batch.proofs.LeadLemmas.{Leads-then}
use Rattle.commit_walk.proofs.DistinctLemmas.{AreDistinct-push}
use Rattle.remote_copy.specs.Causes.{IsCommit, IsOther, LeadsOn}
use Rattle.remote_copy.specs.Closure.{IsFollowed, IsLeft, first, next}
use Rattle.remote_copy.specs.Copying.{AreCounted, IsAbove, IsAdded, IsCopyingWith, IsFinished, IsMetAs, IsOpen, IsOpened}
use Rattle.remote_copy.specs.Index.{IsDone, IsMet, Sets, WasOpened, mark_of}
use Rattle.remote_copy.specs.Needs.{as_kind, needs_of}
use Rattle.remote_copy.specs.Opens.{ref_of}
use Rattle.remote_copy.specs.Work.{one_more}
use Rattle.remote_copy.specs.declared.index.Index.{Index}
use Rattle.remote_copy.specs.declared.index.Mark.{Mark}
use Rattle.remote_copy.specs.declared.index.Mark.TheVariants as mark
use Rattle.remote_copy.specs.declared.need.Need.{Need}
use Rattle.remote_copy.specs.declared.open.Open.{Open}
use Rattle.remote_copy.proofs.MarkLemmas.{StaysDone, done_stays, one_height, sets_back, sets_done, sets_met}
use Rattle.remote_copy.proofs.NeedLemmas.{needs_of-only}
use Rattle.remote_copy.proofs.StackLemmas.{pairs_front, pairs_last, pairs_push}
use Rattle.remote_copy.proofs.TextLemmas.{names_next}

-- what the one leads on to and the next names, the one leads on to
pub leads_further : (closed : Bool) (source entry : Objects) (one mid two : Reference) → LeadsOn closed source entry one mid → NamesNext source mid two → (IsLeft closed entry two → ⊥)
    → LeadsOn closed source entry one two
leads_further closed source entry one mid two leads names unleft = record {
  next = leads.next;
  names = leads.names;
  path = leads.path ++ two ∷ [];
  leads = Leads-then source leads.next leads.path mid (two ∷ []) two leads.leads (names, refl);
  unleft = All-append (λ (on : Reference). IsLeft closed entry on → ⊥) (leads.next ∷ leads.path) (two ∷ []) leads.unleft
      (All-cons (λ (on : Reference). IsLeft closed entry on → ⊥) two [] unleft (All-nil (λ (on : Reference). IsLeft closed entry on → ⊥)));
}

pub leads_next : (closed : Bool) (source entry : Objects) (one two : Reference) → NamesNext source one two → (IsLeft closed entry two → ⊥) → LeadsOn closed source entry one two
leads_next closed source entry one two names unleft = record {
  next = two;
  names = names;
  path = [];
  leads = refl;
  unleft = All-cons (λ (on : Reference). IsLeft closed entry on → ⊥) two [] unleft (All-nil (λ (on : Reference). IsLeft closed entry on → ⊥));
}

-- a commit that was left stays left while objects are added
pub left_stays : (closed : Bool) (old new : Objects) (one : Reference) → OnlyGrew old new → IsLeft closed old one → IsLeft closed new one
left_stays closed old new one grew left = record {
  is_closed = left.is_closed;
  is_commit = left.is_commit;
  held = record { object = left.held.object; is = object_stays old new grew one.name left.held.object left.held.is; is_kind = left.held.is_kind };
}

-- what was met before is met now
pub met_later : (closed : Bool) (entry : Objects) (i1 i2 : Index) (name : Name) → ((need : Need) → IsMet i1 need → IsMet i2 need) → IsMetAs closed entry i1 name → IsMetAs closed entry i2 name
met_later closed entry i1 i2 name met m = record { need = m.need; is_named = m.is_named; met = met m.need m.met; unleft = m.unleft }

-- where no object was opened, the names are those before
pub names_later : (closed : Bool) (entry : Objects) (i1 i2 : Index) (need : Need) (height : ℕ) → Sets i1 i2 need (mark.Done height) → ((n : Need) → IsMet i1 n → IsMet i2 n)
    → ((name : Name) → WasOpened i1 name → IsMetAs closed entry i1 name) → (name : Name) → WasOpened i2 name → IsMetAs closed entry i2 name
names_later closed entry i1 i2 need height sets met names name opened = elim (sets.names.back name opened) [
  | inl was ↦ met_later closed entry i1 i2 name met (names name was)
  | inr new ↦ absurd (let bad = new.0 in cc)
]

-- what is followed is not left
pub followed_unleft : (closed : Bool) (source entry : Objects) (head : Name) (one : Reference) → IsFollowed closed source entry head one → IsLeft closed entry one → ⊥
followed_unleft closed source entry head one (first e unleft) = unleft
followed_unleft closed source entry head one (next f names unleft) = unleft

module _ (closed : Bool) (source entry : Objects) (head : Name) where
  pub finished_later : (t1 t2 : Objects) (i1 i2 : Index) → StaysDone i1 i2 → (need : Need) (height : ℕ) → ((text : List ℕ) → t1 need.name ≡ Some text → t2 need.name ≡ Some text)
      → IsFinished closed source entry t1 head i1 need height → IsFinished closed source entry t2 head i2 need height
  finished_later t1 t2 i1 i2 s need height keeps f = record {
    text = f.text;
    object = f.object;
    opened = f.opened;
    there = keeps f.text f.there;
    done = λ low c. done_stays i1 i2 s low (f.done low c);
    few = f.few;
    trees = f.trees;
    above = λ tree low below c is_tree at.
        let was = f.done low c in
        let later = s.stays low was.0 was.1 in
        let same : below ≡ was.0 = one_height i2 low below was.0 at later in
        let lt = f.above tree low was.0 c is_tree was.1 in
        omega (arith, lt, same);
  }

  pub added_later : (i1 i2 : Index) → StaysDone i1 i2 → (name : Name) (text : List ℕ) → IsAdded source i1 name text → IsAdded source i2 name text
  added_later i1 i2 s name text a = record { object = a.object; held = a.held; is = a.is; done = done_stays i1 i2 s (as_kind (kind_of a.object) name) a.done }

  pub open_later : (t1 t2 : Objects) (i1 i2 : Index) → StaysDone i1 i2 → (item : Open) → IsOpen closed source entry t1 head i1 item → t2 item.need.name ≡ t1 item.need.name
      → mark_of i2 item.need.kind item.need.name ≡ Some mark.Open → IsOpen closed source entry t2 head i2 item
  open_later t1 t2 i1 i2 s item o same marked = record {
    object = o.object;
    opened = o.opened;
    needs = o.needs;
    done = λ need c. done_stays i1 i2 s need (o.done need c);
    there = same ∙ o.there;
    is_marked = marked;
  }

  -- as many were opened where no other was met, but for commits that are left
  pub counted_later : (i1 i2 : Index) (IsOne : Kind → Type 0) (count : ℕ) → ((need : Need) → IsMet i1 need → IsMet i2 need)
      → ((need : Need) → IsMet i2 need → IsMet i1 need ⊎ IsLeft closed entry (ref_of need)) → AreCounted closed source entry head i1 IsOne count → AreCounted closed source entry head i2 IsOne count
  counted_later i1 i2 IsOne count there back k = record {
    them = k.them;
    once = k.once;
    long = k.long;
    each = λ need c. let e = k.each need c in (e.0, e.1, there need e.2);
    all = λ need met one. elim (back need met) [ inl before ↦ k.all need before one | inr left ↦ inl left ];
  }

  module _ (i1 i2 : Index) (need : Need) (sets : Sets i1 i2 need mark.Open) (fresh : mark_of i1 need.kind need.name ≡ None) where
    -- an object that was not met was not counted
    not_counted : (IsOne : Kind → Type 0) (count : ℕ) (k : AreCounted closed source entry head i1 IsOne count) → Contains k.them need → ⊥
    not_counted IsOne count k c = let met = (k.each need c).2 in cc (sym fresh ∙ met.1)

    -- one more was opened
    pub counted_more : (IsOne : Kind → Type 0) (count : ℕ) (text : List ℕ) (object : Object) → IsOpened closed source entry head need text object → IsOne need.kind
        → AreCounted closed source entry head i1 IsOne count → AreCounted closed source entry head i2 IsOne (count + 1)
    counted_more IsOne count text object opened one k = record {
      them = k.them ++ need ∷ [];
      once = AreDistinct-push k.them need k.once (not_counted IsOne count k);
      long = omega (arith, k.long, length-append k.them (need ∷ []));
      each = λ other c. elim (Contains-push_cases k.them need other c) [
        | inl before ↦ let e = k.each other before in (e.0, e.1, sets_met i1 i2 need mark.Open sets other e.2)
        | inr e ↦ subst (λ (n : Need). IsOne n.kind × ((text : List ℕ) × (object : Object) × IsOpened closed source entry head n text object) × IsMet i2 n) e (one, (text, object, opened), (mark.Open, sets.here))
      ];
      all = λ other met is_one. elim (sets_back i1 i2 need mark.Open sets other met.0 met.1) [
        | inl same ↦ inr (subst (Contains (k.them ++ need ∷ [])) (sym same.0) (Contains-push k.them need))
        | inr before ↦ elim (k.all other (met.0, before) is_one) [ inl left ↦ inl left | inr c ↦ inr (Contains-append_left k.them (need ∷ []) other c) ]
      ];
    }

    -- one of other kinds was opened
    pub counted_other : (IsOne : Kind → Type 0) (count : ℕ) → (IsOne need.kind → ⊥) → AreCounted closed source entry head i1 IsOne count → AreCounted closed source entry head i2 IsOne count
    counted_other IsOne count not_one k = record {
      them = k.them;
      once = k.once;
      long = k.long;
      each = λ other c. let e = k.each other c in (e.0, e.1, sets_met i1 i2 need mark.Open sets other e.2);
      all = λ other met is_one. elim (sets_back i1 i2 need mark.Open sets other met.0 met.1) [
        | inl same ↦ absurd (not_one (subst (λ (n : Need). IsOne n.kind) same.0 is_one))
        | inr before ↦ k.all other (met.0, before) is_one
      ];
    }

  -- the need that comes next is one of the object's
  pub next_need : (target : Objects) (index : Index) (top : Open) (need : Need) → IsOpen closed source entry target head index top → slice_get top.needs.items top.next ≡ Some need
      → NamesNext source (ref_of top.need) (ref_of need)
  next_need target index top need o at =
      let within = slice_get_within top.needs.items top.next need at in
      let is = get_or_from_slice_get top.needs.items top.next need need at in
      let member : Contains top.needs.items need = subst (Contains top.needs.items) is (Contains-get_or top.needs.items top.next need within) in
      let named : Contains (needs_of o.object) need = subst (λ (l : List Need). Contains l need) o.needs member in
      names_next source (ref_of top.need) (ref_of need) top.text o.object o.opened.is.held o.opened.is.is o.opened.is.is_kind (needs_of-only o.object need named)

  -- an open object with one more need done
  open_more : (target : Objects) (index : Index) (top : Open) (need : Need) → IsOpen closed source entry target head index top → slice_get top.needs.items top.next ≡ Some need → IsDone index need
      → IsOpen closed source entry target head index (one_more top)
  open_more target index top need o at done = record {
    object = o.object;
    opened = o.opened;
    needs = o.needs;
    done = λ n c. elim (Contains-push_cases (take top.next top.needs.items) (get_or top.needs.items top.next need) n
        (subst (λ (l : List Need). Contains l n) (take_more top.needs.items top.next need (slice_get_within top.needs.items top.next need at)) c)) [
          | inl before ↦ o.done n before
          | inr e ↦ subst (IsDone index) (sym (get_or_from_slice_get top.needs.items top.next need need at) ∙ e) done
        ];
    there = o.there;
    is_marked = o.is_marked;
  }

  -- the deepest open object has one more need done
  pub advance : (target : Objects) (index : Index) (commits others put : ℕ) (rest : List Open) (top : Open) (need : Need)
      → IsCopyingWith closed source entry target head index commits others put (rest ++ top ∷ []) → slice_get top.needs.items top.next ≡ Some need → IsDone index need
      → IsCopyingWith closed source entry target head index commits others put (rest ++ one_more top ∷ [])
  advance target index commits others put rest top need w at done = record {
    grew = w.grew;
    added = w.added;
    opens = λ item c. elim (Contains-push_cases rest (one_more top) item c) [
      | inl low ↦ w.opens item (Contains-append_left rest (top ∷ []) item low)
      | inr e ↦ subst (IsOpen closed source entry target head index) e (open_more target index top need (w.opens top (Contains-push rest top)) at done)
    ];
    path = pairs_push (IsAbove closed source entry) rest (one_more top) (pairs_front (IsAbove closed source entry) rest (top ∷ []) w.path) (λ item c. pairs_last (IsAbove closed source entry) rest top item w.path c);
    is_open = λ n m. let was = w.is_open n m in elim (Contains-push_cases rest top was.0 was.1) [
      | inl low ↦ (was.0, Contains-append_left rest (one_more top ∷ []) was.0 low, was.2)
      | inr e ↦ (one_more top, Contains-push rest (one_more top), ap (λ (item : Open). item.need) e ∙ was.2)
    ];
    finished = w.finished;
    order = w.order;
    in_order = w.in_order;
    ordered = w.ordered;
    are_commits = w.are_commits;
    are_others = w.are_others;
    first = w.first;
    names = w.names;
    few_commits = w.few_commits;
    few_others = w.few_others;
    few_put = let few = w.few_put in omega (arith, few, length-append rest (top ∷ []), length-append rest (one_more top ∷ []));
  }

  -- a commit that is left is marked as done
  pub left : (target : Objects) (i1 i2 : Index) (commits others put : ℕ) (stack : List Open) (need : Need)
      → IsCopyingWith closed source entry target head i1 commits others put stack → mark_of i1 need.kind need.name ≡ None → IsLeft closed entry (ref_of need) → Sets i1 i2 need (mark.Done 0)
      → IsCopyingWith closed source entry target head i2 commits others put stack
  left target i1 i2 commits others put stack need w fresh is_left sets = record {
    grew = w.grew;
    added = λ name text is there. elim (w.added name text is there) [ inl old ↦ inl old | inr a ↦ inr (added_later i1 i2 stays name text a) ];
    opens = λ item c. let o = w.opens item c in open_later target target i1 i2 stays item o refl (kept item.need mark.Open o.is_marked);
    path = w.path;
    is_open = λ n m. elim (sets_back i1 i2 need (mark.Done 0) sets n mark.Open m) [ inl same ↦ absurd (cc (same.1)) | inr old ↦ w.is_open n old ];
    finished = λ n height m. elim (sets_back i1 i2 need (mark.Done 0) sets n (mark.Done height) m) [
      | inl same ↦ inl (subst (λ (x : Need). IsLeft closed entry (ref_of x)) (sym same.0) is_left)
      | inr old ↦ elim (w.finished n height old) [ inl l ↦ inl l | inr f ↦ inr (finished_later target target i1 i2 stays n height (λ text t. t) f) ]
    ];
    order = w.order;
    in_order = w.in_order;
    ordered = λ n height m. elim (sets_back i1 i2 need (mark.Done 0) sets n (mark.Done height) m) [
      | inl same ↦ inl (subst (λ (x : Need). IsLeft closed entry (ref_of x)) (sym same.0) is_left)
      | inr old ↦ w.ordered n height old
    ];
    are_commits = counted_later i1 i2 IsCommit commits met back w.are_commits;
    are_others = counted_later i1 i2 IsOther others met back w.are_others;
    first = met (as_kind kinds.Commit head) w.first;
    names = names_later closed entry i1 i2 need 0 sets met w.names;
    few_commits = w.few_commits;
    few_others = w.few_others;
    few_put = w.few_put;
  }
    where
      stays : StaysDone i1 i2
      stays = sets_done i1 i2 need (mark.Done 0) sets (λ height is. cc (sym fresh ∙ is))

      met : (n : Need) → IsMet i1 n → IsMet i2 n
      met n m = sets_met i1 i2 need (mark.Done 0) sets n m

      kept : (n : Need) (m : Mark) → mark_of i1 n.kind n.name ≡ Some m → mark_of i2 n.kind n.name ≡ Some m
      kept n m is = sets.others n (λ same. let no : mark_of i1 n.kind n.name ≡ None = subst (λ (x : Need). mark_of i1 x.kind x.name ≡ None) (sym same) fresh in cc (sym no ∙ is)) ∙ is

      back : (n : Need) → IsMet i2 n → IsMet i1 n ⊎ IsLeft closed entry (ref_of n)
      back n m = elim (sets_back i1 i2 need (mark.Done 0) sets n m.0 m.1) [
        | inl same ↦ inr (subst (λ (x : Need). IsLeft closed entry (ref_of x)) (sym same.0) is_left)
        | inr old ↦ inl (m.0, old)
      ]
