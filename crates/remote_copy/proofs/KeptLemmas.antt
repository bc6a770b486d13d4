-- What the writes of a copy keep of the objects of the target.
use Rattle.std.proofs.Common.{◌≡◌, ◌⊎◌, ◌↔◌, ◌≤◌, inl, inr, length, ℕ, Bool, true, false, cond, List, [], ◌∷◌, ◌++◌, All, Option, Some, None, refl, sym, ◌∙◌, ap, subst}
use Rattle.std.specs.Str.{bytes_eq}
use Rattle.std.proofs.lemmas.List.Elements.{All-append, All-cons, All-head, All-nil, All-tail}
use Rattle.std.proofs.lemmas.Option.{same_Some}
use Rattle.std.proofs.lemmas.Slice.Eq.{bytes_eq-Decides}
use Rattle.gb_text.specs.declared.id.Name.{Name}
use Rattle.gb_text.specs.Digits.{IsName}
use Rattle.gb_text.specs.Folder.{joined}
use Rattle.gb_store.specs.Files.{Files, History, Put, files_of, written}
use Rattle.gb_store.specs.Moments.{EachWrite, Wrote, at_moment}
use Rattle.gb_store.specs.ObjectPath.{object_place}
use Rattle.gb_store.specs.declared.store.Change.{Change}
use Rattle.gb_store.proofs.FrameLemmas.{written-same}
use Rattle.git_object.specs.declared.frame.Kind.{Kind}
use Rattle.git_object.specs.declared.frame.Kind.TheVariants as kinds
use Rattle.git_object.specs.declared.object.Object.{Object}
use Rattle.git_object.specs.Grammar.{IsObjectText, framed, kind_of, object_name}
use Rattle.git_object.specs.Reading.{object_of}
use Rattle.git_object.proofs.ObjectLaws.{object_takes}
use Rattle.object_store.specs.Growth.{OnlyGrew}
use Rattle.object_store.specs.Held.{Objects, object_at, objects_in, text_at}
use Rattle.object_store.specs.Puts.{PutsObject}
use Rattle.object_store.specs.declared.read.TheConstants.{MOST_BYTES}
use Rattle.object_store.proofs.GrowthLemmas.{object_stays}
use Rattle.object_store.proofs.PathLemmas.{path_name}
use Rattle.object_batch.specs.Needs.{IsHeldAs, IsWhole, Leads, Names, NamesNext, Reference}
use Rattle.object_batch.proofs.LeadLemmas.{Leads-then}
use Rattle.remote_copy.specs.Closure.{HasWholeTrees, IsClosed, IsFollowed, IsInClosure, IsLeft, IsReached, LeadsPast, StandsAlike, commit_named, first, need, next, then}
use Rattle.remote_copy.specs.Copies.{IsCopied}
use Rattle.remote_copy.specs.Writes.{PutsCopy}
use Rattle.remote_copy.proofs.TextLemmas.{names_next, next_names, object_at-of_text, object_at-text, text_at-is, text_at-name, text_at-there}

-- a commit is left, or not
pub left_cases : (closed : Bool) (old : Objects) (one : Reference) → IsLeft closed old one ⊎ (IsLeft closed old one → ⊥)
left_cases closed old one = by_closed closed refl
  where
    by_kind : closed ≡ true → (k : Kind) → one.kind ≡ k → (o : Option Object) → object_at old one.name ≡ o → IsLeft closed old one ⊎ (IsLeft closed old one → ⊥)
    by_kind is kinds.Blob kind o at = inr (λ left. let c = left.is_commit in cc (sym kind ∙ c))
    by_kind is kinds.Tree kind o at = inr (λ left. let c = left.is_commit in cc (sym kind ∙ c))
    by_kind is kinds.Commit kind None at = inr (λ left. let held = left.held.is in cc (sym at ∙ held))
    by_kind is kinds.Commit kind (Some object) at = by_object (kind_of object) refl
      where
        by_object : (k : Kind) → kind_of object ≡ k → IsLeft closed old one ⊎ (IsLeft closed old one → ⊥)
        by_object kinds.Commit of = inl (record { is_closed = is; is_commit = kind; held = record { object = object; is = at; is_kind = of } })
        by_object kinds.Blob of = inr (λ left. let same : left.held.object ≡ object = same_Some left.held.object object (sym left.held.is ∙ at) in let no_commit : kinds.Blob ≡ kinds.Commit = sym of ∙ ap kind_of (sym same) ∙ left.held.is_kind in cc)
        by_object kinds.Tree of = inr (λ left. let same : left.held.object ≡ object = same_Some left.held.object object (sym left.held.is ∙ at) in let no_commit : kinds.Tree ≡ kinds.Commit = sym of ∙ ap kind_of (sym same) ∙ left.held.is_kind in cc)

    by_closed : (b : Bool) → closed ≡ b → IsLeft closed old one ⊎ (IsLeft closed old one → ⊥)
    by_closed true is = by_kind is one.kind refl (object_at old one.name) refl
    by_closed false is = inr (λ left. let yes = left.is_closed in cc (sym is ∙ yes))

-- a copied text is an object's
pub puts_object : (closed : Bool) (source target : List ℕ) (entry : Objects) (head : Name) (files : Files) (change : Change) → PutsCopy closed source target entry head files change → PutsObject target files change
puts_object closed source target entry head files change p =
    let text = text_at-is (objects_in files source) p.name p.text p.held in
    let object : IsObjectText p.text p.object = object_takes p.text p.object p.is in
    let frames = object.frames in
    let named : p.name ≡ object_name (framed (kind_of p.object) object.content) = sym text.is_named ∙ ap object_name frames in
    record {
      kind = kind_of p.object;
      content = object.content;
      has = record { object = p.object; is_kind = refl; is = object.is };
      within = subst (λ (t : List ℕ). length t ≤ MOST_BYTES) frames text.within;
      free = ap (objects_in files target) (sym named) ∙ p.free;
      is = p.write ∙ ap (λ (t : List ℕ). Put (joined target (object_place p.name)) t) frames ∙ ap (λ (n : Name). Put (joined target (object_place n)) (framed (kind_of p.object) object.content)) named;
    }

module _ (closed : Bool) (source target : List ℕ) (entry : Objects) (head : Name) (files : Files) (change : Change) (p : PutsCopy closed source target entry head files change) where
  abbrev old : Objects
  old = objects_in files target

  abbrev from : Objects
  from = objects_in files source

  abbrev new : Objects
  new = objects_in (written files change) target

  place : change.path ≡ joined target (object_place p.name)
  place = ap (λ (c : Change). c.path) p.write

  -- what stands now stood, or was put
  stands_now : (name : Name) (text : List ℕ) → IsName name → new name ≡ Some text → (old name ≡ Some text) ⊎ ((p.name ≡ name) × (p.text ≡ text))
  stands_now name text is stands = at (bytes_eq change.path (joined target (object_place name))) refl
    where
      at : (b : Bool) → bytes_eq change.path (joined target (object_place name)) ≡ b → (old name ≡ Some text) ⊎ ((p.name ≡ name) × (p.text ≡ text))
      at true e =
          let same : change.path ≡ joined target (object_place name) = (bytes_eq-Decides change.path (joined target (object_place name))).0 e in
          let bytes : change.bytes ≡ Some text = sym (ap (λ (b : Bool). cond b change.bytes (old name)) e) ∙ stands in
          let put : change.bytes ≡ Some p.text = ap (λ (c : Change). c.bytes) p.write in
          inr (path_name target p.name name (text_at-name from p.name p.text p.held) is (sym place ∙ same), same_Some p.text text (sym put ∙ bytes))
      at false e = inl (sym (ap (λ (b : Bool). cond b change.bytes (old name)) e) ∙ stands)

  -- nothing that stood changes
  grew : OnlyGrew old new
  grew = record { stays = λ name text stands. at name text stands (bytes_eq change.path (joined target (object_place name))) refl }
    where
      at : (name : Name) (text : List ℕ) → old name ≡ Some text → (b : Bool) → bytes_eq change.path (joined target (object_place name)) ≡ b
          → cond (bytes_eq change.path (joined target (object_place name))) change.bytes (old name) ≡ Some text
      at name text stands true e =
          let same : change.path ≡ joined target (object_place name) = (bytes_eq-Decides change.path (joined target (object_place name))).0 e in
          let free : files (joined target (object_place name)) ≡ None = ap files (sym same ∙ place) ∙ p.free in
          absurd (cc (sym free ∙ stands))
      at name text stands false e = ap (λ (b : Bool). cond b change.bytes (old name)) e ∙ stands

  put_stands : new p.name ≡ Some p.text
  put_stands =
      let put : change.bytes ≡ Some p.text = ap (λ (c : Change). c.bytes) p.write in
      ap (written files change) (sym place) ∙ written-same files change ∙ put

  put_held : object_at new p.name ≡ Some p.object
  put_held = object_at-of_text new p.name p.text p.object (text_at-there from new p.name p.text p.held put_stands) p.is

  held_stays : (name : Name) (kind : Kind) → IsHeldAs old name kind → IsHeldAs new name kind
  held_stays name kind held = record { object = held.object; is = object_stays old new grew name held.object held.is; is_kind = held.is_kind }

  -- what is held now was held, or is what was put
  held_now : (name : Name) (object : Object) → object_at new name ≡ Some object → (object_at old name ≡ Some object) ⊎ ((p.name ≡ name) × (p.object ≡ object))
  held_now name object is =
      let found = object_at-text new name object is in
      elim (stands_now name found.0 (text_at-name new name found.0 found.1) (text_at-is new name found.0 found.1).stands) [
        | inl before ↦ inl (object_at-of_text old name found.0 object (text_at-there new old name found.0 found.1 before) found.2)
        | inr put ↦ inr (put.0, same_Some p.object object (sym p.is ∙ ap object_of put.1 ∙ found.2))
      ]

  pub keeps_whole : IsWhole old → IsWhole new
  keeps_whole whole = record {
    needs = λ name object is low kind names. elim (held_now name object is) [
      | inl before ↦ held_stays low kind (whole.needs name object before low kind names)
      | inr put ↦ held_stays low kind (p.needs low kind (subst (λ (o : Object). Names o low kind) (sym put.1) names))
    ];
  }

  pub keeps_trees : HasWholeTrees old → HasWholeTrees new
  keeps_trees whole = record {
    needs = λ name object is tree low kind names. elim (held_now name object is) [
      | inl before ↦ held_stays low kind (whole.needs name object before tree low kind names)
      | inr put ↦ held_stays low kind (p.needs low kind (subst (λ (o : Object). Names o low kind) (sym put.1) names))
    ];
  }

  -- ---- closed folders

  module _ (was_closed : IsClosed old) where
    -- what a commit of the target leads to, what was put, and what was reached from it
    data IsGood : Reference → Type 0 where
      led : {one : Reference} (name : Name) → IsHeldAs old name kinds.Commit → IsInClosure old name one → IsGood one
      put : {one : Reference} → p.name ≡ one.name → kind_of p.object ≡ one.kind → IsGood one
      reached : {one : Reference} → IsReached closed from old p.object one → IsGood one

    good_held : (one : Reference) → IsGood one → IsHeldAs new one.name one.kind
    good_held one (led name held path) = held_stays one.name one.kind (was_closed.closed name held one path)
    good_held one (put name kind) = record { object = p.object; is = subst (λ (n : Name). object_at new n ≡ Some p.object) name put_held; is_kind = kind }
    good_held one (reached r) =
        let s = p.reached one r in
        held_stays one.name one.kind (record { object = s.object; is = object_at-of_text old one.name s.text s.object (text_at-there from old one.name s.text s.held s.there) s.is; is_kind = s.is_kind })

    -- a need that is left is led to by itself
    left_good : (one : Reference) → IsLeft closed old one → IsGood one
    left_good one left =
        let same : commit_named one.name ≡ one = let kind = left.is_commit in ap (λ (k : Kind). as_reference one.name k) (sym kind) in
        led one.name left.held ([], same)
      where
        as_reference : Name → Kind → Reference
        as_reference name kind = record { name = name; kind = kind }

    good_next : (one two : Reference) → IsGood one → NamesNext new one two → IsGood two
    good_next one two (led name held (path, leads)) names =
        let here = was_closed.closed name held one (path, leads) in
        let same : names.object ≡ here.object = same_Some names.object here.object (sym names.is ∙ object_stays old new grew one.name here.object here.is) in
        let names_old : NamesNext old one two = record { object = here.object; is = here.is; is_kind = here.is_kind; names = subst (λ (o : Object). Names o two.name two.kind) same names.names } in
        led name held (path ++ two ∷ [], Leads-then old (commit_named name) path one (two ∷ []) two leads (names_old, refl))
    good_next one two (put name kind) names =
        let at : object_at new one.name ≡ Some p.object = subst (λ (n : Name). object_at new n ≡ Some p.object) name put_held in
        let same : names.object ≡ p.object = same_Some names.object p.object (sym names.is ∙ at) in
        elim (left_cases closed old two) [
          | inl left ↦ left_good two left
          | inr unleft ↦ reached (need (subst (λ (o : Object). Names o two.name two.kind) same names.names) unleft)
        ]
    good_next one two (reached r) names =
        let s = p.reached one r in
        let at : text_at new one.name ≡ Some s.text = text_at-there from new one.name s.text s.held (grew.stays one.name s.text s.there) in
        let names_object = next_names new one two s.text s.object at s.is names in
        elim (left_cases closed old two) [
          | inl left ↦ left_good two left
          | inr unleft ↦ reached (then r (names_next from one two s.text s.object s.held s.is s.is_kind names_object) unleft)
        ]

    good_path : (path : List Reference) (one two : Reference) → IsGood one → Leads new one path two → IsGood two
    good_path [] one two good leads = subst IsGood leads good
    good_path (on ∷ path) one two good (names, leads) = good_path path on two (good_next one on good names) leads

    pub keeps_closed : IsClosed new
    keeps_closed = record {
      closed = λ name held one path. good_held one (good_path path.0 (commit_named name) one (begin name held) path.1);
    }
      where
        begin : (name : Name) → IsHeldAs new name kinds.Commit → IsGood (commit_named name)
        begin name held = elim (held_now name held.object held.is) [
          | inl before ↦ led name (record { object = held.object; is = before; is_kind = held.is_kind }) ([], refl)
          | inr new_one ↦ put new_one.0 (ap kind_of new_one.1 ∙ held.is_kind)
        ]

-- ---- the part that is followed

module _ (closed : Bool) (source target : Objects) (head : Name) where
  abbrev Unleft : Reference → Type 0
  Unleft on = IsLeft closed target on → ⊥

  pub part_path : (one : Reference) → IsFollowed closed source target head one → LeadsPast closed source target (commit_named head) one
  part_path one (first e unleft) = record {
    path = [];
    leads = sym e;
    unleft = All-cons Unleft (commit_named head) [] (subst Unleft e unleft) (All-nil Unleft);
  }
  part_path one (next {high = high} f names unleft) =
      let above = part_path high f in
      record {
        path = above.path ++ one ∷ [];
        leads = Leads-then source (commit_named head) above.path high (one ∷ []) one above.leads (names, refl);
        unleft = All-append Unleft (commit_named head ∷ above.path) (one ∷ []) above.unleft (All-cons Unleft one [] unleft (All-nil Unleft));
      }

  part_on : (path : List Reference) (from to : Reference) → IsFollowed closed source target head from → Leads source from path to → All Unleft path → IsFollowed closed source target head to
  part_on [] from to f leads unleft = subst (IsFollowed closed source target head) leads f
  part_on (on ∷ path) from to f (names, leads) unleft = part_on path on to (next f names (All-head Unleft on path unleft)) leads (All-tail Unleft on path unleft)

  pub path_part : (one : Reference) → LeadsPast closed source target (commit_named head) one → IsFollowed closed source target head one
  path_part one p =
      part_on p.path (commit_named head) one (first refl (All-head Unleft (commit_named head) p.path p.unleft)) p.leads (All-tail Unleft (commit_named head) p.path p.unleft)

-- ---- whole copies

module _ (source entry target : Objects) (head : Name) (copied : IsCopied false source entry target head) where
  not_left : (one : Reference) → IsLeft false entry one → ⊥
  not_left one left = let yes = left.is_closed in cc

  -- all that the head leads to is followed
  follow : (path : List Reference) (one two : Reference) → IsFollowed false source entry head one → Leads source one path two → IsFollowed false source entry head two × Leads target one path two
  follow [] one two f leads = (subst (IsFollowed false source entry head) leads f, leads)
  follow (on ∷ path) one two f (names, leads) =
      let s = copied one f in
      let at : text_at target one.name ≡ Some s.text = text_at-there source target one.name s.text s.held s.there in
      let rest = follow path on two (next f names (not_left on)) leads in
      (rest.0, (names_next target one on s.text s.object at s.is s.is_kind (next_names source one on s.text s.object s.held s.is names), rest.1))

  -- and what it leads to in the target it leads to in the source
  follow_back : (path : List Reference) (one two : Reference) → IsFollowed false source entry head one → Leads target one path two → Leads source one path two
  follow_back [] one two f leads = leads
  follow_back (on ∷ path) one two f (names, leads) =
      let s = copied one f in
      let at : text_at target one.name ≡ Some s.text = text_at-there source target one.name s.text s.held s.there in
      let there : NamesNext source one on = names_next source one on s.text s.object s.held s.is s.is_kind (next_names target one on s.text s.object at s.is names) in
      (there, follow_back path on two (next f there (not_left on)) leads)

  abbrev start : IsFollowed false source entry head (commit_named head)
  start = first refl (not_left (commit_named head))

  pub same_closure : (one : Reference) → IsInClosure source head one ↔ IsInClosure target head one
  same_closure one = (
    λ (path, leads). (path, (follow path (commit_named head) one start leads).1),
    λ (path, leads). (path, follow_back path (commit_named head) one start leads),
  )

  pub alike : (one : Reference) → IsInClosure source head one → StandsAlike source target one
  alike one (path, leads) = copied one (follow path (commit_named head) one start leads).0

-- a head that was copied is held
pub head_closure : (closed : Bool) (source entry target : Objects) (head : Name) (one : Reference) → OnlyGrew entry target → IsClosed target → IsCopied closed source entry target head
    → (IsLeft closed entry (commit_named head) ⊎ (IsLeft closed entry (commit_named head) → ⊥)) → IsInClosure target head one → IsHeldAs target one.name one.kind
head_closure closed source entry target head one grew is copied (inl left) path =
    is.closed head (record { object = left.held.object; is = object_stays entry target grew head left.held.object left.held.is; is_kind = left.held.is_kind }) one path
head_closure closed source entry target head one grew is copied (inr unleft) path =
    let s = copied (commit_named head) (first refl unleft) in
    is.closed head (record { object = s.object; is = object_at-of_text target head s.text s.object (text_at-there source target head s.text s.held s.there) s.is; is_kind = s.is_kind }) one path

-- where the head is left, nothing is followed
pub none_followed : (closed : Bool) (source target : Objects) (head : Name) → IsLeft closed target (commit_named head) → (one : Reference) → IsFollowed closed source target head one → ⊥
none_followed closed source target head left one (first e unleft) = unleft (subst (IsLeft closed target) (sym e) left)
none_followed closed source target head left one (next {high = high} f names unleft) = none_followed closed source target head left high f

-- and so nothing is put
pub nothing_put : (closed : Bool) (source target : List ℕ) (entry : Objects) (head : Name) (old new : History) → IsLeft closed entry (commit_named head)
    → Wrote (PutsCopy closed source target entry head) old new → new ≡ old
nothing_put closed source target entry head old new left wrote = by wrote.writes wrote.grew wrote.each
  where
    by : (writes : List Change) → new ≡ writes ++ old → EachWrite (at_moment (PutsCopy closed source target entry head)) old writes → new ≡ old
    by [] grew each = grew
    by (change ∷ earlier) grew each = absurd (none_followed closed (objects_in (files_of (earlier ++ old)) source) entry head left _ each.1.followed)
