-- What an exchange does is determined by the files before it, where no copy is refused.
use Rattle.std.proofs.Common.{◌≡◌, ◌≢◌, ◌⊎◌, inl, inr, refl, sym, ◌∙◌, ap, subst, arith, cond, ℕ, zero, suc, Bool, true, false, List, [], ◌∷◌, ◌++◌, Contains, map, Option, Some, None, Ok}
use Rattle.std.specs.Str.{bytes_eq}
use Rattle.std.proofs.lemmas.Cmp.{nat_list_cmp_total}
use Rattle.std.proofs.lemmas.List.Elements.{Contains-append_left, Contains-append_right}
use Rattle.std.proofs.lemmas.Option.{same_Some}
use Rattle.std.proofs.lemmas.Slice.Eq.{bytes_eq-Decides}
use Rattle.gb_text.specs.Folder.{joined}
use Rattle.gb_text.specs.Overlap.{Overlap}
use Rattle.gb_text.specs.declared.id.Id.{Id}
use Rattle.gb_text.specs.declared.id.Name.{Name}
use Rattle.gb_text.proofs.PathLemmas.{Overlap-mutual}
use Rattle.gb_text.proofs.SortedLemmas.{same_elements}
use Rattle.gb_store.specs.Files.{Files, History, file_at, files_of, written}
use Rattle.gb_store.specs.Moments.{EachWrite, at_moment}
use Rattle.gb_store.specs.ObjectPath.{object_place}
use Rattle.gb_store.specs.Turns.{InTurn}
use Rattle.gb_store.specs.declared.store.Change.{Change}
use Rattle.git_object.specs.Grammar.{kind_of}
use Rattle.object_store.specs.Held.{Objects, objects_after, objects_in, text_at}
use Rattle.object_batch.specs.Needs.{Reference}
use Rattle.commit_walk.specs.Below.{IsBelow}
use Rattle.ref_store.specs.Refs.{Ref, Head, Bad}
use Rattle.remote_copy.specs.Causes.{CauseHolds}
use Rattle.remote_copy.specs.Closure.{IsFollowed}
use Rattle.remote_copy.specs.Copies.{IsCopied}
use Rattle.remote_copy.specs.Writes.{PutsCopy}
use Rattle.remote_copy.proofs.StepLemmas.{put_kept}
use Rattle.remote_name.specs.declared.remote.RemoteName.{RemoteName}
use Rattle.repo_state.specs.Listed.{AreRefs, ref_with}
use Rattle.repo_state.specs.Sides.{head_at}
use Rattle.repo_state.specs.declared.refs.EntityRef.{EntityRef}
use Rattle.repo_state.specs.declared.side.HeadEntry.{HeadEntry}
use Rattle.repo_state.specs.declared.side.Side.{Side}
use Rattle.repo_state.specs.declared.side.Side.TheVariants as side
use Rattle.repo_state.specs.declared.stop.ReadStop.{ReadStop}
use Rattle.repo_state.proofs.ListingLemmas.{Contains-from_map, Contains-map}
use Rattle.sync_steps.specs.Carrying.{IsCarried, IsRefused, fault_of, head_write}
use Rattle.sync_steps.specs.Fetching.{FetchAnswers, FetchOutcome, FetchStops, Fetches, IsOther}
use Rattle.sync_steps.specs.Places.{local_side, tracking_side}
use Rattle.sync_steps.specs.Pushing.{IsForward, PushAnswers, PushOfRef, PushOutcome, PushStops, Pushes}
use Rattle.sync_steps.specs.Turns.{IsDone, Turn, are_held, entities_of, line_of, lines_of}
use Rattle.sync_steps.specs.declared.line.CopyCause.{CopyCause}
use Rattle.sync_steps.specs.declared.line.EntityWord.{EntityWord}
use Rattle.sync_steps.specs.declared.line.EntityWord.TheVariants as word
use Rattle.sync_steps.specs.declared.line.Exchange.{Exchange}
use Rattle.sync_steps.specs.declared.line.Exchange.TheVariants as verb
use Rattle.sync_steps.specs.declared.line.Line.{Line}
use Rattle.sync_steps.specs.declared.line.Outcome.{Outcome}
use Rattle.sync_steps.specs.declared.line.Outcome.TheVariants as outcome
use Rattle.sync_writes.specs.Same.{NoCopyRefused}

-- ---- what a copy writes

module _ (closed : Bool) (source target : List ℕ) (apart : Overlap source target → ⊥) where
  -- the file at a path is that of an object of the part that a copy follows, as the source has it
  record IsOfPart (theirs entry : Objects) (head : Name) (path : List ℕ) (file : Option (List ℕ)) : Type 0 where
    pub one : Reference
    pub followed : IsFollowed closed theirs entry head one
    pub text : List ℕ
    pub held : text_at theirs one.name ≡ Some text
    pub at : path ≡ joined target (object_place one.name)
    pub is : file ≡ Some text

  module _ (entry : Objects) (head : Name) (old : History) where
    abbrev WasOrIs : History → List ℕ → Type 0
    WasOrIs new path = (file_at new path ≡ file_at old path) ⊎ IsOfPart (objects_after old source) entry head path (file_at new path)

    -- each file is as it was, or such a one; and the source is as it was
    abbrev Came : History → Type 0
    Came new = (objects_after new source ≡ objects_after old source) × ((path : List ℕ) → WasOrIs new path)

    came_more : (change : Change) (earlier : List Change) → PutsCopy closed source target entry head (files_of (earlier ++ old)) change → Came (earlier ++ old) → Came (change ∷ earlier ++ old)
    came_more change earlier puts before = (kept, λ path. there path (bytes_eq change.path path) refl)
      where
        kept : objects_after (change ∷ earlier ++ old) source ≡ objects_after old source
        kept = ap (λ (c : Change). objects_after (c ∷ earlier ++ old) source) puts.write ∙ put_kept source target apart (earlier ++ old) puts.name puts.text ∙ before.0

        there : (path : List ℕ) (b : Bool) → bytes_eq change.path path ≡ b → WasOrIs (change ∷ earlier ++ old) path
        there path true e = inr (record {
          one = record { name = puts.name; kind = kind_of puts.object };
          followed = subst (λ (o : Objects). IsFollowed closed o entry head (record { name = puts.name; kind = kind_of puts.object })) before.0 puts.followed;
          text = puts.text;
          held = subst (λ (o : Objects). text_at o puts.name ≡ Some puts.text) before.0 puts.held;
          at = sym ((bytes_eq-Decides change.path path).0 e) ∙ ap (λ (c : Change). c.path) puts.write;
          is = ap (λ (b : Bool). cond b change.bytes (file_at (earlier ++ old) path)) e ∙ ap (λ (c : Change). c.bytes) puts.write;
        })
        there path false e =
            let same : file_at (change ∷ earlier ++ old) path ≡ file_at (earlier ++ old) path = ap (λ (b : Bool). cond b change.bytes (file_at (earlier ++ old) path)) e in
            elim (before.1 path) [
              | inl was ↦ inl (same ∙ was)
              | inr part ↦ inr (record { one = part.one; followed = part.followed; text = part.text; held = part.held; at = part.at; is = same ∙ part.is })
            ]

    came : (writes : List Change) → EachWrite (at_moment (PutsCopy closed source target entry head)) old writes → Came (writes ++ old)
    came [] each = (refl, λ path. inl refl)
    came (change ∷ earlier) each = came_more change earlier each.1 (came earlier each.0)

  -- a head that is carried twice from the same files leaves the same files
  module _ (to : Side) (head : HeadEntry) (old elder new newer : History) (same : files_of old ≡ files_of elder) (one : IsCarried closed source target to head old new) (two : IsCarried closed source target to head elder newer) where
    part_of : (start end late : History) → files_of start ≡ files_of late → (path : List ℕ) (file : Option (List ℕ)) → IsOfPart (objects_after start source) (objects_after start target) head.name path file
        → IsCopied closed (objects_after late source) (objects_after late target) (objects_after end target) head.name → file_at end path ≡ file
    part_of start end late alike path file part copied =
        let followed : IsFollowed closed (objects_after late source) (objects_after late target) head.name part.one =
        subst (λ (files : Files). IsFollowed closed (objects_in files source) (objects_in files target) head.name part.one) alike part.followed in
        let stands = copied part.one followed in
        let held : text_at (objects_after late source) part.one.name ≡ Some part.text = subst (λ (files : Files). text_at (objects_in files source) part.one.name ≡ Some part.text) alike part.held in
        let text : stands.text ≡ part.text = same_Some stands.text part.text (sym stands.held ∙ held) in
        ap (file_at end) part.at ∙ stands.there ∙ ap Some text ∙ sym part.is

    mids_at : (path : List ℕ) → file_at one.mid path ≡ file_at two.mid path
    mids_at path = by ((came (objects_after old target) head.name old one.put.writes one.put.each).1 path) ((came (objects_after elder target) head.name elder two.put.writes two.put.each).1 path)
      where
        here : file_at one.mid path ≡ file_at (one.put.writes ++ old) path
        here = ap (λ (h : History). file_at h path) one.put.grew

        also : file_at two.mid path ≡ file_at (two.put.writes ++ elder) path
        also = ap (λ (h : History). file_at h path) two.put.grew

        by : WasOrIs (objects_after old target) head.name old (one.put.writes ++ old) path → WasOrIs (objects_after elder target) head.name elder (two.put.writes ++ elder) path
            → file_at one.mid path ≡ file_at two.mid path
        by (inl was) (inl were) = here ∙ was ∙ ap (λ (files : Files). files path) same ∙ sym were ∙ sym also
        by (inr part) other = here ∙ sym (part_of old two.mid elder same path (file_at (one.put.writes ++ old) path) part two.copied)
        by (inl was) (inr part) = part_of elder one.mid old (sym same) path (file_at (two.put.writes ++ elder) path) part one.copied ∙ sym also

    mids : files_of one.mid ≡ files_of two.mid
    mids = λ i path. mids_at path i

    pub carried_same : files_of new ≡ files_of newer
    carried_same = ap files_of one.set ∙ ap (λ (files : Files). written files (head_write target to head)) mids ∙ sym (ap files_of two.set)

-- ---- turns

-- no copy was refused
abbrev IsNoRefusal : Outcome → Type 0
IsNoRefusal out = (why : CopyCause) → out ≡ outcome.DamagedCopy why → ⊥

-- two turns came to the same, and left the same files
abbrev SameEnd : Outcome → Outcome → History → History → Type 0
SameEnd out other new newer = (out ≡ other) × (files_of new ≡ files_of newer)

-- a turn of an entity
abbrev turn_with : EntityRef → Outcome → Turn
turn_with entity out = record { entity = entity; outcome = out }

-- turns of an entity from the same files come to the same, where no copy is refused
abbrev StepsAlike : (Turn → History → History → Type 0) → Type 0
StepsAlike Step = (entity : EntityRef) (out other : Outcome) (old elder new newer : History) → files_of old ≡ files_of elder → IsNoRefusal out
    → Step (turn_with entity out) old new → Step (turn_with entity other) elder newer → SameEnd out other new newer

turns_same : (Step : Turn → History → History → Type 0) → StepsAlike Step → (turns others : List Turn) (old elder new newer : History) → entities_of turns ≡ entities_of others
    → files_of old ≡ files_of elder → ((turn : Turn) → Contains turns turn → IsNoRefusal turn.outcome) → InTurn Step turns old new → InTurn Step others elder newer
    → (turns ≡ others) × (files_of new ≡ files_of newer)
turns_same Step alike [] [] old elder new newer e same fine quiet still = (refl, ap files_of quiet ∙ same ∙ sym (ap files_of still))
turns_same Step alike [] (other ∷ others) old elder new newer e same fine one two = absurd (cc)
turns_same Step alike (turn ∷ turns) [] old elder new newer e same fine one two = absurd (cc)
turns_same Step alike (turn ∷ turns) (other ∷ others) old elder new newer e same fine (mid, step, later) (middle, also, rest) =
    let first : turn.entity ≡ other.entity = cc in
    let tails : entities_of turns ≡ entities_of others = cc in
    let there : Step (turn_with turn.entity other.outcome) elder middle = subst (λ (entity : EntityRef). Step (turn_with entity other.outcome) elder middle) (sym first) also in
    let one = alike turn.entity turn.outcome other.outcome old elder mid middle same (fine turn (zero, omega arith, refl)) step there in
    let is : turn ≡ other = λ i. record { entity = first i; outcome = one.0 i } in
    let all = turns_same Step alike turns others mid middle new newer tails one.1 (λ t c. fine t (suc c.0, omega (arith, c.1), c.2)) later rest in
    ((λ i. is i ∷ all.0 i), all.1)

-- ---- the turn of an entity that is fetched

-- a ref with a head has no other
not_other : (ref : Ref) (name : Name) → ref ≡ Head name → IsOther ref name → ⊥
not_other ref name e other = let is : IsOther (Head name) name = subst (λ (r : Ref). IsOther r name) e other in is refl

module _ (own peer : List ℕ) (apart : Overlap own peer → ⊥) (to : Side) where
  -- what came of a ref that is no ref text
  none_came : (id : Id) (out : Outcome) (old new : History) → FetchOutcome own peer to id None out old new → (out ≡ outcome.BadRef) × (new ≡ old)
  none_came id outcome.BadRef old new is = (refl, is)
  none_came id outcome.Fetched old new none = absurd none
  none_came id outcome.Pushed old new none = absurd none
  none_came id outcome.Same old new none = absurd none
  none_came id (outcome.DamagedCopy why) old new none = absurd none
  none_came id (outcome.NotForward other) old new none = absurd none
  none_came id outcome.Held old new none = absurd none

  -- what came of a head
  abbrev IsFetched : Id → Name → Outcome → History → History → Type 0
  IsFetched id name out old new =
      ((out ≡ outcome.Same) × (head_at (files_of old) own to id ≡ Head name) × (new ≡ old))
      ⊎ (((out ≡ outcome.Fetched) × IsOther (head_at (files_of old) own to id) name × IsCarried true peer own to (record { id = id; name = name }) old new)
      ⊎ ((why : CopyCause) × (out ≡ outcome.DamagedCopy why) × IsOther (head_at (files_of old) own to id) name × IsRefused true peer own (record { id = id; name = name }) why old new))

  head_came : (id : Id) (name : Name) (out : Outcome) (old new : History) → FetchOutcome own peer to id (Some name) out old new → IsFetched id name out old new
  head_came id name outcome.Same old new is = inl (refl, is.0, is.1)
  head_came id name outcome.Fetched old new is = inr (inl (refl, is.0, is.1))
  head_came id name (outcome.DamagedCopy why) old new is = inr (inr (why, refl, is.0, is.1))
  head_came id name outcome.BadRef old new none = absurd none
  head_came id name outcome.Pushed old new none = absurd none
  head_came id name (outcome.NotForward other) old new none = absurd none
  head_came id name outcome.Held old new none = absurd none

  module _ (id : Id) (name : Name) (out other : Outcome) (old elder new newer : History) (same : files_of old ≡ files_of elder) (fine : IsNoRefusal out) where
    at : head_at (files_of old) own to id ≡ head_at (files_of elder) own to id
    at = ap (λ (files : Files). head_at files own to id) same

    fetched_same : IsFetched id name out old new → IsFetched id name other elder newer → SameEnd out other new newer
    fetched_same (inl (is, here, quiet)) (inl (too, there, still)) = (is ∙ sym too, ap files_of quiet ∙ same ∙ sym (ap files_of still))
    fetched_same (inl (is, here, quiet)) (inr (inl (too, differs, carried))) = absurd (not_other (head_at (files_of elder) own to id) name (sym at ∙ here) differs)
    fetched_same (inl (is, here, quiet)) (inr (inr (why, too, differs, refused))) = absurd (not_other (head_at (files_of elder) own to id) name (sym at ∙ here) differs)
    fetched_same (inr (inl (is, differs, carried))) (inl (too, there, still)) = absurd (not_other (head_at (files_of old) own to id) name (at ∙ there) differs)
    fetched_same (inr (inl (is, differs, carried))) (inr (inl (too, also, taken))) =
        (is ∙ sym too, carried_same true peer own (λ overlap. apart (Overlap-mutual peer own overlap)) to (record { id = id; name = name }) old elder new newer same carried taken)
    fetched_same (inr (inl (is, differs, carried))) (inr (inr (why, too, also, refused))) =
        absurd (carried.no_cause (fault_of why) (subst (λ (files : Files). CauseHolds true (objects_in files peer) (objects_in files own) name (fault_of why)) (sym same) refused.cause))
    fetched_same (inr (inr (why, is, differs, refused))) two = absurd (fine why is)

  fetches_alike : StepsAlike (Fetches own peer to)
  fetches_alike entity out other old elder new newer same fine one two = by entity.head one two
    where
      by : (head : Option Name) → FetchOutcome own peer to entity.id head out old new → FetchOutcome own peer to entity.id head other elder newer → SameEnd out other new newer
      by None here there =
          let is = none_came entity.id out old new here in
          let too = none_came entity.id other elder newer there in
          (is.0 ∙ sym too.0, ap files_of is.1 ∙ same ∙ sym (ap files_of too.1))
      by (Some name) here there =
          fetched_same entity.id name out other old elder new newer same fine (head_came entity.id name out old new here) (head_came entity.id name other elder newer there)

-- ---- the turn of an entity that is pushed

module _ (own peer : List ℕ) (apart : Overlap own peer → ⊥) (of : Side) where
  -- the peer's ref decides: it has the head, is no ref text, or has a head that is not below
  abbrev IsSettled : Objects → Ref → Name → Outcome → Type 0
  IsSettled objects ref name out =
      ((out ≡ outcome.Same) × (ref ≡ Head name))
      ⊎ (((out ≡ outcome.BadRef) × (ref ≡ Bad))
      ⊎ ((other : Name) × (out ≡ outcome.NotForward other) × (ref ≡ Head other) × (other ≢ name) × (IsBelow objects (name ∷ []) other → ⊥)))

  module _ (objects : Objects) (ref : Ref) (name : Name) where
    -- it decides once
    settled_once : (out other : Outcome) → IsSettled objects ref name out → IsSettled objects ref name other → out ≡ other
    settled_once out other (inl (is, at)) (inl (too, also)) = is ∙ sym too
    settled_once out other (inl (is, at)) (inr (inl (too, also))) = let clash : Head name ≡ Bad = sym at ∙ also in absurd (cc)
    settled_once out other (inl (is, at)) (inr (inr (low, too, also, differs, none))) = let same : Head name ≡ Head low = sym at ∙ also in let named : name ≡ low = cc in absurd (differs (sym named))
    settled_once out other (inr (inl (is, at))) (inl (too, also)) = let clash : Bad ≡ Head name = sym at ∙ also in absurd (cc)
    settled_once out other (inr (inl (is, at))) (inr (inl (too, also))) = is ∙ sym too
    settled_once out other (inr (inl (is, at))) (inr (inr (low, too, also, differs, none))) = let clash : Bad ≡ Head low = sym at ∙ also in absurd (cc)
    settled_once out other (inr (inr (high, is, at, differs, none))) (inl (too, also)) = let same : Head high ≡ Head name = sym at ∙ also in let named : high ≡ name = cc in absurd (differs named)
    settled_once out other (inr (inr (high, is, at, differs, none))) (inr (inl (too, also))) = let clash : Head high ≡ Bad = sym at ∙ also in absurd (cc)
    settled_once out other (inr (inr (high, is, at, differs, none))) (inr (inr (low, too, also, differ, never))) =
        let same : Head high ≡ Head low = sym at ∙ also in
        let named : high ≡ low = cc in is ∙ ap outcome.NotForward named ∙ sym too

    -- and not where the head goes forward
    not_settled : (out : Outcome) → IsForward objects ref name → IsSettled objects ref name out → ⊥
    not_settled out goes (inl (is, at)) = let there : IsForward objects (Head name) name = subst (λ (r : Ref). IsForward objects r name) at goes in there.0 refl
    not_settled out goes (inr (inl (is, at))) = subst (λ (r : Ref). IsForward objects r name) at goes
    not_settled out goes (inr (inr (low, is, at, differs, none))) = let there : IsForward objects (Head low) name = subst (λ (r : Ref). IsForward objects r name) at goes in none there.1

  abbrev peers_ref : Id → History → Ref
  peers_ref id old = head_at (files_of old) peer of id

  -- what came of a head
  abbrev IsPushed : Id → Name → Outcome → History → History → Type 0
  IsPushed id name out old new =
      (IsSettled (objects_after old own) (peers_ref id old) name out × (new ≡ old))
      ⊎ (((out ≡ outcome.Pushed) × IsForward (objects_after old own) (peers_ref id old) name × IsCarried false own peer of (record { id = id; name = name }) old new)
      ⊎ ((why : CopyCause) × (out ≡ outcome.DamagedCopy why) × IsForward (objects_after old own) (peers_ref id old) name × IsRefused false own peer (record { id = id; name = name }) why old new))

  push_came : (id : Id) (name : Name) (out : Outcome) (old new : History) → PushOutcome own peer of id name out old new → IsPushed id name out old new
  push_came id name outcome.Same old new is = inl (inl (refl, is.0), is.1)
  push_came id name outcome.BadRef old new is = inl (inr (inl (refl, is.0)), is.1)
  push_came id name (outcome.NotForward other) old new is = inl (inr (inr (other, refl, is.0, is.1, is.2)), is.3)
  push_came id name outcome.Pushed old new is = inr (inl (refl, is.0, is.1))
  push_came id name (outcome.DamagedCopy why) old new is = inr (inr (why, refl, is.0, is.1))
  push_came id name outcome.Fetched old new none = absurd none
  push_came id name outcome.Held old new none = absurd none

  module _ (id : Id) (name : Name) (out other : Outcome) (old elder new newer : History) (same : files_of old ≡ files_of elder) (fine : IsNoRefusal out) where
    settled_here : IsSettled (objects_after elder own) (peers_ref id elder) name other → IsSettled (objects_after old own) (peers_ref id old) name other
    settled_here = subst (λ (files : Files). IsSettled (objects_in files own) (head_at files peer of id) name other) (sym same)

    goes_here : IsForward (objects_after elder own) (peers_ref id elder) name → IsForward (objects_after old own) (peers_ref id old) name
    goes_here = subst (λ (files : Files). IsForward (objects_in files own) (head_at files peer of id) name) (sym same)

    pushed_same : IsPushed id name out old new → IsPushed id name other elder newer → SameEnd out other new newer
    pushed_same (inl (is, quiet)) (inl (too, still)) =
        (settled_once (objects_after old own) (peers_ref id old) name out other is (settled_here too), ap files_of quiet ∙ same ∙ sym (ap files_of still))
    pushed_same (inl (is, quiet)) (inr (inl (too, goes, carried))) = absurd (not_settled (objects_after old own) (peers_ref id old) name out (goes_here goes) is)
    pushed_same (inl (is, quiet)) (inr (inr (why, too, goes, refused))) = absurd (not_settled (objects_after old own) (peers_ref id old) name out (goes_here goes) is)
    pushed_same (inr (inl (is, goes, carried))) (inl (too, still)) = absurd (not_settled (objects_after old own) (peers_ref id old) name other goes (settled_here too))
    pushed_same (inr (inl (is, goes, carried))) (inr (inl (too, also, taken))) =
        (is ∙ sym too, carried_same false own peer apart of (record { id = id; name = name }) old elder new newer same carried taken)
    pushed_same (inr (inl (is, goes, carried))) (inr (inr (why, too, also, refused))) =
        absurd (carried.no_cause (fault_of why) (subst (λ (files : Files). CauseHolds false (objects_in files own) (objects_in files peer) name (fault_of why)) (sym same) refused.cause))
    pushed_same (inr (inr (why, is, goes, refused))) two = absurd (fine why is)

  pushes_alike : (held : Bool) → StepsAlike (Pushes own peer of held)
  pushes_alike true entity out other old elder new newer same fine one two = (one.0 ∙ sym two.0, ap files_of one.1 ∙ same ∙ sym (ap files_of two.1))
  pushes_alike false entity out other old elder new newer same fine one two = by entity.head one two
    where
      by : (head : Option Name) → PushOfRef own peer of entity.id head out old new → PushOfRef own peer of entity.id head other elder newer → SameEnd out other new newer
      by None here there = absurd here
      by (Some name) here there =
          pushed_same entity.id name out other old elder new newer same fine (push_came entity.id name out old new here) (push_came entity.id name other elder newer there)

-- ---- the refs

-- the same heads make the same ref
same_head : (one two : Option Name) → ref_with one ≡ ref_with two → one ≡ two
same_head None None e = refl
same_head None (Some name) e = absurd (cc)
same_head (Some name) None e = absurd (cc)
same_head (Some name) (Some other) e = let is : name ≡ other = cc in ap Some is

module _ (files : Files) (folder : List ℕ) (of : Side) where
  abbrev Reads : EntityRef → Type 0
  Reads entity = head_at files folder of entity.id ≡ ref_with entity.head

  entries_same : (refs others : List EntityRef) → ((e : EntityRef) → Contains refs e → Reads e) → ((e : EntityRef) → Contains others e → Reads e)
      → map (λ (e : EntityRef). e.id.bytes) refs ≡ map (λ (e : EntityRef). e.id.bytes) others → refs ≡ others
  entries_same [] [] mine theirs e = refl
  entries_same [] (other ∷ others) mine theirs e = absurd (cc)
  entries_same (one ∷ refs) [] mine theirs e = absurd (cc)
  entries_same (one ∷ refs) (other ∷ others) mine theirs e =
      let bytes : one.id.bytes ≡ other.id.bytes = cc in
      let rest : map (λ (e : EntityRef). e.id.bytes) refs ≡ map (λ (e : EntityRef). e.id.bytes) others = cc in
      let id : one.id ≡ other.id = λ i. record { bytes = bytes i } in
      let reads = mine one (zero, omega arith, refl) in
      let also = theirs other (zero, omega arith, refl) in
      let head : one.head ≡ other.head = same_head one.head other.head (sym reads ∙ ap (λ (it : Id). head_at files folder of it) id ∙ also) in
      let is : one ≡ other = λ i. record { id = id i; head = head i } in
      let are = entries_same refs others (λ e c. mine e (suc c.0, omega (arith, c.1), c.2)) (λ e c. theirs e (suc c.0, omega (arith, c.1), c.2)) rest in
      λ i. is i ∷ are i

  refs_same : (refs others : List EntityRef) → AreRefs files folder of refs → AreRefs files folder of others → refs ≡ others
  refs_same refs others are also =
      entries_same refs others (λ e c. ((are.members e).0 c).1) (λ e c. ((also.members e).0 c).1)
      (same_elements nat_list_cmp_total (map bytes refs) (map bytes others) are.rising also.rising (there refs others are also) (there others refs also are))
    where
      bytes : EntityRef → List ℕ
      bytes e = e.id.bytes

      there : (xs ys : List EntityRef) → AreRefs files folder of xs → AreRefs files folder of ys → (b : List ℕ) → Contains (map bytes xs) b → Contains (map bytes ys) b
      there xs ys ours theirs b c =
          let found = Contains-from_map bytes xs b c in
          subst (Contains (map bytes ys)) found.2 (Contains-map bytes ys found.0 ((theirs.members found.0).1 ((ours.members found.0).0 found.1)))

-- ---- an exchange

module _ (verb : Exchange) (Step : EntityWord → Bool → Turn → History → History → Type 0) (Stops : EntityWord → Bool → ReadStop → EntityRef → History → History → Type 0)
    (alike : (word : EntityWord) (held : Bool) → StepsAlike (Step word held)) (folder : List ℕ) where
  -- the turns of lines of which none tells a refused copy
  fine_turns : (word : EntityWord) (turns : List Turn) (lines : List Line) → NoCopyRefused lines → ((line : Line) → Contains (lines_of verb word turns) line → Contains lines line)
      → (turn : Turn) → Contains turns turn → IsNoRefusal turn.outcome
  fine_turns word turns lines fine among turn c = λ why e. fine (line_of verb word turn) why (among (line_of verb word turn) (Contains-map (line_of verb word) turns turn c)) e

  module _ (old elder new newer : History) (lines others : List Line) (same : files_of old ≡ files_of elder) (fine : NoCopyRefused lines)
      (one : IsDone verb Step Stops folder lines old new) (two : IsDone verb Step Stops folder others elder newer) where
    people : one.people ≡ two.people
    people = refs_same (files_of elder) folder side.Identities one.people two.people (subst (λ (files : Files). AreRefs files folder side.Identities one.people) same one.are.are_people) two.are.are_people

    listed : one.bugs ≡ two.bugs
    listed = refs_same (files_of elder) folder side.Bugs one.bugs two.bugs (subst (λ (files : Files). AreRefs files folder side.Bugs one.bugs) same one.are.are_bugs) two.are.are_bugs

    abbrev first_lines : List Line
    first_lines = lines_of verb word.Identity one.person_turns

    abbrev later_lines : List Line
    later_lines = lines_of verb word.Bug one.bug_turns

    persons : (one.person_turns ≡ two.person_turns) × (files_of one.mid ≡ files_of two.mid)
    persons = turns_same (Step word.Identity false) (alike word.Identity false) one.person_turns two.person_turns old elder one.mid two.mid (one.first.are ∙ people ∙ sym two.first.are) same
        (fine_turns word.Identity one.person_turns lines fine (λ line c. subst (λ (ls : List Line). Contains ls line) (sym one.are_lines) (Contains-append_left first_lines later_lines line c)))
        one.first.each two.first.each

    later : InTurn (Step word.Bug (are_held one.person_turns)) two.bug_turns two.mid newer
    later = subst (λ (turns : List Turn). InTurn (Step word.Bug (are_held turns)) two.bug_turns two.mid newer) (sym persons.0) two.then.each

    bugs : (one.bug_turns ≡ two.bug_turns) × (files_of new ≡ files_of newer)
    bugs = turns_same (Step word.Bug (are_held one.person_turns)) (alike word.Bug (are_held one.person_turns)) one.bug_turns two.bug_turns one.mid two.mid new newer
        (one.then.are ∙ listed ∙ sym two.then.are) persons.1
        (fine_turns word.Bug one.bug_turns lines fine (λ line c. subst (λ (ls : List Line). Contains ls line) (sym one.are_lines) (Contains-append_right first_lines later_lines line c)))
        one.then.each later

    done_same : (lines ≡ others) × (files_of new ≡ files_of newer)
    done_same = (
      one.are_lines
          ∙ ap (λ (turns : List Turn). lines_of verb word.Identity turns ++ later_lines) persons.0
          ∙ ap (λ (turns : List Turn). lines_of verb word.Identity two.person_turns ++ lines_of verb word.Bug turns) bugs.0
          ∙ sym two.are_lines,
      bugs.1,
    )

pub fetch_same : (own peer : List ℕ) (remote : RemoteName) (old elder new newer : History) (lines others : List Line) → (Overlap own peer → ⊥) → files_of old ≡ files_of elder → NoCopyRefused lines
    → FetchAnswers own peer remote old new (Ok lines) → FetchAnswers own peer remote elder newer (Ok others) → (lines ≡ others) × (files_of new ≡ files_of newer)
fetch_same own peer remote old elder new newer lines others apart same fine one two =
    done_same verb.Fetch (λ word held. Fetches own peer (tracking_side remote word)) (λ word held. FetchStops own peer (tracking_side remote word))
    (λ word held. fetches_alike own peer apart (tracking_side remote word)) peer old elder new newer lines others same fine one two

pub push_same : (own peer : List ℕ) (old elder new newer : History) (lines others : List Line) → (Overlap own peer → ⊥) → files_of old ≡ files_of elder → NoCopyRefused lines
    → PushAnswers own peer old new (Ok lines) → PushAnswers own peer elder newer (Ok others) → (lines ≡ others) × (files_of new ≡ files_of newer)
push_same own peer old elder new newer lines others apart same fine one two =
    done_same verb.Push (λ word. Pushes own peer (local_side word)) (λ word. PushStops own peer (local_side word))
    (λ word held. pushes_alike own peer apart (local_side word) held) own old elder new newer lines others same fine one two
