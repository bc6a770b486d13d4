-- What writes change of a folder's files, and what they leave of its refs and its user.
use Rattle.std.proofs.Common.{◌≡◌, ◌≢◌, ℕ, false, IsTrue, List, [], ◌∷◌, ◌++◌, reverse, Contains, None, refl, sym, ◌∙◌, ap, append_assoc, subst, arith}
use Rattle.std.proofs.lemmas.List.{reverse-append}
use Rattle.std.proofs.lemmas.List.Elements.{Contains-append_left, Contains-append_right}
use Rattle.repo_steps.proofs.Names.{Absent, Head, joined, Id, Name, Files, History, files_of, written, EachWrite, Wrote, at_moment, Change, object_name, objects_in, object_write, Contains-first, IsName-object_name, has_ref, head_at, is_there, ref_place, OnlyChanges, BadUser, user_at, user_place, Side, written-other, ref-not_object, user-not_object}
use Rattle.ref_store.specs.Refs.{packed_place}
use Rattle.ref_store.proofs.FrameLemmas.{same_ref}
use Rattle.repo_state.proofs.PlaceLemmas.{object-not_packed}
use Rattle.gb_store.specs.Files.{Put}
use Rattle.gb_store.specs.ObjectPath.{object_place}
use Rattle.ref_store.specs.Refs.{Ref, Bad}
use Rattle.repo_state.specs.declared.side.Side.TheVariants as side
use Rattle.repo_state.proofs.KindLemmas.{user_at-kept}

-- ---- what is changed

-- an object is put where nothing stands
abbrev pub AddsObject : List ℕ → Files → Change → Type 0
AddsObject folder files change = (text : List ℕ) × (objects_in files folder (object_name text) ≡ None) × (change ≡ object_write folder text)

module _ (folder : List ℕ) where
  -- nothing changes
  pub OnlyChanges-none : (files : Files) → OnlyChanges folder [] files files
  OnlyChanges-none files = record { objects = record { stays = λ name text stands. stands }; others = λ path apart none. refl }

  -- changes one after the other
  pub OnlyChanges-then : (first later : List (List ℕ)) (old mid new : Files) → OnlyChanges folder first old mid → OnlyChanges folder later mid new → OnlyChanges folder (first ++ later) old new
  OnlyChanges-then first later old mid new one two = record {
    objects = record { stays = λ name text stands. two.objects.stays name text (one.objects.stays name text stands) };
    others = λ path apart none.
        two.others path (λ place member. apart place (Contains-append_right first later place member)) none
        ∙ one.others path (λ place member. apart place (Contains-append_left first later place member)) none;
  }

  -- a file that is put at no object's path
  pub OnlyChanges-put : (place bytes : List ℕ) (files : Files) → ((name : Name) → joined folder place ≢ joined folder (object_place name))
      → OnlyChanges folder (place ∷ []) files (written files (Put (joined folder place) bytes))
  OnlyChanges-put place bytes files no_object = record {
    objects = record { stays = λ name text stands. written-other files (Put (joined folder place) bytes) (joined folder (object_place name)) (no_object name) ∙ stands };
    others = λ path apart none. written-other files (Put (joined folder place) bytes) path (λ e. apart place (Contains-first place []) (sym e));
  }

  -- an object that is put where nothing stands
  OnlyChanges-object : (files : Files) (change : Change) → AddsObject folder files change → OnlyChanges folder [] files (written files change)
  OnlyChanges-object files change adds = record {
    objects = record { stays = λ name text stands. written-other files change (joined folder (object_place name)) (λ e. cc (sym adds.1 ∙ ap files (sym at ∙ e) ∙ stands)) ∙ stands };
    others = λ path apart none. written-other files change path (λ e. none (record { name = object_name adds.0; is_name = IsName-object_name adds.0; is = sym e ∙ at }));
  }
    where
      at : change.path ≡ joined folder (object_place (object_name adds.0))
      at = ap (λ (c : Change). c.path) adds.2

  each_only : (old writes : History) → EachWrite (at_moment (AddsObject folder)) old writes → OnlyChanges folder [] (files_of old) (files_of (writes ++ old))
  each_only old [] each = OnlyChanges-none (files_of old)
  each_only old (change ∷ earlier) each =
      OnlyChanges-then [] [] (files_of old) (files_of (earlier ++ old)) (files_of (change ∷ earlier ++ old)) (each_only old earlier each.0) (OnlyChanges-object (files_of (earlier ++ old)) change each.1)

  -- objects that are put where nothing stands
  pub OnlyChanges-objects : (old new : History) → Wrote (AddsObject folder) old new → OnlyChanges folder [] (files_of old) (files_of new)
  OnlyChanges-objects old new wrote = subst (λ (h : History). OnlyChanges folder [] (files_of old) (files_of h)) (sym wrote.grew) (each_only old wrote.writes wrote.each)

  -- ---- what is left

  module _ (places : List (List ℕ)) (old new : Files) (only : OnlyChanges folder places old new) where
    -- the ref of an id, where neither its place nor that of the packed refs is changed
    pub ref_left : (of : Side) (id : Id) → ((place : List ℕ) → Contains places place → joined folder (ref_place of id) ≢ joined folder place)
        → ((place : List ℕ) → Contains places place → joined folder packed_place ≢ joined folder place) → head_at new folder of id ≡ head_at old folder of id
    ref_left of id apart packed =
        same_ref new old folder (ref_place of id) (only.others (joined folder (ref_place of id)) apart (λ is. ref-not_object folder of id is.name is.is))
        (only.others (joined folder packed_place) packed (λ is. object-not_packed folder is.name (sym is.is)))

    -- the user, where the refs of identities stay
    pub user_left : ((place : List ℕ) → Contains places place → joined folder user_place ≢ joined folder place)
        → ((id : Id) → IsTrue (has_ref old folder side.Identities id) → IsTrue (has_ref new folder side.Identities id)) → (user_at old folder ≡ BadUser → ⊥) → user_at new folder ≡ user_at old folder
    user_left apart stand sound = user_at-kept old new folder (only.others (joined folder user_place) apart (λ is. user-not_object folder is.name is.is)) stand sound

  -- where only objects were added, each ref and the user stay
  module _ (old new : Files) (only : OnlyChanges folder [] old new) where
    none_among : (path : List ℕ) (place : List ℕ) → Contains [] place → path ≢ joined folder place
    none_among path place among = absurd (omega (arith, among.1))

    -- a head at no path that changed stays
    pub head_kept : (of : Side) (id : Id) → head_at new folder of id ≡ head_at old folder of id
    head_kept of id = ref_left [] old new only of id (none_among (joined folder (ref_place of id))) (none_among (joined folder packed_place))

-- ---- what comes first

-- all of the first writes, and all of the others
pub all_both : (writes more : List Change) (old mid new : History) → mid ≡ reverse writes ++ old → new ≡ reverse more ++ mid → new ≡ reverse (writes ++ more) ++ old
all_both writes more old mid new first then =
    then ∙ ap (λ (h : History). reverse more ++ h) first ∙ sym (ap (λ (ws : List Change). ws ++ old) (reverse-append writes more) ∙ append_assoc (reverse more) (reverse writes) old)

-- a ref that does not stand
pub head_at-absent : (files : Files) (folder : List ℕ) (of : Side) (id : Id) → has_ref files folder of id ≡ false → head_at files folder of id ≡ Absent
head_at-absent files folder of id none = each (head_at files folder of id) none
  where
    each : (ref : Ref) → is_there ref ≡ false → ref ≡ Absent
    each Absent e = refl
    each (Head name) e = cc
    each Bad e = cc
