-- A folder below which no file stands is sound.
use Rattle.std.proofs.Common.{◌≡◌, ℕ, List, [], Option, Some, None, refl, sym, ◌∙◌, ap, subst}
use Rattle.std.specs.Prelude.{option_and_then}
use Rattle.gb_text.specs.Folder.{joined}
use Rattle.gb_text.specs.declared.id.Id.{Id}
use Rattle.gb_text.specs.declared.id.Name.{Name}
use Rattle.gb_store.specs.Files.{Files}
use Rattle.gb_store.specs.ObjectPath.{object_place}
use Rattle.git_object.specs.Reading.{object_of}
use Rattle.git_object.specs.declared.object.Object.{Object}
use Rattle.object_store.specs.Held.{named, object_at, objects_in}
use Rattle.excerpt_cache.specs.Rows.{row_of_file, row_place}
use Rattle.packed_refs.specs.Packed.{head_of, last_head}
use Rattle.ref_store.specs.Refs.{Absent, head_if, packed_in, packed_place, reads_as_packed}
use Rattle.ref_store.proofs.FrameLemmas.{packed_ref}
use Rattle.repo_state.specs.Sides.{head_at, ref_place}
use Rattle.repo_state.specs.Sound.{IsAuthoredBug, IsSound, IsSoundBug, IsSoundIdentity, IsSoundTracking}
use Rattle.repo_state.specs.Sound as parts
use Rattle.repo_state.specs.Users.{user_of, user_place}
use Rattle.repo_state.specs.declared.side.Side.{Side}
use Rattle.repo_state.specs.declared.side.Side.TheVariants as side
use Rattle.row_text.specs.Codec.{row_codec}

module _ (folder : List ℕ) (files : Files) (none : (place : List ℕ) → files (joined folder place) ≡ None) where
  -- no line of packed refs has a name
  no_line : (path : List ℕ) → head_of path [] ≡ None
  unfolding last_head
  no_line path = refl

  -- no ref stands
  no_ref : (of : Side) (id : Id) → Absent ≡ head_at files folder of id
  no_ref of id =
      sym (packed_ref files folder (ref_place of id) (none (ref_place of id)) ∙ ap (λ (file : Option (List ℕ)). head_if (head_of (ref_place of id) (packed_in file))) (none packed_place) ∙ ap head_if (no_line (ref_place of id)))

  -- no name holds an object
  no_object : (name : Name) (object : Object) → object_at (objects_in files folder) name ≡ Some object → ⊥
  no_object name object is =
      let no = ap (λ (file : Option (List ℕ)). option_and_then object_of (option_and_then (named name) file)) (none (object_place name)) in
      cc (sym no ∙ is)

  -- so each part is sound
  pub empty_is_sound : IsSound folder files
  empty_is_sound parts.Objects = record {
    held = λ name text is_name stands. absurd (cc (sym (none (object_place name)) ∙ stands));
    whole = record { needs = λ name object is. absurd (no_object name object is) };
  }
  empty_is_sound parts.Identities = λ id is_id. subst (IsSoundIdentity (objects_in files folder) id) (no_ref side.Identities id) tt
  empty_is_sound parts.Bugs = λ id is_id. subst (IsSoundBug (objects_in files folder) id) (no_ref side.Bugs id) tt
  empty_is_sound parts.Authors = λ id is_id. subst (IsAuthoredBug folder files id) (no_ref side.Bugs id) tt
  empty_is_sound parts.Tracking = λ remote id is_id. (
    subst (IsSoundTracking (objects_in files folder)) (no_ref (side.RemoteBugs remote) id) tt,
    subst (IsSoundTracking (objects_in files folder)) (no_ref (side.RemoteIdentities remote) id) tt,
  )
  empty_is_sound parts.User = λ bad. cc (sym (ap (user_of files folder) (none user_place)) ∙ bad)
  empty_is_sound parts.Rows = (
    λ id is_id. subst (IsSoundBug (objects_in files folder) id) (no_ref side.Bugs id) tt,
    λ id is_id row stored. absurd (cc (sym (ap (row_of_file row_codec) (none (row_place id))) ∙ stored)),
  )
  empty_is_sound parts.Packed = ap reads_as_packed (none packed_place)
