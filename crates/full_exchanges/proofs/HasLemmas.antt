-- What a folder has of a bug by a ref that reads the same, where each name is of one text.
use Rattle.std.proofs.Common.{◌≡◌, ℕ, List, [], ◌∷◌, Contains, refl, sym, ◌∙◌, subst}
use Rattle.gb_text.specs.Digits.{IsId}
use Rattle.gb_text.specs.declared.id.Id.{Id}
use Rattle.gb_text.specs.declared.id.Name.{Name}
use Rattle.gb_store.specs.Files.{Files}
use Rattle.gb_store.specs.ObjectPath.{object_place}
use Rattle.git_object.specs.declared.frame.Kind.TheVariants as kinds
use Rattle.object_store.specs.Held.{Objects, objects_in}
use Rattle.object_batch.specs.Needs.{IsHeldAs, IsWhole}
use Rattle.commit_walk.proofs.DistinctLemmas.{Contains-one}
use Rattle.ref_store.specs.Refs.{Absent, Head, packed_place}
use Rattle.ref_store.proofs.FrameLemmas.{same_ref}
use Rattle.repo_state.specs.Sides.{head_at, ref_place}
use Rattle.repo_state.specs.Sound.{IsSound}
use Rattle.repo_state.specs.Sound as parts
use Rattle.repo_state.specs.declared.side.Side.{Side}
use Rattle.repo_state.proofs.LedLemmas.{led_from_heads}
use Rattle.repo_writes.proofs.StayLemmas.{plain_ref}
use Rattle.full_exchanges.specs.Having.{ACommit, Has, IsBelowHead, Piece, TheBug}
use Rattle.full_exchanges.specs.Leaving.{IsUntouched}
use Rattle.full_exchanges.proofs.OneTextLemmas.{HaveOneText, operations_alike}

-- one head of a list of one
one_head : (objects : Objects) (top : Name) → IsHeldAs objects top kinds.Commit → (name : Name) → Contains (top ∷ []) name → IsHeldAs objects name kinds.Commit
one_head objects top held name c = subst (λ (n : Name). IsHeldAs objects n kinds.Commit) (Contains-one top name c) held

-- a piece below a head that both stores hold
pub piece_over : (one two : Objects) (head : Name) → IsWhole one → IsWhole two → HaveOneText one two → IsHeldAs one head kinds.Commit → IsHeldAs two head kinds.Commit
    → (piece : Piece) → IsBelowHead one head piece → IsBelowHead two head piece
piece_over one two head whole also alike here there TheBug is = tt
piece_over one two head whole also alike here there (ACommit placed) is =
    operations_alike one two whole also alike (head ∷ []) (one_head one head here) (one_head two head there) placed is

-- the head of a ref of a sound folder is held
pub head_held : (files : Files) (folder : List ℕ) (of : Side) (id : Id) (head : Name) → IsSound folder files → IsId id → head_at files folder of id ≡ Head head
    → IsHeldAs (objects_in files folder) head kinds.Commit
head_held files folder of id head sound is at = led_from_heads folder files sound of id head (record { name = head; kind = kinds.Commit }) is at ([], refl)

-- a ref of a sound folder that reads as one of another sound folder has what that has
pub has_over : (files others : Files) (folder place : List ℕ) (of to : Side) (id : Id) (piece : Piece) → IsSound folder files → IsSound place others
    → HaveOneText (objects_in files folder) (objects_in others place) → IsId id → head_at others place to id ≡ head_at files folder of id
    → Has files folder of id piece → Has others place to id piece
has_over files others folder place of to id piece sound also alike is same h =
    let there = same ∙ h.is_head in
    record {
      head = h.head;
      is_head = there;
      is = piece_over (objects_in files folder) (objects_in others place) h.head (sound parts.Objects).whole (also parts.Objects).whole alike
          (head_held files folder of id h.head sound is h.is_head) (head_held others place to id h.head also is there) piece h.is;
    }

-- where no ref is, nothing is had
pub none_had : (files : Files) (folder : List ℕ) (of : Side) (id : Id) (piece : Piece) → head_at files folder of id ≡ Absent → Has files folder of id piece → ⊥
none_had files folder of id piece absent h = let clash : Absent ≡ Head h.head = sym absent ∙ h.is_head in cc

-- what is had of a bug, the bug itself is
pub bug_of : (files : Files) (folder : List ℕ) (of : Side) (id : Id) (piece : Piece) → Has files folder of id piece → Has files folder of id TheBug
bug_of files folder of id piece h = record { head = h.head; is_head = h.is_head; is = tt }

-- ---- untouched folders

module _ (folder : List ℕ) (old new : Files) (untouched : IsUntouched folder old new) where
  -- the refs of a folder whose files stay read the same
  pub same_heads : (of : Side) (id : Id) → head_at new folder of id ≡ head_at old folder of id
  same_heads of id = same_ref new old folder (ref_place of id) (untouched (ref_place of id) (plain_ref of id)) (untouched packed_place refl)

  pub same_objects : objects_in new folder ≡ objects_in old folder
  same_objects = λ i name. untouched (object_place name) refl i

  -- so it has the same
  pub has_still : (of : Side) (id : Id) (piece : Piece) → Has old folder of id piece → Has new folder of id piece
  has_still of id piece h = record {
    head = h.head;
    is_head = same_heads of id ∙ h.is_head;
    is = subst (λ (objects : Objects). IsBelowHead objects h.head piece) (sym same_objects) h.is;
  }

  pub had_before : (of : Side) (id : Id) (piece : Piece) → Has new folder of id piece → Has old folder of id piece
  had_before of id piece h = record {
    head = h.head;
    is_head = sym (same_heads of id) ∙ h.is_head;
    is = subst (λ (objects : Objects). IsBelowHead objects h.head piece) same_objects h.is;
  }
