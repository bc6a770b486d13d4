-- What writes of each kind leave of a ref, and what a put of a ref's file does with each ref.
use Rattle.std.proofs.Common.{◌≡◌, ◌⊎◌, inl, inr, ℕ, Bool, true, false, List, [], ◌∷◌, ◌++◌, refl, ◌∙◌, ap, subst}
use Rattle.std.specs.Prelude.{is_some, nat_lt}
use Rattle.std.specs.List.{AllByRecursion}
use Rattle.gb_text.specs.Digits.{IsName}
use Rattle.gb_text.specs.Folder.{joined}
use Rattle.gb_text.specs.declared.id.Id.{Id}
use Rattle.gb_text.specs.declared.id.Name.{Name}
use Rattle.gb_store.specs.Files.{Files, History, written}
use Rattle.gb_store.specs.Moments.{WroteSome}
use Rattle.gb_store.specs.declared.store.Change.{Change}
use Rattle.git_object.specs.Grammar.{object_name}
use Rattle.object_batch.specs.Batches.{missing_writes}
use Rattle.object_store.specs.Held.{objects_in}
use Rattle.object_store.specs.Puts.{object_write}
use Rattle.lamport.specs.Clock.{seen_by}
use Rattle.ref_store.specs.Setting.{ref_write}
use Rattle.ref_store.proofs.FrameLemmas.{ref_at-other}
use Rattle.ref_store.proofs.MapLemmas.{joined-same}
use Rattle.repo_state.specs.Clocks.{see_writes}
use Rattle.repo_state.specs.Sides.{ref_place}
use Rattle.repo_state.specs.Users.{user_write}
use Rattle.repo_state.specs.declared.clocks.ClockFile.{ClockFile}
use Rattle.repo_state.specs.declared.side.Side.{Side}
use Rattle.repo_state.proofs.KindLemmas.{head_at-clock_write, head_at-object_write, head_at-user_write}
use Rattle.repo_state.proofs.PlaceLemmas.{ref-not_packed, same_or_other}
use Rattle.ref_moments.specs.Once.{IsSetOnce, StaysSame}
use Rattle.ref_moments.proofs.OnceLemmas.{Leaves, all_stay, some_set, some_stay, set_one, stays_then}

module _ (folder : List ℕ) (of : Side) (id : Id) where
  abbrev L : Change → Type 0
  L = Leaves folder of id

  -- both lists leave it
  pub both_leave : (first more : List Change) → AllByRecursion L first → AllByRecursion L more → AllByRecursion L (first ++ more)
  both_leave [] more one two = two
  both_leave (change ∷ first) more one two = (one.0, both_leave first more one.1 two)

  -- the objects that are missing
  pub missing_leave : (texts : List (List ℕ)) (files : Files) → AllByRecursion L (missing_writes folder texts files)
  missing_leave [] files = tt
  missing_leave (text ∷ texts) files =
      decide (is_some (objects_in files folder (object_name text))) refl (missing_leave texts files) (missing_leave texts (written files (object_write folder text)))
    where
      decide : (b : Bool) → is_some (objects_in files folder (object_name text)) ≡ b → AllByRecursion L (missing_writes folder texts files)
          → AllByRecursion L (missing_writes folder texts (written files (object_write folder text))) → AllByRecursion L (missing_writes folder (text ∷ texts) files)
      decide true h stands free = rw h stands
      decide false h stands free = rw h ((λ (now : Files). head_at-object_write now folder text of id, free))

  -- a clock that sees a number
  pub see_leave : (which : ClockFile) (clock number : ℕ) → AllByRecursion L (see_writes folder which clock number)
  see_leave which clock number = decide (nat_lt clock (seen_by clock number)) refl
    where
      decide : (b : Bool) → nat_lt clock (seen_by clock number) ≡ b → AllByRecursion L (see_writes folder which clock number)
      decide true h = rw h ((λ (now : Files). head_at-clock_write now folder of id which (seen_by clock number), tt))
      decide false h = rw h tt

  -- the user
  pub user_leaves : (user : Id) → L (user_write folder user)
  user_leaves user = λ now. head_at-user_write now folder of id user

  -- the put of a ref's file leaves this ref, or it is this one
  pub this_or_leaves : (on : Side) (other : Id) (head : Name) → (ref_place on other ≡ ref_place of id) ⊎ L (ref_write folder (ref_place on other) head)
  this_or_leaves on other head = elim (same_or_other (joined folder (ref_place on other)) (joined folder (ref_place of id))) [
    | inl path ↦ inl (joined-same folder (ref_place on other) (ref_place of id) path)
    | inr differ ↦ inr (λ now. ref_at-other now (ref_write folder (ref_place on other) head) folder (ref_place of id) differ (ref-not_packed folder on other))
  ]

  -- ---- a ref that is put among writes that leave this one

  module _ (on : Side) (other : Id) (head : Name) (named : IsName head) where
    -- it stays, or is the one that is put
    abbrev pub StaysOrIs : History → History → Type 0
    StaysOrIs old new = StaysSame folder of id old new ⊎ ((ref_place on other ≡ ref_place of id) × IsSetOnce folder of id head old new)

    -- the first of these writes
    pub some_once : (first last : List Change) → AllByRecursion L first → AllByRecursion L last → (old new : History) → WroteSome (first ++ ref_write folder (ref_place on other) head ∷ last) old new
        → StaysOrIs old new
    some_once first last before behind old new some = elim (this_or_leaves on other head) [
      | inl place ↦ elim (some_set folder of id head named last behind first before old new (subst (λ (p : List ℕ). WroteSome (first ++ ref_write folder p head ∷ last) old new) place some)) [
        | inl stays ↦ inl stays
        | inr set ↦ inr (place, set)
      ]
      | inr leaves ↦ inl (some_stay folder of id (first ++ ref_write folder (ref_place on other) head ∷ last) (both_leave first (ref_write folder (ref_place on other) head ∷ last) before (leaves, behind)) old new some)
    ]

    -- writes that leave it, and then the put
    pub put_once : (old mid new : History) → StaysSame folder of id old mid → new ≡ ref_write folder (ref_place on other) head ∷ mid → StaysOrIs old new
    put_once old mid new stays is = elim (this_or_leaves on other head) [
      | inl place ↦ inr (place, set_one folder of id head old mid new named stays (is ∙ ap (λ (p : List ℕ). ref_write folder p head ∷ mid) place))
      | inr leaves ↦ inl (stays_then folder of id old mid new stays
          (all_stay folder of id (ref_write folder (ref_place on other) head ∷ []) (leaves, tt) mid new is))
    ]
