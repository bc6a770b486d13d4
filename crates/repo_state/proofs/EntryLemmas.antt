-- The user with its head.
use Rattle.std.proofs.Common.{◌≡◌, ℕ, List, Some, ◌∙◌, ap, subst}
use Rattle.std.proofs.lemmas.Option.{same_Some}
use Rattle.gb_text.specs.declared.id.Id.{Id}
use Rattle.gb_text.specs.declared.id.Name.{Name}
use Rattle.gb_store.specs.Files.{Files}
use Rattle.ref_store.specs.Refs.{Ref, Absent, Head, Bad}
use Rattle.repo_state.specs.Sides.{head_at}
use Rattle.repo_state.specs.Users.{UserFound, BadUser, NoUser, User, entry_by, entry_of_user, user_at, user_entry}
use Rattle.repo_state.specs.declared.side.HeadEntry.{HeadEntry}
use Rattle.repo_state.specs.declared.side.Side.TheVariants as side

entry_reads : (id : Id) (ref : Ref) (user : HeadEntry) → entry_by id ref ≡ Some user → (id ≡ user.id) × (ref ≡ Head user.name)
entry_reads id Absent user is = absurd (cc is)
entry_reads id (Head name) user is =
    let same : record { id = id; name = name } ≡ user = same_Some _ user is in
    (ap (λ (e : HeadEntry). e.id) same, ap (λ (e : HeadEntry). Head e.name) same)
entry_reads id Bad user is = absurd (cc is)

module _ (files : Files) (folder : List ℕ) where
  of_user : (found : UserFound) (user : HeadEntry) → entry_of_user files folder found ≡ Some user
      → (found ≡ User user.id) × (head_at files folder side.Identities user.id ≡ Head user.name)
  of_user NoUser user is = absurd (cc is)
  of_user (User id) user is =
      let (same, head) = entry_reads id (head_at files folder side.Identities id) user is in
      (ap User same, subst (λ (one : Id). head_at files folder side.Identities one ≡ Head user.name) same head)
  of_user BadUser user is = absurd (cc is)

  pub entry_has : (user : HeadEntry) → user_entry files folder ≡ Some user → (user_at files folder ≡ User user.id) × (head_at files folder side.Identities user.id ≡ Head user.name)
  entry_has user is = of_user (user_at files folder) user is

  pub entry_is : (id : Id) (head : Name) → user_at files folder ≡ User id → head_at files folder side.Identities id ≡ Head head
      → user_entry files folder ≡ Some (record { id = id; name = head })
  entry_is id head user reads = ap (entry_of_user files folder) user ∙ ap (entry_by id) reads
