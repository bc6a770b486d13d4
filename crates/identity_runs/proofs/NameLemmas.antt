-- Folders with the same identities have the same people, and so the same names for authors.
use Rattle.std.proofs.Common.{◌≡◌, false, ℕ, List, [], ◌∷◌, Contains, Some, option_and_then, refl, sym, ◌∙◌, ap, subst}
use Rattle.std.specs.List.{AllByRecursion}
use Rattle.gb_text.specs.Digits.{IsId}
use Rattle.gb_text.specs.declared.id.Name.{Name}
use Rattle.gb_store.specs.Files.{Files}
use Rattle.git_object.specs.declared.frame.Kind.TheVariants as kinds
use Rattle.object_store.specs.Held.{Objects, objects_in}
use Rattle.object_batch.specs.Needs.{IsHeldAs, IsWhole}
use Rattle.bug_ops.specs.declared.op.BugOp.{BugOp}
use Rattle.snapshot.specs.LastMention.{author_of}
use Rattle.commit_walk.proofs.DistinctLemmas.{Contains-first, Contains-later}
use Rattle.entity_copy.proofs.ChainLemmas.{same_chain}
use Rattle.identity.specs.Persons.{Shows}
use Rattle.identity.specs.declared.chain.Person.{Person}
use Rattle.identity.proofs.AgreeLemmas.{shows_over}
use Rattle.ref_store.specs.Refs.{Head}
use Rattle.repo_state.specs.People.{AllShow, ArePeople}
use Rattle.repo_state.specs.Sides.{AreHeads, head_at}
use Rattle.repo_state.specs.Sound.{IsSound}
use Rattle.repo_state.specs.Sound as parts
use Rattle.repo_state.specs.declared.side.HeadEntry.{HeadEntry}
use Rattle.repo_state.specs.declared.side.Side.TheVariants as side
use Rattle.repo_view.proofs.PeopleLemmas.{one_people}
use Rattle.person_names.specs.Named.{name_among}
use Rattle.full_exchanges.specs.Having.{NameAuthorsAlike}
use Rattle.full_exchanges.proofs.HasLemmas.{head_held}
use Rattle.full_exchanges.proofs.OneTextLemmas.{HaveOneText}
use Rattle.identity_runs.proofs.AlikeLemmas.{copied}
use Rattle.identity_runs.specs.SamePeople.{HaveTheSamePeople}

-- ---- two stores

-- two whole stores that both hold a commit show one person there
one_shown : (source target : Objects) → IsWhole source → IsWhole target → HaveOneText source target → (entry : HeadEntry) → IsHeldAs source entry.name kinds.Commit → IsHeldAs target entry.name kinds.Commit
    → (person : Person) → Shows source entry.id entry.name person → Shows target entry.id entry.name person
one_shown source target whole also alike entry here there person shows =
    shows_over source target entry.name (same_chain source target target entry.name (copied source target whole also alike entry.name here there)) entry.id person shows

-- ---- two folders

module _ (files : Files) (one two : List ℕ) (sound : IsSound one files) (also : IsSound two files) (alike : HaveOneText (objects_in files one) (objects_in files two)) (same : HaveTheSamePeople files one two) where
  -- the heads of the one are those of the other
  heads_over : (heads : List HeadEntry) → AreHeads files one side.Identities heads → AreHeads files two side.Identities heads
  heads_over heads are = record {
    rising = are.rising;
    members = λ e. (
      λ c. let at = (are.members e).0 c in (at.0, sym (same e.id at.0) ∙ at.1),
      λ at. (are.members e).1 (at.0, same e.id at.0 ∙ at.1),
    );
    none_bad = λ id is_id bad. are.none_bad id is_id (same id is_id ∙ bad);
  }

  -- each shows the same person
  shown_over : (heads : List HeadEntry) (people : List Person) → ((e : HeadEntry) → Contains heads e → IsId e.id × (head_at files one side.Identities e.id ≡ Head e.name)) → AllShow (objects_in files one) heads people
      → AllShow (objects_in files two) heads people
  shown_over [] [] each shown = shown
  shown_over [] (p ∷ ps) each shown = absurd shown
  shown_over (e ∷ es) [] each shown = absurd shown
  shown_over (e ∷ es) (p ∷ ps) each shown =
      let at = each e (Contains-first e es) in (
        one_shown (objects_in files one) (objects_in files two) (sound parts.Objects).whole (also parts.Objects).whole alike e (head_held files one side.Identities e.id e.name sound at.0 at.1)
            (head_held files two side.Identities e.id e.name also at.0 (sym (same e.id at.0) ∙ at.1)) p shown.0,
        shown_over es ps (λ x c. each x (Contains-later e es x c)) shown.1,
      )

  -- so their people are the same
  same_persons : (people persons : List Person) → ArePeople files one people → ArePeople files two persons → people ≡ persons
  same_persons people persons are there =
      one_people files two people persons
      (record { heads = are.heads; are_heads = heads_over are.heads are.are_heads; shown = shown_over are.heads people (λ e c. (are.are_heads.members e).0 c) are.shown }) there

  pub names_alike : NameAuthorsAlike files one files two
  names_alike bug is_id reads ops people persons is are there = all ops
    where
      same_names : people ≡ persons
      same_names = same_persons people persons are there

      all : (os : List BugOp) → AllByRecursion (λ o. name_among people (author_of o) ≡ name_among persons (author_of o)) os
      all [] = tt
      all (o ∷ os) = (ap (λ (ps : List Person). name_among ps (author_of o)) same_names, all os)
