-- Texts in need order are put after all that they name.
use Rattle.std.proofs.Common.{◌≡◌, ℕ, Bool, true, false, cond, List, [], ◌∷◌, ◌++◌, All, Contains, Some, reverse, inl, inr, refl, sym, ◌∙◌, ap, subst}
use Rattle.std.specs.Str.{bytes_eq}
use Rattle.std.proofs.lemmas.List.{append-nil}
use Rattle.std.proofs.lemmas.Slice.Eq.{bytes_eq-Decides}
use Rattle.gb_text.specs.declared.id.Name.{Name}
use Rattle.gb_text.specs.Folder.{joined}
use Rattle.gb_store.specs.Files.{History, files_of}
use Rattle.gb_store.specs.Moments.{Wrote}
use Rattle.gb_store.specs.ObjectPath.{object_place}
use Rattle.gb_store.proofs.MomentLemmas.{Wrote-none, Wrote-one, Wrote-then}
use Rattle.git_object.specs.declared.frame.Kind.{Kind}
use Rattle.git_object.specs.declared.object.Object.{Object}
use Rattle.git_object.specs.Grammar.{IsObjectText, object_name}
use Rattle.object_store.specs.Held.{Objects, objects_in}
use Rattle.object_store.specs.Puts.{IsPut, object_write}
use Rattle.object_store.proofs.HeldLemmas.{object_at-held, object_at-is}
use Rattle.object_batch.specs.Batches.{ArePut, MayBePut, missing_writes}
use Rattle.object_store.specs.Texts.{IsShort}
use Rattle.object_batch.specs.Needs.{AllHeld, InNeedOrder, IsHeldAs, PutsAfterNeeds, with_text}
use Rattle.object_batch.proofs.ClashLemmas.{Contains-first, Contains-later}
use Rattle.object_batch.proofs.PlanLemmas.{batch_put}
use Rattle.object_batch.proofs.PutLemmas.{put_stands, stays_one}

-- what stands among the first objects stands among the others
abbrev pub StandToo : Objects → Objects → Type 0
StandToo held objects = (name : Name) (text : List ℕ) → held name ≡ Some text → objects name ≡ Some text

-- and what they hold is held there
pub held_too : (held objects : Objects) → StandToo held objects → (name : Name) (kind : Kind) → IsHeldAs held name kind → IsHeldAs objects name kind
held_too held objects too name kind is =
    let at = object_at-is held name is.object is.is in
    record {
      object = is.object;
      is = object_at-held objects name is.object (record { text = at.text; stands = too name at.text at.stands; within = at.within; is_named = at.is_named; is = at.is });
      is_kind = is.is_kind;
    }

-- a text that was put stands too
put_too : (folder text : List ℕ) (held : Objects) (old new : History) → IsPut folder text old new → StandToo held (objects_in (files_of old) folder)
    → StandToo (with_text held text) (objects_in (files_of new) folder)
put_too folder text held old new put too name found stands = at (bytes_eq name.bytes (object_name text).bytes) refl stands
  where
    at : (b : Bool) → bytes_eq name.bytes (object_name text).bytes ≡ b → cond b (Some text) (held name) ≡ Some found → objects_in (files_of new) folder name ≡ Some found
    at true same is =
        let named : object_name text ≡ name = ap (λ (bytes : List ℕ). record { bytes = bytes }) (sym ((bytes_eq-Decides name.bytes (object_name text).bytes).0 same)) in
        ap (objects_in (files_of new) folder) (sym named) ∙ put_stands folder text old new put ∙ is
    at false same is = stays_one folder text old new (joined folder (object_place name)) found put (too name found is)

-- a text whose object names what is held is put after all that it names
puts_after : (folder : List ℕ) (texts : List (List ℕ)) (text : List ℕ) (object : Object) (held : Objects) (old new : History) → Contains texts text → IsShort text
    → IsObjectText text object → AllHeld held object → StandToo held (objects_in (files_of old) folder) → IsPut folder text old new → Wrote (PutsAfterNeeds folder texts) old new
puts_after folder texts text object held old new member short is needs too (inl same) = Wrote-none (PutsAfterNeeds folder texts) old new same.1
puts_after folder texts text object held old new member short is needs too (inr wrote) =
    Wrote-one (PutsAfterNeeds folder texts) (object_write folder text) old new
    (record {
      text = text;
      member = member;
      object = object;
      is = is;
      within = short;
      free = wrote.0;
      needs = λ name kind names. held_too held (objects_in (files_of old) folder) too name kind (needs name kind names);
      write = refl;
    })
    (inr wrote.1)

-- the first of some texts in need order, which are among all the texts
all_after : (folder : List ℕ) (texts done later : List (List ℕ)) (held : Objects) (old new : History) → All IsShort texts
    → ((text : List ℕ) → Contains done text → Contains texts text) → InNeedOrder held (done ++ later) → StandToo held (objects_in (files_of old) folder)
    → ArePut folder done old new → Wrote (PutsAfterNeeds folder texts) old new
all_after folder texts [] later held old new short members order too put = Wrote-none (PutsAfterNeeds folder texts) old new put
all_after folder texts (text ∷ done) later held old new short members order too put =
    let member = members text (Contains-first text done) in
    let within : IsShort text = subst IsShort member.2 (short member.0 text member.1) in
    Wrote-then (PutsAfterNeeds folder texts) old put.0 new
    (puts_after folder texts text order.0 held old put.0 member within order.1 order.2 too put.1)
    (all_after folder texts done later (with_text held text) put.0 new short (λ t among. members t (Contains-later text done t among)) order.3
    (put_too folder text held old put.0 put.1 too) put.2)

-- what is written of texts that may be put and are in need order
pub batch_needed : (folder : List ℕ) (texts : List (List ℕ)) (old : History) → MayBePut folder texts old → InNeedOrder (objects_in (files_of old) folder) texts
    → Wrote (PutsAfterNeeds folder texts) old (reverse (missing_writes folder texts (files_of old)) ++ old)
batch_needed folder texts old may order =
    all_after folder texts texts [] (objects_in (files_of old) folder) old (reverse (missing_writes folder texts (files_of old)) ++ old) may.short (λ text among. among)
    (subst (InNeedOrder (objects_in (files_of old) folder)) (sym (append-nil texts)) order) (λ name text stands. stands) (batch_put folder texts old may)
