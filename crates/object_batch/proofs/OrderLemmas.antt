-- Texts that name only what is held or comes before them are in need order.
use Rattle.std.proofs.Common.{◌≡◌, ℕ, Bool, true, false, cond, List, [], ◌∷◌, Contains, Some, ◌⊎◌, inl, inr, refl, sym, ◌∙◌, ap, subst, arith}
use Rattle.std.specs.Prelude.{⊤}
use Rattle.std.specs.Str.{bytes_eq}
use Rattle.std.proofs.lemmas.Slice.Eq.{bytes_eq-Decides}
use Rattle.gb_text.specs.declared.id.Name.{Name}
use Rattle.gb_store.specs.Files.{History, files_of}
use Rattle.git_object.specs.declared.frame.Kind.{Kind}
use Rattle.git_object.specs.declared.object.Object.{Object}
use Rattle.git_object.specs.Grammar.{IsObjectText, kind_of, object_name}
use Rattle.object_store.specs.Held.{Objects, objects_in}
use Rattle.object_store.proofs.HeldLemmas.{object_at-held}
use Rattle.object_batch.specs.Batches.{IsFree, MayBePut}
use Rattle.object_store.specs.Texts.{IsShort}
use Rattle.object_batch.specs.Needs.{InNeedOrder, IsHeldAs, Names, with_text}
use Rattle.object_batch.proofs.ClashLemmas.{Contains-cons_cases, Contains-first, Contains-later}
use Rattle.object_batch.proofs.NeedLemmas.{StandToo, held_too}
use Rattle.object_batch.proofs.PutLemmas.{put_apart, put_free}

-- one of these texts is that of an object of this kind with this name
pub record IsAmong (texts : List (List ℕ)) (name : Name) (kind : Kind) : Type 0 where
  pub text : List ℕ
  pub member : Contains texts text
  pub is_named : object_name text ≡ name
  pub object : Object
  pub is : IsObjectText text object
  pub is_kind : kind_of object ≡ kind

-- each of these texts is that of an object which names only what is held and the texts before it, the last of them first
abbrev pub NameBefore : Objects → List (List ℕ) → List (List ℕ) → Type 0
NameBefore held before [] = ⊤
NameBefore held before (text ∷ texts) =
    (object : Object) × IsObjectText text object × ((name : Name) (kind : Kind) → Names object name kind → IsHeldAs held name kind ⊎ IsAmong before name kind)
    × NameBefore held (text ∷ before) texts

same_name : (one two : Name) → bytes_eq one.bytes two.bytes ≡ true → one ≡ two
same_name one two same = ap (λ (bytes : List ℕ). record { bytes = bytes }) ((bytes_eq-Decides one.bytes two.bytes).0 same)

-- what stands under the name of a text that may be put is the text
free_is : (folder : List ℕ) (old : History) (text found : List ℕ) → IsFree folder old text → objects_in (files_of old) folder (object_name text) ≡ Some found → text ≡ found
free_is folder old text found (inl none) stands = cc
free_is folder old text found (inr is) stands = cc

module _ (folder : List ℕ) (all : List (List ℕ)) (old : History) (may : MayBePut folder all old) where
  -- what is held, with the texts before
  record Seen (before : List (List ℕ)) (held : Objects) : Type 0 where
    kept : StandToo (objects_in (files_of old) folder) held
    put : (text : List ℕ) → Contains before text → held (object_name text) ≡ Some text
    members : (text : List ℕ) → Contains before text → Contains all text

  seen_more : (before : List (List ℕ)) (held : Objects) (text : List ℕ) → Contains all text → Seen before held → Seen (text ∷ before) (with_text held text)
  seen_more before held text member seen = record { kept = kept; put = put; members = members }
    where
      kept : StandToo (objects_in (files_of old) folder) (with_text held text)
      kept name found stands = at (bytes_eq name.bytes (object_name text).bytes) refl
        where
          at : (b : Bool) → bytes_eq name.bytes (object_name text).bytes ≡ b → cond b (Some text) (held name) ≡ Some found
          at true same =
              ap Some (free_is folder old text found (put_free folder all old may text member)
              (ap (objects_in (files_of old) folder) (sym (same_name name (object_name text) same)) ∙ stands))
          at false same = seen.kept name found stands

      put : (other : List ℕ) → Contains (text ∷ before) other → with_text held text (object_name other) ≡ Some other
      put other among = at (bytes_eq (object_name other).bytes (object_name text).bytes) refl (Contains-cons_cases text before other among)
        where
          at : (b : Bool) → bytes_eq (object_name other).bytes (object_name text).bytes ≡ b → (text ≡ other) ⊎ Contains before other
              → cond b (Some text) (held (object_name other)) ≡ Some other
          at true same (inl is) = ap Some is
          at true same (inr first) = ap Some (put_apart folder all old may text other member (seen.members other first) (sym (same_name (object_name other) (object_name text) same)))
          at false differs (inr first) = seen.put other first
          at false differs (inl is) = cc (sym differs ∙ (bytes_eq-Decides (object_name other).bytes (object_name text).bytes).1 (ap (λ (t : List ℕ). (object_name t).bytes) (sym is)))

      members : (other : List ℕ) → Contains (text ∷ before) other → Contains all other
      members other among = at (Contains-cons_cases text before other among)
        where
          at : (text ≡ other) ⊎ Contains before other → Contains all other
          at (inl is) = subst (Contains all) is member
          at (inr first) = seen.members other first

  -- what is held or among the texts before is held with them
  seen_held : (before : List (List ℕ)) (held : Objects) → Seen before held → (name : Name) (kind : Kind)
      → IsHeldAs (objects_in (files_of old) folder) name kind ⊎ IsAmong before name kind → IsHeldAs held name kind
  seen_held before held seen name kind (inl is) = held_too (objects_in (files_of old) folder) held seen.kept name kind is
  seen_held before held seen name kind (inr among) =
      let member = seen.members among.text among.member in
      record {
        object = among.object;
        is = object_at-held held name among.object (record {
          text = among.text;
          stands = ap held (sym among.is_named) ∙ seen.put among.text among.member;
          within = subst IsShort member.2 (may.short member.0 among.text member.1);
          is_named = among.is_named;
          is = among.is;
        });
        is_kind = among.is_kind;
      }

  seen_order : (before texts : List (List ℕ)) (held : Objects) → ((text : List ℕ) → Contains texts text → Contains all text) → Seen before held
      → NameBefore (objects_in (files_of old) folder) before texts → InNeedOrder held texts
  seen_order before [] held members seen names = tt
  seen_order before (text ∷ texts) held members seen (object, is, needs, rest) = (
    object,
    is,
    λ name kind named. seen_held before held seen name kind (needs name kind named),
    seen_order (text ∷ before) texts (with_text held text) (λ t among. members t (Contains-later text texts t among))
        (seen_more before held text (members text (Contains-first text texts)) seen) rest,
  )

  -- texts that may be put
  pub in_need_order : NameBefore (objects_in (files_of old) folder) [] all → InNeedOrder (objects_in (files_of old) folder) all
  in_need_order names = seen_order [] all (objects_in (files_of old) folder) (λ t among. among) (record {
    kept = λ name found stands. stands;
    put = λ text none. absurd (omega (arith, none.1));
    members = λ text none. absurd (omega (arith, none.1));
  }) names
