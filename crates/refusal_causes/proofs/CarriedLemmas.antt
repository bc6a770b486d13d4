-- A head that is carried twice from the same files leaves the same files.
use Rattle.std.proofs.Common.{◌≡◌, ◌⊎◌, inl, inr, refl, sym, ◌∙◌, ap, subst, cond, Bool, true, false, ℕ, List, [], ◌∷◌, ◌++◌, Option, Some}
use Rattle.std.specs.Str.{bytes_eq}
use Rattle.std.proofs.lemmas.Option.{same_Some}
use Rattle.std.proofs.lemmas.Slice.Eq.{bytes_eq-Decides}
use Rattle.gb_text.specs.Folder.{joined}
use Rattle.gb_text.specs.Overlap.{Overlap}
use Rattle.gb_text.specs.declared.id.Name.{Name}
use Rattle.gb_store.specs.Files.{Files, History, file_at, files_of, written}
use Rattle.gb_store.specs.Moments.{EachWrite, at_moment}
use Rattle.gb_store.specs.ObjectPath.{object_place}
use Rattle.gb_store.specs.declared.store.Change.{Change}
use Rattle.git_object.specs.Grammar.{kind_of}
use Rattle.object_store.specs.Held.{Objects, objects_after, objects_in, text_at}
use Rattle.object_batch.specs.Needs.{Reference}
use Rattle.remote_copy.specs.Closure.{IsFollowed}
use Rattle.remote_copy.specs.Copies.{IsCopied}
use Rattle.remote_copy.specs.Writes.{PutsCopy}
use Rattle.remote_copy.proofs.StepLemmas.{put_kept}
use Rattle.repo_state.specs.declared.side.HeadEntry.{HeadEntry}
use Rattle.repo_state.specs.declared.side.Side.{Side}
use Rattle.sync_steps.specs.Carrying.{IsCarried, head_write}

module _ (closed : Bool) (source target : List ℕ) (apart : Overlap source target → ⊥) where
  -- the file at a path is that of an object of the part that a copy follows, as the source has it
  record IsOfPart (theirs entry : Objects) (head : Name) (path : List ℕ) (file : Option (List ℕ)) : Type 0 where
    pub one : Reference
    pub followed : IsFollowed closed theirs entry head one
    pub text : List ℕ
    pub held : text_at theirs one.name ≡ Some text
    pub at : path ≡ joined target (object_place one.name)
    pub is : file ≡ Some text

  module _ (entry : Objects) (head : Name) (old : History) where
    abbrev WasOrIs : History → List ℕ → Type 0
    WasOrIs new path = (file_at new path ≡ file_at old path) ⊎ IsOfPart (objects_after old source) entry head path (file_at new path)

    -- each file is as it was, or such a one; and the source is as it was
    abbrev Came : History → Type 0
    Came new = (objects_after new source ≡ objects_after old source) × ((path : List ℕ) → WasOrIs new path)

    came_more : (change : Change) (earlier : List Change) → PutsCopy closed source target entry head (files_of (earlier ++ old)) change → Came (earlier ++ old) → Came (change ∷ earlier ++ old)
    came_more change earlier puts before = (kept, λ path. there path (bytes_eq change.path path) refl)
      where
        kept : objects_after (change ∷ earlier ++ old) source ≡ objects_after old source
        kept = ap (λ (c : Change). objects_after (c ∷ earlier ++ old) source) puts.write ∙ put_kept source target apart (earlier ++ old) puts.name puts.text ∙ before.0

        there : (path : List ℕ) (b : Bool) → bytes_eq change.path path ≡ b → WasOrIs (change ∷ earlier ++ old) path
        there path true e = inr (record {
          one = record { name = puts.name; kind = kind_of puts.object };
          followed = subst (λ (o : Objects). IsFollowed closed o entry head (record { name = puts.name; kind = kind_of puts.object })) before.0 puts.followed;
          text = puts.text;
          held = subst (λ (o : Objects). text_at o puts.name ≡ Some puts.text) before.0 puts.held;
          at = sym ((bytes_eq-Decides change.path path).0 e) ∙ ap (λ (c : Change). c.path) puts.write;
          is = ap (λ (b : Bool). cond b change.bytes (file_at (earlier ++ old) path)) e ∙ ap (λ (c : Change). c.bytes) puts.write;
        })
        there path false e =
            let same : file_at (change ∷ earlier ++ old) path ≡ file_at (earlier ++ old) path = ap (λ (b : Bool). cond b change.bytes (file_at (earlier ++ old) path)) e in
            elim (before.1 path) [
              | inl was ↦ inl (same ∙ was)
              | inr part ↦ inr (record { one = part.one; followed = part.followed; text = part.text; held = part.held; at = part.at; is = same ∙ part.is })
            ]

    came : (writes : List Change) → EachWrite (at_moment (PutsCopy closed source target entry head)) old writes → Came (writes ++ old)
    came [] each = (refl, λ path. inl refl)
    came (change ∷ earlier) each = came_more change earlier each.1 (came earlier each.0)

  -- a head that is carried twice from the same files leaves the same files
  module _ (to : Side) (head : HeadEntry) (old elder new newer : History) (same : files_of old ≡ files_of elder) (one : IsCarried closed source target to head old new) (two : IsCarried closed source target to head elder newer) where
    part_of : (start end late : History) → files_of start ≡ files_of late → (path : List ℕ) (file : Option (List ℕ)) → IsOfPart (objects_after start source) (objects_after start target) head.name path file
        → IsCopied closed (objects_after late source) (objects_after late target) (objects_after end target) head.name → file_at end path ≡ file
    part_of start end late alike path file part copied =
        let followed : IsFollowed closed (objects_after late source) (objects_after late target) head.name part.one =
        subst (λ (files : Files). IsFollowed closed (objects_in files source) (objects_in files target) head.name part.one) alike part.followed in
        let stands = copied part.one followed in
        let held : text_at (objects_after late source) part.one.name ≡ Some part.text = subst (λ (files : Files). text_at (objects_in files source) part.one.name ≡ Some part.text) alike part.held in
        let text : stands.text ≡ part.text = same_Some stands.text part.text (sym stands.held ∙ held) in
        ap (file_at end) part.at ∙ stands.there ∙ ap Some text ∙ sym part.is

    mids_at : (path : List ℕ) → file_at one.mid path ≡ file_at two.mid path
    mids_at path = by ((came (objects_after old target) head.name old one.put.writes one.put.each).1 path) ((came (objects_after elder target) head.name elder two.put.writes two.put.each).1 path)
      where
        here : file_at one.mid path ≡ file_at (one.put.writes ++ old) path
        here = ap (λ (h : History). file_at h path) one.put.grew

        also : file_at two.mid path ≡ file_at (two.put.writes ++ elder) path
        also = ap (λ (h : History). file_at h path) two.put.grew

        by : WasOrIs (objects_after old target) head.name old (one.put.writes ++ old) path → WasOrIs (objects_after elder target) head.name elder (two.put.writes ++ elder) path
            → file_at one.mid path ≡ file_at two.mid path
        by (inl was) (inl were) = here ∙ was ∙ ap (λ (files : Files). files path) same ∙ sym were ∙ sym also
        by (inr part) other = here ∙ sym (part_of old two.mid elder same path (file_at (one.put.writes ++ old) path) part two.copied)
        by (inl was) (inr part) = part_of elder one.mid old (sym same) path (file_at (two.put.writes ++ elder) path) part one.copied ∙ sym also

    mids : files_of one.mid ≡ files_of two.mid
    mids = λ i path. mids_at path i

    pub carried_same : files_of new ≡ files_of newer
    carried_same = ap files_of one.set ∙ ap (λ (files : Files). written files (head_write target to head)) mids ∙ sym (ap files_of two.set)
