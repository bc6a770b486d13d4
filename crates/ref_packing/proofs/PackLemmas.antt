-- What a pack has read, and the text that it made, allow its writes.
use Rattle.std.proofs.Common.{◌≡◌, ◌≢◌, ◌==◌, inl, ℕ, true, false, List, [], ◌∷◌, ◌++◌, length, Ok, refl, sym, ◌∙◌, ap, subst, eqb-true}
use Rattle.std.proofs.lemmas.List.{nil_from_length}
use Rattle.gb_text.specs.Folder.{joined}
use Rattle.gb_store.specs.Files.{History, Put, files_of}
use Rattle.gb_store.specs.Moments.{Wrote, WroteSome}
use Rattle.gb_store.specs.declared.store.Change.{Change}
use Rattle.packed_refs.specs.Packed.{PackedRef}
use Rattle.packed_refs.specs.Written.{packed_text}
use Rattle.ref_store.specs.Refs.{is_long, packed_at, packed_place}
use Rattle.ref_packing.specs.Answers.{CanPack, Packs}
use Rattle.ref_packing.specs.Kinds.{IsPackWrite}
use Rattle.ref_packing.specs.Merging.{TextAnswers}
use Rattle.ref_packing.specs.Packing.{AreLast, AreLoose, pack_writes, removals}
use Rattle.ref_packing.specs.Reading.{OldAnswers}
use Rattle.ref_packing.proofs.ExistLemmas.{last_exists}
use Rattle.ref_packing.proofs.WriteLemmas.{packs_write}

-- the packed refs and the loose ones were read, and nothing was written
pub record HasRead (folder : List ℕ) (old mid : History) (before taken : List PackedRef) : Type 0 where
  pub reads : OldAnswers (files_of old) folder (Ok before)
  pub loose : AreLoose (files_of old) folder taken
  pub unwritten : mid ≡ old

pub has_read : (folder : List ℕ) (old between mid : History) (before found taken : List PackedRef) → OldAnswers (files_of old) folder (Ok before) → between ≡ old
    → AreLoose (files_of between) folder found → mid ≡ between → taken ≡ found → HasRead folder old mid before taken
has_read folder old between mid before found taken reads first loose second are = record {
  reads = reads;
  loose = subst (AreLoose (files_of old) folder) (sym are) (subst (λ (h : History). AreLoose (files_of h) folder found) first loose);
  unwritten = second ∙ first;
}

module _ (folder : List ℕ) (old mid : History) (before taken : List PackedRef) (read : HasRead folder old mid before taken) where
  -- no ref is loose
  pub packs_none : (length taken == 0) ≡ true → Packs folder old mid 0
  packs_none none =
      let last = last_exists (packed_at (files_of old) folder ++ []) in
      let nil : taken ≡ [] = nil_from_length taken (eqb-true (length taken) 0 none) in
      record {
        taken = [];
        packed = last.0;
        reads = read.reads.0;
        are_packed = record { are_loose = subst (AreLoose (files_of old) folder) nil read.loose; are_last = last.1 };
        fits = inl refl;
        is_count = refl;
        wrote = read.unwritten;
      }

  -- some are, and the text and the changes are made
  pub writes_allowed : (new : History) (text : List ℕ) (changes : List Change) → (length taken == 0) ≡ false → TextAnswers (before ++ taken) (Ok text)
      → changes ≡ Put (joined folder packed_place) text ∷ removals folder taken → WroteSome changes mid new → Wrote (IsPackWrite folder) old new
  writes_allowed new text changes some made are wrote = packs_write folder old new taken made.0 can (writes taken not_nil made.0 (subst (λ (ws : List Change). WroteSome ws old new) all (subst (λ (h : History). WroteSome changes h new) read.unwritten wrote)))
    where
      not_nil : taken ≢ []
      not_nil nil = (let yes : (length taken == 0) ≡ true = ap (λ (refs : List PackedRef). length refs == 0) nil in cc (yes, some))

      all : changes ≡ Put (joined folder packed_place) (packed_text made.0) ∷ removals folder taken
      all = are ∙ ap (λ (t : List ℕ). Put (joined folder packed_place) t ∷ removals folder taken) made.2

      can : CanPack (files_of old) folder taken made.0
      can = record {
        reads = read.reads.0;
        are_packed = record { are_loose = read.loose; are_last = subst (λ (refs : List PackedRef). AreLast (refs ++ taken) made.0) read.reads.1 made.1 };
        some = not_nil;
        fits = ap is_long (sym made.2) ∙ made.3;
      }

      writes : (refs : List PackedRef) → refs ≢ [] → (packed : List PackedRef) → WroteSome (Put (joined folder packed_place) (packed_text packed) ∷ removals folder refs) old new
          → WroteSome (pack_writes folder refs packed) old new
      writes [] never packed wrote = absurd (never refl)
      writes (one ∷ refs) never packed wrote = wrote
