-- What a pack answers says what it has written: a front of its writes, each of its kinds.
use Rattle.std.proofs.Common.{◌≡◌, ◌≢◌, inl, inr, ℕ, false, List, [], ◌∷◌, ◌++◌, reverse, append-nil, refl, sym, ◌∙◌, ap}
use Rattle.gb_store.specs.Files.{History}
use Rattle.gb_store.specs.Moments.{Wrote}
use Rattle.gb_store.proofs.MomentLemmas.{Wrote-none, WroteSome-back}
use Rattle.packed_refs.specs.Packed.{PackedRef}
use Rattle.packed_refs.specs.Written.{packed_text}
use Rattle.ref_store.specs.Refs.{is_long}
use Rattle.ref_packing.specs.Answers.{MaybePacks, Packs}
use Rattle.ref_packing.specs.Kinds.{IsPackWrite}
use Rattle.ref_packing.specs.Packing.{pack_writes}
use Rattle.ref_packing.proofs.WriteLemmas.{packs_write}

-- refs that were packed were all written
pub packs_maybe : (folder : List ℕ) (old new : History) (count : ℕ) → Packs folder old new count → MaybePacks folder old new
packs_maybe folder old new count done = by done.taken refl
  where
    short : done.taken ≢ [] → is_long (packed_text done.packed) ≡ false
    short some = elim done.fits [
      | inl none ↦ absurd (some none)
      | inr fits ↦ fits
    ]

    by : (taken : List PackedRef) → done.taken ≡ taken → MaybePacks folder old new
    by [] none = inl (done.wrote ∙ ap (λ (refs : List PackedRef). reverse (pack_writes folder refs done.packed) ++ old) none)
    by (one ∷ taken) is =
        let some : done.taken ≢ [] = λ none. absurd (cc (is, none)) in
        inr (record {
          taken = done.taken;
          packed = done.packed;
          can = record { reads = done.reads; are_packed = done.are_packed; some = some; fits = short some };
          wrote = let writes = pack_writes folder done.taken done.packed in WroteSome-back writes old new writes [] (sym (append-nil writes)) done.wrote;
        })

-- each write is of a pack's kinds
pub maybe_wrote : (folder : List ℕ) (old new : History) → MaybePacks folder old new → Wrote (IsPackWrite folder) old new
maybe_wrote folder old new (inl same) = Wrote-none (IsPackWrite folder) old new same
maybe_wrote folder old new (inr some) = packs_write folder old new some.taken some.packed some.can some.wrote

pub packs_wrote : (folder : List ℕ) (old new : History) (count : ℕ) → Packs folder old new count → Wrote (IsPackWrite folder) old new
packs_wrote folder old new count done = maybe_wrote folder old new (packs_maybe folder old new count done)
