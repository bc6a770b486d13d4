-- What a put of several texts writes is the missing ones.
use Rattle.std.proofs.Common.{◌≡◌, ℕ, List, [], ◌∷◌, ◌++◌, Option, cond, reverse, inl, inr, sym, ◌∙◌, ap, subst, append_assoc}
use Rattle.std.specs.Prelude.{is_some}
use Rattle.std.proofs.lemmas.List.{reverse-append}
use Rattle.gb_store.specs.Files.{History, files_of}
use Rattle.gb_store.specs.declared.store.Change.{Change}
use Rattle.object_store.specs.Puts.{object_write}
use Rattle.object_batch.specs.Batches.{ArePut, missing_writes}

-- the missing writes, by what stands under the name of the first text
abbrev pub writes_by : List ℕ → List ℕ → List (List ℕ) → History → Option (List ℕ) → List Change
writes_by folder text texts old stands =
    cond (is_some stands) (missing_writes folder texts (files_of old)) (object_write folder text ∷ missing_writes folder texts (files_of (object_write folder text ∷ old)))

-- texts that were all put
pub all_written : (folder : List ℕ) (texts : List (List ℕ)) (old new : History) → ArePut folder texts old new
    → new ≡ reverse (missing_writes folder texts (files_of old)) ++ old
all_written folder [] old new put = put
all_written folder (text ∷ texts) old new (mid, inl same, later) =
    subst (λ (h : History). new ≡ reverse (missing_writes folder texts (files_of h)) ++ h) same.1 (all_written folder texts mid new later)
    ∙ ap (λ (o : Option (List ℕ)). reverse (writes_by folder text texts old o) ++ old) (sym same.0)
all_written folder (text ∷ texts) old new (mid, inr wrote, later) =
    let write = object_write folder text in
    let rest = missing_writes folder texts (files_of (write ∷ old)) in
    subst (λ (h : History). new ≡ reverse (missing_writes folder texts (files_of h)) ++ h) wrote.1 (all_written folder texts mid new later)
    ∙ sym (ap (λ (ws : List Change). ws ++ old) (reverse-append (write ∷ []) rest) ∙ append_assoc (reverse rest) (write ∷ []) old)
    ∙ ap (λ (o : Option (List ℕ)). reverse (writes_by folder text texts old o) ++ old) (sym wrote.0)
