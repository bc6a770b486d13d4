-- The faults of a pack's text by their causes.
use Rattle.std.proofs.Common.{◌≡◌, ◌<◌, ◌↔◌, refl, sym, subst, List, ℕ, Option, Some, None, length}
use Rattle.std.specs.List.{slice_get}
use Rattle.gb_text.specs.declared.id.Id.{Id}
use Rattle.op_kind.specs.Meaning.{Meaning}
use Rattle.op_kind.specs.declared.fault.OpFault.{OpFault}
use Rattle.op_pack.specs.Packs.{PackTextFault, PartsFault}
use Rattle.op_pack.specs.Texts.{parts_at}
use Rattle.op_pack.specs.declared.fault.PackFault.TheVariants.{BadPack, BadOperation, TooLarge}

module _ {Op State Row : Type 0} (k : Meaning Op State Row) (version : ℕ) where
  bad_in : (parts : Option (Id × List (List ℕ))) → PartsFault k version parts BadPack ↔ (parts ≡ None)
  bad_in None = (λ h. refl, λ h. refl)
  bad_in (Some parts) = (λ h. absurd h, λ h. absurd (cc (h)))

  -- A text has this fault exactly where it has no parts.
  pub known_text : (text : List ℕ) → PackTextFault k version text BadPack ↔ (parts_at text ≡ None)
  unfolding PackTextFault
  known_text text = bad_in (parts_at text)

  -- The operation at an index, from 0, has exactly the faults of its text.
  pub known_operation : (text : List ℕ) (author : Id) (slices : List (List ℕ)) (i : ℕ) (f : OpFault) → parts_at text ≡ Some (author, slices)
      → PackTextFault k version text (BadOperation i f) ↔ ((slice : List ℕ) × (slice_get slices i ≡ Some slice) × k.HasFault version slice f)
  unfolding PackTextFault
  known_operation text author slices i f is =
      (λ h. subst (λ parts. PartsFault k version parts (BadOperation i f)) is h, λ h. subst (λ parts. PartsFault k version parts (BadOperation i f)) (sym is) h)

  -- More than 4,096 operations are too many.
  pub known_large : (text : List ℕ) (author : Id) (slices : List (List ℕ)) (n : ℕ) → parts_at text ≡ Some (author, slices)
      → PackTextFault k version text (TooLarge n) ↔ ((4096 < length slices) × (n ≡ 4097))
  unfolding PackTextFault
  known_large text author slices n is =
      (λ h. subst (λ parts. PartsFault k version parts (TooLarge n)) is h, λ h. subst (λ parts. PartsFault k version parts (TooLarge n)) (sym is) h)
