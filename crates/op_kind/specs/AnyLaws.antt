-- The kind that keeps the text keeps the laws.
use Rattle.std.proofs.Common.{◌≡◌, ◌∙◌, sym, ap, refl, subst, List, ℕ, Some}
use Rattle.std.specs.Option.{option_map}
use Rattle.std.specs.Str.{IsUtf8}
use Rattle.json_span.specs.Grammar.{IsValueText}
use Rattle.json_span.specs.Parts.{members_of}
use Rattle.op_kind.specs.OpText.{IsOpText, op_brackets}
use Rattle.op_kind.specs.Meaning.{KeepsLaws}
use Rattle.op_kind.specs.Common.{common_at}
use Rattle.op_kind.specs.CommonLaws.{fault_means_none, none_means_fault, memory_is_none, common_place, common_moved, common_members}
use Rattle.json_span.proofs.BasicLaws.{map_some, map_none}
use Rattle.op_kind.specs.AnyKind.{any_kind, any_op, KeepsText}
use Rattle.op_kind.specs.declared.any_op.AnyOp.{AnyOp}
use Rattle.op_kind.specs.declared.place.Place.{Place}
use Rattle.op_kind.specs.declared.place.Common.{Common}

op_text : (t : List ℕ) → IsUtf8 t → IsValueText op_brackets t → (ms : List (List ℕ × List ℕ)) × (members_of t ≡ Some ms) → IsOpText t
op_text t utf8 value found = record { utf8 = utf8; value = value; members = found.0; object = found.1 }

keeps : (p : Place) (t : List ℕ) (c : Common) → IsUtf8 t → IsValueText op_brackets t → common_at p t ≡ Some c → KeepsText (any_op t c)
keeps p t c utf8 value h = record { is_text = op_text t utf8 value (common_members p t c h); reads = ap (λ q. common_at q t) (common_place p t c h) ∙ h }

-- The kind that keeps the text keeps the laws.
pub any_keeps_laws : KeepsLaws any_kind
any_keeps_laws = record {
  reads_back = λ p o keeps fits. ap (option_map (any_op o.text)) (common_moved p o.common.place o.text o.common keeps.reads);
  is_text = λ o keeps. keeps.is_text;
  keeps_rules = λ p t o utf8 value h. let m = map_some (any_op t) (common_at p t) o h in subst KeepsText m.2 (keeps p t m.0 utf8 value m.1);
  stands_there = λ p t o h. let m = map_some (any_op t) (common_at p t) o h in ap (λ (o : AnyOp). o.common.place) (sym m.2) ∙ common_place p t m.0 m.1;
  fits_there = λ p t o h. tt;
  moves = λ p o. refl;
  same_text = λ p o. refl;
  stays = λ o. refl;
  opens_anywhere = λ p o. refl;
  follows_anywhere = λ p o. refl;
  no_value = λ p t f h. ap (option_map (any_op t)) (fault_means_none p t f h);
  has_fault = λ p t h. none_means_fault p t (map_none (any_op t) (common_at p t) h);
  no_memory = λ version t h. memory_is_none t h;
  row_follows = λ s o. refl;
}
