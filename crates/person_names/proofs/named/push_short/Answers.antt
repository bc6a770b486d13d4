use Rattle.std.proofs.Common.{List, ℕ, sym, subst}
use Rattle.std.specs.Str.{IsAscii}
use Rattle.std.proofs.lemmas.Str.{IsAscii-take}
use Rattle.gb_text.proofs.AsciiLemmas.{IsAscii-encode_lower}
use Rattle.person_names.proofs.named.push_short.Goals as goal

pub push_ascii-requires : goal.push_ascii-requires
push_ascii-requires c =
    IsAscii-take c.text.result 7 (subst (λ (t : List ℕ). IsAscii t) (sym c.text.ensures.digits) (IsAscii-encode_lower c.args.id.now.bytes))
