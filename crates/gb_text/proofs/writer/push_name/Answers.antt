use Rattle.std.proofs.Common.{sym, subst}
use Rattle.std.specs.Str.{IsAscii}
use Rattle.gb_text.proofs.AsciiLemmas.{IsAscii-encode_lower}
use Rattle.gb_text.proofs.writer.push_name.Goals as goal

pub push_ascii-requires : goal.push_ascii-requires
push_ascii-requires c = subst IsAscii (sym c.text.ensures.digits) (IsAscii-encode_lower c.args.name.now.bytes)
