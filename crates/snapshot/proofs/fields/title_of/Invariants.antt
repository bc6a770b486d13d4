-- The title that is set last is that of the operations that are left, or else the one so far.
use denote.Shadow.{shadow}
use denote.Text.{Utf8}
use Rattle.std.proofs.Common.{◌≡◌, drop}
use Rattle.std.specs.Option.{unwrap_or}
use Rattle.snapshot.specs.LastMention.{last_found, title_in, title_of}
use Rattle.snapshot.proofs.fields.title_of.Given as goal

abbrev pub invariant-loop-op : goal.invariant-loop-op
invariant-loop-op l = (title_of l.ops ≡ unwrap_or (last_found title_in (drop l.op-index l.ops)) l.title) × shadow (Utf8 l.title)
