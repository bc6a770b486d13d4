use Rattle.std.proofs.Common.{◌∙◌, ap, arith}
use Rattle.gb_text.specs.Folder.{joined}
use Rattle.excerpt_cache.proofs.RowLemmas.{wrote_row}
use Rattle.excerpt_cache.proofs.write.write_row.Goals as goal

pub returns-in_err-put-clause-wrote : goal.returns-in_err-put-clause-wrote
returns-in_err-put-clause-wrote g c =
    wrote_row g.S.Store.tells c.args.folder.now _ (g.R.RowCodec.codec.written c.args.row.now) _ c.args.id.now _ _
    (c.as_str-2.ensures ∙ c.in_ok-at.ensures ∙ ap (joined c.args.folder.now) (c.as_str.ensures ∙ c.in_ok-place.ensures.place)) (c.as_slice-bytes.ensures ∙ c.in_ok-text.ensures) (omega arith) c.put.ensures.maybe

pub returns-clause-wrote : goal.returns-clause-wrote
returns-clause-wrote g c =
    wrote_row g.S.Store.tells c.args.folder.now _ (g.R.RowCodec.codec.written c.args.row.now) _ c.args.id.now _ _
    (c.as_str-2.ensures ∙ c.in_ok-at.ensures ∙ ap (joined c.args.folder.now) (c.as_str.ensures ∙ c.in_ok-place.ensures.place)) (c.as_slice-bytes.ensures ∙ c.in_ok-text.ensures) (omega arith) c.put.ensures.maybe
