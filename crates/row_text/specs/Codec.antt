-- Rows with their heads are rows of the cache.
use Rattle.std.specs.Prelude.{◌≡◌, true}
use Rattle.excerpt_cache.specs.Codec.{Codec, KeepsLaw}
use Rattle.excerpt_cache.specs.Rows.{is_short}
use Rattle.row_text.specs.RowLaws.{row_reads_back}
use Rattle.row_text.specs.Rows.{RowRules, row_of, row_text}
use Rattle.row_text.specs.declared.row.HeadRow.{HeadRow}

-- the row satisfies the rules, and its text is within the limit of a row's file
pub record RowFits (h : HeadRow) : Type 0 where
  pub rules : RowRules h
  pub short : is_short (row_text h) ≡ true

abbrev pub row_codec : Codec HeadRow
row_codec = record { written = row_text; read_as = row_of; KeepsRules = RowRules }

pub row_keeps_law : KeepsLaw row_codec
row_keeps_law = record { reads_back = row_reads_back }
