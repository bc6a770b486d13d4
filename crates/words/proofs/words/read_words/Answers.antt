use Rattle.std.proofs.Common.{◌∙◌, sym, string_bytes}
use Rattle.words.proofs.AskLemmas.{no_verb, too_few}
use Rattle.words.proofs.words.read_words.Goals as goal

pub returns-in_default-clause-read : goal.returns-in_default-clause-read
returns-in_default-clause-read c = too_few string_bytes c.args.words.now c.in_default.len_below

pub returns-in_default-read-clause-read : goal.returns-in_default-read-clause-read
returns-in_default-read-clause-read c =
    no_verb string_bytes c.args.words.now c.folder-item.result c.name-item.result c.as_str.result.now c.in-len2-up.len_at_least c.folder-item.is c.name-item.is c.as_str.ensures.value
    (sym c.read.ensures ∙ c.in_default-read.is)
