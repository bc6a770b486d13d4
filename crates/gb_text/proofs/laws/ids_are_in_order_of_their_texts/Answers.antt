use Rattle.std.proofs.Common.{sym}
use Rattle.gb_text.proofs.OrderLemmas.{encode_lower-order}
use Rattle.gb_text.proofs.laws.ids_are_in_order_of_their_texts.Goals as goal

pub returns-clause-texts : goal.returns-clause-texts
returns-clause-texts c = λ one two a b. sym (encode_lower-order one.bytes two.bytes a.bytes b.bytes)
