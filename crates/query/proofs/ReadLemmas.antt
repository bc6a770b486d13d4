-- One query is read from a text.
use Rattle.std.proofs.Common.{◌≡◌, ℕ, List, Result, Ok, sym, ap, ◌∙◌}
use Rattle.query.specs.declared.fault.QueryFault.{QueryFault}
use Rattle.query.specs.declared.query.Query.{Query}
use Rattle.query.specs.Printing.{IsSayable, printed}
use Rattle.query.specs.Reading.{Gives, query_of}
use Rattle.query.proofs.BackLemmas.{reads_back}

same_ok : (one other : Query) (r : Result Query QueryFault) → r ≡ Ok one → r ≡ Ok other → one ≡ other
same_ok one other r h k = cc

pub one_read : (text : List ℕ) (one other : Query) → Gives (Ok one) (query_of text) → Gives (Ok other) (query_of text) → one ≡ other
one_read text one other h k = same_ok one other (query_of text) h k

pub printed_again : (q again : Query) → IsSayable q → query_of (printed q) ≡ Ok again → printed again ≡ printed q
printed_again q again said h = ap printed (same_ok again q (query_of (printed q)) h (reads_back q said))
