-- What a reader answers, from what its reading on lists gives.
use Rattle.std.proofs.Common.{◌≡◌, Option, Some, None, Result, Ok, Err, sym, ◌∙◌}
use Rattle.std.specs.Prelude.{IfOk, IfSome}
use Rattle.git_object.specs.Reading.{Gives}

-- what a reader finds has what all that reads has
pub reads_found : {V E : Type 0} (P : V → Type 0) (read : Option V) (r : Result (Option V) E) → ((v : V) → read ≡ Some v → P v) → Gives (λ x. x) r read → IfOk r (λ o. IfSome o P)
reads_found P read (Ok None) takes e = tt
reads_found P read (Ok (Some v)) takes e = takes v (sym e)
reads_found P read (Err x) takes e = tt

-- a reader finds the one value that reads
pub reads_only : {V E : Type 0} (read : Option V) (r : Result (Option V) E) (v : V) → read ≡ Some v → Gives (λ x. x) r read → IfOk r (λ o. o ≡ Some v)
reads_only read (Ok None) v is e = e ∙ is
reads_only read (Ok (Some w)) v is e = e ∙ is
reads_only read (Err x) v is e = tt

-- a reader finds what reads
pub reads_value : {V E : Type 0} (read : Option V) (r : Result (Option V) E) → Gives (λ x. x) r read → IfOk r (λ o. o ≡ read)
reads_value read (Ok None) e = e
reads_value read (Ok (Some v)) e = e
reads_value read (Err x) e = tt
