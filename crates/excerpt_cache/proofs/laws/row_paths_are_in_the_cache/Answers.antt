use Rattle.std.proofs.Common.{refl}
use Rattle.excerpt_cache.proofs.PlaceLemmas.{row_paths-differ, row_place-in_cache, row_place_is_no_object}
use Rattle.excerpt_cache.proofs.laws.row_paths_are_in_the_cache.Goals as goal

pub returns-clause-below : goal.returns-clause-below
returns-clause-below c = row_place-in_cache

pub returns-clause-plain : goal.returns-clause-plain
returns-clause-plain c = λ id. refl

pub returns-clause-distinct : goal.returns-clause-distinct
returns-clause-distinct c = row_paths-differ

pub returns-clause-no_object : goal.returns-clause-no_object
returns-clause-no_object c = row_place_is_no_object
