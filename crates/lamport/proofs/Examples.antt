-- Worked examples of the definitions, computed.
use Rattle.std.specs.Prelude.{◌≡◌, codes, []}
use Rattle.std.specs.Fmt.{digits}
use Rattle.std.proofs.Common.{refl}
use Rattle.lamport.specs.Clock.{clock_of, edit_time_of, merge_time_of, root_time_of, seen_by}

-- clock files: the cap is 2^62, and what is no decimal reads as 0
clock_file : clock_of (codes "7\n") ≡ 7
unfolding digits
clock_file = refl

clock_empty : clock_of [] ≡ 0
unfolding digits
clock_empty = refl

clock_two_line_feeds : clock_of (codes "7\n\n") ≡ 0
unfolding digits
clock_two_line_feeds = refl

clock_word : clock_of (codes "seven") ≡ 0
unfolding digits
clock_word = refl

clock_cap : clock_of (codes "4611686018427387904") ≡ 4611686018427387904
unfolding digits
clock_cap = refl

clock_above_the_cap : clock_of (codes "4611686018427387905") ≡ 4611686018427387904
unfolding digits
clock_above_the_cap = refl

clock_greatest : clock_of (codes "18446744073709551615") ≡ 4611686018427387904
unfolding digits
clock_greatest = refl

clock_one_more : clock_of (codes "18446744073709551616") ≡ 0
unfolding digits
clock_one_more = refl

-- seeing, and the clocks of roots, edits and joins
seen_lower : seen_by 7 3 ≡ 7
seen_lower = refl

seen_higher : seen_by 3 7 ≡ 7
seen_higher = refl

seen_hostile : seen_by 3 9223372036854775807 ≡ 4611686018427387904
seen_hostile = refl

root_first : root_time_of 0 ≡ 1
root_first = refl

root_at_the_cap : root_time_of 4611686018427387904 ≡ 4611686018427387904
root_at_the_cap = refl

edit_above_the_clock : edit_time_of 9 3 ≡ 10
edit_above_the_clock = refl

edit_above_the_head : edit_time_of 3 9 ≡ 10
edit_above_the_head = refl

edit_near_the_head : edit_time_of 4611686018427387904 3 ≡ 1000003
edit_near_the_head = refl

edit_at_the_jump : edit_time_of 1000002 3 ≡ 1000003
edit_at_the_jump = refl

edit_of_a_hostile_head : edit_time_of 3 9223372036854775806 ≡ 9223372036854775807
edit_of_a_hostile_head = refl

join_above_both : merge_time_of 1 5 7 ≡ 8
join_above_both = refl

join_above_the_clock : merge_time_of 9 5 7 ≡ 10
join_above_the_clock = refl
