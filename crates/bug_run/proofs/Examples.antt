-- Worked examples of the definitions, computed.
use Rattle.std.specs.Prelude.{◌≡◌, ◌++◌, codes, [], ◌∷◌, Ok, Err, pos, negsuc}
use Rattle.std.specs.Fmt.{digits}
use Rattle.std.specs.List.{repeat}
use Rattle.std.proofs.Common.{refl}
use Rattle.hex.proofs.OnLiterals.{hex_on_literals}
use Rattle.repo_steps.specs.declared.refusal.Refusal.TheVariants.{Ambiguous, ClockFull, Damaged, EntityExists, NameTaken, NoLabelChange, NoUser, NotFound, RepeatedOperation, SameStatus, TooLarge}
use Rattle.repo_state.specs.Users.{id_line}
use Rattle.repo_steps.specs.declared.refusal.Stop.TheVariants as stop
use Rattle.bug_run.specs.Refusals.{refusal_line, usage_text}
use Rattle.bug_run.specs.Run.{status_of, text_of}
use Rattle.bug_run.specs.Moments.{seconds_of}
use Rattle.bug_run.specs.declared.status.Refused.TheVariants.{ByCommand, ByWords, SomeLines}
use Rattle.bug_run.specs.declared.status.Status.TheVariants as status
use Rattle.words.specs.declared.words.BadWord.TheVariants.{BadFolder, BadRemoteName, BadText, SameFolder}

-- moments
moment_now : seconds_of (pos 7) ≡ 7
moment_now = refl

moment_before : seconds_of (negsuc 0) ≡ 0
moment_before = refl

moment_long_before : seconds_of (negsuc 9223372036854775807) ≡ 0
moment_long_before = refl

-- what is told where the words give no command
usage_line : usage_text ≡ codes "usage: gitbug FOLDER COMMAND ARGUMENTS\n"
usage_line = refl

-- what an edit tells: the digits of its id, and no refusal; each with its status
edit_line : text_of (Ok (record { text = id_line (record { bytes = repeat 32 (10 ∷ []) }); refused = 0 })) ≡ repeat 32 (codes "0a") ++ codes "\n"
unfolding hex_on_literals
edit_line = refl

status_of_one_done : status_of (Ok (record { text = codes "x\n"; refused = 0 })) ≡ status.Done
status_of_one_done = refl

status_of_refused_lines : status_of (Ok (record { text = codes "x\n"; refused = 2 })) ≡ status.Refused (SomeLines 2)
status_of_refused_lines = refl

status_of_a_fault : status_of (Err stop.Disk) ≡ status.DiskFault
status_of_a_fault = refl

-- lines of refusals
line_of_one_folder : refusal_line (ByWords SameFolder) ≡ codes "refused 11 same folder\n"
unfolding digits hex_on_literals
line_of_one_folder = refl

line_of_a_remote : refusal_line (ByWords BadRemoteName) ≡ codes "refused 12 bad remote name\n"
unfolding digits hex_on_literals
line_of_a_remote = refl

line_of_a_text : refusal_line (ByWords (BadText 2)) ≡ codes "refused 4 bad text 2\n"
unfolding digits hex_on_literals
line_of_a_text = refl

line_of_an_id : refusal_line (ByCommand (EntityExists (record { bytes = repeat 32 (10 ∷ []) }))) ≡ codes "refused 9 entity exists " ++ repeat 32 (codes "0a") ++ codes "\n"
unfolding digits hex_on_literals
line_of_an_id = refl

line_of_a_size : refusal_line (ByCommand (TooLarge 4194305)) ≡ codes "refused 13 too large 4194305\n"
unfolding digits hex_on_literals
line_of_a_size = refl

line_of_damage : refusal_line (ByCommand (Damaged (codes "f/refs/bugs/x"))) ≡ codes "refused 14 damaged f/refs/bugs/x\n"
unfolding digits hex_on_literals
line_of_damage = refl

line_of_same_labels : refusal_line (ByCommand NoLabelChange) ≡ codes "refused 5 no label change\n"
unfolding digits hex_on_literals
line_of_same_labels = refl

line_of_the_same_status : refusal_line (ByCommand SameStatus) ≡ codes "refused 6 same status\n"
unfolding digits hex_on_literals
line_of_the_same_status = refl

line_of_no_user : refusal_line (ByCommand NoUser) ≡ codes "refused 1 no user\n"
unfolding digits hex_on_literals
line_of_no_user = refl

line_of_nothing_found : refusal_line (ByCommand NotFound) ≡ codes "refused 2 not found\n"
unfolding digits hex_on_literals
line_of_nothing_found = refl

line_of_several_found : refusal_line (ByCommand (Ambiguous (record { bytes = repeat 32 (10 ∷ []) }) (record { bytes = repeat 32 (11 ∷ []) }))) ≡ codes "refused 3 ambiguous " ++ repeat 32 (codes "0a") ++ codes " " ++ repeat 32 (codes "0b") ++ codes "\n"
unfolding digits hex_on_literals
line_of_several_found = refl

line_of_a_full_clock : refusal_line (ByCommand (ClockFull (record { bytes = repeat 20 (11 ∷ []) }))) ≡ codes "refused 7 clock full " ++ repeat 20 (codes "0b") ++ codes "\n"
unfolding digits hex_on_literals
line_of_a_full_clock = refl

line_of_a_repeated_operation : refusal_line (ByCommand (RepeatedOperation (record { bytes = repeat 32 (12 ∷ []) }))) ≡ codes "refused 8 repeated operation " ++ repeat 32 (codes "0c") ++ codes "\n"
unfolding digits hex_on_literals
line_of_a_repeated_operation = refl

line_of_a_name : refusal_line (ByCommand (NameTaken (record { bytes = repeat 20 (13 ∷ []) }))) ≡ codes "refused 10 name taken " ++ repeat 20 (codes "0d") ++ codes "\n"
unfolding digits hex_on_literals
line_of_a_name = refl

line_of_a_bad_folder : refusal_line (ByWords BadFolder) ≡ codes "refused 17 bad folder\n"
unfolding digits hex_on_literals
line_of_a_bad_folder = refl
