-- A worked line of each outcome, computed.
use Rattle.std.specs.Prelude.{◌≡◌, ◌++◌, ℕ, List, codes, [], ◌∷◌}
use Rattle.std.specs.Fmt.{digits}
use Rattle.std.specs.List.{repeat}
use Rattle.std.proofs.Common.{refl}
use Rattle.hex.proofs.OnLiterals.{hex_on_literals}
use Rattle.gb_text.specs.declared.id.Name.{Name}
use Rattle.sync_steps.specs.Lines.{line_text, lines_text_of}
use Rattle.sync_steps.specs.declared.line.CopyCause.TheVariants as cause
use Rattle.sync_steps.specs.declared.line.EntityWord.{EntityWord}
use Rattle.sync_steps.specs.declared.line.EntityWord.TheVariants as word
use Rattle.sync_steps.specs.declared.line.Exchange.{Exchange}
use Rattle.sync_steps.specs.declared.line.Exchange.TheVariants as verb
use Rattle.sync_steps.specs.declared.line.Line.{Line}
use Rattle.sync_steps.specs.declared.line.Outcome.{Outcome}
use Rattle.sync_steps.specs.declared.line.Outcome.TheVariants as outcome

-- the name of a commit whose bytes are all `ee`
abbrev name : Name
name = record { bytes = repeat 20 (238 ∷ []) }

-- the line of an entity whose id has the bytes `a0`
abbrev line_with : Exchange → EntityWord → Outcome → Line
line_with verb word out = record { verb = verb; word = word; id = record { bytes = repeat 32 (160 ∷ []) }; outcome = out }

-- what stands between two words
abbrev id_digits : List ℕ
id_digits = repeat 32 (codes "a0")

abbrev name_digits : List ℕ
name_digits = repeat 20 (codes "ee")

fetched : line_text (line_with verb.Fetch word.Identity outcome.Fetched) ≡ codes "fetch identity " ++ id_digits ++ codes " fetched\n"
unfolding hex_on_literals
fetched = refl

same : line_text (line_with verb.Fetch word.Bug outcome.Same) ≡ codes "fetch bug " ++ id_digits ++ codes " same\n"
unfolding hex_on_literals
same = refl

pushed : line_text (line_with verb.Push word.Identity outcome.Pushed) ≡ codes "push identity " ++ id_digits ++ codes " pushed\n"
unfolding hex_on_literals
pushed = refl

bad_ref : line_text (line_with verb.Push word.Bug outcome.BadRef) ≡ codes "push bug " ++ id_digits ++ codes " damaged ref\n"
unfolding hex_on_literals
bad_ref = refl

not_forward : line_text (line_with verb.Push word.Bug (outcome.NotForward name)) ≡ codes "push bug " ++ id_digits ++ codes " not-forward " ++ name_digits ++ codes "\n"
unfolding hex_on_literals
not_forward = refl

held : line_text (line_with verb.Push word.Bug outcome.Held) ≡ codes "push bug " ++ id_digits ++ codes " held\n"
unfolding hex_on_literals
held = refl

-- what kept a head from being copied
missing : line_text (line_with verb.Fetch word.Bug (outcome.DamagedCopy (cause.Missing name))) ≡ codes "fetch bug " ++ id_digits ++ codes " damaged missing " ++ name_digits ++ codes "\n"
unfolding hex_on_literals
missing = refl

bytes : line_text (line_with verb.Fetch word.Bug (outcome.DamagedCopy (cause.Damaged name))) ≡ codes "fetch bug " ++ id_digits ++ codes " damaged bytes " ++ name_digits ++ codes "\n"
unfolding hex_on_literals
bytes = refl

kind : line_text (line_with verb.Fetch word.Bug (outcome.DamagedCopy (cause.WrongKind name))) ≡ codes "fetch bug " ++ id_digits ++ codes " damaged kind " ++ name_digits ++ codes "\n"
unfolding hex_on_literals
kind = refl

large : line_text (line_with verb.Fetch word.Bug (outcome.DamagedCopy (cause.TooLarge 65537))) ≡ codes "fetch bug " ++ id_digits ++ codes " damaged large 65537\n"
unfolding digits hex_on_literals
large = refl

ring : line_text (line_with verb.Fetch word.Bug (outcome.DamagedCopy (cause.Ring name))) ≡ codes "fetch bug " ++ id_digits ++ codes " damaged ring " ++ name_digits ++ codes "\n"
unfolding hex_on_literals
ring = refl

taken : line_text (line_with verb.Fetch word.Bug (outcome.DamagedCopy (cause.Taken name))) ≡ codes "fetch bug " ++ id_digits ++ codes " damaged taken " ++ name_digits ++ codes "\n"
unfolding hex_on_literals
taken = refl

-- a line behind another
two : lines_text_of (line_with verb.Push word.Identity outcome.Same ∷ line_with verb.Push word.Bug outcome.Pushed ∷ []) ≡ codes "push identity " ++ id_digits ++ codes " same\npush bug " ++ id_digits ++ codes " pushed\n"
unfolding hex_on_literals
two = refl
