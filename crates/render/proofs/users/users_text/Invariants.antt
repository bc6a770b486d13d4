use Rattle.std.proofs.Common.{◌≡◌, string_bytes, take, flat_map}
use Rattle.render.specs.Users.{user_line}
use Rattle.render.proofs.users.users_text.Given as goal

abbrev pub invariant-loop-person : goal.invariant-loop-person
invariant-loop-person l = string_bytes l.text ≡ flat_map (user_line l.user) (take l.person-index l.names)
