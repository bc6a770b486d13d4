-- A bracket fewer is a bit fewer.
use Rattle.json_span.proofs.NestLaws.{closed_is}
use Rattle.json_span.proofs.nest.Nest.close.Goals as goal

pub returns : goal.returns
returns c = rw (← c.self.view_is) (closed_is c.self.inside.bits c.self.inside.room c.self.invariant.0 c.if-room-eq-ROOM.false)
