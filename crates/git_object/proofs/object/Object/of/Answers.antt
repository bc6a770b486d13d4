use Rattle.std.proofs.Common.{◌≡◌}
use Rattle.git_object.specs.Grammar.{IsContent, kind_of}
use Rattle.git_object.specs.Reading.{object_with}
use Rattle.git_object.proofs.ReadLaws.{reads_found, reads_only}
use Rattle.git_object.proofs.ObjectLaws.{with_takes, with_only}
use Rattle.git_object.proofs.object.Object.of.Goals as goal

pub returns-clause-found : goal.returns-clause-found
returns-clause-found c = reads_found (λ o. (c.args.kind ≡ kind_of o) × IsContent c.args.content.now o) (object_with c.args.kind c.args.content.now) c.parse_content.result
    (λ o e. (let holds = with_takes c.args.kind c.args.content.now o e in (holds.same, holds.is))) c.parse_content.ensures

pub returns-clause-only : goal.returns-clause-only
returns-clause-only c = λ o same is. reads_only (object_with c.args.kind c.args.content.now) c.parse_content.result o (with_only c.args.kind c.args.content.now o same is) c.parse_content.ensures
