use Rattle.std.proofs.Common.{refl}
use Rattle.git_object.specs.declared.object.Object.TheVariants as objects
use Rattle.store_tests.proofs.objects.blob.Goals as goal

pub new-requires : goal.new-requires
new-requires c = record { object = objects.Blob c.args.content.now; is_kind = refl; is = refl }
