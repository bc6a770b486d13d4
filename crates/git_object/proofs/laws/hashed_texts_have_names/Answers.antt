use Rattle.git_object.proofs.NameLaws.{IsName-object_name}
use Rattle.git_object.proofs.laws.hashed_texts_have_names.Goals as goal

pub returns : goal.returns
returns c = IsName-object_name
