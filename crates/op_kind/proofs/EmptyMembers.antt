-- Members that are absent or null.
use Rattle.std.proofs.Common.{◌≡◌, refl, ap, ℕ, List, [], codes, Some}
use Rattle.op_kind.specs.Common.{metadata_at, metadata_of}
use Rattle.op_kind.specs.Forms.{texts_at}
use Rattle.op_kind.specs.Members.{Fields, values_of, value_or}

pub null_metadata : metadata_at (codes "null") ≡ Some []
null_metadata = refl

pub absent_metadata : (fields : Fields) → values_of (codes "metadata") fields ≡ [] → metadata_of fields ≡ Some []
unfolding metadata_of
absent_metadata fields none = ap (value_or [] metadata_at) none

pub null_list : texts_at (codes "null") ≡ Some []
null_list = refl
