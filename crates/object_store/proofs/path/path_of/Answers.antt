use Rattle.std.proofs.Common.{◌≡◌, ℕ, List, ◌++◌, codes, take, drop, sym, ◌∙◌, ap, subst, append_assoc}
use Rattle.std.specs.Str.{IsAscii}
use Rattle.std.proofs.lemmas.Str.{IsAscii-take, IsAscii-drop}
use Rattle.hex.specs.Hex.{encode_lower}
use Rattle.gb_text.specs.Folder.{joint, joined}
use Rattle.gb_text.proofs.AsciiLemmas.{IsAscii-encode_lower}
use Rattle.gb_store.specs.ObjectPath.{is_object_path, object_place}
use Rattle.object_store.proofs.PathLemmas.{object_path}
use Rattle.object_store.proofs.path.path_of.Goals as goal

pub push_ascii-requires : goal.push_ascii-requires
push_ascii-requires c =
    let is = c.split_at.ensures.front ∙ ap (take 2) c.text-digits.ensures.digits in
    subst IsAscii (sym is) (IsAscii-take (encode_lower c.args.name.now.bytes) 2 (IsAscii-encode_lower c.args.name.now.bytes))

pub push_ascii-requires-2 : goal.push_ascii-requires-2
push_ascii-requires-2 c =
    let is = c.split_at.ensures.back ∙ ap (drop 2) c.text-digits.ensures.digits in
    subst IsAscii (sym is) (IsAscii-drop (encode_lower c.args.name.now.bytes) 2 (IsAscii-encode_lower c.args.name.now.bytes))

pub returns-clause-counted : goal.returns-clause-counted
returns-clause-counted c =
    let begin = c.args.folder.now ++ joint c.args.folder.now in
    let digits = encode_lower c.args.name.now.bytes in
    let fan = c.split_at.ensures.front ∙ ap (take 2) c.text-digits.ensures.digits in
    let rest = c.split_at.ensures.back ∙ ap (drop 2) c.text-digits.ensures.digits in
    let one = c.in_ok-push_str.ensures.bytes ∙ ap (λ (t : List ℕ). t ++ codes "objects/") c.in_ok-path.ensures in
    let two = c.in_ok-push_ascii.ensures ∙ ap (λ (t : List ℕ). t ++ c.split_at.result.0.now) one ∙ ap (λ (t : List ℕ). begin ++ codes "objects/" ++ t) fan in
    let three = c.in_ok-push_str-2.ensures.bytes ∙ ap (λ (t : List ℕ). t ++ codes "/") two in
    let four = c.in_ok-push_ascii-2.ensures ∙ ap (λ (t : List ℕ). t ++ c.split_at.result.1.now) three ∙ ap (λ (t : List ℕ). begin ++ codes "objects/" ++ take 2 digits ++ codes "/" ++ t) rest in
    let whole : begin ++ codes "objects/" ++ take 2 digits ++ codes "/" ++ drop 2 digits ≡ joined c.args.folder.now (object_place c.args.name.now) = simp append_assoc in
    ap is_object_path (c.from_string.ensures ∙ four ∙ whole) ∙ object_path c.args.folder.now c.args.name.now c.text-digits.ensures.sized
