use Rattle.std.proofs.Common.{◌≡◌, true, Option, subst, sym, ◌∙◌, ap}
use Rattle.hex.specs.Hex.{encode_lower}
use Rattle.gb_text.specs.Prefix.{begins_with, digits_of}
use Rattle.gb_text.specs.declared.id.Name.{Name}
use Rattle.gb_store.specs.Files.{History, files_of}
use Rattle.ref_store.specs.Refs.{Head}
use Rattle.repo_state.specs.Answers.{IsHeadAt}
use Rattle.repo_state.specs.Bugs.{ReadsBelow}
use Rattle.repo_state.specs.Comments.{IsSought, bug_digits}
use Rattle.repo_state.specs.Sides.{head_at, is_there}
use Rattle.repo_state.specs.declared.side.Side.TheVariants as side
use Rattle.repo_state.proofs.SeekLemmas.{reads_at_head}
use Rattle.repo_state.proofs.seeking.with_id.Goals as goal

pub returns-clause-reads : goal.returns-clause-reads
returns-clause-reads g c = λ tells is.
    let files = files_of (g.S.Store.history c.args.disk.now) in
    let folder = c.args.folder.now in
    let word = digits_of c.args.prefix.now in
    let id = c.args.id.now in
    let name = c.in-Some.name in
    let read : head_at files folder side.Bugs id ≡ Head name = subst (λ (o : Option Name). IsHeadAt files folder side.Bugs id o) c.in-Some.is (c.in_ok-name.ensures.answers tells) in
    let fits : begins_with (bug_digits word) (encode_lower id.bytes) ≡ true =
    ap (λ digits. begins_with digits (encode_lower id.bytes)) (sym c.requires.digits) ∙ sym c.fits.ensures ∙ c.if-not-fits.false in
    let sought : IsSought files folder word id = record { is_id = is; is_prefix = c.args.prefix.now.is_prefix; begins = fits; stands = ap is_there read } in
    let below : ReadsBelow files folder (record { id = id; name = name }) (g.S.Store.object_reads c.head.new.disk) (g.S.Store.object_reads c.with_bug.new.disk) =
    subst (λ (h : History). ReadsBelow (files_of h) folder (record { id = id; name = name }) (g.S.Store.object_reads c.head.new.disk) (g.S.Store.object_reads c.with_bug.new.disk))
    (c.in_ok-name.ensures.unwritten tells) (c.with_bug.ensures.reads tells) in
    reads_at_head files folder word id name _ _ _ sought read c.in_ok-name.ensures.reads below
