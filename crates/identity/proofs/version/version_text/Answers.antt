use Rattle.std.proofs.Common.{rules, ◌≡◌, arith}
use Rattle.std.proofs.lemmas.Str.{IsUtf8-from_is_utf8}
use Rattle.std.specs.Prelude.{IfOk}
use Rattle.op_kind.specs.Nonces.{IsNonce}
use Rattle.identity.specs.Version.{MayBeWritten, text_with}
use Rattle.identity.proofs.VersionLemmas.{text_reads, written_reads}
use Rattle.identity.proofs.version.version_text.Goals as goal

pub returns-clause-reads_back : goal.returns-clause-reads_back
returns-clause-reads_back c =
    let is_nonce : IsNonce c.args.nonce.now = record { least = omega (arith, c.told-nonce); most = omega (arith, c.told-nonce); bytes = c.fits-nonce } in
    let name = c.args.name.now in
    let email = c.args.email.now in
    let may : MayBeWritten name.text email.text c.args.nonce.now c.args.now = record {
      name_utf8 = IsUtf8-from_is_utf8 name.text name.utf8;
      email_utf8 = IsUtf8-from_is_utf8 email.text email.utf8;
      title = name.is_title;
      line = email.is_line;
      is_nonce = is_nonce;
      moment = c.requires.moment;
    } in
    let text : IfOk c.write_version.result (λ text. text ≡ text_with name email c.args.nonce.now c.args.now) = search rules in
    text_reads c.write_version.result _ _ (written_reads _ _ _ _ may) text
