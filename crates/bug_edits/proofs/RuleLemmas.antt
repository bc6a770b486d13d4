-- What operations of a moment have in common keeps the rules of bugs' operations, and the one that begins a bug does.
use Rattle.std.proofs.Common.{◌≡◌, ◌<◌, ◌^◌, ℕ, zero, suc, true, List, [], ◌∷◌, ◌++◌, sym, subst, arith}
use Rattle.std.specs.Prelude.{slice_index}
use Rattle.std.specs.Int.{w32, to_be_bytes}
use Rattle.std.specs.Str.{is_utf8}
use Rattle.std.proofs.lemmas.Str.{IsUtf8-from_is_utf8}
use Rattle.hex.specs.Hex.{IsBytes}
use Rattle.sha2.specs.Sha256.{digest_bytes, sha256}
use Rattle.sha2.proofs.Facts256.{length-sha256}
use Rattle.gb_text.specs.Rules.{is_message_text, is_title_text}
use Rattle.gb_text.specs.declared.id.Name.{Name}
use Rattle.git_object.proofs.NameLaws.{IsBytes-append, word_bytes}
use Rattle.op_kind.specs.Bounds.{IsWithinBounds}
use Rattle.op_kind.specs.Nonces.{IsNonce}
use Rattle.op_kind.specs.declared.place.Common.{Common}
use Rattle.op_kind.proofs.PairLemmas.{none_in_order}
use Rattle.bug_ops.specs.BugForms.{AreNames}
use Rattle.bug_ops.specs.Kind.{bug_kind}
use Rattle.bug_ops.specs.declared.op.BugOp.TheVariants.{Create}
use Rattle.bug_edits.specs.NewOps.{new_common, nonce_from}
use Rattle.bug_edits.specs.declared.moment.Moment.{Moment}

-- ---- the nonce

digest_bytes-bytes : (h : List ℕ) (n : ℕ) → IsBytes (digest_bytes h n)
unfolding digest_bytes
digest_bytes-bytes h zero = λ i. omega arith
digest_bytes-bytes h (suc n) = IsBytes-append (digest_bytes h n) (to_be_bytes w32 (slice_index h n)) (digest_bytes-bytes h n) (word_bytes (slice_index h n))

sha256-bytes : (text : List ℕ) → IsBytes (sha256 text)
unfolding sha256
sha256-bytes text = digest_bytes-bytes _ 8

-- the nonce of a seed is one
is_nonce : (seed : List ℕ) → IsNonce (nonce_from seed)
is_nonce seed =
    let sized = length-sha256 (seed ++ 0 ∷ []) in
    record { least = omega (arith, sized); most = omega (arith, sized); bytes = sha256-bytes (seed ++ 0 ∷ []) }

-- what operations of the moment have in common is within its bounds
pub is_within : (moment : Moment) (kind : ℕ) → kind < 2 ^ 64 → IsWithinBounds (new_common moment kind)
is_within moment kind small = record { kind = small; time = moment.within; nonce = is_nonce moment.seed; order = none_in_order; texts = tt }

-- ---- the operation that begins a bug

pub no_names : (files : List Name) → files ≡ [] → AreNames files
no_names files none = subst AreNames (sym none) tt

module _ (common : Common) (within : IsWithinBounds common) where
  pub create_rules : (title message : List ℕ) (files : List Name) → common.kind ≡ 1 → is_utf8 title ≡ true → is_title_text title ≡ true → is_utf8 message ≡ true → is_message_text message ≡ true → files ≡ []
      → bug_kind.KeepsRules (Create common title message files)
  create_rules title message files kind title_utf8 is_title message_utf8 is_message none = record {
    within = within;
    kind = kind;
    values = (record { utf8 = IsUtf8-from_is_utf8 title title_utf8; title = is_title }, (record { utf8 = IsUtf8-from_is_utf8 message message_utf8; message = is_message }, (no_names files none, tt)));
  }
