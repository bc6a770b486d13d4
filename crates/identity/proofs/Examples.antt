-- Worked examples of the definitions, computed; the id is that which `sha256sum` gives.
use Rattle.std.specs.Prelude.{◌≡◌, ⊤, ℕ, List, codes, [], ◌∷◌, Some, None, true, false}
use Rattle.std.specs.Fmt.{digits}
use Rattle.std.specs.Str.{chars, is_utf8}
use Rattle.std.proofs.Common.{refl}
use Rattle.json.proofs.OnLiterals.{json_on_literals}
use Rattle.sha2.specs.Sha256.{first_words, schedule, rounds, compress, hash_after, digest_bytes, sha256}
use Rattle.op_kind.proofs.Examples.{op_kind_on_literals}
use Rattle.identity.specs.Version.{version_id, version_in, version_of, version_text_of}

-- what an answer unfolds to read and write a version on a literal
unfoldable pub identity_on_literals : ⊤
unfolding digits chars is_utf8 json_on_literals op_kind_on_literals version_in
identity_on_literals = tt

-- what an answer unfolds to compute an id on a literal
unfoldable pub ids_on_literals : ⊤
unfolding first_words schedule rounds compress hash_after digest_bytes sha256
ids_on_literals = tt

-- 20 bytes
abbrev nonce : List ℕ
nonce = 0 ∷ 0 ∷ 0 ∷ 0 ∷ 0 ∷ 0 ∷ 0 ∷ 0 ∷ 0 ∷ 0 ∷ 0 ∷ 0 ∷ 0 ∷ 0 ∷ 0 ∷ 0 ∷ 0 ∷ 0 ∷ 0 ∷ 0 ∷ []

-- the text of the version of a person
abbrev text : List ℕ
text = codes "{\"email\":\"b@c\",\"name\":\"a\",\"nonce\":\"AAAAAAAAAAAAAAAAAAAAAAAAAAA=\",\"times\":{},\"unix_time\":1,\"version\":2}"

-- version texts
version_least : version_of (codes "{\"version\":2,\"name\":\"a\",\"unix_time\":1,\"nonce\":\"AAAAAAAAAAAAAAAAAAAAAAAAAAA=\"}") ≡ Some (record { name = codes "a"; email = []; login = []; avatar_url = []; time = 1; nonce = nonce; has_keys = false })
unfolding identity_on_literals
version_least = refl

version_email : version_of (codes "{\"version\":2,\"name\":\"a\",\"unix_time\":1,\"nonce\":\"AAAAAAAAAAAAAAAAAAAAAAAAAAA=\",\"email\":\"b@c\"}") ≡ Some (record { name = codes "a"; email = codes "b@c"; login = []; avatar_url = []; time = 1; nonce = nonce; has_keys = false })
unfolding identity_on_literals
version_email = refl

version_null_keys : version_of (codes "{\"version\":2,\"name\":\"a\",\"unix_time\":1,\"nonce\":\"AAAAAAAAAAAAAAAAAAAAAAAAAAA=\",\"pub_keys\":null}") ≡ Some (record { name = codes "a"; email = []; login = []; avatar_url = []; time = 1; nonce = nonce; has_keys = false })
unfolding identity_on_literals
version_null_keys = refl

version_no_keys : version_of (codes "{\"version\":2,\"name\":\"a\",\"unix_time\":1,\"nonce\":\"AAAAAAAAAAAAAAAAAAAAAAAAAAA=\",\"pub_keys\":[]}") ≡ Some (record { name = codes "a"; email = []; login = []; avatar_url = []; time = 1; nonce = nonce; has_keys = false })
unfolding identity_on_literals
version_no_keys = refl

version_keys : version_of (codes "{\"version\":2,\"name\":\"a\",\"unix_time\":1,\"nonce\":\"AAAAAAAAAAAAAAAAAAAAAAAAAAA=\",\"pub_keys\":[1]}") ≡ Some (record { name = codes "a"; email = []; login = []; avatar_url = []; time = 1; nonce = nonce; has_keys = true })
unfolding identity_on_literals
version_keys = refl

version_keys_object : version_of (codes "{\"version\":2,\"name\":\"a\",\"unix_time\":1,\"nonce\":\"AAAAAAAAAAAAAAAAAAAAAAAAAAA=\",\"pub_keys\":{}}") ≡ None
unfolding identity_on_literals
version_keys_object = refl

version_login : version_of (codes "{\"version\":2,\"login\":\"l\",\"unix_time\":1,\"nonce\":\"AAAAAAAAAAAAAAAAAAAAAAAAAAA=\"}") ≡ Some (record { name = []; email = []; login = codes "l"; avatar_url = []; time = 1; nonce = nonce; has_keys = false })
unfolding identity_on_literals
version_login = refl

version_blank : version_of (codes "{\"version\":2,\"name\":\" \",\"unix_time\":1,\"nonce\":\"AAAAAAAAAAAAAAAAAAAAAAAAAAA=\"}") ≡ None
unfolding identity_on_literals
version_blank = refl

version_line_feed : version_of (codes "{\"version\":2,\"name\":\"a\\n\",\"unix_time\":1,\"nonce\":\"AAAAAAAAAAAAAAAAAAAAAAAAAAA=\"}") ≡ None
unfolding identity_on_literals
version_line_feed = refl

version_repeated : version_of (codes "{\"version\":2,\"name\":\"a\",\"unix_time\":1,\"nonce\":\"AAAAAAAAAAAAAAAAAAAAAAAAAAA=\",\"name\":\"a\"}") ≡ None
unfolding identity_on_literals
version_repeated = refl

version_3 : version_of (codes "{\"version\":3,\"name\":\"a\",\"unix_time\":1,\"nonce\":\"AAAAAAAAAAAAAAAAAAAAAAAAAAA=\"}") ≡ None
unfolding identity_on_literals
version_3 = refl

version_time_text : version_of (codes "{\"version\":2,\"name\":\"a\",\"unix_time\":\"1\",\"nonce\":\"AAAAAAAAAAAAAAAAAAAAAAAAAAA=\"}") ≡ None
unfolding identity_on_literals
version_time_text = refl

version_no_nonce : version_of (codes "{\"version\":2,\"name\":\"a\",\"unix_time\":1}") ≡ None
unfolding identity_on_literals
version_no_nonce = refl

version_array : version_of (codes "[]") ≡ None
unfolding identity_on_literals
version_array = refl

-- what is written, and its id
written : version_text_of (codes "a") (codes "b@c") nonce 1 ≡ text
unfolding identity_on_literals
written = refl

written_reads : version_of text ≡ Some (record { name = codes "a"; email = codes "b@c"; login = []; avatar_url = []; time = 1; nonce = nonce; has_keys = false })
unfolding identity_on_literals
written_reads = refl

id_of_the_text : version_id text ≡ record { bytes = 13 ∷ 4 ∷ 15 ∷ 190 ∷ 235 ∷ 158 ∷ 142 ∷ 130 ∷ 4 ∷ 239 ∷ 249 ∷ 70 ∷ 98 ∷ 61 ∷ 225 ∷ 142 ∷ 127 ∷ 184 ∷ 131 ∷ 57 ∷ 222 ∷ 41 ∷ 103 ∷ 187 ∷ 245 ∷ 162 ∷ 0 ∷ 245 ∷ 10 ∷ 162 ∷ 10 ∷ 97 ∷ [] }
unfolding ids_on_literals
id_of_the_text = refl
