-- What a text says as a version, both ways, and that what is written reads back.
use Rattle.std.proofs.lemmas.Option.{same_Some}
use Rattle.std.proofs.Common.{◌≡◌, ◌∙◌, ◌||◌, ◌==◌, refl, sym, ap, List, [], ◌∷◌, ℕ, Bool, true, false, Some, None, Option, arith}
use Rattle.std.specs.Prelude.{IsTrue, codes, option_and_then, if◌then◌else◌, Result, Ok, Err, IfOk}
use Rattle.std.specs.Str.{IsUtf8, is_utf8}
use Rattle.std.proofs.lemmas.Bool.{and_parts, eqb-true, or_left}
use Rattle.std.proofs.lemmas.List.Elements.{All-nil}
use Rattle.std.proofs.lemmas.Str.{is_utf8-from_IsUtf8}
use Rattle.gb_text.proofs.ReadBackLemmas.{empty_is_line}
use Rattle.json.specs.Print.{quoted}
use Rattle.json.proofs.Printed.Utf8.{IsUtf8-are_ascii}
use Rattle.gb_text.specs.Rules.{is_line_text, is_title_text}
use Rattle.json_span.specs.Joined.{IsMemberOf}
use Rattle.json_span.proofs.JoinLaws.{object_value}
use Rattle.json_span.proofs.ValueLaws.{deeper}
use Rattle.op_kind.specs.Common.{nonce_of}
use Rattle.op_kind.specs.Members.{Fields, text_at, fields_at, values_of, value_or}
use Rattle.op_kind.specs.QuotedLaws.{quoted_reads}
use Rattle.op_kind.specs.Written.{EachWritable}
use Rattle.op_kind.specs.WritingLaws.{text_writable, decimal_writable, nonce_writable, decimal_reads, time_reads, nonce_reads, fields_read, text_of_operation}
use Rattle.identity.specs.Version.{line_only, line_at, line_of, format_of, moment_of, keys_of, is_titled, IsVersionText, with_value, titled_only, said_by, version_in, version_of, person_name, version_fields, MayBeWritten, version_text_of, written_version}
use Rattle.identity.specs.declared.version.Version.{Version}

-- ---- one value after the other

-- a value that is there is handed on
some_next : {A B : Type 0} (o : Option A) (a : A) (next : A → Option B) (b : B) → o ≡ Some a → next a ≡ Some b → with_value o next ≡ Some b
some_next o a next b is h = ap (λ x. with_value x next) is ∙ h

-- where something is made of a value, the value is there
some_before : {A B : Type 0} (o : Option A) (next : A → Option B) (b : B) → with_value o next ≡ Some b → (a : A) × (o ≡ Some a) × (next a ≡ Some b)
some_before None next b h = absurd (cc)
some_before (Some a) next b h = (a, refl, h)

-- what is given under a condition is given where it holds
under : {A : Type 0} (b : Bool) (o : Option A) (a : A) → (if b then o else None) ≡ Some a → (b ≡ true) × (o ≡ Some a)
under true o a h = (refl, h)
under false o a h = absurd (cc)

-- ---- both ways

titled_is : (v : Version) → is_titled v ≡ true → titled_only v ≡ Some v
titled_is v h = ap (λ b. if b then Some v else None) h

-- What the members say is what is said by them.
members_say : (text : List ℕ) (v : Version) (is : IsVersionText text v) → version_in is.fields ≡ Some v
unfolding version_in
members_say text v is =
    some_next _ 2 _ v is.format
    (some_next _ v.name _ v is.name
    (some_next _ v.email _ v is.email
    (some_next _ v.login _ v is.login
    (some_next _ v.avatar_url _ v is.avatar_url
    (some_next _ v.time _ v is.time
    (some_next _ v.nonce _ v is.nonce
    (some_next _ v.has_keys _ v is.keys
    (titled_is v is.titled))))))))

-- A version text is the version that it says.
pub version_is : (text : List ℕ) (v : Version) → IsVersionText text v → version_of text ≡ Some v
version_is text v is =
    ap (λ b. if b then option_and_then version_in (fields_at text) else None) is.utf8
    ∙ ap (option_and_then version_in) is.object
    ∙ members_say text v is

-- the parts of what members say
record Said (fs : Fields) (v : Version) : Type 0 where
  format : format_of fs ≡ Some 2
  name : line_of (codes "name") fs ≡ Some v.name
  email : line_of (codes "email") fs ≡ Some v.email
  login : line_of (codes "login") fs ≡ Some v.login
  avatar_url : line_of (codes "avatar_url") fs ≡ Some v.avatar_url
  time : moment_of fs ≡ Some v.time
  nonce : nonce_of fs ≡ Some v.nonce
  keys : keys_of fs ≡ Some v.has_keys
  titled : IsTrue (is_titled v)

titled_said : (v w : Version) → titled_only v ≡ Some w → (is_titled v ≡ true) × (v ≡ w)
titled_said v w h = let u = under (is_titled v) (Some v) w h in (u.0, same_Some v w u.1)

said : (fs : Fields) (v : Version) → version_in fs ≡ Some v → Said fs v
unfolding version_in
said fs v h =
    let format = some_before (format_of fs) _ v h in
    let two = under (format.0 == 2) (said_by fs) v format.2 in
    let name = some_before (line_of (codes "name") fs) _ v two.1 in
    let email = some_before (line_of (codes "email") fs) _ v name.2 in
    let login = some_before (line_of (codes "login") fs) _ v email.2 in
    let avatar_url = some_before (line_of (codes "avatar_url") fs) _ v login.2 in
    let time = some_before (moment_of fs) _ v avatar_url.2 in
    let nonce = some_before (nonce_of fs) _ v time.2 in
    let keys = some_before (keys_of fs) _ v nonce.2 in
    let last = titled_said _ v keys.2 in
    record {
      format = format.1 ∙ ap Some (eqb-true format.0 2 two.0);
      name = name.1 ∙ ap (λ w. Some w.name) last.1;
      email = email.1 ∙ ap (λ w. Some w.email) last.1;
      login = login.1 ∙ ap (λ w. Some w.login) last.1;
      avatar_url = avatar_url.1 ∙ ap (λ w. Some w.avatar_url) last.1;
      time = time.1 ∙ ap (λ w. Some w.time) last.1;
      nonce = nonce.1 ∙ ap (λ w. Some w.nonce) last.1;
      keys = keys.1 ∙ ap (λ w. Some w.has_keys) last.1;
      titled = ap is_titled (sym last.1) ∙ last.0;
    }

-- A text that is a version says it.
pub is_version : (text : List ℕ) (v : Version) → version_of text ≡ Some v → IsVersionText text v
is_version text v h =
    let utf8 = under (is_utf8 text) (option_and_then version_in (fields_at text)) v h in
    let object = some_before (fields_at text) version_in v utf8.1 in
    let s = said object.0 v object.2 in
    record {
      utf8 = utf8.0;
      fields = object.0;
      object = object.1;
      format = s.format;
      name = s.name;
      email = s.email;
      login = s.login;
      avatar_url = s.avatar_url;
      time = s.time;
      nonce = s.nonce;
      keys = s.keys;
      titled = s.titled;
    }

-- ---- what is written reads back

title_is_line : (t : List ℕ) → is_title_text t ≡ true → is_line_text t ≡ true
title_is_line t h = let both = and_parts _ _ h in both.0

line_reads : (t : List ℕ) → IsUtf8 t → is_line_text t ≡ true → line_at (quoted t) ≡ Some t
line_reads t utf8 line = ap (option_and_then line_only) (quoted_reads t utf8) ∙ ap (λ b. if b then Some t else None) line

each_writable : (name email nonce : List ℕ) (time : ℕ) → MayBeWritten name email nonce time → EachWritable 98 (version_fields name email nonce time)
each_writable name email nonce time may = (
  text_writable 98 (codes "email") email (IsUtf8-are_ascii _ refl) may.email_utf8,
  (
    text_writable 98 (codes "name") name (IsUtf8-are_ascii _ refl) may.name_utf8,
    (
      nonce_writable 98 (codes "nonce") nonce (IsUtf8-are_ascii _ refl),
      (
        record { name = IsUtf8-are_ascii _ refl; utf8 = IsUtf8-are_ascii _ refl; value = deeper 1 98 _ (omega arith) (object_value 0 [] (All-nil (IsMemberOf 0))) },
        (
          decimal_writable 98 (codes "unix_time") time (IsUtf8-are_ascii _ refl) (omega (arith, may.moment)),
          (decimal_writable 98 (codes "version") 2 (IsUtf8-are_ascii _ refl) (omega arith), tt),
        ),
      ),
    ),
  ),
)

written_says : (name email nonce : List ℕ) (time : ℕ) → MayBeWritten name email nonce time → IsVersionText (version_text_of name email nonce time) (written_version name email nonce time)
unfolding nonce_of
written_says name email nonce time may =
    let each = each_writable name email nonce time may in
    record {
      utf8 = is_utf8-from_IsUtf8 _ (text_of_operation (version_fields name email nonce time) each).utf8;
      fields = version_fields name email nonce time;
      object = fields_read 98 (version_fields name email nonce time) (omega arith) each;
      format = decimal_reads 2 (omega arith);
      name = line_reads name may.name_utf8 (title_is_line name may.title);
      email = line_reads email may.email_utf8 may.line;
      login = refl;
      avatar_url = refl;
      time = time_reads time may.moment;
      nonce = nonce_reads nonce may.is_nonce;
      keys = refl;
      titled = or_left _ _ may.title;
    }

-- What is written of a version reads as it.
pub written_reads : (name email nonce : List ℕ) (time : ℕ) → MayBeWritten name email nonce time → version_of (version_text_of name email nonce time) ≡ Some (written_version name email nonce time)
written_reads name email nonce time may = version_is _ _ (written_says name email nonce time may)

-- A title is the person's name.
pub titled_person : (name email nonce : List ℕ) (time : ℕ) → IsTrue (is_title_text name) → person_name (written_version name email nonce time) ≡ name
titled_person name email nonce time title = ap (λ b. if b then name else []) title

-- A text that equals what is written reads as it.
pub text_reads : {E : Type 0} (r : Result (List ℕ) E) (t : List ℕ) (v : Version) → version_of t ≡ Some v → IfOk r (λ text. text ≡ t) → IfOk r (λ text. version_of text ≡ Some v)
text_reads (Ok text) t v h is = ap version_of is ∙ h
text_reads (Err e) t v h is = tt

-- ---- what a version text has

line_told : (value t : List ℕ) → line_at value ≡ Some t → is_line_text t ≡ true
line_told value t h =
    let o = some_before (text_at value) line_only t h in
    let u = under (is_line_text o.0) (Some o.0) t o.2 in
    ap is_line_text (sym (same_Some o.0 t u.1)) ∙ u.0

pub empty_or_line : (values : List (List ℕ)) (t : List ℕ) → value_or [] line_at values ≡ Some t → is_line_text t ≡ true
empty_or_line [] t h = let empty : [] ≡ t = same_Some [] t h in ap is_line_text (sym empty) ∙ empty_is_line
empty_or_line (v ∷ []) t h = line_told v t h
empty_or_line (v ∷ w ∷ vs) t h = absurd (cc)

-- The email of a version is a line.
pub email_is_line : (text : List ℕ) (v : Version) → version_of text ≡ Some v → IsTrue (is_line_text v.email)
email_is_line text v h = let is = is_version text v h in empty_or_line (values_of (codes "email") is.fields) v.email is.email

chosen_title : (name login : List ℕ) (b : Bool) → is_title_text name ≡ b → (b || is_title_text login) ≡ true → is_title_text (if b then name else login) ≡ true
chosen_title name login true is h = is
chosen_title name login false is h = h

-- The person's name of a version is a title.
pub person_is_title : (text : List ℕ) (v : Version) → version_of text ≡ Some v → IsTrue (is_title_text (person_name v))
person_is_title text v h = let is = is_version text v h in chosen_title v.name v.login _ refl is.titled
