-- Runs with unlike seeds make each identity once, unless two of their texts have one hash.
use Rattle.std.proofs.Common.{◌≡◌, ◌≢◌, ◌⊎◌, inl, inr, refl, sym, ◌∙◌, ap, subst, ℕ, List, [], ◌∷◌, ◌++◌, arith}
use Rattle.std.proofs.lemmas.List.{append_cancel_right}
use Rattle.std.proofs.lemmas.Option.{same_Some}
use Rattle.std.proofs.lemmas.Str.{IsUtf8-from_is_utf8}
use Rattle.gb_text.specs.declared.id.Id.{Id}
use Rattle.gb_text.specs.declared.ruled.Line.{Line}
use Rattle.gb_text.specs.declared.ruled.Title.{Title}
use Rattle.gb_store.specs.Files.{History}
use Rattle.bug_edits.specs.NewOps.{nonce_from}
use Rattle.bug_edits.proofs.RuleLemmas.{is_within}
use Rattle.identity.specs.Version.{MayBeWritten, version_id, version_of, written_version}
use Rattle.identity.specs.declared.version.Version.{Version}
use Rattle.identity.proofs.VersionLemmas.{written_reads}
use Rattle.repo_state.proofs.PlaceLemmas.{same_or_other}
use Rattle.repo_steps.specs.PeopleDoings.{new_text}
use Rattle.repo_steps.specs.declared.env.Env.{Env}
use Rattle.bug_run.specs.Run.{env_at}
use Rattle.exchange_runs.specs.Takes.{RunsAmong}
use Rattle.exchange_runs.specs.Takes as among
use Rattle.identity_runs.specs.Homes.{AreMadeOnce, IsMadeIn, MakesPerson}
use Rattle.identity_runs.specs.Seeds.{IsHashed, IsSeed, MakePeopleOfUnlikeSeeds, MakePeopleWithoutCollision, MakesOne}

-- the version of a title and a line may be written at each moment
may_write : (env : Env) (name : Title) (email : Line) → MayBeWritten name.text email.text (nonce_from env.moment.seed) env.moment.now
may_write env name email = record {
  name_utf8 = IsUtf8-from_is_utf8 name.text name.utf8;
  email_utf8 = IsUtf8-from_is_utf8 email.text email.utf8;
  title = name.is_title;
  line = email.is_line;
  is_nonce = (is_within env.moment 0 (omega arith)).nonce;
  moment = omega (arith, env.moment.within);
}

-- versions of one text are one version
one_version : (env other : Env) (name title : Title) (email line : Line) → new_text env name email ≡ new_text other title line
    → written_version name.text email.text (nonce_from env.moment.seed) env.moment.now ≡ written_version title.text line.text (nonce_from other.moment.seed) other.moment.now
one_version env other name title email line same =
    let here = written_reads name.text email.text (nonce_from env.moment.seed) env.moment.now (may_write env name email) in
    let there = written_reads title.text line.text (nonce_from other.moment.seed) other.moment.now (may_write other title line) in
    same_Some (written_version name.text email.text (nonce_from env.moment.seed) env.moment.now) (written_version title.text line.text (nonce_from other.moment.seed) other.moment.now) (sym here ∙ ap version_of same ∙ there)

-- so they have one nonce, and one name
one_nonce : (env other : Env) (name title : Title) (email line : Line) → new_text env name email ≡ new_text other title line → nonce_from env.moment.seed ≡ nonce_from other.moment.seed
one_nonce env other name title email line same = ap (λ (v : Version). v.nonce) (one_version env other name title email line same)

pub one_name : (env other : Env) (name title : Title) (email line : Line) → new_text env name email ≡ new_text other title line → name.text ≡ title.text
one_name env other name title email line same = ap (λ (v : Version). v.name) (one_version env other name title email line same)

-- an identity that one of these runs made: its id is that of the text of its first version, which is of a seed
record IsMadeOfOne (folders : List (List ℕ)) (old new : History) (runs : RunsAmong folders old new) (id : Id) : Type 0 where
  env : Env
  name : Title
  email : Line
  is_id : version_id (new_text env name email) ≡ id
  seed : IsSeed folders old new runs env.moment.seed
  hashes_text : IsHashed folders old new runs (new_text env name email)
  hashes_seed : IsHashed folders old new runs (env.moment.seed ++ 0 ∷ [])

made_of_one : (folders : List (List ℕ)) (old new : History) (runs : RunsAmong folders old new) (id : Id) (home : List ℕ) → IsMadeIn folders old new runs id home → IsMadeOfOne folders old new runs id
made_of_one folders old new among.nothing id home made = absurd made
made_of_one folders old new (among.one_more mid end runs run takes) id home (inl earlier) =
    let was = made_of_one folders old mid runs id home earlier in
    record {
      env = was.env;
      name = was.name;
      email = was.email;
      is_id = was.is_id;
      seed = inl was.seed;
      hashes_text = inl was.hashes_text;
      hashes_seed = inl was.hashes_seed;
    }
made_of_one folders old new (among.one_more mid end runs run takes) id home (inr makes) =
    let one : MakesOne folders mid end run = record { id = id; folder = home; makes = makes } in
    record {
      env = env_at run.moment home;
      name = makes.name;
      email = makes.email;
      is_id = makes.is_made;
      seed = inr (one, refl);
      hashes_text = inr (record { one = one; is = inl refl });
      hashes_seed = inr (record { one = one; is = inr refl });
    }

pub made_once : (folders : List (List ℕ)) (old new : History) (runs : RunsAmong folders old new) → MakePeopleOfUnlikeSeeds folders old new runs → MakePeopleWithoutCollision folders old new runs
    → AreMadeOnce folders old new runs
made_once folders old new among.nothing seeds none = tt
made_once folders old new (among.one_more mid end runs run takes) seeds none =
    (made_once folders old mid runs seeds.0 (λ one two first second. none one two (inl first) (inl second)), λ id folder home makes made. twice id folder makes (made_of_one folders old mid runs id home made))
  where
    twice : (id : Id) (folder : List ℕ) → MakesPerson folders mid end run id folder → IsMadeOfOne folders old mid runs id → ⊥
    twice id folder makes was = by (same_or_other text was_text)
      where
        one : MakesOne folders mid end run
        one = record { id = id; folder = folder; makes = makes }

        text : List ℕ
        text = new_text (env_at run.moment folder) makes.name makes.email

        was_text : List ℕ
        was_text = new_text was.env was.name was.email

        -- the seeds differ
        differ : run.moment.seed ≢ was.env.moment.seed
        differ same = seeds.1 one (subst (IsSeed folders old mid runs) (sym same) was.seed)

        -- so two texts with one hash do
        by : (text ≡ was_text) ⊎ (text ≢ was_text) → ⊥
        by (inl same) =
            none (run.moment.seed ++ 0 ∷ []) (was.env.moment.seed ++ 0 ∷ []) (inr (record { one = one; is = inr refl })) (inl was.hashes_seed)
            ((λ is. differ (append_cancel_right run.moment.seed was.env.moment.seed (0 ∷ []) is)), one_nonce (env_at run.moment folder) was.env makes.name was.name makes.email was.email same)
        by (inr unlike) =
            none text was_text (inr (record { one = one; is = inl refl })) (inl was.hashes_text)
            (unlike, ap (λ (i : Id). i.bytes) (makes.is_made ∙ sym was.is_id))
