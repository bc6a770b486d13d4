-- What keeps a commit from having a version, said of its name.
use Rattle.std.proofs.Common.{◌≡◌, inr, refl, List, ℕ, Some, Err, option_and_then, sym, ◌∙◌, ap, subst}
use Rattle.gb_text.specs.declared.id.Id.{Id}
use Rattle.gb_text.specs.declared.id.Name.{Name}
use Rattle.git_object.specs.declared.commit.Commit.{Commit}
use Rattle.object_store.specs.Held.{Objects}
use Rattle.commit_walk.specs.Chain.{IsLink}
use Rattle.commit_walk.specs.declared.chain.Link.{Link}
use Rattle.identity.specs.Version.{version_of}
use Rattle.identity.specs.Commits.{TreeNeeds, Needs, IsBad, NamesVersion, no_blob, no_version, HasVersion, HasNoVersion, text_in, version_object, version_text_at}
use Rattle.object_store.specs.Typed.{AnswersAs, as_blob, tree_at}
use Rattle.object_store.proofs.GrowthLemmas.{bind-some}
use Rattle.object_store.specs.declared.fault.KindFault.{KindFault}
use Rattle.object_store.specs.declared.fault.KindFault.TheVariants as kind
use Rattle.identity.specs.Faults.{Refused, version_fault}
use Rattle.identity.specs.Answers.{IsJudged, VersionIn, NoVersion, ReadingAnswers, RootRefused}
use Rattle.identity.specs.declared.commit.Judged.{Judged}
use Rattle.identity.specs.declared.version.Version.{Version}
use Rattle.identity.specs.declared.fault.IdentityFault.{IdentityFault}
use Rattle.identity.specs.declared.fault.IdentityFault.TheVariants as fault

-- a refusal is one by whatever each of its faults means
pub Refused-map : (Holds Means : IdentityFault → Type 0) → ((f : IdentityFault) → Holds f → Means f) → (f : IdentityFault) → Refused Holds f → Refused Means f
Refused-map Holds Means means fault.Memory h = tt
Refused-map Holds Means means fault.Disk h = tt
Refused-map Holds Means means (fault.Missing n) h = means (fault.Missing n) h
Refused-map Holds Means means (fault.Damaged n) h = means (fault.Damaged n) h
Refused-map Holds Means means (fault.NotCommit n) h = means (fault.NotCommit n) h
Refused-map Holds Means means (fault.BadVersion n) h = means (fault.BadVersion n) h
Refused-map Holds Means means (fault.KeysPresent n) h = means (fault.KeysPresent n) h
Refused-map Holds Means means (fault.NotLinear n) h = means (fault.NotLinear n) h
Refused-map Holds Means means (fault.WrongId found) h = means (fault.WrongId found) h
Refused-map Holds Means means (fault.TooLarge count) h = means (fault.TooLarge count) h

-- what a text is not, its commit has not
pub NoVersion-reading : (objects : Objects) (link : Link) (text : List ℕ) (f : IdentityFault) → text_in objects link.tree ≡ Some text
    → ReadingAnswers link.name text (Err f) → Refused (NoVersion objects link) f
NoVersion-reading objects link text fault.Memory is h = tt
NoVersion-reading objects link text fault.Disk is h = tt
NoVersion-reading objects link text (fault.Missing n) is h = absurd h
NoVersion-reading objects link text (fault.Damaged n) is h = absurd h
NoVersion-reading objects link text (fault.NotCommit n) is h = absurd h
NoVersion-reading objects link text (fault.BadVersion n) is h = (h.0, no_version text is h.1)
NoVersion-reading objects link text (fault.KeysPresent n) is h = (h.0, h.1, ap (option_and_then version_of) is ∙ h.2, h.3)
NoVersion-reading objects link text (fault.NotLinear n) is h = absurd h
NoVersion-reading objects link text (fault.WrongId found) is h = absurd h
NoVersion-reading objects link text (fault.TooLarge count) is h = absurd h

-- a first commit without a version is refused
RootRefused-no_version : (objects : Objects) (id : Id) (root : Link) (f : IdentityFault) → NoVersion objects root f → RootRefused objects id root f
RootRefused-no_version objects id root fault.Memory h = h
RootRefused-no_version objects id root fault.Disk h = h
RootRefused-no_version objects id root (fault.Missing n) h = h
RootRefused-no_version objects id root (fault.Damaged n) h = h
RootRefused-no_version objects id root (fault.NotCommit n) h = h
RootRefused-no_version objects id root (fault.BadVersion n) h = h
RootRefused-no_version objects id root (fault.KeysPresent n) h = h
RootRefused-no_version objects id root (fault.NotLinear n) h = h
RootRefused-no_version objects id root (fault.WrongId found) h = absurd h
RootRefused-no_version objects id root (fault.TooLarge count) h = h

-- what keeps a first commit from having a version refuses it
pub RootRefused-text : (objects : Objects) (id : Id) (root : Link) (f : IdentityFault) → Refused (NoVersion objects root) f → Refused (RootRefused objects id root) f
RootRefused-text objects id root f h = Refused-map (NoVersion objects root) (RootRefused objects id root) (RootRefused-no_version objects id root) f h

-- so does a text that is no version
pub RootRefused-reading : (objects : Objects) (id : Id) (root : Link) (text : List ℕ) (f : IdentityFault) → text_in objects root.tree ≡ Some text
    → ReadingAnswers root.name text (Err f) → Refused (RootRefused objects id root) f
RootRefused-reading objects id root text f is h =
    Refused-map (NoVersion objects root) (RootRefused objects id root) (RootRefused-no_version objects id root) f (NoVersion-reading objects root text f is h)

-- the text of a commit that is held
pub version_text_at-held : (objects : Objects) (link : Link) (parents : List Name) → IsLink objects link parents → version_text_at objects link.name ≡ text_in objects link.tree
version_text_at-held objects link parents is =
    ap (option_and_then (λ (commit : Commit). text_in objects commit.tree)) is.held ∙ ap (text_in objects) (sym is.tree)

-- a commit that is held has the version that stands in its tree
pub HasVersion-held : (objects : Objects) (link : Link) (parents : List Name) (text : List ℕ) (version : Version) → IsLink objects link parents
    → VersionIn objects link text version → HasVersion objects link.name version
HasVersion-held objects link parents text version is has = record {
  is = ap (option_and_then version_of) (version_text_at-held objects link parents is ∙ has.holds) ∙ has.reads;
  no_keys = has.no_keys;
}

-- and lacks it where that is kept from standing there
pub HasNoVersion-held : (objects : Objects) (link : Link) (parents : List Name) (f : IdentityFault) → IsLink objects link parents → NoVersion objects link f
    → HasNoVersion objects link.name f
HasNoVersion-held objects link parents f is h = each f h
  where
    needs : (n : Name) → TreeNeeds objects link.tree n → Needs objects link.name n
    needs n h = inr (is.commit, is.held, subst (λ (tree : Name). TreeNeeds objects tree n) is.tree h)

    each : (f : IdentityFault) → NoVersion objects link f → HasNoVersion objects link.name f
    each fault.Memory h = absurd h
    each fault.Disk h = absurd h
    each (fault.Missing n) h = (needs n h.0, h.1)
    each (fault.Damaged n) h = (needs n h.0, h.1)
    each (fault.NotCommit n) h = absurd h
    each (fault.BadVersion n) h = (h.0, is.commit, is.held, subst (IsBad objects) is.tree h.1)
    each (fault.KeysPresent n) h = (h.0, h.1, ap (option_and_then version_of) (version_text_at-held objects link parents is) ∙ h.2, h.3)
    each (fault.NotLinear n) h = absurd h
    each (fault.WrongId found) h = absurd h
    each (fault.TooLarge count) h = (h.0, h.1, needs h.1 h.2, h.3)

-- ---- faults of reading

-- what keeps a name from being a blob keeps a commit whose tree names it from having a version
pub NoVersion-blob : (objects : Objects) (link : Link) (object : Name) (k : KindFault) → NamesVersion objects link.tree object
    → AnswersAs as_blob objects object (Err k) → Refused (NoVersion objects link) (version_fault link.name k)
NoVersion-blob objects link object k named h = each k h
  where
    each : (k : KindFault) → AnswersAs as_blob objects object (Err k) → Refused (NoVersion objects link) (version_fault link.name k)
    each kind.Memory h = tt
    each kind.Disk h = tt
    each (kind.Missing n) h = rw h.0 (inr named, h.1)
    each (kind.Damaged n) h = rw h.0 (inr named, h.1)
    each (kind.Large n) h = (refl, object, inr named, h.1)
    each (kind.OtherKind n) h = let tree = bind-some version_object (tree_at objects link.tree) object named in (refl, no_blob tree.0 object tree.1 tree.2 h.1)

-- what was judged is the version of a commit of its tree
pub VersionIn-judged : (objects : Objects) (link : Link) (judged : Judged) → judged.tree ≡ link.tree → (is : IsJudged objects judged) → VersionIn objects link is.text judged.version
VersionIn-judged objects link judged same is = record { holds = ap (text_in objects) (sym same) ∙ is.holds; reads = is.reads; no_keys = is.no_keys }
