-- What the versions of a whole walk say of the chain.
use Rattle.std.proofs.Common.{◌<◌, ◌≤◌, ◌-◌, inl, inr, ℕ, zero, suc, List, [], ◌∷◌, length, take, drop, get_or, Contains, refl, sym, ◌∙◌, subst, arith}
use Rattle.std.proofs.lemmas.List.{take_all}
use Rattle.gb_text.specs.declared.id.Id.{Id}
use Rattle.gb_text.specs.declared.id.Name.{Name}
use Rattle.object_store.specs.Held.{Objects}
use Rattle.commit_walk.specs.Chain.{IsLink, Chain, Walked, Meets}
use Rattle.commit_walk.specs.declared.chain.Link.{Link}
use Rattle.commit_walk.proofs.ChainPassLemmas.{Linked-walked, meets_first, met_at, walk_passes}
use Rattle.identity.specs.Commits.{HasVersion}
use Rattle.identity.specs.Persons.{BeginsWith, IsChain, SomeHasNoVersion, IdentityFaultHolds}
use Rattle.identity.specs.Faults.{Refused}
use Rattle.identity.specs.Answers.{VersionIn, NoVersion, RootRefused, Leads, OneRefused, Checked, CheckRefused, HasChain}
use Rattle.identity.specs.declared.version.Version.{Version}
use Rattle.identity.specs.declared.fault.IdentityFault.{IdentityFault}
use Rattle.identity.specs.declared.fault.IdentityFault.TheVariants as fault
use Rattle.identity.proofs.CommitLemmas.{Refused-map, HasVersion-held, HasNoVersion-held, version_text_at-held}

-- ---- what is wrong

-- a commit without a version is a fault of the chain
IdentityFaultHolds-some : (objects : Objects) (id : Id) (head : Name) (f : IdentityFault) → SomeHasNoVersion objects head f → IdentityFaultHolds objects id head f
IdentityFaultHolds-some objects id head fault.Memory h = h
IdentityFaultHolds-some objects id head fault.Disk h = h
IdentityFaultHolds-some objects id head (fault.Missing n) h = h
IdentityFaultHolds-some objects id head (fault.Damaged n) h = h
IdentityFaultHolds-some objects id head (fault.NotCommit n) h = h
IdentityFaultHolds-some objects id head (fault.BadVersion n) h = h
IdentityFaultHolds-some objects id head (fault.KeysPresent n) h = h
IdentityFaultHolds-some objects id head (fault.NotLinear n) h = absurd h.2
IdentityFaultHolds-some objects id head (fault.WrongId found) h = absurd h.2
IdentityFaultHolds-some objects id head (fault.TooLarge count) h = inr h

-- the walk begins with the text of its first version
BeginsWith-root : (objects : Objects) (head : Name) (root : Link) (above : List Link) (text : List ℕ) (version : Version) → Walked objects head (root ∷ above)
    → length (root ∷ above) ≤ 65536 → VersionIn objects root text version → BeginsWith objects head text
BeginsWith-root objects head root above text version walked within has = record {
  root = root.name;
  commit = walked.1.commit;
  meets = record { meets = meets_first objects head root above (Linked-walked objects head (root ∷ above) walked) (omega (arith, within)); held = walked.1.held };
  no_parents = sym walked.1.parents;
  holds = version_text_at-held objects root [] walked.1 ∙ has.holds;
  version = version;
  reads = has.reads;
}

-- a commit of the walk that has no version is a fault of the chain
IdentityFaultHolds-one : (objects : Objects) (id : Id) (head : Name) (walk : List Link) (link : Link) (f : IdentityFault) → Walked objects head walk → length walk ≤ 65536
    → Contains walk link → NoVersion objects link f → IdentityFaultHolds objects id head f
IdentityFaultHolds-one objects id head walk link f walked within has none =
    let at = met_at objects head walk link walked within has in
    IdentityFaultHolds-some objects id head f (link.name, at.0, HasNoVersion-held objects link at.1.0 f at.1.1 none)

IdentityFaultHolds-root : (objects : Objects) (id : Id) (head : Name) (root : Link) (above : List Link) (f : IdentityFault) → Walked objects head (root ∷ above)
    → length (root ∷ above) ≤ 65536 → RootRefused objects id root f → IdentityFaultHolds objects id head f
IdentityFaultHolds-root objects id head root above f walked within h = each f h
  where
    one : (f : IdentityFault) → NoVersion objects root f → IdentityFaultHolds objects id head f
    one f none = IdentityFaultHolds-one objects id head (root ∷ above) root f walked within (zero, omega arith, refl) none

    each : (f : IdentityFault) → RootRefused objects id root f → IdentityFaultHolds objects id head f
    each fault.Memory h = absurd h
    each fault.Disk h = absurd h
    each (fault.Missing n) h = one (fault.Missing n) h
    each (fault.Damaged n) h = one (fault.Damaged n) h
    each (fault.NotCommit n) h = absurd h
    each (fault.BadVersion n) h = one (fault.BadVersion n) h
    each (fault.KeysPresent n) h = one (fault.KeysPresent n) h
    each (fault.NotLinear n) h = absurd h
    each (fault.WrongId found) h = (h.text, BeginsWith-root objects head root above h.text h.version walked within h.is, h.found_is, h.other)
    each (fault.TooLarge count) h = one (fault.TooLarge count) h

-- what is wrong with the commits of a whole walk is wrong with the chain
IdentityFaultHolds-check : (objects : Objects) (id : Id) (head : Name) (walk : List Link) (f : IdentityFault) → Walked objects head walk → length walk ≤ 65536
    → CheckRefused objects id walk f → IdentityFaultHolds objects id head f
IdentityFaultHolds-check objects id head [] f walked within h = absurd walked
IdentityFaultHolds-check objects id head (root ∷ above) f walked within (inl h) = IdentityFaultHolds-root objects id head root above f walked within h
IdentityFaultHolds-check objects id head (root ∷ above) f walked within (inr h) =
    IdentityFaultHolds-one objects id head (root ∷ above) h.0 f walked within (suc h.1.0, omega (arith, h.1.1), h.1.2) h.2

-- what is wrong with the commits of a whole walk is a refusal of the chain
pub WholeRefused : (objects : Objects) (id : Id) (head : Name) (walk : List Link) (f : IdentityFault) → Walked objects head walk → length walk ≤ 65536
    → Refused (CheckRefused objects id walk) f → Refused (IdentityFaultHolds objects id head) f
WholeRefused objects id head walk f walked within h =
    Refused-map (CheckRefused objects id walk) (IdentityFaultHolds objects id head) (λ f h. IdentityFaultHolds-check objects id head walk f walked within h) f h

-- the parts of what is wrong with some commits
pub CheckRefused-first : (objects : Objects) (id : Id) (walk : List Link) (d : Link) (f : IdentityFault) → 1 ≤ length walk → Refused (RootRefused objects id (get_or walk 0 d)) f
    → Refused (CheckRefused objects id walk) f
CheckRefused-first objects id [] d f some h = absurd (omega (arith, some))
CheckRefused-first objects id (root ∷ later) d f some h = Refused-map (RootRefused objects id root) (CheckRefused objects id (root ∷ later)) (λ f h. inl h) f h

-- what is wrong with a later commit is wrong with them all
pub CheckRefused-later : (objects : Objects) (id : Id) (walk : List Link) (f : IdentityFault) → 1 ≤ length walk
    → Refused (OneRefused objects (take (length walk - 1) (drop 1 walk))) f → Refused (CheckRefused objects id walk) f
CheckRefused-later objects id [] f some h = absurd (omega (arith, some))
CheckRefused-later objects id (root ∷ later) f some h =
    Refused-map (OneRefused objects later) (CheckRefused objects id (root ∷ later)) (λ f h. inr h) f
    (subst (λ (ms : List Link). Refused (OneRefused objects ms) f) (take_all (length (root ∷ later) - 1) later (omega arith)) h)

-- ---- a chain

-- a version that stands in the tree of a commit
record HasSome (objects : Objects) (link : Link) : Type 0 where
  text : List ℕ
  version : Version
  is : VersionIn objects link text version

Leads-at : (objects : Objects) (first last : Version) (links : List Link) (k : ℕ) (d : Link) → k < length links → Leads objects first links last → HasSome objects (get_or links k d)
Leads-at objects first last [] k d lt leads = absurd (omega (arith, lt))
Leads-at objects first last (link ∷ links) zero d lt leads = record { text = leads.1.0; version = leads.0; is = leads.1.1 }
Leads-at objects first last (link ∷ links) (suc k) d lt leads = Leads-at objects leads.0 last links k d (omega (arith, lt)) leads.2

-- each of the checked commits has a version
Checked-at : (objects : Objects) (id : Id) (walk : List Link) (last : Version) (k : ℕ) (d : Link) → k < length walk → Checked objects id walk last → HasSome objects (get_or walk k d)
Checked-at objects id [] last k d lt checked = absurd checked
Checked-at objects id (root ∷ later) last zero d lt checked = record { text = checked.1.text; version = checked.0; is = checked.1.is }
Checked-at objects id (root ∷ later) last (suc k) d lt checked = Leads-at objects checked.0 last later k d (omega (arith, lt)) checked.2

-- the last of the versions is that of the head
Leads-head : (objects : Objects) (head : Name) (link : Link) (parents : List Name) (above : List Link) (text : List ℕ) (first last : Version) → Chain objects head above link.name
    → IsLink objects link parents → VersionIn objects link text first → Leads objects first above last → HasVersion objects head last
Leads-head objects head link parents [] text first last chain is has leads =
    let here : HasVersion objects link.name first = HasVersion-held objects link parents text first is has in
    subst (λ (n : Name). HasVersion objects n last) chain (subst (HasVersion objects link.name) (sym leads) here)
Leads-head objects head link parents (m ∷ above) text first last chain is has leads =
    Leads-head objects head m (link.name ∷ []) above leads.1.0 leads.0 last chain.0 chain.1 leads.1.1 leads.2

-- the checked commits of a whole walk are a chain
pub HasChain-checked : (objects : Objects) (id : Id) (head : Name) (walk : List Link) (last : Version) → Walked objects head walk → length walk ≤ 65536
    → Checked objects id walk last → HasChain objects id head walk last
HasChain-checked objects id head [] last walked within checked = absurd checked
HasChain-checked objects id head (root ∷ above) last walked within checked = record { chain = chain; walks = refl; last_is = last_is }
  where
    first : VersionIn objects root checked.1.text checked.0
    first = checked.1.is

    at_name : (name : Name) → Meets objects head name → (version : Version) × HasVersion objects name version
    at_name name meets =
        let passes = walk_passes objects head name (root ∷ above) walked meets in
        let some = Checked-at objects id (root ∷ above) last passes.at.0 passes.link passes.at.1 checked in
        let at = met_at objects head (root ∷ above) passes.link walked within passes.at in
        let here : VersionIn objects passes.link some.text some.version = subst (λ (m : Link). VersionIn objects m some.text some.version) passes.at.2 some.is in
        (some.version, subst (λ (n : Name). HasVersion objects n some.version) passes.is (HasVersion-held objects passes.link at.1.0 some.text some.version at.1.1 here))

    chain : IsChain objects id head
    chain = record {
      walk = root ∷ above;
      walked = walked;
      within = within;
      each = at_name;
      text = checked.1.text;
      begins = BeginsWith-root objects head root above checked.1.text checked.0 walked within first;
      is_id = checked.1.is_id;
    }

    last_is : HasVersion objects head last
    last_is = Leads-head objects head root [] above checked.1.text checked.0 last walked.0 walked.1 first checked.2
