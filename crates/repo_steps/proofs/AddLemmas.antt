-- A version that is added to an identity, by its writes alone.
use Rattle.std.proofs.Common.{◌≡◌, ◌<◌, ℕ, List, [], ◌∷◌, ◌++◌, length, reverse, Option, Some, None, inr, refl, sym, ◌∙◌, ap, subst, arith}
use Rattle.std.proofs.lemmas.List.{reverse-append}
use Rattle.std.proofs.lemmas.Str.{IsUtf8-from_is_utf8}
use Rattle.repo_steps.proofs.Names.{encode_lower, Id, Name, Line, Title, History, files_of, Wrote, Change, Wrote-one, Wrote-then, Wrote-wider, Objects, objects_in, MayBePut, missing_writes, PutsAfterNeeds, IsName-object_name, Head, ref_write, set_ref_reads, IsChain, head_at, ref_place, Env, objects-ref_write, ref-not_object, new_made, new_objects, new_text, version_writes, IsWrite, an_object, ref_to, OnlyChanges, new_version}
use Rattle.identity.specs.Extending.{Extends}
use Rattle.identity.specs.Making.{HasParent, after_version, commit_object}
use Rattle.identity.specs.Version.{MayBeWritten, version_id}
use Rattle.identity.specs.declared.making.Made.{Made}
use Rattle.identity.proofs.MadeLemmas.{head_held, made_below, made_extends, made_needed}
use Rattle.repo_state.specs.declared.side.Side.TheVariants as side
use Rattle.bug_edits.specs.NewOps.{nonce_from}
use Rattle.bug_edits.proofs.RuleLemmas.{is_within}
use Rattle.repo_writes.specs.Kinds.{IsBelow, an_identity_head}
use Rattle.repo_steps.proofs.OnlyLemmas.{AddsObject, OnlyChanges-objects, OnlyChanges-put, OnlyChanges-then, head_kept}

-- a version begins the identity, or goes on with its chain from the head, which has room for one more
abbrev pub MayExtend : Objects → List ℕ → Id → Option Name → Type 0
MayExtend objects text id None = id ≡ version_id text
MayExtend objects text id (Some head) = (chain : IsChain objects id head) × (length chain.walk < 65536)

has_parent : (objects : Objects) (text : List ℕ) (id : Id) (parent : Option Name) → MayExtend objects text id parent → HasParent objects parent
has_parent objects text id None may = tt
has_parent objects text id (Some head) may = head_held objects id head may.0

-- the version of a title and a line may be written at each moment
may_write : (env : Env) (name : Title) (email : Line) → MayBeWritten name.text email.text (nonce_from env.moment.seed) env.moment.now
may_write env name email = record {
  name_utf8 = IsUtf8-from_is_utf8 name.text name.utf8;
  email_utf8 = IsUtf8-from_is_utf8 email.text email.utf8;
  title = name.is_title;
  line = email.is_line;
  is_nonce = (is_within env.moment 0 (omega arith)).nonce;
  moment = omega (arith, env.moment.within);
}

module _ (env : Env) (name : Title) (email : Line) (id : Id) (old : History) where
  abbrev may : MayBeWritten name.text email.text (nonce_from env.moment.seed) env.moment.now
  may = may_write env name email

  abbrev held : Objects
  held = objects_in (files_of old) env.folder

  module _ (parent : Option Name) (free : MayBePut env.folder (new_objects env name email parent) old) (extends : MayExtend held (new_text env name email) id parent) where
    abbrev objects : List (List ℕ)
    objects = new_objects env name email parent

    abbrev made : Made
    made = new_made env name email parent

    abbrev write : Change
    write = ref_write env.folder (ref_place side.Identities id) made.head

    -- the objects stand
    abbrev mid : History
    mid = after_version env.folder (new_text env name email) parent env.moment.now old

    -- and the head is set
    abbrev pub after_add : History
    after_add = write ∷ mid

    has : HasParent held parent
    has = has_parent held (new_text env name email) id parent extends

    needed : Wrote (PutsAfterNeeds env.folder objects) old mid
    needed = made_needed env.folder name.text email.text (nonce_from env.moment.seed) env.moment.now parent old may has free

    mid_extends : Extends held (objects_in (files_of mid) env.folder) parent (new_version env name email) made
    mid_extends = made_extends env.folder name.text email.text (nonce_from env.moment.seed) env.moment.now parent old may has free

    mid_only : OnlyChanges env.folder [] (files_of old) (files_of mid)
    mid_only = OnlyChanges-objects env.folder old mid
        (Wrote-wider (PutsAfterNeeds env.folder objects) (AddsObject env.folder) old mid (λ files change puts. (puts.text, puts.free, puts.write)) needed)

    same : objects_in (files_of after_add) env.folder ≡ objects_in (files_of mid) env.folder
    same = objects-ref_write (files_of mid) env.folder side.Identities id made.head

    -- the head reads
    pub added_head : head_at (files_of after_add) env.folder side.Identities id ≡ Head made.head
    added_head = set_ref_reads (files_of mid) env.folder (ref_place side.Identities id) made.head (IsName-object_name (commit_object (new_text env name email) parent env.moment.now))

    -- its chain is the old one and this version
    pub added_extends : Extends held (objects_in (files_of after_add) env.folder) parent (new_version env name email) made
    added_extends = subst (λ (o : Objects). Extends held o parent (new_version env name email) made) (sym same) mid_extends

    -- nothing else is changed
    pub added_only : OnlyChanges env.folder (ref_place side.Identities id ∷ []) (files_of old) (files_of after_add)
    added_only = OnlyChanges-then env.folder [] (ref_place side.Identities id ∷ []) (files_of old) (files_of mid) (files_of after_add) mid_only
        (OnlyChanges-put env.folder (ref_place side.Identities id) (encode_lower made.head.bytes ++ 10 ∷ []) (files_of mid) (ref-not_object env.folder side.Identities id))

    -- these are the writes
    pub added_writes : after_add ≡ reverse (version_writes env name email id parent (files_of old)) ++ old
    added_writes = sym (ap (λ (ws : List Change). ws ++ old) (reverse-append (missing_writes env.folder objects (files_of old)) (write ∷ [])))

    -- the new head has a chain without a fault
    mid_chain : IsChain (objects_in (files_of mid) env.folder) id made.head
    mid_chain = each parent extends mid_extends
      where
        each : (p : Option Name) → MayExtend held (new_text env name email) id p
            → Extends held (objects_in (files_of mid) env.folder) p (new_version env name email) made → IsChain (objects_in (files_of mid) env.folder) id made.head
        each None may_extend extended = subst (λ (i : Id). IsChain (objects_in (files_of mid) env.folder) i made.head) (sym may_extend) extended.chain
        each (Some head) may_extend extended = (extended id may_extend.0 may_extend.1).chain

    -- each write is of its kind
    pub added_wrote : head_at (files_of old) env.folder side.Identities id ≡ ref_to parent → IsBelow (objects_in (files_of mid) env.folder) parent made.head
        → Wrote (IsWrite env.folder) old after_add
    added_wrote present below = Wrote-then (IsWrite env.folder) old mid after_add
        (Wrote-wider (PutsAfterNeeds env.folder objects) (IsWrite env.folder) old mid (λ files change puts. an_object (record { texts = objects; puts = puts })) needed)
        (Wrote-one (IsWrite env.folder) write mid after_add
        (an_identity_head (record {
          id = id;
          head = made.head;
          is_name = IsName-object_name (commit_object (new_text env name email) parent env.moment.now);
          present = parent;
          is_present = head_kept env.folder (files_of old) (files_of mid) mid_only side.Identities id ∙ present;
          below = below;
          chain = mid_chain;
          write = refl;
        })) (inr refl))

  -- the parent is below the head
  pub added_below : (head : Name) → MayBePut env.folder (new_objects env name email (Some head)) old → MayExtend held (new_text env name email) id (Some head)
      → IsBelow (objects_in (files_of (after_version env.folder (new_text env name email) (Some head) env.moment.now old)) env.folder) (Some head) (new_made env name email (Some head)).head
  added_below head free extends = made_below env.folder name.text email.text (nonce_from env.moment.seed) env.moment.now head old may (head_held held id head extends.0) free
